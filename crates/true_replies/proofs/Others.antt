-- The events other than a step and a delivery keep the invariant.
use Rattle.std.proofs.Common.{◌≡◌, ◌⊎◌, ℕ, suc, zero, ◌+◌, ◌-◌, ◌*◌, ◌<◌, ◌≤◌, List, ◌∷◌, Bool, true, false, cond, refl, sym, ◌∙◌, ap, subst, inl, inr, arith, max, Option, Some, None}
use Rattle.std.proofs.lemmas.Bool.Decides.{nat_tests}
use Rattle.std.specs.Prelude.{◌||◌, ◌&&◌, ◌==◌, not, IsSomeAnd, IfSome}
use Rattle.lemmas.proofs.Bools.{or_false_right}
use Rattle.message.specs.declared.endpoint.Endpoint.{Endpoint}
use Rattle.message.specs.declared.BlockRequest.{BlockRequest}
use Rattle.message.specs.declared.BlockReply.{BlockReply}
use Rattle.records.specs.Marks.{Mark, Issued, Started}
use Rattle.records.specs.Open.{MayFollow, open_requests, IsIn}
use Rattle.records.specs.Disk.{unsure, covers, Contents}
use Rattle.message.specs.Good.{is_write}
use Rattle.media.specs.Contents.{MediaState, written, adopted, accepts}
use Rattle.media.proofs.WrittenLaws.{generation-written}
use Rattle.bdev.specs.declared.Run.{Run}
use Rattle.bdev.specs.declared.Accept.{Accept}
use Rattle.bdev.specs.declared.Accept.TheVariants.{Taken, Busy, Old}
use Rattle.bdev.specs.declared.Step.{Step}
use Rattle.bdev.specs.declared.Step.TheVariants.{Working, Idle, Done, Failed}
use Rattle.bdev.specs.DriverState.{DriverState, Work, Ranges, range_of, plan, range_while_fresh}
use Rattle.bdev.specs.Promises.{requests_in_work, IsDriver, IsOfAWrite, StepKeeps, StepsAt, AcceptKeeps, Takes, MovesAtMostOne}
use Rattle.records.specs.Opening.{Opening, Fits}
use Rattle.true_replies.specs.State.{State, Place, Moved, WorkHolds, AnyWorkHolds, ReplyHolds, Invariant, payload}
use Rattle.true_replies.specs.Posted.{IsSent, driver_at, started_at, since_start}
use Rattle.true_replies.specs.Events.{sent_after, reply_of, stepped_older, handed, torn, dead, replaced, issued, repeated}
use Rattle.records.proofs.OpenRequests.{two_open, open_after_issue, OpenAfterIssue, in_push}
use Rattle.true_replies.proofs.Since.{since_below}
use Rattle.true_replies.proofs.Places.{Planned, planned, misses_place, moved_elsewhere, written_media, written_outside}
use Rattle.true_replies.proofs.Stepping.{sent_push}

-- the media accept nothing of an older generation
not_accepted : (m : MediaState) (g n : ℕ) → g < m.generation → accepts m g n ≡ true → ⊥
not_accepted m g n less e = let same : g ≡ m.generation = grind (arith, nat_tests) in absurd (omega (arith, less, same))

-- an older driver moves nothing
revoked : (b a : DriverState) (o : Option Work) (disk media : MediaState) (g : ℕ) (step : Step) → g < disk.generation
    → StepsAt b o disk g step a media → media ≡ disk
revoked b a None disk media g step less s = s.0
revoked b a (Some w) disk media g step less s = at s.1 where
  at : MovesAtMostOne b w disk g s.0 media → media ≡ disk
  at (inl m) = m.same_media
  at (inr m) = absurd (not_accepted disk g (m.run.first + m.number) less m.accepted)

older_sent : (g : ℕ) (step : Step) (a : BlockReply) (sent : List BlockReply) → IsSent a (sent_after g step sent) → IsSent a sent ⊎ (a.from ≡ driver_at g)
older_sent g Working a sent i = inl i
older_sent g Idle a sent i = inl i
older_sent g Failed a sent i = inl i
older_sent g (Done answer) a sent i = elim (sent_push a (reply_of g answer) sent i) [
  | inl j ↦ inl j
  | inr e ↦ inr (ap (λ (b : BlockReply). b.from) e)
]

pub older_keeps : (v : Opening) (image : Contents) (given : MediaState) (x : State) (g : ℕ) (b a : DriverState) (step : Step) (media : MediaState)
    → Invariant v image given x → g < x.media.generation → StepKeeps b x.media g step a media
    → Invariant v image given (stepped_older x g step media)
older_keeps v image given x g b a step media inv less k =
    let is : media ≡ x.media = revoked b a b.work x.media media g step less k.steps in
    let result : Invariant v image given (stepped_older x g step x.media) = record {
      well_formed = inv.well_formed;
      started = inv.started;
      range = inv.range;
      media = inv.media;
      outside = inv.outside;
      true_replies = inv.true_replies;
      driver = inv.driver;
      last = inv.last;
      fits = inv.fits;
      posts = inv.posts;
      line = inv.line;
      work = inv.work;
      older = λ r i. elim (older_sent g step r x.sent i) [
        | inl j ↦ inv.older r j
        | inr e ↦ let h : r.from.generation ≡ g = ap (λ (d : Endpoint). d.generation) e in omega (arith, h, less)
      ];
      sent = λ r i from. elim (older_sent g step r x.sent i) [
        | inl j ↦ inv.sent r j from
        | inr e ↦ let h : x.media.generation ≡ g = ap (λ (d : Endpoint). d.generation) (sym from ∙ e) in absurd (omega (arith, h, less))
      ];
    } in
    subst (λ (d : MediaState). Invariant v image given (stepped_older x g step d)) (sym is) result

-- a driver is handed the front of its line
some_work : (v : Opening) (media : MediaState) (marks : List Mark) (last : ℕ) (q : BlockRequest) (o : Option Work)
    → IsSomeAnd o (λ (w : Work). (w.request ≡ q) × ((k : ℕ) → w.moved k ≡ false)) → IsIn q (open_requests marks) → q.id ≡ last
    → AnyWorkHolds v media marks last o
some_work v media marks last q None h i e = absurd h
some_work v media marks last q (Some w) h i e = record {
  opened = subst (λ (r : BlockRequest). IsIn r (open_requests marks)) (sym h.0) i;
  id = ap (λ (r : BlockRequest). r.id) h.0 ∙ e;
  moved = λ j is. absurd (let f : w.moved j ≡ false = h.1 j in let t : w.moved j ≡ true = is in cc);
}

in_work_few : (o : Option Work) → requests_in_work o ≤ 1
in_work_few None = omega arith
in_work_few (Some w) = omega arith

pub handed_keeps : (v : Opening) (image : Contents) (given : MediaState) (x : State) (result : Accept) (q : BlockRequest) (rest : List BlockRequest) (a : DriverState)
    → Invariant v image given x → x.line ≡ q ∷ rest → AcceptKeeps x.current q result a → IsDriver a
    → Invariant v image given (handed x result q rest a)
handed_keeps v image given x Taken q rest a inv is k driver =
    let t : Takes x.current q a = k.2 in
    let front : IsIn q x.line = subst (λ (l : List BlockRequest). IsIn q l) (sym is) (inl refl) in
    let less : x.current.last < q.id = k.1 in
    let last : a.last ≡ q.id = t.last in
    record {
      well_formed = inv.well_formed;
      started = inv.started;
      range = λ l. ap (λ (r : Ranges). range_of r v.minor) t.same_ranges ∙ inv.range l;
      media = inv.media;
      outside = inv.outside;
      true_replies = inv.true_replies;
      driver = driver;
      last = omega (arith, t.last, since_below x.marks q (inv.line q front));
      fits = inv.fits;
      posts = λ p i. record { opened = λ l. (inv.posts p i).opened (omega (arith, l, less, last)) };
      line = λ p i. inv.line p (subst (λ (l : List BlockRequest). IsIn p l) (sym is) (inr i));
      work = λ l. some_work v x.media x.marks a.last q a.work t.work ((inv.posts q (inv.line q front)).opened less) (sym last);
      older = inv.older;
      sent = λ r i from.
          let old : ReplyHolds v x.media x.marks x.current r = inv.sent r i from in
          record { ended = omega (arith, old.ended, less, last, in_work_few a.work); answer = old.answer };
    }
handed_keeps v image given x Busy q rest a inv is k driver =
    let same : handed x Busy q rest a ≡ x =
    ap (λ (m : DriverState). record x { current = m; line = q ∷ rest }) k.1 ∙ ap (λ (l : List BlockRequest). record x { line = l }) (sym is) in
    subst (λ (y : State). Invariant v image given y) (sym same) inv
handed_keeps v image given x Old q rest a inv is k driver =
    let result : Invariant v image given (handed x Old q rest x.current) = record {
      well_formed = inv.well_formed;
      started = inv.started;
      range = inv.range;
      media = inv.media;
      outside = inv.outside;
      true_replies = inv.true_replies;
      driver = inv.driver;
      last = inv.last;
      fits = inv.fits;
      posts = inv.posts;
      line = λ p i. inv.line p (subst (λ (l : List BlockRequest). IsIn p l) (sym is) (inr i));
      work = inv.work;
      older = inv.older;
      sent = inv.sent;
    } in
    subst (λ (m : DriverState). Invariant v image given (handed x Old q rest m)) (sym k.2) result

-- a driver dies
pub dead_keeps : (v : Opening) (image : Contents) (given : MediaState) (x : State) → Invariant v image given x → Invariant v image given (dead x)
dead_keeps v image given x inv = record {
  well_formed = inv.well_formed;
  started = inv.started;
  range = λ l. absurd (never l);
  media = inv.media;
  outside = inv.outside;
  true_replies = inv.true_replies;
  driver = inv.driver;
  last = inv.last;
  fits = inv.fits;
  posts = inv.posts;
  line = inv.line;
  work = λ l. absurd (never l);
  older = inv.older;
  sent = inv.sent;
} where
  never : false ≡ true → ⊥
  never e = cc

-- a sector that the driver names is one of an open write
record Names (v : Opening) (x : State) (s : ℕ) : Type 0 where
  w : Work
  is : x.current.work ≡ Some w
  holds : WorkHolds v x.media x.marks x.current.last w
  write : is_write w.request.kind ≡ true
  j : ℕ
  place : Place v w.request j
  at : s ≡ v.first + place.at

names : (v : Opening) (image : Contents) (given : MediaState) (x : State) (s : ℕ) (o : Option Work) → Invariant v image given x
    → range_of x.current.ranges v.minor ≡ Some (v.first, v.count) → x.current.work ≡ o
    → AnyWorkHolds v x.media x.marks x.current.last o → IsOfAWrite x.current.ranges o s → Names v x s
names v image given x s None inv range is h n = absurd n
names v image given x s (Some w) inv range is h n = at (plan x.current.ranges w.request) refl n.1 where
  at : (o : Option Run) → plan x.current.ranges w.request ≡ o → IsSomeAnd o (λ (r : Run). (r.first ≤ s) × (s < r.first + r.count)) → Names v x s
  at None e b = absurd b
  at (Some run) e b =
      let p : Planned v w.request run (s - run.first) =
      planned v x.current.ranges w.request run (s - run.first) range (inv.fits w.request h.opened).minor_is e (omega (arith, b.0, b.1)) in
      record { w = w; is = is; holds = h; write = ap is_write n.0; j = s - run.first; place = p.place; at = omega (arith, b.0, p.at) }

named : (ranges : Ranges) (work : Option Work) (o : Option ℕ) (s : ℕ) → o ≡ Some s → IfSome o (λ s. IsOfAWrite ranges work s) → IsOfAWrite ranges work s
named ranges work o s e h = let P : Option ℕ → Type 0 = λ o. IfSome o (λ s. IsOfAWrite ranges work s) in subst P e h

torn_at : (v : Opening) (image : Contents) (given : MediaState) (x : State) (g s : ℕ) (bytes : List ℕ) → Invariant v image given x → Names v x s
    → Invariant v image given (torn x g s bytes)
torn_at v image given x g s bytes inv n =
    let there : MediaState = written x.media g (v.first + n.place.at) bytes in
    let generation : there.generation ≡ x.media.generation = generation-written x.media g (v.first + n.place.at) bytes in
    let result : Invariant v image given (torn x g (v.first + n.place.at) bytes) = record {
      well_formed = inv.well_formed;
      started = inv.started ∙ ap started_at (sym generation);
      range = λ l. absurd (never l);
      media = written_media v image x.media x.marks n.w.request n.j g bytes inv.well_formed n.holds.opened n.write n.place inv.media;
      outside = written_outside v given x.media n.w.request n.j g bytes n.place inv.outside;
      true_replies = inv.true_replies;
      driver = inv.driver;
      last = inv.last;
      fits = inv.fits;
      posts = inv.posts;
      line = inv.line;
      work = λ l. absurd (never l);
      older = λ r i. omega (arith, inv.older r i, generation);
      sent = λ r i from.
          let old : ReplyHolds v x.media x.marks x.current r = inv.sent r i (from ∙ ap driver_at generation) in
          let ended : r.id + 1 ≤ x.current.last = subst (λ (o : Option Work). r.id + requests_in_work o ≤ x.current.last) n.is old.ended in
          record {
            ended = old.ended;
            answer = λ q j same. record {
              each = λ k good i less.
                  let m : Moved v x.media q (payload q.kind q.bytes r.bytes) i = (old.answer q j same).each k good i less in
                  moved_elsewhere v x.media q (payload q.kind q.bytes r.bytes) i g n.place.at bytes m
                  (elim (two_open x.marks inv.well_formed q n.w.request j n.holds.opened) [
                    | inl is ↦ let e : q.id ≡ n.w.request.id = ap (λ (b : BlockRequest). b.id) is in absurd (omega (arith, e, same, ended, n.holds.id))
                    | inr misses ↦ misses_place v q n.w.request i n.j misses m.place n.place
                  ]);
            };
          };
    } in
    subst (λ (t : ℕ). Invariant v image given (torn x g t bytes)) (sym n.at) result where
      never : false ≡ true → ⊥
      never e = cc

pub torn_keeps : (v : Opening) (image : Contents) (given : MediaState) (x : State) (g s : ℕ) (bytes : List ℕ) → Invariant v image given x → x.live ≡ true → x.current.in_work ≡ Some s
    → Invariant v image given (torn x g s bytes)
torn_keeps v image given x g s bytes inv live is =
    torn_at v image given x g s bytes inv
    (names v image given x s x.current.work inv (inv.range live) refl (inv.work live)
    (named x.current.ranges x.current.work x.current.in_work s is inv.driver.names_its_own))

-- a generation that was started is above 0
started_some : (g : ℕ) → 0 < g → Some (driver_at g) ≡ started_at g
started_some zero less = absurd (omega arith)
started_some (suc g) less = refl

-- a driver is started
pub fresh_range : (m : DriverState) (minor : ℕ) (r : ℕ × ℕ) → range_while_fresh m minor ≡ Some r → (m.last ≡ 0) × (range_of m.ranges minor ≡ Some r)
fresh_range m minor r e = at (m.last == 0) refl (not m.failed) e where
  at : (b : Bool) → (m.last == 0) ≡ b → (c : Bool) → cond (b && c) (range_of m.ranges minor) None ≡ Some r → (m.last ≡ 0) × (range_of m.ranges minor ≡ Some r)
  at true t true e = (grind (arith, nat_tests), e)
  at true t false e = cc
  at false t c e = cc

pub none_waits : (v : Opening) (media : MediaState) (marks : List Mark) (last : ℕ) (o : Option Work) → requests_in_work o ≤ 0 → AnyWorkHolds v media marks last o
none_waits v media marks last None h = tt
none_waits v media marks last (Some w) h = absurd (omega arith)

pub replaced_keeps : (v : Opening) (image : Contents) (given : MediaState) (x : State) (g : ℕ) (m : DriverState) → Invariant v image given x → x.media.generation < g
    → IsDriver m → range_while_fresh m v.minor ≡ Some (v.first, v.count) → Invariant v image given (replaced x g m)
replaced_keeps v image given x g m inv less driver fresh =
    let top : max x.media.generation g ≡ g = omega (arith, less) in
    let f = fresh_range m v.minor (v.first, v.count) fresh in
    let zero_last : m.last ≡ 0 = f.0 in
    record {
      well_formed = (inv.well_formed, tt);
      started = started_some g (omega (arith, less)) ∙ ap started_at (sym top);
      range = λ l. f.1;
      media = record { each = inv.media.each };
      outside = record { each = inv.outside.each };
      true_replies = inv.true_replies;
      driver = driver;
      last = omega (arith, zero_last);
      fits = inv.fits;
      posts = λ q i. absurd i;
      line = λ q i. absurd i;
      work = λ l. none_waits v (adopted x.media g) (Started (driver_at g) ∷ x.marks) m.last m.work (omega (arith, driver.bad_is_few, zero_last));
      older = λ r i. omega (arith, inv.older r i, top, less);
      sent = λ r i from.
          let h : r.from.generation ≡ max x.media.generation g = ap (λ (d : Endpoint). d.generation) from in
          absurd (omega (arith, inv.older r i, h, top, less));
    }

work_issued : (v : Opening) (media : MediaState) (marks : List Mark) (r : BlockRequest) (to : Endpoint) (last : ℕ) (o : Option Work) → OpenAfterIssue marks r to
    → AnyWorkHolds v media marks last o → AnyWorkHolds v media (Issued r to ∷ marks) last o
work_issued v media marks r to last None a h = tt
work_issued v media marks r to last (Some w) a h = record { opened = a.old w.request h.opened; id = h.id; moved = h.moved }

pub issued_keeps : (v : Opening) (image : Contents) (given : MediaState) (x : State) (r : BlockRequest) (to : Endpoint) → Invariant v image given x
    → MayFollow (Issued r to) x.marks → Fits v r → Invariant v image given (issued x r to)
issued_keeps v image given x r to inv may fits =
    let a : OpenAfterIssue x.marks r to = open_after_issue x.marks r to may.1 in
    record {
      well_formed = (inv.well_formed, may);
      started = inv.started;
      range = inv.range;
      media = record {
        each = λ s o inside less sure. inv.media.each s o inside less
            (or_false_right (is_write r.kind && covers r (512 * s + o)) (unsure x.marks (512 * s + o)) sure);
      };
      outside = inv.outside;
      true_replies = inv.true_replies;
      driver = inv.driver;
      last = omega (arith, inv.last);
      fits = λ q i. elim (a.only q i) [
        | inl j ↦ inv.fits q j
        | inr e ↦ subst (λ (p : BlockRequest). Fits v p) (sym e.0) fits
      ];
      posts = λ q i. elim i [
        | inl e ↦ record { opened = λ l. subst (λ (p : BlockRequest). IsIn p (open_requests (Issued r to ∷ x.marks))) (sym e) a.own }
        | inr j ↦ record { opened = λ l. a.old q ((inv.posts q j).opened l) }
      ];
      line = λ q i. elim (in_push x.line r q i) [ inl j ↦ inr (inv.line q j) | inr e ↦ inl e ];
      work = λ l. work_issued v x.media x.marks r to x.current.last x.current.work a (inv.work l);
      older = inv.older;
      sent = λ b i from.
          let old : ReplyHolds v x.media x.marks x.current b = inv.sent b i from in
          record {
            ended = old.ended;
            answer = λ q j same. elim (a.only q j) [
              | inl k ↦ old.answer q k same
              | inr e ↦ let h : q.id ≡ r.id = ap (λ (p : BlockRequest). p.id) e.0 in absurd (omega (arith, h, e.1, same, old.ended, inv.last))
            ];
          };
    }

pub repeated_keeps : (v : Opening) (image : Contents) (given : MediaState) (x : State) (r : BlockRequest) → Invariant v image given x
    → IsIn r (since_start x.marks) → Invariant v image given (repeated x r)
repeated_keeps v image given x r inv posted = record {
  well_formed = inv.well_formed;
  started = inv.started;
  range = inv.range;
  media = inv.media;
  outside = inv.outside;
  true_replies = inv.true_replies;
  driver = inv.driver;
  last = inv.last;
  fits = inv.fits;
  posts = inv.posts;
  line = λ q i. elim (in_push x.line r q i) [
    | inl j ↦ inv.line q j
    | inr e ↦ subst (λ (p : BlockRequest). IsIn p (since_start x.marks)) (sym e) posted
  ];
  work = inv.work;
  older = inv.older;
  sent = inv.sent;
}
