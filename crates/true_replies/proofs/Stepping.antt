-- A step of the current driver keeps the invariant.
use Rattle.std.proofs.Common.{◌≡◌, ◌⊎◌, ℕ, ◌+◌, ◌*◌, ◌<◌, ◌≤◌, List, [], ◌∷◌, ◌++◌, length, Bool, true, false, refl, sym, ◌∙◌, ap, subst, inl, inr, arith, Option, Some, None, Result, Ok, Err, IsTrue}
use Rattle.std.proofs.lemmas.Bool.{cases_eq}
use Rattle.std.proofs.lemmas.Bool.Decides.{nat_tests}
use Rattle.std.specs.Prelude.{slice_index, ◌||◌, ◌==◌}
use Rattle.errno.specs.declared.Errno.{Errno}
use Rattle.message.specs.declared.Kind.{Kind}
use Rattle.message.specs.declared.Kind.TheVariants.{Read, Write}
use Rattle.message.specs.declared.BlockRequest.{BlockRequest}
use Rattle.message.specs.declared.BlockReply.{BlockReply}
use Rattle.records.specs.Open.{open_requests, IsIn}
use Rattle.records.specs.Disk.{Contents}
use Rattle.message.specs.Good.{is_write, moved}
use Rattle.media.specs.Contents.{MediaState, sector, written, accepts}
use Rattle.media.proofs.WrittenLaws.{accepts-true, sector-written_same, generation-written}
use Rattle.bdev.specs.declared.Run.{Run}
use Rattle.bdev.specs.declared.Answer.{Answer}
use Rattle.bdev.specs.declared.Step.{Step}
use Rattle.bdev.specs.declared.Step.TheVariants.{Working, Idle, Done, Failed}
use Rattle.bdev.specs.DriverState.{DriverState, Work, Ranges, range_of, plan, chunk}
use Rattle.bdev.specs.Promises.{requests_in_work, IsDriver, StepKeeps, StepsAt, Says, SaysIdle, MovesNothing, MovesSector, MovesAtMostOne, MovesBytes, MayAnswer, BearsBytes, EndsBy, GoesOn}
use Rattle.records.specs.Opening.{Opening}
use Rattle.true_replies.specs.State.{State, Moved, WorkHolds, AnyWorkHolds, AnswerHolds, ReplyHolds, MediaHold, OutsideHolds, Invariant, payload}
use Rattle.true_replies.specs.Posted.{IsSent, driver_at, started_at}
use Rattle.true_replies.specs.Events.{stepped, reply_of}
use Rattle.records.proofs.OpenRequests.{one_id, two_open}
use Rattle.records.proofs.Unsure.{moved_is}
use Rattle.true_replies.proofs.Places.{Planned, planned, chunk_at, misses_place, other_place, moved_elsewhere, written_media, written_outside}

was_moved : (a b : Bool) → IsTrue (a || b) → b ≡ false → IsTrue a
was_moved true b h e = refl
was_moved false true h e = cc
was_moved false false h e = h

-- what a step leaves of the media, w being the request in work before it and w' after it
record Went (v : Opening) (image : Contents) (given : MediaState) (x : State) (kind : Kind) (w w' : Work) (media : MediaState) : Type 0 where
  generation : media.generation ≡ x.media.generation
  request : w'.request ≡ w.request
  moves : (j : ℕ) → IsTrue (w'.moved j) → Moved v media w.request (payload kind w.request.bytes w'.got) j
  held : MediaHold v image media x.marks
  outside : OutsideHolds v given media
  others : (r : BlockRequest) (bytes : List ℕ) (k : ℕ) → IsIn r (open_requests x.marks) → (r.id ≡ w.request.id → ⊥)
      → Moved v x.media r bytes k → Moved v media r bytes k

went_nothing : (v : Opening) (image : Contents) (given : MediaState) (x : State) (w w' : Work) (media : MediaState)
    → Invariant v image given x → WorkHolds v x.media x.marks x.current.last w → MovesNothing w x.media w' media
    → Went v image given x w.request.kind w w' media
went_nothing v image given x w w' media inv h m = rw (m.same_work, m.same_media) (record {
  generation = refl;
  request = refl;
  moves = h.moved;
  held = inv.media;
  outside = inv.outside;
  others = λ r bytes k i other moved. moved;
})

went_moves : (v : Opening) (image : Contents) (given : MediaState) (x : State) (kind : Kind) (w w' : Work) (media : MediaState) (run : Run) (j : ℕ)
    → Invariant v image given x → IsIn w.request (open_requests x.marks) → w.request.kind ≡ kind
    → ((j : ℕ) → IsTrue (w.moved j) → Moved v x.media w.request (payload kind w.request.bytes w.got) j)
    → Planned v w.request run j → w'.request ≡ w.request → ((k : ℕ) → w'.moved k ≡ (w.moved k || (k == j)))
    → run.first + j < length x.media.sectors
    → MovesBytes kind w x.media x.media.generation (run.first + j) j w' media
    → Went v image given x kind w w' media
went_moves v image given x Read w w' media run j inv opened kind before p same flags fits mb =
    record {
      generation = ap (λ (d : MediaState). d.generation) mb.0;
      request = same;
      moves = λ k h. elim (cases_eq k j) [
        | inl is ↦ subst (λ (n : ℕ). Moved v media w.request w'.got n) (sym is) (record {
          place = p.place;
          same = λ o less.
              sym (chunk_at j o w'.got less) ∙ ap (λ (l : List ℕ). slice_index l o) (mb.1 ∙ ap (λ (n : ℕ). sector x.media n) p.at)
              ∙ ap (λ (d : MediaState). slice_index (sector d (v.first + p.place.at)) o) (sym mb.0);
        })
        | inr other ↦
            let was : IsTrue (w.moved k) = was_moved (w.moved k) (k == j) (rw (flags k) at h) (grind (arith, nat_tests)) in
            let m : Moved v x.media w.request w.got k = before k was in
            record {
              place = m.place;
              same = λ o less.
                  sym (chunk_at k o w'.got less) ∙ ap (λ (l : List ℕ). slice_index l o) (mb.2 k other) ∙ chunk_at k o w.got less
                  ∙ m.same o less ∙ ap (λ (d : MediaState). slice_index (sector d (v.first + m.place.at)) o) (sym mb.0);
            }
      ];
      held = subst (λ (d : MediaState). MediaHold v image d x.marks) (sym mb.0) inv.media;
      outside = subst (λ (d : MediaState). OutsideHolds v given d) (sym mb.0) inv.outside;
      others = λ r bytes k i other m. subst (λ (d : MediaState). Moved v d r bytes k) (sym mb.0) m;
    }
went_moves v image given x Write w w' media run j inv opened kind before p same flags fits mb =
    let new : List ℕ = chunk j w.request.bytes in
    let there : MediaState = written x.media x.media.generation (v.first + p.place.at) new in
    let is : media ≡ there = mb ∙ ap (λ (n : ℕ). written x.media x.media.generation n new) p.at in
    let write : is_write w.request.kind ≡ true = ap is_write kind in
    let inside : v.first + p.place.at < length x.media.sectors = omega (arith, fits, p.at) in
    let result : Went v image given x Write w w' there = record {
      generation = generation-written x.media x.media.generation (v.first + p.place.at) new;
      request = same;
      moves = λ k h. elim (cases_eq k j) [
        | inl is ↦ subst (λ (n : ℕ). Moved v there w.request w.request.bytes n) (sym is) (record {
          place = p.place;
          same = λ o less.
              sym (chunk_at j o w.request.bytes less)
              ∙ ap (λ (l : List ℕ). slice_index l o) (sym (sector-written_same x.media x.media.generation (v.first + p.place.at) new (accepts-true x.media x.media.generation (v.first + p.place.at) refl inside)));
        })
        | inr other ↦
            let was : IsTrue (w.moved k) = was_moved (w.moved k) (k == j) (rw (flags k) at h) (grind (arith, nat_tests)) in
            let m : Moved v x.media w.request w.request.bytes k = before k was in
            moved_elsewhere v x.media w.request w.request.bytes k x.media.generation p.place.at new m
            (other_place v w.request k j other m.place p.place)
      ];
      held = written_media v image x.media x.marks w.request j x.media.generation new inv.well_formed opened write p.place inv.media;
      outside = written_outside v given x.media w.request j x.media.generation new p.place inv.outside;
      others = λ r bytes k i other m.
          moved_elsewhere v x.media r bytes k x.media.generation p.place.at new m
          (elim (two_open x.marks inv.well_formed r w.request i opened) [
            | inl is ↦ absurd (other (ap (λ (q : BlockRequest). q.id) is))
            | inr misses ↦ misses_place v r w.request k j misses m.place p.place
          ]);
    } in subst (λ (d : MediaState). Went v image given x Write w w' d) (sym is) result

-- what the media accept is a sector of theirs
accepted_inside : (m : MediaState) (g n : ℕ) → accepts m g n ≡ true → n < length m.sectors
accepted_inside m g n e = grind (arith, nat_tests)

went_sector : (v : Opening) (image : Contents) (given : MediaState) (x : State) (w w' : Work) (media : MediaState)
    → Invariant v image given x → range_of x.current.ranges v.minor ≡ Some (v.first, v.count) → WorkHolds v x.media x.marks x.current.last w
    → MovesSector x.current w x.media x.media.generation w' media
    → Went v image given x w.request.kind w w' media
went_sector v image given x w w' media inv range h m =
    went_moves v image given x w.request.kind w w' media m.run m.number inv h.opened refl h.moved
    (planned v x.current.ranges w.request m.run m.number range (inv.fits w.request h.opened).minor_is m.next.plan m.next.within)
    m.same_request m.moved (accepted_inside x.media x.media.generation (m.run.first + m.number) m.accepted) m.bytes

went : (v : Opening) (image : Contents) (given : MediaState) (x : State) (w w' : Work) (media : MediaState)
    → Invariant v image given x → range_of x.current.ranges v.minor ≡ Some (v.first, v.count) → WorkHolds v x.media x.marks x.current.last w
    → MovesAtMostOne x.current w x.media x.media.generation w' media
    → Went v image given x w.request.kind w w' media
went v image given x w w' media inv range h (inl m) = went_nothing v image given x w w' media inv h m
went v image given x w w' media inv range h (inr m) = went_sector v image given x w w' media inv range h m

-- the state after a step, from its parts
pub record Parts (v : Opening) (image : Contents) (given : MediaState) (x : State) (a : DriverState) (media : MediaState) (live : Bool) (replies : List BlockReply) : Type 0 where
  pub ranges : a.ranges ≡ x.current.ranges
  pub last : a.last ≡ x.current.last
  pub generation : media.generation ≡ x.media.generation
  pub held : MediaHold v image media x.marks
  pub outside : OutsideHolds v given media
  pub driver : IsDriver a
  pub work : live ≡ true → AnyWorkHolds v media x.marks a.last a.work
  pub older : (r : BlockReply) → IsSent r replies → r.from.generation ≤ x.media.generation
  pub sent : (r : BlockReply) → IsSent r replies → r.from ≡ driver_at x.media.generation → ReplyHolds v media x.marks a r

pub from_parts : (v : Opening) (image : Contents) (given : MediaState) (x : State) (a : DriverState) (media : MediaState) (live : Bool) (sent : List BlockReply)
    → Invariant v image given x → range_of x.current.ranges v.minor ≡ Some (v.first, v.count) → Parts v image given x a media live sent
    → Invariant v image given (record x { media = media; current = a; live = live; sent = sent })
from_parts v image given x a media live sent inv range p = record {
  well_formed = inv.well_formed;
  started = inv.started ∙ ap started_at (sym p.generation);
  range = λ l. ap (λ (r : Ranges). range_of r v.minor) p.ranges ∙ range;
  media = p.held;
  outside = p.outside;
  true_replies = inv.true_replies;
  driver = p.driver;
  last = omega (arith, p.last, inv.last);
  fits = inv.fits;
  posts = λ q i. record { opened = λ less. (inv.posts q i).opened (omega (arith, less, p.last)) };
  line = inv.line;
  work = p.work;
  older = λ r i. omega (arith, p.older r i, p.generation);
  sent = λ r i from. p.sent r i (from ∙ ap driver_at p.generation);
}

pub sent_push : (a b : BlockReply) (bs : List BlockReply) → IsSent a (bs ++ b ∷ []) → IsSent a bs ⊎ (a ≡ b)
sent_push a b [] (inl e) = inr e
sent_push a b [] (inr i) = absurd i
sent_push a b (c ∷ bs) (inl e) = inl (inl e)
sent_push a b (c ∷ bs) (inr i) = elim (sent_push a b bs i) [ inl h ↦ inl (inr h) | inr h ↦ inr h ]

-- an answer that the current driver gives is true of the media
bears : (v : Opening) (media : MediaState) (kind : Kind) (r : BlockRequest) (got told : List ℕ) (m j : ℕ) → BearsBytes kind got told m → 512 * j < m
    → Moved v media r (payload kind r.bytes got) j → Moved v media r (payload kind r.bytes told) j
bears v media Read r got told m j b less h = record {
  place = h.place;
  same = λ o few. sym (chunk_at j o told few) ∙ ap (λ (l : List ℕ). slice_index l o) (b j less) ∙ chunk_at j o got few ∙ h.same o few;
}
bears v media Write r got told m j b less h = h

answers : (v : Opening) (media : MediaState) (o : Option Run) (w : Work) (outcome : Result ℕ Errno) (told : List ℕ)
    → ((j : ℕ) → IsTrue (w.moved j) → Moved v media w.request (payload w.request.kind w.request.bytes w.got) j)
    → MayAnswer o w outcome told → (n : ℕ) → moved w.request.count outcome ≡ Some n → (j : ℕ) → 512 * j < n
    → Moved v media w.request (payload w.request.kind w.request.bytes told) j
answers v media None w (Ok m) told all may n good j less = cc
answers v media None w (Err e) told all may n good j less = cc
answers v media (Some run) w (Err e) told all may n good j less = cc
answers v media (Some run) w (Ok m) told all may n good j less =
    let is : Ok m ≡ Ok n = moved_is w.request.count n (Ok m) good in
    let same : m ≡ n = cc in
    let fewer : 512 * j < m = omega (arith, less, same) in
    bears v media w.request.kind w.request w.got told m j may.bears fewer (all j (may.moved j fewer))

-- a reply that was sent earlier stays true
reply_stays : (v : Opening) (image : Contents) (given : MediaState) (x : State) (w w' : Work) (media : MediaState) (a : DriverState) (r : BlockReply)
    → Invariant v image given x → x.current.work ≡ Some w → WorkHolds v x.media x.marks x.current.last w
    → Went v image given x w.request.kind w w' media → a.last ≡ x.current.last → requests_in_work a.work ≤ 1
    → ReplyHolds v x.media x.marks x.current r → ReplyHolds v media x.marks a r
reply_stays v image given x w w' media a r inv is h g last one old =
    let ended : r.id + 1 ≤ x.current.last = subst (λ (o : Option Work). r.id + requests_in_work o ≤ x.current.last) is old.ended in
    record {
      ended = omega (arith, ended, last, one);
      answer = λ q i same. record {
        each = λ n good j less.
            g.others q (payload q.kind q.bytes r.bytes) j i (λ e. omega (arith, e, same, ended, h.id))
            ((old.answer q i same).each n good j less);
      };
    }

in_work_one : (o : Option Work) → requests_in_work o ≤ 1
in_work_one None = omega arith
in_work_one (Some w) = omega arith

work_after : (v : Opening) (image : Contents) (given : MediaState) (x : State) (w w' : Work) (media : MediaState)
    → WorkHolds v x.media x.marks x.current.last w → Went v image given x w.request.kind w w' media
    → WorkHolds v media x.marks x.current.last w'
work_after v image given x w w' media h g = record {
  opened = subst (λ (q : BlockRequest). IsIn q (open_requests x.marks)) (sym g.request) h.opened;
  id = ap (λ (q : BlockRequest). q.id) g.request ∙ h.id;
  moved = λ j is. subst (λ (q : BlockRequest). Moved v media q (payload q.kind q.bytes w'.got) j) (sym g.request) (g.moves j is);
}

-- the driver goes on, or has failed
goes_on : (v : Opening) (image : Contents) (given : MediaState) (x : State) (w w' : Work) (a : DriverState) (media : MediaState) (live failed : Bool)
    → Invariant v image given x → range_of x.current.ranges v.minor ≡ Some (v.first, v.count) → x.current.work ≡ Some w → WorkHolds v x.media x.marks x.current.last w
    → a.ranges ≡ x.current.ranges → a.last ≡ x.current.last → IsDriver a
    → Went v image given x w.request.kind w w' media → GoesOn x.current w' failed a
    → Invariant v image given (record x { media = media; current = a; live = live; sent = x.sent })
goes_on v image given x w w' a media live failed inv range is h ranges last driver g says =
    from_parts v image given x a media live x.sent inv range (record {
      ranges = ranges;
      last = last;
      generation = g.generation;
      held = g.held;
      outside = g.outside;
      driver = driver;
      work = λ l. let P : Option Work → Type 0 = λ o. AnyWorkHolds v media x.marks a.last o in subst P (sym says.stays)
          (let Q : ℕ → Type 0 = λ n. WorkHolds v media x.marks n w' in subst Q (sym last) (work_after v image given x w w' media h g));
      older = inv.older;
      sent = λ r i from. reply_stays v image given x w w' media a r inv is h g last (in_work_one a.work) (inv.sent r i from);
    })

-- the driver answers
ends : (v : Opening) (image : Contents) (given : MediaState) (x : State) (w w' : Work) (a : DriverState) (media : MediaState) (answer : Answer)
    → Invariant v image given x → range_of x.current.ranges v.minor ≡ Some (v.first, v.count) → x.current.work ≡ Some w → WorkHolds v x.media x.marks x.current.last w
    → a.ranges ≡ x.current.ranges → a.last ≡ x.current.last → IsDriver a
    → Went v image given x w.request.kind w w' media → EndsBy x.current w' answer a
    → Invariant v image given (stepped x (Done answer) a media)
ends v image given x w w' a media answer inv range is h ranges last driver g says =
    let after : WorkHolds v media x.marks x.current.last w' = work_after v image given x w w' media h g in
    let none : requests_in_work a.work ≡ 0 = ap (λ (o : Option Work). requests_in_work o) says.ended in
    let own : ReplyHolds v media x.marks a (reply_of x.media.generation answer) = record {
      ended = omega (arith, says.id, after.id, last, none);
      answer = λ q i same.
          let one : w'.request ≡ q = one_id x.marks inv.well_formed w'.request q after.opened i (sym (same ∙ says.id)) in
          subst (λ (q : BlockRequest). AnswerHolds v media (reply_of x.media.generation answer) q) one (record {
            each = answers v media (plan x.current.ranges w'.request) w' answer.outcome answer.bytes after.moved says.answers;
          });
    } in
    from_parts v image given x a media x.live (x.sent ++ reply_of x.media.generation answer ∷ []) inv range (record {
      ranges = ranges;
      last = last;
      generation = g.generation;
      held = g.held;
      outside = g.outside;
      driver = driver;
      work = λ l. let P : Option Work → Type 0 = λ o. AnyWorkHolds v media x.marks a.last o in subst P (sym says.ended) tt;
      older = λ r i. elim (sent_push r (reply_of x.media.generation answer) x.sent i) [
        | inl j ↦ inv.older r j
        | inr e ↦ let k : r.from.generation ≡ x.media.generation = ap (λ (b : BlockReply). b.from.generation) e in omega (arith, k)
      ];
      sent = λ r i from. elim (sent_push r (reply_of x.media.generation answer) x.sent i) [
        | inl j ↦ reply_stays v image given x w w' media a r inv is h g last (in_work_one a.work) (inv.sent r j from)
        | inr e ↦ let P : BlockReply → Type 0 = λ b. ReplyHolds v media x.marks a b in subst P (sym e) own
      ];
    })

says_keeps : (v : Opening) (image : Contents) (given : MediaState) (x : State) (w w' : Work) (step : Step) (a : DriverState) (media : MediaState)
    → Invariant v image given x → range_of x.current.ranges v.minor ≡ Some (v.first, v.count) → x.current.work ≡ Some w → WorkHolds v x.media x.marks x.current.last w
    → a.ranges ≡ x.current.ranges → a.last ≡ x.current.last → IsDriver a
    → Went v image given x w.request.kind w w' media → Says x.current w' step a
    → Invariant v image given (stepped x step a media)
says_keeps v image given x w w' Working a media inv range is h ranges last driver g says = goes_on v image given x w w' a media x.live x.current.failed inv range is h ranges last driver g says
says_keeps v image given x w w' Failed a media inv range is h ranges last driver g says = goes_on v image given x w w' a media false true inv range is h ranges last driver g says
says_keeps v image given x w w' (Done answer) a media inv range is h ranges last driver g says = ends v image given x w w' a media answer inv range is h ranges last driver g says
says_keeps v image given x w w' Idle a media inv range is h ranges last driver g says = absurd says

-- a driver without a request answers Idle, or fails
idle_keeps : (v : Opening) (image : Contents) (given : MediaState) (x : State) (step : Step) (a : DriverState) (media : MediaState)
    → Invariant v image given x → range_of x.current.ranges v.minor ≡ Some (v.first, v.count) → a.ranges ≡ x.current.ranges → a.last ≡ x.current.last → IsDriver a
    → media ≡ x.media → SaysIdle x.current step a → Invariant v image given (stepped x step a media)
idle_keeps v image given x Idle a media inv range ranges last driver same says = rw (same, says) inv
idle_keeps v image given x Failed a media inv range ranges last driver same says =
    let work_is : a.work ≡ x.current.work = ap (λ (d : DriverState). d.work) says in
    let result : Invariant v image given (stepped x Failed a x.media) = from_parts v image given x a x.media false x.sent inv range (record {
      ranges = ranges;
      last = last;
      generation = refl;
      held = inv.media;
      outside = inv.outside;
      driver = driver;
      work = λ l. absurd (never l);
      older = inv.older;
      sent = λ r i from.
          let old : ReplyHolds v x.media x.marks x.current r = inv.sent r i from in
          record { ended = subst (λ (o : Option Work). r.id + requests_in_work o ≤ a.last) (sym work_is) (omega (arith, old.ended, last)); answer = old.answer };
    }) in
    subst (λ (m : MediaState). Invariant v image given (stepped x Failed a m)) (sym same) result where
      never : false ≡ true → ⊥
      never e = cc
idle_keeps v image given x Working a media inv range ranges last driver same says = absurd says
idle_keeps v image given x (Done answer) a media inv range ranges last driver same says = absurd says

steps_keep : (v : Opening) (image : Contents) (given : MediaState) (x : State) (o : Option Work) (step : Step) (a : DriverState) (media : MediaState)
    → Invariant v image given x → range_of x.current.ranges v.minor ≡ Some (v.first, v.count) → x.current.work ≡ o → AnyWorkHolds v x.media x.marks x.current.last o
    → a.ranges ≡ x.current.ranges → a.last ≡ x.current.last → IsDriver a
    → StepsAt x.current o x.media x.media.generation step a media
    → Invariant v image given (stepped x step a media)
steps_keep v image given x None step a media inv range is h ranges last driver s = idle_keeps v image given x step a media inv range ranges last driver s.0 s.1
steps_keep v image given x (Some w) step a media inv range is h ranges last driver s =
    says_keeps v image given x w s.0 step a media inv range is h ranges last driver (went v image given x w s.0 media inv range h s.1) s.2

pub step_keeps : (v : Opening) (image : Contents) (given : MediaState) (x : State) (step : Step) (a : DriverState) (media : MediaState)
    → Invariant v image given x → x.live ≡ true
    → StepKeeps x.current x.media x.media.generation step a media → IsDriver a
    → Invariant v image given (stepped x step a media)
step_keeps v image given x step a media inv live k driver =
    steps_keep v image given x x.current.work step a media inv (inv.range live) refl (inv.work live) k.same_ranges k.same_last driver k.steps
