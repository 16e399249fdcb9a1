-- A delivered reply keeps the invariant, and is true of the disk if it counts.
use Rattle.std.proofs.Common.{◌≡◌, ◌⊎◌, ℕ, suc, zero, ◌+◌, ◌-◌, ◌*◌, ◌/◌, ◌%◌, ◌<◌, ◌≤◌, List, ◌∷◌, Bool, true, false, cond, refl, sym, ◌∙◌, ap, inl, inr, arith, Option, Some, None}
use Rattle.std.proofs.lemmas.Bool.Decides.{leb_tells, nat_tests}
use Rattle.std.specs.Prelude.{slice_index, ◌&&◌, ◌==◌, not, nat_le, nat_lt, is_some}
use Rattle.lemmas.proofs.Options.{some_same}
use Rattle.lemmas.proofs.Numbers.{outside_fails, within_holds}
use Rattle.lemmas.proofs.Bools.{and_left, and_right}
use Rattle.message.specs.declared.endpoint.Endpoint.{Endpoint}
use Rattle.message.specs.declared.Kind.{Kind}
use Rattle.message.specs.declared.Kind.TheVariants.{Read, Write}
use Rattle.message.specs.declared.BlockRequest.{BlockRequest}
use Rattle.message.specs.declared.BlockReply.{BlockReply}
use Rattle.records.specs.Marks.{Mark, Answered, last_started, is_endpoint, gave_up}
use Rattle.records.specs.Open.{open_requests, with_id, moved_of, counts}
use Rattle.records.specs.Disk.{unsure, disk_after, IsTrueOf, IsTrueAnswer, Contents}
use Rattle.message.specs.Good.{is_write, moved}
use Rattle.media.specs.Contents.{MediaState, sector}
use Rattle.bdev.specs.DriverState.{Work}
use Rattle.bdev.specs.Promises.{requests_in_work}
use Rattle.records.specs.Opening.{Opening, Fits}
use Rattle.true_replies.specs.State.{State, Moved, AnyWorkHolds, ReplyHolds, MediaHold, Invariant, payload}
use Rattle.true_replies.specs.Posted.{IsSent, driver_at, started_at}
use Rattle.true_replies.specs.Events.{delivered}
use Rattle.records.proofs.OpenRequests.{with_id_in, open_answered, open_stays}
use Rattle.records.proofs.Unsure.{moved_le}

-- the request and the good answer that a delivery is about
pub record Good (v : Opening) (media : MediaState) (marks : List Mark) (a : BlockReply) (r : BlockRequest) (n : ℕ) : Type 0 where
  pub there : with_id a.id (open_requests marks) ≡ Some r
  pub good : moved_of (with_id a.id (open_requests marks)) a ≡ Some n
  pub few : n ≤ r.count
  pub some : 0 < n
  pub fits : Fits v r
  pub each : (j : ℕ) → 512 * j < n → Moved v media r (payload r.kind r.bytes a.bytes) j

-- after the answer
unsure_is : (marks : List Mark) (a : BlockReply) (r : BlockRequest) (n p : ℕ)
    → with_id a.id (open_requests marks) ≡ Some r → moved_of (with_id a.id (open_requests marks)) a ≡ Some n
    → unsure (Answered a ∷ marks) p ≡ (not (is_write r.kind && nat_le r.position p && nat_lt p (r.position + n)) && unsure marks p)
unsure_is marks a r n p there good = rw (good, there) refl

disk_is : (image : Contents) (marks : List Mark) (a : BlockReply) (r : BlockRequest) (n p : ℕ)
    → with_id a.id (open_requests marks) ≡ Some r → moved_of (with_id a.id (open_requests marks)) a ≡ Some n
    → disk_after image (Answered a ∷ marks) p
    ≡ cond (is_write r.kind && nat_le r.position p && nat_lt p (r.position + n)) (slice_index r.bytes (p - r.position)) (disk_after image marks p)
disk_is image marks a r n p there good = rw (good, there) refl

answered_read : (v : Opening) (image : Contents) (media : MediaState) (marks : List Mark) (a : BlockReply) (r : BlockRequest) (n : ℕ) → Good v media marks a r n
    → is_write r.kind ≡ false → MediaHold v image media marks → MediaHold v image media (Answered a ∷ marks)
answered_read v image media marks a r n g read h = record {
  each = λ s o inside less sure.
      let p : ℕ = 512 * s + o in
      let u : unsure (Answered a ∷ marks) p ≡ unsure marks p = unsure_is marks a r n p g.there g.good ∙ rw read refl in
      let d : disk_after image (Answered a ∷ marks) p ≡ disk_after image marks p = disk_is image marks a r n p g.there g.good ∙ rw read refl in
      h.each s o inside less (sym u ∙ sure) ∙ sym d;
}

answered_write : (v : Opening) (image : Contents) (media : MediaState) (marks : List Mark) (a : BlockReply) (r : BlockRequest) (n : ℕ) → Good v media marks a r n
    → r.kind ≡ Write → MediaHold v image media marks → MediaHold v image media (Answered a ∷ marks)
answered_write v image media marks a r n g kind h = record { each = λ s o inside less sure. at s o inside less sure } where
  write : is_write r.kind ≡ true
  write = ap is_write kind

  out : (s o : ℕ) → s < v.count → o < 512 → (512 * s + o < r.position) ⊎ (r.position + n ≤ 512 * s + o) → unsure (Answered a ∷ marks) (512 * s + o) ≡ false
      → slice_index (sector media (v.first + s)) o ≡ disk_after image (Answered a ∷ marks) (512 * s + o)
  out s o inside less off sure =
      let u : unsure (Answered a ∷ marks) (512 * s + o) ≡ unsure marks (512 * s + o) =
      unsure_is marks a r n (512 * s + o) g.there g.good ∙ rw (outside_fails (is_write r.kind) r.position n (512 * s + o) off) refl in
      let d : disk_after image (Answered a ∷ marks) (512 * s + o) ≡ disk_after image marks (512 * s + o) =
      disk_is image marks a r n (512 * s + o) g.there g.good ∙ rw (outside_fails (is_write r.kind) r.position n (512 * s + o) off) refl in
      h.each s o inside less (sym u ∙ sure) ∙ sym d

  within : (s o : ℕ) → s < v.count → o < 512 → r.position ≤ 512 * s + o → 512 * s + o < r.position + n
      → slice_index (sector media (v.first + s)) o ≡ disk_after image (Answered a ∷ marks) (512 * s + o)
  within s o inside less low high =
      let zero_th : Moved v media r (payload r.kind r.bytes a.bytes) 0 = g.each 0 (omega (arith, g.some)) in
      let start : 512 * zero_th.place.at ≡ r.position = omega (arith, zero_th.place.position) in
      let j : ℕ = s - zero_th.place.at in
      let le : zero_th.place.at ≤ s = omega (arith, start, low, less) in
      let j_is : zero_th.place.at + j ≡ s = omega (arith, le) in
      let here : Moved v media r (payload r.kind r.bytes a.bytes) j = g.each j (omega (arith, j_is, start, high)) in
      let same : here.place.at ≡ s = omega (arith, here.place.position, start, j_is) in
      let own : slice_index (payload r.kind r.bytes a.bytes) (512 * j + o) ≡ slice_index r.bytes (512 * j + o) =
      ap (λ (k : Kind). slice_index (payload k r.bytes a.bytes) (512 * j + o)) kind in
      let place_is : 512 * s + o - r.position ≡ 512 * j + o = omega (arith, start, j_is) in
      let on_disk : disk_after image (Answered a ∷ marks) (512 * s + o) ≡ slice_index r.bytes (512 * j + o) =
      disk_is image marks a r n (512 * s + o) g.there g.good
      ∙ rw (within_holds (is_write r.kind) r.position n (512 * s + o) write low high) (ap (λ (k : ℕ). slice_index r.bytes k) place_is) in
      ap (λ (t : ℕ). slice_index (sector media (v.first + t)) o) (sym same) ∙ sym (here.same o less) ∙ own ∙ sym on_disk

  at : (s o : ℕ) → s < v.count → o < 512 → unsure (Answered a ∷ marks) (512 * s + o) ≡ false
      → slice_index (sector media (v.first + s)) o ≡ disk_after image (Answered a ∷ marks) (512 * s + o)
  at s o inside less sure = elim (leb_tells r.position (512 * s + o)) [
    | inl low ↦ elim (leb_tells (r.position + n) (512 * s + o)) [
      | inl past ↦ out s o inside less (inr (omega (arith, past.1))) sure
      | inr before ↦ within s o inside less (omega (arith, low.1)) (omega (arith, before.1))
    ]
    | inr before ↦ out s o inside less (inl (omega (arith, before.1))) sure
  ]

answered_media : (v : Opening) (image : Contents) (media : MediaState) (marks : List Mark) (a : BlockReply) (r : BlockRequest) (n : ℕ) (kind : Kind) → Good v media marks a r n
    → r.kind ≡ kind → MediaHold v image media marks → MediaHold v image media (Answered a ∷ marks)
answered_media v image media marks a r n Read g kind h = answered_read v image media marks a r n g (ap is_write kind) h
answered_media v image media marks a r n Write g kind h = answered_write v image media marks a r n g kind h

-- a good answer to a read is true
answer_true : (v : Opening) (image : Contents) (media : MediaState) (marks : List Mark) (a : BlockReply) (r : BlockRequest) (n : ℕ) (kind : Kind) → Good v media marks a r n
    → r.kind ≡ kind → is_write kind ≡ false → MediaHold v image media marks → IsTrueOf image marks r n a.bytes
answer_true v image media marks a r n Write g kind read h = cc
answer_true v image media marks a r n Read g kind read h = record {
  each = λ k less sure.
      let j : ℕ = k / 512 in
      let o : ℕ = k % 512 in
      let split : 512 * j + o ≡ k = omega arith in
      let small : o < 512 = omega arith in
      let m : Moved v media r (payload r.kind r.bytes a.bytes) j = g.each j (omega (arith, split, less)) in
      let own : slice_index (payload r.kind r.bytes a.bytes) (512 * j + o) ≡ slice_index a.bytes (512 * j + o) =
      ap (λ (k : Kind). slice_index (payload k r.bytes a.bytes) (512 * j + o)) kind in
      let place_is : 512 * m.place.at + o ≡ r.position + k = omega (arith, m.place.position, split) in
      ap (λ (t : ℕ). slice_index a.bytes t) (sym split) ∙ sym own ∙ m.same o small
      ∙ h.each m.place.at o m.place.inside small (ap (λ (t : ℕ). unsure marks t) place_is ∙ sure)
      ∙ ap (λ (t : ℕ). disk_after image marks t) place_is;
}

same_true : (o : Option Endpoint) (e : Endpoint) → is_endpoint e o ≡ true → o ≡ Some e
same_true None e h = cc
same_true (Some d) e h =
    let s : (d.slot == e.slot) ≡ true = and_left (d.slot == e.slot) (d.generation == e.generation) h in
    let g : (d.generation == e.generation) ≡ true = and_right (d.slot == e.slot) (d.generation == e.generation) h in
    let s' : d.slot ≡ e.slot = grind (arith, nat_tests) in
    let g' : d.generation ≡ e.generation = grind (arith, nat_tests) in
    ap (λ (x : ℕ). Some (record { slot = x; generation = d.generation })) s' ∙ ap (λ (x : ℕ). Some (record { slot = e.slot; generation = x })) g'

last_is : (g : ℕ) (e : Endpoint) → started_at g ≡ Some e → e ≡ driver_at g
last_is zero e h = cc
last_is (suc g) e h = some_same e (driver_at (suc g)) (sym h)

-- an answer that counts, with the request that it is for
record Counted (x : State) (a : BlockReply) (r : BlockRequest) : Type 0 where
  from : last_started x.marks ≡ Some a.from
  own : a.from ≡ driver_at x.media.generation
  there : with_id a.id (open_requests x.marks) ≡ Some r

-- what stays, whatever the answer is
answered_with : (v : Opening) (image : Contents) (given : MediaState) (x : State) (a : BlockReply) (r : BlockRequest) → Invariant v image given x → IsSent a x.sent → Counted x a r
    → MediaHold v image x.media (Answered a ∷ x.marks)
    → IsTrueAnswer image x.marks (with_id a.id (open_requests x.marks)) (moved_of (with_id a.id (open_requests x.marks)) a) a.bytes
    → Invariant v image given (record x { marks = Answered a ∷ x.marks })
answered_with v image given x a r inv sent c media true_answer =
    let own : ReplyHolds v x.media x.marks x.current a = inv.sent a sent c.own in
    record {
      well_formed = (inv.well_formed, (c.from, rw c.there refl));
      started = inv.started;
      range = inv.range;
      media = media;
      outside = inv.outside;
      true_replies = (inv.true_replies, true_answer);
      driver = inv.driver;
      last = inv.last;
      fits = λ q i. inv.fits q (open_answered x.marks a q i);
      posts = λ q i. record { opened = λ less. open_stays x.marks a q (λ e. omega (arith, e, less, own.ended)) ((inv.posts q i).opened less) };
      line = inv.line;
      work = λ l. work_answered x.current.work own.ended (inv.work l);
      older = inv.older;
      sent = λ b i from.
          let old : ReplyHolds v x.media x.marks x.current b = inv.sent b i from in
          record { ended = old.ended; answer = λ q j same. old.answer q (open_answered x.marks a q j) same };
    } where
      work_answered : (o : Option Work) → a.id + requests_in_work o ≤ x.current.last → AnyWorkHolds v x.media x.marks x.current.last o
          → AnyWorkHolds v x.media (Answered a ∷ x.marks) x.current.last o
      work_answered None e h = tt
      work_answered (Some w) e h = record {
        opened = open_stays x.marks a w.request (λ same. omega (arith, same, e, h.id)) h.opened;
        id = h.id;
        moved = h.moved;
      }

answered_good : (v : Opening) (image : Contents) (given : MediaState) (x : State) (a : BlockReply) (r : BlockRequest) (m : Option ℕ) → Invariant v image given x → IsSent a x.sent → Counted x a r
    → moved_of (with_id a.id (open_requests x.marks)) a ≡ m → Invariant v image given (record x { marks = Answered a ∷ x.marks })
answered_good v image given x a r None inv sent c good =
    answered_with v image given x a r inv sent c
    (record {
      each = λ s o inside less sure.
          let u : unsure (Answered a ∷ x.marks) (512 * s + o) ≡ unsure x.marks (512 * s + o) = rw (good, c.there) refl in
          let d : disk_after image (Answered a ∷ x.marks) (512 * s + o) ≡ disk_after image x.marks (512 * s + o) = rw (good, c.there) refl in
          inv.media.each s o inside less (sym u ∙ sure) ∙ sym d;
    })
    (rw (good, c.there) tt)
answered_good v image given x a r (Some n) inv sent c good =
    let i = with_id_in a.id (open_requests x.marks) r c.there in
    let own : ReplyHolds v x.media x.marks x.current a = inv.sent a sent c.own in
    let moved_is : moved r.count a.outcome ≡ Some n = ap (λ (o : Option BlockRequest). moved_of o a) (sym c.there) ∙ good in
    let le = moved_le r.count n a.outcome moved_is in
    let g : Good v x.media x.marks a r n = record {
      there = c.there;
      good = good;
      few = le.0;
      some = le.1;
      fits = inv.fits r i.0;
      each = (own.answer r i.0 i.1).each n moved_is;
    } in
    answered_with v image given x a r inv sent c
    (answered_media v image x.media x.marks a r n r.kind g refl inv.media)
    (rw (good, c.there) (λ read. answer_true v image x.media x.marks a r n r.kind g refl read inv.media))

answered_some : (v : Opening) (image : Contents) (given : MediaState) (x : State) (a : BlockReply) (o : Option BlockRequest) → Invariant v image given x → IsSent a x.sent
    → last_started x.marks ≡ Some a.from → with_id a.id (open_requests x.marks) ≡ o → is_some o ≡ true
    → Invariant v image given (record x { marks = Answered a ∷ x.marks })
answered_some v image given x a None inv sent from there some = cc
answered_some v image given x a (Some r) inv sent from there some =
    answered_good v image given x a r (moved_of (with_id a.id (open_requests x.marks)) a) inv sent
    (record { from = from; own = last_is x.media.generation a.from (sym inv.started ∙ from); there = there }) refl

pub delivered_keeps : (v : Opening) (image : Contents) (given : MediaState) (x : State) (a : BlockReply) → Invariant v image given x → IsSent a x.sent
    → Invariant v image given (delivered x a)
delivered_keeps v image given x a inv sent = at (counts x.marks a) refl where
  at : (b : Bool) → counts x.marks a ≡ b → Invariant v image given (record x { marks = cond b (Answered a ∷ x.marks) x.marks })
  at false e = inv
  at true e =
      let live : Bool = not (gave_up x.marks) in
      let from : Bool = is_endpoint a.from (last_started x.marks) in
      let asked : Bool = is_some (with_id a.id (open_requests x.marks)) in
      answered_some v image given x a (with_id a.id (open_requests x.marks)) inv sent
      (same_true (last_started x.marks) a.from (and_right live from (and_left (live && from) asked e)))
      refl (and_right (live && from) asked e)
