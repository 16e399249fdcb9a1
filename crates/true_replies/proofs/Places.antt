-- Where a request's sectors lie, and what a write of one of them leaves.
use Rattle.std.proofs.Common.{◌≡◌, ◌≢◌, ℕ, ◌+◌, ◌-◌, ◌*◌, ◌/◌, ◌%◌, ◌<◌, ◌≤◌, List, drop, Bool, true, false, cond, refl, sym, ◌∙◌, ap, inl, inr, arith, min, Option, Some, None, get_or-take, get_or-drop}
use Rattle.std.proofs.lemmas.Bool.{cases_eq}
use Rattle.std.proofs.lemmas.Bool.Decides.{nat_tests}
use Rattle.std.specs.Prelude.{slice_index}
use Rattle.message.specs.declared.BlockRequest.{BlockRequest}
use Rattle.records.specs.Marks.{Mark}
use Rattle.records.specs.Open.{open_requests, Misses, IsIn, IsWellFormed}
use Rattle.records.specs.Disk.{unsure, Contents}
use Rattle.message.specs.Good.{is_write}
use Rattle.media.specs.Contents.{MediaState, written}
use Rattle.media.proofs.WrittenLaws.{sector-written_other}
use Rattle.bdev.specs.declared.Run.{Run}
use Rattle.bdev.specs.DriverState.{Ranges, range_of, plan, plan_in, cut, is_on_sectors, chunk}
use Rattle.records.specs.Opening.{Opening}
use Rattle.true_replies.specs.State.{Place, Moved, MediaHold, OutsideHolds}
use Rattle.records.proofs.Unsure.{unsure_open}

-- the j-th sector of the plan is the j-th of the request
pub record Planned (v : Opening) (q : BlockRequest) (run : Run) (j : ℕ) : Type 0 where
  pub place : Place v q j
  pub at : run.first + j ≡ v.first + place.at

sound_position : (p n : ℕ) → is_on_sectors p n ≡ true → p % 512 ≡ 0
sound_position p n e = grind (arith, nat_tests)

sound_count : (p n : ℕ) → is_on_sectors p n ≡ true → n % 512 ≡ 0
sound_count p n e = grind (arith, nat_tests)

planned_in : (v : Opening) (q : BlockRequest) (run : Run) (j : ℕ) (b : Bool) → is_on_sectors q.position q.count ≡ b
    → cond b (Some (cut q.position q.count (v.first, v.count))) None ≡ Some run → j < run.count → Planned v q run j
planned_in v q run j false s e less = cc
planned_in v q run j true s e less =
    let same : cut q.position q.count (v.first, v.count) ≡ run = cc in
    let first : v.first + min (q.position / 512) v.count ≡ run.first = ap (λ (r : Run). r.first) same in
    let count : min (q.count / 512) (v.count - q.position / 512) ≡ run.count = ap (λ (r : Run). r.count) same in
    let even : q.position % 512 ≡ 0 = sound_position q.position q.count s in
    let inside : q.position / 512 + j < v.count = omega arith in
    record {
      place = record { at = q.position / 512 + j; position = omega arith; inside = inside; within = omega arith };
      at = omega arith;
    }

pub planned : (v : Opening) (ranges : Ranges) (q : BlockRequest) (run : Run) (j : ℕ) → range_of ranges v.minor ≡ Some (v.first, v.count) → q.minor ≡ v.minor
    → plan ranges q ≡ Some run → j < run.count → Planned v q run j
planned v ranges q run j range minor e less =
    planned_in v q run j (is_on_sectors q.position q.count) refl
    (let o : range_of ranges q.minor ≡ Some (v.first, v.count) = ap (λ (m : ℕ). range_of ranges m) minor ∙ range in
    sym (ap (λ (x : Option (ℕ × ℕ)). plan_in x q.position q.count) o) ∙ e) less

pub chunk_at : (j o : ℕ) (bytes : List ℕ) → o < 512 → slice_index (chunk j bytes) o ≡ slice_index bytes (512 * j + o)
chunk_at j o bytes less = get_or-take 512 (drop (512 * j) bytes) o 0 less ∙ get_or-drop (512 * j) bytes o 0

-- two requests that miss each other have no sector in common
pub misses_place : (v : Opening) (r w : BlockRequest) (k j : ℕ) → Misses r w → (p : Place v r k) (q : Place v w j) → p.at ≢ q.at
misses_place v r w k j m p q e = elim m.apart [
  | inl h ↦ omega (arith, h, p.position, q.position, p.within, q.within, e)
  | inr h ↦ omega (arith, h, p.position, q.position, p.within, q.within, e)
]

pub other_place : (v : Opening) (r : BlockRequest) (k j : ℕ) → k ≢ j → (p : Place v r k) (q : Place v r j) → p.at ≢ q.at
other_place v r k j other p q e = other (omega (arith, p.position, q.position, e))

pub moved_elsewhere : (v : Opening) (media : MediaState) (r : BlockRequest) (bytes : List ℕ) (k g s : ℕ) (new : List ℕ)
    → (m : Moved v media r bytes k) → m.place.at ≢ s → Moved v (written media g (v.first + s) new) r bytes k
moved_elsewhere v media r bytes k g s new m other = record {
  place = m.place;
  same = λ o less. m.same o less ∙ ap (λ (l : List ℕ). slice_index l o)
      (sym (sector-written_other media g (v.first + s) (v.first + m.place.at) new (λ e. other (omega (arith, e)))));
}

-- the places of an open write are unsure
pub place_unsure : (v : Opening) (marks : List Mark) (w : BlockRequest) (j o : ℕ) → IsWellFormed marks → IsIn w (open_requests marks) → is_write w.kind ≡ true
    → (p : Place v w j) → o < 512 → unsure marks (512 * p.at + o) ≡ true
place_unsure v marks w j o wf i write p less =
    unsure_open marks wf w (512 * p.at + o) i write
    (let low : w.position ≤ 512 * p.at + o = omega (arith, p.position) in
    let high : 512 * p.at + o < w.position + w.count = omega (arith, p.position, p.within) in
    grind (arith, nat_tests))

pub written_media : (v : Opening) (image : Contents) (media : MediaState) (marks : List Mark) (w : BlockRequest) (j g : ℕ) (new : List ℕ) → IsWellFormed marks → IsIn w (open_requests marks) → is_write w.kind ≡ true
    → (p : Place v w j) → MediaHold v image media marks → MediaHold v image (written media g (v.first + p.at) new) marks
written_media v image media marks w j g new wf i write p h = record {
  each = λ s o inside less sure.
      elim (cases_eq s p.at) [
        | inl same ↦
            let t : unsure marks (512 * s + o) ≡ true = ap (λ (x : ℕ). unsure marks (512 * x + o)) same ∙ place_unsure v marks w j o wf i write p less in
            absurd (differ (sym sure ∙ t))
        | inr other ↦
            ap (λ (l : List ℕ). slice_index l o) (sector-written_other media g (v.first + p.at) (v.first + s) new (λ e. other (omega (arith, e))))
            ∙ h.each s o inside less sure
      ];
} where
  differ : (false ≡ true) → ⊥
  differ e = cc

pub written_outside : (v : Opening) (given media : MediaState) (w : BlockRequest) (j g : ℕ) (new : List ℕ) → (p : Place v w j)
    → OutsideHolds v given media → OutsideHolds v given (written media g (v.first + p.at) new)
written_outside v given media w j g new p h = record {
  each = λ n out.
      sector-written_other media g (v.first + p.at) n new
      (λ e. elim out [ inl l ↦ absurd (omega (arith, l, e)) | inr l ↦ absurd (omega (arith, l, e, p.inside)) ])
      ∙ h.each n out;
}
