-- A step of a driver that names no sector outside of the volume changes none there, and none of a unit that it doesn't mark.
use Rattle.std.proofs.Common.{◌≡◌, ◌≢◌, ℕ, ◌+◌, ◌/◌, ◌<◌, ◌≤◌, ◌⊎◌, List, length, Bool, true, false, refl, sym, ◌∙◌, subst, ap, ap₂, inl, inr, arith, length-set, get_or-set_same, Option, Some, None}
use Rattle.std.specs.Prelude.{IfSome}
use Rattle.std.proofs.lemmas.Bool.{false≢true}
use Rattle.message.specs.declared.Kind.{Kind}
use Rattle.message.specs.declared.Kind.TheVariants.{Read, Write}
use Rattle.media.specs.Contents.{MediaState, adopted, sector, written}
use Rattle.media.proofs.WrittenLaws.{length-written, sector-written_other}
use Rattle.records.specs.Opening.{Opening}
use Rattle.bdev.specs.declared.Step.{Step}
use Rattle.bdev.specs.declared.Run.{Run}
use Rattle.bdev.specs.DriverState.{DriverState, Work, chunk}
use Rattle.bdev.specs.Promises.{StepKeeps, StepsAt, MovesBytes, IsNext}
use Rattle.changes.specs.Units.{is_marked}
use Rattle.changes.proofs.Marking.{still_set}
use Rattle.true_replies.specs.Events.{opening_media}
use Rattle.shared_media.specs.Confined.{KeepsOutside, KeepsBut, IsInVolume, StaysInVolume, unit_in, written_for}

-- the media as they were handed in
pub keeps_given : (v : Opening) (units : List Bool) (m : MediaState) → m ≡ opening_media v → KeepsBut v units m
keeps_given v units m given =
    subst (λ (x : MediaState). KeepsBut v units x) (sym given)
    (record { outside = record { number = refl; outside = record { each = λ n out. refl } }; unmarked = λ n less off. refl })

pub keeps_adopted : (v : Opening) (units : List Bool) (m : MediaState) (g : ℕ) → KeepsBut v units m → KeepsBut v units (adopted m g)
keeps_adopted v units m g kept = record {
  outside = record { number = kept.outside.number; outside = record { each = λ n out. kept.outside.outside.each n out } };
  unmarked = λ n less off. kept.unmarked n less off;
}

-- who keeps all but marked units keeps what is outside of the volume
pub keeps_outside : (v : Opening) (units : List Bool) (m : MediaState) → KeepsBut v units m → KeepsOutside v m
keeps_outside v units m kept = kept.outside

-- as many sectors, and each but the one that is named is as it was
record StaysBut (named : Option ℕ) (m m' : MediaState) : Type 0 where
  number : length m'.sectors ≡ length m.sectors
  same : (n : ℕ) → named ≢ Some n → sector m' n ≡ sector m n

stays_same : (named : Option ℕ) (m m' : MediaState) → m' ≡ m → StaysBut named m m'
stays_same named m m' same =
    subst (λ (x : MediaState). StaysBut named m x) (sym same) (record { number = refl; same = λ n other. refl })

stays_written : (named : Option ℕ) (m : MediaState) (g s : ℕ) (bytes : List ℕ) → named ≡ Some s → StaysBut named m (written m g s bytes)
stays_written named m g s bytes is = record {
  number = length-written m g s bytes;
  same = λ n other. sector-written_other m g s n bytes (λ same. other (is ∙ ap Some (sym same)));
}

-- one sector is moved
moved : (b : DriverState) (w w' : Work) (run : Run) (j : ℕ) (m : MediaState) (g : ℕ) (m' : MediaState) (kind : Kind)
    → w.request.kind ≡ kind → IsNext b w run j → MovesBytes kind w m g (run.first + j) j w' m' → StaysBut b.in_work m m'
moved b w w' run j m g m' Read is next bytes = stays_same b.in_work m m' bytes.0
moved b w w' run j m g m' Write is next bytes =
    subst (λ (x : MediaState). StaysBut b.in_work m x) (sym bytes)
    (stays_written b.in_work m g (run.first + j) (chunk j w.request.bytes) (next.named is))

-- a step changes at most the sector that the driver named before it
stepped : (b : DriverState) (work : Option Work) (m : MediaState) (g : ℕ) (step : Step) (a : DriverState) (m' : MediaState)
    → StepsAt b work m g step a m' → StaysBut b.in_work m m'
stepped b None m g step a m' s = stays_same b.in_work m m' s.0
stepped b (Some w) m g step a m' s = elim s.1 [
  | inl n ↦ stays_same b.in_work m m' n.same_media
  | inr p ↦ moved b w s.0 p.run p.number m g m' w.request.kind refl p.next p.bytes
]

-- a sector of the volume isn't one outside
elsewhere : (v : Opening) (n : ℕ) → IsInVolume v n → (n < v.first) ⊎ (v.first + v.count ≤ n) → ⊥
elsewhere v n within out = elim out [
  | inl l ↦ omega (arith, l, within.0)
  | inr l ↦ omega (arith, l, within.1)
]

-- so the sector that is named isn't one outside
not_outside : (v : Opening) (named : Option ℕ) (n : ℕ) → IfSome named (IsInVolume v) → (n < v.first) ⊎ (v.first + v.count ≤ n)
    → named ≢ Some n
not_outside v named n stays out is = elsewhere v n (subst (λ (o : Option ℕ). IfSome o (IsInVolume v)) is stays) out

-- nor is it one whose unit isn't marked afterwards
not_unmarked : (v : Opening) (named : Option ℕ) (units : List Bool) (n : ℕ) → length units ≡ (v.count + 7) / 8 → n < v.count
    → is_marked (written_for v.first named units) (n / 8) ≡ false → named ≢ Some (v.first + n)
not_unmarked v named units n long less off is =
    let unit : ℕ = unit_in v.first (v.first + n) in
    let at : unit ≡ n / 8 = omega arith in
    let here : is_marked (written_for v.first (Some (v.first + n)) units) (n / 8) ≡ false =
    subst (λ (o : Option ℕ). is_marked (written_for v.first o units) (n / 8) ≡ false) is off in
    let there : is_marked (written_for v.first (Some (v.first + n)) units) unit ≡ true =
    get_or-set_same units unit true false (omega (arith, long, less)) in
    false≢true (sym (subst (λ (k : ℕ). is_marked (written_for v.first (Some (v.first + n)) units) k ≡ false) (sym at) here) ∙ there)

-- what isn't marked then wasn't before
still : (first : ℕ) (named : Option ℕ) (units : List Bool) (n : ℕ) → is_marked (written_for first named units) n ≡ false
    → is_marked units n ≡ false
still first None units n off = off
still first (Some s) units n off = still_set units (unit_in first s) n off

-- what a step leaves that changes at most a sector of the volume
kept_but : (v : Opening) (named : Option ℕ) (units : List Bool) (m m' : MediaState) → IfSome named (IsInVolume v)
    → length units ≡ (v.count + 7) / 8 → StaysBut named m m' → KeepsBut v units m → KeepsBut v (written_for v.first named units) m'
kept_but v named units m m' stays long but kept = record {
  outside = record {
    number = but.number ∙ kept.outside.number;
    outside = record { each = λ n out. but.same n (not_outside v named n stays out) ∙ kept.outside.outside.each n out };
  };
  unmarked = λ n less off.
      but.same (v.first + n) (not_unmarked v named units n long less off)
      ∙ kept.unmarked n less (still v.first named units (n / 8) off);
}

pub keeps_stepped : (v : Opening) (b : DriverState) (units units' : List Bool) (m : MediaState) (g : ℕ) (step : Step) (a : DriverState)
    (m' : MediaState) → StaysInVolume v b → units' ≡ written_for v.first b.in_work units → length units ≡ (v.count + 7) / 8
    → StepKeeps b m g step a m' → KeepsBut v units m → KeepsBut v units' m'
keeps_stepped v b units units' m g step a m' stays is long keeps kept =
    subst (λ (l : List Bool). KeepsBut v l m') (sym is)
    (kept_but v b.in_work units m m' stays long (stepped b b.work m g step a m' keeps.steps) kept)

-- there are as many units then
pub long_written : (v : Opening) (named : Option ℕ) (units units' : List Bool) → units' ≡ written_for v.first named units
    → length units ≡ (v.count + 7) / 8 → length units' ≡ (v.count + 7) / 8
long_written v None units units' is long = ap length is ∙ long
long_written v (Some s) units units' is long = ap length is ∙ length-set units (unit_in v.first s) true ∙ long

-- the unit that was marked, in the volume's own terms
pub named_unit : (v : Opening) (first : ℕ) (o named : Option ℕ) (units units' : List Bool) → units' ≡ written_for first o units
    → first ≡ v.first → o ≡ named → units' ≡ written_for v.first named units
named_unit v first o named units units' is at same = is ∙ ap₂ (λ (f : ℕ) (s : Option ℕ). written_for f s units) at same
