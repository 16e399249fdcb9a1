-- A run is refused for one reason alone.
use Rattle.std.specs.Prelude.{◌≡◌, Option, Some, None, Result, Ok, Err, refl}
use Rattle.std.proofs.Common.{ap, sym, subst, ◌∙◌}
use Rattle.lemmas.proofs.Options.{ok_same}
use Rattle.volume.specs.declared.Finding.{Finding}
use Rattle.volume.specs.Verdict.{Verdict, Clean, Found}
use Rattle.records.specs.Opening.{Range}
use Rattle.schedule.specs.Refusals.{Start, NotMedia, Partition, NotClean, BadSetup, NoDriver, IsGoodSetup, HasVolume}
use Rattle.schedule.specs.Laws.{RefusedForOne, RefusedOrAccepted}

-- what is there isn't missing
some_or_none : {A : Type 0} {o : Option A} {x : A} → o ≡ Some x → o ≡ None → ⊥
some_or_none e f = cc

-- what is there isn't refused
ok_or_err : {A E : Type 0} {r : Result A E} {x : A} {e : E} → r ≡ Ok x → r ≡ Err e → ⊥
ok_or_err h k = cc

-- the same refusal is given
pub same_err : {A E : Type 0} {x y : E} → ◌≡◌ {A = Result A E} (Err x) (Err y) → x ≡ y
same_err e = cc

-- a verdict isn't both
found_or_clean : {v : Verdict} {f : Finding} → v ≡ Found f → v ≡ Clean → ⊥
found_or_clean e f = cc

-- the same thing is there
same_some : {A : Type 0} {x y : A} → Some x ≡ Some y → x ≡ y
same_some e = cc

-- the same finding is found
same_finding : {f g : Finding} → Found f ≡ Found g → f ≡ g
same_finding e = cc

-- the volume lies in one range
same_range : (start : Start) (a b : Range) → HasVolume start a → HasVolume start b → a ≡ b
same_range start a b at_a at_b = ok_same (sym at_a.range_is ∙ at_b.range_is)

-- so the setup is good for one where it is for the other
same_setup : (start : Start) (a b : Range) → HasVolume start a → HasVolume start b → IsGoodSetup start.setup a start.drivers → IsGoodSetup start.setup b start.drivers
same_setup start a b at_a at_b good =
    let P : Range → Type 0 = λ r. IsGoodSetup start.setup r start.drivers in
    subst P (same_range start a b at_a at_b) good

-- each two reasons but equal ones rule each other out
pub refused_for_one : RefusedForOne
refused_for_one start (NotMedia r) (NotMedia s) h k = ap NotMedia (same_some (sym h ∙ k))
refused_for_one start (NotMedia r) (Partition b) h k = absurd (some_or_none h k.0)
refused_for_one start (NotMedia r) (NotClean s) h k = absurd (some_or_none h k.1.media)
refused_for_one start (NotMedia r) BadSetup h k = absurd (some_or_none h k.1.media)
refused_for_one start (NotMedia r) NoDriver h k = absurd (some_or_none h k.1.media)
refused_for_one start (Partition a) (NotMedia s) h k = absurd (some_or_none k h.0)
refused_for_one start (Partition a) (Partition b) h k = ap Partition (same_err (sym h.1 ∙ k.1))
refused_for_one start (Partition a) (NotClean s) h k = absurd (ok_or_err k.1.range_is h.1)
refused_for_one start (Partition a) BadSetup h k = absurd (ok_or_err k.1.range_is h.1)
refused_for_one start (Partition a) NoDriver h k = absurd (ok_or_err k.1.range_is h.1)
refused_for_one start (NotClean r) (NotMedia s) h k = absurd (some_or_none k h.1.media)
refused_for_one start (NotClean r) (Partition b) h k = absurd (ok_or_err h.1.range_is k.1)
refused_for_one start (NotClean r) (NotClean s) h k = ap NotClean (same_finding (sym h.2 ∙ k.2))
refused_for_one start (NotClean r) BadSetup h k = absurd (found_or_clean h.2 k.2)
refused_for_one start (NotClean r) NoDriver h k = absurd (found_or_clean h.2 k.2)
refused_for_one start BadSetup (NotMedia s) h k = absurd (some_or_none k h.1.media)
refused_for_one start BadSetup (Partition b) h k = absurd (ok_or_err h.1.range_is k.1)
refused_for_one start BadSetup (NotClean s) h k = absurd (found_or_clean k.2 h.2)
refused_for_one start BadSetup BadSetup h k = refl
refused_for_one start BadSetup NoDriver h k = absurd (h.3 (same_setup start k.0 h.0 k.1 h.1 k.3))
refused_for_one start NoDriver (NotMedia s) h k = absurd (some_or_none k h.1.media)
refused_for_one start NoDriver (Partition b) h k = absurd (ok_or_err h.1.range_is k.1)
refused_for_one start NoDriver (NotClean s) h k = absurd (found_or_clean k.2 h.2)
refused_for_one start NoDriver BadSetup h k = absurd (k.3 (same_setup start h.0 k.0 h.1 k.1 h.3))
refused_for_one start NoDriver NoDriver h k = refl

-- each reason rules being accepted out
pub refused_or_accepted : RefusedOrAccepted
refused_or_accepted start (NotMedia r) range h accepted = some_or_none h accepted.volume.media
refused_or_accepted start (Partition a) range h accepted = ok_or_err accepted.volume.range_is h.1
refused_or_accepted start (NotClean f) range h accepted = found_or_clean h.2 accepted.clean
refused_or_accepted start BadSetup range h accepted = h.3 (same_setup start range h.0 accepted.volume h.1 accepted.setup)
refused_or_accepted start NoDriver range h accepted = accepted.some h.4
