-- What is told of an image that isn't in its place.
use Rattle.std.proofs.Common.{◌≢◌, ℕ, List, refl}
use Rattle.std.specs.Prelude.{Option, Some}
use Rattle.output.specs.declared.Told.{Told}
use Rattle.output.specs.Output.{Tells}
use Rattle.volume_commands.specs.declared.handing.Handing.{Handing}
use Rattle.volume_commands.specs.declared.handing.Handing.TheVariants.{Put, TakenBeside, NotPut, Beside, Nowhere}
use Rattle.volume_commands.specs.Handing.{TellsHanding, handing_text}

-- what is told is its text
pub told_as : {E : Type 0} (contents : E → Option (List ℕ)) (name : List ℕ) (handing : Handing) (told : Told) (before after : E)
    → handing ≢ Put → Tells (Some (handing_text name handing)) told (contents before) (contents after)
    → TellsHanding contents name handing told before after
told_as contents name Put told before after not tells = absurd (not refl)
told_as contents name TakenBeside told before after not tells = tells
told_as contents name NotPut told before after not tells = tells
told_as contents name (Beside why) told before after not tells = tells
told_as contents name (Nowhere why) told before after not tells = tells
