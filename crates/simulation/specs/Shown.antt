-- What a program says of a run.
use Rattle.std.specs.Prelude.{◌≡◌, ℕ, List, Bool, true, false, Option, Some, codes}
use Rattle.std.specs.Io.KnownBytes.{Appends}
use Rattle.records.specs.Marks.{Mark, GaveUp}
use Rattle.output.specs.Output.{AppendsPart, Tells}
use Rattle.output.specs.declared.OutputRefusal.{OutputRefusal}
use Rattle.output.specs.declared.OutputRefusal.TheVariants as output
use Rattle.simulation.specs.declared.show.SimulationStatus.{SimulationStatus}
use Rattle.simulation.specs.declared.show.SimulationStatus.TheVariants.{Done, Refused, GivenUp}

-- the status of the process
abbrev pub status_number : SimulationStatus → ℕ
status_number Done = 0
status_number (Refused told) = 1
status_number GivenUp = 3

-- whether a mark says that the device was given up
abbrev pub is_giving_up : Mark → Bool
is_giving_up GaveUp = true
is_giving_up _ = false

-- why a transcript wasn't written
abbrev pub output_text : OutputRefusal → List ℕ
output_text output.OutOfMemory = codes "OutOfMemory"
output_text output.NotWritten = codes "cannot write standard output"

-- the transcript was written, and nothing was said; the status says whether the device was given up. Or a part of it was written, and a line
-- was to say why not all.
abbrev pub Shows : List ℕ → Bool → SimulationStatus → Option (List ℕ) → Option (List ℕ) → Option (List ℕ) → Option (List ℕ) → Type 0
Shows text gave_up Done out_old out_new err_old err_new = (gave_up ≡ false) × Appends out_old out_new text × (err_new ≡ err_old)
Shows text gave_up GivenUp out_old out_new err_old err_new = (gave_up ≡ true) × Appends out_old out_new text × (err_new ≡ err_old)
Shows text gave_up (Refused told) out_old out_new err_old err_new =
    AppendsPart out_old out_new text × ((refusal : OutputRefusal) × Tells (Some (output_text refusal)) told err_old err_new)
