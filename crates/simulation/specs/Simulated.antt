-- What a run from two files comes to.
use Rattle.std.specs.Prelude.{◌≡◌, ◌⊎◌, ℕ, List, Option, Some, map, reverse}
use Rattle.std.specs.Borrow.{Bor}
use Rattle.bdev.specs.DriverState.{DriverState}
use Rattle.reincarnate.specs.declared.policy.Setup.{Setup}
use Rattle.records.specs.Marks.{gave_up}
use Rattle.output.specs.Output.{Tells}
use Rattle.output.specs.declared.Told.{Told}
use Rattle.schedule.specs.declared.Event.{Event}
use Rattle.schedule.specs.Headline.{Transcript}
use Rattle.schedule_text.specs.Events.{plain_event}
use Rattle.reply_text.specs.TranscriptText.{transcript_text}
use Rattle.world.specs.Beginning.{IsNotBegun}
use Rattle.world.specs.Reasons as run
use Rattle.world.specs.declared.run_refusal.RunRefusal.{RunRefusal}
use Rattle.world.specs.Occurs.{RunShows}
use Rattle.simulation.specs.Inputs.{HasSchedule, IsNoInput}
use Rattle.simulation.specs.Inputs as inputs
use Rattle.simulation.specs.Shown.{Shows}
use Rattle.simulation.specs.declared.inputs.File.{File}
use Rattle.simulation.specs.declared.inputs.InputRefusal.{InputRefusal}
use Rattle.simulation.specs.declared.show.SimulationStatus.{SimulationStatus}
use Rattle.simulation.specs.declared.show.SimulationStatus.TheVariants.{Refused}

-- the text of a run's transcript: its marks, oldest first
abbrev pub text_of : Transcript → List ℕ
text_of t = transcript_text (λ m. m) (reverse t.marks) t.unanswered

-- the transcript was written, or a part of it and then a line says why; the status says whether the device was given up
abbrev pub ShowsRun : Transcript → SimulationStatus → Option (List ℕ) → Option (List ℕ) → Option (List ℕ) → Option (List ℕ) → Type 0
ShowsRun t status out_old out_new err_old err_new = Shows (text_of t) (gave_up t.marks) status out_old out_new err_old err_new

-- a line was to say that nothing was run, and why
abbrev pub IsRefusedAs : List ℕ → SimulationStatus → Option (List ℕ) → Option (List ℕ) → Type 0
IsRefusedAs text status err_old err_new = (told : Told) × (status ≡ Refused told) × Tells (Some text) told err_old err_new

-- these events were run on an image, and what is shown of that was written; or no run is begun, and nothing went out but why
abbrev pub Runs : List ℕ → Setup → List DriverState → List Event → Type 0 → SimulationStatus → Option (List ℕ) → Option (List ℕ) → Option (List ℕ) → Option (List ℕ) → Type 0
Runs image setup supply events Nothing status out_old out_new err_old err_new =
    ((t : Transcript) × RunShows image setup supply events t × ShowsRun t status out_old out_new err_old err_new)
    ⊎ ((refusal : RunRefusal) × IsNotBegun image setup supply refusal × Nothing × IsRefusedAs (run.refusal_text refusal) status err_old err_new)

-- The files were read, and the schedule's events were run on the image: events that are those of the schedule's lines, wherever their calls'
-- paths and bytes stand. Or the files give no run, and nothing went out but why.
abbrev pub Simulates : File → File → Setup → List DriverState → Type 0 → SimulationStatus → Option (List ℕ) → Option (List ℕ) → Option (List ℕ) → Option (List ℕ) → Type 0
Simulates image schedule setup supply Nothing status out_old out_new err_old err_new =
    ((bytes : Bor (List ℕ)) × (events : List Event) × (image.bytes ≡ Some bytes) × HasSchedule schedule (map plain_event events)
    × Runs bytes.now setup supply events Nothing status out_old out_new err_old err_new)
    ⊎ ((refusal : InputRefusal) × IsNoInput image schedule refusal × Nothing × IsRefusedAs (inputs.refusal_text refusal) status err_old err_new)
