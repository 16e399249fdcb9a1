-- The history that two files in memory keep.
use Rattle.std.specs.Prelude.{ℕ, List, map, replicate, Bool, true, false}
use Rattle.std.proofs.Common.{get_or}
use Rattle.stable.specs.declared.Which.{Which}
use Rattle.stable.specs.declared.Which.TheVariants.{Log, Image}
use Rattle.stable.specs.declared.memory.Asked.{Asked}
use Rattle.stable.specs.declared.memory.Asked.TheVariants as asked
use Rattle.stable.specs.declared.memory.Happening.{Happening}
use Rattle.stable.specs.Disk.{Contents, Step, Write, Sync, Event, Did, Failed, restarted}
use Rattle.stable.specs.Runs.{Known}

-- units in memory, and zeros behind them
abbrev pub contents_of : List (List ℕ) → Contents
contents_of units n = get_or units n (replicate 4096 0)

abbrev pub step_of : Asked → Step
step_of (asked.Write file at units) = Write file at units.items
step_of (asked.Sync file) = Sync file

abbrev pub event : Bool → Step → Event
event true step = Did step
event false step = Failed step

abbrev pub event_of : Happening → Event
event_of h = event h.done (step_of h.asked)

-- at first each unit is on the disk
abbrev pub known_of : List (List ℕ) → List (List ℕ) → List Happening → Known
known_of log image history = record { first = restarted (contents_of log) (contents_of image); events = map event_of history }

abbrev pub same_file : Which → Which → Bool
same_file Log Log = true
same_file Image Image = true
same_file Log Image = false
same_file Image Log = false
