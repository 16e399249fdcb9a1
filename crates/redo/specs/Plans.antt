-- What is done to the two files, step by step.
use Rattle.std.specs.Prelude.{ℕ, ◌+◌, ◌/◌, List, [], ◌∷◌, ◌++◌, length, map, if◌then◌else◌}
use Rattle.stable.specs.declared.Which.{Which}
use Rattle.stable.specs.declared.Which.TheVariants.{Log, Image}
use Rattle.std.specs.Str.{bytes_eq}
use Rattle.stable.specs.Disk.{Contents, Changes, Step, Write, Sync, numbered}
use Rattle.redo.specs.Record.{head, closed, directory_units, directory, first_data, record_units, standing, Standing, Nothing, Redo, Foreign}
use Rattle.redo.specs.Runs.{Run, singly, by_sixteen}

-- a run is written by one call
abbrev pub run_write : Which → Run → Step
run_write file r = Write file r.0 r.1

-- numbers are written to the log, from a unit on
abbrev pub directory_writes : ℕ → List ℕ → List Step
directory_writes at ns = map (run_write Log) (singly (numbered at (directory (directory_units (length ns)) ns)))

-- how many runs of sixteen so many units make
abbrev pub runs_of : ℕ → ℕ
runs_of count = (count + 15) / 16

-- units are written to the log, from one on, sixteen by a call
abbrev pub unit_writes : ℕ → List (List ℕ) → List Step
unit_writes at units = map (run_write Log) (by_sixteen (runs_of (length units)) at units)

-- what is written to the log behind the gate at this place: the head, each unit of the directory, all bytes, and the next gate, closed
abbrev pub body_writes : ℕ → ℕ → List ℕ → List (List ℕ) → List Step
body_writes name at ns units =
    Write Log (at + 1) (head name (length ns) ∷ []) ∷ directory_writes (at + 2) ns
    ++ (unit_writes (at + first_data (length ns)) units ++ Write Log (at + record_units (length ns)) (closed ∷ []) ∷ [])

-- a record is written behind its closed gate
abbrev pub to_write : ℕ → ℕ → Changes → List Step
to_write name at changes = body_writes name at (map (λ w. w.0) changes) (map (λ w. w.1) changes) ++ Sync Log ∷ []

-- these bytes are written to the gate at this place
abbrev pub to_gate : ℕ → List ℕ → List Step
to_gate at bytes = Write Log at (bytes ∷ []) ∷ Sync Log ∷ []

-- Changes are logged in the record at this place: it is on the disk, and the closed gate behind it, before its own gate is opened.
abbrev pub log_plan : ℕ → ℕ → Changes → List Step
log_plan name at changes = to_write name at changes ++ to_gate at (head name (length changes))

-- runs go to the image, and are on the disk before the first gate is closed
abbrev pub to_image : List Run → List Step
to_image runs = map (run_write Image) runs ++ Sync Image ∷ to_gate 0 closed

-- What is to be done by how the log stands. A gate that is closed is left alone: a crash while it is written may leave anything in it.
abbrev pub to_recover : Standing → List ℕ → List Step
to_recover Nothing gate = if bytes_eq gate closed then [] else to_gate 0 closed
to_recover (Redo changes) gate = to_image (singly changes)
to_recover Foreign gate = []

-- A recovery: what a program that ended has written to the log is kept first, so that what is read is what a crash leaves.
abbrev pub recover_plan : ℕ → Contents → List Step
recover_plan name log = Sync Log ∷ to_recover (standing name log) (log 0)
