-- What a log's gate and head ask for.
use Rattle.std.specs.Prelude.{ℕ, List, ◌==◌, ◌&&◌, if◌then◌else◌}
use Rattle.std.specs.Str.{bytes_eq}
use Rattle.stable.specs.Disk.{Contents}
use Rattle.redo.specs.declared.recovering.Asked.{Asked}
use Rattle.redo.specs.declared.recovering.Asked.TheVariants.{NothingMore, Changes, Another}
use Rattle.redo.specs.declared.recovering.Recovered.{Recovered}
use Rattle.redo.specs.declared.recovering.Recovered.TheVariants as recovered
use Rattle.redo.specs.declared.log_reading.Logged.{Logged}
use Rattle.redo.specs.declared.log_reading.Logged.TheVariants as logged
use Rattle.redo.specs.Record.{is_head, name_in, count_in, changes_in, Standing, Nothing, Redo, Foreign}

abbrev pub asks_of : ℕ → List ℕ → List ℕ → Asked
asks_of name gate first =
    if bytes_eq gate first && is_head first then (if name_in first == name then Changes (count_in first) else Another) else NothingMore

-- how a record stands that asks so
abbrev pub stands : Asked → Contents → Standing
stands NothingMore log = Nothing
stands (Changes count) log = Redo (changes_in log count)
stands Another log = Foreign

-- what a recovery answers, by how the log stands
abbrev pub answer_of : Standing → Recovered
answer_of Nothing = recovered.AsItWas
answer_of (Redo changes) = recovered.Redone
answer_of Foreign = recovered.Foreign

-- how a log stands of which this was read
abbrev pub standing_of : Logged → Standing
standing_of logged.Nothing = Nothing
standing_of (logged.Changes changes) = Redo changes.items
standing_of logged.Foreign = Foreign
