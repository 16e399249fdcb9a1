-- The parts of transfers: their link, and their table of pending requests; what a call does to both.
use Rattle.std.specs.Prelude.{ℕ, List, Option}
use Rattle.records.specs.Told.{Told}
use Rattle.reissue.specs.declared.link.Link.{Ghosts as LinkWords}
use Rattle.reissue.specs.declared.table.Table.{Table}
use Rattle.reissue.specs.declared.transfers.Transfers.{Transfers}
use Rattle.reissue.specs.Entries.{pending_of}
use Rattle.reissue.specs.Moves.{Begun}
use Rattle.reissue.specs.Calls.{Truth}

-- the link that they go over
abbrev pub link_of : {L : Type 0} → Transfers L → L
link_of transfers = transfers.link

-- what is pending, and how far it was posted
abbrev pub table_of : {L : Type 0} → Transfers L → Table
table_of transfers = transfers.table

-- the requests that aren't settled, by their tickets
abbrev pub begun_in : {L : Type 0} → Transfers L → ℕ → Option Begun
begun_in transfers = pending_of transfers.table.pending

-- what a call does, said of the transfers before and after it: of their tables, of what the link was told, and of what it guarantees
abbrev pub Between : {L : Type 0} → LinkWords L → (Table → Table → List Told → List Told → Truth → Truth → Type 0)
    → Transfers L → Transfers L → Type 0
Between link Does old new =
    Does old.table new.table (link.history old.link) (link.history new.link) (link.truth old.link) (link.truth new.link)

-- with another link
abbrev pub with_link : {L : Type 0} → Transfers L → L → Transfers L
with_link transfers link = record transfers { link = link }
