-- What a mount knows of handles.
use Rattle.std.specs.Prelude.{ℕ, ◌+◌, List, map, Option, Some, Result, Ok, Err}
use Rattle.std.specs.Borrow.{Bor}
use Rattle.std.specs.BTreeMap.{get}
use Rattle.std.specs.Option.{option_map, ok_or}
use Rattle.std.specs.Ordering.{nat_cmp}
use Rattle.errno.specs.declared.Errno.TheVariants.{EBADF}
use Rattle.tree.specs.declared.Entry.{Entry}
use Rattle.talks.specs.Refusals.{then_of}
use Rattle.talks.specs.declared.refused.Refused.{Refused}
use Rattle.talks.specs.declared.refused.Refused.TheVariants.{By}
use Rattle.fuse_nodes.specs.Tables.{put}
use Rattle.fuse_nodes.specs.declared.handles.Names.{Names}
use Rattle.fuse_nodes.specs.declared.handles.Handle.{Handle}
use Rattle.fuse_nodes.specs.declared.handles.Handle.TheVariants as handle
use Rattle.fuse_nodes.specs.declared.handles.Handles.{Handles}

-- the names of a directory: its inode, that of the one above, and each name with its inode
pub record Listing : Type 0 where
  pub own : ℕ
  pub above : ℕ
  pub entries : List (ℕ × List ℕ)

-- what is open: a file, by its node, or a directory, with its names, once they were asked for
pub data Opened : Type 0 where
  File : ℕ → Opened
  Directory : ℕ → Option Listing → Opened

-- what is open under each number, and the number of the next handle
pub record Table : Type 0 where
  pub handles : ℕ → Option Opened
  pub next : ℕ

abbrev pub listing_of : Names → Listing
listing_of names = record {
  own = names.own;
  above = names.above;
  entries = map (λ (e : Entry). (e.inode, e.name.items)) names.entries.items;
}

abbrev pub opened_of : Handle → Opened
opened_of (handle.File node) = File node
opened_of (handle.Directory node names) = Directory node (option_map listing_of names)

abbrev pub table_of : Handles → Table
table_of handles = record { handles = λ id. option_map opened_of (get nat_cmp handles.handles id); next = handles.next }

-- a handle more
abbrev pub with_handle : Table → Opened → Table
with_handle t opened = record { handles = put t.handles t.next (Some opened); next = t.next + 1 }

-- what is open under a number
abbrev pub open_at : (ℕ → Option Opened) → ℕ → Result Opened Refused
open_at handles id = ok_or (handles id) (By EBADF)

-- the node of a file, of a directory, and the names that are kept with it
abbrev pub file_of : Opened → Result ℕ Refused
file_of (File node) = Ok node
file_of (Directory node names) = Err (By EBADF)

abbrev pub directory_of : Opened → Result ℕ Refused
directory_of (File node) = Err (By EBADF)
directory_of (Directory node names) = Ok node

abbrev pub names_of : Opened → Result Listing Refused
names_of (File node) = Err (By EBADF)
names_of (Directory node names) = ok_or names (By EBADF)

abbrev pub file_at : (ℕ → Option Opened) → ℕ → Result ℕ Refused
file_at handles id = then_of (open_at handles id) file_of

abbrev pub directory_at : (ℕ → Option Opened) → ℕ → Result ℕ Refused
directory_at handles id = then_of (open_at handles id) directory_of

abbrev pub names_at : (ℕ → Option Opened) → ℕ → Result Listing Refused
names_at handles id = then_of (open_at handles id) names_of

-- A directory keeps names.
abbrev pub keeps : Listing → Opened → Opened
keeps names (File node) = File node
keeps names (Directory node old) = Directory node (Some names)

-- what was found, as it is seen
abbrev pub seen_handle : Result (Bor Handle) Refused → Result Opened Refused
seen_handle (Ok handle) = Ok (opened_of handle.now)
seen_handle (Err refused) = Err refused

abbrev pub seen_names : Result (Bor Names) Refused → Result Listing Refused
seen_names (Ok names) = Ok (listing_of names.now)
seen_names (Err refused) = Err refused
