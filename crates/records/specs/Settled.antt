-- When a server writes nothing: while calls only look.
use Rattle.std.specs.Prelude.{◌≡◌, ℕ, List, [], ◌∷◌, Bool, true, false, not, ◌&&◌, ◌||◌, nat_lt, Some, None, Ok, Err, IsTrue}
use Rattle.layout.specs.declared.Geometry.{Geometry}
use Rattle.message.specs.Good.{is_write}
use Rattle.tree.specs.declared.Who.{Who}
use Rattle.tree.specs.declared.Call.{Call}
use Rattle.tree.specs.declared.Call.TheVariants.{Open, Close, Dup, Read, Seek, Stat, Fstat, Readdir, Statfs, Readlink, Lstat}
use Rattle.tree.specs.Tree.{Tree}
use Rattle.tree.specs.Flags.{creates, truncates}
use Rattle.tree.specs.Changes.{open_file_of}
use Rattle.records.specs.Marks.{Mark, Issued, Took}
use Rattle.records.specs.Told.{Told, Posted}
use Rattle.records.specs.Legal.{is_success, is_sync, tree_after}

-- whether the node has a link, if it is there
abbrev pub has_link : Tree → ℕ → Bool
has_link t n = elim (t.nodes n) [ None ↦ true | Some node ↦ nat_lt 0 node.links ]

-- whether a call only looks: no node is changed, whatever it answers. Open looks unless it may make or empty a file, close unless the file has
-- no link.
abbrev pub only_looks : Tree → Who → Call → Bool
only_looks t who (Open path flags mode) = not (creates flags.0) && not (truncates flags.0)
only_looks t who (Close fd) = elim (open_file_of t who.session fd) [ Ok found ↦ has_link t found.1.inode | Err e ↦ true ]
only_looks t who (Dup fd) = true
only_looks t who (Read fd count) = true
only_looks t who (Seek fd whence offset) = true
only_looks t who (Stat path) = true
only_looks t who (Fstat fd) = true
only_looks t who (Readdir fd) = true
only_looks t who Statfs = true
only_looks t who (Readlink path) = true
only_looks t who (Lstat path) = true
only_looks t who _ = false

-- whether calls only looked since the last sync that was answered ok, or since the beginning where none was; the tree is the one at first
abbrev pub is_settled : Geometry → Tree → List Mark → Bool
is_settled g tree [] = true
is_settled g tree (Took who now call answer ∷ marks) =
    (is_sync call && is_success answer) || (only_looks (tree_after g tree marks) who call && is_settled g tree marks)
is_settled g tree (_ ∷ marks) = is_settled g tree marks

-- whether no write was issued since the last call was taken
abbrev pub none_written : List Mark → Bool
none_written [] = true
none_written (Took who now call answer ∷ marks) = true
none_written (Issued r e ∷ marks) = not (is_write r.kind) && none_written marks
none_written (_ ∷ marks) = none_written marks

-- in each call that only looks, after none but such since the last sync that was answered ok, and since the call before it, no write was issued
abbrev pub LookingWritesNothing : Geometry → Tree → List Mark → Type 0
LookingWritesNothing g tree [] = Unit {0}
LookingWritesNothing g tree (Took who now call answer ∷ marks) =
    LookingWritesNothing g tree marks
    × (IsTrue (only_looks (tree_after g tree marks) who call && is_settled g tree marks) → none_written marks ≡ true)
LookingWritesNothing g tree (_ ∷ marks) = LookingWritesNothing g tree marks

-- each request that a link was told of is a read
abbrev pub PostsReads : List Told → Type 0
PostsReads [] = Unit {0}
PostsReads (Posted to r accepted ∷ told) = (is_write r.kind ≡ false) × PostsReads told
PostsReads (_ ∷ told) = PostsReads told
