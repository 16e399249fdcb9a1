-- What a call answers, and its effect: its answer with the tree after it, or its refusal.
use Rattle.std.specs.Prelude.{ℕ, List, take, map, Result, Ok, Err, nat_lt, if◌then◌else◌}
use Rattle.layout.specs.declared.Geometry.{Geometry}
use Rattle.errno.specs.declared.Errno.{Errno}
use Rattle.errno.specs.declared.Errno.TheVariants.{ENOSPC}
use Rattle.tree.specs.declared.Attributes.{Attributes}
use Rattle.tree.specs.declared.Statfs.{Statfs}
use Rattle.tree.specs.declared.Entry.{Entry}
use Rattle.tree.specs.declared.LinkTarget.{LinkTarget}
use Rattle.tree.specs.declared.Reply.{Reply}
use Rattle.tree.specs.declared.Reply.TheVariants.{Refused, Done, Descriptor, Bytes, Wrote, At, Inode, Names, Space, Target}
use Rattle.tree.specs.Names.{Name, Names as NameMap}
use Rattle.tree.specs.Tree.{Tree}
use Rattle.tree.specs.Space.{zones_used, data_zones}

-- an answer, as definitions have it: a reply of Rust owns its bytes and can't be made here
pub data Answer : Type 0 where
  refused : Errno → Answer
  done : Answer
  descriptor : ℕ → Answer
  some_bytes : List ℕ → Answer
  wrote : ℕ → Answer
  position : ℕ → Answer
  node_is : Attributes → Answer
  names_are : NameMap → Answer
  room_is : Statfs → Answer

-- an entry of a reply, as definitions have it
abbrev pub entry_of : Entry → Name × ℕ
entry_of e = (e.name.items, e.inode)

-- the bytes of a target, which is kept in place
abbrev pub bytes_of_target : LinkTarget → List ℕ
bytes_of_target target = take target.length target.bytes

-- what a reply says
abbrev pub answer_of : Reply → Answer
answer_of (Refused e) = refused e
answer_of Done = done
answer_of (Descriptor n) = descriptor n
answer_of (Bytes bytes) = some_bytes bytes.items
answer_of (Wrote n) = wrote n
answer_of (At n) = position n
answer_of (Inode a) = node_is a
answer_of (Names names) = names_are (map entry_of names.items)
answer_of (Space r) = room_is r
answer_of (Target target) = some_bytes (bytes_of_target target)

-- an answer and the tree after the call, or the refusal
abbrev pub Effect : Type 0
Effect = Result (Answer × Tree) Errno

-- refused where the tree after it would use more zones than there are
abbrev pub if_it_fits : Geometry → Answer → Tree → Effect
if_it_fits g answer after = if nat_lt (data_zones g) (zones_used g after) then Err ENOSPC else Ok (answer, after)
