-- What a message may name.
use Rattle.std.specs.Prelude.{⊤, ◌≡◌, ◌⊎◌, ℕ, List, [], Option, Some, None, Result, Ok, Err}
use Rattle.tree.specs.declared.Attributes.{Attributes}
use Rattle.tree.specs.declared.Call.{Call}
use Rattle.tree.specs.declared.Call.TheVariants as call
use Rattle.tree.specs.declared.Outcome.{Outcome}
use Rattle.tree.specs.declared.Outcome.TheVariants as outcome
use Rattle.tree.specs.declared.Reply.TheVariants as reply
use Rattle.tree.specs.declared.PathFrom.{PathFrom}
use Rattle.tree.specs.declared.Start.{Start}
use Rattle.tree.specs.declared.Start.TheVariants.{Root, Inode}
use Rattle.fuse.specs.declared.request.Message.{Message}
use Rattle.fuse.specs.declared.request.Request.{Request}
use Rattle.fuse.specs.declared.request.Request.TheVariants as request
use Rattle.fuse_nodes.specs.Known.{Facts, Known, inode_at}
use Rattle.fuse_nodes.specs.Changes.{descriptor_of}
use Rattle.talks.specs.declared.refused.Refused.{Refused}
use Rattle.fuse_server.specs.declared.work.Reach.{Reach}
use Rattle.fuse_server.specs.Plans.{May, kind_of, plan_of}

-- the second node of a RENAME and of a LINK
abbrev pub second_of : Request → Option ℕ
second_of (request.Rename new_directory old_name new_name) = Some new_directory
second_of (request.Rename2 new_directory flags old_name new_name) = Some new_directory
second_of (request.Link file name) = Some file
second_of r = None

-- the inode of a node, if it is known, and can't be another file's
abbrev pub found_as : Result ℕ Refused → Option ℕ
found_as (Ok inode) = Some inode
found_as (Err refused) = None

abbrev pub inode_in : (ℕ → Option Facts) → Option ℕ → Option ℕ
inode_in nodes (Some id) = found_as (inode_at nodes id)
inode_in nodes None = None

-- what a message may name, by what is known before it: the inodes of its nodes, and its node's descriptor; and what it is for
abbrev pub reach_of : Known → Message → Reach
reach_of k m = record {
  own = inode_in k.nodes (Some m.node);
  other = inode_in k.nodes (second_of m.request);
  descriptor = descriptor_of (k.nodes m.node);
  plan = plan_of m.request;
}

-- a path that starts at this inode, and has these bytes
abbrev pub StartsAt : Option ℕ → Start → Type 0
StartsAt own Root = ⊥
StartsAt own (Inode inode) = own ≡ Some inode

pub record IsAt (own : Option ℕ) (name : List ℕ) (path : PathFrom) : Type 0 where
  pub start : StartsAt own path.start
  pub bytes : path.bytes.now ≡ name

-- a path that starts at one of the message's nodes
abbrev pub IsNamed : Reach → PathFrom → Type 0
IsNamed x path = StartsAt x.own path.start ⊎ StartsAt x.other path.start

-- each path of a call starts at one of them
abbrev pub AsksFrom : Reach → Call → Type 0
AsksFrom x (call.Open path flags mode) = IsNamed x path
AsksFrom x (call.Stat path) = IsNamed x path
AsksFrom x (call.Link old new) = IsNamed x old × IsNamed x new
AsksFrom x (call.Unlink path) = IsNamed x path
AsksFrom x (call.Mkdir path mode) = IsNamed x path
AsksFrom x (call.Rmdir path) = IsNamed x path
AsksFrom x (call.Rename old new) = IsNamed x old × IsNamed x new
AsksFrom x (call.Chmod path mode) = IsNamed x path
AsksFrom x (call.Chown path uid gid) = IsNamed x path
AsksFrom x (call.Utime path atime mtime) = IsNamed x path
AsksFrom x (call.Truncate path size) = IsNamed x path
AsksFrom x (call.Symlink target path) = IsNamed x path
AsksFrom x (call.Readlink path) = IsNamed x path
AsksFrom x (call.Lstat path) = IsNamed x path
AsksFrom x c = ⊤

-- The path is that of an inode itself, of which a look at a path that starts at one of them told in the exchange before.
pub record WasTold {S : Type 0} (x : Reach) (called : S → ℕ → ℕ → Call → Outcome → S → Type 0) (s : S) (now : ℕ)
    (path : PathFrom) : Type 0 where
  pub before : S
  pub session : ℕ
  pub looked : PathFrom
  pub was : Attributes
  pub named : IsNamed x looked
  pub answer : called before session now (call.Lstat looked) (outcome.Reply (reply.Inode was)) s
  pub at : IsAt (Some was.inode) [] path

-- Such an inode may be given an owner.
abbrev pub GivesTold : {S : Type 0} → Reach → (S → ℕ → ℕ → Call → Outcome → S → Type 0) → S → ℕ → Call → Type 0
GivesTold x called s now (call.Chown path uid gid) = WasTold x called s now path
GivesTold x called s now c = ⊥

-- What sessions may answer to such a call, where the message may ask it.
pub record CalledFrom {S : Type 0} (x : Reach) (called : S → ℕ → ℕ → Call → Outcome → S → Type 0) (s : S) (session now : ℕ) (asked : Call)
    (answered : Outcome) (t : S) : Type 0 where
  pub planned : May x.plan (kind_of asked)
  pub named : AsksFrom x asked ⊎ GivesTold x called s now asked
  pub answer : called s session now asked answered t
