-- What is made, and whose it becomes.
use Rattle.std.specs.Prelude.{◌≡◌, ◌⊎◌, ℕ, List, [], ◌∷◌, ◌++◌}
use Rattle.tree.specs.declared.Attributes.{Attributes}
use Rattle.tree.specs.declared.Call.{Call}
use Rattle.tree.specs.declared.Call.TheVariants as call
use Rattle.tree.specs.declared.OpenFlags.{OpenFlags}
use Rattle.tree.specs.declared.PathFrom.{PathFrom}
use Rattle.tree.specs.declared.Reply.TheVariants as reply
use Rattle.tree.specs.declared.Start.TheVariants.{Inode}
use Rattle.fuse.specs.declared.request.Message.{Message}
use Rattle.talks.specs.Plain.{at}
use Rattle.talks.specs.declared.heard.Heard.{Heard}
use Rattle.fuse_server.specs.Calls.{replied}
use Rattle.fuse_server.specs.Reach.{IsAt}
use Rattle.fuse_server.specs.declared.making.Owner.{Owner}
use Rattle.fuse_server.specs.declared.work.Reach.{Reach}

-- what a message makes, and whose it becomes: a file or a directory with these permissions, a link with this target, or one more name for
-- the second node's file
pub data Making : Type 0 where
  NewFile : ℕ → Owner → Making
  NewDirectory : ℕ → Owner → Making
  NewLink : List ℕ → Owner → Making
  NewName : Making

-- the user and the group that a message's head names
abbrev pub asker : Message → Owner
asker m = record { uid = m.uid; gid = m.gid }

-- an inode itself
abbrev pub itself : ℕ → PathFrom
itself inode = record { start = Inode inode; bytes = at [] }

-- what a path names becomes an owner's
abbrev pub given_to : PathFrom → Owner → Call × Heard
given_to path owner = replied (call.Chown path owner.uid owner.gid) reply.Done

-- a look at what a path names itself
abbrev pub seen_at : PathFrom → Attributes → Call × Heard
seen_at path was = replied (call.Lstat path) (reply.Inode was)

-- a descriptor is closed, or it isn't
abbrev pub MaybeClosed : ℕ → List (Call × Heard) → Type 0
MaybeClosed fd calls = (calls ≡ []) ⊎ ((h : Heard) × (calls ≡ (call.Close fd, h) ∷ []))

-- By these calls alone this is made at a path, given to its owner, and looked at: it is so. A link is given by its inode, of which a look
-- tells, for a path that ends in it leads further. (Before the open that makes a file others may be tried. An open that a plan to make
-- allows is one that makes.)
abbrev pub AreMaking : Reach → Making → PathFrom → Attributes → List (Call × Heard) → Type 0
AreMaking x (NewFile mode owner) path was calls = (tried : List (Call × Heard)) × (flags : OpenFlags) × (fd : ℕ)
    × (closed : List (Call × Heard)) × MaybeClosed fd closed
    × (calls ≡ tried ++ (replied (call.Open path flags mode) (reply.Descriptor fd)
    ∷ (closed ++ (given_to path owner ∷ seen_at path was ∷ []))))
AreMaking x (NewDirectory mode owner) path was calls =
    calls ≡ replied (call.Mkdir path mode) reply.Done ∷ given_to path owner ∷ seen_at path was ∷ []
AreMaking x (NewLink target owner) path was calls = (link : Attributes) × (calls ≡ replied (call.Symlink (at target) path) reply.Done
    ∷ seen_at path link ∷ given_to (itself link.inode) owner ∷ seen_at path was ∷ [])
AreMaking x NewName path was calls =
    (old : PathFrom) × IsAt x.other [] old × (calls ≡ replied (call.Link old path) reply.Done ∷ seen_at path was ∷ [])
