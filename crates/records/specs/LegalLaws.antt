-- Laws of legal records, of what a server would read back, and of sessions.
use Rattle.std.specs.Prelude.{◌≡◌, ℕ, List, ◌∷◌, ◌++◌, Bool, true, false, None, IsTrue}
use Rattle.errno.specs.declared.Errno.TheVariants.{EIO, ENOMEM}
use Rattle.layout.specs.declared.Geometry.{Geometry}
use Rattle.tree.specs.declared.Who.{Who}
use Rattle.tree.specs.declared.Call.{Call}
use Rattle.tree.specs.Tree.{Tree}
use Rattle.tree.specs.Answers.{Answer, refused}
use Rattle.volume.specs.Reading.{blocks_of}
use Rattle.records.specs.Marks.{Mark, Took, gave_up, IsBeginning}
use Rattle.records.specs.Open.{IsWellFormed}
use Rattle.records.specs.Disk.{Contents, disk_after, unsure}
use Rattle.records.specs.Legal.{is_sync, is_success, may_lack_memory, tree_after_answer, tree_after, IsAtFirst, IsSynced, IsLegal}
use Rattle.records.specs.View.{server_view, IsCovered}
use Rattle.records.specs.Settled.{is_settled, none_written, LookingWritesNothing}
use Rattle.records.specs.ServerCall.{Outcome}
use Rattle.records.specs.Session.{calls_of, Seen, IsSession, IsNewSession, SessionState, caller_of, AreCallsOf, IsMadeFor, SessionCallKeeps}

-- a legal record has legal beginnings
abbrev pub BeginningsAreLegal : Type 0
BeginningsAreLegal =
    (g : Geometry) (image : Contents) (tree : Tree) (later marks : List Mark) → IsLegal g image tree (later ++ marks)
    → IsLegal g image tree marks

-- whether the mark is a call
abbrev pub is_call : Mark → Bool
is_call (Took who now call answer) = true
is_call _ = false

-- calls alone move the tree
abbrev pub OnlyCallsMoveTree : Type 0
OnlyCallsMoveTree =
    (g : Geometry) (tree : Tree) (m : Mark) (marks : List Mark) → is_call m ≡ false → tree_after g tree (m ∷ marks) ≡ tree_after g tree marks

-- after the device was given up each answer is EIO, and the tree stays
abbrev pub GivenUpStays : Type 0
GivenUpStays =
    (g : Geometry) (image : Contents) (tree : Tree) (marks : List Mark) (who : Who) (now : ℕ) (call : Call) (answer : Answer)
    → gave_up marks ≡ true → IsLegal g image tree (Took who now call answer ∷ marks)
    → (answer ≡ refused EIO) × (tree_after g tree (Took who now call answer ∷ marks) ≡ tree_after g tree marks)

-- want of memory leaves the tree
abbrev pub NoMemoryLeaves : Type 0
NoMemoryLeaves =
    (g : Geometry) (tree : Tree) (who : Who) (now : ℕ) (call : Call) → IsTrue (may_lack_memory g tree who now call)
    → tree_after_answer g tree who now call (refused ENOMEM) ≡ tree

-- after a sync that answered ok nothing is unsure, and the disk alone holds the tree
abbrev pub SyncedIsHeld : Type 0
SyncedIsHeld =
    (g : Geometry) (image : Contents) (tree : Tree) (marks : List Mark) (who : Who) (now : ℕ) (call : Call) (answer : Answer)
    → gave_up marks ≡ false → IsTrue (is_sync call) → IsTrue (is_success answer) → IsLegal g image tree (Took who now call answer ∷ marks)
    → IsSynced g image marks (tree_after g tree (Took who now call answer ∷ marks))

-- where calls only looked since the last sync that was answered ok, and no write was issued since the last call, so it is as well
abbrev pub SettledIsHeld : Type 0
SettledIsHeld =
    (g : Geometry) (image : Contents) (tree : Tree) (marks : List Mark) → IsAtFirst g image tree → IsWellFormed marks
    → IsLegal g image tree marks → LookingWritesNothing g tree marks → is_settled g tree marks ≡ true → none_written marks ≡ true
    → IsSynced g image marks (tree_after g tree marks)

-- without frames a server would read back the disk, of which nothing may be unsure
pub record WithoutFrames (g : Geometry) (image : Contents) (marks : List Mark) : Type 0 where
  pub view : server_view g (λ block. None) image marks ≡ blocks_of g (disk_after image marks)
  pub sure : IsCovered g (λ block. None) marks → (place : ℕ) → unsure marks place ≡ false

-- a session's own calls grow with the record: what they were is a beginning of what they are
abbrev pub OwnCallsGrow : Type 0
OwnCallsGrow =
    (number place : ℕ) (later marks : List Mark) → IsBeginning (calls_of number place marks) (calls_of number place (later ++ marks))

-- a session that was just made is one
abbrev pub NewSessionIsSession : Type 0
NewSessionIsSession = (s : Seen) (marks : List Mark) → IsNewSession s marks → IsSession s marks

-- a session's own calls are all made by its user and group: it has none at first, and each call keeps it
pub record OwnCallsAreByItsUser (g : Geometry) (image : Contents) : Type 0 where
  pub at_first : (uid gid : ℕ) (s : SessionState) (marks : List Mark) → IsMadeFor uid gid s marks → AreCallsOf (caller_of s) s.knows.mine
  pub after_call : (old new : SessionState) (who : Who) (now : ℕ) (call : Call) (outcome : Outcome)
      → SessionCallKeeps g image old who now call outcome new → AreCallsOf (caller_of old) old.knows.mine
      → AreCallsOf (caller_of new) new.knows.mine
