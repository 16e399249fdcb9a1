-- When a record is legal: each answer is that of the tree, which each call moves once.
use Rattle.std.specs.Prelude.{◌≡◌, ◌⊎◌, ℕ, List, [], ◌∷◌, Bool, true, false, ◌&&◌, if◌then◌else◌, IsTrue}
use Rattle.errno.specs.declared.Errno.TheVariants.{EIO, ENOMEM}
use Rattle.layout.specs.declared.Geometry.{Geometry}
use Rattle.tree.specs.declared.Who.{Who}
use Rattle.tree.specs.declared.Call.{Call}
use Rattle.tree.specs.declared.Call.TheVariants.{Sync}
use Rattle.tree.specs.Tree.{Tree}
use Rattle.tree.specs.IsTree.{IsClosed}
use Rattle.tree.specs.Answers.{Answer, refused}
use Rattle.tree.specs.Effects.{reply_to, tree_after_call, may_want_memory}
use Rattle.volume.specs.Reading.{blocks_of}
use Rattle.volume.specs.Holds.{HoldsVolume}
use Rattle.records.specs.Marks.{Mark, Took, gave_up}
use Rattle.records.specs.Disk.{Contents, disk_after, IsSure}

-- the image holds the tree, in which no file is open
pub record IsAtFirst (g : Geometry) (image : Contents) (tree : Tree) : Type 0 where
  pub holds : HoldsVolume g (blocks_of g image) tree
  pub closed : IsClosed tree

-- whether the answer is no refusal
abbrev pub is_success : Answer → Bool
is_success (refused e) = false
is_success _ = true

-- whether the answer is want of memory
abbrev pub is_no_memory : Answer → Bool
is_no_memory (refused ENOMEM) = true
is_no_memory _ = false

-- whether the call is sync
abbrev pub is_sync : Call → Bool
is_sync Sync = true
is_sync _ = false

-- for read and readdir, where the tree's answer is a success, want of memory may be answered in its place
abbrev pub may_lack_memory : Geometry → Tree → Who → ℕ → Call → Bool
may_lack_memory g tree who now call = may_want_memory call && is_success (reply_to g tree who now call)

-- the tree after a call that was answered so: the call moves it, but for want of memory
abbrev pub tree_after_answer : Geometry → Tree → Who → ℕ → Call → Answer → Tree
tree_after_answer g tree who now call answer =
    if may_lack_memory g tree who now call && is_no_memory answer then tree else tree_after_call g tree who now call

-- the tree now: moved by each call that was taken before the device was given up
abbrev pub tree_after : Geometry → Tree → List Mark → Tree
tree_after g tree [] = tree
tree_after g tree (Took who now call answer ∷ marks) =
    if gave_up marks then tree_after g tree marks
    else tree_after_answer g (tree_after g tree marks) who now call answer
tree_after g tree (_ ∷ marks) = tree_after g tree marks

-- the answer is the tree's, or want of memory where that is allowed
abbrev pub IsReplyOf : Geometry → Tree → Who → ℕ → Call → Answer → Type 0
IsReplyOf g tree who now call answer =
    (answer ≡ reply_to g tree who now call)
    ⊎ (IsTrue (may_lack_memory g tree who now call) × (answer ≡ refused ENOMEM))

-- nothing is unsure, and the disk alone holds the tree
pub record IsSynced (g : Geometry) (image : Contents) (marks : List Mark) (now : Tree) : Type 0 where
  pub sure : IsSure marks
  pub holds : HoldsVolume g (blocks_of g (disk_after image marks)) now

-- a call is taken before the device was given up: its answer is the tree's, and a sync that answered ok left the tree on the disk
pub record IsLegalCall (g : Geometry) (image : Contents) (before : Tree) (marks : List Mark) (who : Who) (now : ℕ) (call : Call) (answer : Answer) : Type 0 where
  pub replies : IsReplyOf g before who now call answer
  pub syncs : IsTrue (is_sync call) → IsTrue (is_success answer)
      → IsSynced g image marks (tree_after_answer g before who now call answer)

-- a call is taken before the device was given up, or after it, where each answer is EIO
abbrev pub IsLegalTook : Geometry → Contents → Tree → List Mark → Bool → Who → ℕ → Call → Answer → Type 0
IsLegalTook g image before marks false who now call answer = IsLegalCall g image before marks who now call answer
IsLegalTook g image before marks true who now call answer = answer ≡ refused EIO

-- each call that was taken is legal after the marks before it; the tree is the one that the image held at first
abbrev pub IsLegal : Geometry → Contents → Tree → List Mark → Type 0
IsLegal g image tree [] = Unit {0}
IsLegal g image tree (Took who now call answer ∷ marks) =
    IsLegal g image tree marks
    × IsLegalTook g image (tree_after g tree marks) marks (gave_up marks) who now call answer
IsLegal g image tree (_ ∷ marks) = IsLegal g image tree marks
