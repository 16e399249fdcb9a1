-- What unmounting promises, over any link.
use Rattle.std.specs.Prelude.{◌≡◌, List, [], Bool, true, false, if◌then◌else◌}
use Rattle.tree.specs.Tree.{Tree}
use Rattle.records.specs.Marks.{Mark, gave_up}
use Rattle.records.specs.Disk.{Contents, HasTrueReplies}
use Rattle.records.specs.Acts.{Act, has_absorbed, marks_after}
use Rattle.records.specs.Legal.{IsSynced, tree_after}
use Rattle.records.specs.ServerCall.{Serving, Serves, Leads, Rules}

-- What unmounting gives back: done, or why not, in the order of the refusals' numbers.
pub data Unmounting : Type 0 where
  Unmounted : Unmounting
  LinkEnded : Unmounting
  Eio : Unmounting
  Busy : Unmounting

-- which of these it is: the link ended, the device is given up, a file is open, or none of these
abbrev pub unmounting_of : Bool → Bool → Bool → Unmounting
unmounting_of ended given_up is_busy = if ended then LinkEnded else if given_up then Eio else if is_busy then Busy else Unmounted

-- Unmounting syncs: where it is done, over true replies, the disk alone holds the tree. Where a file is open, the device was given up or a
-- take gave End before it, nothing is done.
pub record UnmountKeeps (old : Serving) (result : Unmounting) (new : Serving) : Type 0 where
  pub acts : List Act
  pub leads : Leads old acts new
  pub none_absorbed : has_absorbed acts ≡ false
  pub same_files : new.is_busy ≡ old.is_busy
  pub busy : old.is_busy ≡ true → acts ≡ []
  pub after_end : old.ended ≡ true → acts ≡ []
  pub rules : (image : Contents) (tree : Tree) (marks : List Mark) → old.Agrees image tree marks → Rules old acts new marks
  pub is : (image : Contents) (tree : Tree) (marks : List Mark) → old.Agrees image tree marks
      → result ≡ unmounting_of new.ended (gave_up (marks_after acts marks)) old.is_busy
  pub after_giving_up : (image : Contents) (tree : Tree) (marks : List Mark) → old.Agrees image tree marks
      → gave_up marks ≡ true → acts ≡ []
  pub serves : (image : Contents) (tree : Tree) (marks : List Mark) → Serves old image tree marks
      → Serves new image tree (marks_after acts marks)
  pub synced : (image : Contents) (tree : Tree) (marks : List Mark) → Serves old image tree marks → result ≡ Unmounted
      → HasTrueReplies image (marks_after acts marks)
      → IsSynced old.geometry image (marks_after acts marks) (tree_after old.geometry tree (marks_after acts marks))
