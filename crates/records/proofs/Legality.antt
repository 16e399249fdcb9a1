-- Laws of legal records.
use Rattle.std.specs.Prelude.{◌≡◌, ℕ, List, [], ◌∷◌, ◌++◌, Bool, true, false, ◌&&◌, if◌then◌else◌, IsTrue, refl}
use Rattle.errno.specs.declared.Errno.TheVariants.{EIO, ENOMEM}
use Rattle.layout.specs.declared.Geometry.{Geometry}
use Rattle.tree.specs.declared.Who.{Who}
use Rattle.tree.specs.declared.Call.{Call}
use Rattle.tree.specs.Tree.{Tree}
use Rattle.tree.specs.Answers.{Answer, refused}
use Rattle.tree.specs.Effects.{tree_after_call}
use Rattle.records.specs.Marks.{Mark, Started, Answered, Flush, GaveUp, Took, Issued, Fault, gave_up}
use Rattle.records.specs.Disk.{Contents}
use Rattle.records.specs.Legal.{is_sync, is_success, is_no_memory, may_lack_memory, tree_after_answer, tree_after, IsSynced, IsLegal, IsLegalTook}
use Rattle.records.specs.LegalLaws.{is_call}

-- the marks before the newest are legal
legal_before : (g : Geometry) (image : Contents) (tree : Tree) (m : Mark) (marks : List Mark) → IsLegal g image tree (m ∷ marks) → IsLegal g image tree marks
legal_before g image tree (Started e) marks h = h
legal_before g image tree (Answered a) marks h = h
legal_before g image tree Flush marks h = h
legal_before g image tree GaveUp marks h = h
legal_before g image tree (Took who now call answer) marks h = h.0
legal_before g image tree (Issued r e) marks h = h
legal_before g image tree (Fault e cause) marks h = h

-- and so is each beginning
pub beginnings_are_legal : (g : Geometry) (image : Contents) (tree : Tree) (later marks : List Mark) → IsLegal g image tree (later ++ marks)
    → IsLegal g image tree marks
beginnings_are_legal g image tree [] marks h = h
beginnings_are_legal g image tree (m ∷ later) marks h =
    beginnings_are_legal g image tree later marks (legal_before g image tree m (later ++ marks) h)

-- a mark that is no call leaves the tree
pub only_calls_move_tree : (g : Geometry) (tree : Tree) (m : Mark) (marks : List Mark) → is_call m ≡ false
    → tree_after g tree (m ∷ marks) ≡ tree_after g tree marks
only_calls_move_tree g tree (Started e) marks other = refl
only_calls_move_tree g tree (Answered a) marks other = refl
only_calls_move_tree g tree Flush marks other = refl
only_calls_move_tree g tree GaveUp marks other = refl
only_calls_move_tree g tree (Took who now call answer) marks other = cc
only_calls_move_tree g tree (Issued r e) marks other = refl
only_calls_move_tree g tree (Fault e cause) marks other = refl

-- what holds of a call after giving up
answer_given_up : (g : Geometry) (image : Contents) (before : Tree) (marks : List Mark) (b : Bool) (who : Who) (now : ℕ) (call : Call) (answer : Answer)
    → b ≡ true → IsLegalTook g image before marks b who now call answer → answer ≡ refused EIO
answer_given_up g image before marks true who now call answer given h = h
answer_given_up g image before marks false who now call answer given h = cc

-- the answer is EIO, and the tree stays
pub given_up_stays : (g : Geometry) (image : Contents) (tree : Tree) (marks : List Mark) (who : Who) (now : ℕ) (call : Call) (answer : Answer)
    → gave_up marks ≡ true → IsLegal g image tree (Took who now call answer ∷ marks)
    → (answer ≡ refused EIO) × (tree_after g tree (Took who now call answer ∷ marks) ≡ tree_after g tree marks)
given_up_stays g image tree marks who now call answer given h =
    (answer_given_up g image (tree_after g tree marks) marks (gave_up marks) who now call answer given h.1, rw given refl)

-- want of memory leaves the tree
pub no_memory_leaves : (g : Geometry) (tree : Tree) (who : Who) (now : ℕ) (call : Call) → IsTrue (may_lack_memory g tree who now call)
    → tree_after_answer g tree who now call (refused ENOMEM) ≡ tree
no_memory_leaves g tree who now call lacks = at (may_lack_memory g tree who now call) lacks
  where
    at : (b : Bool) → IsTrue b → (if b && is_no_memory (refused ENOMEM) then tree else tree_after_call g tree who now call) ≡ tree
    at true is_true = refl
    at false is_true = cc

-- what holds of a sync before giving up
held_at : (g : Geometry) (image : Contents) (before : Tree) (marks : List Mark) (b : Bool) (who : Who) (now : ℕ) (call : Call) (answer : Answer)
    → b ≡ false → IsTrue (is_sync call) → IsTrue (is_success answer) → IsLegalTook g image before marks b who now call answer
    → IsSynced g image marks (if b then before else tree_after_answer g before who now call answer)
held_at g image before marks false who now call answer live sync ok h = h.syncs sync ok
held_at g image before marks true who now call answer live sync ok h = cc

-- after a sync that answered ok the disk alone holds the tree
pub synced_is_held : (g : Geometry) (image : Contents) (tree : Tree) (marks : List Mark) (who : Who) (now : ℕ) (call : Call) (answer : Answer)
    → gave_up marks ≡ false → IsTrue (is_sync call) → IsTrue (is_success answer) → IsLegal g image tree (Took who now call answer ∷ marks)
    → IsSynced g image marks (tree_after g tree (Took who now call answer ∷ marks))
synced_is_held g image tree marks who now call answer live sync ok h =
    held_at g image (tree_after g tree marks) marks (gave_up marks) who now call answer live sync ok h.1
