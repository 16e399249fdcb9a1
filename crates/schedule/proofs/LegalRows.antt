-- What the records of the worked runs say: they are well formed and legal, and their replies are true.
use Rattle.std.specs.Prelude.{◌≡◌, [], ◌∷◌, refl}
use Rattle.std.proofs.Common.{arith, inl, inr}
use Rattle.tree.specs.Laws.{fresh_tree}
use Rattle.records.specs.Open.{open_requests, IsWellFormed}
use Rattle.records.specs.Disk.{Contents, HasTrueReplies}
use Rattle.records.specs.Legal.{IsLegal, tree_after}
use Rattle.schedule.specs.Groups.{marks_of}
use Rattle.schedule.proofs.Small.{small, inode_block}
use Rattle.schedule.proofs.WorkedRuns.{waits, replaced}
use Rattle.schedule.proofs.GivenUp.{given_up}

-- the reply after a death is the tree's
row_replaced_legal : (image : Contents) → IsLegal small image (fresh_tree 50) (marks_of replaced)
row_replaced_legal image = (tt, record { replies = inl refl; syncs = λ sync. cc })

-- and leaves the tree
row_replaced_tree : tree_after small (fresh_tree 50) (marks_of replaced) ≡ fresh_tree 50
row_replaced_tree = refl

-- no request is left open
row_replaced_closed : open_requests (marks_of replaced) ≡ []
row_replaced_closed = refl

-- the record with a request issued again is well formed
row_replaced_well_formed : IsWellFormed (marks_of replaced)
row_replaced_well_formed =
    (((((((tt, tt), (refl, inl (record { next = refl; whole = record { position = refl; count = refl }; room = omega arith; apart = tt }))), tt), tt), (refl, inr (record { same = inl refl }))), (refl, refl)), tt)

-- a read of zeros is true of an image of zeros
row_replaced_true : HasTrueReplies (λ place. 0) (marks_of replaced)
row_replaced_true = (tt, λ read. record { each = λ k within sure. refl })

-- while the call waits, its request is open
row_waits_open : open_requests (marks_of waits) ≡ inode_block ∷ []
row_waits_open = refl

-- after giving up each reply is EIO
row_given_up_legal : (image : Contents) → IsLegal small image (fresh_tree 50) (marks_of given_up)
row_given_up_legal image = ((tt, refl), refl)

-- and the tree stays
row_given_up_tree : tree_after small (fresh_tree 50) (marks_of given_up) ≡ fresh_tree 50
row_given_up_tree = refl
