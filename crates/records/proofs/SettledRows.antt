-- Short records, worked by hand: where calls that look may have no write before them.
use Rattle.std.specs.Prelude.{◌≡◌, List, [], ◌∷◌, true, false, refl}
use Rattle.std.proofs.Common.{codes}
use Rattle.errno.specs.declared.Errno.TheVariants.{EIO}
use Rattle.lemmas.proofs.Bools.{false_not_true}
use Rattle.message.specs.declared.Kind.TheVariants.{Read}
use Rattle.message.specs.declared.BlockRequest.{BlockRequest}
use Rattle.message.specs.declared.endpoint.Endpoint.{Endpoint}
use Rattle.tree.specs.declared.Call.TheVariants as call
use Rattle.lemmas.specs.Sums.{sum_below, some_below, least_below}
use Rattle.tree.specs.Answers.{refused, done}
use Rattle.tree.specs.Effects.{tree_after_call}
use Rattle.records.specs.Marks.{Mark, Took, Issued}
use Rattle.records.specs.Settled.{only_looks, is_settled, LookingWritesNothing}
use Rattle.records.proofs.LegalRows.{small, user_0, path, fresh, stat_root, root_of_size, make_d, opened, write}

abbrev driver : Endpoint
driver = record { slot = 1; generation = 1 }

-- a read of the sector that begins at 1024
abbrev a_read : BlockRequest
a_read = record { id = 1; kind = Read; minor = 0; position = 1024; count = 512; bytes = [] }

abbrev synced : List Mark
synced = Took user_0 100 call.Sync done ∷ []

-- a stat after a sync may have a read before it, and no write
reading_stat : LookingWritesNothing small fresh (Took user_0 100 stat_root (root_of_size 128) ∷ Issued a_read driver ∷ synced)
reading_stat = ((tt, λ h. refl), λ h. refl)

writing_stat : LookingWritesNothing small fresh (Took user_0 100 stat_root (root_of_size 128) ∷ Issued write driver ∷ synced) → ⊥
writing_stat h = false_not_true (h.1 refl)

-- nor has it one before another stat
writing_before_stat : LookingWritesNothing small fresh
    (Took user_0 100 stat_root (root_of_size 128) ∷ Took user_0 100 stat_root (root_of_size 128) ∷ Issued write driver ∷ synced) → ⊥
writing_before_stat h = false_not_true (h.0.1 refl)

-- nor where no sync was answered, before any call that changes something
writing_at_first : LookingWritesNothing small fresh (Took user_0 100 stat_root (root_of_size 128) ∷ Issued write driver ∷ []) → ⊥
writing_at_first h = false_not_true (h.1 refl)

-- a call that changes something may have one before it, and so may the calls after it, until a sync is answered ok
writing_mkdir : LookingWritesNothing small fresh (Took user_0 100 stat_root (root_of_size 128) ∷ Issued write driver ∷ Took user_0 100 make_d done ∷ Issued write driver ∷ synced)
writing_mkdir = (((tt, λ h. refl), λ h. absurd (false_not_true h)), λ h. absurd (false_not_true h))

refused_sync : is_settled small fresh (Took user_0 100 call.Sync (refused EIO) ∷ Took user_0 100 make_d done ∷ synced) ≡ false
refused_sync = refl

later_sync : is_settled small fresh (Took user_0 100 call.Sync done ∷ Took user_0 100 make_d done ∷ synced) ≡ true
later_sync = refl

-- open looks where it makes and empties nothing: 1 is r, 11 is rwc, 34 is wt
open_looks : only_looks fresh user_0 (call.Open (path (codes "/")) (record { 0 = 1 }) 0) ≡ true
open_looks = refl

open_makes : only_looks fresh user_0 (call.Open (path (codes "/f")) (record { 0 = 11 }) 420) ≡ false
open_makes = refl

open_empties : only_looks fresh user_0 (call.Open (path (codes "/f")) (record { 0 = 34 }) 0) ≡ false
open_empties = refl

-- a close looks, but for a file that lost its last link
close_looks : only_looks opened user_0 (call.Close 0) ≡ true
unfolding sum_below some_below least_below
close_looks = refl

close_frees : only_looks (tree_after_call small opened user_0 100 (call.Unlink (path (codes "/f")))) user_0 (call.Close 0) ≡ false
unfolding sum_below some_below least_below
close_frees = refl
