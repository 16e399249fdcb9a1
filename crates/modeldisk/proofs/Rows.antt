-- Worked rows of the order of a sweep, by computation: sectors 8 to 11.
use Rattle.std.specs.Prelude.{◌≡◌, [], ◌∷◌, Some, true, false, refl}
use Rattle.bdev.specs.declared.Run.{Run}
use Rattle.modeldisk.specs.Order.{arm_after, order_of}
use Rattle.modeldisk.specs.Mover.{moved_in}

-- the run
abbrev run : Run
run = record { first = 8; count = 4 }

-- the arm in the run
row_arm_10 : order_of 10 run ≡ 10 ∷ 11 ∷ 8 ∷ 9 ∷ []
row_arm_10 = refl

-- one sector before
row_arm_9 : order_of 9 run ≡ 9 ∷ 10 ∷ 11 ∷ 8 ∷ []
row_arm_9 = refl

-- before the run
row_arm_3 : order_of 3 run ≡ 8 ∷ 9 ∷ 10 ∷ 11 ∷ []
row_arm_3 = refl

-- after it
row_arm_12 : order_of 12 run ≡ 8 ∷ 9 ∷ 10 ∷ 11 ∷ []
row_arm_12 = refl

-- after three sectors from arm 10 the first of the request was moved and the second wasn't
row_first_moved : moved_in 10 3 (Some run) 0 ≡ true
row_first_moved = refl

row_second_not_moved : moved_in 10 3 (Some run) 1 ≡ false
row_second_not_moved = refl

-- the arm stands after the sector that was moved
row_arm_follows : arm_after (0 ∷ []) (record { sectors = [] ∷ []; generation = 2 }) 2 7 ≡ 1
row_arm_follows = refl

-- a refused sector leaves it
row_arm_stays : arm_after (0 ∷ []) (record { sectors = [] ∷ []; generation = 2 }) 1 7 ≡ 7
row_arm_stays = refl
