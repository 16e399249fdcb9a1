-- The table and the drivers that a program makes for an image.
use Rattle.std.specs.Prelude.{◌≡◌, ℕ, min, Bool, true, false, List, [], ◌∷◌, length, Result, Ok, Err, None}
use Rattle.media.specs.Contents.{sectors_of}
use Rattle.media.specs.declared.partition.PartitionRefusal.{PartitionRefusal}
use Rattle.media.specs.Table.{TableState, ranges_of}
use Rattle.media.specs.Refusals.{table_of}
use Rattle.bdev.specs.DriverState.{fresh}
use Rattle.modeldisk.specs.Drivers.{ram_state, model_state, arm_of}
use Rattle.modeldisk.specs.declared.supply.driver.DiskDriver.{DiskDriver}
use Rattle.modeldisk.specs.declared.supply.driver.DiskDriver.TheVariants.{Ram, Arm}

-- the whole of so many sectors, without partitions
abbrev pub whole_of : ℕ → TableState
whole_of count = record { sectors = count; entries = None ∷ None ∷ None ∷ None ∷ [] }

-- how many sectors a table counts: it has 32 bits for them
abbrev pub count_of : List (List ℕ) → ℕ
count_of sectors = min (length sectors) 4294967295

-- the table that was parsed, or the whole
abbrev pub table_or : Result TableState PartitionRefusal → ℕ → TableState
table_or (Ok table) count = table
table_or (Err refusal) count = whole_of count

-- the table in the first of these sectors
abbrev pub table_by : List (List ℕ) → TableState
table_by [] = whole_of 0
table_by (first ∷ rest) = table_or (table_of first (count_of (first ∷ rest))) (count_of (first ∷ rest))

-- the table in the first sector of an image
abbrev pub table_of_image : List ℕ → TableState
table_of_image image = table_by (sectors_of image)

-- a new driver of this kind, with or without an arm at sector 0, with the ranges of this table
abbrev pub IsNew : Bool → TableState → DiskDriver → Type 0
IsNew false table (Ram driver) = ram_state driver ≡ fresh (ranges_of table)
IsNew false table (Arm driver) = ⊥
IsNew true table (Ram driver) = ⊥
IsNew true table (Arm driver) = (model_state driver ≡ fresh (ranges_of table)) × (arm_of driver ≡ 0)
