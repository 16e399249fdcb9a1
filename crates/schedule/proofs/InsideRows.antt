-- Runs that the headline excludes: a sync that writes the boot block, or behind the last zone, and media that end with other bytes there.
use Rattle.std.specs.Prelude.{List, ◌≡◌, ◌≢◌, ℕ, ◌+◌, ◌*◌, ◌<◌, ◌≤◌, [], ◌∷◌, replicate, slice_index}
use Rattle.std.proofs.Common.{arith, subst}
use Rattle.message.specs.declared.BlockRequest.{BlockRequest}
use Rattle.message.specs.declared.Kind.TheVariants.{Write}
use Rattle.tree.specs.Tree.{Tree}
use Rattle.tree.specs.declared.Call.TheVariants.{Sync}
use Rattle.tree.specs.Answers.{done}
use Rattle.reincarnate.specs.Watch.{driver}
use Rattle.records.specs.Marks.{Mark, Started, Answered, Took, Issued}
use Rattle.records.specs.Disk.{Contents}
use Rattle.records.specs.Opening.{Range}
use Rattle.records.specs.Area.{WritesInside}
use Rattle.schedule.specs.Headline.{Transcript, RepliesHold, MediaHold}
use Rattle.schedule.proofs.Small.{small, client, answer_of}

-- id 1: 1024 zeros, from this place on
abbrev zeros_at : ℕ → BlockRequest
zeros_at place = record { id = 1; kind = Write; minor = 0; position = place; count = 1024; bytes = replicate 4096 0 }

-- a sync writes them, and is done
abbrev synced_with : BlockRequest → List Mark
synced_with r = Took (client 0) 100 Sync done ∷ Answered (answer_of 1) ∷ Issued r (driver 1) ∷ Started (driver 1) ∷ []

-- the boot block is written
row_boot_written : (volume : Contents) (tree : Tree) (t : Transcript) → t.marks ≡ synced_with (zeros_at 0)
    → RepliesHold small volume tree t → ⊥
row_boot_written volume tree t is holds =
    let inside : WritesInside small (synced_with (zeros_at 0)) = subst (λ (m : List Mark). WritesInside small m) is holds.inside in
    let h : 2048 ≤ 0 = inside.0.0 in omega (arith, h)

-- what lies behind the last zone is written
row_behind_written : (volume : Contents) (tree : Tree) (t : Transcript) → t.marks ≡ synced_with (zeros_at 65536)
    → RepliesHold small volume tree t → ⊥
row_behind_written volume tree t is holds =
    let inside : WritesInside small (synced_with (zeros_at 65536)) = subst (λ (m : List Mark). WritesInside small m) is holds.inside in
    let h : 65536 + 1024 ≤ 65536 = inside.0.1 in omega (arith, h)

-- the media hold another byte at this place of the volume
abbrev IsOther : Range → List ℕ → Transcript → ℕ → Type 0
IsOther range image t place = slice_index t.image (512 * range.first + place) ≢ slice_index image (512 * range.first + place)

-- in the boot block
row_boot_changed : (range : Range) (image : List ℕ) (t : Transcript) (place : ℕ) → place < 1024 → IsOther range image t place
    → MediaHold small range image t → ⊥
row_boot_changed range image t place low other holds = other (holds.head place (omega (arith, low)))

-- in the block of the superblock, behind its fields
row_super_changed : (range : Range) (image : List ℕ) (t : Transcript) (place : ℕ) → 1055 ≤ place → place < 2048
    → IsOther range image t place → MediaHold small range image t → ⊥
row_super_changed range image t place past low other holds = other (holds.head place low)

-- behind the last zone
row_behind_changed : (range : Range) (image : List ℕ) (t : Transcript) (place : ℕ) → 65536 ≤ place → place < 512 * range.count
    → IsOther range image t place → MediaHold small range image t → ⊥
row_behind_changed range image t place past low other holds = other (holds.tail place past low)
