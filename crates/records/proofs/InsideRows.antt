-- Which writes may be posted, worked by hand: a volume of 64 blocks of 1024 bytes.
use Rattle.std.specs.Prelude.{◌≡◌, ℕ, ◌+◌, ◌≤◌, List, [], ◌∷◌, true, refl}
use Rattle.std.proofs.Common.{arith, inl}
use Rattle.message.specs.declared.Kind.TheVariants.{Write}
use Rattle.message.specs.declared.BlockRequest.{BlockRequest}
use Rattle.message.specs.declared.Incoming.TheVariants as incoming
use Rattle.layout.specs.declared.Geometry.{Geometry}
use Rattle.records.specs.Marks.{Issued, Started}
use Rattle.records.specs.Disk.{Contents, disk_after}
use Rattle.records.specs.Told.{Posted, Received}
use Rattle.records.specs.Acts.{Act, Began, AtLink, marks_after, empty_outbox, KeepsRules}
use Rattle.records.specs.Area.{area_of, no_area, WritesInside}
use Rattle.records.proofs.Rows.{driver}
use Rattle.records.proofs.Inside.{acts_write_inside, head_and_tail_stay}
use Rattle.records.proofs.ActRows.{block, block_length}

-- 64 blocks of 1024 bytes
abbrev volume : Geometry
volume = record { block_size = 1024; inodes = 16; zones = 64; inode_map_blocks = 1; zone_map_blocks = 1; first_zone = 6 }

-- a write of zeros, with room for a block's bytes
abbrev zeros : ℕ → ℕ → BlockRequest
zeros position count = record { id = 1; kind = Write; minor = 0; position = position; count = count; bytes = block }

-- it becomes pending, and is posted to the first driver
abbrev wrote : ℕ → ℕ → List Act
wrote position count =
    AtLink (Posted (driver 1) (zeros position count) true) ∷ AtLink (Received (incoming.Started (driver 1))) ∷ Began (zeros position count) ∷ []

-- the rules, for this volume and from the empty record on
abbrev Keeps : List Act → Type 0
Keeps acts = KeepsRules (area_of volume 0) acts [] empty_outbox

-- the boot block may not be written
boot_block : Keeps (wrote 0 1024) → ⊥
boot_block h = let l : 2048 ≤ 0 = h.1.fits.lies.0 in absurd (omega (arith, l))

-- nor the superblock
superblock : Keeps (wrote 1024 1024) → ⊥
superblock h = let l : 2048 ≤ 1024 = h.1.fits.lies.0 in absurd (omega (arith, l))

-- nor the last of its sectors with a map's block
into_the_map : Keeps (wrote 1536 1536) → ⊥
into_the_map h = let l : 2048 ≤ 1536 = h.1.fits.lies.0 in absurd (omega (arith, l))

-- nor what lies behind the last zone
behind : Keeps (wrote 65536 1024) → ⊥
behind h = let l : 66560 ≤ 65536 = h.1.fits.lies.1 in absurd (omega (arith, l))

-- nor the last zone with what lies behind it
over_the_end : Keeps (wrote 64512 2048) → ⊥
over_the_end h = let l : 66560 ≤ 65536 = h.1.fits.lies.1 in absurd (omega (arith, l))

-- the first block of the maps may, and the last zone
keeps : (position count : ℕ) → count ≤ 4096 → 2048 ≤ position → position + count ≤ 65536 → Keeps (wrote position count)
keeps position count small from to = (
  ((tt, record { next = refl; room = omega arith }), record { at_rest = record { complaint = refl; post = refl }; live = refl; needed = refl }),
  record {
    complained = refl;
    endpoint = refl;
    not_stopped = refl;
    first = refl;
    fits = record { fits = record { minor_is = refl; count = small; bytes = block_length }; lies = (from, to) };
  },
)

first_map_block : Keeps (wrote 2048 1024)
first_map_block = keeps 2048 1024 (omega arith) (omega arith) (omega arith)

last_zone : Keeps (wrote 64512 1024)
last_zone = keeps 64512 1024 (omega arith) (omega arith) (omega arith)

-- while a volume is mounted, not even they
mounted : KeepsRules (no_area 0) (wrote 2048 1024) [] empty_outbox → ⊥
mounted h = let l : 3072 ≤ 0 = h.1.fits.lies.1 in absurd (omega (arith, l))

-- a record with a write of the boot block isn't inside
not_inside : WritesInside volume (Issued (zeros 0 1024) (driver 1) ∷ Started (driver 1) ∷ []) → ⊥
not_inside h = let l : 2048 ≤ 0 = h.0.0 in absurd (omega (arith, l))

-- after the write of the map the superblock is the image's
superblock_stays : (image : Contents) → disk_after image (marks_after (wrote 2048 1024) []) 1024 ≡ image 1024
superblock_stays image =
    (head_and_tail_stay volume image (marks_after (wrote 2048 1024) []) 1024
    (acts_write_inside volume 0 (wrote 2048 1024) [] empty_outbox first_map_block tt) (inl (omega arith))).same
