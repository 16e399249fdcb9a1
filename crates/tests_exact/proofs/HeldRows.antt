-- What the media may not hold at a moment of a run, and what they may.
use Rattle.std.specs.Prelude.{◌≡◌, ◌≢◌, ℕ, ◌+◌, ◌*◌, ◌<◌, List, ◌∷◌, true, false, refl, slice_index}
use Rattle.std.proofs.Common.{arith, sym, ◌∙◌, inl, lit≤}
use Rattle.bdev.specs.DriverState.{DriverState}
use Rattle.media.specs.Contents.{MediaState, sector}
use Rattle.reincarnate.specs.Policy.{default_policy}
use Rattle.reincarnate.specs.declared.policy.Setup.{Setup}
use Rattle.records.specs.Area.{area_of}
use Rattle.records.specs.Disk.{disk_after, is_unsure}
use Rattle.records.specs.Opening.{volume_in}
use Rattle.schedule.specs.declared.Event.{Event}
use Rattle.schedule.specs.Headline.{Transcript}
use Rattle.schedule.specs.Noted.{marks_in}
use Rattle.simulated_link.specs.Moments.{Moment, Runs}
use Rattle.world.specs.Occurs.{RunShows}
use Rattle.world.specs.Starts.{at_first}
use Rattle.world.specs.Throughout.{MediaHoldAt}
use Rattle.tests_exact.proofs.Small.{sizes, sectors_with, old_0, old_1, torn, image, whole, torn_byte, old_byte, new_byte, boot_byte, image_byte, disk}
use Rattle.tests_exact.proofs.Beginning.{start}
use Rattle.tests_exact.proofs.DeathRow.{events, dead, sync_done}

-- the moment with other media
abbrev with_media : MediaState → Moment → Moment
with_media media m = record m { run = record (m.run) { scene = record (m.run.scene) { disks = record (m.run.scene.disks) { media = media } } } }

-- A sector was torn, and no write was posted.
torn_unasked : ¬ (MediaHoldAt sizes whole image (with_media (disk old_0 torn 1) (start default_policy events)))
torn_unasked held = let h : 3 ≡ 2 = sym torn_byte ∙ held.inside 5 0 (lit≤ tt) (lit≤ tt) refl ∙ image_byte in omega (arith, h)

-- The driver that dies leaves it so within a write that was posted: the sector is unsure.
torn_in_a_write : is_unsure (marks_in dead.run.scene.noted) 5 ≡ true
torn_in_a_write = refl

-- A write was answered, and none of its bytes stand there.
write_lost : ¬ (MediaHoldAt sizes whole image (with_media (disk old_0 old_1 2) sync_done))
write_lost held = let h : 1 ≡ 4 = sym old_byte ∙ held.inside 4 0 (lit≤ tt) (lit≤ tt) refl ∙ new_byte in omega (arith, h)

-- The boot block was changed, while the write is open.
boot_block_changed : ¬ (MediaHoldAt sizes whole image (with_media (record { sectors = torn ∷ sectors_with old_0 old_1; generation = 1 }) dead))
boot_block_changed held = let h : 3 ≡ 7 = sym torn_byte ∙ held.ends 0 0 (lit≤ tt) (lit≤ tt) (inl (lit≤ tt)) ∙ boot_byte in omega (arith, h)

-- A run that leads through a moment at which the media lack a byte that is sure isn't shown.
byte_lacks : (bytes : List ℕ) (setup : Setup) (supply : List DriverState) (schedule : List Event) (t : Transcript)
    (shown : RunShows bytes setup supply schedule t) (m : Moment) (n k : ℕ)
    → Runs (area_of shown.geometry setup.minor) (at_first shown.exact.first) m → Runs (area_of shown.geometry setup.minor) m shown.exact.last
    → n < shown.range.count → k < 512 → is_unsure (marks_in m.run.scene.noted) n ≡ false
    → ¬ (slice_index (sector m.run.scene.disks.media (shown.range.first + n)) k
    ≢ disk_after (volume_in shown.range bytes) (marks_in m.run.scene.noted) (512 * n + k))
byte_lacks bytes setup supply schedule t shown m n k before after low within sure other =
    other ((shown.throughout m before after).inside n k low within sure)
