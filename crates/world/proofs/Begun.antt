-- What is known of an image on which a run is begun, and of one on which none is.
use Rattle.std.proofs.Common.{◌≡◌, ◌≢◌, ◌≤◌, ◌<◌, ◌+◌, ◌*◌, ◌/◌, ◌%◌, ℕ, List, [], ◌∷◌, length, Bool, true, false, refl, sym, ap, ◌∙◌, subst, arith, eq-eqb, Ok, Err, Option, Some, None}
use Rattle.std.specs.Prelude.{◌&&◌, ◌==◌, nat_lt, if◌then◌else◌, slice_index}
use Rattle.std.specs.List.{list_all}
use Rattle.std.proofs.Math.Nat.{div-add-mod', mod-lt}
use Rattle.std.proofs.lemmas.Bool.{and_parts, lt-ltb, ltb-false, cond-true}
use Rattle.lemmas.proofs.Options.{ok_same}
use Rattle.layout.specs.declared.Geometry.{Geometry}
use Rattle.layout.specs.declared.LayoutRefusal.{LayoutRefusal}
use Rattle.layout.specs.Places.{geometry_of, IsGeometry}
use Rattle.layout.proofs.Parsed.{geometry_fits}
use Rattle.tree.specs.Tree.{Tree}
use Rattle.volume.specs.Reading.{blocks_of, disk_of}
use Rattle.volume.specs.Holds.{Holds}
use Rattle.volume.specs.Verdict.{HoldsClosed, verdict_of}
use Rattle.media.specs.declared.MediaRefusal.TheVariants.{NotWholeSectors, TooLarge}
use Rattle.bdev.specs.DriverState.{DriverState, range_while_fresh}
use Rattle.reincarnate.specs.declared.policy.Setup.{Setup}
use Rattle.records.specs.Disk.{Contents}
use Rattle.records.specs.Legal.{IsAtFirst}
use Rattle.true_replies.specs.Events.{IsOnMedia}
use Rattle.schedule.specs.Groups.{Each}
use Rattle.volume.specs.Verdict as volume
use Rattle.media.specs.Contents.{sectors_of}
use Rattle.media.specs.Places.{volume_place}
use Rattle.records.specs.Opening.{volume_bytes}
use Rattle.fsck.specs.declared.verdict.Clean.{Clean}
use Rattle.schedule.specs.Refusals.{HasVolume, IsGoodSetup, media_refusal_of, verdict_in}
use Rattle.volume_mount.specs.declared.refusal.StartRefusal.{StartRefusal}
use Rattle.volume_mount.specs.declared.refusal.StartRefusal.TheVariants as start
use Rattle.volume_mount.specs.Starting as starting
use Rattle.volume_mount.specs.Starting.{is_same_range, is_ready_for, opening_of, IsWellSetUp}
use Rattle.volume_mount.proofs.Starts.{same_range}
use Rattle.world.specs.declared.run_refusal.RunRefusal.{RunRefusal}
use Rattle.world.specs.declared.run_refusal.RunRefusal.TheVariants.{Media, Partition, NotClean, BadSetup, NoDriver, OutOfMemory}
use Rattle.world.specs.Beginning.{range_of, place_or_none, start_on, setup_refusal_of, IsBegun, IsChecked, IsNotBegun, IsNotSetUp}

-- ---- the tree that a clean volume holds

-- a byte of a volume, by its block
byte_at : (g : Geometry) (f : Contents) (p : ℕ) → 0 < g.block_size → blocks_of g f (p / g.block_size) (p % g.block_size) ≡ f p
byte_at g f p some =
    cond-true (nat_lt (p % g.block_size) g.block_size) (f (p / g.block_size * g.block_size + p % g.block_size)) 0
    (lt-ltb (p % g.block_size) g.block_size (mod-lt p some))
    ∙ ap f (div-add-mod' p g.block_size)

-- bytes that hold a tree without an open file are a volume that holds it at first
pub at_first : (bytes : List ℕ) (g : Geometry) (tree : Tree) → geometry_of bytes ≡ Ok g → HoldsClosed bytes tree → IsAtFirst g (slice_index bytes) tree
at_first bytes g tree parsed held =
    let same : held.geometry ≡ g = ok_same {E = LayoutRefusal} (sym held.parsed ∙ parsed) in
    let fits : IsGeometry g = (geometry_fits bytes g parsed).0 in
    record {
      holds = record {
        superblock = record { image = bytes; parsed = parsed; same = λ p from to. byte_at g (slice_index bytes) p fits.sized };
        nodes = subst (λ (x : Geometry). Holds x (disk_of x bytes) tree) same held.holds;
      };
      closed = held.closed;
    }

-- ---- media

-- a volume that ends before the media do lies on them
pub lies_on : (image : List ℕ) (minor : ℕ) (range : ℕ × ℕ) → media_refusal_of image ≡ None → range.0 + range.1 ≤ length image / 512
    → IsOnMedia (opening_of image minor range)
lies_on image minor range fine within =
    at (nat_lt 0 (length image % 512)) (nat_lt 67108864 (length image)) (ltb-false 0 (length image % 512)) (ltb-false 67108864 (length image)) fine where
      at : (some many : Bool) → (some ≡ false → length image % 512 ≤ 0) → (many ≡ false → length image ≤ 67108864)
          → (if some then Some NotWholeSectors else (if many then Some TooLarge else None)) ≡ None → IsOnMedia (opening_of image minor range)
      at true many w m h = cc
      at false true w m h = cc
      at false false w m h = let whole = w refl in record { whole = omega (arith, whole); most = m refl; inside = omega (arith, whole, within) }

-- ---- the setup

-- a test of equal ranges
is_same : (a b : Option (ℕ × ℕ)) → a ≡ b → is_same_range a b ≡ true
is_same a b h = subst (λ (x : Option (ℕ × ℕ)). is_same_range a x ≡ true) h (self a) where
  self : (a : Option (ℕ × ℕ)) → is_same_range a a ≡ true
  self None = refl
  self (Some a) = ap (λ (b : Bool). b && (a.1 == a.1)) (eq-eqb a.0 a.0 refl) ∙ eq-eqb a.1 a.1 refl

-- drivers of which a test says that they are ready are
each_ready : (minor : ℕ) (range : ℕ × ℕ) (drivers : List DriverState) → list_all (is_ready_for minor range) drivers ≡ true
    → Each (λ d. range_while_fresh d minor ≡ Some range) drivers
each_ready minor range [] test = tt
each_ready minor range (d ∷ drivers) test =
    let parts = and_parts (is_ready_for minor range d) (list_all (is_ready_for minor range) drivers) test in
    (same_range (range_while_fresh d minor) (Some range) parts.0, each_ready minor range drivers parts.1)

-- and of drivers that are ready it says so
all_tested : (minor : ℕ) (range : ℕ × ℕ) (drivers : List DriverState) → Each (λ d. range_while_fresh d minor ≡ Some range) drivers
    → list_all (is_ready_for minor range) drivers ≡ true
all_tested minor range [] each = refl
all_tested minor range (d ∷ drivers) each =
    ap (λ (b : Bool). b && list_all (is_ready_for minor range) drivers) (is_same (range_while_fresh d minor) (Some range) each.0)
    ∙ all_tested minor range drivers each.1

-- a setup that fits is a good one
pub good_setup : (setup : Setup) (range : ℕ × ℕ) (drivers : List DriverState) → IsWellSetUp setup range drivers → IsGoodSetup setup (range_of range) drivers
good_setup setup range drivers well = record {
  policy = well.0.2;
  some_frames = well.0.0;
  few_frames = well.0.1;
  ready = each_ready setup.minor range drivers well.1;
}

-- and a good one fits
pub well_set_up : (setup : Setup) (range : ℕ × ℕ) (drivers : List DriverState) → IsGoodSetup setup (range_of range) drivers → IsWellSetUp setup range drivers
well_set_up setup range drivers good = ((good.some_frames, good.few_frames, good.policy), all_tested setup.minor range drivers good.ready)

-- so is the refusal of one
pub not_set_up : (setup : Setup) (range : ℕ × ℕ) (drivers : List DriverState) (e : StartRefusal) → starting.IsNotSetUp setup range drivers e
    → IsNotSetUp setup (range_of range) drivers (setup_refusal_of e)
not_set_up setup range drivers start.BadSetup h = λ good. h (well_set_up setup range drivers good)
not_set_up setup range drivers start.NoDriver h = (good_setup setup range drivers h.0, h.1)
not_set_up setup range drivers (start.Media refusal) h = absurd h
not_set_up setup range drivers (start.Partition refusal) h = absurd h
not_set_up setup range drivers start.NoPartition h = absurd h
not_set_up setup range drivers (start.Mount refusal) h = absurd h
not_set_up setup range drivers start.OutOfMemory h = absurd h

-- ---- an image whose volume has a place

module _ (image : List ℕ) (setup : Setup) (supply : List DriverState) (range : ℕ × ℕ) (bytes : List ℕ) (fine : media_refusal_of image ≡ None)
    (place : volume_place (sectors_of image) setup.minor ≡ Ok range) (same : bytes ≡ volume_bytes (range_of range) image) where
  has_volume : HasVolume (start_on image setup supply) (range_of range)
  has_volume = record { media = fine; range_is = ap place_or_none place }

  -- the verdict is that of the volume's bytes
  verdict_is : (start_on image setup supply).verdict ≡ verdict_of bytes
  verdict_is = ap (verdict_in image) (ap place_or_none place) ∙ ap verdict_of (sym same)

  -- it wasn't found clean
  pub not_clean : (e : RunRefusal) → IsChecked bytes (Err e) → IsNotBegun image setup supply e
  not_clean (NotClean finding) h = (range_of range, has_volume, verdict_is ∙ h)
  not_clean OutOfMemory h = fine
  not_clean (Media refusal) h = absurd h
  not_clean (Partition why) h = absurd h
  not_clean BadSetup h = absurd h
  not_clean NoDriver h = absurd h

  -- the setup wasn't taken
  pub not_good : (e : RunRefusal) → verdict_of bytes ≡ volume.Clean → IsNotSetUp setup (range_of range) supply e → IsNotBegun image setup supply e
  not_good BadSetup clean h = (range_of range, has_volume, verdict_is ∙ clean, h)
  not_good NoDriver clean h = (range_of range, has_volume, verdict_is ∙ clean, h.0, h.1)
  not_good (Media refusal) clean h = absurd h
  not_good (Partition why) clean h = absurd h
  not_good (NotClean finding) clean h = absurd h
  not_good OutOfMemory clean h = absurd h

  -- a run is begun
  pub begun : (clean : Clean) → IsChecked bytes (Ok clean) → IsGoodSetup setup (range_of range) supply → supply ≢ []
      → (tree : Tree) × IsBegun image setup supply (range_of range) clean.geometry tree
  begun clean h good some = (
    h.2.0,
    record {
      accepted = record { volume = has_volume; clean = verdict_is ∙ h.1; setup = good; some = some };
      parsed = ap geometry_of (sym same) ∙ h.0;
      at_first = subst (λ (l : List ℕ). IsAtFirst clean.geometry (slice_index l) h.2.0) same (at_first bytes clean.geometry h.2.0 h.0 h.2.1);
    },
  )
