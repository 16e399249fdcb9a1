-- The laws of blocks, of caches.
use Rattle.std.proofs.Common.{◌≡◌, ℕ, ◌≤◌, List, [], ◌++◌, length, refl, sym, ap, subst, ◌∙◌, append_assoc, Option, Some, None, Bool}
use Rattle.std.specs.Prelude.{◌+◌, ◌*◌, take, if◌then◌else◌}
use Rattle.std.proofs.lemmas.List.{append_cancel_right, get_or_past, length-take}
use Rattle.std.proofs.lemmas.Bool.{le-ltb}
use Rattle.std.proofs.Math.Nat.{le_trans, min-le_left}
use Rattle.volume.specs.Reading.{Disk}
use Rattle.records.specs.Marks.{Mark}
use Rattle.records.specs.Told.{Told, grown}
use Rattle.records.specs.Disk.{Contents, HasTrueReplies}
use Rattle.records.specs.Area.{Area}
use Rattle.reissue.specs.Moves.{DiskState, state_after}
use Rattle.reissue.proofs.Joining.{grown_append}
use Rattle.cache.specs.declared.slot.Slot.{Slot}
use Rattle.records.specs.View.{frame_or}
use Rattle.cache.specs.Calls.{AbstractCache, IsReady}
use Rattle.cache.specs.Frames.{CacheAgrees, IsWritable, frames_of, frame_of, view, disk_block}
use Rattle.cache.proofs.Runs.{runs_none, runs_then, true_before}
use Rattle.cache.proofs.Looking.{looks_none, looks_then}
use Rattle.cache.proofs.Placing.{keeps_none, keeps_then}
use Rattle.block_store.specs.World.{IsWorld, IsBlocks, IsShown}
use Rattle.cached_blocks.specs.World.{Leads, Sees, world_by}

-- the slots agree with the disk
abbrev pub Fits : AbstractCache → DiskState → Type 0
Fits c w = CacheAgrees c.size c.held w

-- nothing happened
begin : (a : AbstractCache) → IsReady a → Leads a a
begin a r = runs_none a (λ w v. Fits a w → Fits a v) r (λ w k. k)

-- one after the other
chain : (a b c : AbstractCache) → Leads a b → Leads b c → Leads a c
chain a b c x y = runs_then None a b c (λ w v. Fits a w → Fits b v) (λ w v. Fits b w → Fits c v) (λ w v. Fits a w → Fits c v) (λ u v w p q k. q (p k)) x y

-- what was told is one list
pub one_told : (a b : AbstractCache) (xs ys : List Told) → b.told ≡ xs ++ a.told → b.told ≡ ys ++ a.told → xs ≡ ys
one_told a b xs ys h k = append_cancel_right xs ys a.told (sym h ∙ k)

-- nothing is told
still : (a : AbstractCache) (d e : Disk) → Sees a a d e → e ≡ d
still a d e s =
    let none : s.told ≡ [] = one_told a a s.told [] s.history refl in
    s.after ∙ ap (λ (l : List Told). view a.size a.held (state_after s.image (grown l s.marks))) none ∙ sym s.before

-- what would be read back in between
between : (a b c : AbstractCache) (d f : Disk) → Leads a b → Leads b c → Sees a c d f → (m : Disk) × Sees a b d m × Sees b c m f
between a b c d f x y s =
    let all : s.told ≡ y.told ++ x.told = one_told a c s.told (y.told ++ x.told) s.history (y.history ∙ ap (λ (l : List Told). y.told ++ l) x.history ∙ sym (append_assoc y.told x.told a.told)) in
    let grows : grown s.told s.marks ≡ grown y.told (grown x.told s.marks) = ap (λ (l : List Told). grown l s.marks) all ∙ grown_append y.told x.told s.marks in
    let late : HasTrueReplies s.image (grown y.told (grown x.told s.marks)) = subst_marks s.image _ _ grows s.true_replies in
    let early : HasTrueReplies s.image (grown x.told s.marks) = true_before y.told s.image (grown x.told s.marks) late in (
      view b.size b.held (state_after s.image (grown x.told s.marks)),
      record { image = s.image; marks = s.marks; told = x.told; history = x.history; agrees = s.agrees; true_replies = early; covered = s.covered; before = s.before; after = refl },
      record {
        image = s.image;
        marks = grown x.told s.marks;
        told = y.told;
        history = y.history;
        agrees = x.agrees s.marks s.agrees;
        true_replies = late;
        covered = x.related s.image s.marks s.agrees early s.covered;
        before = refl;
        after = s.after ∙ ap (λ (l : List Mark). view c.size c.held (state_after s.image l)) grows;
      },
    )
  where
    subst_marks : (image : Contents) (ms ns : List Mark) → ms ≡ ns → HasTrueReplies image ms → HasTrueReplies image ns
    subst_marks image ms ns e h = subst (λ (l : List Mark). HasTrueReplies image l) e h

-- the frames are what would be read back
shown : (c : AbstractCache) (w : DiskState) → IsShown (frames_of c.size c.held) (view c.size c.held w)
shown c w block bytes h = ap (λ (o : Option (List ℕ)). frame_or o (disk_block c.size w block)) h

-- nothing stands past a block's end
ends : (c : AbstractCache) (w : DiskState) → IsBlocks c.size (view c.size c.held w)
ends c w block o past = by (c.held block)
  where
    by : (x : Option Slot) → frame_or (frame_of c.size x) (disk_block c.size w block) o ≡ 0
    by None = ap (λ (b : Bool). if b then w.disk (block * c.size + o) else 0) (le-ltb o c.size past)
    by (Some s) = get_or_past (take c.size s.bytes.value) o 0 (le_trans (subst (λ (n : ℕ). n ≤ c.size) (sym (length-take c.size s.bytes.value)) (min-le_left c.size (length s.bytes.value))) past)

-- the laws
pub is_world : {B : Type 0} (f : B → AbstractCache) (goes : B → B → Type 0) → ((a : B) → goes a a)
    → ((a b c : B) → goes a b → goes b c → goes a c) → IsWorld (world_by f goes)
is_world f goes stays joins = record {
  begin = λ a r. record { runs = begin (f a) r; on = stays a };
  chain = λ a b c x y. record { runs = chain (f a) (f b) (f c) x.runs y.runs; on = joins a b c x.on y.on };
  ready = λ a b x. x.runs.ready;
  size = λ a b x. x.runs.size;
  still = λ a d e s. still (f a) d e s;
  between = λ a b c d e x y s. let m = between (f a) (f b) (f c) d e x.runs y.runs s in record { middle = m.0; first = m.1; then = m.2 };
  blocks = λ a b d e s. (
    subst_disk (f a).size _ _ (sym s.before) (ends (f a) (state_after s.image s.marks)),
    subst_disk (f b).size _ _ (sym s.after) (ends (f b) (state_after s.image (grown s.told s.marks))),
  );
  shown = λ a b d e s. (
    λ block bytes h. ap (λ (x : Disk). x block) s.before ∙ shown (f a) (state_after s.image s.marks) block bytes h,
    λ block bytes h. ap (λ (x : Disk). x block) s.after ∙ shown (f b) (state_after s.image (grown s.told s.marks)) block bytes h,
  );
  look = λ a. record { looks = looks_none (f a); keeps = λ r. keeps_none (f a) r };
  look_on = λ a b c x y. record {
    looks = looks_then (f a) (f b) (f c) x.looks y.looks;
    keeps = λ r. keeps_then (f a) (f b) (f c) (x.keeps r) (y.keeps (x.keeps r).ready);
  };
  writable = λ a b x block h.
      subst (λ (r : Area). IsWritable r (f b).size block) (sym x.runs.area)
      (subst (λ (n : ℕ). IsWritable (f a).area n block) (sym x.runs.size) h);
}
  where
    subst_disk : (size : ℕ) (d e : Disk) → d ≡ e → IsBlocks size d → IsBlocks size e
    subst_disk size d e h k = subst (λ (x : Disk). IsBlocks size x) h k
