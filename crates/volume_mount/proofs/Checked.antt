-- How reading a volume and checking it ends.
use Rattle.std.proofs.Common.{◌≡◌, ◌≢◌, ◌≤◌, ◌+◌, ◌-◌, ◌*◌, ℕ, List, ◌++◌, length, ◌<◌, false, refl, sym, ap, ◌∙◌, subst, arith}
use Rattle.std.specs.Prelude.{Result, Ok, Err, slice_index}
use Rattle.std.proofs.Math.ListN.{take}
use Rattle.std.proofs.Math.Seq.{take-append_seam}
use borrow.Rule.Slice.PartMut.{put_mid}
use Rattle.layout.specs.declared.Geometry.{Geometry}
use Rattle.layout.specs.declared.LayoutRefusal.{LayoutRefusal}
use Rattle.layout.specs.declared.LayoutRefusal.TheVariants.{DoesNotFit}
use Rattle.layout.specs.Places.{geometry_of, superblock_geometry}
use Rattle.records.specs.Told.{Told, took_end}
use Rattle.reissue.specs.declared.table.Table.{Table}
use Rattle.reissue.specs.Calls.{Truth}
use Rattle.fsck.specs.declared.verdict.Clean.{Clean}
use Rattle.reissue.specs.declared.link.Link.{Ghosts as LinkWords}
use Rattle.reissue.specs.declared.transfers.Transfers.{Transfers}
use Rattle.volume_reading.specs.declared.reading.Stop.{Stop}
use Rattle.volume_reading.specs.declared.reading.Stop.TheVariants.{OutOfMemory, GaveUp, Ended}
use Rattle.volume_mount.specs.declared.whole.MountRefusal.{MountRefusal}
use Rattle.volume_mount.specs.declared.whole.MountRefusal.TheVariants as refusal
use Rattle.volume_mount.specs.Whole.{IsHeadFit, refusal_by}
use Rattle.volume_reading.specs.Reading.{ReadsRange}
use Rattle.volume_mount.specs.Mounts.{IsChecked, ReadsRest, ReadsVolume, StandsIdle}
use Rattle.volume_reading.proofs.Parts.{index_before, index_inside, length_kept}
use Rattle.volume_mount.proofs.Ending.{went_both, head_refused, head_stopped, rest_stopped, volume_clean, volume_refused}

-- a refusal for want of memory is one of a reading that stopped so
pub wanting : (s : Stop) (e : MountRefusal) → e ≡ refusal_by s → ◌≡◌ {A = Result Clean MountRefusal} (Err e) (Err refusal.OutOfMemory)
    → s ≡ OutOfMemory
wanting OutOfMemory e is same = refl
wanting GaveUp e is same = absurd cc
wanting Ended e is same = absurd cc

-- what is as it was stands as it stood
pub stands_same : {L : Type 0} (words : LinkWords L) (ids budget : ℕ) (old new : Transfers L) → new ≡ old → StandsIdle words ids budget old
    → StandsIdle words ids budget new
stands_same {L} words ids budget old new same stands =
    let P : Transfers L → Type 0 = λ t. StandsIdle words ids budget t in
    subst P (sym same) stands

-- the head wasn't read
pub stops_at_head : (minor : ℕ) (old mid : Table) (before between : List Told) (was is : Truth) (head : List ℕ) (stop : Stop) (e : MountRefusal)
    → e ≡ refusal_by stop → took_end before ≡ false
    → ReadsRange (Err stop) minor 0 2048 head old mid before between was is → ReadsVolume (Err e) minor old mid before between was is
stops_at_head minor old mid before between was is head stop e same none r =
    subst (λ (x : MountRefusal). ReadsVolume (Err x) minor old mid before between was is) (sym same)
    (record { went = r.went; end = λ agrees. head_stopped minor old mid before between was is agrees none head stop r })

-- it is refused
pub refuses_head : (minor : ℕ) (old mid : Table) (before between : List Told) (was is : Truth) (head : List ℕ) (e : LayoutRefusal) → length head ≡ 2048
    → geometry_of head ≡ Err e → e ≢ DoesNotFit → ReadsRange (Ok tt) minor 0 2048 head old mid before between was is
    → ReadsVolume (Err (refusal.Layout e)) minor old mid before between was is
refuses_head minor old mid before between was is head e long why short r =
    record { went = r.went; end = λ agrees frames ok. head_refused minor old mid before between was is agrees head long r e why short frames ok }

module _ (minor : ℕ) (old mid new : Table) (before between after : List Told) (was mid_truth is : Truth) (head : List ℕ) (long : length head ≡ 2048)
    (first : ReadsRange (Ok tt) minor 0 2048 head old mid before between was mid_truth) (g : Geometry) (sizes : g ≡ superblock_geometry head)
    (fit : IsHeadFit head) (size : ℕ) (least : 3072 ≤ size) (same : size ≡ g.zones * g.block_size) (none : took_end before ≡ false) where
  large : 2048 + (size - 2048) ≡ g.zones * g.block_size
  large = omega (arith, least) ∙ same

  -- the rest wasn't read
  pub stops_behind : (stop : Stop) (e : MountRefusal) (bytes : List ℕ) → e ≡ refusal_by stop
      → ReadsRest (Err stop) minor (size - 2048) head bytes mid new between after mid_truth is → ReadsVolume (Err e) minor old new before after was is
  stops_behind stop e bytes equal s =
      subst (λ (x : MountRefusal). ReadsVolume (Err x) minor old new before after was is) (sym equal) (record {
        went = went_both minor old mid new before between after was mid_truth is first.went s.reads.went;
        end = λ agrees. rest_stopped minor old mid before between was mid_truth agrees head long first new after is g sizes fit (size - 2048) large s.rest
            none stop s.reads;
      })

  -- it was, and is checked
  pub checks : (result : Result Clean MountRefusal) (bytes : List ℕ) → IsChecked bytes result
      → ReadsRest (Ok tt) minor (size - 2048) head bytes mid new between after mid_truth is → ReadsVolume result minor old new before after was is
  checks (Ok clean) bytes c s = record {
    went = went_both minor old mid new before between after was mid_truth is first.went s.reads.went;
    end = λ agrees. volume_clean minor old mid before between was mid_truth agrees head long first new after is g sizes fit (size - 2048) large s.rest
        s.reads bytes s.parts.full s.parts.low s.parts.high none clean c.0 c.1 c.2;
  }
  checks (Err (refusal.Inconsistent finding)) bytes c s = record {
    went = went_both minor old mid new before between after was mid_truth is first.went s.reads.went;
    end = λ agrees frames ok. volume_refused minor old mid before between was mid_truth agrees head long first new after is g sizes fit (size - 2048) large s.rest
        s.reads bytes s.parts.full s.parts.low s.parts.high finding c frames ok;
  }
  checks (Err refusal.OutOfMemory) bytes c s = record {
    went = went_both minor old mid new before between after was mid_truth is first.went s.reads.went;
    end = λ agrees frames ok. ok;
  }
  checks (Err (refusal.Layout e)) bytes c s = absurd c
  checks (Err refusal.Eio) bytes c s = absurd c
  checks (Err refusal.LinkEnded) bytes c s = absurd c
  checks (Err refusal.BadFrames) bytes c s = absurd c

-- ---- the rest behind the head

module _ (result : Result (Unit {0}) Stop) (minor : ℕ) (old new : Table) (before after : List Told) (was is : Truth) where
  -- read into its place
  pub rest_read : (n : ℕ) (given into : List ℕ) → ReadsRange result minor 2048 n into old new before after was is → length into ≡ n → 3072 ≤ length given
      → n ≡ length given - 2048
      → ReadsRest result minor (length given - 2048) given (put_mid 2048 (length given - 2048) given into) old new before after was is
  rest_read n given into r many least e =
      let k : ℕ = length given - 2048 in
      let inside : 2048 + k ≤ length given = omega (arith, least) in
      let full : length into ≡ k = many ∙ e in
      record {
        rest = into;
        parts = record {
          full = length_kept 2048 k given into inside full ∙ omega (arith, least);
          low = λ j lt. index_before 2048 k given into inside full j lt;
          high = λ j lt. index_inside 2048 k given into inside full (2048 + j) (omega arith) (omega (arith, lt))
              ∙ (let back : 2048 + j - 2048 ≡ j = omega arith in ap (slice_index into) back);
        };
        reads = subst (λ (m : ℕ). ReadsRange result minor 2048 m into old new before after was is) e r;
      }

  -- with the head before it
  pub rest_behind : (m n : ℕ) (head given bytes : List ℕ) → ReadsRest result minor m given bytes old new before after was is → m ≡ n
      → ((k : ℕ) → k < 2048 → slice_index given k ≡ slice_index head k) → ReadsRest result minor n head bytes old new before after was is
  rest_behind m n head given bytes r e low =
      subst (λ (k : ℕ). ReadsRest result minor k head bytes old new before after was is) e (record {
        rest = r.rest;
        parts = record { full = r.parts.full; low = λ k lt. r.parts.low k lt ∙ low k lt; high = r.parts.high };
        reads = r.reads;
      })

-- so many
pub rest_as : (result : Result (Unit {0}) Stop) (minor m n : ℕ) (head bytes : List ℕ) (old new : Table) (before after : List Told) (was is : Truth)
    → ReadsRest result minor m head bytes old new before after was is → m ≡ n → ReadsRest result minor n head bytes old new before after was is
rest_as result minor m n head bytes old new before after was is r e =
    subst (λ (k : ℕ). ReadsRest result minor k head bytes old new before after was is) e r

-- bytes that are written back over as many
pub written_back : (n : ℕ) (xs ys : List ℕ) → length xs ≡ n → take n (xs ++ ys) ≡ xs
written_back n xs ys e = subst (λ (k : ℕ). take k (xs ++ ys) ≡ xs) e (take-append_seam xs ys)
