-- Where no finding of version 2 holds, the rules of the format hold.
use Rattle.std.proofs.Common.{◌≡◌, ◌≢◌, ◌<◌, ◌≤◌, ◌%◌, ℕ, true, false, sym, ap, ◌∙◌, arith}
use Rattle.std.specs.Prelude.{not, ◌&&◌, ◌||◌, ◌==◌, nat_lt, nat_le}
use Rattle.std.proofs.lemmas.Bool.{or_parts, eqb-true, eqb-false, ltb-false, le-leb, not-false, both_ways, and_from}
use Rattle.lemmas.proofs.Bools.{and_false_right}
use Rattle.layout.specs.declared.Geometry.{Geometry}
use Rattle.lemmas.specs.Sums.{some_below}
use Rattle.tree.specs.Names.{same_name, dot, dot_dot}
use Rattle.tree.specs.Space.{pages_of}
use Rattle.volume.specs.Pieces.{Pieces, pieces}
use Rattle.volume.specs.Nodes.{page_zone}
use Rattle.volume.specs.Entries.{is_directory_inode}
use Rattle.volume.proofs.Sums.{none_below}
use Rattle.volume.proofs.Volumes.{IsVolume, is_volume}
use Rattle.volume.proofs.Ranges.{dir_marked, at_inode, at_dir, same_name_itself}
use Rattle.fsck.specs.Form.{version_2}
use Rattle.fsck.specs.Entries.{entry_count, name_at, target_at, is_free_at, is_field, is_name_field}
use Rattle.fsck.specs.Findings.{is_bad_entry, has_name_of}
use Rattle.migrate.specs.Holds.{IsSoundDirectory, IsSound}
use Rattle.migrate.specs.Laws.{CleanIsSound}
use Rattle.migrate.proofs.Quiet.{Quiet, clean_quiet}
use Rattle.migrate.proofs.SoundZones.{zones_agree, sound_inode}

module _ (g : Geometry) (v : Pieces) (q : Quiet g v) where
  -- a directory has two entries and whole ones
  dir_size : (n : ℕ) → is_directory_inode g v n ≡ true → (32 ≤ (v.inodes n).size) × ((v.inodes n).size % 16 ≡ 0)
  dir_size n is =
      let rest = and_false_right (is_directory_inode g v n) _ (or_parts _ _ (at_inode g v _ n q.sizes (dir_marked g v n is))).1 is in
      let both = or_parts (nat_lt (v.inodes n).size 32) _ rest in
      (ltb-false _ 32 both.0, eqb-true _ 0 (not-false _ both.1))

  -- it has no hole
  whole : (n p : ℕ) → is_directory_inode g v n ≡ true → p < pages_of g (v.inodes n).size → page_zone g v (v.inodes n) p ≢ 0
  whole n p is low = eqb-false _ 0 (none_below _ (pages_of g (v.inodes n).size) (at_dir g v _ n q.holes is) p low)

  -- its first two entries are . and ..
  dots : (n : ℕ) → is_directory_inode g v n ≡ true
      → (is_field version_2 g v n 0 dot ≡ true) × (target_at version_2 g v n 0 ≡ n) × (is_field version_2 g v n 1 dot_dot ≡ true)
  dots n is =
      let here = at_dir g v (λ n. not (is_field version_2 g v n 0 dot) || not (target_at version_2 g v n 0 == n)
      || not (is_field version_2 g v n 1 dot_dot)) n q.dots is in
      let a = or_parts (not (is_field version_2 g v n 0 dot) || not (target_at version_2 g v n 0 == n))
      (not (is_field version_2 g v n 1 dot_dot)) here in
      let b = or_parts (not (is_field version_2 g v n 0 dot)) (not (target_at version_2 g v n 0 == n)) a.0 in (
        not-false (is_field version_2 g v n 0 dot) b.0,
        eqb-true (target_at version_2 g v n 0) n
            (not-false (target_at version_2 g v n 0 == n) b.1),
        not-false (is_field version_2 g v n 1 dot_dot) a.1,
      )

  -- none of its entries is bad
  entry_good : (n e : ℕ) → is_directory_inode g v n ≡ true → e < entry_count version_2 v n → is_bad_entry version_2 g v n e ≡ false
  entry_good n e is low = none_below (is_bad_entry version_2 g v n) (entry_count version_2 v n)
      (at_dir g v (λ n. some_below (is_bad_entry version_2 g v n) (entry_count version_2 v n)) n q.entries is) e low

  -- the three tests of an entry that isn't free
  entry_parts : (n e : ℕ) → is_bad_entry version_2 g v n e ≡ false → is_free_at version_2 g v n e ≡ false
      → ((target_at version_2 g v n e == 0) ≡ false) × ((nat_le 2 e && not (is_name_field version_2 g v n e)) ≡ false)
      × (some_below (has_name_of version_2 g v n e) e ≡ false)
  entry_parts n e none used =
      let t = target_at version_2 g v n e == 0 in
      let k = nat_le 2 e && not (is_name_field version_2 g v n e) in
      let d = some_below (has_name_of version_2 g v n e) e in
      let inner = and_false_right (not (is_free_at version_2 g v n e)) (t || k || d) none (ap not used) in
      let a = or_parts (t || k) d inner in
      let b = or_parts t k a.0 in
      (b.0, b.1, a.1)

  -- from the third on they are names
  names_good : (n e : ℕ) → is_directory_inode g v n ≡ true → 2 ≤ e → e < entry_count version_2 v n → is_free_at version_2 g v n e ≡ false
      → is_name_field version_2 g v n e ≡ true
  names_good n e is two low used =
      not-false (is_name_field version_2 g v n e) (and_false_right (nat_le 2 e) (not (is_name_field version_2 g v n e))
      (entry_parts n e (entry_good n e is low) used).1 (le-leb 2 e two))

  -- no name stands twice
  distinct : (n e f : ℕ) → is_directory_inode g v n ≡ true → e < f → f < entry_count version_2 v n → is_free_at version_2 g v n e ≡ false
      → is_free_at version_2 g v n f ≡ false → name_at version_2 g v n e ≢ name_at version_2 g v n f
  distinct n e f is less low used used' same =
      let apart = none_below (has_name_of version_2 g v n f) f (entry_parts n f (entry_good n f is low) used').2 e less in
      both_ways (has_name_of version_2 g v n f e) apart
      (and_from (not (is_free_at version_2 g v n e)) _ (ap not used)
      (ap (λ x. same_name (name_at version_2 g v n e) x) (sym same) ∙ same_name_itself (name_at version_2 g v n e)))

  -- all rules of a directory
  sound_directory : (n : ℕ) → is_directory_inode g v n ≡ true → IsSoundDirectory version_2 g v n
  sound_directory n is =
      let size = dir_size n is in
      let both = dots n is in
      record {
        sized = size.1;
        two = omega (arith, size.0);
        whole = λ p. whole n p is;
        dot_entry = (both.0, both.1);
        dot_dot_entry = both.2;
        used = λ e low used. eqb-false _ 0 (entry_parts n e (entry_good n e is low) used).0;
        names = λ e two low used. names_good n e is two low used;
        distinct = λ e f less low used used'. distinct n e f is less low used used';
      }

  -- all rules of the format
  is_sound : IsVolume g v → IsSound version_2 g v
  is_sound ok = record {
    zones = zones_agree g v ok q;
    inodes = sound_inode g v ok q;
    directories = sound_directory;
  }

-- the law
pub clean_is_sound : CleanIsSound
clean_is_sound g d ok is = is_sound g (pieces g d) (clean_quiet g (pieces g d) is) (is_volume g d ok)
