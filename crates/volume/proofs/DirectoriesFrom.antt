-- Where no finding holds, the rules of the format on directories hold.
use Rattle.std.proofs.Common.{◌≡◌, ◌≢◌, ◌<◌, ◌≤◌, ◌%◌, ℕ, true, false, sym, ap, ◌∙◌, arith}
use Rattle.std.specs.Prelude.{not, ◌&&◌, ◌||◌, ◌==◌, nat_lt, nat_le}
use Rattle.std.proofs.lemmas.Bool.{or_parts, eqb-true, eqb-false, ltb-false, le-leb, not-false, both_ways}
use Rattle.lemmas.proofs.Bools.{and_false_right}
use Rattle.layout.specs.declared.Geometry.{Geometry}
use Rattle.lemmas.specs.Sums.{some_below}
use Rattle.tree.specs.Names.{same_name, dot, dot_dot}
use Rattle.tree.specs.Tree.{most_size}
use Rattle.tree.specs.Space.{pages_of}
use Rattle.volume.specs.Pieces.{Pieces}
use Rattle.volume.specs.Nodes.{page_zone, is_marked}
use Rattle.volume.specs.Entries.{is_directory_inode, entry_count, name_at, target_at, is_field, is_name_field}
use Rattle.volume.specs.Findings.{is_bad_entry}
use Rattle.volume.specs.Holds.{IsSoundDirectory, IsSound}
use Rattle.volume.proofs.Sums.{none_below}
use Rattle.volume.proofs.Quiet.{Quiet}
use Rattle.volume.proofs.Volumes.{IsVolume}
use Rattle.volume.proofs.Ranges.{dir_marked, at_inode, at_dir, same_name_itself}
use Rattle.volume.proofs.ZonesFrom.{zones_agree, sound_inode}

module _ (g : Geometry) (v : Pieces) (q : Quiet g v) where
  -- no size is over the greatest
  pub size_low : (n : ℕ) → is_marked g v n ≡ true → (v.inodes n).size ≤ most_size
  size_low n is = ltb-false most_size _ (or_parts _ _ (at_inode g v _ n q.sizes is)).0

  -- a directory has two entries and whole ones
  dir_size : (n : ℕ) → is_directory_inode g v n ≡ true → (128 ≤ (v.inodes n).size) × ((v.inodes n).size % 64 ≡ 0)
  dir_size n is =
      let rest = and_false_right (is_directory_inode g v n) _ (or_parts _ _ (at_inode g v _ n q.sizes (dir_marked g v n is))).1 is in
      let both = or_parts (nat_lt (v.inodes n).size 128) _ rest in
      (ltb-false _ 128 both.0, eqb-true _ 0 (not-false _ both.1))

  -- it has no hole
  whole : (n p : ℕ) → is_directory_inode g v n ≡ true → p < pages_of g (v.inodes n).size → page_zone g v (v.inodes n) p ≢ 0
  whole n p is low = eqb-false _ 0 (none_below _ (pages_of g (v.inodes n).size) (at_dir g v _ n q.holes is) p low)

  -- its first two entries are . and ..
  dots : (n : ℕ) → is_directory_inode g v n ≡ true → (is_field g v n 0 dot ≡ true) × (target_at g v n 0 ≡ n) × (is_field g v n 1 dot_dot ≡ true)
  dots n is =
      let here = at_dir g v (λ n. not (is_field g v n 0 dot) || not (target_at g v n 0 == n) || not (is_field g v n 1 dot_dot)) n q.dots is in
      let a = or_parts (not (is_field g v n 0 dot) || not (target_at g v n 0 == n)) (not (is_field g v n 1 dot_dot)) here in
      let b = or_parts (not (is_field g v n 0 dot)) (not (target_at g v n 0 == n)) a.0 in
      (not-false (is_field g v n 0 dot) b.0, eqb-true (target_at g v n 0) n (not-false (target_at g v n 0 == n) b.1), not-false (is_field g v n 1 dot_dot) a.1)

  -- none of its entries is bad
  entry_good : (n e : ℕ) → is_directory_inode g v n ≡ true → e < entry_count v n → is_bad_entry g v n e ≡ false
  entry_good n e is low = none_below (is_bad_entry g v n) (entry_count v n) (at_dir g v (λ n. some_below (is_bad_entry g v n) (entry_count v n)) n q.entries is) e low

  -- an entry's three tests
  entry_parts : (n e : ℕ) → is_bad_entry g v n e ≡ false
      → ((target_at g v n e == 0) ≡ false) × ((nat_le 2 e && not (is_name_field g v n e)) ≡ false)
      × (some_below (λ f. same_name (name_at g v n f) (name_at g v n e)) e ≡ false)
  entry_parts n e none =
      let t = target_at g v n e == 0 in
      let k = nat_le 2 e && not (is_name_field g v n e) in
      let d = some_below (λ f. same_name (name_at g v n f) (name_at g v n e)) e in
      let a = or_parts (t || k) d none in
      let b = or_parts t k a.0 in
      (b.0, b.1, a.1)

  -- from the third on they are names
  names_good : (n e : ℕ) → is_directory_inode g v n ≡ true → 2 ≤ e → e < entry_count v n → is_name_field g v n e ≡ true
  names_good n e is two low =
      not-false (is_name_field g v n e) (and_false_right (nat_le 2 e) (not (is_name_field g v n e)) (entry_parts n e (entry_good n e is low)).1 (le-leb 2 e two))

  -- no name stands twice
  distinct : (n e f : ℕ) → is_directory_inode g v n ≡ true → e < f → f < entry_count v n → name_at g v n e ≢ name_at g v n f
  distinct n e f is less low same =
      let apart = none_below (λ a. same_name (name_at g v n a) (name_at g v n f)) f (entry_parts n f (entry_good n f is low)).2 e less in
      both_ways (same_name (name_at g v n e) (name_at g v n f)) apart
      (ap (λ x. same_name (name_at g v n e) x) (sym same) ∙ same_name_itself (name_at g v n e))

  -- all rules of a directory
  sound_directory : (n : ℕ) → is_directory_inode g v n ≡ true → IsSoundDirectory g v n
  sound_directory n is =
      let size = dir_size n is in
      let both = dots n is in
      record {
        sized = size.1;
        two = omega (arith, size.0);
        whole = λ p. whole n p is;
        dot_entry = (both.0, both.1);
        dot_dot_entry = both.2;
        used = λ e low. eqb-false _ 0 (entry_parts n e (entry_good n e is low)).0;
        names = λ e two low. names_good n e is two low;
        distinct = λ e f less low. distinct n e f is less low;
      }

  -- all rules of the format
  pub is_sound : IsVolume g v → IsSound g v
  is_sound ok = record {
    zones = zones_agree g v ok q;
    inodes = sound_inode g v ok q;
    directories = sound_directory;
  }
