-- The numbers of marked inodes and of data zones are in range, so a test that holds nowhere doesn't hold of them.
use Rattle.std.proofs.Common.{◌≡◌, ◌≢◌, ◌<◌, ◌≤◌, ◌+◌, ℕ, List, [], ◌∷◌, Bool, true, false, refl, arith}
use Rattle.std.specs.Prelude.{◌&&◌, ◌==◌, nat_lt, nat_le}
use Rattle.std.proofs.lemmas.Bool.{and_parts, and_from, leb-true, ltb-true, eqb-true, eq-eqb}
use Rattle.lemmas.proofs.Bools.{and_false_right}
use Rattle.layout.specs.declared.Geometry.{Geometry}
use Rattle.tree.specs.Names.{same_name}
use Rattle.lemmas.specs.Sums.{some_below}
use Rattle.volume.specs.Reading.{is_inode, is_data_zone}
use Rattle.layout.specs.Places.{IsGeometry}
use Rattle.volume.specs.Pieces.{Pieces}
use Rattle.volume.specs.Nodes.{is_directory_mode, is_link_mode, is_marked}
use Rattle.volume.specs.Entries.{is_directory_inode, is_link_inode}
use Rattle.volume.proofs.Sums.{none_below}
use Rattle.volume.specs.Verdict.{place_limit}

-- the test of names against equality
pub same_name_true : (xs ys : List ℕ) → same_name xs ys ≡ true → xs ≡ ys
same_name_true [] [] e = refl
same_name_true [] (y ∷ ys) e = absurd (cc)
same_name_true (x ∷ xs) [] e = absurd (cc)
same_name_true (x ∷ xs) (y ∷ ys) e =
    let parts = and_parts (x == y) (same_name xs ys) e in
    λ i. eqb-true x y parts.0 i ∷ same_name_true xs ys parts.1 i

-- a name is the same as itself
pub same_name_itself : (xs : List ℕ) → same_name xs xs ≡ true
same_name_itself [] = refl
same_name_itself (x ∷ xs) = and_from (x == x) (same_name xs xs) (eq-eqb x x refl) (same_name_itself xs)

module _ (g : Geometry) (v : Pieces) where
  -- the number of a marked inode is in range
  pub marked_low : (n : ℕ) → is_marked g v n ≡ true → (1 ≤ n) × (n ≤ g.inodes)
  marked_low n is =
      let inside = (and_parts (is_inode g n) (v.inode_map n) is).0 in
      let both = and_parts (nat_le 1 n) (nat_le n g.inodes) inside in
      (leb-true 1 n both.0, leb-true n g.inodes both.1)

  -- and below the bound of sums
  pub marked_below : (n : ℕ) → is_marked g v n ≡ true → n < g.inodes + 1
  marked_below n is = let low = marked_low n is in omega (arith, low.1)

  -- a data zone is in range
  pub data_low : (z : ℕ) → is_data_zone g z ≡ true → (g.first_zone ≤ z) × (z < g.zones)
  data_low z is = let both = and_parts (nat_le g.first_zone z) (nat_lt z g.zones) is in (leb-true g.first_zone z both.0, ltb-true z g.zones both.1)

  -- and isn't 0
  pub data_some : IsGeometry g → (z : ℕ) → is_data_zone g z ≡ true → z ≢ 0
  data_some ok z is e = let low = data_low z is in absurd (omega (arith, low.0, ok.first))

  -- a directory is marked
  pub dir_marked : (n : ℕ) → is_directory_inode g v n ≡ true → is_marked g v n ≡ true
  dir_marked n is = (and_parts (is_marked g v n) (is_directory_mode (v.inodes n).mode) is).0

  -- a test that no inode, no directory, no data zone meets
  pub at_inode : (p : ℕ → Bool) (n : ℕ) → some_below (λ k. is_marked g v k && p k) (place_limit g) ≡ false → is_marked g v n ≡ true → p n ≡ false
  at_inode p n none is =
      let low = marked_low n is in
      and_false_right (is_marked g v n) (p n) (none_below (λ k. is_marked g v k && p k) (place_limit g) none n (omega (arith, low.1))) is

  -- one that no directory meets
  pub at_dir : (p : ℕ → Bool) (n : ℕ) → some_below (λ k. is_directory_inode g v k && p k) (place_limit g) ≡ false → is_directory_inode g v n ≡ true → p n ≡ false
  at_dir p n none is =
      let low = marked_low n (dir_marked n is) in
      and_false_right (is_directory_inode g v n) (p n) (none_below (λ k. is_directory_inode g v k && p k) (place_limit g) none n (omega (arith, low.1))) is

  -- one that no data zone meets
  pub at_zone : (p : ℕ → Bool) (z : ℕ) → some_below (λ k. is_data_zone g k && p k) (place_limit g) ≡ false → is_data_zone g z ≡ true → p z ≡ false
  at_zone p z none is =
      let low = data_low z is in
      and_false_right (is_data_zone g z) (p z) (none_below (λ k. is_data_zone g k && p k) (place_limit g) none z (omega (arith, low.1))) is

  -- one that no link meets
  pub at_link : (p : ℕ → Bool) (n : ℕ) → some_below (λ k. is_link_inode g v k && p k) (place_limit g) ≡ false → is_link_inode g v n ≡ true
      → p n ≡ false
  at_link p n none is =
      let low = marked_low n (and_parts (is_marked g v n) (is_link_mode (v.inodes n).mode) is).0 in
      and_false_right (is_link_inode g v n) (p n) (none_below (λ k. is_link_inode g v k && p k) (place_limit g) none n
      (omega (arith, low.1))) is
