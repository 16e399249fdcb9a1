-- The volume's and the tree's ways to the root are the plain ones.
use Rattle.std.proofs.Common.{◌≡◌, ◌<◌, ◌+◌, ℕ, zero, suc, Bool, true, false, refl, sym, ◌∙◌, arith}
use mathlib.Core.Logic.{inl, inr}
use Rattle.std.specs.Prelude.{◌&&◌, ◌||◌, nat_lt, Option}
use Rattle.std.proofs.lemmas.Bool.{cases_Bool, cond-false, ltb-true}
use Rattle.layout.specs.declared.Geometry.{Geometry}
use Rattle.lemmas.specs.Sums.{some_below}
use Rattle.tree.specs.Tree.{Node, is_dir_at, parent_of}
use Rattle.tree.specs.IsTree.{above}
use Rattle.volume.specs.Pieces.{Pieces}
use Rattle.volume.specs.Entries.{is_directory_inode}
use Rattle.volume.specs.Findings.{names_in_of, is_reached}
use Rattle.volume.proofs.Reach.{reached, climb}
use Rattle.volume.proofs.Ranges.{marked_low, dir_marked}
use Rattle.volume.proofs.NodesAs.{nodes, dir_node, parent_none}

-- steps to the parent
pub above_climbs : (nodes : ℕ → Option Node) (k n : ℕ) → above nodes k n ≡ climb (λ m. parent_of (nodes m)) k n
unfolding climb
above_climbs nodes zero n = refl
above_climbs nodes (suc k) n = above_climbs nodes k (parent_of (nodes n))

module _ (g : Geometry) (v : Pieces) where
  -- a name leads from directory m to n
  abbrev pub edge : ℕ → ℕ → Bool
  edge m n = nat_lt 0 (names_in_of g v m n)

  -- reached by names
  pub reached_is : (k n : ℕ) → is_reached g v k n ≡ reached edge (g.inodes + 1) k n
  unfolding reached
  reached_is zero n = refl
  reached_is (suc k) n = λ i. reached_is k n i || some_below (λ m. edge m n && reached_is k m i) (g.inodes + 1)

  -- a node is a directory
  abbrev pub dir : ℕ → Bool
  dir n = is_dir_at (nodes g v) n

  -- its parent
  abbrev pub parent : ℕ → ℕ
  parent n = parent_of (nodes g v n)

  -- then its inode is one
  pub as_dir : (n : ℕ) → dir n ≡ true → is_directory_inode g v n ≡ true
  as_dir n is = sym (dir_node g v n) ∙ is

  -- only directories have names
  pub edge_from : (k n : ℕ) → edge k n ≡ true → (k < g.inodes + 1) × (dir k ≡ true)
  edge_from k n e = elim (cases_Bool (is_directory_inode g v k)) [
    | inl is ↦ let low = marked_low g v k (dir_marked g v k is) in (omega (arith, low.1), dir_node g v k ∙ is)
    | inr out ↦
        let some = ltb-true 0 (names_in_of g v k n) e in
        let none : names_in_of g v k n ≡ 0 = cond-false (is_directory_inode g v k) _ 0 out in
        absurd (omega arith)
  ]

  -- and parents
  pub orphan : (n : ℕ) → dir n ≡ false → parent n ≡ 0
  orphan n out = parent_none g v n (sym (dir_node g v n) ∙ out)

  -- 0 is no directory
  pub nowhere : dir 0 ≡ false
  nowhere = elim (cases_Bool (dir 0)) [
    | inl is ↦ let low = marked_low g v 0 (dir_marked g v 0 (as_dir 0 is)) in absurd (omega (arith, low.0))
    | inr out ↦ out
  ]
