-- The least inode that isn't marked is the least that is free.
use Rattle.std.proofs.Common.{◌≡◌, ◌<◌, ◌≤◌, ◌+◌, ◌-◌, ℕ, true, false, sym, ap, ◌∙◌, arith}
use Rattle.std.specs.Prelude.{◌&&◌, ◌==◌, nat_le, Option, None, Some, Ok, Err, is_none, if◌then◌else◌}
use Rattle.std.proofs.lemmas.Bool.{and_from, cond-true, cond-false, eq-eqb, le-leb, ne_eqb}
use Rattle.layout.specs.declared.Geometry.{Geometry}
use Rattle.errno.specs.declared.Errno.TheVariants.{ENOSPC}
use Rattle.lemmas.specs.Sums.{least_below}
use Rattle.tree.specs.Tree.{Node}
use Rattle.tree.specs.Refusals.{◌>>=◌}
use Rattle.volume.specs.Reading.{is_inode}
use Rattle.volume.specs.Pieces.{Pieces}
use Rattle.volume.specs.Nodes.{is_marked, node_of, nodes_of}
use Rattle.descriptors.proofs.Searches.{least_at}
use Rattle.bitmap.specs.Numbers.{IsLowestFree}
use Rattle.inode_operations.specs.NewNodes.{IsLeastFree}

module _ (g : Geometry) (v : Pieces) where
  -- what stands at a number of an inode, by its bit
  taken : (n : ℕ) → 1 ≤ n → n ≤ g.inodes → v.inode_map n ≡ true → is_none (nodes_of g v n) ≡ false
  taken n from to is = ap is_none (cond-true (is_marked g v n) (Some (node_of g v (v.inodes n))) None
      (and_from (is_inode g n) (v.inode_map n) (and_from (nat_le 1 n) (nat_le n g.inodes) (le-leb 1 n from) (le-leb n g.inodes to)) is))

  free : (n : ℕ) → v.inode_map n ≡ false → is_none (nodes_of g v n) ≡ true
  free n is = ap is_none (cond-false (is_marked g v n) (Some (node_of g v (v.inodes n))) None (none (is_inode g n) (v.inode_map n) is))
    where
      none : (a b : Rattle.std.proofs.Common.Bool) → b ≡ false → (a && b) ≡ false
      none true b e = e
      none false b e = Rattle.std.proofs.Common.refl

  pub least_free : (x : Option ℕ) → IsLowestFree x v.inode_map 1 (g.inodes + 1) → IsLeastFree g v x
  least_free None all t nodes =
      let least : least_below (λ j. is_none (t.nodes (1 + j))) g.inodes ≡ g.inodes = least_at _ g.inodes g.inodes (omega arith)
      (λ j low. ap (λ (f : ℕ → Option Node). is_none (f (1 + j))) nodes ∙ taken (1 + j) (omega arith) (omega (arith, low)) (all (1 + j) (omega arith) (omega (arith, low))))
      (λ low. absurd (omega (arith, low))) in
      ap (λ k. (if k == g.inodes then Err ENOSPC else Ok k) >>= λ k. Ok (1 + k)) least ∙ ap (λ r. r >>= λ k. Ok (1 + k)) (cond-true (g.inodes == g.inodes) (Err ENOSPC) (Ok g.inodes) (eq-eqb g.inodes g.inodes Rattle.std.proofs.Common.refl))
  least_free (Some n) h t nodes =
      let from = h.0 in
      let below = h.1 in
      let is : 1 + (n - 1) ≡ n = omega (arith, from) in
      let least : least_below (λ j. is_none (t.nodes (1 + j))) g.inodes ≡ n - 1 = least_at _ g.inodes (n - 1) (omega (arith, from, below))
      (λ j low. ap (λ (f : ℕ → Option Node). is_none (f (1 + j))) nodes ∙ taken (1 + j) (omega arith) (omega (arith, low, below)) (h.3 (1 + j) (omega arith) (omega (arith, low))))
      (λ low. ap (λ (f : ℕ → Option Node). is_none (f (1 + (n - 1)))) nodes ∙ ap (λ k. is_none (nodes_of g v k)) is ∙ free n h.2) in
      ap (λ k. (if k == g.inodes then Err ENOSPC else Ok k) >>= λ k. Ok (1 + k)) least
      ∙ ap (λ r. r >>= λ k. Ok (1 + k)) (cond-false (n - 1 == g.inodes) (Err ENOSPC) (Ok (n - 1)) (ne_eqb (n - 1) g.inodes (λ e. absurd (omega (arith, e, from, below)))))
      ∙ ap (λ k. Ok k) is
