-- Where inodes lie.
use Rattle.std.proofs.Common.{◌≡◌, ◌≢◌, ◌≤◌, ◌<◌, ◌+◌, ◌-◌, ◌*◌, ◌/◌, ◌%◌, ℕ, ap, arith}
use mathlib.Core.Logic.{inl, inr}
use Rattle.std.specs.Prelude.{IsTrue, ◌⊎◌, nat_le}
use Rattle.std.proofs.Math.Nat.{div-add-mod', mod-lt}
use Rattle.std.proofs.lemmas.Bool.{and_parts, leb-true, cases_lt}
use Rattle.layout.specs.declared.Geometry.{Geometry}
use Rattle.layout.specs.Places.{IsGeometry, table_blocks}
use Rattle.layout.proofs.Parsed.{block_sizes}
use Rattle.volume.specs.Reading.{is_inode, inode_block, inode_offset}

-- a number's bounds
pub inode_bounds : (g : Geometry) (n : ℕ) → IsTrue (is_inode g n) → (1 ≤ n) × (n ≤ g.inodes)
inode_bounds g n h = let p = and_parts (nat_le 1 n) (nat_le n g.inodes) h in (leb-true 1 n p.0, leb-true n g.inodes p.1)

-- numbers that differ, times 64
steps : (a b : ℕ) → a ≢ b → (64 * a + 64 ≤ 64 * b) ⊎ (64 * b + 64 ≤ 64 * a)
steps a b h = elim (cases_lt a b) [
  | inl l ↦ inl (omega (arith, l))
  | inr l ↦ elim (cases_lt b a) [ inl k ↦ inr (omega (arith, k)) | inr k ↦ absurd (h (omega (arith, l, k))) ]
]

module _ (g : Geometry) (geometry : IsGeometry g) where
  -- its blocks come after the maps
  pub after_maps : (n : ℕ) → 2 + g.inode_map_blocks + g.zone_map_blocks ≤ inode_block g n
  after_maps n = omega arith

  -- and before the data zones
  pub before_zones : (n : ℕ) → IsTrue (is_inode g n) → inode_block g n < g.first_zone
  before_zones n h =
      let p = inode_bounds g n h in
      let first = geometry.first in
      elim (block_sizes g.block_size geometry.block_size) [
        | inl e ↦
            let q : (n - 1) / (g.block_size / 64) ≡ (n - 1) / 16 = ap (λ s. (n - 1) / (s / 64)) e in
            let t : table_blocks g ≡ (64 * g.inodes + 1024 - 1) / 1024 = ap (λ s. (64 * g.inodes + s - 1) / s) e in
            omega (arith, p.0, p.1, q, t)
        | inr (inl e) ↦
            let q : (n - 1) / (g.block_size / 64) ≡ (n - 1) / 32 = ap (λ s. (n - 1) / (s / 64)) e in
            let t : table_blocks g ≡ (64 * g.inodes + 2048 - 1) / 2048 = ap (λ s. (64 * g.inodes + s - 1) / s) e in
            omega (arith, p.0, p.1, q, t)
        | inr (inr e) ↦
            let q : (n - 1) / (g.block_size / 64) ≡ (n - 1) / 64 = ap (λ s. (n - 1) / (s / 64)) e in
            let t : table_blocks g ≡ (64 * g.inodes + 4096 - 1) / 4096 = ap (λ s. (64 * g.inodes + s - 1) / s) e in
            omega (arith, p.0, p.1, q, t)
      ]

  -- a block has inodes
  pub some_inodes : 16 ≤ g.block_size / 64
  some_inodes = elim (block_sizes g.block_size geometry.block_size) [
    | inl e ↦ omega (arith, e)
    | inr (inl e) ↦ omega (arith, e)
    | inr (inr e) ↦ omega (arith, e)
  ]

  -- an inode lies within its block
  pub within_block : (n : ℕ) → inode_offset g n + 64 ≤ g.block_size
  within_block n =
      let m : (n - 1) % (g.block_size / 64) < g.block_size / 64 = mod-lt (n - 1) (let s = some_inodes in omega arith) in
      omega (arith, m)

  -- two inodes of one block begin 64 bytes apart at least
  pub apart : (m n : ℕ) → IsTrue (is_inode g m) → IsTrue (is_inode g n) → m ≢ n → inode_block g m ≡ inode_block g n
      → (inode_offset g m + 64 ≤ inode_offset g n) ⊎ (inode_offset g n + 64 ≤ inode_offset g m)
  apart m n hm hn ne same =
      let a = inode_bounds g m hm in
      let b = inode_bounds g n hn in
      let k = g.block_size / 64 in
      let x = div-add-mod' (m - 1) k in
      let y = div-add-mod' (n - 1) k in
      let q : (m - 1) / k ≡ (n - 1) / k = omega (arith, same) in
      let z : (m - 1) / k * k ≡ (n - 1) / k * k = ap (λ t. t * k) q in
      steps ((m - 1) % k) ((n - 1) % k) (λ e. ne (omega (arith, a.0, b.0, x, y, z, e)))
