-- Volumes of which all bytes that count are the same hold the same tree.
use Rattle.std.proofs.Common.{◌≡◌, ◌≤◌, ◌<◌, ◌+◌, ◌-◌, ◌*◌, ◌/◌, ◌%◌, ℕ, List, length, zero, suc, [], ◌∷◌, ◌++◌, refl, sym, ap, ◌∙◌, arith}
use mathlib.Core.Logic.{inl, inr}
use Rattle.std.specs.Prelude.{nat_le, nat_lt, ◌&&◌, if◌then◌else◌, slice_index}
use Rattle.std.proofs.Math.Nat.{mul_comm, div-add-mod', mod-lt}
use Rattle.std.proofs.lemmas.Nat.{div_below, mul-add-lt}
use Rattle.std.proofs.lemmas.Grind.{same_number_lists}
use Rattle.std.proofs.lemmas.List.{length-append, get_or-append-add}
use Rattle.std.proofs.Math.ListN.{get_or-append}
use Rattle.std.proofs.lemmas.Bool.{and_parts, leb-true, ltb-true, lt-leb, lt-ltb, le-ltb, cond-true, cond-false, cases_lt, cases_Bool}
use Rattle.layout.specs.declared.Geometry.{Geometry}
use Rattle.layout.specs.Places.{IsGeometry, table_blocks}
use Rattle.layout.proofs.Parsed.{block_sizes}
use Rattle.volume.specs.declared.Inode.{Inode}
use Rattle.volume.specs.Reading.{Disk, blocks_of, is_inode, is_data_zone, inode_in, inode_block, inode_offset, inode_of_disk, inode_bit, zone_bit, bit_in}
use Rattle.volume.specs.Pieces.{pieces, blank}
use Rattle.records.specs.Disk.{Contents}
use Rattle.records.specs.Mount.{first_bytes}

-- ---- the first bytes

pub first_length : (c : Contents) (n : ℕ) → length (first_bytes c n) ≡ n
unfolding first_bytes
first_length c zero = refl
first_length c (suc n) = let l = length-append (first_bytes c n) (c n ∷ []) in let h = first_length c n in omega (arith, l, h)

pub first_at : (c : Contents) (n k : ℕ) → k < n → slice_index (first_bytes c n) k ≡ c k
unfolding first_bytes
first_at c zero k lt = absurd (omega (arith, lt))
first_at c (suc n) k lt = elim (cases_lt k n) [
  | inl low ↦ get_or-append (first_bytes c n) (c n ∷ []) 0 k (let l = first_length c n in omega (arith, l, low)) ∙ first_at c n k low
  | inr high ↦
      let l = first_length c n in
      let e : k ≡ length (first_bytes c n) + 0 = omega (arith, l, lt, high) in
      ap (slice_index (first_bytes c n ++ c n ∷ [])) e ∙ get_or-append-add (first_bytes c n) (c n ∷ []) 0 0 ∙ ap c (omega (arith, lt, high))
]

-- a row of bytes that has them is they
pub first_same : (xs : List ℕ) (c : Contents) (n : ℕ) → length xs ≡ n → ((k : ℕ) → k < n → slice_index xs k ≡ c k) → first_bytes c n ≡ xs
first_same xs c n many same =
    let l = first_length c n in
    same_number_lists (first_bytes c n) xs (l ∙ sym many)
    (λ k lt. let low : k < n = omega (arith, l, lt) in first_at c n k low ∙ sym (same k low))

-- rows that are the same so far have the same first bytes
pub first_alike : (c d : Contents) (n : ℕ) → ((k : ℕ) → k < n → c k ≡ d k) → first_bytes c n ≡ first_bytes d n
first_alike c d n same = first_same (first_bytes d n) c n (first_length d n) (λ k lt. first_at d n k lt ∙ sym (same k lt))

-- ---- the pieces

-- the inodes' blocks come before the data zones
before_zones : (g : Geometry) → IsGeometry g → (n : ℕ) → 1 ≤ n → n ≤ g.inodes → inode_block g n < g.first_zone
before_zones g geometry n some most =
    let first = geometry.first in
    elim (block_sizes g.block_size geometry.block_size) [
      | inl e ↦
          let q : (n - 1) / (g.block_size / 64) ≡ (n - 1) / 16 = ap (λ s. (n - 1) / (s / 64)) e in
          let t : table_blocks g ≡ (64 * g.inodes + 1024 - 1) / 1024 = ap (λ s. (64 * g.inodes + s - 1) / s) e in
          omega (arith, some, most, q, t)
      | inr (inl e) ↦
          let q : (n - 1) / (g.block_size / 64) ≡ (n - 1) / 32 = ap (λ s. (n - 1) / (s / 64)) e in
          let t : table_blocks g ≡ (64 * g.inodes + 2048 - 1) / 2048 = ap (λ s. (64 * g.inodes + s - 1) / s) e in
          omega (arith, some, most, q, t)
      | inr (inr e) ↦
          let q : (n - 1) / (g.block_size / 64) ≡ (n - 1) / 64 = ap (λ s. (n - 1) / (s / 64)) e in
          let t : table_blocks g ≡ (64 * g.inodes + 4096 - 1) / 4096 = ap (λ s. (64 * g.inodes + s - 1) / s) e in
          omega (arith, some, most, q, t)
    ]

module _ (g : Geometry) (geometry : IsGeometry g) (d e : Disk) (same : (b : ℕ) → b < g.zones → e b ≡ d b) where
  abbrev width : ℕ
  width = 8 * g.block_size

  some : 0 < width
  some = omega (arith, geometry.sized)

  inode_map : (m : ℕ) → (pieces g e).inode_map m ≡ (pieces g d).inode_map m
  inode_map m = elim (cases_lt g.inodes m) [
    | inl past ↦ ap (λ b. b && inode_bit g e m) (lt-leb m g.inodes past) ∙ sym (ap (λ b. b && inode_bit g d m) (lt-leb m g.inodes past))
    | inr within ↦
        let below : m / width < g.inode_map_blocks = div_below m width g.inode_map_blocks some
        (let c = mul_comm g.inode_map_blocks width in let l = geometry.inode_map in omega (arith, c, l, within)) in
        let first = geometry.first in
        let last = geometry.some_zone in
        ap (λ (f : ℕ → ℕ). nat_le m g.inodes && bit_in f (m % width)) (same (2 + m / width) (omega (arith, below, first, last)))
  ]

  zone_map : (m : ℕ) → (pieces g e).zone_map m ≡ (pieces g d).zone_map m
  zone_map m = elim (cases_lt (g.zones - g.first_zone) m) [
    | inl past ↦ ap (λ b. b && zone_bit g e m) (lt-leb m (g.zones - g.first_zone) past) ∙ sym (ap (λ b. b && zone_bit g d m) (lt-leb m (g.zones - g.first_zone) past))
    | inr within ↦
        let below : m / width < g.zone_map_blocks = div_below m width g.zone_map_blocks some
        (let c = mul_comm g.zone_map_blocks width in let l = geometry.zone_map in omega (arith, c, l, within)) in
        let first = geometry.first in
        let last = geometry.some_zone in
        ap (λ (f : ℕ → ℕ). nat_le m (g.zones - g.first_zone) && bit_in f (m % width))
        (same (2 + g.inode_map_blocks + m / width) (omega (arith, below, first, last)))
  ]

  inodes : (m : ℕ) → (pieces g e).inodes m ≡ (pieces g d).inodes m
  inodes m = elim (cases_Bool (is_inode g m)) [
    | inl in_it ↦
        let p = and_parts (nat_le 1 m) (nat_le m g.inodes) in_it in
        let low = before_zones g geometry m (leb-true 1 m p.0) (leb-true m g.inodes p.1) in
        let last = geometry.some_zone in
        let f : (ℕ → ℕ) → Inode = λ x. if is_inode g m then inode_in x (inode_offset g m) else blank in
        ap f (same (inode_block g m) (omega (arith, low, last)))
    | inr past ↦ cond-false (is_inode g m) (inode_of_disk g e m) blank past ∙ sym (cond-false (is_inode g m) (inode_of_disk g d m) blank past)
  ]

  zones : (z : ℕ) → (pieces g e).zones z ≡ (pieces g d).zones z
  zones z = elim (cases_Bool (is_data_zone g z)) [
    | inl in_it ↦
        let low = ltb-true z g.zones (and_parts (nat_le g.first_zone z) (nat_lt z g.zones) in_it).1 in
        let f : (ℕ → ℕ) → ℕ → ℕ = λ x o. if is_data_zone g z then x o else 0 in
        ap f (same z low)
    | inr past ↦ λ i o. (cond-false (is_data_zone g z) (e z o) 0 past ∙ sym (cond-false (is_data_zone g z) (d z o) 0 past)) i
  ]

  pub same_pieces : pieces g e ≡ pieces g d
  same_pieces = λ i. record {
    inode_map = λ m. inode_map m i;
    zone_map = λ m. zone_map m i;
    inodes = λ m. inodes m i;
    zones = λ z. zones z i;
  }

-- rows of bytes that are the same as far as the volume goes
pub same_block : (g : Geometry) (f h : Contents) → ((k : ℕ) → k < g.zones * g.block_size → h k ≡ f k) → (b : ℕ) → b < g.zones
    → blocks_of g h b ≡ blocks_of g f b
same_block g f h same b low = λ i o. by o i
  where
    by : (o : ℕ) → blocks_of g h b o ≡ blocks_of g f b o
    by o = elim (cases_lt o g.block_size) [
      | inl within ↦
          let t = lt-ltb o g.block_size within in
          cond-true (nat_lt o g.block_size) (h (b * g.block_size + o)) 0 t
          ∙ same (b * g.block_size + o) (let m = mul-add-lt b g.block_size o g.zones low within in let c = mul_comm g.zones g.block_size in omega (arith, m, c))
          ∙ sym (cond-true (nat_lt o g.block_size) (f (b * g.block_size + o)) 0 t)
      | inr past ↦
          let t = le-ltb o g.block_size past in
          cond-false (nat_lt o g.block_size) (h (b * g.block_size + o)) 0 t
          ∙ sym (cond-false (nat_lt o g.block_size) (f (b * g.block_size + o)) 0 t)
    ]

-- a byte of a volume, by its block
pub byte_at : (g : Geometry) (f : Contents) (p : ℕ) → 0 < g.block_size → blocks_of g f (p / g.block_size) (p % g.block_size) ≡ f p
byte_at g f p some =
    cond-true (nat_lt (p % g.block_size) g.block_size) (f (p / g.block_size * g.block_size + p % g.block_size)) 0
    (lt-ltb (p % g.block_size) g.block_size (mod-lt p some))
    ∙ ap f (div-add-mod' p g.block_size)
