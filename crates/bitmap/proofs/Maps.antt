-- The bytes of a map.
use Rattle.std.proofs.Common.{◌≡◌, ◌≢◌, ◌<◌, ◌≤◌, ◌+◌, ◌-◌, ◌*◌, ◌/◌, ◌%◌, ◌^◌, ℕ, [], ◌∷◌, Bool, sym, ap, subst, ◌∙◌, arith}
use mathlib.Core.Logic.{inl, inr}
use Rattle.std.specs.Prelude.{◌⊎◌, ◌&&◌, ◌==◌, nat_le}
use Rattle.std.proofs.Math.Nat.{mul_comm, mod-lt}
use Rattle.std.proofs.lemmas.Nat.{div_below, div-add-mod'}
use Rattle.std.proofs.lemmas.Bool.{cases_eq, cases_lt, le-leb}
use Rattle.layout.specs.declared.Geometry.{Geometry}
use Rattle.layout.specs.Places.{IsGeometry}
use Rattle.lemmas.specs.Sums.{put}
use Rattle.lemmas.proofs.Maps.{put-same, put-other, is_put}
use Rattle.volume.specs.Reading.{Disk, bit_in, map_bit}
use Rattle.volume.specs.Pieces.{pieces}
use Rattle.block_store.specs.Rows.{with_bytes, written}
use Rattle.block_store.specs.Volume.{Alters}
use Rattle.block_store.proofs.Rows.{row_new, row_old}
use Rattle.block_store.specs.Regions.{zone_map_start}
use Rattle.block_store.proofs.Alone.{in_inode_map, in_zone_map}
use Rattle.bitmap.specs.declared.Map.{Map}
use Rattle.bitmap.specs.declared.Map.TheVariants as map
use Rattle.bitmap.specs.Maps.{numbers_in, with_number, last_number, first_block}

-- a number up to the last is in a map where its bit is set
pub by_bit : (m : Map) (g : Geometry) (d : Disk) (n : ℕ) → n ≤ last_number m g → numbers_in m (pieces g d) n ≡ map_bit g d (first_block m g) n
by_bit map.Inodes g d n h = ap (λ b. b && map_bit g d 2 n) (le-leb n g.inodes h)
by_bit map.Zones g d n h = ap (λ b. b && map_bit g d (2 + g.inode_map_blocks) n) (le-leb n (g.zones - g.first_zone) h)

-- one bit of a byte of a map that begins at a block
module _ (g : Geometry) (sized : 0 < g.block_size) (d : Disk) (start n old new : ℕ) (x : Bool) where
  abbrev width : ℕ
  width = 8 * g.block_size

  abbrev block : ℕ
  block = start + n / width

  abbrev place : ℕ
  place = n % width / 8

  abbrev bit : ℕ
  bit = n % width % 8

  -- the disk with another byte
  abbrev e : Disk
  e = written block place (new ∷ []) d

  here : e block ≡ with_bytes place (new ∷ []) (d block)
  here = put-same d block _

  first : place ≡ place + 0
  first = omega arith

  byte : e block place ≡ new
  byte = ap (λ (f : ℕ → ℕ). f place) here ∙ ap (with_bytes place (new ∷ []) (d block)) first ∙ row_new place (new ∷ []) (d block) 0 (omega arith)

  this : (new / 2 ^ bit % 2 == 1) ≡ x → map_bit g e start n ≡ x
  this is = ap (λ (z : ℕ). z / 2 ^ bit % 2 == 1) byte ∙ is

  module _ (others : (j : ℕ) → j < 8 → j ≢ bit → (new / 2 ^ j % 2 == 1) ≡ (old / 2 ^ j % 2 == 1)) (was : old ≡ d block place) where
    that : (m : ℕ) → m ≢ n → map_bit g e start m ≡ map_bit g d start m
    that m ne = elim (cases_eq (start + m / width) block) [
      | inr differ ↦ ap (λ (f : ℕ → ℕ). bit_in f (m % width)) (put-other d block _ (start + m / width) differ)
      | inl same ↦ elim (cases_eq (m % width / 8) place) [
        | inr far ↦ ap (λ (b : ℕ). bit_in (e b) (m % width)) same
            ∙ ap (λ (f : ℕ → ℕ). bit_in f (m % width)) here
            ∙ ap (λ (z : ℕ). z / 2 ^ (m % width % 8) % 2 == 1) (row_old place (new ∷ []) (d block) (m % width / 8) (apart (m % width / 8) place far))
            ∙ sym (ap (λ (b : ℕ). bit_in (d b) (m % width)) same)
        | inl near ↦
            let small : m % width % 8 < 8 = mod-lt (m % width) (omega arith) in
            ap (λ (b : ℕ). bit_in (e b) (m % width)) same
            ∙ ap (λ (z : ℕ). e block z / 2 ^ (m % width % 8) % 2 == 1) near
            ∙ ap (λ (z : ℕ). z / 2 ^ (m % width % 8) % 2 == 1) byte
            ∙ others (m % width % 8) small (λ t. ne (whole same near t))
            ∙ ap (λ (z : ℕ). z / 2 ^ (m % width % 8) % 2 == 1) was
            ∙ ap (λ (z : ℕ). d block z / 2 ^ (m % width % 8) % 2 == 1) (sym near)
            ∙ sym (ap (λ (b : ℕ). bit_in (d b) (m % width)) same)
      ]
    ]
      where
        apart : (a b : ℕ) → a ≢ b → (a < b) ⊎ (b + 1 ≤ a)
        apart a b h = elim (cases_lt a b) [ inl l ↦ inl l | inr l ↦ elim (cases_lt b a) [ inl k ↦ inr (omega arith) | inr k ↦ absurd (h (omega arith)) ] ]

        whole : start + m / width ≡ block → m % width / 8 ≡ place → m % width % 8 ≡ bit → m ≡ n
        whole p q t =
            let a = div-add-mod' m width in
            let b = div-add-mod' n width in
            let z : m / width ≡ n / width = omega (arith, p) in
            let y : m / width * width ≡ n / width * width = ap (λ k. k * width) z in
            let r : m % width ≡ n % width = omega (arith, q, t) in
            omega (arith, a, b, y, r)

    -- the numbers up to a last one
    numbers : (last : ℕ) → n ≤ last → (new / 2 ^ bit % 2 == 1) ≡ x
        → (λ (m : ℕ). nat_le m last && map_bit g e start m) ≡ put (λ (m : ℕ). nat_le m last && map_bit g d start m) n x
    numbers last h is = is_put (λ (m : ℕ). nat_le m last && map_bit g d start m) (λ (m : ℕ). nat_le m last && map_bit g e start m) n x
        (ap (λ z. z && map_bit g e start n) (le-leb n last h) ∙ this is)
        (λ m ne. ap (λ z. nat_le m last && z) (that m ne))

-- the block of a number of a map is one of the map's
below : (g : Geometry) → IsGeometry g → (n blocks last : ℕ) → n ≤ last → last < 8 * g.block_size * blocks → n / (8 * g.block_size) < blocks
below g geometry n blocks last h fits = div_below n (8 * g.block_size) blocks (let s = geometry.sized in omega (arith, s))
    (let c = mul_comm blocks (8 * g.block_size) in omega (arith, c, h, fits))

-- the number that was put in, or taken out
changed : (m : Map) (g : Geometry) → IsGeometry g → (d : Disk) (n old new : ℕ) (x : Bool) → n ≤ last_number m g
    → old ≡ d (first_block m g + n / (8 * g.block_size)) (n % (8 * g.block_size) / 8)
    → (new / 2 ^ (n % (8 * g.block_size) % 8) % 2 == 1) ≡ x
    → ((j : ℕ) → j < 8 → j ≢ n % (8 * g.block_size) % 8 → (new / 2 ^ j % 2 == 1) ≡ (old / 2 ^ j % 2 == 1))
    → Alters g (with_number m (pieces g d) n x) d (written (first_block m g + n / (8 * g.block_size)) (n % (8 * g.block_size) / 8) (new ∷ []) d)
changed map.Inodes g geometry d n old new x h was is others =
    let low = below g geometry n g.inode_map_blocks g.inodes h geometry.inode_map in
    let own = numbers g geometry.sized d 2 n old new x others was g.inodes h is in
    let a = in_inode_map g geometry d (2 + n / (8 * g.block_size)) (with_bytes (n % (8 * g.block_size) / 8) (new ∷ []) (d (2 + n / (8 * g.block_size)))) (omega arith) (omega (arith, low)) in
    record { pieces = a.pieces ∙ ap (λ (f : ℕ → Bool). record (pieces g d) { inode_map = f }) own; head = a.head }
changed map.Zones g geometry d n old new x h was is others =
    let low = below g geometry n g.zone_map_blocks (g.zones - g.first_zone) h geometry.zone_map in
    let own = numbers g geometry.sized d (zone_map_start g) n old new x others was (g.zones - g.first_zone) h is in
    let a = in_zone_map g geometry d (zone_map_start g + n / (8 * g.block_size)) (with_bytes (n % (8 * g.block_size) / 8) (new ∷ []) (d (zone_map_start g + n / (8 * g.block_size)))) (omega arith) (omega (arith, low)) in
    record { pieces = a.pieces ∙ ap (λ (f : ℕ → Bool). record (pieces g d) { zone_map = f }) own; head = a.head }

-- where the byte was read first, and the other one was written then
pub was_put : (m : Map) (g : Geometry) → IsGeometry g → (d e f : Disk) (n block byte bit old new : ℕ) (x : Bool) → n ≤ last_number m g
    → block ≡ first_block m g + n / (8 * g.block_size) → byte ≡ n % (8 * g.block_size) / 8 → bit ≡ n % (8 * g.block_size) % 8
    → (new / 2 ^ bit % 2 == 1) ≡ x
    → ((j : ℕ) → j < 8 → j ≢ bit → (new / 2 ^ j % 2 == 1) ≡ (old / 2 ^ j % 2 == 1))
    → e ≡ d → old ≡ d block byte → f ≡ written block byte (new ∷ []) e → Alters g (with_number m (pieces g d) n x) d f
was_put m g geometry d e f n block byte which old new x h b y t is others same was after =
    subst (λ (z : Disk). Alters g (with_number m (pieces g d) n x) d z)
    (sym (after ∙ ap (written block byte (new ∷ [])) same ∙ ap (λ (z : ℕ). written z byte (new ∷ []) d) b
    ∙ ap (λ (z : ℕ). written (first_block m g + n / (8 * g.block_size)) z (new ∷ []) d) y))
    (changed m g geometry d n old new x h (was ∙ ap (λ (z : ℕ). d z byte) b ∙ ap (d (first_block m g + n / (8 * g.block_size))) y)
    (ap (λ (z : ℕ). new / 2 ^ z % 2 == 1) (sym t) ∙ is) (λ j low ne. others j low (λ k. ne (k ∙ t))))
