-- Zones enough for a write.
use Rattle.std.proofs.Common.{◌≡◌, ◌<◌, ◌≤◌, ◌+◌, ◌-◌, ◌*◌, ◌/◌, ℕ, Bool, true, false, refl, sym, ap, subst, ◌∙◌, arith}
use mathlib.Core.Logic.{inl, inr}
use Rattle.std.specs.Prelude.{nat_lt, nat_le, ◌&&◌, ◌||◌}
use Rattle.std.proofs.lemmas.Bool.{cases_lt, lt-ltb, le-ltb, le-leb, lt-leb, leb-true}
use Rattle.std.proofs.lemmas.Nat.{le-div}
use Rattle.layout.specs.declared.Geometry.{Geometry}
use Rattle.tree.specs.Space.{numbers_in_zone, data_zones}
use Rattle.tree.specs.ZonesNeeded.{zones_needed}
use Rattle.volume.specs.Pieces.{Pieces, pieces}
use Rattle.volume.specs.Reading.{Disk}
use Rattle.volume.specs.declared.Inode.{Inode}
use Rattle.bitmap.specs.Numbers.{count_free_in}
use Rattle.bitmap.proofs.Counting.{free_taken}
use Rattle.file.specs.Need.{or_from, NeedsMore}
use Rattle.zone.specs.CutFiles.{IsFull}
use Rattle.file.specs.PageChanges.{file_at}
use Rattle.file.specs.Changing.{written_at}
use Rattle.file.specs.Room.{TakesMore, IsRoom, IsRoomBeside}
use Rattle.file.proofs.Rest.{wide}
use Rattle.file.proofs.Sizes.{in_order, ends_after}

-- the pages that some bytes touch
module _ (w : ℕ) (fit : 0 < w) (at count : ℕ) (some : 0 < count) where
  abbrev first : ℕ
  first = at / w

  abbrev last : ℕ
  last = (at + count - 1) / w + 1

  ends : (q : ℕ) → nat_lt (q * w) (at + count) ≡ nat_lt q last
  ends q = elim (cases_lt q last) [
    | inl low ↦
        let b = in_order w fit q (at + count - 1) (omega (arith, low)) in
        lt-ltb (q * w) (at + count) (omega (arith, b, some)) ∙ sym (lt-ltb q last low)
    | inr far ↦ elim (cases_lt (q * w) (at + count)) [
      | inl low ↦ let b = le-div q (at + count - 1) w fit (omega (arith, low)) in absurd (omega (arith, b, far))
      | inr l ↦ le-ltb (q * w) (at + count) l ∙ sym (le-ltb q last far)
    ]
  ]

  starts : (q : ℕ) → nat_lt at ((q + 1) * w) ≡ nat_le first q
  starts q = elim (cases_lt q first) [
    | inl low ↦
        let b = in_order w fit (q + 1) at (omega (arith, low)) in
        le-ltb at ((q + 1) * w) b ∙ sym (lt-leb first q low)
    | inr far ↦ lt-ltb at ((q + 1) * w) (ends_after w fit (q + 1) at (omega (arith, far))) ∙ sym (le-leb first q far)
  ]

  swap : (a b : Bool) → (a && b) ≡ (b && a)
  swap true true = refl
  swap true false = refl
  swap false true = refl
  swap false false = refl

  pub pages_touched : (held : ℕ → Bool) → (λ q. held q || (nat_lt (q * w) (at + count) && nat_lt at ((q + 1) * w))) ≡ or_from held first last
  pages_touched held = λ t q. held q || ((λ s. ends q s && starts q s) ∙ swap (nat_lt q last) (nat_le first q)) t

-- the pages from the first that so many bytes touch up to that behind the last
abbrev touched_end : Geometry → ℕ → ℕ → ℕ
touched_end g at count = at / g.block_size + ((at + count - 1) / g.block_size + 1 - at / g.block_size)

module _ (g : Geometry) (v : Pieces) (n at count x : ℕ) (some : 0 < count) (more : NeedsMore g v (v.inodes n) (at / g.block_size) (touched_end g at count) x) where
  pub takes_more : TakesMore g v n at count x
  takes_more may bytes many =
      let w = g.block_size in
      let k = numbers_in_zone g in
      let held = (file_at g v n).held in
      let fit = wide g may.geometry in
      let full : IsFull g v (v.inodes n) = λ a j there. may.rules.full n a j may.marked (λ o. absurd (omega (arith, o.1))) there in
      let order : at / w ≤ (at + count - 1) / w + 1 = let b = le-div (at / w) (at + count - 1) w fit (let c = in_order w fit (at / w) at (omega arith) in omega (arith, c, some)) in omega (arith, b) in
      let end : at / w + ((at + count - 1) / w + 1 - at / w) ≡ (at + count - 1) / w + 1 = omega (arith, order) in
      let touched : (written_at g v n at bytes).held ≡ or_from held (at / w) ((at + count - 1) / w + 1) =
      ap (λ c. λ (q : ℕ). held q || (nat_lt (q * w) (at + c) && nat_lt at ((q + 1) * w))) many ∙ pages_touched w fit at count some held in
      ap (zones_needed k) (touched ∙ sym (ap (or_from held (at / w)) end)) ∙ more full

-- over what was read
pub takes_read : (g : Geometry) (d : Disk) (n at count x : ℕ) (i : Inode) → 0 < count → i ≡ (pieces g d).inodes n
    → NeedsMore g (pieces g d) i (at / g.block_size) (touched_end g at count) x → TakesMore g (pieces g d) n at count x
takes_read g d n at count x i some is more = takes_more g (pieces g d) n at count x some
    (subst (λ (j : Inode). NeedsMore g (pieces g d) j (at / g.block_size) (touched_end g at count) x) is more)

-- as many zones more as there are others beside fit where they are free
room_beside : (g : Geometry) (v : Pieces) (n at count others x y : ℕ) → TakesMore g v n at count x → y ≡ count_free_in v.zone_map 1 (data_zones g + 1)
    → IsRoomBeside g v n at count others (nat_le (x + others) y)
room_beside g v n at count others x y more free may bytes many =
    let needed = more may bytes many in
    let taken = free_taken v.zone_map (data_zones g) in
    (λ yes_. let l = leb-true (x + others) y yes_ in omega (arith, l, needed, taken, free), λ fits. le-leb (x + others) y (omega (arith, fits, needed, taken, free)))

-- over what was read, and counted in wider numbers
pub room_read : (g : Geometry) (d : Disk) (n at count others x y a b c : ℕ) → a ≡ x → b ≡ others → c ≡ y → TakesMore g (pieces g d) n at count x
    → y ≡ count_free_in (pieces g d).zone_map 1 (data_zones g + 1) → IsRoomBeside g (pieces g d) n at count others (nat_le (a + b) c)
room_read g d n at count others x y a b c is_x is_others is_y more free =
    subst (λ z. IsRoomBeside g (pieces g d) n at count others z) (sym (λ i. nat_le (is_x i + is_others i) (is_y i))) (room_beside g (pieces g d) n at count others x y more free)

pub room_alone : (g : Geometry) (v : Pieces) (n at count : ℕ) (x : Bool) → IsRoomBeside g v n at count 0 x → IsRoom g v n at count x
room_alone g v n at count x beside may bytes many =
    let both = beside may bytes many in
    (λ yes_. let room = both.0 yes_ in omega (arith, room), λ room. both.1 (omega (arith, room)))
