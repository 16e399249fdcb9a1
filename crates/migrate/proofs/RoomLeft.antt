-- The sizes of a new volume, and whether it has room.
use Rattle.std.proofs.Common.{◌≡◌, ◌<◌, ◌≤◌, ◌+◌, ◌-◌, ◌*◌, ◌/◌, ℕ, List, Bool, true, false, refl, sym, ap, subst, ◌∙◌, arith}
use mathlib.Core.Logic.{inl, inr}
use Rattle.std.specs.Prelude.{Option, None, Some, Result, Ok, Err, T, is_ok, ◌==◌, ◌||◌, nat_lt, nat_le, if◌then◌else◌}
use Rattle.std.proofs.lemmas.Bool.{cases_Bool, cases_lt, cond-false, ne_eqb, and_left, and_right, and_from, le-ltb, lt-ltb, le-leb, lt-leb}
use Rattle.std.proofs.lemmas.Bool.{leb-true}
use Rattle.layout.specs.declared.Geometry.{Geometry}
use Rattle.tree.specs.Tree.{Body, is_file, is_directory, Node, size_of}
use Rattle.tree.specs.ZonesNeeded.{zones_needed}
use Rattle.tree.specs.Space.{numbers_in_zone, held_of, zones_of, data_zones}
use Rattle.lemmas.proofs.Maps.{same_sum}
use Rattle.volume.specs.Pieces.{Pieces}
use Rattle.new_volume.specs.Sizes.{sizes_of, new_geometry}
use Rattle.new_volume.specs.declared.MkfsRefusal.{MkfsRefusal}
use Rattle.new_volume.specs.declared.MkfsRefusal.TheVariants.{BadInodes, TooManyBlocks, TooFewBlocks}
use Rattle.fsck.specs.Form.{version_2}
use Rattle.fsck.specs.Nodes.{nodes_of}
use Rattle.layout.specs.declared.LayoutRefusal.{LayoutRefusal}
use Rattle.volume.specs.Reading.{disk_of}
use Rattle.volume.specs.Pieces.{pieces}
use Rattle.new_volume.specs.Made.{IsOwnedVolume}
use Rattle.new_volume.specs.Owned.{owned_pieces, user_0}
use Rattle.new_volume.specs.Image.{filled_image}
use Rattle.migrate.specs.Tables.{IsBegun}
use Rattle.migrate.specs.Used.{zones_of_all, has_room}

-- a refusal of a test
abbrev the_err : MkfsRefusal → Result Geometry MkfsRefusal
the_err refusal = Err refusal

-- the sizes of a new volume
abbrev the_new : Geometry → Result Geometry MkfsRefusal
the_new g = Ok g

-- the sizes of an image
abbrev the_read : Geometry → Result Geometry LayoutRefusal
the_read g = Ok g

-- sizes are no refusal
no_err : (g : Geometry) (refusal : MkfsRefusal) → the_new g ≡ the_err refusal → ⊥
no_err g refusal e = subst (λ b. T b) (ap is_ok e) tt

new_is : (g h : Geometry) → the_new g ≡ the_new h → g ≡ h
new_is g h e = ap (λ r. elim r [ Ok x ↦ x | Err _ ↦ g ]) e

-- a test that was passed, and what comes after it
passed : (b : Bool) (refusal : MkfsRefusal) (rest : Result Geometry MkfsRefusal) (g : Geometry)
    → (if b then Err refusal else rest) ≡ Ok g → (b ≡ false) × (rest ≡ Ok g)
passed true refusal rest g h = absurd (no_err g refusal (sym h))
passed false refusal rest g h = (refl, h)

-- they are new sizes, of more blocks than those before the first data zone
pub sizes_are_new : (blocks inodes : ℕ) (g : Geometry) → sizes_of blocks 1024 inodes ≡ Ok g
    → (new_geometry blocks 1024 inodes ≡ g) × (nat_lt (new_geometry blocks 1024 inodes).first_zone blocks ≡ true)
sizes_are_new blocks inodes g h =
    let v = new_geometry blocks 1024 inodes in
    let some = passed ((inodes == 0) || nat_lt 65535 inodes) BadInodes _ g h in
    let many = passed (nat_lt 65536 blocks || nat_lt 67108864 (blocks * 1024)) TooManyBlocks _ g some.1 in
    let few = passed (nat_le blocks v.first_zone) TooFewBlocks (Ok v) g many.1 in
    (new_is v g few.1, less blocks v.first_zone few.0)
  where
    less : (a b : ℕ) → nat_le a b ≡ false → nat_lt b a ≡ true
    less a b out = elim (cases_lt b a) [
      | inl l ↦ lt-ltb b a l
      | inr m ↦ let is = le-leb a b m in absurd (cc)
    ]

-- they are of so many inodes and of blocks of 1024 bytes
pub sizes_known : (blocks inodes : ℕ) (g : Geometry) → sizes_of blocks 1024 inodes ≡ Ok g → (g.inodes ≡ inodes) × (g.block_size ≡ 1024)
sizes_known blocks inodes g h =
    let is = (sizes_are_new blocks inodes g h).0 in
    (ap (λ g. g.inodes) (sym is), ap (λ g. g.block_size) (sym is))

-- the front of a new volume begins one of these sizes
pub begun_so : (blocks inodes : ℕ) (h : Geometry) (front : List ℕ) → sizes_of blocks 1024 inodes ≡ Ok h
    → IsOwnedVolume blocks 1024 inodes 0 user_0 (filled_image h front) → IsBegun h front
begun_so blocks inodes h front sizes new =
    let same : new.volume ≡ h = new_is new.volume h (sym new.sizes ∙ sizes) in
    let zones : h.zones ≡ blocks = ap (λ g. g.zones) (sym (sizes_are_new blocks inodes h sizes).0) in
    let block = (sizes_known blocks inodes h sizes).1 in
    record {
      whole = new.whole ∙ ap (λ b. blocks * b) (sym block) ∙ ap (λ z. z * h.block_size) (sym zones);
      parsed = new.parsed ∙ ap the_read same;
      pieces = subst (λ g. pieces g (disk_of g (filled_image h front)) ≡ owned_pieces g 0 user_0) same new.pieces;
    }

-- where no sizes are wrong by themselves, they are refused where no data zone is left
sizes_by_room : (blocks inodes : ℕ) → blocks ≤ 65536 → 1 ≤ inodes → inodes ≤ 65535
    → sizes_of blocks 1024 inodes ≡ (if nat_le blocks (new_geometry blocks 1024 inodes).first_zone then Err TooFewBlocks else Ok
    (new_geometry blocks 1024 inodes))
sizes_by_room blocks inodes few some most =
    cond-false ((inodes == 0) || nat_lt 65535 inodes) (Err BadInodes) _
    (λ i. ne_eqb inodes 0 (λ e. absurd (omega arith)) i || le-ltb 65535 inodes most i)
    ∙ cond-false (nat_lt 65536 blocks || nat_lt 67108864 (blocks * 1024)) (Err TooManyBlocks) _
    (λ i. le-ltb 65536 blocks few i || le-ltb 67108864 (blocks * 1024) (omega arith) i)

-- so where they are refused, there is no room
pub none_left : (g : Geometry) (v : Pieces) (blocks : ℕ) (refusal : MkfsRefusal) → blocks ≤ 65536 → 1 ≤ g.inodes → g.inodes ≤ 65535
    → sizes_of blocks 1024 g.inodes ≡ Err refusal → has_room g v blocks ≡ false
none_left g v blocks refusal few some most e =
    let new = new_geometry blocks 1024 g.inodes in
    elim (cases_Bool (nat_le blocks new.first_zone)) [
      | inl is ↦ and_left (nat_lt new.first_zone blocks) _ (le-ltb new.first_zone blocks (leb-true blocks new.first_zone is))
      | inr out ↦ absurd (no_err new refusal
          (sym (cond-false (nat_le blocks new.first_zone) (Err TooFewBlocks) (Ok new) out)
          ∙ sym (sizes_by_room blocks g.inodes few some most) ∙ e))
    ]

-- the zones that a body needs depend on the length of blocks alone
needed_over : (g h : Geometry) → g.block_size ≡ h.block_size → (b : Body)
    → zones_needed (numbers_in_zone g) (held_of g b) ≡ zones_needed (numbers_in_zone h) (held_of h b)
needed_over g h e (is_file f) = ap (λ s. zones_needed (s / 4) f.held) e
needed_over g h e (is_directory d) = λ i. zones_needed (e i / 4) (λ q. nat_lt q ((size_of (is_directory d) + e i - 1) / e i))

-- and so do those of a node
zones_over : (g h : Geometry) → g.block_size ≡ h.block_size → (o : Option Node) → zones_of g o ≡ zones_of h o
zones_over g h e None = refl
zones_over g h e (Some node) = needed_over g h e node.body

module _ (g : Geometry) (v : Pieces) (block : g.block_size ≡ 1024) (blocks used zones : ℕ)
    (counted : used ≡ zones_of_all g (nodes_of version_2 g v)) where
  -- the zones that are used, in the new volume
  all_over : zones_of_all (new_geometry blocks 1024 g.inodes) (nodes_of version_2 g v) ≡ used
  all_over =
      let new = new_geometry blocks 1024 g.inodes in
      same_sum _ _ (g.inodes + 1) (λ n _. zones_over new g (sym block) (nodes_of version_2 g v n)) ∙ sym counted

  module _ (h : Geometry) (sizes : sizes_of blocks 1024 g.inodes ≡ Ok h) (there : zones ≡ h.zones - h.first_zone) where
    -- the data zones of the new volume
    left : zones ≡ data_zones (new_geometry blocks 1024 g.inodes)
    left = there ∙ ap data_zones (sym (sizes_are_new blocks g.inodes h sizes).0)

    -- there is room
    pub room_left : used ≤ zones → has_room g v blocks ≡ true
    room_left few =
        let new = new_geometry blocks 1024 g.inodes in
        and_from (nat_lt new.first_zone blocks) (nat_le (zones_of_all new (nodes_of version_2 g v)) (data_zones new))
        (sizes_are_new blocks g.inodes h sizes).1
        (ap (λ a. nat_le a (data_zones new)) all_over ∙ ap (nat_le used) (sym left) ∙ le-leb used zones few)

    -- there is none
    pub none_enough : zones < used → has_room g v blocks ≡ false
    none_enough many =
        let new = new_geometry blocks 1024 g.inodes in
        and_right (nat_lt new.first_zone blocks) (nat_le (zones_of_all new (nodes_of version_2 g v)) (data_zones new))
        (ap (λ a. nat_le a (data_zones new)) all_over ∙ ap (nat_le used) (sym left) ∙ lt-leb used zones many)
