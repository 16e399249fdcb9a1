-- A new volume's image holds the root alone, and is clean.
use Rattle.std.proofs.Common.{◌≡◌, ◌<◌, ◌≤◌, ◌+◌, ◌*◌, ◌^◌, ℕ, List, length, Bool, true, false, refl, sym, ap, subst, ◌∙◌, arith}
use Rattle.std.specs.Prelude.{All, Result, Ok, Err, T, not, is_ok, ◌==◌, ◌||◌, nat_lt, nat_le, if◌then◌else◌}
use Rattle.std.proofs.lemmas.Bool.{ltb-false, leb-false, eqb-false}
use Rattle.lemmas.proofs.Bools.{not_false}
use Rattle.layout.specs.declared.Geometry.{Geometry}
use Rattle.layout.specs.Places.{IsGeometry, is_block_size, geometry_of}
use Rattle.tree.specs.declared.User.{User}
use Rattle.volume.specs.Reading.{disk_of}
use Rattle.volume.specs.Pieces.{pieces}
use Rattle.volume.specs.Holds.{HoldsNodes}
use Rattle.volume.specs.Verdict.{HoldsClosed}
use Rattle.volume.proofs.CleanTree.{clean_is_a_tree}
use Rattle.new_volume.specs.declared.MkfsRefusal.{MkfsRefusal}
use Rattle.new_volume.specs.declared.MkfsRefusal.TheVariants.{BadBlockSize, BadInodes, TooManyBlocks, TooFewBlocks}
use Rattle.new_volume.specs.Sizes.{new_geometry, sizes_of}
use Rattle.new_volume.specs.Image.{new_image}
use Rattle.new_volume.specs.Made.{IsNewVolume, IsOwnedVolume}
use Rattle.new_volume.specs.Owned.{owned_pieces, owned_tree, user_0}
use Rattle.new_volume.proofs.Widths.{sized, held}
use Rattle.new_volume.proofs.Parts.{image, image_is, image_length, image_parsed}
use Rattle.new_volume.proofs.OfBytes.{image_of_bytes}
use Rattle.new_volume.proofs.Fresh.{Owns, pieces_are}
use Rattle.new_volume.proofs.Owned.{owned_holds}

-- a test that was passed, and what comes after it
passed : (b : Bool) (refusal : MkfsRefusal) (rest : Result Geometry MkfsRefusal) (g : Geometry)
    → (if b then Err refusal else rest) ≡ Ok g → (b ≡ false) × (rest ≡ Ok g)
passed true refusal rest g h = absurd (subst (λ b. T (not b)) (ap is_ok h) tt)
passed false refusal rest g h = (refl, h)

-- neither of two
neither : (a b : Bool) → a || b ≡ false → (a ≡ false) × (b ≡ false)
neither false false h = (refl, refl)
neither false true h = absurd (cc)
neither true b h = absurd (cc)

-- the sizes of a result
abbrev the_ok : Geometry → Result Geometry MkfsRefusal
the_ok g = Ok g

ok_is : (g h : Geometry) → the_ok g ≡ the_ok h → g ≡ h
ok_is g h e = ap (λ r. elim r [ Ok x ↦ x | Err _ ↦ g ]) e

-- sizes that aren't refused
record Accepted (blocks block_size inodes : ℕ) (g : Geometry) : Type 0 where
  pub is : new_geometry blocks block_size inodes ≡ g
  pub ok : IsGeometry (new_geometry blocks block_size inodes)

accepted : (blocks block_size inodes : ℕ) (g : Geometry) → sizes_of blocks block_size inodes ≡ Ok g → Accepted blocks block_size inodes g
accepted blocks block_size inodes g h =
    let v = new_geometry blocks block_size inodes in
    let size = passed (not (is_block_size block_size)) BadBlockSize _ g h in
    let some = passed ((inodes == 0) || nat_lt 65535 inodes) BadInodes _ g size.1 in
    let many = passed (nat_lt 65536 blocks || nat_lt 67108864 (blocks * block_size)) TooManyBlocks _ g some.1 in
    let few = passed (nat_le blocks v.first_zone) TooFewBlocks (Ok v) g many.1 in
    let is : is_block_size block_size ≡ true = not_false _ size.0 in
    let inode = neither (inodes == 0) (nat_lt 65535 inodes) some.0 in
    let none = eqb-false inodes 0 inode.0 in
    let most : inodes ≤ 65535 = ltb-false 65535 inodes inode.1 in
    let zones : blocks ≤ 65536 = ltb-false 65536 blocks (neither _ _ many.0).0 in
    let left : v.first_zone < blocks = leb-false blocks v.first_zone few.0 in
    let inode_bits = held block_size is (inodes + 1) in
    let zone_bits = held block_size is blocks in
    record {
      is = ok_is v g few.1;
      ok = record {
        block_size = is;
        sized = sized block_size is;
        some_inode = omega arith;
        inodes = most;
        zones = zones;
        inode_map = omega arith;
        zone_map = omega arith;
        first = refl;
        some_zone = left;
      };
    }

-- the sizes that aren't refused are in their ranges
pub ranges : (blocks block_size inodes : ℕ) (g : Geometry) → sizes_of blocks block_size inodes ≡ Ok g → IsGeometry g
ranges blocks block_size inodes g h = let a = accepted blocks block_size inodes g h in subst IsGeometry a.is a.ok

-- the image of a new volume
pub made : (blocks block_size inodes now : ℕ) (owner : User) (g : Geometry) (bytes : List ℕ) → sizes_of blocks block_size inodes ≡ Ok g → now < 2 ^ 32
    → Owns owner → bytes ≡ new_image g now owner → IsOwnedVolume blocks block_size inodes now owner bytes
made blocks block_size inodes now owner g bytes sizes early owns is =
    let low : All (λ b. b < 256) bytes = subst (All (λ b. b < 256)) (sym is) (image_of_bytes g now owner) in
    let a = accepted blocks block_size inodes g sizes in
    let ok = ranges blocks block_size inodes g sizes in
    let same : image g now owner ok ≡ bytes = sym (is ∙ image_is g now owner ok) in
    let parsed : geometry_of bytes ≡ Ok g = subst (λ l. geometry_of l ≡ Ok g) same (image_parsed g now owner ok) in
    let piece : pieces g (disk_of g bytes) ≡ owned_pieces g now owner
    = subst (λ l. pieces g (disk_of g l) ≡ owned_pieces g now owner) same (pieces_are g now owner ok early owns) in
    let tree : HoldsClosed bytes (owned_tree now owner) = record {
      geometry = g;
      parsed = parsed;
      holds = subst (λ v. HoldsNodes g v (owned_tree now owner)) (sym piece) (owned_holds g now owner ok early owns);
      closed = record { open_files = refl; descriptors = refl };
    } in
    record {
      volume = g;
      sizes = sizes;
      bytes = is;
      whole = ap length (sym same) ∙ image_length g now owner ok ∙ ap (λ (v : Geometry). v.zones * v.block_size) (sym a.is);
      parsed = parsed;
      pieces = piece;
      held = tree;
      clean = (clean_is_a_tree bytes low).1 (owned_tree now owner, tree);
    }

-- that of user 0
pub made_for_user_0 : (blocks block_size inodes now : ℕ) (g : Geometry) (bytes : List ℕ) → sizes_of blocks block_size inodes ≡ Ok g → now < 2 ^ 32
    → bytes ≡ new_image g now user_0 → IsNewVolume blocks block_size inodes now bytes
made_for_user_0 blocks block_size inodes now g bytes sizes early is =
    let own = made blocks block_size inodes now user_0 g bytes sizes early (record { uid = omega arith; gid = omega arith }) is in
    record {
      volume = own.volume;
      sizes = own.sizes;
      bytes = own.bytes;
      whole = own.whole;
      parsed = own.parsed;
      pieces = own.pieces;
      held = own.held;
      clean = own.clean;
    }
