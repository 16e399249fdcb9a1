-- Whether there is room for a move to another directory.
use Rattle.std.proofs.Common.{◌≡◌, ◌≤◌, ◌<◌, ◌+◌, ◌-◌, ℕ, true, false, sym, ap, subst, ◌∙◌, arith}
use mathlib.Core.Logic.{inl, inr}
use Rattle.std.specs.Prelude.{IsTrue, nat_le}
use Rattle.std.proofs.lemmas.Bool.{cases_lt, le-leb, lt-leb}
use Rattle.lemmas.proofs.Bools.{false_not_true}
use Rattle.lemmas.proofs.Options.{some_same}
use Rattle.layout.specs.declared.Geometry.{Geometry}
use Rattle.layout.specs.Places.{IsGeometry}
use Rattle.tree.specs.Tree.{Body, Node, Tree, is_dir, is_directory, is_file, size_of}
use Rattle.tree.specs.Space.{data_zones, zones_used}
use Rattle.volume.specs.declared.Inode.{Inode}
use Rattle.volume.specs.Reading.{Disk, is_inode}
use Rattle.volume.specs.Pieces.{Pieces, pieces}
use Rattle.bitmap.specs.Numbers.{count_free_in}
use Rattle.bitmap.proofs.Counting.{free_taken}
use Rattle.zone.proofs.ZoneInodes.{inode_is}
use Rattle.file.specs.Room.{TakesMore}
use Rattle.inode_operations.specs.Stands.{NodeIs, Stands}
use Rattle.inode_operations.proofs.Between.{node_stands, nothing_is_done}
use Rattle.calls_rename.specs.Sizes.{zones_of_size}
use Rattle.inode_operations.specs.Whole.{moved}
use Rattle.calls_rename.specs.declared.asked.Asked.{Asked}
use Rattle.calls_rename.proofs.Apart.{size_fits}
use Rattle.calls_rename.proofs.Between.{out_other}
use Rattle.calls_rename.proofs.Possible.{may_move_where_it_fits}
use Rattle.calls_rename.proofs.Zones.{move_takes}
use Rattle.calls_rename.specs.Elsewhere.{CanMove, IsElsewhere, TellsRoom}
use Rattle.calls_rename.proofs.Fitting.{takes_marked}

-- two tests of orders that follow from each other
same_order : (p q r s : ℕ) → (p ≤ q → r ≤ s) → (r ≤ s → p ≤ q) → nat_le p q ≡ nat_le r s
same_order p q r s to from = elim (cases_lt q p) [
  | inr few ↦ le-leb p q few ∙ sym (le-leb r s (to few))
  | inl more ↦ elim (cases_lt s r) [
    | inl over ↦ lt-leb p q more ∙ sym (lt-leb r s over)
    | inr fits ↦ let few = from fits in absurd (omega (arith, more, few))
  ]
]

-- a directory has its first two entries
has_two : (x : Node) (b : Body) → is_dir (record x { body = b }) ≡ true → 64 ≤ size_of b
has_two x (is_file f) kind = absurd (false_not_true kind)
has_two x (is_directory d) kind = omega arith

module _ (g : Geometry) (d : Disk) (ok : IsGeometry g) (x : Asked) (t : Tree) (is : IsElsewhere g d t x) where
  abbrev v : Pieces
  v = pieces g d

  s : Stands g d d t.nodes
  s = nothing_is_done g d t is.holds

  old_node : NodeIs g d x.what.from is.from_node
  old_node = node_stands g d d t.nodes x.what.from is.from_node ok s is.asked.from_there

  new_node : NodeIs g d x.what.to is.to_node
  new_node = node_stands g d d t.nodes x.what.to is.to_node ok s is.asked.to_there

  old_size : x.from.size ≡ size_of is.from_node.body
  old_size = ap (λ (i : Inode). i.size) is.from ∙ old_node.size

  new_size : x.to.size ≡ size_of is.to_node.body
  new_size = ap (λ (i : Inode). i.size) is.to ∙ new_node.size

  old_long : 64 ≤ x.from.size
  old_long = let e = old_size in let two = has_two is.from_node is.from_node.body is.asked.from_kind in omega (arith, e, two)

  old_short : x.from.size ≤ 2147483647
  old_short = let e = old_size in let most = size_fits g is.from_node.body (is.asked.tree.nodes.each x.what.from is.from_node is.asked.from_there).body in omega (arith, e, most)

  new_number : IsTrue (is_inode g x.what.to)
  new_number = inode_is g v x.what.to new_node.of.marked

  -- a directory that can't be longer has no room
  too_long : 2147483583 < x.to.size → data_zones g < zones_used g (moved x.what t)
  too_long long = elim (cases_lt (data_zones g) (zones_used g (moved x.what t))) [
    | inl over ↦ over
    | inr fits ↦
        let may = may_move_where_it_fits g t x.what is.from_node is.to_node is.node ok is.asked is.apart fits in
        let same : is.to_node ≡ may.put.node = some_same _ _ (sym is.asked.to_there ∙ sym (out_other t x.what x.what.to (λ e. is.apart (sym e))) ∙ may.put.parent.there) in
        let size = may.put.size in
        let e = ap (λ (y : Node). size_of y.body) same in
        let f = new_size in
        absurd (omega (arith, long, size, e, f))
  ]

  module _ (less more free : ℕ) (goes : zones_of_size g x.from.size ≡ zones_of_size g (x.from.size - 64) + less) (comes : TakesMore g v x.what.to x.to.size 64 more)
      (free_is : free ≡ count_free_in v.zone_map 1 (data_zones g + 1)) where
    takes : zones_used g (moved x.what t) + less ≡ zones_used g t + more
    takes =
        move_takes g d t x.what is.from_node is.to_node is.node less more ok is.holds is.asked is.apart
        (subst (λ k. zones_of_size g k ≡ zones_of_size g (k - 64) + less) old_size goes)
        (subst (λ k. TakesMore g v x.what.to k 64 more) new_size comes)

    tells : nat_le more (free + less) ≡ nat_le (zones_used g (moved x.what t)) (data_zones g)
    tells =
        let all = takes in
        let before = takes_marked g d t ok is.holds in
        let both = free_taken v.zone_map (data_zones g) in
        same_order more (free + less) (zones_used g (moved x.what t)) (data_zones g) (λ few. omega (arith, few, all, before, both, free_is)) (λ fits. omega (arith, fits, all, before, both, free_is))

-- The size of the old directory isn't one of a directory's.
pub not_short : (g : Geometry) (d : Disk) (x : Asked) → IsGeometry g → x.from.size < 64 → CanMove g d x → ⊥
not_short g d x ok short can = let long = old_long g d ok x can.tree can.is in absurd (omega (arith, short, long))

pub not_past : (g : Geometry) (d : Disk) (x : Asked) → IsGeometry g → 2147483647 < x.from.size → CanMove g d x → ⊥
not_past g d x ok past can = let short = old_short g d ok x can.tree can.is in absurd (omega (arith, past, short))

-- the new directory can't be longer
pub no_room : (g : Geometry) (d : Disk) (x : Asked) → IsGeometry g → 2147483583 < x.to.size → TellsRoom g d x false
no_room g d x ok long t is = sym (lt-leb (zones_used g (moved x.what t)) (data_zones g) (too_long g d ok x t is long))

-- it has a number
pub has_number : (g : Geometry) (d : Disk) (x : Asked) → IsGeometry g → CanMove g d x → IsTrue (is_inode g x.what.to)
has_number g d x ok can = new_number g d ok x can.tree can.is

-- zones counted in wider numbers
pub room_told : (g : Geometry) (d : Disk) (x : Asked) (less more free a b c : ℕ) → IsGeometry g → a ≡ more → b ≡ free → c ≡ less
    → zones_of_size g x.from.size ≡ zones_of_size g (x.from.size - 64) + less → TakesMore g (pieces g d) x.what.to x.to.size 64 more
    → free ≡ count_free_in (pieces g d).zone_map 1 (data_zones g + 1) → TellsRoom g d x (nat_le a (b + c))
room_told g d x less more free a b c ok a_is b_is c_is goes comes free_is t is =
    (λ i. nat_le (a_is i) (b_is i + c_is i)) ∙ tells g d ok x t is less more free goes comes free_is
