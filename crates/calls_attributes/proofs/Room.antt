-- The room of a volume.
use Rattle.std.proofs.Common.{◌≡◌, ℕ, ◌+◌, ◌<◌, refl, sym, ap, ◌∙◌, arith, Option, Some, None, Ok, Bool, true, false}
use Rattle.std.specs.Prelude.{is_some, ◌&&◌, nat_le, if◌then◌else◌}
use Rattle.std.proofs.lemmas.Bool.{le-leb}
use Rattle.layout.specs.declared.Geometry.{Geometry}
use Rattle.layout.specs.Places.{IsGeometry}
use Rattle.lemmas.specs.Sums.{sum_below, count_below, one_if}
use Rattle.tree.specs.Space.{data_zones, free_zones, free_inodes}
use Rattle.tree.specs.Tree.{Tree, Node}
use Rattle.tree.specs.NodeCalls.{statfs}
use Rattle.tree.specs.Answers.{room_is}
use Rattle.lemmas.proofs.Maps.{same_sum}
use Rattle.tree.proofs.Needs.{sum_add}
use Rattle.volume.specs.Reading.{Disk}
use Rattle.volume.specs.Pieces.{Pieces, pieces}
use Rattle.volume.specs.Nodes.{nodes_of, node_of, is_marked}
use Rattle.volume.specs.Holds.{HoldsVolume}
use Rattle.volume.proofs.LeavesRoom.{used_zones_are_marked}
use Rattle.bitmap.specs.Numbers.{count_free_in}
use Rattle.bitmap.proofs.Counting.{free_taken}
use Rattle.descriptors.specs.Files.{Files, HasFiles}
use Rattle.calls_attributes.specs.Does.{Does}
use Rattle.calls_attributes.proofs.Made.{looked_made}

-- the free zones are those that aren't marked
zones_free : (g : Geometry) → IsGeometry g → (d : Disk) (t : Tree) → HoldsVolume g d t
    → free_zones g t ≡ count_free_in (pieces g d).zone_map 1 (data_zones g + 1)
zones_free g geometry d t holds =
    let used = used_zones_are_marked g d t geometry holds.nodes in
    let all = free_taken (pieces g d).zone_map (data_zones g) in
    omega (arith, used, all)

-- a node stands where its inode is marked
some_marked : (b : Bool) (x : Node) → is_some (if b then Some x else None) ≡ b
some_marked true x = refl
some_marked false x = refl

-- inode k + 1 is there where its bit is set
one_there : (g : Geometry) (v : Pieces) (k : ℕ) → k < g.inodes → one_if (is_some (nodes_of g v (1 + k))) ≡ one_if (v.inode_map (k + 1))
one_there g v k below =
    let low : nat_le 1 (1 + k) ≡ true = le-leb 1 (1 + k) (omega arith) in
    let high : nat_le (1 + k) g.inodes ≡ true = le-leb (1 + k) g.inodes (omega (arith, below)) in
    let same : 1 + k ≡ k + 1 = omega arith in
    ap one_if (some_marked (is_marked g v (1 + k)) (node_of g v (v.inodes (1 + k)))
    ∙ ap (λ (b : Bool). (b && nat_le (1 + k) g.inodes) && v.inode_map (1 + k)) low
    ∙ ap (λ (b : Bool). b && v.inode_map (1 + k)) high
    ∙ ap v.inode_map same)

-- a sum of one
one_summed : (f : ℕ → ℕ) → sum_below f 1 ≡ f 0
unfolding sum_below
one_summed f = let e : 0 + f 0 ≡ f 0 = omega arith in e

-- as many nodes as marked inodes
nodes_counted : (g : Geometry) (v : Pieces) → count_below (λ n. is_some (nodes_of g v n)) (g.inodes + 1) ≡ count_below (λ k. v.inode_map (k + 1)) g.inodes
nodes_counted g v =
    let f : ℕ → ℕ = λ n. one_if (is_some (nodes_of g v n)) in
    let one : g.inodes + 1 ≡ 1 + g.inodes = omega arith in
    let none : one_if (is_some (nodes_of g v 0)) ≡ 0 = refl in
    let first : sum_below f 1 ≡ 0 = one_summed f ∙ none in
    let split : sum_below f (g.inodes + 1) ≡ sum_below f 1 + sum_below (λ j. f (1 + j)) g.inodes = ap (sum_below f) one ∙ sum_add f 1 g.inodes in
    let rest : sum_below (λ j. f (1 + j)) g.inodes ≡ count_below (λ k. v.inode_map (k + 1)) g.inodes =
    same_sum (λ j. f (1 + j)) (λ k. one_if (v.inode_map (k + 1))) g.inodes (one_there g v) in
    let sum : count_below (λ k. v.inode_map (k + 1)) g.inodes ≡ 0 + count_below (λ k. v.inode_map (k + 1)) g.inodes = omega arith in
    split ∙ ap (λ k. k + sum_below (λ j. f (1 + j)) g.inodes) first ∙ ap (λ k. 0 + k) rest ∙ sym sum

-- the free inodes are those that aren't marked
inodes_free : (g : Geometry) (d : Disk) (t : Tree) → HoldsVolume g d t → free_inodes g t ≡ count_free_in (pieces g d).inode_map 1 (g.inodes + 1)
inodes_free g d t holds =
    let used : count_below (λ n. is_some (t.nodes n)) (g.inodes + 1) ≡ count_below (λ k. (pieces g d).inode_map (k + 1)) g.inodes =
    ap (λ (f : ℕ → Option Node). count_below (λ n. is_some (f n)) (g.inodes + 1)) holds.nodes.nodes ∙ nodes_counted g (pieces g d) in
    let all = free_taken (pieces g d).inode_map g.inodes in
    omega (arith, used, all)

-- statfs
pub statfs_done : (g : Geometry) → IsGeometry g → (d e : Disk) (f : Files) (zones free inodes : ℕ) → e ≡ d → zones ≡ data_zones g
    → free ≡ count_free_in (pieces g d).zone_map 1 (data_zones g + 1) → inodes ≡ count_free_in (pieces g d).inode_map 1 (g.inodes + 1)
    → Does g (λ t. statfs g t) (room_is (record { block_size = g.block_size; zones = zones; free_zones = free; inodes = g.inodes; free_inodes = inodes }))
    (HasFiles f) (HasFiles f) d e
statfs_done g geometry d e f zones free inodes same all some others = record {
  each = λ t holds files.
      looked_made g t (statfs g t) _ (HasFiles f) d e
      (λ i. Ok (
        room_is (record {
          block_size = g.block_size;
          zones = sym all i;
          free_zones = (zones_free g geometry d t holds ∙ sym some) i;
          inodes = g.inodes;
          free_inodes = (inodes_free g d t holds ∙ sym others) i;
        }),
        t,
      )) same holds files;
}
