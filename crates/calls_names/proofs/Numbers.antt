-- The number of a new node, and room for its name.
use Rattle.std.proofs.Common.{◌≡◌, ◌≢◌, ◌<◌, ◌≤◌, ◌+◌, ℕ, Bool, true, false, List, refl, sym, ap, subst, ◌∙◌, arith, replicate, Some, None}
use mathlib.Core.Logic.{inl, inr, ◌↔◌}
use Rattle.std.specs.Prelude.{IsTrue, is_some}
use Rattle.std.proofs.lemmas.Bool.{and_parts, cases_lt}
use Rattle.lemmas.proofs.Bools.{false_not_true}
use Rattle.errno.specs.declared.Errno.TheVariants.{ENOSPC}
use Rattle.layout.specs.declared.Geometry.{Geometry}
use Rattle.layout.specs.Places.{IsGeometry}
use Rattle.lemmas.specs.Sums.{put}
use Rattle.tree.specs.Names.{Names, inode_of}
use Rattle.tree.specs.Tree.{Node, Tree, names_of, size_of}
use Rattle.tree.specs.Space.{data_zones, zones_of}
use Rattle.tree.proofs.Steps.{not_refused}
use Rattle.volume.specs.declared.Inode.{Inode}
use Rattle.volume.specs.Holds.{HoldsVolume}
use Rattle.volume.specs.Nodes.{is_marked, nodes_of}
use Rattle.volume.specs.Pieces.{Pieces, pieces}
use Rattle.volume.specs.Reading.{Disk, is_inode}
use Rattle.volume.proofs.Sums.{count_most}
use Rattle.zone.proofs.ZoneInodes.{inode_is}
use Rattle.zone.specs.Room.{taken_by}
use Rattle.zone.specs.ZoneSteps.{marked_in}
use Rattle.zone.proofs.Room.{nodes_take_marked}
use Rattle.directory.specs.Directories.{before}
use Rattle.file.specs.Room.{IsRoomBeside}
use Rattle.file.proofs.RoomSpaces.{room_beside_is_space}
use Rattle.directory.proofs.Becoming.{may_change}
use Rattle.directory.specs.Names.{IsOfDirectory}
use Rattle.path.specs.declared.place.NamePlace.{NamePlace}
use Rattle.inode_operations.specs.NewNodes.{IsLeastFree}
use Rattle.inode_operations.specs.Steps.{node_at}
use Rattle.inode_operations.specs.Naming.{named}
use Rattle.inode_operations.specs.Stands.{Stands}
use Rattle.inode_operations.proofs.Between.{directory_stands, node_stands, nothing_is_done}
use Rattle.inode_operations.proofs.Entering.{held_with_name, names_are}
use Rattle.calls_names.specs.Vacant.{IsFreeFor, IsFull, IsVacant, zones_with_name}
use Rattle.calls_names.proofs.Zones.{directory_is_small, part_taken}

module _ (g : Geometry) (ok : IsGeometry g) (d : Disk) (t : Tree) (p : NamePlace) (parent : Node) (holds : HoldsVolume g d t) (vacant : IsVacant g d t p parent) where
  abbrev v : Pieces
  v = pieces g d

  abbrev n : ℕ
  n = p.directory

  s : Stands g d d t.nodes
  s = nothing_is_done g d t holds

  of : IsOfDirectory g v n
  of = directory_stands g d d t.nodes n parent ok s vacant.there vacant.directory

  node : node_at g v n ≡ parent
  node = (node_stands g d d t.nodes n parent ok s vacant.there).node

  size : (v.inodes n).size ≡ size_of parent.body
  size = (node_stands g d d t.nodes n parent ok s vacant.there).size

  pub size_is : p.inode.size ≡ size_of parent.body
  size_is = ap (λ (i : Inode). i.size) vacant.inode ∙ size

  -- directories have numbers of the volume
  pub directory_in : n < g.inodes + 1
  directory_in = let r = holds.nodes.tree.nodes.inside n (ap is_some vacant.there) in let l = r.1 in omega (arith, l)

  pub directory_some : n ≢ 0
  directory_some e = let r = holds.nodes.tree.nodes.inside n (ap is_some vacant.there) in let l = r.0 in absurd (omega (arith, l, e))

  pub directory_number : IsTrue (is_inode g n)
  directory_number = inode_is g v n (and_parts (is_marked g v n) _ of.directory).0

  -- and may have an entry more
  pub may_grow : size_of parent.body + 64 ≤ 2147483647
  may_grow =
      let part = part_taken g t.nodes n directory_in in
      let all = nodes_take_marked g v ok holds.nodes.sound in
      let same : taken_by g t.nodes ≡ taken_by g (nodes_of g v) = ap (taken_by g) holds.nodes.nodes in
      let few : marked_in g v ≤ data_zones g = count_most (λ k. v.zone_map (k + 1)) (data_zones g) in
      let most = ok.zones in
      let one : zones_of g (t.nodes n) ≡ zones_of g (Some parent) = ap (zones_of g) vacant.there in
      directory_is_small g parent ok vacant.directory (omega (arith, part, all, same, few, most, one))

  pub not_long : 2147483647 < p.inode.size + 64 → ⊥
  not_long big = let e = size_is in let m = may_grow in omega (arith, big, e, m)

  module _ (others : ℕ) (room : Bool) (asked : IsRoomBeside g v n p.inode.size 64 others room) where
    -- the answer, for any number and time
    pub room_is : (m now : ℕ) → (room ≡ true) ↔ (zones_with_name g t n parent p.name.now now m + others ≤ data_zones g)
    room_is m now =
        let bytes : List ℕ = replicate 64 0 in
        let free : inode_of (before g v n).names p.name.now ≡ None =
        ap (λ (es : Names). inode_of es p.name.now) (sym (names_are g v n of) ∙ ap (λ (y : Node). names_of (Some y)) node) ∙ vacant.free in
        let itself : (v.inodes n).size ≡ size_of (node_at g v n).body = size ∙ ap (λ (y : Node). size_of y.body) (sym node) in
        let marked = (and_parts (is_marked g v n) _ of.directory).0 in
        let space = room_beside_is_space g v n (named now p.name.now m (node_at g v n)) _ others ok of.sound marked (held_with_name g v n of itself p.name.now m now free bytes refl) in
        let answer = subst (λ (k : ℕ). IsRoomBeside g v n k 64 others room) (ap (λ (i : Inode). i.size) vacant.inode) asked (may_change g v n of) bytes refl in
        let same : taken_by g (put (nodes_of g v) n (Some (named now p.name.now m (node_at g v n)))) ≡ zones_with_name g t n parent p.name.now now m =
        (λ i. taken_by g (put (sym holds.nodes.nodes i) n (Some (named now p.name.now m (node i))))) in
        (λ yes. let fits = space.1 (answer.0 yes) in omega (arith, fits, same), λ fits. answer.1 (space.0 (omega (arith, fits, same))))

  -- no inode is free
  pub no_inode : (others : ℕ) → IsLeastFree g v None → IsFull g t n parent p.name.now others ENOSPC
  no_inode others least = record { errno = refl; none = λ m is now. absurd (not_refused ENOSPC m (sym (least t holds.nodes.nodes) ∙ is)) }

  -- one is, but not the zones
  pub no_zones : (others : ℕ) → IsRoomBeside g v n p.inode.size 64 others false → IsFull g t n parent p.name.now others ENOSPC
  no_zones others asked = record {
    errno = refl;
    none = λ m is now. elim (cases_lt (data_zones g) (zones_with_name g t n parent p.name.now now m + others)) [
      | inl more ↦ more
      | inr fits ↦ absurd (false_not_true ((room_is others false asked m now).1 fits))
    ];
  }

  -- or both
  pub is_free_for : (others m : ℕ) → IsLeastFree g v (Some m) → IsRoomBeside g v n p.inode.size 64 others true → IsFreeFor g t n parent p.name.now others m
  is_free_for others m least asked = record { least = least t holds.nodes.nodes; room = λ now. (room_is others true asked m now).0 refl }
