-- A new volume of an owner holds the owner's root alone: it is that of user 0, with other numbers in two fields of its one inode.
use Rattle.std.proofs.Common.{◌≡◌, ◌<◌, ◌^◌, ℕ, zero, suc, Bool, true, false, refl, sym, ap, subst, ◌∙◌}
use Rattle.std.specs.Prelude.{◌==◌, Option, None, Some, if◌then◌else◌}
use Rattle.layout.specs.declared.Geometry.{Geometry}
use Rattle.layout.specs.Places.{IsGeometry}
use Rattle.tree.specs.declared.User.{User}
use Rattle.tree.specs.Tree.{Node, with_node}
use Rattle.tree.specs.IsTree.{IsNode, IsTree}
use Rattle.tree.specs.Laws.{fresh_root, fresh_tree}
use Rattle.tree.proofs.Kept.{kept}
use Rattle.volume.specs.declared.Inode.{Inode}
use Rattle.volume.specs.Reading.{is_inode, inode_in}
use Rattle.volume.specs.Pieces.{Pieces, blank}
use Rattle.volume.specs.Nodes.{is_marked, node_of, nodes_of}
use Rattle.volume.specs.Places.{zone_at, Use}
use Rattle.volume.specs.Holds.{ZonesAgree, IsSoundInode, IsSoundDirectory, IsSound, HoldsNodes}
use Rattle.volume.specs.Fresh.{fresh_inode, fresh_pieces}
use Rattle.volume.proofs.FreshHolds.{fresh_holds}
use Rattle.new_volume.specs.Owned.{owned_pieces, owned_root, owned_tree}
use Rattle.new_volume.proofs.Fresh.{Owns}

-- an inode with the owner, where it is the root's
abbrev owned_if : Bool → User → Inode → Inode
owned_if b owner i = record i { uid = if b then owner.uid else i.uid; gid = if b then owner.gid else i.gid }

-- a choice between such inodes is such an inode
chosen : (b : Bool) (owner : User) (root other : Inode)
    → (if b then record root { uid = owner.uid; gid = owner.gid } else other) ≡ owned_if b owner (if b then root else other)
chosen true owner root other = refl
chosen false owner root other = refl

-- a node with the owner, where it is the root
abbrev node_if : Bool → User → Node → Node
node_if b owner node = record node { uid = if b then owner.uid else node.uid; gid = if b then owner.gid else node.gid }

-- one that may not be there
abbrev some_if : Bool → User → Option Node → Option Node
some_if b owner None = None
some_if b owner (Some node) = Some (node_if b owner node)

-- it is there where the other one is
marked_if : (b marked : Bool) (owner : User) (node : Node)
    → some_if b owner (if marked then Some node else None) ≡ (if marked then Some (node_if b owner node) else None)
marked_if b true owner node = refl
marked_if b false owner node = refl

-- the only node is the owner's
only_if : (b : Bool) (now : ℕ) (owner : User)
    → (if b then Some (owned_root now owner) else None) ≡ some_if b owner (if b then Some (fresh_root now) else None)
only_if true now owner = refl
only_if false now owner = refl

-- a choice that was made
chosen_once : {X : Type 0} (b : Bool) (x y z : X) → (if b then x else (if b then y else z)) ≡ (if b then x else z)
chosen_once true x y z = refl
chosen_once false x y z = refl

module _ (g : Geometry) (now : ℕ) (owner : User) where
  -- the pieces of the new volume of user 0
  abbrev v : Pieces
  v = fresh_pieces g now

  -- them with the owner in the root's inode
  abbrev w : Pieces
  w = record v { inodes = λ n. owned_if (n == 1) owner (v.inodes n) }

  -- these are the owner's
  pieces_same : owned_pieces g now owner ≡ w
  pieces_same = λ i. record v {
    inodes = λ n. chosen (n == 1) owner (fresh_inode g now) (if is_inode g n then inode_in (λ p. 0) 0 else blank) i;
  }

  -- each place names the same zone
  zone_same : (n l k : ℕ) → zone_at g w (w.inodes n) l k ≡ zone_at g v (v.inodes n) l k
  zone_same n zero k = refl
  zone_same n (suc zero) k = refl
  zone_same n (suc (suc zero)) k = refl
  zone_same n (suc (suc (suc l))) k = refl

  -- so the uses of zones are the same
  use_there : (z : ℕ) → Use g w z → Use g v z
  use_there z u = record {
    inode = u.inode;
    level = u.level;
    index = u.index;
    marked = u.marked;
    names = sym (zone_same u.inode u.level u.index) ∙ u.names;
  }

  use_here : (z : ℕ) → Use g v z → Use g w z
  use_here z u = record {
    inode = u.inode;
    level = u.level;
    index = u.index;
    marked = u.marked;
    names = zone_same u.inode u.level u.index ∙ u.names;
  }

  zones_agree : ZonesAgree g v → ZonesAgree g w
  unfolding use_there
  zones_agree s = record {
    inode_bit_0 = s.inode_bit_0;
    zone_bit_0 = s.zone_bit_0;
    numbers = λ z d u. s.numbers z d (use_there z u);
    once = λ z d a b.
        let same = s.once z d (use_there z a) (use_there z b) in
        record { inode = same.inode; level = same.level; index = same.index };
    mapped = λ z is. let map = s.mapped z is in (λ e. use_here z (map.0 e), λ u. map.1 (use_there z u));
  }

  sound_inode : (n : ℕ) → IsSoundInode g v (v.inodes n) → IsSoundInode g w (w.inodes n)
  sound_inode n s = record {
    mode = s.mode;
    inside = s.inside;
    full = λ l k d. s.full l k d;
  }

  sound_directory : (n : ℕ) → IsSoundDirectory g v n → IsSoundDirectory g w n
  sound_directory n s = record {
    sized = s.sized;
    two = s.two;
    whole = s.whole;
    dot_entry = s.dot_entry;
    dot_dot_entry = s.dot_dot_entry;
    used = s.used;
    names = s.names;
    distinct = s.distinct;
  }

  is_sound : IsSound g v → IsSound g w
  is_sound s = record {
    zones = zones_agree s.zones;
    inodes = λ n marked. sound_inode n (s.inodes n marked);
    directories = λ n is. sound_directory n (s.directories n is);
  }

  -- at each number stands the owner's node
  nodes_are : (fresh_tree now).nodes ≡ nodes_of g v → (n : ℕ) → (owned_tree now owner).nodes n ≡ nodes_of g w n
  nodes_are held n =
      only_if (n == 1) now owner
      ∙ ap (λ nodes. some_if (n == 1) owner (nodes n)) held
      ∙ marked_if (n == 1) (is_marked g v n) owner (node_of g v (v.inodes n))

  -- the owner's root fits
  root_fits : Owns owner → IsNode g (fresh_root now) → IsNode g (owned_root now owner)
  root_fits owns fits = record {
    permissions = fits.permissions;
    links = fits.links;
    uid = owns.uid;
    gid = owns.gid;
    atime = fits.atime;
    mtime = fits.mtime;
    ctime = fits.ctime;
    body = fits.body;
    target = fits.target;
  }

  -- and alone is a tree
  is_tree : Owns owner → IsTree g (fresh_tree now) → IsTree g (owned_tree now owner)
  is_tree owns tree =
      let changed = kept g (fresh_tree now) 1 (fresh_root now) (owned_root now owner) refl refl refl refl refl
      (root_fits owns (tree.nodes.each 1 (fresh_root now) refl)) tree in
      let same : with_node (fresh_tree now) 1 (Some (owned_root now owner)) ≡ owned_tree now owner = λ i. record (owned_tree now owner) {
        nodes = λ m. chosen_once (m == 1) (Some (owned_root now owner)) (Some (fresh_root now)) None i;
      } in
      subst (IsTree g) same changed

-- the owner's new volume holds the owner's root
pub owned_holds : (g : Geometry) (now : ℕ) (owner : User) → IsGeometry g → now < 2 ^ 32 → Owns owner
    → HoldsNodes g (owned_pieces g now owner) (owned_tree now owner)
owned_holds g now owner ok early owns =
    let held = fresh_holds g now ok early in
    let there : HoldsNodes g (w g now owner) (owned_tree now owner) = record {
      nodes = λ i n. nodes_are g now owner held.nodes n i;
      sound = is_sound g now owner held.sound;
      tree = is_tree g now owner owns held.tree;
    } in
    subst (λ p. HoldsNodes g p (owned_tree now owner)) (sym (pieces_same g now owner)) there
