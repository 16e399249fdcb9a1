-- The directory of a name, and the nodes once the name is gone.
use Rattle.std.proofs.Common.{◌≡◌, ◌≤◌, ℕ, true, Option, Some, None, Ok, refl, sym, ap, subst, ◌∙◌}
use Rattle.std.specs.Prelude.{IsTrue, is_some}
use Rattle.std.proofs.lemmas.Bool.{and_parts, cond-true}
use Rattle.layout.specs.declared.Geometry.{Geometry}
use Rattle.layout.specs.Places.{IsGeometry}
use Rattle.tree.specs.declared.PathFrom.{PathFrom}
use Rattle.tree.specs.declared.User.{User}
use Rattle.lemmas.specs.Sums.{put}
use Rattle.tree.specs.Names.{Names, inode_of, without_name}
use Rattle.tree.specs.Tree.{Body, Node, Tree, is_dir, is_directory, most_size, names_of, size_of}
use Rattle.tree.specs.IsTree.{IsBody}
use Rattle.tree.specs.Changes.{with_names}
use Rattle.tree.proofs.Places.{IsPlace}
use Rattle.volume.specs.Reading.{Disk}
use Rattle.volume.specs.Pieces.{Pieces, pieces}
use Rattle.volume.specs.Nodes.{is_directory_mode, is_marked}
use Rattle.volume.specs.Holds.{HoldsVolume}
use Rattle.directory.specs.Directories.{before}
use Rattle.directory.specs.Names.{HasName, IsOfDirectory}
use Rattle.directory.specs.Removal.{Removes}
use Rattle.calls_attributes.specs.Does.{IsHeld}
use Rattle.calls_attributes.proofs.Made.{node_there}
use Rattle.descriptors.specs.Files.{Files, HasFiles}
use Rattle.inode_operations.specs.Steps.{node_at}
use Rattle.inode_operations.specs.Stands.{Stands}
use Rattle.inode_operations.proofs.Between.{kind_is, nothing_is_done, step_is_done}
use Rattle.inode_operations.proofs.Entering.{body_is, name_is_there, names_are}
use Rattle.calls_names.specs.declared.named.Named.{Named}
use Rattle.calls_names.specs.Names.{FindsName, IsNamed, IsVolume, place_at}

-- a tree is held
pub volume_of : (g : Geometry) (d : Disk) (f : Files) → IsHeld g (HasFiles f) d → IsVolume g d
volume_of g d f h = record { tree = h.tree; holds = h.holds }

module _ (g : Geometry) (ok : IsGeometry g) (user : User) (path : PathFrom) (now : ℕ) (d : Disk) (x : Named) (finds : FindsName g d user path (Ok x)) where
  abbrev v : Pieces
  v = pieces g d

  -- the directory
  abbrev pub parent : Node
  parent = node_at g v x.directory

  -- without the name
  abbrev pub less : Node
  less = with_names now (λ names. without_name names x.name.now) parent

  -- and the node
  abbrev pub target : Node
  target = node_at g v x.number

  module _ (t : Tree) (holds : HoldsVolume g d t) where
    y : IsNamed g d t user path x
    y = finds t holds

    marked : is_marked g v x.directory ≡ true
    marked = (and_parts (is_marked g v x.directory) (is_directory_mode (v.inodes x.directory).mode) y.directory).0

    mode : is_directory_mode (v.inodes x.directory).mode ≡ true
    mode = (and_parts (is_marked g v x.directory) (is_directory_mode (v.inodes x.directory).mode) y.directory).1

    pub parent_there : t.nodes x.directory ≡ Some parent
    parent_there = ap (λ (f : ℕ → Option Node). f x.directory) holds.nodes.nodes ∙ cond-true (is_marked g v x.directory) (Some parent) None marked

    pub parent_kind : is_dir parent ≡ true
    parent_kind = kind_is g v x.directory ∙ mode

    of : IsOfDirectory g v x.directory
    of = record { geometry = ok; sound = holds.nodes.sound; directory = y.directory }

    pub parent_body : parent.body ≡ is_directory (before g v x.directory)
    parent_body = body_is g v x.directory of

    parent_size : size_of parent.body ≤ most_size
    parent_size =
        let fits = subst (IsBody g) parent_body (holds.nodes.tree.nodes.each x.directory parent parent_there).body in
        subst (λ (b : Body). size_of b ≤ most_size) (sym parent_body) fits.size

    -- its place in the tree
    pub placed : IsPlace t (place_at g d x)
    placed = record { node = parent; directory = before g v x.directory; there = parent_there; body = parent_body; names = refl }

    parent_names : inode_of (names_of (Some parent)) x.name.now ≡ Some x.number
    parent_names = ap (λ (ns : Names). inode_of ns x.name.now) (names_are g v x.directory of) ∙ y.found

    pub target_some : IsTrue (is_some (t.nodes x.number))
    target_some = holds.nodes.tree.nodes.targets x.directory x.number x.name.now (ap (λ (o : Option Node). inode_of (names_of o) x.name.now) parent_there ∙ parent_names)

    pub target_there : t.nodes x.number ≡ Some target
    target_there = (node_there g d t x.number holds target_some).1

    -- its kind is the inode's
    pub target_kind : is_dir target ≡ is_directory_mode x.inode.mode
    target_kind = kind_is g v x.number ∙ sym (ap (λ (i : Rattle.volume.specs.declared.Inode.Inode). is_directory_mode i.mode) y.loaded)

    -- the name may be taken away
    pub may_remove : HasName g v x.directory x.name.now
    may_remove = name_is_there g d d t.nodes x.directory parent x.name.now ok (nothing_is_done g d t holds) parent_there parent_kind parent_size y.name (ap is_some parent_names)

    -- and then these are the nodes
    module _ (m0 m : Disk) (same : m0 ≡ d) (removes : Removes g x.directory x.name.now now m0 m) where
      gone : Removes g x.directory x.name.now now d m
      gone = subst (λ (z : Disk). Removes g x.directory x.name.now now z m) same removes

      pub name_gone : Stands g d m (put t.nodes x.directory (Some less))
      name_gone =
          let b = gone.becomes may_remove in
          step_is_done g d d m t.nodes x.directory (Some less) (nothing_is_done g d t holds) gone.head (record { sound = b.sound; nodes = b.nodes })

  pub may_remove_of : (f : Files) (m0 : Disk) → m0 ≡ d → IsHeld g (HasFiles f) d → HasName g (pieces g m0) x.directory x.name.now
  may_remove_of f m0 same h = subst (λ (z : Disk). HasName g (pieces g z) x.directory x.name.now) (sym same) (may_remove h.tree h.holds)
