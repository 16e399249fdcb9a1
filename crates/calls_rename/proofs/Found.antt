-- What a rename finds is what its moves ask for.
use Rattle.std.proofs.Common.{◌≡◌, ℕ, Bool, true, false, Option, Some, None, refl, sym, ap, ◌∙◌}
use Rattle.std.specs.Prelude.{if◌then◌else◌}
use Rattle.layout.specs.declared.Geometry.{Geometry}
use Rattle.tree.specs.Names.{Name, Names, inode_of}
use Rattle.tree.specs.Tree.{Directory, File, Node, Tree, is_dir, is_directory, is_file, names_of}
use Rattle.volume.specs.declared.Inode.{Inode}
use Rattle.volume.specs.Reading.{Disk}
use Rattle.volume.specs.Pieces.{Pieces, pieces}
use Rattle.volume.specs.Nodes.{directory_of, file_of, is_directory_mode, node_of}
use Rattle.volume.specs.Entries.{is_directory_inode}
use Rattle.volume.specs.Holds.{HoldsVolume}
use Rattle.path.proofs.Going.{has_entries}
use Rattle.calls_rename.specs.Laws.{FoundIsAsked}

-- the kind of a node is its mode's
by_mode : (b : Bool) (d : Directory) (f : File) (x : Node) → is_dir (record x { body = if b then is_directory d else is_file f }) ≡ b
by_mode true d f x = refl
by_mode false d f x = refl

kind_is : (g : Geometry) (v : Pieces) (i : Inode) → is_dir (node_of g v i) ≡ is_directory_mode i.mode
kind_is g v i = by_mode (is_directory_mode i.mode) (directory_of g v i) (file_of g v i) (node_of g v i)

-- a directory of the tree, as its inode says
module _ (g : Geometry) (d : Disk) (t : Tree) (holds : HoldsVolume g d t) (n : ℕ) (i : Inode) (loaded : i ≡ (pieces g d).inodes n)
    (there : t.nodes n ≡ Some (node_of g (pieces g d) i)) (directory : is_directory_inode g (pieces g d) n ≡ true) where
  has_kind : is_dir (node_of g (pieces g d) i) ≡ true
  has_kind =
      ap (λ (o : Option Node). elim o [ None ↦ false | Some node ↦ is_dir node ]) (sym there)
      ∙ (has_entries g d t n i holds.nodes directory loaded).directory

  leads_to : (name : Name) (o : Option ℕ) → inode_of (directory_of g (pieces g d) i).names name ≡ o
      → inode_of (names_of (Some (node_of g (pieces g d) i))) name ≡ o
  leads_to name o leads =
      ap (λ (x : Option Node). inode_of (names_of x) name) (sym there)
      ∙ ap (λ (names : Names). inode_of names name) (has_entries g d t n i holds.nodes directory loaded).names ∙ leads

pub found_is_asked : FoundIsAsked
found_is_asked g d t on x holds found named other apart = record {
  tree = holds.nodes.tree;
  from_there = found.from_there;
  from_kind = has_kind g d t holds x.what.from x.from found.from found.from_there found.from_directory;
  leads = leads_to g d t holds x.what.from x.from found.from found.from_there found.from_directory x.what.old.now (Some x.what.number) found.leads;
  to_there = found.to_there;
  to_kind = has_kind g d t holds x.what.to x.to found.to found.to_there found.to_directory;
  finds = leads_to g d t holds x.what.to x.to found.to found.to_there found.to_directory x.what.new.now x.there found.finds;
  node_there = found.there;
  kind = kind_is g (pieces g d) ((pieces g d).inodes x.what.number) ∙ sym found.kind;
  named = named;
  other = other;
  apart = apart;
}
