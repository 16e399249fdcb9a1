-- What a volume holds from which nodes were given back.
use Rattle.std.proofs.Common.{◌≡◌, ◌+◌, ℕ, List, length, refl, sym, ap, subst, ◌∙◌}
use Rattle.std.specs.Prelude.{Option, Result, Ok, Err}
use Rattle.layout.specs.declared.Geometry.{Geometry}
use Rattle.layout.specs.declared.LayoutRefusal.{LayoutRefusal}
use Rattle.layout.specs.Places.{geometry_of}
use Rattle.tree.specs.Tree.{Node, Tree}
use Rattle.volume.specs.Reading.{disk_of}
use Rattle.volume.specs.Pieces.{pieces}
use Rattle.volume.specs.Nodes.{nodes_of}
use Rattle.volume.specs.Holds.{Holds}
use Rattle.volume.specs.Verdict.{HoldsClosed}
use Rattle.image.specs.declared.Image.{Image}
use Rattle.image.specs.Contents.{contents}
use Rattle.block_store.specs.Memory.{disk_in}
use Rattle.release.specs.Nameless.{closed_of, linked_below}
use Rattle.release.specs.Giving.{GivesAllBack, HasImage}
use Rattle.release.specs.Released.{KeepsLinked}
use Rattle.release.proofs.Heads.{sizes_stay}
use Rattle.release.proofs.Trees.{closed_is_tree, linked_all}

-- an image has the sizes that its bytes say
abbrev the_ok : Geometry → Result Geometry LayoutRefusal
the_ok g = Ok g

ok_is : (g h : Geometry) → the_ok g ≡ the_ok h → g ≡ h
ok_is g h e = ap (λ r. elim r [ Ok x ↦ x | Err _ ↦ g ]) e

pub sizes_are : (i : Image) (g : Geometry) (bytes : List ℕ) → i.bytes.now ≡ bytes → geometry_of bytes ≡ Ok g → i.geometry ≡ g
sizes_are i g bytes same parsed = ok_is i.geometry g (sym i.parsed ∙ ap geometry_of same ∙ parsed)

module _ (i : Image) (new : List ℕ) (long : length new ≡ length i.bytes.now)
    (given : GivesAllBack i (disk_of i.geometry i.bytes.now) (disk_of i.geometry new)) (t : Tree)
    (holds : Holds i.geometry (disk_of i.geometry i.bytes.now) t) where
  abbrev g : Geometry
  g = i.geometry

  -- the image's nodes are the tree's
  tree_nodes : t.nodes ≡ nodes_of g (contents i)
  unfolding contents
  tree_nodes = holds.nodes

  has : HasImage i (disk_of i.geometry i.bytes.now)
  unfolding contents
  has = record { sound = holds.sound; same = refl }

  -- those that are left are those that have a link
  left_nodes : (closed_of t).nodes ≡ nodes_of g (pieces g (disk_of g new))
  left_nodes =
      sym (linked_all g t.nodes (λ n some. (holds.tree.nodes.inside n some).1))
      ∙ ap (λ (nodes : ℕ → Option Node). linked_below nodes (g.inodes + 1)) tree_nodes
      ∙ sym (given.left has).nodes

  held : HoldsClosed new (closed_of t)
  held = record {
    geometry = g;
    parsed = sizes_stay g i.bytes.now new i.parsed long given.head;
    holds = record { nodes = left_nodes; sound = (given.left has).sound; tree = closed_is_tree g t holds.tree };
    closed = record { open_files = refl; descriptors = refl };
  }

  pub held_so : (h : HoldsClosed new (closed_of t)) × (h.geometry ≡ i.geometry)
  unfolding held
  held_so = (held, refl)

-- whatever tree the image's bytes hold
pub keeps : (i : Image) (volume new : List ℕ) → i.bytes.now ≡ volume → length new ≡ length volume
    → GivesAllBack i (disk_of i.geometry volume) (disk_of i.geometry new) → KeepsLinked volume new
keeps i volume new same long given g t parsed holds =
    let e = sizes_are i g volume same parsed in
    let by_bytes : GivesAllBack i (disk_of i.geometry i.bytes.now) (disk_of i.geometry new)
    = subst (λ (bytes : List ℕ). GivesAllBack i (disk_of i.geometry bytes) (disk_of i.geometry new)) (sym same) given in
    let held : Holds i.geometry (disk_of i.geometry i.bytes.now) t
    = subst (λ (h : Geometry). Holds h (disk_of h i.bytes.now) t) (sym e)
    (subst (λ (bytes : List ℕ). Holds g (disk_of g bytes) t) (sym same) holds) in
    let so = held_so i new (long ∙ ap length (sym same)) by_bytes t held in
    (so.0, so.1 ∙ e)

-- blocks of the image's size are its disk
pub given_on : (i : Image) (a b : ℕ) (old volume new : List ℕ) → a ≡ i.geometry.block_size → b ≡ i.geometry.block_size → old ≡ volume
    → GivesAllBack i (disk_in a old) (disk_in b new) → GivesAllBack i (disk_of i.geometry volume) (disk_of i.geometry new)
given_on i a b old volume new first last same given =
    subst (λ (n : ℕ). GivesAllBack i (disk_of i.geometry volume) (disk_in n new)) last
    (subst (λ (bytes : List ℕ). GivesAllBack i (disk_in i.geometry.block_size bytes) (disk_in b new)) same
    (subst (λ (n : ℕ). GivesAllBack i (disk_in n old) (disk_in b new)) first given))
