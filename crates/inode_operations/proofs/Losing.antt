-- A node is gone where it has no link and isn't open.
use Rattle.std.proofs.Common.{◌≡◌, ◌≢◌, ℕ, Bool, true, false, refl, sym, ap, subst, ◌∙◌, Some, None}
use Rattle.std.specs.Prelude.{Option, not, ◌==◌, ◌&&◌, if◌then◌else◌}
use Rattle.std.proofs.lemmas.Bool.{eq-eqb, ne_eqb}
use Rattle.layout.specs.declared.Geometry.{Geometry}
use Rattle.lemmas.specs.Sums.{put}
use Rattle.tree.specs.Tree.{Node, is_open}
use Rattle.tree.specs.Changes.{with_link_lost}
use Rattle.lemmas.proofs.Maps.{put-same}
use Rattle.volume.specs.declared.Inode.{Inode}
use Rattle.volume.specs.Reading.{Disk}
use Rattle.volume.specs.Pieces.{Pieces, pieces}
use Rattle.volume.specs.Nodes.{nodes_of}
use Rattle.descriptors.specs.Files.{Files, tree_with}
use Rattle.inode_operations.specs.Steps.{BecomesAt, DropsLink, FreesNode, IsOfNode, LosesName, LosesNode, left_of, node_at}
use Rattle.inode_operations.proofs.Nodes.{node_is, node_there, put_back, put_twice}

-- what is left, by whether it has a link and is open
left_by : (a b : Bool) (x : Node) → Option Node
left_by a b x = if a && not b then None else Some x

module _ (g : Geometry) (f : Files) (n : ℕ) (d : Disk) where
  abbrev v : Pieces
  v = pieces g d

  -- nothing was done
  pub node_kept : (e : Disk) → e ≡ d → left_of f n (node_at g v n) ≡ Some (node_at g v n) → LosesNode g f n d e
  node_kept e same left = subst (λ (x : Disk). LosesNode g f n d x) (sym same) (record {
    head = λ b low. refl;
    becomes = λ of. record {
      sound = of.sound;
      nodes = put_back (nodes_of g v) n (left_of f n (node_at g v n)) (node_there g v n of.marked ∙ sym left);
    };
  })

  pub has_link : (i : Inode) → i ≡ v.inodes n → i.links ≢ 0 → left_of f n (node_at g v n) ≡ Some (node_at g v n)
  has_link i is some = ap (λ b. if b && not (is_open (tree_with f) n) then None else Some (node_at g v n)) (ap (λ (j : Inode). j.links == 0) (sym is) ∙ ne_eqb i.links 0 some)

  pub stays_open : is_open (tree_with f) n ≡ true → left_of f n (node_at g v n) ≡ Some (node_at g v n)
  stays_open open_ = ap (λ b. if ((node_at g v n).links == 0) && not b then None else Some (node_at g v n)) open_ ∙ none ((node_at g v n).links == 0)
    where
      none : (b : Bool) → (if b && false then None else Some (node_at g v n)) ≡ Some (node_at g v n)
      none true = refl
      none false = refl

  pub is_nameless : (i : Inode) → i ≡ v.inodes n → i.links ≡ 0 → is_open (tree_with f) n ≡ false → left_of f n (node_at g v n) ≡ None
  is_nameless i is zero_ closed =
      ap (λ b. if ((node_at g v n).links == 0) && not b then None else Some (node_at g v n)) closed
      ∙ ap (λ b. if b && true then None else Some (node_at g v n)) (ap (λ (j : Inode). j.links == 0) (sym is) ∙ eq-eqb i.links 0 zero_)

  -- it was freed
  pub node_gone : (x e : Disk) → x ≡ d → left_of f n (node_at g v n) ≡ None → FreesNode g n x e → LosesNode g f n d e
  node_gone x e same left frees =
      let here = subst (λ (y : Disk). FreesNode g n y e) same frees in
      record { head = here.head; becomes = λ of. subst (λ o. BecomesAt g v (pieces g e) n o) (sym left) (here.becomes of) }

-- one link less, and then it may be gone
module _ (g : Geometry) (f : Files) (n now : ℕ) (d m : Disk) (drops : DropsLink g n now d m) where
  abbrev lost : Node
  lost = with_link_lost now (node_at g (pieces g d) n)

  module _ (of : IsOfNode g (pieces g d) n) where
    stands : nodes_of g (pieces g m) n ≡ Some lost
    stands = ap (λ (x : ℕ → Option Node). x n) (drops.becomes of).nodes ∙ put-same (nodes_of g (pieces g d)) n (Some lost)

    pub still_of_node : IsOfNode g (pieces g m) n
    still_of_node = record { geometry = of.geometry; sound = (drops.becomes of).sound; marked = (node_is g (pieces g m) n lost stands).0 }

  pub name_lost : (e : Disk) → LosesNode g f n m e → LosesName g f n now d e
  name_lost e loses = record {
    head = λ b low. loses.head b low ∙ drops.head b low;
    becomes = λ of.
        let b = loses.becomes (still_of_node of) in
        record {
          sound = b.sound;
          nodes = b.nodes ∙ ap (λ (x : Node). put (nodes_of g (pieces g m)) n (left_of f n x)) (node_is g (pieces g m) n lost (stands of)).1
              ∙ ap (λ (x : ℕ → Option Node). put x n (left_of f n lost)) (drops.becomes of).nodes
              ∙ put_twice (nodes_of g (pieces g d)) n (Some lost) (left_of f n lost);
        };
  }
