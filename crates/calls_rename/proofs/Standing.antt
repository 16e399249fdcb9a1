-- The nodes that a rename found.
use Rattle.std.proofs.Common.{◌≡◌, ◌≤◌, ◌+◌, ◌*◌, ℕ, length, true, false, Option, Some, None, refl, sym, ap, ◌∙◌, arith}
use mathlib.Core.Logic.{inl, inr}
use Rattle.std.specs.Prelude.{IsTrue, is_some, nat_le, ◌==◌}
use Rattle.std.proofs.lemmas.Bool.{and_parts, cases_eq, eq-eqb, leb-true, ne_eqb}
use Rattle.lemmas.proofs.Bools.{false_not_true}
use Rattle.layout.specs.declared.Geometry.{Geometry}
use Rattle.layout.specs.Places.{IsGeometry}
use Rattle.tree.specs.Names.{Names, inode_of}
use Rattle.tree.specs.Answers.{Effect}
use Rattle.tree.specs.Tree.{Body, Node, Tree, is_dir, is_dir_at, is_directory, is_file, names_of, size_of}
use Rattle.tree.specs.NameCalls.{is_empty}
use Rattle.volume.specs.declared.Inode.{Inode}
use Rattle.volume.specs.Reading.{Disk, is_inode}
use Rattle.volume.specs.Pieces.{Pieces, pieces}
use Rattle.volume.specs.Nodes.{is_directory_mode, is_marked, node_of}
use Rattle.volume.specs.Holds.{HoldsVolume}
use Rattle.zone.proofs.ZoneInodes.{inode_is}
use Rattle.path.proofs.Going.{has_entries}
use Rattle.calls_rename.specs.Within.{HoldsDirectory}
use Rattle.calls_attributes.proofs.Made.{node_there}
use Rattle.inode_operations.proofs.Between.{kind_is, node_stands, nothing_is_done}
use Rattle.calls_rename.specs.declared.asked.Asked.{Asked}
use Rattle.calls_rename.specs.Asked.{AreFound, Rest, moving_at}
use Rattle.calls_rename.specs.Barred.{IsFound, other_at}

-- a directory has no names where its size is that of two entries
no_names_by_size : (node : Node) (body : Body) (size : ℕ) → node.body ≡ body → is_dir node ≡ true → size ≡ size_of node.body → is_empty node ≡ (size == 128)
no_names_by_size node (is_file f) size is dir sized = absurd (false_not_true (sym (ap (λ (b : Body). is_dir (record node { body = b })) is) ∙ dir))
no_names_by_size node (is_directory d) size is dir sized =
    let names : length (names_of (Some node)) ≡ length d.names = ap (λ (b : Body). length (names_of (Some (record node { body = b })))) is in
    let wide : size ≡ 64 * (length d.names + 2) = sized ∙ ap size_of is in
    elim (cases_eq size 128) [
      | inl e ↦ eq-eqb (length (names_of (Some node))) 0 (omega (arith, e, names, wide)) ∙ sym (eq-eqb size 128 e)
      | inr d ↦ ne_eqb (length (names_of (Some node))) 0 (λ e. d (omega (arith, e, names, wide))) ∙ sym (ne_eqb size 128 d)
    ]

module _ (g : Geometry) (d : Disk) (x : Asked) where
  abbrev v : Pieces
  v = pieces g d

  module _ (t : Tree) (on : Rest → Effect) (holds : HoldsVolume g d t) (y : AreFound g d t on x) where
    -- a directory is to have it
    pub to_is_dir : is_dir_at t.nodes x.what.to ≡ true
    to_is_dir =
        ap (λ (o : Option Node). elim o [ None ↦ false | Some node ↦ is_dir node ]) y.to_there
        ∙ ap (λ (i : Inode). is_dir (node_of g v i)) y.to
        ∙ kind_is g v x.what.to ∙ (and_parts (is_marked g v x.what.to) (is_directory_mode (v.inodes x.what.to).mode) y.to_directory).1

    -- what moves is of the kind that was found
    pub moving_kind : is_dir (moving_at g d x) ≡ x.what.is_directory
    moving_kind = kind_is g v x.what.number ∙ sym y.kind

    -- a name leads to a node
    module _ (q : ℕ) (is : x.there ≡ Some q) where
      some_other : IsTrue (is_some (t.nodes q))
      some_other = holds.nodes.tree.nodes.targets x.what.to q x.what.new.now
          (ap (λ (ns : Names). inode_of ns x.what.new.now) (has_entries g d t x.what.to x.to holds.nodes y.to_directory y.to).names ∙ y.finds ∙ is)

      pub other_there : t.nodes q ≡ Some (other_at g d q)
      other_there = (node_there g d t q holds some_other).1

      pub other_number : IsTrue (is_inode g q)
      other_number = inode_is g v q (node_there g d t q holds some_other).0

      module _ (ok : IsGeometry g) where
        pub other_low : q ≤ 65535
        other_low =
            let most = leb-true q g.inodes (and_parts (nat_le 1 q) (nat_le q g.inodes) other_number).1 in
            let few = ok.inodes in
            omega (arith, most, few)

        -- its names are none where its size is that of two entries
        pub other_empty : is_dir (other_at g d q) ≡ true → is_empty (other_at g d q) ≡ ((v.inodes q).size == 128)
        other_empty dir = no_names_by_size (other_at g d q) (other_at g d q).body (v.inodes q).size refl dir
            (node_stands g d d t.nodes q (other_at g d q) ok (nothing_is_done g d t holds) other_there).size

  pub directory_held : IsFound g d x → HoldsDirectory g d x.what.to
  directory_held h = record { tree = h.tree; holds = h.holds.nodes; directory = to_is_dir h.tree h.on h.holds h.found }

  pub number_held : (q : ℕ) → x.there ≡ Some q → IsFound g d x → IsTrue (is_inode g q)
  number_held q is h = other_number h.tree h.on h.holds h.found q is
