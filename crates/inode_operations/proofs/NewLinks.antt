-- A free inode becomes a symbolic link: it is marked, and the target is written into its first page.
use Rattle.std.proofs.Common.{◌≡◌, ◌<◌, ◌≤◌, ℕ, Bool, true, false, List, length, refl, sym, ap, subst, ◌∙◌, arith}
use Rattle.std.specs.Prelude.{◌==◌, IsTrue, Some, if◌then◌else◌}
use Rattle.std.proofs.lemmas.Bool.{and_parts}
use Rattle.lemmas.proofs.Bools.{false_not_true}
use Rattle.layout.specs.declared.Geometry.{Geometry}
use Rattle.layout.specs.Places.{IsGeometry}
use Rattle.tree.specs.declared.User.{User}
use Rattle.lemmas.specs.Sums.{put}
use Rattle.tree.specs.Tree.{File, link_type, most_permissions, most_target}
use Rattle.tree.specs.Changes.{file_after_write, new_link, target_file}
use Rattle.lemmas.proofs.Maps.{put-same}
use Rattle.tree.proofs.Targets.{target_is_written}
use Rattle.volume.specs.declared.Inode.{Inode}
use Rattle.volume.specs.Pieces.{Pieces, pieces}
use Rattle.volume.specs.Reading.{Disk}
use Rattle.volume.specs.Nodes.{is_directory_mode, is_marked, is_mode, nodes_of}
use Rattle.block_store.specs.Volume.{Alters}
use Rattle.zone.specs.ZoneSteps.{node_from}
use Rattle.zone.proofs.Keeps.{sound_but_is_sound}
use Rattle.file.specs.PageChanges.{BecomesFile}
use Rattle.file.specs.Changing.{HasZonesFor, MayWriteAt, WritesAt, written_at}
use Rattle.inode_operations.specs.Steps.{BecomesAt}
use Rattle.inode_operations.specs.NewNodes.{MakesLink, MayMakeLink, new_inode, with_new_inode}
use Rattle.inode_operations.proofs.FirstPages.{has_first_page}
use Rattle.inode_operations.proofs.Marking.{its_file, its_nodes, may_change, nothing}
use Rattle.inode_operations.proofs.Nodes.{put_twice}

-- the inode of a new link, before its target is written
abbrev pub link_inode : User → ℕ → Inode
link_inode user now = new_inode link_type 1 user now most_permissions

chosen : (b : Bool) → b ≡ (if b then true else false)
chosen true = refl
chosen false = refl

-- a target lies in the first page
first_held : (target : List ℕ) (q : ℕ) → (target_file target).held q ≡ put nothing.held 0 true q
first_held target q = chosen (q == 0)

module _ (g : Geometry) (v : Pieces) (n now : ℕ) (user : User) (target : List ℕ) (ok : IsGeometry g) (some : 0 < length target)
    (few : length target ≤ most_target) (may : MayMakeLink g v n) where
  abbrev i : Inode
  i = link_inode user now

  abbrev w : Pieces
  w = with_new_inode v n i

  mode : IsTrue (is_mode i.mode)
  mode = refl

  written : written_at g w n 0 target ≡ target_file target
  written =
      ap (λ (f : File). file_after_write g f 0 target) (its_file g v n i ok may.make refl refl mode)
      ∙ target_is_written g target ok (omega (arith, some)) few

  room : HasZonesFor g w n (written_at g w n 0 target).held
  room = subst (λ (f : File). HasZonesFor g w n f.held) (sym written)
      (has_first_page g v n i ok may.make refl refl mode (target_file target).held (first_held target) may.room)

  may_write : MayWriteAt g w n 0 target
  may_write = record { change = may_change g v n i ok may.make refl refl mode; room = room }

  module _ (x : Pieces) (b : BecomesFile g w x n (w.inodes n) (written_at g w n 0 target)) where
    its : w.inodes n ≡ i
    its = put-same v.inodes n i

    no_directory : is_directory_mode (x.inodes n).mode ≡ false
    no_directory = ap (λ (j : Inode). is_directory_mode j.mode) b.inode ∙ ap (λ (j : Inode). is_directory_mode j.mode) its

    node_is : node_from (w.inodes n) (written_at g w n 0 target) ≡ new_link now user target
    node_is = ap (λ (j : Inode). node_from j (written_at g w n 0 target)) its ∙ ap (node_from i) written

    link_made : BecomesAt g v x n (Some (new_link now user target))
    link_made = record {
      sound = sound_but_is_sound g x n 0 b.rules (λ is.
          absurd (false_not_true (sym no_directory ∙ (and_parts (is_marked g x n) (is_directory_mode (x.inodes n).mode) is).1)));
      nodes = b.nodes ∙ (λ t. put (its_nodes g v n i ok may.make refl refl mode t) n (Some (node_is t)))
          ∙ put_twice (nodes_of g v) n (Some (node_from i nothing)) (Some (new_link now user target));
    }

-- an inode is marked and its target written
module _ (g : Geometry) (ok : IsGeometry g) (n now : ℕ) (user : User) (target : List ℕ) (some : 0 < length target)
    (few : length target ≤ most_target) (d e : Disk) (alters : Alters g (with_new_inode (pieces g d) n (link_inode user now)) d e) where
  pub may_begin : MayMakeLink g (pieces g d) n → MayWriteAt g (pieces g e) n 0 target
  may_begin may = subst (λ (z : Pieces). MayWriteAt g z n 0 target) (sym alters.pieces)
      (may_write g (pieces g d) n now user target ok some few may)

  pub link_makes : (f : Disk) → WritesAt g n 0 target e f → MakesLink g n user now target d f
  link_makes f writes = record {
    head = λ b low. writes.head b low ∙ alters.head b low;
    becomes = λ may.
        let w = with_new_inode (pieces g d) n (link_inode user now) in
        link_made g (pieces g d) n now user target ok some few may (pieces g f)
        (subst (λ (z : Pieces). BecomesFile g z (pieces g f) n (z.inodes n) (written_at g z n 0 target)) alters.pieces
        (writes.becomes (may_begin may)));
  }
