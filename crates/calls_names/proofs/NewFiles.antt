-- What open does where the name is missing.
use Rattle.std.proofs.Common.{◌≡◌, ℕ, true, false, refl, sym, ap, ◌∙◌, arith, Ok, Err}
use mathlib.Core.Logic.{inl, inr}
use Rattle.std.specs.Prelude.{not}
use Rattle.errno.specs.declared.Errno.{Errno}
use Rattle.errno.specs.declared.Errno.TheVariants.{EACCES, ENOENT}
use Rattle.layout.specs.declared.Geometry.{Geometry}
use Rattle.layout.specs.Places.{IsGeometry}
use Rattle.tree.specs.declared.User.{User}
use Rattle.tree.specs.Tree.{Node, Tree}
use Rattle.tree.specs.Refusals.{◌>>=◌, or_refuse, refuse_if}
use Rattle.tree.specs.Walk.{may_access, to_write}
use Rattle.tree.specs.Changes.{free_inode}
use Rattle.tree.specs.Answers.{Effect}
use Rattle.tree.specs.Space.{zones_used}
use Rattle.tree.proofs.Outcomes.{free_inode_is}
use Rattle.volume.specs.declared.Inode.{Inode}
use Rattle.volume.specs.Holds.{HoldsVolume}
use Rattle.volume.specs.Nodes.{permissions_in}
use Rattle.volume.specs.Reading.{Disk}
use Rattle.path.specs.declared.place.NamePlace.{NamePlace}
use Rattle.path.specs.Places.{place_of}
use Rattle.inode_operations.proofs.Between.{node_stands, nothing_is_done}
use Rattle.calls_names.specs.Names.{IsOfInode}
use Rattle.calls_names.specs.Making.{IsFileMade, IsFileRefused, MakesFileAt, MayMakeAt, at_missing, with_new_file}
use Rattle.calls_names.specs.Vacant.{IsFreeFor, IsFull, IsVacant, zones_with_name}
use Rattle.calls_names.proofs.Numbers.{directory_in}
use Rattle.calls_names.proofs.Putting.{is_free}
use Rattle.calls_names.proofs.Trees.{file_zones}

module _ (g : Geometry) (ok : IsGeometry g) (t : Tree) (user : User) (now mode : ℕ) (d : Disk) (p : NamePlace) (parent : Node)
    (holds : HoldsVolume g d t) (vacant : IsVacant g d t p parent) where
  its_node : Rattle.inode_operations.specs.Steps.node_at g (Rattle.volume.specs.Pieces.pieces g d) p.directory ≡ parent
  its_node = (node_stands g d d t.nodes p.directory parent ok (nothing_is_done g d t holds) vacant.there).node

  -- the parent's attributes are those of its inode
  pub its_inode : IsOfInode parent p.inode
  its_inode = record {
    permissions = ap (λ (y : Node). y.permissions) (sym its_node) ∙ ap (λ (i : Inode). permissions_in i.mode) (sym vacant.inode);
    uid = ap (λ (y : Node). y.uid) (sym its_node) ∙ ap (λ (i : Inode). i.uid) (sym vacant.inode);
    gid = ap (λ (y : Node). y.gid) (sym its_node) ∙ ap (λ (i : Inode). i.gid) (sym vacant.inode);
  }

  abbrev at_number : (ℕ → Effect) → Effect
  at_number rest = free_inode g t >>= rest

  abbrev at_parent : (ℕ → Effect) → Node → Effect
  at_parent rest x = refuse_if (not (may_access user x to_write)) EACCES >>= λ _. at_number rest

  -- no file is made
  pub not_created : (e : Disk) → e ≡ d → IsFileRefused g t user false now mode p d e ENOENT
  not_created e same = record { same = same; refused = λ rest h. refl }

  pub not_permitted : (e : Disk) → e ≡ d → may_access user parent to_write ≡ false → IsFileRefused g t user true now mode p d e EACCES
  not_permitted e same may = record {
    same = same;
    refused = λ rest h. ap (λ o. or_refuse o ENOENT >>= at_parent rest) vacant.there ∙ ap (λ b. refuse_if (not b) EACCES >>= λ _. at_number rest) may;
  }

  module _ (may : may_access user parent to_write ≡ true) where
    to_number : (rest : ℕ → Effect) → at_missing g t user true p.directory rest ≡ at_number rest
    to_number rest = ap (λ o. or_refuse o ENOENT >>= at_parent rest) vacant.there ∙ ap (λ b. refuse_if (not b) EACCES >>= λ _. at_number rest) may

    -- the zones of the tree with it
    its_zones : (n : ℕ) → free_inode g t ≡ Ok n
        → zones_used g (with_new_file t user now mode (place_of g d p) n) ≡ zones_with_name g t p.directory parent p.name.now now n
    its_zones n least =
        let free = is_free g t n least in
        let high = free.to in
        file_zones g ok t user now mode (place_of g d p) n parent vacant.there vacant.directory free.nothing vacant.free
        (directory_in g ok d t p parent holds vacant) (omega (arith, high))

    pub no_room : (e : Disk) (errno : Errno) → e ≡ d → IsFull g t p.directory parent p.name.now 0 errno → IsFileRefused g t user true now mode p d e errno
    no_room e errno same full = record {
      same = same;
      refused = λ rest h. to_number rest ∙ (elim (free_inode_is g t) [
        | inl x ↦ ap (λ r. r >>= rest) x.0
        | inr x ↦
            let zones = its_zones x.0 x.1 in
            let more = full.none x.0 x.1 now in
            ap (λ r. r >>= rest) x.1 ∙ h x.0 (omega (arith, zones, more))
      ]) ∙ ap (λ y. Err y) (sym full.errno);
    }

    module _ (n : ℕ) (free : IsFreeFor g t p.directory parent p.name.now 0 n) where
      pub may_make : MayMakeAt g d p n 0
      may_make = record { tree = t; holds = holds; parent = parent; vacant = vacant; free = free }

      pub file_made : (e : Disk) → MakesFileAt g user now mode p n d e → IsFileMade g t user true now mode p d e n
      unfolding may_make
      file_made e makes = record {
        goes_on = λ rest. to_number rest ∙ ap (λ r. r >>= rest) free.least;
        least = free.least;
        fits = let zones = its_zones n free.least in let room = free.room now in omega (arith, zones, room);
        stands = makes may_make;
      }
