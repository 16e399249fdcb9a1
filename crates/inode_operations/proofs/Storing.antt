-- Attributes are stored.
use Rattle.std.proofs.Common.{◌≡◌, ◌+◌, ◌-◌, ◌≤◌, ℕ, Bool, true, refl, sym, ap, subst, ◌∙◌, Some}
use Rattle.std.specs.Prelude.{IsTrue}
use Rattle.std.proofs.lemmas.Bool.{and_parts, and_from}
use Rattle.layout.specs.declared.Geometry.{Geometry}
use Rattle.tree.specs.Changes.{with_ctime}
use Rattle.lemmas.proofs.Maps.{put-same}
use Rattle.volume.specs.declared.Inode.{Inode}
use Rattle.volume.specs.Reading.{Disk, is_inode}
use Rattle.volume.specs.Pieces.{Pieces, pieces}
use Rattle.volume.specs.Nodes.{file_of, is_directory_mode, is_marked}
use Rattle.volume.specs.Entries.{is_directory_inode}
use Rattle.volume.specs.Holds.{IsSoundDirectory}
use Rattle.block_store.specs.Volume.{Alters}
use Rattle.inode.specs.Table.{with_inode}
use Rattle.zone.specs.ZoneSteps.{node_from}
use Rattle.zone.proofs.Keeps.{sound_is_sound_but, sound_but_is_sound}
use Rattle.zone.proofs.Files.{directory_kept}
use Rattle.zone.proofs.ZoneInodes.{inode_is}
use Rattle.file.specs.PageChanges.{MayChange, BecomesFile, file_at}
use Rattle.file.proofs.Resizing.{stored_becomes}
use Rattle.inode_operations.specs.Steps.{AddsLink, BecomesAt, DropsLink, IsOfNode, MaySetAttributes, SetsAttributes, node_at}

-- the file of a node may change
pub may_change : (g : Geometry) (v : Pieces) (n : ℕ) → IsOfNode g v n → MayChange g v n
may_change g v n of = record { geometry = of.geometry; marked = of.marked; rules = sound_is_sound_but g v n 0 of.sound }

-- its number is an inode's
pub number_is : (g : Geometry) (v : Pieces) (n : ℕ) → IsOfNode g v n → IsTrue (is_inode g n)
number_is g v n of = inode_is g v n of.marked

-- with another inode of that size, type and zones the file stays
module _ (g : Geometry) (v : Pieces) (n : ℕ) (i : Inode) (may : MaySetAttributes g v n i) where
  stored : BecomesFile g v (with_inode v n i) n i (file_at g v n)
  stored = stored_becomes g v n i (may_change g v n may.of) may.zones may.mode
      (λ p some. let low = (may.of.sound.inodes n may.of.marked).inside p some in let s = ap (Rattle.tree.specs.Space.pages_of g) may.size in omega (Rattle.std.proofs.Common.arith, low, s))
      i (file_at g v n) (λ k. record i { size = may.size k })
      (ap (file_of g v) (put-same v.inodes n i) ∙ (λ k. file_of g v (record i { size = may.size k; zones = may.zones k })))

  module _ (w : Pieces) (b : BecomesFile g v w n i (file_at g v n)) where
    still_directory : IsTrue (is_directory_inode g w n) → IsSoundDirectory g w n
    still_directory is =
        let mode = (and_parts (is_marked g w n) (is_directory_mode (w.inodes n).mode) is).1 in
        let was : is_directory_mode (v.inodes n).mode ≡ true = sym may.kind ∙ sym (ap (λ (x : Inode). is_directory_mode x.mode) b.inode) ∙ mode in
        directory_kept g v w n b.file (may.of.sound.directories n (and_from _ _ may.of.marked was))

    becomes : BecomesAt g v w n (Some (node_from i (file_at g v n)))
    becomes = record { sound = sound_but_is_sound g w n 0 b.rules still_directory; nodes = b.nodes }

-- the inode is stored
pub attributes_set : (g : Geometry) (d e : Disk) (n : ℕ) (i : Inode) → Alters g (with_inode (pieces g d) n i) d e → SetsAttributes g n i d e
attributes_set g d e n i a = record {
  head = a.head;
  becomes = λ may.
      let v = pieces g d in
      becomes g v n i may (pieces g e) (subst (λ (w : Pieces). BecomesFile g v w n i (file_at g v n)) (sym a.pieces) (stored g v n i may));
}

-- an inode with other links and another time
abbrev pub linked : ℕ → ℕ → Inode → Inode
linked links now i = record i { links = links; ctime = now }

pub may_set_links : (g : Geometry) (v : Pieces) (n links now : ℕ) → IsOfNode g v n → MaySetAttributes g v n (linked links now (v.inodes n))
may_set_links g v n links now of = record {
  of = of;
  size = refl;
  zones = refl;
  mode = (of.sound.inodes n of.marked).mode;
  kind = refl;
}

pub may_set : (g : Geometry) (d x : Disk) (n now links : ℕ) (i : Inode) → x ≡ d → i ≡ (pieces g d).inodes n → IsOfNode g (pieces g d) n
    → MaySetAttributes g (pieces g x) n (linked links now i)
may_set g d x n now links i same is of = subst (λ (y : Disk). MaySetAttributes g (pieces g y) n (linked links now i)) (sym same)
    (subst (λ (j : Inode). MaySetAttributes g (pieces g d) n (linked links now j)) (sym is) (may_set_links g (pieces g d) n links now of))

-- what was loaded is set with other links
module _ (g : Geometry) (d x e : Disk) (n now links : ℕ) (i : Inode) (same : x ≡ d) (is : i ≡ (pieces g d).inodes n) (sets : SetsAttributes g n (linked links now i) x e) where
  set_there : SetsAttributes g n (linked links now ((pieces g d).inodes n)) d e
  set_there = subst (λ (y : Disk). SetsAttributes g n (linked links now ((pieces g d).inodes n)) y e) same
      (subst (λ (j : Inode). SetsAttributes g n (linked links now j) x e) is sets)

  pub link_added : links ≡ i.links + 1 → AddsLink g n now d e
  link_added more = record {
    head = set_there.head;
    becomes = λ may.
        let one : links ≡ ((pieces g d).inodes n).links + 1 = more ∙ ap (λ (j : Inode). j.links + 1) is in
        subst (λ k. BecomesAt g (pieces g d) (pieces g e) n (Some (with_ctime now (record (node_at g (pieces g d) n) { links = k })))) one
        (set_there.becomes (may_set_links g (pieces g d) n links now may.of));
  }

  pub link_dropped : links ≡ i.links - 1 → DropsLink g n now d e
  link_dropped less = record {
    head = set_there.head;
    becomes = λ of.
        let one : links ≡ ((pieces g d).inodes n).links - 1 = less ∙ ap (λ (j : Inode). j.links - 1) is in
        subst (λ k. BecomesAt g (pieces g d) (pieces g e) n (Some (with_ctime now (record (node_at g (pieces g d) n) { links = k })))) one
        (set_there.becomes (may_set_links g (pieces g d) n links now of));
  }
