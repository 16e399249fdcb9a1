-- A volume holds the tree in which one node was changed.
use Rattle.std.proofs.Common.{◌≡◌, ◌≢◌, ◌<◌, ◌≤◌, ◌*◌, ◌/◌, ◌%◌, ℕ, Bool, true, refl, sym, ap, subst, ◌∙◌, arith, Some}
use mathlib.Core.Logic.{inl, inr}
use Rattle.std.specs.Prelude.{IsTrue}
use Rattle.std.proofs.lemmas.Bool.{and_parts, and_from}
use Rattle.std.proofs.lemmas.Nat.{div_below}
use Rattle.layout.specs.declared.Geometry.{Geometry}
use Rattle.layout.specs.Places.{IsGeometry, is_block_size}
use Rattle.layout.proofs.Parsed.{block_sizes}
use Rattle.lemmas.specs.Sums.{put}
use Rattle.tree.specs.Tree.{File, Node, Tree, with_node}
use Rattle.tree.specs.IsTree.{IsTree}
use Rattle.lemmas.proofs.Maps.{put-same}
use Rattle.volume.specs.declared.Inode.{Inode}
use Rattle.volume.specs.Reading.{Disk}
use Rattle.volume.specs.Pieces.{Pieces, pieces}
use Rattle.volume.specs.Nodes.{file_of, is_marked, is_mode, is_directory_mode}
use Rattle.volume.specs.Entries.{is_directory_inode}
use Rattle.volume.specs.Holds.{HasSuperblock, HoldsVolume, IsSoundDirectory}
use Rattle.block_store.specs.Volume.{Alters, SameHead}
use Rattle.inode.specs.Table.{with_inode}
use Rattle.zone.specs.ZoneSteps.{node_from}
use Rattle.zone.proofs.Keeps.{sound_is_sound_but, sound_but_is_sound}
use Rattle.zone.proofs.Files.{directory_kept}
use Rattle.file.specs.PageChanges.{MayChange, BecomesFile, file_at}
use Rattle.file.proofs.Resizing.{stored_becomes}

-- the superblock lies before the maps
wide : (w : ℕ) → IsTrue (is_block_size w) → 1024 ≤ w
wide w is = elim (block_sizes w is) [
  | inl e ↦ omega (arith, e)
  | inr (inl e) ↦ omega (arith, e)
  | inr (inr e) ↦ omega (arith, e)
]

superblock_stays : (g : Geometry) (d e : Disk) → IsGeometry g → SameHead d e → HasSuperblock g d → HasSuperblock g e
superblock_stays g d e ok head s = record {
  image = s.image;
  parsed = s.parsed;
  same = λ p low high.
      let big = wide g.block_size ok.block_size in
      let first = div_below p g.block_size 2 (omega (arith, big)) (omega (arith, big, high)) in
      ap (λ (r : ℕ → ℕ). r (p % g.block_size)) (head (p / g.block_size) first) ∙ s.same p low high;
}

module _ (g : Geometry) (ok : IsGeometry g) (d : Disk) (t : Tree) (holds : HoldsVolume g d t) (n : ℕ) (marked : IsTrue (is_marked g (pieces g d) n)) where
  abbrev v : Pieces
  v = pieces g d

  pub may_change : MayChange g v n
  may_change = record { geometry = ok; marked = marked; rules = sound_is_sound_but g v n 0 holds.nodes.sound }

  module _ (e : Disk) (i : Inode) (f : File) (head : SameHead d e) (b : BecomesFile g v (pieces g e) n i f) where
    -- the tree has this node there, and perhaps other open files
    pub volume_with : (IsTrue (is_directory_inode g (pieces g e) n) → IsSoundDirectory g (pieces g e) n)
        → (x : Node) → node_from i f ≡ x → (u : Tree) → u.nodes ≡ put t.nodes n (Some x) → IsTree g u → HoldsVolume g e u
    volume_with directory x is u nodes tree = record {
      superblock = superblock_stays g d e ok head holds.superblock;
      nodes = record {
        nodes = nodes ∙ (λ k. put (holds.nodes.nodes k) n (Some (sym is k))) ∙ sym b.nodes;
        sound = sound_but_is_sound g (pieces g e) n 0 b.rules directory;
        tree = tree;
      };
    }

    pub volume_changed : (IsTrue (is_directory_inode g (pieces g e) n) → IsSoundDirectory g (pieces g e) n)
        → (x : Node) → node_from i f ≡ x → IsTree g (with_node t n (Some x)) → HoldsVolume g e (with_node t n (Some x))
    volume_changed directory x is tree = volume_with directory x is (with_node t n (Some x)) refl tree

    -- a directory that was in order is, where its bytes stay
    pub still_directory : f ≡ file_at g v n → is_directory_mode i.mode ≡ is_directory_mode (v.inodes n).mode
        → IsTrue (is_directory_inode g (pieces g e) n) → IsSoundDirectory g (pieces g e) n
    still_directory same kind is =
        let mode = (and_parts (is_marked g (pieces g e) n) (is_directory_mode ((pieces g e).inodes n).mode) is).1 in
        let was : is_directory_mode (v.inodes n).mode ≡ true = sym kind ∙ sym (ap (λ (x : Inode). is_directory_mode x.mode) b.inode) ∙ mode in
        directory_kept g v (pieces g e) n (b.file ∙ same) (holds.nodes.sound.directories n (and_from _ _ marked was))

    -- and a file is none
    pub no_directory : is_directory_mode i.mode ≡ Rattle.std.proofs.Common.false → IsTrue (is_directory_inode g (pieces g e) n) → IsSoundDirectory g (pieces g e) n
    no_directory plain is =
        let mode = (and_parts (is_marked g (pieces g e) n) (is_directory_mode ((pieces g e).inodes n).mode) is).1 in
        let f : Rattle.std.proofs.Common.false ≡ true = sym plain ∙ sym (ap (λ (x : Inode). is_directory_mode x.mode) b.inode) ∙ mode in
        absurd (cc)

  -- other attributes are stored
  module _ (x e : Disk) (i : Inode) (same : x ≡ d) (size : i.size ≡ (v.inodes n).size) (zones : i.zones ≡ (v.inodes n).zones) (mode : IsTrue (is_mode i.mode))
      (kind : is_directory_mode i.mode ≡ is_directory_mode (v.inodes n).mode) (a : Alters g (with_inode (pieces g x) n i) x e) where
    altered : pieces g e ≡ with_inode v n i
    altered = a.pieces ∙ (λ k. with_inode (pieces g (same k)) n i)

    became : BecomesFile g v (pieces g e) n i (file_at g v n)
    became = subst (λ (z : Pieces). BecomesFile g v z n i (file_at g v n)) (sym altered)
        (stored_becomes g v n i may_change zones mode
        (λ p some. let low = may_change.rules.inside n p marked some in let s : Rattle.tree.specs.Space.pages_of g i.size ≡ Rattle.tree.specs.Space.pages_of g (v.inodes n).size = ap (Rattle.tree.specs.Space.pages_of g) size in omega (arith, low, s))
        i (file_at g v n) (λ k. record i { size = size k })
        (ap (file_of g v) (put-same v.inodes n i) ∙ (λ k. file_of g v (record i { size = size k; zones = zones k }))))

    pub attributes_changed : (y : Node) → node_from i (file_at g v n) ≡ y → IsTree g (with_node t n (Some y)) → HoldsVolume g e (with_node t n (Some y))
    attributes_changed y is tree =
        let head : SameHead d e = λ b low. a.head b low ∙ ap (λ (z : Disk). z b) same in
        volume_changed e i (file_at g v n) head became (still_directory e i (file_at g v n) head became refl kind) y is tree
