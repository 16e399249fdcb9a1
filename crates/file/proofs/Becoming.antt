-- One inode's file changes, step by step.
use Rattle.std.proofs.Common.{◌≡◌, ◌≢◌, ◌+◌, ◌^◌, ℕ, Bool, true, false, refl, sym, ap, ◌∙◌, arith}
use Rattle.std.specs.Prelude.{IsTrue, Some, None, ◌&&◌}
use Rattle.std.proofs.lemmas.Bool.{cond-true, and_parts}
use Rattle.layout.specs.declared.Geometry.{Geometry}
use Rattle.layout.specs.Places.{IsGeometry}
use Rattle.lemmas.specs.Sums.{put}
use Rattle.tree.specs.Tree.{File}
use Rattle.tree.specs.ZonesNeeded.{zones_needed}
use Rattle.tree.specs.Space.{numbers_in_zone, zones_of, pages_of}
use Rattle.lemmas.proofs.Maps.{put-same, put-other}
use Rattle.volume.specs.declared.Inode.{Inode}
use Rattle.volume.specs.Reading.{is_inode}
use Rattle.volume.specs.Pieces.{Pieces}
use Rattle.volume.specs.Nodes.{file_of, is_marked, is_mode, is_directory_mode, node_of, nodes_of}
use Rattle.volume.specs.Entries.{is_directory_inode}
use Rattle.volume.specs.Holds.{IsSound}
use Rattle.volume.proofs.Ranges.{marked_below}
use Rattle.zone.specs.ZoneSteps.{IsSoundBut, node_from, marked_in}
use Rattle.zone.specs.Raw.{Resizes}
use Rattle.zone.proofs.Keeps.{sound_but_is_sound}
use Rattle.zone.proofs.Stay.{resize_keeps}
use Rattle.zone.proofs.Files.{nodes_change_with}
use Rattle.zone.proofs.Counts.{marked_as_needed}
use Rattle.file.specs.PageChanges.{MayChange, BecomesFile, file_at}

-- The pieces with inode n a file, whatever it was: then its zones are those of its held pages.
abbrev pub plain_inode : Inode → Inode
plain_inode i = record i { mode = 8 ^ 5 }

abbrev pub plain : Pieces → ℕ → Pieces
plain v n = record v { inodes = put v.inodes n (plain_inode (v.inodes n)) }

module _ (g : Geometry) (v : Pieces) (n : ℕ) (ok : IsGeometry g) (is : IsTrue (is_marked g v n)) (rules : IsSoundBut g v n 0 0) where
  its : (plain v n).inodes n ≡ plain_inode (v.inodes n)
  its = put-same v.inodes n (plain_inode (v.inodes n))

  made_plain : Resizes g v (plain v n) n
  made_plain = record {
    marked = is;
    marks = refl;
    map = refl;
    zones = refl;
    others = λ m d. put-other v.inodes n (plain_inode (v.inodes n)) m d;
    slots = ap (λ (i : Inode). i.zones) its;
    mode = ap (λ (i : Inode). is_mode i.mode) its ∙ refl;
    inside = λ p some. let low = rules.inside n p is some in let wide : pages_of g ((plain v n).inodes n).size ≡ pages_of g (v.inodes n).size = ap (λ (i : Inode). pages_of g i.size) its in omega (arith, low, wide);
  }

  pub plain_sound : IsSound g (plain v n)
  plain_sound = sound_but_is_sound g (plain v n) n 0 (resize_keeps g v (plain v n) n 0 0 ok made_plain rules) (λ dir. absurd (no_dir dir))
    where
      no_dir : IsTrue (is_directory_inode g (plain v n) n) → ⊥
      no_dir dir =
          let mode = (and_parts (is_marked g (plain v n) n) (is_directory_mode ((plain v n).inodes n).mode) dir).1 in
          let f : false ≡ true = sym (ap (λ (i : Inode). is_directory_mode i.mode) its) ∙ mode in
          cc

  -- and takes as many zones as they need
  pub plain_takes : zones_of g (Some (node_from ((plain v n).inodes n) (file_of g v ((plain v n).inodes n)))) ≡ zones_needed (numbers_in_zone g) (file_at g v n).held
  plain_takes = ap (λ (i : Inode). zones_of g (Some (node_from i (file_of g v i)))) its

  plain_node : zones_of g (nodes_of g (plain v n) n) ≡ zones_needed (numbers_in_zone g) (file_at g v n).held
  plain_node = ap (zones_of g) (cond-true (is_marked g v n) (Some (node_of g (plain v n) ((plain v n).inodes n))) None is) ∙ plain_takes

module _ (g : Geometry) (v w : Pieces) (n : ℕ) (may : MayChange g v n) (rules : IsSoundBut g w n 0 0) (marks : w.inode_map ≡ v.inode_map)
    (others : (m : ℕ) → m ≢ n → w.inodes m ≡ record (v.inodes m) { zones = (w.inodes m).zones })
    (files : (m : ℕ) → IsTrue (is_marked g v m) → m ≢ n → file_of g w (w.inodes m) ≡ file_of g v (v.inodes m)) where
  still_marked : IsTrue (is_marked g w n)
  still_marked = ap (λ (f : ℕ → Bool). is_inode g n && f n) marks ∙ may.marked

  plain_nodes : nodes_of g (plain w n) ≡ put (nodes_of g (plain v n)) n (Some (node_from ((plain w n).inodes n) (file_of g w ((plain w n).inodes n))))
  plain_nodes = nodes_change_with g (plain v n) (plain w n) n marks may.marked
      (λ m d. put-other w.inodes n (plain_inode (w.inodes n)) m d ∙ others m d
      ∙ sym (λ t. record (put-other v.inodes n (plain_inode (v.inodes n)) m d t) { zones = (put-other w.inodes n (plain_inode (w.inodes n)) m d t).zones }))
      (λ m is d. ap (file_of g w) (put-other w.inodes n (plain_inode (w.inodes n)) m d) ∙ files m is d
      ∙ sym (ap (file_of g v) (put-other v.inodes n (plain_inode (v.inodes n)) m d)))

  -- the zones that are marked more or less are those that the file takes more or less
  pub count_after : marked_in g w + zones_needed (numbers_in_zone g) (file_at g v n).held ≡ marked_in g v + zones_needed (numbers_in_zone g) (file_at g w n).held
  count_after =
      let low = marked_below g v n may.marked in
      let all = marked_as_needed g (plain v n) (plain w n) n _ may.geometry (plain_sound g v n may.geometry may.marked may.rules)
      (plain_sound g w n may.geometry still_marked rules) (omega (arith, low)) plain_nodes in
      let before = plain_node g v n may.geometry may.marked may.rules in
      let after = plain_takes g w n may.geometry still_marked rules in
      ap (λ x. marked_in g w + x) (sym before) ∙ all ∙ ap (λ x. marked_in g v + x) after

  -- what became of a file, from the other parts
  pub becomes : (i : Inode) (f : File) → w.inodes n ≡ record i { size = f.size; zones = (w.inodes n).zones } → file_of g w (w.inodes n) ≡ f → BecomesFile g v w n i f
  becomes i f inode file = record {
    rules = rules;
    marks = marks;
    inode = inode;
    others = others;
    files = files;
    file = file;
    nodes = nodes_change_with g v w n marks may.marked others files ∙ (λ t. put (nodes_of g v) n (Some (node_from (inode t) (file t))));
    count = count_after ∙ ap (λ (x : File). marked_in g v + zones_needed (numbers_in_zone g) x.held) file;
  }

-- the file may change again
pub may_change_after : (g : Geometry) (v w : Pieces) (n : ℕ) (i : Inode) (f : File) → MayChange g v n → BecomesFile g v w n i f → MayChange g w n
may_change_after g v w n i f may b = record {
  geometry = may.geometry;
  marked = ap (λ (h : ℕ → Bool). is_inode g n && h n) b.marks ∙ may.marked;
  rules = b.rules;
}

-- one change after another
pub becomes_then : (g : Geometry) (u v w : Pieces) (n : ℕ) (i j : Inode) (f h : File) → MayChange g u n → BecomesFile g u v n i f → BecomesFile g v w n j h
    → BecomesFile g u w n j h
becomes_then g u v w n i j f h may a b = becomes g u w n may b.rules (b.marks ∙ a.marks)
    (λ m d. b.others m d ∙ (λ t. record (a.others m d t) { zones = (w.inodes m).zones }))
    (λ m is d. b.files m (ap (λ (k : ℕ → Bool). is_inode g m && k m) a.marks ∙ is) d ∙ a.files m is d)
    j h b.inode b.file

-- a change that keeps the attributes, after one that does
pub becomes_again : (g : Geometry) (u v w : Pieces) (n : ℕ) (i : Inode) (f h : File) → MayChange g u n → BecomesFile g u v n i f → BecomesFile g v w n (v.inodes n) h
    → BecomesFile g u w n i h
becomes_again g u v w n i f h may a b =
    let c = becomes_then g u v w n i (v.inodes n) f h may a b in
    becomes g u w n may c.rules c.marks c.others c.files i h (c.inode ∙ (λ t. record (a.inode t) { size = h.size; zones = (w.inodes n).zones })) c.file
