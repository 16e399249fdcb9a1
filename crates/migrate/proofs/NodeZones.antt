-- The zones that a moved node takes, and its copies where those stay.
use Rattle.std.proofs.Common.{◌≡◌, ◌≤◌, ◌+◌, ◌*◌, ℕ, List, length, true, refl, sym, ap, ◌∙◌, arith}
use Rattle.std.specs.Prelude.{not}
use Rattle.std.proofs.lemmas.Bool.{and_from}
use Rattle.layout.specs.declared.Geometry.{Geometry}
use Rattle.lemmas.specs.Sums.{sum_below}
use Rattle.tree.specs.Tree.{most_size}
use Rattle.tree.specs.Space.{zones_of}
use Rattle.volume.specs.declared.Inode.{Inode}
use Rattle.volume.specs.Pieces.{Pieces}
use Rattle.volume.specs.Nodes.{slot, file_byte, is_marked, is_directory_mode}
use Rattle.volume.proofs.Sums.{count_most}
use Rattle.image.specs.declared.Image.{Image}
use Rattle.image.specs.Contents.{contents}
use Rattle.image.specs.Entered.{level_of}
use Rattle.fsck.specs.declared.version.Version.TheVariants.{V2}
use Rattle.fsck.proofs.EntryBytes.{small, two_entries}
use Rattle.fsck.specs.Form.{version_2}
use Rattle.fsck.specs.Nodes.{nodes_of, entry_count_of, is_dropped}
use Rattle.migrate.specs.Holds.{IsSound}
use Rattle.migrate.specs.Pages.{Pages, pages_in, pages_for, pages_from, first_page, zones_under}
use Rattle.migrate.specs.Used.{SizesAreGood, name_count, zones_for}
use Rattle.migrate.specs.Written.{AreEntries, IsMoved, IsMovedNode, kept_of}
use Rattle.migrate.proofs.Laid.{all_laid, sum_front, sum_next}
use Rattle.migrate.proofs.Listed.{entries_size}
use Rattle.migrate.proofs.UsedNodes.{directory_used, file_used}
use Rattle.migrate.proofs.Framed.{SameZones, copy_kept}

-- an inode's copies stay where its zones do
moved_kept : (s : Pages) (keys : ℕ → ℕ) (bytes : ℕ) (d d' : ℕ → ℕ → ℕ) (e c : ℕ) (x y : Inode)
    → sum_below (λ q. zones_under s (level_of q) (keys q)) 10 ≡ c → SameZones d d' e c → IsMoved s keys bytes d e x y
    → IsMoved s keys bytes d' e x y
moved_kept s keys bytes d d' e c x y all same m =
    let f : ℕ → ℕ = λ q. zones_under s (level_of q) (keys q) in
    record {
      attributes = m.attributes;
      size = m.size;
      copied = λ r h.
          let next = sum_next f r in
          let part = sum_front f (r + 1) 10 (omega arith) in
          copy_kept s d d' (level_of r) (e + sum_below f r) (keys r) (slot y r)
          (λ t o from to l. same t o (omega arith) (omega arith) l) (m.copied r h);
    }

module _ (i : Image) (sound : IsSound version_2 i.geometry (contents i)) (good : SizesAreGood i)
    (block : i.geometry.block_size ≡ 1024) (n : ℕ) (marked : is_marked i.geometry (contents i) n ≡ true) where
  abbrev g : Geometry
  g = i.geometry

  abbrev v : Pieces
  v = contents i

  -- what the node takes
  abbrev takes : ℕ
  takes = zones_of g (nodes_of version_2 g v n)

  module _ (mode : is_directory_mode (v.inodes n).mode ≡ true) where
    -- a directory isn't long
    pub low : (v.inodes n).size ≤ most_size
    low = small V2 i n (v.inodes n) refl (and_from (is_marked g v n) _ marked mode) (good n)

    module _ (bytes : List ℕ) (entries : AreEntries (file_byte g v (v.inodes n)) (entry_count_of version_2 (v.inodes n)) bytes) where
      -- nor are its bytes
      pub entries_short : pages_for (length bytes) ≤ 16777216
      entries_short =
          let most = low in
          let size = entries.size in
          let few : kept_of (file_byte g v (v.inodes n)) (entry_count_of version_2 (v.inodes n)) ≤ entry_count_of version_2 (v.inodes n)
          = count_most (λ e. not (is_dropped version_2 (file_byte g v (v.inodes n)) e)) (entry_count_of version_2 (v.inodes n)) in
          omega arith

      -- its zones are those of its bytes
      pub entries_zones : sum_below (λ q. zones_under (pages_from bytes) (level_of q) (first_page q)) 10 ≡ takes
      entries_zones =
          let x = v.inodes n in
          let is = and_from (is_marked g v n) _ marked mode in
          let two = two_entries V2 i n x refl is (good n) 1 (omega arith) in
          let size : length bytes ≡ 64 * (name_count g v x + 2) = entries_size g v x bytes (omega arith) entries in
          all_laid bytes entries_short ∙ ap (λ k. zones_for (pages_for k)) size ∙ sym (directory_used g v block n sound marked mode low)

  -- the node's copies stay where its zones do
  pub node_kept : (d d' : ℕ → ℕ → ℕ) (e : ℕ) (y : Inode) → SameZones d d' e takes → IsMovedNode g v d e (v.inodes n) y
      → IsMovedNode g v d' e (v.inodes n) y
  node_kept d d' e y same m = record {
    directory = λ mode.
        let it = m.directory mode in
        record {
          bytes = it.bytes;
          entries = it.entries;
          moved = moved_kept (pages_from it.bytes) first_page (length it.bytes) d d' e takes (v.inodes n) y
              (entries_zones mode it.bytes it.entries) same it.moved;
        };
    other = λ out. moved_kept (pages_in v) (slot (v.inodes n)) (v.inodes n).size d d' e takes (v.inodes n) y
        (sym (file_used g v block n sound marked out)) same (m.other out);
  }
