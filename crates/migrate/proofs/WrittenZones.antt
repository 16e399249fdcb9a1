-- The zones of a written volume agree.
use Rattle.std.proofs.Common.{◌≡◌, ◌≢◌, ◌<◌, ◌≤◌, ◌+◌, ℕ, length, true, false, refl, sym, ap, ◌∙◌, arith}
use mathlib.Core.Logic.{inl, inr}
use Rattle.std.specs.Prelude.{◌||◌, ◌&&◌, nat_le, IsTrue}
use Rattle.std.proofs.lemmas.Bool.{cases_Bool, and_from, and_parts, leb-true, ne_eqb}
use Rattle.layout.specs.declared.Geometry.{Geometry}
use Rattle.lemmas.specs.Sums.{sum_below, one_if}
use Rattle.tree.specs.Tree.{most_size}
use Rattle.tree.specs.Space.{zones_of, data_zones}
use Rattle.volume.specs.Pieces.{Pieces}
use Rattle.volume.specs.Reading.{is_inode}
use Rattle.volume.specs.Nodes.{slot, is_marked, is_directory_mode}
use Rattle.volume.specs.Entries.{is_directory_inode}
use Rattle.volume.specs.Holds.{ZonesAgree, IsSoundInode, IsSoundDirectory}
use Rattle.volume.proofs.Sums.{sum_at}
use Rattle.volume.proofs.Ranges.{marked_low}
use Rattle.image.specs.declared.Image.{Image}
use Rattle.image.specs.Contents.{contents}
use Rattle.image.specs.Entered.{level_of}
use Rattle.fsck.specs.declared.version.Version.TheVariants.{V2}
use Rattle.fsck.proofs.EntryBytes.{two_entries}
use Rattle.fsck.specs.Form.{version_2}
use Rattle.fsck.specs.Nodes.{nodes_of}
use Rattle.migrate.specs.Holds.{IsSound}
use Rattle.migrate.specs.Pages.{pages_in, pages_for, pages_from, first_page, zones_under}
use Rattle.migrate.specs.Used.{SizesAreGood, zones_of_all}
use Rattle.migrate.specs.Written.{IsWritten, IsMovedDirectory}
use Rattle.migrate.proofs.Laid.{all_laid}
use Rattle.migrate.proofs.Under.{holes_in, holes_from}
use Rattle.migrate.proofs.UsedNodes.{none_used, file_used}
use Rattle.migrate.proofs.NodeZones.{entries_short, entries_zones}
use Rattle.migrate.proofs.Times.{within, moved_times, times_below}
use Rattle.migrate.proofs.Agreed.{agreed}
use Rattle.migrate.proofs.WrittenFiles.{file_sound}
use Rattle.migrate.proofs.WrittenDirectories.{directory_sound, bytes_moved, whole_moved}
use Rattle.migrate.proofs.WrittenNames.{directory_rules}

module _ (i : Image) (h : Geometry) (w : Pieces) (sound : IsSound version_2 i.geometry (contents i)) (good : SizesAreGood i)
    (block : i.geometry.block_size ≡ 1024) (inodes : h.inodes ≡ i.geometry.inodes) (front : 0 < h.first_zone)
    (written : IsWritten i.geometry (contents i) h w) where
  abbrev g : Geometry
  g = i.geometry

  abbrev v : Pieces
  v = contents i

  -- what a node takes
  abbrev takes : ℕ → ℕ
  takes n = zones_of g (nodes_of version_2 g v n)

  -- the same inodes are marked
  pub marked_is : (n : ℕ) → is_marked h w n ≡ is_marked g v n
  marked_is n = elim (cases_Bool (is_inode h n)) [
    | inl is ↦
        let range = and_parts (nat_le 1 n) (nat_le n h.inodes) is in
        let some = leb-true 1 n range.0 in
        let most = leb-true n h.inodes range.1 in
        let bit : w.inode_map n ≡ is_marked g v n = written.inode_map n most
        ∙ ap (λ b. b || is_marked g v n) (ne_eqb n 0 (λ e. absurd (omega arith))) in
        let inner : is_marked h w n ≡ w.inode_map n = ap (λ b. b && w.inode_map n) is in
        inner ∙ bit
    | inr out ↦
        let there : is_inode g n ≡ false = ap (λ k. nat_le 1 n && nat_le n k) (sym inodes) ∙ out in
        ap (λ b. b && w.inode_map n) out ∙ sym (ap (λ b. b && v.inode_map n) there)
  ]

  module _ (n : ℕ) (marked : is_marked g v n ≡ true) where
    module _ (mode : is_directory_mode (v.inodes n).mode ≡ true)
        (d : IsMovedDirectory g v w.zones (h.first_zone + sum_below takes n) (v.inodes n) (w.inodes n)) where
      -- its bytes aren't long
      pub short : pages_for (length d.bytes) ≤ 16777216
      short = entries_short i sound good block n marked mode d.bytes d.entries

      -- its zones are those of its bytes
      directory_zones : sum_below (λ q. zones_under (pages_from d.bytes) (level_of q) (first_page q)) 10 ≡ takes n
      directory_zones = entries_zones i sound good block n marked mode d.bytes d.entries

      -- they fit
      pub directory_fits : zones_of_all g (nodes_of version_2 g v) ≤ data_zones h → h.zones ≤ 65536 → length d.bytes ≤ most_size
      directory_fits room most =
          let all = all_laid d.bytes short in
          let taken = directory_zones in
          let in_range = marked_low g v n marked in
          let last = in_range.1 in
          let part = sum_at takes (g.inodes + 1) n (omega arith) in
          omega arith

    module _ (t : ℕ) (some : t ≢ 0) where
      -- number t stands below the ten numbers once where it is one of the node's zones, and else nowhere
      node_times : sum_below (λ r. times_below w t (level_of r) (slot (w.inodes n) r)) 10
          ≡ one_if (within (h.first_zone + sum_below takes n) (takes n) t)
      node_times =
          let e = h.first_zone + sum_below takes n in
          elim (cases_Bool (is_directory_mode (v.inodes n).mode)) [
            | inl mode ↦
                let d = (written.nodes n marked).directory mode in
                moved_times w t some (pages_from d.bytes) (holes_from d.bytes) first_page (length d.bytes) e (v.inodes n) (w.inodes n)
                (omega arith) d.moved ∙ ap (λ c. one_if (within e c t)) (directory_zones mode d)
            | inr mode ↦
                let m = (written.nodes n marked).other mode in
                moved_times w t some (pages_in v) (holes_in v) (slot (v.inodes n)) (v.inodes n).size e (v.inodes n) (w.inodes n)
                (omega arith) m ∙ ap (λ c. one_if (within e c t)) (sym (file_used g v block n sound marked mode))
          ]

    -- the mode is the old one
    pub mode_same : (v.inodes n).mode ≡ (w.inodes n).mode
    mode_same = elim (cases_Bool (is_directory_mode (v.inodes n).mode)) [
      | inl mode ↦ ((written.nodes n marked).directory mode).moved.attributes.mode
      | inr mode ↦ ((written.nodes n marked).other mode).attributes.mode
    ]

    mode_is : is_directory_mode (w.inodes n).mode ≡ true → is_directory_mode (v.inodes n).mode ≡ true
    mode_is dir = ap is_directory_mode mode_same ∙ dir

    -- the inode keeps the rules
    node_sound : h.block_size ≡ 1024 → IsSoundInode h w (w.inodes n)
    node_sound new = elim (cases_Bool (is_directory_mode (v.inodes n).mode)) [
      | inl mode ↦
          let d = (written.nodes n marked).directory mode in
          directory_sound h w new n (h.first_zone + sum_below takes n) (omega arith) d.bytes (short mode d) (v.inodes n) d.moved
          (sound.inodes n marked).mode
      | inr mode ↦
          file_sound g h v w block new n (h.first_zone + sum_below takes n) (omega arith) ((written.nodes n marked).other mode)
          (sound.inodes n marked)
    ]

    -- a directory keeps the rules
    directory_keeps : h.block_size ≡ 1024 → is_directory_mode (w.inodes n).mode ≡ true → IsSoundDirectory h w n
    directory_keeps new dir =
        let mode = mode_is dir in
        let d = (written.nodes n marked).directory mode in
        let is = and_from (is_marked g v n) _ marked mode in
        let e = h.first_zone + sum_below takes n in
        let two = two_entries V2 i n (v.inodes n) refl is (good n) 1 (omega arith) in
        directory_rules i h w n d.bytes d.entries
        (bytes_moved h w new n e (omega arith) d.bytes (short mode d) (v.inodes n) d.moved) d.moved.size (omega arith)
        (sound.directories n is)
        (whole_moved h w new n e (omega arith) d.bytes (short mode d) (v.inodes n) d.moved)

  -- all inodes do
  pub inodes_sound : h.block_size ≡ 1024 → (n : ℕ) → IsTrue (is_marked h w n) → IsSoundInode h w (w.inodes n)
  inodes_sound new n is = node_sound n (sym (marked_is n) ∙ is) new

  -- and all directories
  pub directories_sound : h.block_size ≡ 1024 → (n : ℕ) → IsTrue (is_directory_inode h w n) → IsSoundDirectory h w n
  directories_sound new n is =
      let parts = and_parts (is_marked h w n) (is_directory_mode (w.inodes n).mode) is in
      directory_keeps n (sym (marked_is n) ∙ parts.0) new parts.1

  -- the zones agree
  pub zones_agree : h.block_size ≡ 1024 → zones_of_all g (nodes_of version_2 g v) ≤ data_zones h → h.first_zone < h.zones → ZonesAgree h w
  zones_agree new room some =
      let all : sum_below takes (h.inodes + 1) ≡ sum_below takes (g.inodes + 1) = ap (λ k. sum_below takes (k + 1)) inodes in
      agreed h w new takes (λ n t is some. node_times n (sym (marked_is n) ∙ is) t some)
      (λ n out. none_used g v block n (sym (marked_is n) ∙ out)) front (omega arith) (written.inode_map 0 (omega arith))
      (λ k most. written.zone_map k most ∙ ap (nat_le k) (sym all))
