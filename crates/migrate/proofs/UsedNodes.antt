-- The zones that the nodes of a sound old volume use.
use Rattle.std.proofs.Common.{◌≡◌, ◌≢◌, ◌<◌, ◌≤◌, ◌+◌, ◌-◌, ◌*◌, ◌/◌, ℕ, suc, length, true, false, sym, ap, ◌∙◌, arith}
use Rattle.std.specs.Prelude.{not, ◌==◌, nat_lt, None, Some}
use Rattle.std.proofs.lemmas.Bool.{cond-true, cond-false, and_from}
use Rattle.layout.specs.declared.Geometry.{Geometry}
use Rattle.lemmas.specs.Sums.{some_below}
use Rattle.tree.specs.Tree.{is_file, is_directory, most_size}
use Rattle.tree.specs.ZonesNeeded.{zones_needed}
use Rattle.tree.specs.Space.{numbers_in_zone, zones_of, held_of}
use Rattle.volume.specs.Pieces.{Pieces}
use Rattle.volume.specs.Nodes.{word, is_marked, is_directory_mode, file_byte, file_of}
use Rattle.volume.specs.Places.{zone_at, has_number}
use Rattle.volume.proofs.Naming.{spot}
use Rattle.volume.proofs.Bridge.{naming, zone_spot}
use Rattle.volume.proofs.Levels.{needed_by_level}
use Rattle.volume.proofs.Sums.{count_most}
use Rattle.fsck.specs.Form.{version_2}
use Rattle.fsck.specs.Nodes.{nodes_of, node_of, body_of, directory_of, is_dropped, entry_count_of}
use Rattle.migrate.specs.Holds.{IsSound}
use Rattle.migrate.specs.Used.{zones_in, zones_for, name_count}
use Rattle.migrate.proofs.UsedFiles.{zones_by_slots}
use Rattle.migrate.proofs.UsedPages.{first_pages}
use Rattle.migrate.proofs.UsedNames.{as_many}

module _ (g : Geometry) (v : Pieces) (block : g.block_size ≡ 1024) (n : ℕ) where
  -- an unmarked inode uses none
  pub none_used : is_marked g v n ≡ false → zones_of g (nodes_of version_2 g v n) ≡ 0
  none_used out = ap (zones_of g) (cond-false (is_marked g v n) (Some (node_of version_2 g v (v.inodes n))) None out)

  module _ (s : IsSound version_2 g v) (is : is_marked g v n ≡ true) where
    -- a marked one what its body uses
    body_used : zones_of g (nodes_of version_2 g v n) ≡ zones_needed (numbers_in_zone g) (held_of g (body_of version_2 g v (v.inodes n)))
    body_used = ap (zones_of g) (cond-true (is_marked g v n) (Some (node_of version_2 g v (v.inodes n))) None is)

    -- a zone holds numbers
    sized : 0 < numbers_in_zone g
    sized = omega arith

    -- a block has a number
    full : (h i : ℕ) → h < 3 → spot (naming g v) n h i ≢ 0 → some_below (λ j. not (word v (spot (naming g v) n h i) j == 0))
        (numbers_in_zone g) ≡ true
    full h i low some =
        let back : 3 - suc (2 - h) ≡ h = omega arith in
        let same : zone_at g v (v.inodes n) (suc (2 - h)) i ≡ spot (naming g v) n h i
        = zone_spot g v sized n (suc (2 - h)) i (omega arith) ∙ ap (λ a. spot (naming g v) n a i) back in
        ap (has_number g v) (sym same) ∙ (s.inodes n is).full (2 - h) i (λ e. some (sym same ∙ e))

    -- a file uses the zones to which its numbers lead
    pub file_used : is_directory_mode (v.inodes n).mode ≡ false → zones_of g (nodes_of version_2 g v n) ≡ zones_in v (v.inodes n)
    file_used out =
        let file = file_of g v (v.inodes n) in
        let body : body_of version_2 g v (v.inodes n) ≡ is_file file
        = cond-false (is_directory_mode (v.inodes n).mode) (is_directory (directory_of version_2 g v (v.inodes n))) (is_file file) out in
        body_used ∙ ap (λ b. zones_needed (numbers_in_zone g) (held_of g b)) body
        ∙ needed_by_level (naming g v) n full file.held (λ p. ap (λ z. not (z == 0)) (zone_spot g v sized n 0 p (omega arith)))
        ∙ zones_by_slots g v block n

    -- a directory uses those of its names' bytes
    pub directory_used : is_directory_mode (v.inodes n).mode ≡ true → (v.inodes n).size ≤ most_size
        → zones_of g (nodes_of version_2 g v n) ≡ zones_for ((64 * (name_count g v (v.inodes n) + 2) + 1024 - 1) / 1024)
    directory_used d small =
        let x = v.inodes n in
        let sound = s.directories n (and_from (is_marked g v n) (is_directory_mode x.mode) is d) in
        let many : length (directory_of version_2 g v x).names ≡ name_count g v x
        = as_many (file_byte g v x) (entry_count_of version_2 x - 2)
        (λ e f l h used used'. sound.distinct (e + 2) (f + 2) (omega arith) (omega arith) used used') in
        let few : name_count g v x ≤ entry_count_of version_2 x - 2
        = count_most (λ e. not (is_dropped version_2 (file_byte g v x) (e + 2))) (entry_count_of version_2 x - 2) in
        let body : body_of version_2 g v x ≡ is_directory (directory_of version_2 g v x)
        = cond-true (is_directory_mode x.mode) (is_directory (directory_of version_2 g v x)) (is_file (file_of g v x)) d in
        body_used ∙ ap (λ b. zones_needed (numbers_in_zone g) (held_of g b)) body
        ∙ (λ i. zones_needed (block i / 4) (λ q. nat_lt q ((64 * (many i + 2) + block i - 1) / block i)))
        ∙ first_pages ((64 * (name_count g v x + 2) + 1024 - 1) / 1024) (omega arith)
