-- The findings of the check: of each its number, and the places at which it is true.
use Rattle.std.specs.Prelude.{ℕ, zero, suc, ◌+◌, ◌-◌, ◌%◌, Bool, not, ◌&&◌, ◌||◌, ◌==◌, nat_lt, nat_le, if◌then◌else◌}
use Rattle.layout.specs.declared.Geometry.{Geometry}
use Rattle.lemmas.specs.Sums.{sum_below, count_below, some_below, one_if}
use Rattle.tree.specs.ZonesNeeded.{page_limit}
use Rattle.tree.specs.Names.{same_name, dot, dot_dot}
use Rattle.tree.specs.Tree.{most_size, most_target, most_links}
use Rattle.tree.specs.Space.{pages_of, numbers_in_zone}
use Rattle.volume.specs.Reading.{is_data_zone}
use Rattle.volume.specs.Pieces.{Pieces}
use Rattle.volume.specs.Nodes.{page_zone, file_byte, is_mode, is_marked}
use Rattle.volume.specs.Places.{zone_at, has_number, uses}
use Rattle.volume.specs.Entries.{is_directory_inode, is_link_inode, entry_count, name_at, target_at, is_field, is_name_field}

module _ (g : Geometry) (v : Pieces) where
  -- more than any place of any level of an inode
  abbrev pub all_places : ℕ
  all_places = page_limit (numbers_in_zone g)

  -- 2, at place 0: bit 0 of the inode map is clear
  abbrev pub lacks_inode_bit : ℕ → Bool
  lacks_inode_bit p = (p == 0) && not (v.inode_map 0)

  -- 3, at place 0: bit 0 of the zone map is clear
  abbrev pub lacks_zone_bit : ℕ → Bool
  lacks_zone_bit p = (p == 0) && not (v.zone_map 0)

  -- 4, at inode 1: it isn't marked or is no directory
  abbrev pub lacks_root : ℕ → Bool
  lacks_root n = (n == 1) && not (is_directory_inode g v 1)

  -- 5, at an inode: a mode of no known type, or with bits past the permissions
  abbrev pub has_bad_mode : ℕ → Bool
  has_bad_mode n = is_marked g v n && not (is_mode (v.inodes n).mode)

  -- under two entries, or no whole number of them
  abbrev pub is_bad_directory_size : ℕ → Bool
  is_bad_directory_size size = nat_lt size 128 || not (size % 64 == 0)

  -- 6, at an inode: a size over the greatest, or one that no directory has
  abbrev pub has_bad_size : ℕ → Bool
  has_bad_size n =
      is_marked g v n && (nat_lt most_size (v.inodes n).size || (is_directory_inode g v n && is_bad_directory_size (v.inodes n).size))

  -- a number but 0 that is no data zone's
  abbrev pub is_bad_zone : ℕ → Bool
  is_bad_zone z = not (z == 0) && not (is_data_zone g z)

  -- 7, at an inode: at one of its places stands a number that is no data zone's
  abbrev pub has_bad_number : ℕ → Bool
  has_bad_number n = is_marked g v n && some_below (λ l. some_below (λ k. is_bad_zone (zone_at g v (v.inodes n) l k)) all_places) 4

  -- 8, at a data zone: it has two uses
  abbrev pub is_used_twice : ℕ → Bool
  is_used_twice z = is_data_zone g z && nat_lt 1 (uses g v z)

  -- 9, at a data zone: its bit is set and it has no use, or clear and it has one
  abbrev pub has_bad_bit : ℕ → Bool
  has_bad_bit z = is_data_zone g z && (if v.zone_map (z - g.first_zone + 1) then uses g v z == 0 else nat_lt 0 (uses g v z))

  -- page p lies at or past the end of inode n and has a zone
  abbrev pub is_past_end : ℕ → ℕ → Bool
  is_past_end n p = nat_le (pages_of g (v.inodes n).size) p && not (page_zone g v (v.inodes n) p == 0)

  -- an indirect block lies there, and no number stands in it
  abbrev pub is_empty_block : ℕ → Bool
  is_empty_block z = not (z == 0) && not (has_number g v z)

  -- 10, at an inode: a page at or past its end has a zone, or an indirect block of it has no number
  abbrev pub has_spare_zone : ℕ → Bool
  has_spare_zone n = is_marked g v n
      && (some_below (is_past_end n) all_places
      || some_below (λ l. some_below (λ k. is_empty_block (zone_at g v (v.inodes n) (suc l) k)) all_places) 3)

  -- 11, at a directory: a page below its end has no zone
  abbrev pub has_hole : ℕ → Bool
  has_hole n = is_directory_inode g v n && some_below (λ p. page_zone g v (v.inodes n) p == 0) (pages_of g (v.inodes n).size)

  -- 12, at a directory: entry 0 isn't . with its own number, or entry 1 isn't named ..
  abbrev pub has_bad_dots : ℕ → Bool
  has_bad_dots n = is_directory_inode g v n
      && (not (is_field g v n 0 dot) || not (target_at g v n 0 == n) || not (is_field g v n 1 dot_dot))

  -- a free entry, one past . and .. whose field is no name, or one whose name stands earlier too
  abbrev pub is_bad_entry : ℕ → ℕ → Bool
  is_bad_entry n e =
      (target_at g v n e == 0) || (nat_le 2 e && not (is_name_field g v n e))
      || some_below (λ f. same_name (name_at g v n f) (name_at g v n e)) e

  -- 13, at a directory: one of its entries is such
  abbrev pub has_bad_entry : ℕ → Bool
  has_bad_entry n = is_directory_inode g v n && some_below (is_bad_entry n) (entry_count v n)

  -- 14, at a directory: an entry leads to no marked inode
  abbrev pub has_bad_target : ℕ → Bool
  has_bad_target n = is_directory_inode g v n && some_below (λ e. not (is_marked g v (target_at g v n e))) (entry_count v n)

  -- how many names of directory n lead to inode m
  abbrev pub names_in_of : ℕ → ℕ → ℕ
  names_in_of n m = if is_directory_inode g v n then count_below (λ e. target_at g v n (e + 2) == m) (entry_count v n - 2) else 0

  -- how many names of all directories lead to inode m
  abbrev pub all_names_of : ℕ → ℕ
  all_names_of m = sum_below (λ n. names_in_of n m) (g.inodes + 1)

  -- inode n is reached from the root by at most k names
  abbrev pub is_reached : ℕ → ℕ → Bool
  is_reached zero n = n == 1
  is_reached (suc k) n = is_reached k n || some_below (λ m. nat_lt 0 (names_in_of m n) && is_reached k m) (g.inodes + 1)

  -- m is directory n's parent: the one that names it, and the root's is the root
  abbrev pub is_parent : ℕ → ℕ → Bool
  is_parent n m = if n == 1 then m == 1 else nat_lt 0 (names_in_of m n)

  -- 15, at a directory: it isn't reached, is named other than once (the root: named), or its .. isn't its parent
  abbrev pub is_misplaced : ℕ → Bool
  is_misplaced n = is_directory_inode g v n
      && (not (is_reached g.inodes n) || not (all_names_of n == one_if (not (n == 1))) || not (is_parent n (target_at g v n 1)))

  -- how many names of directory n lead to directories
  abbrev pub subdirectories_of : ℕ → ℕ
  subdirectories_of n = count_below (λ e. is_directory_inode g v (target_at g v n (e + 2))) (entry_count v n - 2)

  -- the link count that inode n should have
  abbrev pub links_of : ℕ → ℕ
  links_of n = if is_directory_inode g v n then 2 + subdirectories_of n else all_names_of n

  -- 16, at an inode: another link count than that, 0, or one over the greatest
  abbrev pub has_bad_links : ℕ → Bool
  has_bad_links n = is_marked g v n
      && (not ((v.inodes n).links == links_of n) || ((v.inodes n).links == 0) || nat_lt most_links (v.inodes n).links)

  -- a size that no target has
  abbrev pub is_bad_link_size : ℕ → Bool
  is_bad_link_size size = (size == 0) || nat_lt most_target size

  -- 17, at a symbolic link: its target has no byte or too many, page 0 has no zone, or a byte of the target is zero
  abbrev pub has_bad_link : ℕ → Bool
  has_bad_link n = is_link_inode g v n
      && (is_bad_link_size (v.inodes n).size || (page_zone g v (v.inodes n) 0 == 0)
      || some_below (λ p. file_byte g v (v.inodes n) p == 0) (v.inodes n).size)
