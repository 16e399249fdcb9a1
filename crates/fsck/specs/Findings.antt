-- The findings of the check that depend on the form of entries: of each its number, and the places at which it is true.
use Rattle.std.specs.Prelude.{ℕ, zero, suc, ◌+◌, ◌-◌, ◌*◌, ◌%◌, Bool, not, ◌&&◌, ◌||◌, ◌==◌, nat_lt, nat_le, if◌then◌else◌}
use Rattle.layout.specs.declared.Geometry.{Geometry}
use Rattle.lemmas.specs.Sums.{sum_below, count_below, some_below, one_if}
use Rattle.tree.specs.Names.{same_name, dot, dot_dot}
use Rattle.tree.specs.Tree.{most_size, most_links}
use Rattle.volume.specs.Pieces.{Pieces}
use Rattle.volume.specs.Nodes.{is_marked}
use Rattle.volume.specs.Entries.{is_directory_inode}
use Rattle.fsck.specs.Form.{EntryForm}
use Rattle.fsck.specs.Entries.{entry_count, target_at, name_at, is_free_at, is_field, is_name_field}

module _ (form : EntryForm) (g : Geometry) (v : Pieces) where
  -- under two entries, or no whole number of them
  abbrev pub is_bad_directory_size : ℕ → Bool
  is_bad_directory_size size = nat_lt size (2 * form.size) || not (size % form.size == 0)

  -- 6, at an inode: a size over the greatest, or one that no directory has
  abbrev pub has_bad_size : ℕ → Bool
  has_bad_size n =
      is_marked g v n && (nat_lt most_size (v.inodes n).size || (is_directory_inode g v n && is_bad_directory_size (v.inodes n).size))

  -- 12, at a directory: entry 0 isn't . with its own number, or entry 1 isn't named ..
  abbrev pub has_bad_dots : ℕ → Bool
  has_bad_dots n = is_directory_inode g v n
      && (not (is_field form g v n 0 dot) || not (target_at form g v n 0 == n) || not (is_field form g v n 1 dot_dot))

  -- entry f isn't free where it may be, and has the name of entry e
  abbrev pub has_name_of : ℕ → ℕ → ℕ → Bool
  has_name_of n e f = not (is_free_at form g v n f) && same_name (name_at form g v n f) (name_at form g v n e)

  -- free where it may not be, one past . and .. whose field is no name, or one whose name stands earlier too
  abbrev pub is_bad_entry : ℕ → ℕ → Bool
  is_bad_entry n e = not (is_free_at form g v n e)
      && ((target_at form g v n e == 0) || (nat_le 2 e && not (is_name_field form g v n e)) || some_below (has_name_of n e) e)

  -- 13, at a directory: one of its entries is such
  abbrev pub has_bad_entry : ℕ → Bool
  has_bad_entry n = is_directory_inode g v n && some_below (is_bad_entry n) (entry_count form v n)

  -- entry e isn't free where it may be, and leads to no marked inode
  abbrev pub is_lost : ℕ → ℕ → Bool
  is_lost n e = not (is_free_at form g v n e) && not (is_marked g v (target_at form g v n e))

  -- 14, at a directory: one of its entries is such
  abbrev pub has_bad_target : ℕ → Bool
  has_bad_target n = is_directory_inode g v n && some_below (is_lost n) (entry_count form v n)

  -- how many names of directory n lead to inode m; free entries lead to 0, which is no inode's number
  abbrev pub names_in_of : ℕ → ℕ → ℕ
  names_in_of n m = if is_directory_inode g v n then count_below (λ e. target_at form g v n (e + 2) == m) (entry_count form v n - 2) else 0

  -- how many names of all directories lead to inode m
  abbrev pub all_names_of : ℕ → ℕ
  all_names_of m = sum_below (λ n. names_in_of n m) (g.inodes + 1)

  -- inode n is reached from the root by at most k names
  abbrev pub is_reached : ℕ → ℕ → Bool
  is_reached zero n = n == 1
  is_reached (suc k) n = is_reached k n || some_below (λ m. nat_lt 0 (names_in_of m n) && is_reached k m) (g.inodes + 1)

  -- m is directory n's parent: the one that names it, and the root's is the root
  abbrev pub is_parent : ℕ → ℕ → Bool
  is_parent n m = if n == 1 then m == 1 else nat_lt 0 (names_in_of m n)

  -- 15, at a directory: it isn't reached, is named other than once (the root: named), or its .. isn't its parent
  abbrev pub is_misplaced : ℕ → Bool
  is_misplaced n = is_directory_inode g v n
      && (not (is_reached g.inodes n) || not (all_names_of n == one_if (not (n == 1))) || not (is_parent n (target_at form g v n 1)))

  -- how many names of directory n lead to directories
  abbrev pub subdirectories_of : ℕ → ℕ
  subdirectories_of n = count_below (λ e. is_directory_inode g v (target_at form g v n (e + 2))) (entry_count form v n - 2)

  -- the link count that inode n should have
  abbrev pub links_of : ℕ → ℕ
  links_of n = if is_directory_inode g v n then 2 + subdirectories_of n else all_names_of n

  -- 16, at an inode: another link count than that, 0, or one over the greatest
  abbrev pub has_bad_links : ℕ → Bool
  has_bad_links n = is_marked g v n
      && (not ((v.inodes n).links == links_of n) || ((v.inodes n).links == 0) || nat_lt most_links (v.inodes n).links)
