-- The findings, part by part. Those of zones and blocks are one for all forms.
use Rattle.std.specs.Prelude.{ℕ, ◌+◌, List, [], ◌∷◌, Option, None, Some}
use Rattle.layout.specs.declared.Geometry.{Geometry}
use Rattle.volume.specs.declared.Finding.{Finding}
use Rattle.volume.specs.Pieces.{Pieces}
use Rattle.volume.specs.Findings.{lacks_inode_bit, lacks_zone_bit, lacks_root, has_bad_mode, has_bad_number, is_used_twice, has_bad_bit}
use Rattle.volume.specs.Findings.{has_spare_zone, has_hole, has_bad_link}
use Rattle.volume.specs.Verdict.{Test}
use Rattle.image.specs.Least.{least_of}
use Rattle.fsck.specs.Form.{EntryForm}
use Rattle.fsck.specs.Findings.{has_bad_size, has_bad_dots, has_bad_entry, has_bad_target, is_misplaced, has_bad_links}

-- the finding of that number at a place, where there is one, else another
abbrev pub found_or : ℕ → Option ℕ → Option Finding → Option Finding
found_or number None other = other
found_or number (Some place) other = Some (record { number = number; place = place })

-- the first of the tests, which are numbered from k on, that is true at a place below the limit, with its least place
unfoldable pub first_of : ℕ → ℕ → List Test → Option Finding
first_of limit k [] = None
first_of limit k (test ∷ tests) = found_or k (least_of test limit) (first_of limit (k + 1) tests)

-- findings 2 to 6
abbrev pub structure_tests : EntryForm → Geometry → Pieces → List Test
structure_tests form g v = lacks_inode_bit g v ∷ lacks_zone_bit g v ∷ lacks_root g v ∷ has_bad_mode g v ∷ has_bad_size form g v ∷ []

-- findings 7 to 9
abbrev pub zone_tests : Geometry → Pieces → List Test
zone_tests g v = has_bad_number g v ∷ is_used_twice g v ∷ has_bad_bit g v ∷ []

-- findings 10 and 11
abbrev pub block_tests : Geometry → Pieces → List Test
block_tests g v = has_spare_zone g v ∷ has_hole g v ∷ []

-- findings 12 to 14
abbrev pub entry_tests : EntryForm → Geometry → Pieces → List Test
entry_tests form g v = has_bad_dots form g v ∷ has_bad_entry form g v ∷ has_bad_target form g v ∷ []

-- findings 15 to 17
abbrev pub tree_tests : EntryForm → Geometry → Pieces → List Test
tree_tests form g v = is_misplaced form g v ∷ has_bad_links form g v ∷ has_bad_link g v ∷ []
