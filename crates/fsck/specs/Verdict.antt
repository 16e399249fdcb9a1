-- The verdict on a volume whose entries have this form: the true finding with the least number, and of these the least place.
use Rattle.std.specs.Prelude.{List, [], ◌∷◌}
use Rattle.layout.specs.declared.Geometry.{Geometry}
use Rattle.volume.specs.Pieces.{Pieces}
use Rattle.volume.specs.Findings.{lacks_inode_bit, lacks_zone_bit, lacks_root, has_bad_mode, has_bad_number, is_used_twice, has_bad_bit}
use Rattle.volume.specs.Findings.{has_spare_zone, has_hole, has_bad_link}
use Rattle.volume.specs.Verdict.{Verdict, Test, first_found, place_limit}
use Rattle.fsck.specs.Form.{EntryForm}
use Rattle.fsck.specs.Findings.{has_bad_size, has_bad_dots, has_bad_entry, has_bad_target, is_misplaced, has_bad_links}

-- The findings from 2 on, in their order. Ten of them are one for all forms.
abbrev pub tests : EntryForm → Geometry → Pieces → List Test
tests form g v =
    lacks_inode_bit g v ∷ lacks_zone_bit g v ∷ lacks_root g v ∷ has_bad_mode g v ∷ has_bad_size form g v
    ∷ has_bad_number g v ∷ is_used_twice g v ∷ has_bad_bit g v
    ∷ has_spare_zone g v ∷ has_hole g v ∷ has_bad_dots form g v ∷ has_bad_entry form g v ∷ has_bad_target form g v ∷ is_misplaced form g v
    ∷ has_bad_links form g v ∷ has_bad_link g v ∷ []

-- the verdict on the pieces of a volume
abbrev pub verdict_of_pieces : EntryForm → Geometry → Pieces → Verdict
verdict_of_pieces form g v = first_found (place_limit g) 2 (tests form g v)
