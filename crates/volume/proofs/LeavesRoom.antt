-- The tree that a volume holds leaves room.
use Rattle.std.proofs.Common.{◌+◌, ◌∙◌, arith}
use Rattle.layout.proofs.Parsed.{geometry_fits}
use Rattle.lemmas.specs.Sums.{sum_below}
use Rattle.tree.specs.Space.{zones_of, data_zones}
use Rattle.volume.specs.Reading.{disk_of}
use Rattle.volume.specs.Pieces.{pieces}
use Rattle.volume.specs.Laws.{UsedZonesAreMarked, HeldLeavesRoom, ImageLeavesRoom}
use Rattle.volume.proofs.Sums.{count_most}
use Rattle.volume.proofs.Volumes.{numbers_sized}
use Rattle.volume.proofs.MarkedZones.{zones_are_marked}

-- zones used are zones marked
pub used_zones_are_marked : UsedZonesAreMarked
used_zones_are_marked g d t ok h =
    (λ i. sum_below (λ n. zones_of g (h.nodes i n)) (g.inodes + 1)) ∙ zones_are_marked g (pieces g d) ok (numbers_sized g ok) h.sound

-- there are no more of these than data zones
pub held_leaves_room : HeldLeavesRoom
held_leaves_room g d t ok h =
    let same = used_zones_are_marked g d t ok h in
    let most = count_most (λ k. (pieces g d).zone_map (k + 1)) (data_zones g) in
    omega arith

-- the same of an image
pub image_leaves_room : ImageLeavesRoom
image_leaves_room image t h = held_leaves_room h.geometry (disk_of h.geometry image) t (geometry_fits image h.geometry h.parsed).0 h.holds
