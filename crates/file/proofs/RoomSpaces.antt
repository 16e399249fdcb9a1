-- Room for a write and for other zones beside, in the words of the client calls.
use Rattle.std.proofs.Common.{◌≡◌, ◌≤◌, ◌+◌, ap, arith}
use Rattle.std.specs.Prelude.{Some}
use Rattle.tree.specs.ZonesNeeded.{zones_needed}
use Rattle.tree.specs.Space.{numbers_in_zone, zones_of}
use Rattle.volume.proofs.Ranges.{marked_below}
use Rattle.zone.proofs.Room.{nodes_take_marked}
use Rattle.file.proofs.Spaces.{node_takes_held, put_taken}
use Rattle.file.specs.RoomLaws.{RoomBesideIsSpace}

pub room_beside_is_space : RoomBesideIsSpace
room_beside_is_space g v n x held others ok s is same =
    let all = nodes_take_marked g v ok s in
    let here = node_takes_held g v n ok s is in
    let then_ : zones_of g (Some x) ≡ zones_needed (numbers_in_zone g) held = ap (zones_needed (numbers_in_zone g)) same in
    let whole = put_taken g v n x (marked_below g v n is) in
    (λ fits. omega (arith, fits, all, here, then_, whole), λ room. omega (arith, room, all, here, then_, whole))
