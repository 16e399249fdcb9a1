-- What a service is started with.
use Rattle.std.specs.Prelude.{◌≡◌, ◌≤◌, ◌^◌, ℕ, List, [], true}
use Rattle.atomic_table.specs.Seated.{TableId}
use Rattle.media.specs.Contents.{MediaState}
use Rattle.bdev.specs.DriverState.{DriverState}
use Rattle.records.specs.Marks.{Mark}
use Rattle.records.specs.Opening.{Opening, contents_at}
use Rattle.records.specs.Mount.{is_frame_count}
use Rattle.reincarnate.specs.declared.policy.Policy.{Policy}
use Rattle.reincarnate.specs.declared.policy.Setup.{Setup}
use Rattle.reissue.specs.declared.link.Link.{Ghosts as LinkWords}
use Rattle.true_replies.specs.Events.{opening_media}
use Rattle.board.specs.View.{SeatState, IsKeeper, opener}
use Rattle.board.specs.declared.counting.parameters.ServiceParameters.{Ghosts as RoomWords}
use Rattle.volume_mount.specs.Laws.{sizes_in}
use Rattle.volume_mount.specs.Starting.{opening_of, IsPrepared}

-- A link over which the service's volume may be mounted, as this minor and with so many frames: it keeps an empty record, was told nothing,
-- gives at most 2^57 messages, guarantees the empty record of the volume as it was handed in, and runs on the service's drivers under its
-- policy. The volume's sizes are those that its superblock gives, and a cache may have so many frames.
pub record IsFreshLink {N L : Type 0} (room : RoomWords N) (words : LinkWords L) (runs_on : L → Policy → List DriverState → Type 0)
    (record_in : L → List Mark) (link : L) (number count : ℕ) : Type 0 where
  pub marks : record_in link ≡ []
  pub told : words.history link ≡ []
  pub geometry : room.geometry ≡ sizes_in (contents_at room.opening)
  pub minor : number ≡ room.opening.minor
  pub frames : is_frame_count count ≡ true
  pub budget : words.budget_left link ≤ 2 ^ 57
  pub truth : words.truth link room.opening []
  pub drivers : runs_on link room.policy room.supply

-- such a link, and the board is the service's
pub record IsStarted {N L : Type 0} (room : RoomWords N) (words : LinkWords L) (runs_on : L → Policy → List DriverState → Type 0)
    (record_in : L → List Mark) (table : TableId) (link : L) (number count : ℕ) : Type 0 where
  pub board : table ≡ room.table
  pub fresh : IsFreshLink room words runs_on record_in link number count

-- All from which the link and its threads are made: the service's board, with the record's seat, which is new; the media that hold the
-- volume as it was handed in, in this range; and drivers that are ready for it, by a setup whose numbers are in their ranges.
pub record IsAtHand {N : Type 0} (room : RoomWords N) (table : TableId) (seat : SeatState) (setup : Setup) (supply : List DriverState)
    (media : MediaState) (range : ℕ × ℕ) : Type 0 where
  pub board : table ≡ room.table
  pub keeper : IsKeeper room.table seat
  pub fresh : seat.view ≡ opener
  pub opening : room.opening ≡ opening_of room.opening.media setup.minor range
  pub geometry : room.geometry ≡ sizes_in (contents_at room.opening)
  pub prepared : IsPrepared room.opening.media setup supply range
  pub contents : media ≡ opening_media room.opening
