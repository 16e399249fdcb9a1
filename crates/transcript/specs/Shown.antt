-- What the bytes of the media at a run's end say.
use Rattle.std.specs.Prelude.{◌≡◌, ◌≤◌, ◌*◌, length}
use Rattle.std.specs.List.{concat}
use Rattle.layout.specs.declared.Geometry.{Geometry}
use Rattle.records.specs.Open.{IsWellFormed}
use Rattle.records.specs.Area.{WritesInside}
use Rattle.records.specs.Opening.{Opening, contents_at, opening_range}
use Rattle.media.specs.Contents.{MediaState, IsWhole, sectors_of}
use Rattle.true_replies.specs.State as by_sector
use Rattle.true_replies.specs.State.{OutsideHolds}
use Rattle.true_replies.specs.Events.{IsOnMedia, opening_media}
use Rattle.schedule.specs.Headline.{Transcript, MediaHold}

-- Media of as many sectors as were handed in, which by sector hold the record where that is sure, and what was handed in outside of the
-- volume: a transcript with their bytes as its image shows that. Where each write lies in the volume behind its first two blocks, these are
-- as they were handed in, and so is what lies behind the last zone.
abbrev pub ImageShows : Type 0
ImageShows =
    (g : Geometry) (v : Opening) (media : MediaState) (t : Transcript) → IsOnMedia v → IsWhole media.sectors
    → length media.sectors ≡ length (sectors_of v.media) → 2 * g.block_size ≤ 512 * v.count → IsWellFormed t.marks → WritesInside g t.marks
    → by_sector.MediaHold v (contents_at v) media t.marks → OutsideHolds v (opening_media v) media → t.image ≡ concat media.sectors
    → MediaHold g (opening_range v) v.media t
