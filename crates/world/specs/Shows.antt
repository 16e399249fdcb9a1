-- What a transcript of a run shows.
use Rattle.std.specs.Prelude.{◌≡◌, ◌≤◌, ◌*◌, length}
use Rattle.std.specs.List.{concat}
use Rattle.layout.specs.declared.Geometry.{Geometry}
use Rattle.tree.specs.Tree.{Tree}
use Rattle.records.specs.View.{Frames}
use Rattle.records.specs.Opening.{Opening, contents_at, opening_range}
use Rattle.media.specs.Contents.{IsWhole, sectors_of}
use Rattle.true_replies.specs.Events.{IsOnMedia}
use Rattle.schedule.specs.Headline.{Transcript, RepliesHold, MediaHold}
use Rattle.schedule.specs.Noted.{marks_in}
use Rattle.simulated_link.specs.Scene.{Scene}
use Rattle.world.specs.Ends.{RunHolds}

-- the transcript is of this run: its marks, the server's frames, and the bytes of the media, which are as many sectors as were handed in
pub record IsOfRun (frames : Frames) (v : Opening) (s : Scene) (t : Transcript) : Type 0 where
  pub marks : t.marks ≡ marks_in s.noted
  pub frames_are : t.frames ≡ frames
  pub image : t.image ≡ concat s.disks.media.sectors
  pub whole : IsWhole s.disks.media.sectors
  pub number : length s.disks.media.sectors ≡ length (sectors_of v.media)

-- the two parts of the headline that speak of the volume
pub record Shows (g : Geometry) (v : Opening) (tree : Tree) (t : Transcript) : Type 0 where
  pub replies : RepliesHold g (contents_at v) tree t
  pub media : MediaHold g (opening_range v) v.media t

-- a run that holds, over a volume of two blocks at least, is shown
abbrev pub RunsAreShown : Type 0
RunsAreShown =
    (g : Geometry) (frames : Frames) (v : Opening) (tree : Tree) (s : Scene) (t : Transcript) → IsOnMedia v
    → 2 * g.block_size ≤ 512 * v.count → IsOfRun frames v s t
    → RunHolds g frames v tree s t.unanswered → Shows g v tree t
