-- A run that holds is shown.
use Rattle.std.proofs.Common.{List, refl, sym, subst}
use Rattle.records.specs.Marks.{Mark}
use Rattle.records.specs.Opening.{contents_at}
use Rattle.schedule.specs.Headline.{RepliesHold}
use Rattle.simulated_link.specs.Laws.{MediaHeld}
use Rattle.transcript.proofs.Image.{image_shows}
use Rattle.world.specs.Shows.{RunsAreShown}

pub runs_are_shown : RunsAreShown
runs_are_shown g frames v tree s t on fits of_run runs =
    let replies : RepliesHold g (contents_at v) tree t = runs.replies t of_run.marks of_run.frames_are refl in
    let held : MediaHeld v s t.marks = subst (λ (m : List Mark). MediaHeld v s m) (sym of_run.marks) runs.media in
    record {
      replies = replies;
      media = image_shows g v s.disks.media t on of_run.whole of_run.number fits replies.well_formed replies.inside held.inside held.outside
          of_run.image;
    }
