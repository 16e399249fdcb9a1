-- What goes on in the link goes on from itself, and twice; its guarantee makes the replies true.
use Rattle.std.specs.Prelude.{List}
use Rattle.records.specs.Marks.{Mark}
use Rattle.records.specs.Disk.{HasTrueReplies}
use Rattle.records.specs.Opening.{Opening, contents_at}
use Rattle.simulated_link.specs.Scene.{Scene}
use Rattle.simulated_link.specs.RunState.{RunState, RunTruth, GoesOn, Still, Further}

pub goes_stays : (p : RunState) → GoesOn p p
goes_stays p = Still

pub goes_joins : (a b c : RunState) → GoesOn a b → GoesOn b c → GoesOn a c
goes_joins a b _ first Still = first
goes_joins a b c first (Further m _ told next last) = Further m c told (goes_joins a b m first next) last

pub replies_of_run : (v : Opening) (s : Scene) (marks : List Mark) → RunTruth v s marks → HasTrueReplies (contents_at v) marks
replies_of_run v s marks h = h.kept.disks.true_replies
