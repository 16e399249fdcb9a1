-- In what the link guarantees the replies are true, and the media hold what the record says.
use Rattle.simulated_link.specs.Laws.{RepliesAreTrue, MediaAreHeld}

pub replies_true : RepliesAreTrue
replies_true v s marks h = h.kept.disks.true_replies

pub media_held : MediaAreHeld
media_held v s marks h = record { inside = h.kept.disks.media; outside = h.kept.disks.outside }
