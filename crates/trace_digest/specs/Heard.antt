-- What is kept of a record, and which messages leave a mark.
use Rattle.std.specs.Prelude.{◌≡◌, List, map, Bool, true, false}
use Rattle.message.specs.declared.BlockRequest.{BlockRequest}
use Rattle.message.specs.declared.Incoming.{Incoming}
use Rattle.message.specs.declared.Incoming.TheVariants as incoming
use Rattle.records.specs.Marks.{Mark, last_started, gave_up}
use Rattle.records.specs.Open.{open_requests, greatest, counts}
use Rattle.trace_digest.specs.declared.Asked.{Asked}
use Rattle.trace_digest.specs.declared.TraceDigest.{TraceDigest}

-- what is kept of a request while it is open
abbrev pub asked_for : BlockRequest → Asked
asked_for r = record { id = r.id; count = r.count }

-- what is kept is what the record says: the driver of the last start, whether the device was given up, the greatest id that was issued,
-- and the open requests
pub record IsHeard (h : TraceDigest) (marks : List Mark) : Type 0 where
  pub current : h.current ≡ last_started marks
  pub given_up : h.given_up ≡ gave_up marks
  pub greatest : h.greatest ≡ greatest marks
  pub asked : h.asked.items ≡ map asked_for (open_requests marks)

-- whether a message leaves a mark: a reply does if it counts, and an End doesn't
abbrev pub leaves_mark : Incoming → List Mark → Bool
leaves_mark (incoming.Reply a) marks = counts marks a
leaves_mark (incoming.Started e) marks = true
leaves_mark incoming.GaveUp marks = true
leaves_mark incoming.Flush marks = true
leaves_mark incoming.End marks = false
