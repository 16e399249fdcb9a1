use Rattle.std.proofs.Common.{◌≡◌, ◌∷◌, [], ◌++◌, rules}
use Rattle.schedule_text.proofs.Events.{bytes_left, own_bytes, bytes_after, events_more}
use Rattle.schedule_text.proofs.reading.events_of.Goals as goal

pub split_at-requires : goal.split_at-requires
split_at-requires c =
    bytes_left c.args.lines.now c.loop-line.line-index _ c.loop-line.rest.now c.decoded_len.result c.loop-line-test.true c.loop-line.invariant.rest c.decoded_len.ensures

pub event-requires : goal.event-requires
event-requires c =
    own_bytes c.args.lines.now c.loop-line.line-index _ c.loop-line.rest.now c.split_at.result.0.now c.decoded_len.result c.loop-line-test.true c.loop-line.invariant.rest
    c.decoded_len.ensures c.split_at.ensures.front

pub loop-line-preserved : goal.loop-line-preserved
loop-line-preserved c =
    let items : c.push.new.self.items ≡ c.loop-line.events.items ++ c.event.result ∷ [] = search rules in
    record {
      rest = bytes_after c.args.lines.now c.loop-line.line-index _ c.loop-line.rest.now c.split_at.result.1.now c.decoded_len.result c.loop-line-test.true c.loop-line.invariant.rest
          c.decoded_len.ensures c.split_at.ensures.back;
      events = events_more c.args.lines.now c.loop-line.line-index _ c.loop-line.events.items c.push.new.self.items c.event.result c.loop-line-test.true
          c.loop-line.invariant.events items c.event.ensures;
    }
