use Rattle.std.proofs.Common.{arith}
use Rattle.std.proofs.lemmas.Grind.{common_steps}
use Rattle.call_text.proofs.Calls.{bytes_left, own_bytes, bytes_after, calls_more}
use Rattle.call_text.proofs.scripts.script.calls_of.Goals as goal

pub split_at-requires : goal.split_at-requires
split_at-requires c =
    bytes_left c.args.lines.now c.loop-line.line-index _ c.loop-line.rest.now c.decoded_len.result c.loop-line-test.true c.loop-line.invariant.rest c.decoded_len.ensures

pub timed-requires : goal.timed-requires
timed-requires c =
    own_bytes c.args.lines.now c.loop-line.line-index _ c.loop-line.rest.now c.split_at.result.0.now c.decoded_len.result c.loop-line-test.true c.loop-line.invariant.rest
    c.decoded_len.ensures c.split_at.ensures.front

pub loop-line-preserved : goal.loop-line-preserved
loop-line-preserved c = record {
  rest = bytes_after c.args.lines.now c.loop-line.line-index _ c.loop-line.rest.now c.split_at.result.1.now c.decoded_len.result c.loop-line-test.true c.loop-line.invariant.rest
      c.decoded_len.ensures c.split_at.ensures.back;
  calls = calls_more c.args.lines.now c.loop-line.line-index _ c.loop-line.calls.items c.push_reserved.new.self.items c.timed.result c.loop-line-test.true
      c.loop-line.invariant.calls c.push_reserved.ensures.items c.timed.ensures;
  count = grind (arith, common_steps);
  room = grind (arith, common_steps);
}
