use Rattle.call_text.proofs.Calls.{bytes_more}
use Rattle.call_text.proofs.scripts.reading.decode_lines.Goals as goal

pub loop-line-preserved : goal.loop-line-preserved
loop-line-preserved c =
    bytes_more c.args.lines.now c.loop-line.line-index _ c.loop-line.bytes.items c.decode.new.to.items c.loop-line-test.true c.loop-line.invariant c.in_ok-decode.ensures.ok
