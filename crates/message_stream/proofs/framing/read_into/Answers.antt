use Rattle.std.proofs.Common.{◌≤◌, length}
use Rattle.message_stream.proofs.Streams.{fits_behind, reads_on}
use Rattle.message_stream.proofs.framing.read_into.Goals as goal

pub loop-at-preserved : goal.loop-at-preserved
loop-at-preserved g c =
    let less : c.loop-at.at ≤ length c.loop-at.bytes = c.loop-at.invariant.most in
    let fits : c.in-Ok.count ≤ length c.read_some.new.bytes = c.in-Ok.ensures.some.1 in
    record {
      most = fits_behind c.loop-at.bytes c.read_some.new.bytes _ c.loop-at.at c.in-Ok.count less fits;
      taken = reads_on _ _ _ c.loop-at.bytes c.read_some.new.bytes _ c.loop-at.at c.in-Ok.count less fits c.loop-at.invariant.taken
          c.in-Ok.ensures.taken;
    }
