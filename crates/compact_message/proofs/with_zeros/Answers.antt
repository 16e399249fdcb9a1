use Rattle.compact_message.proofs.Zeros.{front_filled}
use Rattle.compact_message.proofs.with_zeros.Goals as goal

pub returns : goal.returns
returns c = rw c.copy_from_slice.ensures.after (front_filled c.min-count.result c.args.bytes.now c.min-count.ensures)
