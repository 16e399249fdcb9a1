use Rattle.std.proofs.Common.{ap, ◌∙◌}
use Rattle.inode.specs.Bytes.{bytes_of}
use Rattle.inode.proofs.RoundTrip.{written_back}
use Rattle.inode.proofs.decode.Goals as goal

pub returns-clause-bytes : goal.returns-clause-bytes
returns-clause-bytes c = ap bytes_of c.decode_in.ensures ∙ written_back c.args.bytes.now c.told-bytes c.fits-bytes
