use Rattle.std.proofs.Common.{Some, None}
use Rattle.ninep_fids.proofs.Tables.{found_seen}
use Rattle.ninep_fids.proofs.fids.Fids.get.Goals as goal

pub returns-in-Some : goal.returns-in-Some
returns-in-Some c = found_seen c.args.self.now c.args.fid (Some c.in-Some.found.now) c.in-Some.ensures.value

pub returns-in-None : goal.returns-in-None
returns-in-None c = found_seen c.args.self.now c.args.fid None c.in-None.ensures.value
