use Rattle.std.proofs.Common.{◌∙◌, ap, map, Some, None}
use Rattle.ninep_fids.specs.Knowledge.{entry_of}
use Rattle.ninep_fids.proofs.Tables.{found_seen, remove_seen}
use Rattle.ninep_fids.proofs.fids.Fids.take.Goals as goal

pub returns-in-Some-clause-taken : goal.returns-in-Some-clause-taken
returns-in-Some-clause-taken c = found_seen c.args.self.now c.args.fid (Some c.in-Some.taken) c.in-Some.ensures.value

pub returns-in-Some-clause-left : goal.returns-in-Some-clause-left
returns-in-Some-clause-left c = ap (map entry_of) c.remove.ensures.entries ∙ remove_seen _ c.args.self.now.fids.entries

pub returns-in-None-clause-taken : goal.returns-in-None-clause-taken
returns-in-None-clause-taken c = found_seen c.args.self.now c.args.fid None c.in-None.ensures.value

pub returns-in-None-clause-left : goal.returns-in-None-clause-left
returns-in-None-clause-left c = ap (map entry_of) c.remove.ensures.entries ∙ remove_seen _ c.args.self.now.fids.entries
