use Rattle.std.proofs.Common.{take}
use Rattle.std.specs.List.{AllByRecursion, flat_map}
use Rattle.ninep.specs.Fields.{Fits}
use Rattle.ninep.specs.Replies.{qid_fields}
use Rattle.ninep_fids.proofs.send.seen.Given as goal

abbrev pub invariant-loop-qid : goal.invariant-loop-qid
invariant-loop-qid l = AllByRecursion Fits (flat_map qid_fields (take l.qid-index l.qids))
