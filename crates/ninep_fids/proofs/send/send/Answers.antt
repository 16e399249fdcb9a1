use Rattle.std.proofs.Common.{inl}
use Rattle.ninep_fids.proofs.SendLaws.{written}
use Rattle.ninep_fids.proofs.send.send.Goals as goal

pub returns-in-Ok-clause-ok : goal.returns-in-Ok-clause-ok
returns-in-Ok-clause-ok c = inl (written _ _ _ c.reply_to.result _ _ c.reply_to.ensures c.in-Ok.ensures.ok)
