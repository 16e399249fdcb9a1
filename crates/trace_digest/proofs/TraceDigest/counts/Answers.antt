use Rattle.std.proofs.Common.{sym, ◌∙◌}
use Rattle.trace_digest.proofs.HeardLaws.{heard_counts}
use Rattle.trace_digest.proofs.TraceDigest.counts.Goals as goal
use Rattle.trace_digest.proofs.TraceDigest.counts.Goals.{then-not-self, else-not-self}

pub returns-then-is_current : goal.returns-then-is_current
returns-then-is_current c = λ marks is. elim c.if-not-self.branch [
  | then-not-self w ↦ c.is_some.ensures ∙ heard_counts c.args.self.now marks c.args.reply.now c.find.result is w.if-not-self.true
      (sym w.is_current.ensures ∙ sym w.value-is ∙ c.if-is_current.true) c.find.ensures
  | else-not-self w ↦ let t = c.if-is_current.true in let f = w.value-is in absurd cc
]
