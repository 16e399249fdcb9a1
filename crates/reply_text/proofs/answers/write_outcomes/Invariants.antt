use Rattle.std.proofs.Common.{take}
use Rattle.std.specs.Io.KnownBytes.{Appends}
use Rattle.reply_text.specs.Answers.{outcomes_text}
use Rattle.reply_text.proofs.answers.write_outcomes.Given as goal

-- the answers so far went out
abbrev pub invariant-loop-at : goal.invariant-loop-at
invariant-loop-at g l = Appends (g.W.Write.contents l.fn.to) (g.W.Write.contents l.to) (outcomes_text (take l.at l.outcomes.items))
