use Rattle.std.proofs.Common.{take}
use Rattle.std.specs.Io.KnownBytes.{Appends}
use Rattle.reply_text.specs.Answers.{sessions_text}
use Rattle.reply_text.proofs.answers.write_sessions.Given as goal

-- the sessions so far went out
abbrev pub invariant-loop-session : goal.invariant-loop-session
invariant-loop-session g l =
    Appends (g.W.Write.contents l.fn.to) (g.W.Write.contents l.to) (sessions_text (take l.session-index l.sessions))
