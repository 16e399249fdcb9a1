use Rattle.std.proofs.Common.{take}
use Rattle.std.specs.Io.KnownBytes.{Appends}
use Rattle.reply_text.specs.TranscriptText.{marks_text}
use Rattle.reply_text.proofs.write.write_marks.Given as goal

-- the marks so far went out
abbrev pub invariant-loop-marked : goal.invariant-loop-marked
invariant-loop-marked g l =
    Appends (g.W.Write.contents l.fn.to) (g.W.Write.contents l.to) (marks_text g.M.AsMark.mark (take l.marked-index l.marks))
