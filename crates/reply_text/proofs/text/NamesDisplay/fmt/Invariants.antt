use Rattle.std.proofs.Common.{take, map, flat_map}
use Rattle.std.specs.Fmt.{HasWritten, IsPlainFormatter}
use Rattle.tree.specs.Answers.{entry_of}
use Rattle.reply_text.specs.Text.{entry_text}
use Rattle.reply_text.proofs.text.NamesDisplay.fmt.Given as goal

-- the names so far are written
abbrev pub invariant-loop-name : goal.invariant-loop-name
invariant-loop-name g l =
    IsPlainFormatter l.initial.f
    → HasWritten g.W.Write.write_str_gives l.initial.f (flat_map entry_text (map entry_of (take l.name-index l.name-items))) l.f
