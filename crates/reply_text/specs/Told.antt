-- What is told of a call.
use Rattle.std.specs.Prelude.{ℕ, List, map, codes, Option, Some, None, Bool, false, ◌==◌}
use Rattle.errno.specs.declared.Errno.{Errno}
use Rattle.errno.specs.Errors.{errno_number}
use Rattle.tree.specs.declared.Outcome.{Outcome}
use Rattle.tree.specs.declared.Outcome.TheVariants.{Reply, Cut}
use Rattle.tree.specs.declared.Reply.TheVariants.{Refused}
use Rattle.tree.specs.Answers.{Answer, refused, done, descriptor, some_bytes, wrote, position, node_is, names_are, room_is}
use Rattle.tree.specs.Answers.{answer_of, entry_of}
use Rattle.reply_text.specs.Text.{answer_text}
use Rattle.reply_text.specs.declared.text.OutcomeRef.{OutcomeRef}
use Rattle.reply_text.specs.declared.text.OutcomeRef.TheVariants as ref

-- the answer to a call, if it wasn't cut
abbrev pub told_of : Outcome → Option Answer
told_of (Reply reply) = Some (answer_of reply)
told_of Cut = None

-- the same of an outcome that is borrowed
abbrev pub told_by : OutcomeRef → Option Answer
told_by ref.Cut = None
told_by (ref.Refused e) = Some (refused e)
told_by ref.Done = Some done
told_by (ref.Descriptor n) = Some (descriptor n)
told_by (ref.Bytes bytes) = Some (some_bytes bytes.now)
told_by (ref.Wrote n) = Some (wrote n)
told_by (ref.At n) = Some (position n)
told_by (ref.Inode a) = Some (node_is a.now)
told_by (ref.Names names) = Some (names_are (map entry_of names.now))
told_by (ref.Space r) = Some (room_is r.now)

-- its text
abbrev pub told_text : Option Answer → List ℕ
told_text (Some answer) = answer_text answer
told_text None = codes "cut"

-- whether a call was refused for this reason
abbrev pub is_refused : Errno → Outcome → Bool
is_refused errno (Reply (Refused e)) = errno_number e == errno_number errno
is_refused errno _ = false
