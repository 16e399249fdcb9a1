-- The text of a transcript.
use Rattle.std.specs.Prelude.{ℕ, List, ◌++◌, codes, decimal, flat_map, Result, Ok, Err}
use Rattle.errno.specs.declared.Errno.{Errno}
use Rattle.errno.specs.Errors.{errno_name}
use Rattle.message.specs.Slots.{endpoint_text}
use Rattle.message.specs.declared.Kind.{Kind}
use Rattle.message.specs.declared.Kind.TheVariants.{Read, Write}
use Rattle.compact_message.specs.Padded.{reply_of, request_of}
use Rattle.tree.specs.Answers.{answer_of}
use Rattle.reply_text.specs.Text.{answer_text}
use Rattle.records.specs.declared.marks.Cause.{Cause}
use Rattle.records.specs.declared.marks.Cause.TheVariants.{Exit, Hung, Complaint}
use Rattle.records.specs.Marks.{Mark, Started, Answered, Flush, GaveUp, Took, Issued, Fault}
use Rattle.reply_text.specs.declared.mark.MarkRef.{MarkRef}
use Rattle.reply_text.specs.declared.mark.MarkRef.TheVariants as ref

-- the mark that is borrowed
abbrev pub mark_of : MarkRef → Mark
mark_of (ref.Started e) = Started e
mark_of (ref.Answered reply) = Answered (reply_of reply)
mark_of ref.Flush = Flush
mark_of ref.GaveUp = GaveUp
mark_of (ref.Took who now call reply) = Took who now call.now (answer_of reply.now)
mark_of (ref.Issued request to) = Issued (request_of request) to
mark_of (ref.Fault e cause) = Fault e cause

-- what a request does
abbrev pub kind_text : Kind → List ℕ
kind_text Read = codes "read"
kind_text Write = codes "write"

-- why a driver is replaced
abbrev pub cause_text : Cause → List ℕ
cause_text Exit = codes "exit"
cause_text Hung = codes "hung"
cause_text Complaint = codes "complaint"

-- how many bytes were moved, or the error's name
abbrev pub moved_text : Result ℕ Errno → List ℕ
moved_text (Ok n) = decimal n
moved_text (Err e) = errno_name e

-- a mark: a call by its session and its reply
abbrev pub mark_text : Mark → List ℕ
mark_text (Started e) = codes "started " ++ endpoint_text e
mark_text (Issued r to) =
    codes "issue " ++ decimal r.id ++ codes " " ++ kind_text r.kind ++ codes " " ++ decimal r.position ++ codes " " ++ decimal r.count
    ++ codes " to " ++ endpoint_text to
mark_text (Answered reply) =
    codes "answer " ++ decimal reply.id ++ codes " " ++ moved_text reply.outcome ++ codes " from " ++ endpoint_text reply.from
mark_text (Fault e cause) = codes "fault " ++ endpoint_text e ++ codes " " ++ cause_text cause
mark_text GaveUp = codes "given up"
mark_text Flush = codes "flush"
mark_text (Took who now call answer) = codes "reply " ++ decimal who.session ++ codes " " ++ answer_text answer

-- a mark and a newline
abbrev pub mark_line : Mark → List ℕ
mark_line mark = mark_text mark ++ codes "\n"

-- marks, one a line, oldest first; `mark` says what each of these stands for
abbrev pub marks_text : {M : Type 0} → (M → Mark) → List M → List ℕ
marks_text mark marks = flat_map (λ m. mark_line (mark m)) marks

-- how many calls arrived and have no reply
abbrev pub unanswered_text : ℕ → List ℕ
unanswered_text unanswered = codes "unanswered " ++ decimal unanswered ++ codes "\n"

-- a transcript: its marks, oldest first, and last the calls without a reply
abbrev pub transcript_text : {M : Type 0} → (M → Mark) → List M → ℕ → List ℕ
transcript_text mark marks unanswered = marks_text mark marks ++ unanswered_text unanswered
