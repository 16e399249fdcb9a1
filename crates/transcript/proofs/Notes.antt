-- What a note adds to a record, and to what is kept of it.
use Rattle.std.proofs.Common.{◌≡◌, ℕ, ◌+◌, ◌<◌, arith, List, [], ◌∷◌, ◌++◌, length, get_or, take, Option, Some, None, sym, ◌∙◌, ap, subst}
use Rattle.std.specs.Prelude.{map, reverse}
use Rattle.std.proofs.lemmas.List.{map-append, reverse-append}
use Rattle.std.proofs.lemmas.Grind.{common_steps}
use Rattle.message.specs.declared.Incoming.{Incoming}
use Rattle.records.specs.Marks.{Mark}
use Rattle.records.specs.Told.{received}
use Rattle.schedule.specs.Noted.{Noted, marks_in, with_mark, with_message, with_entry, all_noted, nothing_noted}
use Rattle.schedule.specs.declared.log.LogEntry.{LogEntry}
use Rattle.schedule.proofs.NotedLaws.{mark_in, message_in, all_push}
use Rattle.reply_text.specs.TranscriptText.{mark_of}
use Rattle.reply_text.specs.declared.mark.MarkRef.{MarkRef}
use Rattle.trace_digest.specs.declared.TraceDigest.{TraceDigest}
use Rattle.trace_digest.specs.Heard.{IsHeard}
use Rattle.transcript.specs.Leaves.{Leaves, with_ref}

-- a mark more
pub leaves_one : (h : TraceDigest) (n : Noted) (m : MarkRef) → IsHeard h (mark_of m ∷ marks_in n)
    → Leaves h (marks_in n) (marks_in (with_mark (mark_of m) n)) (Some m)
leaves_one h n m is = record {
  is = mark_in (mark_of m) n;
  heard = subst (λ (l : List Mark). IsHeard h l) (sym (mark_in (mark_of m) n)) is;
}

-- the mark of a message, if it leaves one
pub leaves_message : (h : TraceDigest) (n : Noted) (m : Incoming) (left : Option MarkRef) → Leaves h (marks_in n) (received m (marks_in n)) left
    → Leaves h (marks_in n) (marks_in (with_message m n)) left
leaves_message h n m left is = subst (λ (l : List Mark). Leaves h (marks_in n) l left) (sym (message_in m n)) is

-- the notes up to one, and that one
pub next_noted : (entries : List LogEntry) (i : ℕ) (e : LogEntry) → i < length entries → e ≡ get_or entries i e
    → all_noted (take (i + 1) entries) nothing_noted ≡ with_entry e (all_noted (take i entries) nothing_noted)
next_noted entries i e within is =
    let next : take (i + 1) entries ≡ take i entries ++ e ∷ [] = grind (arith, common_steps) in
    ap (λ (l : List LogEntry). all_noted l nothing_noted) next ∙ all_push (take i entries) e nothing_noted

-- a mark more is shown last
pub shows_one : (shown new : List MarkRef) (left : Option MarkRef) (m : MarkRef) (marks more : List Mark) → left ≡ Some m
    → new ≡ shown ++ m ∷ [] → map mark_of shown ≡ reverse marks → more ≡ with_ref left marks → map mark_of new ≡ reverse more
shows_one shown new left m marks more left_is new_is shows is =
    ap (map mark_of) new_is
    ∙ map-append mark_of shown (m ∷ [])
    ∙ ap (λ (l : List Mark). l ++ mark_of m ∷ []) shows
    ∙ sym (ap reverse (is ∙ ap (λ (o : Option MarkRef). with_ref o marks) left_is) ∙ reverse-append (mark_of m ∷ []) marks)

-- with none more, the same is shown
pub shows_same : (shown new : List MarkRef) (left : Option MarkRef) (marks more : List Mark) → left ≡ None
    → new ≡ shown → map mark_of shown ≡ reverse marks → more ≡ with_ref left marks → map mark_of new ≡ reverse more
shows_same shown new left marks more left_is new_is shows is =
    ap (map mark_of) new_is ∙ shows ∙ sym (ap reverse (is ∙ ap (λ (o : Option MarkRef). with_ref o marks) left_is))
