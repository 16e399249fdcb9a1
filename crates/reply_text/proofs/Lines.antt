-- The lines of marks, one after the other.
use Rattle.std.proofs.Common.{◌≡◌, ℕ, ◌+◌, ◌<◌, get_or, List, [], ◌∷◌, ◌++◌, length, take, drop, refl, sym, ap, ◌∙◌}
use Rattle.std.proofs.Common.{append_assoc, append-nil, length-append, arith}
use Rattle.std.proofs.lemmas.Grind.{common_steps}
use Rattle.std.proofs.lemmas.List.{take-append-drop, flat_map_more}
use Rattle.std.proofs.lemmas.List.Concat.{flat_map-append}
use Rattle.std.specs.Prelude.{Option, Some, None, codes, decimal}
use Rattle.std.specs.Io.KnownBytes.{Appends}
use Rattle.output.specs.Output.{AppendsPart}
use Rattle.records.specs.Marks.{Mark}
use Rattle.reply_text.specs.TranscriptText.{mark_line, mark_text, marks_text, unanswered_text}

-- the line of one
abbrev line_of : {M : Type 0} → (M → Mark) → M → List ℕ
line_of mark m = mark_line (mark m)

-- the text so far and a line
pub text_next : {M : Type 0} (mark : M → Mark) (marks : List M) (i : ℕ) (m : M) → i < length marks → m ≡ get_or marks i m
    → marks_text mark (take (i + 1) marks) ≡ marks_text mark (take i marks) ++ mark_line (mark m)
text_next mark marks i m within is =
    let next : take (i + 1) marks ≡ take i marks ++ m ∷ [] = grind (arith, common_steps) in
    ap (marks_text mark) next ∙ sym (flat_map_more (line_of mark) [] (take i marks) m)

-- the text is that so far, a line and the rest
pub text_split : {M : Type 0} (mark : M → Mark) (marks : List M) (i : ℕ) (m : M) → i < length marks → m ≡ get_or marks i m
    → marks_text mark marks ≡ marks_text mark (take i marks) ++ (mark_line (mark m) ++ marks_text mark (drop (i + 1) marks))
text_split mark marks i m within is =
    ap (marks_text mark) (sym (take-append-drop (i + 1) marks))
    ∙ flat_map-append (line_of mark) (take (i + 1) marks) (drop (i + 1) marks)
    ∙ ap (λ t. t ++ marks_text mark (drop (i + 1) marks)) (text_next mark marks i m within is)
    ∙ append_assoc (marks_text mark (take i marks)) (mark_line (mark m)) (marks_text mark (drop (i + 1) marks))

-- what went out before a line is a part of the text
pub part_before : {M : Type 0} (mark : M → Mark) (a b : Option (List ℕ)) (marks : List M) (i : ℕ) (m : M) → i < length marks
    → m ≡ get_or marks i m → Appends a b (marks_text mark (take i marks)) → AppendsPart a b (marks_text mark marks)
part_before mark a b marks i m within is h = (
  marks_text mark (take i marks),
  mark_line (mark m) ++ marks_text mark (drop (i + 1) marks),
  text_split mark marks i m within is,
  omega (arith, length-append (mark_line (mark m)) (marks_text mark (drop (i + 1) marks)), length-append (mark_text (mark m)) (codes "\n")),
  h,
)

-- nothing that was written is a part of any text that isn't empty
pub nothing_written : (a : Option (List ℕ)) (text : List ℕ) → 0 < length text → AppendsPart a a text
nothing_written None text some = ([], text, refl, some, tt)
nothing_written (Some xs) text some = ([], text, refl, some, sym (append-nil xs))

-- the last line isn't empty
pub unanswered_some : (unanswered : ℕ) → 0 < length (unanswered_text unanswered)
unanswered_some unanswered = omega (arith, length-append (codes "unanswered ") (decimal unanswered ++ codes "\n"))
