-- From the marks that a transcript lends to its text and to the status.
use Rattle.std.proofs.Common.{◌≡◌, ℕ, ◌<◌, List, [], ◌∷◌, ◌++◌, Bool, length, reverse, map, refl, sym, ap, ◌∙◌, subst, arith, length-append}
use Rattle.std.specs.Prelude.{Option, ◌||◌}
use Rattle.std.specs.List.{list_any}
use Rattle.std.proofs.lemmas.List.Folds.{flat_map-map}
use Rattle.std.proofs.lemmas.List.Sorted.{IsPermutation-reverse, list_any-IsPermutation}
use Rattle.records.specs.Marks.{Mark, Started, Answered, Flush, GaveUp, Took, Issued, Fault, gave_up}
use Rattle.output.specs.declared.OutputRefusal.TheVariants.{OutOfMemory}
use Rattle.schedule.specs.Headline.{Transcript}
use Rattle.schedule_text.specs.Events.{line_event}
use Rattle.schedule_text.specs.declared.line.Line.{Line}
use Rattle.schedule_text.proofs.Events.{event_kept}
use Rattle.reply_text.specs.declared.mark.MarkRef.{MarkRef}
use Rattle.reply_text.specs.TranscriptText.{mark_line, mark_of, marks_text, transcript_text, unanswered_text}
use Rattle.reply_text.proofs.Lines.{nothing_written, unanswered_some}
use Rattle.simulation.specs.Inputs.{HasEvent, HasSchedule}
use Rattle.simulation.specs.Shown.{Shows, is_giving_up, output_text}
use Rattle.simulation.specs.Simulated.{IsRefusedAs, ShowsRun, text_of}
use Rattle.simulation.specs.declared.inputs.File.{File}
use Rattle.simulation.specs.declared.show.SimulationStatus.{SimulationStatus}

-- the text of marks that stand elsewhere is that of the marks
same_text : (shown : List MarkRef) (t : Transcript) → map mark_of shown ≡ reverse t.marks → transcript_text mark_of shown t.unanswered ≡ text_of t
same_text shown t are =
    ap (λ l. l ++ unanswered_text t.unanswered) (sym (flat_map-map mark_line mark_of shown) ∙ ap (marks_text (λ m. m)) are)

-- a test of marks that stand elsewhere is one of the marks
any_of_shown : (shown : List MarkRef) → list_any (λ m. is_giving_up (mark_of m)) shown ≡ list_any is_giving_up (map mark_of shown)
any_of_shown [] = refl
any_of_shown (m ∷ shown) = ap (λ b. is_giving_up (mark_of m) || b) (any_of_shown shown)

-- the device was given up where some mark says so
some_giving_up : (marks : List Mark) → list_any is_giving_up marks ≡ gave_up marks
some_giving_up [] = refl
some_giving_up (GaveUp ∷ marks) = refl
some_giving_up (Started e ∷ marks) = some_giving_up marks
some_giving_up (Answered r ∷ marks) = some_giving_up marks
some_giving_up (Flush ∷ marks) = some_giving_up marks
some_giving_up (Took who now call answer ∷ marks) = some_giving_up marks
some_giving_up (Issued r to ∷ marks) = some_giving_up marks
some_giving_up (Fault e cause ∷ marks) = some_giving_up marks

-- what is shown says whether the device was given up
same_giving_up : (shown : List MarkRef) (t : Transcript) → map mark_of shown ≡ reverse t.marks → list_any (λ m. is_giving_up (mark_of m)) shown ≡ gave_up t.marks
same_giving_up shown t are =
    any_of_shown shown ∙ ap (list_any is_giving_up) are
    ∙ sym (list_any-IsPermutation is_giving_up t.marks (reverse t.marks) (IsPermutation-reverse t.marks)) ∙ some_giving_up t.marks

module _ (t : Transcript) (status : SimulationStatus) (out_old out_new err_old err_new : Option (List ℕ)) where
  -- the lent marks were shown
  pub run_is_shown : (shown : List MarkRef) → map mark_of shown ≡ reverse t.marks
      → Shows (transcript_text mark_of shown t.unanswered) (list_any (λ m. is_giving_up (mark_of m)) shown) status out_old out_new err_old err_new
      → ShowsRun t status out_old out_new err_old err_new
  run_is_shown shown are shows =
      subst (λ (b : Bool). Shows (text_of t) b status out_old out_new err_old err_new) (same_giving_up shown t are)
      (subst (λ (l : List ℕ). Shows l (list_any (λ m. is_giving_up (mark_of m)) shown) status out_old out_new err_old err_new) (same_text shown t are) shows)

-- there was no memory for the marks: nothing of the text went out
pub run_is_not_shown : (t : Transcript) (status : SimulationStatus) (out err_old err_new : Option (List ℕ)) → IsRefusedAs (output_text OutOfMemory) status err_old err_new
    → ShowsRun t status out out err_old err_new
run_is_not_shown t status out err_old err_new (told, is, tells) =
    let some : 0 < length (text_of t) =
    omega (arith, length-append (marks_text (λ (m : Mark). m) (reverse t.marks)) (unanswered_text t.unanswered), unanswered_some t.unanswered) in
    subst (λ (s : SimulationStatus). ShowsRun t s out out err_old err_new) (sym is) (nothing_written out (text_of t) some, (OutOfMemory, tells))

-- a schedule of some lines has an event
pub has_an_event : (file : File) (lines : List Line) → HasSchedule file (map line_event lines) → 0 < length lines → HasEvent file
has_an_event file lines (text, read, says) some = (text, read, event_kept text.now lines says some)
