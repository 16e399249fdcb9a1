-- What holds of each beginning of a schedule.
use Rattle.std.specs.Prelude.{zero, suc, ◌≡◌, ℕ, List, [], ◌∷◌, ◌++◌, length, drop, map, reverse, refl}
use Rattle.std.proofs.Common.{ap, sym, ◌∙◌}
use Rattle.std.proofs.Math.Seq.{drop-append_seam}
use Rattle.std.proofs.lemmas.List.{append_assoc, drop-map, length-reverse, reverse-append, reverse-reverse}
use Rattle.records.specs.Marks.{Mark, IsBeginning}
use Rattle.schedule.specs.declared.Event.{Event}
use Rattle.schedule.specs.Groups.{Group, marks_of, event_of, schedule_of, EachGroup}
use Rattle.schedule.specs.Laws.{BeginningKeeps}

-- what each group keeps, each of the earlier ones keeps
pub EachGroup-drop : (Keeps : Event → List Mark → List Group → Type 0) (n : ℕ) (groups : List Group) → EachGroup Keeps groups → EachGroup Keeps (drop n groups)
EachGroup-drop Keeps zero groups each = each
EachGroup-drop Keeps (suc n) [] each = tt
EachGroup-drop Keeps (suc n) (g ∷ groups) each = EachGroup-drop Keeps n groups each.1

-- the record of the earlier groups is a beginning of the whole
pub IsBeginning-drop : (n : ℕ) (groups : List Group) → IsBeginning (marks_of (drop n groups)) (marks_of groups)
IsBeginning-drop zero groups = record { later = []; is = refl }
IsBeginning-drop (suc n) [] = record { later = []; is = refl }
IsBeginning-drop (suc n) (g ∷ groups) =
    let sooner : IsBeginning (marks_of (drop n groups)) (marks_of groups) = IsBeginning-drop n groups in
    record {
      later = g.1 ++ sooner.later;
      is = ap (λ marks. g.1 ++ marks) sooner.is ∙ sym (append_assoc g.1 sooner.later (marks_of (drop n groups)));
    }

-- the events of a schedule, newest first
events_reversed : (groups : List Group) (events later : List Event) → schedule_of groups ≡ events ++ later
    → map event_of groups ≡ reverse later ++ reverse events
events_reversed groups events later e =
    sym (reverse-reverse (map event_of groups)) ∙ (ap reverse e ∙ reverse-append events later)

-- the later events dropped, the first ones are left
schedule_of-drop : (groups : List Group) (events later : List Event) → schedule_of groups ≡ events ++ later
    → schedule_of (drop (length later) groups) ≡ events
schedule_of-drop groups events later e =
    ap reverse (sym (drop-map event_of (length later) groups)
    ∙ (ap (drop (length later)) (events_reversed groups events later e)
    ∙ (ap (λ n. drop n (reverse later ++ reverse events)) (sym (length-reverse later))
    ∙ drop-append_seam (reverse later) (reverse events))))
    ∙ reverse-reverse events

-- the groups but for the later ones are those of the beginning
pub beginning_keeps : BeginningKeeps
beginning_keeps policy supply sent drivers groups events later each e = record {
  first = drop (length later) groups;
  schedule = schedule_of-drop groups events later e;
  beginning = IsBeginning-drop (length later) groups;
  keep = EachGroup-drop _ (length later) groups each;
}
