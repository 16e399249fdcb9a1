-- What holds after any number of steps between two takings.
use Rattle.std.proofs.Common.{◌≡◌, ℕ, ◌+◌, ◌*◌, ◌/◌, List, [], ◌∷◌, length, false, sym, subst, ◌∙◌, ap, arith}
use Rattle.media.specs.Contents.{IsWhole}
use Rattle.changes.specs.Units.{is_marked, marked, with_marks}
use Rattle.changes.proofs.Marking.{off_again, still_marks}
use Rattle.changes.proofs.Taking.{taken_is_all}
use Rattle.changes.proofs.UnitBytes.{stays_unchanged}
use Rattle.changes.specs.Units.{unit_of}
use Rattle.std.specs.List.{concat}
use Rattle.shared_media.specs.Marking.{ConfinedState, MarksChanges, EachMarks, AgreesOn, TakenAfterSteps, MarkedAgain, unmarked}

joined : (a b c : ConfinedState) → MarksChanges a b → MarksChanges b c → MarksChanges a c
joined a b c p q = record {
  number = q.number ∙ p.number;
  same = λ n off. q.same n off ∙ p.same n (q.still (n / 8) off);
  still = λ n off. p.still n (q.still n off);
}

together : (first : ConfinedState) (between : List ConfinedState) (last : ConfinedState) → EachMarks first between last → MarksChanges first last
together first [] last each = each
together first (next ∷ rest) last each = joined first next last each.0 (together next rest last each.1)

-- a unit that isn't marked is as it was
same_unit : (first last : ConfinedState) → IsWhole first.media.sectors → IsWhole last.media.sectors → MarksChanges first last
    → (n : ℕ) → is_marked last.marks n ≡ false → unit_of (concat last.media.sectors) n ≡ unit_of (concat first.media.sectors) n
same_unit first last whole whole' marks n off =
    stays_unchanged first.media.sectors last.media.sectors n whole.each whole'.each marks.number
    (λ k less. let place : n ≡ (8 * n + k) / 8 = omega arith in
    marks.same (8 * n + k) (subst (λ (u : ℕ). is_marked last.marks u ≡ false) place off))

pub agrees_on : AgreesOn
agrees_on first between last contents whole whole' each agrees n off =
    let marks : MarksChanges first last = together first between last each in
    agrees n (marks.still n off) ∙ sym (same_unit first last whole whole' marks n off)

pub taken_after_steps : TakenAfterSteps
taken_after_steps first between last contents changes whole whole' each agrees taken =
    taken_is_all last.marks (concat last.media.sectors) changes contents taken (agrees_on first between last contents whole whole' each agrees)

pub marked_again : MarkedAgain
marked_again first between last contents changes whole whole' agrees taken long each long' n off =
    let marks : MarksChanges (unmarked first) last = together (unmarked first) between last each in
    let now : is_marked (with_marks last.marks (marked first.marks)) n ≡ false =
    subst (λ (ns : List ℕ). is_marked (with_marks last.marks ns) n ≡ false) taken.numbers off in
    let here : is_marked last.marks n ≡ false = still_marks (marked first.marks) last.marks n now in
    let same : length first.marks ≡ length last.marks = long ∙ ap (λ k. (k + 7) / 8) (sym marks.number) ∙ sym long' in
    agrees n (off_again first.marks last.marks n same now) ∙ sym (same_unit (unmarked first) last whole whole' marks n here)
