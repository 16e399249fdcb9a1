-- Acts one after the other.
use Rattle.std.specs.Prelude.{◌≡◌, List, [], ◌∷◌, ◌++◌, false, refl}
use Rattle.std.proofs.Common.{ap}
use Rattle.records.specs.Marks.{Mark}
use Rattle.records.specs.Told.{Told, grown, with_told}
use Rattle.records.specs.Acts.{Act, Began, Absorbed, AtLink, Outbox, told_of, with_act, marks_after, has_absorbed, outbox_after, KeepsRules}
use Rattle.records.specs.Area.{Area}
use Rattle.records.specs.Laws.{ActsCompose}

-- the marks after both are those after the later ones
pub marks_after_both : (later acts : List Act) (marks : List Mark) → marks_after (later ++ acts) marks ≡ marks_after later (marks_after acts marks)
marks_after_both [] acts marks = refl
marks_after_both (act ∷ later) acts marks = ap (with_act act) (marks_after_both later acts marks)

-- so is what is owed
pub owed_after_both : (later acts : List Act) (marks : List Mark) (o : Outbox)
    → outbox_after (later ++ acts) marks o ≡ outbox_after later (marks_after acts marks) (outbox_after acts marks o)
owed_after_both [] acts marks o = refl
owed_after_both (act ∷ later) acts marks o = rw (marks_after_both later acts marks, owed_after_both later acts marks o) refl

-- what the link was told is joined
told_of_both : (later acts : List Act) → told_of (later ++ acts) ≡ told_of later ++ told_of acts
told_of_both [] acts = refl
told_of_both (Began r ∷ later) acts = told_of_both later acts
told_of_both (Absorbed message ∷ later) acts = told_of_both later acts
told_of_both (AtLink told ∷ later) acts = ap (λ (ts : List Told). told ∷ ts) (told_of_both later acts)

-- and where both keep the rules, they do together
keep_both : (area : Area) (later acts : List Act) (marks : List Mark) (o : Outbox) → KeepsRules area acts marks o
    → KeepsRules area later (marks_after acts marks) (outbox_after acts marks o) → KeepsRules area (later ++ acts) marks o
keep_both area [] acts marks o first then = first
keep_both area (act ∷ later) acts marks o first then = (
  keep_both area later acts marks o first then.0,
  rw (marks_after_both later acts marks, owed_after_both later acts marks o) then.1,
)

-- all of these together
pub acts_compose : (area : Area) (later acts : List Act) (marks : List Mark) (o : Outbox) → ActsCompose area later acts marks o
acts_compose area later acts marks o = record {
  record_after = marks_after_both later acts marks;
  told = told_of_both later acts;
  owed = owed_after_both later acts marks o;
  keep = keep_both area later acts marks o;
}

-- the marks of what is no handed message are those of what the link was told
pub marks_are_told : (acts : List Act) (marks : List Mark) → has_absorbed acts ≡ false → marks_after acts marks ≡ grown (told_of acts) marks
marks_are_told [] marks none = refl
marks_are_told (Began r ∷ acts) marks none = marks_are_told acts marks none
marks_are_told (Absorbed message ∷ acts) marks none = cc
marks_are_told (AtLink told ∷ acts) marks none = ap (with_told told) (marks_are_told acts marks none)
