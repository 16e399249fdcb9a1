-- The record of a service, and the numbers of its sessions, as contracts see them.
use Rattle.std.proofs.Common.{◌≡◌, ℕ, ◌<◌, List, [], ◌∷◌, ◌++◌, true, false, refl, sym, ◌∙◌, ap, append_assoc}
use Rattle.records.specs.Marks.{Mark, IsBeginning}
use Rattle.tree.specs.Tree.{most_sessions}
use Rattle.board.specs.View.{is_used}
use Rattle.board.specs.declared.counting.parameters.ServiceParameters.{Ghosts}
use Rattle.board.specs.declared.counting.keeper.Keeper.{Keeper}

-- the whole record
abbrev pub record_of : {N : Type 0} {g : Ghosts N} → Keeper N g → List Mark
record_of k = k.seat.view.seen

-- the numbers that sessions have
abbrev pub numbers_of : {N : Type 0} {g : Ghosts N} → Keeper N g → List ℕ
numbers_of k = k.seat.view.used

-- the least number that no session has, and one that a session may have
pub record IsLowestFree (number : ℕ) (used : List ℕ) : Type 0 where
  pub low : number < most_sessions
  pub free : is_used number used ≡ false
  pub lowest : (n : ℕ) → n < number → is_used n used ≡ true

-- each number that a session may have is that of one
abbrev pub AreAllUsed : List ℕ → Type 0
AreAllUsed used = (n : ℕ) → n < 64 → is_used n used ≡ true

-- one of them is free
abbrev pub IsOneFree : List ℕ → Type 0
IsOneFree used = (n : ℕ) × (n < 64) × (is_used n used ≡ false)

-- one of them is that of a session
abbrev pub IsOneUsed : List ℕ → Type 0
IsOneUsed used = (n : ℕ) × (n < 64) × (is_used n used ≡ true)

-- each of them is free
abbrev pub AreAllFree : List ℕ → Type 0
AreAllFree used = (n : ℕ) → n < 64 → is_used n used ≡ false

-- a record is a beginning of itself
abbrev pub begins_itself : (marks : List Mark) → IsBeginning marks marks
begins_itself marks = record { later = []; is = refl }

-- and of itself with a mark more
abbrev pub begins_before : (m : Mark) (marks more : List Mark) → more ≡ m ∷ marks → IsBeginning marks more
begins_before m marks more is = record { later = m ∷ []; is = is }

-- and of what is the same
abbrev pub begins_same : (marks more : List Mark) → more ≡ marks → IsBeginning marks more
begins_same marks more is = record { later = []; is = is }

-- and a beginning's beginning is one
abbrev pub begins_further : (first next last : List Mark) → IsBeginning first next → IsBeginning next last → IsBeginning first last
begins_further first next last a b = record {
  later = b.later ++ a.later;
  is = b.is ∙ ap (λ (l : List Mark). b.later ++ l) a.is ∙ sym (append_assoc b.later a.later first);
}

-- numbers that stay, and stay further, stay
abbrev pub stays_further : (first next last : List ℕ) → next ≡ first → last ≡ next → last ≡ first
stays_further first next last a b = b ∙ a
