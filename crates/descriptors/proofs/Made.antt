-- A new table.
use Rattle.std.proofs.Common.{◌≡◌, ◌<◌, ◌≤◌, ℕ, List, [], length, get_or, replicate, Option, None, sym, ap, subst, ◌∙◌, arith, inl, inr}
use Rattle.std.specs.Prelude.{is_some}
use Rattle.std.proofs.lemmas.Bool.{cases_lt}
use Rattle.std.proofs.lemmas.List.{get_or-replicate, get_or_past, length-replicate}
use Rattle.lemmas.proofs.Bools.{false_not_true}
use Rattle.tree.specs.Tree.{OpenFile, most_sessions, most_descriptors, most_open_files}
use Rattle.lemmas.proofs.Maps.{not_nothing}
use Rattle.descriptors.specs.Made.{no_files}
use Rattle.descriptors.specs.Table.{Table, IsTable, session_at, opened_at, number_at, files_of}
use Rattle.descriptors.proofs.Tables.{nothing, none_at, same_files}

-- a row without numbers
abbrev no_numbers : List (Option ℕ)
no_numbers = replicate most_descriptors None

-- a table without open files
abbrev empty_table : Table
empty_table = record { opened = replicate most_open_files None; sessions = replicate most_sessions no_numbers }

-- its rows
row_is : (s : ℕ) → s < most_sessions → session_at empty_table s ≡ no_numbers
row_is s l = get_or-replicate most_sessions s no_numbers [] l

-- no descriptor leads anywhere
nowhere : (s fd : ℕ) → number_at empty_table s fd ≡ None
nowhere s fd = elim (cases_lt s most_sessions) [
  | inl l ↦ ap (λ (row : List (Option ℕ)). get_or row fd None) (row_is s l) ∙ none_at most_descriptors fd
  | inr l ↦ ap (λ (row : List (Option ℕ)). get_or row fd None) (past s l)
] where
  past : (s : ℕ) → most_sessions ≤ s → session_at empty_table s ≡ []
  past s l = let len : length (replicate most_sessions no_numbers) ≡ most_sessions = length-replicate most_sessions no_numbers in
      get_or_past (replicate most_sessions no_numbers) s [] (omega (arith, l, len))

-- nothing is open
no_file : (k : ℕ) → opened_at empty_table k ≡ None
no_file k = none_at most_open_files k

-- it is a table
is_table : IsTable empty_table
is_table = record {
  files = length-replicate most_open_files (nothing {X = OpenFile});
  sessions = length-replicate most_sessions no_numbers;
  each = λ s l. ap length (row_is s l) ∙ length-replicate most_descriptors (nothing {X = ℕ});
  leads = λ s fd k e. absurd (not_nothing k (sym (nowhere s fd) ∙ e));
  own = λ s r fd gd k e f. absurd (not_nothing k (sym (nowhere s fd) ∙ e));
  in_use = λ k h. absurd (false_not_true (sym (ap is_some (no_file k)) ∙ h));
  positions = λ k o e. absurd (not_nothing o (sym (no_file k) ∙ e));
}

-- a table by its lists
abbrev table : List (Option OpenFile) → List (List (Option ℕ)) → Table
table opened sessions = record { opened = opened; sessions = sessions }

-- as it is made
pub made_table : (opened : List (Option OpenFile)) (sessions : List (List (Option ℕ))) → opened ≡ replicate most_open_files None → sessions ≡ replicate most_sessions (replicate most_descriptors None)
    → IsTable (table opened sessions)
made_table opened sessions e f = subst (λ (os : List (Option OpenFile)). IsTable (table os sessions)) (sym e)
    (subst (λ (ss : List (List (Option ℕ))). IsTable (table (replicate most_open_files None) ss)) (sym f) is_table)

-- and what is open then
pub made_files : (opened : List (Option OpenFile)) (sessions : List (List (Option ℕ))) → opened ≡ replicate most_open_files None → sessions ≡ replicate most_sessions (replicate most_descriptors None)
    → files_of (table opened sessions) ≡ no_files
made_files opened sessions e f = (λ i. files_of (table (e i) (f i))) ∙ same_files _ _ no_file nowhere
