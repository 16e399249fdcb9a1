-- Reading lines, one after the other.
use Rattle.std.proofs.Common.{◌≡◌, ◌≢◌, ℕ, ◌+◌, ◌<◌, ◌≤◌, get_or, List, [], ◌∷◌, ◌++◌, length, take, drop, true, false, refl, sym, ap, ◌∙◌, append_assoc, arith, Option, Some, None, Result, Ok, Err, ◌==◌, subst}
use Rattle.std.specs.Prelude.{⊤, Bool, cond}
use Rattle.std.proofs.lemmas.Grind.{common_steps}
use Rattle.std.specs.List.{position_or_len}
use Rattle.std.proofs.lemmas.Bool.{eq-eqb, ne_eqb}
use Rattle.std.proofs.lemmas.Bool.Decides.{nat_tests}
use Rattle.std.proofs.lemmas.List.Splits.{slice_split_first, length-slice_split}
use Rattle.std.proofs.lemmas.List.Sums.{position_or_len_is}
use Rattle.call_text.specs.Words.{parts_of, words_of, lines_of}
use Rattle.call_text.specs.Lines.{said_before, said_by_lines, has_first}

-- the first part ends at the first separator
pub parts_at : (separator : ℕ) (text : List ℕ) (i : ℕ) → i < length text → get_or text i 0 ≡ separator → ((k : ℕ) → k < i → get_or text k 0 ≢ separator)
    → parts_of separator text ≡ take i text ∷ parts_of separator (drop (i + 1) text)
parts_at separator text i inside here before =
    let place : position_or_len (λ b. b == separator) text ≡ i = position_or_len_is (λ b. b == separator) text i 0 (omega arith) (λ k less. ne_eqb _ _ (before k less)) (λ less. eq-eqb _ _ here) in
    subst (λ n. parts_of separator text ≡ take n text ∷ parts_of separator (drop (n + 1) text)) place (slice_split_first (λ b. b == separator) text 0 (omega arith))

-- a text has one part at least
pub some_part : (separator : ℕ) (text : List ℕ) → 0 < length (parts_of separator text)
some_part separator text = omega (arith, length-slice_split (λ b. b == separator) text)

-- what was said so far, before what the lines after it say
abbrev pub said_after : {A : Type 0} → List A → Result (List A) ℕ → Result (List A) ℕ
said_after done (Ok later) = Ok (done ++ later)
said_after done (Err bad) = Err bad

pub said_after-nil : {A : Type 0} (r : Result (List A) ℕ) → said_after [] r ≡ r
said_after-nil (Ok later) = refl
said_after-nil (Err bad) = refl

said_after-more : {A : Type 0} (done : List A) (said : A) (number : ℕ) (r : Result (List A) ℕ)
    → said_after done (said_before (Some said) number r) ≡ said_after (done ++ said ∷ []) r
said_after-more done said number (Ok later) = ap Ok (sym (append_assoc done (said ∷ []) later))
said_after-more done said number (Err bad) = refl

lines_of-line : {A : Type 0} (said : ℕ → List ℕ → Option A) (number : ℕ) (line : List ℕ) (lines : List (List ℕ)) → 0 < length lines
    → said_by_lines said number (line ∷ lines) ≡ said_before (said number line) number (said_by_lines said (number + 1) lines)
lines_of-line said number line [] some = absurd (omega arith)
lines_of-line said number line (next ∷ more) some = refl

-- nothing is said by no bytes
pub said_by-end : {A : Type 0} (said : ℕ → List ℕ → Option A) (number : ℕ) (rest : List ℕ) → length rest ≡ 0 → said_by_lines said number (lines_of rest) ≡ Ok []
said_by-end said number [] none = refl
said_by-end said number (b ∷ rest) none = absurd (omega arith)

-- the bytes after the last newline are a bad line
pub said_by-unended : {A : Type 0} (said : ℕ → List ℕ → Option A) (number : ℕ) (rest : List ℕ) → 0 < length rest → lines_of rest ≡ rest ∷ []
    → said_by_lines said number (lines_of rest) ≡ Err number
said_by-unended said number rest some one =
    ap (said_by_lines said number) one ∙ ap (λ t. cond t (Ok []) (Err number)) (ne_eqb (length rest) 0 (λ e. absurd (omega arith)))

-- a line that was read
pub lines_go_on : {A : Type 0} (said : ℕ → List ℕ → Option A) (all : Result (List A) ℕ) (done : List A) (rest line after : List ℕ) (number : ℕ) (x : A)
    → all ≡ said_after done (said_by_lines said number (lines_of rest)) → lines_of rest ≡ line ∷ lines_of after → said number line ≡ Some x
    → all ≡ said_after (done ++ x ∷ []) (said_by_lines said (number + 1) (lines_of after))
lines_go_on said all done rest line after number x h split is =
    h ∙ ap (λ ls. said_after done (said_by_lines said number ls)) split
    ∙ ap (said_after done) (lines_of-line said number line (lines_of after) (some_part 10 after))
    ∙ ap (λ t. said_after done (said_before t number (said_by_lines said (number + 1) (lines_of after)))) is
    ∙ said_after-more done x number (said_by_lines said (number + 1) (lines_of after))

-- a line that can't be read
pub line_bad : {A : Type 0} (said : ℕ → List ℕ → Option A) (all : Result (List A) ℕ) (done : List A) (rest line after : List ℕ) (number : ℕ)
    → all ≡ said_after done (said_by_lines said number (lines_of rest)) → lines_of rest ≡ line ∷ lines_of after → said number line ≡ None
    → all ≡ Err number
line_bad said all done rest line after number h split is =
    h ∙ ap (λ ls. said_after done (said_by_lines said number ls)) split
    ∙ ap (said_after done) (lines_of-line said number line (lines_of after) (some_part 10 after))
    ∙ ap (λ t. said_after done (said_before t number (said_by_lines said (number + 1) (lines_of after)))) is

-- the first bad line isn't one before this number
abbrev pub IsFrom : {A : Type 0} → ℕ → Result (List A) ℕ → Type 0
IsFrom number (Ok said) = ⊤
IsFrom number (Err bad) = number ≤ bad

from_last : (A : Type 0) (number : ℕ) (b : Bool) → IsFrom {A = A} number (cond b (Ok []) (Err number))
from_last A number true = tt
from_last A number false = omega arith

from_line : {A : Type 0} (number : ℕ) (said : Option A) (later : Result (List A) ℕ) → IsFrom (number + 1) later → IsFrom number (said_before said number later)
from_line number None later h = omega arith
from_line number (Some x) (Ok said) h = tt
from_line number (Some x) (Err bad) h = omega arith

-- no line before the lines' first is their first bad one
pub lines_are_from : {A : Type 0} (said : ℕ → List ℕ → Option A) (number : ℕ) (lines : List (List ℕ)) → IsFrom number (said_by_lines said number lines)
lines_are_from said number [] = omega arith
lines_are_from said number (last ∷ []) = from_last _ number (length last == 0)
lines_are_from said number (line ∷ next ∷ more) = from_line number (said number line) (said_by_lines said (number + 1) (next ∷ more)) (lines_are_from said (number + 1) (next ∷ more))

has_first-more : {A : Type 0} (done : List A) (x : A) (first number : ℕ) (later : Result (List A) ℕ) → first ≤ number → IsFrom (number + 1) later
    → has_first first (said_after (done ++ x ∷ []) later) ≡ true
has_first-more done x first number (Ok said) least h =
    let size : 0 < length ((done ++ x ∷ []) ++ said) = grind (arith, common_steps) in grind (arith, nat_tests)
has_first-more done x first number (Err bad) least h = grind (arith, nat_tests)

-- a line was read, and so the first one
pub has_first_read : {A : Type 0} (said : ℕ → List ℕ → Option A) (all : Result (List A) ℕ) (done : List A) (rest line after : List ℕ) (first number : ℕ) (x : A)
    → all ≡ said_after done (said_by_lines said number (lines_of rest)) → lines_of rest ≡ line ∷ lines_of after → said number line ≡ Some x → first ≤ number
    → has_first first all ≡ true
has_first_read said all done rest line after first number x h split is least =
    ap (has_first first) (lines_go_on said all done rest line after number x h split is)
    ∙ has_first-more done x first number (said_by_lines said (number + 1) (lines_of after)) least (lines_are_from said (number + 1) (lines_of after))
