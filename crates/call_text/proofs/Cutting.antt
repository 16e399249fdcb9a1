-- The first separator of a text, as a search finds it.
use Rattle.std.proofs.Common.{◌≡◌, ℕ, ◌+◌, ◌<◌, ◌≤◌, List, [], ◌∷◌, take, drop, length, true, false, sym, ◌∙◌, arith, ◌==◌}
use Rattle.std.proofs.lemmas.Bool.{eqb-true, eq-eqb, ne_eqb}
use Rattle.std.proofs.lemmas.List.Elements.{All-from_get_or}
use Rattle.std.proofs.lemmas.List.Splits.{slice_split_none}
use Rattle.memchr.specs.Find.{IsFirstByte, NoneBefore, Nowhere, Passes, is_byte}
use Rattle.call_text.specs.Words.{parts_of}
use Rattle.call_text.proofs.Reading.{parts_at}

-- it was found: the first part ends there
pub parts_found : (separator : ℕ) (text : List ℕ) (i : ℕ) → NoneBefore (Passes (is_byte separator) text) 0 (length text) i
    → Passes (is_byte separator) text i → parts_of separator text ≡ take i text ∷ parts_of separator (drop (i + 1) text)
parts_found separator text i first here =
    parts_at separator text i first.high (eqb-true _ _ here) (λ k less same. first.before k (omega arith) less (eq-eqb _ _ same))

-- it wasn't: the text is its one part
pub parts_none : (separator : ℕ) (text : List ℕ) → Nowhere (Passes (is_byte separator) text) 0 (length text)
    → parts_of separator text ≡ text ∷ []
parts_none separator text none = slice_split_none (λ b. b == separator) text
    (All-from_get_or (λ b. (b == separator) ≡ false) text 0
    (λ i within. ne_eqb _ _ (λ same. none i (omega arith) within (eq-eqb _ _ same))))
