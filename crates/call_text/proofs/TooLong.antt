-- Calls of too many words.
use Rattle.std.proofs.Common.{◌≡◌, ℕ, ◌<◌, List, [], ◌∷◌, length, ap, ◌∙◌, arith, None}
use Rattle.call_text.specs.Words.{words_of}
use Rattle.call_text.specs.Calls.{call_of}
use Rattle.call_text.proofs.Reading.{some_part}

-- no call has more than three words behind its name
too_many : (words more : List (List ℕ)) (name a b c : List ℕ) → words ≡ name ∷ a ∷ b ∷ c ∷ more → 0 < length more → call_of words ≡ None
too_many words [] name a b c is some = absurd (omega arith)
too_many words (d ∷ more) name a b c is some = ap call_of is

-- a line whose fourth word isn't the last behind the name
pub line_too_long : (line rest last after name a b c : List ℕ) → words_of line ≡ name ∷ words_of rest → words_of rest ≡ a ∷ words_of last → words_of last ≡ b ∷ words_of after
    → (end : List ℕ) → words_of after ≡ c ∷ words_of end → call_of (words_of line) ≡ None
line_too_long line rest last after name a b c h k m end n =
    too_many (words_of line) (words_of end) name a b c (h ∙ ap (λ l. name ∷ l) (k ∙ ap (λ l. a ∷ l) (m ∙ ap (λ l. b ∷ l) n))) (some_part 32 end)
