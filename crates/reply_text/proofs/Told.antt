-- The lines of outcomes.
use Rattle.std.proofs.Common.{◌≡◌, ℕ, List, [], ◌∷◌, ◌++◌, map, get_or, None, refl, ap, ◌∙◌}
use Rattle.std.proofs.Math.ListN.{get_or-map}
use Rattle.tree.specs.declared.Outcome.{Outcome}
use Rattle.tree.specs.declared.Outcome.TheVariants.{Reply, Cut}
use Rattle.tree.specs.Answers.{Answer}
use Rattle.std.specs.Prelude.{Option}
use Rattle.reply_text.specs.Text.{outcome_text}
use Rattle.reply_text.specs.Told.{told_of, told_text}
use Rattle.reply_text.specs.Answers.{line_text}

-- the text of what is told of an outcome is its text
text_told : (outcome : Outcome) → told_text (told_of outcome) ≡ outcome_text outcome
text_told (Reply reply) = refl
text_told Cut = refl

-- the line of what is told of the one at a place
pub line_told : (outcomes : List Outcome) (at : ℕ) (told : Option Answer) → told ≡ get_or (map told_of outcomes) at None
    → told_text told ++ 10 ∷ [] ≡ line_text (get_or outcomes at Cut)
line_told outcomes at told is =
    ap (λ (t : Option Answer). told_text t ++ 10 ∷ []) (is ∙ get_or-map told_of outcomes at Cut)
    ∙ ap (λ (text : List ℕ). text ++ 10 ∷ []) (text_told (get_or outcomes at Cut))
