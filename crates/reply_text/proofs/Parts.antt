-- Texts one after another.
use Rattle.std.proofs.Common.{◌≡◌, ℕ, ◌+◌, ◌<◌, get_or, List, [], ◌∷◌, ◌++◌, length, take, drop, sym, ap, ◌∙◌}
use Rattle.std.proofs.Common.{append_assoc, arith, length-append}
use Rattle.std.proofs.lemmas.Grind.{common_steps, flat_map-append}
use Rattle.std.proofs.lemmas.List.{take-append-drop, flat_map_more}
use Rattle.std.specs.Prelude.{Option, flat_map}
use Rattle.std.specs.Io.KnownBytes.{Appends}
use Rattle.output.specs.Output.{AppendsPart}

module _ {A : Type 0} (text : A → List ℕ) where
  -- the text so far grows by that of one more
  pub text_next : (items : List A) (i : ℕ) (item : A) → i < length items → item ≡ get_or items i item
      → flat_map text (take (i + 1) items) ≡ flat_map text (take i items) ++ text item
  text_next items i item within is =
      let next : take (i + 1) items ≡ take i items ++ item ∷ [] = grind (arith, common_steps) in
      ap (flat_map text) next ∙ sym (flat_map_more text [] (take i items) item)

  -- the text is that so far, that of one more and the rest
  pub text_split : (items : List A) (i : ℕ) (item : A) → i < length items → item ≡ get_or items i item
      → flat_map text items ≡ flat_map text (take i items) ++ (text item ++ flat_map text (drop (i + 1) items))
  text_split items i item within is =
      ap (flat_map text) (sym (take-append-drop (i + 1) items))
      ∙ flat_map-append text (take (i + 1) items) (drop (i + 1) items)
      ∙ ap (λ t. t ++ flat_map text (drop (i + 1) items)) (text_next items i item within is)
      ∙ append_assoc (flat_map text (take i items)) (text item) (flat_map text (drop (i + 1) items))

  -- what went out before one whose text isn't empty is a part of the text, and its text is left
  pub part_before : (a b : Option (List ℕ)) (items : List A) (i : ℕ) (item : A) → i < length items → item ≡ get_or items i item
      → 0 < length (text item) → Appends a b (flat_map text (take i items)) → AppendsPart a b (flat_map text items)
  part_before a b items i item within is some h = (
    flat_map text (take i items),
    text item ++ flat_map text (drop (i + 1) items),
    text_split items i item within is,
    omega (arith, length-append (text item) (flat_map text (drop (i + 1) items))),
    h,
  )
