-- Slots as they are made.
use Rattle.std.proofs.Common.{◌≡◌, ℕ, zero, suc, ◌++◌, List, [], ◌∷◌, refl, sym, ap, subst, ◌∙◌, Some, None}
use Rattle.std.specs.Prelude.{slice_get}
use Rattle.std.proofs.lemmas.Bool.{cond-false}
use Rattle.cache.specs.declared.slot.Slot.{Slot}
use Rattle.cache.specs.declared.state.State.TheVariants.{Clean}
use Rattle.cache.specs.Slots.{is_number, held, AllFree, IsDistinct}

-- there are none at first
pub free_none : AllFree []
free_none = record { each = λ i s h. cc; clean = λ i s h. cc }

-- one more
pub free_more : (items : List Slot) (t : Slot) → AllFree items → t.block ≡ None → t.state ≡ Clean → AllFree (items ++ t ∷ [])
free_more items t h k c = record {
  each = λ i s. at (λ (x : Slot). x.block ≡ None) items k i s h.each;
  clean = λ i s. at (λ (x : Slot). x.state ≡ Clean) items c i s h.clean;
}
  where
    at : (P : Slot → Type 0) (xs : List Slot) → P t → (i : ℕ) (s : Slot) → ((j : ℕ) (u : Slot) → slice_get xs j ≡ Some u → P u)
        → slice_get (xs ++ t ∷ []) i ≡ Some s → P s
    at P [] p zero s f e = let same : t ≡ s = cc in subst P same p
    at P [] p (suc i) s f e = absurd (let q : ⊥ = cc in q)
    at P (x ∷ xs) p zero s f e = f zero s e
    at P (x ∷ xs) p (suc i) s f e = at P xs p i s (λ j u is. f (suc j) u is) e

-- no block has a slot then
pub free_held : (items : List Slot) (b : ℕ) → AllFree items → held items b ≡ None
free_held items b h = by items h.each
  where
    by : (xs : List Slot) → ((j : ℕ) (u : Slot) → slice_get xs j ≡ Some u → u.block ≡ None) → held xs b ≡ None
    by [] f = refl
    by (x ∷ xs) f =
        let none : is_number x.block b ≡ is_number None b = ap (λ o. is_number o b) (f zero x refl) in
        cond-false (is_number x.block b) (Some x) (held xs b) none ∙ by xs (λ j u is. f (suc j) u is)

-- nor has one two
pub free_distinct : (items : List Slot) → AllFree items → IsDistinct items
free_distinct items h = record {
  same = λ i j b s t hs ht bs bt.
      let z : None ≡ Some b = sym (h.each i s hs) ∙ bs in
      absurd (let y : ⊥ = cc in y);
}
