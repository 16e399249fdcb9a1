-- What stands behind a path.
use Rattle.std.proofs.Common.{◌≡◌, ◌<◌, ◌+◌, ℕ, zero, suc, Bool, true, false, List, [], ◌∷◌, ◌++◌, length, take, drop, slice_index_or, refl, sym, subst}
use Rattle.std.proofs.Common.{ap, ◌∙◌, arith, if◌then◌else◌, ◌||◌, inl, inr}
use Rattle.std.specs.Prelude.{◌==◌}
use Rattle.std.proofs.lemmas.Bool.Decides.{eqb_tells}
use Rattle.std.proofs.lemmas.List.{append_cancel_left}
use Rattle.ninep_fids.specs.Paths.{IsElsewhere, is_rest, has_byte, parent}

pub rest_of_none : (xs : List ℕ) → length xs ≡ 0 → is_rest xs ≡ true
rest_of_none [] h = refl
rest_of_none (x ∷ xs) h = absurd (omega (arith, h))

pub rest_of_some : (xs : List ℕ) (d : ℕ) → 0 < length xs → is_rest xs ≡ (slice_index_or xs 0 d == 47)
rest_of_some [] d h = absurd (omega (arith, h))
rest_of_some (x ∷ xs) d h = refl

-- where what is behind a path can't be, the other path is elsewhere
pub elsewhere : (old path rest : List ℕ) → path ≡ old ++ rest → is_rest rest ≡ false → IsElsewhere old path
elsewhere old path rest e not_rest other is f =
    let same : rest ≡ other = append_cancel_left old rest other (sym e ∙ f) in
    let clash : false ≡ true = sym not_rest ∙ ap is_rest same ∙ is in
    cc

-- a path without a slash is its own directory's
pub no_parent : (path : List ℕ) → has_byte path 47 ≡ false → parent path ≡ path
no_parent [] none = refl
no_parent (c ∷ path) none = either (c == 47) (has_byte path 47) none where
  either : (b d : Bool) → b || d ≡ false → (if d then c ∷ parent path else if b then [] else c ∷ path) ≡ c ∷ path
  either true d h = absurd (no h) where
    no : true ≡ false → ⊥
    no e = cc
  either false true h = absurd (no h) where
    no : true ≡ false → ⊥
    no e = cc
  either false false h = refl

has_at : (path : List ℕ) (i : ℕ) → i < length path → slice_index_or path i 0 ≡ 47 → has_byte path 47 ≡ true
has_at [] i less is = absurd (omega (arith, less))
has_at (c ∷ path) zero less is = subst (λ (x : ℕ). (x == 47) || has_byte path 47 ≡ true) (sym is) refl
has_at (c ∷ path) (suc i) less is = either (c == 47) (has_byte path 47) (has_at path i (omega (arith, less)) is) where
  either : (b d : Bool) → d ≡ true → b || d ≡ true
  either true d h = refl
  either false d h = h

-- a path up to its last slash
pub parent_at : (path : List ℕ) (i : ℕ) → i < length path → slice_index_or path i 0 ≡ 47 → has_byte (drop (i + 1) path) 47 ≡ false
    → parent path ≡ take i path
parent_at [] i less is none = absurd (omega (arith, less))
parent_at (c ∷ path) zero less is none = rw (none, is) refl
parent_at (c ∷ path) (suc i) less is none =
    let shorter : i < length path = omega (arith, less) in
    let e : suc i + 1 ≡ suc (i + 1) = omega arith in
    let behind : has_byte (drop (i + 1) path) 47 ≡ false = subst (λ (m : ℕ). has_byte (drop m (c ∷ path)) 47 ≡ false) e none in
    rw (has_at path i shorter is) (ap (λ (x : List ℕ). c ∷ x) (parent_at path i shorter is behind))

-- one byte more that is no slash
pub none_behind : (path : List ℕ) (i : ℕ) → i < length path → ¬ (slice_index_or path i 0 ≡ 47) → has_byte (drop (i + 1) path) 47 ≡ false
    → has_byte (drop i path) 47 ≡ false
none_behind [] i less other none = absurd (omega (arith, less))
none_behind (c ∷ path) zero less other none = elim (eqb_tells c 47) [
  | inl same ↦ absurd (other same.1)
  | inr differ ↦ rw differ.0 none
]
none_behind (c ∷ path) (suc i) less other none =
    let e : suc i + 1 ≡ suc (i + 1) = omega arith in
    let behind : has_byte (drop (i + 1) path) 47 ≡ false = subst (λ (m : ℕ). has_byte (drop m (c ∷ path)) 47 ≡ false) e none in
    none_behind path i (omega (arith, less)) other behind
