-- Pieces of a volume's range.
use Rattle.std.proofs.Common.{◌≡◌, ◌⊎◌, ℕ, ◌+◌, ◌-◌, ◌<◌, ◌≤◌, List, [], ◌∷◌, ◌++◌, length, refl, subst, inl, inr, arith}
use Rattle.std.specs.Prelude.{slice_index}
use Rattle.volume_reading.specs.Pieces.{Piece, HasBytes, HaveBytes, IsIn}

-- a place of the pieces has its byte
pub bytes_of_in : (P : ℕ → ℕ → Type 0) (ps : List Piece) (place : ℕ) → HaveBytes P ps → IsIn ps place → (b : ℕ) × P place b
bytes_of_in P [] place h i = absurd i
bytes_of_in P (p ∷ ps) place h i = elim i [
  | inl w ↦
      let k = place - p.start in
      let at : p.start + k ≡ place = omega (arith, w.0) in
      (slice_index p.bytes k, subst (λ (n : ℕ). P n (slice_index p.bytes k)) at (h.0 k (omega (arith, w.0, w.1))))
  | inr w ↦ bytes_of_in P ps place h.1 w
]

-- what holds of each byte in two ways holds in a third
pub have_both : (P R Q : ℕ → ℕ → Type 0) (ps : List Piece) → HaveBytes P ps → HaveBytes R ps → ((k b : ℕ) → P k b → R k b → Q k b) → HaveBytes Q ps
have_both P R Q [] h j f = tt
have_both P R Q (p ∷ ps) h j f =
    (λ k lt. f (p.start + k) (slice_index p.bytes k) (h.0 k lt) (j.0 k lt), have_both P R Q ps h.1 j.1 f)

-- what holds of each byte of the pieces' places
pub have_in : (P Q : ℕ → ℕ → Type 0) (ps : List Piece) → HaveBytes P ps → ((k b : ℕ) → IsIn ps k → P k b → Q k b) → HaveBytes Q ps
have_in P Q [] h f = tt
have_in P Q (p ∷ ps) h f = (
  λ k lt. f (p.start + k) (slice_index p.bytes k) (inl (omega arith, omega (arith, lt))) (h.0 k lt),
  have_in P Q ps h.1 (λ k b i. f k b (inr i)),
)

-- of each byte
pub have_map : (P Q : ℕ → ℕ → Type 0) (ps : List Piece) → HaveBytes P ps → ((k b : ℕ) → P k b → Q k b) → HaveBytes Q ps
have_map P Q ps h f = have_in P Q ps h (λ k b i. f k b)

-- and of one more piece
pub have_more : (P : ℕ → ℕ → Type 0) (ps : List Piece) (p : Piece) → HaveBytes P ps → HasBytes P p → HaveBytes P (ps ++ p ∷ [])
have_more P [] p h j = (j, tt)
have_more P (q ∷ ps) p h j = (h.0, have_more P ps p h.1 j)

-- where the last of them ends
abbrev pub ends_at : ℕ → List Piece → ℕ
ends_at from [] = from
ends_at from (p ∷ ps) = ends_at (p.start + length p.bytes) ps

pub ends_more : (from : ℕ) (ps : List Piece) (p : Piece) → ends_at from (ps ++ p ∷ []) ≡ p.start + length p.bytes
ends_more from [] p = refl
ends_more from (q ∷ ps) p = ends_more (q.start + length q.bytes) ps p

-- a place of one more piece is one of the others, or its own
pub in_more : (ps : List Piece) (p : Piece) (place : ℕ) → IsIn (ps ++ p ∷ []) place
    → IsIn ps place ⊎ ((p.start ≤ place) × (place < p.start + length p.bytes))
in_more [] p place i = elim i [
  | inl h ↦ inr h
  | inr h ↦ absurd h
]
in_more (q ∷ ps) p place i = elim i [
  | inl h ↦ inl (inl h)
  | inr h ↦ elim (in_more ps p place h) [
    | inl k ↦ inl (inr k)
    | inr k ↦ inr k
  ]
]
