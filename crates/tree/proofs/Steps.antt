-- The steps of a do block, and what a value that was found tells.
use Rattle.std.proofs.Common.{◌≡◌, ℕ, Bool, true, false, refl, sym, ap, ◌∙◌}
use Rattle.std.specs.Prelude.{Option, None, Some, Result, Ok, Err}
use Rattle.layout.specs.declared.Geometry.{Geometry}
use Rattle.errno.specs.declared.Errno.{Errno}
use Rattle.errno.specs.declared.Errno.TheVariants.{EBADF}
use Rattle.tree.specs.Tree.{OpenFile, Tree}
use Rattle.tree.specs.IsTree.{IsTree}
use Rattle.tree.specs.Refusals.{◌>>=◌, refuse_if, or_refuse}
use Rattle.tree.specs.Changes.{open_file_of}
use Rattle.tree.specs.Answers.{Effect}
use Rattle.lemmas.proofs.Maps.{not_nothing}

-- the tree that an effect leaves
abbrev pub tree_after : Tree → Effect → Tree
tree_after t o = elim o [ Ok made ↦ made.1 | Err e ↦ t ]

-- the value of a result, if any
abbrev pub taken : {A : Type 0} → Result A Errno → Option A
taken (Ok x) = Some x
taken (Err e) = None

-- a refusal is no success
pub not_refused : {A : Type 0} (e : Errno) (x : A) → Err e ≡ Ok x → ⊥
not_refused e x h = not_nothing x (ap taken h)

-- a value that may be missing, back
pub taken_or_refuse : {A : Type 0} (o : Option A) (e : Errno) → taken (or_refuse o e) ≡ o
taken_or_refuse None e = refl
taken_or_refuse (Some x) e = refl

-- a value that was found was there
pub was_there : {A : Type 0} (o : Option A) (e : Errno) (x : A) → or_refuse o e ≡ Ok x → o ≡ Some x
was_there o e x h = sym (taken_or_refuse o e) ∙ ap taken h

-- a refusal that was passed
pub passed : (b : Bool) (e : Errno) (x : ℕ) → refuse_if b e ≡ Ok x → b ≡ false
passed true e x h = absurd (not_nothing x (ap taken h))
passed false e x h = refl

-- what keeps the tree at each value keeps it after a step
pub step : {A : Type 0} (g : Geometry) (t : Tree) (r : Result A Errno) (f : A → Effect) → IsTree g t
    → ((x : A) → r ≡ Ok x → IsTree g (tree_after t (f x))) → IsTree g (tree_after t (r >>= f))
step g t (Ok x) f base h = h x refl
step g t (Err e) f base h = base

-- the values at which two steps both succeed
pub both_steps : {A B : Type 0} (r : Result A Errno) (f : A → Result B Errno) (y : B) → (r >>= f) ≡ Ok y → (x : A) × (r ≡ Ok x) × (f x ≡ Ok y)
both_steps (Ok x) f y h = (x, refl, h)
both_steps (Err e) f y h = absurd (not_refused e y h)

-- a result has one value
pub ok_is : {A : Type 0} (x y : A) (e : Result A Errno) → e ≡ Ok x → e ≡ Ok y → x ≡ y
ok_is {A} x y e p q = ap (λ r. elim r [ Ok z ↦ z | Err _ ↦ x ]) (sym p ∙ q)

-- what a descriptor that is open leads to
pub record IsOpened (t : Tree) (session fd : ℕ) (found : ℕ × OpenFile) : Type 0 where
  pub descriptor : t.descriptors session fd ≡ Some found.0
  pub file : t.open_files found.0 ≡ Some found.1

-- a descriptor that was looked up
pub is_opened : (t : Tree) (session fd : ℕ) (found : ℕ × OpenFile) → open_file_of t session fd ≡ Ok found → IsOpened t session fd found
is_opened t session fd found h =
    let first = both_steps (or_refuse (t.descriptors session fd) EBADF) (λ k. or_refuse (t.open_files k) EBADF >>= λ o. Ok (k, o)) found h in
    let second = both_steps (or_refuse (t.open_files first.0) EBADF) (λ o. Ok (first.0, o)) found first.2 in
    let k = was_there (t.descriptors session fd) EBADF first.0 first.1 in
    let o = was_there (t.open_files first.0) EBADF second.0 second.1 in
    let same : (first.0, second.0) ≡ found = ok_is (first.0, second.0) found (Ok (first.0, second.0)) refl second.2 in
    record {
      descriptor = k ∙ ap (λ x. Some x.0) same;
      file = ap t.open_files (sym (ap (λ x. x.0) same)) ∙ o ∙ ap (λ x. Some x.1) same;
    }
