-- The entries of version 2 by their 16 bytes.
use Rattle.std.proofs.Common.{◌≡◌, ◌≢◌, ◌<◌, ◌≤◌, ◌+◌, ◌*◌, ◌-◌, take, drop, set, get_or, ℕ, List, length, slice_index, sym, ap, ◌∙◌, arith}
use mathlib.Core.Logic.{inl, inr}
use Rattle.std.specs.Prelude.{replicate}
use Rattle.std.proofs.lemmas.List.{length-take, length-drop, length-take-le, get_or-take, get_or-drop, get_or-replicate, get_or_past}
use Rattle.std.proofs.lemmas.List.{length-replicate, length-set, get_or-set_same, get_or-set_other}
use Rattle.std.proofs.lemmas.Bool.{cases_eq, cases_lt}
use Rattle.image.proofs.Texts.{text_is}
use Rattle.fsck.specs.Form.{version_2}
use Rattle.fsck.specs.Nodes.{entry_name}
use Rattle.fsck.specs.Widened.{IsWidened}

module _ (f : ℕ → ℕ) (e : ℕ) (xs : List ℕ) (whole : length xs ≡ 16) (read : (a : ℕ) → a < 16 → slice_index xs a ≡ f (16 * e + a)) where
  -- the field of 14 bytes
  abbrev field : List ℕ
  field = take (length xs - 2) (drop 2 xs)

  -- its length
  fourteen : length field ≡ 14
  fourteen = simp (length-take, length-drop) (omega arith)

  -- a byte of it
  field_byte : (k : ℕ) → k < 14 → get_or field k 0 ≡ f (16 * e + 2 + k)
  field_byte k h =
      let inside : k < length xs - 2 = omega arith in
      let at : 16 * e + (2 + k) ≡ 16 * e + 2 + k = omega arith in
      get_or-take (length xs - 2) (drop 2 xs) k 0 inside ∙ get_or-drop 2 xs k 0 ∙ read (2 + k) (omega arith) ∙ ap f at

  -- the bytes before the first zero are the name
  pub name_found : (n : ℕ) → n < length field → get_or field n 0 ≡ 0 → ((k : ℕ) → k < n → get_or field k 0 ≢ 0)
      → take n field ≡ entry_name version_2 f e
  name_found n h none some =
      let size = fourteen in
      let len : length (take n field) ≡ n = length-take-le n field (omega arith) in
      text_is f 14 (16 * e + 2) (take n field) (omega arith)
      (λ a l. let near : a < n = omega arith in
      (λ z. some a near (field_byte a (omega arith) ∙ z), get_or-take n field a 0 near ∙ field_byte a (omega arith)))
      (λ l. ap (λ m. f (16 * e + 2 + m)) len ∙ sym (field_byte n (omega arith)) ∙ none)

  -- or all are, where none is zero
  pub name_whole : (n : ℕ) → length field ≤ n → ((k : ℕ) → k < n → get_or field k 0 ≢ 0) → field ≡ entry_name version_2 f e
  name_whole n far some =
      let size = fourteen in
      text_is f 14 (16 * e + 2) field (omega arith)
      (λ a l. (λ z. some a (omega arith) (field_byte a (omega arith) ∙ z), field_byte a (omega arith)))
      (λ l. absurd (omega arith))

-- The first n bytes of a name are written behind the number: of 64 bytes these two, two zeros, the name so far, and zeros.
pub record IsWide (raw wide : List ℕ) (n : ℕ) : Type 0 where
  pub size : length wide ≡ 64
  pub low : (k : ℕ) → k < 2 → get_or wide k 0 ≡ get_or raw k 0
  pub gap : (k : ℕ) → 2 ≤ k → k < 4 → get_or wide k 0 ≡ 0
  pub name : (k : ℕ) → k < n → get_or wide (4 + k) 0 ≡ get_or raw (2 + k) 0
  pub rest : (k : ℕ) → n ≤ k → get_or wide (4 + k) 0 ≡ 0

-- a zero is at each place of zeros, and past them
zero_at : (n k : ℕ) → slice_index (replicate n 0) k ≡ 0
zero_at n k = elim (cases_lt k n) [
  | inl low ↦ get_or-replicate n k 0 0 low
  | inr far ↦ let size : length (replicate {A = ℕ} n 0) ≡ n = length-replicate {A = ℕ} n 0 in
      get_or_past (replicate {A = ℕ} n 0) k 0 (omega arith)
]

-- the number is written
pub wide_begins : (raw : List ℕ) → IsWide raw (set (set (replicate 64 0) 0 (get_or raw 0 0)) 1 (get_or raw 1 0)) 0
wide_begins raw =
    let zeros : List ℕ = replicate 64 0 in
    let none : length zeros ≡ 64 = length-replicate {A = ℕ} 64 0 in
    let one : List ℕ = set zeros 0 (get_or raw 0 0) in
    let two : List ℕ = set one 1 (get_or raw 1 0) in
    let size_one : length one ≡ 64 = length-set zeros 0 (get_or raw 0 0) ∙ none in
    let size : length two ≡ 64 = length-set one 1 (get_or raw 1 0) ∙ size_one in
    let other : (k : ℕ) → 2 ≤ k → get_or two k 0 ≡ 0 = λ k far.
    get_or-set_other one 1 k (get_or raw 1 0) 0 (λ e. absurd (omega arith))
    ∙ get_or-set_other zeros 0 k (get_or raw 0 0) 0 (λ e. absurd (omega arith)) ∙ zero_at 64 k in
    record {
      size = size;
      low = λ k h. elim (cases_eq k 0) [
        | inl e ↦
            ap (λ k. get_or two k 0) e ∙ get_or-set_other one 1 0 (get_or raw 1 0) 0 (λ e. absurd (omega arith))
            ∙ get_or-set_same zeros 0 (get_or raw 0 0) 0 (omega arith) ∙ ap (λ k. get_or raw k 0) (sym e)
        | inr d ↦
            let e : k ≡ 1 = omega arith in
            ap (λ k. get_or two k 0) e ∙ get_or-set_same one 1 (get_or raw 1 0) 0 (omega arith) ∙ ap (λ k. get_or raw k 0) (sym e)
      ];
      gap = λ k far h. other k far;
      name = λ k h. absurd (omega arith);
      rest = λ k h. other (4 + k) (omega arith);
    }

-- a byte of the name more
pub wide_more : (raw wide : List ℕ) (n : ℕ) → n < 14 → IsWide raw wide n → IsWide raw (set wide (4 + n) (get_or raw (2 + n) 0)) (n + 1)
wide_more raw wide n few before =
    let byte : ℕ = get_or raw (2 + n) 0 in
    let size = before.size in
    let other : (k : ℕ) → k ≢ 4 + n → get_or (set wide (4 + n) byte) k 0 ≡ get_or wide k 0
    = λ k d. get_or-set_other wide (4 + n) k byte 0 d in
    record {
      size = length-set wide (4 + n) byte ∙ before.size;
      low = λ k h. other k (λ e. absurd (omega arith)) ∙ before.low k h;
      gap = λ k far h. other k (λ e. absurd (omega arith)) ∙ before.gap k far h;
      name = λ k h. elim (cases_eq k n) [
        | inl e ↦ ap (λ k. get_or (set wide (4 + n) byte) (4 + k) 0) e ∙ get_or-set_same wide (4 + n) byte 0 (omega arith)
            ∙ ap (λ k. get_or raw (2 + k) 0) (sym e)
        | inr d ↦ other (4 + k) (λ e. d (omega arith)) ∙ before.name k (omega arith)
      ];
      rest = λ k h. other (4 + k) (λ e. absurd (omega arith)) ∙ before.rest k (omega arith);
    }

-- the whole entry
pub wide_is : (f : ℕ → ℕ) (e : ℕ) (raw wide : List ℕ) → ((a : ℕ) → a < 16 → get_or raw a 0 ≡ f (16 * e + a)) → IsWide raw wide 14
    → IsWidened version_2 f e wide
wide_is f e raw wide read all =
    let at0 : 16 * e + 0 ≡ 16 * e = omega arith in
    let b0 : get_or wide 0 0 ≡ f (16 * e) = all.low 0 (omega arith) ∙ read 0 (omega arith) ∙ ap f at0 in
    let b1 : get_or wide 1 0 ≡ f (16 * e + 1) = all.low 1 (omega arith) ∙ read 1 (omega arith) in
    let b2 : get_or wide 2 0 ≡ 0 = all.gap 2 (omega arith) (omega arith) in
    let b3 : get_or wide 3 0 ≡ 0 = all.gap 3 (omega arith) (omega arith) in
    record {
      size = all.size;
      number = omega (arith, b0, b1, b2, b3);
      name = λ a h. let at : 16 * e + (2 + a) ≡ 16 * e + 2 + a = omega arith in all.name a h ∙ read (2 + a) (omega arith) ∙ ap f at;
      rest = λ a far h. all.rest a far;
    }
