-- Maps whose bits are set one after the other.
use Rattle.std.proofs.Common.{◌≡◌, ◌≢◌, ◌<◌, ◌≤◌, ◌+◌, ◌*◌, ◌/◌, ◌%◌, ◌^◌, ℕ, List, length, set, slice_index}
use Rattle.std.proofs.Common.{Bool, true, false, refl, sym, ap, ◌∙◌, arith}
use mathlib.Core.Logic.{inl, inr}
use Rattle.std.specs.Prelude.{◌==◌, ◌&&◌, ◌||◌, nat_lt}
use Rattle.std.specs.Int.{w8}
use Rattle.std.specs.Int.RustNames.{bit_or}
use Rattle.std.proofs.Math.Bool.{and-false}
use Rattle.std.proofs.lemmas.Bool.{cases_eq, cases_lt, eq-eqb, ne_eqb, lt-ltb, le-ltb}
use Rattle.std.proofs.lemmas.List.{length-set, get_or-set_same, get_or-set_other}
use Rattle.std.proofs.lemmas.Nat.Bits.{bit_at_set_same, bit_at_set_other}
use Rattle.migrate.specs.Tables.{Marks, map_of}

-- one bit is set
pub bit_marked : (block bit new : ℕ) (xs : List ℕ) → 1024 * block + bit / 8 < length xs
    → new ≡ bit_or (slice_index xs (1024 * block + bit / 8)) (1 * 2 ^ (bit % 8) % 2 ^ 8)
    → Marks block (λ b. b == bit) bit xs (set xs (1024 * block + bit / 8) new)
bit_marked block bit new xs inside is =
    let at = 1024 * block + bit / 8 in
    let ys = set xs at new in
    let there : slice_index ys at ≡ new = get_or-set_same xs at new 0 inside in
    let old = slice_index xs at in
    record {
      size = length-set xs at new;
      bits = λ b. elim (cases_eq b bit) [
        | inl e ↦
            ap (map_of ys block) e ∙ ap (λ x. x / 2 ^ (bit % 8) % 2 == 1) (there ∙ is)
            ∙ ap (λ x. x == 1) (bit_at_set_same w8 old (bit % 8) (omega arith))
            ∙ sym (ap (λ c. c || map_of xs block b) (eq-eqb b bit e))
        | inr d ↦ other b d ∙ sym (ap (λ c. c || map_of xs block b) (ne_eqb b bit d))
      ];
      before = λ p low. get_or-set_other xs at p new 0 (λ e. absurd (omega arith));
      behind = λ p high. get_or-set_other xs at p new 0 (λ e. absurd (omega arith));
    }
  where
    other : (b : ℕ) → b ≢ bit → map_of (set xs (1024 * block + bit / 8) new) block b ≡ map_of xs block b
    other b d = elim (cases_eq (1024 * block + b / 8) (1024 * block + bit / 8)) [
      | inr far ↦ ap (λ x. x / 2 ^ (b % 8) % 2 == 1) (get_or-set_other xs (1024 * block + bit / 8) (1024 * block + b / 8) new 0 far)
      | inl near ↦
          let at = 1024 * block + bit / 8 in
          let apart : b % 8 ≢ bit % 8 = λ e. d (omega arith) in
          ap (λ p. slice_index (set xs at new) p / 2 ^ (b % 8) % 2 == 1) near
          ∙ ap (λ x. x / 2 ^ (b % 8) % 2 == 1) (get_or-set_same xs at new 0 inside ∙ is)
          ∙ ap (λ x. x == 1) (bit_at_set_other w8 (slice_index xs at) (bit % 8) (omega arith) (b % 8) apart)
          ∙ sym (ap (λ p. slice_index xs p / 2 ^ (b % 8) % 2 == 1) near)
    ]

-- those of a set below a number
abbrev pub below : (ℕ → Bool) → ℕ → ℕ → Bool
below s n k = nat_lt k n && s k

-- the first bit says nothing
pub none_marked : (block last : ℕ) (s : ℕ → Bool) (xs : List ℕ) → s 0 ≡ false → Marks block (below s 1) last xs xs
none_marked block last s xs first = record {
  size = refl;
  bits = λ b. elim (cases_lt b 1) [
    | inl low ↦
        let zero_is : b ≡ 0 = omega arith in
        let out : below s 1 b ≡ false = ap (below s 1) zero_is ∙ first in
        sym (ap (λ c. c || map_of xs block b) out)
    | inr high ↦ sym (ap (λ c. (c && s b) || map_of xs block b) (le-ltb b 1 high))
  ];
  before = λ p low. refl;
  behind = λ p high. refl;
}

-- the same set by another name
pub marked_as : (block last : ℕ) (s u : ℕ → Bool) (xs ys : List ℕ) → ((k : ℕ) → u k ≡ s k) → Marks block s last xs ys
    → Marks block u last xs ys
marked_as block last s u xs ys same m = record {
  size = m.size;
  bits = λ b. m.bits b ∙ sym (ap (λ c. c || map_of xs block b) (same b));
  before = m.before;
  behind = m.behind;
}

-- one number more that isn't in it
next_out : (s : ℕ → Bool) (n k : ℕ) → s n ≡ false → below s (n + 1) k ≡ below s n k
next_out s n k out = elim (cases_lt k n) [
  | inl low ↦ ap (λ c. c && s k) (lt-ltb k (n + 1) (omega arith) ∙ sym (lt-ltb k n low))
  | inr high ↦ elim (cases_eq k n) [
    | inl e ↦ (λ i. nat_lt k (n + 1) && (ap s e ∙ out) i) ∙ and-false (nat_lt k (n + 1)) ∙ sym (ap (λ c. c && s k) (le-ltb k n high))
    | inr d ↦ ap (λ c. c && s k) (le-ltb k (n + 1) (omega arith) ∙ sym (le-ltb k n high))
  ]
]

-- and one that is
next_in : (s : ℕ → Bool) (n k : ℕ) → s n ≡ true → below s (n + 1) k ≡ ((k == n) || below s n k)
next_in s n k is = elim (cases_eq k n) [
  | inl e ↦
      (λ i. lt-ltb k (n + 1) (omega arith) i && (ap s e ∙ is) i) ∙ sym (ap (λ c. c || below s n k) (eq-eqb k n e))
  | inr d ↦ elim (cases_lt k n) [
    | inl low ↦
        ap (λ c. c && s k) (lt-ltb k (n + 1) (omega arith) ∙ sym (lt-ltb k n low)) ∙ sym (ap (λ c. c || below s n k) (ne_eqb k n d))
    | inr high ↦
        ap (λ c. c && s k) (le-ltb k (n + 1) (omega arith) ∙ sym (le-ltb k n high)) ∙ sym (ap (λ c. c || below s n k) (ne_eqb k n d))
  ]
]

module _ (block last n : ℕ) (s : ℕ → Bool) (xs ys : List ℕ) (m : Marks block (below s n) last xs ys) where
  -- it isn't marked
  pub skip_marked : s n ≡ false → Marks block (below s (n + 1)) last xs ys
  skip_marked out = marked_as block last (below s n) (below s (n + 1)) xs ys (λ k. next_out s n k out) m

  -- it is
  pub next_marked : (zs : List ℕ) → s n ≡ true → n ≤ last → Marks block (λ b. b == n) n ys zs → Marks block (below s (n + 1)) last xs zs
  next_marked zs is most t = record {
    size = t.size ∙ m.size;
    bits = λ b. t.bits b ∙ ap (λ c. (b == n) || c) (m.bits b) ∙ group (b == n) (below s n b) (map_of xs block b)
        ∙ sym (ap (λ c. c || map_of xs block b) (next_in s n b is));
    before = λ p low. t.before p low ∙ m.before p low;
    behind = λ p high. t.behind p (omega arith) ∙ m.behind p high;
  }
    where
      group : (a b c : Bool) → (a || (b || c)) ≡ ((a || b) || c)
      group true b c = refl
      group false b c = refl

  -- all are
  pub all_marked : ((k : ℕ) → s k ≡ true → k < n) → Marks block s last xs ys
  all_marked few = marked_as block last (below s n) s xs ys (λ k. sym (whole (s k) k refl)) m
    where
      whole : (c : Bool) (k : ℕ) → s k ≡ c → below s n k ≡ s k
      whole true k e = ap (λ b. b && s k) (lt-ltb k n (few k e))
      whole false k e = (λ i. nat_lt k n && e i) ∙ and-false (nat_lt k n) ∙ sym e
