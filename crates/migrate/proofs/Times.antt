-- How often a number stands where zones were copied: once, or not at all.
use Rattle.std.proofs.Common.{◌≡◌, ◌≢◌, ◌<◌, ◌≤◌, ◌+◌, ℕ, zero, suc, Bool, refl, sym, ap, ◌∙◌, arith}
use mathlib.Core.Logic.{inl, inr}
use Rattle.std.specs.Prelude.{◌==◌, ◌&&◌, nat_le, nat_lt}
use Rattle.std.proofs.lemmas.Bool.{cases_lt, cases_eq, cases_Bool, and_from, and_left, and_right, le-leb, lt-leb, lt-ltb, le-ltb, eq-eqb}
use Rattle.std.proofs.lemmas.Bool.{ne_eqb}
use Rattle.std.proofs.lemmas.Bool.{cond-true, cond-false}
use Rattle.lemmas.specs.Sums.{sum_below, one_if}
use Rattle.lemmas.proofs.Maps.{same_sum}
use Rattle.volume.specs.declared.Inode.{Inode}
use Rattle.volume.specs.Pieces.{Pieces}
use Rattle.volume.specs.Nodes.{number, word, slot}
use Rattle.volume.proofs.Swapped.{sum_none}
use Rattle.image.specs.Entered.{level_of}
use Rattle.migrate.specs.Pages.{Pages, zones_under}
use Rattle.migrate.specs.Written.{IsCopy, IsMoved}
use Rattle.migrate.proofs.UsedFiles.{passed_in}
use Rattle.migrate.proofs.Under.{HolesStay, none_under}

-- whether a number is one of so many from a first one on
abbrev pub within : ℕ → ℕ → ℕ → Bool
within e c t = nat_le e t && nat_lt t (e + c)

-- it isn't, it is, and it isn't
pub in_low : (e c t : ℕ) → t < e → one_if (within e c t) ≡ 0
in_low e c t h = ap one_if (and_left (nat_le e t) (nat_lt t (e + c)) (lt-leb e t h))

pub in_is : (e c t : ℕ) → e ≤ t → t < e + c → one_if (within e c t) ≡ 1
in_is e c t h l = ap one_if (and_from (nat_le e t) (nat_lt t (e + c)) (le-leb e t h) (lt-ltb t (e + c) l))

pub in_high : (e c t : ℕ) → e + c ≤ t → one_if (within e c t) ≡ 0
in_high e c t h = ap one_if (and_right (nat_le e t) (nat_lt t (e + c)) (le-ltb t (e + c) h))

-- none is one of none
pub in_none : (e c t : ℕ) → c ≡ 0 → one_if (within e c t) ≡ 0
in_none e c t none = elim (cases_lt t e) [
  | inl low ↦ in_low e c t low
  | inr h ↦ in_high e c t (omega arith)
]

-- two parts, one behind the other
two_parts : (e a b t : ℕ) → one_if (within e a t) + one_if (within (e + a) b t) ≡ one_if (within e (a + b) t)
two_parts e a b t = elim (cases_lt t e) [
  | inl low ↦
      let p = in_low e a t low in
      let q = in_low (e + a) b t (omega arith) in
      let r = in_low e (a + b) t low in
      omega arith
  | inr h ↦ elim (cases_lt t (e + a)) [
    | inl l ↦
        let p = in_is e a t h l in
        let q = in_low (e + a) b t l in
        let r = in_is e (a + b) t h (omega arith) in
        omega arith
    | inr m ↦
        let p = in_high e a t m in
        elim (cases_lt t (e + a + b)) [
          | inl l ↦ let q = in_is (e + a) b t m l in let r = in_is e (a + b) t h (omega arith) in omega arith
          | inr n ↦ let q = in_high (e + a) b t n in let r = in_high e (a + b) t (omega arith) in omega arith
        ]
  ]
]

-- any number of parts
pub in_parts : (c : ℕ → ℕ) (e t n : ℕ) → sum_below (λ j. one_if (within (e + sum_below c j) (c j) t)) n
    ≡ one_if (within e (sum_below c n) t)
unfolding sum_below
in_parts c e t zero = sym (in_none e 0 t refl)
in_parts c e t (suc n) = (λ i. in_parts c e t n i + one_if (within (e + sum_below c n) (c n) t)) ∙ two_parts e (sum_below c n) (c n) t

-- one number
in_one : (e t : ℕ) → one_if (e == t) ≡ one_if (within e 1 t)
in_one e t = elim (cases_eq e t) [
  | inl s ↦
      let p : one_if (e == t) ≡ 1 = ap one_if (eq-eqb e t s) in
      let q = in_is e 1 t (omega arith) (omega arith) in
      omega arith
  | inr d ↦
      let p : one_if (e == t) ≡ 0 = ap one_if (ne_eqb e t d) in
      elim (cases_lt t e) [
        | inl low ↦ let q = in_low e 1 t low in omega arith
        | inr h ↦ let q = in_high e 1 t (omega arith) in omega arith
      ]
]

-- how often number t stands at a number of a level and below it
abbrev pub times_below : Pieces → ℕ → ℕ → ℕ → ℕ
times_below w t = zones_under (passed_in (λ z. z == t) w)

module _ (w : Pieces) (t : ℕ) (some : t ≢ 0) where
  -- none stands at a hole and below it
  times_none : (l z : ℕ) → z ≡ 0 → times_below w t l z ≡ 0
  times_none zero z o = ap one_if (ne_eqb z t (λ e. some (sym e ∙ o)))
  times_none (suc l) z o =
      let here : one_if (z == t) ≡ 0 = ap one_if (ne_eqb z t (λ e. some (sym e ∙ o))) in
      let rest = sum_none (λ j. times_below w t l (number w z j)) 256
      (λ j _. times_none l (number w z j) (cond-true (z == 0) 0 _ (eq-eqb z 0 o))) in
      omega arith

  module _ (s : Pages) (stay : HolesStay s) where
    -- a copy has each zone that it takes once, and no other
    pub copy_times : (l e k z : ℕ) → 0 < e → IsCopy s w.zones l e k z → times_below w t l z ≡ one_if (within e (zones_under s l k) t)
    copy_times zero e k z low c = elim (cases_Bool (s.some k)) [
      | inl is ↦
          let one : one_if (s.some k) ≡ 1 = ap one_if is in
          ap (λ a. one_if (a == t)) (c.1 is).0 ∙ in_one e t ∙ ap (λ n. one_if (within e n t)) (sym one)
      | inr out ↦ times_none zero z (c.0 out) ∙ sym (in_none e (zones_under s zero k) t (none_under s stay zero k out))
    ]
    copy_times (suc l) e k z low c = elim (cases_Bool (s.some k)) [
      | inl is ↦
          let there = c.1 is in
          let f : ℕ → ℕ = λ j. zones_under s l (s.below l k j) in
          let at : z ≡ e + sum_below f 256 = there.0 in
          let block : one_if (z == t) ≡ one_if (within (e + sum_below f 256) 1 t)
          = ap (λ a. one_if (a == t)) at ∙ in_one (e + sum_below f 256) t in
          let below : sum_below (λ j. times_below w t l (number w z j)) 256 ≡ one_if (within e (sum_below f 256) t)
          = same_sum _ _ 256 (λ j h.
          ap (times_below w t l) (cond-false (z == 0) 0 (word w z j) (ne_eqb z 0 (λ o. absurd (omega arith))))
          ∙ copy_times l (e + sum_below f j) (s.below l k j) (word w z j) (omega arith) (there.1 j h)) ∙ in_parts f e t 256 in
          let one : one_if (s.some k) ≡ 1 = ap one_if is in
          let both = two_parts e (sum_below f 256) 1 t in
          let turn : sum_below f 256 + 1 ≡ one_if (s.some k) + sum_below f 256 = omega arith in
          let parts : one_if (z == t) + sum_below (λ j. times_below w t l (number w z j)) 256 ≡ one_if (within e (sum_below f 256 + 1) t)
          = omega arith in
          parts ∙ ap (λ n. one_if (within e n t)) turn
      | inr out ↦ times_none (suc l) z (c.0 out) ∙ sym (in_none e (zones_under s (suc l) k) t (none_under s stay (suc l) k out))
    ]

    -- so have the ten numbers of an inode
    pub moved_times : (keys : ℕ → ℕ) (size e : ℕ) (x y : Inode) → 0 < e → IsMoved s keys size w.zones e x y
        → sum_below (λ r. times_below w t (level_of r) (slot y r)) 10
        ≡ one_if (within e (sum_below (λ q. zones_under s (level_of q) (keys q)) 10) t)
    moved_times keys size e x y low m =
        let f : ℕ → ℕ = λ q. zones_under s (level_of q) (keys q) in
        same_sum _ _ 10 (λ r h. copy_times (level_of r) (e + sum_below f r) (keys r) (slot y r) (omega arith) (m.copied r h))
        ∙ in_parts f e t 10
