-- Rows of entries in another order, and the maps that they make.
use Rattle.std.proofs.Common.{◌≡◌, ◌≢◌, ◌⊎◌, ◌<◌, ◌-◌, ℕ, Bool, true, refl, sym, ap, ◌∙◌, arith, subst}
use mathlib.Core.Logic.{inl, inr}
use Rattle.std.specs.Prelude.{None, Some, Option, T}
use Rattle.std.specs.Ordering.{eq_by_cmp}
use Rattle.std.specs.FinMap.Entries.{is_sorted, is_sorted-where_key}
use Rattle.std.proofs.lemmas.Bool.{cases_eq, cases_Bool, cond-true, cond-false}
use Rattle.lemmas.proofs.Options.{some_same}
use Rattle.lemmas.proofs.Bools.{to_T}
use Rattle.tree.specs.Names.{Name, Names, name_cmp, inode_of, with_name, without_name}
use Rattle.tree.proofs.Names.{inode_of-with_name, sorted-with_name, same_names}
use Rattle.tree.proofs.Entries.{gone_name, other_name}
use Rattle.volume.proofs.Entries.{collected, found_entry, entry_found, sorted, same_by_cmp, cmp_itself, cmp_apart}

-- options that hold the same are one
option_same : (x y : Option ℕ) → ((n : ℕ) → x ≡ Some n → y ≡ Some n) → ((n : ℕ) → y ≡ Some n → x ≡ Some n) → x ≡ y
option_same None None a b = refl
option_same (Some n) y a b = sym (a n refl)
option_same None (Some n) a b = b n refl

-- maps that lead names to the same inodes are one
same_answers : (es fs : Names) → T (is_sorted name_cmp es) → T (is_sorted name_cmp fs) → ((q : Name) (y : ℕ) → inode_of es q ≡ Some y → inode_of fs q ≡ Some y)
    → ((q : Name) (y : ℕ) → inode_of fs q ≡ Some y → inode_of es q ≡ Some y) → es ≡ fs
same_answers es fs s t there back = same_names es fs s t (λ q. option_same (inode_of es q) (inode_of fs q) (there q) (back q))

-- names are one or differ
same_or_not : (q name : Name) → (q ≡ name) ⊎ (q ≢ name)
same_or_not q name = elim (cases_Bool (eq_by_cmp name_cmp q name)) [
  | inl e ↦ inl (same_by_cmp q name e)
  | inr out ↦ inr (λ e. let is = ap (λ x. eq_by_cmp name_cmp x name) e ∙ cmp_itself name in absurd (cc))
]

-- what a map without a name leads to
without_some : (es : Names) (name q : Name) (y : ℕ) → inode_of (without_name es name) q ≡ Some y → (q ≢ name) × (inode_of es q ≡ Some y)
without_some es name q y is =
    let apart : q ≢ name = (λ e. let none = ap (inode_of (without_name es name)) e ∙ gone_name es name in absurd (cc)) in
    (apart, sym (other_name es name q (cmp_apart name q (λ e. apart (sym e)))) ∙ is)

some_without : (es : Names) (name q : Name) (y : ℕ) → q ≢ name → inode_of es q ≡ Some y → inode_of (without_name es name) q ≡ Some y
some_without es name q y apart is = other_name es name q (cmp_apart name q (λ e. apart (sym e))) ∙ is

-- and one with a name
some_here : (es : Names) (name : Name) (x : ℕ) → inode_of (with_name es name x) name ≡ Some x
some_here es name x = inode_of-with_name es name x name ∙ cond-true _ (Some x) (inode_of es name) (cmp_itself name)

some_other : (es : Names) (name q : Name) (x y : ℕ) → q ≢ name → inode_of es q ≡ Some y → inode_of (with_name es name x) q ≡ Some y
some_other es name q x y apart is = inode_of-with_name es name x q ∙ cond-false _ (Some x) (inode_of es q) (cmp_apart q name apart) ∙ is

other_some : (es : Names) (name q : Name) (x y : ℕ) → q ≢ name → inode_of (with_name es name x) q ≡ Some y → inode_of es q ≡ Some y
other_some es name q x y apart is = sym (inode_of-with_name es name x q ∙ cond-false _ (Some x) (inode_of es q) (cmp_apart q name apart)) ∙ is

-- different entries have different names
abbrev pub Apart : (ℕ → Name) → ℕ → Type 0
Apart a m = (c d : ℕ) → c < d → d < m → a c ≢ a d

pub apart_either : (a : ℕ → Name) (m c d : ℕ) → Apart a m → c < m → d < m → c ≢ d → a c ≢ a d
apart_either a m c d apart lc ld differ = elim (Rattle.std.proofs.lemmas.Bool.cases_lt c d) [
  | inl less ↦ apart c d less ld
  | inr more ↦ λ e. apart d c (omega arith) lc (sym e)
]

-- an entry is what its name leads to
pub leads : (a : ℕ → Name) (t : ℕ → ℕ) (m d y : ℕ) (q : Name) → Apart a m → d < m → a d ≡ q → t d ≡ y → inode_of (collected a t m) q ≡ Some y
leads a t m d y q apart low name target = ap (inode_of (collected a t m)) (sym name) ∙ entry_found a t m d apart low ∙ ap (λ x. Some x) target

pub sorted_T : (a : ℕ → Name) (t : ℕ → ℕ) (m : ℕ) → T (is_sorted name_cmp (collected a t m))
sorted_T a t m = to_T _ (sorted a t m)

without_T : (es : Names) (name : Name) → T (is_sorted name_cmp es) → T (is_sorted name_cmp (without_name es name))
without_T es name s = is_sorted-where_key name_cmp _ es s

module _ (a b : ℕ → Name) (t u : ℕ → ℕ) (m e : ℕ) (apart : Apart a m) (low : e < m) where
  abbrev old : Names
  old = collected a t m

  module _ (here : e < m - 1 → (b e ≡ a (m - 1)) × (u e ≡ t (m - 1))) (others : (d : ℕ) → d < m - 1 → d ≢ e → (b d ≡ a d) × (u d ≡ t d)) where
    -- where an entry stood before
    record Source (d : ℕ) : Type 0 where
      place : ℕ
      below : place < m
      other : place ≢ e
      name : b d ≡ a place
      target : u d ≡ t place
      is : ((d ≡ e) × (place ≡ m - 1)) ⊎ ((d ≢ e) × (place ≡ d))

    source : (d : ℕ) → d < m - 1 → Source d
    source d under = elim (cases_eq d e) [
      | inl same ↦
          let at = here (omega arith) in
          record { place = m - 1; below = omega arith; other = λ x. absurd (omega arith); name = ap b same ∙ at.0; target = ap u same ∙ at.1; is = inl (same, refl) }
      | inr differ ↦
          let at = others d under differ in
          record { place = d; below = omega arith; other = differ; name = at.0; target = at.1; is = inr (differ, refl) }
    ]

    places_differ : (c d x y : ℕ) → c < d → d < m - 1 → ((c ≡ e) × (x ≡ m - 1)) ⊎ ((c ≢ e) × (x ≡ c)) → ((d ≡ e) × (y ≡ m - 1)) ⊎ ((d ≢ e) × (y ≡ d)) → x ≢ y
    places_differ c d x y less under (inl p) (inl q) = λ z. absurd (let p0 = p.0 in let q0 = q.0 in omega arith)
    places_differ c d x y less under (inl p) (inr q) = λ z. absurd (let p1 = p.1 in let q1 = q.1 in omega arith)
    places_differ c d x y less under (inr p) (inl q) = λ z. absurd (let p1 = p.1 in let q1 = q.1 in omega arith)
    places_differ c d x y less under (inr p) (inr q) = λ z. absurd (let p1 = p.1 in let q1 = q.1 in omega arith)

    pub removed_apart : Apart b (m - 1)
    removed_apart c d less under same =
        let x = source c (omega arith) in
        let y = source d under in
        apart_either a m x.place y.place apart x.below y.below (places_differ c d x.place y.place less under x.is y.is) (sym x.name ∙ same ∙ y.name)

    pub removed_map : collected b u (m - 1) ≡ without_name old (a e)
    removed_map = same_answers (collected b u (m - 1)) (without_name old (a e)) (sorted_T b u (m - 1)) (without_T old (a e) (sorted_T a t m))
        (λ q y is.
        let f = found_entry b u (m - 1) q y is in
        let s = source f.0 f.1 in
        let name : a s.place ≡ q = sym s.name ∙ f.2 in
        some_without old (a e) q y (λ z. apart_either a m s.place e apart s.below low s.other (name ∙ z)) (leads a t m s.place y q apart s.below name (sym s.target ∙ f.3)))
        (λ q y is.
        let w = without_some old (a e) q y is in
        let f = found_entry a t m q y w.1 in
        let c : ℕ = f.0 in
        let under : c < m = f.1 in
        let name : a c ≡ q = f.2 in
        let target : t c ≡ y = f.3 in
        let other : c ≢ e = (λ z. w.0 (sym name ∙ ap a z)) in
        elim (cases_eq c (m - 1)) [
          | inl last ↦ let at = here (omega arith) in leads b u (m - 1) e y q removed_apart (omega arith) (at.0 ∙ ap a (sym last) ∙ name) (at.1 ∙ ap t (sym last) ∙ target)
          | inr before ↦ let at = others c (omega arith) other in leads b u (m - 1) c y q removed_apart (omega arith) (at.0 ∙ name) (at.1 ∙ target)
        ])

  module _ (name : Name) (x : ℕ) (fresh : (d : ℕ) → d < m → d ≢ e → a d ≢ name) (here : (b e ≡ name) × (u e ≡ x)) (others : (d : ℕ) → d < m → d ≢ e → (b d ≡ a d) × (u d ≡ t d)) where
    pub replaced_apart : Apart b m
    replaced_apart c d less under same = elim (cases_eq c e) [
      | inl c_e ↦ let far : d ≢ e = (λ z. absurd (omega arith)) in fresh d under far (sym (others d under far).0 ∙ sym same ∙ ap b c_e ∙ here.0)
      | inr c_far ↦ elim (cases_eq d e) [
        | inl d_e ↦ fresh c (omega arith) c_far (sym (others c (omega arith) c_far).0 ∙ same ∙ ap b d_e ∙ here.0)
        | inr d_far ↦ apart c d less under (sym (others c (omega arith) c_far).0 ∙ same ∙ (others d under d_far).0)
      ]
    ]

    abbrev left : Names
    left = without_name old (a e)

    pub replaced_map : collected b u m ≡ with_name left name x
    replaced_map = same_answers (collected b u m) (with_name left name x) (sorted_T b u m) (sorted-with_name left name x (without_T old (a e) (sorted_T a t m)))
        (λ q y is.
        let f = found_entry b u m q y is in
        let d : ℕ = f.0 in
        let under : d < m = f.1 in
        let named : b d ≡ q = f.2 in
        let target : u d ≡ y = f.3 in
        elim (cases_eq d e) [
          | inl same ↦ ap (inode_of (with_name left name x)) (sym named ∙ ap b same ∙ here.0) ∙ some_here left name x ∙ ap (λ z. Some z) (sym here.1 ∙ ap u (sym same) ∙ target)
          | inr far ↦
              let at = others d under far in
              let was : a d ≡ q = sym at.0 ∙ named in
              some_other left name q x y (λ z. fresh d under far (was ∙ z))
              (some_without old (a e) q y (λ z. apart_either a m d e apart under low far (was ∙ z)) (leads a t m d y q apart under was (sym at.1 ∙ target)))
        ])
        (λ q y is. elim (same_or_not q name) [
          | inl same ↦
              let value : x ≡ y = some_same x y (sym (some_here left name x) ∙ ap (inode_of (with_name left name x)) (sym same) ∙ is) in
              leads b u m e y q replaced_apart low (here.0 ∙ sym same) (here.1 ∙ value)
          | inr differ ↦
              let w = without_some old (a e) q y (other_some left name q x y differ is) in
              let f = found_entry a t m q y w.1 in
              let c : ℕ = f.0 in
              let under : c < m = f.1 in
              let named : a c ≡ q = f.2 in
              let target : t c ≡ y = f.3 in
              let far : c ≢ e = (λ z. w.0 (sym named ∙ ap a z)) in
              let at = others c under far in
              leads b u m c y q replaced_apart under (at.0 ∙ named) (at.1 ∙ target)
        ])

-- a name put over itself is a name replaced
pub with_over : (es : Names) (name : Name) (x : ℕ) → T (is_sorted name_cmp es) → with_name (without_name es name) name x ≡ with_name es name x
with_over es name x s = same_answers (with_name (without_name es name) name x) (with_name es name x) (sorted-with_name _ name x (without_T es name s)) (sorted-with_name es name x s)
    (λ q y is. elim (same_or_not q name) [
      | inl same ↦ ap (inode_of (with_name es name x)) same ∙ some_here es name x ∙ sym (some_here (without_name es name) name x) ∙ ap (inode_of (with_name (without_name es name) name x)) (sym same) ∙ is
      | inr differ ↦ some_other es name q x y differ (without_some es name q y (other_some (without_name es name) name q x y differ is)).1
    ])
    (λ q y is. elim (same_or_not q name) [
      | inl same ↦ ap (inode_of (with_name (without_name es name) name x)) same ∙ some_here (without_name es name) name x ∙ sym (some_here es name x) ∙ ap (inode_of (with_name es name x)) (sym same) ∙ is
      | inr differ ↦ some_other (without_name es name) name q x y differ (some_without es name q y differ (other_some es name q x y differ is))
    ])

-- a name put before another is taken away
pub put_then_drop : (es : Names) (old new : Name) (x : ℕ) → T (is_sorted name_cmp es) → new ≢ old → without_name (with_name es new x) old ≡ with_name (without_name es old) new x
put_then_drop es old new x s differ = same_answers (without_name (with_name es new x) old) (with_name (without_name es old) new x)
    (without_T (with_name es new x) old (sorted-with_name es new x s)) (sorted-with_name _ new x (without_T es old s))
    (λ q y is.
    let w = without_some (with_name es new x) old q y is in
    elim (same_or_not q new) [
      | inl same ↦ ap (inode_of (with_name (without_name es old) new x)) same ∙ some_here (without_name es old) new x ∙ sym (some_here es new x) ∙ ap (inode_of (with_name es new x)) (sym same) ∙ w.1
      | inr apart ↦ some_other (without_name es old) new q x y apart (some_without es old q y w.0 (other_some es new q x y apart w.1))
    ])
    (λ q y is. elim (same_or_not q new) [
      | inl same ↦
          some_without (with_name es new x) old q y (λ z. differ (sym same ∙ z))
          (ap (inode_of (with_name es new x)) same ∙ some_here es new x ∙ sym (some_here (without_name es old) new x) ∙ ap (inode_of (with_name (without_name es old) new x)) (sym same) ∙ is)
      | inr apart ↦
          let w = without_some es old q y (other_some (without_name es old) new q x y apart is) in
          some_without (with_name es new x) old q y w.0 (some_other es new q x y apart w.1)
    ])
