-- What the calls leave is a table again.
use Rattle.std.proofs.Common.{◌≡◌, ◌≢◌, ◌<◌, ◌≤◌, ℕ, List, [], length, set, get_or, Option, Some, None, sym, ap, subst, ◌∙◌, arith, inl, inr, ◌⊎◌}
use Rattle.std.specs.Prelude.{is_some, IsTrue}
use Rattle.std.proofs.lemmas.Bool.{cases_eq, cases_lt}
use Rattle.std.proofs.lemmas.List.{length-set, get_or_past, get_or-set_same, get_or-set_other}
use Rattle.lemmas.proofs.Bools.{false_not_true}
use Rattle.lemmas.proofs.Options.{some_same}
use Rattle.tree.specs.Tree.{OpenFile, most_sessions, most_descriptors, most_open_files, most_size}
use Rattle.lemmas.proofs.Maps.{not_nothing}
use Rattle.descriptors.specs.Table.{Table, IsTable, session_at, opened_at, number_at}
use Rattle.descriptors.proofs.Tables.{with_number, with_file, number-here, number-beside, number-apart, opened-here, opened-apart}

-- a place of a table and whether it is the changed one
data Place (s fd r gd : ℕ) : Type 0 where
  here : r ≡ s → gd ≡ fd → Place s fd r gd
  beside : r ≡ s → gd ≢ fd → Place s fd r gd
  apart : r ≢ s → Place s fd r gd

-- each place is one of these
place : (s fd r gd : ℕ) → Place s fd r gd
place s fd r gd = elim (cases_eq r s) [
  | inl e ↦ elim (cases_eq gd fd) [ inl f ↦ here e f | inr d ↦ beside e d ]
  | inr d ↦ apart d
]

-- a descriptor that leads somewhere is within its session
pub within : (t : Table) (s fd k : ℕ) → IsTable t → number_at t s fd ≡ Some k → (s < most_sessions) × (fd < most_descriptors)
within t s fd k i e = elim (cases_lt s most_sessions) [
  | inl l ↦ elim (cases_lt fd most_descriptors) [
    | inl m ↦ (l, m)
    | inr m ↦ absurd (not_nothing k (sym (get_or_past (session_at t s) fd None (omega (arith, m, i.each s l))) ∙ e))
  ]
  | inr l ↦
      let gone : session_at t s ≡ [] = get_or_past t.sessions s [] (omega (arith, l, i.sessions)) in
      absurd (not_nothing k (sym (ap (λ (row : List (Option ℕ)). get_or row fd None) gone) ∙ e))
]

-- a number of an open file is below 128
pub below : (t : Table) (k : ℕ) → IsTable t → IsTrue (is_some (opened_at t k)) → k < most_open_files
below t k i h = elim (cases_lt k most_open_files) [
  | inl l ↦ l
  | inr l ↦ absurd (false_not_true (sym (ap is_some (get_or_past t.opened k None (omega (arith, l, i.files)))) ∙ h))
]

-- where an old number stands after a change of one descriptor
abbrev Was : Table → ℕ → ℕ → Option ℕ → ℕ → ℕ → ℕ → Type 0
Was t s fd x r gd j = ((r ≡ s) × (gd ≡ fd) × (x ≡ Some j)) ⊎ (((r ≡ s) → (gd ≢ fd)) × (number_at t r gd ≡ Some j))

-- each number after a change is the new one or was there
was_there : (t : Table) (s fd : ℕ) (x : Option ℕ) → IsTable t → s < most_sessions → fd < most_descriptors → (r gd j : ℕ)
    → number_at (with_number t s fd x) r gd ≡ Some j → Was t s fd x r gd j
was_there t s fd x i l m r gd j e =
    let ls : s < length t.sessions = omega (arith, l, i.sessions) in
    let ms : fd < length (session_at t s) = omega (arith, m, i.each s l) in elim (place s fd r gd) [
      | here p q ↦ inl (p, q, sym (number-here t s fd x ls ms) ∙ ap (λ (n : ℕ). number_at (with_number t s fd x) n fd) (sym p) ∙ ap (number_at (with_number t s fd x) r) (sym q) ∙ e)
      | beside p d ↦ inr (λ z. d, ap (λ (n : ℕ). number_at t n gd) p ∙ sym (number-beside t s fd gd x ls d) ∙ ap (λ (n : ℕ). number_at (with_number t s fd x) n gd) (sym p) ∙ e)
      | apart d ↦ inr (λ p. absurd (d p), sym (number-apart t s r fd gd x d) ∙ e)
    ]

-- and a number that was at another place still is
still_there : (t : Table) (s fd : ℕ) (x : Option ℕ) → IsTable t → s < most_sessions → (r gd j : ℕ) → (r ≡ s → gd ≢ fd)
    → number_at t r gd ≡ Some j → number_at (with_number t s fd x) r gd ≡ Some j
still_there t s fd x i l r gd j d e = elim (cases_eq r s) [
  | inl p ↦
      let ls : s < length t.sessions = omega (arith, l, i.sessions) in
      ap (λ (n : ℕ). number_at (with_number t s fd x) n gd) p ∙ number-beside t s fd gd x ls (d p) ∙ ap (λ (n : ℕ). number_at t n gd) (sym p) ∙ e
  | inr q ↦ number-apart t s r fd gd x q ∙ e
]

-- each session has 32 descriptors after a change of one
each_after : (t : Table) (s fd : ℕ) (x : Option ℕ) → IsTable t → s < most_sessions → (r : ℕ) → r < most_sessions → length (session_at (with_number t s fd x) r) ≡ most_descriptors
each_after t s fd x i l r m = elim (cases_eq r s) [
  | inl p ↦
      let ls : s < length t.sessions = omega (arith, l, i.sessions) in
      ap (λ (n : ℕ). length (session_at (with_number t s fd x) n)) p
      ∙ ap length (get_or-set_same t.sessions s (set (session_at t s) fd x) [] ls) ∙ length-set (session_at t s) fd x ∙ i.each s l
  | inr d ↦ ap length (get_or-set_other t.sessions s r (set (session_at t s) fd x) [] d) ∙ i.each r m
]

-- A free descriptor leads to a new open file at a free number.
pub put_keeps : (t : Table) (s fd k : ℕ) (o : OpenFile) → IsTable t → s < most_sessions → fd < most_descriptors → k < most_open_files
    → number_at t s fd ≡ None → opened_at t k ≡ None → o.position ≤ most_size → IsTable (with_number (with_file t k (Some o)) s fd (Some k))
put_keeps t s fd k o i l m n free none fits =
    let lk : k < length t.opened = omega (arith, n, i.files) in
    let new : opened_at (with_file t k (Some o)) k ≡ Some o = opened-here t k (Some o) lk in
    let other : (j : ℕ) → IsTrue (is_some (opened_at t j)) → j ≢ k = λ j h e. false_not_true (sym (ap is_some (ap (opened_at t) e ∙ none)) ∙ h) in
    let is = was_there t s fd (Some k) i l m in record {
      files = length-set t.opened k (Some o) ∙ i.files;
      sessions = length-set t.sessions s (set (session_at t s) fd (Some k)) ∙ i.sessions;
      each = each_after t s fd (Some k) i l;
      leads = λ r gd j e. elim (is r gd j e) [
        | inl p ↦ subst (λ (n : ℕ). IsTrue (is_some (opened_at (with_file t k (Some o)) n))) (some_same k j p.2) (ap is_some new)
        | inr p ↦ let h = i.leads r gd j p.1 in ap is_some (opened-apart t k j (Some o) (other j h)) ∙ h
      ];
      own = λ r q gd hd j e f. elim (is r gd j e) [
        | inl p ↦ elim (is q hd j f) [
          | inl x ↦ p.0 ∙ sym x.0
          | inr x ↦ absurd (other j (i.leads q hd j x.1) (sym (some_same k j p.2)))
        ]
        | inr p ↦ elim (is q hd j f) [
          | inl x ↦ absurd (other j (i.leads r gd j p.1) (sym (some_same k j x.2)))
          | inr x ↦ i.own r q gd hd j p.1 x.1
        ]
      ];
      in_use = λ j h. elim (cases_eq j k) [
        | inl e ↦ (s, fd, number-here t s fd (Some k) (omega (arith, l, i.sessions)) (omega (arith, m, i.each s l)) ∙ ap Some (sym e))
        | inr d ↦
            let old = i.in_use j (sym (ap is_some (opened-apart t k j (Some o) d)) ∙ h) in
            (old.0, old.1, still_there t s fd (Some k) i l old.0 old.1 j (λ p q. not_nothing j (sym (ap (λ (n : ℕ). number_at t n old.1) p ∙ ap (number_at t s) q ∙ free) ∙ old.2)) old.2)
      ];
      positions = λ j p e. elim (cases_eq j k) [
        | inl x ↦ subst (λ (f : OpenFile). f.position ≤ most_size) (some_same o p (sym new ∙ ap (opened_at (with_file t k (Some o))) (sym x) ∙ e)) fits
        | inr d ↦ i.positions j p (sym (opened-apart t k j (Some o) d) ∙ e)
      ];
    }

-- A free descriptor leads to an open file of the session.
pub dup_keeps : (t : Table) (s fd gd k : ℕ) → IsTable t → s < most_sessions → gd < most_descriptors → number_at t s fd ≡ Some k → number_at t s gd ≡ None
    → IsTable (with_number t s gd (Some k))
dup_keeps t s fd gd k i l m old free =
    let is = was_there t s gd (Some k) i l m in record {
      files = i.files;
      sessions = length-set t.sessions s (set (session_at t s) gd (Some k)) ∙ i.sessions;
      each = each_after t s gd (Some k) i l;
      leads = λ r hd j e. elim (is r hd j e) [
        | inl p ↦ i.leads s fd j (old ∙ p.2)
        | inr p ↦ i.leads r hd j p.1
      ];
      own = λ r q hd jd j e f. elim (is r hd j e) [
        | inl p ↦ elim (is q jd j f) [
          | inl x ↦ p.0 ∙ sym x.0
          | inr x ↦ p.0 ∙ i.own s q fd jd j (old ∙ p.2) x.1
        ]
        | inr p ↦ elim (is q jd j f) [
          | inl x ↦ i.own r s hd fd j p.1 (old ∙ x.2) ∙ sym x.0
          | inr x ↦ i.own r q hd jd j p.1 x.1
        ]
      ];
      in_use = λ j h.
          let was = i.in_use j h in
          (was.0, was.1, still_there t s gd (Some k) i l was.0 was.1 j (λ p q. not_nothing j (sym (ap (λ (n : ℕ). number_at t n was.1) p ∙ ap (number_at t s) q ∙ free) ∙ was.2)) was.2);
      positions = i.positions;
    }

-- A descriptor is freed, and another one leads to the same open file.
pub close_keeps : (t : Table) (s fd gd k : ℕ) → IsTable t → s < most_sessions → fd < most_descriptors → number_at t s fd ≡ Some k → gd ≢ fd → number_at t s gd ≡ Some k
    → IsTable (with_number t s fd None)
close_keeps t s fd gd k i l m old d other =
    let is : (r hd j : ℕ) → number_at (with_number t s fd None) r hd ≡ Some j → number_at t r hd ≡ Some j =
    λ r hd j e. elim (was_there t s fd None i l m r hd j e) [ inl p ↦ absurd (not_nothing j p.2) | inr p ↦ p.1 ] in record {
      files = i.files;
      sessions = length-set t.sessions s (set (session_at t s) fd None) ∙ i.sessions;
      each = each_after t s fd None i l;
      leads = λ r hd j e. i.leads r hd j (is r hd j e);
      own = λ r q hd jd j e f. i.own r q hd jd j (is r hd j e) (is q jd j f);
      in_use = λ j h. let was = i.in_use j h in elim (place s fd was.0 was.1) [
        | here p q ↦
            let same : k ≡ j = some_same k j (sym old ∙ ap (λ (n : ℕ). number_at t n fd) (sym p) ∙ ap (number_at t was.0) (sym q) ∙ was.2) in
            (s, gd, still_there t s fd None i l s gd j (λ z. d) (other ∙ ap Some same))
        | beside p x ↦ (was.0, was.1, still_there t s fd None i l was.0 was.1 j (λ z. x) was.2)
        | apart x ↦ (was.0, was.1, still_there t s fd None i l was.0 was.1 j (λ z. absurd (x z)) was.2)
      ];
      positions = i.positions;
    }

-- The last descriptor of an open file is freed, and the open file goes.
pub last_close_keeps : (t : Table) (s fd k : ℕ) → IsTable t → s < most_sessions → fd < most_descriptors → number_at t s fd ≡ Some k
    → ((gd : ℕ) → gd ≢ fd → number_at t s gd ≢ Some k) → IsTable (with_number (with_file t k None) s fd None)
last_close_keeps t s fd k i l m old last =
    let lk : k < length t.opened = omega (arith, below t k i (i.leads s fd k old), i.files) in
    let gone : opened_at (with_file t k None) k ≡ None = opened-here t k None lk in
    let is = was_there t s fd None i l m in
    let other : (r hd j : ℕ) → number_at (with_number (with_file t k None) s fd None) r hd ≡ Some j → (number_at t r hd ≡ Some j) × (j ≢ k) =
    λ r hd j e. elim (is r hd j e) [
      | inl p ↦ absurd (not_nothing j p.2)
      | inr p ↦ (
        p.1,
        λ x.
            let at : number_at t r hd ≡ Some k = p.1 ∙ ap Some x in
            let session : r ≡ s = i.own r s hd fd k at old in
            last hd (p.0 session) (ap (λ (n : ℕ). number_at t n hd) (sym session) ∙ at),
      )
    ] in record {
      files = length-set t.opened k None ∙ i.files;
      sessions = length-set t.sessions s (set (session_at t s) fd None) ∙ i.sessions;
      each = each_after t s fd None i l;
      leads = λ r hd j e. let o = other r hd j e in ap is_some (opened-apart t k j None o.1) ∙ i.leads r hd j o.0;
      own = λ r q hd jd j e f. i.own r q hd jd j (other r hd j e).0 (other q jd j f).0;
      in_use = λ j h. elim (cases_eq j k) [
        | inl x ↦ absurd (false_not_true (sym (ap is_some (ap (opened_at (with_file t k None)) x ∙ gone)) ∙ h))
        | inr d ↦
            let was = i.in_use j (sym (ap is_some (opened-apart t k j None d)) ∙ h) in (
              was.0,
              was.1,
              still_there t s fd None i l was.0 was.1 j
                  (λ p q. d (sym (some_same k j (sym old ∙ ap (λ (n : ℕ). number_at t n fd) (sym p) ∙ ap (number_at t was.0) (sym q) ∙ was.2)))) was.2,
            )
      ];
      positions = λ j p e. elim (cases_eq j k) [
        | inl x ↦ absurd (not_nothing p (sym gone ∙ ap (opened_at (with_file t k None)) (sym x) ∙ e))
        | inr d ↦ i.positions j p (sym (opened-apart t k j None d) ∙ e)
      ];
    }

-- An open file is at another position.
pub move_keeps : (t : Table) (k : ℕ) (o p : OpenFile) → IsTable t → opened_at t k ≡ Some o → p.position ≤ most_size → IsTable (with_file t k (Some p))
move_keeps t k o p i old fits =
    let lk : k < length t.opened = omega (arith, below t k i (ap is_some old), i.files) in
    let new : opened_at (with_file t k (Some p)) k ≡ Some p = opened-here t k (Some p) lk in
    let same : (j : ℕ) → is_some (opened_at (with_file t k (Some p)) j) ≡ is_some (opened_at t j) = λ j. elim (cases_eq j k) [
      | inl x ↦ ap is_some (ap (opened_at (with_file t k (Some p))) x ∙ new) ∙ sym (ap is_some (ap (opened_at t) x ∙ old))
      | inr d ↦ ap is_some (opened-apart t k j (Some p) d)
    ] in record {
      files = length-set t.opened k (Some p) ∙ i.files;
      sessions = i.sessions;
      each = i.each;
      leads = λ r hd j e. same j ∙ i.leads r hd j e;
      own = i.own;
      in_use = λ j h. i.in_use j (sym (same j) ∙ h);
      positions = λ j q e. elim (cases_eq j k) [
        | inl x ↦ subst (λ (f : OpenFile). f.position ≤ most_size) (some_same p q (sym new ∙ ap (opened_at (with_file t k (Some p))) (sym x) ∙ e)) fits
        | inr d ↦ i.positions j q (sym (opened-apart t k j (Some p) d) ∙ e)
      ];
    }
