-- A walk along the names, step by step.
use Rattle.std.proofs.Common.{◌≡◌, ◌⊎◌, ◌<◌, ◌≤◌, ◌+◌, ◌++◌, ℕ, zero, suc, List, [], ◌∷◌, length, set, get_or, slice_index, Bool, true}
use Rattle.std.proofs.Common.{false, refl, sym, ap, subst, ◌∙◌, cond, arith}
use mathlib.Core.Logic.{inl, inr}
use Rattle.std.specs.Prelude.{◌&&◌, ◌||◌, ◌==◌, nat_lt}
use Rattle.std.proofs.lemmas.Bool.{cases_eq, cases_lt, cases_Bool, both_ways, eq-eqb, ne_eqb, eqb-true, lt-ltb, ltb-true, or_cases}
use Rattle.std.proofs.lemmas.Bool.{or_right, and_from, and_parts}
use Rattle.std.proofs.lemmas.List.{length-set, get_or-set_same, get_or-set_other, get_or_append_left, get_or_push, length_push, get_or_past}
use Rattle.std.proofs.lemmas.List.Sums.{sum_by-cons, sum_by-set}
use Rattle.lemmas.specs.Sums.{some_below, one_if}
use Rattle.volume.proofs.Sums.{some_from, some_witness}
use Rattle.volume.proofs.Reach.{reached}
use Rattle.volume.proofs.Reached.{fuel_enough}
use Rattle.image.specs.declared.Image.{Image}
use Rattle.image.proofs.Contents.{g, v, is_geometry}
use Rattle.fsck.specs.Form.{EntryForm}
use Rattle.fsck.specs.Findings.{names_in_of, is_reached}
use Rattle.fsck.specs.Reached.{is_seen, unseen, IsWaiting, AreReached, GoesOn}

-- nothing more
pub goes_none : (more : ℕ → ℕ) (a : List Bool) (w : List ℕ) → ((k : ℕ) → k < length a → 0 < more k → is_seen a k ≡ true)
    → GoesOn more a w a w
goes_none more a w all = record {
  size = refl;
  longer = omega arith;
  waits = λ j h. refl;
  keeps = λ k is. is;
  new = λ k out is. absurd (both_ways _ out is);
  all = all;
  marked = λ j far h. absurd (omega arith);
  less = refl;
}

-- one step and another
pub goes_more : (f h both : ℕ → ℕ) (a : List Bool) (w : List ℕ) (b : List Bool) (x : List ℕ) (c : List Bool) (y : List ℕ)
    → ((k : ℕ) → both k ≡ f k + h k)
    → GoesOn f a w b x → GoesOn h b x c y → GoesOn both a w c y
goes_more f h both a w b x c y sum first second = record {
  size = second.size ∙ first.size;
  longer = omega (arith, first.longer, second.longer);
  waits = λ j l. second.waits j (omega (arith, first.longer)) ∙ first.waits j l;
  keeps = λ k is. second.keeps k (first.keeps k is);
  new = λ k out is. elim (cases_Bool (is_seen b k)) [
    | inl before ↦
        let n = first.new k out before in
        (omega (arith, sum k, n.0), (n.1.0, omega (arith, n.1.1, second.longer), second.waits n.1.0 n.1.1 ∙ n.1.2))
    | inr later ↦ let n = second.new k later is in (omega (arith, sum k, n.0), n.1)
  ];
  all = λ k l some. elim (cases_lt 0 (h k)) [
    | inl now ↦ second.all k (omega (arith, first.size)) now
    | inr none ↦ second.keeps k (first.all k l (omega (arith, sum k)))
  ];
  marked = λ j far l. elim (cases_lt j (length x)) [
    | inl before ↦ ap (is_seen c) (second.waits j before) ∙ second.keeps (slice_index x j) (first.marked j far before)
    | inr later ↦ second.marked j later l
  ];
  less = omega (arith, first.less, second.less);
}

-- the same steps
pub goes_same : (f h : ℕ → ℕ) (a : List Bool) (w : List ℕ) (b : List Bool) (x : List ℕ) → ((k : ℕ) → h k ≡ f k) → GoesOn f a w b x
    → GoesOn h a w b x
goes_same f h a w b x same go = record {
  size = go.size;
  longer = go.longer;
  waits = go.waits;
  keeps = go.keeps;
  new = λ k out is. let n = go.new k out is in (omega (arith, same k, n.0), n.1);
  all = λ k l some. go.all k l (omega (arith, same k));
  marked = go.marked;
  less = go.less;
}

-- an inode that is marked already, or none
pub goes_past : (m : ℕ) (a : List Bool) (w : List ℕ) → length a ≤ m → GoesOn (λ k. one_if (m == k)) a w a w
goes_past m a w far = goes_none _ a w (λ k l some. elim (cases_eq m k) [
  | inl e ↦ absurd (omega arith)
  | inr d ↦ let none : one_if (m == k) ≡ 0 = ap one_if (ne_eqb m k d) in absurd (omega arith)
])

pub goes_seen : (m : ℕ) (a : List Bool) (w : List ℕ) → is_seen a m ≡ true → GoesOn (λ k. one_if (m == k)) a w a w
goes_seen m a w is = goes_none _ a w (λ k l some. elim (cases_eq m k) [
  | inl e ↦ ap (is_seen a) (sym e) ∙ is
  | inr d ↦ let none : one_if (m == k) ≡ 0 = ap one_if (ne_eqb m k d) in absurd (omega arith)
])

-- one that wasn't
pub goes_one : (m : ℕ) (a : List Bool) (w x : List ℕ) → m < length a → is_seen a m ≡ false → x ≡ w ++ m ∷ []
    → GoesOn (λ k. one_if (m == k)) a w (set a m true) x
goes_one m a w x h out is =
    let size : length x ≡ length w + 1 = ap length is ∙ length_push w m in
    let last : slice_index x (length w) ≡ m = ap (λ l. slice_index l (length w)) is ∙ get_or_push w m 0 (length w) refl in
    let there : is_seen (set a m true) m ≡ true = get_or-set_same a m true false h in
    let part : Bool → ℕ = λ b. cond b 0 1 in
    let sum : unseen (set a m true) + part (get_or a m false) ≡ unseen a + 0 = sum_by-set part a m true false h in
    let one : part (get_or a m false) ≡ 1 = ap part out in
    record {
      size = length-set a m true;
      longer = omega arith;
      waits = λ j l. ap (λ l. slice_index l j) is ∙ get_or_append_left w (m ∷ []) 0 j l;
      keeps = λ k seen. elim (cases_eq k m) [
        | inl e ↦ ap (is_seen (set a m true)) e ∙ there
        | inr d ↦ get_or-set_other a m k true false d ∙ seen
      ];
      new = λ k unseen seen. elim (cases_eq k m) [
        | inl e ↦ let yes : one_if (m == k) ≡ 1 = ap one_if (eq-eqb m k (sym e)) in (omega arith, (length w, omega arith, last ∙ sym e))
        | inr d ↦ absurd (both_ways _ unseen (sym (get_or-set_other a m k true false d) ∙ seen))
      ];
      all = λ k l some. elim (cases_eq m k) [
        | inl e ↦ ap (is_seen (set a m true)) (sym e) ∙ there
        | inr d ↦ let none : one_if (m == k) ≡ 0 = ap one_if (ne_eqb m k d) in absurd (omega arith)
      ];
      marked = λ j far l. let e : j ≡ length w = omega arith in ap (λ j. is_seen (set a m true) (slice_index x j)) e
          ∙ ap (is_seen (set a m true)) last ∙ there;
      less = omega arith;
    }

-- at most all aren't marked
pub few_unseen : (a : List Bool) → unseen a ≤ length a
few_unseen [] = omega arith
few_unseen (b ∷ bs) =
    let part : Bool → ℕ = λ b. cond b 0 1 in
    let rest = few_unseen bs in
    let both : unseen (b ∷ bs) ≡ part b + unseen bs = sum_by-cons part b bs in
    let one : part b ≤ 1 = elim b as (λ v. part v ≤ 1) [ true ↦ omega arith | false ↦ omega arith ] in
    omega (arith, both, rest, one)

-- What holds while the walk goes on: who is marked is reached, and waits or has all that it names marked.
pub record IsWalk (form : EntryForm) (i : Image) (seen : List Bool) (waiting : List ℕ) : Type 0 where
  pub size : length seen ≡ (g i).inodes + 1
  pub root : is_seen seen 1 ≡ true
  pub found : (n : ℕ) → is_seen seen n ≡ true → (k : ℕ) × (is_reached form (g i) (v i) k n ≡ true)
  pub closed : (m : ℕ) → is_seen seen m ≡ true → IsWaiting waiting m ⊎
      ((n : ℕ) → n < length seen → 0 < names_in_of form (g i) (v i) m n → is_seen seen n ≡ true)
  pub marked : (j : ℕ) → j < length waiting → is_seen seen (slice_index waiting j) ≡ true

module _ (form : EntryForm) (i : Image) where
  -- who is marked has a place
  in_list : (seen : List Bool) (n : ℕ) → is_seen seen n ≡ true → n < length seen
  in_list seen n is = elim (cases_lt n (length seen)) [
    | inl l ↦ l
    | inr far ↦ absurd (both_ways _ (get_or_past seen n false far) is)
  ]

  -- a walk begins
  pub walk_begins : (a b : List Bool) (x : List ℕ) → length a ≡ (g i).inodes + 1 → ((n : ℕ) → get_or a n false ≡ false)
      → GoesOn (λ k. one_if (1 == k)) a [] b x → IsWalk form i b x
  walk_begins a b x size fresh go =
      let some = (is_geometry i).some_inode in
      record {
        size = go.size ∙ size;
        root = go.all 1 (omega arith) (omega arith);
        found = λ n is. let m = go.new n (fresh n) is in (0, eq-eqb n 1 (only n m.0));
        closed = λ m is. inl (go.new m (fresh m) is).1;
        marked = λ j h. go.marked j (omega arith) h;
      }
    where
      only : (n : ℕ) → 0 < one_if (1 == n) → n ≡ 1
      only n some = elim (cases_eq 1 n) [
        | inl e ↦ sym e
        | inr d ↦ let none : one_if (1 == n) ≡ 0 = ap one_if (ne_eqb 1 n d) in absurd (omega arith)
      ]

  -- and goes on from one that waited last
  pub walk_goes : (a : List Bool) (w rest : List ℕ) (n : ℕ) (b : List Bool) (x : List ℕ) → IsWalk form i a w → w ≡ rest ++ n ∷ []
      → GoesOn (names_in_of form (g i) (v i) n) a rest b x → IsWalk form i b x
  walk_goes a w rest n b x walk is go =
      let size : length w ≡ length rest + 1 = ap length is ∙ length_push rest n in
      let last : slice_index w (length rest) ≡ n = ap (λ l. slice_index l (length rest)) is ∙ get_or_push rest n 0 (length rest) refl in
      let n_seen : is_seen a n ≡ true = ap (is_seen a) (sym last) ∙ walk.marked (length rest) (omega arith) in
      let same : (j : ℕ) → j < length rest → slice_index w j ≡ slice_index rest j = λ j l. ap (λ l. slice_index l j) is
      ∙ get_or_append_left rest (n ∷ []) 0 j l in
      record {
        size = go.size ∙ walk.size;
        root = go.keeps 1 walk.root;
        found = λ m seen. elim (cases_Bool (is_seen a m)) [
          | inl before ↦ walk.found m before
          | inr now ↦
              let new = go.new m now seen in
              let k = walk.found n n_seen in
              let low = in_list a n n_seen in (
                suc k.0,
                or_right (is_reached form (g i) (v i) k.0 m) _ (some_from
                    (λ z. nat_lt 0 (names_in_of form (g i) (v i) z m) && is_reached form (g i) (v i) k.0 z) ((g i).inodes + 1) n
                    (omega (arith, walk.size))
                    (and_from (nat_lt 0 (names_in_of form (g i) (v i) n m)) (is_reached form (g i) (v i) k.0 n) (lt-ltb 0 _ new.0) k.1)),
              )
        ];
        closed = λ m seen. elim (cases_Bool (is_seen a m)) [
          | inl before ↦ elim (walk.closed m before) [
            | inl wait ↦ elim (cases_lt wait.0 (length rest)) [
              | inl early ↦ inl (wait.0, omega (arith, go.longer), go.waits wait.0 early ∙ sym (same wait.0 early) ∙ wait.2)
              | inr late ↦
                  let e : wait.0 ≡ length rest = omega (arith, wait.1) in
                  let m_is : n ≡ m = sym last ∙ ap (slice_index w) (sym e) ∙ wait.2 in
                  inr (λ k l some. go.all k (omega (arith, go.size)) (let P : ℕ → Type 0
                  = λ z. 0 < names_in_of form (g i) (v i) z k in subst P (sym m_is) some))
            ]
            | inr done ↦ inr (λ k l some. go.keeps k (done k (omega (arith, go.size)) some))
          ]
          | inr now ↦ inl (go.new m now seen).1
        ];
        marked = λ j l. elim (cases_lt j (length rest)) [
          | inl early ↦ ap (is_seen b) (go.waits j early ∙ sym (same j early)) ∙ go.keeps (slice_index w j) (walk.marked j (omega arith))
          | inr late ↦ go.marked j late l
        ];
      }

  -- who names whom
  abbrev edge : ℕ → ℕ → Bool
  edge m n = nat_lt 0 (names_in_of form (g i) (v i) m n)

  -- reached as the plain walk says it
  reached_is : (k n : ℕ) → is_reached form (g i) (v i) k n ≡ reached edge ((g i).inodes + 1) k n
  unfolding reached
  reached_is zero n = refl
  reached_is (suc k) n = λ j. reached_is k n j || some_below (λ m. edge m n && reached_is k m j) ((g i).inodes + 1)

  -- a set that is closed within the bound holds all that is reached within it
  within : (set : ℕ → Bool) (limit : ℕ) → set 1 ≡ true → ((m n : ℕ) → m < limit → n < limit → set m ≡ true → edge m n ≡ true → set n ≡ true)
      → limit ≡ (g i).inodes + 1 → (k n : ℕ) → n < limit → is_reached form (g i) (v i) k n ≡ true → set n ≡ true
  within set limit root closed e zero n l is = ap set (eqb-true n 1 is) ∙ root
  within set limit root closed e (suc k) n l is = elim (or_cases (is_reached form (g i) (v i) k n) _ is) [
    | inl before ↦ within set limit root closed e k n l before
    | inr s ↦
        let w = some_witness (λ m. edge m n && is_reached form (g i) (v i) k m) ((g i).inodes + 1) s in
        let at = and_parts (edge w.0 n) (is_reached form (g i) (v i) k w.0) w.2 in
        let low : w.0 < limit = omega (arith, w.1) in
        closed w.0 n low l (within set limit root closed e k w.0 low at.1) at.0
  ]

  -- a walk that is over has found just what is reached
  pub walk_over : (seen : List Bool) (waiting : List ℕ) → IsWalk form i seen waiting → length waiting ≡ 0 → AreReached form i seen
  walk_over seen waiting walk none n l =
      let some = (is_geometry i).some_inode in
      let closed : (m n : ℕ) → m < length seen → n < length seen → is_seen seen m ≡ true → edge m n ≡ true → is_seen seen n ≡ true
      = λ m n lm ln is e. elim (walk.closed m is) [
        | inl wait ↦ absurd (omega (arith, wait.1))
        | inr done ↦ done n ln (ltb-true 0 _ e)
      ] in
      elim (cases_Bool (is_seen seen n)) [
        | inl is ↦
            let w = walk.found n is in
            let big : (g i).inodes + 1 ≡ suc (g i).inodes = omega arith in
            is ∙ sym (reached_is (g i).inodes n ∙ fuel_enough edge ((g i).inodes + 1) (g i).inodes w.0 n (omega arith) big l
            (sym (reached_is w.0 n) ∙ w.1))
        | inr out ↦ elim (cases_Bool (is_reached form (g i) (v i) (g i).inodes n)) [
          | inl is ↦ absurd (both_ways _ out (within (is_seen seen) (length seen) walk.root closed walk.size (g i).inodes n
              (omega (arith, walk.size)) is))
          | inr not ↦ out ∙ sym not
        ]
      ]
