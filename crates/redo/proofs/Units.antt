-- Contents after changes, unit by unit.
use Rattle.std.proofs.Common.{◌≡◌, ◌⊎◌, inl, inr, ℕ, zero, suc, ◌+◌, ◌*◌, ◌<◌, ◌≤◌, List, [], ◌∷◌, ◌++◌, length, take, drop, refl, sym, ◌∙◌, ap, arith, append_assoc}
use Rattle.std.proofs.lemmas.Bool.{cases_eq, cases_lt}
use Rattle.std.proofs.lemmas.List.{drop_all, length-drop, length-take-le, take-append-drop}
use Rattle.std.proofs.lemmas.Bool.Decides.{nat_tests}
use Rattle.stable.specs.Disk.{Contents, Changes, set, put, numbered, Touches, Held, Written, Stale, FileState, hold, mark, Keeps, file_written, file_spoilt, file_synced, file_unsynced, kept, lost}
use Rattle.redo.specs.Record.{window, from}
use Rattle.redo.specs.Runs.{Run, by_sixteen, spread, singly}

pub set_same : (c : Contents) (w : ℕ × List ℕ) (n : ℕ) → n ≡ w.0 → set c w n ≡ w.1
set_same c w n is = grind (arith, nat_tests)

pub set_other : (c : Contents) (w : ℕ × List ℕ) (n : ℕ) → (n ≡ w.0 → ⊥) → set c w n ≡ c n
set_other c w n other = grind (arith, nat_tests)

set_both : (c d : Contents) (w : ℕ × List ℕ) (ws : Changes) (n : ℕ) → (c n ≡ d n) ⊎ Touches (w ∷ ws) n → (set c w n ≡ set d w n) ⊎ Touches ws n
set_both c d w ws n h = elim (cases_eq n w.0) [
  | inl is ↦ inl (set_same c w n is ∙ sym (set_same d w n is))
  | inr other ↦ elim h [
    | inl same ↦ inl (set_other c w n other ∙ same ∙ sym (set_other d w n other))
    | inr touched ↦ elim touched [
      | inl here ↦ absurd (other (sym here))
      | inr later ↦ inr later
    ]
  ]
]

-- where two contents agree, or changes set the unit, they agree after the changes
pub put_agrees : (ws : Changes) (c d : Contents) (n : ℕ) → (c n ≡ d n) ⊎ Touches ws n → put ws c n ≡ put ws d n
put_agrees [] c d n (inl same) = same
put_agrees [] c d n (inr none) = absurd none
put_agrees (w ∷ ws) c d n h = put_agrees ws (set c w) (set d w) n (set_both c d w ws n h)

-- changes leave each unit that they don't set
pub put_other : (ws : Changes) (c : Contents) (n : ℕ) → (Touches ws n → ⊥) → put ws c n ≡ c n
put_other [] c n none = refl
put_other (w ∷ ws) c n none = put_other ws (set c w) n (λ t. none (inr t)) ∙ set_other c w n (λ is. none (inl (sym is)))

pub put-append : (xs ys : Changes) (c : Contents) → put (xs ++ ys) c ≡ put ys (put xs c)
put-append [] ys c = refl
put-append (x ∷ xs) ys c = put-append xs ys (set c x)

-- changes from one unit on touch as many units as there are
pub touched : (units : List (List ℕ)) (at n : ℕ) → at ≤ n → n < at + length units → Touches (numbered at units) n
touched [] at n le lt = absurd (omega arith)
touched (u ∷ units) at n le lt = elim (cases_eq at n) [
  | inl here ↦ inl here
  | inr other ↦ inr (touched units (at + 1) n (omega arith) (omega arith))
]

-- changes from one unit on touch none below it
pub not_below : (units : List (List ℕ)) (at n : ℕ) → n < at → Touches (numbered at units) n → ⊥
not_below [] at n lt h = h
not_below (u ∷ units) at n lt (inl here) = omega arith
not_below (u ∷ units) at n lt (inr later) = not_below units (at + 1) n (omega arith) later

set_shift : (at k n : ℕ) (u : List ℕ) (c : Contents) → from at (set c (at + k, u)) n ≡ set (from at c) (k, u) n
set_shift at k n u c = elim (cases_eq n k) [
  | inl same ↦ set_same c (at + k, u) (at + n) (omega arith) ∙ sym (set_same (from at c) (k, u) n same)
  | inr other ↦ set_other c (at + k, u) (at + n) (λ is. other (omega arith)) ∙ sym (set_other (from at c) (k, u) n other)
]

-- units that are put, counted from another one
pub put_shift : (units : List (List ℕ)) (at k n : ℕ) (c : Contents) → put (numbered (at + k) units) c (at + n) ≡ put (numbered k units) (from at c) n
put_shift [] at k n c = refl
put_shift (u ∷ units) at k n c =
    ap (λ (p : ℕ). put (numbered p units) (set c (at + k, u)) (at + n)) (let e : at + k + 1 ≡ at + (k + 1) = omega arith in e)
    ∙ put_shift units at (k + 1) n (set c (at + k, u))
    ∙ put_agrees (numbered (k + 1) units) (from at (set c (at + k, u))) (set (from at c) (k, u)) n (inl (set_shift at k n u c))

pub numbered-append : (xs ys : List (List ℕ)) (at : ℕ) → numbered at (xs ++ ys) ≡ numbered at xs ++ numbered (at + length xs) ys
numbered-append [] ys at = ap (λ k. numbered k ys) (omega arith)
numbered-append (x ∷ xs) ys at = ap (λ (l : Changes). (at, x) ∷ l) (numbered-append xs ys (at + 1) ∙ ap (λ k. numbered (at + 1) xs ++ numbered k ys) (omega arith))

-- nor any behind them
pub not_past : (units : List (List ℕ)) (at n : ℕ) → at + length units ≤ n → Touches (numbered at units) n → ⊥
not_past [] at n le h = h
not_past (u ∷ units) at n le (inl here) = omega arith
not_past (u ∷ units) at n le (inr later) = not_past units (at + 1) n (omega arith) later

-- one unit more, behind them
pub put_append_other : (units : List (List ℕ)) (u : List ℕ) (at n : ℕ) (c : Contents) → n < at + length units → put (numbered at (units ++ u ∷ [])) c n ≡ put (numbered at units) c n
put_append_other units u at n c lt =
    ap (λ (l : Changes). put l c n) (numbered-append units (u ∷ []) at)
    ∙ ap (λ (d : Contents). d n) (put-append (numbered at units) (numbered (at + length units) (u ∷ [])) c)
    ∙ put_other (numbered (at + length units) (u ∷ [])) (put (numbered at units) c) n (not_below (u ∷ []) (at + length units) n lt)

pub put_append_last : (units : List (List ℕ)) (u : List ℕ) (at n : ℕ) (c : Contents) → n ≡ at + length units → put (numbered at (units ++ u ∷ [])) c n ≡ u
put_append_last units u at n c is =
    ap (λ (l : Changes). put l c n) (numbered-append units (u ∷ []) at)
    ∙ ap (λ (d : Contents). d n) (put-append (numbered at units) (numbered (at + length units) (u ∷ [])) c)
    ∙ set_same (put (numbered at units) c) (at + length units, u) n is

-- a window shows the units in it alone
pub window_same : (c d : Contents) (at k : ℕ) → ((n : ℕ) → at ≤ n → n < at + k → c n ≡ d n) → window c at k ≡ window d at k
window_same c d at zero same = refl
window_same c d at (suc k) same = ap (λ (l : List (List ℕ)). c at ∷ l) (window_same c d (at + 1) k (λ n le lt. same n (omega arith) (omega arith))) ∙ ap (λ (v : List ℕ). v ∷ window d (at + 1) k) (same at (omega arith) (omega arith))

-- what was put there is seen there
pub window_put : (xs : List (List ℕ)) (at : ℕ) (c : Contents) → window (put (numbered at xs) c) at (length xs) ≡ xs
window_put [] at c = refl
window_put (x ∷ xs) at c =
    ap (λ (v : List ℕ). v ∷ window (put (numbered (at + 1) xs) (set c (at, x))) (at + 1) (length xs))
    (put_other (numbered (at + 1) xs) (set c (at, x)) at (not_below xs (at + 1) at (omega arith)) ∙ set_same c (at, x) at refl)
    ∙ ap (λ (l : List (List ℕ)). x ∷ l) (window_put xs (at + 1) (set c (at, x)))

pub window_first : (xs ys : List (List ℕ)) (at : ℕ) (c : Contents) → window (put (numbered at (xs ++ ys)) c) at (length xs) ≡ xs
window_first xs ys at c =
    window_same (put (numbered at (xs ++ ys)) c) (put (numbered at xs) c) at (length xs)
    (λ n le lt. ap (λ (l : Changes). put l c n) (numbered-append xs ys at)
    ∙ ap (λ (d : Contents). d n) (put-append (numbered at xs) (numbered (at + length xs) ys) c)
    ∙ put_other (numbered (at + length xs) ys) (put (numbered at xs) c) n (not_below ys (at + length xs) n lt))
    ∙ window_put xs at c

pub window_rest : (xs ys : List (List ℕ)) (at : ℕ) (c : Contents) → window (put (numbered at (xs ++ ys)) c) (at + length xs) (length ys) ≡ ys
window_rest xs ys at c =
    ap (λ (l : Changes). window (put l c) (at + length xs) (length ys)) (numbered-append xs ys at)
    ∙ ap (λ (d : Contents). window d (at + length xs) (length ys)) (put-append (numbered at xs) (numbered (at + length xs) ys) c)
    ∙ window_put ys (at + length xs) (put (numbered at xs) c)

-- where changes leave a unit as it is, or set it
pub put_or_touches : (ws : Changes) (c : Contents) (n : ℕ) → (put ws c n ≡ c n) ⊎ Touches ws n
put_or_touches [] c n = inl refl
put_or_touches (w ∷ ws) c n = elim (put_or_touches ws (set c w) n) [
  | inr later ↦ inr (inr later)
  | inl same ↦ elim (cases_eq n w.0) [
    | inl is ↦ inr (inl (sym is))
    | inr other ↦ inl (same ∙ set_other c w n other)
  ]
]

-- changes that were done once more change nothing
pub put_twice : (ws : Changes) (c : Contents) (n : ℕ) → put ws (put ws c) n ≡ put ws c n
put_twice ws c n = put_agrees ws (put ws c) c n (put_or_touches ws c n)

hold_same : (held : ℕ → Held) (m : ℕ) (h : Held) (n : ℕ) → n ≡ m → hold held m h n ≡ h
hold_same held m h n is = grind (arith, nat_tests)

hold_other : (held : ℕ → Held) (m : ℕ) (h : Held) (n : ℕ) → (n ≡ m → ⊥) → hold held m h n ≡ held n
hold_other held m h n other = grind (arith, nat_tests)

mark_other : (h : Held) (ws : Changes) (held : ℕ → Held) (n : ℕ) → (Touches ws n → ⊥) → mark h ws held n ≡ held n
mark_other h [] held n none = refl
mark_other h (w ∷ ws) held n none = mark_other h ws (hold held w.0 h) n (λ t. none (inr t)) ∙ hold_other held w.0 h n (λ is. none (inl (sym is)))

mark_set : (h : Held) (ws : Changes) (held : ℕ → Held) (n : ℕ) → (held n ≡ h) ⊎ Touches ws n → mark h ws held n ≡ h
mark_set h [] held n (inl is) = is
mark_set h [] held n (inr none) = absurd none
mark_set h (w ∷ ws) held n t = mark_set h ws (hold held w.0 h) n (elim (cases_eq n w.0) [
  | inl is ↦ inl (hold_same held w.0 h n is)
  | inr other ↦ elim t [
    | inl was ↦ inl (hold_other held w.0 h n other ∙ was)
    | inr touched ↦ elim touched [
      | inl here ↦ absurd (other (sym here))
      | inr later ↦ inr later
    ]
  ]
])

mark-append : (h : Held) (xs ys : Changes) (held : ℕ → Held) → mark h (xs ++ ys) held ≡ mark h ys (mark h xs held)
mark-append h [] ys held = refl
mark-append h (x ∷ xs) ys held = mark-append h xs ys (hold held x.0 h)

-- changes set a unit, or they don't
pub touches_or_not : (ws : Changes) (n : ℕ) → Touches ws n ⊎ (Touches ws n → ⊥)
touches_or_not [] n = inr (λ t. t)
touches_or_not (w ∷ ws) n = elim (cases_eq w.0 n) [
  | inl here ↦ inl (inl here)
  | inr other ↦ elim (touches_or_not ws n) [
    | inl later ↦ inl (inr later)
    | inr none ↦ inr (λ t. elim t [
      | inl here ↦ other here
      | inr later ↦ none later
    ])
  ]
]

pub touches_first : (xs ys : Changes) (n : ℕ) → Touches xs n → Touches (xs ++ ys) n
touches_first [] ys n t = absurd t
touches_first (x ∷ xs) ys n (inl here) = inl here
touches_first (x ∷ xs) ys n (inr later) = inr (touches_first xs ys n later)

pub touches_last : (xs ys : Changes) (n : ℕ) → Touches ys n → Touches (xs ++ ys) n
touches_last [] ys n t = t
touches_last (x ∷ xs) ys n t = inr (touches_last xs ys n t)

-- what is kept stays so where a write doesn't set it, and after each sync
pub keeps_written : (f : FileState) (ws : Changes) (n : ℕ) (v : List ℕ) → (Touches ws n → ⊥) → Keeps f n v → Keeps (file_written f ws) n v
keeps_written f ws n v none k = record { sure = mark_other Written ws f.held n none ∙ k.sure; is = put_other ws f.shows n none ∙ k.is }

pub keeps_spoilt : (f : FileState) (ws : Changes) (n : ℕ) (v : List ℕ) → (Touches ws n → ⊥) → Keeps f n v → Keeps (file_spoilt f ws) n v
keeps_spoilt f ws n v none k = record { sure = mark_other Stale ws f.held n none ∙ k.sure; is = put_other ws f.shows n none ∙ k.is }

pub keeps_synced : (f : FileState) (n : ℕ) (v : List ℕ) → Keeps f n v → Keeps (file_synced f) n v
keeps_synced f n v k = record { sure = ap kept k.sure; is = k.is }

pub keeps_unsynced : (f : FileState) (n : ℕ) (v : List ℕ) → Keeps f n v → Keeps (file_unsynced f) n v
keeps_unsynced f n v k = record { sure = ap lost k.sure; is = k.is }

-- what was written is kept by a sync
pub written_synced : (f : FileState) (ws : Changes) (c : Contents) (n : ℕ) → Touches ws n → Keeps (file_synced (file_written f ws)) n (put ws c n)
written_synced f ws c n t = record { sure = ap kept (mark_set Written ws f.held n (inr t)); is = put_agrees ws f.shows c n (inr t) }

-- two writes are one
pub written_twice : (f : FileState) (xs ys : Changes) → file_written (file_written f xs) ys ≡ file_written f (xs ++ ys)
written_twice f xs ys =
    ap (λ (s : Contents). let g : FileState = record { shows = s; held = mark Written ys (mark Written xs f.held); failed = f.failed } in g) (sym (put-append xs ys f.shows))
    ∙ ap (λ (h : ℕ → Held). let g : FileState = record { shows = put (xs ++ ys) f.shows; held = h; failed = f.failed } in g) (sym (mark-append Written xs ys f.held))

pub spread_singly : (ws : Changes) → spread (singly ws) ≡ ws
spread_singly [] = refl
spread_singly (w ∷ ws) = ap (λ (l : Changes). w ∷ l) (spread_singly ws)

-- runs of sixteen are the units, if there are runs enough
pub spread_sixteen : (k at : ℕ) (units : List (List ℕ)) → length units ≤ 16 * k → spread (by_sixteen k at units) ≡ numbered at units
spread_sixteen zero at [] le = refl
spread_sixteen zero at (u ∷ units) le = absurd (omega arith)
spread_sixteen (suc k) at units le =
    let first : List (List ℕ) = take 16 units in
    let rest : List (List ℕ) = drop 16 units in
    ap (λ (l : Changes). numbered at first ++ l) (spread_sixteen k (at + 16) rest (omega (arith, length-drop 16 units)) ∙ elim (cases_lt 16 (length units)) [
      | inl many ↦ ap (λ (p : ℕ). numbered (at + p) rest) (sym (length-take-le 16 units (omega (arith, many))))
      | inr few ↦ ap (λ (l : List (List ℕ)). numbered (at + 16) l) (drop_all 16 units few) ∙ ap (λ (l : List (List ℕ)). numbered (at + length first) l) (sym (drop_all 16 units few))
    ])
    ∙ sym (numbered-append first rest at)
    ∙ ap (λ (l : List (List ℕ)). numbered at l) (take-append-drop 16 units)

pub spread-append : (xs ys : List Run) → spread (xs ++ ys) ≡ spread xs ++ spread ys
spread-append [] ys = refl
spread-append (x ∷ xs) ys = ap (λ (l : Changes). numbered x.0 x.1 ++ l) (spread-append xs ys) ∙ sym (append_assoc (numbered x.0 x.1) (spread xs) (spread ys))
