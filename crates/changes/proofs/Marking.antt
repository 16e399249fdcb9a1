-- The numbers of marked units.
use Rattle.std.proofs.Common.{◌≡◌, ℕ, zero, suc, ◌+◌, ◌<◌, ◌≤◌, ◌⊎◌, inl, inr, List, [], ◌∷◌, ◌++◌, length, set, take, Bool, true, false, get_or, cond, refl, sym, subst, ◌∙◌, ap, arith}
use Rattle.std.proofs.lemmas.Bool.{cases_lt, false≢true}
use Rattle.std.proofs.lemmas.List.{append-nil, take_more, length-take, length-set, get_or-set_same, get_or_past}
use Rattle.changes.specs.Units.{marked_from, marked, is_marked, with_mark, with_marks}

-- one more, at the end
marked_from_push : (n : ℕ) (marks : List Bool) (b : Bool)
    → marked_from n (marks ++ b ∷ []) ≡ marked_from n marks ++ (cond b ((n + length marks) ∷ []) [])
marked_from_push n [] true = ap (λ k. k ∷ []) (omega arith)
marked_from_push n [] false = refl
marked_from_push n (true ∷ marks) b =
    ap (λ l. n ∷ l) (marked_from_push (n + 1) marks b ∙ ap (λ k. marked_from (n + 1) marks ++ cond b (k ∷ []) []) (omega arith))
marked_from_push n (false ∷ marks) b =
    marked_from_push (n + 1) marks b ∙ ap (λ k. marked_from (n + 1) marks ++ cond b (k ∷ []) []) (omega arith)

-- there are no more of them than units
marked_from_few : (n : ℕ) (marks : List Bool) → length (marked_from n marks) ≤ length marks
marked_from_few n [] = omega arith
marked_from_few n (true ∷ marks) = omega (arith, marked_from_few (n + 1) marks)
marked_from_few n (false ∷ marks) = omega (arith, marked_from_few (n + 1) marks)

-- one unit more
next : (marks : List Bool) (i : ℕ) → i < length marks
    → marked (take (i + 1) marks) ≡ marked (take i marks) ++ cond (get_or marks i false) (i ∷ []) []
next marks i less =
    let long : 0 + length (take i marks) ≡ i = omega (arith, length-take i marks) in
    ap marked (take_more marks i false less) ∙ marked_from_push 0 (take i marks) (get_or marks i false)
    ∙ ap (λ k. marked (take i marks) ++ cond (get_or marks i false) (k ∷ []) []) long

-- one that is marked
pub next_marked : (marks : List Bool) (i : ℕ) → i < length marks → get_or marks i false ≡ true
    → marked (take (i + 1) marks) ≡ marked (take i marks) ++ i ∷ []
next_marked marks i less is = next marks i less ∙ ap (λ b. marked (take i marks) ++ cond b (i ∷ []) []) is

-- one that isn't
pub next_unmarked : (marks : List Bool) (i : ℕ) → i < length marks → get_or marks i false ≡ false
    → marked (take (i + 1) marks) ≡ marked (take i marks)
next_unmarked marks i less is =
    next marks i less ∙ ap (λ b. marked (take i marks) ++ cond b (i ∷ []) []) is ∙ append-nil (marked (take i marks))

-- the first ones are few
pub marked_few : (marks : List Bool) (i : ℕ) → length (marked (take i marks)) ≤ length marks
marked_few marks i = omega (arith, marked_from_few 0 (take i marks), length-take i marks)

-- a mark stays where one more is set
keeps_set : (marks : List Bool) (i n : ℕ) → get_or marks n false ≡ true → get_or (set marks i true) n false ≡ true
keeps_set [] i n h = h
keeps_set (b ∷ marks) zero zero h = refl
keeps_set (b ∷ marks) zero (suc n) h = h
keeps_set (b ∷ marks) (suc i) zero h = h
keeps_set (b ∷ marks) (suc i) (suc n) h = keeps_set marks i n h

-- what isn't marked then wasn't before
pub still_set : (marks : List Bool) (i n : ℕ) → get_or (set marks i true) n false ≡ false → get_or marks n false ≡ false
still_set [] i n h = h
still_set (b ∷ marks) zero zero h = cc
still_set (b ∷ marks) zero (suc n) h = h
still_set (b ∷ marks) (suc i) zero h = h
still_set (b ∷ marks) (suc i) (suc n) h = still_set marks i n h

keeps_mark : (ns : List ℕ) (marks : List Bool) (n : ℕ) → is_marked marks n ≡ true → is_marked (with_marks marks ns) n ≡ true
keeps_mark [] marks n h = h
keeps_mark (m ∷ ns) marks n h = keeps_mark ns (with_mark marks m) n (keeps_set marks m n h)

pub still_marks : (ns : List ℕ) (marks : List Bool) (n : ℕ) → is_marked (with_marks marks ns) n ≡ false → is_marked marks n ≡ false
still_marks [] marks n h = h
still_marks (m ∷ ns) marks n h = still_set marks m n (still_marks ns (with_mark marks m) n h)

pub length-with_marks : (ns : List ℕ) (marks : List Bool) → length (with_marks marks ns) ≡ length marks
length-with_marks [] marks = refl
length-with_marks (m ∷ ns) marks = length-with_marks ns (with_mark marks m) ∙ length-set marks m true

-- each unit that was marked is marked again
again : (old marks : List Bool) (first i n : ℕ) → n ≡ first + i → n < length marks → get_or old i false ≡ true
    → is_marked (with_marks marks (marked_from first old)) n ≡ true
again [] marks first i n is less h = cc
again (true ∷ old) marks first zero n is less h =
    keeps_mark (marked_from (first + 1) old) (with_mark marks first) n
    (subst (λ k. get_or (set marks first true) k false ≡ true) (sym (is ∙ omega arith)) (get_or-set_same marks first true false (omega arith)))
again (true ∷ old) marks first (suc i) n is less h =
    again old (with_mark marks first) (first + 1) i n (omega arith) (omega (arith, length-set marks first true)) h
again (false ∷ old) marks first zero n is less h = cc
again (false ∷ old) marks first (suc i) n is less h = again old marks (first + 1) i n (omega arith) less h

off : (old marks : List Bool) (n : ℕ) (b : Bool) → length old ≡ length marks → is_marked (with_marks marks (marked old)) n ≡ false
    → is_marked old n ≡ b → (n < length old) ⊎ (length old ≤ n) → is_marked old n ≡ false
off old marks n false long h is place = is
off old marks n true long h is (inl less) =
    let there : is_marked (with_marks marks (marked old)) n ≡ true = again old marks 0 n n (omega arith) (omega arith) is in
    absurd (false≢true (sym h ∙ there))
off old marks n true long h is (inr past) = get_or_past old n false past

-- what isn't marked after marking again wasn't marked at first
pub off_again : (old marks : List Bool) (n : ℕ) → length old ≡ length marks → is_marked (with_marks marks (marked old)) n ≡ false
    → is_marked old n ≡ false
off_again old marks n long h = off old marks n (is_marked old n) long h refl (cases_lt n (length old))
