-- Lists of pending requests in the rising order of their ids: what taking one out leaves of their ends.
use Rattle.std.proofs.Common.{◌≡◌, ℕ, suc, zero, ◌+◌, ◌-◌, ◌<◌, ◌≤◌, List, [], ◌∷◌, ◌++◌, length, drop, map, get_or, cond, refl, sym, ◌∙◌, ap, subst, inl, inr, arith}
use Rattle.std.proofs.lemmas.Bool.{cond-true, cond-false, eq-eqb, ne_eqb}
use Rattle.std.proofs.lemmas.Bool.Decides.{leb_tells, nat_tests}
use Rattle.std.proofs.lemmas.List.{length-append}
use Rattle.std.specs.Prelude.{nat_lt, remove, ◌==◌}
use Rattle.message.specs.declared.BlockRequest.{BlockRequest}
use Rattle.records.specs.Open.{without_id}
use Rattle.reissue.specs.declared.pending.Pending.{Pending}
use Rattle.reissue.specs.Entries.{AreRising, request_of}
use Rattle.reissue.proofs.Tickets.{rising_lower}

-- the end of a rising list rises
pub rising_drop : (low ids n : ℕ) (ps : List Pending) → AreRising low ids ps → AreRising low ids (drop n ps)
rising_drop low ids zero ps h = h
rising_drop low ids (suc n) [] h = tt
rising_drop low ids (suc n) (p ∷ ps) h = rising_lower low p.request.id ids (drop n ps) (omega (arith, h.0)) (rising_drop p.request.id ids n ps h.2)

-- an id that is below all of them is none of theirs
pub without_lower : (id low ids : ℕ) (ps : List Pending) → AreRising low ids ps → id ≤ low → without_id id (map request_of ps) ≡ map request_of ps
without_lower id low ids [] h le = refl
without_lower id low ids (p ∷ ps) h le =
    cond-false (p.request.id == id) (map request_of ps) (p.request ∷ without_id id (map request_of ps)) (ne_eqb p.request.id id (λ e. omega (arith, e, h.0, le)))
    ∙ ap (λ (l : List BlockRequest). p.request ∷ l) (without_lower id p.request.id ids ps h.2 (omega (arith, h.0, le)))

-- each id is above the bound
above_at : (low ids i : ℕ) (ps : List Pending) (d : Pending) → AreRising low ids ps → i < length ps → low < (get_or ps i d).request.id
above_at low ids i [] d h lt = absurd (omega arith)
above_at low ids zero (p ∷ ps) d h lt = h.0
above_at low ids (suc i) (p ∷ ps) d h lt = let r = above_at p.request.id ids i ps d h.2 (omega arith) in omega (arith, r, h.0)

-- the entry's id is above the bound
above_entry : (low ids i : ℕ) (ps : List Pending) (e : Pending) → AreRising low ids ps → i < length ps → e ≡ get_or ps i e → low < e.request.id
above_entry low ids i ps e h lt is =
    subst (λ (x : Pending). low < x.request.id) (sym is) (above_at low ids i ps e h lt)

-- without its id, the list without the entry
pub without_at : (low ids at : ℕ) (ps : List Pending) (e : Pending) → AreRising low ids ps → at < length ps → e ≡ get_or ps at e
    → without_id e.request.id (map request_of ps) ≡ map request_of (remove ps at)
without_at low ids at [] e h lt is = absurd (omega arith)
without_at low ids zero (p ∷ ps) e h lt is =
    cond-true (p.request.id == e.request.id) (map request_of ps) (p.request ∷ without_id e.request.id (map request_of ps))
    (eq-eqb p.request.id e.request.id (ap (λ (x : Pending). x.request.id) (sym is)))
without_at low ids (suc at) (p ∷ ps) e h lt is =
    let above = above_entry p.request.id ids at ps e h.2 (omega arith) is in
    cond-false (p.request.id == e.request.id) (map request_of ps) (p.request ∷ without_id e.request.id (map request_of ps))
    (ne_eqb p.request.id e.request.id (λ s. omega (arith, s, above)))
    ∙ ap (λ (l : List BlockRequest). p.request ∷ l) (without_at p.request.id ids at ps e h.2 (omega arith) is)

-- one before the end: the end stays, and none of it has the id
pub without_before : (low ids m at : ℕ) (ps : List Pending) (e : Pending) → AreRising low ids ps → at < length ps → e ≡ get_or ps at e → at ≤ m
    → without_id e.request.id (map request_of (drop (suc m) ps)) ≡ map request_of (drop m (remove ps at))
without_before low ids m at [] e h lt is le = absurd (omega arith)
without_before low ids m zero (p ∷ ps) e h lt is le =
    without_lower e.request.id p.request.id ids (drop m ps) (rising_drop p.request.id ids m ps h.2)
    (omega (arith, ap (λ (x : Pending). x.request.id) is))
without_before low ids zero (suc at) (p ∷ ps) e h lt is le = absurd (omega arith)
without_before low ids (suc m) (suc at) (p ∷ ps) e h lt is le = without_before p.request.id ids m at ps e h.2 (omega arith) is (omega arith)

-- one in the end
pub without_after : (low ids n at : ℕ) (ps : List Pending) (e : Pending) → AreRising low ids ps → at < length ps → e ≡ get_or ps at e → n ≤ at
    → without_id e.request.id (map request_of (drop n ps)) ≡ map request_of (drop n (remove ps at))
without_after low ids n at [] e h lt is le = absurd (omega arith)
without_after low ids zero at (p ∷ ps) e h lt is le = without_at low ids at (p ∷ ps) e h lt is
without_after low ids (suc n) zero (p ∷ ps) e h lt is le = absurd (omega arith)
without_after low ids (suc n) (suc at) (p ∷ ps) e h lt is le = without_after p.request.id ids n at ps e h.2 (omega arith) is (omega arith)

-- both, as the count of those posted changes
pub without_posted : (ids at n k : ℕ) (ps : List Pending) (e : Pending) → AreRising 0 ids ps → at < length ps → e ≡ get_or ps at e
    → k ≡ cond (nat_lt at n) (n - 1) n → without_id e.request.id (map request_of (drop n ps)) ≡ map request_of (drop k (remove ps at))
without_posted ids at n k ps e h lt is count = by n count where
  by : (n : ℕ) → k ≡ cond (nat_lt at n) (n - 1) n → without_id e.request.id (map request_of (drop n ps)) ≡ map request_of (drop k (remove ps at))
  by zero c =
      let same : k ≡ 0 = grind (arith, nat_tests) in
      rw same (without_after 0 ids 0 at ps e h lt is (omega arith))
  by (suc m) c = elim (leb_tells (suc m) at) [
    | inl le ↦ let same : k ≡ suc m = grind (arith, nat_tests) in rw same (without_after 0 ids (suc m) at ps e h lt is le.1)
    | inr gt ↦ let same : k ≡ m = grind (arith, nat_tests) in rw same (without_before 0 ids m at ps e h lt is (omega (arith, gt.1)))
  ]

-- what stands behind the entry stays
pub drop_removed : (m at : ℕ) (ps : List Pending) → at ≤ m → drop m (remove ps at) ≡ drop (suc m) ps
drop_removed zero zero [] le = refl
drop_removed (suc m) zero [] le = refl
drop_removed zero (suc at) [] le = absurd (omega arith)
drop_removed (suc m) (suc at) [] le = refl
drop_removed m zero (p ∷ ps) le = refl
drop_removed zero (suc at) (p ∷ ps) le = absurd (omega arith)
drop_removed (suc m) (suc at) (p ∷ ps) le = drop_removed m at ps (omega arith)

-- the end with one more behind it
pub drop_push : (n : ℕ) (ps : List Pending) (q : Pending) → n ≤ length ps → drop n (ps ++ q ∷ []) ≡ drop n ps ++ q ∷ []
drop_push zero ps q le = refl
drop_push (suc n) [] q le = absurd (omega arith)
drop_push (suc n) (p ∷ ps) q le = drop_push n ps q (omega arith)

-- no list has an end but no list
drop_none : (k : ℕ) → ◌≡◌ {A = List Pending} (drop k []) []
drop_none zero = refl
drop_none (suc k) = refl

-- the end of an end
pub drop_twice : (n m : ℕ) (ps : List Pending) → drop n (drop m ps) ≡ drop (m + n) ps
drop_twice n zero ps = let none : 0 + n ≡ n = omega arith in rw none refl
drop_twice n (suc m) [] = drop_none n ∙ sym (drop_none (suc m + n))
drop_twice n (suc m) (p ∷ ps) =
    let next : suc m + n ≡ suc (m + n) = omega arith in
    rw next (drop_twice n m ps)

-- what stands before one end cancels
pub append_cancel : {X : Type 0} (xs ys zs : List X) → xs ++ zs ≡ ys ++ zs → xs ≡ ys
append_cancel {X} [] [] zs e = refl
append_cancel {X} [] (y ∷ ys) zs e = absurd (longer (ap (λ (l : List X). length l) e)) where
  longer : length zs ≡ length ((y ∷ ys) ++ zs) → ⊥
  longer h = omega (arith, h, length-append (y ∷ ys) zs)
append_cancel {X} (x ∷ xs) [] zs e = absurd (longer (ap (λ (l : List X). length l) e)) where
  longer : length ((x ∷ xs) ++ zs) ≡ length zs → ⊥
  longer h = omega (arith, h, length-append (x ∷ xs) zs)
append_cancel {X} (x ∷ xs) (y ∷ ys) zs e =
    let head : x ≡ y = cc in
    let tail : xs ++ zs ≡ ys ++ zs = cc in
    rw head (ap (λ (l : List X). y ∷ l) (append_cancel xs ys zs tail))
