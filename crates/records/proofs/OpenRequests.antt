-- What a well-formed record says of its open requests.
use Rattle.std.proofs.Common.{◌≡◌, ◌⊎◌, ℕ, ◌+◌, ◌<◌, ◌≤◌, List, [], ◌∷◌, ◌++◌, Bool, true, false, cond, refl, sym, ◌∙◌, ap, subst, inl, inr, arith, max, Option, Some}
use Rattle.std.proofs.lemmas.Bool.Decides.{nat_tests}
use Rattle.std.specs.Prelude.{nat_lt, is_some, ◌==◌}
use Rattle.lemmas.proofs.Numbers.{less_fails, less_holds}
use Rattle.message.specs.declared.endpoint.Endpoint.{Endpoint}
use Rattle.message.specs.declared.BlockRequest.{BlockRequest}
use Rattle.message.specs.declared.BlockReply.{BlockReply}
use Rattle.records.specs.Marks.{Mark, Issued, Started, Answered, Flush, GaveUp, Took, Fault}
use Rattle.records.specs.Open.{greatest, open_requests, without_id, with_id, moved_of, Misses, MissesAll, IsIn, IsNew, IsAgain, IsWellFormed}

-- each of these has an id up to g
abbrev pub Below : ℕ → List BlockRequest → Type 0
Below g [] = Unit {0}
Below g (r ∷ rs) = (r.id ≤ g) × Below g rs

-- a greater bound holds too
below_more : (g h : ℕ) (rs : List BlockRequest) → g ≤ h → Below g rs → Below h rs
below_more g h [] le b = tt
below_more g h (r ∷ rs) le b = (omega (arith, b.0), below_more g h rs le b.1)

-- one more up to the bound
below_push : (g : ℕ) (rs : List BlockRequest) (r : BlockRequest) → Below g rs → r.id ≤ g → Below g (rs ++ r ∷ [])
below_push g [] r b le = (le, tt)
below_push g (s ∷ rs) r b le = (b.0, below_push g rs r b.1 le)

-- what holds of both holds of either
pub cond_has : {X : Type 0} (P : X → Type 0) (b : Bool) (x y : X) → P x → P y → P (cond b x y)
cond_has P true x y p q = p
cond_has P false x y p q = q

-- one taken out
below_without : (g id : ℕ) (rs : List BlockRequest) → Below g rs → Below g (without_id id rs)
below_without g id [] b = tt
below_without g id (r ∷ rs) b =
    cond_has (Below g) (r.id == id) rs (r ∷ without_id id rs) b.1 (b.0, below_without g id rs b.1)

-- no open id is above the greatest
pub below_open : (marks : List Mark) → Below (greatest marks) (open_requests marks)
below_open [] = tt
below_open (Issued r e ∷ marks) =
    let old : Below (max (greatest marks) r.id) (open_requests marks) =
    below_more (greatest marks) (max (greatest marks) r.id) (open_requests marks) (omega arith) (below_open marks) in
    cond_has (Below (max (greatest marks) r.id)) (nat_lt (greatest marks) r.id)
    (open_requests marks ++ r ∷ []) (open_requests marks)
    (below_push (max (greatest marks) r.id) (open_requests marks) r old (omega arith)) old
below_open (Answered a ∷ marks) =
    cond_has (Below (greatest marks)) (is_some (moved_of (with_id a.id (open_requests marks)) a))
    (without_id a.id (open_requests marks)) (open_requests marks)
    (below_without (greatest marks) a.id (open_requests marks) (below_open marks)) (below_open marks)
below_open (Started e ∷ marks) = below_open marks
below_open (Flush ∷ marks) = below_open marks
below_open (GaveUp ∷ marks) = below_open marks
below_open (Took who now call said ∷ marks) = below_open marks
below_open (Fault e cause ∷ marks) = below_open marks

-- a request of the list has an id up to the bound
below_in : (g : ℕ) (rs : List BlockRequest) (r : BlockRequest) → Below g rs → IsIn r rs → r.id ≤ g
below_in g [] r b i = absurd i
below_in g (s ∷ rs) r b (inl e) = let h : r.id ≡ s.id = ap (λ (x : BlockRequest). x.id) e in omega (arith, b.0)
below_in g (s ∷ rs) r b (inr i) = below_in g rs r b.1 i

-- an open request has an id up to the greatest
pub open_below : (marks : List Mark) (r : BlockRequest) → IsIn r (open_requests marks) → r.id ≤ greatest marks
open_below marks r i = below_in (greatest marks) (open_requests marks) r (below_open marks) i

-- an issue of an id up to the greatest opens nothing
pub open_again : (marks : List Mark) (r : BlockRequest) (to : Endpoint) → r.id ≤ greatest marks
    → open_requests (Issued r to ∷ marks) ≡ open_requests marks
open_again marks r to h =
    ap (λ (b : Bool). cond b (open_requests marks ++ r ∷ []) (open_requests marks)) (less_fails (greatest marks) r.id h)

-- one of a greater id opens its request, at the end
pub open_new : (marks : List Mark) (r : BlockRequest) (to : Endpoint) → greatest marks < r.id
    → open_requests (Issued r to ∷ marks) ≡ open_requests marks ++ r ∷ []
open_new marks r to h =
    ap (λ (b : Bool). cond b (open_requests marks ++ r ∷ []) (open_requests marks)) (less_holds (greatest marks) r.id h)

-- what is in a list with one more at the end
pub in_push : (rs : List BlockRequest) (r q : BlockRequest) → IsIn q (rs ++ r ∷ []) → IsIn q rs ⊎ (q ≡ r)
in_push [] r q (inl e) = inr e
in_push [] r q (inr i) = absurd i
in_push (s ∷ rs) r q (inl e) = inl (inl e)
in_push (s ∷ rs) r q (inr i) = elim (in_push rs r q i) [ inl h ↦ inl (inr h) | inr h ↦ inr h ]

-- what was in the list
pub in_push_old : (rs : List BlockRequest) (r q : BlockRequest) → IsIn q rs → IsIn q (rs ++ r ∷ [])
in_push_old [] r q i = absurd i
in_push_old (s ∷ rs) r q (inl e) = inl e
in_push_old (s ∷ rs) r q (inr i) = inr (in_push_old rs r q i)

-- the one at the end
pub in_push_new : (rs : List BlockRequest) (r : BlockRequest) → IsIn r (rs ++ r ∷ [])
in_push_new [] r = inl refl
in_push_new (s ∷ rs) r = inr (in_push_new rs r)

-- the open requests after an issue
pub record OpenAfterIssue (marks : List Mark) (r : BlockRequest) (e : Endpoint) : Type 0 where
  pub old : (q : BlockRequest) → IsIn q (open_requests marks) → IsIn q (open_requests (Issued r e ∷ marks))
  pub own : IsIn r (open_requests (Issued r e ∷ marks))
  pub only : (q : BlockRequest) → IsIn q (open_requests (Issued r e ∷ marks)) → IsIn q (open_requests marks) ⊎ ((q ≡ r) × (r.id ≡ greatest marks + 1))

-- an issue opens its request if it is new, and no other
pub open_after_issue : (marks : List Mark) (r : BlockRequest) (e : Endpoint) → IsNew marks r ⊎ IsAgain marks r → OpenAfterIssue marks r e
open_after_issue marks r e (inl new) =
    let is : open_requests (Issued r e ∷ marks) ≡ open_requests marks ++ r ∷ [] = open_new marks r e (omega (arith, new.next)) in
    record {
      old = λ q i. subst (λ (l : List BlockRequest). IsIn q l) (sym is) (in_push_old (open_requests marks) r q i);
      own = subst (λ (l : List BlockRequest). IsIn r l) (sym is) (in_push_new (open_requests marks) r);
      only = λ q i. elim (in_push (open_requests marks) r q (subst (λ (l : List BlockRequest). IsIn q l) is i)) [ inl h ↦ inl h | inr h ↦ inr (h, new.next) ];
    }
open_after_issue marks r e (inr again) =
    let is : open_requests (Issued r e ∷ marks) ≡ open_requests marks = open_again marks r e (open_below marks r again.same) in
    record {
      old = λ q i. subst (λ (l : List BlockRequest). IsIn q l) (sym is) i;
      own = subst (λ (l : List BlockRequest). IsIn r l) (sym is) again.same;
      only = λ q i. inl (subst (λ (l : List BlockRequest). IsIn q l) is i);
    }

-- two open requests are one, or miss each other
abbrev AllMiss : List BlockRequest → Type 0
AllMiss [] = Unit {0}
AllMiss (r ∷ rs) = MissesAll r rs × AllMiss rs

-- missing goes both ways
pub misses_sym : (r s : BlockRequest) → Misses r s → Misses s r
misses_sym r s m = record { apart = elim m.apart [ inl h ↦ inr h | inr h ↦ inl h ] }

-- a request misses one more
misses_push : (r s : BlockRequest) (rs : List BlockRequest) → MissesAll s rs → Misses r s → MissesAll s (rs ++ r ∷ [])
misses_push r s [] m h = (h, tt)
misses_push r s (q ∷ rs) m h = (m.0, misses_push r s rs m.1 h)

-- all miss each other, with one more that misses all
all_miss_push : (r : BlockRequest) (rs : List BlockRequest) → AllMiss rs → MissesAll r rs → AllMiss (rs ++ r ∷ [])
all_miss_push r [] a m = (tt, tt)
all_miss_push r (s ∷ rs) a m = (misses_push r s rs a.0 (misses_sym s r m.0), all_miss_push r rs a.1 m.1)

-- a request misses what is left
misses_without : (id : ℕ) (r : BlockRequest) (rs : List BlockRequest) → MissesAll r rs → MissesAll r (without_id id rs)
misses_without id r [] m = tt
misses_without id r (s ∷ rs) m =
    cond_has (MissesAll r) (s.id == id) rs (s ∷ without_id id rs) m.1 (m.0, misses_without id r rs m.1)

-- and so do all that are left
all_miss_without : (id : ℕ) (rs : List BlockRequest) → AllMiss rs → AllMiss (without_id id rs)
all_miss_without id [] a = tt
all_miss_without id (s ∷ rs) a =
    cond_has AllMiss (s.id == id) rs (s ∷ without_id id rs) a.1 (misses_without id s rs a.0, all_miss_without id rs a.1)

-- open requests miss each other
all_miss : (marks : List Mark) → IsWellFormed marks → AllMiss (open_requests marks)
all_miss [] w = tt
all_miss (Issued r e ∷ marks) w = at (all_miss marks w.0) w.1.1 where
  at : AllMiss (open_requests marks) → IsNew marks r ⊎ IsAgain marks r → AllMiss (open_requests (Issued r e ∷ marks))
  at old (inl new) = subst AllMiss (sym (open_new marks r e (omega (arith, new.next)))) (all_miss_push r (open_requests marks) old new.apart)
  at old (inr again) = subst AllMiss (sym (open_again marks r e (open_below marks r again.same))) old
all_miss (Answered a ∷ marks) w =
    cond_has AllMiss (is_some (moved_of (with_id a.id (open_requests marks)) a))
    (without_id a.id (open_requests marks)) (open_requests marks)
    (all_miss_without a.id (open_requests marks) (all_miss marks w.0)) (all_miss marks w.0)
all_miss (Started e ∷ marks) w = all_miss marks w.0
all_miss (Flush ∷ marks) w = all_miss marks w.0
all_miss (GaveUp ∷ marks) w = all_miss marks w.0
all_miss (Took who now call said ∷ marks) w = all_miss marks w.0
all_miss (Fault e cause ∷ marks) w = all_miss marks w.0

-- a request misses each of those that miss it
misses_in : (r s : BlockRequest) (rs : List BlockRequest) → MissesAll r rs → IsIn s rs → Misses s r
misses_in r s [] m i = absurd i
misses_in r s (q ∷ rs) m (inl e) = let P : BlockRequest → Type 0 = λ x. Misses x r in subst P (sym e) m.0
misses_in r s (q ∷ rs) m (inr i) = misses_in r s rs m.1 i

-- two of a list whose requests miss each other
two_in : (r s : BlockRequest) (rs : List BlockRequest) → AllMiss rs → IsIn r rs → IsIn s rs → (r ≡ s) ⊎ Misses r s
two_in r s [] a i j = absurd i
two_in r s (q ∷ rs) a (inl e) (inl f) = inl (e ∙ sym f)
two_in r s (q ∷ rs) a (inl e) (inr j) = inr (let P : BlockRequest → Type 0 = λ x. Misses x s in subst P (sym e) (misses_sym s q (misses_in q s rs a.0 j)))
two_in r s (q ∷ rs) a (inr i) (inl f) = inr (let P : BlockRequest → Type 0 = λ x. Misses r x in subst P (sym f) (misses_in q r rs a.0 i))
two_in r s (q ∷ rs) a (inr i) (inr j) = two_in r s rs a.1 i j

-- two open requests are one, or miss each other
pub two_open : (marks : List Mark) → IsWellFormed marks → (r s : BlockRequest) → IsIn r (open_requests marks) → IsIn s (open_requests marks) → (r ≡ s) ⊎ Misses r s
two_open marks w r s i j = two_in r s (open_requests marks) (all_miss marks w) i j

-- what is open after an answer was open before
in_without : (id : ℕ) (q : BlockRequest) (rs : List BlockRequest) → IsIn q (without_id id rs) → IsIn q rs
in_without id q [] i = i
in_without id q (r ∷ rs) i = at (λ j. in_without id q rs j) (r.id == id) i where
  at : (IsIn q (without_id id rs) → IsIn q rs) → (b : Bool) → IsIn q (cond b rs (r ∷ without_id id rs)) → IsIn q (r ∷ rs)
  at rest true i = inr i
  at rest false (inl e) = inl e
  at rest false (inr j) = inr (rest j)

-- what is open after an answer was open before
pub open_answered : (marks : List Mark) (a : BlockReply) (q : BlockRequest) → IsIn q (open_requests (Answered a ∷ marks)) → IsIn q (open_requests marks)
open_answered marks a q i = at (is_some (moved_of (with_id a.id (open_requests marks)) a)) i where
  at : (b : Bool) → IsIn q (cond b (without_id a.id (open_requests marks)) (open_requests marks)) → IsIn q (open_requests marks)
  at true i = in_without a.id q (open_requests marks) i
  at false i = i

-- what is not answered stays open
in_without_other : (id : ℕ) (q : BlockRequest) (rs : List BlockRequest) → (q.id ≡ id → ⊥) → IsIn q rs → IsIn q (without_id id rs)
in_without_other id q [] other i = i
in_without_other id q (r ∷ rs) other i = at (λ j. in_without_other id q rs other j) (r.id == id) refl i where
  at : (IsIn q rs → IsIn q (without_id id rs)) → (b : Bool) → (r.id == id) ≡ b → IsIn q (r ∷ rs) → IsIn q (cond b rs (r ∷ without_id id rs))
  at rest true t (inl e) = absurd (other (let h : q.id ≡ r.id = ap (λ (x : BlockRequest). x.id) e in let k : r.id ≡ id = grind (arith, nat_tests) in h ∙ k))
  at rest true t (inr j) = j
  at rest false t (inl e) = inl e
  at rest false t (inr j) = inr (rest j)

-- what the answer is not for stays open
pub open_stays : (marks : List Mark) (a : BlockReply) (q : BlockRequest) → (q.id ≡ a.id → ⊥) → IsIn q (open_requests marks) → IsIn q (open_requests (Answered a ∷ marks))
open_stays marks a q other i =
    cond_has (IsIn q) (is_some (moved_of (with_id a.id (open_requests marks)) a))
    (without_id a.id (open_requests marks)) (open_requests marks)
    (in_without_other a.id q (open_requests marks) other i) i

-- the request that an answer is for
pub with_id_in : (id : ℕ) (rs : List BlockRequest) (r : BlockRequest) → with_id id rs ≡ Some r → IsIn r rs × (r.id ≡ id)
with_id_in id [] r e = cc
with_id_in id (s ∷ rs) r e = at (λ h. with_id_in id rs r h) (s.id == id) refl e where
  at : (with_id id rs ≡ Some r → IsIn r rs × (r.id ≡ id)) → (b : Bool) → (s.id == id) ≡ b → cond b (Some s) (with_id id rs) ≡ Some r → IsIn r (s ∷ rs) × (r.id ≡ id)
  at rest true t e = let h : s ≡ r = cc in let k : s.id ≡ id = grind (arith, nat_tests) in (inl (sym h), ap (λ (x : BlockRequest). x.id) (sym h) ∙ k)
  at rest false t e = let h = rest e in (inr h.0, h.1)

-- a request that is left when the first with an id is taken out misses that one
left_misses : (id : ℕ) (q r : BlockRequest) (rs : List BlockRequest) → AllMiss rs → with_id id rs ≡ Some r → IsIn q (without_id id rs) → Misses q r
left_misses id q r [] a e i = cc
left_misses id q r (s ∷ rs) a e i = at (λ f j. left_misses id q r rs a.1 f j) (s.id == id) e i where
  at : (with_id id rs ≡ Some r → IsIn q (without_id id rs) → Misses q r) → (b : Bool) → cond b (Some s) (with_id id rs) ≡ Some r → IsIn q (cond b rs (s ∷ without_id id rs)) → Misses q r
  at rest true e i = let h : s ≡ r = cc in let P : BlockRequest → Type 0 = λ x. Misses q x in subst P h (misses_in s q rs a.0 i)
  at rest false e (inl f) = let P : BlockRequest → Type 0 = λ x. Misses x r in subst P (sym f) (misses_sym r s (misses_in s r rs a.0 (with_id_in id rs r e).0))
  at rest false e (inr j) = rest e j

-- what stays open after a good answer misses the request that was answered
pub open_misses : (marks : List Mark) → IsWellFormed marks → (a : BlockReply) (r q : BlockRequest) (n : ℕ)
    → with_id a.id (open_requests marks) ≡ Some r → moved_of (with_id a.id (open_requests marks)) a ≡ Some n
    → IsIn q (open_requests (Answered a ∷ marks)) → Misses q r
open_misses marks w a r q n is good i =
    left_misses a.id q r (open_requests marks) (all_miss marks w) is
    (let P : Option ℕ → Type 0 = λ o. IsIn q (cond (is_some o) (without_id a.id (open_requests marks)) (open_requests marks)) in subst P good i)

-- an id is of one open request
pub one_id : (marks : List Mark) → IsWellFormed marks → (r s : BlockRequest) → IsIn r (open_requests marks) → IsIn s (open_requests marks) → r.id ≡ s.id → r ≡ s
one_id [] w r s i j same = absurd i
one_id (Issued q e ∷ marks) w r s i j same =
    at (λ k l. one_id marks w.0 r s k l same) ((open_after_issue marks q e w.1.1).only r i) ((open_after_issue marks q e w.1.1).only s j) where
      at : (IsIn r (open_requests marks) → IsIn s (open_requests marks) → r ≡ s)
          → IsIn r (open_requests marks) ⊎ ((r ≡ q) × (q.id ≡ greatest marks + 1))
          → IsIn s (open_requests marks) ⊎ ((s ≡ q) × (q.id ≡ greatest marks + 1)) → r ≡ s
      at old (inl k) (inl l) = old k l
      at old (inl k) (inr n) =
          let le : r.id ≤ greatest marks = open_below marks r k in
          let is : s.id ≡ q.id = ap (λ (x : BlockRequest). x.id) n.0 in absurd (omega (arith, le, is, n.1, same))
      at old (inr m) (inl l) =
          let le : s.id ≤ greatest marks = open_below marks s l in
          let is : r.id ≡ q.id = ap (λ (x : BlockRequest). x.id) m.0 in absurd (omega (arith, le, is, m.1, same))
      at old (inr m) (inr n) = m.0 ∙ sym n.0
one_id (Answered a ∷ marks) w r s i j same = one_id marks w.0 r s (open_answered marks a r i) (open_answered marks a s j) same
one_id (Started e ∷ marks) w r s i j same = one_id marks w.0 r s i j same
one_id (Flush ∷ marks) w r s i j same = one_id marks w.0 r s i j same
one_id (GaveUp ∷ marks) w r s i j same = one_id marks w.0 r s i j same
one_id (Took who now call said ∷ marks) w r s i j same = one_id marks w.0 r s i j same
one_id (Fault e cause ∷ marks) w r s i j same = one_id marks w.0 r s i j same
