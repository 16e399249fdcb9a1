-- Pending requests by their tickets. Lists alone.
use Rattle.std.proofs.Common.{◌≡◌, ◌≢◌, ℕ, suc, zero, ◌+◌, ◌<◌, ◌≤◌, List, [], ◌∷◌, ◌++◌, length, get_or, cond, refl, sym, ◌∙◌, ap, subst, inl, inr, arith, Option, Some, None}
use Rattle.std.proofs.lemmas.Bool.{cond-true, cond-false, eq-eqb, ne_eqb, cases_eq}
use Rattle.std.specs.Prelude.{◌==◌, remove}
use Rattle.reissue.proofs.Maps.{is_put}
use Rattle.reissue.specs.declared.pending.Pending.{Pending}
use Rattle.reissue.specs.Entries.{AreRising, AreDistinct, AreUpTo, IsAmong, IsFresh, begun_of, pending_of}
use Rattle.reissue.specs.Moves.{Begun, put}

-- a ticket that none before has
pub pending_front : (xs ys : List Pending) (t : ℕ) → IsFresh t xs → pending_of (xs ++ ys) t ≡ pending_of ys t
pending_front [] ys t f = refl
pending_front (x ∷ xs) ys t f =
    cond-false (x.ticket == t) (Some (begun_of x)) (pending_of (xs ++ ys) t) (ne_eqb x.ticket t f.0) ∙ pending_front xs ys t f.1

-- a ticket that none has
pub pending_none : (ps : List Pending) (t : ℕ) → IsFresh t ps → pending_of ps t ≡ None
pending_none [] t f = refl
pending_none (p ∷ ps) t f =
    cond-false (p.ticket == t) (Some (begun_of p)) (pending_of ps t) (ne_eqb p.ticket t f.0) ∙ pending_none ps t f.1

-- the first with a ticket
pub pending_here : (q : Pending) (ys : List Pending) (t : ℕ) → t ≡ q.ticket → pending_of (q ∷ ys) t ≡ Some (begun_of q)
pending_here q ys t e = cond-true (q.ticket == t) (Some (begun_of q)) (pending_of ys t) (eq-eqb q.ticket t (sym e))

-- past one with another ticket
pub pending_skip : (xs ys : List Pending) (q : Pending) (m : ℕ) → q.ticket ≢ m → pending_of (xs ++ q ∷ ys) m ≡ pending_of (xs ++ ys) m
pending_skip [] ys q m h = cond-false (q.ticket == m) (Some (begun_of q)) (pending_of ys m) (ne_eqb q.ticket m h)
pending_skip (x ∷ xs) ys q m h = ap (λ (o : Option Begun). cond (x.ticket == m) (Some (begun_of x)) o) (pending_skip xs ys q m h)

-- nothing at the end
pending_end : (xs : List Pending) (m : ℕ) → pending_of (xs ++ []) m ≡ pending_of xs m
pending_end [] m = refl
pending_end (x ∷ xs) m = ap (λ (o : Option Begun). cond (x.ticket == m) (Some (begun_of x)) o) (pending_end xs m)

-- a new ticket, also without one
fresh_less : (t : ℕ) (q : Pending) (xs ys : List Pending) → IsFresh t (xs ++ q ∷ ys) → (q.ticket ≢ t) × IsFresh t (xs ++ ys)
fresh_less t q [] ys h = (h.0, h.1)
fresh_less t q (x ∷ xs) ys h = let r = fresh_less t q xs ys h.1 in (r.0, (h.0, r.1))

-- one taken out
pub distinct_out : (q : Pending) (xs ys : List Pending) → AreDistinct (xs ++ q ∷ ys) → AreDistinct (xs ++ ys) × IsFresh q.ticket (xs ++ ys)
distinct_out q [] ys h = (h.1, h.0)
distinct_out q (x ∷ xs) ys h =
    let here = fresh_less x.ticket q xs ys h.0 in
    let rest = distinct_out q xs ys h.1 in
    ((here.1, rest.0), (λ e. here.0 (sym e), rest.1))

-- one more with a new ticket
pub distinct_push : (q : Pending) (xs : List Pending) → AreDistinct xs → IsFresh q.ticket xs → AreDistinct (xs ++ q ∷ [])
distinct_push q [] h f = (tt, tt)
distinct_push q (x ∷ xs) h f = (further x xs h.0 (λ e. f.0 (sym e)), distinct_push q xs h.1 f.1) where
  further : (x : Pending) (xs : List Pending) → IsFresh x.ticket xs → q.ticket ≢ x.ticket → IsFresh x.ticket (xs ++ q ∷ [])
  further x [] h n = (n, tt)
  further x (y ∷ ys) h n = (h.0, further x ys h.1 n)

-- the bound, without one
pub up_to_out : (ids : ℕ) (q : Pending) (xs ys : List Pending) → AreUpTo ids (xs ++ q ∷ ys) → AreUpTo ids (xs ++ ys) × (q.ticket ≤ ids)
up_to_out ids q [] ys h = (h.1, h.0)
up_to_out ids q (x ∷ xs) ys h = let r = up_to_out ids q xs ys h.1 in ((h.0, r.0), r.1)

-- the bound, with one more
pub up_to_push : (ids : ℕ) (q : Pending) (xs : List Pending) → AreUpTo ids xs → q.ticket ≤ ids + 1 → AreUpTo (ids + 1) (xs ++ q ∷ [])
up_to_push ids q [] h le = (le, tt)
up_to_push ids q (x ∷ xs) h le = (omega (arith, h.0), up_to_push ids q xs h.1 le)

-- a ticket above the bound is new
pub fresh_above : (ids t : ℕ) (ps : List Pending) → AreUpTo ids ps → ids < t → IsFresh t ps
fresh_above ids t [] h lt = tt
fresh_above ids t (p ∷ ps) h lt = (λ e. omega (arith, h.0, e), fresh_above ids t ps h.1 lt)

-- a request is taken up
pub pending_pushed : (q : Pending) (xs : List Pending) → IsFresh q.ticket xs
    → pending_of (xs ++ q ∷ []) ≡ put (pending_of xs) q.ticket (Some (begun_of q))
pending_pushed q xs f =
    is_put (pending_of xs) (pending_of (xs ++ q ∷ [])) q.ticket (Some (begun_of q))
    (pending_front xs (q ∷ []) q.ticket f ∙ pending_here q [] q.ticket refl)
    (λ m h. pending_skip xs [] q m (λ e. h (sym e)) ∙ pending_end xs m)

-- a request is settled
pub pending_removed : (q : Pending) (xs ys : List Pending) → AreDistinct (xs ++ q ∷ ys)
    → pending_of (xs ++ ys) ≡ put (pending_of (xs ++ q ∷ ys)) q.ticket None
pending_removed q xs ys d =
    is_put (pending_of (xs ++ q ∷ ys)) (pending_of (xs ++ ys)) q.ticket None
    (pending_none (xs ++ ys) q.ticket (distinct_out q xs ys d).1)
    (λ m h. sym (pending_skip xs ys q m (λ e. h (sym e))))

-- the one with its ticket
pub pending_at : (q : Pending) (xs ys : List Pending) → AreDistinct (xs ++ q ∷ ys) → pending_of (xs ++ q ∷ ys) q.ticket ≡ Some (begun_of q)
pending_at q [] ys d = pending_here q ys q.ticket refl
pending_at q (x ∷ xs) ys d =
    cond-false (x.ticket == q.ticket) (Some (begun_of x)) (pending_of (xs ++ q ∷ ys) q.ticket)
    (ne_eqb x.ticket q.ticket (λ e. (fresh_less x.ticket q xs ys d.0).0 (sym e)))
    ∙ pending_at q xs ys d.1

-- a request goes on with its rest, at the end of the table
pub pending_rest : (q r : Pending) (xs ys : List Pending) → AreDistinct (xs ++ q ∷ ys)
    → r.ticket ≡ q.ticket → begun_of r ≡ begun_of q
    → pending_of ((xs ++ ys) ++ r ∷ []) ≡ pending_of (xs ++ q ∷ ys)
pending_rest q r xs ys d t o = λ i m. each m i where
  each : (m : ℕ) → pending_of ((xs ++ ys) ++ r ∷ []) m ≡ pending_of (xs ++ q ∷ ys) m
  each m = elim (cases_eq m q.ticket) [
    | inl e ↦
        pending_front (xs ++ ys) (r ∷ []) m (subst (λ (n : ℕ). IsFresh n (xs ++ ys)) (sym e) (distinct_out q xs ys d).1)
        ∙ pending_here r [] m (e ∙ sym t) ∙ ap (λ (x : Begun). Some x) o
        ∙ sym (ap (pending_of (xs ++ q ∷ ys)) e ∙ pending_at q xs ys d)
    | inr h ↦
        pending_skip (xs ++ ys) [] r m (λ e. h (sym e ∙ t)) ∙ pending_end (xs ++ ys) m
        ∙ sym (pending_skip xs ys q m (λ e. h (sym e)))
  ]

-- one between others is one of them
pub among_split : (q : Pending) (xs ys : List Pending) → IsAmong q (xs ++ q ∷ ys)
among_split q [] ys = inl refl
among_split q (x ∷ xs) ys = inr (among_split q xs ys)

-- the one at a place is one of them
pub among_at : (ps : List Pending) (i : ℕ) (d : Pending) → i < length ps → IsAmong (get_or ps i d) ps
among_at [] i d lt = absurd (omega arith)
among_at (p ∷ ps) zero d lt = inl refl
among_at (p ∷ ps) (suc i) d lt = inr (among_at ps i d (omega arith))

-- a new ticket is none of theirs
not_fresh : (q : Pending) (t : ℕ) (ps : List Pending) → IsAmong q ps → IsFresh t ps → q.ticket ≢ t
not_fresh q t [] i f = absurd i
not_fresh q t (p ∷ ps) (inl e) f = λ h. f.0 (sym (ap (λ (x : Pending). x.ticket) e) ∙ h)
not_fresh q t (p ∷ ps) (inr i) f = not_fresh q t ps i f.1

-- each has its ticket
pub pending_among : (q : Pending) (ps : List Pending) → AreDistinct ps → IsAmong q ps → pending_of ps q.ticket ≡ Some (begun_of q)
pending_among q [] d i = absurd i
pending_among q (p ∷ ps) d (inl e) = pending_here p ps q.ticket (ap (λ (x : Pending). x.ticket) e) ∙ ap (λ (x : Pending). Some (begun_of x)) (sym e)
pending_among q (p ∷ ps) d (inr i) =
    cond-false (p.ticket == q.ticket) (Some (begun_of p)) (pending_of ps q.ticket)
    (ne_eqb p.ticket q.ticket (λ e. not_fresh q p.ticket ps i d.0 (sym e)))
    ∙ pending_among q ps d.1 i

-- an entry of a table, by its place
pub record Split (ps : List Pending) (at : ℕ) (e : Pending) : Type 0 where
  pub front : List Pending
  pub back : List Pending
  pub whole : ps ≡ front ++ e ∷ back
  pub gone : remove ps at ≡ front ++ back

-- the one at a place, with those before and behind
pub split_at : (ps : List Pending) (at : ℕ) (e : Pending) → at < length ps → e ≡ get_or ps at e → Split ps at e
split_at [] at e lt is = absurd (omega arith)
split_at (p ∷ ps) zero e lt is = record { front = []; back = ps; whole = ap (λ (x : Pending). x ∷ ps) (sym is); gone = refl }
split_at (p ∷ ps) (suc at) e lt is =
    let r = split_at ps at e (omega arith) is in
    record {
      front = p ∷ r.front;
      back = r.back;
      whole = ap (λ (l : List Pending). p ∷ l) r.whole;
      gone = ap (λ (l : List Pending). p ∷ l) r.gone;
    }

-- a lower bound holds too
pub rising_lower : (low m ids : ℕ) (ps : List Pending) → low ≤ m → AreRising m ids ps → AreRising low ids ps
rising_lower low m ids [] le h = tt
rising_lower low m ids (p ∷ ps) le h = (omega (arith, h.0), h.1, h.2)

-- the ids of the others rise
pub rising_out : (low ids : ℕ) (q : Pending) (xs ys : List Pending) → AreRising low ids (xs ++ q ∷ ys) → AreRising low ids (xs ++ ys)
rising_out low ids q [] ys h = rising_lower low q.request.id ids ys (omega (arith, h.0)) h.2
rising_out low ids q (x ∷ xs) ys h = (h.0, h.1, rising_out x.request.id ids q xs ys h.2)

-- the next id goes to the end
pub rising_push : (low ids : ℕ) (q : Pending) (xs : List Pending) → low ≤ ids → q.request.id ≡ ids + 1 → AreRising low ids xs
    → AreRising low (ids + 1) (xs ++ q ∷ [])
rising_push low ids q [] le e h = (omega (arith, le, e), omega (arith, e), tt)
rising_push low ids q (x ∷ xs) le e h = (h.0, omega (arith, h.1), rising_push x.request.id ids q xs h.1 e h.2)
