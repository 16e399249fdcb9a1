-- What a table owes its link before and after its posts.
use Rattle.std.proofs.Common.{◌≡◌, ℕ, suc, zero, ◌+◌, ◌-◌, ◌<◌, ◌≤◌, List, [], ◌∷◌, ◌++◌, length, take, drop, map, max, Bool, true, false, cond, refl, sym, ◌∙◌, ap, subst, inl, inr, arith, Option, Some, None}
use Rattle.std.proofs.lemmas.Bool.Decides.{leb_tells, nat_tests}
use Rattle.std.proofs.lemmas.List.{take-append-drop, length-drop, length-append}
use Rattle.std.specs.Prelude.{nat_lt, is_some, ◌&&◌, not, IsTrue}
use Rattle.lemmas.proofs.Bools.{or_right}
use Rattle.message.specs.declared.endpoint.Endpoint.{Endpoint}
use Rattle.records.specs.Marks.{Mark, last_started, gave_up}
use Rattle.records.specs.Open.{open_requests, has_none}
use Rattle.records.specs.Told.{Told}
use Rattle.records.specs.Area.{Area}
use Rattle.records.specs.Acts.{Outbox, KeepsRules, outbox_after, IsAtRest, needs_message, target}
use Rattle.reissue.specs.declared.pending.Pending.{Pending}
use Rattle.reissue.specs.declared.table.Table.{Table}
use Rattle.reissue.specs.Entries.{AreRising, AllIn, request_of, pending_of}
use Rattle.reissue.specs.Moves.{Begun, IsBusy}
use Rattle.reissue.specs.Agrees.{Agrees, unposted, never_issued}
use Rattle.reissue.specs.Posts.{ArePostedTo, PostsInOrder, accepted_of}
use Rattle.reissue.specs.Rules.{outbox_of, at_link}
use Rattle.reissue.proofs.Order.{drop_twice, append_cancel, rising_drop}
use Rattle.reissue.proofs.PostRules.{box, box_same, posted_keep}

-- what is owed before the posts that a message or a new request asks for
abbrev pub loose : Table → Outbox
loose t = box (never_issued t) (unposted t) false

-- the same end of the same list
pub ends_same : (n m : ℕ) (ps qs : List Pending) → n ≡ m → ps ≡ qs → map request_of (drop n ps) ≡ map request_of (drop m qs)
ends_same n m ps qs e f = ap (λ (k : ℕ). map request_of (drop k ps)) e ∙ ap (λ (l : List Pending). map request_of (drop m l)) f

-- so is an end of them
in_drop : (area : Area) (n : ℕ) (ps : List Pending) → AllIn area ps → AllIn area (drop n ps)
in_drop area zero ps h = h
in_drop area (suc n) [] h = tt
in_drop area (suc n) (p ∷ ps) h = in_drop area n ps h.1

-- less by as many on both sides
less_shift : (k p l m : ℕ) → m ≡ l - p → p ≤ l → nat_lt k m ≡ nat_lt (p + k) l
less_shift k p l m e le = elim (leb_tells l (p + k)) [ inl h ↦ grind (arith, nat_tests) | inr h ↦ grind (arith, nat_tests) ]

-- what a table's posts keep, and what it owes then
pub record PostsKeep (area : Area) (mid new : Table) (marks : List Mark) (posts : List Told) : Type 0 where
  pub keeps : KeepsRules area (at_link posts) marks (loose mid)
  pub owes : outbox_after (at_link posts) marks (loose mid) ≡ outbox_of new

-- with nowhere to post to
none_posted : (area : Area) (mid new : Table) (marks : List Mark) (between after posts : List Told)
    → new.current ≡ None → after ≡ between → after ≡ posts ++ between
    → new.pending ≡ mid.pending → new.posted ≡ mid.posted + accepted_of posts → new.issued ≡ max mid.issued new.posted
    → PostsKeep area mid new marks posts
none_posted area mid new marks between after posts current e history pending posted issued =
    let none : posts ≡ [] = append_cancel posts [] between (sym history ∙ e) in
    let zero_more : accepted_of posts ≡ 0 = ap accepted_of none in
    let P : List Told → Type 0 = λ ts. PostsKeep area mid new marks ts in
    subst P (sym none) (record {
      keeps = tt;
      owes = box_same (never_issued mid) (never_issued new) (unposted mid) (unposted new) false (is_some new.current && nat_lt new.posted (length new.pending))
          (ends_same mid.issued new.issued mid.pending new.pending (omega (arith, issued, posted, zero_more, mid.order)) (sym pending))
          (ends_same mid.posted new.posted mid.pending new.pending (omega (arith, posted, zero_more)) (sym pending))
          (rw current refl);
    })

-- with an endpoint to post to
some_posted : (area : Area) (mid new : Table) (to : Endpoint) (marks : List Mark) (between after posts : List Told)
    → new.current ≡ Some to → target marks ≡ Some to → AllIn area mid.pending
    → ArePostedTo to (unposted mid) between after → after ≡ posts ++ between
    → new.pending ≡ mid.pending → new.posted ≡ mid.posted + accepted_of posts → new.issued ≡ max mid.issued new.posted
    → PostsKeep area mid new marks posts
some_posted area mid new to marks between after posts current started minors h history pending posted issued =
    let n = mid.issued - mid.posted in
    let us = drop mid.posted mid.pending in
    let fs = take n us in
    let ws = drop n us in
    let whole : fs ++ ws ≡ us = take-append-drop n us in
    let x = posted_keep area 0 mid.ids to fs ws marks between after
    (subst (λ (l : List Pending). AreRising 0 mid.ids l) (sym whole) (rising_drop 0 mid.ids mid.posted mid.pending mid.numbers.rising))
    (subst (λ (l : List Pending). AllIn area l) (sym whole) (in_drop area mid.posted mid.pending minors)) started
    (subst (λ (l : List Pending). ArePostedTo to (map request_of l) between after) (sym whole) h) in
    let same : x.posts ≡ posts = append_cancel x.posts posts between (sym x.history ∙ history) in
    let count : accepted_of x.posts ≡ accepted_of posts = ap accepted_of same in
    let long : length us ≡ length mid.pending - mid.posted = length-drop mid.posted mid.pending in
    let rest : length ws ≡ length us - n = length-drop n us in
    let both : length fs + length ws ≡ length us = sym (length-append fs ws) ∙ ap (λ (l : List Pending). length l) whole in
    let issued_part : length fs ≡ n = omega (arith, long, rest, both, mid.within, mid.order) in
    let at : mid.posted + n ≡ mid.issued = omega (arith, mid.order) in
    let first : box (map request_of ws) (map request_of (fs ++ ws)) false ≡ loose mid =
    box_same (map request_of ws) (never_issued mid) (map request_of (fs ++ ws)) (unposted mid) false false
    (ap (λ (l : List Pending). map request_of l) (drop_twice n mid.posted mid.pending) ∙ ends_same (mid.posted + n) mid.issued mid.pending mid.pending at refl)
    (ap (λ (l : List Pending). map request_of l) whole) refl in
    let last : box (map request_of (drop (accepted_of x.posts - length fs) ws)) (map request_of (drop (accepted_of x.posts) (fs ++ ws)))
    (nat_lt (accepted_of x.posts) (length (fs ++ ws))) ≡ outbox_of new =
    box_same (map request_of (drop (accepted_of x.posts - length fs) ws)) (never_issued new)
    (map request_of (drop (accepted_of x.posts) (fs ++ ws))) (unposted new)
    (nat_lt (accepted_of x.posts) (length (fs ++ ws))) (is_some new.current && nat_lt new.posted (length new.pending))
    (ap (λ (l : List Pending). map request_of l)
    (ap (λ (l : List Pending). drop (accepted_of x.posts - length fs) l) (drop_twice n mid.posted mid.pending)
    ∙ drop_twice (accepted_of x.posts - length fs) (mid.posted + n) mid.pending)
    ∙ ends_same (mid.posted + n + (accepted_of x.posts - length fs)) new.issued mid.pending new.pending
    (omega (arith, at, issued_part, count, issued, posted, mid.order)) (sym pending))
    (ap (λ (l : List Pending). map request_of (drop (accepted_of x.posts) l)) whole
    ∙ ap (λ (l : List Pending). map request_of l) (drop_twice (accepted_of x.posts) mid.posted mid.pending)
    ∙ ends_same (mid.posted + accepted_of x.posts) new.posted mid.pending new.pending (omega (arith, count, posted)) (sym pending))
    (ap (λ (l : List Pending). nat_lt (accepted_of x.posts) (length l)) whole
    ∙ less_shift (accepted_of x.posts) mid.posted (length mid.pending) (length us) long (omega (arith, mid.order, mid.within))
    ∙ rw (current, posted, pending, count) refl) in
    record {
      keeps = subst (λ (ts : List Told). KeepsRules area (at_link ts) marks (loose mid)) same
          (subst (λ (o : Outbox). KeepsRules area (at_link x.posts) marks o) first x.keeps);
      owes = subst (λ (ts : List Told). outbox_after (at_link ts) marks (loose mid) ≡ outbox_of new) same
          (subst (λ (o : Outbox). outbox_after (at_link x.posts) marks o ≡ outbox_of new) first (x.owes ∙ last));
    }

-- where requests are posted is the last start
started_of : (marks : List Mark) (o : Option Endpoint) → o ≡ target marks → gave_up marks ≡ false → last_started marks ≡ o
started_of marks o e g = sym (e ∙ rw g refl)

-- the posts of a table keep the rules
pub table_posts : (area : Area) (mid new : Table) (marks : List Mark) (between after posts : List Told)
    → mid.current ≡ target marks → new.current ≡ mid.current → AllIn area mid.pending
    → PostsInOrder mid.current (unposted mid) between after → after ≡ posts ++ between
    → new.pending ≡ mid.pending → new.posted ≡ mid.posted + accepted_of posts → new.issued ≡ max mid.issued new.posted
    → PostsKeep area mid new marks posts
table_posts area mid new marks between after posts current same minors h history pending posted issued =
    by mid.current refl h where
      by : (o : Option Endpoint) → mid.current ≡ o → PostsInOrder o (unposted mid) between after → PostsKeep area mid new marks posts
      by None e h = none_posted area mid new marks between after posts (same ∙ e) h history pending posted issued
      by (Some to) e h = some_posted area mid new to marks between after posts (same ∙ e) (sym current ∙ e) minors h history pending posted issued

-- between two calls nothing is due
none_left : (n : ℕ) (ps : List Pending) → length ps ≤ n → has_none (map request_of (drop n ps)) ≡ true
none_left zero [] le = refl
none_left zero (p ∷ ps) le = absurd (omega arith)
none_left (suc n) [] le = refl
none_left (suc n) (p ∷ ps) le = none_left n ps (omega arith)

-- no post is due between two calls
not_due : (t : Table) (o : Option Endpoint) → (is_some o && not (is_some o && nat_lt t.posted (length t.pending)) && not (has_none (unposted t))) ≡ false
not_due t None = refl
not_due t (Some e) = by (nat_lt t.posted (length t.pending)) refl where
  by : (b : Bool) → nat_lt t.posted (length t.pending) ≡ b → (not b && not (has_none (unposted t))) ≡ false
  by true e = refl
  by false e = let le : length t.pending ≤ t.posted = grind (arith, nat_tests) in rw (none_left t.posted t.pending le) refl

-- between two calls nothing is owed
pub at_rest : (t : Table) (marks : List Mark) → Agrees t marks → IsAtRest marks (outbox_of t)
at_rest t marks h = record {
  complaint = refl;
  post =
      let same : is_some (target marks) ≡ is_some t.current = ap (λ (o : Option Endpoint). is_some o) (sym h.holds.current) in
      ap (λ (b : Bool). b && not (is_some t.current && nat_lt t.posted (length t.pending)) && not (has_none (unposted t))) same ∙ not_due t t.current;
}

-- something is pending
some_pending : (ps : List Pending) → IsBusy (pending_of ps) → 0 < length ps
some_pending [] b = absurd (nothing b.request b.is) where
  nothing : (r : Begun) → None ≡ Some r → ⊥
  nothing r e = cc
some_pending (p ∷ ps) b = omega arith

-- something stands before the end
some_left : (n : ℕ) (ps : List Pending) → n < length ps → has_none (map request_of (drop n ps)) ≡ false
some_left n [] lt = absurd (omega arith)
some_left zero (p ∷ ps) lt = refl
some_left (suc n) (p ∷ ps) lt = some_left n ps (omega arith)

-- while something is pending, a message is needed
pub needed : (t : Table) (marks : List Mark) → Agrees t marks → gave_up marks ≡ false → IsBusy (pending_of t.pending)
    → IsTrue (needs_message marks (outbox_of t))
needed t marks h g b = by h.opened refl where
  waits : t.issued ≡ 0 → (o : Option Endpoint) → t.current ≡ o → last_started marks ≡ o
      → cond (is_some (last_started marks)) ((is_some t.current && nat_lt t.posted (length t.pending)) && not (has_none (unposted t))) (not (has_none (never_issued t))) ≡ true
  waits none None c l = rw (c, l) (ap not (some_left t.issued t.pending (omega (arith, none, some_pending t.pending b))))
  waits none (Some e) c l =
      let first : t.posted ≡ 0 = omega (arith, none, t.order) in
      let lt : t.posted < length t.pending = omega (arith, first, some_pending t.pending b) in
      let less : nat_lt t.posted (length t.pending) ≡ true = grind (arith, nat_tests) in
      rw (c, l, less, some_left t.posted t.pending lt) refl

  by : (os : List Pending) → h.opened ≡ os → IsTrue (needs_message marks (outbox_of t))
  by (p ∷ ps) e =
      let opened : open_requests marks ≡ map request_of (p ∷ ps) = sym h.holds.requests ∙ ap (λ (l : List Pending). map request_of l) e in
      rw opened refl
  by [] e =
      let none : t.issued ≡ 0 = h.holds.issued ∙ ap (λ (l : List Pending). length l) e in
      or_right (not (has_none (open_requests marks))) _ (waits none t.current refl (started_of marks t.current h.holds.current g))
