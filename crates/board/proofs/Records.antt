-- Beginnings of records, and what a mark more says of them.
use Rattle.std.proofs.Common.{◌≡◌, ◌≢◌, ℕ, ◌+◌, ◌≤◌, List, [], ◌∷◌, ◌++◌, length, Bool, true, false, ◌&&◌, ◌==◌, nat_le, if◌then◌else◌, Option, Some, refl, ap, sym, ◌∙◌, subst, inl, inr, ⊎_elim, arith, append_assoc, eq-eqb, ne_eqb}
use Rattle.std.proofs.lemmas.List.{append-nil, length-append}
use Rattle.std.proofs.lemmas.Bool.Decides.{nat_tests}
use Rattle.lemmas.proofs.Bools.{or_cases, or_right}
use Rattle.records.specs.Marks.{Mark, Started, Answered, Flush, GaveUp, Took, Issued, Fault, is_counted, counted, gave_up, IsBeginning}
use Rattle.records.proofs.Growing.{counted_one}
use Rattle.records.specs.LegalLaws.{is_call}
use Rattle.records.specs.Session.{calls_of, went_on, IsLonger}
use Rattle.records.proofs.Sessions.{own_calls_grow}
use Rattle.board.specs.Steps.{IsCallOf}

pub begins_self : (a : List Mark) → IsBeginning a a
begins_self a = record { later = []; is = refl }

pub begins_all : (a : List Mark) → IsBeginning [] a
begins_all a = record { later = a; is = sym (append-nil a) }

pub begins_with : (m : Mark) (a b : List Mark) → IsBeginning a b → IsBeginning a (m ∷ b)
begins_with m a b h = record { later = m ∷ h.later; is = ap (λ (ms : List Mark). m ∷ ms) h.is }

pub begins_through : (a b c : List Mark) → IsBeginning a b → IsBeginning b c → IsBeginning a c
begins_through a b c h k =
    record { later = k.later ++ h.later; is = k.is ∙ (ap (λ (ms : List Mark). k.later ++ ms) h.is ∙ sym (append_assoc k.later h.later a)) }

pub begins_length : (a b : List Mark) → IsBeginning a b → length a ≤ length b
begins_length a b h = let e = ap length h.is ∙ length-append h.later a in omega arith

none_of_length : (a : List Mark) → length a ≡ 0 → a ≡ []
none_of_length [] e = refl
none_of_length (m ∷ a) e = absurd (omega arith)

shorter_of : (p q a b : List Mark) → p ++ a ≡ q ++ b → length a ≤ length b → IsBeginning a b
shorter_of p [] a b e le = record { later = p; is = sym e }
shorter_of [] (m ∷ q) a b e le = let n = ap length e in let k = length-append q b in absurd (omega arith)
shorter_of (l ∷ p) (m ∷ q) a b e le = shorter_of p q a b (cc e) le

-- of two beginnings of one record the shorter begins the longer
pub begins_shorter : (a b c : List Mark) → IsBeginning a c → IsBeginning b c → length a ≤ length b → IsBeginning a b
begins_shorter a b c h k le = shorter_of h.later k.later a b (sym h.is ∙ k.is) le

pub begins_both : (a b : List Mark) → IsBeginning a b → IsBeginning b a → a ≡ b
begins_both a b h k =
    let le = begins_length b a k in
    let n = ap length h.is ∙ length-append h.later a in
    let e : h.later ≡ [] = none_of_length h.later (omega arith) in
    sym (h.is ∙ ap (λ (ms : List Mark). ms ++ a) e)

-- a record that is the longer of two, then of a further one and the first, is the longer of the further one and the second
pub longer_met : (a b c d : List Mark) → IsLonger c b a → IsLonger d a c → (d ≡ c) × IsLonger d a b
longer_met a b c d (inl h) (inl k) =
    let same : a ≡ b = begins_both a b h.1 (subst (λ (x : List Mark). IsBeginning x a) h.0 k.1) in
    (k.0 ∙ (same ∙ sym h.0), inl (k.0, subst (λ (x : List Mark). IsBeginning x a) h.0 k.1))
longer_met a b c d (inl h) (inr k) = (k.0, inr (k.0 ∙ h.0, h.1))
longer_met a b c d (inr h) (inl k) = (k.0 ∙ sym h.0, inl (k.0, h.1))
longer_met a b c d (inr h) (inr k) = (k.0, inl (k.0 ∙ h.0, h.1))

calls_begin : (n place : ℕ) (a b : List Mark) → IsBeginning a b → IsBeginning (calls_of n place a) (calls_of n place b)
calls_begin n place a b h =
    subst (λ (ms : List Mark). IsBeginning (calls_of n place a) (calls_of n place ms)) (sym h.is) (own_calls_grow n place h.later a)

-- the calls that a beginning and the whole record both have, each record between them has
pub between : (n place : ℕ) (mine a b c : List Mark) → IsBeginning a b → IsBeginning b c → mine ≡ calls_of n place a → mine ≡ calls_of n place c
    → mine ≡ calls_of n place b
between n place mine a b c h k here there =
    begins_both mine (calls_of n place b)
    (subst (λ (ms : List Mark). IsBeginning ms (calls_of n place b)) (sym here) (calls_begin n place a b h))
    (subst (λ (ms : List Mark). IsBeginning (calls_of n place b) ms) (sym there) (calls_begin n place b c k))

pub skips : (m : Mark) → is_call m ≡ false → (n place : ℕ) (marks : List Mark) → calls_of n place (m ∷ marks) ≡ calls_of n place marks
skips (Started e) plain n place marks = refl
skips (Answered a) plain n place marks = refl
skips Flush plain n place marks = refl
skips GaveUp plain n place marks = refl
skips (Took who now call answer) plain n place marks = absurd cc
skips (Issued r e) plain n place marks = refl
skips (Fault e cause) plain n place marks = refl

pub no_later_call : (m : Mark) → is_call m ≡ false → (marks : List Mark) → went_on (m ∷ marks) ≡ went_on marks
no_later_call (Started e) plain marks = refl
no_later_call (Answered a) plain marks = refl
no_later_call Flush plain marks = refl
no_later_call GaveUp plain marks = refl
no_later_call (Took who now call answer) plain marks = absurd cc
no_later_call (Issued r e) plain marks = refl
no_later_call (Fault e cause) plain marks = refl

pub uncounted_is_no_call : (m : Mark) → is_counted m ≡ false → is_call m ≡ false
uncounted_is_no_call (Started e) plain = refl
uncounted_is_no_call (Answered a) plain = refl
uncounted_is_no_call Flush plain = refl
uncounted_is_no_call GaveUp plain = refl
uncounted_is_no_call (Took who now call answer) plain = absurd cc
uncounted_is_no_call (Issued r e) plain = refl
uncounted_is_no_call (Fault e cause) plain = refl

pub counts_one : (m : Mark) (marks : List Mark) → is_counted m ≡ true → counted (m ∷ marks) ≡ counted marks + 1
counts_one m marks is = counted_one m marks ∙ ap (λ (b : Bool). counted marks + (if b then 1 else 0)) is

pub counts_none : (m : Mark) (marks : List Mark) → is_counted m ≡ false → counted (m ∷ marks) ≡ counted marks
counts_none m marks is =
    let e : counted (m ∷ marks) ≡ counted marks + 0 = counted_one m marks ∙ ap (λ (b : Bool). counted marks + (if b then 1 else 0)) is in omega arith

pub call_counts : (m : Mark) (number : Option ℕ) → IsCallOf number m → is_counted m ≡ true
call_counts (Took who now call answer) number is = refl
call_counts (Started e) number is = absurd is
call_counts (Answered a) number is = absurd is
call_counts Flush number is = absurd is
call_counts GaveUp number is = absurd is
call_counts (Issued r e) number is = absurd is
call_counts (Fault e cause) number is = absurd is

-- a call is one of its own number
pub call_is_own : (m : Mark) (number : Option ℕ) → IsCallOf number m → (n place : ℕ) (marks : List Mark) → number ≡ Some n → place ≤ length marks
    → calls_of n place (m ∷ marks) ≡ m ∷ calls_of n place marks
call_is_own (Took who now call answer) number is n place marks e le =
    let same : who.session ≡ n = cc in
    let first : (who.session == n) ≡ true = eq-eqb who.session n same in
    let second : nat_le place (length marks) ≡ true = grind (arith, nat_tests) in
    let both : ((who.session == n) && nat_le place (length marks)) ≡ true = ap (λ (b : Bool). b && nat_le place (length marks)) first ∙ second in
    ap (λ (b : Bool). if b then Took who now call answer ∷ calls_of n place marks else calls_of n place marks) both
call_is_own (Started x) number is n place marks e le = absurd is
call_is_own (Answered a) number is n place marks e le = absurd is
call_is_own Flush number is n place marks e le = absurd is
call_is_own GaveUp number is n place marks e le = absurd is
call_is_own (Issued r x) number is n place marks e le = absurd is
call_is_own (Fault x cause) number is n place marks e le = absurd is

-- and of no other
pub call_is_no_other : (m : Mark) (number : Option ℕ) → IsCallOf number m → (n place : ℕ) (marks : List Mark) → number ≢ Some n
    → calls_of n place (m ∷ marks) ≡ calls_of n place marks
call_is_no_other (Took who now call answer) number is n place marks ne =
    let other : (who.session == n) ≡ false = ne_eqb who.session n (λ e. ne (is ∙ ap (λ (k : ℕ). Some k) e)) in
    ap (λ (b : Bool). if b && nat_le place (length marks) then Took who now call answer ∷ calls_of n place marks else calls_of n place marks) other
call_is_no_other (Started x) number is n place marks ne = absurd is
call_is_no_other (Answered a) number is n place marks ne = absurd is
call_is_no_other Flush number is n place marks ne = absurd is
call_is_no_other GaveUp number is n place marks ne = absurd is
call_is_no_other (Issued r x) number is n place marks ne = absurd is
call_is_no_other (Fault x cause) number is n place marks ne = absurd is

pub gave_up_with : (m : Mark) (marks : List Mark) → gave_up marks ≡ true → gave_up (m ∷ marks) ≡ true
gave_up_with (Started e) marks h = h
gave_up_with (Answered a) marks h = h
gave_up_with Flush marks h = h
gave_up_with GaveUp marks h = refl
gave_up_with (Took who now call answer) marks h = h
gave_up_with (Issued r e) marks h = h
gave_up_with (Fault e cause) marks h = h

-- where a call was taken after the device was given up, it was given up
pub went_on_gave_up : (marks : List Mark) → went_on marks ≡ true → gave_up marks ≡ true
went_on_gave_up [] h = absurd cc
went_on_gave_up (Started e ∷ marks) h = went_on_gave_up marks h
went_on_gave_up (Answered a ∷ marks) h = went_on_gave_up marks h
went_on_gave_up (Flush ∷ marks) h = went_on_gave_up marks h
went_on_gave_up (GaveUp ∷ marks) h = refl
went_on_gave_up (Took who now call answer ∷ marks) h =
    ⊎_elim (λ (g : gave_up marks ≡ true). g) (λ g. went_on_gave_up marks g) (or_cases (gave_up marks) (went_on marks) h)
went_on_gave_up (Issued r e ∷ marks) h = went_on_gave_up marks h
went_on_gave_up (Fault e cause ∷ marks) h = went_on_gave_up marks h

pub call_goes_on : (m : Mark) (number : Option ℕ) → IsCallOf number m → (marks : List Mark) → went_on (m ∷ marks) ≡ true → gave_up marks ≡ true
call_goes_on (Took who now call answer) number is marks h = went_on_gave_up (Took who now call answer ∷ marks) h
call_goes_on (Started x) number is marks h = absurd is
call_goes_on (Answered a) number is marks h = absurd is
call_goes_on Flush number is marks h = absurd is
call_goes_on GaveUp number is marks h = absurd is
call_goes_on (Issued r x) number is marks h = absurd is
call_goes_on (Fault x cause) number is marks h = absurd is

went_on_with : (m : Mark) (marks : List Mark) → went_on marks ≡ true → went_on (m ∷ marks) ≡ true
went_on_with (Started e) marks h = h
went_on_with (Answered a) marks h = h
went_on_with Flush marks h = h
went_on_with GaveUp marks h = h
went_on_with (Took who now call answer) marks h = or_right (gave_up marks) (went_on marks) h
went_on_with (Issued r e) marks h = h
went_on_with (Fault e cause) marks h = h

went_on_later : (later a : List Mark) → went_on a ≡ true → went_on (later ++ a) ≡ true
went_on_later [] a h = h
went_on_later (m ∷ later) a h = went_on_with m (later ++ a) (went_on_later later a h)

-- a call taken after the giving up stays one in a longer record
pub went_on_longer : (a b : List Mark) → IsBeginning a b → went_on a ≡ true → went_on b ≡ true
went_on_longer a b h g = subst (λ (ms : List Mark). went_on ms ≡ true) (sym h.is) (went_on_later h.later a g)

before_place : (n place : ℕ) (later marks : List Mark) → length later + length marks ≤ place → calls_of n place (later ++ marks) ≡ calls_of n place marks
before_place n place [] marks le = refl
before_place n place (Started e ∷ later) marks le = before_place n place later marks (omega arith)
before_place n place (Answered a ∷ later) marks le = before_place n place later marks (omega arith)
before_place n place (Flush ∷ later) marks le = before_place n place later marks (omega arith)
before_place n place (GaveUp ∷ later) marks le = before_place n place later marks (omega arith)
before_place n place (Took who now call answer ∷ later) marks le =
    let l = length-append later marks in
    let out : nat_le place (length (later ++ marks)) ≡ false = grind (arith, nat_tests) in
    ap (λ (b : Bool). if (who.session == n) && b then Took who now call answer ∷ calls_of n place (later ++ marks) else calls_of n place (later ++ marks)) out
    ∙ (neither (who.session == n) (Took who now call answer) (calls_of n place (later ++ marks)) ∙ before_place n place later marks (omega arith))
  where
    neither : (b : Bool) (m : Mark) (rest : List Mark) → (if b && false then m ∷ rest else rest) ≡ rest
    neither true m rest = refl
    neither false m rest = refl
before_place n place (Issued r e ∷ later) marks le = before_place n place later marks (omega arith)
before_place n place (Fault e cause ∷ later) marks le = before_place n place later marks (omega arith)

-- a session that was just made has no calls in the record so far
pub calls_none : (n : ℕ) (marks : List Mark) → calls_of n (length marks) marks ≡ []
calls_none n marks =
    ap (λ (ms : List Mark). calls_of n (length marks) ms) (sym (append-nil marks))
    ∙ before_place n (length marks) marks [] (omega arith)
