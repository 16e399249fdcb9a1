-- A driver takes what was issued to it in its order, and answers each once.
use Rattle.std.proofs.Common.{◌≡◌, ℕ, ◌+◌, ◌<◌, ◌≤◌, List, [], ◌∷◌, ◌++◌, Bool, true, false, refl, sym, ◌∙◌, ap, subst, arith, ◌⊎◌, inl, inr}
use Rattle.std.specs.Prelude.{◌||◌, ◌==◌, max, if◌then◌else◌, Option, Some, None}
use Rattle.message.specs.declared.BlockRequest.{BlockRequest}
use Rattle.message.specs.declared.BlockReply.{BlockReply}
use Rattle.bdev.specs.DriverState.{DriverState, Work}
use Rattle.records.specs.Open.{IsIn}
use Rattle.schedule.specs.Groups.{Each}
use Rattle.true_replies.specs.Events.{reply_of}
use Rattle.conformance.proofs.FollowLaws.{same_number, other_number}
use Rattle.conformance.specs.Took.{TookNothing}
use Rattle.conformance.proofs.Small.{number_is, none_more, each_on, each_with, each_in}
use Rattle.conformance.proofs.DriverMoves.{Handing, Leaves, IsOld, IsTaken, Stepping, Idles, GoesOn, Ends}
use Rattle.conformance.proofs.TakingLaws.{has_id, Taken}
use Rattle.conformance.proofs.Answering.{limit, limit_of, limit_none, limit_taken, idle_limit, going_limit, AtLast, at_last, Replied, replied_first, replied_hands, replied_steps, replied_again, replied_issues}

-- From this id on the line goes on to the next one that was issued, or back, and at its end to the last one: between the greatest id so far
-- and the next on the line none was issued.
abbrev pub LeadsFrom : List BlockRequest → ℕ → List BlockRequest → Type 0
LeadsFrom issued id [] = Each (λ r. r.id ≤ id) issued
LeadsFrom issued id (q ∷ line) = Each (λ r. (r.id ≤ id) ⊎ (q.id ≤ r.id)) issued × LeadsFrom issued (max id q.id) line

-- how many of these replies have this id
abbrev pub times : ℕ → List BlockReply → ℕ
times id [] = 0
times id (a ∷ replies) = if a.id == id then times id replies + 1 else times id replies

-- the line leads to all that was issued, and each id that was issued and is done with has one reply
pub record Leads (issued : List BlockRequest) (replies : List BlockReply) (d : DriverState) (line : List BlockRequest) : Type 0 where
  pub replied : Replied issued replies d line
  pub leads : LeadsFrom issued d.last line
  pub one : Each (λ r. r.id < limit d → times r.id replies ≡ 1) issued

low_left : (a b m : ℕ) → a ≤ m → a ≤ max m b
low_left a b m h = omega (arith, h)

low_right : (b m : ℕ) → b ≤ max m b
low_right b m = omega arith

leads_again : (issued : List BlockRequest) (id : ℕ) (line : List BlockRequest) (r : BlockRequest) → LeadsFrom issued id line
    → LeadsFrom issued id (line ++ r ∷ [])
leads_again issued id [] r h = (
  each_on (λ x. x.id ≤ id) (λ x. (x.id ≤ id) ⊎ (r.id ≤ x.id)) issued (λ x low. inl low) h,
  each_on (λ x. x.id ≤ id) (λ x. x.id ≤ max id r.id) issued (λ x low. low_left x.id r.id id low) h,
)
leads_again issued id (q ∷ line) r h = (h.0, leads_again issued (max id q.id) line r h.1)

leads_issues : (issued : List BlockRequest) (id : ℕ) (line : List BlockRequest) (r : BlockRequest) → Each (λ x. x.id < r.id) issued
    → Each (λ x. IsIn x issued) line → LeadsFrom issued id line → LeadsFrom (r ∷ issued) id (line ++ r ∷ [])
leads_issues issued id [] r above among h = (
  (inr (omega arith), each_on (λ x. x.id ≤ id) (λ x. (x.id ≤ id) ⊎ (r.id ≤ x.id)) issued (λ x low. inl low) h),
  (low_right r.id id, each_on (λ x. x.id ≤ id) (λ x. x.id ≤ max id r.id) issued (λ x low. low_left x.id r.id id low) h),
)
leads_issues issued id (q ∷ line) r above among h = (
  (inr (less q.id r.id (each_in (λ x. x.id < r.id) q issued among.0 above)), h.0),
  leads_issues issued (max id q.id) line r above among.1 h.1,
) where
  less : (m n : ℕ) → m < n → m ≤ n
  less m n h = omega (arith, h)

pub leads_first : (d : DriverState) → TookNothing d → Leads [] [] d []
leads_first d new = record { replied = replied_first d new; leads = tt; one = tt }

-- the front of the line
old_max : (id q : ℕ) → q ≤ id → max id q ≡ id
old_max id q low = omega (arith, low)

new_max : (id q n : ℕ) → id < q → n ≡ q → max id q ≡ n
new_max id q n above is = omega (arith, above, is)

pub leads_hands : (issued : List BlockRequest) (replies : List BlockReply) (b a : DriverState) (line left : List BlockRequest)
    → Handing b a line left
    → Leads issued replies b line → Leads issued replies a left
leads_hands issued replies b a line _ (Leaves _ is) h = subst (λ (x : DriverState). Leads issued replies x line) (sym is) h
leads_hands issued replies b a _ _ (IsOld q rest low is) h = record {
  replied = replied_hands issued replies b a (q ∷ rest) rest (IsOld q rest low is) h.replied;
  leads = subst (λ (x : DriverState). LeadsFrom issued x.last rest) (sym is)
      (subst (λ (n : ℕ). LeadsFrom issued n rest) (old_max b.last q.id low) h.leads.1);
  one = subst (λ (x : DriverState). Each (λ r. r.id < limit x → times r.id replies ≡ 1) issued) (sym is) h.one;
}
leads_hands issued replies b a _ _ (IsTaken q rest none above takes) h = record {
  replied = replied_hands issued replies b a (q ∷ rest) rest (IsTaken q rest none above takes) h.replied;
  leads = subst (λ (n : ℕ). LeadsFrom issued n rest) (new_max b.last q.id a.last above takes.last) h.leads.1;
  one = each_with (λ r. r.id < limit b → times r.id replies ≡ 1) (λ r. (r.id ≤ b.last) ⊎ (q.id ≤ r.id))
      (λ r. r.id < limit a → times r.id replies ≡ 1) issued
      (λ r was next low. was (below r.id b.last q.id (limit b) (limit a) (limit_none b none)
      (limit_taken q b a takes) low next)) h.one h.leads.0;
} where
  below : (r m n x y : ℕ) → x ≡ m + 1 → y ≡ n → r < y → (r ≤ m) ⊎ (n ≤ r) → r < x
  below r m n x y e f low (inl k) = omega (arith, e, k)
  below r m n x y e f low (inr k) = absurd (not_both r n y f low k) where
    not_both : (r n y : ℕ) → y ≡ n → r < y → n ≤ r → ⊥
    not_both r n y f low k = omega (arith, f, low, k)

-- a reply more
pub times_push : (id : ℕ) (replies : List BlockReply) (x : BlockReply)
    → times id (replies ++ x ∷ []) ≡ times id replies + (if x.id == id then 1 else 0)
times_push id [] x = by (x.id == id) where
  by : (b : Bool) → (if b then 0 + 1 else 0) ≡ 0 + (if b then 1 else 0)
  by true = refl
  by false = refl
times_push id (a ∷ replies) x =
    ap (λ (n : ℕ). if a.id == id then n + 1 else n) (times_push id replies x)
    ∙ by (a.id == id) (times id replies) (if x.id == id then 1 else 0) where
      by : (b : Bool) (m n : ℕ) → (if b then (m + n) + 1 else m + n) ≡ (if b then m + 1 else m) + n
      by true m n = omega arith
      by false m n = refl

-- none has an id above them all
pub times_none : (id : ℕ) (replies : List BlockReply) → Each (λ a. a.id < id) replies → times id replies ≡ 0
times_none id [] low = refl
times_none id (a ∷ replies) low =
    ap (λ (b : Bool). if b then times id replies + 1 else times id replies) (other_number a.id id (λ is. less a.id id is low.0))
    ∙ times_none id replies low.1 where
      less : (m n : ℕ) → m ≡ n → m < n → ⊥
      less m n is low = omega (arith, is, low)

pub leads_steps : (issued : List BlockRequest) (replies : List BlockReply) (line : List BlockRequest) (g : ℕ) (b a : DriverState)
    (answers : List BlockReply)
    → Stepping g b a answers → Leads issued replies b line → Leads issued (replies ++ answers) a line
leads_steps issued replies line g b a _ (Idles was now last bad) h = record {
  replied = replied_steps issued replies line g b a [] (Idles was now last bad) h.replied;
  leads = subst (λ (n : ℕ). LeadsFrom issued n line) (sym last) h.leads;
  one = subst (λ (l : List BlockReply). Each (λ r. r.id < limit a → times r.id l ≡ 1) issued) (none_more replies)
      (subst (λ (n : ℕ). Each (λ r. r.id < n → times r.id replies ≡ 1) issued) (sym (idle_limit b a was now last)) h.one);
}
leads_steps issued replies line g b a _ (GoesOn w w' was now same last bad) h = record {
  replied = replied_steps issued replies line g b a [] (GoesOn w w' was now same last bad) h.replied;
  leads = subst (λ (n : ℕ). LeadsFrom issued n line) (sym last) h.leads;
  one = subst (λ (l : List BlockReply). Each (λ r. r.id < limit a → times r.id l ≡ 1) issued) (none_more replies)
      (subst (λ (n : ℕ). Each (λ r. r.id < n → times r.id replies ≡ 1) issued) (sym (going_limit b a w w' was now last)) h.one);
}
leads_steps issued replies line g b a _ (Ends w answer was now id last bad) h =
    let at : AtLast b a answer.id = at_last issued replies line b a w answer was now id last h.replied.taken in
    record {
      replied = replied_steps issued replies line g b a (reply_of g answer ∷ []) (Ends w answer was now id last bad) h.replied;
      leads = subst (λ (n : ℕ). LeadsFrom issued n line) (sym last) h.leads;
      one = each_on (λ r. r.id < limit b → times r.id replies ≡ 1)
          (λ r. r.id < limit a → times r.id (replies ++ reply_of g answer ∷ []) ≡ 1) issued
          (λ r before low. times_push r.id replies (reply_of g answer)
          ∙ by at r.id before (subst (λ (n : ℕ). Each (λ x. x.id < n) replies) at.was h.replied.done)
          (split r.id answer.id (limit a) at.now low)) h.one;
    } where
      split : (r m n : ℕ) → n ≡ m + 1 → r < n → (r < m) ⊎ (m ≡ r)
      split r m n is low = grind (arith, is, low)

      differ : (r m : ℕ) → r < m → m ≡ r → ⊥
      differ r m low is = omega (arith, low, is)

      by : AtLast b a answer.id → (r : ℕ) → (r < limit b → times r replies ≡ 1) → Each (λ x. x.id < answer.id) replies
          → (r < answer.id) ⊎ (answer.id ≡ r)
          → times r replies + (if answer.id == r then 1 else 0) ≡ 1
      by at r before low (inl less) =
          ap (λ (t : Bool). times r replies + (if t then 1 else 0)) (other_number answer.id r (λ is. differ r answer.id less is))
          ∙ ap (λ (n : ℕ). n + 0) (before (subst (λ (n : ℕ). r < n) (sym at.was) less))
      by at r before low (inr is) =
          ap (λ (t : Bool). times r replies + (if t then 1 else 0)) (ap (λ (n : ℕ). n == r) is ∙ same_number r)
          ∙ ap (λ (n : ℕ). n + 1) (times_none r replies (subst (λ (n : ℕ). Each (λ x. x.id < n) replies) is low))

pub leads_again_too : (issued : List BlockRequest) (replies : List BlockReply) (d : DriverState) (line : List BlockRequest)
    (r : BlockRequest) → IsIn r issued
    → Leads issued replies d line → Leads issued replies d (line ++ r ∷ [])
leads_again_too issued replies d line r is h = record {
  replied = replied_again issued replies d line r is h.replied;
  leads = leads_again issued d.last line r h.leads;
  one = h.one;
}

-- an id that was issued is below each one above them all
pub has_below : (id n : ℕ) (rs : List BlockRequest) → has_id id rs ≡ true → Each (λ x. x.id < n) rs → id < n
has_below id n [] has h = cc
has_below id n (r ∷ rs) has h = by (λ k. has_below id n rs k h.1) (r.id == id) refl has where
  by : (has_id id rs ≡ true → id < n) → (b : Bool) → (r.id == id) ≡ b → (b || has_id id rs) ≡ true → id < n
  by later true is k = subst (λ (x : ℕ). x < n) (number_is r.id id is) h.0
  by later false is k = later k

last_below : (issued : List BlockRequest) (replies : List BlockReply) (d : DriverState) (line : List BlockRequest) (n : ℕ)
    → Taken issued replies d line
    → Each (λ x. x.id < n) issued → 0 < n → d.last < n
last_below issued replies d line n h above some = by (d.last == 0) refl h.last where
  by : (b : Bool) → (d.last == 0) ≡ b → (b || has_id d.last issued) ≡ true → d.last < n
  by true is k = subst (λ (x : ℕ). x < n) (sym (number_is d.last 0 is)) some
  by false is k = has_below d.last n issued k above

pub limit_most : (d : DriverState) → limit d ≤ d.last + 1
limit_most d = by d.work where
  by : (o : Option Work) → limit_of o d.last ≤ d.last + 1
  by None = omega arith
  by (Some w) = omega arith

pub limit_below : (issued : List BlockRequest) (replies : List BlockReply) (d : DriverState) (line : List BlockRequest) (n : ℕ)
    → Taken issued replies d line
    → Each (λ x. x.id < n) issued → 0 < n → limit d ≤ n
limit_below issued replies d line n h above some =
    let low : d.last < n = last_below issued replies d line n h above some in
    at_most (limit d) d.last n (limit_most d) low where
      at_most : (x l n : ℕ) → x ≤ l + 1 → l < n → x ≤ n
      at_most x l n most low = omega (arith, most, low)

pub leads_issues_too : (issued : List BlockRequest) (replies : List BlockReply) (d : DriverState) (line : List BlockRequest)
    (r : BlockRequest)
    → Each (λ x. x.id < r.id) issued → 0 < r.id → Leads issued replies d line → Leads (r ∷ issued) replies d (line ++ r ∷ [])
leads_issues_too issued replies d line r above some h = record {
  replied = replied_issues issued replies d line r h.replied;
  leads = leads_issues issued d.last line r above h.replied.taken.waits h.leads;
  one = (λ low. absurd (not_both (limit d) r.id (limit_below issued replies d line r.id h.replied.taken above some) low), h.one);
} where
  not_both : (m n : ℕ) → m ≤ n → n < m → ⊥
  not_both m n most low = omega (arith, most, low)
