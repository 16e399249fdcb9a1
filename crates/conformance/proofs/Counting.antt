-- A driver counts its replies that aren't good.
use Rattle.std.proofs.Common.{◌≡◌, ℕ, ◌+◌, ◌<◌, List, [], ◌∷◌, ◌++◌, Bool, true, false, refl, sym, ◌∙◌, ap, subst, arith, inl, inr}
use Rattle.std.specs.Prelude.{◌==◌, not, if◌then◌else◌, Option, Some, None, Result, Ok, Err, IfSome, is_some}
use Rattle.lemmas.proofs.Bools.{or_right}
use Rattle.errno.specs.declared.Errno.{Errno}
use Rattle.message.specs.Good.{is_good, moved}
use Rattle.message.specs.declared.BlockRequest.{BlockRequest}
use Rattle.message.specs.declared.BlockReply.{BlockReply}
use Rattle.bdev.specs.DriverState.{DriverState, Work}
use Rattle.records.specs.Open.{IsIn, moved_of}
use Rattle.schedule.specs.Groups.{Each}
use Rattle.true_replies.specs.Events.{reply_of}
use Rattle.conformance.proofs.FollowLaws.{same_number, other_number}
use Rattle.conformance.specs.Took.{TookNothing}
use Rattle.conformance.proofs.Small.{none_more, each_push, each_on, each_in}
use Rattle.conformance.proofs.Moves.{answers_of}
use Rattle.conformance.proofs.DriverMoves.{Handing, Leaves, IsOld, IsTaken, handing, Stepping, Idles, GoesOn, Ends, stepping}
use Rattle.conformance.proofs.EachDriver.{Keeps}
use Rattle.conformance.proofs.TakingLaws.{has_id, in_has, new_idle}
use Rattle.conformance.proofs.InPlace.{AreInPlace, shorter_in_place, issued_above}
use Rattle.conformance.proofs.Leading.{Leads, leads_first, leads_hands, leads_steps, leads_again_too, leads_issues_too, has_below}

-- the request with this id
abbrev pub request_with : ℕ → List BlockRequest → Option BlockRequest
request_with id [] = None
request_with id (r ∷ rs) = if r.id == id then Some r else request_with id rs

-- whether a reply is good for the request with its id
abbrev pub is_good_in : List BlockRequest → BlockReply → Bool
is_good_in issued a = is_some (moved_of (request_with a.id issued) a)

-- how many replies aren't good
abbrev pub bad_among : List BlockRequest → List BlockReply → ℕ
bad_among issued [] = 0
bad_among issued (a ∷ replies) = if not (is_good_in issued a) then bad_among issued replies + 1 else bad_among issued replies

-- each id is above those that were issued before
abbrev pub AreRising : List BlockRequest → Type 0
AreRising [] = Unit {0}
AreRising (r ∷ issued) = Each (λ x. x.id < r.id) issued × AreRising issued

-- each reply is of an id that was issued, and as many aren't good as the driver counts
pub record Counts (issued : List BlockRequest) (replies : List BlockReply) (d : DriverState) (line : List BlockRequest) : Type 0 where
  pub leads : Leads issued replies d line
  pub rising : AreRising issued
  pub asked : Each (λ a. has_id a.id issued ≡ true) replies
  pub bad : d.bad ≡ bad_among issued replies

counts_first : (d : DriverState) → TookNothing d → Counts [] [] d []
counts_first d new = record { leads = leads_first d new; rising = tt; asked = tt; bad = (new_idle d new).bad }

counts_hands : (issued : List BlockRequest) (replies : List BlockReply) (b a : DriverState) (line left : List BlockRequest)
    → Handing b a line left
    → Counts issued replies b line → Counts issued replies a left
counts_hands issued replies b a line left hands h = record {
  leads = leads_hands issued replies b a line left hands h.leads;
  rising = h.rising;
  asked = h.asked;
  bad = same line left hands ∙ h.bad;
} where
  same : (line left : List BlockRequest) → Handing b a line left → a.bad ≡ b.bad
  same line _ (Leaves _ is) = ap (λ (x : DriverState). x.bad) is
  same _ _ (IsOld q rest low is) = ap (λ (x : DriverState). x.bad) is
  same _ _ (IsTaken q rest none above takes) = takes.same_bad

-- one of these is the only one with its id
pub request_in : (r : BlockRequest) (issued : List BlockRequest) → AreRising issued → IsIn r issued → request_with r.id issued ≡ Some r
request_in r [] rising is = absurd is
request_in r (q ∷ issued) rising (inl e) =
    ap (λ (b : Bool). if b then Some q else request_with r.id issued) (ap (λ (x : BlockRequest). x.id == r.id) (sym e) ∙ same_number r.id)
    ∙ ap (λ (x : BlockRequest). Some x) (sym e)
request_in r (q ∷ issued) rising (inr is) =
    ap (λ (b : Bool). if b then Some q else request_with r.id issued)
    (other_number q.id r.id (λ e. not_both r.id q.id (each_in (λ x. x.id < q.id) r issued is rising.0) e))
    ∙ request_in r issued rising.1 is where
      not_both : (m n : ℕ) → m < n → n ≡ m → ⊥
      not_both m n low e = omega (arith, low, e)

some_good : (count : ℕ) (outcome : Result ℕ Errno) → is_some (moved count outcome) ≡ is_good count outcome
some_good count (Ok n) = by (is_good count (Ok n)) where
  by : (b : Bool) → is_some (if b then Some n else None) ≡ b
  by true = refl
  by false = refl
some_good count (Err e) = refl

bad_push : (issued : List BlockRequest) (replies : List BlockReply) (x : BlockReply)
    → bad_among issued (replies ++ x ∷ []) ≡ bad_among issued replies + (if is_good_in issued x then 0 else 1)
bad_push issued [] x = by (is_good_in issued x) where
  by : (b : Bool) → (if not b then 0 + 1 else 0) ≡ 0 + (if b then 0 else 1)
  by true = refl
  by false = refl
bad_push issued (a ∷ replies) x =
    ap (λ (n : ℕ). if not (is_good_in issued a) then n + 1 else n) (bad_push issued replies x)
    ∙ by (not (is_good_in issued a)) (bad_among issued replies) (if is_good_in issued x then 0 else 1) where
      by : (b : Bool) (m n : ℕ) → (if b then (m + n) + 1 else m + n) ≡ (if b then m + 1 else m) + n
      by true m n = omega arith
      by false m n = refl

counts_steps : (issued : List BlockRequest) (replies : List BlockReply) (line : List BlockRequest) (g : ℕ) (b a : DriverState)
    (answers : List BlockReply)
    → Stepping g b a answers → Counts issued replies b line → Counts issued (replies ++ answers) a line
counts_steps issued replies line g b a _ (Idles was now last bad) h = record {
  leads = leads_steps issued replies line g b a [] (Idles was now last bad) h.leads;
  rising = h.rising;
  asked = subst (λ (l : List BlockReply). Each (λ x. has_id x.id issued ≡ true) l) (none_more replies) h.asked;
  bad = bad ∙ h.bad ∙ ap (λ (l : List BlockReply). bad_among issued l) (none_more replies);
}
counts_steps issued replies line g b a _ (GoesOn w w' was now same last bad) h = record {
  leads = leads_steps issued replies line g b a [] (GoesOn w w' was now same last bad) h.leads;
  rising = h.rising;
  asked = subst (λ (l : List BlockReply). Each (λ x. has_id x.id issued ≡ true) l) (none_more replies) h.asked;
  bad = bad ∙ h.bad ∙ ap (λ (l : List BlockReply). bad_among issued l) (none_more replies);
}
counts_steps issued replies line g b a _ (Ends w answer was now id last bad) h =
    let own : (w.request.id ≡ b.last) × IsIn w.request issued =
    subst (λ (o : Option Work). IfSome o (λ x. (x.request.id ≡ b.last) × IsIn x.request issued)) was h.leads.replied.taken.work in
    let found : request_with answer.id issued ≡ Some w.request =
    ap (λ (n : ℕ). request_with n issued) id ∙ request_in w.request issued h.rising own.1 in
    let good : is_good_in issued (reply_of g answer) ≡ is_good w.request.count answer.outcome =
    ap (λ (o : Option BlockRequest). is_some (moved_of o (reply_of g answer))) found ∙ some_good w.request.count answer.outcome in
    record {
      leads = leads_steps issued replies line g b a (reply_of g answer ∷ []) (Ends w answer was now id last bad) h.leads;
      rising = h.rising;
      asked = each_push (λ x. has_id x.id issued ≡ true) replies (reply_of g answer) (ap (λ (n : ℕ). has_id n issued) id
          ∙ in_has w.request issued own.1) h.asked;
      bad = bad ∙ ap (λ (n : ℕ). n + (if is_good w.request.count answer.outcome then 0 else 1)) h.bad
          ∙ sym (bad_push issued replies (reply_of g answer)
          ∙ ap (λ (t : Bool). bad_among issued replies + (if t then 0 else 1)) good);
    }

counts_again : (issued : List BlockRequest) (replies : List BlockReply) (d : DriverState) (line : List BlockRequest) (r : BlockRequest)
    → IsIn r issued
    → Counts issued replies d line → Counts issued replies d (line ++ r ∷ [])
counts_again issued replies d line r is h = record {
  leads = leads_again_too issued replies d line r is h.leads;
  rising = h.rising;
  asked = h.asked;
  bad = h.bad;
}

-- a request that is issued above all changes no reply
bad_more : (issued : List BlockRequest) (replies : List BlockReply) (r : BlockRequest) → Each (λ x. x.id < r.id) issued
    → Each (λ a. has_id a.id issued ≡ true) replies → bad_among (r ∷ issued) replies ≡ bad_among issued replies
bad_more issued [] r above asked = refl
bad_more issued (a ∷ replies) r above asked =
    ap (λ (n : ℕ). if not (is_good_in (r ∷ issued) a) then n + 1 else n) (bad_more issued replies r above asked.1)
    ∙ ap (λ (o : Option BlockRequest). if not (is_some (moved_of o a)) then bad_among issued replies + 1 else bad_among issued replies)
    (ap (λ (b : Bool). if b then Some r else request_with a.id issued)
    (other_number r.id a.id (λ e. not_both r.id a.id e (has_below a.id r.id issued asked.0 above)))) where
      not_both : (m n : ℕ) → m ≡ n → n < m → ⊥
      not_both m n e low = omega (arith, e, low)

counts_issues : (issued : List BlockRequest) (replies : List BlockReply) (d : DriverState) (line : List BlockRequest) (r : BlockRequest)
    → Each (λ x. x.id < r.id) issued → 0 < r.id → Counts issued replies d line → Counts (r ∷ issued) replies d (line ++ r ∷ [])
counts_issues issued replies d line r above some h = record {
  leads = leads_issues_too issued replies d line r above some h.leads;
  rising = (above, h.rising);
  asked = each_on (λ a. has_id a.id issued ≡ true) (λ a. has_id a.id (r ∷ issued) ≡ true) replies
      (λ a has. or_right (r.id == a.id) (has_id a.id issued) has) h.asked;
  bad = h.bad ∙ sym (bad_more issued replies r above h.asked);
}

pub counts_keeps : Keeps AreInPlace Counts
counts_keeps = record {
  shorter = shorter_in_place;
  at_first = counts_first;
  steps = λ issued replies b line handed left m g step a m' hands driver steps h.
      counts_steps issued replies left g handed a (answers_of g step) (stepping handed m g step a m' steps)
      (counts_hands issued replies b handed line left (handing b line handed left hands) h);
  again = counts_again;
  issues = λ marks r to replies d line fit since h.
      counts_issues _ replies d line r (issued_above r to marks fit since) fit.0 h;
}
