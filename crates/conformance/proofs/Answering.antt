-- What a driver answered: of what it has done with, in the order of the ids, and each once.
use Rattle.std.proofs.Common.{◌≡◌, ℕ, ◌+◌, ◌<◌, List, [], ◌∷◌, ◌++◌, Bool, true, false, refl, sym, ◌∙◌, ap, subst, arith}
use Rattle.std.proofs.lemmas.Bool.Decides.{nat_tests}
use Rattle.std.specs.Prelude.{◌&&◌, nat_lt, Option, Some, None, IfSome, IsSomeAnd}
use Rattle.lemmas.proofs.Bools.{and_left, and_right}
use Rattle.message.specs.declared.BlockRequest.{BlockRequest}
use Rattle.message.specs.declared.BlockReply.{BlockReply}
use Rattle.bdev.specs.declared.Answer.{Answer}
use Rattle.bdev.specs.DriverState.{DriverState, Work}
use Rattle.bdev.specs.Promises.{Takes}
use Rattle.records.specs.Open.{IsIn}
use Rattle.schedule.specs.Groups.{Each}
use Rattle.true_replies.specs.Events.{reply_of}
use Rattle.conformance.specs.Took.{TookNothing}
use Rattle.conformance.proofs.Small.{none_more, each_push, each_on}
use Rattle.conformance.proofs.DriverMoves.{Handing, Leaves, IsOld, IsTaken, Stepping, Idles, GoesOn, Ends}
use Rattle.conformance.proofs.TakingLaws.{new_idle, Taken, taken_first, taken_hands, taken_steps, taken_again, taken_issues, some_if}

-- the ids below this one are done with
abbrev pub limit_of : Option Work → ℕ → ℕ
limit_of None last = last + 1
limit_of (Some w) last = last

abbrev pub limit : DriverState → ℕ
limit d = limit_of d.work d.last

-- the ids of these replies rise, from above this one
abbrev pub rise_from : ℕ → List BlockReply → Bool
rise_from id [] = true
rise_from id (a ∷ replies) = nat_lt id a.id && rise_from a.id replies

-- each reply is of an id that it has done with, in the order of the ids
pub record Replied (issued : List BlockRequest) (replies : List BlockReply) (d : DriverState) (line : List BlockRequest) : Type 0 where
  pub taken : Taken issued replies d line
  pub done : Each (λ a. a.id < limit d) replies
  pub rising : rise_from 0 replies ≡ true
  pub positive : IfSome d.work (λ w. 0 < d.last)

pub limit_none : (d : DriverState) → d.work ≡ None → limit d ≡ d.last + 1
limit_none d is = ap (λ (o : Option Work). limit_of o d.last) is

pub limit_some : (d : DriverState) (w : Work) → d.work ≡ Some w → limit d ≡ d.last
limit_some d w is = ap (λ (o : Option Work). limit_of o d.last) is

limit_some_and : (o : Option Work) (n : ℕ) (P : Work → Type 0) → IsSomeAnd o P → limit_of o n ≡ n
limit_some_and None n P h = absurd h
limit_some_and (Some w) n P h = refl

pub limit_taken : (q : BlockRequest) (b a : DriverState) → Takes b q a → limit a ≡ q.id
limit_taken q b a takes = limit_some_and a.work a.last (λ w. (w.request ≡ q) × ((k : ℕ) → w.moved k ≡ false)) takes.work ∙ takes.last

pub replied_first : (d : DriverState) → TookNothing d → Replied [] [] d []
replied_first d new = record {
  taken = taken_first d new;
  done = tt;
  rising = refl;
  positive = subst (λ (o : Option Work). IfSome o (λ w. 0 < d.last)) (sym (new_idle d new).work) tt;
}

pub replied_hands : (issued : List BlockRequest) (replies : List BlockReply) (b a : DriverState) (line left : List BlockRequest)
    → Handing b a line left
    → Replied issued replies b line → Replied issued replies a left
replied_hands issued replies b a line _ (Leaves _ is) h = subst (λ (x : DriverState). Replied issued replies x line) (sym is) h
replied_hands issued replies b a _ _ (IsOld q rest low is) h = record {
  taken = taken_hands issued replies b a (q ∷ rest) rest (IsOld q rest low is) h.taken;
  done = subst (λ (x : DriverState). Each (λ r. r.id < limit x) replies) (sym is) h.done;
  rising = h.rising;
  positive = subst (λ (x : DriverState). IfSome x.work (λ w. 0 < x.last)) (sym is) h.positive;
}
replied_hands issued replies b a _ _ (IsTaken q rest none above takes) h = record {
  taken = taken_hands issued replies b a (q ∷ rest) rest (IsTaken q rest none above takes) h.taken;
  done = each_on (λ r. r.id < limit b) (λ r. r.id < limit a) replies
      (λ r low. less r.id (limit b) (limit a) b.last q.id low (limit_none b none)
      (limit_taken q b a takes) above) h.done;
  rising = h.rising;
  positive = some_if a.work (λ w. (w.request ≡ q) × ((k : ℕ) → w.moved k ≡ false)) (λ w. 0 < a.last)
      (λ w is. positive b.last q.id a.last above takes.last) takes.work;
} where
  less : (r x y m n : ℕ) → r < x → x ≡ m + 1 → y ≡ n → m < n → r < y
  less r x y m n low e f above = omega (arith, low, e, f, above)

  positive : (m n l : ℕ) → m < n → l ≡ n → 0 < l
  positive m n l above is = omega (arith, above, is)

-- a reply more, above all
rise_push : (from : ℕ) (replies : List BlockReply) (x : BlockReply) → rise_from from replies ≡ true → Each (λ a. a.id < x.id) replies
    → from < x.id
    → rise_from from (replies ++ x ∷ []) ≡ true
rise_push from [] x rising low above = ap (λ (b : Bool). b && true) (less from x.id above) where
  less : (m n : ℕ) → m < n → nat_lt m n ≡ true
  less m n above = grind (arith, nat_tests, above)
rise_push from (a ∷ replies) x rising low above =
    ap (λ (b : Bool). b && rise_from a.id (replies ++ x ∷ [])) (and_left (nat_lt from a.id) (rise_from a.id replies) rising)
    ∙ rise_push a.id replies x (and_right (nat_lt from a.id) (rise_from a.id replies) rising) low.1 low.0

-- a step that answers nothing leaves the limit
pub idle_limit : (b a : DriverState) → b.work ≡ None → a.work ≡ None → a.last ≡ b.last → limit a ≡ limit b
idle_limit b a was now last = limit_none a now ∙ ap (λ (n : ℕ). n + 1) last ∙ sym (limit_none b was)

pub going_limit : (b a : DriverState) (w w' : Work) → b.work ≡ Some w → a.work ≡ Some w' → a.last ≡ b.last → limit a ≡ limit b
going_limit b a w w' was now last = limit_some a w' now ∙ last ∙ sym (limit_some b w was)

-- the answer's id is the last one taken, below which all replies are
pub record AtLast (b a : DriverState) (id : ℕ) : Type 0 where
  pub was : limit b ≡ id
  pub now : limit a ≡ id + 1
  pub last : b.last ≡ id

pub at_last : (issued : List BlockRequest) (replies : List BlockReply) (line : List BlockRequest) (b a : DriverState) (w : Work)
    (answer : Answer)
    → b.work ≡ Some w → a.work ≡ None → answer.id ≡ w.request.id → a.last ≡ b.last → Taken issued replies b line → AtLast b a answer.id
at_last issued replies line b a w answer was now id last h =
    let own : (w.request.id ≡ b.last) × IsIn w.request issued =
    subst (λ (o : Option Work). IfSome o (λ x. (x.request.id ≡ b.last) × IsIn x.request issued)) was h.work in
    let same : b.last ≡ answer.id = sym own.0 ∙ sym id in
    record { was = limit_some b w was ∙ same; now = limit_none a now ∙ ap (λ (n : ℕ). n + 1) (last ∙ same); last = same }

pub replied_steps : (issued : List BlockRequest) (replies : List BlockReply) (line : List BlockRequest) (g : ℕ) (b a : DriverState)
    (answers : List BlockReply)
    → Stepping g b a answers → Replied issued replies b line → Replied issued (replies ++ answers) a line
replied_steps issued replies line g b a _ (Idles was now last bad) h = record {
  taken = taken_steps issued replies line g b a [] (Idles was now last bad) h.taken;
  done = subst (λ (l : List BlockReply). Each (λ r. r.id < limit a) l) (none_more replies)
      (subst (λ (n : ℕ). Each (λ r. r.id < n) replies) (sym (idle_limit b a was now last)) h.done);
  rising = ap (λ (l : List BlockReply). rise_from 0 l) (sym (none_more replies)) ∙ h.rising;
  positive = subst (λ (o : Option Work). IfSome o (λ w. 0 < a.last)) (sym now) tt;
}
replied_steps issued replies line g b a _ (GoesOn w w' was now same last bad) h = record {
  taken = taken_steps issued replies line g b a [] (GoesOn w w' was now same last bad) h.taken;
  done = subst (λ (l : List BlockReply). Each (λ r. r.id < limit a) l) (none_more replies)
      (subst (λ (n : ℕ). Each (λ r. r.id < n) replies) (sym (going_limit b a w w' was now last)) h.done);
  rising = ap (λ (l : List BlockReply). rise_from 0 l) (sym (none_more replies)) ∙ h.rising;
  positive = subst (λ (o : Option Work). IfSome o (λ x. 0 < a.last)) (sym now)
      (subst (λ (n : ℕ). 0 < n) (sym last) (subst (λ (o : Option Work). IfSome o (λ x. 0 < b.last)) was h.positive));
}
replied_steps issued replies line g b a _ (Ends w answer was now id last bad) h =
    let at : AtLast b a answer.id = at_last issued replies line b a w answer was now id last h.taken in
    let low : Each (λ r. r.id < answer.id) replies = subst (λ (n : ℕ). Each (λ r. r.id < n) replies) at.was h.done in
    record {
      taken = taken_steps issued replies line g b a (reply_of g answer ∷ []) (Ends w answer was now id last bad) h.taken;
      done = each_push (λ r. r.id < limit a) replies (reply_of g answer) (below answer.id (limit a) at.now)
          (each_on (λ r. r.id < answer.id) (λ r. r.id < limit a) replies (λ r less. below_too r.id answer.id (limit a) less at.now) low);
      rising = rise_push 0 replies (reply_of g answer) h.rising low
          (subst (λ (n : ℕ). 0 < n) at.last (subst (λ (o : Option Work). IfSome o (λ x. 0 < b.last)) was h.positive));
      positive = subst (λ (o : Option Work). IfSome o (λ x. 0 < a.last)) (sym now) tt;
    } where
      below : (m n : ℕ) → n ≡ m + 1 → m < n
      below m n is = omega (arith, is)

      below_too : (r m n : ℕ) → r < m → n ≡ m + 1 → r < n
      below_too r m n less is = omega (arith, less, is)

pub replied_again : (issued : List BlockRequest) (replies : List BlockReply) (d : DriverState) (line : List BlockRequest)
    (r : BlockRequest) → IsIn r issued
    → Replied issued replies d line → Replied issued replies d (line ++ r ∷ [])
replied_again issued replies d line r is h = record {
  taken = taken_again issued replies d line r is h.taken;
  done = h.done;
  rising = h.rising;
  positive = h.positive;
}

pub replied_issues : (issued : List BlockRequest) (replies : List BlockReply) (d : DriverState) (line : List BlockRequest)
    (r : BlockRequest)
    → Replied issued replies d line → Replied (r ∷ issued) replies d (line ++ r ∷ [])
replied_issues issued replies d line r h = record {
  taken = taken_issues issued replies d line r h.taken;
  done = h.done;
  rising = h.rising;
  positive = h.positive;
}
