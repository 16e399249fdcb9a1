-- Requests that are issued in their place: their ids rise from issue to issue to one driver.
use Rattle.std.proofs.Common.{◌≡◌, ℕ, ◌+◌, ◌<◌, List, [], ◌∷◌, ◌++◌, Bool, true, false, sym, ap, subst, arith, ◌⊎◌, inl, inr}
use Rattle.std.proofs.lemmas.Bool.Decides.{nat_tests}
use Rattle.std.specs.Prelude.{◌&&◌, ◌||◌, ◌==◌, not, max, nat_lt, if◌then◌else◌}
use Rattle.lemmas.proofs.Bools.{and_left, and_right, or_cases}
use Rattle.lemmas.proofs.Numbers.{less_from}
use Rattle.message.specs.declared.endpoint.Endpoint.{Endpoint}
use Rattle.message.specs.declared.BlockRequest.{BlockRequest}
use Rattle.records.specs.Marks.{Mark, Started, Answered, Flush, GaveUp, Took, Issued, Fault, gave_up}
use Rattle.records.specs.Open.{IsIn, IsNew, IsAgain, IsWellFormed, greatest, open_requests}
use Rattle.records.proofs.OpenRequests.{open_after_issue, open_answered}
use Rattle.schedule.specs.Groups.{Group, marks_of, Each, EachGroup}
use Rattle.schedule.specs.Drivers.{is_live, requests_issued_to}
use Rattle.schedule.specs.Starts.{is_among_first, may_issue, are_issued_in_place}
use Rattle.true_replies.specs.Posted.{since_start}
use Rattle.conformance.proofs.Small.{each_on}
use Rattle.conformance.specs.Said.{PlacedAsDue}

-- each id is above 0, and above all that were issued, or above those issued since the last start, and before it no other mark
abbrev pub AreInPlace : List Mark → Type 0
AreInPlace [] = Unit {0}
AreInPlace (Issued r e ∷ marks) = (0 < r.id) × ((nat_lt (greatest marks) r.id || is_among_first r.id marks) ≡ true) × AreInPlace marks
AreInPlace (_ ∷ marks) = AreInPlace marks

pub shorter_in_place : (m : Mark) (marks : List Mark) → AreInPlace (m ∷ marks) → AreInPlace marks
shorter_in_place (Started e) marks h = h
shorter_in_place (Answered a) marks h = h
shorter_in_place Flush marks h = h
shorter_in_place GaveUp marks h = h
shorter_in_place (Took who now call reply) marks h = h
shorter_in_place (Issued r e) marks h = h.2
shorter_in_place (Fault e cause) marks h = h

-- an id above the greatest is above those issued to one driver
among_issued : (b : Bool) (r : BlockRequest) (rs : List BlockRequest) (id : ℕ) → r.id < id → Each (λ x. x.id < id) rs
    → Each (λ x. x.id < id) (if b then r ∷ rs else rs)
among_issued true r rs id low h = (low, h)
among_issued false r rs id low h = h

greatest_above : (g id : ℕ) (marks : List Mark) → greatest marks < id → Each (λ x. x.id < id) (requests_issued_to g marks)
greatest_above g id [] above = tt
greatest_above g id (Started e ∷ marks) above = greatest_above g id marks above
greatest_above g id (Answered a ∷ marks) above = greatest_above g id marks above
greatest_above g id (Flush ∷ marks) above = greatest_above g id marks above
greatest_above g id (GaveUp ∷ marks) above = greatest_above g id marks above
greatest_above g id (Took who now call reply ∷ marks) above = greatest_above g id marks above
greatest_above g id (Issued r e ∷ marks) above =
    among_issued ((e.slot == 1) && (e.generation == g)) r (requests_issued_to g marks) id (own (greatest marks) r.id above)
    (greatest_above g id marks (others (greatest marks) r.id above)) where
      own : (m n : ℕ) → max m n < id → n < id
      own m n above = omega (arith, above)

      others : (m n : ℕ) → max m n < id → m < id
      others m n above = omega (arith, above)
greatest_above g id (Fault e cause ∷ marks) above = greatest_above g id marks above

-- one that is among the first is above those issued since the last start
first_above : (id : ℕ) (marks : List Mark) → is_among_first id marks ≡ true → Each (λ x. x.id < id) (since_start marks)
first_above id [] first = cc
first_above id (Started e ∷ marks) first = tt
first_above id (Answered a ∷ marks) first = cc
first_above id (Flush ∷ marks) first = cc
first_above id (GaveUp ∷ marks) first = cc
first_above id (Took who now call reply ∷ marks) first = cc
first_above id (Issued r e ∷ marks) first =
    let low : r.id < id = less_from r.id id (and_left (nat_lt r.id id) (is_among_first r.id marks) first) in (
      low,
      each_on (λ x. x.id < r.id) (λ x. x.id < id) (since_start marks) (λ x below. less x.id r.id below low)
          (first_above r.id marks (and_right (nat_lt r.id id) (is_among_first r.id marks) first)),
    ) where
      less : (a b : ℕ) → a < b → b < id → a < id
      less a b below low = omega (arith, below, low)
first_above id (Fault e cause ∷ marks) first = cc

-- a request that is issued to the driver of the last start is above all issued to it
pub issued_above : (r : BlockRequest) (to : Endpoint) (marks : List Mark) → AreInPlace (Issued r to ∷ marks)
    → requests_issued_to to.generation marks ≡ since_start marks → Each (λ x. x.id < r.id) (requests_issued_to to.generation marks)
issued_above r to marks h since = by (or_cases (nat_lt (greatest marks) r.id) (is_among_first r.id marks) h.1) where
  by : (nat_lt (greatest marks) r.id ≡ true) ⊎ (is_among_first r.id marks ≡ true)
      → Each (λ x. x.id < r.id) (requests_issued_to to.generation marks)
  by (inl new) = greatest_above to.generation r.id marks (less_from (greatest marks) r.id new)
  by (inr first) = subst (λ (l : List BlockRequest). Each (λ x. x.id < r.id) l) (sym since) (first_above r.id marks first)

-- in a well-formed record the ids are above 0
open_above_0 : (marks : List Mark) (q : BlockRequest) → IsWellFormed marks → IsIn q (open_requests marks) → 0 < q.id
open_above_0 [] q w is = absurd is
open_above_0 (Started e ∷ marks) q w is = open_above_0 marks q w.0 is
open_above_0 (Answered a ∷ marks) q w is = open_above_0 marks q w.0 (open_answered marks a q is)
open_above_0 (Flush ∷ marks) q w is = open_above_0 marks q w.0 is
open_above_0 (GaveUp ∷ marks) q w is = open_above_0 marks q w.0 is
open_above_0 (Took who now call reply ∷ marks) q w is = open_above_0 marks q w.0 is
open_above_0 (Issued r e ∷ marks) q w is = by (open_above_0 marks q w.0) ((open_after_issue marks r e w.1.1).only q is) where
  by : (IsIn q (open_requests marks) → 0 < q.id) → IsIn q (open_requests marks) ⊎ ((q ≡ r) × (r.id ≡ greatest marks + 1)) → 0 < q.id
  by old (inl k) = old k
  by old (inr k) = let same : q.id ≡ r.id = ap (λ (x : BlockRequest). x.id) k.0 in omega (arith, same, k.1)
open_above_0 (Fault e cause ∷ marks) q w is = open_above_0 marks q w.0 is

issued_above_0 : (r : BlockRequest) (marks : List Mark) → IsWellFormed marks → IsNew marks r ⊎ IsAgain marks r → 0 < r.id
issued_above_0 r marks w (inl new) = omega (arith, new.next)
issued_above_0 r marks w (inr again) = open_above_0 marks r w again.same

last_of_three : (a b c : Bool) → (a && b && c) ≡ true → c ≡ true
last_of_three true true c h = h
last_of_three true false c h = cc
last_of_three false b c h = cc

group_in_place : (groups : List Group) (group before : List Mark) → IsWellFormed (group ++ before)
    → are_issued_in_place groups group before ≡ true
    → AreInPlace before → AreInPlace (group ++ before)
group_in_place groups [] before w placed h = h
group_in_place groups (Started e ∷ group) before w placed h = group_in_place groups group before w.0 placed h
group_in_place groups (Answered a ∷ group) before w placed h = group_in_place groups group before w.0 placed h
group_in_place groups (Flush ∷ group) before w placed h = group_in_place groups group before w.0 placed h
group_in_place groups (GaveUp ∷ group) before w placed h = group_in_place groups group before w.0 placed h
group_in_place groups (Took who now call reply ∷ group) before w placed h = group_in_place groups group before w.0 placed h
group_in_place groups (Issued r to ∷ group) before w placed h = (
  issued_above_0 r (group ++ before) w.0 w.1.1,
  last_of_three (is_live to.generation groups) (not (gave_up (group ++ before)))
      (nat_lt (greatest (group ++ before)) r.id || is_among_first r.id (group ++ before))
      (and_left (may_issue groups r to (group ++ before)) (are_issued_in_place groups group before) placed),
  group_in_place groups group before w.0
      (and_right (may_issue groups r to (group ++ before)) (are_issued_in_place groups group before) placed) h,
)
group_in_place groups (Fault e cause ∷ group) before w placed h = group_in_place groups group before w.0 placed h

well_formed_before : (group before : List Mark) → IsWellFormed (group ++ before) → IsWellFormed before
well_formed_before [] before w = w
well_formed_before (m ∷ group) before w = well_formed_before group before w.0

-- where each request was issued in its place, they all were
pub all_in_place : (groups : List Group) → EachGroup PlacedAsDue groups → IsWellFormed (marks_of groups) → AreInPlace (marks_of groups)
all_in_place [] placed w = tt
all_in_place (g ∷ groups) placed w =
    group_in_place (g ∷ groups) g.1 (marks_of groups) w placed.0 (all_in_place groups placed.1 (well_formed_before g.1 (marks_of groups) w))
