-- How the proofs of worked runs are put together.
use Rattle.std.specs.Prelude.{◌≡◌, ℕ, List, [], ◌∷◌, ◌++◌, Bool, ◌&&◌, true, false, None, refl}
use Rattle.std.proofs.Common.{arith, ap}
use Rattle.message.specs.declared.endpoint.Endpoint.{Endpoint}
use Rattle.bdev.specs.DriverState.{DriverState}
use Rattle.reincarnate.specs.declared.policy.Policy.{Policy}
use Rattle.reincarnate.specs.Watch.{driver}
use Rattle.records.specs.Marks.{Mark, gave_up}
use Rattle.records.specs.Open.{is_unfinished}
use Rattle.schedule.specs.declared.Sent.{Sent}
use Rattle.schedule.specs.declared.Event.{Event}
use Rattle.schedule.specs.Groups.{Group, marks_of, started_in}
use Rattle.schedule.specs.Faults.{ExitsOfGroup, hung_in, hung_due, ComplaintsFollow}
use Rattle.schedule.specs.Starts.{starts_due, times_gave_up, times_due, is_given_up_after_fault, are_issued_in_place, IssuesFollow}
use Rattle.schedule.specs.Replies.{answers_in, answers_due}
use Rattle.schedule.specs.Calls.{Arrival, arrived, taken, CallsSoFar, flushes_in, flushes_due}
use Rattle.schedule.specs.Handed.{is_handed, acts_when_handed}
use Rattle.schedule.specs.Justified.{GroupKeeps}

infixr 3 ◌▸◌
-- a group, and those before it
pub ◌▸◌ : {A B : Type 0} → A → B → A × B
later ▸ earlier = (later, earlier)

-- every call that arrived was taken
pub all_taken : {groups : List Group} → arrived groups ≡ taken (marks_of groups) → CallsSoFar groups
all_taken order = record { left = []; order = order; waits = λ some. absurd (some refl) }

-- these calls wait
pub still_wait : {groups : List Group} (left : List Arrival) → arrived groups ≡ left ++ taken (marks_of groups)
    → is_unfinished (marks_of groups) ≡ true → gave_up (marks_of groups) ≡ false → CallsSoFar groups
still_wait left order unfinished kept = record { left = left; order = order; waits = λ some. record { unfinished = unfinished; not_given_up = kept } }

-- both of two tests
each_true : (a b : Bool) → (a && b) ≡ true → (a ≡ true) × (b ≡ true)
each_true true b e = (refl, e)
each_true false b e = cc

-- an event and its marks keep what they must
pub shown : {policy : Policy} {supply : ℕ} {sent : List Sent} {drivers : List DriverState} {event : Event} {group : List Mark} {earlier : List Group}
    → ExitsOfGroup drivers event group earlier → hung_in group ≡ hung_due policy event earlier → ComplaintsFollow None group (marks_of earlier)
    → started_in group ≡ starts_due policy event earlier → times_gave_up group ≡ times_due policy supply ((event, group) ∷ earlier)
    → (is_given_up_after_fault event group (marks_of earlier)
    && (are_issued_in_place ((event, group) ∷ earlier) group (marks_of earlier) && acts_when_handed (is_handed sent event earlier) group)) ≡ true → IssuesFollow [] group (marks_of earlier) → answers_in group ≡ answers_due sent event earlier
    → flushes_in group ≡ flushes_due event → CallsSoFar ((event, group) ∷ earlier) → GroupKeeps policy supply sent drivers event group earlier
shown {sent = sent} {event = event} {group = group} {earlier = earlier} exits hung complaints starts times tests issues answers flushes calls =
    let told = each_true (is_given_up_after_fault event group (marks_of earlier))
    (are_issued_in_place ((event, group) ∷ earlier) group (marks_of earlier) && acts_when_handed (is_handed sent event earlier) group) tests in
    let placed = each_true (are_issued_in_place ((event, group) ∷ earlier) group (marks_of earlier)) (acts_when_handed (is_handed sent event earlier) group) told.1 in
    record {
      faults = record {
        exits = exits;
        hung = hung;
        complaints = complaints;
        starts = starts;
        giving_up = record { times = times; after_fault = told.0 };
        issues = issues;
        in_place = placed.0;
      };
      answers = record { answered = answers; flushed = flushes };
      calls = calls;
      acts = placed.1;
    }

-- an event without marks keeps what it must
pub quiet : {policy : Policy} {supply : ℕ} {sent : List Sent} {drivers : List DriverState} {event : Event} {earlier : List Group}
    → ExitsOfGroup drivers event [] earlier → [] ≡ hung_due policy event earlier → [] ≡ starts_due policy event earlier → [] ≡ answers_due sent event earlier
    → 0 ≡ flushes_due event → CallsSoFar ((event, []) ∷ earlier) → GroupKeeps policy supply sent drivers event [] earlier
quiet exits hung starts answers flushes calls = shown exits hung refl starts refl refl tt answers flushes calls

-- numbers of drivers that differ
pub two_is_not_one : ◌≡◌ {A = ℕ} 2 1 → ⊥
two_is_not_one e = omega arith

-- the other way round
pub one_is_not_two : ◌≡◌ {A = ℕ} 1 2 → ⊥
one_is_not_two e = omega arith

-- drivers 1 and 2 differ
pub second_is_not_first : driver 2 ≡ driver 1 → ⊥
second_is_not_first e = two_is_not_one (ap (λ (x : Endpoint). x.generation) e)

-- the other way round
pub first_is_not_second : driver 1 ≡ driver 2 → ⊥
first_is_not_second e = one_is_not_two (ap (λ (x : Endpoint). x.generation) e)
