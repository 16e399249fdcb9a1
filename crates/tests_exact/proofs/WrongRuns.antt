-- Transcripts that no exact run of these events has, whatever its drivers do and its server answers.
use Rattle.std.specs.Prelude.{◌≡◌, ℕ, ◌+◌, List, [], ◌∷◌, ◌++◌, length, reverse}
use Rattle.std.proofs.Common.{arith, ap, ◌∙◌, length-append}
use Rattle.tree.specs.declared.Call.TheVariants.{Close, Sync}
use Rattle.layout.specs.declared.Geometry.{Geometry}
use Rattle.bdev.specs.DriverState.{DriverState}
use Rattle.reincarnate.specs.declared.policy.Setup.{Setup}
use Rattle.schedule.specs.Calls.{Arrival, taken}
use Rattle.schedule.specs.Headline.{Transcript}
use Rattle.schedule.specs.declared.Event.{Event}
use Rattle.simulated_link.specs.Waiting.{arrival_of}
use Rattle.world.specs.Exact.{IsExact}
use Rattle.tests_exact.proofs.Small.{close, sync}
use Rattle.tests_exact.proofs.Whole.{calls_in, answers_first}
use Rattle.tests_exact.proofs.DeathRow as death
use Rattle.tests_exact.proofs.GivenUpRow as given_up

-- no exact run of these events, on any image and with any drivers, has a transcript of which this holds
abbrev NoRun : List Event → (Transcript → Type 0) → Type 0
NoRun events Holds =
    (g : Geometry) (image : List ℕ) (setup : Setup) (supply : List DriverState) (t : Transcript) → IsExact g image setup supply events t → Holds t → ⊥

-- the calls without an answer and those with one are as many as arrived
as_many : (left answered all : List Arrival) → all ≡ left ++ answered → length all ≡ length left + length answered
as_many left answered all is = ap length is ∙ length-append left answered

-- where these have an answer, they are the first of those that arrived
first_of : (g : Geometry) (image : List ℕ) (setup : Setup) (supply : List DriverState) (events : List Event) (t : Transcript) (answered : List Arrival)
    → (e : IsExact g image setup supply events t) → taken t.marks ≡ answered
    → calls_in (reverse events) ≡ (answers_first g image setup supply events t e).left ++ answered
first_of g image setup supply events t answered e is =
    let all = answers_first g image setup supply events t e in all.calls ∙ ap (λ (l : List Arrival). all.left ++ l) is

-- A call is answered that didn't arrive.
answer_made_up : NoRun death.events (λ t. taken t.marks ≡ arrival_of close ∷ arrival_of sync ∷ [])
answer_made_up g image setup supply t e made =
    let all = answers_first g image setup supply death.events t e in
    let first = first_of g image setup supply death.events t (arrival_of close ∷ arrival_of sync ∷ []) e made in
    let h : 1 ≡ length all.left + 2 = as_many all.left (arrival_of close ∷ arrival_of sync ∷ []) (arrival_of sync ∷ []) first in
    omega (arith, h)

-- A call is answered twice.
answered_twice : NoRun death.events (λ t. taken t.marks ≡ arrival_of sync ∷ arrival_of sync ∷ [])
answered_twice g image setup supply t e twice =
    let all = answers_first g image setup supply death.events t e in
    let first = first_of g image setup supply death.events t (arrival_of sync ∷ arrival_of sync ∷ []) e twice in
    let h : 1 ≡ length all.left + 2 = as_many all.left (arrival_of sync ∷ arrival_of sync ∷ []) (arrival_of sync ∷ []) first in
    omega (arith, h)

-- A call has no answer, and isn't counted as left.
call_dropped : NoRun death.events (λ t. (taken t.marks ≡ []) × (t.unanswered ≡ 0))
call_dropped g image setup supply t e dropped =
    let all = answers_first g image setup supply death.events t e in
    let first = first_of g image setup supply death.events t [] e dropped.0 in
    let h : 1 ≡ length all.left + 0 = as_many all.left [] (arrival_of sync ∷ []) first in
    let n : t.unanswered ≡ length all.left = all.number in
    omega (arith, h, n, dropped.1)

-- the calls that arrive in the second row, newest first
abbrev two : List Arrival
two = arrival_of sync ∷ arrival_of close ∷ []

-- they differ
close_isnt_sync : arrival_of close ≡ arrival_of sync → ⊥
close_isnt_sync same = let h : Close 0 ≡ Sync = ap (λ (a : Arrival). a.2) same in cc

-- Of two calls the second is answered, and the first isn't.
second_alone : NoRun given_up.events (λ t. taken t.marks ≡ arrival_of sync ∷ [])
second_alone g image setup supply t e alone =
    let all = answers_first g image setup supply given_up.events t e in
    no all.left (first_of g image setup supply given_up.events t (arrival_of sync ∷ []) e alone) where
      no : (left : List Arrival) → two ≡ left ++ (arrival_of sync ∷ []) → ⊥
      no [] is = let h : 2 ≡ 1 = ap length is in omega (arith, h)
      no (x ∷ []) is = close_isnt_sync (last is) where
        last : two ≡ x ∷ arrival_of sync ∷ [] → arrival_of close ≡ arrival_of sync
        last same = cc
      no (x ∷ y ∷ left) is =
          let h : 2 ≡ length (x ∷ y ∷ left) + 1 = as_many (x ∷ y ∷ left) (arrival_of sync ∷ []) two is in omega (arith, h)

-- The second is answered before the first.
out_of_order : NoRun given_up.events (λ t. taken t.marks ≡ arrival_of close ∷ arrival_of sync ∷ [])
out_of_order g image setup supply t e order =
    let all = answers_first g image setup supply given_up.events t e in
    no all.left (first_of g image setup supply given_up.events t (arrival_of close ∷ arrival_of sync ∷ []) e order) where
      first : two ≡ arrival_of close ∷ arrival_of sync ∷ [] → arrival_of close ≡ arrival_of sync
      first same = cc

      no : (left : List Arrival) → two ≡ left ++ (arrival_of close ∷ arrival_of sync ∷ []) → ⊥
      no [] is = close_isnt_sync (first is)
      no (x ∷ left) is =
          let h : 2 ≡ length (x ∷ left) + 2 = as_many (x ∷ left) (arrival_of close ∷ arrival_of sync ∷ []) two is in omega (arith, h)
