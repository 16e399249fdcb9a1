-- What events and what is done within them leave of starts, issues and numbers.
use Rattle.std.proofs.Common.{◌≡◌, ℕ, suc, ◌+◌, List, [], ◌∷◌, ◌++◌, length, map, Bool, true, false, cond, refl, sym, ◌∙◌, ap, arith, inl, inr, ◌⊎◌, append_assoc}
use Rattle.std.specs.Prelude.{Option, Some, None, ◌&&◌, ◌||◌, not, ◌==◌, nat_lt, nat_le}
use Rattle.message.specs.declared.endpoint.Endpoint.{Endpoint}
use Rattle.message.specs.declared.BlockRequest.{BlockRequest}
use Rattle.message.specs.declared.Incoming.{Incoming}
use Rattle.message.specs.declared.Incoming.TheVariants as incoming
use Rattle.bdev.specs.DriverState.{DriverState}
use Rattle.reincarnate.specs.Watch.{Waiting, driver}
use Rattle.records.specs.Marks.{Mark, Started, Answered, Flush, GaveUp, Took, Issued, Fault, gave_up, last_started}
use Rattle.records.specs.declared.marks.Cause.{Cause}
use Rattle.records.specs.Open.{greatest, open_requests, counts}
use Rattle.schedule.specs.Faultless.{without_faults}
use Rattle.schedule.specs.declared.Event.{Event}
use Rattle.schedule.specs.declared.Event.TheVariants as event
use Rattle.schedule.specs.Groups.{Group, marks_of, started_in, generation}
use Rattle.schedule.specs.Drivers.{has_exit, has_started, has_ended, is_live}
use Rattle.schedule.specs.Starts.{IsFollowedByIssues, IssuesFollow, is_among_first, may_issue, are_issued_in_place}
use Rattle.simulated_link.specs.Disks.{started}
use Rattle.simulated_link.specs.Kept.{with_next}
use Rattle.conformance.specs.Core.{Core}
use Rattle.conformance.specs.Happens.{fault_marks, exit_marks, beaten_core, TicksTo, Beats, MissesOne, FoundHung, WaitsOn, StartsNext, IsOver, Begins, Arrives, Flushes, Answers, Drops, Delivers, LinesAgain, HangsOne, StepsOne, FailsOne, DiesNone, DiesOne, Ticks, Adds, AddsNothing, Posts, Replies, Complains, Pays}
use Rattle.conformance.proofs.OwingLaws.{served, is_quiet}
use Rattle.conformance.specs.Said.{PlacedAsDue}

-- the next driver is started
pub record NextStart (c a : Core) (marks : List Mark) : Type 0 where
  pub until : ℕ
  pub next : DriverState
  pub waits : c.watch.phase ≡ Waiting until
  pub marks_are : marks ≡ Started (driver (c.watch.generation + 1)) ∷ []
  pub disks_are : a.disks ≡ started (c.watch.generation + 1) next c.disks
  pub rest : List DriverState
  pub spare : c.supply ≡ next ∷ rest
  pub supply_is : a.supply ≡ rest
  pub posts_are : a.posts ≡ c.posts

-- no request is issued by an event, and a driver is started, or none
pub record BeginsCalmly (c a : Core) (marks : List Mark) : Type 0 where
  pub quiet : is_quiet marks ≡ true
  pub starts : NextStart c a marks ⊎ (started_in marks ≡ [])

calm_fault : (c a : Core) (ends : Bool) (e : Endpoint) (cause : Cause) → BeginsCalmly c a (fault_marks ends e cause)
calm_fault c a true e cause = record { quiet = refl; starts = inr refl }
calm_fault c a false e cause = record { quiet = refl; starts = inr refl }

calm_exit : (c a : Core) (ends : Option Bool) (e : Endpoint) → BeginsCalmly c a (exit_marks ends e)
calm_exit c a None e = record { quiet = refl; starts = inr refl }
calm_exit c a (Some true) e = record { quiet = refl; starts = inr refl }
calm_exit c a (Some false) e = record { quiet = refl; starts = inr refl }

calm_none : (c a : Core) → BeginsCalmly c a []
calm_none c a = record { quiet = refl; starts = inr refl }

tick_calm : (c a : Core) (marks : List Mark) → TicksTo (beaten_core c) marks a → BeginsCalmly c a marks
tick_calm c a _ (Beats last count is same) = calm_none c a
tick_calm c a _ (MissesOne last count is same few) = calm_none c a
tick_calm c a _ (FoundHung last count ends after is same enough fault) = calm_fault c a ends (driver c.disks.media.generation) _
tick_calm c a _ (WaitsOn until is early) = calm_none c a
tick_calm c a _ (StartsNext until d rest is come spare) = record {
  quiet = refl;
  starts = inl (record {
    until = until;
    next = d;
    waits = is;
    marks_are = refl;
    disks_are = refl;
    rest = rest;
    spare = spare;
    supply_is = refl;
    posts_are = refl;
  });
}
tick_calm c a _ (IsOver is) = calm_none c a

pub begins_calm : (place : ℕ) (groups : List Group) (c a : Core) (event : Event) (marks : List Mark) → Begins place groups c event marks a → BeginsCalmly c a marks
begins_calm place groups c a _ _ (Arrives who now call) = calm_none c a
begins_calm place groups c a _ _ Flushes = record { quiet = refl; starts = inr refl }
begins_calm place groups c a _ _ (Answers n s there counts) = record { quiet = refl; starts = inr refl }
begins_calm place groups c a _ _ (Drops n s there counts) = calm_none c a
begins_calm place groups c a _ _ (Delivers n there) = calm_none c a
begins_calm place groups c a _ _ (LinesAgain n p d same again) = calm_none c a
begins_calm place groups c a _ _ (HangsOne g d hangs) = calm_none c a
begins_calm place groups c a _ _ (StepsOne g step d steps well) = calm_none c a
begins_calm place groups c a _ _ (FailsOne g d ends after steps report) = calm_exit c a ends (driver g)
begins_calm place groups c a _ _ (DiesNone g bytes d dies) = calm_none c a
begins_calm place groups c a _ _ (DiesOne g bytes d ends after dies report) = calm_exit c a ends (driver g)
begins_calm place groups c a _ marks (Ticks _ _ ticks) = tick_calm c a marks ticks

-- the starts of marks, with those before them, and without faults
pub started_more : (marks before : List Mark) → started_in (marks ++ before) ≡ started_in marks ++ started_in before
started_more [] before = refl
started_more (Started e ∷ marks) before = ap (λ (l : List Endpoint). e ∷ l) (started_more marks before)
started_more (Answered a ∷ marks) before = started_more marks before
started_more (Flush ∷ marks) before = started_more marks before
started_more (GaveUp ∷ marks) before = started_more marks before
started_more (Took who now call answer ∷ marks) before = started_more marks before
started_more (Issued r e ∷ marks) before = started_more marks before
started_more (Fault e cause ∷ marks) before = started_more marks before

started_served : (marks : List Mark) → started_in (without_faults marks) ≡ started_in marks
started_served [] = refl
started_served (Started e ∷ marks) = ap (λ (l : List Endpoint). e ∷ l) (started_served marks)
started_served (Answered a ∷ marks) = started_served marks
started_served (Flush ∷ marks) = started_served marks
started_served (GaveUp ∷ marks) = started_served marks
started_served (Took who now call answer ∷ marks) = started_served marks
started_served (Issued r e ∷ marks) = started_served marks
started_served (Fault e cause ∷ marks) = started_served marks

-- where no driver is started, the server is told of none
pub not_told : (event : Event) (marks : List Mark) (groups : List Group) (e : Endpoint) → started_in marks ≡ []
    → served ((event, marks) ∷ groups) ≡ Started e ∷ served groups → ⊥
not_told event marks groups e none is = longer (length (started_in (marks_of groups))) (
    sym (ap (λ (l : List Endpoint). length l) (started_served (marks ++ marks_of groups) ∙ started_more marks (marks_of groups)
    ∙ ap (λ (l : List Endpoint). l ++ started_in (marks_of groups)) none))
    ∙ ap (λ (l : List Mark). length (started_in l)) is
    ∙ ap (λ (l : List Endpoint). suc (length l)) (started_served (marks_of groups))
    ) where
      longer : (n : ℕ) → n ≡ suc n → ⊥
      longer n h = omega (arith, h)

longer_list : (m : Mark) (marks : List Mark) → m ∷ marks ≡ marks → ⊥
longer_list m marks is = absurd (longer (length marks) (ap (λ (l : List Mark). length l) is)) where
  longer : (n : ℕ) → suc n ≡ n → ⊥
  longer n h = omega (arith, h)

-- and where the next one is, of that one
pub told_of : (result : Option Incoming) (marks : List Mark) (e : Endpoint) → Started e ∷ marks ≡ with_next result marks → result ≡ Some (incoming.Started e)
told_of None marks e is = absurd (longer_list (Started e) marks is)
told_of (Some (incoming.Reply a)) marks e is = by (counts marks a) is where
  by : (b : Bool) → Started e ∷ marks ≡ cond b (Answered a ∷ marks) marks → Some (incoming.Reply a) ≡ Some (incoming.Started e)
  by true same = cc
  by false same = absurd (longer_list (Started e) marks same)
told_of (Some (incoming.Started x)) marks e is = ap (λ (l : List Mark). Some (incoming.Started (started_there l))) (sym is) where
  started_there : List Mark → Endpoint
  started_there [] = e
  started_there (Started y ∷ l) = y
  started_there (Answered a ∷ l) = e
  started_there (Flush ∷ l) = e
  started_there (GaveUp ∷ l) = e
  started_there (Took who now call answer ∷ l) = e
  started_there (Issued r y ∷ l) = e
  started_there (Fault y cause ∷ l) = e
told_of (Some incoming.GaveUp) marks e is = cc
told_of (Some incoming.Flush) marks e is = cc
told_of (Some incoming.End) marks e is = absurd (longer_list (Started e) marks is)

-- what follows a start goes on doing so
pub follows_on : (after more group before : List Mark) → IssuesFollow after group before → IssuesFollow (after ++ more) group before
follows_on after more [] before h = tt
follows_on after more (m ∷ group) before h = (one m h.0, follows_on (m ∷ after) more group before h.1) where
  one : (x : Mark) → IsFollowedByIssues after x (group ++ before) → IsFollowedByIssues (after ++ more) x (group ++ before)
  one (Started e) k = (
    k.0 ++ more,
    ap (λ (l : List Mark). l ++ more) k.1 ∙ append_assoc (map (λ (r : BlockRequest). Issued r e) (open_requests (group ++ before))) k.0 more,
  )
  one (Answered a) k = tt
  one Flush k = tt
  one GaveUp k = tt
  one (Took who now call answer) k = tt
  one (Issued r e) k = tt
  one (Fault e cause) k = tt

-- no driver is started: nothing more has to follow
pub none_follow : (after marks group before : List Mark) → started_in marks ≡ [] → IssuesFollow [] group before → IssuesFollow after (marks ++ group) before
none_follow after [] group before none h = follows_on [] after group before h
none_follow after (Started e ∷ marks) group before none h = absurd (clash none) where
  clash : ◌≡◌ {A = List Endpoint} (e ∷ started_in marks) [] → ⊥
  clash is = cc
none_follow after (Answered a ∷ marks) group before none h = (tt, none_follow (Answered a ∷ after) marks group before none h)
none_follow after (Flush ∷ marks) group before none h = (tt, none_follow (Flush ∷ after) marks group before none h)
none_follow after (GaveUp ∷ marks) group before none h = (tt, none_follow (GaveUp ∷ after) marks group before none h)
none_follow after (Took who now call answer ∷ marks) group before none h = (tt, none_follow (Took who now call answer ∷ after) marks group before none h)
none_follow after (Issued r e ∷ marks) group before none h = (tt, none_follow (Issued r e ∷ after) marks group before none h)
none_follow after (Fault e cause ∷ marks) group before none h = (tt, none_follow (Fault e cause ∷ after) marks group before none h)

-- nor is another one the last
pub same_last : (marks before : List Mark) → started_in marks ≡ [] → last_started (marks ++ before) ≡ last_started before
same_last [] before none = refl
same_last (Started e ∷ marks) before none = absurd (clash none) where
  clash : ◌≡◌ {A = List Endpoint} (e ∷ started_in marks) [] → ⊥
  clash is = cc
same_last (Answered a ∷ marks) before none = same_last marks before none
same_last (Flush ∷ marks) before none = same_last marks before none
same_last (GaveUp ∷ marks) before none = same_last marks before none
same_last (Took who now call answer ∷ marks) before none = same_last marks before none
same_last (Issued r e ∷ marks) before none = same_last marks before none
same_last (Fault e cause ∷ marks) before none = same_last marks before none

-- no request is issued: none is out of its place
pub quiet_placed : (groups : List Group) (marks group before : List Mark) → is_quiet marks ≡ true
    → are_issued_in_place groups (marks ++ group) before ≡ are_issued_in_place groups group before
quiet_placed groups [] group before quiet = refl
quiet_placed groups (Started e ∷ marks) group before quiet = quiet_placed groups marks group before quiet
quiet_placed groups (Answered a ∷ marks) group before quiet = quiet_placed groups marks group before quiet
quiet_placed groups (Flush ∷ marks) group before quiet = quiet_placed groups marks group before quiet
quiet_placed groups (GaveUp ∷ marks) group before quiet = quiet_placed groups marks group before quiet
quiet_placed groups (Took who now call answer ∷ marks) group before quiet = quiet_placed groups marks group before quiet
quiet_placed groups (Issued r e ∷ marks) group before quiet = cc
quiet_placed groups (Fault e cause ∷ marks) group before quiet = quiet_placed groups marks group before quiet

-- the same drivers live with other marks of the last event
ended_as : (g : ℕ) (event : Event) (group group' : List Mark) (earlier : List Group) → has_exit group' ≡ has_exit group
    → has_ended g ((event, group') ∷ earlier) ≡ has_ended g ((event, group) ∷ earlier)
ended_as g (event.Step h) group group' earlier same = ap (λ (b : Bool). ((h == g) && b) || has_ended g earlier) same
ended_as g (event.Die h bytes) group group' earlier same = refl
ended_as g (event.Arrive who now call) group group' earlier same = refl
ended_as g event.Flush group group' earlier same = refl
ended_as g event.Tick group group' earlier same = refl
ended_as g (event.Hang h) group group' earlier same = refl
ended_as g (event.Deliver n) group group' earlier same = refl
ended_as g (event.Repeat n) group group' earlier same = refl

live_as : (g : ℕ) (event : Event) (group group' : List Mark) (earlier : List Group) → has_exit group' ≡ has_exit group
    → generation (group' ++ marks_of earlier) ≡ generation (group ++ marks_of earlier)
    → is_live g ((event, group') ∷ earlier) ≡ is_live g ((event, group) ∷ earlier)
live_as g event group group' earlier same as_many =
    ap (λ (n : ℕ). (nat_lt 0 g && nat_le g n) && not (has_ended g ((event, group') ∷ earlier))) as_many
    ∙ ap (λ (b : Bool). has_started g ((event, group) ∷ earlier) && not b) (ended_as g event group group' earlier same)

placed_by : (groups groups' : List Group) → ((g : ℕ) → is_live g groups' ≡ is_live g groups) → (marks before : List Mark)
    → are_issued_in_place groups' marks before ≡ are_issued_in_place groups marks before
placed_by groups groups' same [] before = refl
placed_by groups groups' same (Issued r to ∷ marks) before =
    ap (λ (b : Bool). may_issue groups' r to (marks ++ before) && b) (placed_by groups groups' same marks before)
    ∙ ap (λ (b : Bool). (b && not (gave_up (marks ++ before)) && (nat_lt (greatest (marks ++ before)) r.id || is_among_first r.id (marks ++ before)))
    && are_issued_in_place groups marks before) (same to.generation)
placed_by groups groups' same (Started e ∷ marks) before = placed_by groups groups' same marks before
placed_by groups groups' same (Answered a ∷ marks) before = placed_by groups groups' same marks before
placed_by groups groups' same (Flush ∷ marks) before = placed_by groups groups' same marks before
placed_by groups groups' same (GaveUp ∷ marks) before = placed_by groups groups' same marks before
placed_by groups groups' same (Took who now call answer ∷ marks) before = placed_by groups groups' same marks before
placed_by groups groups' same (Fault e cause ∷ marks) before = placed_by groups groups' same marks before

-- what is done within an event leaves, but for posts
pub record Within (marks group before : List Mark) : Type 0 where
  pub exits : has_exit (marks ++ group) ≡ has_exit group
  pub as_many : generation ((marks ++ group) ++ before) ≡ generation (group ++ before)
  pub last_is : last_started ((marks ++ group) ++ before) ≡ last_started (group ++ before)
  pub no_starts : started_in marks ≡ []

pub adds_within : (c a : Core) (marks group before : List Mark) → Adds c marks a → Within marks group before
adds_within c _ _ group before AddsNothing = record { exits = refl; as_many = refl; last_is = refl; no_starts = refl }
adds_within c _ _ group before (Posts r to d lines) = record { exits = refl; as_many = refl; last_is = refl; no_starts = refl }
adds_within c _ _ group before (Replies who now call answer) = record { exits = refl; as_many = refl; last_is = refl; no_starts = refl }
adds_within c _ _ group before (Complains about None after report) = record { exits = refl; as_many = refl; last_is = refl; no_starts = refl }
adds_within c _ _ group before (Complains about (Some ends) after report) = record { exits = refl; as_many = refl; last_is = refl; no_starts = refl }
adds_within c _ _ group before (Pays owed) = record { exits = refl; as_many = refl; last_is = refl; no_starts = refl }

-- and these, where no post is
pub record Numbers (marks marks' : List Mark) : Type 0 where
  pub greatest_is : greatest marks' ≡ greatest marks
  pub open_is : open_requests marks' ≡ open_requests marks

pub same_numbers : (marks : List Mark) → Numbers marks marks
same_numbers marks = record { greatest_is = refl; open_is = refl }

pub adds_numbers : (c a : Core) (marks group before : List Mark) → Adds c marks a → is_quiet marks ≡ true
    → Numbers (without_faults (group ++ before)) (without_faults ((marks ++ group) ++ before))
adds_numbers c _ _ group before AddsNothing quiet = same_numbers _
adds_numbers c _ _ group before (Posts r to d lines) quiet = cc
adds_numbers c _ _ group before (Replies who now call answer) quiet = record { greatest_is = refl; open_is = refl }
adds_numbers c _ _ group before (Complains about None after report) quiet = same_numbers _
adds_numbers c _ _ group before (Complains about (Some ends) after report) quiet = same_numbers _
adds_numbers c _ _ group before (Pays owed) quiet = record { greatest_is = refl; open_is = refl }

-- the requests so far stay in their places
pub stays_placed : (event : Event) (marks group : List Mark) (earlier : List Group) → Within marks group (marks_of earlier)
    → PlacedAsDue event group earlier → are_issued_in_place ((event, marks ++ group) ∷ earlier) group (marks_of earlier) ≡ true
stays_placed event marks group earlier w h =
    placed_by ((event, group) ∷ earlier) ((event, marks ++ group) ∷ earlier) (λ g. live_as g event group (marks ++ group) earlier w.exits w.as_many)
    group (marks_of earlier) ∙ h

-- one more that is in its place
pub one_placed : (event : Event) (r : BlockRequest) (to : Endpoint) (group : List Mark) (earlier : List Group) → Within (Issued r to ∷ []) group (marks_of earlier)
    → may_issue ((event, group) ∷ earlier) r to (group ++ marks_of earlier) ≡ true → PlacedAsDue event group earlier → PlacedAsDue event (Issued r to ∷ group) earlier
one_placed event r to group earlier w may h =
    let marks : List Mark = group ++ marks_of earlier in
    let groups : List Group = (event, Issued r to ∷ group) ∷ earlier in
    ap (λ (b : Bool). (b && not (gave_up marks) && (nat_lt (greatest marks) r.id || is_among_first r.id marks)) && are_issued_in_place groups group (marks_of earlier))
    (live_as to.generation event group (Issued r to ∷ group) earlier w.exits w.as_many)
    ∙ ap (λ (b : Bool). b && are_issued_in_place groups group (marks_of earlier)) may
    ∙ stays_placed event (Issued r to ∷ []) group earlier w h
