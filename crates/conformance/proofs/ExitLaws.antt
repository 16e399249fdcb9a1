-- At each event there are the exits that must be: of a running driver that dies, and of one that fails at its step.
use Rattle.std.proofs.Common.{◌≡◌, ℕ, zero, suc, ◌+◌, ◌-◌, ◌<◌, ◌≤◌, List, [], ◌∷◌, ◌++◌, length, Bool, true, false, cond, refl, sym, ◌∙◌, ap, subst, arith, ◌⊎◌, inl, inr}
use Rattle.std.specs.Prelude.{◌&&◌, map, max, Option, Some, None, Result, Ok, Err, IsSomeAnd, slice_get, slice_set}
use Rattle.std.proofs.lemmas.List.{append_assoc}
use Rattle.message.specs.declared.endpoint.Endpoint.{Endpoint}
use Rattle.message.specs.declared.BlockRequest.{BlockRequest}
use Rattle.media.specs.Contents.{MediaState}
use Rattle.bdev.specs.declared.Step.{Step}
use Rattle.bdev.specs.declared.Step.TheVariants.{Working, Idle, Done, Failed}
use Rattle.bdev.specs.declared.Accept.{Accept}
use Rattle.bdev.specs.declared.Accept.TheVariants.{Taken, Busy, Old}
use Rattle.bdev.specs.DriverState.{DriverState, Work}
use Rattle.bdev.specs.Promises.{StepKeeps, StepsAt as DriverStepsAt, AcceptKeeps}
use Rattle.reincarnate.specs.Watch.{Watch, driver}
use Rattle.records.specs.Marks.{Mark, Started, Answered, Flush, GaveUp, Took, Issued, Fault}
use Rattle.records.specs.declared.marks.Cause.TheVariants.{Exit, Hung}
use Rattle.synchronous_driver.specs.Steps.{HandsOver}
use Rattle.schedule.specs.declared.Event.{Event}
use Rattle.schedule.specs.declared.Event.TheVariants as event
use Rattle.schedule.specs.Groups.{Group, EachGroup}
use Rattle.schedule.specs.Drivers.{state_of, exits_in, driver_runs}
use Rattle.schedule.specs.Faults.{ExitsOfGroup, ExitsAtStep, exits_due}
use Rattle.schedule.specs.Laws.{HasFailed}
use Rattle.reissue.specs.declared.link.LinkRefusal.{LinkRefusal}
use Rattle.schedule.specs.declared.log.Post.{Post}
use Rattle.simulated_link.specs.Disks.{Disks, Slot, SlotSteps, IsOlder, started, Steps, NoStep, CurrentSteps, OlderSteps, Dies, NoneDies, CurrentDies, OlderDies, Hangs, NoneHangs, CurrentHangs, OlderHangs, LinesUp, NoneIsThere, LineIsFull, IsLinedUp, LinesUpAgain, NoneLinesUp, CurrentLinesUp, OlderLinesUp, Repeats}
use Rattle.conformance.specs.Core.{Core, FollowsGroups}
use Rattle.conformance.specs.Happens.{AtReport, OfNone, OfRunning, fault_marks, exit_marks, beaten_core, TicksTo, Beats, MissesOne, FoundHung, WaitsOn, StartsNext, IsOver, Begins, Arrives, Flushes, Answers, Drops, Delivers, LinesAgain, HangsOne, StepsOne, FailsOne, DiesNone, DiesOne, Ticks, Adds, AddsNothing, Posts, Replies, Complains, Pays}
use Rattle.conformance.specs.Steady.{IsKept, state_in, drivers_of, ExitsSoFar}
use Rattle.conformance.proofs.DiskMoves.{steps_generation, dies_generation, hangs_generation}
use Rattle.conformance.proofs.TickLaws.{follows_begins, follows_adds}
use Rattle.conformance.proofs.StartLaws.{exits_at_death, exits_at_no_death, runs_too}

-- a driver that has failed still has
abbrev StaysFailed : DriverState → DriverState → Type 0
StaysFailed b a = b.failed ≡ true → a.failed ≡ true

pub accept_failed : (b : DriverState) (q : BlockRequest) (result : Accept) (a : DriverState) → AcceptKeeps b q result a → a.failed ≡ b.failed
accept_failed b q Taken a k = k.2.same_failed
accept_failed b q Busy a k = ap (λ (d : DriverState). d.failed) k.1
accept_failed b q Old a k = ap (λ (d : DriverState). d.failed) k.2

pub hands_failed : (b : DriverState) (line : List BlockRequest) (a : DriverState) (after : List BlockRequest) → HandsOver b line a after → a.failed ≡ b.failed
hands_failed b [] a after h = ap (λ (d : DriverState). d.failed) h.0
hands_failed b (q ∷ rest) a after h = accept_failed b q h.0 a h.1

step_failed : (b : DriverState) (w : Option Work) (m : MediaState) (g : ℕ) (step : Step) (a : DriverState) (m' : MediaState) → DriverStepsAt b w m g step a m'
    → StaysFailed b a
step_failed b None m g Idle a m' s was = ap (λ (d : DriverState). d.failed) s.1 ∙ was
step_failed b None m g Failed a m' s was = ap (λ (d : DriverState). d.failed) s.1
step_failed b None m g Working a m' s was = absurd s.1
step_failed b None m g (Done answer) a m' s was = absurd s.1
step_failed b (Some w) m g Working a m' s was = s.2.failed_is ∙ was
step_failed b (Some w) m g Failed a m' s was = s.2.failed_is
step_failed b (Some w) m g (Done answer) a m' s was = s.2.same_failed ∙ was
step_failed b (Some w) m g Idle a m' s was = absurd s.2

failed_now : (b : DriverState) (w : Option Work) (m : MediaState) (g : ℕ) (a : DriverState) (m' : MediaState) → DriverStepsAt b w m g Failed a m' → a.failed ≡ true
failed_now b None m g a m' s = ap (λ (d : DriverState). d.failed) s.1
failed_now b (Some w) m g a m' s = s.2.failed_is

slot_failed : (g : ℕ) (b : Slot) (m : MediaState) (step : Step) (a : Slot) (m' : MediaState) → SlotSteps g b m step a m' → StaysFailed b.state a.state
slot_failed g b m step a m' s was =
    step_failed s.handed s.handed.work m g step a.state m' s.steps.steps (hands_failed b.state b.line s.handed a.line s.hands ∙ was)

abbrev Failed_there : List Slot → ℕ → Type 0
Failed_there slots k = IsSomeAnd (slice_get (map state_in slots) k) (λ d. d.failed ≡ true)

last_failed : (older : List Slot) (b a : Slot) → StaysFailed b.state a.state → (k : ℕ) → Failed_there (older ++ b ∷ []) k → Failed_there (older ++ a ∷ []) k
last_failed [] b a stays zero was = stays was
last_failed [] b a stays (suc k) was = was
last_failed (x ∷ older) b a stays zero was = was
last_failed (x ∷ older) b a stays (suc k) was = last_failed older b a stays k was

abbrev FailedSlot : Option Slot → Type 0
FailedSlot None = ⊥
FailedSlot (Some s) = s.state.failed ≡ true

older_failed : (older : List Slot) (current : Slot) (at : ℕ) (b a : Slot) → slice_get older at ≡ Some b → StaysFailed b.state a.state → (k : ℕ)
    → Failed_there (older ++ current ∷ []) k → Failed_there (slice_set older at a ++ current ∷ []) k
older_failed [] current at b a there stays k was = was
older_failed (x ∷ older) current zero b a there stays zero was = stays (subst (λ (o : Option Slot). FailedSlot o) there was)
older_failed (x ∷ older) current zero b a there stays (suc k) was = was
older_failed (x ∷ older) current (suc at) b a there stays zero was = was
older_failed (x ∷ older) current (suc at) b a there stays (suc k) was = older_failed older current at b a there stays k was

more_failed : (slots : List Slot) (new : Slot) (k : ℕ) → Failed_there slots k → Failed_there (slots ++ new ∷ []) k
more_failed [] new k was = absurd was
more_failed (x ∷ slots) new zero was = was
more_failed (x ∷ slots) new (suc k) was = more_failed slots new k was

-- the drivers that had failed still have, and there are as many
pub record FailedStay (b a : Disks) : Type 0 where
  pub failed : (g : ℕ) → HasFailed (drivers_of b) g → HasFailed (drivers_of a) g
  pub many : length a.older + 1 ≡ length b.older + 1

by_place : (b a : Disks) → ((k : ℕ) → Failed_there (b.older ++ b.current ∷ []) k → Failed_there (a.older ++ a.current ∷ []) k)
    → (g : ℕ) → HasFailed (drivers_of b) g → HasFailed (drivers_of a) g
by_place b a stays zero was = was
by_place b a stays (suc g) was = stays g was

none_changed : (b : Disks) → FailedStay b b
none_changed b = record { failed = λ g was. was; many = refl }

current_changed : (b a : Disks) → a.older ≡ b.older → StaysFailed b.current.state a.current.state → FailedStay b a
current_changed b a older stays = record {
  failed = by_place b a (λ k was. subst (λ (l : List Slot). Failed_there (l ++ a.current ∷ []) k) (sym older) (last_failed b.older b.current a.current stays k was));
  many = ap (λ (l : List Slot). length l + 1) older;
}

same_length : (slots : List Slot) (at : ℕ) (s : Slot) → length (slice_set slots at s) ≡ length slots
same_length [] at s = refl
same_length (x ∷ slots) zero s = refl
same_length (x ∷ slots) (suc at) s = ap suc (same_length slots at s)

older_changed : (b a : Disks) (at : ℕ) (was new : Slot) → slice_get b.older at ≡ Some was → a.older ≡ slice_set b.older at new → a.current ≡ b.current
    → StaysFailed was.state new.state → FailedStay b a
older_changed b a at was new there older current stays = record {
  failed = by_place b a (λ k h. subst (λ (l : List Slot). Failed_there (l ++ a.current ∷ []) k) (sym older)
      (subst (λ (s : Slot). Failed_there (slice_set b.older at new ++ s ∷ []) k) (sym current) (older_failed b.older b.current at was new there stays k h)));
  many = ap (λ (l : List Slot). length l + 1) older ∙ ap (λ (n : ℕ). n + 1) (same_length b.older at new);
}

steps_stay : (place g : ℕ) (b a : Disks) (result : Option Step) → Steps place g b result a → FailedStay b a
steps_stay place g b _ _ (NoStep none) = none_changed b
steps_stay place g b _ _ (CurrentSteps step a m is live s) = current_changed b _ refl (slot_failed g b.current b.media step a m s)
steps_stay place g b _ _ (OlderSteps at was a step m older live s) = older_changed b _ at was a older.there refl refl (slot_failed g was b.media step a m s)

dies_stay : (g : ℕ) (bytes : Option (List ℕ)) (b a : Disks) (died : Bool) → Dies g bytes b died a → FailedStay b a
dies_stay g bytes b _ _ (NoneDies none) = none_changed b
dies_stay g bytes b _ _ (CurrentDies is live) = current_changed b _ refl (λ was. was)
dies_stay g bytes b _ _ (OlderDies at was older live) = older_changed b _ at was _ older.there refl refl (λ h. h)

hangs_stay : (g : ℕ) (b a : Disks) → Hangs g b a → FailedStay b a
hangs_stay g b _ (NoneHangs none) = none_changed b
hangs_stay g b _ (CurrentHangs is) = current_changed b _ refl (λ was. was)
hangs_stay g b _ (OlderHangs at was older) = older_changed b _ at was _ older.there refl refl (λ h. h)

again_stay : (g : ℕ) (r : BlockRequest) (b a : Disks) → LinesUpAgain g r b a → FailedStay b a
again_stay g r b _ (NoneLinesUp none) = none_changed b
again_stay g r b _ (CurrentLinesUp is live few) = current_changed b _ refl (λ was. was)
again_stay g r b _ (OlderLinesUp at slot older live few) = older_changed b _ at slot _ older.there refl refl (λ h. h)

repeats_stay : (p : Option Post) (b a : Disks) → Repeats p b a → FailedStay b a
repeats_stay None b a is = subst (λ (d : Disks). FailedStay b d) (sym is) (none_changed b)
repeats_stay (Some p) b a again = again_stay p.to.generation p.request b a again

lines_stay : (to : Endpoint) (r : BlockRequest) (b a : Disks) (result : Result (Unit {0}) LinkRefusal) → LinesUp to r b result a → FailedStay b a
lines_stay to r b _ _ (NoneIsThere none) = none_changed b
lines_stay to r b _ _ (LineIsFull there full) = none_changed b
lines_stay to r b _ _ (IsLinedUp there few) = current_changed b _ refl (λ was. was)

again_generation : (g : ℕ) (r : BlockRequest) (b a : Disks) → LinesUpAgain g r b a → a.media.generation ≡ b.media.generation
again_generation g r b _ (NoneLinesUp none) = refl
again_generation g r b _ (CurrentLinesUp is live few) = refl
again_generation g r b _ (OlderLinesUp at slot older live few) = refl

repeats_generation : (p : Option Post) (b a : Disks) → Repeats p b a → a.media.generation ≡ b.media.generation
repeats_generation None b a is = ap (λ (d : Disks). d.media.generation) is
repeats_generation (Some p) b a again = again_generation p.to.generation p.request b a again

lines_generation : (to : Endpoint) (r : BlockRequest) (b a : Disks) (result : Result (Unit {0}) LinkRefusal) → LinesUp to r b result a
    → a.media.generation ≡ b.media.generation
lines_generation to r b _ _ (NoneIsThere none) = refl
lines_generation to r b _ _ (LineIsFull there full) = refl
lines_generation to r b _ _ (IsLinedUp there few) = refl

-- what is said of all drivers, before and after: the ones that had failed still have, and each one has its number
pub record Went (b a : Disks) : Type 0 where
  pub failed : (g : ℕ) → HasFailed (drivers_of b) g → HasFailed (drivers_of a) g
  pub numbered : length b.older + 1 ≡ b.media.generation → length a.older + 1 ≡ a.media.generation

went : (b a : Disks) → FailedStay b a → a.media.generation ≡ b.media.generation → Went b a
went b a stay same = record { failed = stay.failed; numbered = λ n. stay.many ∙ n ∙ sym same }

pub length_more : (slots : List Slot) (s : Slot) → length (slots ++ s ∷ []) ≡ length slots + 1
length_more [] s = omega arith
length_more (x ∷ slots) s = let k : length (slots ++ s ∷ []) ≡ length slots + 1 = length_more slots s in omega (arith, k)

went_started : (b : Disks) (d : DriverState) → Went b (started (b.media.generation + 1) d b)
went_started b d = record {
  failed = by_place b (started (b.media.generation + 1) d b) (λ k was. more_failed (b.older ++ b.current ∷ []) (record { state = d; live = true; hung = false; line = [] }) k was);
  numbered = λ n. let k : length (b.older ++ b.current ∷ []) ≡ length b.older + 1 = length_more b.older b.current in omega (arith, k, n);
}

tick_went : (drivers : ℕ) (groups : List Group) (c a : Core) (marks : List Mark) → FollowsGroups drivers groups c → TicksTo (beaten_core c) marks a → Went c.disks a.disks
tick_went drivers groups c _ _ h (Beats last count is same) = went c.disks c.disks (none_changed c.disks) refl
tick_went drivers groups c _ _ h (MissesOne last count is same few) = went c.disks c.disks (none_changed c.disks) refl
tick_went drivers groups c _ _ h (FoundHung last count ends after is same enough fault) = went c.disks c.disks (none_changed c.disks) refl
tick_went drivers groups c _ _ h (WaitsOn until is early) = went c.disks c.disks (none_changed c.disks) refl
tick_went drivers groups c _ _ h (StartsNext until d rest is come spare) =
    subst (λ (n : ℕ). Went c.disks (started (n + 1) d c.disks)) h.latest (went_started c.disks d)
tick_went drivers groups c _ _ h (IsOver is) = went c.disks c.disks (none_changed c.disks) refl

pub begins_went : (drivers place : ℕ) (groups : List Group) (c a : Core) (event : Event) (marks : List Mark) → FollowsGroups drivers groups c
    → Begins place groups c event marks a → Went c.disks a.disks
begins_went drivers place groups c _ _ _ h (Arrives who now call) = went c.disks c.disks (none_changed c.disks) refl
begins_went drivers place groups c _ _ _ h Flushes = went c.disks c.disks (none_changed c.disks) refl
begins_went drivers place groups c _ _ _ h (Answers n s there counts) = went c.disks c.disks (none_changed c.disks) refl
begins_went drivers place groups c _ _ _ h (Drops n s there counts) = went c.disks c.disks (none_changed c.disks) refl
begins_went drivers place groups c _ _ _ h (Delivers n there) = went c.disks c.disks (none_changed c.disks) refl
begins_went drivers place groups c _ _ _ h (LinesAgain n p d same again) = went c.disks d (repeats_stay p c.disks d again) (repeats_generation p c.disks d again)
begins_went drivers place groups c _ _ _ h (HangsOne g d hangs) = went c.disks d (hangs_stay g c.disks d hangs) (hangs_generation g c.disks d hangs)
begins_went drivers place groups c _ _ _ h (StepsOne g step d steps well) = went c.disks d (steps_stay place g c.disks d step steps) (steps_generation place g c.disks d step steps)
begins_went drivers place groups c _ _ _ h (FailsOne g d ends after steps report) =
    went c.disks d (steps_stay place g c.disks d (Some Failed) steps) (steps_generation place g c.disks d (Some Failed) steps)
begins_went drivers place groups c _ _ _ h (DiesNone g bytes d dies) = went c.disks d (dies_stay g bytes c.disks d false dies) (dies_generation g bytes c.disks d false dies)
begins_went drivers place groups c _ _ _ h (DiesOne g bytes d ends after dies report) =
    went c.disks d (dies_stay g bytes c.disks d true dies) (dies_generation g bytes c.disks d true dies)
begins_went drivers place groups c a _ marks h (Ticks _ _ ticks) = tick_went drivers groups c a marks h ticks

pub adds_went : (c a : Core) (marks : List Mark) → Adds c marks a → Went c.disks a.disks
adds_went c _ _ AddsNothing = went c.disks c.disks (none_changed c.disks) refl
adds_went c _ _ (Posts r to d lines) = went c.disks d (lines_stay to r c.disks d (Ok tt) lines) (lines_generation to r c.disks d (Ok tt) lines)
adds_went c _ _ (Replies who now call answer) = went c.disks c.disks (none_changed c.disks) refl
adds_went c _ _ (Complains about ends after report) = went c.disks c.disks (none_changed c.disks) refl
adds_went c _ _ (Pays owed) = went c.disks c.disks (none_changed c.disks) refl

-- exits so far stay justified
exits_still : (b a : List DriverState) (event : Event) (group : List Mark) (earlier : List Group) → ((g : ℕ) → HasFailed b g → HasFailed a g)
    → ExitsOfGroup b event group earlier → ExitsOfGroup a event group earlier
exits_still b a (event.Step g) group earlier failed exits = at exits
  where
    at : (exits_in group ≡ []) ⊎ ExitsAtStep b g group earlier → (exits_in group ≡ []) ⊎ ExitsAtStep a g group earlier
    at (inl none) = inl none
    at (inr one) = inr (record { one = one.one; runs = one.runs; failed = failed g one.failed })
exits_still b a (event.Die g bytes) group earlier failed exits = exits
exits_still b a (event.Deliver k) group earlier failed exits = exits
exits_still b a (event.Arrive who now call) group earlier failed exits = exits
exits_still b a event.Flush group earlier failed exits = exits
exits_still b a event.Tick group earlier failed exits = exits
exits_still b a (event.Hang g) group earlier failed exits = exits
exits_still b a (event.Repeat n) group earlier failed exits = exits

all_exits_still : (b a : List DriverState) (groups : List Group) → ((g : ℕ) → HasFailed b g → HasFailed a g)
    → EachGroup (λ event group earlier. ExitsOfGroup b event group earlier) groups → EachGroup (λ event group earlier. ExitsOfGroup a event group earlier) groups
all_exits_still b a [] failed each = tt
all_exits_still b a (g ∷ groups) failed each = (exits_still b a g.0 g.1 groups failed each.0, all_exits_still b a groups failed each.1)

exit_at : (ends : Bool) (e : Endpoint) → exits_in (fault_marks ends e Exit) ≡ e ∷ []
exit_at true e = refl
exit_at false e = refl

last_there : (older : List Slot) (s : Slot) → s.state.failed ≡ true → Failed_there (older ++ s ∷ []) (length older)
last_there [] s failed = failed
last_there (x ∷ older) s failed = last_there older s failed

-- the current driver failed at this step
current_failed : (place g : ℕ) (b a : Disks) (result : Option Step) → Steps place g b result a → result ≡ Some Failed → g ≡ b.media.generation
    → length b.older + 1 ≡ b.media.generation → HasFailed (drivers_of a) g
current_failed place g b _ _ (NoStep none) is at number = cc
current_failed place g b _ _ (CurrentSteps step a m own live s) is at number =
    let kept : StepKeeps s.handed b.media g Failed a.state m = subst (λ (o : Step). StepKeeps s.handed b.media g o a.state m) (same_step step Failed is) s.steps in
    let failed : a.state.failed ≡ true = failed_now s.handed s.handed.work b.media g a.state m kept.steps in
    let next : suc (length b.older) ≡ g = omega (arith, number, at) in
    subst (λ (n : ℕ). HasFailed (map state_in (b.older ++ a ∷ [])) n) next (last_there b.older a failed) where
      same_step : (x y : Step) → Some x ≡ Some y → x ≡ y
      same_step x y e = cc
current_failed place g b _ _ (OlderSteps n was a step m older live s) is at number = absurd (not_both g b.media.generation older.older at) where
  not_both : (n m : ℕ) → n < m → n ≡ m → ⊥
  not_both n m low same = omega (arith, low, same)

same_driver : (g h : ℕ) → driver g ≡ driver h → g ≡ h
same_driver g h e = ap (λ (x : Endpoint). x.generation) e

exits_now : (drivers place : ℕ) (groups : List Group) (c a : Core) (event : Event) (marks : List Mark) → FollowsGroups drivers groups c
    → length c.disks.older + 1 ≡ c.disks.media.generation → Begins place groups c event marks a → ExitsOfGroup (drivers_of a.disks) event marks groups
exits_now drivers place groups c _ _ _ h number (Arrives who now call) = refl
exits_now drivers place groups c _ _ _ h number Flushes = refl
exits_now drivers place groups c _ _ _ h number (Answers n s there counts) = refl
exits_now drivers place groups c _ _ _ h number (Drops n s there counts) = refl
exits_now drivers place groups c _ _ _ h number (Delivers n there) = refl
exits_now drivers place groups c _ _ _ h number (LinesAgain n p d same again) = refl
exits_now drivers place groups c _ _ _ h number (HangsOne g d hangs) = refl
exits_now drivers place groups c _ _ _ h number (StepsOne g step d steps well) = inl refl
exits_now drivers place groups c _ _ _ h number (FailsOne g d _ _ steps (OfNone other)) = inl refl
exits_now drivers place groups c _ _ _ h number (FailsOne g d _ _ steps (OfRunning last count ends after is at fault)) = inr (record {
  one = exit_at ends (driver g);
  runs = runs_too drivers g groups c last count h is at;
  failed = current_failed place g c.disks d (Some Failed) steps refl (same_driver g c.watch.generation at ∙ sym h.latest) number;
})
exits_now drivers place groups c _ _ _ h number (DiesNone g bytes d dies) = exits_at_no_death drivers g bytes groups c d h dies
exits_now drivers place groups c _ _ _ h number (DiesOne g bytes d ends after dies report) = exits_at_death drivers g bytes groups c d ends after h report
exits_now drivers place groups c a _ marks h number (Ticks _ _ ticks) = none (beaten_core c) a marks ticks where
  no_exit : (ends : Bool) (e : Endpoint) → exits_in (fault_marks ends e Hung) ≡ []
  no_exit true e = refl
  no_exit false e = refl

  none : (c a : Core) (marks : List Mark) → TicksTo c marks a → exits_in marks ≡ []
  none c _ _ (Beats last count is same) = refl
  none c _ _ (MissesOne last count is same few) = refl
  none c _ _ (FoundHung last count ends after is same enough fault) = no_exit ends (driver c.disks.media.generation)
  none c _ _ (WaitsOn until is early) = refl
  none c _ _ (StartsNext until d rest is come spare) = refl
  none c _ _ (IsOver is) = refl

no_exits_added : (c a : Core) (marks group : List Mark) → Adds c marks a → exits_in (marks ++ group) ≡ exits_in group
no_exits_added c _ _ group AddsNothing = refl
no_exits_added c _ _ group (Posts r to d lines) = refl
no_exits_added c _ _ group (Replies who now call answer) = refl
no_exits_added c _ _ group (Complains about None after report) = refl
no_exits_added c _ _ group (Complains about (Some ends) after report) = refl
no_exits_added c _ _ group (Pays owed) = refl

-- what is asked of exits asks nothing else of a group's marks
by_exits : (drivers : List DriverState) (event : Event) (group more : List Mark) (earlier : List Group) → exits_in more ≡ exits_in group
    → ExitsOfGroup drivers event group earlier → ExitsOfGroup drivers event more earlier
by_exits drivers (event.Step g) group more earlier same exits = at exits
  where
    at : (exits_in group ≡ []) ⊎ ExitsAtStep drivers g group earlier → (exits_in more ≡ []) ⊎ ExitsAtStep drivers g more earlier
    at (inl none) = inl (same ∙ none)
    at (inr one) = inr (record { one = same ∙ one.one; runs = one.runs; failed = one.failed })
by_exits drivers (event.Die g bytes) group more earlier same exits = same ∙ exits
by_exits drivers (event.Deliver k) group more earlier same exits = same ∙ exits
by_exits drivers (event.Arrive who now call) group more earlier same exits = same ∙ exits
by_exits drivers event.Flush group more earlier same exits = same ∙ exits
by_exits drivers event.Tick group more earlier same exits = same ∙ exits
by_exits drivers (event.Hang g) group more earlier same exits = same ∙ exits
by_exits drivers (event.Repeat n) group more earlier same exits = same ∙ exits

pub exits_kept : (drivers : ℕ) → IsKept (ExitsSoFar drivers)
exits_kept drivers = record {
  begins = λ place groups c a event marks paid begins h.
      let w : Went c.disks a.disks = begins_went drivers place groups c a event marks h.follows begins in
      record {
        follows = follows_begins drivers place groups c a event marks h.follows begins;
        numbered = w.numbered h.numbered;
        each = (
          exits_now drivers place groups c a event marks h.follows h.numbered begins,
          all_exits_still (drivers_of c.disks) (drivers_of a.disks) groups w.failed h.each,
        );
      };
  adds = λ place event group earlier c a marks adds h.
      let w : Went c.disks a.disks = adds_went c a marks adds in
      record {
        follows = follows_adds drivers event group earlier c a marks h.follows adds;
        numbered = w.numbered h.numbered;
        each = (
          exits_still (drivers_of c.disks) (drivers_of a.disks) event (marks ++ group) earlier w.failed
              (by_exits (drivers_of c.disks) event group (marks ++ group) earlier (no_exits_added c a marks group adds) h.each.0),
          all_exits_still (drivers_of c.disks) (drivers_of a.disks) earlier w.failed h.each.1,
        );
      };
}
