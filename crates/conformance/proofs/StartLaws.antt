-- At each event the drivers are started, found to be hung, and told to exit, that the policy and the events before say; and flushes.
use Rattle.std.proofs.Common.{◌≡◌, ℕ, zero, suc, ◌+◌, ◌-◌, ◌<◌, ◌≤◌, List, [], ◌∷◌, ◌++◌, Bool, true, false, cond, refl, sym, ◌∙◌, ap, subst, inl, inr, ◌⊎◌, arith, length}
use Rattle.std.proofs.lemmas.Bool.Decides.{nat_tests}
use Rattle.std.specs.Prelude.{◌&&◌, ◌||◌, not, ◌==◌, nat_lt, nat_le, Option, Some, None, Ok, if◌then◌else◌}
use Rattle.message.specs.declared.endpoint.Endpoint.{Endpoint}
use Rattle.reincarnate.specs.declared.policy.Policy.{Policy}
use Rattle.reincarnate.specs.Faults.{LastFault, restart_tick}
use Rattle.reincarnate.specs.Watch.{Watch, Phase, Running, Waiting, GivenUp, driver, is_last_started}
use Rattle.records.specs.Marks.{Mark, Started, Answered, Flush, GaveUp, Took, Issued, Fault, gave_up, awaits_start, is_endpoint}
use Rattle.records.specs.declared.marks.Cause.{Cause}
use Rattle.records.specs.declared.marks.Cause.TheVariants.{Exit, Hung, Complaint}
use Rattle.schedule.specs.declared.Event.{Event}
use Rattle.schedule.specs.declared.Event.TheVariants as event
use Rattle.schedule.specs.Groups.{Group, marks_of, ticks_so_far, running, started_in, generation}
use Rattle.schedule.specs.Drivers.{is_hung, missed, exits_in, driver_runs}
use Rattle.schedule.specs.Faults.{hung_in, hung_by, hung_due, exits_due}
use Rattle.schedule.specs.Starts.{fault_of, has_come, starts_due}
use Rattle.schedule.specs.Calls.{flushes_in, flushes_due}
use Rattle.simulated_link.specs.Disks.{Disks, NoneLives, NotStarted, CurrentIsDead, OlderIsDead, Dies, NoneDies, CurrentDies, OlderDies}
use Rattle.conformance.specs.Core.{Core, Story, story, RunsNow, WaitsNow, IsGivenUp, PhaseIs, Follows, FollowsGroups}
use Rattle.conformance.specs.Happens.{IsNotRunning, AtReport, OfNone, OfRunning, fault_marks, exit_marks, blame_marks, beaten_core, TicksTo, Beats, MissesOne, FoundHung, WaitsOn, StartsNext, IsOver, Begins, Arrives, Flushes, Answers, Drops, Delivers, LinesAgain, HangsOne, StepsOne, FailsOne, DiesNone, DiesOne, Ticks, Adds, AddsNothing, Posts, Replies, Complains, Pays}
use Rattle.conformance.proofs.FollowLaws.{same_number, other_number, runs_now}
use Rattle.conformance.proofs.TickLaws.{same_is_hung}

-- Starts.
abbrev due : Policy → Bool → Bool → Option LastFault → ℕ → ℕ → List Endpoint
due policy awaits ended fault tick g = if awaits && not ended && has_come policy fault tick then driver (g + 1) ∷ [] else []

none_awaited : (policy : Policy) (awaits ended : Bool) (fault : Option LastFault) (tick g : ℕ) → awaits ≡ false → due policy awaits ended fault tick g ≡ []
none_awaited policy awaits ended fault tick g is = ap (λ (b : Bool). due policy b ended fault tick g) is

none_after_end : (policy : Policy) (awaits ended : Bool) (fault : Option LastFault) (tick g : ℕ) → ended ≡ true → due policy awaits ended fault tick g ≡ []
none_after_end policy true ended fault tick g is = ap (λ (b : Bool). due policy true b fault tick g) is
none_after_end policy false ended fault tick g is = refl

one_awaited : (policy : Policy) (awaits ended : Bool) (fault : Option LastFault) (tick g : ℕ) (come : Bool) → awaits ≡ true → ended ≡ false
    → has_come policy fault tick ≡ come → due policy awaits ended fault tick g ≡ (if come then driver (g + 1) ∷ [] else [])
one_awaited policy awaits ended fault tick g come is goes comes =
    ap (λ (b : Bool). due policy b ended fault tick g) is
    ∙ ap (λ (b : Bool). due policy true b fault tick g) goes
    ∙ ap (λ (b : Bool). if b then driver (g + 1) ∷ [] else []) comes

come_is : (drivers : ℕ) (x : Story) (c : Core) (until : ℕ) → Follows drivers x c → WaitsNow x c until
    → has_come c.policy x.fault (x.ticks + 1) ≡ nat_le until (c.tick + 1)
come_is drivers x c until h k =
    ap (λ (f : Option LastFault). has_come c.policy f (x.ticks + 1)) (sym h.fault_is ∙ k.last_is)
    ∙ ap (λ (n : ℕ). nat_le n (x.ticks + 1)) (sym k.until_is)
    ∙ ap (λ (n : ℕ). nat_le until (n + 1)) (sym h.tick_is)

no_start : (ends : Bool) (e : Endpoint) (cause : Cause) → started_in (fault_marks ends e cause) ≡ []
no_start true e cause = refl
no_start false e cause = refl

starts_tick : (drivers : ℕ) (groups : List Group) (c a : Core) (marks : List Mark) → FollowsGroups drivers groups c → c.owed ≡ false
    → TicksTo (beaten_core c) marks a → started_in marks ≡ starts_due c.policy event.Tick groups
starts_tick drivers groups c _ _ h paid (Beats last count is same) = let x : Story = story c.policy c.watch.generation groups in
    sym (none_awaited c.policy x.awaits x.ended x.fault (x.ticks + 1) x.started (runs_now drivers x c last count h is).none_awaited)
starts_tick drivers groups c _ _ h paid (MissesOne last count is same few) = let x : Story = story c.policy c.watch.generation groups in
    sym (none_awaited c.policy x.awaits x.ended x.fault (x.ticks + 1) x.started (runs_now drivers x c last count h is).none_awaited)
starts_tick drivers groups c _ _ h paid (FoundHung last count ends after is same enough fault) = let x : Story = story c.policy c.watch.generation groups in
    no_start ends (driver c.disks.media.generation) Hung
    ∙ sym (none_awaited c.policy x.awaits x.ended x.fault (x.ticks + 1) x.started (runs_now drivers x c last count h is).none_awaited)
starts_tick drivers groups c _ _ h paid (WaitsOn until is early) =
    let x : Story = story c.policy c.watch.generation groups in
    let k : WaitsNow x c until = subst (λ (p : Phase). PhaseIs x c p) is h.phase_is in
    sym (one_awaited c.policy x.awaits x.ended x.fault (x.ticks + 1) x.started false k.awaited k.goes_on (come_is drivers x c until h k ∙ early))
starts_tick drivers groups c _ _ h paid (StartsNext until d rest is come spare) =
    let x : Story = story c.policy c.watch.generation groups in
    let k : WaitsNow x c until = subst (λ (p : Phase). PhaseIs x c p) is h.phase_is in
    sym (one_awaited c.policy x.awaits x.ended x.fault (x.ticks + 1) x.started true k.awaited k.goes_on (come_is drivers x c until h k ∙ come)
    ∙ ap (λ (n : ℕ). driver (n + 1) ∷ []) h.started_is)
starts_tick drivers groups c _ _ h paid (IsOver is) =
    let x : Story = story c.policy c.watch.generation groups in
    let k : IsGivenUp x c = subst (λ (p : Phase). PhaseIs x c p) is h.phase_is in
    sym (none_after_end c.policy x.awaits x.ended x.fault (x.ticks + 1) x.started (k.ended_is ∙ ap not paid))

no_start_at_exit : (ends : Option Bool) (e : Endpoint) → started_in (exit_marks ends e) ≡ []
no_start_at_exit None e = refl
no_start_at_exit (Some true) e = refl
no_start_at_exit (Some false) e = refl

pub starts_begins : (drivers place : ℕ) (groups : List Group) (c a : Core) (event : Event) (marks : List Mark) → FollowsGroups drivers groups c → c.owed ≡ false
    → Begins place groups c event marks a → started_in marks ≡ starts_due c.policy event groups
starts_begins drivers place groups c _ _ _ h paid (Arrives who now call) = refl
starts_begins drivers place groups c _ _ _ h paid Flushes = refl
starts_begins drivers place groups c _ _ _ h paid (Answers n s there counts) = refl
starts_begins drivers place groups c _ _ _ h paid (Drops n s there counts) = refl
starts_begins drivers place groups c _ _ _ h paid (Delivers n there) = refl
starts_begins drivers place groups c _ _ _ h paid (LinesAgain n p d same again) = refl
starts_begins drivers place groups c _ _ _ h paid (HangsOne g d hangs) = refl
starts_begins drivers place groups c _ _ _ h paid (StepsOne g step d steps well) = refl
starts_begins drivers place groups c _ _ _ h paid (FailsOne g d ends after steps report) = no_start_at_exit ends (driver g)
starts_begins drivers place groups c _ _ _ h paid (DiesNone g bytes d dies) = refl
starts_begins drivers place groups c _ _ _ h paid (DiesOne g bytes d ends after dies report) = no_start_at_exit ends (driver g)
starts_begins drivers place groups c a _ marks h paid (Ticks _ _ ticks) = starts_tick drivers groups c a marks h paid ticks

pub starts_adds : (c a : Core) (marks group : List Mark) → Adds c marks a → started_in (marks ++ group) ≡ started_in group
starts_adds c _ _ group AddsNothing = refl
starts_adds c _ _ group (Posts r to d lines) = refl
starts_adds c _ _ group (Replies who now call answer) = refl
starts_adds c _ _ group (Complains about None after report) = refl
starts_adds c _ _ group (Complains about (Some ends) after report) = refl
starts_adds c _ _ group (Pays owed) = refl

-- Drivers found to be hung.
hung_while : (misses : ℕ) (g count : ℕ) (groups : List Group) (hung enough : Bool) → is_hung g groups ≡ hung → count ≡ missed g groups
    → (count + 1 == misses) ≡ enough → hung_by misses (Some (driver g)) groups ≡ (if hung && enough then driver g ∷ [] else [])
hung_while misses g count groups hung enough is counts enough_is =
    ap (λ (b : Bool). if b && (missed g groups + 1 == misses) then driver g ∷ [] else []) is
    ∙ ap (λ (b : Bool). if hung && b then driver g ∷ [] else []) (ap (λ (n : ℕ). n + 1 == misses) (sym counts) ∙ enough_is)

found_hung : (ends : Bool) (e : Endpoint) → hung_in (fault_marks ends e Hung) ≡ e ∷ []
found_hung true e = refl
found_hung false e = refl

hung_tick : (drivers : ℕ) (groups : List Group) (c a : Core) (marks : List Mark) → FollowsGroups drivers groups c
    → TicksTo (beaten_core c) marks a → hung_in marks ≡ hung_by c.policy.misses (running (marks_of groups)) groups
hung_tick drivers groups c _ _ h (Beats last count is same) =
    let x : Story = story c.policy c.watch.generation groups in
    let now : RunsNow x c last count = runs_now drivers x c last count h is in
    let calm : is_hung c.watch.generation groups ≡ false = sym (same_is_hung drivers x c last count h is) ∙ same in
    sym (ap (λ (o : Option Endpoint). hung_by c.policy.misses o groups) now.runs_is
    ∙ hung_while c.policy.misses c.watch.generation count groups false (count + 1 == c.policy.misses) calm now.count_is refl)
hung_tick drivers groups c _ _ h (MissesOne last count is same few) =
    let x : Story = story c.policy c.watch.generation groups in
    let now : RunsNow x c last count = runs_now drivers x c last count h is in
    let hung : is_hung c.watch.generation groups ≡ true = sym (same_is_hung drivers x c last count h is) ∙ same in
    sym (ap (λ (o : Option Endpoint). hung_by c.policy.misses o groups) now.runs_is
    ∙ hung_while c.policy.misses c.watch.generation count groups true false hung now.count_is few)
hung_tick drivers groups c _ _ h (FoundHung last count ends after is same enough fault) =
    let x : Story = story c.policy c.watch.generation groups in
    let now : RunsNow x c last count = runs_now drivers x c last count h is in
    let hung : is_hung c.watch.generation groups ≡ true = sym (same_is_hung drivers x c last count h is) ∙ same in
    found_hung ends (driver c.disks.media.generation) ∙ ap (λ (n : ℕ). driver n ∷ []) h.latest
    ∙ sym (ap (λ (o : Option Endpoint). hung_by c.policy.misses o groups) now.runs_is
    ∙ hung_while c.policy.misses c.watch.generation count groups true true hung now.count_is enough)
hung_tick drivers groups c _ _ h (WaitsOn until is early) =
    let x : Story = story c.policy c.watch.generation groups in
    let k : WaitsNow x c until = subst (λ (p : Phase). PhaseIs x c p) is h.phase_is in
    sym (ap (λ (o : Option Endpoint). hung_by c.policy.misses o groups) k.none_runs)
hung_tick drivers groups c _ _ h (StartsNext until d rest is come spare) =
    let x : Story = story c.policy c.watch.generation groups in
    let k : WaitsNow x c until = subst (λ (p : Phase). PhaseIs x c p) is h.phase_is in
    sym (ap (λ (o : Option Endpoint). hung_by c.policy.misses o groups) k.none_runs)
hung_tick drivers groups c _ _ h (IsOver is) =
    let x : Story = story c.policy c.watch.generation groups in
    let k : IsGivenUp x c = subst (λ (p : Phase). PhaseIs x c p) is h.phase_is in
    sym (ap (λ (o : Option Endpoint). hung_by c.policy.misses o groups) k.none_runs)

none_hung_at_exit : (ends : Option Bool) (e : Endpoint) → hung_in (exit_marks ends e) ≡ []
none_hung_at_exit None e = refl
none_hung_at_exit (Some true) e = refl
none_hung_at_exit (Some false) e = refl

pub hung_begins : (drivers place : ℕ) (groups : List Group) (c a : Core) (event : Event) (marks : List Mark) → FollowsGroups drivers groups c
    → Begins place groups c event marks a → hung_in marks ≡ hung_due c.policy event groups
hung_begins drivers place groups c _ _ _ h (Arrives who now call) = refl
hung_begins drivers place groups c _ _ _ h Flushes = refl
hung_begins drivers place groups c _ _ _ h (Answers n s there counts) = refl
hung_begins drivers place groups c _ _ _ h (Drops n s there counts) = refl
hung_begins drivers place groups c _ _ _ h (Delivers n there) = refl
hung_begins drivers place groups c _ _ _ h (LinesAgain n p d same again) = refl
hung_begins drivers place groups c _ _ _ h (HangsOne g d hangs) = refl
hung_begins drivers place groups c _ _ _ h (StepsOne g step d steps well) = refl
hung_begins drivers place groups c _ _ _ h (FailsOne g d ends after steps report) = none_hung_at_exit ends (driver g)
hung_begins drivers place groups c _ _ _ h (DiesNone g bytes d dies) = refl
hung_begins drivers place groups c _ _ _ h (DiesOne g bytes d ends after dies report) = none_hung_at_exit ends (driver g)
hung_begins drivers place groups c a _ marks h (Ticks _ _ ticks) = hung_tick drivers groups c a marks h ticks

pub hung_adds : (c a : Core) (marks group : List Mark) → Adds c marks a → hung_in (marks ++ group) ≡ hung_in group
hung_adds c _ _ group AddsNothing = refl
hung_adds c _ _ group (Posts r to d lines) = refl
hung_adds c _ _ group (Replies who now call answer) = refl
hung_adds c _ _ group (Complains about None after report) = refl
hung_adds c _ _ group (Complains about (Some ends) after report) = refl
hung_adds c _ _ group (Pays owed) = refl

-- Exits.
-- whether driver g is the one that runs, by what the reincarnation server knows
pub runs_not : (drivers g : ℕ) (groups : List Group) (c : Core) → FollowsGroups drivers groups c
    → ((last : ℕ × ℕ) (count : ℕ) → c.watch.phase ≡ Running last count → g ≡ c.watch.generation → ⊥) → driver_runs g groups ≡ false
runs_not drivers g groups c h other = by c.watch.phase refl h.phase_is where
  by : (p : Phase) → c.watch.phase ≡ p → PhaseIs (story c.policy c.watch.generation groups) c p → driver_runs g groups ≡ false
  by (Running last count) is k = ap (λ (o : Option Endpoint). is_endpoint (driver g) o) k.runs_is
      ∙ other_number c.watch.generation g (λ same. other last count is (sym same))
  by (Waiting until) is k = ap (λ (o : Option Endpoint). is_endpoint (driver g) o) k.none_runs
  by GivenUp is k = ap (λ (o : Option Endpoint). is_endpoint (driver g) o) k.none_runs

pub runs_too : (drivers g : ℕ) (groups : List Group) (c : Core) (last : ℕ × ℕ) (count : ℕ) → FollowsGroups drivers groups c
    → c.watch.phase ≡ Running last count → driver g ≡ driver c.watch.generation → driver_runs g groups ≡ true
runs_too drivers g groups c last count h is at =
    ap (λ (o : Option Endpoint). is_endpoint (driver g) o) (runs_now drivers (story c.policy c.watch.generation groups) c last count h is).runs_is
    ∙ ap (λ (e : Endpoint). is_endpoint e (Some (driver c.watch.generation))) at ∙ same_number c.watch.generation

pub not_reported : (c : Core) (g : ℕ) (last : ℕ × ℕ) (count : ℕ) → IsNotRunning c.watch (driver g) → c.watch.phase ≡ Running last count → g ≡ c.watch.generation → ⊥
not_reported c g last count other is at = clash (sym (ap (λ (n : ℕ). n == c.watch.generation) at ∙ same_number c.watch.generation) ∙ other.other last count is) where
  clash : ◌≡◌ {A = Bool} true false → ⊥
  clash e = cc

-- where none dies, that one doesn't run
none_lives : (drivers g : ℕ) (groups : List Group) (c : Core) (last : ℕ × ℕ) (count : ℕ) → FollowsGroups drivers groups c → NoneLives g c.disks
    → c.watch.phase ≡ Running last count → g ≡ c.watch.generation → ⊥
none_lives drivers g groups c last count h (NotStarted (inl is)) runs at = omega (arith, h.some, is, at)
none_lives drivers g groups c last count h (NotStarted (inr high)) runs at = omega (arith, h.latest, high, at)
none_lives drivers g groups c last count h (CurrentIsDead is dead) runs at =
    clash (sym (runs_now drivers (story c.policy c.watch.generation groups) c last count h runs).live ∙ dead) where
      clash : ◌≡◌ {A = Bool} true false → ⊥
      clash e = cc
none_lives drivers g groups c last count h (OlderIsDead place slot older dead) runs at = omega (arith, h.latest, older.older, at)

none_died : (g : ℕ) (bytes : Option (List ℕ)) (b a : Disks) (died : Bool) → Dies g bytes b died a → died ≡ false → NoneLives g b
none_died g bytes b _ _ (NoneDies none) is = none
none_died g bytes b _ _ (CurrentDies at live) is = cc
none_died g bytes b _ _ (OlderDies at was older live) is = cc

exit_at : (ends : Bool) (e : Endpoint) → exits_in (fault_marks ends e Exit) ≡ e ∷ []
exit_at true e = refl
exit_at false e = refl

-- a death is an exit where the driver runs
pub exits_at_death : (drivers g : ℕ) (bytes : Option (List ℕ)) (groups : List Group) (c : Core) (d : Disks) (ends : Option Bool) (after : Watch)
    → FollowsGroups drivers groups c → AtReport c.policy c.watch (driver g) c.tick ends after → exits_in (exit_marks ends (driver g)) ≡ exits_due g groups
exits_at_death drivers g bytes groups c d _ _ h (OfNone other) =
    sym (ap (λ (b : Bool). if b then driver g ∷ [] else []) (runs_not drivers g groups c h (λ last count is. not_reported c g last count other is)))
exits_at_death drivers g bytes groups c d _ _ h (OfRunning last count ends after is at fault) =
    exit_at ends (driver g) ∙ sym (ap (λ (b : Bool). if b then driver g ∷ [] else []) (runs_too drivers g groups c last count h is at))

pub exits_at_no_death : (drivers g : ℕ) (bytes : Option (List ℕ)) (groups : List Group) (c : Core) (d : Disks) → FollowsGroups drivers groups c
    → Dies g bytes c.disks false d → exits_in [] ≡ exits_due g groups
exits_at_no_death drivers g bytes groups c d h dies =
    sym (ap (λ (b : Bool). if b then driver g ∷ [] else [])
    (runs_not drivers g groups c h (λ last count is. none_lives drivers g groups c last count h (none_died g bytes c.disks d false dies refl) is)))

-- Flushes.
flushes_at_fault : (ends : Bool) (e : Endpoint) (cause : Cause) → flushes_in (fault_marks ends e cause) ≡ 0
flushes_at_fault true e cause = refl
flushes_at_fault false e cause = refl

flushes_at_exit : (ends : Option Bool) (e : Endpoint) → flushes_in (exit_marks ends e) ≡ 0
flushes_at_exit None e = refl
flushes_at_exit (Some ends) e = flushes_at_fault ends e Exit

flushes_tick : (c a : Core) (marks : List Mark) → TicksTo c marks a → flushes_in marks ≡ 0
flushes_tick c _ _ (Beats last count is same) = refl
flushes_tick c _ _ (MissesOne last count is same few) = refl
flushes_tick c _ _ (FoundHung last count ends after is same enough fault) = flushes_at_fault ends (driver c.disks.media.generation) Hung
flushes_tick c _ _ (WaitsOn until is early) = refl
flushes_tick c _ _ (StartsNext until d rest is come spare) = refl
flushes_tick c _ _ (IsOver is) = refl

pub flushes_begins : (place : ℕ) (groups : List Group) (c a : Core) (event : Event) (marks : List Mark)
    → Begins place groups c event marks a → flushes_in marks ≡ flushes_due event
flushes_begins place groups c _ _ _ (Arrives who now call) = refl
flushes_begins place groups c _ _ _ Flushes = omega arith
flushes_begins place groups c _ _ _ (Answers n s there counts) = refl
flushes_begins place groups c _ _ _ (Drops n s there counts) = refl
flushes_begins place groups c _ _ _ (Delivers n there) = refl
flushes_begins place groups c _ _ _ (LinesAgain n p d same again) = refl
flushes_begins place groups c _ _ _ (HangsOne g d hangs) = refl
flushes_begins place groups c _ _ _ (StepsOne g step d steps well) = refl
flushes_begins place groups c _ _ _ (FailsOne g d ends after steps report) = flushes_at_exit ends (driver g)
flushes_begins place groups c _ _ _ (DiesNone g bytes d dies) = refl
flushes_begins place groups c _ _ _ (DiesOne g bytes d ends after dies report) = flushes_at_exit ends (driver g)
flushes_begins place groups c a _ marks (Ticks _ _ ticks) = flushes_tick (beaten_core c) a marks ticks

pub flushes_adds : (c a : Core) (marks group : List Mark) → Adds c marks a → flushes_in (marks ++ group) ≡ flushes_in group
flushes_adds c _ _ group AddsNothing = refl
flushes_adds c _ _ group (Posts r to d lines) = refl
flushes_adds c _ _ group (Replies who now call answer) = refl
flushes_adds c _ _ group (Complains about None after report) = refl
flushes_adds c _ _ group (Complains about (Some ends) after report) = refl
flushes_adds c _ _ group (Pays owed) = refl
