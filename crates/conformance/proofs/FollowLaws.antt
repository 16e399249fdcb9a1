-- What the reincarnation server knows is what the groups say, after each event and after what is done within it.
use Rattle.std.proofs.Common.{◌≡◌, ℕ, zero, suc, ◌+◌, ◌-◌, ◌<◌, ◌≤◌, List, [], ◌∷◌, ◌++◌, Bool, true, false, cond, refl, sym, ◌∙◌, ap, subst, inl, inr, ◌⊎◌, arith, length}
use Rattle.std.proofs.lemmas.Bool.Decides.{nat_tests}
use Rattle.std.specs.Prelude.{◌&&◌, ◌||◌, not, ◌==◌, nat_lt, nat_le, max, Option, Some, None, Ok, if◌then◌else◌}
use Rattle.message.specs.declared.endpoint.Endpoint.{Endpoint}
use Rattle.bdev.specs.declared.Step.TheVariants.{Failed}
use Rattle.bdev.specs.DriverState.{DriverState}
use Rattle.reincarnate.specs.declared.policy.Policy.{Policy}
use Rattle.reincarnate.specs.Faults.{LastFault, next_fault, last_fault, gives_up, restart_tick}
use Rattle.reincarnate.specs.Watch.{Watch, Phase, Running, Waiting, GivenUp, driver, is_last_started, is_same_pulse}
use Rattle.records.specs.Marks.{Mark, Started, Answered, Flush, GaveUp, Took, Issued, Fault, gave_up, awaits_start, is_endpoint}
use Rattle.records.specs.declared.marks.Cause.{Cause}
use Rattle.records.specs.declared.marks.Cause.TheVariants.{Exit, Hung, Complaint}
use Rattle.schedule.specs.declared.Event.{Event}
use Rattle.schedule.specs.declared.Event.TheVariants as event
use Rattle.schedule.specs.Groups.{Group, marks_of, ticks_so_far, running, started_in, generation}
use Rattle.schedule.specs.Drivers.{is_hung, missed, has_started}
use Rattle.schedule.specs.Starts.{fault_of, ticks_of_faults, ticks_of_faults_in}
use Rattle.simulated_link.specs.Disks.{Disks, Steps, Dies, Hangs, NoneHangs, CurrentHangs, OlderHangs, started}
use Rattle.conformance.specs.Core.{Core, Story, story, RunsNow, WaitsNow, IsGivenUp, PhaseIs, Follows, FollowsGroups}
use Rattle.conformance.specs.Happens.{fault_at, AtFault, Replaces, GivesUp, IsNotRunning, AtReport, OfNone, OfRunning, fault_marks, exit_marks, blame_marks, is_end, beaten_core, TicksTo, Beats, MissesOne, FoundHung, WaitsOn, StartsNext, IsOver, Begins, Arrives, Flushes, Answers, Drops, Delivers, LinesAgain, HangsOne, StepsOne, FailsOne, DiesNone, DiesOne, Ticks, Adds, AddsNothing, Posts, Replies, Complains, Pays}
use Rattle.conformance.proofs.DiskMoves.{SameCurrent, steps_generation, dies_generation, steps_well, steps_other, dies_other, dies_none, repeats_same, lines_same}

pub same_number : (n : ℕ) → (n == n) ≡ true
same_number n = grind (arith, nat_tests)

pub other_number : (n m : ℕ) → (n ≡ m → ⊥) → (n == m) ≡ false
other_number n m other = grind (arith, nat_tests, other)

pub or_false : (a : Bool) → (a || false) ≡ a
or_false true = refl
or_false false = refl

pub or_true : (a : Bool) → (a || true) ≡ true
or_true true = refl
or_true false = refl

pub runs_now : (drivers : ℕ) (x : Story) (c : Core) (last : ℕ × ℕ) (count : ℕ) → Follows drivers x c → c.watch.phase ≡ Running last count → RunsNow x c last count
runs_now drivers x c last count h is = subst (λ (p : Phase). PhaseIs x c p) is h.phase_is

-- all but the beats, while a driver runs
pub record Ready (drivers : ℕ) (x : Story) (c : Core) : Type 0 where
  pub started_is : x.started ≡ c.watch.generation
  pub some : 0 < c.watch.generation
  pub latest : c.disks.media.generation ≡ c.watch.generation
  pub spares_are : c.watch.spares + c.watch.generation ≡ drivers
  pub tick_is : c.tick ≡ x.ticks
  pub beat : c.pulse.1 ≤ c.tick
  pub fault_is : c.watch.fault ≡ x.fault
  pub once : c.told ≡ true → x.ended ≡ true
  pub runs_is : x.runs ≡ Some (driver c.watch.generation)
  pub goes_on : x.ended ≡ false
  pub paid : c.owed ≡ false

pub ready_now : (drivers : ℕ) (x : Story) (c : Core) (last : ℕ × ℕ) (count : ℕ) → Follows drivers x c → c.watch.phase ≡ Running last count → Ready drivers x c
ready_now drivers x c last count h is = let now : RunsNow x c last count = runs_now drivers x c last count h is in record {
  started_is = h.started_is;
  some = h.some;
  latest = h.latest;
  spares_are = h.spares_are;
  tick_is = h.tick_is;
  beat = h.beat;
  fault_is = h.fault_is;
  once = h.once;
  runs_is = now.runs_is;
  goes_on = now.goes_on;
  paid = now.paid;
}

-- the groups say that this driver was at fault, and whether that the device is given up was told
pub record Faulted (policy : Policy) (e : Endpoint) (told : Bool) (x y : Story) : Type 0 where
  pub started : y.started ≡ x.started
  pub runs : y.runs ≡ (if is_endpoint e x.runs then None else x.runs)
  pub awaits : y.awaits ≡ not told
  pub ended : y.ended ≡ (told || x.ended)
  pub ticks : y.ticks ≡ x.ticks
  pub fault : y.fault ≡ Some (next_fault policy.calm x.fault x.ticks)

none_runs_now : (e : Endpoint) (r : Option Endpoint) (g : ℕ) → e ≡ driver g → r ≡ Some (driver g) → (if is_endpoint e r then None else r) ≡ None
none_runs_now e r g at is =
    ap (λ (o : Option Endpoint). if is_endpoint e o then None else o) is
    ∙ ap (λ (d : Endpoint). if is_endpoint d (Some (driver g)) then None else Some (driver g)) at
    ∙ ap (λ (b : Bool). if b then None else Some (driver g)) (same_number g)

still_ended : (told : Bool) (ended : Bool) → ended ≡ true → (told || ended) ≡ true
still_ended told ended is = ap (λ (b : Bool). told || b) is ∙ or_true told

given_up_so : (at_once ended owed : Bool) → ended ≡ false → owed ≡ not at_once → (at_once || ended) ≡ not owed
given_up_so true ended owed goes is = sym (ap not is)
given_up_so false ended owed goes is = goes ∙ sym (ap not is)

-- the running driver was at fault
pub follows_fault : (drivers : ℕ) (x y : Story) (c : Core) (d : Disks) (e : Endpoint) (ends at_once : Bool) (after : Watch) (owed : Bool)
    → Ready drivers x c → e ≡ driver c.watch.generation → AtFault c.policy c.watch c.tick ends after → Faulted c.policy e (ends && at_once) x y
    → d.media.generation ≡ c.disks.media.generation → owed ≡ (ends && not at_once) → Follows drivers y (record c { disks = d; watch = after; owed = owed })
follows_fault drivers x y c d e _ at_once _ owed h at (Replaces goes) f same owed_is = record {
  started_is = f.started ∙ h.started_is;
  some = h.some;
  latest = same ∙ h.latest;
  spares_are = h.spares_are;
  tick_is = h.tick_is ∙ sym f.ticks;
  beat = h.beat;
  fault_is = ap (λ (l : Option LastFault). Some (next_fault c.policy.calm l c.tick)) h.fault_is
      ∙ ap (λ (n : ℕ). Some (next_fault c.policy.calm x.fault n)) h.tick_is ∙ sym f.fault;
  once = λ told. f.ended ∙ h.once told;
  phase_is = record {
    none_runs = f.runs ∙ none_runs_now e x.runs c.watch.generation at h.runs_is;
    awaited = f.awaits;
    goes_on = f.ended ∙ h.goes_on;
    paid = owed_is;
    fault = fault_at c.policy c.watch c.tick;
    last_is = refl;
    until_is = refl;
    replaced = goes;
  };
}
follows_fault drivers x y c d e _ at_once _ owed h at (GivesUp goes) f same owed_is = record {
  started_is = f.started ∙ h.started_is;
  some = h.some;
  latest = same ∙ h.latest;
  spares_are = h.spares_are;
  tick_is = h.tick_is ∙ sym f.ticks;
  beat = h.beat;
  fault_is = ap (λ (l : Option LastFault). Some (next_fault c.policy.calm l c.tick)) h.fault_is
      ∙ ap (λ (n : ℕ). Some (next_fault c.policy.calm x.fault n)) h.tick_is ∙ sym f.fault;
  once = λ told. f.ended ∙ still_ended at_once x.ended (h.once told);
  phase_is = record {
    none_runs = f.runs ∙ none_runs_now e x.runs c.watch.generation at h.runs_is;
    fault = fault_at c.policy c.watch c.tick;
    last_is = refl;
    given_up = goes;
    ended_is = f.ended ∙ given_up_so at_once x.ended owed h.goes_on owed_is;
    awaited = λ is. f.awaits ∙ sym owed_is ∙ is;
  };
}

phase_disks : (x : Story) (c : Core) (d : Disks) (p : Phase)
    → ((last : ℕ × ℕ) (count : ℕ) → p ≡ Running last count → (d.current.live ≡ c.disks.current.live) × (d.current.hung ≡ c.disks.current.hung))
    → PhaseIs x c p → PhaseIs x (record c { disks = d }) p
phase_disks x c d (Running last count) same k = record {
  runs_is = k.runs_is;
  none_awaited = k.none_awaited;
  goes_on = k.goes_on;
  paid = k.paid;
  live = (same last count refl).0 ∙ k.live;
  hangs_is = (same last count refl).1 ∙ k.hangs_is;
  last_is = k.last_is;
  count_is = k.count_is;
}
phase_disks x c d (Waiting until) same k = record {
  none_runs = k.none_runs;
  awaited = k.awaited;
  goes_on = k.goes_on;
  paid = k.paid;
  fault = k.fault;
  last_is = k.last_is;
  until_is = k.until_is;
  replaced = k.replaced;
}
phase_disks x c d GivenUp same k = record { none_runs = k.none_runs; fault = k.fault; last_is = k.last_is; given_up = k.given_up; ended_is = k.ended_is; awaited = k.awaited }

-- the current driver goes on as it did, if it runs
pub follows_moved : (drivers : ℕ) (x : Story) (c : Core) (d : Disks) → Follows drivers x c → d.media.generation ≡ c.disks.media.generation
    → ((last : ℕ × ℕ) (count : ℕ) → c.watch.phase ≡ Running last count → SameCurrent c.disks d) → Follows drivers x (record c { disks = d })
follows_moved drivers x c d h same current = record {
  started_is = h.started_is;
  some = h.some;
  latest = same ∙ h.latest;
  spares_are = h.spares_are;
  tick_is = h.tick_is;
  beat = h.beat;
  fault_is = h.fault_is;
  once = h.once;
  phase_is = phase_disks x c d c.watch.phase (λ last count is. ((current last count is).live, (current last count is).hung)) h.phase_is;
}

pub follows_same : (drivers : ℕ) (x : Story) (c : Core) (d : Disks) → Follows drivers x c → SameCurrent c.disks d → Follows drivers x (record c { disks = d })
follows_same drivers x c d h same = follows_moved drivers x c d h same.generation (λ last count is. same)

-- a driver that doesn't run isn't the last one while that runs
pub not_latest : (drivers : ℕ) (x : Story) (c : Core) (g : ℕ) (last : ℕ × ℕ) (count : ℕ) → Follows drivers x c → IsNotRunning c.watch (driver g)
    → c.watch.phase ≡ Running last count → g ≡ c.disks.media.generation → ⊥
not_latest drivers x c g last count h other is at = clash (sym (ap (λ (n : ℕ). n == c.watch.generation) (at ∙ h.latest) ∙ same_number c.watch.generation) ∙ other.other last count is) where
  clash : ◌≡◌ {A = Bool} true false → ⊥
  clash e = cc

-- a driver hangs from now on
hangs_too : (g h : ℕ) (groups : List Group) → 0 < g → generation (marks_of groups) ≡ g → h ≡ g
    → (((h == g) && has_started g groups) || is_hung g groups) ≡ true
hangs_too g h groups some is at =
    let low : nat_lt 0 g ≡ true = grind (arith, nat_tests, some) in
    let high : nat_le g (generation (marks_of groups)) ≡ true = grind (arith, nat_tests, is) in
    ap (λ (b : Bool). (b && has_started g groups) || is_hung g groups) (ap (λ (n : ℕ). n == g) at ∙ same_number g)
    ∙ ap (λ (b : Bool). (b && nat_le g (generation (marks_of groups))) || is_hung g groups) low
    ∙ ap (λ (b : Bool). b || is_hung g groups) high

hangs_other : (g h : ℕ) (groups : List Group) → (h ≡ g → ⊥) → (((h == g) && has_started g groups) || is_hung g groups) ≡ is_hung g groups
hangs_other g h groups other = ap (λ (b : Bool). (b && has_started g groups) || is_hung g groups) (other_number h g other)

not_none : (g h m : ℕ) → 0 < g → m ≡ g → (h ≡ 0) ⊎ (m < h) → h ≡ g → ⊥
not_none g h m some is (inl zero_is) at = omega (arith, some, zero_is, at)
not_none g h m some is (inr high) at = omega (arith, some, is, high, at)

not_older : (g h m : ℕ) → m ≡ g → h < m → h ≡ g → ⊥
not_older g h m is low at = omega (arith, is, low, at)

hung_now : (drivers g : ℕ) (groups : List Group) (c : Core) (d : Disks) → FollowsGroups drivers groups c → Hangs g c.disks d
    → c.disks.current.hung ≡ is_hung c.watch.generation groups
    → (d.current.live ≡ c.disks.current.live)
    × (d.current.hung ≡ (((g == c.watch.generation) && has_started c.watch.generation groups) || is_hung c.watch.generation groups))
hung_now drivers g groups c _ h (NoneHangs none) was =
    (refl, was ∙ sym (hangs_other c.watch.generation g groups (not_none c.watch.generation g c.disks.media.generation h.some h.latest none)))
hung_now drivers g groups c _ h (CurrentHangs is) was =
    (refl, sym (hangs_too c.watch.generation g groups h.some h.started_is (is ∙ h.latest)))
hung_now drivers g groups c _ h (OlderHangs at slot older) was =
    (refl, was ∙ sym (hangs_other c.watch.generation g groups (not_older c.watch.generation g c.disks.media.generation h.latest older.older)))

hangs_same : (g : ℕ) (b a : Disks) → Hangs g b a → a.media.generation ≡ b.media.generation
hangs_same g b _ (NoneHangs none) = refl
hangs_same g b _ (CurrentHangs is) = refl
hangs_same g b _ (OlderHangs at was older) = refl

pub follows_hang : (drivers g : ℕ) (groups : List Group) (c : Core) (d : Disks) → FollowsGroups drivers groups c → Hangs g c.disks d
    → FollowsGroups drivers ((event.Hang g, []) ∷ groups) (record c { disks = d })
follows_hang drivers g groups c d h hangs = record {
  started_is = h.started_is;
  some = h.some;
  latest = hangs_same g c.disks d hangs ∙ h.latest;
  spares_are = h.spares_are;
  tick_is = h.tick_is;
  beat = h.beat;
  fault_is = h.fault_is;
  once = h.once;
  phase_is = by c.watch.phase h.phase_is;
} where
  by : (p : Phase) → PhaseIs (story c.policy c.watch.generation groups) c p
      → PhaseIs (story c.policy c.watch.generation ((event.Hang g, []) ∷ groups)) (record c { disks = d }) p
  by (Running last count) k = record {
    runs_is = k.runs_is;
    none_awaited = k.none_awaited;
    goes_on = k.goes_on;
    paid = k.paid;
    live = (hung_now drivers g groups c d h hangs k.hangs_is).0 ∙ k.live;
    hangs_is = (hung_now drivers g groups c d h hangs k.hangs_is).1;
    last_is = k.last_is;
    count_is = k.count_is;
  }
  by (Waiting until) k = record {
    none_runs = k.none_runs;
    awaited = k.awaited;
    goes_on = k.goes_on;
    paid = k.paid;
    fault = k.fault;
    last_is = k.last_is;
    until_is = k.until_is;
    replaced = k.replaced;
  }
  by GivenUp k = record { none_runs = k.none_runs; fault = k.fault; last_is = k.last_is; given_up = k.given_up; ended_is = k.ended_is; awaited = k.awaited }

-- a fault that an exit is
exit_at_step : (policy : Policy) (g h : ℕ) (e : Endpoint) (ends : Bool) (groups : List Group)
    → Faulted policy e (ends && true) (story policy g groups) (story policy g ((event.Step h, fault_marks ends e Exit) ∷ groups))
exit_at_step policy g h e true groups = record { started = refl; runs = refl; awaits = refl; ended = refl; ticks = refl; fault = refl }
exit_at_step policy g h e false groups = record { started = refl; runs = refl; awaits = refl; ended = refl; ticks = refl; fault = refl }

exit_at_death : (policy : Policy) (g h : ℕ) (bytes : Option (List ℕ)) (e : Endpoint) (ends : Bool) (groups : List Group)
    → Faulted policy e (ends && true) (story policy g groups) (story policy g ((event.Die h bytes, fault_marks ends e Exit) ∷ groups))
exit_at_death policy g h bytes e true groups = record { started = refl; runs = refl; awaits = refl; ended = refl; ticks = refl; fault = refl }
exit_at_death policy g h bytes e false groups = record { started = refl; runs = refl; awaits = refl; ended = refl; ticks = refl; fault = refl }

nothing_owed : (owed ends : Bool) → owed ≡ false → owed ≡ (ends && not true)
nothing_owed owed true is = is
nothing_owed owed false is = is

pub same_generation : (policy : Policy) (w : Watch) (tick : ℕ) (ends : Bool) (after : Watch) → AtFault policy w tick ends after → after.generation ≡ w.generation
same_generation policy w tick _ _ (Replaces goes) = refl
same_generation policy w tick _ _ (GivesUp goes) = refl

-- a step fails
pub follows_failure : (drivers place g : ℕ) (groups : List Group) (c : Core) (d : Disks) (ends : Option Bool) (after : Watch) → FollowsGroups drivers groups c
    → Steps place g c.disks (Some Failed) d → AtReport c.policy c.watch (driver g) c.tick ends after
    → FollowsGroups drivers ((event.Step g, exit_marks ends (driver g)) ∷ groups) (record c { disks = d; watch = after })
follows_failure drivers place g groups c d _ _ h steps (OfNone other) =
    follows_moved drivers (story c.policy c.watch.generation groups) c d h (steps_generation place g c.disks d (Some Failed) steps)
    (λ last count is. steps_other place g c.disks d (Some Failed) steps
    (not_latest drivers (story c.policy c.watch.generation groups) c g last count h other is))
follows_failure drivers place g groups c d _ _ h steps (OfRunning last count ends after is at fault) =
    let x : Story = story c.policy c.watch.generation groups in
    let ready : Ready drivers x c = ready_now drivers x c last count h is in
    subst (λ (n : ℕ). Follows drivers (story c.policy n ((event.Step g, fault_marks ends (driver g) Exit) ∷ groups)) (record c { disks = d; watch = after }))
    (sym (same_generation c.policy c.watch c.tick ends after fault))
    (follows_fault drivers x (story c.policy c.watch.generation ((event.Step g, fault_marks ends (driver g) Exit) ∷ groups)) c d (driver g) ends true after c.owed
    ready at fault (exit_at_step c.policy c.watch.generation g (driver g) ends groups)
    (steps_generation place g c.disks d (Some Failed) steps) (nothing_owed c.owed ends ready.paid))

-- a driver dies
pub follows_death : (drivers g : ℕ) (bytes : Option (List ℕ)) (groups : List Group) (c : Core) (d : Disks) (ends : Option Bool) (after : Watch) → FollowsGroups drivers groups c
    → Dies g bytes c.disks true d → AtReport c.policy c.watch (driver g) c.tick ends after
    → FollowsGroups drivers ((event.Die g bytes, exit_marks ends (driver g)) ∷ groups) (record c { disks = d; watch = after })
follows_death drivers g bytes groups c d _ _ h dies (OfNone other) =
    follows_moved drivers (story c.policy c.watch.generation groups) c d h (dies_generation g bytes c.disks d true dies)
    (λ last count is. dies_other g bytes c.disks d true dies
    (not_latest drivers (story c.policy c.watch.generation groups) c g last count h other is))
follows_death drivers g bytes groups c d _ _ h dies (OfRunning last count ends after is at fault) =
    let x : Story = story c.policy c.watch.generation groups in
    let ready : Ready drivers x c = ready_now drivers x c last count h is in
    subst (λ (n : ℕ). Follows drivers (story c.policy n ((event.Die g bytes, fault_marks ends (driver g) Exit) ∷ groups)) (record c { disks = d; watch = after }))
    (sym (same_generation c.policy c.watch c.tick ends after fault))
    (follows_fault drivers x (story c.policy c.watch.generation ((event.Die g bytes, fault_marks ends (driver g) Exit) ∷ groups)) c d (driver g) ends true after c.owed
    ready at fault (exit_at_death c.policy c.watch.generation g bytes (driver g) ends groups)
    (dies_generation g bytes c.disks d true dies) (nothing_owed c.owed ends ready.paid))
