-- What the reincarnation server knows after a tick, and after what a server does within an event.
use Rattle.std.proofs.Common.{◌≡◌, ℕ, zero, suc, ◌+◌, ◌-◌, ◌<◌, ◌≤◌, List, [], ◌∷◌, ◌++◌, Bool, true, false, cond, refl, sym, ◌∙◌, ap, subst, inl, inr, ◌⊎◌, arith, length}
use Rattle.std.proofs.lemmas.Bool.Decides.{nat_tests}
use Rattle.std.specs.Prelude.{◌&&◌, ◌||◌, not, ◌==◌, nat_lt, nat_le, max, Option, Some, None, Ok, if◌then◌else◌}
use Rattle.lemmas.proofs.Bools.{and_false_by_right}
use Rattle.message.specs.declared.endpoint.Endpoint.{Endpoint}
use Rattle.bdev.specs.DriverState.{DriverState}
use Rattle.reincarnate.specs.declared.policy.Policy.{Policy}
use Rattle.reincarnate.specs.Faults.{LastFault, next_fault, last_fault, gives_up, restart_tick}
use Rattle.reincarnate.specs.Watch.{Watch, Phase, Running, Waiting, GivenUp, driver, is_same_pulse}
use Rattle.records.specs.Marks.{Mark, Started, Answered, Flush, GaveUp, Took, Issued, Fault, gave_up, awaits_start, is_endpoint}
use Rattle.records.specs.declared.marks.Cause.TheVariants.{Exit, Hung, Complaint}
use Rattle.schedule.specs.declared.Event.{Event}
use Rattle.schedule.specs.declared.Event.TheVariants as event
use Rattle.schedule.specs.Groups.{Group, marks_of, ticks_so_far, running, started_in, generation}
use Rattle.schedule.specs.Drivers.{is_hung, missed, has_started}
use Rattle.schedule.specs.Starts.{fault_of, ticks_of_faults, ticks_of_faults_in}
use Rattle.schedule.specs.declared.log.Post.{Post}
use Rattle.simulated_link.specs.Disks.{Disks, started}
use Rattle.conformance.specs.Core.{Core, Story, story, RunsNow, WaitsNow, IsGivenUp, PhaseIs, Follows, FollowsGroups}
use Rattle.conformance.specs.Happens.{fault_at, AtFault, Replaces, GivesUp, AtReport, OfNone, OfRunning, fault_marks, exit_marks, blame_marks, is_end, beaten_core, TicksTo, Beats, MissesOne, FoundHung, WaitsOn, StartsNext, IsOver, Begins, Arrives, Flushes, Answers, Drops, Delivers, LinesAgain, HangsOne, StepsOne, FailsOne, DiesNone, DiesOne, Ticks, Adds, AddsNothing, Posts, Replies, Complains, Pays}
use Rattle.conformance.proofs.DiskMoves.{SameCurrent, steps_well, dies_none, repeats_same, lines_same}
use Rattle.conformance.proofs.FollowLaws.{same_number, other_number, or_false, Ready, ready_now, runs_now, Faulted, follows_fault, follows_same, follows_hang, follows_failure, follows_death}

same_pulse : (p : ℕ × ℕ) → is_same_pulse p p ≡ true
same_pulse p = ap (λ (b : Bool). b && (p.1 == p.1)) (same_number p.0) ∙ same_number p.1

-- the pulse at a tick is that of the one before exactly where the driver hangs
pulse_tells : (live hung : Bool) (g t : ℕ) (p last : ℕ × ℕ) → live ≡ true → last ≡ p → p.1 ≤ t
    → is_same_pulse (if live && not hung then (g, t + 1) else p) last ≡ hung
pulse_tells true true g t p last alive is low = ap (λ (q : ℕ × ℕ). is_same_pulse p q) is ∙ same_pulse p
pulse_tells true false g t p last alive is low =
    ap (λ (q : ℕ × ℕ). is_same_pulse (g, t + 1) q) is ∙ and_false_by_right (g == p.0) (t + 1 == p.1) (other_number (t + 1) p.1 (λ same. omega (arith, low, same)))
pulse_tells false hung g t p last alive is low = cc

beats_low : (b : Bool) (g t : ℕ) (p : ℕ × ℕ) → p.1 ≤ t → (if b then (g, t + 1) else p).1 ≤ t + 1
beats_low true g t p low = omega arith
beats_low false g t p low = omega (arith, low)

pub same_is_hung : (drivers : ℕ) (x : Story) (c : Core) (last : ℕ × ℕ) (count : ℕ) → Follows drivers x c → c.watch.phase ≡ Running last count
    → is_same_pulse (beaten_core c).pulse last ≡ x.hangs
same_is_hung drivers x c last count h is = let now : RunsNow x c last count = runs_now drivers x c last count h is in
    pulse_tells c.disks.current.live c.disks.current.hung c.disks.media.generation c.tick c.pulse last now.live now.last_is h.beat ∙ now.hangs_is

-- more marks start no fewer drivers
pub started_more : (group marks : List Mark) → generation marks ≤ generation (group ++ marks)
started_more [] marks = omega arith
started_more (Started e ∷ group) marks = let k : generation marks ≤ generation (group ++ marks) = started_more group marks in omega (arith, k)
started_more (Answered a ∷ group) marks = started_more group marks
started_more (Flush ∷ group) marks = started_more group marks
started_more (GaveUp ∷ group) marks = started_more group marks
started_more (Took who now call answer ∷ group) marks = started_more group marks
started_more (Issued r e ∷ group) marks = started_more group marks
started_more (Fault e cause ∷ group) marks = started_more group marks

not_either : (a b c r : Bool) → c ≡ false → r ≡ false → ((a && (b && c)) || r) ≡ false
not_either true true c r none rest = ap (λ (x : Bool). x || r) none ∙ rest
not_either true false c r none rest = rest
not_either false b c r none rest = rest

-- a driver that wasn't started doesn't hang
pub not_hung_yet : (h : ℕ) (groups : List Group) → generation (marks_of groups) < h → is_hung h groups ≡ false
not_hung_yet h [] low = refl
not_hung_yet h ((event.Hang j, group) ∷ earlier) low =
    let more : generation (marks_of earlier) ≤ generation (group ++ marks_of earlier) = started_more group (marks_of earlier) in
    let below : generation (marks_of earlier) < h = omega (arith, more, low) in
    let none : nat_le h (generation (marks_of earlier)) ≡ false = grind (arith, nat_tests, below) in
    not_either (j == h) (nat_lt 0 h) (nat_le h (generation (marks_of earlier))) (is_hung h earlier) none (not_hung_yet h earlier below)
not_hung_yet h ((event.Arrive who now call, group) ∷ earlier) low =
    let more : generation (marks_of earlier) ≤ generation (group ++ marks_of earlier) = started_more group (marks_of earlier) in
    not_hung_yet h earlier (omega (arith, more, low))
not_hung_yet h ((event.Flush, group) ∷ earlier) low =
    let more : generation (marks_of earlier) ≤ generation (group ++ marks_of earlier) = started_more group (marks_of earlier) in
    not_hung_yet h earlier (omega (arith, more, low))
not_hung_yet h ((event.Tick, group) ∷ earlier) low =
    let more : generation (marks_of earlier) ≤ generation (group ++ marks_of earlier) = started_more group (marks_of earlier) in
    not_hung_yet h earlier (omega (arith, more, low))
not_hung_yet h ((event.Step g, group) ∷ earlier) low =
    let more : generation (marks_of earlier) ≤ generation (group ++ marks_of earlier) = started_more group (marks_of earlier) in
    not_hung_yet h earlier (omega (arith, more, low))
not_hung_yet h ((event.Die g bytes, group) ∷ earlier) low =
    let more : generation (marks_of earlier) ≤ generation (group ++ marks_of earlier) = started_more group (marks_of earlier) in
    not_hung_yet h earlier (omega (arith, more, low))
not_hung_yet h ((event.Deliver n, group) ∷ earlier) low =
    let more : generation (marks_of earlier) ≤ generation (group ++ marks_of earlier) = started_more group (marks_of earlier) in
    not_hung_yet h earlier (omega (arith, more, low))
not_hung_yet h ((event.Repeat n, group) ∷ earlier) low =
    let more : generation (marks_of earlier) ≤ generation (group ++ marks_of earlier) = started_more group (marks_of earlier) in
    not_hung_yet h earlier (omega (arith, more, low))

-- after a tick that was counted, at which nothing else happened
ticked : (drivers : ℕ) (groups : List Group) (c : Core) (p : Phase) → FollowsGroups drivers groups c
    → PhaseIs (story c.policy c.watch.generation ((event.Tick, []) ∷ groups)) (record (beaten_core c) { watch = record (c.watch) { phase = p } }) p
    → FollowsGroups drivers ((event.Tick, []) ∷ groups) (record (beaten_core c) { watch = record (c.watch) { phase = p } })
ticked drivers groups c p h phase = record {
  started_is = h.started_is;
  some = h.some;
  latest = h.latest;
  spares_are = h.spares_are;
  tick_is = ap (λ (n : ℕ). n + 1) h.tick_is;
  beat = beats_low (c.disks.current.live && not c.disks.current.hung) c.disks.media.generation c.tick c.pulse h.beat;
  fault_is = h.fault_is;
  once = h.once;
  phase_is = phase;
}

ready_ticked : (drivers : ℕ) (groups : List Group) (c : Core) → Ready drivers (story c.policy c.watch.generation groups) c
    → Ready drivers (story c.policy c.watch.generation ((event.Tick, []) ∷ groups)) (beaten_core c)
ready_ticked drivers groups c h = record {
  started_is = h.started_is;
  some = h.some;
  latest = h.latest;
  spares_are = h.spares_are;
  tick_is = ap (λ (n : ℕ). n + 1) h.tick_is;
  beat = beats_low (c.disks.current.live && not c.disks.current.hung) c.disks.media.generation c.tick c.pulse h.beat;
  fault_is = h.fault_is;
  once = h.once;
  runs_is = h.runs_is;
  goes_on = h.goes_on;
  paid = h.paid;
}

hung_at_tick : (policy : Policy) (g : ℕ) (e : Endpoint) (ends : Bool) (groups : List Group)
    → Faulted policy e (ends && true) (story policy g ((event.Tick, []) ∷ groups)) (story policy g ((event.Tick, fault_marks ends e Hung) ∷ groups))
hung_at_tick policy g e true groups = record { started = refl; runs = refl; awaits = refl; ended = refl; ticks = refl; fault = refl }
hung_at_tick policy g e false groups = record { started = refl; runs = refl; awaits = refl; ended = refl; ticks = refl; fault = refl }

nothing_owed : (owed ends : Bool) → owed ≡ false → owed ≡ (ends && not true)
nothing_owed owed true is = is
nothing_owed owed false is = is

same_generation : (policy : Policy) (w : Watch) (tick : ℕ) (ends : Bool) (after : Watch) → AtFault policy w tick ends after → after.generation ≡ w.generation
same_generation policy w tick _ _ (Replaces goes) = refl
same_generation policy w tick _ _ (GivesUp goes) = refl

some_left : (policy : Policy) (number spares g : ℕ) → gives_up policy number spares g ≡ false → 0 < spares
some_left policy number spares g goes = grind (arith, nat_tests, goes)

-- a tick
follows_tick : (drivers : ℕ) (groups : List Group) (c a : Core) (marks : List Mark) → FollowsGroups drivers groups c → TicksTo (beaten_core c) marks a
    → FollowsGroups drivers ((event.Tick, marks) ∷ groups) a
follows_tick drivers groups c _ _ h (Beats last count is same) =
    let x : Story = story c.policy c.watch.generation groups in
    let now : RunsNow x c last count = runs_now drivers x c last count h is in
    let calm : is_hung c.watch.generation groups ≡ false = sym (same_is_hung drivers x c last count h is) ∙ same in
    ticked drivers groups c (Running (beaten_core c).pulse 0) h (record {
      runs_is = now.runs_is;
      none_awaited = now.none_awaited;
      goes_on = now.goes_on;
      paid = now.paid;
      live = now.live;
      hangs_is = now.hangs_is;
      last_is = refl;
      count_is = sym (ap (λ (b : Bool). if b then missed c.watch.generation groups + 1 else 0) calm);
    })
follows_tick drivers groups c _ _ h (MissesOne last count is same few) =
    let x : Story = story c.policy c.watch.generation groups in
    let now : RunsNow x c last count = runs_now drivers x c last count h is in
    let hung : is_hung c.watch.generation groups ≡ true = sym (same_is_hung drivers x c last count h is) ∙ same in
    ticked drivers groups c (Running (beaten_core c).pulse (count + 1)) h (record {
      runs_is = now.runs_is;
      none_awaited = now.none_awaited;
      goes_on = now.goes_on;
      paid = now.paid;
      live = now.live;
      hangs_is = now.hangs_is;
      last_is = refl;
      count_is = ap (λ (n : ℕ). n + 1) now.count_is ∙ sym (ap (λ (b : Bool). if b then missed c.watch.generation groups + 1 else 0) hung);
    })
follows_tick drivers groups c _ _ h (FoundHung last count ends after is same enough fault) =
    let x : Story = story c.policy c.watch.generation groups in
    let ready : Ready drivers x c = ready_now drivers x c last count h is in
    let e : Endpoint = driver c.disks.media.generation in
    subst (λ (n : ℕ). Follows drivers (story c.policy n ((event.Tick, fault_marks ends e Hung) ∷ groups)) (record (beaten_core c) { watch = after }))
    (sym (same_generation c.policy c.watch (c.tick + 1) ends after fault))
    (follows_fault drivers (story c.policy c.watch.generation ((event.Tick, []) ∷ groups)) (story c.policy c.watch.generation ((event.Tick, fault_marks ends e Hung) ∷ groups))
    (beaten_core c) c.disks e ends true after c.owed (ready_ticked drivers groups c ready) (ap driver h.latest) fault
    (hung_at_tick c.policy c.watch.generation e ends groups) refl (nothing_owed c.owed ends ready.paid))
follows_tick drivers groups c _ _ h (WaitsOn until is early) =
    let x : Story = story c.policy c.watch.generation groups in
    let y : Story = story c.policy c.watch.generation ((event.Tick, []) ∷ groups) in
    let k : WaitsNow x c until = subst (λ (p : Phase). PhaseIs x c p) is h.phase_is in
    let now : WaitsNow y (beaten_core c) until = record {
      none_runs = k.none_runs;
      awaited = k.awaited;
      goes_on = k.goes_on;
      paid = k.paid;
      fault = k.fault;
      last_is = k.last_is;
      until_is = k.until_is;
      replaced = k.replaced;
    } in
    ticked drivers groups c c.watch.phase h (subst (λ (p : Phase). PhaseIs y (beaten_core c) p) (sym is) now)
follows_tick drivers groups c _ _ h (StartsNext until d rest is come spare) =
    let x : Story = story c.policy c.watch.generation groups in
    let k : WaitsNow x c until = subst (λ (p : Phase). PhaseIs x c p) is h.phase_is in
    let left : 0 < c.watch.spares = some_left c.policy k.fault.number c.watch.spares c.watch.generation k.replaced in
    let was : generation (marks_of groups) ≡ c.watch.generation = h.started_is in
    let calm : is_hung (c.watch.generation + 1) groups ≡ false = not_hung_yet (c.watch.generation + 1) groups (omega (arith, was)) in
    record {
      started_is = omega (arith, was);
      some = omega arith;
      latest = omega (arith, h.latest);
      spares_are = omega (arith, h.spares_are, left);
      tick_is = ap (λ (n : ℕ). n + 1) h.tick_is;
      beat = beats_low (c.disks.current.live && not c.disks.current.hung) c.disks.media.generation c.tick c.pulse h.beat;
      fault_is = h.fault_is;
      once = h.once;
      phase_is = record {
        runs_is = refl;
        none_awaited = refl;
        goes_on = k.goes_on;
        paid = k.paid;
        live = refl;
        hangs_is = sym calm;
        last_is = refl;
        count_is = sym (ap (λ (b : Bool). if b then missed (c.watch.generation + 1) groups + 1 else 0) calm);
      };
    }
follows_tick drivers groups c _ _ h (IsOver is) =
    let x : Story = story c.policy c.watch.generation groups in
    let y : Story = story c.policy c.watch.generation ((event.Tick, []) ∷ groups) in
    let k : IsGivenUp x c = subst (λ (p : Phase). PhaseIs x c p) is h.phase_is in
    let now : IsGivenUp y (beaten_core c) = record { none_runs = k.none_runs; fault = k.fault; last_is = k.last_is; given_up = k.given_up; ended_is = k.ended_is; awaited = k.awaited } in
    ticked drivers groups c c.watch.phase h (subst (λ (p : Phase). PhaseIs y (beaten_core c) p) (sym is) now)

-- after an event
pub follows_begins : (drivers place : ℕ) (groups : List Group) (c a : Core) (event : Event) (marks : List Mark) → FollowsGroups drivers groups c
    → Begins place groups c event marks a → FollowsGroups drivers ((event, marks) ∷ groups) a
follows_begins drivers place groups c _ _ _ h (Arrives who now call) = h
follows_begins drivers place groups c _ _ _ h Flushes = h
follows_begins drivers place groups c _ _ _ h (Answers n s there counts) = h
follows_begins drivers place groups c _ _ _ h (Drops n s there counts) = h
follows_begins drivers place groups c _ _ _ h (Delivers n there) = h
follows_begins drivers place groups c _ _ _ h (LinesAgain n p d same again) =
    follows_same drivers (story c.policy c.watch.generation groups) c d h (repeats_same p c.disks d again)
follows_begins drivers place groups c _ _ _ h (HangsOne g d hangs) = follows_hang drivers g groups c d h hangs
follows_begins drivers place groups c _ _ _ h (StepsOne g step d steps well) =
    follows_same drivers (story c.policy c.watch.generation groups) c d h (steps_well place g c.disks d step steps well)
follows_begins drivers place groups c _ _ _ h (FailsOne g d ends after steps report) = follows_failure drivers place g groups c d ends after h steps report
follows_begins drivers place groups c _ _ _ h (DiesNone g bytes d dies) =
    follows_same drivers (story c.policy c.watch.generation groups) c d h (dies_none g bytes c.disks d false dies refl)
follows_begins drivers place groups c _ _ _ h (DiesOne g bytes d ends after dies report) = follows_death drivers g bytes groups c d ends after h dies report
follows_begins drivers place groups c a _ marks h (Ticks _ _ ticks) = follows_tick drivers groups c a marks h ticks

-- what groups say, the last one by its event and its marks
abbrev pub within : Policy → ℕ → Event → List Mark → List Group → Story
within policy g event group earlier = record {
  started = generation (group ++ marks_of earlier);
  runs = running (group ++ marks_of earlier);
  awaits = awaits_start (group ++ marks_of earlier);
  ended = gave_up (group ++ marks_of earlier);
  ticks = ticks_so_far ((event, []) ∷ earlier);
  fault = last_fault policy.calm (ticks_of_faults_in (ticks_so_far ((event, []) ∷ earlier)) group (ticks_of_faults earlier));
  hangs = is_hung g ((event, []) ∷ earlier);
  misses = missed g ((event, []) ∷ earlier);
}

pub story_within : (policy : Policy) (g : ℕ) (event : Event) (group : List Mark) (earlier : List Group)
    → story policy g ((event, group) ∷ earlier) ≡ within policy g event group earlier
story_within policy g (event.Arrive who now call) group earlier = refl
story_within policy g event.Flush group earlier = refl
story_within policy g event.Tick group earlier = refl
story_within policy g (event.Step h) group earlier = refl
story_within policy g (event.Die h bytes) group earlier = refl
story_within policy g (event.Hang h) group earlier = refl
story_within policy g (event.Deliver n) group earlier = refl
story_within policy g (event.Repeat n) group earlier = refl

abbrev FollowsWithin : ℕ → Event → List Mark → List Group → Core → Type 0
FollowsWithin drivers event group earlier c = Follows drivers (within c.policy c.watch.generation event group earlier) c

complaint_within : (policy : Policy) (g : ℕ) (e : Endpoint) (ends : Bool) (event : Event) (group : List Mark) (earlier : List Group)
    → Faulted policy e (ends && false) (within policy g event group earlier) (within policy g event (Fault e Complaint ∷ group) earlier)
complaint_within policy g e true event group earlier = record { started = refl; runs = refl; awaits = refl; ended = refl; ticks = refl; fault = refl }
complaint_within policy g e false event group earlier = record { started = refl; runs = refl; awaits = refl; ended = refl; ticks = refl; fault = refl }

pub owes_it : (owed told ends ended : Bool) → owed ≡ false → (told ≡ true → ended ≡ true) → ended ≡ false → (owed || (ends && not told)) ≡ (ends && not false)
owes_it true told ends ended paid once goes = cc
owes_it false true ends ended paid once goes = absurd (clash (sym (once refl) ∙ goes)) where
  clash : ◌≡◌ {A = Bool} true false → ⊥
  clash e = cc
owes_it false false ends ended paid once goes = refl

-- a complaint
complains_within : (drivers : ℕ) (about : Endpoint) (ends : Option Bool) (after : Watch) (event : Event) (group : List Mark) (earlier : List Group) (c : Core)
    → FollowsWithin drivers event group earlier c → AtReport c.policy c.watch about c.tick ends after
    → FollowsWithin drivers event (blame_marks ends about ++ group) earlier (record c { watch = after; owed = c.owed || (is_end ends && not c.told) })
complains_within drivers about _ _ event group earlier c h (OfNone other) =
    subst (λ (b : Bool). FollowsWithin drivers event group earlier (record c { owed = b })) (sym (or_false c.owed)) h
complains_within drivers about _ _ event group earlier c h (OfRunning last count ends after is at fault) =
    let x : Story = within c.policy c.watch.generation event group earlier in
    let ready : Ready drivers x c = ready_now drivers x c last count h is in
    let owed : Bool = c.owed || (ends && not c.told) in
    subst (λ (n : ℕ). Follows drivers (within c.policy n event (Fault about Complaint ∷ group) earlier) (record c { watch = after; owed = owed }))
    (sym (same_generation c.policy c.watch c.tick ends after fault))
    (follows_fault drivers x (within c.policy c.watch.generation event (Fault about Complaint ∷ group) earlier) c c.disks about ends false after owed
    ready at fault (complaint_within c.policy c.watch.generation about ends event group earlier) refl
    (owes_it c.owed c.told ends x.ended ready.paid h.once ready.goes_on))

-- that the device was given up is told
pays_within : (drivers : ℕ) (event : Event) (group : List Mark) (earlier : List Group) (c : Core) → FollowsWithin drivers event group earlier c → c.owed ≡ true
    → FollowsWithin drivers event (GaveUp ∷ group) earlier (record c { owed = false; told = true })
pays_within drivers event group earlier c h owed = record {
  started_is = h.started_is;
  some = h.some;
  latest = h.latest;
  spares_are = h.spares_are;
  tick_is = h.tick_is;
  beat = h.beat;
  fault_is = h.fault_is;
  once = λ told. refl;
  phase_is = by c.watch.phase h.phase_is;
} where
  clash : (o : Bool) → o ≡ true → o ≡ false → ⊥
  clash o is not_so = cc

  by : (p : Phase) → PhaseIs (within c.policy c.watch.generation event group earlier) c p
      → PhaseIs (within c.policy c.watch.generation event (GaveUp ∷ group) earlier) (record c { owed = false; told = true }) p
  by (Running last count) k = absurd (clash c.owed owed k.paid)
  by (Waiting until) k = absurd (clash c.owed owed k.paid)
  by GivenUp k = record { none_runs = k.none_runs; fault = k.fault; last_is = k.last_is; given_up = k.given_up; ended_is = refl; awaited = λ is. cc }

-- the accepted posts are nothing to it
posts_phase : (x : Story) (c : Core) (posts : List Post) (phase : Phase) → PhaseIs x c phase → PhaseIs x (record c { posts = posts }) phase
posts_phase x c posts (Running last count) k = record {
  runs_is = k.runs_is;
  none_awaited = k.none_awaited;
  goes_on = k.goes_on;
  paid = k.paid;
  live = k.live;
  hangs_is = k.hangs_is;
  last_is = k.last_is;
  count_is = k.count_is;
}
posts_phase x c posts (Waiting until) k = record {
  none_runs = k.none_runs;
  awaited = k.awaited;
  goes_on = k.goes_on;
  paid = k.paid;
  fault = k.fault;
  last_is = k.last_is;
  until_is = k.until_is;
  replaced = k.replaced;
}
posts_phase x c posts GivenUp k = record {
  none_runs = k.none_runs;
  fault = k.fault;
  last_is = k.last_is;
  given_up = k.given_up;
  ended_is = k.ended_is;
  awaited = k.awaited;
}

follows_posts : (drivers : ℕ) (x : Story) (c : Core) (posts : List Post) → Follows drivers x c → Follows drivers x (record c { posts = posts })
follows_posts drivers x c posts h = record {
  started_is = h.started_is;
  some = h.some;
  latest = h.latest;
  spares_are = h.spares_are;
  tick_is = h.tick_is;
  beat = h.beat;
  fault_is = h.fault_is;
  once = h.once;
  phase_is = posts_phase x c posts c.watch.phase h.phase_is;
}

adds_within : (drivers : ℕ) (event : Event) (group : List Mark) (earlier : List Group) (c a : Core) (marks : List Mark) → FollowsWithin drivers event group earlier c
    → Adds c marks a → FollowsWithin drivers event (marks ++ group) earlier a
adds_within drivers event group earlier c _ _ h AddsNothing = h
adds_within drivers event group earlier c _ _ h (Posts r to d lines) =
    follows_posts drivers (within c.policy c.watch.generation event group earlier) (record c { disks = d }) _
    (follows_same drivers (within c.policy c.watch.generation event group earlier) c d h (lines_same to r c.disks d (Ok tt) lines))
adds_within drivers event group earlier c _ _ h (Replies who now call answer) = h
adds_within drivers event group earlier c _ _ h (Complains about ends after report) = complains_within drivers about ends after event group earlier c h report
adds_within drivers event group earlier c _ _ h (Pays owed) = pays_within drivers event group earlier c h owed

-- after what is done within an event
pub follows_adds : (drivers : ℕ) (event : Event) (group : List Mark) (earlier : List Group) (c a : Core) (marks : List Mark)
    → FollowsGroups drivers ((event, group) ∷ earlier) c → Adds c marks a → FollowsGroups drivers ((event, marks ++ group) ∷ earlier) a
follows_adds drivers event group earlier c a marks h adds =
    subst (λ (x : Story). Follows drivers x a) (sym (story_within a.policy a.watch.generation event (marks ++ group) earlier))
    (adds_within drivers event group earlier c a marks
    (subst (λ (x : Story). Follows drivers x c) (story_within c.policy c.watch.generation event group earlier) h) adds)
