-- The device is given up in the group of the fault that gives it up, once.
use Rattle.std.proofs.Common.{◌≡◌, ℕ, zero, suc, ◌+◌, ◌-◌, ◌<◌, ◌≤◌, List, [], ◌∷◌, ◌++◌, Bool, true, false, cond, refl, sym, ◌∙◌, ap, subst, arith}
use Rattle.std.specs.Prelude.{◌&&◌, ◌||◌, not, Option, Some, None, if◌then◌else◌}
use Rattle.message.specs.declared.endpoint.Endpoint.{Endpoint}
use Rattle.reincarnate.specs.declared.policy.Policy.{Policy}
use Rattle.reincarnate.specs.Faults.{LastFault, gives_up}
use Rattle.reincarnate.specs.Laws.{is_running}
use Rattle.reincarnate.specs.Watch.{Watch, Phase, Running, Waiting, GivenUp, driver}
use Rattle.records.specs.Marks.{Mark, Started, Answered, Flush, GaveUp, Took, Issued, Fault}
use Rattle.records.specs.declared.marks.Cause.{Cause}
use Rattle.records.specs.declared.marks.Cause.TheVariants.{Exit, Hung, Complaint}
use Rattle.schedule.specs.declared.Event.{Event}
use Rattle.schedule.specs.declared.Event.TheVariants as event
use Rattle.schedule.specs.Groups.{Group, marks_of, generation, EachGroup}
use Rattle.schedule.specs.Starts.{fault_of, times_gave_up, times_due, has_fault, gives_up_at}
use Rattle.simulated_link.specs.Disks.{Disks}
use Rattle.conformance.specs.Core.{Core, Story, story, WaitsNow, IsGivenUp, PhaseIs, Follows, FollowsGroups}
use Rattle.conformance.specs.Happens.{AtFault, Replaces, GivesUp, AtReport, OfNone, OfRunning, fault_marks, exit_marks, blame_marks, is_end, beaten_core, TicksTo, Beats, MissesOne, FoundHung, WaitsOn, StartsNext, IsOver, Begins, Arrives, Flushes, Answers, Drops, Delivers, LinesAgain, HangsOne, StepsOne, FailsOne, DiesNone, DiesOne, Ticks, Adds, AddsNothing, Posts, Replies, Complains, Pays}
use Rattle.conformance.specs.Steady.{IsKept, owes, LastGivesUp, GivesUpAsDue, AllGiveUp, GivesUpSoFar}
use Rattle.conformance.proofs.FollowLaws.{or_false, Ready, ready_now}
use Rattle.conformance.proofs.TickLaws.{within, story_within, owes_it, follows_begins, follows_adds}
use Rattle.conformance.proofs.SteadyLaws.{begins_policy, adds_policy}

-- how things stand after a fault
abbrev Settled : Bool → Phase → Type 0
Settled true p = p ≡ GivenUp
Settled false p = (until : ℕ) × (p ≡ Waiting until)

settled : (policy : Policy) (w : Watch) (tick : ℕ) (ends : Bool) (after : Watch) → AtFault policy w tick ends after → Settled ends after.phase
settled policy w tick _ _ (Replaces goes) = (_, refl)
settled policy w tick _ _ (GivesUp goes) = refl

not_running_then : (ends : Bool) (p : Phase) → Settled ends p → is_running p ≡ false
not_running_then true p is = ap is_running is
not_running_then false p is = ap is_running is.1

gives_tells : (policy : Policy) (drivers spares g started : ℕ) (o : Option LastFault) (f : LastFault) (b : Bool) → o ≡ Some f → started ≡ g
    → spares + g ≡ drivers → gives_up policy f.number spares g ≡ b → gives_up_at policy drivers o started ≡ b
gives_tells policy drivers spares g started o f b last at all is =
    let left : drivers - g ≡ spares = omega (arith, all) in
    ap (λ (l : Option LastFault). gives_up_at policy drivers l started) last
    ∙ ap (λ (n : ℕ). gives_up policy f.number (drivers - n) n) at
    ∙ ap (λ (n : ℕ). gives_up policy f.number n g) left ∙ is

gives_is : (drivers : ℕ) (x : Story) (c : Core) (ends : Bool) → Follows drivers x c → Settled ends c.watch.phase
    → gives_up_at c.policy drivers x.fault x.started ≡ ends
gives_is drivers x c true h is = let k : IsGivenUp x c = subst (λ (p : Phase). PhaseIs x c p) is h.phase_is in
    gives_tells c.policy drivers c.watch.spares c.watch.generation x.started x.fault k.fault true (sym h.fault_is ∙ k.last_is) h.started_is h.spares_are k.given_up
gives_is drivers x c false h is = let k : WaitsNow x c is.0 = subst (λ (p : Phase). PhaseIs x c p) is.1 h.phase_is in
    gives_tells c.policy drivers c.watch.spares c.watch.generation x.started x.fault k.fault false (sym h.fault_is ∙ k.last_is) h.started_is h.spares_are k.replaced

-- where there is no fault
no_fault_due : (policy : Policy) (drivers : ℕ) (event : Event) (group : List Mark) (earlier : List Group) → has_fault group ≡ false
    → times_due policy drivers ((event, group) ∷ earlier) ≡ 0
no_fault_due policy drivers event group earlier none =
    ap (λ (b : Bool). if b && gives_up_at policy drivers (fault_of policy ((event, group) ∷ earlier)) (generation (group ++ marks_of earlier)) then 1 else 0) none

fault_due : (policy : Policy) (drivers : ℕ) (event : Event) (group : List Mark) (earlier : List Group) (ends : Bool) → has_fault group ≡ true
    → gives_up_at policy drivers (fault_of policy ((event, group) ∷ earlier)) (generation (group ++ marks_of earlier)) ≡ ends
    → times_due policy drivers ((event, group) ∷ earlier) ≡ owes ends
fault_due policy drivers event group earlier ends some is =
    ap (λ (b : Bool). if b && gives_up_at policy drivers (fault_of policy ((event, group) ∷ earlier)) (generation (group ++ marks_of earlier)) then 1 else 0) some
    ∙ ap (λ (b : Bool). if b then 1 else 0) is ∙ as_number ends where
      as_number : (b : Bool) → (if b then 1 else 0) ≡ owes b
      as_number true = refl
      as_number false = refl

calm_last : (drivers : ℕ) (event : Event) (group : List Mark) (groups : List Group) (a : Core) → times_gave_up group ≡ 0 → has_fault group ≡ false → a.owed ≡ false
    → LastGivesUp drivers event group groups a
calm_last drivers event group groups a none no_fault paid = record {
  times = ap (λ (n : ℕ). n + owes a.owed) none ∙ ap (λ (b : Bool). 0 + owes b) paid ∙ sym (no_fault_due a.policy drivers event group groups no_fault);
  over = λ some. clash (sym no_fault ∙ some);
} where
  clash : ◌≡◌ {A = Bool} false true → is_running a.watch.phase ≡ false
  clash e = cc

told_once : (ends : Bool) (e : Endpoint) (cause : Cause) → times_gave_up (fault_marks ends e cause) ≡ owes ends
told_once true e cause = omega arith
told_once false e cause = refl

some_fault : (ends : Bool) (e : Endpoint) (cause : Cause) → has_fault (fault_marks ends e cause) ≡ true
some_fault true e cause = refl
some_fault false e cause = refl

fault_last : (drivers : ℕ) (event : Event) (e : Endpoint) (cause : Cause) (ends : Bool) (groups : List Group) (a : Core)
    → FollowsGroups drivers ((event, fault_marks ends e cause) ∷ groups) a → Settled ends a.watch.phase → a.owed ≡ false
    → LastGivesUp drivers event (fault_marks ends e cause) groups a
fault_last drivers event e cause ends groups a h phase paid =
    let group : List Mark = fault_marks ends e cause in
    let due : times_due a.policy drivers ((event, group) ∷ groups) ≡ owes ends =
    fault_due a.policy drivers event group groups ends (some_fault ends e cause)
    (gives_is drivers (story a.policy a.watch.generation ((event, group) ∷ groups)) a ends h phase) in
    let zero_owed : owes a.owed ≡ 0 = ap owes paid in
    record {
      times = (let told : times_gave_up group ≡ owes ends = told_once ends e cause in omega (arith, told, zero_owed, due));
      over = λ some. not_running_then ends a.watch.phase phase;
    }

exit_last : (drivers : ℕ) (event : Event) (e : Endpoint) (ends : Option Bool) (after : Watch) (d : Disks) (groups : List Group) (c : Core)
    → AtReport c.policy c.watch e c.tick ends after → FollowsGroups drivers ((event, exit_marks ends e) ∷ groups) (record c { disks = d; watch = after })
    → c.owed ≡ false → LastGivesUp drivers event (exit_marks ends e) groups (record c { disks = d; watch = after })
exit_last drivers event e _ _ d groups c (OfNone other) h paid = calm_last drivers event [] groups (record c { disks = d }) refl refl paid
exit_last drivers event e _ _ d groups c (OfRunning last count ends after is at fault) h paid =
    fault_last drivers event e Exit ends groups (record c { disks = d; watch = after }) h (settled c.policy c.watch c.tick ends after fault) paid

tick_last : (drivers : ℕ) (groups : List Group) (c a : Core) (marks : List Mark) → TicksTo (beaten_core c) marks a → FollowsGroups drivers ((event.Tick, marks) ∷ groups) a
    → c.owed ≡ false → LastGivesUp drivers event.Tick marks groups a
tick_last drivers groups c _ _ (Beats last count is same) h paid = calm_last drivers event.Tick [] groups _ refl refl paid
tick_last drivers groups c _ _ (MissesOne last count is same few) h paid = calm_last drivers event.Tick [] groups _ refl refl paid
tick_last drivers groups c _ _ (FoundHung last count ends after is same enough fault) h paid =
    fault_last drivers event.Tick (driver c.disks.media.generation) Hung ends groups (record (beaten_core c) { watch = after }) h
    (settled c.policy c.watch (c.tick + 1) ends after fault) paid
tick_last drivers groups c _ _ (WaitsOn until is early) h paid = calm_last drivers event.Tick [] groups _ refl refl paid
tick_last drivers groups c _ _ (StartsNext until d rest is come spare) h paid =
    calm_last drivers event.Tick (Started (driver (c.watch.generation + 1)) ∷ []) groups _ refl refl paid
tick_last drivers groups c _ _ (IsOver is) h paid = calm_last drivers event.Tick [] groups _ refl refl paid

begins_last : (drivers place : ℕ) (groups : List Group) (c a : Core) (event : Event) (marks : List Mark) → Begins place groups c event marks a
    → FollowsGroups drivers ((event, marks) ∷ groups) a → c.owed ≡ false → LastGivesUp drivers event marks groups a
begins_last drivers place groups c _ _ _ (Arrives who now call) h paid = calm_last drivers _ [] groups _ refl refl paid
begins_last drivers place groups c _ _ _ Flushes h paid = calm_last drivers _ (Flush ∷ []) groups _ refl refl paid
begins_last drivers place groups c _ _ _ (Answers n s there counts) h paid = calm_last drivers _ (Answered s.reply ∷ []) groups _ refl refl paid
begins_last drivers place groups c _ _ _ (Drops n s there counts) h paid = calm_last drivers _ [] groups _ refl refl paid
begins_last drivers place groups c _ _ _ (Delivers n there) h paid = calm_last drivers _ [] groups _ refl refl paid
begins_last drivers place groups c _ _ _ (LinesAgain n p d same again) h paid = calm_last drivers _ [] groups _ refl refl paid
begins_last drivers place groups c _ _ _ (HangsOne g d hangs) h paid = calm_last drivers _ [] groups _ refl refl paid
begins_last drivers place groups c _ _ _ (StepsOne g step d steps well) h paid = calm_last drivers _ [] groups _ refl refl paid
begins_last drivers place groups c _ _ _ (FailsOne g d ends after steps report) h paid =
    exit_last drivers (event.Step g) (driver g) ends after d groups c report h paid
begins_last drivers place groups c _ _ _ (DiesNone g bytes d dies) h paid = calm_last drivers _ [] groups _ refl refl paid
begins_last drivers place groups c _ _ _ (DiesOne g bytes d ends after dies report) h paid =
    exit_last drivers (event.Die g bytes) (driver g) ends after d groups c report h paid
begins_last drivers place groups c a _ marks (Ticks _ _ ticks) h paid = tick_last drivers groups c a marks ticks h paid

-- the group before it has all that it owed
pub earlier_gave_up : (drivers : ℕ) (groups : List Group) (c : Core) → AllGiveUp drivers groups c → c.owed ≡ false → EachGroup (GivesUpAsDue drivers c.policy) groups
earlier_gave_up drivers [] c all paid = tt
earlier_gave_up drivers ((event, group) ∷ earlier) c all paid =
    let none : owes c.owed ≡ 0 = ap owes paid in
    let times : times_gave_up group + owes c.owed ≡ times_due c.policy drivers ((event, group) ∷ earlier) = all.0.times in
    (omega (arith, none, times), all.1)

-- marks that are no fault leave the last fault
last_fault_same : (policy : Policy) (g : ℕ) (m : Mark) (event : Event) (group : List Mark) (earlier : List Group)
    → (within policy g event (m ∷ group) earlier).fault ≡ (within policy g event group earlier).fault
    → fault_of policy ((event, m ∷ group) ∷ earlier) ≡ fault_of policy ((event, group) ∷ earlier)
last_fault_same policy g m event group earlier same =
    ap (λ (x : Story). x.fault) (story_within policy g event (m ∷ group) earlier) ∙ same
    ∙ sym (ap (λ (x : Story). x.fault) (story_within policy g event group earlier))

same_due : (policy : Policy) (drivers : ℕ) (m : Mark) (event : Event) (group : List Mark) (earlier : List Group) → has_fault (m ∷ group) ≡ has_fault group
    → generation (m ∷ (group ++ marks_of earlier)) ≡ generation (group ++ marks_of earlier)
    → (within policy 0 event (m ∷ group) earlier).fault ≡ (within policy 0 event group earlier).fault
    → times_due policy drivers ((event, m ∷ group) ∷ earlier) ≡ times_due policy drivers ((event, group) ∷ earlier)
same_due policy drivers m event group earlier fault started same =
    ap (λ (b : Bool). if b && gives_up_at policy drivers (fault_of policy ((event, m ∷ group) ∷ earlier)) (generation (m ∷ (group ++ marks_of earlier))) then 1 else 0) fault
    ∙ ap (λ (l : Option LastFault). if has_fault group && gives_up_at policy drivers l (generation (m ∷ (group ++ marks_of earlier))) then 1 else 0)
    (last_fault_same policy 0 m event group earlier same)
    ∙ ap (λ (n : ℕ). if has_fault group && gives_up_at policy drivers (fault_of policy ((event, group) ∷ earlier)) n then 1 else 0) started

no_fault_yet : (drivers : ℕ) (event : Event) (group : List Mark) (earlier : List Group) (c : Core) (last : ℕ × ℕ) (count : ℕ)
    → LastGivesUp drivers event group earlier c → c.watch.phase ≡ Running last count → has_fault group ≡ false
no_fault_yet drivers event group earlier c last count k is = by (has_fault group) refl where
  by : (b : Bool) → has_fault group ≡ b → has_fault group ≡ false
  by true some = absurd (clash (sym (ap is_running is) ∙ k.over some)) where
    clash : ◌≡◌ {A = Bool} true false → ⊥
    clash e = cc
  by false none = none

owed_number : (owed told ends ended : Bool) → owed ≡ false → (told ≡ true → ended ≡ true) → ended ≡ false → owes (owed || (ends && not told)) ≡ owes ends
owed_number owed told ends ended paid once goes = ap owes (owes_it owed told ends ended paid once goes) ∙ by ends where
  by : (b : Bool) → owes (b && not false) ≡ owes b
  by true = refl
  by false = refl

adds_last : (drivers : ℕ) (event : Event) (group : List Mark) (earlier : List Group) (c a : Core) (marks : List Mark) → Adds c marks a
    → FollowsGroups drivers ((event, group) ∷ earlier) c → FollowsGroups drivers ((event, marks ++ group) ∷ earlier) a
    → LastGivesUp drivers event group earlier c → LastGivesUp drivers event (marks ++ group) earlier a
adds_last drivers event group earlier c _ _ AddsNothing h after k = k
adds_last drivers event group earlier c _ _ (Posts r to d lines) h after k = record {
  times = k.times ∙ sym (same_due c.policy drivers (Issued r to) event group earlier refl refl refl);
  over = k.over;
}
adds_last drivers event group earlier c _ _ (Replies who now call answer) h after k = record {
  times = k.times ∙ sym (same_due c.policy drivers (Took who now call answer) event group earlier refl refl refl);
  over = k.over;
}
adds_last drivers event group earlier c _ _ (Complains about _ _ (OfNone other)) h after k =
    subst (λ (b : Bool). LastGivesUp drivers event group earlier (record c { owed = b })) (sym (or_false c.owed)) k
adds_last drivers event group earlier c _ _ (Complains about _ _ (OfRunning last count ends w is at fault)) h after k =
    let a : Core = record c { watch = w; owed = c.owed || (ends && not c.told) } in
    let x : Story = story c.policy c.watch.generation ((event, group) ∷ earlier) in
    let ready : Ready drivers x c = ready_now drivers x c last count h is in
    let calm : has_fault group ≡ false = no_fault_yet drivers event group earlier c last count k is in
    let phase : Settled ends w.phase = settled c.policy c.watch c.tick ends w fault in
    let before : times_due c.policy drivers ((event, group) ∷ earlier) ≡ 0 = no_fault_due c.policy drivers event group earlier calm in
    let due : times_due c.policy drivers ((event, Fault about Complaint ∷ group) ∷ earlier) ≡ owes ends =
    fault_due c.policy drivers event (Fault about Complaint ∷ group) earlier ends refl
    (gives_is drivers (story c.policy w.generation ((event, Fault about Complaint ∷ group) ∷ earlier)) a ends after phase) in
    let owed : owes (c.owed || (ends && not c.told)) ≡ owes ends = owed_number c.owed c.told ends x.ended ready.paid h.once ready.goes_on in
    let was : times_gave_up group + owes c.owed ≡ times_due c.policy drivers ((event, group) ∷ earlier) = k.times in
    record { times = omega (arith, before, due, owed, was); over = λ some. not_running_then ends w.phase phase }
adds_last drivers event group earlier c _ _ (Pays owed) h after k =
    let one : owes c.owed ≡ 1 = ap owes owed in
    let was : times_gave_up group + owes c.owed ≡ times_due c.policy drivers ((event, group) ∷ earlier) = k.times in
    let same : times_due c.policy drivers ((event, GaveUp ∷ group) ∷ earlier) ≡ times_due c.policy drivers ((event, group) ∷ earlier) =
    same_due c.policy drivers GaveUp event group earlier refl refl refl in
    record { times = omega (arith, one, was, same); over = k.over }

pub gives_up_kept : (drivers : ℕ) → IsKept (GivesUpSoFar drivers)
gives_up_kept drivers = record {
  begins = λ place groups c a event marks paid begins h.
      let after : FollowsGroups drivers ((event, marks) ∷ groups) a = follows_begins drivers place groups c a event marks h.follows begins in
      record {
        follows = after;
        all = (
          begins_last drivers place groups c a event marks begins after paid,
          subst (λ (p : Policy). EachGroup (GivesUpAsDue drivers p) groups) (sym (begins_policy place groups c a event marks begins))
              (earlier_gave_up drivers groups c h.all paid),
        );
      };
  adds = λ place event group earlier c a marks adds h.
      let after : FollowsGroups drivers ((event, marks ++ group) ∷ earlier) a = follows_adds drivers event group earlier c a marks h.follows adds in
      record {
        follows = after;
        all = (
          adds_last drivers event group earlier c a marks adds h.follows after h.all.0,
          subst (λ (p : Policy). EachGroup (GivesUpAsDue drivers p) earlier) (sym (adds_policy c a marks adds)) h.all.1,
        );
      };
}
