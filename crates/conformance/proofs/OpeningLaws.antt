-- Before the first event all is said that a run keeps; so at each of its moments what was said is justified.
use Rattle.std.proofs.Common.{◌≡◌, ℕ, zero, suc, ◌+◌, ◌-◌, ◌<◌, ◌≤◌, List, [], ◌∷◌, ◌++◌, length, Bool, true, false, refl, sym, ◌∙◌, ap, subst, arith}
use Rattle.std.specs.Prelude.{map, max, take, Option, None, Some, IsSomeAnd, slice_get}
use Rattle.message.specs.declared.endpoint.Endpoint.{Endpoint}
use Rattle.bdev.specs.DriverState.{DriverState, Ranges}
use Rattle.media.specs.Contents.{MediaState}
use Rattle.reincarnate.specs.declared.policy.Policy.{Policy}
use Rattle.reincarnate.specs.declared.policy.Event.TheVariants as policy
use Rattle.reincarnate.specs.Watch.{Watch, Phase, Running, Waiting, GivenUp, driver, new_watch, on}
use Rattle.records.specs.Marks.{Mark, Started}
use Rattle.schedule.specs.declared.Event.{Event}
use Rattle.schedule.specs.Groups.{Group, marks_of, running, generation, Each, EachGroup}
use Rattle.schedule.specs.Drivers.{state_of}
use Rattle.schedule.specs.Faults.{HasNotFailed}
use Rattle.schedule.specs.Noted.{marks_in}
use Rattle.simulated_link.specs.Disks.{Disks, Slot, opened_disks}
use Rattle.simulated_link.specs.Scene.{Scene}
use Rattle.simulated_link.specs.StateView.{RunState, IsOpened, first_noted}
use Rattle.simulated_link.specs.Moments.{Moment, Resting, Runs}
use Rattle.conformance.specs.Core.{Core, Story, story, PhaseIs, FollowsGroups}
use Rattle.conformance.specs.Seen.{core_at}
use Rattle.conformance.specs.Steady.{IsKept, EachSoFar, StartsAsDue, HungAsDue, FlushesAsDue, GivesUpAsDue, GivesUpSoFar, AnsweredSoFar, ExitsSoFar, DriversSoFar, ranges_in, state_in, drivers_of}
use Rattle.conformance.proofs.Events.{record_of_groups}
use Rattle.conformance.proofs.SteadyLaws.{starts_kept, hung_kept, flushes_kept}
use Rattle.conformance.proofs.TimesLaws.{gives_up_kept, earlier_gave_up}
use Rattle.conformance.proofs.AnswerLaws.{answered_kept}
use Rattle.conformance.proofs.ExitLaws.{exits_kept, length_more}
use Rattle.conformance.proofs.DriverLaws.{drivers_kept}
use Rattle.conformance.specs.Said.{core_of, IsSaid, HasBegun, StandsBefore, OverCalm}
use Rattle.conformance.specs.RunLaws.{WholeJustified, RunsAreJustified}
use Rattle.conformance.proofs.SaidLaws.{runs_said}

-- the run before its first event
abbrev pub opened_scene : MediaState → Policy → ℕ → DriverState → List DriverState → Scene
opened_scene media rules drivers first rest = record {
  disks = opened_disks media first;
  supply = rest;
  policy = rules;
  watch = (on rules (new_watch drivers) (policy.Tick 0 (0, 0))).0;
  tick = 0;
  pulse = (0, 0);
  noted = first_noted;
}

pub opened_said : (Said : ℕ → List Group → Core → Type 0) (media : MediaState) (rules : Policy) (supply : List DriverState) (events : List Event) (p : RunState)
    → (o : IsOpened media rules (new_watch (length supply)) supply events p)
    → Said 0 [] (core_at (opened_scene media rules (length supply) o.scene.first o.scene.rest) false false) → IsSaid Said p
opened_said Said media rules supply events p o said =
    let s : Scene = opened_scene media rules (length supply) o.scene.first o.scene.rest in
    record {
      first = ap (λ (x : Scene). x.noted.first) o.scene.is;
      said = subst (λ (n : ℕ). Said n p.scene.noted.groups (core_of p)) (sym o.next)
          (subst (λ (x : Scene). Said 0 x.noted.groups (core_at x p.owed p.told)) (sym o.scene.is)
          (subst (λ (b : Bool). Said 0 [] (core_at s b p.told)) (sym o.owed)
          (subst (λ (b : Bool). Said 0 [] (core_at s false b)) (sym o.told) said)));
    }

pub opened_follows : (media : MediaState) (rules : Policy) (supply : List DriverState) (first : DriverState) (rest : List DriverState) → media.generation ≡ 0
    → supply ≡ first ∷ rest → FollowsGroups (length supply) [] (core_at (opened_scene media rules (length supply) first rest) false false)
opened_follows media rules supply first rest new spare =
    let some : length supply ≡ suc (length rest) = ap (λ (l : List DriverState). length l) spare in
    record {
      started_is = refl;
      some = omega arith;
      latest = omega (arith, new);
      spares_are = omega (arith, some);
      tick_is = refl;
      beat = omega arith;
      fault_is = refl;
      once = λ told. clash told;
      phase_is = record {
        runs_is = refl;
        none_awaited = refl;
        goes_on = refl;
        paid = refl;
        live = refl;
        hangs_is = refl;
        last_is = refl;
        count_is = refl;
      };
    } where
      clash : ◌≡◌ {A = Bool} false true → ◌≡◌ {A = Bool} false true
      clash e = e

pub begins_before : (media : MediaState) (rules : Policy) (supply : List DriverState) (events : List Event) (m : Moment)
    → IsOpened media rules (new_watch (length supply)) supply events m.run → m.doing ≡ Resting → HasBegun m
begins_before media rules supply events m o rests = StandsBefore rests o.queue o.owed

pub calm_before : (media : MediaState) (rules : Policy) (supply : List DriverState) (events : List Event) (m : Moment)
    → IsOpened media rules (new_watch (length supply)) supply events m.run → OverCalm m
calm_before media rules supply events m o = record { none = λ over. by m.run.over o.over over } where
  by : (b : Bool) → b ≡ false → b ≡ true → m.outbox.complaint ≡ None
  by b live over = cc

length_states : (slots : List Slot) → length (map state_in slots) ≡ length slots
length_states [] = refl
length_states (s ∷ slots) = ap suc (length_states slots)

as_many : (d : Disks) → length d.older + 1 ≡ d.media.generation → length (drivers_of d) ≡ d.media.generation
as_many d number = length_states (d.older ++ d.current ∷ []) ∙ length_more d.older d.current ∙ number

take_first : (xs ys : List Ranges) → take (length xs) (xs ++ ys) ≡ xs
take_first [] ys = refl
take_first (x ∷ xs) ys = ap (λ (l : List Ranges). x ∷ l) (take_first xs ys)

length_ranges : (drivers : List DriverState) → length (map ranges_in drivers) ≡ length drivers
length_ranges [] = refl
length_ranges (d ∷ drivers) = ap suc (length_ranges drivers)

first_of_all : (drivers : List DriverState) (left all : List Ranges) → map ranges_in drivers ++ left ≡ all
    → map ranges_in drivers ≡ take (length drivers) all
first_of_all drivers left all is =
    sym (take_first (map ranges_in drivers) left)
    ∙ ap (λ (n : ℕ). take n (map ranges_in drivers ++ left)) (length_ranges drivers)
    ∙ ap (λ (l : List Ranges). take (length drivers) l) is

last_there : (older : List Slot) (s : Slot) → s.state.failed ≡ false → IsSomeAnd (slice_get (map state_in (older ++ s ∷ [])) (length older)) (λ d. d.failed ≡ false)
last_there [] s sound = sound
last_there (x ∷ older) s sound = last_there older s sound

-- the driver that runs hasn't failed
sound_now : (drivers : ℕ) (supply : List DriverState) (place : ℕ) (groups : List Group) (c : Core) → DriversSoFar drivers supply place groups c
    → HasNotFailed (drivers_of c.disks) (running (marks_of groups))
sound_now drivers supply place groups c h = by c.watch.phase refl h.follows.phase_is where
  by : (p : Phase) → c.watch.phase ≡ p → PhaseIs (story c.policy c.watch.generation groups) c p → HasNotFailed (drivers_of c.disks) (running (marks_of groups))
  by (Running last count) is k =
      let next : suc (length c.disks.older) ≡ c.watch.generation = omega (arith, h.numbered, h.follows.latest) in
      subst (λ (e : Option Endpoint). HasNotFailed (drivers_of c.disks) e) (sym k.runs_is)
      (subst (λ (n : ℕ). IsSomeAnd (state_of (drivers_of c.disks) n) (λ d. d.failed ≡ false)) next
      (last_there c.disks.older c.disks.current (h.sound last count is)))
  by (Waiting until) is k = subst (λ (e : Option Endpoint). HasNotFailed (drivers_of c.disks) e) (sym k.none_runs) tt
  by GivenUp is k = subst (λ (e : Option Endpoint). HasNotFailed (drivers_of c.disks) e) (sym k.none_runs) tt

pub runs_are_justified : RunsAreJustified
runs_are_justified media rules supply events area b a new ready o rests runs =
    let n : ℕ = length supply in
    let follows : FollowsGroups n [] (core_at (opened_scene media rules n o.scene.first o.scene.rest) false false) =
    opened_follows media rules supply o.scene.first o.scene.rest new o.scene.spare in
    let begun : HasBegun b = begins_before media rules supply events b o rests in
    let calm : OverCalm b = calm_before media rules supply events b o in
    let starts : IsSaid (EachSoFar n StartsAsDue) a.run = runs_said (EachSoFar n StartsAsDue) (starts_kept n) area b a runs calm begun
    (opened_said (EachSoFar n StartsAsDue) media rules supply events b.run o (record { follows = follows; each = tt })) in
    let hung : IsSaid (EachSoFar n HungAsDue) a.run = runs_said (EachSoFar n HungAsDue) (hung_kept n) area b a runs calm begun
    (opened_said (EachSoFar n HungAsDue) media rules supply events b.run o (record { follows = follows; each = tt })) in
    let flushes : IsSaid (EachSoFar n FlushesAsDue) a.run = runs_said (EachSoFar n FlushesAsDue) (flushes_kept n) area b a runs calm begun
    (opened_said (EachSoFar n FlushesAsDue) media rules supply events b.run o (record { follows = follows; each = tt })) in
    let given_up : IsSaid (GivesUpSoFar n) a.run = runs_said (GivesUpSoFar n) (gives_up_kept n) area b a runs calm begun
    (opened_said (GivesUpSoFar n) media rules supply events b.run o (record { follows = follows; all = tt })) in
    let answers : IsSaid AnsweredSoFar a.run = runs_said AnsweredSoFar answered_kept area b a runs calm begun
    (opened_said AnsweredSoFar media rules supply events b.run o (record { places = refl; sent = tt; order = refl; each = tt })) in
    let exits : IsSaid (ExitsSoFar n) a.run = runs_said (ExitsSoFar n) (exits_kept n) area b a runs calm begun
    (opened_said (ExitsSoFar n) media rules supply events b.run o (record { follows = follows; numbered = omega (arith, new); each = tt })) in
    let first_ones : Each (λ d. d.failed ≡ false) (o.scene.first ∷ o.scene.rest) = subst (λ (l : List DriverState). Each (λ d. d.failed ≡ false) l) o.scene.spare ready in
    let owned : IsSaid (DriversSoFar n supply) a.run = runs_said (DriversSoFar n supply) (drivers_kept n supply) area b a runs calm begun
    (opened_said (DriversSoFar n supply) media rules supply events b.run o (record {
      follows = follows;
      numbered = omega (arith, new);
      handed_in = sym (ap (λ (l : List DriverState). map ranges_in l) o.scene.spare);
      fresh = first_ones.1;
      sound = λ last count is. first_ones.0;
    })) in
    record {
      record_is = sym (record_of_groups a.run.scene.noted.groups a.run.scene.noted.first starts.first);
      exits = exits.said.each;
      hung = hung.said.each;
      starts = starts.said.each;
      given_up = λ paid. earlier_gave_up n a.run.scene.noted.groups (core_of a.run) given_up.said.all paid;
      answered = answers.said.each;
      replies_order = answers.said.order;
      flushed = flushes.said.each;
      all = as_many a.run.scene.disks exits.said.numbered ∙ exits.said.follows.latest ∙ sym exits.said.follows.started_is;
      handed_in = first_of_all (drivers_of a.run.scene.disks) (map ranges_in a.run.scene.supply) (map ranges_in supply) owned.said.handed_in;
      sound = sound_now n supply a.run.next a.run.scene.noted.groups (core_of a.run) owned.said;
    }
