-- The drivers are those that were handed in, and the one that runs hasn't failed.
use Rattle.std.proofs.Common.{◌≡◌, ℕ, zero, suc, ◌+◌, ◌<◌, ◌≤◌, List, [], ◌∷◌, ◌++◌, length, Bool, true, false, refl, sym, ◌∙◌, ap, subst, arith}
use Rattle.std.specs.Prelude.{map, Option, Some, None, Result, Ok, Err, slice_get, slice_set}
use Rattle.message.specs.declared.endpoint.Endpoint.{Endpoint}
use Rattle.message.specs.declared.BlockRequest.{BlockRequest}
use Rattle.media.specs.Contents.{MediaState}
use Rattle.bdev.specs.declared.Step.{Step}
use Rattle.bdev.specs.declared.Step.TheVariants.{Working, Idle, Done, Failed}
use Rattle.bdev.specs.declared.Accept.{Accept}
use Rattle.bdev.specs.declared.Accept.TheVariants.{Taken, Busy, Old}
use Rattle.bdev.specs.DriverState.{DriverState, Ranges, Work}
use Rattle.bdev.specs.Promises.{StepsAt as DriverStepsAt, AcceptKeeps}
use Rattle.reincarnate.specs.declared.policy.Policy.{Policy}
use Rattle.reincarnate.specs.Watch.{Watch, Phase, Running, Waiting, GivenUp, driver}
use Rattle.synchronous_driver.specs.Steps.{HandsOver}
use Rattle.records.specs.Marks.{Mark}
use Rattle.schedule.specs.declared.Event.{Event}
use Rattle.schedule.specs.Groups.{Group, Each}
use Rattle.reissue.specs.declared.link.LinkRefusal.{LinkRefusal}
use Rattle.schedule.specs.declared.log.Post.{Post}
use Rattle.simulated_link.specs.Disks.{Disks, Slot, SlotSteps, started, Steps, NoStep, CurrentSteps, OlderSteps, Dies, NoneDies, CurrentDies, OlderDies, Hangs, NoneHangs, CurrentHangs, OlderHangs, LinesUp, NoneIsThere, LineIsFull, IsLinedUp, LinesUpAgain, NoneLinesUp, CurrentLinesUp, OlderLinesUp, Repeats}
use Rattle.conformance.specs.Core.{Core, Story, story, FollowsGroups}
use Rattle.conformance.specs.Happens.{AtFault, Replaces, GivesUp, AtReport, OfNone, OfRunning, GoesWell, beaten_core, TicksTo, Beats, MissesOne, FoundHung, WaitsOn, StartsNext, IsOver, Begins, Arrives, Flushes, Answers, Drops, Delivers, LinesAgain, HangsOne, StepsOne, FailsOne, DiesNone, DiesOne, Ticks, Adds, AddsNothing, Posts, Replies, Complains, Pays}
use Rattle.conformance.specs.Steady.{IsKept, state_in, drivers_of, ranges_in, DriversSoFar}
use Rattle.conformance.proofs.FollowLaws.{not_latest}
use Rattle.conformance.proofs.TickLaws.{follows_begins, follows_adds}
use Rattle.conformance.proofs.ExitLaws.{Went, begins_went, adds_went, accept_failed, hands_failed}

accept_ranges : (b : DriverState) (q : BlockRequest) (result : Accept) (a : DriverState) → AcceptKeeps b q result a → a.ranges ≡ b.ranges
accept_ranges b q Taken a k = k.2.same_ranges
accept_ranges b q Busy a k = ap (λ (d : DriverState). d.ranges) k.1
accept_ranges b q Old a k = ap (λ (d : DriverState). d.ranges) k.2

hands_ranges : (b : DriverState) (line : List BlockRequest) (a : DriverState) (after : List BlockRequest) → HandsOver b line a after → a.ranges ≡ b.ranges
hands_ranges b [] a after h = ap (λ (d : DriverState). d.ranges) h.0
hands_ranges b (q ∷ rest) a after h = accept_ranges b q h.0 a h.1

slot_ranges : (g : ℕ) (b : Slot) (m : MediaState) (step : Step) (a : Slot) (m' : MediaState) → SlotSteps g b m step a m' → a.state.ranges ≡ b.state.ranges
slot_ranges g b m step a m' s = s.steps.same_ranges ∙ hands_ranges b.state b.line s.handed a.line s.hands

ranges_last : (older : List Slot) (b a : Slot) → a.state.ranges ≡ b.state.ranges
    → map ranges_in (map state_in (older ++ a ∷ [])) ≡ map ranges_in (map state_in (older ++ b ∷ []))
ranges_last [] b a same = ap (λ (r : Ranges). r ∷ []) same
ranges_last (x ∷ older) b a same = ap (λ (l : List Ranges). x.state.ranges ∷ l) (ranges_last older b a same)

ranges_older : (older : List Slot) (current : Slot) (at : ℕ) (was new : Slot) → slice_get older at ≡ Some was → new.state.ranges ≡ was.state.ranges
    → map ranges_in (map state_in (slice_set older at new ++ current ∷ [])) ≡ map ranges_in (map state_in (older ++ current ∷ []))
ranges_older [] current at was new there same = refl
ranges_older (x ∷ older) current zero was new there same =
    ap (λ (r : Ranges). r ∷ map ranges_in (map state_in (older ++ current ∷ []))) (same ∙ sym (own x was there)) where
      own : (s t : Slot) → Some s ≡ Some t → s.state.ranges ≡ t.state.ranges
      own s t e = ap (λ (o : Option Slot). ranges_or s o) e where
        ranges_or : Slot → Option Slot → Ranges
        ranges_or d None = d.state.ranges
        ranges_or d (Some y) = y.state.ranges
ranges_older (x ∷ older) current (suc at) was new there same =
    ap (λ (l : List Ranges). x.state.ranges ∷ l) (ranges_older older current at was new there same)

abbrev RangesStay : Disks → Disks → Type 0
RangesStay b a = map ranges_in (drivers_of a) ≡ map ranges_in (drivers_of b)

steps_ranges : (place g : ℕ) (b a : Disks) (result : Option Step) → Steps place g b result a → RangesStay b a
steps_ranges place g b _ _ (NoStep none) = refl
steps_ranges place g b _ _ (CurrentSteps step a m is live s) = ranges_last b.older b.current a (slot_ranges g b.current b.media step a m s)
steps_ranges place g b _ _ (OlderSteps at was a step m older live s) = ranges_older b.older b.current at was a older.there (slot_ranges g was b.media step a m s)

dies_ranges : (g : ℕ) (bytes : Option (List ℕ)) (b a : Disks) (died : Bool) → Dies g bytes b died a → RangesStay b a
dies_ranges g bytes b _ _ (NoneDies none) = refl
dies_ranges g bytes b _ _ (CurrentDies is live) = ranges_last b.older b.current _ refl
dies_ranges g bytes b _ _ (OlderDies at was older live) = ranges_older b.older b.current at was _ older.there refl

hangs_ranges : (g : ℕ) (b a : Disks) → Hangs g b a → RangesStay b a
hangs_ranges g b _ (NoneHangs none) = refl
hangs_ranges g b _ (CurrentHangs is) = ranges_last b.older b.current _ refl
hangs_ranges g b _ (OlderHangs at was older) = ranges_older b.older b.current at was _ older.there refl

again_ranges : (g : ℕ) (r : BlockRequest) (b a : Disks) → LinesUpAgain g r b a → RangesStay b a
again_ranges g r b _ (NoneLinesUp none) = refl
again_ranges g r b _ (CurrentLinesUp is live few) = ranges_last b.older b.current _ refl
again_ranges g r b _ (OlderLinesUp at slot older live few) = ranges_older b.older b.current at slot _ older.there refl

repeats_ranges : (p : Option Post) (b a : Disks) → Repeats p b a → RangesStay b a
repeats_ranges None b a is = ap (λ (d : Disks). map ranges_in (drivers_of d)) is
repeats_ranges (Some p) b a again = again_ranges p.to.generation p.request b a again

lines_ranges : (to : Endpoint) (r : BlockRequest) (b a : Disks) (result : Result (Unit {0}) LinkRefusal) → LinesUp to r b result a → RangesStay b a
lines_ranges to r b _ _ (NoneIsThere none) = refl
lines_ranges to r b _ _ (LineIsFull there full) = refl
lines_ranges to r b _ _ (IsLinedUp there few) = ranges_last b.older b.current _ refl

-- the current driver is in the state that it was in
hangs_state : (g : ℕ) (b a : Disks) → Hangs g b a → a.current.state ≡ b.current.state
hangs_state g b _ (NoneHangs none) = refl
hangs_state g b _ (CurrentHangs is) = refl
hangs_state g b _ (OlderHangs at was older) = refl

dies_state : (g : ℕ) (bytes : Option (List ℕ)) (b a : Disks) (died : Bool) → Dies g bytes b died a → a.current.state ≡ b.current.state
dies_state g bytes b _ _ (NoneDies none) = refl
dies_state g bytes b _ _ (CurrentDies is live) = refl
dies_state g bytes b _ _ (OlderDies at was older live) = refl

again_state : (g : ℕ) (r : BlockRequest) (b a : Disks) → LinesUpAgain g r b a → a.current.state ≡ b.current.state
again_state g r b _ (NoneLinesUp none) = refl
again_state g r b _ (CurrentLinesUp is live few) = refl
again_state g r b _ (OlderLinesUp at slot older live few) = refl

repeats_state : (p : Option Post) (b a : Disks) → Repeats p b a → a.current.state ≡ b.current.state
repeats_state None b a is = ap (λ (d : Disks). d.current.state) is
repeats_state (Some p) b a again = again_state p.to.generation p.request b a again

lines_state : (to : Endpoint) (r : BlockRequest) (b a : Disks) (result : Result (Unit {0}) LinkRefusal) → LinesUp to r b result a
    → a.current.state ≡ b.current.state
lines_state to r b _ _ (NoneIsThere none) = refl
lines_state to r b _ _ (LineIsFull there full) = refl
lines_state to r b _ _ (IsLinedUp there few) = refl

-- a step that isn't a failure leaves whether the driver has failed
pub well_failed : (b : DriverState) (w : Option Work) (m : MediaState) (g : ℕ) (step : Step) (a : DriverState) (m' : MediaState) → DriverStepsAt b w m g step a m'
    → GoesWell (Some step) → a.failed ≡ b.failed
well_failed b None m g Idle a m' s well = ap (λ (d : DriverState). d.failed) s.1
well_failed b None m g Failed a m' s well = absurd well
well_failed b None m g Working a m' s well = absurd s.1
well_failed b None m g (Done answer) a m' s well = absurd s.1
well_failed b (Some w) m g Working a m' s well = s.2.failed_is
well_failed b (Some w) m g Failed a m' s well = absurd well
well_failed b (Some w) m g (Done answer) a m' s well = s.2.same_failed
well_failed b (Some w) m g Idle a m' s well = absurd s.2

steps_sound : (place g : ℕ) (b a : Disks) (result : Option Step) → Steps place g b result a → GoesWell result → a.current.state.failed ≡ b.current.state.failed
steps_sound place g b _ _ (NoStep none) well = refl
steps_sound place g b _ _ (CurrentSteps step a m is live s) well =
    well_failed s.handed s.handed.work b.media g step a.state m s.steps.steps well ∙ hands_failed b.current.state b.current.line s.handed a.line s.hands
steps_sound place g b _ _ (OlderSteps at was a step m older live s) well = refl

other_sound : (place g : ℕ) (b a : Disks) (result : Option Step) → Steps place g b result a → (g ≡ b.media.generation → ⊥) → a.current.state ≡ b.current.state
other_sound place g b _ _ (NoStep none) other = refl
other_sound place g b _ _ (CurrentSteps step a m is live s) other = absurd (other is)
other_sound place g b _ _ (OlderSteps at was a step m older live s) other = refl

none_runs_after : (policy : Policy) (w : Watch) (tick : ℕ) (ends : Bool) (after : Watch) (last : ℕ × ℕ) (count : ℕ) → AtFault policy w tick ends after
    → after.phase ≡ Running last count → ⊥
none_runs_after policy w tick _ _ last count (Replaces goes) is = cc
none_runs_after policy w tick _ _ last count (GivesUp goes) is = cc

-- what is left, and the one that runs
pub record GoOn (b a : Core) : Type 0 where
  pub ranges : map ranges_in (drivers_of a.disks) ++ map ranges_in a.supply ≡ map ranges_in (drivers_of b.disks) ++ map ranges_in b.supply
  pub fresh : Each (λ d. d.failed ≡ false) b.supply → Each (λ d. d.failed ≡ false) a.supply
  pub sound : Each (λ d. d.failed ≡ false) b.supply → ((last : ℕ × ℕ) (count : ℕ) → b.watch.phase ≡ Running last count → b.disks.current.state.failed ≡ false)
      → (last : ℕ × ℕ) (count : ℕ) → a.watch.phase ≡ Running last count → a.disks.current.state.failed ≡ false

goes_same : (c : Core) → GoOn c c
goes_same c = record { ranges = refl; fresh = λ h. h; sound = λ fresh h. h }

goes_disks : (c : Core) (d : Disks) → RangesStay c.disks d → d.current.state.failed ≡ c.disks.current.state.failed → GoOn c (record c { disks = d })
goes_disks c d ranges failed = record {
  ranges = ap (λ (l : List Ranges). l ++ map ranges_in c.supply) ranges;
  fresh = λ h. h;
  sound = λ fresh h last count is. failed ∙ h last count is;
}

goes_report : (drivers g : ℕ) (groups : List Group) (c : Core) (d : Disks) (ends : Option Bool) (after : Watch) → FollowsGroups drivers groups c → RangesStay c.disks d
    → ((g ≡ c.disks.media.generation → ⊥) → d.current.state.failed ≡ c.disks.current.state.failed) → AtReport c.policy c.watch (driver g) c.tick ends after
    → GoOn c (record c { disks = d; watch = after })
goes_report drivers g groups c d _ _ h ranges same (OfNone other) = record {
  ranges = ap (λ (l : List Ranges). l ++ map ranges_in c.supply) ranges;
  fresh = λ k. k;
  sound = λ fresh k last count is.
      same (not_latest drivers (story c.policy c.watch.generation groups) c g last count h other is) ∙ k last count is;
}
goes_report drivers g groups c d _ _ h ranges same (OfRunning was misses ends after runs at fault) = record {
  ranges = ap (λ (l : List Ranges). l ++ map ranges_in c.supply) ranges;
  fresh = λ k. k;
  sound = λ fresh k last count is. absurd (none_runs_after c.policy c.watch c.tick ends after last count fault is);
}

last_of : (xs : List Slot) (d : Slot) (rest : List DriverState)
    → map ranges_in (map state_in (xs ++ d ∷ [])) ++ map ranges_in rest ≡ map ranges_in (map state_in xs) ++ (d.state.ranges ∷ map ranges_in rest)
last_of [] d rest = refl
last_of (x ∷ xs) d rest = ap (λ (l : List Ranges). x.state.ranges ∷ l) (last_of xs d rest)

goes_tick : (c a : Core) (marks : List Mark) → TicksTo (beaten_core c) marks a → GoOn c a
goes_tick c _ _ (Beats last count is same) = record { ranges = refl; fresh = λ h. h; sound = λ fresh h l n at. h last count is }
goes_tick c _ _ (MissesOne last count is same few) = record { ranges = refl; fresh = λ h. h; sound = λ fresh h l n at. h last count is }
goes_tick c _ _ (FoundHung last count ends after is same enough fault) = record {
  ranges = refl;
  fresh = λ h. h;
  sound = λ fresh h l n at. absurd (none_runs_after c.policy c.watch (c.tick + 1) ends after l n fault at);
}
goes_tick c _ _ (WaitsOn until is early) = record { ranges = refl; fresh = λ h. h; sound = λ fresh h. h }
goes_tick c _ _ (StartsNext until d rest is come spare) = record {
  ranges = last_of (c.disks.older ++ c.disks.current ∷ []) (record { state = d; live = true; hung = false; line = [] }) rest
      ∙ sym (ap (λ (l : List DriverState). map ranges_in (drivers_of c.disks) ++ map ranges_in l) spare);
  fresh = λ h. (subst (λ (l : List DriverState). Each (λ x. x.failed ≡ false) l) spare h).1;
  sound = λ fresh h l n at. (subst (λ (l : List DriverState). Each (λ x. x.failed ≡ false) l) spare fresh).0;
}
goes_tick c _ _ (IsOver is) = record { ranges = refl; fresh = λ h. h; sound = λ fresh h. h }

pub goes_begins : (drivers place : ℕ) (groups : List Group) (c a : Core) (event : Event) (marks : List Mark) → FollowsGroups drivers groups c
    → Begins place groups c event marks a → GoOn c a
goes_begins drivers place groups c _ _ _ h (Arrives who now call) = goes_same c
goes_begins drivers place groups c _ _ _ h Flushes = goes_same c
goes_begins drivers place groups c _ _ _ h (Answers n s there counts) = goes_same c
goes_begins drivers place groups c _ _ _ h (Drops n s there counts) = goes_same c
goes_begins drivers place groups c _ _ _ h (Delivers n there) = goes_same c
goes_begins drivers place groups c _ _ _ h (LinesAgain n p d same again) =
    goes_disks c d (repeats_ranges p c.disks d again) (ap (λ (s : DriverState). s.failed) (repeats_state p c.disks d again))
goes_begins drivers place groups c _ _ _ h (HangsOne g d hangs) =
    goes_disks c d (hangs_ranges g c.disks d hangs) (ap (λ (s : DriverState). s.failed) (hangs_state g c.disks d hangs))
goes_begins drivers place groups c _ _ _ h (StepsOne g step d steps well) =
    goes_disks c d (steps_ranges place g c.disks d step steps) (steps_sound place g c.disks d step steps well)
goes_begins drivers place groups c _ _ _ h (FailsOne g d ends after steps report) =
    goes_report drivers g groups c d ends after h (steps_ranges place g c.disks d (Some Failed) steps)
    (λ other. ap (λ (s : DriverState). s.failed) (other_sound place g c.disks d (Some Failed) steps other)) report
goes_begins drivers place groups c _ _ _ h (DiesNone g bytes d dies) =
    goes_disks c d (dies_ranges g bytes c.disks d false dies) (ap (λ (s : DriverState). s.failed) (dies_state g bytes c.disks d false dies))
goes_begins drivers place groups c _ _ _ h (DiesOne g bytes d ends after dies report) =
    goes_report drivers g groups c d ends after h (dies_ranges g bytes c.disks d true dies)
    (λ other. ap (λ (s : DriverState). s.failed) (dies_state g bytes c.disks d true dies)) report
goes_begins drivers place groups c a _ marks h (Ticks _ _ ticks) = goes_tick c a marks ticks

pub goes_adds : (c a : Core) (marks : List Mark) → Adds c marks a → GoOn c a
goes_adds c _ _ AddsNothing = goes_same c
goes_adds c _ _ (Posts r to d lines) =
    let k : GoOn c (record c { disks = d }) =
    goes_disks c d (lines_ranges to r c.disks d (Ok tt) lines) (ap (λ (s : DriverState). s.failed) (lines_state to r c.disks d (Ok tt) lines)) in
    record { ranges = k.ranges; fresh = k.fresh; sound = k.sound }
goes_adds c _ _ (Replies who now call answer) = goes_same c
goes_adds c _ _ (Complains about _ _ (OfNone other)) = record { ranges = refl; fresh = λ h. h; sound = λ fresh h. h }
goes_adds c _ _ (Complains about _ _ (OfRunning was misses ends after runs at fault)) = record {
  ranges = refl;
  fresh = λ h. h;
  sound = λ fresh h last count is. absurd (none_runs_after c.policy c.watch c.tick ends after last count fault is);
}
goes_adds c _ _ (Pays owed) = record { ranges = refl; fresh = λ h. h; sound = λ fresh h. h }

pub drivers_kept : (drivers : ℕ) (supply : List DriverState) → IsKept (DriversSoFar drivers supply)
drivers_kept drivers supply = record {
  begins = λ place groups c a event marks paid begins h.
      let w : Went c.disks a.disks = begins_went drivers place groups c a event marks h.follows begins in
      let k : GoOn c a = goes_begins drivers place groups c a event marks h.follows begins in
      record {
        follows = follows_begins drivers place groups c a event marks h.follows begins;
        numbered = w.numbered h.numbered;
        handed_in = k.ranges ∙ h.handed_in;
        fresh = k.fresh h.fresh;
        sound = k.sound h.fresh h.sound;
      };
  adds = λ place event group earlier c a marks adds h.
      let w : Went c.disks a.disks = adds_went c a marks adds in
      let k : GoOn c a = goes_adds c a marks adds in
      record {
        follows = follows_adds drivers event group earlier c a marks h.follows adds;
        numbered = w.numbered h.numbered;
        handed_in = k.ranges ∙ h.handed_in;
        fresh = k.fresh h.fresh;
        sound = k.sound h.fresh h.sound;
      };
}
