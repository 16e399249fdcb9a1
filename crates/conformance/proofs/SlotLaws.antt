-- A driver that lives hasn't ended, and one that has failed did so at a step of its own.
use Rattle.std.proofs.Common.{◌≡◌, ℕ, zero, suc, ◌+◌, ◌<◌, ◌≤◌, List, [], ◌∷◌, ◌++◌, length, Bool, true, false, refl, sym, ◌∙◌, ap, subst, arith, ◌⊎◌, inl, inr}
use Rattle.std.proofs.lemmas.Bool.Decides.{nat_tests}
use Rattle.std.proofs.lemmas.Option.{slice_get_within}
use Rattle.std.specs.Prelude.{◌&&◌, ◌||◌, ◌==◌, not, nat_lt, nat_le, max, Option, Some, None, Result, Ok, Err, slice_get, slice_set}
use Rattle.lemmas.proofs.Bools.{or_right}
use Rattle.message.specs.declared.endpoint.Endpoint.{Endpoint}
use Rattle.message.specs.declared.BlockRequest.{BlockRequest}
use Rattle.media.specs.Contents.{MediaState}
use Rattle.bdev.specs.declared.Step.{Step}
use Rattle.bdev.specs.declared.Step.TheVariants.{Working, Idle, Done, Failed}
use Rattle.bdev.specs.DriverState.{DriverState}
use Rattle.reincarnate.specs.declared.policy.Policy.{Policy}
use Rattle.reincarnate.specs.Watch.{Watch, driver}
use Rattle.records.specs.Marks.{Mark}
use Rattle.records.specs.declared.marks.Cause.TheVariants.{Exit}
use Rattle.schedule.specs.declared.Event.{Event}
use Rattle.schedule.specs.declared.Event.TheVariants as event
use Rattle.schedule.specs.Groups.{Group, marks_of, generation, Each}
use Rattle.schedule.specs.Drivers.{has_exit, has_started, has_ended, is_live, driver_runs}
use Rattle.schedule.specs.Faults.{may_have_failed}
use Rattle.true_replies.specs.Events.{live_after}
use Rattle.reissue.specs.declared.link.LinkRefusal.{LinkRefusal}
use Rattle.schedule.specs.declared.log.Post.{Post}
use Rattle.simulated_link.specs.Disks.{Disks, Slot, SlotSteps, IsOlder, NoneLives, NotStarted, CurrentIsDead, OlderIsDead, started, Steps, NoStep, CurrentSteps, OlderSteps, Dies, NoneDies, CurrentDies, OlderDies, Hangs, NoneHangs, CurrentHangs, OlderHangs, LinesUp, NoneIsThere, LineIsFull, IsLinedUp, LinesUpAgain, NoneLinesUp, CurrentLinesUp, OlderLinesUp, Repeats}
use Rattle.conformance.specs.Core.{Core, FollowsGroups}
use Rattle.conformance.specs.Happens.{AtReport, OfNone, OfRunning, fault_marks, exit_marks, GoesWell, beaten_core, TicksTo, Beats, MissesOne, FoundHung, WaitsOn, StartsNext, IsOver, Begins, Arrives, Flushes, Answers, Drops, Delivers, LinesAgain, HangsOne, StepsOne, FailsOne, DiesNone, DiesOne, Ticks, Adds, AddsNothing, Posts, Replies, Complains, Pays}
use Rattle.conformance.specs.Steady.{IsKept, SlotStands, AllSlots, SlotsSoFar}
use Rattle.conformance.proofs.DiskMoves.{steps_generation, dies_generation}
use Rattle.conformance.proofs.FollowLaws.{same_number, other_number, same_generation}
use Rattle.conformance.proofs.TickLaws.{follows_begins, follows_adds, started_more}
use Rattle.conformance.proofs.StartLaws.{runs_not, not_reported}
use Rattle.conformance.proofs.ExitLaws.{Went, begins_went, adds_went, hands_failed}
use Rattle.conformance.proofs.DriverLaws.{GoOn, goes_begins, goes_adds, well_failed}

-- a list with one thing changed
set_get : (xs : List Slot) (at k : ℕ) (a s : Slot) → slice_get (slice_set xs at a) k ≡ Some s
    → ((k ≡ at) × (s ≡ a)) ⊎ ((k ≡ at → ⊥) × (slice_get xs k ≡ Some s))
set_get [] at k a s there = cc
set_get (x ∷ xs) zero zero a s there = inl (refl, same s a there) where
  same : (t u : Slot) → Some u ≡ Some t → t ≡ u
  same t u e = sym (ap (λ (o : Option Slot). slot_or u o) e) where
    slot_or : Slot → Option Slot → Slot
    slot_or d None = d
    slot_or d (Some y) = y
set_get (x ∷ xs) zero (suc k) a s there = inr (λ e. cc, there)
set_get (x ∷ xs) (suc at) zero a s there = inr (λ e. cc, there)
set_get (x ∷ xs) (suc at) (suc k) a s there = by (set_get xs at k a s there) where
  by : ((k ≡ at) × (s ≡ a)) ⊎ ((k ≡ at → ⊥) × (slice_get xs k ≡ Some s)) → ((suc k ≡ suc at) × (s ≡ a)) ⊎ ((suc k ≡ suc at → ⊥) × (slice_get xs k ≡ Some s))
  by (inl h) = inl (ap suc h.0, h.1)
  by (inr h) = inr (λ e. h.0 (omega (arith, e)), h.1)

pub push_get : (xs : List Slot) (k : ℕ) (a s : Slot) → slice_get (xs ++ a ∷ []) k ≡ Some s → (slice_get xs k ≡ Some s) ⊎ ((k ≡ length xs) × (Some a ≡ Some s))
push_get [] zero a s there = inr (refl, there)
push_get [] (suc k) a s there = cc
push_get (x ∷ xs) zero a s there = inl there
push_get (x ∷ xs) (suc k) a s there = by (push_get xs k a s there) where
  by : (slice_get xs k ≡ Some s) ⊎ ((k ≡ length xs) × (Some a ≡ Some s)) → (slice_get xs k ≡ Some s) ⊎ ((suc k ≡ suc (length xs)) × (Some a ≡ Some s))
  by (inl h) = inl h
  by (inr h) = inr (ap suc h.0, h.1)

pub same_slot : (s t : Slot) → Some s ≡ Some t → s ≡ t
same_slot s t e = ap (λ (o : Option Slot). slot_or s o) e where
  slot_or : Slot → Option Slot → Slot
  slot_or d None = d
  slot_or d (Some y) = y

-- the driver with this number, where one is changed at most
data Changed (R : Slot → Slot → Type 0) (g : ℕ) (b a : Disks) : Type 0 where
  Nobody : NoneLives g b → a.older ≡ b.older → a.current ≡ b.current → a.media.generation ≡ b.media.generation → Changed R g b a
  TheLast : g ≡ b.media.generation → R b.current a.current → a.older ≡ b.older → a.media.generation ≡ b.media.generation → Changed R g b a
  AnOlder : (at : ℕ) (was new : Slot) → IsOlder g b at was → R was new → a.older ≡ slice_set b.older at new → a.current ≡ b.current
      → a.media.generation ≡ b.media.generation → Changed R g b a

module _ (Was Now : ℕ → Slot → Type 0) (R : Slot → Slot → Type 0) (g : ℕ)
    (others : (h : ℕ) (s : Slot) → (h ≡ g → s.live ≡ false) → Was h s → Now h s) (own : (s t : Slot) → R s t → Was g s → Now g t) where
  dead_older : (b : Disks) → length b.older + 1 ≡ b.media.generation → NoneLives g b → (at : ℕ) (s : Slot) → slice_get b.older at ≡ Some s → at + 1 ≡ g → s.live ≡ false
  dead_older b number (NotStarted (inl is)) at s there e = absurd (none g is e) where
    none : (n : ℕ) → n ≡ 0 → at + 1 ≡ n → ⊥
    none n is e = omega (arith, is, e)
  dead_older b number (NotStarted (inr high)) at s there e =
      let within : at < length b.older = slice_get_within b.older at s there in absurd (none (length b.older) b.media.generation g within number high e) where
        none : (l m n : ℕ) → at < l → l + 1 ≡ m → m < n → at + 1 ≡ n → ⊥
        none l m n within number high e = omega (arith, within, number, high, e)
  dead_older b number (CurrentIsDead is dead) at s there e =
      let within : at < length b.older = slice_get_within b.older at s there in absurd (none (length b.older) b.media.generation g within number is e) where
        none : (l m n : ℕ) → at < l → l + 1 ≡ m → n ≡ m → at + 1 ≡ n → ⊥
        none l m n within number is e = omega (arith, within, number, is, e)
  dead_older b number (OlderIsDead place was older dead) at s there e =
      let same : at ≡ place = omega (arith, e, older.number) in
      let found : Some s ≡ Some was = sym there ∙ ap (λ (k : ℕ). slice_get b.older k) same ∙ older.there in
      ap (λ (x : Slot). x.live) (same_slot s was found) ∙ dead

  dead_current : (b : Disks) → length b.older + 1 ≡ b.media.generation → NoneLives g b → b.media.generation ≡ g → b.current.live ≡ false
  dead_current b number (NotStarted (inl is)) e = absurd (none (length b.older) b.media.generation g number is e) where
    none : (l m n : ℕ) → l + 1 ≡ m → n ≡ 0 → m ≡ n → ⊥
    none l m n number is e = omega (arith, number, is, e)
  dead_current b number (NotStarted (inr high)) e = absurd (none b.media.generation g high e) where
    none : (m n : ℕ) → m < n → m ≡ n → ⊥
    none m n high e = omega (arith, high, e)
  dead_current b number (CurrentIsDead is dead) e = dead
  dead_current b number (OlderIsDead place was older dead) e = absurd (none b.media.generation g older.older e) where
    none : (m n : ℕ) → n < m → m ≡ n → ⊥
    none m n low e = omega (arith, low, e)

  all_changed : (b a : Disks) → length b.older + 1 ≡ b.media.generation → Changed R g b a → AllSlots Was b → AllSlots Now a
  all_changed b a number (Nobody none older current same) h = record {
    older = λ at s there.
        let was : slice_get b.older at ≡ Some s = ap (λ (l : List Slot). slice_get l at) (sym older) ∙ there in
        others (at + 1) s (λ e. dead_older b number none at s was e) (h.older at s was);
    current = subst (λ (n : ℕ). Now n a.current) (sym same)
        (subst (λ (s : Slot). Now b.media.generation s) (sym current) (others b.media.generation b.current (λ e. dead_current b number none e) h.current));
  }
  all_changed b a number (TheLast is changes older same) h = record {
    older = λ at s there.
        let was : slice_get b.older at ≡ Some s = ap (λ (l : List Slot). slice_get l at) (sym older) ∙ there in
        let within : at < length b.older = slice_get_within b.older at s was in
        others (at + 1) s (λ e. absurd (none at (length b.older) b.media.generation g within number is e)) (h.older at s was);
    current = subst (λ (n : ℕ). Now n a.current) (is ∙ sym same) (own b.current a.current changes (subst (λ (n : ℕ). Was n b.current) (sym is) h.current));
  } where
    none : (at l m n : ℕ) → at < l → l + 1 ≡ m → n ≡ m → at + 1 ≡ n → ⊥
    none at l m n within number is e = omega (arith, within, number, is, e)
  all_changed b a number (AnOlder place was new is changes older current same) h = record {
    older = λ at s there. by at s (set_get b.older place at new s (ap (λ (l : List Slot). slice_get l at) (sym older) ∙ there));
    current = subst (λ (n : ℕ). Now n a.current) (sym same)
        (subst (λ (s : Slot). Now b.media.generation s) (sym current)
        (others b.media.generation b.current (λ e. absurd (none b.media.generation g is.older e)) h.current));
  } where
    none : (m n : ℕ) → n < m → m ≡ n → ⊥
    none m n low e = omega (arith, low, e)

    by : (at : ℕ) (s : Slot) → ((at ≡ place) × (s ≡ new)) ⊎ ((at ≡ place → ⊥) × (slice_get b.older at ≡ Some s)) → Now (at + 1) s
    by at s (inl k) =
        let number_is : g ≡ at + 1 = is.number ∙ ap (λ (n : ℕ). n + 1) (sym k.0) in
        let was_there : Was g was = subst (λ (n : ℕ). Was n was) (sym is.number) (h.older place was is.there) in
        subst (λ (n : ℕ). Now n s) number_is (subst (λ (t : Slot). Now g t) (sym k.1) (own was new changes was_there))
    by at s (inr k) = others (at + 1) s (λ e. absurd (k.0 (omega (arith, e, is.number)))) (h.older at s k.1)

-- no more than was: it lives and has failed only where it did
abbrev NoMore : Slot → Slot → Type 0
NoMore was new = (new.live ≡ true → was.live ≡ true) × (new.state.failed ≡ true → was.state.failed ≡ true)

-- it lives no more, and is as it was
abbrev NowDead : Slot → Slot → Type 0
NowDead was new = (new.live ≡ false) × (new.state ≡ was.state)

-- it lives no more, and did
abbrev NowFailed : Slot → Slot → Type 0
NowFailed was new = (new.live ≡ false) × (was.live ≡ true)

well_changed : (place g : ℕ) (b a : Disks) (result : Option Step) → Steps place g b result a → GoesWell result → Changed NoMore g b a
well_changed place g b _ _ (NoStep none) well = Nobody none refl refl refl
well_changed place g b _ _ (CurrentSteps step a m is live s) well =
    TheLast is (
      more step b.current a s.lives well,
      λ failed. sym (hands_failed b.current.state b.current.line s.handed a.line s.hands)
          ∙ (sym (well_failed s.handed s.handed.work b.media g step a.state m s.steps.steps well) ∙ failed),
    ) refl
    (steps_generation place g b _ (Some step) (CurrentSteps step a m is live s)) where
      more : (step : Step) (b a : Slot) → a.live ≡ live_after step b.live → GoesWell (Some step) → a.live ≡ true → b.live ≡ true
      more Working b a is well alive = sym is ∙ alive
      more Idle b a is well alive = sym is ∙ alive
      more (Done answer) b a is well alive = sym is ∙ alive
      more Failed b a is well alive = absurd well
well_changed place g b _ _ (OlderSteps at was a step m older live s) well =
    AnOlder at was a older (
      λ alive. live,
      λ failed. sym (hands_failed was.state was.line s.handed a.line s.hands)
          ∙ (sym (well_failed s.handed s.handed.work b.media g step a.state m s.steps.steps well) ∙ failed),
    ) refl refl
    (steps_generation place g b _ (Some step) (OlderSteps at was a step m older live s))

failed_changed : (place g : ℕ) (b a : Disks) (result : Option Step) → Steps place g b result a → result ≡ Some Failed → Changed NowFailed g b a
failed_changed place g b _ _ (NoStep none) is = cc
failed_changed place g b _ _ (CurrentSteps step a m at live s) is =
    TheLast at (s.lives ∙ ends step is b.current.live, live) refl (steps_generation place g b _ (Some step) (CurrentSteps step a m at live s)) where
      ends : (x : Step) → Some x ≡ Some Failed → (live : Bool) → live_after x live ≡ false
      ends Failed e live = refl
      ends Working e live = cc
      ends Idle e live = cc
      ends (Done answer) e live = cc
failed_changed place g b _ _ (OlderSteps n was a step m older live s) is =
    AnOlder n was a older (s.lives ∙ ends step is was.live, live) refl refl (steps_generation place g b _ (Some step) (OlderSteps n was a step m older live s)) where
      ends : (x : Step) → Some x ≡ Some Failed → (live : Bool) → live_after x live ≡ false
      ends Failed e live = refl
      ends Working e live = cc
      ends Idle e live = cc
      ends (Done answer) e live = cc

dies_changed : (g : ℕ) (bytes : Option (List ℕ)) (b a : Disks) (died : Bool) → Dies g bytes b died a → Changed NowDead g b a
dies_changed g bytes b _ _ (NoneDies none) = Nobody none refl refl refl
dies_changed g bytes b _ _ (CurrentDies is live) = TheLast is (refl, refl) refl (dies_generation g bytes b _ true (CurrentDies is live))
dies_changed g bytes b _ _ (OlderDies at was older live) = AnOlder at was _ older (refl, refl) refl refl refl

-- other disks with the same drivers, but for lines and hanging
abbrev StandsOn : List Group → List Group → Type 0
StandsOn was now = (h : ℕ) (s t : Slot) → t.live ≡ s.live → t.state ≡ s.state → SlotStands was h s → SlotStands now h t

older_as_was : (was now : List Group) (b a : Disks) → StandsOn was now → a.older ≡ b.older → a.media.generation ≡ b.media.generation
    → a.current.live ≡ b.current.live → a.current.state ≡ b.current.state → AllSlots (SlotStands was) b → AllSlots (SlotStands now) a
older_as_was was now b a on older same live state h = record {
  older = λ at s there. on (at + 1) s s refl refl (h.older at s (ap (λ (l : List Slot). slice_get l at) (sym older) ∙ there));
  current = subst (λ (n : ℕ). SlotStands now n a.current) (sym same) (on b.media.generation b.current a.current live state h.current);
}

one_as_was : (was now : List Group) (b a : Disks) (place : ℕ) (s t : Slot) → StandsOn was now → slice_get b.older place ≡ Some s → a.older ≡ slice_set b.older place t
    → a.media.generation ≡ b.media.generation → a.current ≡ b.current → t.live ≡ s.live → t.state ≡ s.state
    → AllSlots (SlotStands was) b → AllSlots (SlotStands now) a
one_as_was was now b a place s t on there older same current live state h = record {
  older = λ at x found. by at x (set_get b.older place at t x (ap (λ (l : List Slot). slice_get l at) (sym older) ∙ found));
  current = subst (λ (n : ℕ). SlotStands now n a.current) (sym same)
      (subst (λ (x : Slot). SlotStands now b.media.generation x) (sym current) (on b.media.generation b.current b.current refl refl h.current));
} where
  by : (at : ℕ) (x : Slot) → ((at ≡ place) × (x ≡ t)) ⊎ ((at ≡ place → ⊥) × (slice_get b.older at ≡ Some x)) → SlotStands now (at + 1) x
  by at x (inl k) = subst (λ (n : ℕ). SlotStands now (n + 1) x) (sym k.0)
      (subst (λ (y : Slot). SlotStands now (place + 1) y) (sym k.1) (on (place + 1) s t live state (h.older place s there)))
  by at x (inr k) = on (at + 1) x x refl refl (h.older at x k.1)

-- the same said of other groups
stands_as : (was now : List Group) → ((h : ℕ) → has_ended h now ≡ has_ended h was) → ((h : ℕ) → may_have_failed h now ≡ may_have_failed h was) → StandsOn was now
stands_as was now ended failed h s t live state k = record {
  live = λ alive. ended h ∙ k.live (sym live ∙ alive);
  failed = λ fails. failed h ∙ k.failed (sym (ap (λ (d : DriverState). d.failed) state) ∙ fails);
}

hangs_as : (was now : List Group) (g : ℕ) (b a : Disks) → StandsOn was now → Hangs g b a → AllSlots (SlotStands was) b → AllSlots (SlotStands now) a
hangs_as was now g b _ on (NoneHangs none) h = older_as_was was now b b on refl refl refl refl h
hangs_as was now g b _ on (CurrentHangs is) h = older_as_was was now b _ on refl refl refl refl h
hangs_as was now g b _ on (OlderHangs at s older) h = one_as_was was now b _ at s _ on older.there refl refl refl refl refl h

again_as : (was now : List Group) (g : ℕ) (r : BlockRequest) (b a : Disks) → StandsOn was now → LinesUpAgain g r b a → AllSlots (SlotStands was) b
    → AllSlots (SlotStands now) a
again_as was now g r b _ on (NoneLinesUp none) h = older_as_was was now b b on refl refl refl refl h
again_as was now g r b _ on (CurrentLinesUp is live few) h = older_as_was was now b _ on refl refl refl refl h
again_as was now g r b _ on (OlderLinesUp at s older live few) h = one_as_was was now b _ at s _ on older.there refl refl refl refl refl h

repeats_as : (was now : List Group) (p : Option Post) (b a : Disks) → StandsOn was now → Repeats p b a → AllSlots (SlotStands was) b → AllSlots (SlotStands now) a
repeats_as was now None b a on is h = subst (λ (d : Disks). AllSlots (SlotStands now) d) (sym is) (older_as_was was now b b on refl refl refl refl h)
repeats_as was now (Some p) b a on again h = again_as was now p.to.generation p.request b a on again h

lines_as : (was now : List Group) (to : Endpoint) (r : BlockRequest) (b a : Disks) (result : Result (Unit {0}) LinkRefusal) → StandsOn was now → LinesUp to r b result a
    → AllSlots (SlotStands was) b → AllSlots (SlotStands now) a
lines_as was now to r b _ _ on (NoneIsThere none) h = older_as_was was now b b on refl refl refl refl h
lines_as was now to r b _ _ on (LineIsFull there full) h = older_as_was was now b b on refl refl refl refl h
lines_as was now to r b _ _ on (IsLinedUp there few) h = older_as_was was now b _ on refl refl refl refl h

none_and : (a r : Bool) → ((a && false) || r) ≡ r
none_and true r = refl
none_and false r = refl

not_this : (g h : ℕ) (x r : Bool) → (h ≡ g → ⊥) → (((g == h) && x) || r) ≡ r
not_this g h x r other = ap (λ (b : Bool). (b && x) || r) (other_number g h (λ e. other (sym e)))

dead_is_other : (h g : ℕ) (s : Slot) → (h ≡ g → s.live ≡ false) → s.live ≡ true → h ≡ g → ⊥
dead_is_other h g s dead alive e = clash (sym (dead e) ∙ alive) where
  clash : ◌≡◌ {A = Bool} false true → ⊥
  clash is = cc

-- a step that isn't a failure
stands_well : (g h : ℕ) (groups : List Group) (s t : Slot) → NoMore s t → SlotStands groups h s → SlotStands ((event.Step g, []) ∷ groups) h t
stands_well g h groups s t more k = record {
  live = λ alive. none_and (g == h) (has_ended h groups) ∙ k.live (more.0 alive);
  failed = λ fails. or_right ((g == h) && is_live h groups && (has_exit [] || not (driver_runs h groups))) (may_have_failed h groups) (k.failed (more.1 fails));
}

-- a failure, and a death: of other drivers
stands_by_step : (g : ℕ) (marks : List Mark) (groups : List Group) (h : ℕ) (s : Slot) → (h ≡ g → s.live ≡ false) → SlotStands groups h s
    → SlotStands ((event.Step g, marks) ∷ groups) h s
stands_by_step g marks groups h s dead k = record {
  live = λ alive. not_this g h (has_exit marks) (has_ended h groups) (dead_is_other h g s dead alive) ∙ k.live alive;
  failed = λ fails. or_right ((g == h) && is_live h groups && (has_exit marks || not (driver_runs h groups))) (may_have_failed h groups) (k.failed fails);
}

stands_by_death : (g : ℕ) (bytes : Option (List ℕ)) (marks : List Mark) (groups : List Group) (h : ℕ) (s : Slot) → (h ≡ g → s.live ≡ false) → SlotStands groups h s
    → SlotStands ((event.Die g bytes, marks) ∷ groups) h s
stands_by_death g bytes marks groups h s dead k = record {
  live = λ alive. not_this g h (has_started h groups) (has_ended h groups) (dead_is_other h g s dead alive) ∙ k.live alive;
  failed = λ fails. k.failed fails;
}

dead_stands : (groups : List Group) (h : ℕ) (t : Slot) → t.live ≡ false → (t.state.failed ≡ true → may_have_failed h groups ≡ true) → SlotStands groups h t
dead_stands groups h t dead failed = record { live = λ alive. absurd (clash (sym dead ∙ alive)); failed = failed } where
  clash : ◌≡◌ {A = Bool} false true → ⊥
  clash is = cc

-- the driver that failed now
exit_or_not : (drivers g : ℕ) (groups : List Group) (c : Core) (ends : Option Bool) (after : Watch) → FollowsGroups drivers groups c
    → AtReport c.policy c.watch (driver g) c.tick ends after → (has_exit (exit_marks ends (driver g)) || not (driver_runs g groups)) ≡ true
exit_or_not drivers g groups c _ _ h (OfNone other) =
    ap (λ (b : Bool). false || not b) (runs_not drivers g groups c h (λ last count is. not_reported c g last count other is))
exit_or_not drivers g groups c _ _ h (OfRunning last count true after is at fault) = refl
exit_or_not drivers g groups c _ _ h (OfRunning last count false after is at fault) = refl

fails_here : (drivers place g : ℕ) (b a : Disks) (result : Option Step) (groups : List Group) (c : Core) → FollowsGroups drivers groups c → c.disks ≡ b
    → Steps place g b result a → result ≡ Some Failed → has_started g groups ≡ true
fails_here drivers place g b _ _ groups c h at (NoStep none) is = cc
fails_here drivers place g b _ _ groups c h at (CurrentSteps step a m own live s) is =
    let last : c.disks.media.generation ≡ b.media.generation = ap (λ (d : Disks). d.media.generation) at in
    let low : nat_lt 0 g ≡ true = grind (arith, nat_tests, h.some, h.latest, last, own) in
    let high : nat_le g (generation (marks_of groups)) ≡ true = grind (arith, nat_tests, h.started_is, h.latest, last, own) in
    ap (λ (t : Bool). t && nat_le g (generation (marks_of groups))) low ∙ high
fails_here drivers place g b _ _ groups c h at (OlderSteps n was a step m older live s) is =
    let last : c.disks.media.generation ≡ b.media.generation = ap (λ (d : Disks). d.media.generation) at in
    let low : nat_lt 0 g ≡ true = grind (arith, nat_tests, older.number) in
    let high : nat_le g (generation (marks_of groups)) ≡ true = grind (arith, nat_tests, h.started_is, h.latest, last, older.older) in
    ap (λ (t : Bool). t && nat_le g (generation (marks_of groups))) low ∙ high

failed_stands : (g : ℕ) (marks : List Mark) (groups : List Group) (s t : Slot) → has_started g groups ≡ true → (has_exit marks || not (driver_runs g groups)) ≡ true
    → NowFailed s t → SlotStands groups g s → SlotStands ((event.Step g, marks) ∷ groups) g t
failed_stands g marks groups s t some shown failed k = dead_stands ((event.Step g, marks) ∷ groups) g t failed.0 (λ fails.
    ap (λ (b : Bool). (b && (has_started g groups && not (has_ended g groups)) && (has_exit marks || not (driver_runs g groups))) || may_have_failed g groups) (same_number g)
    ∙ ap (λ (b : Bool). (true && (b && not (has_ended g groups)) && (has_exit marks || not (driver_runs g groups))) || may_have_failed g groups) some
    ∙ ap (λ (b : Bool). (true && (true && not b) && (has_exit marks || not (driver_runs g groups))) || may_have_failed g groups) (k.live failed.1)
    ∙ ap (λ (b : Bool). (true && (true && not false) && b) || may_have_failed g groups) shown)

started_stands : (marks : List Mark) (groups : List Group) (g : ℕ) (d : DriverState) (b : Disks) → length b.older + 1 ≡ b.media.generation
    → g ≡ b.media.generation + 1 → has_ended g groups ≡ false → d.failed ≡ false → AllSlots (SlotStands groups) b
    → AllSlots (SlotStands ((event.Tick, marks) ∷ groups)) (started g d b)
started_stands marks groups g d b number next none fresh h = record {
  older = λ at s there. by at s (push_get b.older at b.current s there);
  current = subst (λ (n : ℕ). SlotStands ((event.Tick, marks) ∷ groups) n (record { state = d; live = true; hung = false; line = [] })) (greater b.media.generation g next)
      (record { live = λ alive. none; failed = λ fails. absurd (clash (sym fresh ∙ fails)) });
} where
  clash : ◌≡◌ {A = Bool} false true → ⊥
  clash is = cc

  greater : (m n : ℕ) → n ≡ m + 1 → n ≡ max m n
  greater m n is = omega (arith, is)

  moved : (h : ℕ) (s : Slot) → SlotStands groups h s → SlotStands ((event.Tick, marks) ∷ groups) h s
  moved h s k = record { live = k.live; failed = k.failed }

  by : (at : ℕ) (s : Slot) → (slice_get b.older at ≡ Some s) ⊎ ((at ≡ length b.older) × (Some b.current ≡ Some s)) → SlotStands ((event.Tick, marks) ∷ groups) (at + 1) s
  by at s (inl there) = moved (at + 1) s (h.older at s there)
  by at s (inr k) =
      let same : b.media.generation ≡ at + 1 = sym number ∙ ap (λ (n : ℕ). n + 1) (sym k.0) in
      subst (λ (n : ℕ). SlotStands ((event.Tick, marks) ∷ groups) n s) same
      (subst (λ (x : Slot). SlotStands ((event.Tick, marks) ∷ groups) b.media.generation x) (same_slot b.current s k.1) (moved b.media.generation b.current h.current))

-- a driver that wasn't started hasn't ended
tick_unstarted : (groups : List Group) (c a : Core) (marks : List Mark) → TicksTo (beaten_core c) marks a
    → ((h : ℕ) → c.watch.generation < h → has_ended h groups ≡ false) → (h : ℕ) → a.watch.generation < h → has_ended h groups ≡ false
tick_unstarted groups c _ _ (Beats last count is same) k h low = k h low
tick_unstarted groups c _ _ (MissesOne last count is same few) k h low = k h low
tick_unstarted groups c _ _ (FoundHung last count ends after is same enough fault) k h low =
    k h (let e : after.generation ≡ c.watch.generation = same_generation c.policy c.watch (c.tick + 1) ends after fault in omega (arith, e, low))
tick_unstarted groups c _ _ (WaitsOn until is early) k h low = k h low
tick_unstarted groups c _ _ (StartsNext until d rest is come spare) k h low = k h (below c.watch.generation h low) where
  below : (n m : ℕ) → n + 1 < m → n < m
  below n m low = omega (arith, low)
tick_unstarted groups c _ _ (IsOver is) k h low = k h low

exit_unstarted : (drivers g h : ℕ) (groups : List Group) (c : Core) (ends : Option Bool) (after : Watch) → AtReport c.policy c.watch (driver g) c.tick ends after
    → c.watch.generation < h → ((g == h) && has_exit (exit_marks ends (driver g))) ≡ false
exit_unstarted drivers g h groups c _ _ (OfNone other) low = and_none (g == h) where
  and_none : (b : Bool) → (b && false) ≡ false
  and_none true = refl
  and_none false = refl
exit_unstarted drivers g h groups c _ _ (OfRunning last count ends after is at fault) low =
    ap (λ (b : Bool). b && has_exit (fault_marks ends (driver g) Exit)) (other_number g h (λ same. above g c.watch.generation h (ap (λ (e : Endpoint). e.generation) at) same low)) where
      above : (x y z : ℕ) → x ≡ y → x ≡ z → y < z → ⊥
      above x y z a b l = omega (arith, a, b, l)

died_unstarted : (drivers g h : ℕ) (groups : List Group) (c : Core) → FollowsGroups drivers groups c → c.watch.generation < h
    → (((g == h) && has_started h groups) || has_ended h groups) ≡ has_ended h groups
died_unstarted drivers g h groups c f low =
    let none : nat_le h (generation (marks_of groups)) ≡ false = grind (arith, nat_tests, f.started_is, low) in
    ap (λ (b : Bool). ((g == h) && (nat_lt 0 h && b)) || has_ended h groups) none ∙ by (g == h) (nat_lt 0 h) where
      by : (a b : Bool) → ((a && (b && false)) || has_ended h groups) ≡ has_ended h groups
      by true true = refl
      by true false = refl
      by false b = refl

after_generation : (policy : Policy) (w : Watch) (e : Endpoint) (tick : ℕ) (ends : Option Bool) (after : Watch) → AtReport policy w e tick ends after
    → after.generation ≡ w.generation
after_generation policy w e tick _ _ (OfNone other) = refl
after_generation policy w e tick _ _ (OfRunning last count ends after is at fault) = same_generation policy w tick ends after fault

begins_unstarted : (drivers place : ℕ) (groups : List Group) (c a : Core) (event : Event) (marks : List Mark) → FollowsGroups drivers groups c
    → Begins place groups c event marks a → ((h : ℕ) → c.watch.generation < h → has_ended h groups ≡ false)
    → (h : ℕ) → a.watch.generation < h → has_ended h ((event, marks) ∷ groups) ≡ false
begins_unstarted drivers place groups c _ _ _ f (Arrives who now call) k h low = k h low
begins_unstarted drivers place groups c _ _ _ f Flushes k h low = k h low
begins_unstarted drivers place groups c _ _ _ f (Answers n s there counts) k h low = k h low
begins_unstarted drivers place groups c _ _ _ f (Drops n s there counts) k h low = k h low
begins_unstarted drivers place groups c _ _ _ f (Delivers n there) k h low = k h low
begins_unstarted drivers place groups c _ _ _ f (LinesAgain n p d same again) k h low = k h low
begins_unstarted drivers place groups c _ _ _ f (HangsOne g d hangs) k h low = k h low
begins_unstarted drivers place groups c _ _ _ f (StepsOne g step d steps well) k h low = none_and (g == h) (has_ended h groups) ∙ k h low
begins_unstarted drivers place groups c _ _ _ f (FailsOne g d ends after steps report) k h low =
    let e : after.generation ≡ c.watch.generation = after_generation c.policy c.watch (driver g) c.tick ends after report in
    let lower : c.watch.generation < h = omega (arith, e, low) in
    ap (λ (b : Bool). b || has_ended h groups) (exit_unstarted drivers g h groups c ends after report lower) ∙ k h lower
begins_unstarted drivers place groups c _ _ _ f (DiesNone g bytes d dies) k h low = died_unstarted drivers g h groups c f low ∙ k h low
begins_unstarted drivers place groups c _ _ _ f (DiesOne g bytes d ends after dies report) k h low =
    let e : after.generation ≡ c.watch.generation = after_generation c.policy c.watch (driver g) c.tick ends after report in
    let lower : c.watch.generation < h = omega (arith, e, low) in
    died_unstarted drivers g h groups c f lower ∙ k h lower
begins_unstarted drivers place groups c a _ marks f (Ticks _ _ ticks) k h low = tick_unstarted groups c a marks ticks k h low

-- what is done within an event changes nothing of it
exit_same : (c a : Core) (marks group : List Mark) → Adds c marks a → has_exit (marks ++ group) ≡ has_exit group
exit_same c _ _ group AddsNothing = refl
exit_same c _ _ group (Posts r to d lines) = refl
exit_same c _ _ group (Replies who now call answer) = refl
exit_same c _ _ group (Complains about None after report) = refl
exit_same c _ _ group (Complains about (Some ends) after report) = refl
exit_same c _ _ group (Pays owed) = refl

ended_same : (h : ℕ) (e : Event) (group more : List Mark) (earlier : List Group) → has_exit more ≡ has_exit group
    → has_ended h ((e, more) ∷ earlier) ≡ has_ended h ((e, group) ∷ earlier)
ended_same h (event.Step g) group more earlier same = ap (λ (b : Bool). ((g == h) && b) || has_ended h earlier) same
ended_same h (event.Die g bytes) group more earlier same = refl
ended_same h (event.Arrive who now call) group more earlier same = refl
ended_same h event.Flush group more earlier same = refl
ended_same h event.Tick group more earlier same = refl
ended_same h (event.Hang g) group more earlier same = refl
ended_same h (event.Deliver n) group more earlier same = refl
ended_same h (event.Repeat n) group more earlier same = refl

failed_same : (h : ℕ) (e : Event) (group more : List Mark) (earlier : List Group) → has_exit more ≡ has_exit group
    → may_have_failed h ((e, more) ∷ earlier) ≡ may_have_failed h ((e, group) ∷ earlier)
failed_same h (event.Step g) group more earlier same =
    ap (λ (b : Bool). ((g == h) && is_live h earlier && (b || not (driver_runs h earlier))) || may_have_failed h earlier) same
failed_same h (event.Die g bytes) group more earlier same = refl
failed_same h (event.Arrive who now call) group more earlier same = refl
failed_same h event.Flush group more earlier same = refl
failed_same h event.Tick group more earlier same = refl
failed_same h (event.Hang g) group more earlier same = refl
failed_same h (event.Deliver n) group more earlier same = refl
failed_same h (event.Repeat n) group more earlier same = refl

quietly : (groups : List Group) (e : Event) (marks : List Mark) (d : Disks) → ((h : ℕ) → has_ended h ((e, marks) ∷ groups) ≡ has_ended h groups)
    → ((h : ℕ) → may_have_failed h ((e, marks) ∷ groups) ≡ may_have_failed h groups) → AllSlots (SlotStands groups) d → AllSlots (SlotStands ((e, marks) ∷ groups)) d
quietly groups e marks d ended failed h =
    older_as_was groups ((e, marks) ∷ groups) d d (stands_as groups ((e, marks) ∷ groups) ended failed) refl refl refl refl h

tick_slots : (drivers : ℕ) (groups : List Group) (c a : Core) (marks : List Mark) → FollowsGroups drivers groups c → TicksTo (beaten_core c) marks a
    → length c.disks.older + 1 ≡ c.disks.media.generation → Each (λ d. d.failed ≡ false) c.supply
    → ((h : ℕ) → c.watch.generation < h → has_ended h groups ≡ false) → AllSlots (SlotStands groups) c.disks
    → AllSlots (SlotStands ((event.Tick, marks) ∷ groups)) a.disks
tick_slots drivers groups c _ _ f (Beats last count is same) number fresh k h = quietly groups event.Tick [] c.disks (λ n. refl) (λ n. refl) h
tick_slots drivers groups c _ _ f (MissesOne last count is same few) number fresh k h = quietly groups event.Tick [] c.disks (λ n. refl) (λ n. refl) h
tick_slots drivers groups c _ marks f (FoundHung last count ends after is same enough fault) number fresh k h = quietly groups event.Tick _ c.disks (λ n. refl) (λ n. refl) h
tick_slots drivers groups c _ _ f (WaitsOn until is early) number fresh k h = quietly groups event.Tick [] c.disks (λ n. refl) (λ n. refl) h
tick_slots drivers groups c _ _ f (StartsNext until d rest is come spare) number fresh k h =
    started_stands _ groups (c.watch.generation + 1) d c.disks number (ap (λ (n : ℕ). n + 1) (sym f.latest)) (k (c.watch.generation + 1) (omega arith))
    (subst (λ (l : List DriverState). Each (λ x. x.failed ≡ false) l) spare fresh).0 h
tick_slots drivers groups c _ _ f (IsOver is) number fresh k h = quietly groups event.Tick [] c.disks (λ n. refl) (λ n. refl) h

begins_slots : (drivers place : ℕ) (groups : List Group) (c a : Core) (event : Event) (marks : List Mark) → FollowsGroups drivers groups c
    → Begins place groups c event marks a → length c.disks.older + 1 ≡ c.disks.media.generation → Each (λ d. d.failed ≡ false) c.supply
    → ((h : ℕ) → c.watch.generation < h → has_ended h groups ≡ false) → AllSlots (SlotStands groups) c.disks
    → AllSlots (SlotStands ((event, marks) ∷ groups)) a.disks
begins_slots drivers place groups c _ _ _ f (Arrives who now call) number fresh k h = quietly groups _ [] c.disks (λ n. refl) (λ n. refl) h
begins_slots drivers place groups c _ _ _ f Flushes number fresh k h = quietly groups _ _ c.disks (λ n. refl) (λ n. refl) h
begins_slots drivers place groups c _ _ _ f (Answers n s there counts) number fresh k h = quietly groups _ _ c.disks (λ n. refl) (λ n. refl) h
begins_slots drivers place groups c _ _ _ f (Drops n s there counts) number fresh k h = quietly groups _ [] c.disks (λ n. refl) (λ n. refl) h
begins_slots drivers place groups c _ _ _ f (Delivers n there) number fresh k h = quietly groups _ [] c.disks (λ n. refl) (λ n. refl) h
begins_slots drivers place groups c _ _ _ f (LinesAgain n p d same again) number fresh k h =
    repeats_as groups _ p c.disks d (stands_as groups _ (λ x. refl) (λ x. refl)) again h
begins_slots drivers place groups c _ _ _ f (HangsOne g d hangs) number fresh k h =
    hangs_as groups _ g c.disks d (stands_as groups _ (λ x. refl) (λ x. refl)) hangs h
begins_slots drivers place groups c _ _ _ f (StepsOne g step d steps well) number fresh k h =
    all_changed (SlotStands groups) (SlotStands ((event.Step g, []) ∷ groups)) NoMore g
    (λ x s dead stands. stands_well g x groups s s (λ alive. alive, λ fails. fails) stands)
    (λ s t more stands. stands_well g g groups s t more stands) c.disks d number (well_changed place g c.disks d step steps well) h
begins_slots drivers place groups c _ _ _ f (FailsOne g d ends after steps report) number fresh k h =
    all_changed (SlotStands groups) (SlotStands ((event.Step g, exit_marks ends (driver g)) ∷ groups)) NowFailed g
    (λ x s dead stands. stands_by_step g (exit_marks ends (driver g)) groups x s dead stands)
    (λ s t failed stands. failed_stands g (exit_marks ends (driver g)) groups s t
    (fails_here drivers place g c.disks d (Some Failed) groups c f refl steps refl) (exit_or_not drivers g groups c ends after f report) failed stands)
    c.disks d number (failed_changed place g c.disks d (Some Failed) steps refl) h
begins_slots drivers place groups c _ _ _ f (DiesNone g bytes d dies) number fresh k h =
    all_changed (SlotStands groups) (SlotStands ((event.Die g bytes, []) ∷ groups)) NowDead g
    (λ x s dead stands. stands_by_death g bytes [] groups x s dead stands)
    (λ s t died stands. dead_stands ((event.Die g bytes, []) ∷ groups) g t died.0 (λ fails. stands.failed (sym (ap (λ (y : DriverState). y.failed) died.1) ∙ fails)))
    c.disks d number (dies_changed g bytes c.disks d false dies) h
begins_slots drivers place groups c _ _ _ f (DiesOne g bytes d ends after dies report) number fresh k h =
    all_changed (SlotStands groups) (SlotStands ((event.Die g bytes, exit_marks ends (driver g)) ∷ groups)) NowDead g
    (λ x s dead stands. stands_by_death g bytes (exit_marks ends (driver g)) groups x s dead stands)
    (λ s t died stands. dead_stands ((event.Die g bytes, exit_marks ends (driver g)) ∷ groups) g t died.0
    (λ fails. stands.failed (sym (ap (λ (y : DriverState). y.failed) died.1) ∙ fails)))
    c.disks d number (dies_changed g bytes c.disks d true dies) h
begins_slots drivers place groups c a _ marks f (Ticks _ _ ticks) number fresh k h = tick_slots drivers groups c a marks f ticks number fresh k h

adds_slots : (was now : List Group) (c a : Core) (marks : List Mark) → Adds c marks a → StandsOn was now → AllSlots (SlotStands was) c.disks
    → AllSlots (SlotStands now) a.disks
adds_slots was now c _ _ AddsNothing on h = older_as_was was now c.disks c.disks on refl refl refl refl h
adds_slots was now c _ _ (Posts r to d lines) on h = lines_as was now to r c.disks d (Ok tt) on lines h
adds_slots was now c _ _ (Replies who now_is call answer) on h = older_as_was was now c.disks c.disks on refl refl refl refl h
adds_slots was now c _ _ (Complains about ends after report) on h = older_as_was was now c.disks c.disks on refl refl refl refl h
adds_slots was now c _ _ (Pays owed) on h = older_as_was was now c.disks c.disks on refl refl refl refl h

adds_generation : (c a : Core) (marks : List Mark) → Adds c marks a → a.watch.generation ≡ c.watch.generation
adds_generation c _ _ AddsNothing = refl
adds_generation c _ _ (Posts r to d lines) = refl
adds_generation c _ _ (Replies who now call answer) = refl
adds_generation c _ _ (Complains about ends after report) = after_generation c.policy c.watch about c.tick ends after report
adds_generation c _ _ (Pays owed) = refl

pub slots_kept : (drivers : ℕ) → IsKept (SlotsSoFar drivers)
slots_kept drivers = record {
  begins = λ place groups c a event marks paid begins h.
      let w : Went c.disks a.disks = begins_went drivers place groups c a event marks h.follows begins in
      let g : GoOn c a = goes_begins drivers place groups c a event marks h.follows begins in
      record {
        follows = follows_begins drivers place groups c a event marks h.follows begins;
        numbered = w.numbered h.numbered;
        fresh = g.fresh h.fresh;
        slots = begins_slots drivers place groups c a event marks h.follows begins h.numbered h.fresh h.unstarted h.slots;
        unstarted = begins_unstarted drivers place groups c a event marks h.follows begins h.unstarted;
      };
  adds = λ place event group earlier c a marks adds h.
      let w : Went c.disks a.disks = adds_went c a marks adds in
      let g : GoOn c a = goes_adds c a marks adds in
      let same : has_exit (marks ++ group) ≡ has_exit group = exit_same c a marks group adds in
      let on : StandsOn ((event, group) ∷ earlier) ((event, marks ++ group) ∷ earlier) =
      stands_as ((event, group) ∷ earlier) ((event, marks ++ group) ∷ earlier) (λ n. ended_same n event group (marks ++ group) earlier same)
      (λ n. failed_same n event group (marks ++ group) earlier same) in
      record {
        follows = follows_adds drivers event group earlier c a marks h.follows adds;
        numbered = w.numbered h.numbered;
        fresh = g.fresh h.fresh;
        slots = adds_slots ((event, group) ∷ earlier) ((event, marks ++ group) ∷ earlier) c a marks adds on h.slots;
        unstarted = λ n low. ended_same n event group (marks ++ group) earlier same
            ∙ h.unstarted n (subst (λ (k : ℕ). k < n) (adds_generation c a marks adds) low);
      };
}
