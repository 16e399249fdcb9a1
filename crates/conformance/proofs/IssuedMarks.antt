-- Which requests marks issue, and that none is issued to a driver twice.
use Rattle.std.proofs.Common.{◌≡◌, ℕ, ◌+◌, ◌<◌, ◌≤◌, List, [], ◌∷◌, ◌++◌, Bool, true, false, refl, sym, ◌∙◌, ap, subst, arith}
use Rattle.std.proofs.lemmas.Bool.Decides.{nat_tests}
use Rattle.std.specs.Prelude.{◌&&◌, ◌||◌, ◌==◌, nat_lt, max, not, Option, Some, None, Result, Ok}
use Rattle.lemmas.proofs.Bools.{and_left, and_right, or_neither, or_right}
use Rattle.message.specs.declared.endpoint.Endpoint.{Endpoint}
use Rattle.message.specs.declared.BlockRequest.{BlockRequest}
use Rattle.reincarnate.specs.declared.policy.Policy.{Policy}
use Rattle.reincarnate.specs.Watch.{Watch, driver}
use Rattle.records.specs.Marks.{Mark, Started, Answered, Flush, GaveUp, Took, Issued, Fault, gave_up}
use Rattle.records.specs.Open.{greatest}
use Rattle.records.specs.declared.marks.Cause.{Cause}
use Rattle.records.specs.declared.marks.Cause.TheVariants.{Exit, Hung}
use Rattle.schedule.specs.declared.Event.{Event}
use Rattle.schedule.specs.Groups.{Group, marks_of, EachGroup}
use Rattle.schedule.specs.Drivers.{is_live, is_issued_to}
use Rattle.schedule.specs.Starts.{is_among_first, may_issue, are_issued_in_place}
use Rattle.reissue.specs.declared.link.LinkRefusal.{LinkRefusal}
use Rattle.simulated_link.specs.Disks.{Disks, LinesUp, NoneIsThere, LineIsFull, IsLinedUp}
use Rattle.conformance.specs.Core.{Core}
use Rattle.conformance.specs.Happens.{AtReport, OfNone, OfRunning, fault_marks, exit_marks, blame_marks, beaten_core, TicksTo, Beats, MissesOne, FoundHung, WaitsOn, StartsNext, IsOver, Begins, Arrives, Flushes, Answers, Drops, Delivers, LinesAgain, HangsOne, StepsOne, FailsOne, DiesNone, DiesOne, Ticks, Adds, AddsNothing, Posts, Replies, Complains, Pays}
use Rattle.conformance.proofs.FollowLaws.{same_generation, same_number}
use Rattle.conformance.specs.Said.{PlacedAsDue}

-- these marks issue nothing
abbrev pub IssueNone : List Mark → Type 0
IssueNone marks = (g id : ℕ) → is_issued_to g id marks ≡ false

-- whether they issue this to this driver
abbrev pub is_this : ℕ → ℕ → BlockRequest → Endpoint → Bool
is_this g id r e = (e.slot == 1) && (e.generation == g) && (r.id == id)

either_first : (a b c : Bool) → (a || (b || c)) ≡ ((a || b) || c)
either_first true b c = refl
either_first false b c = refl

pub issued_append : (g id : ℕ) (marks old : List Mark) → is_issued_to g id (marks ++ old) ≡ (is_issued_to g id marks || is_issued_to g id old)
issued_append g id [] old = refl
issued_append g id (Started e ∷ marks) old = issued_append g id marks old
issued_append g id (Answered a ∷ marks) old = issued_append g id marks old
issued_append g id (Flush ∷ marks) old = issued_append g id marks old
issued_append g id (GaveUp ∷ marks) old = issued_append g id marks old
issued_append g id (Took who now call answer ∷ marks) old = issued_append g id marks old
issued_append g id (Issued r e ∷ marks) old =
    ap (λ (b : Bool). is_this g id r e || b) (issued_append g id marks old)
    ∙ either_first (is_this g id r e) (is_issued_to g id marks) (is_issued_to g id old)
issued_append g id (Fault e cause ∷ marks) old = issued_append g id marks old

-- what was issued stays so
pub still_issued : (g id : ℕ) (marks old : List Mark) → is_issued_to g id old ≡ true → is_issued_to g id (marks ++ old) ≡ true
still_issued g id marks old is = issued_append g id marks old ∙ or_right (is_issued_to g id marks) (is_issued_to g id old) is

-- nor is anything issued by marks that issue nothing
pub none_more_issued : (g id : ℕ) (marks old : List Mark) → is_issued_to g id marks ≡ false → is_issued_to g id (marks ++ old) ≡ is_issued_to g id old
none_more_issued g id marks old none = issued_append g id marks old ∙ ap (λ (b : Bool). b || is_issued_to g id old) none

fault_issues : (ends : Bool) (e : Endpoint) (cause : Cause) → IssueNone (fault_marks ends e cause)
fault_issues true e cause g id = refl
fault_issues false e cause g id = refl

exit_issues : (ends : Option Bool) (e : Endpoint) → IssueNone (exit_marks ends e)
exit_issues None e g id = refl
exit_issues (Some ends) e g id = fault_issues ends e Exit g id

tick_issues : (c a : Core) (marks : List Mark) → TicksTo c marks a → IssueNone marks
tick_issues c _ _ (Beats last count is same) g id = refl
tick_issues c _ _ (MissesOne last count is same few) g id = refl
tick_issues c _ _ (FoundHung last count ends after is same enough fault) g id = fault_issues ends (driver c.disks.media.generation) Hung g id
tick_issues c _ _ (WaitsOn until is early) g id = refl
tick_issues c _ _ (StartsNext until d rest is come spare) g id = refl
tick_issues c _ _ (IsOver is) g id = refl

-- the marks of an event issue nothing
pub begins_issues : (place : ℕ) (groups : List Group) (c a : Core) (event : Event) (marks : List Mark) → Begins place groups c event marks a → IssueNone marks
begins_issues place groups c _ _ _ (Arrives who now call) g id = refl
begins_issues place groups c _ _ _ Flushes g id = refl
begins_issues place groups c _ _ _ (Answers n s there counts) g id = refl
begins_issues place groups c _ _ _ (Drops n s there counts) g id = refl
begins_issues place groups c _ _ _ (Delivers n there) g id = refl
begins_issues place groups c _ _ _ (LinesAgain n p d same again) g id = refl
begins_issues place groups c _ _ _ (HangsOne h d hangs) g id = refl
begins_issues place groups c _ _ _ (StepsOne h step d steps well) g id = refl
begins_issues place groups c _ _ _ (FailsOne h d ends after steps report) g id = exit_issues ends (driver h) g id
begins_issues place groups c _ _ _ (DiesNone h bytes d dies) g id = refl
begins_issues place groups c _ _ _ (DiesOne h bytes d ends after dies report) g id = exit_issues ends (driver h) g id
begins_issues place groups c a _ marks (Ticks _ _ ticks) g id = tick_issues (beaten_core c) a marks ticks g id

-- before the last start nothing was issued to driver g
abbrev pub StartsNew : ℕ → List Mark → Type 0
StartsNew g [] = Unit {0}
StartsNew g (Started e ∷ marks) = (id : ℕ) → is_issued_to g id marks ≡ false
StartsNew g (_ ∷ marks) = StartsNew g marks

-- nothing was issued to drivers after the n-th
abbrev pub NoneYet : ℕ → List Mark → Type 0
NoneYet n marks = (g id : ℕ) → n < g → is_issued_to g id marks ≡ false

-- both of these, of the driver that was started last
pub record IssuesStand (n : ℕ) (marks : List Mark) : Type 0 where
  pub new : StartsNew n marks
  pub yet : NoneYet n marks

report_generation : (policy : Policy) (w : Watch) (e : Endpoint) (tick : ℕ) (ends : Option Bool) (after : Watch) → AtReport policy w e tick ends after
    → after.generation ≡ w.generation
report_generation policy w e tick _ _ (OfNone other) = refl
report_generation policy w e tick _ _ (OfRunning last count ends after is at fault) = same_generation policy w tick ends after fault

fault_stands : (n : ℕ) (marks : List Mark) (ends : Bool) (e : Endpoint) (cause : Cause) → IssuesStand n marks → IssuesStand n (fault_marks ends e cause ++ marks)
fault_stands n marks true e cause h = record { new = h.new; yet = h.yet }
fault_stands n marks false e cause h = record { new = h.new; yet = h.yet }

exit_stands : (n : ℕ) (marks : List Mark) (ends : Option Bool) (e : Endpoint) → IssuesStand n marks → IssuesStand n (exit_marks ends e ++ marks)
exit_stands n marks None e h = h
exit_stands n marks (Some ends) e h = fault_stands n marks ends e Exit h

tick_stands : (c a : Core) (marks old : List Mark) → TicksTo c marks a → IssuesStand c.watch.generation old → IssuesStand a.watch.generation (marks ++ old)
tick_stands c _ _ old (Beats last count is same) h = h
tick_stands c _ _ old (MissesOne last count is same few) h = h
tick_stands c _ _ old (FoundHung last count ends after is same enough fault) h =
    fault_stands after.generation old ends (driver c.disks.media.generation) Hung
    (subst (λ (n : ℕ). IssuesStand n old) (sym (same_generation c.policy c.watch c.tick ends after fault)) h)
tick_stands c _ _ old (WaitsOn until is early) h = h
tick_stands c _ _ old (StartsNext until d rest is come spare) h = record {
  new = λ id. h.yet (c.watch.generation + 1) id (omega arith);
  yet = λ g id low. h.yet g id (omega (arith, low));
}
tick_stands c _ _ old (IsOver is) h = h

-- each event keeps it
pub begins_stands : (place : ℕ) (groups : List Group) (c a : Core) (event : Event) (marks old : List Mark) → Begins place groups c event marks a
    → IssuesStand c.watch.generation old → IssuesStand a.watch.generation (marks ++ old)
begins_stands place groups c _ _ _ old (Arrives who now call) h = h
begins_stands place groups c _ _ _ old Flushes h = record { new = h.new; yet = h.yet }
begins_stands place groups c _ _ _ old (Answers n s there counts) h = record { new = h.new; yet = h.yet }
begins_stands place groups c _ _ _ old (Drops n s there counts) h = h
begins_stands place groups c _ _ _ old (Delivers n there) h = h
begins_stands place groups c _ _ _ old (LinesAgain n p d same again) h = h
begins_stands place groups c _ _ _ old (HangsOne g d hangs) h = h
begins_stands place groups c _ _ _ old (StepsOne g step d steps well) h = h
begins_stands place groups c _ _ _ old (FailsOne g d ends after steps report) h =
    exit_stands after.generation old ends (driver g)
    (subst (λ (n : ℕ). IssuesStand n old) (sym (report_generation c.policy c.watch (driver g) c.tick ends after report)) h)
begins_stands place groups c _ _ _ old (DiesNone g bytes d dies) h = h
begins_stands place groups c _ _ _ old (DiesOne g bytes d ends after dies report) h =
    exit_stands after.generation old ends (driver g)
    (subst (λ (n : ℕ). IssuesStand n old) (sym (report_generation c.policy c.watch (driver g) c.tick ends after report)) h)
begins_stands place groups c a _ marks old (Ticks _ _ ticks) h = tick_stands (beaten_core c) a marks old ticks h

blame_stands : (n : ℕ) (marks : List Mark) (ends : Option Bool) (e : Endpoint) → IssuesStand n marks → IssuesStand n (blame_marks ends e ++ marks)
blame_stands n marks None e h = h
blame_stands n marks (Some ends) e h = record { new = h.new; yet = h.yet }

-- a request to another driver is not to this one
pub other_driver : (g id : ℕ) (r : BlockRequest) (to : Endpoint) → (to.generation ≡ g → ⊥) → is_this g id r to ≡ false
other_driver g id r to other = let no : (to.generation == g) ≡ false = grind (arith, nat_tests, other) in
    ap (λ (b : Bool). (to.slot == 1) && b && (r.id == id)) no ∙ none (to.slot == 1) where
      none : (b : Bool) → (b && false && (r.id == id)) ≡ false
      none true = refl
      none false = refl

-- nor is one with another id
pub other_id : (g id : ℕ) (r : BlockRequest) (to : Endpoint) → (r.id ≡ id → ⊥) → is_this g id r to ≡ false
other_id g id r to other = let no : (r.id == id) ≡ false = grind (arith, nat_tests, other) in
    ap (λ (b : Bool). (to.slot == 1) && (to.generation == g) && b) no ∙ none (to.slot == 1) (to.generation == g) where
      none : (a b : Bool) → (a && b && false) ≡ false
      none true true = refl
      none true false = refl
      none false b = refl

-- a post that was accepted went to the driver that was started last
pub posted_there : (to : Endpoint) (r : BlockRequest) (b a : Disks) (result : Result (Unit {0}) LinkRefusal) → LinesUp to r b result a → result ≡ Ok tt
    → (to.slot ≡ 1) × (to.generation ≡ b.media.generation)
posted_there to r b _ _ (NoneIsThere none) is = cc
posted_there to r b _ _ (LineIsFull there full) is = cc
posted_there to r b _ _ (IsLinedUp there few) is =
    let both : ((to.slot == 1) && (to.generation == b.media.generation)) ≡ true = and_left ((to.slot == 1) && (to.generation == b.media.generation)) b.current.live there in
    let slot : (to.slot == 1) ≡ true = and_left (to.slot == 1) (to.generation == b.media.generation) both in
    let number : (to.generation == b.media.generation) ≡ true = and_right (to.slot == 1) (to.generation == b.media.generation) both in
    (grind (arith, nat_tests, slot), grind (arith, nat_tests, number))

-- what is done within an event keeps it
pub adds_stands : (c a : Core) (marks old : List Mark) → Adds c marks a → c.disks.media.generation ≡ c.watch.generation
    → IssuesStand c.watch.generation old → IssuesStand a.watch.generation (marks ++ old)
adds_stands c _ _ old AddsNothing last h = h
adds_stands c _ _ old (Posts r to d lines) last h = record {
  new = h.new;
  yet = λ g id low. or_neither (is_this g id r to) (is_issued_to g id old)
      (other_driver g id r to (λ same. below c.watch.generation c.disks.media.generation to.generation g last (posted_there to r c.disks d (Ok tt) lines refl).1 same low))
      (h.yet g id low);
} where
  below : (w x y z : ℕ) → x ≡ w → y ≡ x → y ≡ z → w < z → ⊥
  below w x y z k a b l = omega (arith, k, a, b, l)
adds_stands c _ _ old (Replies who now call answer) last h = record { new = h.new; yet = h.yet }
adds_stands c _ _ old (Complains about ends after report) last h =
    blame_stands after.generation old ends about
    (subst (λ (n : ℕ). IssuesStand n old) (sym (report_generation c.policy c.watch about c.tick ends after report)) h)
adds_stands c _ _ old (Pays owed) last h = record { new = h.new; yet = h.yet }

-- a request is new, or again among the first ones after a start
abbrev pub is_new_or_first : BlockRequest → List Mark → Bool
is_new_or_first r marks = nat_lt (greatest marks) r.id || is_among_first r.id marks

-- so it is of each request of a group
abbrev pub AreNewOrFirst : List Mark → List Mark → Type 0
AreNewOrFirst [] before = Unit {0}
AreNewOrFirst (Issued r to ∷ group) before = (is_new_or_first r (group ++ before) ≡ true) × AreNewOrFirst group before
AreNewOrFirst (_ ∷ group) before = AreNewOrFirst group before

abbrev pub AllNewOrFirst : List Group → Type 0
AllNewOrFirst groups = EachGroup (λ event group earlier. AreNewOrFirst group (marks_of earlier)) groups

-- what was so of more marks was so of fewer
pub fewer_new : (marks group before : List Mark) → AreNewOrFirst (marks ++ group) before → AreNewOrFirst group before
fewer_new [] group before h = h
fewer_new (Started e ∷ marks) group before h = fewer_new marks group before h
fewer_new (Answered a ∷ marks) group before h = fewer_new marks group before h
fewer_new (Flush ∷ marks) group before h = fewer_new marks group before h
fewer_new (GaveUp ∷ marks) group before h = fewer_new marks group before h
fewer_new (Took who now call answer ∷ marks) group before h = fewer_new marks group before h
fewer_new (Issued r e ∷ marks) group before h = fewer_new marks group before h.1
fewer_new (Fault e cause ∷ marks) group before h = fewer_new marks group before h

new_of_placed : (groups : List Group) (group before : List Mark) → are_issued_in_place groups group before ≡ true → AreNewOrFirst group before
new_of_placed groups [] before h = tt
new_of_placed groups (Started e ∷ group) before h = new_of_placed groups group before h
new_of_placed groups (Answered a ∷ group) before h = new_of_placed groups group before h
new_of_placed groups (Flush ∷ group) before h = new_of_placed groups group before h
new_of_placed groups (GaveUp ∷ group) before h = new_of_placed groups group before h
new_of_placed groups (Took who now call answer ∷ group) before h = new_of_placed groups group before h
new_of_placed groups (Issued r to ∷ group) before h =
    let may : may_issue groups r to (group ++ before) ≡ true = and_left (may_issue groups r to (group ++ before)) (are_issued_in_place groups group before) h in (
      and_right (is_live to.generation groups && not (gave_up (group ++ before))) (is_new_or_first r (group ++ before)) may,
      new_of_placed groups group before (and_right (may_issue groups r to (group ++ before)) (are_issued_in_place groups group before) h),
    )
new_of_placed groups (Fault e cause ∷ group) before h = new_of_placed groups group before h

pub all_new : (groups : List Group) → EachGroup PlacedAsDue groups → AllNewOrFirst groups
all_new [] h = tt
all_new ((event, group) ∷ earlier) h = (new_of_placed ((event, group) ∷ earlier) group (marks_of earlier) h.0, all_new earlier h.1)

-- no issued id is above the greatest
issued_below : (marks : List Mark) (g id : ℕ) → is_issued_to g id marks ≡ true → id ≤ greatest marks
issued_below [] g id h = cc
issued_below (Started e ∷ marks) g id h = issued_below marks g id h
issued_below (Answered a ∷ marks) g id h = issued_below marks g id h
issued_below (Flush ∷ marks) g id h = issued_below marks g id h
issued_below (GaveUp ∷ marks) g id h = issued_below marks g id h
issued_below (Took who now call reply ∷ marks) g id h = issued_below marks g id h
issued_below (Issued r e ∷ marks) g id h = by (e.slot == 1) (e.generation == g) (is_issued_to g id marks) (issued_below marks g id) h where
  by : (s d b : Bool) → (b ≡ true → id ≤ greatest marks) → ((s && d && (r.id == id)) || b) ≡ true → id ≤ max (greatest marks) r.id
  by s d true ih h = let less : id ≤ greatest marks = ih refl in omega (arith, less)
  by true true false ih h = let e : r.id ≡ id = grind (arith, nat_tests, h) in omega (arith, e)
  by true false false ih h = cc
  by false d false ih h = cc
issued_below (Fault e cause ∷ marks) g id h = issued_below marks g id h

-- among the first ones after a start no other had this id, or a greater one
first_not_issued : (marks : List Mark) (g k id : ℕ) → is_among_first k marks ≡ true → k ≤ id → StartsNew g marks → is_issued_to g id marks ≡ false
first_not_issued [] g k id first low new = cc
first_not_issued (Started e ∷ marks) g k id first low new = new id
first_not_issued (Answered a ∷ marks) g k id first low new = cc
first_not_issued (Flush ∷ marks) g k id first low new = cc
first_not_issued (GaveUp ∷ marks) g k id first low new = cc
first_not_issued (Took who now call reply ∷ marks) g k id first low new = cc
first_not_issued (Issued r e ∷ marks) g k id first low new =
    let less : nat_lt r.id k ≡ true = and_left (nat_lt r.id k) (is_among_first r.id marks) first in
    let lower : r.id < id = grind (arith, nat_tests, less, low) in
    or_neither (is_this g id r e) (is_issued_to g id marks) (other_id g id r e (λ same. omega (arith, lower, same)))
    (first_not_issued marks g r.id id (and_right (nat_lt r.id k) (is_among_first r.id marks) first) (omega (arith, lower)) new)
first_not_issued (Fault e cause ∷ marks) g k id first low new = cc

-- so such a request wasn't issued to this driver before
pub not_issued_yet : (marks : List Mark) (g : ℕ) (r : BlockRequest) → is_new_or_first r marks ≡ true → StartsNew g marks → is_issued_to g r.id marks ≡ false
not_issued_yet marks g r ok new = by (is_issued_to g r.id marks) refl where
  one : (a b : Bool) → a ≡ false → (a || b) ≡ true → b ≡ true
  one true b none h = cc
  one false b none h = h

  by : (b : Bool) → is_issued_to g r.id marks ≡ b → b ≡ false
  by false is = refl
  by true is =
      let low : r.id ≤ greatest marks = issued_below marks g r.id is in
      let no : nat_lt (greatest marks) r.id ≡ false = grind (arith, nat_tests, low) in
      sym is ∙ first_not_issued marks g r.id r.id (one (nat_lt (greatest marks) r.id) (is_among_first r.id marks) no ok) (omega arith) new

blame_issues : (ends : Option Bool) (e : Endpoint) → IssueNone (blame_marks ends e)
blame_issues None e g id = refl
blame_issues (Some ends) e g id = refl

-- a post issues nothing again
post_issues : (g id : ℕ) (r : BlockRequest) (to : Endpoint) (old : List Mark) → is_issued_to to.generation r.id old ≡ false → is_issued_to g id old ≡ true
    → is_issued_to g id (Issued r to ∷ []) ≡ false
post_issues g id r to old new was = or_neither (is_this g id r to) false (by (to.generation == g) (r.id == id) refl refl) refl where
  clash : ◌≡◌ {A = Bool} false true → ⊥
  clash is = cc

  by : (a b : Bool) → (to.generation == g) ≡ a → (r.id == id) ≡ b → is_this g id r to ≡ false
  by false b driver number = other_driver g id r to (λ same. clash (sym driver ∙ subst (λ (n : ℕ). (to.generation == n) ≡ true) same (same_number to.generation)))
  by true false driver number = other_id g id r to (λ same. clash (sym number ∙ subst (λ (n : ℕ). (r.id == n) ≡ true) same (same_number r.id)))
  by true true driver number =
      let same_driver : to.generation ≡ g = grind (arith, nat_tests, driver) in
      let same_id : r.id ≡ id = grind (arith, nat_tests, number) in
      absurd (clash (sym new ∙ (ap (λ (n : ℕ). is_issued_to n r.id old) same_driver ∙ ap (λ (n : ℕ). is_issued_to g n old) same_id) ∙ was))

-- what is done within an event issues nothing again
pub adds_issues : (c a : Core) (marks group old : List Mark) → Adds c marks a → c.disks.media.generation ≡ c.watch.generation → StartsNew c.watch.generation (group ++ old)
    → AreNewOrFirst (marks ++ group) old → (g id : ℕ) → is_issued_to g id (group ++ old) ≡ true → is_issued_to g id marks ≡ false
adds_issues c _ _ group old AddsNothing last new ok g id was = refl
adds_issues c _ _ group old (Posts r to d lines) last new ok g id was =
    let to_last : to.generation ≡ c.watch.generation = (posted_there to r c.disks d (Ok tt) lines refl).1 ∙ last in
    post_issues g id r to (group ++ old)
    (subst (λ (n : ℕ). is_issued_to n r.id (group ++ old) ≡ false) (sym to_last) (not_issued_yet (group ++ old) c.watch.generation r ok.0 new)) was
adds_issues c _ _ group old (Replies who now call answer) last new ok g id was = refl
adds_issues c _ _ group old (Complains about ends after report) last new ok g id was = blame_issues ends about g id
adds_issues c _ _ group old (Pays owed) last new ok g id was = refl
