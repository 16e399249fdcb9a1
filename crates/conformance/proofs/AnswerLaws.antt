-- At each event those replies are answered that are delivered there, were sent earlier, and count.
use Rattle.std.proofs.Common.{◌≡◌, ℕ, zero, suc, ◌+◌, ◌<◌, ◌≤◌, List, [], ◌∷◌, ◌++◌, length, Bool, true, false, cond, refl, sym, ◌∙◌, ap, subst, arith}
use Rattle.std.proofs.lemmas.Bool.Decides.{nat_tests}
use Rattle.std.specs.Prelude.{◌&&◌, nat_lt, nat_le, Option, Some, None, Result, Ok, Err, if◌then◌else◌, slice_get}
use Rattle.lemmas.proofs.Bools.{and_left, and_right}
use Rattle.message.specs.declared.endpoint.Endpoint.{Endpoint}
use Rattle.message.specs.declared.BlockRequest.{BlockRequest}
use Rattle.message.specs.declared.BlockReply.{BlockReply}
use Rattle.bdev.specs.declared.Step.{Step}
use Rattle.bdev.specs.declared.Step.TheVariants.{Working, Idle, Done, Failed}
use Rattle.reincarnate.specs.Watch.{driver}
use Rattle.records.specs.Marks.{Mark, Started, Answered, Flush, GaveUp, Took, Issued, Fault}
use Rattle.records.specs.declared.marks.Cause.{Cause}
use Rattle.records.specs.declared.marks.Cause.TheVariants.{Exit, Hung}
use Rattle.records.specs.Open.{counts}
use Rattle.schedule.specs.declared.Sent.{Sent}
use Rattle.schedule.specs.declared.Event.{Event}
use Rattle.schedule.specs.declared.Event.TheVariants as event
use Rattle.schedule.specs.Groups.{Group, marks_of, Each, EachGroup}
use Rattle.schedule.specs.Replies.{answers_in, answer_to, answers_due, are_in_order}
use Rattle.true_replies.specs.Events.{reply_of}
use Rattle.reissue.specs.declared.link.LinkRefusal.{LinkRefusal}
use Rattle.schedule.specs.declared.log.Post.{Post}
use Rattle.simulated_link.specs.Disks.{Disks, sent_at, Steps, NoStep, CurrentSteps, OlderSteps, Dies, NoneDies, CurrentDies, OlderDies, Hangs, NoneHangs, CurrentHangs, OlderHangs, LinesUp, NoneIsThere, LineIsFull, IsLinedUp, LinesUpAgain, NoneLinesUp, CurrentLinesUp, OlderLinesUp, Repeats}
use Rattle.conformance.specs.Core.{Core}
use Rattle.conformance.specs.Happens.{fault_marks, exit_marks, beaten_core, TicksTo, Beats, MissesOne, FoundHung, WaitsOn, StartsNext, IsOver, Begins, Arrives, Flushes, Answers, Drops, Delivers, LinesAgain, HangsOne, StepsOne, FailsOne, DiesNone, DiesOne, Ticks, Adds, AddsNothing, Posts, Replies, Complains, Pays}
use Rattle.conformance.specs.Steady.{IsKept, AnsweredSoFar}

-- the replies sent at this event or later
abbrev AreLater : ℕ → List Sent → Type 0
AreLater n more = Each (λ s. n ≤ s.place) more

later_below : (m n : ℕ) (more : List Sent) → m ≤ n → AreLater n more → AreLater m more
later_below m n [] below later = tt
later_below m n (s ∷ more) below later = (omega (arith, below, later.0), later_below m n more below later.1)

-- such a reply isn't answered before it
answer_later : (s : Sent) (earlier : List Group) → length earlier ≤ s.place → answer_to (Some s) earlier ≡ []
answer_later s earlier later =
    let none : nat_lt s.place (length earlier) ≡ false = grind (arith, nat_tests, later) in
    ap (λ (b : Bool). if b && counts (marks_of earlier) s.reply then s.reply ∷ [] else []) none

answer_among_later : (k : ℕ) (more : List Sent) (earlier : List Group) → AreLater (length earlier) more → answer_to (slice_get more k) earlier ≡ []
answer_among_later k [] earlier later = refl
answer_among_later zero (s ∷ more) earlier later = answer_later s earlier later.0
answer_among_later (suc k) (s ∷ more) earlier later = answer_among_later k more earlier later.1

answer_append : (k : ℕ) (sent more : List Sent) (earlier : List Group) → AreLater (length earlier) more
    → answer_to (slice_get (sent ++ more) k) earlier ≡ answer_to (slice_get sent k) earlier
answer_append k [] more earlier later = answer_among_later k more earlier later
answer_append zero (s ∷ sent) more earlier later = refl
answer_append (suc k) (s ∷ sent) more earlier later = answer_append k sent more earlier later

answers_append : (sent more : List Sent) (event : Event) (earlier : List Group) → AreLater (length earlier) more
    → answers_due (sent ++ more) event earlier ≡ answers_due sent event earlier
answers_append sent more (event.Deliver k) earlier later = answer_append k sent more earlier later
answers_append sent more (event.Arrive who now call) earlier later = refl
answers_append sent more event.Flush earlier later = refl
answers_append sent more event.Tick earlier later = refl
answers_append sent more (event.Step g) earlier later = refl
answers_append sent more (event.Die g bytes) earlier later = refl
answers_append sent more (event.Hang g) earlier later = refl
answers_append sent more (event.Repeat n) earlier later = refl

-- the replies sent at this event were added, if any
pub record SentMore (place : ℕ) (b a : List Sent) : Type 0 where
  pub more : List Sent
  pub is : a ≡ b ++ more
  pub from : AreLater place more
  pub to : Each (λ s. s.place < place + 1) more
  pub order : are_in_order place more ≡ true

none_more : (xs : List Sent) → xs ≡ xs ++ []
none_more [] = refl
none_more (x ∷ xs) = ap (λ (l : List Sent). x ∷ l) (none_more xs)

pub no_more : (place : ℕ) (sent : List Sent) → SentMore place sent sent
no_more place sent = record { more = []; is = none_more sent; from = tt; to = tt; order = refl }

at_place : (place : ℕ) → (nat_le place place && true) ≡ true
at_place place = let low : nat_le place place ≡ true = grind (arith, nat_tests) in ap (λ (b : Bool). b && true) low

sent_there : (place g : ℕ) (step : Step) (sent : List Sent) → SentMore place sent (sent_at place g step sent)
sent_there place g (Done a) sent = record { more = record { reply = reply_of g a; place = place } ∷ []; is = refl; from = (omega arith, tt); to = (omega arith, tt); order = at_place place }
sent_there place g Working sent = no_more place sent
sent_there place g Idle sent = no_more place sent
sent_there place g Failed sent = no_more place sent

pub steps_sent : (place g : ℕ) (b a : Disks) (result : Option Step) → Steps place g b result a → SentMore place b.sent a.sent
steps_sent place g b _ _ (NoStep none) = no_more place b.sent
steps_sent place g b _ _ (CurrentSteps step a m is live s) = sent_there place g step b.sent
steps_sent place g b _ _ (OlderSteps at was a step m older live s) = sent_there place g step b.sent

pub dies_sent : (g : ℕ) (bytes : Option (List ℕ)) (b a : Disks) (died : Bool) → Dies g bytes b died a → a.sent ≡ b.sent
dies_sent g bytes b _ _ (NoneDies none) = refl
dies_sent g bytes b _ _ (CurrentDies is live) = refl
dies_sent g bytes b _ _ (OlderDies at was older live) = refl

pub hangs_sent : (g : ℕ) (b a : Disks) → Hangs g b a → a.sent ≡ b.sent
hangs_sent g b _ (NoneHangs none) = refl
hangs_sent g b _ (CurrentHangs is) = refl
hangs_sent g b _ (OlderHangs at was older) = refl

again_sent : (g : ℕ) (r : BlockRequest) (b a : Disks) → LinesUpAgain g r b a → a.sent ≡ b.sent
again_sent g r b _ (NoneLinesUp none) = refl
again_sent g r b _ (CurrentLinesUp is live few) = refl
again_sent g r b _ (OlderLinesUp at slot older live few) = refl

pub repeats_sent : (p : Option Post) (b a : Disks) → Repeats p b a → a.sent ≡ b.sent
repeats_sent None b a is = ap (λ (d : Disks). d.sent) is
repeats_sent (Some p) b a again = again_sent p.to.generation p.request b a again

pub lines_sent : (to : Endpoint) (r : BlockRequest) (b a : Disks) (result : Result (Unit {0}) LinkRefusal) → LinesUp to r b result a → a.sent ≡ b.sent
lines_sent to r b _ _ (NoneIsThere none) = refl
lines_sent to r b _ _ (LineIsFull there full) = refl
lines_sent to r b _ _ (IsLinedUp there few) = refl

same_more : (place : ℕ) (b a : List Sent) → a ≡ b → SentMore place b a
same_more place b a is = subst (λ (l : List Sent). SentMore place b l) (sym is) (no_more place b)

tick_sent : (place : ℕ) (c a : Core) (marks : List Mark) → TicksTo c marks a → SentMore place c.disks.sent a.disks.sent
tick_sent place c _ _ (Beats last count is same) = no_more place c.disks.sent
tick_sent place c _ _ (MissesOne last count is same few) = no_more place c.disks.sent
tick_sent place c _ _ (FoundHung last count ends after is same enough fault) = no_more place c.disks.sent
tick_sent place c _ _ (WaitsOn until is early) = no_more place c.disks.sent
tick_sent place c _ _ (StartsNext until d rest is come spare) = no_more place c.disks.sent
tick_sent place c _ _ (IsOver is) = no_more place c.disks.sent

pub begins_sent : (place : ℕ) (groups : List Group) (c a : Core) (event : Event) (marks : List Mark) → Begins place groups c event marks a
    → SentMore place c.disks.sent a.disks.sent
begins_sent place groups c _ _ _ (Arrives who now call) = no_more place c.disks.sent
begins_sent place groups c _ _ _ Flushes = no_more place c.disks.sent
begins_sent place groups c _ _ _ (Answers n s there counts) = no_more place c.disks.sent
begins_sent place groups c _ _ _ (Drops n s there counts) = no_more place c.disks.sent
begins_sent place groups c _ _ _ (Delivers n there) = no_more place c.disks.sent
begins_sent place groups c _ _ _ (LinesAgain n p d same again) = same_more place c.disks.sent d.sent (repeats_sent p c.disks d again)
begins_sent place groups c _ _ _ (HangsOne g d hangs) = same_more place c.disks.sent d.sent (hangs_sent g c.disks d hangs)
begins_sent place groups c _ _ _ (StepsOne g step d steps well) = steps_sent place g c.disks d step steps
begins_sent place groups c _ _ _ (FailsOne g d ends after steps report) = steps_sent place g c.disks d (Some Failed) steps
begins_sent place groups c _ _ _ (DiesNone g bytes d dies) = same_more place c.disks.sent d.sent (dies_sent g bytes c.disks d false dies)
begins_sent place groups c _ _ _ (DiesOne g bytes d ends after dies report) = same_more place c.disks.sent d.sent (dies_sent g bytes c.disks d true dies)
begins_sent place groups c a _ marks (Ticks _ _ ticks) = tick_sent place (beaten_core c) a marks ticks

adds_sent : (c a : Core) (marks : List Mark) → Adds c marks a → a.disks.sent ≡ c.disks.sent
adds_sent c _ _ AddsNothing = refl
adds_sent c _ _ (Posts r to d lines) = lines_sent to r c.disks d (Ok tt) lines
adds_sent c _ _ (Replies who now call answer) = refl
adds_sent c _ _ (Complains about ends after report) = refl
adds_sent c _ _ (Pays owed) = refl

abbrev IsBefore : ℕ → Option Sent → Type 0
IsBefore place None = ⊥
IsBefore place (Some s) = s.place < place

-- a reply stands where its number says
reply_there : (n place : ℕ) (sent : List Sent) (s : Sent) → Each (λ t. t.place < place) sent → slice_get sent n ≡ Some s → s.place < place
reply_there n place [] s low there = cc
reply_there zero place (t ∷ sent) s low there = subst (λ (o : Option Sent). IsBefore place o) there low.0
reply_there (suc n) place (t ∷ sent) s low there = reply_there n place sent s low.1 there

no_answer_at_fault : (ends : Bool) (e : Endpoint) (cause : Cause) → answers_in (fault_marks ends e cause) ≡ []
no_answer_at_fault true e cause = refl
no_answer_at_fault false e cause = refl

no_answer_at_exit : (ends : Option Bool) (e : Endpoint) → answers_in (exit_marks ends e) ≡ []
no_answer_at_exit None e = refl
no_answer_at_exit (Some ends) e = no_answer_at_fault ends e Exit

tick_answers : (c a : Core) (marks : List Mark) → TicksTo c marks a → answers_in marks ≡ []
tick_answers c _ _ (Beats last count is same) = refl
tick_answers c _ _ (MissesOne last count is same few) = refl
tick_answers c _ _ (FoundHung last count ends after is same enough fault) = no_answer_at_fault ends (driver c.disks.media.generation) Hung
tick_answers c _ _ (WaitsOn until is early) = refl
tick_answers c _ _ (StartsNext until d rest is come spare) = refl
tick_answers c _ _ (IsOver is) = refl

answered_now : (place : ℕ) (groups : List Group) (c a : Core) (event : Event) (marks : List Mark) → Begins place groups c event marks a
    → length groups ≡ place → Each (λ s. s.place < place) c.disks.sent → answers_in marks ≡ answers_due c.disks.sent event groups
answered_now place groups c _ _ _ (Arrives who now call) at low = refl
answered_now place groups c _ _ _ Flushes at low = refl
answered_now place groups c _ _ _ (Answers n s there counted) at low =
    let before : s.place < place = reply_there n place c.disks.sent s low there in
    let sent : nat_lt s.place (length groups) ≡ true = grind (arith, nat_tests, before, at) in
    sym (ap (λ (o : Option Sent). answer_to o groups) there
    ∙ ap (λ (b : Bool). if b && counts (marks_of groups) s.reply then s.reply ∷ [] else []) sent
    ∙ ap (λ (b : Bool). if b then s.reply ∷ [] else []) counted)
answered_now place groups c _ _ _ (Drops n s there counted) at low =
    sym (ap (λ (o : Option Sent). answer_to o groups) there ∙ dropped (nat_lt s.place (length groups))) where
      dropped : (b : Bool) → (if b && counts (marks_of groups) s.reply then s.reply ∷ [] else []) ≡ []
      dropped true = ap (λ (t : Bool). if t then s.reply ∷ [] else []) counted
      dropped false = refl
answered_now place groups c _ _ _ (Delivers n there) at low = sym (ap (λ (o : Option Sent). answer_to o groups) there)
answered_now place groups c _ _ _ (LinesAgain n p d same again) at low = refl
answered_now place groups c _ _ _ (HangsOne g d hangs) at low = refl
answered_now place groups c _ _ _ (StepsOne g step d steps well) at low = refl
answered_now place groups c _ _ _ (FailsOne g d ends after steps report) at low = no_answer_at_exit ends (driver g)
answered_now place groups c _ _ _ (DiesNone g bytes d dies) at low = refl
answered_now place groups c _ _ _ (DiesOne g bytes d ends after dies report) at low = no_answer_at_exit ends (driver g)
answered_now place groups c a _ marks (Ticks _ _ ticks) at low = tick_answers (beaten_core c) a marks ticks

order_below : (from place : ℕ) (more : List Sent) → from ≤ place → are_in_order place more ≡ true → are_in_order from more ≡ true
order_below from place [] low order = refl
order_below from place (s ∷ more) low order =
    let first : nat_le place s.place ≡ true = and_left (nat_le place s.place) (are_in_order (s.place + 1) more) order in
    let here : nat_le from s.place ≡ true = grind (arith, nat_tests, first, low) in
    ap (λ (b : Bool). b && are_in_order (s.place + 1) more) here ∙ and_right (nat_le place s.place) (are_in_order (s.place + 1) more) order

order_more : (from place : ℕ) (sent more : List Sent) → are_in_order from sent ≡ true → Each (λ s. s.place < place) sent → from ≤ place
    → are_in_order place more ≡ true → are_in_order from (sent ++ more) ≡ true
order_more from place [] more order low below next = order_below from place more below next
order_more from place (s ∷ sent) more order low below next =
    ap (λ (b : Bool). b && are_in_order (s.place + 1) (sent ++ more)) (and_left (nat_le from s.place) (are_in_order (s.place + 1) sent) order)
    ∙ order_more (s.place + 1) place sent more (and_right (nat_le from s.place) (are_in_order (s.place + 1) sent) order) low.1 (omega (arith, low.0)) next

abbrev AnsweredBy : List Sent → Event → List Mark → List Group → Type 0
AnsweredBy sent event group earlier = answers_in group ≡ answers_due sent event earlier

-- later replies change nothing of it
answered_still : (sent more : List Sent) (groups : List Group) → AreLater (length groups) more → EachGroup (AnsweredBy sent) groups
    → EachGroup (AnsweredBy (sent ++ more)) groups
answered_still sent more [] later each = tt
answered_still sent more (g ∷ groups) later each =
    let sooner : AreLater (length groups) more = later_below (length groups) (length (g ∷ groups)) more (omega arith) later in
    (each.0 ∙ sym (answers_append sent more g.0 groups sooner), answered_still sent more groups sooner each.1)

low_more : (place : ℕ) (sent more : List Sent) → Each (λ s. s.place < place) sent → Each (λ s. s.place < place + 1) more
    → Each (λ s. s.place < place + 1) (sent ++ more)
low_more place [] more low to = to
low_more place (s ∷ sent) more low to = (omega (arith, low.0), low_more place sent more low.1 to)

no_answers_added : (c a : Core) (marks group : List Mark) → Adds c marks a → answers_in (marks ++ group) ≡ answers_in group
no_answers_added c _ _ group AddsNothing = refl
no_answers_added c _ _ group (Posts r to d lines) = refl
no_answers_added c _ _ group (Replies who now call answer) = refl
no_answers_added c _ _ group (Complains about None after report) = refl
no_answers_added c _ _ group (Complains about (Some ends) after report) = refl
no_answers_added c _ _ group (Pays owed) = refl

pub answered_kept : IsKept AnsweredSoFar
answered_kept = record {
  begins = λ place groups c a event marks paid begins h.
      let s : SentMore place c.disks.sent a.disks.sent = begins_sent place groups c a event marks begins in
      let later : AreLater (length groups) s.more = subst (λ (n : ℕ). AreLater n s.more) (sym h.places) s.from in
      record {
        places = (let at : length groups ≡ place = h.places in omega (arith, at));
        sent = subst (λ (l : List Sent). Each (λ t. t.place < place + 1) l) (sym s.is) (low_more place c.disks.sent s.more h.sent s.to);
        order = ap (λ (l : List Sent). are_in_order 0 l) s.is ∙ order_more 0 place c.disks.sent s.more h.order h.sent (omega arith) s.order;
        each = subst (λ (l : List Sent). EachGroup (AnsweredBy l) ((event, marks) ∷ groups)) (sym s.is) (
          answered_now place groups c a event marks begins h.places h.sent ∙ sym (answers_append c.disks.sent s.more event groups later),
          answered_still c.disks.sent s.more groups later h.each,
        );
      };
  adds = λ place event group earlier c a marks adds h. record {
    places = h.places;
    sent = subst (λ (l : List Sent). Each (λ t. t.place < place) l) (sym (adds_sent c a marks adds)) h.sent;
    order = ap (λ (l : List Sent). are_in_order 0 l) (adds_sent c a marks adds) ∙ h.order;
    each = subst (λ (l : List Sent). EachGroup (AnsweredBy l) ((event, marks ++ group) ∷ earlier)) (sym (adds_sent c a marks adds))
        (no_answers_added c a marks group adds ∙ h.each.0, h.each.1);
  };
}
