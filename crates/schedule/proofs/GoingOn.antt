-- What was kept stays so while a run goes on.
use Rattle.std.specs.Prelude.{zero, suc, ◌≡◌, ◌⊎◌, ◌<◌, ◌≤◌, ℕ, ◌+◌, ◌-◌, ◌*◌, List, [], ◌∷◌, ◌++◌, length, drop, map, Bool, true, false, ◌&&◌, ◌||◌, ◌==◌, nat_lt, if◌then◌else◌, Some, refl, slice_get}
use Rattle.std.proofs.Common.{ap, arith, inl, inr, subst, sym, ◌∙◌}
use Rattle.std.proofs.lemmas.Bool.Decides.{nat_tests}
use Rattle.std.proofs.lemmas.List.{length-drop, length-map, length-reverse, reverse-append}
use Rattle.std.proofs.lemmas.Option.{slice_get_within}
use Rattle.lemmas.proofs.Bools.{and_or_neither}
use Rattle.bdev.specs.DriverState.{DriverState}
use Rattle.reincarnate.specs.declared.policy.Policy.{Policy}
use Rattle.records.specs.Marks.{Mark}
use Rattle.records.specs.Open.{counts}
use Rattle.schedule.specs.declared.Sent.{Sent}
use Rattle.schedule.specs.declared.Event.{Event}
use Rattle.schedule.specs.declared.Event.TheVariants as event
use Rattle.schedule.specs.Groups.{Group, marks_of, event_of, schedule_of, first_groups, Each, EachGroup}
use Rattle.schedule.specs.Drivers.{exits_in, is_live, is_issued_to}
use Rattle.schedule.specs.Faults.{ExitsOfGroup, ExitsAtStep}
use Rattle.schedule.specs.Replies.{answer_to, answers_due, has_sent_at, is_step_of, steps_for, bytes_of}
use Rattle.schedule.specs.Handed.{was_sent, is_handed, acts_when_handed}
use Rattle.schedule.specs.Justified.{GroupKeeps}
use Rattle.schedule.specs.Laws.{HasFailed, GroupsStay, RepliesStay}

-- the replies sent at this event or later
abbrev AreLater : ℕ → List Sent → Type 0
AreLater n more = Each (λ s. n ≤ s.place) more

-- such a reply isn't answered before it
answer_to-later : (s : Sent) (earlier : List Group) → length earlier ≤ s.place → answer_to (Some s) earlier ≡ []
answer_to-later s earlier later =
    let early : nat_lt s.place (length earlier) ≡ false = grind (arith, nat_tests, later) in
    ap (λ (b : Bool). if b && counts (marks_of earlier) s.reply then s.reply ∷ [] else []) early

-- whichever of them is delivered
answer_to-among_later : (k : ℕ) (more : List Sent) (earlier : List Group) → AreLater (length earlier) more → answer_to (slice_get more k) earlier ≡ []
answer_to-among_later k [] earlier later = refl
answer_to-among_later zero (s ∷ more) earlier later = answer_to-later s earlier later.0
answer_to-among_later (suc k) (s ∷ more) earlier later = answer_to-among_later k more earlier later.1

-- a delivery is answered as it was
answer_to-append : (k : ℕ) (sent more : List Sent) (earlier : List Group) → AreLater (length earlier) more
    → answer_to (slice_get (sent ++ more) k) earlier ≡ answer_to (slice_get sent k) earlier
answer_to-append k [] more earlier later = answer_to-among_later k more earlier later
answer_to-append zero (s ∷ sent) more earlier later = refl
answer_to-append (suc k) (s ∷ sent) more earlier later = answer_to-append k sent more earlier later

-- so each event is
answers_due-append : (sent more : List Sent) (event : Event) (earlier : List Group) → AreLater (length earlier) more
    → answers_due (sent ++ more) event earlier ≡ answers_due sent event earlier
answers_due-append sent more (event.Deliver k) earlier later = answer_to-append k sent more earlier later
answers_due-append sent more (event.Arrive who now call) earlier later = refl
answers_due-append sent more event.Flush earlier later = refl
answers_due-append sent more event.Tick earlier later = refl
answers_due-append sent more (event.Step g) earlier later = refl
answers_due-append sent more (event.Die g bytes) earlier later = refl
answers_due-append sent more (event.Hang g) earlier later = refl
answers_due-append sent more (event.Repeat n) earlier later = refl

-- a reply that is sent later isn't there yet
was_sent-later : (s : Sent) (n : ℕ) → n ≤ s.place → was_sent (Some s) n ≡ false
was_sent-later s n later = grind (arith, nat_tests, later)

-- whichever of them is delivered
was_sent-among_later : (k : ℕ) (more : List Sent) (n : ℕ) → AreLater n more → was_sent (slice_get more k) n ≡ false
was_sent-among_later k [] n later = refl
was_sent-among_later zero (s ∷ more) n later = was_sent-later s n later.0
was_sent-among_later (suc k) (s ∷ more) n later = was_sent-among_later k more n later.1

-- a delivery hands over what it handed over
was_sent-append : (k : ℕ) (sent more : List Sent) (n : ℕ) → AreLater n more → was_sent (slice_get (sent ++ more) k) n ≡ was_sent (slice_get sent k) n
was_sent-append k [] more n later = was_sent-among_later k more n later
was_sent-append zero (s ∷ sent) more n later = refl
was_sent-append (suc k) (s ∷ sent) more n later = was_sent-append k sent more n later

-- so each event does
is_handed-append : (sent more : List Sent) (event : Event) (earlier : List Group) → AreLater (length earlier) more
    → is_handed (sent ++ more) event earlier ≡ is_handed sent event earlier
is_handed-append sent more (event.Deliver k) earlier later = was_sent-append k sent more (length earlier) later
is_handed-append sent more (event.Arrive who now call) earlier later = refl
is_handed-append sent more event.Flush earlier later = refl
is_handed-append sent more event.Tick earlier later = refl
is_handed-append sent more (event.Step g) earlier later = refl
is_handed-append sent more (event.Die g bytes) earlier later = refl
is_handed-append sent more (event.Hang g) earlier later = refl
is_handed-append sent more (event.Repeat n) earlier later = refl

-- exits stay justified by drivers that still have failed
exits_stay : (drivers drivers' : List DriverState) (event : Event) (group : List Mark) (earlier : List Group) → ((g : ℕ) → HasFailed drivers g → HasFailed drivers' g)
    → ExitsOfGroup drivers event group earlier → ExitsOfGroup drivers' event group earlier
exits_stay drivers drivers' (event.Step g) group earlier failed exits = at exits
  where
    at : (exits_in group ≡ []) ⊎ ExitsAtStep drivers g group earlier → (exits_in group ≡ []) ⊎ ExitsAtStep drivers' g group earlier
    at (inl none) = inl none
    at (inr one) = inr (record { one = one.one; runs = one.runs; failed = failed g one.failed })
exits_stay drivers drivers' (event.Die g bytes) group earlier failed exits = exits
exits_stay drivers drivers' (event.Deliver k) group earlier failed exits = exits
exits_stay drivers drivers' (event.Arrive who now call) group earlier failed exits = exits
exits_stay drivers drivers' event.Flush group earlier failed exits = exits
exits_stay drivers drivers' event.Tick group earlier failed exits = exits
exits_stay drivers drivers' (event.Hang g) group earlier failed exits = exits
exits_stay drivers drivers' (event.Repeat n) group earlier failed exits = exits

-- what is later than more events is later than fewer
AreLater-below : (m n : ℕ) (more : List Sent) → m ≤ n → AreLater n more → AreLater m more
AreLater-below m n [] below later = tt
AreLater-below m n (s ∷ more) below later = (omega (arith, below, later.0), AreLater-below m n more below later.1)

-- one event, its marks and the groups before it
group_stays : (policy : Policy) (supply : ℕ) (sent more : List Sent) (drivers drivers' : List DriverState) (event : Event) (group : List Mark) (earlier : List Group)
    → AreLater (length earlier) more → ((g : ℕ) → HasFailed drivers g → HasFailed drivers' g)
    → GroupKeeps policy supply sent drivers event group earlier → GroupKeeps policy supply (sent ++ more) drivers' event group earlier
group_stays policy supply sent more drivers drivers' event group earlier later failed keeps = record {
  faults = record {
    exits = exits_stay drivers drivers' event group earlier failed keeps.faults.exits;
    hung = keeps.faults.hung;
    complaints = keeps.faults.complaints;
    starts = keeps.faults.starts;
    giving_up = keeps.faults.giving_up;
    issues = keeps.faults.issues;
    in_place = keeps.faults.in_place;
  };
  answers = record { answered = keeps.answers.answered ∙ sym (answers_due-append sent more event earlier later); flushed = keeps.answers.flushed };
  calls = keeps.calls;
  acts = ap (λ handed. acts_when_handed handed group) (is_handed-append sent more event earlier later) ∙ keeps.acts;
}

-- all events so far
each_stays : (policy : Policy) (supply : ℕ) (sent more : List Sent) (drivers drivers' : List DriverState) (groups : List Group)
    → AreLater (length groups) more → ((g : ℕ) → HasFailed drivers g → HasFailed drivers' g)
    → EachGroup (GroupKeeps policy supply sent drivers) groups → EachGroup (GroupKeeps policy supply (sent ++ more) drivers') groups
each_stays policy supply sent more drivers drivers' [] later failed each = tt
each_stays policy supply sent more drivers drivers' (g ∷ groups) later failed each =
    let sooner : AreLater (length groups) more = AreLater-below (length groups) (length (g ∷ groups)) more (omega arith) later in (
      group_stays policy supply sent more drivers drivers' g.0 g.1 groups sooner failed each.0,
      each_stays policy supply sent more drivers drivers' groups sooner failed each.1,
    )

-- the replies of all are the earlier ones and more
pub groups_stay : GroupsStay
groups_stay policy supply sent drivers sent' drivers' groups went each =
    let P : List Sent → Type 0 = λ all. EachGroup (GroupKeeps policy supply all drivers') groups in
    subst P (sym went.sent_is) (each_stays policy supply sent went.more drivers drivers' groups went.later went.failed each)

-- one event more stands at the schedule's end
schedule_of-next : (g : Group) (groups : List Group) → schedule_of (g ∷ groups) ≡ schedule_of groups ++ event_of g ∷ []
schedule_of-next g groups = reverse-append (event_of g ∷ []) (map event_of groups)

-- what stands in a list stands at its place when more follows
slice_get-append : {A : Type 0} (xs ys : List A) (k : ℕ) (x : A) → slice_get xs k ≡ Some x → slice_get (xs ++ ys) k ≡ Some x
slice_get-append [] ys k x e = cc
slice_get-append (y ∷ xs) ys zero x e = e
slice_get-append (y ∷ xs) ys (suc k) x e = slice_get-append xs ys k x e

-- as many events as groups
length-schedule_of : (groups : List Group) → length (schedule_of groups) ≡ length groups
length-schedule_of groups = length-reverse (map event_of groups) ∙ length-map groups event_of

-- the first groups stay the first
first_groups-next : (n : ℕ) (g : Group) (groups : List Group) → n ≤ length groups → first_groups n (g ∷ groups) ≡ first_groups n groups
first_groups-next n g groups within =
    let e : length (g ∷ groups) - n ≡ suc (length groups - n) = omega (arith, within) in
    ap (λ k. drop k (g ∷ groups)) e

-- none of the later replies is sent at an earlier event
has_sent_at-later : (g place n : ℕ) (more : List Sent) → place < n → AreLater n more → has_sent_at g place more ≡ false
has_sent_at-later g place n [] before later = refl
has_sent_at-later g place n (s ∷ more) before later =
    let other : (s.place == place) ≡ false = grind (arith, nat_tests, before, later.0) in
    and_or_neither (s.reply.from.generation == g) (s.place == place) (has_sent_at g place more) other (has_sent_at-later g place n more before later.1)

-- so there they are those that were sent so far
has_sent_at-append : (g place n : ℕ) (sent more : List Sent) → place < n → AreLater n more → has_sent_at g place (sent ++ more) ≡ has_sent_at g place sent
has_sent_at-append g place n [] more before later = has_sent_at-later g place n more before later
has_sent_at-append g place n (s ∷ sent) more before later =
    ap (λ rest. ((s.reply.from.generation == g) && (s.place == place)) || rest) (has_sent_at-append g place n sent more before later)

-- and as many steps were for an id
steps_for-append : (g id : ℕ) (sent more : List Sent) (groups : List Group) → AreLater (length groups) more → steps_for g id (sent ++ more) groups ≡ steps_for g id sent groups
steps_for-append g id sent more [] later = refl
steps_for-append g id sent more ((event, group) ∷ earlier) later =
    let sooner : AreLater (length earlier) more = AreLater-below (length earlier) (length ((event, group) ∷ earlier)) more (omega arith) later in
    let here : has_sent_at g (length earlier) (sent ++ more) ≡ has_sent_at g (length earlier) sent =
    has_sent_at-append g (length earlier) (length ((event, group) ∷ earlier)) sent more (omega arith) later in
    ap (λ sends. if is_issued_to g id group || sends then 0 else (if is_step_of g event then steps_for g id (sent ++ more) earlier + 1 else steps_for g id (sent ++ more) earlier)) here
    ∙ ap (λ n. if is_issued_to g id group || has_sent_at g (length earlier) sent then 0 else (if is_step_of g event then n + 1 else n))
    (steps_for-append g id sent more earlier sooner)

-- the events and groups before a step stay what they are
pub replies_stay : RepliesStay
replies_stay g groups sent more s later stands = record {
  from = stands.from;
  step = ap (λ events. slice_get events s.place) (schedule_of-next g groups)
      ∙ slice_get-append (schedule_of groups) (event_of g ∷ []) s.place (event.Step s.reply.from.generation) stands.step;
  live = ap (is_live s.reply.from.generation) same ∙ stands.live;
  asked = ap (λ first. is_issued_to s.reply.from.generation s.reply.id (marks_of first)) same ∙ stands.asked;
  moved = subst (λ n. bytes_of s.reply.outcome ≤ 512 * (n + 1)) (sym steps) stands.moved;
}
  where
    within : s.place < length (schedule_of groups)
    within = slice_get_within (schedule_of groups) s.place (event.Step s.reply.from.generation) stands.step

    same : first_groups s.place (g ∷ groups) ≡ first_groups s.place groups
    same = first_groups-next s.place g groups (omega (arith, within, length-schedule_of groups))

    fewer : length (first_groups s.place groups) ≤ length groups
    fewer = omega (arith, length-drop (length groups - s.place) groups)

    steps : steps_for s.reply.from.generation s.reply.id (sent ++ more) (first_groups s.place (g ∷ groups))
        ≡ steps_for s.reply.from.generation s.reply.id sent (first_groups s.place groups)
    steps = ap (steps_for s.reply.from.generation s.reply.id (sent ++ more)) same
        ∙ steps_for-append s.reply.from.generation s.reply.id sent more (first_groups s.place groups)
        (AreLater-below (length (first_groups s.place groups)) (length groups) more fewer later)
