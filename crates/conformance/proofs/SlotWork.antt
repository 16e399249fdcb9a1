-- What a driver that lives works on was issued to it, and has no more sectors moved than the driver made steps for it.
use Rattle.std.proofs.Common.{◌≡◌, ℕ, ◌+◌, ◌*◌, ◌<◌, ◌≤◌, List, [], ◌∷◌, ◌++◌, length, Bool, true, false, refl, sym, ◌∙◌, ap, subst, arith, inl, inr}
use Rattle.std.specs.Prelude.{Option, Some, None, IfSome, IsSomeAnd}
use Rattle.message.specs.declared.BlockRequest.{BlockRequest}
use Rattle.media.specs.Contents.{MediaState}
use Rattle.bdev.specs.declared.Accept.{Accept}
use Rattle.bdev.specs.declared.Accept.TheVariants.{Taken, Busy, Old}
use Rattle.bdev.specs.declared.Step.{Step}
use Rattle.bdev.specs.declared.Step.TheVariants.{Working, Idle, Done, Failed}
use Rattle.bdev.specs.DriverState.{DriverState, Work, plan}
use Rattle.bdev.specs.Promises.{IsDriver, requests_in_work, AcceptKeeps, StepKeeps, StepsAt, MovesAtMostOne, EndsBy}
use Rattle.records.specs.Marks.{Mark}
use Rattle.schedule.specs.declared.Sent.{Sent}
use Rattle.schedule.specs.declared.Event.TheVariants as event
use Rattle.schedule.specs.Groups.{Group, marks_of, first_groups, Each}
use Rattle.schedule.specs.Drivers.{is_issued_to, is_live}
use Rattle.schedule.specs.Replies.{has_sent_at, steps_for, bytes_of, IsSentAtItsStep}
use Rattle.true_replies.specs.Events.{line_after, live_after, reply_of}
use Rattle.synchronous_driver.specs.Steps.{HandsOver}
use Rattle.simulated_link.specs.Disks.{Slot, SlotSteps, lined}
use Rattle.conformance.proofs.StepCounts.{moved_below, none_moved, one_moved, few_bytes, steps_append, steps_one_more, event_there, groups_there}

-- a request was issued to this driver
abbrev pub IsIssued : List Group → ℕ → BlockRequest → Type 0
IsIssued groups h r = is_issued_to h r.id (marks_of groups) ≡ true

-- the request in work was issued to this driver, and no more of its sectors were moved than the driver made steps for it
pub record WorksOn (groups : List Group) (sent : List Sent) (h : ℕ) (w : Work) : Type 0 where
  pub asked : IsIssued groups h w.request
  pub moved : (n : ℕ) → moved_below w.moved n ≤ steps_for h w.request.id sent groups

-- so it is of a driver that lives and took a request; those on its line were issued to it
pub record SlotWorks (groups : List Group) (sent : List Sent) (h : ℕ) (s : Slot) : Type 0 where
  pub line : Each (IsIssued groups h) s.line
  pub works : s.live ≡ true → 0 < s.state.last → IfSome s.state.work (WorksOn groups sent h)

-- what was issued to this driver stays issued
abbrev pub StaysIssued : List Group → List Group → ℕ → Type 0
StaysIssued was now h = (id : ℕ) → is_issued_to h id (marks_of was) ≡ true → is_issued_to h id (marks_of now) ≡ true

-- there were no fewer steps for each id that was issued to this driver
abbrev pub NoFewer : List Group → List Sent → List Group → List Sent → ℕ → Type 0
NoFewer was sent now sent' h = (id : ℕ) → is_issued_to h id (marks_of was) ≡ true → steps_for h id sent was ≤ steps_for h id sent' now

line_stays : (was now : List Group) (h : ℕ) (line : List BlockRequest) → StaysIssued was now h → Each (IsIssued was h) line → Each (IsIssued now h) line
line_stays was now h [] stays each = tt
line_stays was now h (r ∷ line) stays each = (stays r.id each.0, line_stays was now h line stays each.1)

line_more : (now : List Group) (h : ℕ) (line : List BlockRequest) (r : BlockRequest) → IsIssued now h r → Each (IsIssued now h) line → Each (IsIssued now h) (line ++ r ∷ [])
line_more now h [] r new each = (new, tt)
line_more now h (q ∷ line) r new each = (each.0, line_more now h line r new each.1)

work_stays : (was now : List Group) (sent sent' : List Sent) (h : ℕ) (work : Option Work) → StaysIssued was now h → NoFewer was sent now sent' h
    → IfSome work (WorksOn was sent h) → IfSome work (WorksOn now sent' h)
work_stays was now sent sent' h None stays fewer k = tt
work_stays was now sent sent' h (Some w) stays fewer k = record {
  asked = stays w.request.id k.asked;
  moved = λ n. let low : moved_below w.moved n ≤ steps_for h w.request.id sent was = k.moved n in
      let more : steps_for h w.request.id sent was ≤ steps_for h w.request.id sent' now = fewer w.request.id k.asked in omega (arith, low, more);
}

-- a driver that does nothing
pub slot_stays : (was now : List Group) (sent sent' : List Sent) (h : ℕ) (s t : Slot) → StaysIssued was now h → (t.live ≡ true → NoFewer was sent now sent' h)
    → t.state ≡ s.state → t.line ≡ s.line → (t.live ≡ true → s.live ≡ true) → SlotWorks was sent h s → SlotWorks now sent' h t
slot_stays was now sent sent' h s t stays fewer state line live k = record {
  line = subst (λ (l : List BlockRequest). Each (IsIssued now h) l) (sym line) (line_stays was now h s.line stays k.line);
  works = λ alive took. subst (λ (d : DriverState). IfSome d.work (WorksOn now sent' h)) (sym state)
      (work_stays was now sent sent' h s.state.work stays (fewer alive) (k.works (live alive) (subst (λ (d : DriverState). 0 < d.last) state took)));
}

-- a request goes to its line
pub slot_lined : (was now : List Group) (sent sent' : List Sent) (h : ℕ) (r : BlockRequest) (s : Slot) → StaysIssued was now h → NoFewer was sent now sent' h
    → IsIssued now h r → SlotWorks was sent h s → SlotWorks now sent' h (lined r s)
slot_lined was now sent sent' h r s stays fewer new k =
    let still : SlotWorks now sent' h s = slot_stays was now sent sent' h s s stays (λ alive. fewer) refl refl (λ alive. alive) k in
    record { line = line_more now h s.line r new still.line; works = still.works }

-- a driver before its step, once the next request was handed to it
record Handed (groups : List Group) (sent : List Sent) (h : ℕ) (d : DriverState) (line : List BlockRequest) : Type 0 where
  line_issued : Each (IsIssued groups h) line
  works : IfSome d.work (WorksOn groups sent h)

some_taken : (bad last : ℕ) (work : Option Work) (P : Work → Type 0) → bad + requests_in_work work ≤ last → (0 < last → IfSome work P) → IfSome work P
some_taken bad last None P low f = tt
some_taken bad last (Some w) P low f = f (omega (arith, low))

was_handed : (groups : List Group) (sent : List Sent) (h : ℕ) (b : DriverState) (line : List BlockRequest) (d : DriverState) (after : List BlockRequest)
    → Each (IsIssued groups h) line → (0 < b.last → IfSome b.work (WorksOn groups sent h)) → IsDriver d → HandsOver b line d after → Handed groups sent h d after
was_handed groups sent h b line d after issued works driver hands = by line issued hands where
  as_was : d ≡ b → IfSome d.work (WorksOn groups sent h)
  as_was is = some_taken d.bad d.last d.work (WorksOn groups sent h) driver.bad_is_few
      (subst (λ (x : DriverState). 0 < x.last → IfSome x.work (WorksOn groups sent h)) (sym is) works)

  new : (q : BlockRequest) (work : Option Work) → IsIssued groups h q → IsSomeAnd work (λ w. (w.request ≡ q) × ((k : ℕ) → w.moved k ≡ false))
      → IfSome work (WorksOn groups sent h)
  new q None asked takes = tt
  new q (Some w) asked takes = record {
    asked = subst (λ (r : BlockRequest). IsIssued groups h r) (sym takes.0) asked;
    moved = λ n. let none : moved_below w.moved n ≡ 0 = none_moved w.moved takes.1 n in omega (arith, none);
  }

  issued_after : (rest : List BlockRequest) → after ≡ rest → Each (IsIssued groups h) rest → Each (IsIssued groups h) after
  issued_after rest is each = subst (λ (l : List BlockRequest). Each (IsIssued groups h) l) (sym is) each

  accepted : (q : BlockRequest) (rest : List BlockRequest) (result : Accept) → Each (IsIssued groups h) (q ∷ rest) → AcceptKeeps b q result d
      → after ≡ line_after result q rest → Handed groups sent h d after
  accepted q rest Taken each k is = record { line_issued = issued_after rest is each.1; works = new q d.work each.0 k.2.work }
  accepted q rest Busy each k is = record { line_issued = issued_after (q ∷ rest) is each; works = as_was k.1 }
  accepted q rest Old each k is = record { line_issued = issued_after rest is each.1; works = as_was k.2 }

  by : (line : List BlockRequest) → Each (IsIssued groups h) line → HandsOver b line d after → Handed groups sent h d after
  by [] each hands = record { line_issued = issued_after [] hands.1 tt; works = as_was hands.0 }
  by (q ∷ rest) each hands = accepted q rest hands.0 each hands.1 hands.2

-- a step leaves the request, with one sector more moved at most
record MovesOn (w w' : Work) : Type 0 where
  request : w'.request ≡ w.request
  moved : (n : ℕ) → moved_below w'.moved n ≤ moved_below w.moved n + 1

moves_on : (b : DriverState) (w w' : Work) (m m' : MediaState) (g : ℕ) → MovesAtMostOne b w m g w' m' → MovesOn w w'
moves_on b w w' m m' g (inl none) = record {
  request = ap (λ (x : Work). x.request) none.same_work;
  moved = λ n. let same : moved_below w'.moved n ≡ moved_below w.moved n = ap (λ (x : Work). moved_below x.moved n) none.same_work in omega (arith, same);
}
moves_on b w w' m m' g (inr one) = record { request = one.same_request; moved = λ n. one_moved w.moved w'.moved one.number one.moved n }

-- what is known at a step: the replies so far, those that it sends, and the marks of the event
record AtStep (groups : List Group) (sent more : List Sent) (h : ℕ) (marks : List Mark) : Type 0 where
  issues : (id : ℕ) → is_issued_to h id marks ≡ false
  stays : StaysIssued groups ((event.Step h, marks) ∷ groups) h
  silent : more ≡ [] → has_sent_at h (length groups) (sent ++ more) ≡ false
  later : Each (λ s. length groups ≤ s.place) more

moved_on : (groups : List Group) (sent : List Sent) (h : ℕ) (marks : List Mark) (w w' : Work) → AtStep groups sent [] h marks → MovesOn w w' → WorksOn groups sent h w
    → WorksOn ((event.Step h, marks) ∷ groups) (sent ++ []) h w'
moved_on groups sent h marks w w' at on k =
    let id : ℕ = w.request.id in
    let same : w'.request.id ≡ id = ap (λ (r : BlockRequest). r.id) on.request in
    record {
      asked = subst (λ (r : BlockRequest). IsIssued ((event.Step h, marks) ∷ groups) h r) (sym on.request) (at.stays id k.asked);
      moved = λ n.
          let one : moved_below w'.moved n ≤ moved_below w.moved n + 1 = on.moved n in
          let low : moved_below w.moved n ≤ steps_for h id sent groups = k.moved n in
          let before : steps_for h id (sent ++ []) groups ≡ steps_for h id sent groups = steps_append h id sent [] groups tt in
          let step : steps_for h id (sent ++ []) ((event.Step h, marks) ∷ groups) ≡ steps_for h id (sent ++ []) groups + 1 =
          steps_one_more h id (sent ++ []) marks groups (at.issues id) (at.silent refl) in
          subst (λ (x : ℕ). moved_below w'.moved n ≤ steps_for h x (sent ++ []) ((event.Step h, marks) ∷ groups)) (sym same) (omega (arith, one, low, before, step));
    }

-- the replies of a step
abbrev pub replies_at : ℕ → ℕ → Step → List Sent
replies_at place g (Done a) = record { reply = reply_of g a; place = place } ∷ []
replies_at place g Working = []
replies_at place g Idle = []
replies_at place g Failed = []

step_works : (groups : List Group) (sent : List Sent) (h place : ℕ) (marks : List Mark) (step : Step) (b a : DriverState) (m m' : MediaState)
    → AtStep groups sent (replies_at place h step) h marks → IfSome b.work (WorksOn groups sent h) → StepKeeps b m h step a m' → live_after step true ≡ true
    → IfSome a.work (WorksOn ((event.Step h, marks) ∷ groups) (sent ++ replies_at place h step) h)
step_works groups sent h place marks step b a m m' at k steps live = by step b.work refl at k steps.steps live where
  now : List Group
  now = (event.Step h, marks) ∷ groups

  in_work : (P : Work → Type 0) (x y : Option Work) → x ≡ y → IfSome y P → IfSome x P
  in_work P x y is k = subst (λ (o : Option Work). IfSome o P) (sym is) k

  by : (step : Step) (work : Option Work) → b.work ≡ work → AtStep groups sent (replies_at place h step) h marks → IfSome work (WorksOn groups sent h)
      → StepsAt b work m h step a m' → live_after step true ≡ true → IfSome a.work (WorksOn now (sent ++ replies_at place h step) h)
  by Idle None is at k s live = in_work (WorksOn now (sent ++ []) h) a.work None (ap (λ (d : DriverState). d.work) s.1 ∙ is) tt
  by Working None is at k s live = absurd s.1
  by (Done answer) None is at k s live = absurd s.1
  by Failed work is at k s live = cc
  by Idle (Some w) is at k s live = absurd s.2
  by Working (Some w) is at k s live = in_work (WorksOn now (sent ++ []) h) a.work (Some s.0) s.2.stays (moved_on groups sent h marks w s.0 at (moves_on b w s.0 m m' h s.1) k)
  by (Done answer) (Some w) is at k s live = in_work (WorksOn now (sent ++ replies_at place h (Done answer)) h) a.work None s.2.ended tt

-- the reply of a step
step_replies : (groups : List Group) (sent : List Sent) (h place : ℕ) (marks : List Mark) (step : Step) (b a : DriverState) (m m' : MediaState)
    → length groups ≡ place → is_live h groups ≡ true → IfSome b.work (WorksOn groups sent h) → StepKeeps b m h step a m'
    → Each (IsSentAtItsStep ((event.Step h, marks) ∷ groups) (sent ++ replies_at place h step)) (replies_at place h step)
step_replies groups sent h place marks Working b a m m' at live k steps = tt
step_replies groups sent h place marks Idle b a m m' at live k steps = tt
step_replies groups sent h place marks Failed b a m m' at live k steps = tt
step_replies groups sent h place marks (Done answer) b a m m' at live k steps = (by b.work k steps.steps, tt) where
  now : List Group
  now = (event.Step h, marks) ∷ groups

  more : List Sent
  more = record { reply = reply_of h answer; place = place } ∷ []

  before : first_groups place now ≡ groups
  before = groups_there place (event.Step h, marks) groups at

  made : (w w' : Work) → WorksOn groups sent h w → MovesOn w w' → EndsBy b w' answer a → IsSentAtItsStep now (sent ++ more) (record { reply = reply_of h answer; place = place })
  made w w' k on ends =
      let same : answer.id ≡ w.request.id = ends.id ∙ ap (λ (r : BlockRequest). r.id) on.request in
      let steps_are : steps_for h w.request.id (sent ++ more) groups ≡ steps_for h w.request.id sent groups =
      steps_append h w.request.id sent more groups (omega (arith, at), tt) in
      record {
        from = refl;
        step = event_there place (event.Step h) marks groups at;
        live = ap (λ (l : List Group). is_live h l) before ∙ live;
        asked = ap (λ (l : List Group). is_issued_to h answer.id (marks_of l)) before ∙ ap (λ (id : ℕ). is_issued_to h id (marks_of groups)) same ∙ k.asked;
        moved = subst (λ (l : List Group). bytes_of answer.outcome ≤ 512 * (steps_for h answer.id (sent ++ more) l + 1)) (sym before)
            (subst (λ (id : ℕ). bytes_of answer.outcome ≤ 512 * (steps_for h id (sent ++ more) groups + 1)) (sym same)
            (subst (λ (n : ℕ). bytes_of answer.outcome ≤ 512 * (n + 1)) (sym steps_are)
            (few_bytes (plan b.ranges w'.request) w' answer.outcome answer.bytes (steps_for h w.request.id sent groups + 1) ends.answers
            (λ n. let one : moved_below w'.moved n ≤ moved_below w.moved n + 1 = on.moved n in
            let low : moved_below w.moved n ≤ steps_for h w.request.id sent groups = k.moved n in omega (arith, one, low)))));
      }

  by : (work : Option Work) → IfSome work (WorksOn groups sent h) → StepsAt b work m h (Done answer) a m'
      → IsSentAtItsStep now (sent ++ more) (record { reply = reply_of h answer; place = place })
  by None k s = absurd s.1
  by (Some w) k s = made w s.0 k (moves_on b w s.0 m m' h s.1) s.2

-- a step of a driver that lives: what it works on then, and the reply that it sends
pub record StepMade (groups : List Group) (sent : List Sent) (h place : ℕ) (marks : List Mark) (step : Step) (t : Slot) : Type 0 where
  pub slot : SlotWorks ((event.Step h, marks) ∷ groups) (sent ++ replies_at place h step) h t
  pub replies : Each (IsSentAtItsStep ((event.Step h, marks) ∷ groups) (sent ++ replies_at place h step)) (replies_at place h step)

pub step_made : (groups : List Group) (sent : List Sent) (h place : ℕ) (marks : List Mark) (step : Step) (s t : Slot) (m m' : MediaState)
    → length groups ≡ place → is_live h groups ≡ true → ((id : ℕ) → is_issued_to h id marks ≡ false) → StaysIssued groups ((event.Step h, marks) ∷ groups) h
    → has_sent_at h (length groups) (sent ++ []) ≡ false → s.live ≡ true → SlotSteps h s m step t m' → SlotWorks groups sent h s
    → StepMade groups sent h place marks step t
step_made groups sent h place marks step s t m m' at live issues stays silent alive steps k = record {
  slot = record {
    line = line_stays groups ((event.Step h, marks) ∷ groups) h t.line stays handed.line_issued;
    works = λ lives took. step_works groups sent h place marks step steps.handed t.state m m' here handed.works steps.steps
        (ap (λ (b : Bool). live_after step b) (sym alive) ∙ sym steps.lives ∙ lives);
  };
  replies = step_replies groups sent h place marks step steps.handed t.state m m' at live handed.works steps.steps;
} where
  handed : Handed groups sent h steps.handed t.line
  handed = was_handed groups sent h s.state s.line steps.handed t.line k.line (k.works alive) steps.driver steps.hands

  later : (step : Step) → Each (λ (x : Sent). length groups ≤ x.place) (replies_at place h step)
  later Working = tt
  later Idle = tt
  later Failed = tt
  later (Done answer) = (omega (arith, at), tt)

  quiet : (more : List Sent) → more ≡ [] → has_sent_at h (length groups) (sent ++ more) ≡ false
  quiet more is = ap (λ (l : List Sent). has_sent_at h (length groups) (sent ++ l)) is ∙ silent

  here : AtStep groups sent (replies_at place h step) h marks
  here = record { issues = issues; stays = stays; silent = quiet (replies_at place h step); later = later step }
