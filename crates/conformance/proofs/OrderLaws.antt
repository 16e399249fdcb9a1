-- At each event the calls taken are the first that arrived, in their order.
use Rattle.std.proofs.Common.{◌≡◌, List, [], ◌∷◌, ◌++◌, append_assoc, Bool, true, false, refl, sym, ◌∙◌, ap, subst}
use Rattle.std.specs.Prelude.{map, reverse, length, Option, Some, None, Result, Ok, Err, is_ok}
use Rattle.message.specs.declared.endpoint.Endpoint.{Endpoint}
use Rattle.message.specs.declared.BlockRequest.{BlockRequest}
use Rattle.message.specs.declared.Incoming.{Incoming}
use Rattle.message.specs.declared.Incoming.TheVariants as incoming
use Rattle.tree.specs.Answers.{answer_of}
use Rattle.bdev.specs.DriverState.{DriverState}
use Rattle.media.specs.Contents.{MediaState}
use Rattle.reincarnate.specs.declared.policy.Policy.{Policy}
use Rattle.reincarnate.specs.Watch.{driver, new_watch}
use Rattle.records.specs.Area.{Area}
use Rattle.records.specs.Marks.{Mark, Started, GaveUp, Took, Issued, Fault}
use Rattle.records.specs.declared.marks.Cause.TheVariants.{Complaint}
use Rattle.records.specs.Told.{Told, Complained, Received}
use Rattle.schedule.specs.declared.Event.{Event}
use Rattle.schedule.specs.Groups.{Group, marks_of, EachGroup}
use Rattle.schedule.specs.Calls.{Arrival, arrived, taken}
use Rattle.reissue.specs.declared.link.LinkRefusal.{LinkRefusal}
use Rattle.schedule.specs.Noted.{Noted, marks_in, grouped, with_mark, with_entry}
use Rattle.schedule.specs.declared.log.LogEntry.TheVariants as entry
use Rattle.simulated_link.specs.declared.events.ruling.Ruling.{Ruling}
use Rattle.simulated_link.specs.declared.events.ruling.Ruling.TheVariants as ruling
use Rattle.simulated_link.specs.Disks.{Disks, LinesUp, NoneIsThere, LineIsFull, IsLinedUp}
use Rattle.simulated_link.specs.Scene.{Scene}
use Rattle.schedule.specs.declared.arrived.Arrived.{Arrived}
use Rattle.simulated_link.specs.StateView.{RunState, IsOpened, first_noted, RunsEvent, Advances, Stays, Goes, Turn, Takes, TakesOwed, TakesEnd, Posts, Complains, ComesToEnd, IsRunOut, IsStarved, Still, Further, HandsEvent, HandsNone, HandsOwed, noting, paid, posted, complained, ruling_at}
use Rattle.simulated_link.specs.Waiting.{HasCalls, arrival_of}
use Rattle.simulated_link.specs.Moments.{Doing, Resting, Hearing, Answering, is_busy, Moment, Step, Begins as StepBegins, Tells, Takes as StepTakes, Settles, Brings, BringsNone, Pays as StepPays, HandsCall, Replies as StepReplies, Runs, Starts, Then}
use Rattle.simulated_link.proofs.Waits.{servers_hand_none, asides_hand_none, one_is_handed_out, it_is_answered}
use Rattle.conformance.specs.Seen.{with_brought, EventDone}
use Rattle.conformance.proofs.Events.{event_done, record_of_groups}
use Rattle.conformance.specs.Said.{IsBegun, HasBegun, StandsBefore, OverCalm}
use Rattle.conformance.specs.Ordered.{IsOrdered, OrderedAsDue, EarlierOrdered, answering}
use Rattle.conformance.specs.RunLaws.{RunsKeepOrder}
use Rattle.conformance.proofs.SaidLaws.{complained_as, complained_is, may_complain, step_calm, not_before, not_owed_before, busy_answering, step_begun}
use Rattle.conformance.proofs.OpeningLaws.{calm_before}

-- with the last event
all_ordered : (out : List Arrival) (p : RunState) → p.scene.noted.first ≡ Started (driver 1) ∷ [] → HasCalls out p → EarlierOrdered p.scene.noted.groups
    → EachGroup OrderedAsDue p.scene.noted.groups
all_ordered out p first calls h = by p.scene.noted.groups refl h where
  last : arrived p.scene.noted.groups ≡ (reverse (map arrival_of p.queue) ++ out) ++ taken (marks_of p.scene.noted.groups)
  last = calls.order
      ∙ ap (λ (l : List Mark). reverse (map arrival_of p.queue) ++ (out ++ taken l)) (record_of_groups p.scene.noted.groups p.scene.noted.first first)
      ∙ sym (append_assoc (reverse (map arrival_of p.queue)) out (taken (marks_of p.scene.noted.groups)))

  by : (groups : List Group) → p.scene.noted.groups ≡ groups → EarlierOrdered groups → EachGroup OrderedAsDue groups
  by [] is k = tt
  by (g ∷ earlier) is k = (
    record {
      left = reverse (map arrival_of p.queue) ++ out;
      order = subst (λ (l : List Group). arrived l ≡ (reverse (map arrival_of p.queue) ++ out) ++ taken (marks_of l)) is last;
    },
    k,
  )

-- what stands at the link
record Orders (out : List Arrival) (p : RunState) : Type 0 where
  first : p.scene.noted.first ≡ Started (driver 1) ∷ []
  calls : HasCalls out p
  earlier : EarlierOrdered p.scene.noted.groups

-- an event is run
next_orders : (out : List Arrival) (b a : RunState) (result : Option Incoming) (n : Noted) → RunsEvent b result a → n.groups ≡ (with_brought result a.scene.noted).groups
    → n.first ≡ (with_brought result a.scene.noted).first → Orders out b → (n.first ≡ Started (driver 1) ∷ []) × EarlierOrdered n.groups
next_orders out b a result n p groups first h =
    let done : EventDone b.next b.owed b.told p.event b.scene result a.scene = event_done b.next b.owed b.told p.event b.scene result a.scene h.first p.plays in (
      first ∙ done.first ∙ h.first,
      subst (λ (l : List Group). EarlierOrdered l) (sym (groups ∙ done.groups)) (all_ordered out b h.first h.calls h.earlier),
    )

next_none_orders : (out : List Arrival) (b a : RunState) → RunsEvent b None a → Orders out b → Orders out a
next_none_orders out b a next h =
    let k : (a.scene.noted.first ≡ Started (driver 1) ∷ []) × EarlierOrdered a.scene.noted.groups = next_orders out b a None a.scene.noted next refl refl h in
    record { first = k.0; calls = asides_hand_none out b a (Ok None) (HandsNone a next) h.calls; earlier = k.1 }

far_orders : (out : List Arrival) (b a : RunState) (result : Option Incoming) → Advances b result a → result ≡ None → Orders out b → Orders out a
far_orders out b _ _ Stays is h = h
far_orders out b a _ (Goes m _ result before last) is h =
    next_none_orders out m a (subst (λ (r : Option Incoming). RunsEvent m r a) is last) (far_orders out b m None before refl h)

far_some_orders : (out : List Arrival) (b a : RunState) (result : Option Incoming) (message : Incoming) → Advances b result a → result ≡ Some message → Orders out b
    → ((noting (entry.Received message) a).scene.noted.first ≡ Started (driver 1) ∷ []) × EarlierOrdered (noting (entry.Received message) a).scene.noted.groups
far_some_orders out b _ _ message Stays is h = cc
far_some_orders out b a _ message (Goes m _ result before last) is h =
    next_orders out m a (Some message) (with_entry (entry.Received message) a.scene.noted) (subst (λ (r : Option Incoming). RunsEvent m r a) is last) refl refl
    (far_orders out b m None before refl h)

-- a mark more in the last group
mark_orders : (p : RunState) (n : Noted) (m : Mark) → IsBegun p.scene.noted.groups → n.groups ≡ (with_mark m p.scene.noted).groups
    → n.first ≡ (with_mark m p.scene.noted).first → p.scene.noted.first ≡ Started (driver 1) ∷ [] → EarlierOrdered p.scene.noted.groups
    → (n.first ≡ Started (driver 1) ∷ []) × EarlierOrdered n.groups
mark_orders p n m begun groups first was h =
    let g : (with_mark m p.scene.noted).groups ≡ (begun.event, m ∷ begun.group) ∷ begun.earlier =
    ap (λ (l : List Group). (grouped m l p.scene.noted.first p.scene.noted).groups) begun.is in
    let f : (with_mark m p.scene.noted).first ≡ p.scene.noted.first = ap (λ (l : List Group). (grouped m l p.scene.noted.first p.scene.noted).first) begun.is in (
      first ∙ f ∙ was,
      subst (λ (l : List Group). EarlierOrdered l) (sym (groups ∙ g)) (subst (λ (l : List Group). EarlierOrdered l) begun.is h),
    )

abbrev FirstOrdered : RunState → Type 0
FirstOrdered p = (p.scene.noted.first ≡ Started (driver 1) ∷ []) × EarlierOrdered p.scene.noted.groups

posts_order : (b : RunState) (to : Endpoint) (r : BlockRequest) (result : Result (Unit {0}) LinkRefusal) (d : Disks) → LinesUp to r b.scene.disks result d
    → IsBegun b.scene.noted.groups → FirstOrdered b → FirstOrdered (posted to r (is_ok result) d b)
posts_order b to r _ _ (NoneIsThere none) begun h = h
posts_order b to r _ _ (LineIsFull there full) begun h = h
posts_order b to r _ d (IsLinedUp there few) begun h = mark_orders b (posted to r true d b).scene.noted (Issued r to) begun refl refl h.0 h.1

complaint_orders : (b : RunState) (about : Endpoint) (u : Ruling) → IsBegun b.scene.noted.groups → FirstOrdered b → FirstOrdered (complained_as u about b)
complaint_orders b about ruling.Ignored begun h = h
complaint_orders b about ruling.Fault begun h = mark_orders b (complained_as ruling.Fault about b).scene.noted (Fault about Complaint) begun refl refl h.0 h.1
complaint_orders b about ruling.GivesUp begun h = mark_orders b (complained_as ruling.GivesUp about b).scene.noted (Fault about Complaint) begun refl refl h.0 h.1

-- a turn
turn_orders : (out : List Arrival) (b a : RunState) (told : Told) → Turn b told a → ((about : Endpoint) → told ≡ Complained about → b.over ≡ false)
    → IsBegun b.scene.noted.groups → Orders out b → FirstOrdered a
turn_orders out b _ _ (Takes message a far) live begun h = far_some_orders out b a (Some message) message far refl h
turn_orders out b _ _ (TakesOwed still owes first) live begun h =
    mark_orders b (with_entry (entry.Received incoming.GaveUp) b.scene.noted) GaveUp begun refl refl h.first h.earlier
turn_orders out b _ _ (TakesEnd a still ends) live begun h = end_orders a ends where
  end_orders : (x : RunState) → ComesToEnd b x → FirstOrdered x
  end_orders _ (IsRunOut x far spent) = let k : Orders out x = far_orders out b x None far refl h in (k.first, k.earlier)
  end_orders _ (IsStarved x far) = let k : Orders out x = far_orders out b x None far refl h in (k.first, k.earlier)
turn_orders out b _ _ (Posts to r result d unended lines) live begun h = posts_order b to r result d lines begun (h.first, h.earlier)
turn_orders out b _ _ (Complains about) live begun h =
    subst (λ (p : RunState). FirstOrdered p) (sym (complained_is b about (live about refl))) (complaint_orders b about (ruling_at about b.scene) begun (h.first, h.earlier))

turned : (out : List Arrival) (b a : RunState) (told : Told) → Turn b told a → ((about : Endpoint) → told ≡ Complained about → b.over ≡ false)
    → IsBegun b.scene.noted.groups → Orders out b → Orders out a
turned out b a told turn live begun h =
    let k : FirstOrdered a = turn_orders out b a told turn live begun h in
    record { first = k.0; calls = servers_hand_none out b a (Further b a told Still turn) h.calls; earlier = k.1 }

resting : (d : Doing) → d ≡ Resting → answering d ≡ []
resting d is = ap answering is

-- a step
step_orders : (area : Area) (m a : Moment) → Step area m a → OverCalm m → HasBegun m → Orders (answering m.doing) m.run → Orders (answering a.doing) a.run
step_orders area m _ (StepBegins r busy may) calm begun h = h
step_orders area m _ (Tells told a busy nothing may turn) calm begun h =
    turned (answering m.doing) m.run a told turn (may_complain area m told calm may) (not_before m busy begun) h
step_orders area m _ (StepTakes message call a doing may turn) calm begun h =
    turned (answering m.doing) m.run a (Received message) turn (λ about is. cc) (not_before m (busy_answering m.doing call doing) begun) h
step_orders area m _ (Settles message doing rest) calm begun h = subst (λ (l : List Arrival). Orders l m.run) (ap answering doing) h
step_orders area m _ (Brings message a between none next) calm begun h =
    let k : Orders [] m.run = subst (λ (l : List Arrival). Orders l m.run) (resting m.doing between.rests) h in
    let n : FirstOrdered (noting (entry.Handed message) a) = next_orders [] m.run a (Some message) (with_entry (entry.Handed message) a.scene.noted) next refl refl k in
    record {
      first = n.0;
      calls = asides_hand_none [] m.run (noting (entry.Handed message) a) (Ok (Some message)) (HandsEvent message a next) k.calls;
      earlier = n.1;
    }
step_orders area m _ (BringsNone a between none next) calm begun h = next_none_orders (answering m.doing) m.run a next h
step_orders area m _ (StepPays between owed told) calm begun h =
    let k : Orders [] m.run = subst (λ (l : List Arrival). Orders l m.run) (resting m.doing between.rests) h in
    let n : FirstOrdered (noting (entry.Handed incoming.GaveUp) (paid m.run)) =
    mark_orders m.run (with_entry (entry.Handed incoming.GaveUp) m.run.scene.noted) GaveUp (not_owed_before m owed begun) refl refl k.first k.earlier in
    record {
      first = n.0;
      calls = asides_hand_none [] m.run (noting (entry.Handed incoming.GaveUp) (paid m.run)) (Ok (Some incoming.GaveUp)) (HandsOwed between.live owed told) k.calls;
      earlier = n.1;
    }
step_orders area m _ (HandsCall call a between paid_so hands) calm begun h =
    let k : Orders [] m.run = subst (λ (l : List Arrival). Orders l m.run) (resting m.doing between.rests) h in
    record {
      first = ap (λ (p : RunState). p.scene.noted.first) hands.after ∙ k.first;
      calls = one_is_handed_out m.run a call hands k.calls;
      earlier = subst (λ (p : RunState). EarlierOrdered p.scene.noted.groups) (sym hands.after) k.earlier;
    }
step_orders area m _ (StepReplies call reply doing live rest) calm begun h =
    let k : Orders (arrival_of call ∷ []) m.run = subst (λ (l : List Arrival). Orders l m.run) (ap answering doing) h in
    let a : RunState = noting (entry.Took call.who call.now call.call reply) m.run in
    let n : FirstOrdered a = mark_orders m.run a.scene.noted (Took call.who call.now call.call (answer_of reply))
    (not_before m (busy_answering m.doing call doing) begun) refl refl k.first k.earlier in
    record { first = n.0; calls = it_is_answered m.run a call reply refl k.calls; earlier = n.1 }

record OrdersStand (m : Moment) : Type 0 where
  calm : OverCalm m
  begun : HasBegun m
  orders : Orders (answering m.doing) m.run

orders_stand : (area : Area) (b a : Moment) → Runs area b a → OrdersStand b → OrdersStand a
orders_stand area b _ Starts h = h
orders_stand area b a (Then m _ before last) h = let k : OrdersStand m = orders_stand area b m before h in record {
  calm = step_calm area m a last k.calm;
  begun = step_begun area m a last k.calm k.orders.first k.begun;
  orders = step_orders area m a last k.calm k.begun k.orders;
}

pub runs_keep_order : RunsKeepOrder
runs_keep_order media rules supply events area b a o rests runs =
    let s : b.run.scene.noted ≡ first_noted = ap (λ (x : Scene). x.noted) o.scene.is in
    let k : OrdersStand a = orders_stand area b a runs (record {
      calm = calm_before media rules supply events b o;
      begun = StandsBefore rests o.queue o.owed;
      orders = record {
        first = ap (λ (n : Noted). n.first) s;
        calls = record {
          order = ap (λ (n : Noted). arrived n.groups) s
              ∙ sym (ap (λ (n : Noted). reverse (map arrival_of b.run.queue) ++ (answering b.doing ++ taken (marks_in n))) s
              ∙ ap (λ (l : List Arrived). reverse (map arrival_of l) ++ (answering b.doing ++ [])) o.queue
              ∙ ap (λ (d : Doing). answering d ++ []) rests);
        };
        earlier = subst (λ (n : Noted). EarlierOrdered n.groups) (sym s) tt;
      };
    }) in
    all_ordered (answering a.doing) a.run k.orders.first k.orders.calls k.orders.earlier
