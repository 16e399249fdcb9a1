-- Calls wait in the order in which they arrived.
use Rattle.std.proofs.Common.{◌≡◌, List, [], ◌∷◌, ◌++◌, Bool, true, false, cond, refl, sym, ◌∙◌, ap, subst}
use Rattle.std.specs.Prelude.{map, reverse, drop, Option, Some, None, is_ok, slice_get}
use Rattle.std.proofs.lemmas.List.{append_assoc, map-append, reverse-append}
use Rattle.message.specs.declared.Incoming.{Incoming}
use Rattle.message.specs.declared.Incoming.TheVariants as incoming
use Rattle.tree.specs.Answers.{answer_of}
use Rattle.records.specs.Marks.{Mark, Issued, Fault, Answered, Started, GaveUp, Flush, Took}
use Rattle.records.specs.declared.marks.Cause.TheVariants.{Complaint}
use Rattle.records.specs.Open.{counts}
use Rattle.records.specs.Told.{Told, received}
use Rattle.schedule.specs.declared.Event.{Event}
use Rattle.schedule.specs.declared.Event.TheVariants as event
use Rattle.schedule.specs.Groups.{Group, event_of}
use Rattle.schedule.specs.Calls.{Arrival, arrived, taken}
use Rattle.schedule.specs.Faultless.{without_faults}
use Rattle.schedule.specs.declared.log.LogEntry.{LogEntry}
use Rattle.schedule.specs.declared.log.LogEntry.TheVariants as entry
use Rattle.schedule.specs.Noted.{Noted, marks_in, with_entry}
use Rattle.schedule.proofs.NotedLaws.{mark_in, message_in}
use Rattle.simulated_link.specs.Kept.{NotesAside}
use Rattle.simulated_link.specs.Ruling.{is_fault}
use Rattle.simulated_link.proofs.Keeping.{events_note_aside}
use Rattle.schedule.specs.declared.arrived.Arrived.{Arrived}
use Rattle.simulated_link.specs.StateView.{RunState, begun, noting, paid, ended, starving, posted, complained, ruling_at, RunsEvent, Advances, Stays, Goes, ComesToEnd, IsRunOut, IsStarved, Turn, Takes, TakesOwed, TakesEnd, Posts, Complains, Still, Further, HandsEvent, HandsNone, HandsOwed, HandsNothing}
use Rattle.schedule.specs.ArrivingCalls.{calls_of}
use Rattle.simulated_link.specs.Waiting.{arrival_of, HasCalls, ServersHandNone, AsidesHandNone, OneIsHandedOut, ItIsAnswered}
use Rattle.simulated_link.proofs.Leading.{is_beginning, entry_events}

-- the calls that these events bring, newest first
abbrev brought : List Event → List Arrival
brought [] = []
brought (event.Arrive who now call ∷ events) = (who, now, call) ∷ brought events
brought (event.Flush ∷ events) = brought events
brought (event.Tick ∷ events) = brought events
brought (event.Step g ∷ events) = brought events
brought (event.Die g bytes ∷ events) = brought events
brought (event.Hang g ∷ events) = brought events
brought (event.Deliver n ∷ events) = brought events
brought (event.Repeat n ∷ events) = brought events

arrived_brought : (groups : List Group) → arrived groups ≡ brought (map event_of groups)
arrived_brought [] = refl
arrived_brought ((event.Arrive who now call, group) ∷ earlier) = ap (λ (l : List Arrival). (who, now, call) ∷ l) (arrived_brought earlier)
arrived_brought ((event.Flush, group) ∷ earlier) = arrived_brought earlier
arrived_brought ((event.Tick, group) ∷ earlier) = arrived_brought earlier
arrived_brought ((event.Step g, group) ∷ earlier) = arrived_brought earlier
arrived_brought ((event.Die g bytes, group) ∷ earlier) = arrived_brought earlier
arrived_brought ((event.Hang g, group) ∷ earlier) = arrived_brought earlier
arrived_brought ((event.Deliver n, group) ∷ earlier) = arrived_brought earlier
arrived_brought ((event.Repeat n, group) ∷ earlier) = arrived_brought earlier

same_arrived : (b a : List Group) → map event_of a ≡ map event_of b → arrived a ≡ arrived b
same_arrived b a same = arrived_brought a ∙ ap brought same ∙ sym (arrived_brought b)

brings : (e : Event) (groups : List Group) → arrived ((e, []) ∷ groups) ≡ reverse (map arrival_of (calls_of e)) ++ arrived groups
brings (event.Arrive who now call) groups = refl
brings event.Flush groups = refl
brings event.Tick groups = refl
brings (event.Step g) groups = refl
brings (event.Die g bytes) groups = refl
brings (event.Hang g) groups = refl
brings (event.Deliver n) groups = refl
brings (event.Repeat n) groups = refl

-- faults answer no call
taken_faultless : (marks : List Mark) → taken (without_faults marks) ≡ taken marks
taken_faultless [] = refl
taken_faultless (Fault e cause ∷ marks) = taken_faultless marks
taken_faultless (Started e ∷ marks) = taken_faultless marks
taken_faultless (Answered a ∷ marks) = taken_faultless marks
taken_faultless (Flush ∷ marks) = taken_faultless marks
taken_faultless (GaveUp ∷ marks) = taken_faultless marks
taken_faultless (Took who now call answer ∷ marks) = ap (λ (l : List Arrival). (who, now, call) ∷ l) (taken_faultless marks)
taken_faultless (Issued r e ∷ marks) = taken_faultless marks

same_taken : (b a : List Mark) → without_faults a ≡ without_faults b → taken a ≡ taken b
same_taken b a same = sym (taken_faultless a) ∙ ap taken same ∙ taken_faultless b

-- nor does a message
taken_message : (m : Incoming) (marks : List Mark) → taken (received m marks) ≡ taken marks
taken_message (incoming.Reply a) marks = by (counts marks a) where
  by : (c : Bool) → taken (cond c (Answered a ∷ marks) marks) ≡ taken marks
  by true = refl
  by false = refl
taken_message (incoming.Started e) marks = refl
taken_message incoming.GaveUp marks = refl
taken_message incoming.Flush marks = refl
taken_message incoming.End marks = refl

-- a note that begins no event and answers no call
abbrev is_other : LogEntry → Bool
is_other (entry.Begun event) = false
is_other (entry.Posted to r accepted) = true
is_other (entry.Complained e is_fault) = true
is_other (entry.Received m) = true
is_other (entry.Handed m) = true
is_other (entry.Faulted e cause) = true
is_other (entry.Took who now call reply) = false

taken_entry : (e : LogEntry) (n : Noted) → is_other e ≡ true → taken (marks_in (with_entry e n)) ≡ taken (marks_in n)
taken_entry (entry.Begun event) n other = cc
taken_entry (entry.Posted to r true) n other = ap taken (mark_in (Issued r to) n)
taken_entry (entry.Posted to r false) n other = refl
taken_entry (entry.Complained e true) n other = ap taken (mark_in (Fault e Complaint) n)
taken_entry (entry.Complained e false) n other = refl
taken_entry (entry.Received m) n other = ap taken (message_in m n) ∙ taken_message m (marks_in n)
taken_entry (entry.Handed m) n other = ap taken (message_in m n) ∙ taken_message m (marks_in n)
taken_entry (entry.Faulted e cause) n other = ap taken (mark_in (Fault e cause) n)
taken_entry (entry.Took who now call reply) n other = cc

-- with the same calls that arrived, that wait and that were answered
calls_same : (out : List Arrival) (b a : RunState) → map event_of a.scene.noted.groups ≡ map event_of b.scene.noted.groups → a.queue ≡ b.queue
    → taken (marks_in a.scene.noted) ≡ taken (marks_in b.scene.noted) → HasCalls out b → HasCalls out a
calls_same out b a events queue answered h = record {
  order = same_arrived b.scene.noted.groups a.scene.noted.groups events ∙ h.order
      ∙ ap (λ (l : List Arrived). reverse (map arrival_of l) ++ (out ++ taken (marks_in b.scene.noted))) (sym queue)
      ∙ ap (λ (l : List Arrival). reverse (map arrival_of a.queue) ++ (out ++ l)) (sym answered);
}

other_is_within : (e : LogEntry) → is_other e ≡ true → is_beginning e ≡ false
other_is_within (entry.Begun event) other = cc
other_is_within (entry.Posted to r accepted) other = refl
other_is_within (entry.Complained e is_fault) other = refl
other_is_within (entry.Received m) other = refl
other_is_within (entry.Handed m) other = refl
other_is_within (entry.Faulted e cause) other = refl
other_is_within (entry.Took who now call reply) other = refl

calls_noted : (out : List Arrival) (b : RunState) (e : LogEntry) → is_other e ≡ true → HasCalls out b → HasCalls out (noting e b)
calls_noted out b e other h =
    calls_same out b (noting e b) (entry_events e b.scene.noted (other_is_within e other)) refl (taken_entry e b.scene.noted other) h

-- an event is run: the call that it brings waits
calls_next : (out : List Arrival) (b a : RunState) (result : Option Incoming) → RunsEvent b result a → HasCalls out b → HasCalls out a
calls_next out b a result p h =
    let aside : NotesAside (begun p.event b.scene).noted a.scene.noted = events_note_aside b.next p.event (begun p.event b.scene) a.scene result p.plays in
    let rest : List Arrival = out ++ taken (marks_in b.scene.noted) in
    record {
      order = same_arrived ((p.event, []) ∷ b.scene.noted.groups) a.scene.noted.groups aside.events ∙ brings p.event b.scene.noted.groups
          ∙ ap (λ (l : List Arrival). reverse (map arrival_of (calls_of p.event)) ++ l) h.order
          ∙ sym (append_assoc (reverse (map arrival_of (calls_of p.event))) (reverse (map arrival_of b.queue)) rest)
          ∙ ap (λ (l : List Arrival). l ++ rest) (sym (reverse-append (map arrival_of b.queue) (map arrival_of (calls_of p.event))))
          ∙ ap (λ (l : List Arrival). reverse l ++ rest) (sym (map-append arrival_of b.queue (calls_of p.event)))
          ∙ ap (λ (l : List Arrived). reverse (map arrival_of l) ++ rest) (sym p.queue)
          ∙ ap (λ (l : List Arrival). reverse (map arrival_of a.queue) ++ (out ++ l))
          (sym (same_taken (marks_in b.scene.noted) (marks_in a.scene.noted) aside.marks));
    }

calls_far : (out : List Arrival) (b a : RunState) (result : Option Incoming) → Advances b result a → HasCalls out b → HasCalls out a
calls_far out b _ _ Stays h = h
calls_far out b a _ (Goes m _ result before last) h = calls_next out m a result last (calls_far out b m None before h)

calls_to_end : (out : List Arrival) (b a : RunState) → ComesToEnd b a → HasCalls out b → HasCalls out a
calls_to_end out b a (IsRunOut _ far spent) h = calls_far out b a None far h
calls_to_end out b _ (IsStarved a far) h = calls_same out a (starving a) refl refl refl (calls_far out b a None far h)

calls_turn : (out : List Arrival) (b a : RunState) (told : Told) → Turn b told a → HasCalls out b → HasCalls out a
calls_turn out b _ _ (Takes message a far) h = calls_noted out a (entry.Received message) refl (calls_far out b a (Some message) far h)
calls_turn out b _ _ (TakesOwed live owed first) h = calls_noted out (paid b) (entry.Received incoming.GaveUp) refl (calls_same out b (paid b) refl refl refl h)
calls_turn out b _ _ (TakesEnd a live ends) h = calls_same out a (ended a) refl refl refl (calls_to_end out b a ends h)
calls_turn out b _ _ (Posts to r result d unended lines) h =
    calls_same out b (posted to r (is_ok result) d b) (entry_events (entry.Posted to r (is_ok result)) b.scene.noted refl) refl
    (taken_entry (entry.Posted to r (is_ok result)) b.scene.noted refl) h
calls_turn out b _ _ (Complains about) h =
    let e : LogEntry = entry.Complained about (is_fault (ruling_at about b.scene)) in
    calls_same out b (complained about b) (entry_events e b.scene.noted refl) refl (taken_entry e b.scene.noted refl) h

pub servers_hand_none : ServersHandNone
servers_hand_none out b _ Still h = h
servers_hand_none out b a (Further m _ told before last) h = calls_turn out m a told last (servers_hand_none out b m before h)

pub asides_hand_none : AsidesHandNone
asides_hand_none out b _ _ (HandsEvent message a next) h = calls_noted out a (entry.Handed message) refl (calls_next out b a (Some message) next h)
asides_hand_none out b _ _ (HandsNone a next) h = calls_next out b a None next h
asides_hand_none out b _ _ (HandsOwed live owed first) h =
    calls_noted out (paid b) (entry.Handed incoming.GaveUp) refl (calls_same out b (paid b) refl refl refl h)
asides_hand_none out b _ _ (HandsNothing error) h = calls_same out b (starving b) refl refl refl h

first_out : (queue : List Arrived) (call : Arrived) (rest : List Arrival) → Some call ≡ slice_get queue 0
    → reverse (map arrival_of queue) ++ rest ≡ reverse (map arrival_of (drop 1 queue)) ++ (arrival_of call ∷ rest)
first_out [] call rest is = cc
first_out (x ∷ queue) call rest is =
    ap (λ (l : List Arrival). l ++ rest) (reverse-append (arrival_of x ∷ []) (map arrival_of queue))
    ∙ append_assoc (reverse (map arrival_of queue)) (arrival_of x ∷ []) rest
    ∙ ap (λ (c : Arrived). reverse (map arrival_of queue) ++ (arrival_of c ∷ rest)) (sym (one call x is)) where
      one : (c d : Arrived) → Some c ≡ Some d → c ≡ d
      one c d h = cc

pub one_is_handed_out : OneIsHandedOut
one_is_handed_out b a call hands h = subst (λ (p : RunState). HasCalls (arrival_of call ∷ []) p) (sym hands.after)
    (record { order = h.order ∙ first_out b.queue call (taken (marks_in b.scene.noted)) hands.first })

pub it_is_answered : ItIsAnswered
it_is_answered b a call reply is h =
    let e : LogEntry = entry.Took call.who call.now call.call reply in
    subst (λ (p : RunState). HasCalls [] p) (sym is) (record {
      order = same_arrived b.scene.noted.groups (noting e b).scene.noted.groups (entry_events e b.scene.noted refl) ∙ h.order
          ∙ ap (λ (l : List Arrival). reverse (map arrival_of b.queue) ++ l)
          (sym (ap taken (mark_in (Took call.who call.now call.call (answer_of reply)) b.scene.noted)));
    })
