-- What goes on in the link: its schedule, and the events that were noted.
use Rattle.std.proofs.Common.{◌≡◌, ℕ, zero, suc, ◌+◌, ◌-◌, ◌*◌, ◌<◌, ◌≤◌, List, [], ◌∷◌, ◌++◌, Bool, true, false, cond, refl, sym, ◌∙◌, ap, subst, arith, length}
use Rattle.std.specs.Prelude.{map, reverse, take, drop, Option, Some, None, Result, Ok, Err, OnSome, is_ok, slice_get}
use Rattle.std.proofs.lemmas.List.{reverse-append}
use Rattle.message.specs.declared.endpoint.Endpoint.{Endpoint}
use Rattle.message.specs.declared.BlockRequest.{BlockRequest}
use Rattle.message.specs.declared.Incoming.{Incoming}
use Rattle.message.specs.declared.Incoming.TheVariants as incoming
use Rattle.tree.specs.Answers.{answer_of}
use Rattle.records.specs.Marks.{Issued, Fault, Answered, Started, GaveUp, Flush, Took}
use Rattle.records.specs.declared.marks.Cause.TheVariants.{Complaint}
use Rattle.records.specs.Open.{counts}
use Rattle.records.specs.Told.{Told, Posted, Complained, Received}
use Rattle.reincarnate.specs.declared.policy.Event.TheVariants as policy
use Rattle.reincarnate.specs.Watch.{on}
use Rattle.reissue.specs.declared.link.LinkRefusal.{LinkRefusal}
use Rattle.simulated_link.specs.Disks.{Disks, LinesUp, NoneIsThere, LineIsFull, IsLinedUp}
use Rattle.simulated_link.specs.Ruling.{is_fault}
use Rattle.schedule.specs.declared.Event.{Event}
use Rattle.schedule.specs.declared.Event.TheVariants as event
use Rattle.schedule.specs.Groups.{event_of}
use Rattle.schedule.specs.declared.log.LogEntry.{LogEntry}
use Rattle.schedule.specs.declared.log.LogEntry.TheVariants as entry
use Rattle.schedule.specs.Noted.{Noted, marks_in, with_mark, with_message, with_entry}
use Rattle.simulated_link.specs.Kept.{NotesAside}
use Rattle.simulated_link.proofs.Keeping.{events_same, events_note_aside}
use Rattle.simulated_link.proofs.Sectors.{events_keep_sectors}
use Rattle.schedule.specs.declared.arrived.Arrived.{Arrived}
use Rattle.simulated_link.specs.StateView.{RunState, unless_told, work_left, begun, noting, paid, ended, starving, posted, complained, ruling_at, RunsEvent, Advances, Stays, Goes, ComesToEnd, IsRunOut, IsStarved, Turn, Takes, TakesOwed, TakesEnd, Posts, Complains, Still, Further, HandsEvent, HandsNone, HandsOwed, HandsNothing}
use Rattle.schedule.specs.ArrivingCalls.{calls_of}
use Rattle.simulated_link.specs.Laws.{LeadsOn, CallLeads, ServersLeadOn, AsidesLeadOn, CallsLeadOn, AnswersLeadOn}

-- whether a note begins an event
abbrev pub is_beginning : LogEntry → Bool
is_beginning (entry.Begun event) = true
is_beginning (entry.Posted to r accepted) = false
is_beginning (entry.Complained e is_fault) = false
is_beginning (entry.Received m) = false
is_beginning (entry.Handed m) = false
is_beginning (entry.Faulted e cause) = false
is_beginning (entry.Took who now call reply) = false

message_events : (m : Incoming) (n : Noted) → map event_of (with_message m n).groups ≡ map event_of n.groups
message_events (incoming.Reply a) n = by (counts (marks_in n) a) where
  by : (c : Bool) → map event_of (cond c (with_mark (Answered a) n) n).groups ≡ map event_of n.groups
  by true = events_same (Answered a) n
  by false = refl
message_events (incoming.Started e) n = events_same (Started e) n
message_events incoming.GaveUp n = events_same GaveUp n
message_events incoming.Flush n = events_same Flush n
message_events incoming.End n = refl

-- a note within an event leaves the events that began
pub entry_events : (e : LogEntry) (n : Noted) → is_beginning e ≡ false → map event_of (with_entry e n).groups ≡ map event_of n.groups
entry_events (entry.Begun event) n none = cc
entry_events (entry.Posted to r true) n none = events_same (Issued r to) n
entry_events (entry.Posted to r false) n none = refl
entry_events (entry.Complained e true) n none = events_same (Fault e Complaint) n
entry_events (entry.Complained e false) n none = refl
entry_events (entry.Received m) n none = message_events m n
entry_events (entry.Handed m) n none = message_events m n
entry_events (entry.Faulted e cause) n none = events_same (Fault e cause) n
entry_events (entry.Took who now call reply) n none = events_same (Took who now call (answer_of reply)) n

less_work : (e f : List Event) (n m : ℕ) (p q t u : ℕ) → length e ≡ length f → n ≡ m → p ≤ q → t ≤ u
    → 2 * (length e - n) + p + t ≤ 2 * (length f - m) + q + u
less_work e f n m p q t u same next queue told = omega (arith, same, next, queue, told)

there_below : (events : List Event) (n : ℕ) (e : Event) → slice_get events n ≡ Some e → n < length events
there_below [] n e is = cc
there_below (x ∷ events) zero e is = omega arith
there_below (x ∷ events) (suc n) e is = let h : n < length events = there_below events n e is in omega (arith, h)

one_call : (e : Event) → length (calls_of e) ≤ 1
one_call (event.Arrive who now call) = omega arith
one_call event.Flush = omega arith
one_call event.Tick = omega arith
one_call (event.Step g) = omega arith
one_call (event.Die g bytes) = omega arith
one_call (event.Hang g) = omega arith
one_call (event.Deliver n) = omega arith
one_call (event.Repeat n) = omega arith

length_joined : (xs ys : List Arrived) → length (xs ++ ys) ≡ length xs + length ys
length_joined [] ys = omega arith
length_joined (x ∷ xs) ys = let h : length (xs ++ ys) ≡ length xs + length ys = length_joined xs ys in omega (arith, h)

-- an event that is run is less left to do
pub next_works : (b a : RunState) (result : Option Incoming) → RunsEvent b result a → work_left a < work_left b
next_works b a result p =
    let below : b.next < length b.events = there_below b.events b.next p.event p.is in
    let same : length a.events ≡ length b.events = ap length p.events in
    let queue : length a.queue ≡ length b.queue + length (calls_of p.event) = ap length p.queue ∙ length_joined b.queue (calls_of p.event) in
    let one : length (calls_of p.event) ≤ 1 = one_call p.event in
    let told : unless_told a.told ≡ unless_told b.told = ap unless_told p.told in
    omega (arith, below, same, queue, one, told, p.next)

take_more : (events : List Event) (n : ℕ) (e : Event) → slice_get events n ≡ Some e → take (suc n) events ≡ take n events ++ e ∷ []
take_more [] n e is = cc
take_more (x ∷ events) zero e is = ap (λ (o : Option Event). first_of o x ∷ []) is where
  first_of : Option Event → Event → Event
  first_of (Some y) d = y
  first_of None d = d
take_more (x ∷ events) (suc n) e is = ap (λ (l : List Event). x ∷ l) (take_more events n e is)

pub leads_stays : (p : RunState) → LeadsOn p p
leads_stays p = record { events = refl; sectors = refl; next = omega arith; work = omega arith; sound = λ s. s }

pub leads_joins : (a b c : RunState) → LeadsOn a b → LeadsOn b c → LeadsOn a c
leads_joins a b c first next = record {
  events = next.events ∙ first.events;
  sectors = next.sectors ∙ first.sectors;
  next = omega (arith, first.next, next.next);
  work = omega (arith, first.work, next.work);
  sound = λ s. next.sound (first.sound s);
}

-- with as many sectors, the same events begun, and no call more that waits
leads_same : (b a : RunState) → length a.scene.disks.media.sectors ≡ length b.scene.disks.media.sectors → a.events ≡ b.events → a.next ≡ b.next → length a.queue ≤ length b.queue → unless_told a.told ≤ unless_told b.told
    → map event_of a.scene.noted.groups ≡ map event_of b.scene.noted.groups → LeadsOn b a
leads_same b a sectors events next queue told same = record {
  events = events;
  sectors = sectors;
  next = omega (arith, next);
  work = less_work a.events b.events a.next b.next (length a.queue) (length b.queue) (unless_told a.told) (unless_told b.told) (ap length events) next queue told;
  sound = λ s. record {
    schedule = ap reverse same ∙ s.schedule ∙ ap (λ (l : List Event). take b.next l) (sym events) ∙ ap (λ (n : ℕ). take n a.events) (sym next);
  };
}

-- an event is run
leads_next : (b a : RunState) (result : Option Incoming) → RunsEvent b result a → LeadsOn b a
leads_next b a result p =
    let aside : NotesAside (begun p.event b.scene).noted a.scene.noted = events_note_aside b.next p.event (begun p.event b.scene) a.scene result p.plays in
    record {
      events = p.events;
      sectors = events_keep_sectors b.next p.event (begun p.event b.scene) a.scene result p.plays;
      next = omega (arith, p.next);
      work = (let h : work_left a < work_left b = next_works b a result p in omega (arith, h));
      sound = λ s. record {
        schedule = ap reverse aside.events ∙ reverse-append (p.event ∷ []) (map event_of b.scene.noted.groups)
            ∙ ap (λ (l : List Event). l ++ p.event ∷ []) s.schedule ∙ sym (take_more b.events b.next p.event p.is)
            ∙ ap (λ (n : ℕ). take n b.events) (let h : suc b.next ≡ a.next = omega (arith, p.next) in h)
            ∙ ap (λ (l : List Event). take a.next l) (sym p.events);
      };
    }

leads_far : (b a : RunState) (result : Option Incoming) → Advances b result a → LeadsOn b a
leads_far b _ _ Stays = leads_stays b
leads_far b a _ (Goes m _ result before last) = leads_joins b m a (leads_far b m None before) (leads_next m a result last)

-- a note within an event
leads_noted : (b : RunState) (e : LogEntry) → is_beginning e ≡ false → LeadsOn b (noting e b)
leads_noted b e within = leads_same b (noting e b) refl refl refl (omega arith) (omega arith) (entry_events e b.scene.noted within)

-- that the device was given up is told
leads_paid : (b : RunState) → LeadsOn b (paid b)
leads_paid b = leads_same b (paid b) refl refl refl (omega arith) (omega arith) refl

-- the link ends
leads_ended : (b : RunState) → LeadsOn b (ended b)
leads_ended b = leads_same b (ended b) refl refl refl (omega arith) (omega arith) refl

-- memory is wanted
leads_starving : (b : RunState) → LeadsOn b (starving b)
leads_starving b = leads_same b (starving b) refl refl refl (omega arith) (omega arith) refl

-- nothing comes any more
leads_to_end : (b a : RunState) → ComesToEnd b a → LeadsOn b a
leads_to_end b a (IsRunOut _ far spent) = leads_far b a None far
leads_to_end b _ (IsStarved a far) = leads_joins b a (starving a) (leads_far b a None far) (leads_starving a)

lines_keep_sectors : (to : Endpoint) (r : BlockRequest) (b d : Disks) (result : Result (Unit {0}) LinkRefusal) → LinesUp to r b result d
    → length d.media.sectors ≡ length b.media.sectors
lines_keep_sectors to r b _ _ (NoneIsThere none) = refl
lines_keep_sectors to r b _ _ (LineIsFull there full) = refl
lines_keep_sectors to r b _ _ (IsLinedUp there few) = refl

pub turns_lead_on : (b a : RunState) (told : Told) → Turn b told a → LeadsOn b a
turns_lead_on b _ _ (Takes message a far) = leads_joins b a (noting (entry.Received message) a) (leads_far b a (Some message) far) (leads_noted a (entry.Received message) refl)
turns_lead_on b _ _ (TakesOwed live owed first) =
    leads_joins b (paid b) (noting (entry.Received incoming.GaveUp) (paid b)) (leads_paid b) (leads_noted (paid b) (entry.Received incoming.GaveUp) refl)
turns_lead_on b _ _ (TakesEnd a live ends) = leads_joins b a (ended a) (leads_to_end b a ends) (leads_ended a)
turns_lead_on b _ _ (Posts to r result d unended lines) =
    leads_same b (posted to r (is_ok result) d b) (lines_keep_sectors to r b.scene.disks d result lines) refl refl (omega arith) (omega arith) (entry_events (entry.Posted to r (is_ok result)) b.scene.noted refl)
turns_lead_on b _ _ (Complains about) =
    leads_same b (complained about b) refl refl refl (omega arith) (omega arith)
    (entry_events (entry.Complained about (is_fault (ruling_at about b.scene))) b.scene.noted refl)

pub servers_lead_on : ServersLeadOn
servers_lead_on b _ Still = leads_stays b
servers_lead_on b a (Further m _ told before last) = leads_joins b m a (servers_lead_on b m before) (turns_lead_on m a told last)

pub asides_lead_on : AsidesLeadOn
asides_lead_on b _ _ (HandsEvent message a next) = record {
  leads = leads_joins b a (noting (entry.Handed message) a) (leads_next b a (Some message) next) (leads_noted a (entry.Handed message) refl);
  less = next_works b a (Some message) next;
}
asides_lead_on b _ _ (HandsNone a next) = record { leads = leads_next b a None next; less = next_works b a None next }
asides_lead_on b _ _ (HandsOwed live owed first) = record {
  leads = leads_joins b (paid b) (noting (entry.Handed incoming.GaveUp) (paid b)) (leads_paid b) (leads_noted (paid b) (entry.Handed incoming.GaveUp) refl);
  less = (let h : unless_told b.told ≡ 1 = ap unless_told first in omega (arith, h));
}
asides_lead_on b _ _ (HandsNothing error) = record { leads = leads_starving b; less = tt }

less_waits : (queue : List Arrived) (first : Option Arrived) (rest : ℕ) (told : ℕ) → first ≡ slice_get queue 0
    → OnSome first (rest + length (drop 1 queue) + told < rest + length queue + told)
less_waits [] first rest told is = subst (λ (o : Option Arrived). OnSome o (rest + 0 + told < rest + 0 + told)) (sym is) tt
less_waits (x ∷ queue) first rest told is =
    subst (λ (o : Option Arrived). OnSome o (rest + length queue + told < rest + length (x ∷ queue) + told)) (sym is) (omega arith)

pub calls_lead_on : CallsLeadOn
calls_lead_on b a result hands = subst (λ (p : RunState). CallLeads b result p) (sym hands.after) (record {
  leads = leads_same b (record b { queue = drop 1 b.queue }) refl refl refl (fewer b.queue) (omega arith) refl;
  less = less_waits b.queue result (2 * (length b.events - b.next)) (unless_told b.told) hands.first;
}) where
  fewer : (queue : List Arrived) → length (drop 1 queue) ≤ length queue
  fewer [] = omega arith
  fewer (x ∷ queue) = omega arith

pub answers_lead_on : AnswersLeadOn
answers_lead_on b a arrived reply (Ok done) is =
    subst (λ (p : RunState). LeadsOn b p) (sym is) (leads_noted b (entry.Took arrived.who arrived.now arrived.call reply) refl)
answers_lead_on b a arrived reply (Err error) is = subst (λ (p : RunState). LeadsOn b p) (sym is) (leads_starving b)
