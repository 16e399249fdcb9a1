-- That the device was given up is told only where the record says so.
use Rattle.std.proofs.Common.{◌≡◌, List, ◌∷◌, Bool, true, false, cond, refl, sym, ◌∙◌, ap}
use Rattle.std.specs.Prelude.{Option, Some, None, is_ok}
use Rattle.message.specs.declared.Incoming.{Incoming}
use Rattle.message.specs.declared.Incoming.TheVariants as incoming
use Rattle.tree.specs.Answers.{answer_of}
use Rattle.records.specs.Marks.{Mark, Issued, Fault, Answered, Started, GaveUp, Flush, Took, gave_up}
use Rattle.records.specs.declared.marks.Cause.TheVariants.{Complaint}
use Rattle.records.specs.Open.{counts}
use Rattle.records.specs.Told.{Told, received}
use Rattle.schedule.proofs.FaultlessLaws.{faults_change_nothing}
use Rattle.schedule.specs.declared.log.LogEntry.{LogEntry}
use Rattle.schedule.specs.declared.log.LogEntry.TheVariants as entry
use Rattle.schedule.specs.Noted.{Noted, marks_in, with_entry}
use Rattle.schedule.proofs.NotedLaws.{mark_in, message_in}
use Rattle.simulated_link.specs.Kept.{NotesAside}
use Rattle.simulated_link.specs.Ruling.{is_fault}
use Rattle.simulated_link.proofs.Keeping.{events_note_aside}
use Rattle.simulated_link.specs.StateView.{RunState, begun, noting, ended, starving, posted, complained, ruling_at, RunsEvent, Advances, Stays, Goes, ComesToEnd, IsRunOut, IsStarved, Turn, Takes, TakesOwed, TakesEnd, Posts, Complains, Still, Further, HandsEvent, HandsNone, HandsOwed, HandsNothing}
use Rattle.simulated_link.specs.Laws.{IsToldTruly, ServersTellTruly, AsidesTellTruly}

-- a device stays given up
given_mark : (m : Mark) (marks : List Mark) → gave_up marks ≡ true → gave_up (m ∷ marks) ≡ true
given_mark (Started e) marks h = h
given_mark (Answered a) marks h = h
given_mark Flush marks h = h
given_mark GaveUp marks h = refl
given_mark (Took who now call answer) marks h = h
given_mark (Issued r e) marks h = h
given_mark (Fault e cause) marks h = h

given_message : (m : Incoming) (marks : List Mark) → gave_up marks ≡ true → gave_up (received m marks) ≡ true
given_message (incoming.Reply a) marks h = by (counts marks a) where
  by : (c : Bool) → gave_up (cond c (Answered a ∷ marks) marks) ≡ true
  by true = h
  by false = h
given_message (incoming.Started e) marks h = h
given_message incoming.GaveUp marks h = refl
given_message incoming.Flush marks h = h
given_message incoming.End marks h = h

given_entry : (e : LogEntry) (n : Noted) → gave_up (marks_in n) ≡ true → gave_up (marks_in (with_entry e n)) ≡ true
given_entry (entry.Begun event) n h = h
given_entry (entry.Posted to r true) n h = ap gave_up (mark_in (Issued r to) n) ∙ given_mark (Issued r to) (marks_in n) h
given_entry (entry.Posted to r false) n h = h
given_entry (entry.Complained e true) n h = ap gave_up (mark_in (Fault e Complaint) n) ∙ given_mark (Fault e Complaint) (marks_in n) h
given_entry (entry.Complained e false) n h = h
given_entry (entry.Received m) n h = ap gave_up (message_in m n) ∙ given_message m (marks_in n) h
given_entry (entry.Handed m) n h = ap gave_up (message_in m n) ∙ given_message m (marks_in n) h
given_entry (entry.Faulted e cause) n h = ap gave_up (mark_in (Fault e cause) n) ∙ given_mark (Fault e cause) (marks_in n) h
given_entry (entry.Took who now call reply) n h =
    ap gave_up (mark_in (Took who now call (answer_of reply)) n) ∙ given_mark (Took who now call (answer_of reply)) (marks_in n) h

given_aside : (b a : Noted) → NotesAside b a → gave_up (marks_in b) ≡ true → gave_up (marks_in a) ≡ true
given_aside b a aside h =
    sym (faults_change_nothing (marks_in a)).given_up ∙ ap gave_up aside.marks ∙ (faults_change_nothing (marks_in b)).given_up ∙ h

truly_same : (b a : RunState) → a.told ≡ b.told → (gave_up (marks_in b.scene.noted) ≡ true → gave_up (marks_in a.scene.noted) ≡ true) → IsToldTruly b → IsToldTruly a
truly_same b a same given h = record { told = λ is. given (h.told (sym same ∙ is)) }

truly_noted : (b : RunState) (e : LogEntry) → IsToldTruly b → IsToldTruly (noting e b)
truly_noted b e h = truly_same b (noting e b) refl (given_entry e b.scene.noted) h

truly_next : (b a : RunState) (result : Option Incoming) → RunsEvent b result a → IsToldTruly b → IsToldTruly a
truly_next b a result p h = truly_same b a p.told
    (given_aside (begun p.event b.scene).noted a.scene.noted (events_note_aside b.next p.event (begun p.event b.scene) a.scene result p.plays)) h

truly_far : (b a : RunState) (result : Option Incoming) → Advances b result a → IsToldTruly b → IsToldTruly a
truly_far b _ _ Stays h = h
truly_far b a _ (Goes m _ result before last) h = truly_next m a result last (truly_far b m None before h)

truly_to_end : (b a : RunState) → ComesToEnd b a → IsToldTruly b → IsToldTruly a
truly_to_end b a (IsRunOut _ far spent) h = truly_far b a None far h
truly_to_end b _ (IsStarved a far) h = truly_same a (starving a) refl (λ given. given) (truly_far b a None far h)

truly_turn : (b a : RunState) (told : Told) → Turn b told a → IsToldTruly b → IsToldTruly a
truly_turn b _ _ (Takes message a far) h = truly_noted a (entry.Received message) (truly_far b a (Some message) far h)
truly_turn b _ _ (TakesOwed live owed first) h = record { told = λ is. ap gave_up (message_in incoming.GaveUp b.scene.noted) }
truly_turn b _ _ (TakesEnd a live ends) h = truly_same a (ended a) refl (λ given. given) (truly_to_end b a ends h)
truly_turn b _ _ (Posts to r result d unended lines) h =
    truly_same b (posted to r (is_ok result) d b) refl (given_entry (entry.Posted to r (is_ok result)) b.scene.noted) h
truly_turn b _ _ (Complains about) h =
    truly_same b (complained about b) refl (given_entry (entry.Complained about (is_fault (ruling_at about b.scene))) b.scene.noted) h

pub servers_tell_truly : ServersTellTruly
servers_tell_truly b _ Still h = h
servers_tell_truly b a (Further m _ told before last) h = truly_turn m a told last (servers_tell_truly b m before h)

pub asides_tell_truly : AsidesTellTruly
asides_tell_truly b _ _ (HandsEvent message a next) h = truly_noted a (entry.Handed message) (truly_next b a (Some message) next h)
asides_tell_truly b _ _ (HandsNone a next) h = truly_next b a None next h
asides_tell_truly b _ _ (HandsOwed live owed first) h = record { told = λ is. ap gave_up (message_in incoming.GaveUp b.scene.noted) }
asides_tell_truly b _ _ (HandsNothing error) h = truly_same b (starving b) refl (λ given. given) h
