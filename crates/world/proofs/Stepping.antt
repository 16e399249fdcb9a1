-- What is done between two calls, a message that is handed over and a call are steps of a run by the rules.
use Rattle.std.proofs.Common.{◌≡◌, ◌⊎◌, ◌+◌, List, [], ◌∷◌, ◌++◌, Bool, true, false, cond, refl, sym, ◌∙◌, ap, subst, inl, inr}
use Rattle.std.specs.Prelude.{◌||◌, Option, Some, None, Ok, drop, slice_get}
use Rattle.message.specs.declared.Incoming.{Incoming}
use Rattle.message.specs.declared.Incoming.TheVariants as incoming
use Rattle.tree.specs.Tree.{Tree}
use Rattle.tree.specs.declared.Reply.{Reply}
use Rattle.tree.specs.Answers.{answer_of}
use Rattle.records.specs.Marks.{Mark, Took}
use Rattle.records.specs.Opening.{Opening, contents_at}
use Rattle.records.specs.Told.{Told, Posted, Complained, Received, received, took_end, took_nothing}
use Rattle.records.specs.Acts.{Act, Began, Absorbed, AtLink, Outbox, told_of, marks_after, outbox_after, owed_after_message, IsAtRest}
use Rattle.records.specs.ServerCall.{Serving, Serves, Outcome, Rules}
use Rattle.records.specs.Area.{Area}
use Rattle.reissue.specs.Calls.{Truth}
use Rattle.schedule.specs.declared.log.LogEntry.TheVariants as entry
use Rattle.schedule.specs.declared.arrived.Arrived.{Arrived}
use Rattle.simulated_link.specs.StateView.{RunState, noting, paid, RunsEvent, GoesOn, Asides, HandsEvent, HandsNone, HandsOwed, HandsOut}
use Rattle.simulated_link.specs.Laws.{IsToldOfEnd}
use Rattle.simulated_link.specs.Moments.{Doing, Resting, Hearing, Answering, Moment, record_of, Step, Settles, Brings, BringsNone, Pays, HandsCall, Replies, Runs, Starts, Then}
use Rattle.simulated_link.proofs.MovingLaws.{message_history}
use Rattle.simulated_link.proofs.Running.{history_of, next_record, next_history, handed_record, Reaches, acts_run, acts_after, ActsAfter, marks_after_message}
use Rattle.file_server.specs.Over.{AbsorbsOver, CallSpecification}
use Rattle.world.specs.Runs.{area_at, moment, IsNext, doing_of}

-- a message handed over is no take
pub no_end : (told : List Told) → took_nothing told ≡ true → took_end told ≡ false
no_end [] nothing = refl
no_end (Posted to r accepted ∷ told) nothing = no_end told nothing
no_end (Complained e ∷ told) nothing = no_end told nothing
no_end (Received message ∷ told) nothing = cc

pub told_absorbed : (acts : List Act) (message : Incoming) → told_of (acts ++ Absorbed message ∷ []) ≡ told_of acts
told_absorbed [] message = refl
told_absorbed (Began r ∷ acts) message = told_absorbed acts message
told_absorbed (Absorbed m ∷ acts) message = told_absorbed acts message
told_absorbed (AtLink told ∷ acts) message = ap (λ (l : List Told). told ∷ l) (told_absorbed acts message)

-- an End among these, or before them
end_joined : (told before : List Told) → took_end (told ++ before) ≡ (took_end told || took_end before)
end_joined [] before = refl
end_joined (Posted to r accepted ∷ told) before = end_joined told before
end_joined (Complained e ∷ told) before = end_joined told before
end_joined (Received incoming.End ∷ told) before = refl
end_joined (Received (incoming.Reply a) ∷ told) before = end_joined told before
end_joined (Received (incoming.Started e) ∷ told) before = end_joined told before
end_joined (Received incoming.GaveUp ∷ told) before = end_joined told before
end_joined (Received incoming.Flush ∷ told) before = end_joined told before

-- the link has ended exactly where the server knows of an End
pub over_is_ended : (s t : Serving) (b a : RunState) (told : List Told) → IsToldOfEnd b → IsToldOfEnd a → history_of a ≡ told ++ history_of b
    → t.ended ≡ (took_end told || s.ended) → s.ended ≡ b.over → a.over ≡ t.ended
over_is_ended s t b a told before after history ended same =
    sym after.is ∙ ap took_end history ∙ end_joined told (history_of b)
    ∙ ap (λ (x : Bool). took_end told || x) (before.is ∙ sym same) ∙ sym ended

-- what is done between two calls leaves whether the link was told of an End
asides_history : (b a : RunState) (r : Option Incoming) → Asides b (Ok r) a → history_of a ≡ history_of b
asides_history b _ _ (HandsEvent message a next) = message_history message a.scene.noted ∙ next_history b a (Some message) next
asides_history b a _ (HandsNone _ next) = next_history b a None next
asides_history b _ _ (HandsOwed live owed first) = message_history incoming.GaveUp b.scene.noted

pub asides_over : (b a : RunState) (r : Option Incoming) → Asides b (Ok r) a → a.over ≡ b.over
asides_over b _ _ (HandsEvent message a next) = next.over
asides_over b a _ (HandsNone _ next) = next.over
asides_over b _ _ (HandsOwed live owed first) = refl

pub asides_told : (b a : RunState) (r : Option Incoming) → Asides b (Ok r) a → IsToldOfEnd b → IsToldOfEnd a
asides_told b a r asides told = record { is = ap took_end (asides_history b a r asides) ∙ told.is ∙ sym (asides_over b a r asides) }

-- it leaves the mark of the message that came
pub asides_record : (b a : RunState) (message : Incoming) → Asides b (Ok (Some message)) a → record_of a ≡ received message (record_of b)
asides_record b _ message (HandsEvent _ a next) = handed_record message a ∙ ap (received message) (next_record b a (Some message) next)
asides_record b _ _ (HandsOwed live owed first) = handed_record incoming.GaveUp (paid b)

pub quiet_record : (b a : RunState) → Asides b (Ok None) a → record_of a ≡ record_of b
quiet_record b a (HandsNone _ next) = next_record b a None next

no_both : {A : Type 0} → ◌≡◌ {A = Bool} true false → A
no_both h = cc

-- an event between two calls is run where none waits
none_waits : (b a : RunState) (r : Option Incoming) → RunsEvent b r a → (b.owed ≡ true) ⊎ IsNext b → b.queue ≡ []
none_waits b a r next (inl owed) = no_both (sym owed ∙ next.paid)
none_waits b a r next (inr left) = left.queue

-- it is a step
pub aside_step : (area : Area) (b a : RunState) (o : Outbox) (message : Incoming) → Asides b (Ok (Some message)) a → b.over ≡ false → IsAtRest (record_of b) o
    → (b.owed ≡ true) ⊎ IsNext b
    → Step area (record { run = b; outbox = o; doing = Resting })
    (record { run = a; outbox = owed_after_message message (record_of b) o; doing = Hearing message })
aside_step area b _ o message (HandsEvent _ a next) live rest left =
    Brings message a (record { rests = refl; live = live; at_rest = rest }) (none_waits b a (Some message) next left) next
aside_step area b _ o _ (HandsOwed over owed first) live rest left = Pays (record { rests = refl; live = live; at_rest = rest }) owed first

pub quiet_step : (area : Area) (b a : RunState) (o : Outbox) → Asides b (Ok None) a → b.over ≡ false → IsAtRest (record_of b) o → (b.owed ≡ true) ⊎ IsNext b
    → Step area (record { run = b; outbox = o; doing = Resting }) (record { run = a; outbox = o; doing = Resting })
quiet_step area b a o (HandsNone _ next) live rest left =
    BringsNone a (record { rests = refl; live = live; at_rest = rest }) (none_waits b a None next left) next

-- just one event is run, unless what is owed was told
pub asides_next : (b a : RunState) (r : Option Incoming) → Asides b (Ok r) a → a.next ≡ cond b.owed b.next (b.next + 1)
asides_next b _ _ (HandsEvent message a next) = next.next ∙ sym (ap (λ (x : Bool). cond x b.next (b.next + 1)) next.paid)
asides_next b a _ (HandsNone _ next) = next.next ∙ sym (ap (λ (x : Bool). cond x b.next (b.next + 1)) next.paid)
asides_next b _ _ (HandsOwed live owed first) = sym (ap (λ (x : Bool). cond x b.next (b.next + 1)) owed)

-- with what the server owes then
pub owing : (area : Area) (x : Moment) (p : RunState) (o q : Outbox) (doing : Doing) → o ≡ q → Runs area x (record { run = p; outbox = o; doing = doing })
    → Runs area x (record { run = p; outbox = q; doing = doing })
owing area x p o q doing same runs = subst (λ (k : Outbox). Runs area x (record { run = p; outbox = k; doing = doing })) same runs

pub owing_first : (area : Area) (p : RunState) (o q : Outbox) (doing : Doing) (x : Moment) → o ≡ q → Runs area (record { run = p; outbox = o; doing = doing }) x
    → Runs area (record { run = p; outbox = q; doing = doing }) x
owing_first area p o q doing x same runs = subst (λ (k : Outbox). Runs area (record { run = p; outbox = k; doing = doing }) x) same runs

-- the server is told what the link notes
pub knows_more : (s t : Serving) (b a : RunState) (told : List Told) → s.told ≡ history_of b → t.told ≡ history_of a → t.told ≡ told ++ s.told
    → history_of a ≡ told ++ history_of b
knows_more s t b a told first last more = sym last ∙ more ∙ ap (λ (l : List Told). told ++ l) first

pub absorbed_history : (s t : Serving) (was is : Truth) (b a : RunState) (message : Incoming) (absorbs : AbsorbsOver s t was is message) → s.told ≡ history_of b
    → t.told ≡ history_of a → history_of a ≡ told_of absorbs.keeps.later ++ history_of b
absorbed_history s t was is b a message absorbs first last =
    knows_more s t b a (told_of absorbs.keeps.later) first last
    (absorbs.keeps.leads.told ∙ ap (λ (l : List Told). l ++ s.told) (told_absorbed absorbs.keeps.later message))

-- a message that the link has noted is heard
pub absorb_runs : (s t : Serving) (was is : Truth) (b a : RunState) (message : Incoming) (v : Opening) (tree : Tree) (marks : List Mark)
    → AbsorbsOver s t was is message → GoesOn b a → IsToldOfEnd b → s.told ≡ history_of b → t.told ≡ history_of a → record_of b ≡ received message marks
    → Serves s (contents_at v) tree marks
    → Runs (area_at s) (record { run = b; outbox = owed_after_message message marks s.outbox; doing = Hearing message }) (moment t a Resting)
absorb_runs s t was is b a message v tree marks absorbs on told first last noted serves =
    let rules : Rules s (absorbs.keeps.later ++ Absorbed message ∷ []) t marks = absorbs.keeps.rules (contents_at v) tree marks serves.agrees in
    let after : ActsAfter (area_at s) absorbs.keeps.later message marks s.outbox = acts_after (area_at s) absorbs.keeps.later message marks s.outbox rules.keep in
    let o : Outbox = owed_after_message message marks s.outbox in
    let reaches : Reaches (area_at s) (Hearing message) b o absorbs.keeps.later (received message marks) a =
    acts_run (area_at s) (Hearing message) b o (received message marks) refl told noted absorbs.keeps.later a on
    (absorbed_history s t was is b a message absorbs first last) absorbs.keeps.none_absorbed absorbs.keeps.none_taken after.keep in
    let same : marks_after (absorbs.keeps.later ++ Absorbed message ∷ []) marks ≡ record_of a =
    marks_after_message absorbs.keeps.later message marks ∙ sym reaches.record_is in
    Then (moment t a (Hearing message)) (moment t a Resting)
    (owing (area_at s) (record { run = b; outbox = o; doing = Hearing message }) a (outbox_after absorbs.keeps.later (received message marks) o) t.outbox
    (Hearing message) (sym (rules.outbox ∙ after.outbox)) reaches.runs)
    (Settles message refl (subst (λ (l : List Mark). IsAtRest l t.outbox) same (absorbs.keeps.serves (contents_at v) tree marks serves).at_rest))

-- what is done in a call
pub record CallRuns (s t : Serving) (b a : RunState) (call : Arrived) (marks : List Mark) : Type 0 where
  pub runs : Runs (area_at s) (moment s b (Answering call)) (moment t a (Answering call))
  pub record_is : record_of a ≡ marks

pub call_history : (s t : Serving) (was is : Truth) (b a : RunState) (call : Arrived) (outcome : Outcome)
    (calls : CallSpecification s t was is call.who call.now call.call outcome) → s.told ≡ history_of b → t.told ≡ history_of a
    → history_of a ≡ told_of calls.keeps.acts ++ history_of b
call_history s t was is b a call outcome calls first last = knows_more s t b a (told_of calls.keeps.acts) first last calls.keeps.leads.told

pub call_runs : (s t : Serving) (was is : Truth) (b a : RunState) (call : Arrived) (outcome : Outcome) (v : Opening) (tree : Tree) (marks : List Mark)
    (calls : CallSpecification s t was is call.who call.now call.call outcome) → GoesOn b a → IsToldOfEnd b → s.told ≡ history_of b → t.told ≡ history_of a
    → record_of b ≡ marks → Serves s (contents_at v) tree marks → CallRuns s t b a call (marks_after calls.keeps.acts marks)
call_runs s t was is b a call outcome v tree marks calls on told first last noted serves =
    let rules : Rules s calls.keeps.acts t marks = calls.keeps.rules (contents_at v) tree marks serves.agrees in
    let reaches : Reaches (area_at s) (Answering call) b s.outbox calls.keeps.acts marks a =
    acts_run (area_at s) (Answering call) b s.outbox marks refl told noted calls.keeps.acts a on
    (call_history s t was is b a call outcome calls first last) calls.keeps.none_absorbed tt rules.keep in
    record {
      runs = owing (area_at s) (moment s b (Answering call)) a (outbox_after calls.keeps.acts marks s.outbox) t.outbox (Answering call) (sym rules.outbox) reaches.runs;
      record_is = reaches.record_is;
    }

-- its answer is noted
pub replied : (area : Area) (x : Moment) (p : RunState) (o : Outbox) (call : Arrived) (reply : Reply) (marks : List Mark)
    → Runs area x (record { run = p; outbox = o; doing = Answering call }) → p.over ≡ false → record_of p ≡ marks
    → IsAtRest (Took call.who call.now call.call (answer_of reply) ∷ marks) o
    → Runs area x (record { run = noting (entry.Took call.who call.now call.call reply) p; outbox = o; doing = Resting })
replied area x p o call reply marks runs live noted rest =
    Then (record { run = p; outbox = o; doing = Answering call })
    (record { run = noting (entry.Took call.who call.now call.call reply) p; outbox = o; doing = Resting }) runs
    (Replies call reply refl live (subst (λ (l : List Mark). IsAtRest l o) (sym noted) (record { complaint = rest.complaint; post = rest.post })))

no_first : (queue : List Arrived) → ◌≡◌ {A = Option Arrived} None (slice_get queue 0) → queue ≡ []
no_first [] is = refl
no_first (x ∷ queue) is = cc

-- none was handed out: nothing changed
pub same_left : (b a : RunState) → HandsOut b None a → a ≡ b
same_left b a hands = hands.after ∙ ap (λ (q : List Arrived). record b { queue = q }) (by (no_first b.queue hands.first)) where
  by : b.queue ≡ [] → drop 1 b.queue ≡ b.queue
  by empty = ap (λ (q : List Arrived). drop 1 q) empty ∙ sym empty

pub none_left : (b a : RunState) → HandsOut b None a → a.queue ≡ []
none_left b a hands = ap (λ (p : RunState). p.queue) (same_left b a hands) ∙ no_first b.queue hands.first

-- the call that is handed out, if one is
pub hands_run : (area : Area) (b a : RunState) (o : Outbox) (first : Option Arrived) → HandsOut b first a → b.over ≡ false → b.owed ≡ false
    → IsAtRest (record_of b) o
    → Runs area (record { run = b; outbox = o; doing = Resting }) (record { run = a; outbox = o; doing = doing_of first })
hands_run area b a o None hands live paid rest =
    subst (λ (p : RunState). Runs area (record { run = b; outbox = o; doing = Resting }) (record { run = p; outbox = o; doing = Resting }))
    (sym (same_left b a hands)) Starts
hands_run area b a o (Some call) hands live paid rest =
    Then (record { run = b; outbox = o; doing = Resting }) (record { run = a; outbox = o; doing = Answering call }) Starts
    (HandsCall call a (record { rests = refl; live = live; at_rest = rest }) paid hands)
