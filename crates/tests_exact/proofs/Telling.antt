-- What the link is told and gives at a step: what the rules allow, and the message that the next event brings.
use Rattle.std.specs.Prelude.{◌≡◌, ◌⊎◌, ◌≤◌, suc, List, [], ◌∷◌, length, Bool, true, false, Option, Some, None, Result, cond}
use Rattle.std.specs.Prelude.{refl, is_ok, slice_get}
use Rattle.std.proofs.Common.{arith, ap, sym, ◌∙◌, subst, inl, inr}
use Rattle.lemmas.proofs.Options.{some_same}
use Rattle.message.specs.declared.endpoint.Endpoint.{Endpoint}
use Rattle.message.specs.declared.BlockRequest.{BlockRequest}
use Rattle.message.specs.declared.Incoming.{Incoming}
use Rattle.message.specs.declared.Incoming.TheVariants as incoming
use Rattle.records.specs.Area.{Area}
use Rattle.records.specs.Marks.{Mark, Issued, Fault, Took}
use Rattle.records.specs.declared.marks.Cause.TheVariants.{Complaint}
use Rattle.tree.specs.Answers.{answer_of}
use Rattle.records.specs.Acts.{AtLink, MayAct}
use Rattle.records.specs.Told.{Told, Posted, Complained, Received, took_end}
use Rattle.schedule.specs.Groups.{Group}
use Rattle.schedule.specs.Noted.{Noted, grouped, with_mark, with_entry}
use Rattle.schedule.specs.declared.Event.{Event}
use Rattle.schedule.specs.declared.log.LogEntry.TheVariants as entry
use Rattle.reissue.specs.declared.link.LinkRefusal.{LinkRefusal}
use Rattle.simulated_link.specs.Disks.{Disks, is_at, LinesUp, NoneIsThere, LineIsFull, IsLinedUp}
use Rattle.simulated_link.specs.Moments.{Moment, record_of, Step, Begins, Tells, Takes, Settles, Brings, BringsNone, Pays, HandsCall}
use Rattle.simulated_link.specs.Moments.{Replies}
use Rattle.simulated_link.specs.Ruling.{is_fault}
use Rattle.simulated_link.specs.RunState.{begun}
use Rattle.simulated_link.specs.Scene.{Scene, Occurs}
use Rattle.simulated_link.specs.StateView as link
use Rattle.simulated_link.specs.StateView.{RunState, RunsEvent, Advances, Stays, Goes, Turn, paid, ruling_at}
use Rattle.simulated_link.proofs.MovingLaws.{message_history, to_end_history}
use Rattle.simulated_link.proofs.Running.{next_history}
use Rattle.tests_exact.proofs.Only.{runs_this}

-- what the link was told and gave so far
abbrev pub history : RunState → List Told
history p = p.scene.noted.history

-- no list is longer than itself
no_longer : {A : Type 0} (x : A) (xs : List A) → xs ≡ x ∷ xs → ⊥
no_longer x xs same = let h : length xs ≡ suc (length xs) = ap length same in omega (arith, h)

-- a mark adds nothing to it
mark_history : (m : Mark) (n : Noted) → (with_mark m n).history ≡ n.history
mark_history m n = by n.groups where
  by : (groups : List Group) → (grouped m groups n.first n).history ≡ n.history
  by [] = refl
  by (g ∷ groups) = refl

post_history : (to : Endpoint) (r : BlockRequest) (accepted : Bool) (n : Noted)
    → (with_entry (entry.Posted to r accepted) n).history ≡ Posted to r accepted ∷ n.history
post_history to r true n = ap (λ (l : List Told). Posted to r true ∷ l) (mark_history (Issued r to) n)
post_history to r false n = refl

complaint_history : (about : Endpoint) (fault : Bool) (n : Noted)
    → (with_entry (entry.Complained about fault) n).history ≡ Complained about ∷ n.history
complaint_history about true n = ap (λ (l : List Told). Complained about ∷ l) (mark_history (Fault about Complaint) n)
complaint_history about false n = refl

-- the first of these is the one that was told
heads : {A : Type 0} {x y : A} {xs ys : List A} → x ∷ xs ≡ y ∷ ys → x ≡ y
heads same = cc

ended_history : (l : List Told) (told : Told) → cond (took_end l) l (Received incoming.End ∷ l) ≡ told ∷ l → Received incoming.End ≡ told
ended_history l told = by (took_end l) where
  by : (c : Bool) → cond c l (Received incoming.End ∷ l) ≡ told ∷ l → Received incoming.End ≡ told
  by true same = absurd (no_longer told l same)
  by false same = heads same

-- what a turn adds to it is what the link was told by it
turn_told : (b a : RunState) (t told : Told) → Turn b t a → history a ≡ told ∷ history b → t ≡ told
turn_told b _ _ told (link.Takes message a far) same =
    heads (sym (ap (λ (l : List Told). Received message ∷ l) (message_history message a.scene.noted)) ∙ same)
turn_told b _ _ told (link.TakesOwed live owed first) same =
    heads (sym (ap (λ (l : List Told). Received incoming.GaveUp ∷ l) (message_history incoming.GaveUp b.scene.noted)) ∙ same)
turn_told b _ _ told (link.TakesEnd a live ends) same =
    let h : history a ≡ history b = to_end_history b a ends in
    ended_history (history a) told (same ∙ ap (λ (l : List Told). told ∷ l) (sym h))
turn_told b _ _ told (link.Posts to r result d live lines) same = heads (sym (post_history to r (is_ok result) b.scene.noted) ∙ same)
turn_told b _ _ told (link.Complains about) same =
    heads (sym (complaint_history about (is_fault (ruling_at about b.scene)) b.scene.noted) ∙ same)

-- the rules allow that the link is told or gives this, and a turn does it
pub record IsAllowed (area : Area) (m : Moment) (told : Told) : Type 0 where
  pub may : MayAct area (record_of m.run) m.outbox (AtLink told)
  pub after : RunState
  pub turn : Turn m.run told after

pub told_is_allowed : (area : Area) (m a : Moment) (told : Told) → Step area m a → history a.run ≡ told ∷ history m.run
    → IsAllowed area m told
told_is_allowed area m _ told (Begins r busy may) same = absurd (no_longer told (history m.run) same)
told_is_allowed area m _ told (Tells t a busy nothing may turn) same =
    subst (λ (x : Told). IsAllowed area m x) (turn_told m.run a t told turn same) (record { may = may; after = a; turn = turn })
told_is_allowed area m _ told (Takes message call a answers may turn) same =
    subst (λ (x : Told). IsAllowed area m x) (turn_told m.run a (Received message) told turn same)
    (record { may = may; after = a; turn = turn })
told_is_allowed area m _ told (Settles message hears calm) same = absurd (no_longer told (history m.run) same)
told_is_allowed area m _ told (Brings message a between none runs) same =
    absurd (no_longer told (history m.run) (sym (message_history message a.scene.noted ∙ next_history m.run a (Some message) runs) ∙ same))
told_is_allowed area m _ told (BringsNone a between none runs) same =
    absurd (no_longer told (history m.run) (sym (next_history m.run a None runs) ∙ same))
told_is_allowed area m _ told (Pays between owed first) same =
    absurd (no_longer told (history m.run) (sym (message_history incoming.GaveUp (paid m.run).scene.noted) ∙ same))
told_is_allowed area m _ told (HandsCall call a between settled hands) same =
    absurd (no_longer told (history m.run) (sym (ap history hands.after) ∙ same))
told_is_allowed area m _ told (Replies call reply answers live calm) same =
    let took : Mark = Took call.who call.now call.call (answer_of reply) in
    absurd (no_longer told (history m.run) (sym (mark_history took m.run.scene.noted) ∙ same))

-- an event that brings a message is the last that a take runs
stays : (b m : RunState) → ((a : RunState) → RunsEvent b None a → ⊥) → Advances b None m → m ≡ b
stays b _ none Stays = refl
stays b a none (Goes m _ _ before last) = absurd (none a (subst (λ (x : RunState). RunsEvent x None a) (stays b m none before) last))

-- where the next event brings this message whatever one picks, a take gives it
pub takes_this : (b a : RunState) (event : Event) (this message : Incoming) → slice_get b.events b.next ≡ Some event
    → ((r : Option Incoming) (s : Scene) → Occurs b.next event (begun event b.scene) r s → r ≡ Some this) → Advances b (Some message) a
    → message ≡ this
takes_this b a event this message is brings (Goes m _ _ before last) =
    let none : (x : RunState) → RunsEvent b None x → ⊥ =
    (λ x runs. let h : None ≡ Some this = brings None x.scene (runs_this b x None event is runs).0 in cc) in
    let runs : RunsEvent b (Some message) a = subst (λ (x : RunState). RunsEvent x (Some message) a) (stays b m none before) last in
    some_same message this (brings (Some message) a.scene (runs_this b a (Some message) event is runs).0)

-- a driver is at this endpoint, or none is there or it is full
abbrev pub Answers : Endpoint → Disks → Bool → Type 0
Answers to d true = is_at to d ≡ true
Answers to d false = (is_at to d ≡ false) ⊎ (32 ≤ length d.current.line)

-- where nothing is owed, what a turn gives is that message, or that there is none
pub turn_gives : (b a : RunState) (told : Told) (event : Event) (this message : Incoming) → b.owed ≡ false
    → slice_get b.events b.next ≡ Some event
    → ((r : Option Incoming) (s : Scene) → Occurs b.next event (begun event b.scene) r s → r ≡ Some this) → Turn b told a
    → told ≡ Received message → (message ≡ this) ⊎ (message ≡ incoming.End)
turn_gives b _ _ event this message paid is brings (link.Takes other a far) same =
    let first : other ≡ message = cc in inl (sym first ∙ takes_this b a event this other is brings far)
turn_gives b _ _ event this message paid is brings (link.TakesOwed live owed first) same = let h : true ≡ false = sym owed ∙ paid in cc
turn_gives b _ _ event this message paid is brings (link.TakesEnd a live ends) same = let end : message ≡ incoming.End = cc in inr end
turn_gives b _ _ event this message paid is brings (link.Posts to r result d live lines) same = cc
turn_gives b _ _ event this message paid is brings (link.Complains about) same = cc

-- whether a post is taken is no choice of the server's: only a driver that is there takes it, and only one that isn't or is full refuses it
pub post_is_so : (b a : RunState) (told : Told) (to : Endpoint) (r : BlockRequest) (accepted : Bool) → Turn b told a
    → told ≡ Posted to r accepted → Answers to b.scene.disks accepted
post_is_so b _ _ to r accepted (link.Posts other q result d live lines) same =
    let there : other ≡ to = cc in
    let is : is_ok result ≡ accepted = cc in
    subst (λ (c : Bool). Answers to b.scene.disks c) is
    (subst (λ (e : Endpoint). Answers e b.scene.disks (is_ok result)) there (by result d lines)) where
      by : (x : Result (Unit {0}) LinkRefusal) (e : Disks) → LinesUp other q b.scene.disks x e → Answers other b.scene.disks (is_ok x)
      by _ _ (NoneIsThere none) = inl none
      by _ _ (LineIsFull at full) = inr full
      by _ _ (IsLinedUp at room) = at
post_is_so b _ _ to r accepted (link.Takes message a far) same = cc
post_is_so b _ _ to r accepted (link.TakesOwed live owed first) same = cc
post_is_so b _ _ to r accepted (link.TakesEnd a live ends) same = cc
post_is_so b _ _ to r accepted (link.Complains about) same = cc
