-- What holds under the lock of a service after each call, and what a session has of it.
use Rattle.std.proofs.Common.{◌≡◌, ◌≢◌, ℕ, List, [], ◌∷◌, Bool, true, false, refl, sym, ◌∙◌, ap, subst, Some, inl, inr}
use Rattle.std.specs.Prelude.{◌||◌, ◌↔◌, ◌⊎◌, ◌<◌, Result, Ok, Err, IsErrOf, IfErr, IfOk, if◌then◌else◌}
use Rattle.atomic_table.specs.Seated.{TableId}
use Rattle.layout.specs.declared.Geometry.{Geometry}
use Rattle.tree.specs.declared.Who.{Who}
use Rattle.tree.specs.declared.Call.{Call}
use Rattle.errno.specs.declared.Errno.{Errno}
use Rattle.errno.specs.declared.Errno.TheVariants.{EIO}
use Rattle.tree.specs.declared.Reply.{Reply}
use Rattle.tree.specs.declared.Reply.TheVariants as reply
use Rattle.tree.specs.declared.Reply.TheVariants.{Refused}
use Rattle.tree.specs.declared.Outcome.{Outcome as TreeOutcome}
use Rattle.tree.specs.declared.Outcome.TheVariants as tree
use Rattle.tree.specs.Tree.{Tree}
use Rattle.tree.specs.Answers.{Answer, answer_of, refused, done, descriptor, some_bytes, wrote, position, node_is, names_are, room_is}
use Rattle.message.specs.declared.Incoming.{Incoming}
use Rattle.message.specs.declared.Incoming.TheVariants as incoming
use Rattle.message.specs.declared.BlockReply.{BlockReply}
use Rattle.records.specs.Marks.{Mark, Took, Answered, gave_up}
use Rattle.records.specs.Open.{counts}
use Rattle.records.specs.Disk.{Contents, HasTrueReplies}
use Rattle.records.specs.Acts.{Act, Began, Absorbed, AtLink, told_of, has_absorbed, marks_after}
use Rattle.records.specs.Opening.{Opening, contents_at}
use Rattle.records.specs.Told.{Told, Posted, Complained, Received, received, with_told, grown, took_end}
use Rattle.bdev.specs.DriverState.{DriverState}
use Rattle.reincarnate.specs.declared.policy.Policy.{Policy}
use Rattle.records.specs.Legal.{IsAtFirst, IsLegal}
use Rattle.records.specs.Mount.{OpenKeeps, MountKeeps}
use Rattle.records.specs.ServerCall.{Serving, Outcome, Replied, Cut, with_outcome}
use Rattle.records.specs.Session.{SessionCallKeeps, went_on}
use Rattle.reissue.specs.declared.link.Link.{Ghosts as LinkWords}
use Rattle.reissue.specs.Calls.{Truth}
use Rattle.file_server.specs.Over.{CallSpecification, SameServing, Stands, outcome_of}
use Rattle.file_server.specs.Leaving.{IsEndLast}
use Rattle.file_server.proofs.Leaving.{cut_leaves, took_either}
use Rattle.file_server.proofs.Standing.{serves_same, same_stands}
use Rattle.board.specs.View.{View, SeatState, session_for, is_used}
use Rattle.board.specs.Steps.{SessionLearns, SessionIsNew}
use Rattle.board.specs.declared.counting.parameters.ServiceParameters.{Ghosts as RoomWords}
use Rattle.shared_server.specs.Recorder.{SameServer}
use Rattle.shared_server.specs.Descriptors.{is_done, succeeded}
use Rattle.shared_server.specs.declared.refusal.SessionRefusal.{SessionRefusal}
use Rattle.shared_server.specs.declared.refusal.SessionRefusal.TheVariants.{TooMany, Stopped, OutOfMemory}
use Rattle.shared_server.specs.Held.{AddsCall, HoldsIfTrue, IsHeld, IsGood, IsGuaranteed, IsNotAdmitted, IsSound}

-- what servers and links keep, whichever they are
pub record Kept {N S L : Type 0} (room : RoomWords N) (link : LinkWords L) (serving : S → Serving) (line : S → L)
    (runs_on : L → Policy → List DriverState → Type 0) (record_in : L → List Mark) : Type 0 where
  pub tells : (s : S) → (serving s).told ≡ link.history (line s)
  pub is_record : (l : L) (older : List Mark) → link.truth l room.opening older → record_in l ≡ older
  pub end_last : (l : L) (older : List Mark) → link.truth l room.opening older → IsEndLast (link.history l)
  pub keeps_on : (l m : L) → link.goes_on l m → runs_on l room.policy room.supply → runs_on m room.policy room.supply

-- a call, and what was done at the link then: an answer was counted
pub record Called {N S L : Type 0} (room : RoomWords N) (link : LinkWords L) (serving : S → Serving) (line : S → L) (is_ready : S → Type 0)
    (runs_on : L → Policy → List DriverState → Type 0) (who : Who) (now : ℕ) (call : Call) (outcome : Outcome) (old mid new : S) : Type 0 where
  pub calls : CallSpecification (serving old) (serving mid) (link.truth (line old)) (link.truth (line mid)) who now call outcome
  pub ready : is_ready mid
  pub goes : link.goes_on (line old) (line mid)
  pub same : SameServer link serving line is_ready runs_on mid new
  pub counted : (older : List Mark) → link.truth (line mid) room.opening older
      → link.truth (line new) room.opening (with_outcome who now call outcome older)

-- a call that was answered stands after the giving up
went_after : (who : Who) (now : ℕ) (call : Call) (outcome : Outcome) (marks : List Mark) → (outcome ≡ Cut → gave_up marks ≡ true → went_on marks ≡ true)
    → gave_up (with_outcome who now call outcome marks) ≡ true → went_on (with_outcome who now call outcome marks) ≡ true
went_after who now call (Replied answer) marks cut gone = ap (λ (b : Bool). b || went_on marks) gone
went_after who now call Cut marks cut gone = cut refl gone

-- a call's mark is no giving up
gave_up_with : (who : Who) (now : ℕ) (call : Call) (outcome : Outcome) (marks : List Mark)
    → gave_up (with_outcome who now call outcome marks) ≡ gave_up marks
gave_up_with who now call (Replied answer) marks = refl
gave_up_with who now call Cut marks = refl

-- a call that was cut gave no device up
went_cut : {S L : Type 0} (serving : S → Serving) (truth : L → Truth) (old mid : S) (l m : L) (who : Who) (now : ℕ) (call : Call)
    (v : Opening) (t : Tree) (marks : List Mark) (b : Bool) → (serving old).ended ≡ b
    → (c : CallSpecification (serving old) (serving mid) (truth l) (truth m) who now call Cut)
    → IsEndLast (serving mid).told → Stands (serving old) (truth l) v t marks → (gave_up marks ≡ true → went_on marks ≡ true)
    → gave_up (marks_after c.keeps.acts marks) ≡ true → went_on (marks_after c.keeps.acts marks) ≡ true
went_cut serving truth old mid l m who now call v t marks true is c last stood answered gone =
    let none : marks_after c.keeps.acts marks ≡ marks = ap (λ (acts : List Act). marks_after acts marks) (c.keeps.after_end is) in
    subst (λ (ms : List Mark). went_on ms ≡ true) (sym none) (answered (sym (ap gave_up none) ∙ gone))
went_cut serving truth old mid l m who now call v t marks false is c last stood answered gone =
    let live = (cut_leaves serving truth old mid l m who now call v t marks c is last stood).1 in cc

-- the same of any call that is a cut
went_if_cut : {S L : Type 0} (serving : S → Serving) (truth : L → Truth) (old mid : S) (l m : L) (who : Who) (now : ℕ) (call : Call)
    (outcome : Outcome) (v : Opening) (t : Tree) (marks : List Mark)
    → (c : CallSpecification (serving old) (serving mid) (truth l) (truth m) who now call outcome)
    → IsEndLast (serving mid).told → Stands (serving old) (truth l) v t marks → (gave_up marks ≡ true → went_on marks ≡ true)
    → outcome ≡ Cut → gave_up (marks_after c.keeps.acts marks) ≡ true → went_on (marks_after c.keeps.acts marks) ≡ true
went_if_cut serving truth old mid l m who now call (Replied answer) v t marks c last stood answered cut = cc
went_if_cut serving truth old mid l m who now call Cut v t marks c last stood answered cut =
    went_cut serving truth old mid l m who now call v t marks (serving old).ended refl c last stood answered

-- a call that was cut found no device given up, unless an earlier one did
kept_by_cut : {S L : Type 0} (serving : S → Serving) (truth : L → Truth) (old mid : S) (l m : L) (who : Who) (now : ℕ) (call : Call)
    (v : Opening) (t : Tree) (marks : List Mark) (b : Bool) → (serving old).ended ≡ b
    → (c : CallSpecification (serving old) (serving mid) (truth l) (truth m) who now call Cut)
    → IsEndLast (serving mid).told → Stands (serving old) (truth l) v t marks → ((serving old).ended ≡ true → gave_up marks ≡ false)
    → gave_up (marks_after c.keeps.acts marks) ≡ false
kept_by_cut serving truth old mid l m who now call v t marks true is c last stood either =
    ap (λ (acts : List Act). gave_up (marks_after acts marks)) (c.keeps.after_end is) ∙ either is
kept_by_cut serving truth old mid l m who now call v t marks false is c last stood either =
    (cut_leaves serving truth old mid l m who now call v t marks c is last stood).1

-- the same of any call that is a cut
pub kept_if_cut : {S L : Type 0} (serving : S → Serving) (truth : L → Truth) (old mid : S) (l m : L) (who : Who) (now : ℕ) (call : Call)
    (outcome : Outcome) (v : Opening) (t : Tree) (marks : List Mark)
    → (c : CallSpecification (serving old) (serving mid) (truth l) (truth m) who now call outcome)
    → IsEndLast (serving mid).told → Stands (serving old) (truth l) v t marks → ((serving old).ended ≡ true → gave_up marks ≡ false)
    → outcome ≡ Cut → gave_up (marks_after c.keeps.acts marks) ≡ false
kept_if_cut serving truth old mid l m who now call (Replied answer) v t marks c last stood either cut = cc
kept_if_cut serving truth old mid l m who now call Cut v t marks c last stood either cut =
    kept_by_cut serving truth old mid l m who now call v t marks (serving old).ended refl c last stood either

-- the server stands after a call that was counted if it was answered
stands_after : {N S L : Type 0} (room : RoomWords N) (link : LinkWords L) (serving : S → Serving) (line : S → L) (is_ready : S → Type 0)
    (knows : Call → Type 0) (runs_on : L → Policy → List DriverState → Type 0) (record_in : L → List Mark)
    (who : Who) (now : ℕ) (call : Call) (outcome : Outcome) (old mid new : S) → Kept room link serving line runs_on record_in
    → (c : Called room link serving line is_ready runs_on who now call outcome old mid new)
    → (held : IsHeld room link serving line is_ready knows runs_on record_in old)
    → Stands (serving new) (link.truth (line new)) room.opening held.tree
    (with_outcome who now call outcome (marks_after c.calls.keeps.acts (record_in (line old))))
stands_after room link serving line is_ready knows runs_on record_in who now call outcome old mid new kept c held =
    let st = held.stands in
    let t = held.tree in
    let marks = record_in (line old) in
    record {
      minor = st.minor ∙ sym c.calls.keeps.leads.minor ∙ sym c.same.served.minor;
      serves = serves_same (serving mid) (serving new) (contents_at room.opening) t
          (with_outcome who now call outcome (marks_after c.calls.keeps.acts marks)) c.same.served
          (c.calls.keeps.serves (contents_at room.opening) t marks st.serves);
      truth = c.counted (marks_after c.calls.keeps.acts marks) (c.calls.truth room.opening t marks st.minor st.serves.agrees st.truth);
    }

-- the record then
record_after : {N S L : Type 0} (room : RoomWords N) (link : LinkWords L) (serving : S → Serving) (line : S → L) (is_ready : S → Type 0)
    (knows : Call → Type 0) (runs_on : L → Policy → List DriverState → Type 0) (record_in : L → List Mark)
    (who : Who) (now : ℕ) (call : Call) (outcome : Outcome) (old mid new : S) → Kept room link serving line runs_on record_in
    → (c : Called room link serving line is_ready runs_on who now call outcome old mid new) → IsHeld room link serving line is_ready knows runs_on record_in old
    → record_in (line new) ≡ with_outcome who now call outcome (marks_after c.calls.keeps.acts (record_in (line old)))
record_after room link serving line is_ready knows runs_on record_in who now call outcome old mid new kept c held =
    kept.is_record (line new) _ (stands_after room link serving line is_ready knows runs_on record_in who now call outcome old mid new kept c held).truth

-- where nothing was handed over between two calls, the record grew by what the link was told and gave alone
grown_by : (acts : List Act) (marks : List Mark) → has_absorbed acts ≡ false → marks_after acts marks ≡ grown (told_of acts) marks
grown_by [] marks none = refl
grown_by (Began r ∷ acts) marks none = grown_by acts marks none
grown_by (Absorbed message ∷ acts) marks none = absurd cc
grown_by (AtLink told ∷ acts) marks none = ap (with_told told) (grown_by acts marks none)

-- a call adds itself, and no other
pub adds_call : {N S L : Type 0} (room : RoomWords N) (link : LinkWords L) (serving : S → Serving) (line : S → L) (is_ready : S → Type 0)
    (knows : Call → Type 0) (runs_on : L → Policy → List DriverState → Type 0) (record_in : L → List Mark)
    (who : Who) (now : ℕ) (call : Call) (result given : TreeOutcome) (old mid new : S) → result ≡ given
    → Kept room link serving line runs_on record_in
    → (c : Called room link serving line is_ready runs_on who now call (outcome_of result) old mid new)
    → IsHeld room link serving line is_ready knows runs_on record_in old
    → AddsCall who now call (outcome_of given) (record_in (line old)) (record_in (line new))
adds_call room link serving line is_ready knows runs_on record_in who now call result given old mid new is kept c held = (
  told_of c.calls.keeps.acts,
  record_after room link serving line is_ready knows runs_on record_in who now call (outcome_of result) old mid new kept c held
      ∙ ap (with_outcome who now call (outcome_of result)) (grown_by c.calls.keeps.acts (record_in (line old)) c.calls.keeps.none_absorbed)
      ∙ ap (λ (o : TreeOutcome). with_outcome who now call (outcome_of o) (grown (told_of c.calls.keeps.acts) (record_in (line old)))) is,
)

-- after a call it has ended where its link has
pub ends_called : {N S L : Type 0} (room : RoomWords N) (link : LinkWords L) (serving : S → Serving) (line : S → L) (is_ready : S → Type 0)
    (knows : Call → Type 0) (runs_on : L → Policy → List DriverState → Type 0) (record_in : L → List Mark)
    (who : Who) (now : ℕ) (call : Call) (outcome : Outcome) (old mid : S) → ((s : S) → (serving s).told ≡ link.history (line s))
    → CallSpecification (serving old) (serving mid) (link.truth (line old)) (link.truth (line mid)) who now call outcome
    → IsHeld room link serving line is_ready knows runs_on record_in old → (serving mid).ended ≡ took_end (link.history (line mid))
ends_called room link serving line is_ready knows runs_on record_in who now call outcome old mid tells c held =
    let before : (serving old).ended ≡ took_end (serving old).told = held.ends ∙ ap took_end (sym (tells old)) in
    c.keeps.leads.ended
    ∙ ap (λ (b : Bool). took_end (told_of c.keeps.acts) || b) before
    ∙ sym (took_either (told_of c.keeps.acts) (serving old).told)
    ∙ ap took_end (sym c.keeps.leads.told)
    ∙ ap took_end (tells mid)

-- it has ended where its link has
ends_after : {N S L : Type 0} (room : RoomWords N) (link : LinkWords L) (serving : S → Serving) (line : S → L) (is_ready : S → Type 0)
    (knows : Call → Type 0) (runs_on : L → Policy → List DriverState → Type 0) (record_in : L → List Mark)
    (who : Who) (now : ℕ) (call : Call) (outcome : Outcome) (old mid new : S) → Kept room link serving line runs_on record_in
    → (c : Called room link serving line is_ready runs_on who now call outcome old mid new) → IsHeld room link serving line is_ready knows runs_on record_in old
    → (serving mid).ended ≡ took_end (link.history (line mid))
ends_after room link serving line is_ready knows runs_on record_in who now call outcome old mid new kept c held =
    ends_called room link serving line is_ready knows runs_on record_in who now call outcome old mid kept.tells c.calls held

-- where the link alone changed, and guarantees what it did
pub held_served : {N S L : Type 0} (room : RoomWords N) (link : LinkWords L) (serving : S → Serving) (line : S → L) (is_ready : S → Type 0)
    (knows : Call → Type 0) (runs_on : L → Policy → List DriverState → Type 0) (record_in : L → List Mark)
    (old new : S) → SameServing (serving old) (serving new) → is_ready new → link.history (line new) ≡ link.history (line old)
    → runs_on (line new) room.policy room.supply
    → ((older : List Mark) → link.truth (line old) room.opening older → link.truth (line new) room.opening older)
    → record_in (line new) ≡ record_in (line old) → IsHeld room link serving line is_ready knows runs_on record_in old
    → IsHeld room link serving line is_ready knows runs_on record_in new
held_served room link serving line is_ready knows runs_on record_in old new served ready told drivers truth none held =
    let v = room.opening in
    let marks = record_in (line old) in
    record {
      ready = ready;
      knows_each = held.knows_each;
      ends = served.ended ∙ held.ends ∙ ap took_end (sym told);
      drivers = drivers;
      tree = held.tree;
      at_first = λ replies.
          let h = held.at_first (subst (λ (ms : List Mark). HasTrueReplies (contents_at v) ms) none replies) in
          (served.geometry ∙ h.0, h.1);
      stands =
          subst (λ (ms : List Mark). Stands (serving new) (link.truth (line new)) v held.tree ms) (sym none)
          (same_stands serving link.truth old new (line old) (line new) v held.tree marks served (truth marks held.stands.truth) held.stands);
      answered = subst (λ (ms : List Mark). gave_up ms ≡ true → went_on ms ≡ true) (sym none) held.answered;
      either = λ over. ap gave_up none ∙ held.either (sym served.ended ∙ over);
    }

-- so it is where contracts see the server as it was, but for its link
pub held_same : {N S L : Type 0} (room : RoomWords N) (link : LinkWords L) (serving : S → Serving) (line : S → L) (is_ready : S → Type 0)
    (knows : Call → Type 0) (runs_on : L → Policy → List DriverState → Type 0) (record_in : L → List Mark)
    (old new : S) → Kept room link serving line runs_on record_in → SameServer link serving line is_ready runs_on old new
    → ((older : List Mark) → link.truth (line old) room.opening older → link.truth (line new) room.opening older)
    → record_in (line new) ≡ record_in (line old) → IsHeld room link serving line is_ready knows runs_on record_in old → IsHeld room link serving line is_ready knows runs_on record_in new
held_same room link serving line is_ready knows runs_on record_in old new kept same truth none held =
    held_served room link serving line is_ready knows runs_on record_in old new same.served (same.may held.ready) same.at_link.same_history
    (same.at_link.runs room.policy room.supply held.drivers) truth none held

-- true replies were true before a call's own mark, and before what was done in it
pub true_outcome : (image : Contents) (who : Who) (now : ℕ) (call : Call) (outcome : Outcome) (marks : List Mark)
    → HasTrueReplies image (with_outcome who now call outcome marks) → HasTrueReplies image marks
true_outcome image who now call (Replied answer) marks h = h
true_outcome image who now call Cut marks h = h

true_if : (b : Bool) (a : BlockReply) (image : Contents) (marks : List Mark) → HasTrueReplies image (if b then Answered a ∷ marks else marks)
    → HasTrueReplies image marks
true_if true a image marks h = h.0
true_if false a image marks h = h

true_received : (message : Incoming) (image : Contents) (marks : List Mark) → HasTrueReplies image (received message marks)
    → HasTrueReplies image marks
true_received (incoming.Reply a) image marks h = true_if (counts marks a) a image marks h
true_received (incoming.Started e) image marks h = h
true_received incoming.GaveUp image marks h = h
true_received incoming.Flush image marks h = h
true_received incoming.End image marks h = h

pub true_before : (acts : List Act) (image : Contents) (marks : List Mark) → HasTrueReplies image (marks_after acts marks) → HasTrueReplies image marks
true_before [] image marks h = h
true_before (Began r ∷ acts) image marks h = true_before acts image marks h
true_before (Absorbed message ∷ acts) image marks h = true_before acts image marks (true_received message image (marks_after acts marks) h)
true_before (AtLink (Posted to r true) ∷ acts) image marks h = true_before acts image marks h
true_before (AtLink (Posted to r false) ∷ acts) image marks h = true_before acts image marks h
true_before (AtLink (Complained about) ∷ acts) image marks h = true_before acts image marks h
true_before (AtLink (Received message) ∷ acts) image marks h = true_before acts image marks (true_received message image (marks_after acts marks) h)

-- two trees that an image holds at first are one
one_tree : (g : Geometry) (image : Contents) (t u : Tree) → IsAtFirst g image t → IsAtFirst g image u → t ≡ u
one_tree g image t u a b =
    let nodes : t.nodes ≡ u.nodes = a.holds.nodes.nodes ∙ sym b.holds.nodes.nodes in
    let files : t.open_files ≡ u.open_files = a.closed.open_files ∙ sym b.closed.open_files in
    let descriptors : t.descriptors ≡ u.descriptors = a.closed.descriptors ∙ sym b.closed.descriptors in
    λ i. record { nodes = nodes i; open_files = files i; descriptors = descriptors i }

-- after a call that was counted if it was answered
pub held_after : {N S L : Type 0} (room : RoomWords N) (link : LinkWords L) (serving : S → Serving) (line : S → L) (is_ready : S → Type 0)
    (knows : Call → Type 0) (runs_on : L → Policy → List DriverState → Type 0) (record_in : L → List Mark)
    (who : Who) (now : ℕ) (call : Call) (outcome : Outcome) (old mid new : S) → Kept room link serving line runs_on record_in
    → Called room link serving line is_ready runs_on who now call outcome old mid new → IsHeld room link serving line is_ready knows runs_on record_in old → IsHeld room link serving line is_ready knows runs_on record_in new
held_after room link serving line is_ready knows runs_on record_in who now call outcome old mid new kept c held =
    let v = room.opening in
    let marks = record_in (line old) in
    let acts = c.calls.keeps.acts in
    record {
      ready = c.same.may c.ready;
      knows_each = held.knows_each;
      ends = c.same.served.ended ∙ ends_after room link serving line is_ready knows runs_on record_in who now call outcome old mid new kept c held
          ∙ ap took_end (sym c.same.at_link.same_history);
      drivers = c.same.at_link.runs room.policy room.supply (kept.keeps_on (line old) (line mid) c.goes held.drivers);
      tree = held.tree;
      at_first = λ replies.
          let is = record_after room link serving line is_ready knows runs_on record_in who now call outcome old mid new kept c held in
          let h = held.at_first (true_before acts (contents_at v) marks
          (true_outcome (contents_at v) who now call outcome (marks_after acts marks)
          (subst (λ (ms : List Mark). HasTrueReplies (contents_at v) ms) is replies))) in
          (c.same.served.geometry ∙ c.calls.keeps.leads.geometry ∙ h.0, h.1);
      stands =
          subst (λ (ms : List Mark). Stands (serving new) (link.truth (line new)) v held.tree ms)
          (sym (record_after room link serving line is_ready knows runs_on record_in who now call outcome old mid new kept c held))
          (stands_after room link serving line is_ready knows runs_on record_in who now call outcome old mid new kept c held);
      answered =
          let t = held.tree in
          let st = held.stands in
          let last : IsEndLast (link.history (line mid)) =
          kept.end_last (line mid) (marks_after acts marks) (c.calls.truth v t marks st.minor st.serves.agrees st.truth) in
          subst (λ (ms : List Mark). gave_up ms ≡ true → went_on ms ≡ true)
          (sym (record_after room link serving line is_ready knows runs_on record_in who now call outcome old mid new kept c held))
          (went_after who now call outcome (marks_after acts marks)
          (went_if_cut serving link.truth old mid (line old) (line mid) who now call outcome v t marks c.calls
          (subst IsEndLast (sym (kept.tells mid)) last) st held.answered));
      either = λ over.
          let t = held.tree in
          let st = held.stands in
          let last : IsEndLast (link.history (line mid)) =
          kept.end_last (line mid) (marks_after acts marks) (c.calls.truth v t marks st.minor st.serves.agrees st.truth) in
          ap gave_up (record_after room link serving line is_ready knows runs_on record_in who now call outcome old mid new kept c held)
          ∙ gave_up_with who now call outcome (marks_after acts marks)
          ∙ kept_if_cut serving link.truth old mid (line old) (line mid) who now call outcome v t marks c.calls
          (subst IsEndLast (sym (kept.tells mid)) last) st held.either (c.calls.keeps.cut.1 (sym c.same.served.ended ∙ over));
    }

-- a server that was opened over a link which told nothing yet
pub held_at_first : {N S L : Type 0} (room : RoomWords N) (link : LinkWords L) (serving : S → Serving) (line : S → L) (is_ready : S → Type 0)
    (knows : Call → Type 0) (runs_on : L → Policy → List DriverState → Type 0) (record_in : L → List Mark)
    (s : S) (l : L) (minor frames : ℕ) → line s ≡ l → is_ready s → ((call : Call) → knows call) → link.history l ≡ [] → record_in l ≡ []
    → OpenKeeps room.geometry minor frames (link.history l) (serving s) → room.opening.minor ≡ minor → runs_on l room.policy room.supply
    → link.truth l room.opening [] → (t : Tree) → IsAtFirst room.geometry (contents_at room.opening) t → IsHeld room link serving line is_ready knows runs_on record_in s
held_at_first {L = L} room link serving line is_ready knows runs_on record_in s l minor frames is ready each told none opens same drivers truth t first = record {
  ready = ready;
  knows_each = each;
  ends = opens.is_new.not_ended ∙ sym (ap (λ (k : L). took_end (link.history k)) is ∙ ap took_end told);
  drivers = subst (λ (k : L). runs_on k room.policy room.supply) (sym is) drivers;
  tree = t;
  at_first = λ replies. (opens.geometry, first);
  stands =
      let here : Stands (serving s) (link.truth l) room.opening t [] = record {
        minor = same ∙ sym opens.minor_is;
        serves = opens.serves (contents_at room.opening) t first;
        truth = truth;
      } in
      subst (λ (ms : List Mark). Stands (serving s) (link.truth (line s)) room.opening t ms) (sym (ap record_in is ∙ none))
      (subst (λ (k : L). Stands (serving s) (link.truth k) room.opening t []) (sym is) here);
  answered = λ gone. let gave : false ≡ true = sym (ap gave_up (ap record_in is ∙ none)) ∙ gone in cc;
  either = λ over. ap gave_up (ap record_in is ∙ none);
}

-- A server that was mounted over a link which told nothing yet, whatever its replies: where they were true it is for a volume of the service's
-- sizes.
pub held_mounted : {N S L : Type 0} (room : RoomWords N) (link : LinkWords L) (serving : S → Serving) (line : S → L) (is_ready : S → Type 0)
    (knows : Call → Type 0) (runs_on : L → Policy → List DriverState → Type 0) (record_in : L → List Mark)
    (s : S) (before : List Told) (minor frames : ℕ) → is_ready s → ((call : Call) → knows call)
    → (m : MountKeeps minor frames before (serving s)) → room.opening.minor ≡ minor → (serving s).ended ≡ took_end (link.history (line s))
    → ((l : L) (older : List Mark) → link.truth l room.opening older → record_in l ≡ older)
    → (HasTrueReplies (contents_at room.opening) (marks_after m.acts []) → (serving s).geometry ≡ room.geometry)
    → runs_on (line s) room.policy room.supply → link.truth (line s) room.opening (marks_after m.acts [])
    → IsHeld room link serving line is_ready knows runs_on record_in s
held_mounted room link serving line is_ready knows runs_on record_in s before minor frames ready each m same ends is_record sizes drivers truth =
    let image = contents_at room.opening in
    let is : record_in (line s) ≡ marks_after m.acts [] = is_record (line s) (marks_after m.acts []) truth in
    record {
      ready = ready;
      knows_each = each;
      ends = ends;
      drivers = drivers;
      tree = m.tree;
      at_first = λ replies.
          let early : HasTrueReplies image (marks_after m.acts []) = subst (λ (ms : List Mark). HasTrueReplies image ms) is replies in
          (sizes early, subst (λ (g : Geometry). IsAtFirst g image m.tree) (sizes early) (m.at_first image early));
      stands = subst (λ (ms : List Mark). Stands (serving s) (link.truth (line s)) room.opening m.tree ms) (sym is) (record {
        minor = same ∙ sym m.minor_is;
        serves = m.serves image;
        truth = truth;
      });
      answered = λ gone. let gave : false ≡ true = sym (ap gave_up is ∙ m.not_given_up) ∙ gone in cc;
      either = λ over. ap gave_up is ∙ m.not_given_up;
    }

-- what is held is sound
pub held_sound : {N S L : Type 0} (room : RoomWords N) (link : LinkWords L) (serving : S → Serving) (line : S → L) (is_ready : S → Type 0)
    (knows : Call → Type 0) (runs_on : L → Policy → List DriverState → Type 0) (record_in : L → List Mark)
    (s : S) (seen : List Mark) → seen ≡ record_in (line s) → IsHeld room link serving line is_ready knows runs_on record_in s → IsSound seen
held_sound room link serving line is_ready knows runs_on record_in s seen same held =
    let sound : IsSound (record_in (line s)) = record { well_formed = held.stands.serves.well_formed; answered = held.answered } in
    subst (λ (ms : List Mark). IsSound ms) (sym same) sound

-- what is legal from the tree that is held is so from each tree that the volume held at first, over true replies
pub legal_from : (g h : Geometry) (image : Contents) (held tree : Tree) (marks : List Mark) → (h ≡ g) × IsAtFirst g image held → IsAtFirst g image tree
    → IsLegal h image held marks → IsLegal g image tree marks
legal_from g h image held tree marks both first legal =
    subst (λ (t : Tree). IsLegal g image t marks) (one_tree g image held tree both.1 first)
    (subst (λ (k : Geometry). IsLegal k image held marks) both.0 legal)

-- what is held is legal
held_legal : {N S L : Type 0} (room : RoomWords N) (link : LinkWords L) (serving : S → Serving) (line : S → L) (is_ready : S → Type 0)
    (knows : Call → Type 0) (runs_on : L → Policy → List DriverState → Type 0) (record_in : L → List Mark)
    (s : S) (seen : List Mark) → seen ≡ record_in (line s) → IsHeld room link serving line is_ready knows runs_on record_in s
    → (tree : Tree) → IsAtFirst room.geometry (contents_at room.opening) tree → HasTrueReplies (contents_at room.opening) seen
    → IsLegal room.geometry (contents_at room.opening) tree seen
held_legal room link serving line is_ready knows runs_on record_in s seen same held tree first replies =
    let image = contents_at room.opening in
    let here : HasTrueReplies image (record_in (line s)) = subst (λ (ms : List Mark). HasTrueReplies image ms) same replies in
    subst (λ (ms : List Mark). IsLegal room.geometry image tree ms) (sym same)
    (legal_from room.geometry (serving s).geometry image held.tree tree (record_in (line s)) (held.at_first here) first
    (held.stands.serves.legal here))

-- a new session has seen what is held
pub admitted_good : {N S L E : Type 0} (room : RoomWords N) (link : LinkWords L) (serving : S → Serving) (line : S → L) (is_ready : S → Type 0)
    (knows : Call → Type 0) (runs_on : L → Policy → List DriverState → Type 0) (record_in : L → List Mark)
    (s : S) (table : TableId) (result : Result (ℕ × SeatState × ℕ) E)
    → IfOk result (λ r. (r.1.table ≡ table) × SessionIsNew r.0 r.1.view (record_in (line s))) → IsHeld room link serving line is_ready knows runs_on record_in s
    → (tree : Tree) → IsAtFirst room.geometry (contents_at room.opening) tree → IfOk result (λ r. IsGood room.geometry room.opening tree r.1.view.seen)
admitted_good room link serving line is_ready knows runs_on record_in s table (Ok r) new held tree first =
    let same = new.1.1 in (
      held_sound room link serving line is_ready knows runs_on record_in s r.1.view.seen same held,
      held_legal room link serving line is_ready knows runs_on record_in s r.1.view.seen same held tree first,
    )
admitted_good room link serving line is_ready knows runs_on record_in s table (Err e) new held tree first = tt

-- what is held is what the link guarantees
pub held_guaranteed : {N S L : Type 0} (room : RoomWords N) (link : LinkWords L) (serving : S → Serving) (line : S → L) (is_ready : S → Type 0)
    (knows : Call → Type 0) (runs_on : L → Policy → List DriverState → Type 0) (record_in : L → List Mark)
    (s : S) (seen : List Mark) → seen ≡ record_in (line s) → IsHeld room link serving line is_ready knows runs_on record_in s
    → IsGuaranteed link.truth room.opening seen
held_guaranteed room link serving line is_ready knows runs_on record_in s seen same held =
    (line s, subst (λ (ms : List Mark). link.truth (line s) room.opening ms) (sym same) held.stands.truth)

-- where the replies in it were true, the volume held a tree
pub held_volume : {N S L : Type 0} (room : RoomWords N) (link : LinkWords L) (serving : S → Serving) (line : S → L) (is_ready : S → Type 0)
    (knows : Call → Type 0) (runs_on : L → Policy → List DriverState → Type 0) (record_in : L → List Mark)
    (s : S) (seen : List Mark) → seen ≡ record_in (line s) → IsHeld room link serving line is_ready knows runs_on record_in s
    → HoldsIfTrue room.geometry room.opening seen
held_volume room link serving line is_ready knows runs_on record_in s seen same held = λ replies.
    (held.tree, (held.at_first (subst (λ (ms : List Mark). HasTrueReplies (contents_at room.opening) ms) same replies)).1)

pub admitted_volume : {N S L E : Type 0} (room : RoomWords N) (link : LinkWords L) (serving : S → Serving) (line : S → L) (is_ready : S → Type 0)
    (knows : Call → Type 0) (runs_on : L → Policy → List DriverState → Type 0) (record_in : L → List Mark)
    (s : S) (table : TableId) (result : Result (ℕ × SeatState × ℕ) E)
    → IfOk result (λ r. (r.1.table ≡ table) × SessionIsNew r.0 r.1.view (record_in (line s))) → IsHeld room link serving line is_ready knows runs_on record_in s
    → IfOk result (λ r. HoldsIfTrue room.geometry room.opening r.1.view.seen)
admitted_volume room link serving line is_ready knows runs_on record_in s table (Ok r) new held =
    held_volume room link serving line is_ready knows runs_on record_in s r.1.view.seen new.1.1 held
admitted_volume room link serving line is_ready knows runs_on record_in s table (Err e) new held = tt

-- and a new session has seen it
pub admitted_guaranteed : {N S L E : Type 0} (room : RoomWords N) (link : LinkWords L) (serving : S → Serving) (line : S → L) (is_ready : S → Type 0)
    (knows : Call → Type 0) (runs_on : L → Policy → List DriverState → Type 0) (record_in : L → List Mark)
    (s : S) (table : TableId) (result : Result (ℕ × SeatState × ℕ) E)
    → IfOk result (λ r. (r.1.table ≡ table) × SessionIsNew r.0 r.1.view (record_in (line s))) → IsHeld room link serving line is_ready knows runs_on record_in s
    → IfOk result (λ r. IsGuaranteed link.truth room.opening r.1.view.seen)
admitted_guaranteed room link serving line is_ready knows runs_on record_in s table (Ok r) new held =
    held_guaranteed room link serving line is_ready knows runs_on record_in s r.1.view.seen new.1.1 held
admitted_guaranteed room link serving line is_ready knows runs_on record_in s table (Err e) new held = tt

-- why no session was made
pub not_admitted : {L T : Type 0} (link : LinkWords L) (numbers : L → List ℕ) (v : Opening) (line : L) (marks : List Mark)
    (result : Result T SessionRefusal) → link.truth line v marks
    → (IsErrOf result TooMany ↔ ((n : ℕ) → n < 64 → is_used n (numbers line) ≡ true))
    → (IsErrOf result Stopped ↔ ((took_end (link.history line) ≡ true) × ((n : ℕ) × (n < 64) × (is_used n (numbers line) ≡ false))))
    → IfErr result (IsNotAdmitted link numbers v)
not_admitted link numbers v line marks (Ok r) truth many stopped = tt
not_admitted link numbers v line marks (Err TooMany) truth many stopped = (line, many.0 refl)
not_admitted link numbers v line marks (Err Stopped) truth many stopped =
    let why = stopped.0 refl in (marks, record { line = line; guaranteed = truth; ended = why.0 }, why.1)
not_admitted link numbers v line marks (Err OutOfMemory) truth many stopped = tt

-- a session whose call was answered
pub session_answered : {N S L : Type 0} (room : RoomWords N) (link : LinkWords L) (serving : S → Serving) (line : S → L) (is_ready : S → Type 0)
    (knows : Call → Type 0) (runs_on : L → Policy → List DriverState → Type 0) (record_in : L → List Mark)
    (s : S) (older : List Mark) (who : Who) (now : ℕ) (call : Call)
    (answer : Answer) (old new : View) → IsHeld room link serving line is_ready knows runs_on record_in s → old.number ≡ Some who.session → SessionLearns old new
    → new.seen ≡ record_in (line s) → record_in (line s) ≡ Took who now call answer ∷ older → new.mine ≡ Took who now call answer ∷ old.mine
    → SessionCallKeeps room.geometry (contents_at room.opening) (session_for who.uid who.gid who.session old) who now call (Replied answer)
    (session_for who.uid who.gid who.session new)
session_answered room link serving line is_ready knows runs_on record_in s older who now call answer old new held number learns seen is mine = record {
  goes_on = record { user = refl; group = refl; learns = learns who.session number };
  caller = refl;
  ends = (older, seen ∙ is, mine);
  legal = held_legal room link serving line is_ready knows runs_on record_in s new.seen seen held;
}

-- a session whose call was cut
pub session_cut : {N S L : Type 0} (room : RoomWords N) (link : LinkWords L) (serving : S → Serving) (line : S → L) (is_ready : S → Type 0)
    (knows : Call → Type 0) (runs_on : L → Policy → List DriverState → Type 0) (record_in : L → List Mark)
    (s : S) (who : Who) (now : ℕ) (call : Call) (old new : View)
    → IsHeld room link serving line is_ready knows runs_on record_in s → old.number ≡ Some who.session → SessionLearns old new → new.seen ≡ record_in (line s) → new.mine ≡ old.mine
    → SessionCallKeeps room.geometry (contents_at room.opening) (session_for who.uid who.gid who.session old) who now call Cut
    (session_for who.uid who.gid who.session new)
session_cut room link serving line is_ready knows runs_on record_in s who now call old new held number learns seen mine = record {
  goes_on = record { user = refl; group = refl; learns = learns who.session number };
  caller = refl;
  ends = mine;
  legal = held_legal room link serving line is_ready knows runs_on record_in s new.seen seen held;
}

-- an outcome that contracts see as a cut is one
is_cut : (outcome : TreeOutcome) → outcome_of outcome ≡ Cut → outcome ≡ tree.Cut
is_cut (tree.Reply r) e = cc
is_cut tree.Cut e = refl

-- a reply that contracts see as a refusal is one
is_refused : (r : Reply) (e : Errno) → answer_of r ≡ refused e → r ≡ Refused e
is_refused (Refused d) e is = cc
is_refused reply.Done e is = cc
is_refused (reply.Descriptor n) e is = cc
is_refused (reply.Bytes bytes) e is = cc
is_refused (reply.Wrote n) e is = cc
is_refused (reply.At n) e is = cc
is_refused (reply.Inode a) e is = cc
is_refused (reply.Names names) e is = cc
is_refused (reply.Space r) e is = cc
is_refused (reply.Target target) e is = cc

-- EIO is answered exactly once the device was given up, unless the call is cut
eio_of : (result : TreeOutcome) (gone : Bool) → (outcome_of result ≡ Replied (refused EIO) → gone ≡ true)
    → (gone ≡ true → (outcome_of result ≡ Cut) ⊎ (outcome_of result ≡ Replied (refused EIO)))
    → (result ≡ tree.Reply (Refused EIO)) ↔ ((result ≢ tree.Cut) × (gone ≡ true))
eio_of (tree.Reply r) gone only once = (
  (λ is. ((λ cut. let h = is in absurd cc), only (ap outcome_of is))),
  (λ b. elim (once b.1) [
    | inl cut ↦ absurd cc
    | inr eio ↦ ap tree.Reply (is_refused r EIO (let h = eio in cc))
  ]),
)
eio_of tree.Cut gone only once = (
  (λ is. absurd cc),
  (λ b. absurd (b.0 refl)),
)

-- and so by what the caller has seen
pub eio_after : {N S L : Type 0} (room : RoomWords N) (link : LinkWords L) (serving : S → Serving) (line : S → L) (is_ready : S → Type 0)
    (knows : Call → Type 0) (runs_on : L → Policy → List DriverState → Type 0) (record_in : L → List Mark)
    (who : Who) (now : ℕ) (call : Call) (result : TreeOutcome) (old mid new : S) (seen : List Mark) → seen ≡ record_in (line new)
    → Kept room link serving line runs_on record_in
    → (c : Called room link serving line is_ready runs_on who now call (outcome_of result) old mid new) → IsHeld room link serving line is_ready knows runs_on record_in old
    → (result ≡ tree.Reply (Refused EIO)) ↔ ((result ≢ tree.Cut) × (gave_up seen ≡ true))
eio_after room link serving line is_ready knows runs_on record_in who now call result old mid new seen same kept c held =
    let marks = record_in (line old) in
    let t = held.tree in
    let agrees = held.stands.serves.agrees in
    let gone : gave_up seen ≡ gave_up (marks_after c.calls.keeps.acts marks) =
    ap gave_up (same ∙ record_after room link serving line is_ready knows runs_on record_in who now call (outcome_of result) old mid new kept c held)
    ∙ gave_up_with who now call (outcome_of result) (marks_after c.calls.keeps.acts marks) in
    eio_of result (gave_up seen)
    (λ eio. gone ∙ c.calls.keeps.only_given_up (contents_at room.opening) t marks agrees eio)
    (λ up. c.calls.keeps.once_given_up (contents_at room.opening) t marks agrees (sym gone ∙ up))

-- the same of the outcome that is given back
pub eio_given : (result given : TreeOutcome) (seen : List Mark) → result ≡ given
    → (result ≡ tree.Reply (Refused EIO)) ↔ ((result ≢ tree.Cut) × (gave_up seen ≡ true))
    → (given ≡ tree.Reply (Refused EIO)) ↔ ((given ≢ tree.Cut) × (gave_up seen ≡ true))
eio_given result given seen is exactly =
    subst (λ (o : TreeOutcome). (o ≡ tree.Reply (Refused EIO)) ↔ ((o ≢ tree.Cut) × (gave_up seen ≡ true))) is exactly

-- a call was cut exactly where its link has ended
pub cut_given : {N S L : Type 0} (room : RoomWords N) (link : LinkWords L) (serving : S → Serving) (line : S → L) (is_ready : S → Type 0)
    (knows : Call → Type 0) (runs_on : L → Policy → List DriverState → Type 0) (record_in : L → List Mark)
    (who : Who) (now : ℕ) (call : Call) (result given : TreeOutcome) (old mid new : S) → result ≡ given
    → Kept room link serving line runs_on record_in
    → (c : Called room link serving line is_ready runs_on who now call (outcome_of result) old mid new) → IsHeld room link serving line is_ready knows runs_on record_in old
    → (given ≡ tree.Cut) ↔ (took_end (link.history (line new)) ≡ true)
cut_given room link serving line is_ready knows runs_on record_in who now call result given old mid new is kept c held =
    let ends : (serving mid).ended ≡ took_end (link.history (line new)) =
    ends_after room link serving line is_ready knows runs_on record_in who now call (outcome_of result) old mid new kept c held ∙ ap took_end (sym c.same.at_link.same_history) in (
      (λ cut. sym ends ∙ c.calls.keeps.cut.0 (ap outcome_of (is ∙ cut))),
      (λ over. sym is ∙ is_cut result (c.calls.keeps.cut.1 (ends ∙ over))),
    )

-- what answers a sync that was done isn't given up
pub not_given_up : (b : Bool) → (b ≡ true → (Replied done ≡ Cut) ⊎ (Replied done ≡ Replied (refused EIO))) → b ≡ false
not_given_up true once = elim (once refl) [
  | inl e ↦ cc
  | inr e ↦ cc
]
not_given_up false once = refl

-- an answer that has nothing to tell
is_done_answer : (answer : Answer) → is_done answer ≡ true → answer ≡ done
is_done_answer done is = refl
is_done_answer (refused e) is = cc
is_done_answer (descriptor n) is = cc
is_done_answer (some_bytes bytes) is = cc
is_done_answer (wrote n) is = cc
is_done_answer (position n) is = cc
is_done_answer (node_is a) is = cc
is_done_answer (names_are names) is = cc
is_done_answer (room_is r) is = cc

-- an outcome that tells so
pub done_is : (outcome : Outcome) → succeeded outcome ≡ true → outcome ≡ Replied done
done_is (Replied answer) is = ap Replied (is_done_answer answer is)
done_is Cut is = cc
