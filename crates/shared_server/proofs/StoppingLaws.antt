-- How the last sync of a service went, and what its link then guarantees.
use Rattle.std.proofs.Common.{◌≡◌, ℕ, List, [], ◌∷◌, Bool, true, false, refl, sym, ◌∙◌, ap, subst, inl, inr, append-nil}
use Rattle.std.specs.Prelude.{◌⊎◌, Result, Ok, Err, IfErr, if◌then◌else◌}
use Rattle.layout.specs.declared.Geometry.{Geometry}
use Rattle.tree.specs.declared.Call.{Call}
use Rattle.tree.specs.declared.Call.TheVariants.{Sync}
use Rattle.tree.specs.Tree.{Tree}
use Rattle.errno.specs.declared.Errno.TheVariants.{EIO}
use Rattle.tree.specs.Answers.{Answer, done, refused}
use Rattle.message.specs.declared.Incoming.{Incoming}
use Rattle.message.specs.declared.Incoming.TheVariants as incoming
use Rattle.message.specs.declared.BlockReply.{BlockReply}
use Rattle.bdev.specs.DriverState.{DriverState}
use Rattle.reincarnate.specs.declared.policy.Policy.{Policy}
use Rattle.records.specs.Marks.{Mark, Issued, Answered, Started, Flush, GaveUp, Took, gave_up, IsBeginning}
use Rattle.records.specs.Open.{counts}
use Rattle.records.specs.Disk.{Contents, HasTrueReplies}
use Rattle.records.specs.Acts.{Act, Began, Absorbed, AtLink, marks_after}
use Rattle.records.specs.Opening.{Opening, contents_at}
use Rattle.records.specs.Told.{Posted, Complained, Received, received}
use Rattle.records.specs.Legal.{IsLegal, IsLegalTook, tree_after}
use Rattle.records.proofs.Legality.{synced_is_held}
use Rattle.records.specs.ServerCall.{Serving, Outcome, Replied, Cut, with_outcome}
use Rattle.reissue.specs.declared.link.Link.{Ghosts as LinkWords}
use Rattle.file_server.specs.Over.{CallSpecification}
use Rattle.file_server.specs.Leaving.{IsEndLast}
use Rattle.board.specs.declared.counting.parameters.ServiceParameters.{Ghosts as RoomWords}
use Rattle.board.specs.Keeper.{begins_itself, begins_before, begins_further}
use Rattle.shared_server.specs.Descriptors.{is_done, was_cut, succeeded}
use Rattle.shared_server.specs.Held.{IsHeld}
use Rattle.volume_reading.specs.Pieces.{Piece}
use Rattle.shared_server.specs.Stopping.{syncer, SyncEnd, Went, WasGivenUp, WasCut, sync_end, has_ended, SyncTells, IsFinished, IsLastLine}
use Rattle.shared_server.proofs.HeldLaws.{Kept, ends_called, kept_if_cut, legal_from, not_given_up, done_is, true_before, true_outcome}

-- a record goes on with a message, and with each act
counted_goes_on : (b : Bool) (a : BlockReply) (marks : List Mark) → IsBeginning marks (if b then Answered a ∷ marks else marks)
counted_goes_on true a marks = begins_before (Answered a) marks _ refl
counted_goes_on false a marks = begins_itself marks

pub message_goes_on : (message : Incoming) (marks : List Mark) → IsBeginning marks (received message marks)
message_goes_on (incoming.Reply a) marks = counted_goes_on (counts marks a) a marks
message_goes_on (incoming.Started e) marks = begins_before (Started e) marks _ refl
message_goes_on incoming.GaveUp marks = begins_before GaveUp marks _ refl
message_goes_on incoming.Flush marks = begins_before Flush marks _ refl
message_goes_on incoming.End marks = begins_itself marks

pub acts_go_on : (acts : List Act) (marks : List Mark) → IsBeginning marks (marks_after acts marks)
acts_go_on [] marks = begins_itself marks
acts_go_on (Began r ∷ acts) marks = acts_go_on acts marks
acts_go_on (Absorbed message ∷ acts) marks =
    begins_further marks (marks_after acts marks) _ (acts_go_on acts marks) (message_goes_on message (marks_after acts marks))
acts_go_on (AtLink (Posted to r true) ∷ acts) marks =
    begins_further marks (marks_after acts marks) _ (acts_go_on acts marks) (begins_before (Issued r to) (marks_after acts marks) _ refl)
acts_go_on (AtLink (Posted to r false) ∷ acts) marks = acts_go_on acts marks
acts_go_on (AtLink (Complained about) ∷ acts) marks = acts_go_on acts marks
acts_go_on (AtLink (Received message) ∷ acts) marks =
    begins_further marks (marks_after acts marks) _ (acts_go_on acts marks) (message_goes_on message (marks_after acts marks))

-- before the device is given up a sync is answered ok
sync_is_done : (g : Geometry) (image : Contents) (before : Tree) (marks : List Mark) (b : Bool) (answer : Answer) → b ≡ false
    → IsLegalTook g image before marks b syncer 0 Sync answer → is_done answer ≡ true
sync_is_done g image before marks true answer live legal = cc
sync_is_done g image before marks false answer live legal = elim legal.replies [
  | inl is ↦ ap is_done is
  | inr none ↦ let no : false ≡ true = none.0 in cc
]

-- so where it wasn't, the device was given up
gone_by : (b : Bool) → (b ≡ false → true ≡ false) → b ≡ true
gone_by true live = refl
gone_by false live = sym (live refl)

-- the answer in an outcome
answer_is : (a b : Answer) → Replied a ≡ Replied b → a ≡ b
answer_is a b is = cc

-- what the record says of a last sync that was answered
answered_tells : (g : Geometry) (v : Opening) (tree : Tree) (marks : List Mark) (answer : Answer) (b : Bool) → is_done answer ≡ b
    → (gave_up marks ≡ true → (Replied answer ≡ Cut) ⊎ (Replied answer ≡ Replied (refused EIO)))
    → (HasTrueReplies (contents_at v) marks → IsLegal g (contents_at v) tree (Took syncer 0 Sync answer ∷ marks))
    → SyncTells (sync_end false b) g v tree marks
answered_tells g v tree marks answer true is once legal =
    let done_it : Replied answer ≡ Replied done = done_is (Replied answer) is in
    let live : gave_up marks ≡ false =
    not_given_up (gave_up marks) (subst (λ (o : Outcome). gave_up marks ≡ true → (o ≡ Cut) ⊎ (o ≡ Replied (refused EIO))) done_it once) in (
      live,
      λ replies.
          synced_is_held g (contents_at v) tree marks syncer 0 Sync done live refl refl
          (subst (λ (a : Answer). IsLegal g (contents_at v) tree (Took syncer 0 Sync a ∷ marks)) (answer_is answer done done_it) (legal replies)),
    )
answered_tells g v tree marks answer false is once legal = λ replies.
    gone_by (gave_up marks) (λ live.
    sym (sync_is_done g (contents_at v) (tree_after g tree marks) marks (gave_up marks) answer live (legal replies).1) ∙ is)

-- and of any
pub outcome_tells : (g : Geometry) (v : Opening) (tree : Tree) (marks : List Mark) (outcome : Outcome)
    → (gave_up marks ≡ true → (outcome ≡ Cut) ⊎ (outcome ≡ Replied (refused EIO)))
    → (outcome ≡ Cut → gave_up marks ≡ false)
    → (HasTrueReplies (contents_at v) (with_outcome syncer 0 Sync outcome marks)
    → IsLegal g (contents_at v) tree (with_outcome syncer 0 Sync outcome marks))
    → SyncTells (sync_end (was_cut outcome) (succeeded outcome)) g v tree marks
outcome_tells g v tree marks (Replied answer) once live legal = answered_tells g v tree marks answer (is_done answer) refl once legal
outcome_tells g v tree marks Cut once live legal = live refl

-- a link has ended exactly where the sync was cut
not_cut : (b ok : Bool) → b ≡ false → b ≡ has_ended (sync_end false ok)
not_cut b true is = is
not_cut b false is = is

isnt_over : (b : Bool) (answer : Answer) → (b ≡ true → Replied answer ≡ Cut) → b ≡ false
isnt_over true answer cut = let no = cut refl in cc
isnt_over false answer cut = refl

ended_by : (outcome : Outcome) (b : Bool) → (outcome ≡ Cut → b ≡ true) → (b ≡ true → outcome ≡ Cut)
    → b ≡ has_ended (sync_end (was_cut outcome) (succeeded outcome))
ended_by (Replied answer) b is cut = not_cut b (is_done answer) (isnt_over b answer cut)
ended_by Cut b is cut = is refl

-- how the sync went, by what was asked of its outcome
pub cut_end : (outcome : Outcome) (cut : Bool) → cut ≡ was_cut outcome → cut ≡ true → sync_end (was_cut outcome) (succeeded outcome) ≡ WasCut
cut_end outcome cut is was = ap (λ (b : Bool). sync_end b (succeeded outcome)) (sym is ∙ was)

answered_end : (outcome : Outcome) (cut ok b : Bool) → cut ≡ was_cut outcome → cut ≡ false → ok ≡ succeeded outcome → ok ≡ b
    → sync_end (was_cut outcome) (succeeded outcome) ≡ sync_end false b
answered_end outcome cut ok b is none done_is done_was =
    ap (λ (c : Bool). sync_end c (succeeded outcome)) (sym is ∙ none) ∙ ap (λ (d : Bool). sync_end false d) (sym done_is ∙ done_was)

pub given_up_end : (outcome : Outcome) (cut ok : Bool) → cut ≡ was_cut outcome → cut ≡ false → ok ≡ succeeded outcome → ok ≡ false
    → sync_end (was_cut outcome) (succeeded outcome) ≡ WasGivenUp
given_up_end outcome cut ok is none done_is done_was = answered_end outcome cut ok false is none done_is done_was

pub went_end : (outcome : Outcome) (cut ok : Bool) → cut ≡ was_cut outcome → cut ≡ false → ok ≡ succeeded outcome → ok ≡ true
    → sync_end (was_cut outcome) (succeeded outcome) ≡ Went
went_end outcome cut ok is none done_is done_was = answered_end outcome cut ok true is none done_is done_was

-- a server's link after a last sync of a server that was held
last_of : {N S L : Type 0} (room : RoomWords N) (link : LinkWords L) (serving : S → Serving) (line : S → L) (is_ready : S → Type 0)
    (knows : Call → Type 0) (runs_on : L → Policy → List DriverState → Type 0) (record_in : L → List Mark)
    (old mid : S) (outcome : Outcome) (how : SyncEnd) → Kept room link serving line runs_on record_in
    → IsHeld room link serving line is_ready knows runs_on record_in old
    → CallSpecification (serving old) (serving mid) (link.truth (line old)) (link.truth (line mid)) syncer 0 Sync outcome
    → sync_end (was_cut outcome) (succeeded outcome) ≡ how
    → IsLastLine link room.geometry room.opening (record_in (line old)) how (line mid)
last_of room link serving line is_ready knows runs_on record_in old mid outcome how kept held c is =
    let v = room.opening in
    let marks = record_in (line old) in
    let here = marks_after c.keeps.acts marks in
    let ends = ends_called room link serving line is_ready knows runs_on record_in syncer 0 Sync outcome old mid kept.tells c held in
    let st = held.stands in
    let own = held.tree in
    let truth = c.truth v own marks st.minor st.serves.agrees st.truth in
    let last : IsEndLast (serving mid).told = subst IsEndLast (sym (kept.tells mid)) (kept.end_last (line mid) here truth) in
    subst (λ (h : SyncEnd). IsLastLine link room.geometry v marks h (line mid)) is (record {
      ended = sym ends ∙ ended_by outcome (serving mid).ended c.keeps.cut.0 c.keeps.cut.1;
      marks = here;
      guaranteed = truth;
      goes_on = acts_go_on c.keeps.acts marks;
      tells = λ tree first.
          outcome_tells room.geometry v tree here outcome
          (c.keeps.once_given_up (contents_at v) own marks st.serves.agrees)
          (kept_if_cut serving link.truth old mid (line old) (line mid) syncer 0 Sync outcome v own marks c last st held.either)
          (λ replies.
          let h = held.at_first (true_before c.keeps.acts (contents_at v) marks (true_outcome (contents_at v) syncer 0 Sync outcome here replies)) in
          legal_from room.geometry (serving mid).geometry (contents_at v) own tree (with_outcome syncer 0 Sync outcome here)
          (c.keeps.leads.geometry ∙ h.0, h.1) first ((c.keeps.serves (contents_at v) own marks st.serves).legal replies));
    })

-- the same, by its link as contracts see it
pub last_line : {N S L : Type 0} (room : RoomWords N) (link : LinkWords L) (serving : S → Serving) (line : S → L) (is_ready : S → Type 0)
    (knows : Call → Type 0) (runs_on : L → Policy → List DriverState → Type 0) (record_in : L → List Mark)
    (old mid : S) (l : L) (outcome : Outcome) (how : SyncEnd) → line old ≡ l → Kept room link serving line runs_on record_in
    → IsHeld room link serving line is_ready knows runs_on record_in old
    → CallSpecification (serving old) (serving mid) (link.truth (line old)) (link.truth (line mid)) syncer 0 Sync outcome
    → sync_end (was_cut outcome) (succeeded outcome) ≡ how
    → IsLastLine link room.geometry room.opening (record_in l) how (line mid)
last_line {L = L} room link serving line is_ready knows runs_on record_in old mid l outcome how same kept held c is =
    subst (λ (k : L). IsLastLine link room.geometry room.opening (record_in k) how (line mid)) same
    (last_of room link serving line is_ready knows runs_on record_in old mid outcome how kept held c is)

-- what goes on from more goes on from less
pub line_from : {L : Type 0} (link : LinkWords L) (g : Geometry) (v : Opening) (earlier seen : List Mark) (how : SyncEnd) (line : L)
    → IsBeginning earlier seen → IsLastLine link g v seen how line → IsLastLine link g v earlier how line
line_from link g v earlier seen how line begins l = record {
  ended = l.ended;
  marks = l.marks;
  guaranteed = l.guaranteed;
  goes_on = begins_further earlier seen l.marks begins l.goes_on;
  tells = l.tells;
}

-- so does what is left of a server
pub finished_from : {L : Type 0} (link : LinkWords L) (numbers : L → List ℕ) (g : Geometry) (v : Opening) (earlier seen : List Mark) (used : List ℕ)
    (how : SyncEnd) (size : ℕ) (units : List Bool) (pieces : List Piece) → IsBeginning earlier seen
    → IsFinished link numbers g v seen used how size units pieces → IsFinished link numbers g v earlier used how size units pieces
unfolding line_from
finished_from link numbers g v earlier seen used how size units pieces begins l = record {
  line = l.line;
  last = line_from link g v earlier seen how l.line begins l.last;
  back = l.back;
  same = l.same;
}

-- each record goes on from nothing
pub begins_empty : (marks : List Mark) → IsBeginning [] marks
begins_empty marks = record { later = marks; is = sym (append-nil marks) }

pub err_so : {A E : Type 0} (P Q : E → Type 0) (result : Result A E) → ((e : E) → P e → Q e) → IfErr result P → IfErr result Q
err_so P Q (Ok a) so is = tt
err_so P Q (Err e) so is = so e is
