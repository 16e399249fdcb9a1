-- What holds under the lock of a service after a message between two calls.
use Rattle.std.proofs.Common.{◌≡◌, ◌≢◌, List, [], ◌∷◌, ◌++◌, Bool, true, false, refl, sym, ◌∙◌, ap, subst, true≢false}
use Rattle.std.specs.Prelude.{◌||◌, if◌then◌else◌}
use Rattle.message.specs.declared.BlockReply.{BlockReply}
use Rattle.message.specs.declared.Incoming.{Incoming}
use Rattle.message.specs.declared.Incoming.TheVariants as incoming
use Rattle.tree.specs.declared.Call.{Call}
use Rattle.records.specs.Marks.{Mark, Answered, gave_up}
use Rattle.records.specs.Open.{counts}
use Rattle.records.specs.Acts.{Act, Began, Absorbed, AtLink, told_of, marks_after, has_absorbed}
use Rattle.records.specs.Disk.{HasTrueReplies}
use Rattle.records.specs.Opening.{contents_at}
use Rattle.records.specs.Told.{Posted, Complained, Received, received, took_end, took_nothing}
use Rattle.bdev.specs.DriverState.{DriverState}
use Rattle.reincarnate.specs.declared.policy.Policy.{Policy}
use Rattle.records.specs.ServerCall.{Serving}
use Rattle.records.specs.Session.{went_on}
use Rattle.reissue.specs.declared.link.Link.{Ghosts as LinkWords}
use Rattle.file_server.specs.Over.{AbsorbsOver, SameServing, Stands, Hears}
use Rattle.file_server.proofs.Leaving.{took_either}
use Rattle.file_server.proofs.Standing.{serves_same, message_stands}
use Rattle.board.specs.declared.counting.parameters.ServiceParameters.{Ghosts as RoomWords}
use Rattle.shared_server.specs.Held.{IsHeld}
use Rattle.shared_server.proofs.HeldLaws.{Kept, true_before}

-- a message but the giving up gives no device up
gave_up_if : (b : Bool) (a : BlockReply) (marks : List Mark) → gave_up (if b then Answered a ∷ marks else marks) ≡ gave_up marks
gave_up_if true a marks = refl
gave_up_if false a marks = refl

gave_up_received : (message : Incoming) (marks : List Mark) → message ≢ incoming.GaveUp → gave_up (received message marks) ≡ gave_up marks
gave_up_received (incoming.Reply a) marks other = gave_up_if (counts marks a) a marks
gave_up_received (incoming.Started e) marks other = refl
gave_up_received incoming.GaveUp marks other = absurd (other refl)
gave_up_received incoming.Flush marks other = refl
gave_up_received incoming.End marks other = refl

-- no message answers a call
went_on_if : (b : Bool) (a : BlockReply) (marks : List Mark) → went_on (if b then Answered a ∷ marks else marks) ≡ went_on marks
went_on_if true a marks = refl
went_on_if false a marks = refl

went_on_received : (message : Incoming) (marks : List Mark) → went_on (received message marks) ≡ went_on marks
went_on_received (incoming.Reply a) marks = went_on_if (counts marks a) a marks
went_on_received (incoming.Started e) marks = refl
went_on_received incoming.GaveUp marks = refl
went_on_received incoming.Flush marks = refl
went_on_received incoming.End marks = refl

-- what is done on it gives no device up
gave_up_handed : (message : Incoming) → message ≢ incoming.GaveUp → (later : List Act) (marks : List Mark) → has_absorbed later ≡ false
    → took_nothing (told_of later) ≡ true → gave_up (marks_after (later ++ Absorbed message ∷ []) marks) ≡ gave_up marks
gave_up_handed m other [] marks none quiet = gave_up_received m marks other
gave_up_handed m other (Began r ∷ later) marks none quiet = gave_up_handed m other later marks none quiet
gave_up_handed m other (Absorbed message ∷ later) marks none quiet = absurd (true≢false none)
gave_up_handed m other (AtLink (Posted to r true) ∷ later) marks none quiet = gave_up_handed m other later marks none quiet
gave_up_handed m other (AtLink (Posted to r false) ∷ later) marks none quiet = gave_up_handed m other later marks none quiet
gave_up_handed m other (AtLink (Complained about) ∷ later) marks none quiet = gave_up_handed m other later marks none quiet
gave_up_handed m other (AtLink (Received message) ∷ later) marks none quiet = absurd (true≢false (sym quiet))

-- and answers no call
went_on_handed : (message : Incoming) (later : List Act) (marks : List Mark) → has_absorbed later ≡ false
    → took_nothing (told_of later) ≡ true → went_on (marks_after (later ++ Absorbed message ∷ []) marks) ≡ went_on marks
went_on_handed m [] marks none quiet = went_on_received m marks
went_on_handed m (Began r ∷ later) marks none quiet = went_on_handed m later marks none quiet
went_on_handed m (Absorbed message ∷ later) marks none quiet = absurd (true≢false none)
went_on_handed m (AtLink (Posted to r true) ∷ later) marks none quiet = went_on_handed m later marks none quiet
went_on_handed m (AtLink (Posted to r false) ∷ later) marks none quiet = went_on_handed m later marks none quiet
went_on_handed m (AtLink (Complained about) ∷ later) marks none quiet = went_on_handed m later marks none quiet
went_on_handed m (AtLink (Received message) ∷ later) marks none quiet = absurd (true≢false (sym quiet))

-- and takes no End
no_end_handed : (message : Incoming) (later : List Act) → took_nothing (told_of later) ≡ true
    → took_end (told_of (later ++ Absorbed message ∷ [])) ≡ false
no_end_handed m [] quiet = refl
no_end_handed m (Began r ∷ later) quiet = no_end_handed m later quiet
no_end_handed m (Absorbed message ∷ later) quiet = no_end_handed m later quiet
no_end_handed m (AtLink (Posted to r accepted) ∷ later) quiet = no_end_handed m later quiet
no_end_handed m (AtLink (Complained about) ∷ later) quiet = no_end_handed m later quiet
no_end_handed m (AtLink (Received message) ∷ later) quiet = absurd (true≢false (sym quiet))

-- a message but the giving up, which the link noted in its record before the server was handed it
pub record Handed {N S L : Type 0} (room : RoomWords N) (link : LinkWords L) (serving : S → Serving) (line : S → L) (is_ready : S → Type 0)
    (runs_on : L → Policy → List DriverState → Type 0) (message : Incoming) (old mid new : S) : Type 0 where
  pub other : message ≢ incoming.GaveUp
  pub served : SameServing (serving old) (serving mid)
  pub drivers : runs_on (line old) room.policy room.supply → runs_on (line mid) room.policy room.supply
  pub noted : (older : List Mark) → link.truth (line old) room.opening older → link.truth (line mid) room.opening (received message older)
  pub absorbs : AbsorbsOver (serving mid) (serving new) (link.truth (line mid)) (link.truth (line new)) message
  pub ready : is_ready new
  pub goes : link.goes_on (line mid) (line new)

module _ {N S L : Type 0} (room : RoomWords N) (link : LinkWords L) (serving : S → Serving) (line : S → L) (is_ready : S → Type 0)
    (knows : Call → Type 0) (runs_on : L → Policy → List DriverState → Type 0) (record_in : L → List Mark) where
  -- the record after it
  abbrev after : (m : Incoming) (old mid new : S) → Handed room link serving line is_ready runs_on m old mid new → List Mark
  after m old mid new f = marks_after (f.absorbs.keeps.later ++ Absorbed m ∷ []) (record_in (line old))

  stands_handed : (m : Incoming) (old mid new : S) (f : Handed room link serving line is_ready runs_on m old mid new)
      → (held : IsHeld room link serving line is_ready knows runs_on record_in old)
      → Stands (serving new) (link.truth (line new)) room.opening held.tree (after m old mid new f)
  stands_handed m old mid new f held =
      let st = held.stands in
      let t = held.tree in
      let marks = record_in (line old) in
      let hears : Hears (serving mid) (link.truth (line mid)) room.opening t marks (received m marks) = record {
        minor = st.minor ∙ sym f.served.minor;
        serves = serves_same (serving old) (serving mid) (contents_at room.opening) t marks f.served st.serves;
        truth = f.noted marks st.truth;
      } in
      message_stands serving link.truth mid new (line mid) (line new) m room.opening t marks f.absorbs hears

  record_handed : (m : Incoming) (old mid new : S) → Kept room link serving line runs_on record_in
      → (f : Handed room link serving line is_ready runs_on m old mid new)
      → IsHeld room link serving line is_ready knows runs_on record_in old → record_in (line new) ≡ after m old mid new f
  record_handed m old mid new kept f held = kept.is_record (line new) _ (stands_handed m old mid new f held).truth

  ended_handed : (m : Incoming) (old mid new : S) (f : Handed room link serving line is_ready runs_on m old mid new)
      → (serving new).ended ≡ (serving old).ended
  ended_handed m old mid new f =
      f.absorbs.keeps.leads.ended
      ∙ ap (λ (b : Bool). b || (serving mid).ended) (no_end_handed m f.absorbs.keeps.later f.absorbs.keeps.none_taken)
      ∙ f.served.ended

  ends_handed : (m : Incoming) (old mid new : S) → Kept room link serving line runs_on record_in
      → (f : Handed room link serving line is_ready runs_on m old mid new)
      → IsHeld room link serving line is_ready knows runs_on record_in old → (serving new).ended ≡ took_end (link.history (line new))
  ends_handed m old mid new kept f held =
      let before : (serving mid).ended ≡ took_end (serving mid).told =
      f.served.ended ∙ held.ends ∙ ap took_end (sym (kept.tells old)) ∙ ap took_end (sym f.served.told) in
      f.absorbs.keeps.leads.ended
      ∙ ap (λ (b : Bool). took_end (told_of (f.absorbs.keeps.later ++ Absorbed m ∷ [])) || b) before
      ∙ sym (took_either (told_of (f.absorbs.keeps.later ++ Absorbed m ∷ [])) (serving mid).told)
      ∙ ap took_end (sym f.absorbs.keeps.leads.told)
      ∙ ap took_end (kept.tells new)

  -- what is held is held after it
  pub held_handed : (m : Incoming) (old mid new : S) → Kept room link serving line runs_on record_in
      → Handed room link serving line is_ready runs_on m old mid new
      → IsHeld room link serving line is_ready knows runs_on record_in old
      → IsHeld room link serving line is_ready knows runs_on record_in new
  held_handed m old mid new kept f held =
      let marks = record_in (line old) in
      let keeps = f.absorbs.keeps in
      record {
        ready = f.ready;
        knows_each = held.knows_each;
        ends = ends_handed m old mid new kept f held;
        drivers = kept.keeps_on (line mid) (line new) f.goes (f.drivers held.drivers);
        tree = held.tree;
        at_first = λ replies.
            let h = held.at_first (true_before (keeps.later ++ Absorbed m ∷ []) (contents_at room.opening) marks
            (subst (λ (ms : List Mark). HasTrueReplies (contents_at room.opening) ms) (record_handed m old mid new kept f held) replies)) in
            (keeps.leads.geometry ∙ f.served.geometry ∙ h.0, h.1);
        stands =
            subst (λ (ms : List Mark). Stands (serving new) (link.truth (line new)) room.opening held.tree ms)
            (sym (record_handed m old mid new kept f held)) (stands_handed m old mid new f held);
        answered = λ gone.
            let is = record_handed m old mid new kept f held in
            ap went_on is ∙ went_on_handed m keeps.later marks keeps.none_absorbed keeps.none_taken
            ∙ held.answered
            (sym (gave_up_handed m f.other keeps.later marks keeps.none_absorbed keeps.none_taken) ∙ sym (ap gave_up is) ∙ gone);
        either = λ over.
            ap gave_up (record_handed m old mid new kept f held)
            ∙ gave_up_handed m f.other keeps.later marks keeps.none_absorbed keeps.none_taken
            ∙ held.either (sym (ended_handed m old mid new f) ∙ over);
      }
