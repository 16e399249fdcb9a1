-- After the End of a call there are only begins, posts and complaints, none of which settles what a message was needed for.
use Rattle.std.proofs.Common.{◌≡◌, ◌∙◌, sym, subst, refl, ap, List, [], ◌∷◌, ◌++◌, Bool, true, false, not, ◌&&◌, ◌||◌, IsTrue, Option, Some, is_some, if◌then◌else◌, nat_lt}
use Rattle.message.specs.declared.endpoint.Endpoint.{Endpoint}
use Rattle.message.specs.declared.BlockRequest.{BlockRequest}
use Rattle.message.specs.declared.Incoming.TheVariants as incoming
use Rattle.records.specs.Marks.{Mark, last_started, gave_up}
use Rattle.records.specs.Open.{open_requests, greatest, has_none}
use Rattle.records.specs.Opening.{contents_at}
use Rattle.records.specs.Told.{Told, Posted, Complained, Received, took_end}
use Rattle.records.specs.Acts.{Act, Began, Absorbed, AtLink, Outbox, told_of, marks_after, has_absorbed, outbox_after, owed_after_act, with_act, needs_message, MayPost, KeepsRules}
use Rattle.records.specs.Area.{Area, area_of}
use Rattle.records.specs.ServerCall.{Serving, Rules}
use Rattle.reissue.specs.Calls.{Truth}
use Rattle.file_server.specs.Leaving.{IsEndLast, CutLeaves}

-- a message is needed, and the device isn't given up
record Waits (marks : List Mark) (o : Outbox) : Type 0 where
  needed : IsTrue (needs_message marks o)
  live : gave_up marks ≡ false

-- an End was taken in both where it was in one of them
pub took_either : (told earlier : List Told) → took_end (told ++ earlier) ≡ (took_end told || took_end earlier)
took_either [] earlier = refl
took_either (Posted to r accepted ∷ told) earlier = took_either told earlier
took_either (Complained about ∷ told) earlier = took_either told earlier
took_either (Received (incoming.Reply a) ∷ told) earlier = took_either told earlier
took_either (Received (incoming.Started e) ∷ told) earlier = took_either told earlier
took_either (Received incoming.GaveUp ∷ told) earlier = took_either told earlier
took_either (Received incoming.Flush ∷ told) earlier = took_either told earlier
took_either (Received incoming.End ∷ told) earlier = refl

-- an End among the first stays one
end_stays : (told earlier : List Told) → took_end told ≡ true → took_end (told ++ earlier) ≡ true
end_stays told earlier ended = took_either told earlier ∙ ap (λ (b : Bool). b || took_end earlier) ended

-- one more request is some request
more_is_some : (rs : List BlockRequest) (r : BlockRequest) → has_none (rs ++ r ∷ []) ≡ false
more_is_some [] r = refl
more_is_some (s ∷ rs) r = refl

-- where a message is needed, more that is owed needs it no less
needs_more : (a started stopped u n : Bool) → IsTrue (not a || (if started then stopped && not u else not n))
    → IsTrue (not a || (if started then stopped && true else true))
needs_more true true true u n needs = refl
needs_more true true false u n needs = needs
needs_more true false stopped u n needs = refl
needs_more false started stopped u n needs = refl

-- where a post may be made, what is needed is an answer
needs_answer : (a started stopped u n : Bool) → started ≡ true → stopped ≡ false
    → IsTrue (not a || (if started then stopped && not u else not n)) → a ≡ false
needs_answer true true true u n is none needs = cc
needs_answer true true false u n is none needs = cc
needs_answer true false stopped u n is none needs = cc
needs_answer false started stopped u n is none needs = refl

-- and so a message
answer_needs : (a b : Bool) → a ≡ false → IsTrue (not a || b)
answer_needs true b is = cc
answer_needs false b is = refl

-- a request that becomes pending needs a message no less
waits_begun : (marks : List Mark) (o : Outbox) (r : BlockRequest) → Waits marks o → Waits marks (owed_after_act (Began r) marks o)
waits_begun marks o r waits = record {
  needed = rw (more_is_some o.unposted r, more_is_some o.never_issued r)
      (needs_more (has_none (open_requests marks)) (is_some (last_started marks)) o.stopped (has_none o.unposted) (has_none o.never_issued) waits.needed);
  live = waits.live;
}

-- where a post may be made some request is open
open_at_post : (area : Area) (marks : List Mark) (o : Outbox) (to : Endpoint) (r : BlockRequest) → MayPost area marks o to r → Waits marks o
    → has_none (open_requests marks) ≡ false
open_at_post area marks o to r may waits =
    let started : last_started marks ≡ Some to = rw waits.live at may.endpoint in
    needs_answer (has_none (open_requests marks)) (is_some (last_started marks)) o.stopped (has_none o.unposted) (has_none o.never_issued)
    (ap (λ (e : Option Endpoint). is_some e) started) may.not_stopped waits.needed

-- a request more that is open, or none
open_more : (b : Bool) (rs : List BlockRequest) (r : BlockRequest) → has_none rs ≡ false → has_none (if b then rs ++ r ∷ [] else rs) ≡ false
open_more true rs r some = more_is_some rs r
open_more false rs r some = some

-- and so it is after the post
waits_posted : (area : Area) (marks : List Mark) (o : Outbox) (to : Endpoint) (r : BlockRequest) (accepted : Bool)
    → MayPost area marks o to r → Waits marks o → Waits (with_act (AtLink (Posted to r accepted)) marks) (owed_after_act (AtLink (Posted to r accepted)) marks o)
waits_posted area marks o to r true may waits = record {
  needed = answer_needs _ _ (open_more (nat_lt (greatest marks) r.id) (open_requests marks) r (open_at_post area marks o to r may waits));
  live = waits.live;
}
waits_posted area marks o to r false may waits = record {
  needed = answer_needs _ _ (open_at_post area marks o to r may waits);
  live = waits.live;
}

-- from the End on a message is needed
waits_after : (area : Area) (acts : List Act) (earlier : List Told) (marks : List Mark) (o : Outbox) → has_absorbed acts ≡ false
    → took_end (told_of acts) ≡ true → IsEndLast (told_of acts ++ earlier) → KeepsRules area acts marks o
    → Waits (marks_after acts marks) (outbox_after acts marks o)
waits_after area [] earlier marks o none ended last keep = cc
waits_after area (Began r ∷ acts) earlier marks o none ended last keep =
    waits_begun (marks_after acts marks) (outbox_after acts marks o) r (waits_after area acts earlier marks o none ended last keep.0)
waits_after area (Absorbed message ∷ acts) earlier marks o none ended last keep = cc
waits_after area (AtLink (Posted to r accepted) ∷ acts) earlier marks o none ended last keep =
    waits_posted area (marks_after acts marks) (outbox_after acts marks o) to r accepted keep.1
    (waits_after area acts earlier marks o none ended last keep.0)
waits_after area (AtLink (Complained about) ∷ acts) earlier marks o none ended last keep =
    let waits : Waits (marks_after acts marks) (outbox_after acts marks o) = waits_after area acts earlier marks o none ended last keep.0 in
    record { needed = waits.needed; live = waits.live }
waits_after area (AtLink (Received (incoming.Reply a)) ∷ acts) earlier marks o none ended last keep =
    let was = end_stays (told_of acts) earlier ended in cc
waits_after area (AtLink (Received (incoming.Started e)) ∷ acts) earlier marks o none ended last keep =
    let was = end_stays (told_of acts) earlier ended in cc
waits_after area (AtLink (Received incoming.GaveUp) ∷ acts) earlier marks o none ended last keep =
    let was = end_stays (told_of acts) earlier ended in cc
waits_after area (AtLink (Received incoming.Flush) ∷ acts) earlier marks o none ended last keep =
    let was = end_stays (told_of acts) earlier ended in cc
waits_after area (AtLink (Received incoming.End) ∷ acts) earlier marks o none ended last keep = record {
  needed = keep.1.needed;
  live = keep.1.live;
}

-- nothing is added
or_false : (b : Bool) → b ≡ (b || false)
or_false true = refl
or_false false = refl

-- so a call that an End of its own cut leaves what a message was needed for
pub cut_leaves : {S L : Type 0} (serving : S → Serving) (link_truth : L → Truth) → CutLeaves S L serving link_truth
cut_leaves serving link_truth s t l m who now call v tree marks calls live last stood =
    let rules : Rules (serving s) calls.keeps.acts (serving t) marks = calls.keeps.rules (contents_at v) tree marks stood.serves.agrees in
    let ended : took_end (told_of calls.keeps.acts) ≡ true =
    or_false (took_end (told_of calls.keeps.acts)) ∙ ap (λ (b : Bool). took_end (told_of calls.keeps.acts) || b) (sym live)
    ∙ sym calls.keeps.leads.ended ∙ calls.keeps.cut.0 refl in
    let waits : Waits (marks_after calls.keeps.acts marks) (outbox_after calls.keeps.acts marks (serving s).outbox) =
    waits_after (area_of (serving s).geometry (serving s).minor) calls.keeps.acts (serving s).told marks (serving s).outbox
    calls.keeps.none_absorbed ended (subst IsEndLast calls.keeps.leads.told last) rules.keep in
    (subst (λ (o : Outbox). IsTrue (needs_message (marks_after calls.keeps.acts marks) o)) (sym rules.outbox) waits.needed, waits.live)
