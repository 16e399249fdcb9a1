-- What a server does at its link, newest first, and the rules that it keeps: when it posts, complains and takes.
use Rattle.std.specs.Prelude.{◌≡◌, ◌+◌, ◌<◌, List, [], ◌∷◌, ◌++◌, length, Bool, true, false, not, ◌&&◌, ◌||◌, Option, Some, None, is_some, IsTrue, if◌then◌else◌}
use Rattle.message.specs.declared.endpoint.Endpoint.{Endpoint}
use Rattle.message.specs.declared.BlockRequest.{BlockRequest}
use Rattle.message.specs.declared.BlockReply.{BlockReply}
use Rattle.message.specs.declared.Incoming.{Incoming}
use Rattle.message.specs.declared.Incoming.TheVariants as incoming
use Rattle.records.specs.Marks.{Mark, last_started, gave_up}
use Rattle.records.specs.Open.{open_requests, greatest, counts, moved_by, has_none, without_id}
use Rattle.records.specs.Area.{Area, FitsArea}
use Rattle.records.specs.Told.{Told, Posted, Complained, Received, received, with_told}

-- A request becomes pending; a message is handed over between two calls; the link is told or gives something.
pub data Act : Type 0 where
  Began : (request : BlockRequest) → Act
  Absorbed : (message : Incoming) → Act
  AtLink : (told : Told) → Act

-- what the link was told and gave
abbrev pub told_of : List Act → List Told
told_of [] = []
told_of (Began r ∷ acts) = told_of acts
told_of (Absorbed message ∷ acts) = told_of acts
told_of (AtLink told ∷ acts) = told ∷ told_of acts

-- the record after an act: a request that becomes pending leaves no mark
abbrev pub with_act : Act → List Mark → List Mark
with_act (Began r) marks = marks
with_act (Absorbed message) marks = received message marks
with_act (AtLink told) marks = with_told told marks

-- the record after all of these
abbrev pub marks_after : List Act → List Mark → List Mark
marks_after [] marks = marks
marks_after (act ∷ acts) marks = with_act act (marks_after acts marks)

-- whether a message was handed over between two calls
abbrev pub has_absorbed : List Act → Bool
has_absorbed [] = false
has_absorbed (Absorbed message ∷ acts) = true
has_absorbed (_ ∷ acts) = has_absorbed acts

-- What a server still owes its link. Pending are the open requests and those never issued. All lists are in rising order of ids.
pub record Outbox : Type 0 where
  -- pending, and never issued: an accepted post would be the first
  pub never_issued : List BlockRequest
  -- pending, and not accepted by the driver of the last start
  pub unposted : List BlockRequest
  -- the last post was refused, and no message came since
  pub stopped : Bool
  -- the driver of whose answer a complaint is due
  pub complaint : Option Endpoint

-- nothing is owed
abbrev pub empty_outbox : Outbox
empty_outbox = record { never_issued = []; unposted = []; stopped = false; complaint = None }

-- the complaint that a reply asks for: about one that counts and isn't good
abbrev pub complaint_due : BlockReply → List Mark → Option Endpoint
complaint_due a marks = if counts marks a && not (is_some (moved_by a marks)) then Some a.from else None

-- the requests that a reply leaves unposted: one that counts and is good closes its request
abbrev pub without_answered : BlockReply → List Mark → List BlockRequest → List BlockRequest
without_answered a marks rs = if counts marks a && is_some (moved_by a marks) then without_id a.id rs else rs

-- what is owed after a message: at a start all pending requests are to be posted, unless the device was given up, and any message lets a
-- refused post be tried again
abbrev pub owed_after_message : Incoming → List Mark → Outbox → Outbox
owed_after_message (incoming.Reply a) marks o =
    record o { unposted = without_answered a marks o.unposted; stopped = false; complaint = complaint_due a marks }
owed_after_message (incoming.Started e) marks o =
    if gave_up marks then record o { stopped = false }
    else record o { unposted = open_requests marks ++ o.never_issued; stopped = false }
owed_after_message incoming.GaveUp marks o = record o { stopped = false }
owed_after_message incoming.Flush marks o = record o { stopped = false }
owed_after_message incoming.End marks o = o

-- what is owed after a post: an accepted one is done, a refused one stops the others
abbrev pub owed_after_post : BlockRequest → Bool → Outbox → Outbox
owed_after_post r true o =
    record o { never_issued = without_id r.id o.never_issued; unposted = without_id r.id o.unposted }
owed_after_post r false o = record o { stopped = true }

-- what is owed after one act, the marks being those before it
abbrev pub owed_after_act : Act → List Mark → Outbox → Outbox
owed_after_act (Began r) marks o =
    record o { never_issued = o.never_issued ++ r ∷ []; unposted = o.unposted ++ r ∷ [] }
owed_after_act (Absorbed message) marks o = owed_after_message message marks o
owed_after_act (AtLink (Posted to r accepted)) marks o = owed_after_post r accepted o
owed_after_act (AtLink (Complained about)) marks o = record o { complaint = None }
owed_after_act (AtLink (Received message)) marks o = owed_after_message message marks o

-- what is owed after all of these
abbrev pub outbox_after : List Act → List Mark → Outbox → Outbox
outbox_after [] marks o = o
outbox_after (act ∷ acts) marks o = owed_after_act act (marks_after acts marks) (outbox_after acts marks o)

-- where requests are posted: to the driver of the last start, until the device is given up
abbrev pub target : List Mark → Option Endpoint
target marks = if gave_up marks then None else last_started marks

-- whether a post is due: there is a driver to post to, no post was refused since the last message, and some request is unposted
abbrev pub is_post_due : List Mark → Outbox → Bool
is_post_due marks o = is_some (target marks) && not o.stopped && not (has_none o.unposted)

-- no complaint and no post is due
pub record IsAtRest (marks : List Mark) (o : Outbox) : Type 0 where
  pub complaint : o.complaint ≡ None
  pub post : is_post_due marks o ≡ false

-- a take is needed before the first start with a request pending, or while one is open or had its last post refused
abbrev pub needs_message : List Mark → Outbox → Bool
needs_message marks o =
    not (has_none (open_requests marks))
    || (if is_some (last_started marks) then o.stopped && not (has_none o.unposted) else not (has_none o.never_issued))

-- the first request, if there is one
abbrev pub first_of : List BlockRequest → Option BlockRequest
first_of [] = None
first_of (r ∷ rs) = Some r

-- a request becomes pending under the next id, and at most 16 are
pub record MayBegin (marks : List Mark) (o : Outbox) (r : BlockRequest) : Type 0 where
  pub next : r.id ≡ greatest marks + length o.never_issued + 1
  pub room : length (open_requests marks) + length o.never_issued < 16

-- a post is of the first unposted request, which fits the area, to the driver of the last start while the device isn't given up, after the
-- complaint and while none is refused
pub record MayPost (area : Area) (marks : List Mark) (o : Outbox) (to : Endpoint) (r : BlockRequest) : Type 0 where
  pub complained : o.complaint ≡ None
  pub endpoint : target marks ≡ Some to
  pub not_stopped : o.stopped ≡ false
  pub first : first_of o.unposted ≡ Some r
  pub fits : FitsArea area r

-- a take is made when nothing is due, one is needed, and the device isn't given up
pub record MayTake (marks : List Mark) (o : Outbox) : Type 0 where
  pub at_rest : IsAtRest marks o
  pub live : gave_up marks ≡ false
  pub needed : IsTrue (needs_message marks o)

-- an act that the rules allow, the marks and what is owed being those before it
abbrev pub MayAct : Area → List Mark → Outbox → Act → Type 0
MayAct area marks o (Began r) = MayBegin marks o r
MayAct area marks o (Absorbed message) = IsAtRest marks o
MayAct area marks o (AtLink (Posted to r accepted)) = MayPost area marks o to r
MayAct area marks o (AtLink (Complained about)) = o.complaint ≡ Some about
MayAct area marks o (AtLink (Received message)) = MayTake marks o

-- each of these acts is one that the rules allow
abbrev pub KeepsRules : Area → List Act → List Mark → Outbox → Type 0
KeepsRules area [] marks o = Unit {0}
KeepsRules area (act ∷ acts) marks o =
    KeepsRules area acts marks o × MayAct area (marks_after acts marks) (outbox_after acts marks o) act
