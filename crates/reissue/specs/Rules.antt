-- What transfers do at their link, as acts, and what they owe it between two calls.
use Rattle.std.specs.Prelude.{◌≡◌, ◌-◌, List, [], ◌∷◌, ◌++◌, length, drop, ◌&&◌, nat_lt, is_some, None, if◌then◌else◌}
use Rattle.records.specs.Marks.{Mark}
use Rattle.records.specs.Told.{Told}
use Rattle.records.specs.Area.{Area}
use Rattle.records.specs.Acts.{Act, Began, Absorbed, AtLink, Outbox, KeepsRules, outbox_after, marks_after, told_of}
use Rattle.reissue.specs.declared.pending.Pending.{Pending}
use Rattle.reissue.specs.declared.table.Table.{Table}
use Rattle.reissue.specs.Entries.{IsAmong}
use Rattle.reissue.specs.Agrees.{unposted, never_issued}

-- what a table owes its link between two calls
abbrev pub outbox_of : Table → Outbox
outbox_of table = record {
  never_issued = never_issued table;
  unposted = unposted table;
  stopped = is_some table.current && nat_lt table.posted (length table.pending);
  complaint = None;
}

-- the link was told and gave these
abbrev pub at_link : List Told → List Act
at_link [] = []
at_link (t ∷ told) = AtLink t ∷ at_link told

-- these became pending
abbrev pub all_began : List Pending → List Act
all_began [] = []
all_began (p ∷ ps) = Began p.request ∷ all_began ps

-- each request that became pending in these acts is one of these, which are pending
abbrev pub BeganAmong : List Act → List Pending → Type 0
BeganAmong [] ps = Unit {0}
BeganAmong (Began r ∷ acts) ps = ((p : Pending) × IsAmong p ps × (p.request ≡ r)) × BeganAmong acts ps
BeganAmong (Absorbed message ∷ acts) ps = BeganAmong acts ps
BeganAmong (AtLink told ∷ acts) ps = BeganAmong acts ps

-- what became pending on a message: the last request, where it got an id
abbrev pub began_on : Table → Table → List Act
began_on old mid = if nat_lt old.ids mid.ids then all_began (drop (length mid.pending - 1) mid.pending) else []

-- what is done on a message: the complaint that is due, the rest of a request, and the posts
abbrev pub acts_on : List Told → Table → Table → List Told → List Act → List Act
acts_on posts old mid complaints arrived = at_link posts ++ (began_on old mid ++ (at_link complaints ++ arrived))

-- these acts are what the link was told and gave, each is one that the rules allow, and they lead to the record and from what the one
-- table owes to what the other does
pub record KeepsRulesBy (acts : List Act) (area : Area) (old new : Table) (before after : List Told) (marks more : List Mark) : Type 0 where
  pub told : after ≡ told_of acts ++ before
  pub grows : marks_after acts marks ≡ more
  pub keeps : KeepsRules area acts marks (outbox_of old)
  pub owes : outbox_after acts marks (outbox_of old) ≡ outbox_of new
