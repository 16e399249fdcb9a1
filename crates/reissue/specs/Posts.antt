-- What a link is told: posts in order, complaints that are due, and the room that they need.
use Rattle.std.specs.Prelude.{◌≡◌, ◌⊎◌, ℕ, ◌+◌, ◌<◌, ◌≤◌, List, [], ◌∷◌, length, Option, Some, None, IsSome, Bool, true, false, not, MatchBool}
use Rattle.message.specs.declared.endpoint.Endpoint.{Endpoint}
use Rattle.message.specs.declared.BlockRequest.{BlockRequest}
use Rattle.message.specs.declared.Incoming.{Incoming}
use Rattle.message.specs.declared.Incoming.TheVariants as incoming
use Rattle.records.specs.Told.{Told, Posted, Complained, Received}
use Rattle.records.specs.Marks.{Mark}
use Rattle.records.specs.Acts.{complaint_due}
use Rattle.reissue.specs.declared.table.Table.{Table}
use Rattle.reissue.specs.Agrees.{unposted}

-- these are all posts
abbrev pub OnlyPosts : List Told → Type 0
OnlyPosts [] = Unit {0}
OnlyPosts (Posted to r accepted ∷ told) = OnlyPosts told
OnlyPosts (Complained about ∷ told) = ⊥
OnlyPosts (Received message ∷ told) = ⊥

-- how many of them were accepted
abbrev pub accepted_of : List Told → ℕ
accepted_of [] = 0
accepted_of (Posted to r true ∷ told) = accepted_of told + 1
accepted_of (Posted to r false ∷ told) = accepted_of told
accepted_of (Complained about ∷ told) = accepted_of told
accepted_of (Received message ∷ told) = accepted_of told

-- from the one history to the other these are posted, in order, up to the first that is refused, and nothing else is told
abbrev pub ArePostedTo : Endpoint → List BlockRequest → List Told → List Told → Type 0
ArePostedTo to [] before after = after ≡ before
ArePostedTo to (r ∷ rs) before after =
    (after ≡ Posted to r false ∷ before) ⊎ ArePostedTo to rs (Posted to r true ∷ before) after

-- they are posted where there is an endpoint to post to
abbrev pub PostsInOrder : Option Endpoint → List BlockRequest → List Told → List Told → Type 0
PostsInOrder None rs before after = after ≡ before
PostsInOrder (Some to) rs before after = ArePostedTo to rs before after

-- End is no message
abbrev pub is_message : Incoming → Bool
is_message incoming.End = false
is_message (incoming.Reply a) = true
is_message (incoming.Started e) = true
is_message incoming.GaveUp = true
is_message incoming.Flush = true

-- what is posted after a message: all that isn't posted yet; nothing after End
abbrev pub PostsAfter : Incoming → Table → List Told → List Told → Type 0
PostsAfter message mid before after = MatchBool (is_message message) (PostsInOrder mid.current (unposted mid) before after) (after ≡ before)

-- the complaint that a message asks for
abbrev pub due_after : Incoming → List Mark → Option Endpoint
due_after (incoming.Reply a) marks = complaint_due a marks
due_after (incoming.Started e) marks = None
due_after incoming.GaveUp marks = None
due_after incoming.Flush marks = None
due_after incoming.End marks = None

-- the last post was refused
abbrev pub last_refused : List Told → Bool
last_refused [] = false
last_refused (Posted to r accepted ∷ told) = not accepted
last_refused (Complained about ∷ told) = last_refused told
last_refused (Received message ∷ told) = last_refused told

-- where something isn't posted though there is an endpoint, its last post was refused
pub record IsTried (table : Table) (history : List Told) : Type 0 where
  pub refused : IsSome table.current → table.posted < length table.pending → last_refused history ≡ true

-- the link has room for the posts of the requests that may be begun before the next message
pub record HasRoom (table : Table) (room : ℕ) : Type 0 where
  pub enough : IsSome table.current → table.posted ≡ length table.pending → 16 ≤ room + table.posted

-- the link has room for the posts of what is pending
pub record CanPost (table : Table) (room : ℕ) : Type 0 where
  pub enough : IsSome table.current → length table.pending ≤ room + table.posted

-- each accepted post took a place of the room at most; so did a refused one, and then something is left unposted
pub record TakesRoom (old new : Table) (before after : ℕ) : Type 0 where
  pub left : IsSome old.current → new.posted ≡ length new.pending → before + old.posted ≤ after + new.posted
