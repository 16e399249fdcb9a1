-- What each call of transfers adds to the record, and what it does to the disk, to those that are pending, and to what the link guarantees.
use Rattle.std.specs.Prelude.{◌≡◌, ◌+◌, List, [], ◌∷◌, ◌++◌, length, max, Bool, true, false, not, ◌||◌, ◌==◌, MatchBool}
use Rattle.message.specs.declared.BlockRequest.{BlockRequest}
use Rattle.message.specs.declared.Incoming.{Incoming}
use Rattle.message.specs.declared.Incoming.TheVariants as incoming
use Rattle.records.specs.Marks.{Mark}
use Rattle.records.specs.Disk.{Contents}
use Rattle.records.specs.Told.{Told, Received, grown, received, heard, took_end, took_nothing}
use Rattle.records.specs.Settled.{PostsReads}
use Rattle.reissue.specs.declared.ask.Ask.{Ask}
use Rattle.reissue.specs.Settlements.{Settlement}
use Rattle.reissue.specs.Settlements as settled
use Rattle.reissue.specs.declared.pending.Pending.{Pending}
use Rattle.reissue.specs.declared.table.Table.{Table}
use Rattle.records.specs.Opening.{Opening}
use Rattle.reissue.specs.Moves.{IsBusy, Spares, Closes, state_after, IsRequestFor, begun_by}
use Rattle.records.specs.Area.{Area, LiesIn}
use Rattle.reissue.specs.Entries.{pending_of, begun_of, AllOfMinor, AllIn}
use Rattle.reissue.specs.Agrees.{Agrees}
use Rattle.records.specs.Acts.{Act, Absorbed, told_of, has_absorbed}
use Rattle.reissue.specs.Rules.{KeepsRulesBy, BeganAmong, acts_on}
use Rattle.reissue.specs.Hears.{Hears}
use Rattle.reissue.specs.Answers.{complaints_about}
use Rattle.reissue.specs.Closing.{Closing}
use Rattle.reissue.specs.Posts.{OnlyPosts, accepted_of, PostsInOrder, PostsAfter, due_after}

-- what a link guarantees of a record, for a run from an opening
abbrev pub Truth : Type 1
Truth = Opening → List Mark → Type 0

-- what was posted leads from a record that agrees to one that agrees
pub record Leads (old new : Table) (before after : List Told) (was is : Truth) : Type 0 where
  pub posts : List Told
  pub history : after ≡ posts ++ before
  pub only_posts : OnlyPosts posts
  pub same : new.pending ≡ old.pending
  pub given_up : new.given_up ≡ old.given_up
  pub posted : new.posted ≡ old.posted + accepted_of posts
  pub issued : new.issued ≡ max old.issued new.posted
  pub agrees : (marks : List Mark) → Agrees old marks → Agrees new (grown posts marks)
  pub spares : (image : Contents) (marks : List Mark) → Agrees old marks
      → Spares (pending_of old.pending) (state_after image marks) (state_after image (grown posts marks))
  pub truth : (opening : Opening) (marks : List Mark) → Agrees old marks → AllOfMinor opening.minor old.pending
      → was opening marks → is opening (grown posts marks)

-- the device was given up by it
abbrev pub gives_up : Settlement → Bool
gives_up settled.GaveUp = true
gives_up (settled.Read t bytes) = false
gives_up (settled.Written t) = false
gives_up settled.Nothing = false
gives_up settled.Flush = false
gives_up settled.End = false

-- what is done on a message before anything is posted: the complaint that is due
pub record TakesIn (message : Incoming) (result : Settlement) (old mid : Table) (before after : List Told) (was is : Truth) : Type 0 where
  pub complaints : List Told
  pub history : after ≡ complaints ++ before
  pub quiet : took_nothing complaints ≡ true
  pub unasked : PostsReads complaints
  pub silent : (marks : List Mark) → grown complaints marks ≡ marks
  pub due : (marks : List Mark) → Agrees old marks → complaints ≡ complaints_about (due_after message marks)
  pub hears : (marks : List Mark) → Agrees old marks → Hears message old mid marks
  pub agrees : (marks : List Mark) → Agrees old marks → Agrees mid (received message marks)
  pub given_up : mid.given_up ≡ (gives_up result || old.given_up)
  pub ended : took_end after ≡ took_end before
  pub closes : Closes result (pending_of old.pending) (pending_of mid.pending)
  pub closing : (marks : List Mark) → Agrees old marks → Closing result old.pending mid.pending marks (received message marks)
  pub minors : (area : Area) → AllIn area old.pending → AllIn area mid.pending
  pub truth : (opening : Opening) (marks : List Mark) → was opening marks → is opening marks

-- what is done on a message: the complaint that is due, and then the posts
pub record Absorbs (message : Incoming) (result : Settlement) (old new : Table) (before after : List Told) (was is : Truth) : Type 0 where
  pub mid : Table
  pub posts : List Told
  pub complaints : List Told
  pub history : after ≡ posts ++ (complaints ++ before)
  pub only_posts : OnlyPosts posts
  pub quiet : took_nothing complaints ≡ true
  pub unasked : PostsReads complaints
  pub silent : (marks : List Mark) → grown complaints marks ≡ marks
  pub due : (marks : List Mark) → Agrees old marks → complaints ≡ complaints_about (due_after message marks)
  pub hears : (marks : List Mark) → Agrees old marks → Hears message old mid marks
  pub heard : (marks : List Mark) → Agrees old marks → Agrees mid (received message marks)
  pub in_order : PostsAfter message mid (complaints ++ before) after
  pub same : new.pending ≡ mid.pending
  pub current : new.current ≡ mid.current
  pub given_up : new.given_up ≡ (gives_up result || old.given_up)
  pub ended : took_end after ≡ took_end before
  pub posted : new.posted ≡ mid.posted + accepted_of posts
  pub issued : new.issued ≡ max mid.issued new.posted
  pub agrees : (marks : List Mark) → Agrees old marks → Agrees new (grown posts (received message marks))
  pub closes : Closes result (pending_of old.pending) (pending_of new.pending)
  pub closing : (marks : List Mark) → Agrees old marks
      → Closing result old.pending new.pending marks (grown posts (received message marks))
  pub minors : (area : Area) → AllIn area old.pending → AllIn area new.pending
  pub truth : (opening : Opening) (marks : List Mark) → Agrees old marks → AllOfMinor opening.minor old.pending
      → was opening (received message marks) → is opening (grown posts (received message marks))
  pub rules : (area : Area) (marks : List Mark) → Agrees old marks → AllIn area old.pending
      → KeepsRulesBy (acts_on posts old mid complaints (Absorbed message ∷ [])) area old new before after marks (grown posts (received message marks))

-- a reply settles a request or nothing
abbrev pub IsOfReply : Settlement → Type 0
IsOfReply settled.Nothing = Unit {0}
IsOfReply (settled.Read t bytes) = Unit {0}
IsOfReply (settled.Written t) = Unit {0}
IsOfReply settled.Flush = ⊥
IsOfReply settled.GaveUp = ⊥
IsOfReply settled.End = ⊥

-- what is answered to each message
abbrev pub IsAnswerTo : Incoming → Settlement → Type 0
IsAnswerTo (incoming.Reply a) result = IsOfReply result
IsAnswerTo (incoming.Started e) result = result ≡ settled.Nothing
IsAnswerTo incoming.GaveUp result = result ≡ settled.GaveUp
IsAnswerTo incoming.Flush result = result ≡ settled.Flush
IsAnswerTo incoming.End result = result ≡ settled.End

-- another message may come
abbrev pub more_may_come : Settlement → Bool
more_may_come settled.End = false
more_may_come settled.Nothing = true
more_may_come (settled.Read t bytes) = true
more_may_come (settled.Written t) = true
more_may_come settled.Flush = true
more_may_come settled.GaveUp = true

-- a message was taken and absorbed; what was told after it
pub record Steps (result : Settlement) (old new : Table) (before after : List Told) (was is : Truth) : Type 0 where
  pub acts : List Act
  pub told : after ≡ told_of acts ++ before
  pub none_absorbed : has_absorbed acts ≡ false
  pub began : BeganAmong acts new.pending
  pub message : Incoming
  pub mid : Table
  pub posts : List Told
  pub complaints : List Told
  pub history : after ≡ posts ++ (complaints ++ heard message before)
  pub only_posts : OnlyPosts posts
  pub unasked : PostsReads complaints
  pub answer : IsAnswerTo message result
  pub due : (marks : List Mark) → Agrees old marks → complaints ≡ complaints_about (due_after message marks)
  pub hears : (marks : List Mark) → Agrees old marks → Hears message old mid marks
  pub in_order : PostsAfter message mid (complaints ++ heard message before) after
  pub same : new.pending ≡ mid.pending
  pub given_up : new.given_up ≡ (gives_up result || old.given_up)
  pub ended : took_end after ≡ (not (more_may_come result) || took_end before)
  pub posted : new.posted ≡ mid.posted + accepted_of posts
  pub issued : new.issued ≡ max mid.issued new.posted
  pub grows : (marks : List Mark) → grown (posts ++ (complaints ++ (Received message ∷ []))) marks ≡ grown posts (received message marks)
  pub agrees : (marks : List Mark) → Agrees old marks → Agrees new (grown posts (received message marks))
  pub closes : Closes result (pending_of old.pending) (pending_of new.pending)
  pub closing : (marks : List Mark) → Agrees old marks
      → Closing result old.pending new.pending marks (grown posts (received message marks))
  pub minors : (area : Area) → AllIn area old.pending → AllIn area new.pending
  pub truth : (opening : Opening) (marks : List Mark) → Agrees old marks → AllOfMinor opening.minor old.pending → was opening marks
      → is opening (grown posts (received message marks))
  pub rules : (area : Area) (marks : List Mark) → Agrees old marks → AllIn area old.pending → IsBusy (pending_of old.pending)
      → old.given_up ≡ false
      → KeepsRulesBy acts area old new before after marks (grown posts (received message marks))

-- what is asked is for the area's minor, and if it writes, inside
abbrev pub AsksIn : Area → Ask → Type 0
AsksIn area ask = (ask.minor ≡ area.minor) × LiesIn area ask.kind ask.position ask.count

-- a request was taken up, or refused
pub record Begins (ask : Ask) (old new : Table) (before after : List Told) (was is : Truth) : Type 0 where
  pub acts : List Act
  pub told : after ≡ told_of acts ++ before
  pub none_absorbed : has_absorbed acts ≡ false
  pub began : BeganAmong acts new.pending
  pub posts : List Told
  pub history : after ≡ posts ++ before
  pub only_posts : OnlyPosts posts
  pub given_up : new.given_up ≡ old.given_up
  pub ended : took_end after ≡ took_end before
  pub posted : new.posted ≡ old.posted + accepted_of posts
  pub issued : new.issued ≡ max old.issued new.posted
  pub agrees : (marks : List Mark) → Agrees old marks → Agrees new (grown posts marks)
  pub spares : (image : Contents) (marks : List Mark) → Agrees old marks
      → Spares (pending_of new.pending) (state_after image marks) (state_after image (grown posts marks))
  pub minors : (area : Area) → AsksIn area ask → AllIn area old.pending → AllIn area new.pending
  pub truth : (opening : Opening) (marks : List Mark) → Agrees old marks → ask.minor ≡ opening.minor
      → AllOfMinor opening.minor old.pending → was opening marks → is opening (grown posts marks)
  pub rules : (area : Area) (marks : List Mark) → Agrees old marks → AllIn area old.pending → AsksIn area ask
      → KeepsRulesBy acts area old new before after marks (grown posts marks)

-- where each earlier one was posted, the new request is posted; where not, it waits behind them
abbrev pub PostsNew : Table → BlockRequest → List Told → List Told → Type 0
PostsNew old r before after = MatchBool (old.posted == length old.pending) (PostsInOrder old.current (r ∷ []) before after) (after ≡ before)

-- the request stands at the end, under the next id
pub record Adds (ask : Ask) (old new : Table) (before after : List Told) : Type 0 where
  pub entry : Pending
  pub pending : new.pending ≡ old.pending ++ entry ∷ []
  pub begun : begun_of entry ≡ begun_by ask
  pub request : IsRequestFor ask (old.ids + 1) entry.request
  pub ids : new.ids ≡ old.ids + 1
  pub in_order : PostsNew old entry.request before after
