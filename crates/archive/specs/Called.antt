-- One call of a session of a service.
use Rattle.std.specs.Prelude.{ℕ, List}
use Rattle.layout.specs.declared.Geometry.{Geometry}
use Rattle.tree.specs.declared.Call.{Call}
use Rattle.tree.specs.declared.Outcome.{Outcome}
use Rattle.records.specs.Marks.{Mark}
use Rattle.records.specs.Opening.{Opening, contents_at}
use Rattle.records.specs.Session.{SessionState, SessionCallKeeps, caller_of}
use Rattle.reissue.specs.declared.link.Link.{Ghosts as LinkWords}
use Rattle.file_server.specs.Over.{outcome_of}
use Rattle.shared_server.specs.Held.{HoldsIfTrue, IsCutAtEnd, IsEioOnceGivenUp, IsGuaranteed, IsSound}

-- A call of a session came to this outcome: all that `Session::call` of `serve` promises.
pub record IsCalled {L : Type 0} (link : LinkWords L) (marks : L → List Mark) (g : Geometry) (v : Opening)
    (old : SessionState) (now : ℕ) (call : Call) (came : Outcome) (new : SessionState) : Type 0 where
  -- an answer is the last mark of what the session has seen, and over true replies what it has seen is legal
  pub keeps : SessionCallKeeps g (contents_at v) old (caller_of old) now call (outcome_of came) new
  -- what the session has seen is well formed, and a call was answered since the device was given up, if it was
  pub sound : IsSound new.knows.seen
  -- the service's link guaranteed what the session has seen
  pub guaranteed : IsGuaranteed link.truth v new.knows.seen
  -- where the replies in it were true, the volume as it was handed in holds a tree
  pub volume : HoldsIfTrue g v new.knows.seen
  -- EIO exactly where it isn't a cut and the device was given up
  pub eio : IsEioOnceGivenUp came new.knows.seen
  -- a cut exactly where the link to the drivers has ended
  pub cut : IsCutAtEnd link marks v came new.knows.seen

-- Of this, what needs no link to be said: the answer is the last mark of what the session has then seen. Where the replies of drivers in that
-- are true, the volume held a tree as it was handed in, and whichever that was, what was seen is legal from that on: so the answer is the
-- file tree's.
pub record IsAnsweredBy (g : Geometry) (v : Opening) (before : SessionState) (now : ℕ) (call : Call) (outcome : Outcome)
    (after : SessionState) : Type 0 where
  pub keeps : SessionCallKeeps g (contents_at v) before (caller_of before) now call (outcome_of outcome) after
  pub holds : HoldsIfTrue g v after.knows.seen
