-- The image that a service leaves.
use Rattle.std.proofs.Common.{◌≡◌, ℕ, List, subst, sym}
use Rattle.std.specs.Prelude.{Bool, Option, Result, Ok, Err, IfOk, OnOk, is_some}
use Rattle.layout.specs.declared.Geometry.{Geometry}
use Rattle.records.specs.Marks.{Mark, IsBeginning}
use Rattle.records.specs.Opening.{Opening}
use Rattle.reissue.specs.declared.link.Link.{Ghosts as LinkWords}
use Rattle.board.proofs.Records.{begins_through}
use Rattle.shared_server.specs.Finishing.{sync_of}
use Rattle.shared_server.specs.declared.locked.LastSync.{LastSync}
use Rattle.message_stream.specs.declared.answering.StreamRefusal.{StreamRefusal}
use Rattle.serve.specs.declared.stopping.NoImage.{NoImage}
use Rattle.serve.specs.Stopping.{IsLastImage}
use Rattle.archive.specs.Behind.{Puts}
use Rattle.mount_service.specs.Spoken.{Speaks, IsSpoken}
use Rattle.archive.specs.Kept.{IsKeptAfter}
use Rattle.mount_service.specs.Left.{IsLeftBy}
use Rattle.mount_service.specs.declared.program.Came.{Came}
use Rattle.mount_service.specs.declared.program.Streams.{Streams}
use Rattle.mount_service.proofs.Meeting.{seen_on}

module _ {A W : Type 0} (puts : Puts A) (fewest : ℕ) (speaks : Speaks W) (first : W) (g : Geometry) (v : Opening)
    (stream old new : Option (List ℕ)) (kept : Bool) (seen marks : List Mark) (on : IsBeginning seen marks) where
  -- what was spoken, by a record that goes on
  spoken_on : (answered : Result (Unit {0}) StreamRefusal) → OnOk answered (IsSpoken puts fewest speaks first g v stream old new kept seen)
      → OnOk answered (IsSpoken puts fewest speaks first g v stream old new kept marks)
  spoken_on (Ok done) (begun, last, answers, met, sessions) =
      (begun, last, answers, begins_through last.met seen marks met on, seen_on last.sessions seen marks on sessions)
  spoken_on (Err e) it = tt

-- what came of a mount, from what its parts came to
pub left_by : {I O C A W L : Type 0} (link : LinkWords L) (contents : O → Option (List ℕ)) (puts : Puts A) (fewest : ℕ) (speaks : Speaks W)
    (first : W) (g : Geometry) (v : Opening) (stream old : Option (List ℕ)) (before : Option A) (seen : List Mark)
    (streams : Streams I O C A W) (answered : Result (Unit {0}) StreamRefusal) (result : Result (Came I O C A W) NoImage)
    → IfOk result (λ came. (came.streams ≡ streams) × (came.answered ≡ answered))
    → IfOk result (λ came. IsLastImage link g v seen (sync_of came.last_sync) came.image.items)
    → OnOk answered (IsSpoken puts fewest speaks first g v stream old (contents streams.output) (is_some before) seen)
    → IsKeptAfter puts g v before streams.archive
    → IfOk result (λ came. IsLeftBy puts fewest speaks first g v stream old (contents came.streams.output) before came.streams.archive
    came.answered came.last_sync came.image.items)
left_by link contents puts fewest speaks first g v stream old before seen streams answered (Err why) came image spoken kept = tt
left_by link contents puts fewest speaks first g v stream old before seen streams answered (Ok came) (same, how) image spoken kept =
    let marks = image.last.marks in
    record {
      marks = marks;
      spoken = subst (λ s. OnOk came.answered
          (IsSpoken puts fewest speaks first g v stream old (contents s.output) (is_some before) marks)) (sym same)
          (subst (λ a. OnOk a (IsSpoken puts fewest speaks first g v stream old (contents streams.output) (is_some before) marks)) (sym how)
          (spoken_on puts fewest speaks first g v stream old (contents streams.output) (is_some before) seen marks image.last.goes_on
          answered spoken));
      tells = image.last.tells;
      range = image.range;
      outside = image.outside;
      kept = subst (λ s. IsKeptAfter puts g v before s.archive) (sym same) kept;
    }
