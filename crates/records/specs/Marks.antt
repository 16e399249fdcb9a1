-- The record of a file server: its marks, newest first. What stood before a mark is the list behind it.
use Rattle.std.specs.Prelude.{◌≡◌, ℕ, ◌+◌, ◌&&◌, ◌==◌, List, [], ◌∷◌, ◌++◌, Bool, true, false, Option, Some, None}
use Rattle.message.specs.declared.endpoint.Endpoint.{Endpoint}
use Rattle.message.specs.declared.BlockRequest.{BlockRequest}
use Rattle.message.specs.declared.BlockReply.{BlockReply}
use Rattle.tree.specs.declared.Who.{Who}
use Rattle.tree.specs.declared.Call.{Call}
use Rattle.tree.specs.Answers.{Answer}
use Rattle.records.specs.declared.marks.Cause.{Cause}

-- A driver was started; a reply was taken; a flush was taken; the device was given up; a client call was finished;
-- a request was posted; a driver is to be replaced.
pub data Mark : Type 0 where
  Started : (endpoint : Endpoint) → Mark
  Answered : (reply : BlockReply) → Mark
  Flush : Mark
  GaveUp : Mark
  Took : (who : Who) (now : ℕ) (call : Call) (answer : Answer) → Mark
  Issued : (request : BlockRequest) (to : Endpoint) → Mark
  Fault : (endpoint : Endpoint) (cause : Cause) → Mark

-- whether the mark is one event of the file server: all but the post of a request and the fault of a driver
abbrev pub is_counted : Mark → Bool
is_counted (Issued r e) = false
is_counted (Fault e cause) = false
is_counted _ = true

-- how many marks are events of the file server
abbrev pub counted : List Mark → ℕ
counted [] = 0
counted (Issued r e ∷ marks) = counted marks
counted (Fault e cause ∷ marks) = counted marks
counted (_ ∷ marks) = counted marks + 1

-- the endpoint of the last start
abbrev pub last_started : List Mark → Option Endpoint
last_started [] = None
last_started (Started e ∷ marks) = Some e
last_started (_ ∷ marks) = last_started marks

-- whether the device was given up
abbrev pub gave_up : List Mark → Bool
gave_up [] = false
gave_up (GaveUp ∷ marks) = true
gave_up (_ ∷ marks) = gave_up marks

-- whether the last fault has no later start and no later giving up
abbrev pub awaits_start : List Mark → Bool
awaits_start [] = false
awaits_start (Fault e cause ∷ marks) = true
awaits_start (Started e ∷ marks) = false
awaits_start (GaveUp ∷ marks) = false
awaits_start (_ ∷ marks) = awaits_start marks

-- whether the second is there and is the first
abbrev pub is_endpoint : Endpoint → Option Endpoint → Bool
is_endpoint e None = false
is_endpoint e (Some d) = (d.slot == e.slot) && (d.generation == e.generation)

-- the first is a beginning of the second: what stood in it before some later marks
pub record IsBeginning (beginning marks : List Mark) : Type 0 where
  pub later : List Mark
  pub is : marks ≡ later ++ beginning

-- these marks change no request, no byte of the disk and no driver
abbrev pub ChangesNothing : Mark → Type 0
ChangesNothing (Issued r e) = ⊥
ChangesNothing (Started e) = ⊥
ChangesNothing (Answered a) = ⊥
ChangesNothing _ = Unit {0}
