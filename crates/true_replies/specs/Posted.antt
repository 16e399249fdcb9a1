-- What was posted to the last driver, and the replies that drivers sent.
use Rattle.std.specs.Prelude.{◌≡◌, ◌⊎◌, ℕ, zero, suc, Option, Some, None, List, [], ◌∷◌}
use Rattle.message.specs.declared.endpoint.Endpoint.{Endpoint}
use Rattle.message.specs.declared.BlockRequest.{BlockRequest}
use Rattle.message.specs.declared.BlockReply.{BlockReply}
use Rattle.records.specs.Marks.{Mark, Issued, Started}

abbrev pub driver_at : ℕ → Endpoint
driver_at generation = record { slot = 1; generation = generation }

-- the endpoint of the last start, by its generation: none before the first
abbrev pub started_at : ℕ → Option Endpoint
started_at zero = None
started_at (suc g) = Some (driver_at (suc g))

-- what was issued to the endpoint of the last start
abbrev pub since_start : List Mark → List BlockRequest
since_start [] = []
since_start (Issued r e ∷ marks) = r ∷ since_start marks
since_start (Started e ∷ marks) = []
since_start (_ ∷ marks) = since_start marks

abbrev pub IsSent : BlockReply → List BlockReply → Type 0
IsSent a [] = ⊥
IsSent a (b ∷ bs) = (a ≡ b) ⊎ IsSent a bs
