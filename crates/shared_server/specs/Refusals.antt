-- The numbers and the names of the refusals to make a session.
use Rattle.std.specs.Prelude.{ℕ, List, codes}
use Rattle.shared_server.specs.declared.refusal.SessionRefusal.{SessionRefusal}
use Rattle.shared_server.specs.declared.refusal.SessionRefusal.TheVariants.{TooMany, Stopped, OutOfMemory}

-- the numbers of the refusals to make a session
abbrev pub session_refusal_number : SessionRefusal → ℕ
session_refusal_number TooMany = 1
session_refusal_number Stopped = 2
session_refusal_number OutOfMemory = 3

-- and their names
abbrev pub session_refusal_name : SessionRefusal → List ℕ
session_refusal_name TooMany = codes "TooMany"
session_refusal_name Stopped = codes "Stopped"
session_refusal_name OutOfMemory = codes "OutOfMemory"
