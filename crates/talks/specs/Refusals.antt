-- What other errors become.
use Rattle.std.specs.Prelude.{◌≡◌, Result, Ok, Err}
use Rattle.std.specs.declared.alloc.AllocError.{AllocError}
use Rattle.errno.specs.declared.Errno.{Errno}
use Rattle.errno.specs.declared.Errno.TheVariants.{EIO, ENFILE, ENOMEM}
use Rattle.talks.specs.declared.refused.Refused.{Refused}
use Rattle.talks.specs.declared.refused.Refused.TheVariants.{By}
use Rattle.talks.specs.declared.sessions.EnterRefusal.{EnterRefusal}
use Rattle.talks.specs.declared.sessions.EnterRefusal.TheVariants.{TooMany, Stopped, OutOfMemory}

abbrev pub by_errno : Errno → Refused → Type 0
by_errno errno r = r ≡ By errno

abbrev pub by_memory : AllocError → Refused → Type 0
by_memory error r = r ≡ By ENOMEM

abbrev pub entering : EnterRefusal → Errno
entering TooMany = ENFILE
entering Stopped = EIO
entering OutOfMemory = ENOMEM

abbrev pub by_entering : EnterRefusal → Refused → Type 0
by_entering refusal r = r ≡ By (entering refusal)

-- what comes next, where something was found
abbrev pub then_of : {A B : Type 0} → Result A Refused → (A → Result B Refused) → Result B Refused
then_of (Ok a) next = next a
then_of (Err refused) next = Err refused
