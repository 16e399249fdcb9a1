-- The numbers of errors, as Linux has them.
use Rattle.std.specs.Prelude.{ℕ}
use Rattle.errno.specs.Errors.{errno_number}
use Rattle.talks.specs.declared.refused.Refused.{Refused}
use Rattle.talks.specs.declared.refused.Refused.TheVariants.{By, Stale, Unsupported}

abbrev pub number_of : Refused → ℕ
number_of (By errno) = errno_number errno
number_of Stale = 116
number_of Unsupported = 95
