-- Why a message is refused that can't be read.
use Rattle.errno.specs.declared.Errno.TheVariants.{EINVAL}
use Rattle.ninep.specs.declared.fault.MalformedMessage.{MalformedMessage}
use Rattle.ninep.specs.declared.fault.MalformedMessage.TheVariants as fault
use Rattle.talks.specs.declared.refused.Refused.{Refused}
use Rattle.talks.specs.declared.refused.Refused.TheVariants.{By, Unsupported}

-- why a message isn't answered that can't be read
abbrev pub refusal_for : MalformedMessage → Refused
refusal_for fault.Unknown = Unsupported
refusal_for f = By EINVAL
