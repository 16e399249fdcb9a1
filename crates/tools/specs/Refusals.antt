-- What a play is refused as where a text wasn't written.
use Rattle.output.specs.declared.OutputRefusal.{OutputRefusal}
use Rattle.output.specs.declared.OutputRefusal.TheVariants as output
use Rattle.tools.specs.declared.play.PlayRefusal.{PlayRefusal}
use Rattle.tools.specs.declared.play.PlayRefusal.TheVariants.{OutOfMemory, NotWritten}

abbrev pub refusal_of : OutputRefusal → PlayRefusal
refusal_of output.OutOfMemory = OutOfMemory
refusal_of output.NotWritten = NotWritten
