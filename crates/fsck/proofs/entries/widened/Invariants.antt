use Rattle.fsck.proofs.ShortEntries.{IsWide}
use Rattle.fsck.proofs.entries.widened.Given as goal

abbrev pub invariant-loop-a : goal.invariant-loop-a
invariant-loop-a l = IsWide l.raw l.wide l.a
