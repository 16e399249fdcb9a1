use Rattle.ninep.proofs.TextLaws.{HasRead}
use Rattle.ninep.proofs.fields.skip_texts.Given as goal

abbrev pub invariant-loop : goal.invariant-loop
invariant-loop l = HasRead l.count l.counter l.bytes l.rest
