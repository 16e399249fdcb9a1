use Rattle.std.proofs.Common.{arith}
use Rattle.image.proofs.Texts.{name_found, name_whole}
use Rattle.image.proofs.entry.name_of.Goals as goal

pub returns-then-byte-eq0 : goal.returns-then-byte-eq0
returns-then-byte-eq0 c = name_found c.args.entry.now c.requires c.loop-a.a c.loop-a-test.true c.if-byte-eq0.true c.loop-a.invariant

pub returns : goal.returns
returns c = name_whole c.args.entry.now c.requires c.loop-a.a (omega arith) c.loop-a.invariant
