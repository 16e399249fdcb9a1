use Rattle.std.proofs.Common.{◌≡◌, ◌+◌, get_or, arith}
use Rattle.directory.proofs.Names.{text_is}
use Rattle.directory.proofs.entries.name_length.Goals as goal

pub returns-then-bytes-at-eq0-clause-text : goal.returns-then-bytes-at-eq0-clause-text
returns-then-bytes-at-eq0-clause-text c =
    let none : get_or c.args.bytes.now (c.args.at + c.loop-many.many) 0 ≡ 0 = c.if-bytes-at-eq0.true in
    text_is c.args.bytes.now 60 c.args.at c.loop-many.many c.requires (omega arith) c.loop-many.invariant (λ l. none)

pub returns-clause-text : goal.returns-clause-text
returns-clause-text c =
    text_is c.args.bytes.now 60 c.args.at 60 c.requires (omega arith) (λ j l. c.loop-many.invariant j (omega (arith, l, c.loop-many-test.false))) (λ l. absurd (omega (arith, l)))
