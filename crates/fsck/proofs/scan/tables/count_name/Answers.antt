use Rattle.std.proofs.Common.{arith}
use Rattle.fsck.proofs.Counts.{named_one, named_past, most_one}
use Rattle.fsck.proofs.scan.tables.count_name.Goals as goal

pub returns-then-place-named-clause-most : goal.returns-then-place-named-clause-most
returns-then-place-named-clause-most c =
    let is = c.one_more.ensures in
    most_one c.args.m c.one_more.result c.args.named.now (omega arith) c.requires.most

pub returns-then-place-named-clause-more : goal.returns-then-place-named-clause-more
returns-then-place-named-clause-more c =
    named_one c.args.n c.args.m c.one_more.result c.args.named.now c.args.namer.now c.if-place-named.true c.requires.sizes
    c.one_more.ensures c.requires.most

pub returns-else-place-named-clause-more : goal.returns-else-place-named-clause-more
returns-else-place-named-clause-more c = named_past c.args.n c.args.m c.args.named.now c.args.namer.now c.if-place-named.false
    c.requires.most
