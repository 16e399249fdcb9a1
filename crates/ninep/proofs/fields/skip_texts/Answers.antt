use Rattle.std.proofs.lemmas.Result.{err_from_is_err_and}
use Rattle.ninep.proofs.TextLaws.{nothing_read, goes_on, ends, is_done}
use Rattle.ninep.proofs.fields.skip_texts.Goals as goal

pub loop-init : goal.loop-init
loop-init c = nothing_read c.args.count c.args.bytes.now

pub returns-in_err-after : goal.returns-in_err-after
returns-in_err-after c =
    let p = err_from_is_err_and c.from_residual.result c.from_residual.ensures.1 in
    rw (p.1, p.2)
    (ends c.args.count c.loop.counter c.args.bytes.now c.loop.rest.now c.in_err-after.field-0.0 c.loop-test.true
    c.in_err-after.ensures c.loop.invariant)

pub loop-preserved : goal.loop-preserved
loop-preserved c =
    goes_on c.args.count c.loop.counter c.args.bytes.now c.loop.rest.now c.in_ok-after.field-0-0.now c.in_ok-after.after.now
    c.loop-test.true c.in_ok-after.ensures c.loop.invariant

pub returns : goal.returns
returns c = is_done c.args.count c.loop.counter c.args.bytes.now c.loop.rest.now c.loop-test.false c.loop.invariant
