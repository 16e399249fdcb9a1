use Rattle.std.proofs.Common.{◌≡◌, ◌≢◌, get_or, sym, arith, below_more, length}
use Rattle.std.specs.Prelude.{◌==◌}
use Rattle.std.proofs.lemmas.Bool.{eq-eqb, ne_eqb}
use Rattle.std.proofs.lemmas.List.Sums.{prefix_len_is}
use Rattle.path.proofs.parts.leading_slashes.Goals as goal

pub returns-then-bytes-at-ne47-clause-count : goal.returns-then-bytes-at-ne47-clause-count
returns-then-bytes-at-ne47-clause-count c =
    let other : get_or c.args.bytes.now c.loop-at.at 0 ≢ 47 = c.if-bytes-at-ne47.true in
    sym (prefix_len_is (λ x. x == 47) c.args.bytes.now c.loop-at.at 0 (omega arith) c.loop-at.invariant (λ l. ne_eqb _ 47 other))

pub loop-at-preserved : goal.loop-at-preserved
loop-at-preserved c =
    let same : get_or c.args.bytes.now c.loop-at.at 0 ≡ 47 = c.if-bytes-at-ne47.false in
    below_more _ _ c.loop-at.invariant (eq-eqb _ 47 same)

pub returns-clause-count : goal.returns-clause-count
returns-clause-count c =
    sym (prefix_len_is (λ x. x == 47) c.args.bytes.now (length c.args.bytes.now) 0 (omega arith) (λ k l. c.loop-at.invariant k (omega (arith, l, c.loop-at-test.false))) (λ l. absurd (omega arith)))
