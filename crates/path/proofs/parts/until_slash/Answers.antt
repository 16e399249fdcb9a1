use Rattle.std.proofs.Common.{◌≡◌, get_or, sym, ap, arith, length}
use Rattle.std.specs.Prelude.{◌==◌, not}
use Rattle.std.proofs.lemmas.Bool.{eq-eqb}
use Rattle.std.proofs.lemmas.List.Sums.{prefix_len_is}
use Rattle.path.proofs.parts.until_slash.Goals as goal

pub returns-then-bytes-at-eq47-clause-count : goal.returns-then-bytes-at-eq47-clause-count
returns-then-bytes-at-eq47-clause-count c =
    let same : get_or c.args.bytes.now c.loop-at.at 0 ≡ 47 = c.if-bytes-at-eq47.true in
    sym (prefix_len_is (λ x. not (x == 47)) c.args.bytes.now c.loop-at.at 0 (omega arith) (λ k l. ap not (c.loop-at.invariant k l)) (λ l. ap not (eq-eqb _ 47 same)))

pub returns-clause-count : goal.returns-clause-count
returns-clause-count c =
    sym (prefix_len_is (λ x. not (x == 47)) c.args.bytes.now (length c.args.bytes.now) 0 (omega arith) (λ k l. ap not (c.loop-at.invariant k (omega (arith, l, c.loop-at-test.false)))) (λ l. absurd (omega arith)))
