use Rattle.std.proofs.Common.{◌≡◌, ◌<◌, ◌-◌, ◌+◌, ℕ, false, length, drop, sym, subst, arith}
use Rattle.ninep_fids.specs.Paths.{has_byte}
use Rattle.ninep_fids.proofs.PathLaws.{no_parent, parent_at}
use Rattle.ninep_fids.proofs.paths.parent.Goals as goal

pub returns-then-path-at-eq47 : goal.returns-then-path-at-eq47
returns-then-path-at-eq47 c =
    let path = c.args.path.now in
    let less : c.loop-at.at - 1 < length path = omega (arith, c.loop-at.invariant.below, c.loop-at-test.true) in
    let one : c.loop-at.at ≡ c.loop-at.at - 1 + 1 = omega (arith, c.loop-at-test.true) in
    sym (parent_at path (c.loop-at.at - 1) less c.if-path-at-eq47.true
    (subst (λ (m : ℕ). has_byte (drop m path) 47 ≡ false) one c.loop-at.invariant.none))

pub returns : goal.returns
returns c =
    let path = c.args.path.now in
    let none : c.loop-at.at ≡ 0 = omega (arith, c.loop-at-test.false) in
    sym (no_parent path (subst (λ (m : ℕ). has_byte (drop m path) 47 ≡ false) none c.loop-at.invariant.none))
