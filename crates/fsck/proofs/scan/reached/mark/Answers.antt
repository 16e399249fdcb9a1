use Rattle.std.proofs.Common.{◌≡◌, ◌≤◌, ℕ, Bool, false, get_or, ap, cond, arith}
use Rattle.std.proofs.lemmas.List.Sums.{get_or-le-sum_by}
use Rattle.fsck.specs.Reached.{unseen}
use Rattle.fsck.proofs.Walks.{goes_past, goes_seen, goes_one}
use Rattle.fsck.proofs.scan.reached.mark.Goals as goal

pub push_reserved-requires : goal.push_reserved-requires
push_reserved-requires c =
    let part : Bool → ℕ = λ b. cond b 0 1 in
    let some : part (get_or c.args.seen.now c.args.m false) ≤ unseen c.args.seen.now
    = get_or-le-sum_by part c.args.seen.now c.args.m false c.if-place-seen.false in
    let one : part (get_or c.args.seen.now c.args.m false) ≡ 1 = ap part c.if-seen-place.false in
    omega (arith, c.args.waiting.now.ok.0, c.requires)

pub returns-then-place-seen-clause-goes : goal.returns-then-place-seen-clause-goes
returns-then-place-seen-clause-goes c = goes_past c.args.m c.args.seen.now c.args.waiting.now.items c.if-place-seen.true

pub returns-then-seen-place-clause-goes : goal.returns-then-seen-place-clause-goes
returns-then-seen-place-clause-goes c = goes_seen c.args.m c.args.seen.now c.args.waiting.now.items c.if-seen-place.true

pub returns-clause-goes : goal.returns-clause-goes
returns-clause-goes c =
    goes_one c.args.m c.args.seen.now c.args.waiting.now.items c.push_reserved.new.self.items c.if-place-seen.false c.if-seen-place.false
    c.push_reserved.ensures.items
