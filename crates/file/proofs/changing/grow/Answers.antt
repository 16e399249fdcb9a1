use Rattle.std.proofs.Common.{rules, ◌<◌, ◌≤◌}
use Rattle.block_store.proofs.Turns.{turns_as, turns_then, ends_as}
use Rattle.file.proofs.SoFar.{grows, may_grow, long_enough}
use Rattle.file.proofs.changing.grow.Goals as goal

pub returns-then-inode-size-clause-turns : goal.returns-then-inode-size-clause-turns
returns-then-inode-size-clause-turns g c =
    let a = c.args in
    let i = c.in_ok-inode.inode in
    let low : i.size < a.size = search rules in
    turns_then _ g.met.B.Blocks.lawful _ _ _ _ _ _
    (λ d e f p q. ends_as c.resize.result _ _ _ _ (λ u h. grows a.geometry.now d e f a.number a.size i p.0 p.1 low h)
    (λ may. may_grow a.geometry.now d e e a.number a.size i p.0 p.1 low may) q)
    c.in_ok-inode.ensures.reads.turns c.resize.ensures.turns

pub returns-else-inode-size-clause-turns : goal.returns-else-inode-size-clause-turns
returns-else-inode-size-clause-turns g c =
    let a = c.args in
    let i = c.in_ok-inode.inode in
    let far : a.size ≤ i.size = search rules in
    turns_as _ _ _ _ _ (λ d e p. long_enough a.geometry.now d e e a.number a.size i p.0 p.1 far) c.in_ok-inode.ensures.reads.turns
