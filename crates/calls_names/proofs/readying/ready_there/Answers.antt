use Rattle.std.proofs.Common.{◌<◌, ◌^◌, sym, subst, ◌∙◌, arith}
use Rattle.volume.specs.Pieces.{pieces}
use Rattle.volume.specs.Reading.{Disk}
use Rattle.block_store.proofs.Turns.{turns_as, turns_then}
use Rattle.zone.proofs.ZoneInodes.{inode_is}
use Rattle.file.specs.PageChanges.{MayChange}
use Rattle.calls_attributes.proofs.Made.{node_there}
use Rattle.inode_operations.specs.Sizes.{SetsSizeAt}
use Rattle.calls_names.proofs.Ending.{answers_halted}
use Rattle.calls_names.proofs.There.{there_emptied, there_kept, there_may_change, there_refused}
use Rattle.calls_names.proofs.readying.ready_there.Goals as goal

pub returns-in_err-inode-clause-turns : goal.returns-in_err-inode-clause-turns
returns-in_err-inode-clause-turns g c =
    let a = c.args in
    let v = a.geometry.now in
    turns_as _ _ _ _ _
    (λ d e p t holds there. answers_halted _ _ _ _ _ c.from_residual.ensures.1 p.1
    (inode_is v (pieces v d) a.number (node_there v d t a.number holds there).0))
    c.in_err-inode.ensures.reads.turns

pub returns-in-Some-clause-turns : goal.returns-in-Some-clause-turns
returns-in-Some-clause-turns g c =
    let a = c.args in
    let v = a.geometry.now in
    turns_as _ _ _ _ _
    (λ d e p t holds there mode. there_refused v c.requires.on.geometry d t holds a.user a.now a.number a.flags.0 there
    c.in_ok-inode.inode p.1 c.refusal.result c.refusal.ensures.barred
    e c.in-Some.errno p.0 c.in-Some.is mode)
    c.in_ok-inode.ensures.reads.turns

pub returns-in_err-set_size_at-clause-turns : goal.returns-in_err-set_size_at-clause-turns
returns-in_err-set_size_at-clause-turns g c =
    let a = c.args in
    let v = a.geometry.now in
    turns_then _ g.met.B.Blocks.lawful _ _ _ _ _ _
    (λ d e h p q t holds there. answers_halted _ _ _ _ _ c.from_residual-in_err-set_size_at.ensures.1 q
    (subst (λ (z : Disk). MayChange v (pieces v z) a.number) (sym p.0)
    (there_may_change v c.requires.on.geometry d t holds a.user a.now a.number a.flags.0 there c.in_ok-inode.inode p.1 c.refusal.result c.refusal.ensures.barred)))
    c.in_ok-inode.ensures.reads.turns c.in_err-set_size_at.ensures.turns

pub returns-in_ok-set_size_at-clause-turns : goal.returns-in_ok-set_size_at-clause-turns
returns-in_ok-set_size_at-clause-turns g c =
    let a = c.args in
    let v = a.geometry.now in
    let small : a.now < 2 ^ 32 = (let k = c.ranges.now.fits in omega (arith, k)) in
    turns_then _ g.met.B.Blocks.lawful _ _ _ _ _ _
    (λ d x e p q t holds there mode. there_emptied v c.requires.on.geometry d t holds a.user a.now a.number a.flags.0 there
    c.in_ok-inode.inode p.1 c.refusal.result c.refusal.ensures.barred
    c.in_default.is mode (sym c.is_emptied.ensures ∙ c.if-is_emptied.true) small e
    (subst (λ (z : Disk). SetsSizeAt v a.number 0 a.now z e) p.0 q))
    c.in_ok-inode.ensures.reads.turns c.in_ok-set_size_at.ensures.turns

pub returns-else-is_emptied-clause-turns : goal.returns-else-is_emptied-clause-turns
returns-else-is_emptied-clause-turns g c =
    let a = c.args in
    let v = a.geometry.now in
    turns_as _ _ _ _ _
    (λ d e p t holds there mode. there_kept v c.requires.on.geometry d t holds a.user a.now a.number a.flags.0 there
    c.in_ok-inode.inode p.1 c.refusal.result c.refusal.ensures.barred
    c.in_default.is mode e p.0 (sym c.is_emptied.ensures ∙ c.if-is_emptied.false))
    c.in_ok-inode.ensures.reads.turns
