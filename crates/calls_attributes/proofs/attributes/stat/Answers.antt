use Rattle.std.proofs.Common.{rules, ◌<◌}
use Rattle.tree.specs.Walk.{walk}
use Rattle.block_store.proofs.Turns.{turns_as}
use Rattle.calls_attributes.proofs.Calls.{found_ok, found_err, stat_refused, stat_done, small_number}
use Rattle.calls_attributes.proofs.attributes.stat.Goals as goal

pub returns-then-number-gt65535-clause-turns : goal.returns-then-number-gt65535-clause-turns
returns-then-number-gt65535-clause-turns g c =
    let a = c.args in
    let big : 65535 < c.in-Ok.number = search rules in
    turns_as _ _ _ _ _
    (λ d e p f. λ h. small_number a.geometry.now (λ t. walk t a.user a.path) d c.in-Ok.number c.in-Ok.inode
    (found_ok a.geometry.now d a.user a.path _ _ _ c.in-Ok.is p.1) c.requires.on.geometry big f h)
    c.in_ok-number.ensures.reads.turns

pub returns-else-number-gt65535-clause-turns : goal.returns-else-number-gt65535-clause-turns
returns-else-number-gt65535-clause-turns g c =
    let a = c.args in
    turns_as _ _ _ _ _
    (λ d e p f. stat_done a.geometry.now (λ t. walk t a.user a.path) d c.in-Ok.number c.in-Ok.inode
    (found_ok a.geometry.now d a.user a.path _ _ _ c.in-Ok.is p.1) e f c.attributes.result p.0 c.attributes.ensures)
    c.in_ok-number.ensures.reads.turns

pub returns-in-Err-clause-turns : goal.returns-in-Err-clause-turns
returns-in-Err-clause-turns g c =
    let a = c.args in
    turns_as _ _ _ _ _
    (λ d e p f. stat_refused a.geometry.now (λ t. walk t a.user a.path) d e c.in-Err.errno f p.0
    (found_err a.geometry.now d a.user a.path _ _ c.in-Err.is p.1))
    c.in_ok-number.ensures.reads.turns
