use Rattle.std.proofs.Common.{rules, ◌<◌, subst}
use Rattle.block_store.proofs.Turns.{turns_as}
use Rattle.tree.specs.Answers.{node_is, refused}
use Rattle.descriptors.specs.Files.{HasFiles}
use Rattle.calls_attributes.specs.Does.{Does}
use Rattle.calls_attributes.specs.Named.{FindsLast, last_walk}
use Rattle.calls_attributes.proofs.Calls.{lstat_is, stat_refused, stat_done, small_number}
use Rattle.calls_attributes.proofs.links.lstat.Goals as goal

pub returns-then-number-gt65535-clause-turns : goal.returns-then-number-gt65535-clause-turns
returns-then-number-gt65535-clause-turns g c =
    let a = c.args in
    let v = a.geometry.now in
    let big : 65535 < c.in-Ok.number = search rules in
    turns_as _ _ _ _ _
    (λ d e p f. λ h. small_number v (λ t. last_walk t a.user a.path) d c.in-Ok.number c.in-Ok.inode
    (subst (λ r. FindsLast v d a.user a.path r) c.in-Ok.is p.1) c.requires.on.geometry big f h)
    c.in_ok-number.ensures.reads.turns

pub returns-else-number-gt65535-clause-turns : goal.returns-else-number-gt65535-clause-turns
returns-else-number-gt65535-clause-turns g c =
    let a = c.args in
    let v = a.geometry.now in
    turns_as _ _ _ _ _
    (λ d e p f. subst (λ effect. Does v effect (node_is c.attributes.result) (HasFiles f) (HasFiles f) d e) (lstat_is a.user a.path)
    (stat_done v (λ t. last_walk t a.user a.path) d c.in-Ok.number c.in-Ok.inode
    (subst (λ r. FindsLast v d a.user a.path r) c.in-Ok.is p.1) e f c.attributes.result p.0 c.attributes.ensures))
    c.in_ok-number.ensures.reads.turns

pub returns-in-Err-clause-turns : goal.returns-in-Err-clause-turns
returns-in-Err-clause-turns g c =
    let a = c.args in
    let v = a.geometry.now in
    turns_as _ _ _ _ _
    (λ d e p f. subst (λ effect. Does v effect (refused c.in-Err.errno) (HasFiles f) (HasFiles f) d e) (lstat_is a.user a.path)
    (stat_refused v (λ t. last_walk t a.user a.path) d e c.in-Err.errno f p.0
    (subst (λ r. FindsLast v d a.user a.path r) c.in-Err.is p.1)))
    c.in_ok-number.ensures.reads.turns
