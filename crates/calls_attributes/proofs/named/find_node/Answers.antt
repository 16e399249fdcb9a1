use Rattle.std.proofs.Common.{subst}
use Rattle.tree.specs.Walk.{walk}
use Rattle.block_store.proofs.Turns.{reads_then, reads_as}
use Rattle.block_store.proofs.Ending.{ends_exit}
use Rattle.calls_attributes.specs.Named.{Names}
use Rattle.calls_attributes.proofs.Naming.{its_number, found_node, found_refused}
use Rattle.calls_attributes.proofs.named.find_node.Goals as goal

pub returns-in_err-load-in-Ok-clause-reads : goal.returns-in_err-load-in-Ok-clause-reads
returns-in_err-load-in-Ok-clause-reads g c =
    let a = c.args in
    reads_then _ g.met.B.Blocks.lawful _ _ _ _ _ _
    (λ d p q. ends_exit _ _ _ _ _ _ c.from_residual-in_err-load-in-Ok.ensures.1
    (λ s. its_number a.geometry.now d (λ t. walk t a.user a.path) c.in-Ok.number
    (subst (λ r. Names a.geometry.now d a.user a.path r) c.in-Ok.is p) s) q)
    c.in_ok-number.ensures.reads c.in_err-load-in-Ok.ensures.reads

pub returns-in_ok-load-in-Ok-clause-reads : goal.returns-in_ok-load-in-Ok-clause-reads
returns-in_ok-load-in-Ok-clause-reads g c =
    let a = c.args in
    reads_then _ g.met.B.Blocks.lawful _ _ _ _ _ _
    (λ d p q. found_node a.geometry.now d (λ t. walk t a.user a.path) c.in-Ok.number _
    (subst (λ r. Names a.geometry.now d a.user a.path r) c.in-Ok.is p) q)
    c.in_ok-number.ensures.reads c.in_ok-load-in-Ok.ensures.reads

pub returns-in-Err-clause-reads : goal.returns-in-Err-clause-reads
returns-in-Err-clause-reads g c =
    let a = c.args in
    reads_as _ _ _ _ _
    (λ d p. found_refused a.geometry.now d (λ t. walk t a.user a.path) c.in-Err.errno
    (subst (λ r. Names a.geometry.now d a.user a.path r) c.in-Err.is p))
    c.in_ok-number.ensures.reads
