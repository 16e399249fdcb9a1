use Rattle.std.proofs.Common.{sym, ap, ◌∙◌, Err}
use Rattle.block_store.proofs.Turns.{reads_as}
use Rattle.calls_attributes.proofs.Naming.{walked_to, walk_refused_for, walk_halted}
use Rattle.calls_attributes.proofs.named.named.Goals as goal

pub returns-in-Ok-walk-clause-reads : goal.returns-in-Ok-walk-clause-reads
returns-in-Ok-walk-clause-reads g c =
    let a = c.args in
    reads_as _ _ _ _ _
    (λ d p. walked_to a.geometry.now d a.user a.path c.in-Ok.path (sym c.in-Ok.ensures.parsed) c.walk.result p
    c.in-Ok-walk.number c.in-Ok-walk.is)
    c.walk.ensures.reads

pub returns-in-Err-Refused-clause-reads : goal.returns-in-Err-Refused-clause-reads
returns-in-Err-Refused-clause-reads g c =
    let a = c.args in
    reads_as _ _ _ _ _
    (λ d p. walk_refused_for a.geometry.now d a.user a.path c.in-Ok.path (sym c.in-Ok.ensures.parsed) c.walk.result p c.in-Err-Refused.errno
    (c.in-Err-Refused.is ∙ ap (λ x. Err x) c.in-Err-Refused.field-0-is))
    c.walk.ensures.reads

pub returns-in-Err-Halted-clause-reads : goal.returns-in-Err-Halted-clause-reads
returns-in-Err-Halted-clause-reads g c =
    let a = c.args in
    reads_as _ _ _ _ _
    (λ d p. walk_halted a.geometry.now d a.user a.path c.in-Ok.path (sym c.in-Ok.ensures.parsed) c.walk.result p c.in-Err-Halted.halt _
    (c.in-Err-Halted.is ∙ ap (λ x. Err x) c.in-Err-Halted.field-0-is))
    c.walk.ensures.reads
