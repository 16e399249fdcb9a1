use Rattle.std.proofs.Common.{ap, ◌∙◌, Ok, Err}
use Rattle.block_store.proofs.Turns.{reads_as}
use Rattle.calls_attributes.proofs.Naming.{last_there, last_missing, last_refused, last_halted}
use Rattle.calls_attributes.proofs.last.walk_to_last.Goals as goal

pub returns-in-Ok-There-clause-reads : goal.returns-in-Ok-There-clause-reads
returns-in-Ok-There-clause-reads g c =
    let a = c.args in
    reads_as _ _ _ _ _
    (λ d p. last_there a.geometry.now d a.user a.path.now c.look_up.result p c.in-Ok-There.number
    (c.in-Ok-There.is ∙ ap (λ x. Ok x) c.in-Ok-There.field-0-is))
    c.look_up.ensures.reads

pub returns-in-Ok-Missing-clause-reads : goal.returns-in-Ok-Missing-clause-reads
returns-in-Ok-Missing-clause-reads g c =
    let a = c.args in
    reads_as _ _ _ _ _
    (λ d p. last_missing a.geometry.now d a.user a.path.now c.look_up.result p _
    (c.in-Ok-Missing.is ∙ ap (λ x. Ok x) c.in-Ok-Missing.field-0-is))
    c.look_up.ensures.reads

pub returns-in-Err-Refused-clause-reads : goal.returns-in-Err-Refused-clause-reads
returns-in-Err-Refused-clause-reads g c =
    let a = c.args in
    reads_as _ _ _ _ _
    (λ d p. last_refused a.geometry.now d a.user a.path.now c.look_up.result p c.in-Err-Refused.errno
    (c.in-Err-Refused.is ∙ ap (λ x. Err x) c.in-Err-Refused.field-0-is))
    c.look_up.ensures.reads

pub returns-in-Err-Halted-clause-reads : goal.returns-in-Err-Halted-clause-reads
returns-in-Err-Halted-clause-reads g c =
    let a = c.args in
    reads_as _ _ _ _ _
    (λ d p. last_halted a.geometry.now d a.user a.path.now c.look_up.result p c.in-Err-Halted.halt _
    (c.in-Err-Halted.is ∙ ap (λ x. Err x) c.in-Err-Halted.field-0-is))
    c.look_up.ensures.reads
