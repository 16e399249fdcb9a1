use Rattle.std.proofs.Common.{ap, Err, ◌∙◌}
use Rattle.block_store.proofs.Turns.{reads_as}
use Rattle.calls_names.proofs.Meaning.{place_meant, place_refused, place_halted}
use Rattle.calls_names.proofs.named.place_of.Goals as goal

pub returns-in-Ok-clause-reads : goal.returns-in-Ok-clause-reads
returns-in-Ok-clause-reads g c =
    let a = c.args in
    reads_as _ _ _ _ _ (λ d p. place_meant a.geometry.now d a.user a.path.now c.find_place.result p c.in-Ok.place c.in-Ok.is) c.find_place.ensures.reads

pub returns-in-Err-Refused-clause-reads : goal.returns-in-Err-Refused-clause-reads
returns-in-Err-Refused-clause-reads g c =
    let a = c.args in
    reads_as _ _ _ _ _
    (λ d p. place_refused a.geometry.now d a.user a.path.now c.find_place.result p c.in-Err-Refused.errno (c.in-Err-Refused.is ∙ ap (λ x. Err x) c.in-Err-Refused.field-0-is))
    c.find_place.ensures.reads

pub returns-in-Err-Halted-clause-reads : goal.returns-in-Err-Halted-clause-reads
returns-in-Err-Halted-clause-reads g c =
    let a = c.args in
    reads_as _ _ _ _ _
    (λ d p. place_halted a.geometry.now d a.user a.path.now c.find_place.result p c.in-Err-Halted.halt _ (c.in-Err-Halted.is ∙ ap (λ x. Err x) c.in-Err-Halted.field-0-is))
    c.find_place.ensures.reads
