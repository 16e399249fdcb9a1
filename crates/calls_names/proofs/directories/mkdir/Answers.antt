use Rattle.std.proofs.Common.{◌∙◌, Err, ap, subst}
use Rattle.std.specs.Prelude.{Result}
use Rattle.tree.specs.Answers.{done}
use Rattle.tree.specs.NameCalls.{mkdir}
use Rattle.tree.specs.Tree.{Tree}
use Rattle.descriptors.specs.Files.{HasFiles}
use Rattle.block_store.proofs.Turns.{turns_as}
use Rattle.path.specs.declared.stop.Stop.{Stop}
use Rattle.calls_names.specs.Stopping.{MeetsOrStops}
use Rattle.calls_names.proofs.Ending.{halted_ends}
use Rattle.calls_names.proofs.directories.mkdir.Goals as goal

pub returns-in-Err-Refused-clause-turns : goal.returns-in-Err-Refused-clause-turns
returns-in-Err-Refused-clause-turns g c =
    let a = c.args in
    let v = a.geometry.now in
    turns_as _ _ _ _ _
    (λ d e p f. subst (λ (s : Result (Unit {0}) Stop). MeetsOrStops v (λ (t : Tree). mkdir v t a.user a.now a.path a.mode) (λ x. done) s (HasFiles f) (HasFiles f) d e)
    (c.in-Err-Refused.is ∙ ap (λ x. Err x) c.in-Err-Refused.field-0-is) (p f))
    c.make.ensures.turns

pub returns-in-Err-Halted-clause-turns : goal.returns-in-Err-Halted-clause-turns
returns-in-Err-Halted-clause-turns g c =
    let a = c.args in
    let v = a.geometry.now in
    turns_as _ _ _ _ _
    (λ d e p f. halted_ends {X = Unit {0}} v (λ (t : Tree). mkdir v t a.user a.now a.path a.mode) (λ x. done) (HasFiles f) (HasFiles f) d e c.in-Err-Halted.halt _
    (subst (λ (s : Result (Unit {0}) Stop). MeetsOrStops v (λ (t : Tree). mkdir v t a.user a.now a.path a.mode) (λ x. done) s (HasFiles f) (HasFiles f) d e)
    (c.in-Err-Halted.is ∙ ap (λ x. Err x) c.in-Err-Halted.field-0-is) (p f)))
    c.make.ensures.turns
