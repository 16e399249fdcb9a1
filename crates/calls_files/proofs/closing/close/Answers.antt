use Rattle.std.proofs.Common.{ap, sym, ◌∙◌, Some}
use Rattle.block_store.proofs.Turns.{turns_as, turns_none}
use Rattle.block_store.proofs.Ending.{ends_exit}
use Rattle.descriptors.specs.Table.{files_of}
use Rattle.calls_files.proofs.CloseCall.{close_refused, close_last, close_unsound, close_one, close_linked}
use Rattle.calls_files.proofs.closing.close.Goals as goal

pub returns-in-Err-clause-turns : goal.returns-in-Err-clause-turns
returns-in-Err-clause-turns g c =
    let a = c.args in
    turns_as _ _ _ _ _ (λ d e same. close_refused a.geometry.now a.session a.fd c.requires.session (files_of a.opens.now) (files_of c.close.new.self) d e same c.in-Err.refusal
    c.in-Err.ensures.close (ap files_of c.in-Err.ensures.refused))
    (turns_none _ g.met.B.Blocks.lawful _ c.requires.on.ready)

pub returns-in-Ok-None-clause-turns : goal.returns-in-Ok-None-clause-turns
returns-in-Ok-None-clause-turns g c =
    let a = c.args in let w = c.in-Ok-None in
    turns_as _ _ _ _ _ (λ d e same. close_one a.geometry.now a.session a.fd c.requires.session (files_of a.opens.now) (files_of c.close.new.self) w.field-0 w.ensures.close d e same w.field-0-is)
    (turns_none _ g.met.B.Blocks.lawful _ c.requires.on.ready)

pub returns-in_err-lose_node-in-Ok-Some-clause-turns : goal.returns-in_err-lose_node-in-Ok-Some-clause-turns
returns-in_err-lose_node-in-Ok-Some-clause-turns g c =
    let a = c.args in let w = c.in-Ok-Some in
    turns_as _ _ _ _ _ (λ d e x. ends_exit _ _ _ _ _ _ c.from_residual.ensures.1
    (close_unsound a.geometry.now a.session a.fd c.requires.session (files_of a.opens.now) (files_of c.close.new.self) w.field-0 w.ensures.close d d c.from.result c.requires.on.geometry (λ i. d)
    (w.field-0-is ∙ ap (λ m. Some m) (sym c.from.ensures))) x)
    c.in_err-lose_node-in-Ok-Some.ensures.turns

pub returns-in_ok-lose_node-in-Ok-Some-clause-turns : goal.returns-in_ok-lose_node-in-Ok-Some-clause-turns
returns-in_ok-lose_node-in-Ok-Some-clause-turns g c =
    let a = c.args in let w = c.in-Ok-Some in
    turns_as _ _ _ _ _ (λ d e x. close_last a.geometry.now a.session a.fd c.requires.session (files_of a.opens.now) (files_of c.close.new.self) w.field-0 w.ensures.close d d e c.from.result c.requires.on.geometry (λ i. d)
    (w.field-0-is ∙ ap (λ m. Some m) (sym c.from.ensures)) x)
    c.in_ok-lose_node-in-Ok-Some.ensures.turns

pub returns-in-Err-clause-looks : goal.returns-in-Err-clause-looks
returns-in-Err-clause-looks g c =
    turns_as _ _ _ _ _ (λ d e same t holds files leaves. g.met.B.Blocks.lawful.look _) (turns_none _ g.met.B.Blocks.lawful _ c.requires.on.ready)

pub returns-in-Ok-None-clause-looks : goal.returns-in-Ok-None-clause-looks
returns-in-Ok-None-clause-looks g c =
    turns_as _ _ _ _ _ (λ d e same t holds files leaves. g.met.B.Blocks.lawful.look _) (turns_none _ g.met.B.Blocks.lawful _ c.requires.on.ready)

pub returns-in_err-lose_node-in-Ok-Some-clause-looks : goal.returns-in_err-lose_node-in-Ok-Some-clause-looks
returns-in_err-lose_node-in-Ok-Some-clause-looks g c =
    let a = c.args in let w = c.in-Ok-Some in
    turns_as _ _ _ _ _ (λ d e x t holds files leaves. x (close_linked a.geometry.now a.session a.fd c.requires.session (files_of a.opens.now) (files_of c.close.new.self) w.field-0 w.ensures.close d d c.from.result (λ i. d)
    (w.field-0-is ∙ ap (λ m. Some m) (sym c.from.ensures)) t holds files leaves))
    c.in_err-lose_node-in-Ok-Some.ensures.looks

pub returns-in_ok-lose_node-in-Ok-Some-clause-looks : goal.returns-in_ok-lose_node-in-Ok-Some-clause-looks
returns-in_ok-lose_node-in-Ok-Some-clause-looks g c =
    let a = c.args in let w = c.in-Ok-Some in
    turns_as _ _ _ _ _ (λ d e x t holds files leaves. x (close_linked a.geometry.now a.session a.fd c.requires.session (files_of a.opens.now) (files_of c.close.new.self) w.field-0 w.ensures.close d d c.from.result (λ i. d)
    (w.field-0-is ∙ ap (λ m. Some m) (sym c.from.ensures)) t holds files leaves))
    c.in_ok-lose_node-in-Ok-Some.ensures.looks
