use Rattle.tree.specs.Answers.{answer_of}
use Rattle.descriptors.specs.Table.{files_of}
use Rattle.block_store.proofs.Turns.{turns_as}
use Rattle.client_calls.proofs.Effects.{call_unsound, unsound_is}
use Rattle.client_calls.proofs.calls.body.Goals as goal

pub returns-in-Err-Unsound-clause-turns : goal.returns-in-Err-Unsound-clause-turns
returns-in-Err-Unsound-clause-turns g c =
    let a = c.args in
    turns_as _ _ _ _ _ (λ d e x. call_unsound a.geometry.now a.who a.now a.call.now (answer_of c.refuse.new.reply) (files_of a.opens.now) (files_of c.perform.new.opens) d e
    (unsound_is _ _ _ _ c.in-Err-Unsound.is c.in-Err-Unsound.field-0-is x))
    c.perform.ensures.turns
