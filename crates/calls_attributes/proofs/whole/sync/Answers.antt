use Rattle.std.proofs.Common.{Ok, refl}
use Rattle.tree.specs.Answers.{done}
use Rattle.block_store.proofs.Turns.{turns_as}
use Rattle.calls_attributes.proofs.Made.{looked_made}
use Rattle.calls_attributes.proofs.whole.sync.Goals as goal

pub returns-clause-turns : goal.returns-clause-turns
returns-clause-turns g c =
    turns_as _ _ _ _ _ (λ d e same f. record { each = λ t holds files. looked_made c.args.geometry.now t (Ok (done, t)) done _ d e refl same holds files }) c.in_ok-sync.ensures.turns
