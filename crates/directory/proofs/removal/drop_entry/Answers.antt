use Rattle.block_store.proofs.Turns.{turns_then, ends_as}
use Rattle.directory.proofs.Removing.{dropped, may_cut}
use Rattle.directory.proofs.removal.drop_entry.Goals as goal

pub returns-clause-turns : goal.returns-clause-turns
returns-clause-turns g c =
    let v = c.args.geometry.now in
    let n = c.args.directory in
    turns_then _ g.met.B.Blocks.lawful _ _ _ _ _ _
    (λ d e f p q. ends_as _ _ _ _ _ (λ x cuts. dropped v n c.args.place c.in_ok-last.last d e f p cuts) (λ t. may_cut v n c.args.place c.in_ok-last.last d e p t) q)
    c.in_ok-last.ensures.turns c.set_size.ensures.turns
