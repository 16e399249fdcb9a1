use Rattle.std.proofs.Common.{sym}
use Rattle.block_store.proofs.Turns.{reads_as, ends_as}
use Rattle.calls_attributes.proofs.Naming.{last_read}
use Rattle.calls_attributes.proofs.last.named_last.Goals as goal

pub returns-in-Ok-clause-reads : goal.returns-in-Ok-clause-reads
returns-in-Ok-clause-reads g c =
    let a = c.args in
    reads_as _ _ _ _ _
    (λ d p. ends_as _ _ _ _ _
    (λ r x. last_read a.geometry.now d a.user a.path c.in-Ok.path (sym c.in-Ok.ensures.parsed) r x) (λ s. s) p)
    c.walk_to_last.ensures.reads
