use Rattle.std.proofs.Common.{refl}
use Rattle.block_store.proofs.Turns.{turns_then, ends_as}
use Rattle.file.proofs.Resizing.{sets_size, fewer}
use Rattle.file.proofs.file_pages.changing.set_size.Goals as goal

pub returns-clause-turns : goal.returns-clause-turns
returns-clause-turns g c =
    let a = c.args in
    turns_then _ g.met.B.Blocks.lawful _ _ _ _ _ _
    (λ d e f p q. ends_as c.resize.result _ _ _ _ (λ u h. sets_size a.geometry.now d e a.number a.size _ refl p f h)
    (λ may. fewer a.geometry.now d e a.number a.size _ refl p may) q)
    c.in_ok-detach_from.ensures.turns c.resize.ensures.turns
