use Rattle.block_store.proofs.Turns.{turns_as, ends_as}
use Rattle.zone.proofs.Attaching.{page_attached}
use Rattle.zone.proofs.pages.attach.Goals as goal

pub returns-clause-turns : goal.returns-clause-turns
returns-clause-turns g c =
    turns_as _ _ _ _ _ (λ d e h. ends_as c.hold.result _ _ _ _ (λ z x. page_attached c.args.geometry.now c.args.inode c.args.page z d e x) (λ may. may) h) c.hold.ensures.turns
