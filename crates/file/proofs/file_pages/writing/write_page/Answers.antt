use Rattle.volume.specs.Pieces.{pieces}
use Rattle.block_store.proofs.Turns.{turns_as, ends_as}
use Rattle.file.proofs.Written.{page_in_zone, writes_page}
use Rattle.file.proofs.file_pages.writing.write_page.Goals as goal

pub returns-clause-turns : goal.returns-clause-turns
returns-clause-turns g c =
    let a = c.args in
    turns_as _ _ _ _ _
    (λ d e h. ends_as c.write_zone.result _ _ _ _ (λ x p. writes_page a.geometry.now a.zone a.from a.bytes.now d e p) (page_in_zone a.geometry.now (pieces a.geometry.now d) a.zone) h)
    c.write_zone.ensures.turns
