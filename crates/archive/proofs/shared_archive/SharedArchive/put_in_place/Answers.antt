use Rattle.std.proofs.Common.{◌∙◌, ap, sym}
use Rattle.std.specs.List.{concat}
use Rattle.shared_media.specs.Marking.{ConfinedState}
use Rattle.archive.proofs.Placing.{in_place}
use Rattle.archive.proofs.shared_archive.SharedArchive.put_in_place.Goals as goal

pub put-put-requires-clause-outside : goal.put-put-requires-clause-outside
put-put-requires-clause-outside g c =
    in_place g.N.ServiceParameters.opening c.deref.result.now.media.sectors c.in-Ok.numbers.items c.deref-2.result.now
    c.as_flattened.result.now c.in-Ok.ensures.outside c.deref-2.ensures.value
    (c.as_flattened.ensures.value ∙ ap concat (c.as_sectors.ensures
    ∙ ap (λ (m : ConfinedState). m.media.sectors) (c.deref-3.ensures ∙ sym c.deref.ensures)))
