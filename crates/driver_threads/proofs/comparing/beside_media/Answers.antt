use Rattle.driver_threads.proofs.RangeLaws.{range_is, there_is, there_back}
use Rattle.driver_threads.proofs.comparing.beside_media.Goals as goal

pub returns-clause-same : goal.returns-clause-same
returns-clause-same g c = λ same.
    let v = g.N.ServiceParameters.opening in
    let sectors = c.args.media.now.media.sectors in
    let is = range_is v _ _ sectors _ _ _ c.range-first.ensures.0 c.range-first.ensures.1 c.as_sectors.ensures
    c.as_flattened-image.ensures.value c.range_of.ensures in
    there_is v sectors _ c.args.start c.args.bytes.now is (c.beside.ensures.same same)

pub returns-clause-differs : goal.returns-clause-differs
returns-clause-differs g c = λ differs there.
    let v = g.N.ServiceParameters.opening in
    let sectors = c.args.media.now.media.sectors in
    let is = range_is v _ _ sectors _ _ _ c.range-first.ensures.0 c.range-first.ensures.1 c.as_sectors.ensures
    c.as_flattened-image.ensures.value c.range_of.ensures in
    c.beside.ensures.differs differs (there_back v sectors _ c.args.start c.args.bytes.now is there)
