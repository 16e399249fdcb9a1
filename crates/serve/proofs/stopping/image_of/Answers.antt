use Rattle.serve.proofs.RangeLaws.{as_read, has_all, other_is, told_there}
use Rattle.serve.proofs.stopping.image_of.Goals as goal

pub returns-in-Same-clause-image : goal.returns-in-Same-clause-image
returns-in-Same-clause-image g c = λ pieces tells.
    let v = g.N.ServiceParameters.opening in
    let image = c.into_image-image.result.items in
    as_read v c.args.finish c.in-Read.units pieces c.args.media c.args.written image c.in-Read.is c.into_image-image.ensures
    c.has_whole_sectors.ensures c.requires.outside c.requires.kept
    (has_all v c.args.range.0 c.args.range.1 c.deref.result.now image c.requires.range.0 c.requires.range.1 c.deref.ensures.value
    (c.has_range.ensures.0 c.if-not-has_range.false))
    (c.covers.ensures.0 c.if-not-covers.false)
    (told_there v c.args.finish c.in-Read.units c.args.likeness pieces c.args.media.sectors c.in-Read.is c.in-Same.is tells)

pub returns-in-Differs-clause-refused : goal.returns-in-Differs-clause-refused
returns-in-Differs-clause-refused g c = λ pieces tells. (
  other_is g.N.ServiceParameters.opening c.args.finish c.in-Read.units c.args.likeness pieces c.args.media.sectors
      c.into_image-image.result.items c.in-Read.is c.in-Differs.is c.into_image-image.ensures tells,
  record {
    media = c.args.media;
    bytes = c.into_image-image.ensures;
    whole = c.has_whole_sectors.ensures;
    outside = c.requires.outside;
  },
)
