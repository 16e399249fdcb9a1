use Rattle.vfs.proofs.Back.{are_for_so, at_places, back_so}
use Rattle.vfs.proofs.reading_back.Server+Stored+L.read_back.Goals as goal

pub read_back-requires-clause-minor : goal.read_back-requires-clause-minor
read_back-requires-clause-minor g c =
    are_for_so g.L.Link c.args.self c.minor-minor.result c.into_transfers-transfers.result c.minor-minor.ensures c.into_transfers-transfers.ensures
    c.requires.ready

pub returns-clause-back : goal.returns-clause-back
returns-clause-back g c =
    let b = c.read_back.ensures.back in (
      b.0,
      b.1,
      at_places c.read_back.result c.end_of-end.result c.args.places.now b.0 b.2 c.end_of-end.ensures,
      back_so g.L.Link c.args.self c.minor-minor.result c.into_transfers-transfers.result c.read_back.new.transfers c.into_link.result
          c.read_back.result c.end_of-end.result b.0 c.minor-minor.ensures c.into_transfers-transfers.ensures b.3 c.end_of-end.ensures c.into_link.ensures,
    )
