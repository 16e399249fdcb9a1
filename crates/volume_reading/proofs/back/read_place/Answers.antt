use Rattle.std.proofs.Common.{Err, Ok, refl}
use Rattle.reissue.specs.Transfers.{link_of, table_of}
use Rattle.volume_reading.proofs.Places.{read_there}
use Rattle.volume_reading.proofs.back.read_place.Goals as goal

pub returns-in-Ok-clause-reads : goal.returns-in-Ok-clause-reads
returns-in-Ok-clause-reads g c =
    let a = c.args in
    let t = a.transfers.now in
    let u = c.read_in.new.transfers in
    let h = g.L.Link.history in
    let w = g.L.Link.truth in
    read_there g.T.Takes.takes (Ok tt) a.minor a.place.now a.buffer.now c.read_in.new.into a.taker.now c.take.new.self (table_of t)
    (table_of u) (h (link_of t)) (h (link_of u)) (w (link_of t)) (w (link_of u)) c.requires.long c.requires.most
    c.read_in.ensures.same_length c.in-Ok.ensures.reads c.take.ensures tt

pub returns-in-Err-clause-reads : goal.returns-in-Err-clause-reads
returns-in-Err-clause-reads g c =
    let a = c.args in
    let t = a.transfers.now in
    let u = c.read_in.new.transfers in
    let h = g.L.Link.history in
    let w = g.L.Link.truth in
    read_there g.T.Takes.takes (Err c.in-Err.stop) a.minor a.place.now a.buffer.now c.read_in.new.into a.taker.now a.taker.now (table_of t)
    (table_of u) (h (link_of t)) (h (link_of u)) (w (link_of t)) (w (link_of u)) c.requires.long c.requires.most
    c.read_in.ensures.same_length c.in-Err.ensures.reads tt refl
