use Rattle.descriptors.specs.Table.{files_of}
use Rattle.vfs.proofs.Handing.{handed}
use Rattle.vfs.proofs.Spending.{spends_handed}
use Rattle.vfs.proofs.server.Server.absorb.Goals as goal

pub returns-clause-absorbs : goal.returns-clause-absorbs
returns-clause-absorbs g c =
    let s = c.args.self.now in
    let m = c.requires.open in
    let F = g.B.Caches.caching in
    let b = c.absorb.new.self in
    handed s.geometry (F s.blocks) (F b) (g.B.Caches.frame_count s.blocks) (g.B.Caches.frame_count b) (g.met.B.Caches.counts s.blocks b c.absorb.ensures.goes)
    (g.B.Caches.wanted s.blocks) (g.B.Caches.wanted b) (files_of s.opens) c.args.message m c.absorb.ensures.hands_over
    c.absorb.ensures.done c.absorb.ensures.runs c.absorb.ensures.looks

pub returns-clause-spends : goal.returns-clause-spends
returns-clause-spends g c = spends_handed c.args.message (g.B.Caches.caching c.args.self.now.blocks) (g.B.Caches.caching c.absorb.new.self) c.absorb.ensures.hands_over
