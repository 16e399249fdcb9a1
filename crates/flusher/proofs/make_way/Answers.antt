use Rattle.cache.proofs.Placing.{keeps_none}
use Rattle.flusher.proofs.Flushing.{posts_none}
use Rattle.flusher.proofs.Ways.{way_begun, way_free, way_there, frame_held}
use Rattle.flusher.proofs.make_way.Goals as goal

pub returns-in_default-clause-keeps : goal.returns-in_default-clause-keeps
returns-in_default-clause-keeps g c = keeps_none _ c.requires.ready

pub returns-in_default-clause-goes : goal.returns-in_default-clause-goes
returns-in_default-clause-goes g c = g.met.L.Link.stays _

pub returns-in_default-clause-posts : goal.returns-in_default-clause-posts
returns-in_default-clause-posts g c = posts_none _

pub returns-in_default-clause-way : goal.returns-in_default-clause-way
returns-in_default-clause-way g c = way_free c.args.block c.due.result _ _ c.due.ensures c.in_default.is

pub returns-in-Some-find-clause-keeps : goal.returns-in-Some-find-clause-keeps
returns-in-Some-find-clause-keeps g c = keeps_none _ c.requires.ready

pub returns-in-Some-find-clause-goes : goal.returns-in-Some-find-clause-goes
returns-in-Some-find-clause-goes g c = g.met.L.Link.stays _

pub returns-in-Some-find-clause-posts : goal.returns-in-Some-find-clause-posts
returns-in-Some-find-clause-posts g c = posts_none _

pub returns-in-Some-find-clause-way : goal.returns-in-Some-find-clause-way
returns-in-Some-find-clause-way g c = way_there c.args.block c.due.result _ _ c.due.ensures (frame_held c.args.cache.now c.in-Some-find.field-0 c.args.block c.in-Some-find.ensures.frame)

pub returns-in-None-clause-way : goal.returns-in-None-clause-way
returns-in-None-clause-way g c = way_begun c.args.block c.in-Some.from c.due.result _ _ _ c.due.ensures c.in-Some.is c.in-None.ensures.frame c.begin_from.ensures.begun
