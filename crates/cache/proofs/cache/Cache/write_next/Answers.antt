use Rattle.std.proofs.Common.{[], refl}
use Rattle.cache.specs.Calls.{held_by}
use Rattle.cache.proofs.Begun.{begins_next}
use Rattle.cache.proofs.Placing.{keeps_none}
use Rattle.cache.proofs.cache.Cache.write_next.Goals as goal

pub returns-then-is_err-clause-keeps : goal.returns-then-is_err-clause-keeps
returns-then-is_err-clause-keeps g c = keeps_none _ c.requires.ready

pub returns-then-is_err-clause-goes : goal.returns-then-is_err-clause-goes
returns-then-is_err-clause-goes g c = g.met.L.Link.stays _

pub returns-then-is_err-clause-posts : goal.returns-then-is_err-clause-posts
returns-then-is_err-clause-posts g c = record { posts = []; history = refl; only_posts = tt }

pub returns-in_default-clause-keeps : goal.returns-in_default-clause-keeps
returns-in_default-clause-keeps g c = keeps_none _ c.requires.ready

pub returns-clause-issued : goal.returns-clause-issued
returns-clause-issued g c =
    let s = c.args.self.now in
    begins_next s.slots.items.items c.args.from c.in-Some.at c.get.result.now (held_by c.issue.new.self) s.slots.distinct c.in-Some.ensures c.get.ensures
    c.if-not-issue.ensures.issued
