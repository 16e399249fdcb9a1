use Rattle.std.proofs.Common.{sym, ap, ◌∙◌}
use Rattle.cache.specs.Slots.{is_dirty_slot}
use Rattle.cache.proofs.Issuing.{under_way}
use Rattle.cache.proofs.Beginning.{busy_under}
use Rattle.cache.proofs.Edits.{one_slot, leaves_none}
use Rattle.cache.proofs.Placing.{keeps_none}
use Rattle.cache.proofs.Staying.{but_none}
use Rattle.cache.proofs.Flushes.{follows_none, follows_posts}
use Rattle.cache.proofs.cache.Cache.write_out.Goals as goal

pub returns-else-is_dirty-clause-keeps : goal.returns-else-is_dirty-clause-keeps
returns-else-is_dirty-clause-keeps g c = keeps_none _ c.requires.ready

pub returns-else-is_dirty-clause-busy : goal.returns-else-is_dirty-clause-busy
returns-else-is_dirty-clause-busy g c =
    let s = c.args.self.now in
    let items = s.slots.items.items in
    let u = c.requires.unclean in
    let same = one_slot items c.args.at u.slot c.get.result.now u.is c.get.ensures in
    let p = under_way u.slot u.passes (ap is_dirty_slot same ∙ sym c.is_dirty.ensures ∙ c.if-is_dirty.false) in
    busy_under s.shape.block_size items _ c.args.at p.0 p.1 u.slot s.slots.distinct u.is p.2 p.3 c.requires.ready.tied

pub returns-else-is_dirty-clause-others : goal.returns-else-is_dirty-clause-others
returns-else-is_dirty-clause-others g c = but_none c.args.at _

pub returns-then-is_dirty-clause-flush : goal.returns-then-is_dirty-clause-flush
returns-then-is_dirty-clause-flush g c =
    let x = c.issue.ensures.posts in
    follows_posts _ _ x.posts _ _ c.issue.ensures.flush x.history x.only_posts

pub returns-else-is_dirty-clause-flush : goal.returns-else-is_dirty-clause-flush
returns-else-is_dirty-clause-flush g c = follows_none _ _

pub returns-else-is_dirty-clause-goes : goal.returns-else-is_dirty-clause-goes
returns-else-is_dirty-clause-goes g c = g.met.L.Link.stays _

pub returns-else-is_dirty-clause-leaves : goal.returns-else-is_dirty-clause-leaves
returns-else-is_dirty-clause-leaves g c = leaves_none _
