use Rattle.std.proofs.Common.{◌≡◌, refl, sym, ap, subst, ◌∙◌, arith, Err}
use Rattle.cache.specs.Calls.{AbstractCache, caching, caching_of, Keeps}
use Rattle.cache.specs.declared.slot.Slot.{Slot}
use Rattle.cache.proofs.Issuing.{issued_at, write_leaves, dirty_parts}
use Rattle.cache.proofs.Beginning.{longer, refusing, write_one, busy_begun}
use Rattle.cache.proofs.Edits.{one_slot, leaves_none}
use Rattle.cache.specs.Slots.{held}
use Rattle.cache.proofs.Begun.{dirty_one}
use Rattle.cache.proofs.Held.{in_range, held_at}
use Rattle.cache.proofs.Placing.{keeps_none}
use Rattle.cache.proofs.Staying.{but_none, set_others}
use Rattle.cache.proofs.cache.Cache.issue.Goals as goal

pub begin_write-requires : goal.begin_write-requires
begin_write-requires g c = in_range c.args.self.now.slots.items.items c.args.at c.get-slot.result.now c.get-slot.ensures

pub returns-in-Ok-clause-keeps : goal.returns-in-Ok-clause-keeps
returns-in-Ok-clause-keeps g c =
    let s = c.args.self.now in
    let items = s.slots.items.items in
    let x = c.in-Ok.ensures in
    let a = c.write-ask.ensures in
    let d = c.requires.dirty in
    let same : d.slot ≡ c.get-slot.result.now = one_slot items c.args.at d.slot c.get-slot.result.now d.is c.get-slot.ensures in
    let state = ap (λ (y : Slot). y.state) (sym same) ∙ (dirty_parts d.slot d.passes).2 in
    write_one c.write-ask.result (caching g.L.Link s) (caching_of g.L.Link c.begin.new.self s.shape c.begin_write.new.self.items.items s.ended)
    items c.begin_write.new.self.items.items c.in-Some.block c.in-Ok.ticket c.args.at c.get-slot.result.now
    s.slots.distinct c.get-slot.ensures c.in-Some.is state c.begin_write.ensures.set refl refl
    x.begins x.adds x.opens a.kind a.minor a.position a.count (a.bytes ∙ c.deref.ensures) c.requires.ready refl refl refl x.budget x.room

pub returns-in-Ok-clause-busy : goal.returns-in-Ok-clause-busy
returns-in-Ok-clause-busy g c = busy_begun c.in-Ok.ticket _ _ _ c.in-Ok.ensures.opens.1

pub returns-in-Ok-clause-leaves : goal.returns-in-Ok-clause-leaves
returns-in-Ok-clause-leaves g c =
    write_leaves c.args.self.now.slots.items.items c.begin_write.new.self.items.items c.in-Some.block c.args.at c.get-slot.result.now _
    c.args.self.now.slots.distinct c.get-slot.ensures c.in-Some.is c.begin_write.ensures.set

pub returns-in-Err-clause-keeps : goal.returns-in-Err-clause-keeps
returns-in-Err-clause-keeps g c =
    let s = c.args.self.now in
    let old = caching g.L.Link s in
    let same : caching_of g.L.Link c.begin.new.self s.shape s.slots.items.items s.ended ≡ old =
    λ i. caching_of g.L.Link (c.in-Err.ensures.refused i) s.shape s.slots.items.items s.ended in
    subst (λ (n : AbstractCache). Keeps old n) (sym same) (keeps_none old c.requires.ready)

pub returns-in-Ok-clause-issued : goal.returns-in-Ok-clause-issued
returns-in-Ok-clause-issued g c =
    let s = c.args.self.now in
    let items = s.slots.items.items in
    let d = c.requires.dirty in
    let same : d.slot ≡ c.get-slot.result.now = one_slot items c.args.at d.slot c.get-slot.result.now d.is c.get-slot.ensures in
    issued_at items c.begin_write.new.self.items.items c.in-Some.block c.in-Ok.ticket c.args.at c.get-slot.result.now s.slots.distinct c.get-slot.ensures c.in-Some.is
    (ap (λ (y : Slot). y.state) (sym same) ∙ (dirty_parts d.slot d.passes).2) c.begin_write.ensures.set

pub returns-in-Ok-clause-posts : goal.returns-in-Ok-clause-posts
returns-in-Ok-clause-posts g c =
    let x = c.in-Ok.ensures.begins in
    record { posts = x.posts; history = x.history; only_posts = x.only_posts }

pub returns-in-Err-clause-posts : goal.returns-in-Err-clause-posts
returns-in-Err-clause-posts g c =
    let x = c.in-Err.ensures.begins in
    record { posts = x.posts; history = x.history; only_posts = x.only_posts }

pub returns-in-Ok-clause-others : goal.returns-in-Ok-clause-others
returns-in-Ok-clause-others g c = record { uses = c.begin_write.ensures.uses; each = set_others _ _ c.args.at _ c.begin_write.ensures.set }

pub returns-in-Err-clause-others : goal.returns-in-Err-clause-others
returns-in-Err-clause-others g c = but_none c.args.at _

pub returns-in-Ok-clause-adds : goal.returns-in-Ok-clause-adds
returns-in-Ok-clause-adds g c =
    let s = c.args.self.now in
    longer c.write-ask.result (caching g.L.Link s) (caching_of g.L.Link c.begin.new.self s.shape c.begin_write.new.self.items.items s.ended) c.in-Ok.ensures.adds

pub returns-in-Err-clause-refusing : goal.returns-in-Err-clause-refusing
returns-in-Err-clause-refusing g c =
    let s = c.args.self.now in
    let items = s.slots.items.items in
    let a = c.write-ask.ensures in
    let d = c.requires.dirty in
    let x = c.in-Err.ensures in
    let same : d.slot ≡ c.get-slot.result.now = one_slot items c.args.at d.slot c.get-slot.result.now d.is c.get-slot.ensures in
    refusing (caching g.L.Link s) (Err c.in-Err.field-0) _ _ c.in-Some.block 1 refl x.full x.pending
    a.position (omega (arith, a.count)) (omega (arith, s.shape.least)) (omega arith)
    (dirty_one (held items) c.in-Some.block c.get-slot.result.now
    (held_at items c.args.at c.in-Some.block c.get-slot.result.now s.slots.distinct c.get-slot.ensures c.in-Some.is)
    (ap (λ (y : Slot). y.state) (sym same) ∙ (dirty_parts d.slot d.passes).2))

pub returns-in-Ok-clause-goes : goal.returns-in-Ok-clause-goes
returns-in-Ok-clause-goes g c = c.in-Ok.ensures.goes

pub returns-in-Err-clause-goes : goal.returns-in-Err-clause-goes
returns-in-Err-clause-goes g c = c.in-Err.ensures.goes

pub returns-in-Err-clause-leaves : goal.returns-in-Err-clause-leaves
returns-in-Err-clause-leaves g c = leaves_none _
