use Rattle.std.proofs.Common.{◌≡◌, refl, sym, subst}
use Rattle.cache.specs.Calls.{AbstractCache, caching, caching_of, Keeps}
use Rattle.cache.proofs.Beginning.{read_one, read_is_at, busy_begun}
use Rattle.cache.proofs.Placing.{keeps_none}
use Rattle.cache.proofs.Flushes.{follows_posts}
use Rattle.cache.proofs.Looking.{begin_looks}
use Rattle.cache.proofs.cache.Cache.try_read.Goals as goal

pub returns-in-Ok-clause-keeps : goal.returns-in-Ok-clause-keeps
returns-in-Ok-clause-keeps g c =
    let s = c.args.self.now in
    let x = c.in-Ok.ensures in
    let a = c.read-ask.ensures in
    read_one c.read-ask.result (caching g.L.Link s) (caching_of g.L.Link c.begin.new.self s.shape s.slots.items.items s.ended) c.args.block c.in-Ok.ticket
    refl x.begins x.adds x.opens a.kind a.minor a.position a.count c.requires.ready refl refl refl x.budget x.room

pub returns-in-Ok-clause-busy : goal.returns-in-Ok-clause-busy
returns-in-Ok-clause-busy g c = busy_begun c.in-Ok.ticket _ _ _ c.in-Ok.ensures.opens.1

pub returns-in-Ok-clause-reading : goal.returns-in-Ok-clause-reading
returns-in-Ok-clause-reading g c =
    let a = c.read-ask.ensures in
    (refl, read_is_at c.in-Ok.ticket _ _ _ _ c.read-ask.result c.in-Ok.ensures.opens a.kind a.position a.count)

pub returns-in-Err-clause-keeps : goal.returns-in-Err-clause-keeps
returns-in-Err-clause-keeps g c =
    let s = c.args.self.now in
    let old = caching g.L.Link s in
    let same : caching_of g.L.Link c.begin.new.self s.shape s.slots.items.items s.ended ≡ old =
    λ i. caching_of g.L.Link (c.in-Err.ensures.refused i) s.shape s.slots.items.items s.ended in
    subst (λ (n : AbstractCache). Keeps old n) (sym same) (keeps_none old c.requires.ready)

pub returns-in-Ok-clause-flush : goal.returns-in-Ok-clause-flush
returns-in-Ok-clause-flush g c =
    let x = c.in-Ok.ensures.begins in
    follows_posts _ _ x.posts _ _ refl x.history x.only_posts

pub returns-in-Err-clause-flush : goal.returns-in-Err-clause-flush
returns-in-Err-clause-flush g c =
    let x = c.in-Err.ensures.begins in
    follows_posts _ _ x.posts _ _ refl x.history x.only_posts

pub returns-in-Ok-clause-looks : goal.returns-in-Ok-clause-looks
returns-in-Ok-clause-looks g c =
    let s = c.args.self.now in
    let x = c.in-Ok.ensures in
    begin_looks c.read-ask.result (caching g.L.Link s) (caching_of g.L.Link c.begin.new.self s.shape s.slots.items.items s.ended) c.in-Ok.ticket
    refl c.read-ask.ensures.kind x.adds x.opens
