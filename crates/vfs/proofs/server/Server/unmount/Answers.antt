use Rattle.std.proofs.Common.{◌≡◌, sym, ◌∙◌}
use Rattle.block_store.proofs.Turns.{turns_then}
use Rattle.cache.proofs.Looking.{looks_then}
use Rattle.descriptors.specs.Table.{files_of}
use Rattle.vfs.proofs.Letting.{busy_at_once, unmounted}
use Rattle.vfs.proofs.Refusing.{refused_at_once, refused_later}
use Rattle.vfs.proofs.server.Server.unmount.Goals as goal

pub returns-in-Err-clause-unmounts : goal.returns-in-Err-clause-unmounts
returns-in-Err-clause-unmounts g c =
    let s = c.args.self.now in
    let F = g.B.Caches.caching in
    let k = g.met.B.Caches.is_cached in
    refused_at_once s.geometry (F s.blocks) (g.B.Caches.frame_count s.blocks) (g.B.Caches.wanted s.blocks) (files_of s.opens) c.requires.may
    (λ d e x. g.met.B.Blocks.lawful.still s.blocks d e (k.sees s.blocks s.blocks d e x)) c.in-Err.cut c.from.result c.from.ensures
    (k.over s.blocks c.in-Err.cut c.in-Err.ensures.cut)

pub returns-then-is_busy-clause-unmounts : goal.returns-then-is_busy-clause-unmounts
returns-then-is_busy-clause-unmounts g c =
    let s = c.args.self.now in
    let F = g.B.Caches.caching in
    let k = g.met.B.Caches.is_cached in
    busy_at_once s.geometry (F s.blocks) (g.B.Caches.frame_count s.blocks) (g.B.Caches.wanted s.blocks) (files_of s.opens) c.requires.may
    (λ d e x. g.met.B.Blocks.lawful.still s.blocks d e (k.sees s.blocks s.blocks d e x)) (k.live s.blocks c.in_default.ensures.live)
    (sym c.is_busy.ensures ∙ c.if-is_busy.true)

pub returns-in-Err-sync-clause-unmounts : goal.returns-in-Err-sync-clause-unmounts
returns-in-Err-sync-clause-unmounts g c =
    let s = c.args.self.now in
    let F = g.B.Caches.caching in
    let N = g.B.Caches.frame_count in
    let k = g.met.B.Caches.is_cached in
    let b = c.sync.new.self in
    refused_later s.geometry (F s.blocks) (F b) (N s.blocks) (N b) (g.met.B.Caches.counts s.blocks b (k.on s.blocks b c.sync.ensures.turns.leads))
    (g.B.Caches.wanted s.blocks) (g.B.Caches.wanted b) (files_of s.opens) c.requires.may (k.live s.blocks c.in_default.ensures.live) (sym c.is_busy.ensures ∙ c.if-is_busy.false)
    (k.leads s.blocks b c.sync.ensures.turns.leads) (λ d e x. c.sync.ensures.turns.related d e (k.sees s.blocks b d e x))
    c.in-Err-sync.cut c.from-in-Err-sync.result c.from-in-Err-sync.ensures (k.over b c.in-Err-sync.cut c.in-Err-sync.ensures.cut)
    (k.looks s.blocks b c.sync.ensures.looks)

pub returns-in-Err-live-clause-unmounts : goal.returns-in-Err-live-clause-unmounts
returns-in-Err-live-clause-unmounts g c =
    let s = c.args.self.now in
    let F = g.B.Caches.caching in
    let N = g.B.Caches.frame_count in
    let k = g.met.B.Caches.is_cached in
    let b = c.flush_wanted.new.self in
    let whole = turns_then g.B.Blocks.world g.met.B.Blocks.lawful s.blocks c.sync.new.self b _ _ (λ d e. e ≡ d) (λ d e i p q. q ∙ p)
    c.sync.ensures.turns c.flush_wanted.ensures.turns in
    refused_later s.geometry (F s.blocks) (F b) (N s.blocks) (N b) (g.met.B.Caches.counts s.blocks b (k.on s.blocks b whole.leads))
    (g.B.Caches.wanted s.blocks) (g.B.Caches.wanted b) (files_of s.opens) c.requires.may (k.live s.blocks c.in_default.ensures.live) (sym c.is_busy.ensures ∙ c.if-is_busy.false)
    (k.leads s.blocks b whole.leads) (λ d e x. whole.related d e (k.sees s.blocks b d e x))
    c.in-Err-live.cut c.from-in-Err-live.result c.from-in-Err-live.ensures (k.over b c.in-Err-live.cut c.in-Err-live.ensures.cut)
    (looks_then (F s.blocks) (F c.sync.new.self) (F b) (k.looks s.blocks c.sync.new.self c.sync.ensures.looks) c.flush_wanted.ensures.looks)

pub returns-in-Ok-clause-unmounts : goal.returns-in-Ok-clause-unmounts
returns-in-Ok-clause-unmounts g c =
    let s = c.args.self.now in
    let F = g.B.Caches.caching in
    let N = g.B.Caches.frame_count in
    let k = g.met.B.Caches.is_cached in
    let b = c.flush_wanted.new.self in
    let whole = turns_then g.B.Blocks.world g.met.B.Blocks.lawful s.blocks c.sync.new.self b _ _ (λ d e. e ≡ d) (λ d e i p q. q ∙ p)
    c.sync.ensures.turns c.flush_wanted.ensures.turns in
    unmounted s.geometry (F s.blocks) (F b) (N s.blocks) (N b) (g.met.B.Caches.counts s.blocks b (k.on s.blocks b whole.leads))
    (g.B.Caches.wanted s.blocks) (g.B.Caches.wanted b) (files_of s.opens) c.requires.may (k.live s.blocks c.in_default.ensures.live) (sym c.is_busy.ensures ∙ c.if-is_busy.false)
    (k.leads s.blocks b whole.leads) (λ d e x. whole.related d e (k.sees s.blocks b d e x))
    (k.live b c.in-Ok.ensures.live) (c.flush_wanted.ensures.looks (k.synced c.sync.new.self c.in_default-sync.ensures.synced)).settled.clean
    (looks_then (F s.blocks) (F c.sync.new.self) (F b) (k.looks s.blocks c.sync.new.self c.sync.ensures.looks) c.flush_wanted.ensures.looks)
