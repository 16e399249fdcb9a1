use Rattle.std.proofs.Common.{ℕ, Option, ◌∙◌, ap, subst}
use Rattle.cache.specs.declared.slot.Slot.{Slot}
use Rattle.flusher.specs.Flushing.{BeginsAll}
use Rattle.cached_blocks.specs.World.{goes_joins, stored_caching}
use Rattle.cached_blocks.proofs.Flushes.{hands_then, from_there, wanted_overtakes}
use Rattle.cache.proofs.Looking.{looks_then}
use Rattle.cached_blocks.proofs.StoredCaches.absorb.Goals as goal

pub returns-then-not-last-clause-hands_over : goal.returns-then-not-last-clause-hands_over
returns-then-not-last-clause-hands_over g c =
    let f = stored_caching g.L.Link in
    hands_then c.args.message _ _ _ c.if-not-last.ensures.other c.absorb.ensures.hands_over c.flush_wanted.ensures.keeps c.flush_wanted.ensures.posts
    (wanted_overtakes c.absorb.new.self.flush (f (record { cache = c.absorb.new.self })) (f c.flush_wanted.new.self)
    c.flush_wanted.ensures.flushed (λ e. ap f (c.flush_wanted.ensures.unasked e)))

pub returns-then-not-last-clause-goes : goal.returns-then-not-last-clause-goes
returns-then-not-last-clause-goes g c =
    goes_joins g.L.Link g.met.L.Link.joins _ _ _ (record { link = c.absorb.ensures.goes; frames = ap (λ u. u.limit) c.absorb.ensures.stay.uses }) c.flush_wanted.ensures.goes

pub returns-else-not-last-clause-goes : goal.returns-else-not-last-clause-goes
returns-else-not-last-clause-goes g c = record { link = c.absorb.ensures.goes; frames = ap (λ u. u.limit) c.absorb.ensures.stay.uses }

pub returns-then-not-last-clause-silent : goal.returns-then-not-last-clause-silent
returns-then-not-last-clause-silent g c = λ other unwanted idle.
    ap (λ s. (stored_caching g.L.Link s).told) (c.flush_wanted.ensures.unasked (c.absorb.ensures.wanted.1 other ∙ unwanted)) ∙ c.absorb.ensures.silent idle

pub returns-else-not-last-clause-silent : goal.returns-else-not-last-clause-silent
returns-else-not-last-clause-silent g c = λ other unwanted idle. c.absorb.ensures.silent idle

pub returns-then-not-last-clause-flushed : goal.returns-then-not-last-clause-flushed
returns-then-not-last-clause-flushed g c = λ is live.
    subst (λ (h : ℕ → Option Slot). BeginsAll 16 h (stored_caching g.L.Link c.flush_wanted.new.self)) (c.absorb.ensures.asked is)
    ((c.flush_wanted.ensures.flushed (c.absorb.ensures.wanted.0 is)).stuck live)

pub returns-then-not-last-clause-looks : goal.returns-then-not-last-clause-looks
returns-then-not-last-clause-looks g c = looks_then _ _ _ c.absorb.ensures.looks c.flush_wanted.ensures.looks

pub returns-else-not-last-clause-looks : goal.returns-else-not-last-clause-looks
returns-else-not-last-clause-looks g c = c.absorb.ensures.looks

-- what a Flush begins, it begins from the frames and requests that there were
pub returns-then-not-last-clause-runs : goal.returns-then-not-last-clause-runs
returns-then-not-last-clause-runs g c = λ is marks agrees.
    let old = stored_caching g.L.Link c.args.self.now in
    let new = stored_caching g.L.Link c.flush_wanted.new.self in
    let x = (c.flush_wanted.ensures.flushed (c.absorb.ensures.wanted.0 is)).runs in
    from_there old _ new c.absorb.ensures.hands_over.runs.size (c.absorb.ensures.asked is) (c.absorb.ensures.pending is marks agrees) x
