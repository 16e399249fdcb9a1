use Rattle.std.proofs.Common.{ℕ, refl, sym, subst}
use Rattle.cache.specs.Edits.{StayBut}
use Rattle.cache.specs.Order.{IsVictim}
use Rattle.cache.specs.declared.state.State.TheVariants.{Clean}
use Rattle.cache.proofs.Held.{in_range}
use Rattle.cache.proofs.Filling.{filled_at}
use Rattle.cache.proofs.Growing.{grown_at, grown_so}
use Rattle.cache.proofs.Staying.{but_then, all_but}
use Rattle.cache.specs.Calls.{AbstractCache, Keeps, caching, caching_of}
use Rattle.cache.specs.Looking.{Looks}
use Rattle.cache.proofs.Placing.{keeps_then, keeps_read, reads_after, placed}
use Rattle.cache.proofs.Fetching.{misses_cut, misses_filled}
use Rattle.cache.proofs.Flushes.{follows_then}
use Rattle.cache.proofs.Looking.{looks_then, looks_slots, filled_clean}
use Rattle.cache.proofs.cache.Cache.fetch_missing.Goals as goal

pub returns-in_err-read-clause-keeps : goal.returns-in_err-read-clause-keeps
returns-in_err-read-clause-keeps g c = keeps_then _ _ _ c.make_room.ensures.keeps (keeps_read _ _ _ _ _ c.read.ensures.runs)

pub fill-requires-clause-at : goal.fill-requires-clause-at
fill-requires-clause-at g c =
    let f = c.read.ensures.leaves.free c.in_ok-at.at c.in_ok-at.ensures.free in
    in_range c.read.new.self.slots.items.items c.in_ok-at.at f.slot f.is

pub fill-requires-clause-free : goal.fill-requires-clause-free
fill-requires-clause-free g c = c.read.ensures.leaves.none c.args.block (c.make_room.ensures.none c.args.block c.requires.missing)

pub returns-clause-keeps : goal.returns-clause-keeps
returns-clause-keeps g c =
    let m = c.read.new.self in
    let none = c.read.ensures.leaves.none c.args.block (c.make_room.ensures.none c.args.block c.requires.missing) in
    let x = reads_after _ _ _ _ c.args.block c.args.block refl c.make_room.ensures.keeps c.in_ok-read.ensures.runs in
    grown_so g.L.Link m.transfers m.shape m.ended c.fill.new.self c.grow.new.self c.grow.ensures.grown
    (λ (a : AbstractCache). Keeps (caching g.L.Link c.args.self.now) a)
    (placed (caching g.L.Link m) (caching_of g.L.Link m.transfers m.shape c.fill.new.self.items.items m.ended) m.slots.items.items c.fill.new.self.items.items
    c.in_ok-at.at c.args.block _ _ c.read.new.self.slots.spare.value (caching g.L.Link c.args.self.now) m.slots.distinct
    (c.read.ensures.leaves.free c.in_ok-at.at c.in_ok-at.ensures.free) none c.fill.ensures.filled refl refl refl x.size x.ready x)

pub returns-clause-frame : goal.returns-clause-frame
returns-clause-frame g c = (
  refl,
  grown_at c.fill.new.self c.grow.new.self c.in_ok-at.at c.args.block c.grow.ensures.grown
      (filled_at _ c.fill.new.self.items.items c.in_ok-at.at c.args.block c.read.new.self.slots.spare.value Clean c.fill.ensures.filled),
)

pub returns-in_err-at-clause-miss : goal.returns-in_err-at-clause-miss
returns-in_err-at-clause-miss g c =
    let m = c.make_room.ensures.made in
    misses_cut Clean c.from_residual.result _ _ m.at c.from_residual.ensures.0 m.goes m.stay c.make_room.ensures.none

pub returns-in_err-read-clause-miss : goal.returns-in_err-read-clause-miss
returns-in_err-read-clause-miss g c =
    let m = c.in_ok-at.ensures.made in
    misses_cut Clean c.from_residual-in_err-read.result _ _ m.at c.from_residual-in_err-read.ensures.0 m.goes
    (but_then m.at _ _ _ m.stay (all_but m.at _ _ c.read.ensures.stay)) (λ b h. c.read.ensures.leaves.none b (c.make_room.ensures.none b h))

pub returns-clause-miss : goal.returns-clause-miss
returns-clause-miss g c =
    let m = c.in_ok-at.ensures.made in
    misses_filled _ _ c.read.new.self.slots c.fill.new.self _ c.in_ok-at.at c.args.block c.read.new.self.slots.spare.value Clean refl refl
    (subst (λ (n : ℕ). IsVictim c.args.self.now.slots.items.items c.args.self.now.slots.uses.numbers.items n) (sym m.is) m.goes)
    (subst (λ (n : ℕ). StayBut n c.args.self.now.slots c.read.new.self.slots) (sym m.is)
    (but_then m.at _ _ _ m.stay (all_but m.at _ _ c.read.ensures.stay)))
    (λ b h. c.read.ensures.leaves.none b (c.make_room.ensures.none b h))
    (c.read.ensures.leaves.free c.in_ok-at.at c.in_ok-at.ensures.free)
    (c.read.ensures.leaves.none c.args.block (c.make_room.ensures.none c.args.block c.requires.missing))
    c.fill.ensures.filled c.fill.ensures.used c.grow.ensures.grown

pub returns-in_err-read-clause-flush : goal.returns-in_err-read-clause-flush
returns-in_err-read-clause-flush g c = follows_then _ _ _ _ _ _ c.make_room.ensures.flush c.read.ensures.flush

pub returns-clause-flush : goal.returns-clause-flush
returns-clause-flush g c = follows_then _ _ _ _ _ _ c.make_room.ensures.flush c.read.ensures.flush

pub returns-in_err-read-clause-goes : goal.returns-in_err-read-clause-goes
returns-in_err-read-clause-goes g c = g.met.L.Link.joins _ _ _ c.make_room.ensures.goes c.read.ensures.goes

pub returns-clause-goes : goal.returns-clause-goes
returns-clause-goes g c = g.met.L.Link.joins _ _ _ c.make_room.ensures.goes c.read.ensures.goes

pub returns-in_err-read-clause-looks : goal.returns-in_err-read-clause-looks
returns-in_err-read-clause-looks g c = looks_then _ _ _ c.make_room.ensures.looks c.read.ensures.looks

pub returns-clause-looks : goal.returns-clause-looks
returns-clause-looks g c =
    let m = c.read.new.self in
    grown_so g.L.Link m.transfers m.shape m.ended c.fill.new.self c.grow.new.self c.grow.ensures.grown
    (λ (a : AbstractCache). Looks (caching g.L.Link c.args.self.now) a)
    (looks_then (caching g.L.Link c.args.self.now) (caching g.L.Link m)
    (caching_of g.L.Link m.transfers m.shape c.fill.new.self.items.items m.ended)
    (looks_then _ _ _ c.make_room.ensures.looks c.read.ensures.looks)
    (looks_slots _ _ refl refl (λ clean.
    filled_clean m.slots.items.items c.fill.new.self.items.items c.in_ok-at.at c.args.block _ m.slots.distinct
    (c.read.ensures.leaves.free c.in_ok-at.at c.in_ok-at.ensures.free)
    (c.read.ensures.leaves.none c.args.block (c.make_room.ensures.none c.args.block c.requires.missing)) c.fill.ensures.filled clean)))
