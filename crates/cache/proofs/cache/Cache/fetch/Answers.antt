use Rattle.std.proofs.Common.{◌≡◌, refl, sym, subst, List}
use Rattle.cache.specs.declared.slot.Slot.{Slot}
use Rattle.cache.specs.Edits.{IsAt}
use Rattle.cache.proofs.Held.{in_range, has_one, has_none}
use Rattle.cache.specs.Calls.{AbstractCache, caching, caching_of, Keeps}
use Rattle.cache.proofs.Placing.{keeps_none}
use Rattle.cache.proofs.Flushes.{follows_none}
use Rattle.cache.proofs.Fetching.{found_there}
use Rattle.cache.proofs.cache.Cache.fetch.Goals as goal

pub touch-requires : goal.touch-requires
touch-requires g c = let f = found_there c.args.self.now c.in-Some.frame c.args.block c.in-Some.ensures.frame in in_range c.args.self.now.slots.items.items c.in-Some.frame.at f.slot f.is

pub returns-in-Some-clause-keeps : goal.returns-in-Some-clause-keeps
returns-in-Some-clause-keeps g c =
    let s = c.args.self.now in
    let same : caching_of g.L.Link s.transfers s.shape c.touch.new.self.items.items s.ended ≡ caching g.L.Link s =
    λ i. caching_of g.L.Link s.transfers s.shape (c.touch.ensures.items i) s.ended in
    subst (λ (n : AbstractCache). Keeps (caching g.L.Link s) n) (sym same) (keeps_none _ c.requires.ready)

pub returns-in-Some-clause-frame : goal.returns-in-Some-clause-frame
returns-in-Some-clause-frame g c =
    let x = c.in-Some.ensures.frame in
    (x.0, subst (λ (l : List Slot). IsAt l c.in-Some.frame.at c.in-Some.frame.block) (sym c.touch.ensures.items) x.1)

pub returns-in-Some-clause-hit : goal.returns-in-Some-clause-hit
returns-in-Some-clause-hit g c = λ s h. record { items = c.touch.ensures.items; used = c.touch.ensures.used; rest = refl }

pub returns-in-Some-clause-miss : goal.returns-in-Some-clause-miss
returns-in-Some-clause-miss g c = λ none. has_one c.args.self.now.slots.items.items c.in-Some.frame.at c.args.block (found_there c.args.self.now c.in-Some.frame c.args.block c.in-Some.ensures.frame) none

pub returns-in-Some-clause-flush : goal.returns-in-Some-clause-flush
returns-in-Some-clause-flush g c = follows_none _ _

pub returns-in-None-clause-hit : goal.returns-in-None-clause-hit
returns-in-None-clause-hit g c = λ s some. has_none c.args.self.now.slots.items.items c.args.block s c.in-None.ensures.frame some

pub returns-in-Some-clause-goes : goal.returns-in-Some-clause-goes
returns-in-Some-clause-goes g c = g.met.L.Link.stays _
