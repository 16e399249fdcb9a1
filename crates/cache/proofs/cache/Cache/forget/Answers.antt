use Rattle.std.proofs.Common.{refl, sym, ◌∙◌}
use Rattle.cache.specs.Calls.{caching, caching_of}
use Rattle.cache.proofs.Placing.{keeps_none, vacated, clean_passes, forgotten_clean, forgotten_other, forgotten_none}
use Rattle.cache.proofs.Staying.{frame_stays}
use Rattle.cache.proofs.Fetching.{found_there}
use Rattle.cache.proofs.Looking.{looks_slots, vacated_clean}
use Rattle.cache.proofs.cache.Cache.forget.Goals as goal

pub returns-then-is_clean-clause-keeps : goal.returns-then-is_clean-clause-keeps
returns-then-is_clean-clause-keeps g c =
    let s = c.args.self.now in
    let items = s.slots.items.items in
    let clean = sym c.is_clean.ensures ∙ c.if-is_clean.true in
    vacated (caching g.L.Link s) (caching_of g.L.Link s.transfers s.shape c.vacate.new.self.items.items s.ended) items c.vacate.new.self.items.items c.in-Some.frame.at
    s.slots.distinct (record { slot = c.get.result.now; is = c.get.ensures; passes = clean_passes c.get.result.now clean }) c.vacate.ensures.set refl refl c.requires.ready

pub returns-then-is_clean-clause-held : goal.returns-then-is_clean-clause-held
returns-then-is_clean-clause-held g c =
    let s = c.args.self.now in
    let items = s.slots.items.items in
    forgotten_clean items c.vacate.new.self.items.items c.in-Some.frame.at c.args.block c.get.result.now s.slots.distinct
    (found_there c.args.self.now c.in-Some.frame c.args.block c.in-Some.ensures.frame) c.get.ensures (sym c.is_clean.ensures ∙ c.if-is_clean.true) c.vacate.ensures.set

pub returns-else-is_clean-clause-keeps : goal.returns-else-is_clean-clause-keeps
returns-else-is_clean-clause-keeps g c = keeps_none _ c.requires.ready

pub returns-else-is_clean-clause-held : goal.returns-else-is_clean-clause-held
returns-else-is_clean-clause-held g c =
    let s = c.args.self.now in
    let items = s.slots.items.items in
    forgotten_other items c.in-Some.frame.at c.args.block c.get.result.now s.slots.distinct
    (found_there c.args.self.now c.in-Some.frame c.args.block c.in-Some.ensures.frame) c.get.ensures (sym c.is_clean.ensures ∙ c.if-is_clean.false)

pub returns-in-None-clause-keeps : goal.returns-in-None-clause-keeps
returns-in-None-clause-keeps g c = keeps_none _ c.requires.ready

pub returns-in-None-clause-held : goal.returns-in-None-clause-held
returns-in-None-clause-held g c = forgotten_none _ c.args.block c.in-None.ensures.frame

pub returns-then-is_clean-clause-frames : goal.returns-then-is_clean-clause-frames
returns-then-is_clean-clause-frames g c = λ f ne is.
    let items = c.args.self.now.slots.items.items in
    frame_stays items c.vacate.new.self.items.items c.in-Some.frame.at c.args.block f.at f.block _
    (found_there c.args.self.now c.in-Some.frame c.args.block c.in-Some.ensures.frame) ne c.vacate.ensures.set is

pub returns-then-is_clean-clause-goes : goal.returns-then-is_clean-clause-goes
returns-then-is_clean-clause-goes g c = g.met.L.Link.stays _

pub returns-else-is_clean-clause-goes : goal.returns-else-is_clean-clause-goes
returns-else-is_clean-clause-goes g c = g.met.L.Link.stays _

pub returns-in-None-clause-goes : goal.returns-in-None-clause-goes
returns-in-None-clause-goes g c = g.met.L.Link.stays _

pub returns-then-is_clean-clause-looks : goal.returns-then-is_clean-clause-looks
returns-then-is_clean-clause-looks g c =
    let s = c.args.self.now in
    looks_slots (caching g.L.Link s) (caching_of g.L.Link s.transfers s.shape c.vacate.new.self.items.items s.ended) refl refl
    (λ clean. vacated_clean s.slots.items.items c.vacate.new.self.items.items c.in-Some.frame.at c.get.result.now s.slots.distinct c.get.ensures
    c.vacate.ensures.set clean)
