use Rattle.std.proofs.Common.{refl, sym, ap, ◌∙◌}
use Rattle.cache.specs.declared.slot.Slot.{Slot}
use Rattle.cache.proofs.Edits.{one_slot, leaves_set}
use Rattle.cache.proofs.Held.{in_range, has_one, has_none}
use Rattle.cache.specs.Calls.{caching, caching_of}
use Rattle.cache.proofs.Placing.{rewritten, zero_row}
use Rattle.cache.proofs.Flushes.{follows_none}
use Rattle.cache.proofs.Fetching.{found_there}
use Rattle.cache.proofs.cache.Cache.fresh.Goals as goal

pub blank-requires : goal.blank-requires
blank-requires g c = let f = found_there c.args.self.now c.in-Some.frame c.args.block c.in-Some.ensures.frame in in_range c.args.self.now.slots.items.items c.in-Some.frame.at f.slot f.is

pub returns-in-Some-clause-runs : goal.returns-in-Some-clause-runs
returns-in-Some-clause-runs g c =
    let s = c.args.self.now in
    let items = s.slots.items.items in
    let e = c.blank.ensures.blanked in
    let f = found_there c.args.self.now c.in-Some.frame c.args.block c.in-Some.ensures.frame in
    let same = one_slot items c.in-Some.frame.at f.slot e.slot f.is e.is in
    rewritten (caching g.L.Link s) (caching_of g.L.Link s.transfers s.shape c.blank.new.self.items.items s.ended) items c.blank.new.self.items.items
    c.in-Some.frame.at c.args.block e.slot e.after (λ row o. 0) s.slots.distinct e.is (ap (λ (y : Slot). y.block) (sym same) ∙ f.block_is) e.block e.state e.all
    (λ w. zero_row s.shape.block_size c.args.block e.after w e.zero) refl refl c.requires.ready
    c.requires.writable

pub returns-in-Some-clause-frame : goal.returns-in-Some-clause-frame
returns-in-Some-clause-frame g c =
    let s = c.args.self.now in
    let items = s.slots.items.items in
    let e = c.blank.ensures.blanked in
    let f = found_there c.args.self.now c.in-Some.frame c.args.block c.in-Some.ensures.frame in
    let same = one_slot items c.in-Some.frame.at f.slot e.slot f.is e.is in (
      c.in-Some.ensures.frame.0,
      (leaves_set items c.blank.new.self.items.items c.in-Some.frame.at c.args.block e.slot e.after s.slots.distinct e.is
          (ap (λ (y : Slot). y.block) (sym same) ∙ f.block_is) e.block e.all).at c.in-Some.frame.at c.in-Some.frame.block c.in-Some.ensures.frame.1,
    )

pub returns-in-Some-clause-hit : goal.returns-in-Some-clause-hit
returns-in-Some-clause-hit g c = λ s h. record { zeros = c.blank.ensures.blanked; used = c.blank.ensures.used; rest = refl }

pub returns-in-Some-clause-miss : goal.returns-in-Some-clause-miss
returns-in-Some-clause-miss g c = λ none. has_one c.args.self.now.slots.items.items c.in-Some.frame.at c.args.block (found_there c.args.self.now c.in-Some.frame c.args.block c.in-Some.ensures.frame) none

pub returns-in-Some-clause-flush : goal.returns-in-Some-clause-flush
returns-in-Some-clause-flush g c = follows_none _ _

pub returns-in-Some-clause-at_once : goal.returns-in-Some-clause-at_once
returns-in-Some-clause-at_once g c = λ none. has_one c.args.self.now.slots.items.items c.in-Some.frame.at c.args.block (found_there c.args.self.now c.in-Some.frame c.args.block c.in-Some.ensures.frame) none

pub returns-in-None-clause-hit : goal.returns-in-None-clause-hit
returns-in-None-clause-hit g c = λ s some. has_none c.args.self.now.slots.items.items c.args.block s c.in-None.ensures.frame some

pub returns-in-Some-clause-goes : goal.returns-in-Some-clause-goes
returns-in-Some-clause-goes g c = g.met.L.Link.stays _
