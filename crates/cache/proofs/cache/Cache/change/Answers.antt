use Rattle.std.proofs.Common.{refl, sym, ap, ◌∙◌}
use Rattle.cache.specs.Calls.{caching, caching_of}
use Rattle.cache.specs.Frames.{with_bytes}
use Rattle.cache.specs.declared.slot.Slot.{Slot}
use Rattle.cache.proofs.Edits.{one_slot, leaves_set}
use Rattle.cache.proofs.Placing.{rewritten, changed_row}
use Rattle.cache.proofs.cache.Cache.change.Goals as goal

pub returns-clause-runs : goal.returns-clause-runs
returns-clause-runs g c =
    let s = c.args.self.now in
    let items = s.slots.items.items in
    let e = c.change.ensures.changed in
    let f = c.requires.frame in
    let same = one_slot items c.args.frame.at f.slot e.slot f.is e.is in
    rewritten (caching g.L.Link s) (caching_of g.L.Link s.transfers s.shape c.change.new.self.items.items s.ended) items c.change.new.self.items.items
    c.args.frame.at c.args.frame.block e.slot e.after (with_bytes c.args.from c.args.bytes.now) s.slots.distinct e.is
    (ap (λ (y : Slot). y.block) (sym same) ∙ f.block_is) e.block e.state e.all
    (λ w. changed_row s.shape.block_size c.args.from c.args.bytes.now c.args.frame.block e.slot e.after w c.requires.within e.bytes_are) refl refl c.requires.ready
    c.requires.writable

pub returns-clause-frames : goal.returns-clause-frames
returns-clause-frames g c = λ f is.
    let s = c.args.self.now in
    let items = s.slots.items.items in
    let e = c.change.ensures.changed in
    let k = c.requires.frame in
    let same = one_slot items c.args.frame.at k.slot e.slot k.is e.is in
    (leaves_set items c.change.new.self.items.items c.args.frame.at c.args.frame.block e.slot e.after s.slots.distinct e.is
    (ap (λ (y : Slot). y.block) (sym same) ∙ k.block_is) e.block e.all).at f.at f.block is

pub returns-clause-goes : goal.returns-clause-goes
returns-clause-goes g c = g.met.L.Link.stays _
