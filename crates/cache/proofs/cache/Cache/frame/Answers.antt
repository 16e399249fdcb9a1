use Rattle.std.proofs.Common.{ℕ, List, take, sym, ap, ◌∙◌, Option, Some}
use Rattle.cache.specs.Frames.{frame_of}
use Rattle.cache.specs.declared.slot.Slot.{Slot}
use Rattle.cache.proofs.Edits.{one_slot}
use Rattle.cache.proofs.Held.{held_at}
use Rattle.cache.proofs.cache.Cache.frame.Goals as goal

pub returns-clause-bytes : goal.returns-clause-bytes
returns-clause-bytes g c =
    let s = c.args.self.now in
    let items = s.slots.items.items in
    let f = c.requires in
    let same = one_slot items c.args.frame.at f.slot c.get.result.now f.is c.get.ensures in
    ap (λ (o : Option Slot). frame_of s.shape.block_size o)
    (held_at items c.args.frame.at c.args.frame.block c.get.result.now s.slots.distinct c.get.ensures (ap (λ (y : Slot). y.block) (sym same) ∙ f.block_is))
    ∙ ap (λ (row : List ℕ). Some (take s.shape.block_size row)) (sym c.deref.ensures)
