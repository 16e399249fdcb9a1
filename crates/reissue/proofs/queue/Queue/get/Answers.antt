use Rattle.std.proofs.Common.{◌≡◌, sym, ◌∙◌, ap, arith, Some, None}
use Rattle.std.specs.Option.{option_copied}
use Rattle.slab.specs.Slab.{get}
use Rattle.reissue.proofs.Places.{place_below, entry_at, held_at}
use Rattle.reissue.proofs.queue.Queue.get.Goals as goal

pub index-requires : goal.index-requires
index-requires c =
    let lt = place_below c.self.inside.entries c.self.inside.keys.items _ c.args.at c.self.invariant.holds c.self.view_is c.requires in
    omega (arith, lt, c.self.inside.keys.ok)

pub unreachable-requires : goal.unreachable-requires
unreachable-requires c =
    let lt = place_below c.self.inside.entries c.self.inside.keys.items _ c.args.at c.self.invariant.holds c.self.view_is c.requires in
    let e = held_at c.self.inside.entries c.self.inside.keys.items c.args.at c.index.result.now c.self.invariant.holds lt c.index.ensures in
    let none : None ≡ Some e.0 = ap option_copied (sym c.in-None.is) ∙ c.get.ensures ∙ e.1 in
    cc

pub returns : goal.returns
returns c =
    let lt = place_below c.self.inside.entries c.self.inside.keys.items _ c.args.at c.self.invariant.holds c.self.view_is c.requires in
    let same : Some c.in-Some.entry.now ≡ get c.self.inside.entries c.index.result.now = ap option_copied (sym c.in-Some.is) ∙ c.get.ensures in
    let e = entry_at c.self.inside.entries c.self.inside.keys.items c.args.at c.index.result.now c.in-Some.entry.now c.self.invariant.holds lt c.index.ensures
    (sym same) in
    rw (c.deref.ensures, ← c.self.view_is) e
