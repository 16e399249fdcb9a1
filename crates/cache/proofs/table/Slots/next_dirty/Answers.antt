use Rattle.std.proofs.Common.{◌≤◌, length, sym, ◌∙◌, arith}
use Rattle.cache.proofs.Choosing.{searched_start, searched_more, slot_there, next_found, none_found}
use Rattle.cache.proofs.table.Slots.next_dirty.Goals as goal

pub loop-nth-init : goal.loop-nth-init
loop-nth-init c =
    let s = c.args.self.now in
    searched_start s.index.entries.items s.items.items c.start-nth.result c.args.from s.indexed s.index.rising
    c.start-nth.ensures

pub get-requires : goal.get-requires
get-requires c =
    let s = c.args.self.now in
    slot_there s.index.entries.items s.items.items c.loop-nth.nth c.place-at.result s.indexed s.index.rising c.place-at.ensures

pub loop-nth-preserved : goal.loop-nth-preserved
loop-nth-preserved c =
    let s = c.args.self.now in
    searched_more s.index.entries.items s.items.items c.args.from c.loop-nth.nth c.place-at.result c.get.result.now c.place-at.ensures c.get.ensures
    (sym c.is_dirty.ensures ∙ c.if-is_dirty.false) c.loop-nth.invariant

pub returns-then-is_dirty : goal.returns-then-is_dirty
returns-then-is_dirty c =
    let s = c.args.self.now in
    next_found s.index.entries.items s.items.items c.args.from c.loop-nth.nth c.place-at.result c.get.result.now s.indexed s.index.rising
    c.place-at.ensures c.get.ensures (sym c.is_dirty.ensures ∙ c.if-is_dirty.true) c.loop-nth.invariant

pub returns : goal.returns
returns c =
    let s = c.args.self.now in
    let all : length s.index.entries.items ≤ c.loop-nth.nth = omega (arith, c.loop-nth-test.false, c.len-nth-end.ensures) in
    none_found s.index.entries.items s.items.items c.args.from c.loop-nth.nth s.indexed all c.loop-nth.invariant
