use Rattle.std.proofs.Common.{◌≡◌, ℕ, List, ◌<◌, length, subst, refl, sym, ap, None}
use Rattle.cache.specs.Edits.{IsFilledAt, StayBut}
use Rattle.cache.specs.Slots.{held}
use Rattle.cache.specs.Uses.{IsUsedLast}
use Rattle.cache.specs.declared.slot.Slot.{Slot}
use Rattle.cache.specs.declared.table.Slots.{Slots}
use Rattle.cache.specs.Order.{IsVictim}
use Rattle.cache.specs.declared.state.State.TheVariants.{Dirty}
use Rattle.cache.proofs.Held.{in_range}
use Rattle.cache.proofs.Filling.{filled_at}
use Rattle.cache.proofs.Growing.{grown_at, grown_so}
use Rattle.cache.specs.Calls.{AbstractCache, Runs, Rewrites, caching, caching_of}
use Rattle.cache.specs.declared.cache.Cache.{Cache}
use Rattle.cache.proofs.Placing.{blanked, blanks_cut}
use Rattle.cache.proofs.Fetching.{misses_cut, misses_filled}
use Rattle.cache.proofs.cache.Cache.fresh_missing.Goals as goal

pub returns-in_err-at-clause-runs : goal.returns-in_err-at-clause-runs
returns-in_err-at-clause-runs g c = blanks_cut c.from_residual.result _ _ _ c.from_residual.ensures.0 c.make_room.ensures.keeps

pub fill-requires-clause-at : goal.fill-requires-clause-at
fill-requires-clause-at g c =
    let f = c.in_ok-at.ensures.free in
    subst (λ (s : Slots). c.in_ok-at.at < length s.items.items) (sym c.clear_spare.ensures.rest)
    (in_range c.make_room.new.self.slots.items.items c.in_ok-at.at f.slot f.is)

pub fill-requires-clause-free : goal.fill-requires-clause-free
fill-requires-clause-free g c =
    subst (λ (s : Slots). held s.items.items c.args.block ≡ None) (sym c.clear_spare.ensures.rest) (c.make_room.ensures.none c.args.block c.requires.missing)

pub returns-clause-runs : goal.returns-clause-runs
returns-clause-runs g c =
    let m = c.make_room.new.self in
    let k = c.make_room.ensures.keeps in
    let none = c.make_room.ensures.none c.args.block c.requires.missing in
    let zeros = c.clear_spare.new.self.spare.value in
    let filled : IsFilledAt m.slots.items.items c.fill.new.self.items.items c.in_ok-at.at c.args.block zeros Dirty =
    subst (λ (l : List Slot). IsFilledAt l c.fill.new.self.items.items c.in_ok-at.at c.args.block zeros Dirty)
    (ap (λ (s : Slots). s.items.items) c.clear_spare.ensures.rest) c.fill.ensures.filled in
    grown_so g.L.Link m.transfers m.shape m.ended c.fill.new.self c.grow.new.self c.grow.ensures.grown
    (λ (a : AbstractCache). let s = caching g.L.Link c.args.self.now in Runs None s a (λ w v. Rewrites c.args.block (λ row o. 0) s a w v))
    (blanked (caching g.L.Link m) (caching_of g.L.Link m.transfers m.shape c.fill.new.self.items.items m.ended) m.slots.items.items c.fill.new.self.items.items
    c.in_ok-at.at c.args.block zeros (caching g.L.Link c.args.self.now) m.slots.distinct c.in_ok-at.ensures.free none c.clear_spare.ensures.zero filled refl refl
    k.ready c.requires.writable k)

pub returns-clause-frame : goal.returns-clause-frame
returns-clause-frame g c = (
  refl,
  grown_at c.fill.new.self c.grow.new.self c.in_ok-at.at c.args.block c.grow.ensures.grown
      (filled_at _ c.fill.new.self.items.items c.in_ok-at.at c.args.block _ Dirty c.fill.ensures.filled),
)

pub returns-in_err-at-clause-miss : goal.returns-in_err-at-clause-miss
returns-in_err-at-clause-miss g c =
    let m = c.make_room.ensures.made in
    misses_cut Dirty c.from_residual.result _ _ m.at c.from_residual.ensures.0 m.goes m.stay c.make_room.ensures.none

pub returns-clause-miss : goal.returns-clause-miss
returns-clause-miss g c =
    let m = c.in_ok-at.ensures.made in
    let zeros = c.clear_spare.new.self.spare.value in
    let rest = c.clear_spare.ensures.rest in
    let filled : IsFilledAt c.make_room.new.self.slots.items.items c.fill.new.self.items.items c.in_ok-at.at c.args.block zeros Dirty =
    subst (λ (l : List Slot). IsFilledAt l c.fill.new.self.items.items c.in_ok-at.at c.args.block zeros Dirty)
    (ap (λ (s : Slots). s.items.items) rest) c.fill.ensures.filled in
    let used : IsUsedLast c.make_room.new.self.slots.uses.numbers.items c.fill.new.self.uses.numbers.items c.in_ok-at.at =
    subst (λ (l : List ℕ). IsUsedLast l c.fill.new.self.uses.numbers.items c.in_ok-at.at) (ap (λ (s : Slots). s.uses.numbers.items) rest) c.fill.ensures.used in
    misses_filled _ _ c.make_room.new.self.slots c.fill.new.self _ c.in_ok-at.at c.args.block zeros Dirty refl refl
    (subst (λ (n : ℕ). IsVictim c.args.self.now.slots.items.items c.args.self.now.slots.uses.numbers.items n) (sym m.is) m.goes)
    (subst (λ (n : ℕ). StayBut n c.args.self.now.slots c.make_room.new.self.slots) (sym m.is) m.stay)
    c.make_room.ensures.none c.in_ok-at.ensures.free (c.make_room.ensures.none c.args.block c.requires.missing) filled used
    c.grow.ensures.grown

pub returns-in_err-at-clause-at_once : goal.returns-in_err-at-clause-at_once
returns-in_err-at-clause-at_once g c =
    let x = c.in_err-at.ensures.at_once in
    record { at = x.at; goes = x.goes; at_once = λ f. absurd (let z = (x.at_once f).0 in cc) }

pub returns-clause-at_once : goal.returns-clause-at_once
returns-clause-at_once g c =
    let x = c.in_ok-at.ensures.at_once in
    record { at = x.at; goes = x.goes; at_once = λ f. (refl, ap (λ (k : Cache _). record k { slots = c.grow.new.self }) (x.at_once f).1) }
