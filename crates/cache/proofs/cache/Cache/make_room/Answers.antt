use Rattle.std.proofs.Common.{refl, ap}
use Rattle.cache.specs.Calls.{caching, caching_of}
use Rattle.cache.proofs.Filling.{free_at, vacated_none}
use Rattle.cache.proofs.Placing.{keeps_then, vacated}
use Rattle.cache.proofs.Staying.{but_then, set_others}
use Rattle.cache.proofs.Fetching.{no_place}
use Rattle.cache.proofs.Looking.{looks_then, looks_same, looks_slots, none_unclean, vacated_clean}
use Rattle.cache.proofs.cache.Cache.make_room.Goals as goal

pub returns-clause-keeps : goal.returns-clause-keeps
returns-clause-keeps g c =
    let m = c.clean.new.self in
    let k = c.clean.ensures.keeps in
    keeps_then _ _ _ k
    (vacated (caching g.L.Link m) (caching_of g.L.Link m.transfers m.shape c.vacate.new.self.items.items m.ended) m.slots.items.items c.vacate.new.self.items.items
    c.victim-at.result m.slots.distinct c.in_ok-clean.ensures.clean c.vacate.ensures.set refl refl k.ready)

pub returns-clause-free : goal.returns-clause-free
returns-clause-free g c = free_at c.clean.new.self.slots.items.items c.vacate.new.self.items.items c.victim-at.result c.vacate.ensures.set

pub returns-clause-none : goal.returns-clause-none
returns-clause-none g c = λ n e.
    let m = c.clean.new.self in
    let f = c.in_ok-clean.ensures.clean in
    vacated_none m.slots.items.items c.vacate.new.self.items.items c.victim-at.result f.slot m.slots.distinct f.is c.vacate.ensures.set n (c.clean.ensures.leaves.none n e)

pub returns-in_err-clean-clause-made : goal.returns-in_err-clean-clause-made
returns-in_err-clean-clause-made g c = record {
  at = c.victim-at.result;
  goes = c.victim-at.ensures.chosen;
  is = no_place c.from_residual.result _ c.from_residual.ensures.0;
  stay = c.clean.ensures.others;
}

pub returns-clause-made : goal.returns-clause-made
returns-clause-made g c = record {
  at = c.victim-at.result;
  goes = c.victim-at.ensures.chosen;
  is = refl;
  stay = but_then c.victim-at.result _ _ _ c.clean.ensures.others
      (record { uses = c.vacate.ensures.uses; each = set_others _ _ c.victim-at.result _ c.vacate.ensures.set });
}

pub returns-in_err-clean-clause-looks : goal.returns-in_err-clean-clause-looks
returns-in_err-clean-clause-looks g c =
    let s = c.args.self.now in
    looks_same (caching g.L.Link s) (caching g.L.Link c.clean.new.self)
    (λ clean. ap (caching g.L.Link) (c.clean.ensures.at_once (none_unclean s.slots.items.items c.victim-at.result s.slots.distinct c.victim-at.ensures.in_range clean)).0)

pub returns-clause-looks : goal.returns-clause-looks
returns-clause-looks g c =
    let s = c.args.self.now in
    let m = c.clean.new.self in
    let f = c.in_ok-clean.ensures.clean in
    looks_then (caching g.L.Link s) (caching g.L.Link m) (caching_of g.L.Link m.transfers m.shape c.vacate.new.self.items.items m.ended)
    (looks_same (caching g.L.Link s) (caching g.L.Link m)
    (λ clean. ap (caching g.L.Link) (c.clean.ensures.at_once (none_unclean s.slots.items.items c.victim-at.result s.slots.distinct c.victim-at.ensures.in_range clean)).0))
    (looks_slots _ _ refl refl
    (λ clean. vacated_clean m.slots.items.items c.vacate.new.self.items.items c.victim-at.result f.slot m.slots.distinct f.is c.vacate.ensures.set clean))
