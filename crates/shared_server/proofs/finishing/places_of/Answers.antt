use Rattle.std.proofs.Common.{◌≡◌, ◌+◌, ◌∙◌, ap, sym, subst, arith, ℕ, List}
use Rattle.std.specs.Global.{Vec}
use Rattle.volume_reading.specs.declared.place.Place.{Place}
use Rattle.shared_server.proofs.PieceLaws.{AreUpTo, up_to_none, up_to_next, up_to_end, up_to_all}
use Rattle.shared_server.proofs.finishing.places_of.Goals as goal
use Rattle.shared_server.proofs.finishing.places_of.Goals.{then-next-end+in_ok-push, else-next-end}

pub loop-next-init : goal.loop-next-init
loop-next-init c = up_to_none c.args.units.now c.args.size c.new-places.result.items c.new-places.ensures.items

pub loop-next-preserved : goal.loop-next-preserved
loop-next-preserved c =
    let units = c.args.units.now in
    let size = c.args.size in
    let next = c.loop-next.next in
    let end = c.end_of_run-end.result in
    let within = c.end_of_run-end.ensures.within in
    let less = c.loop-next-test.true in
    let later = c.max-next.ensures in
    let limit = c.min.ensures in
    elim c.if-next-end.branch [
      | then-next-end+in_ok-push w ↦
          let some = w.if-next-end.true in
          let is : end ≡ c.max-next.result = omega (arith, later, some) in
          subst (λ (n : ℕ). AreUpTo units size n c.if-next-end.places.items) is
          (subst (λ (l : List Place). AreUpTo units size end l)
          (sym (ap (λ (v : Vec Place). v.items) w.places-is ∙ w.in_ok-push.ensures.items))
          (up_to_end units size next end c.loop-next.places.items w.place_of.result c.requires.whole some (omega (arith, limit, within.1))
          (omega (arith, limit, within.1)) w.place_of.ensures c.end_of_run-end.ensures.marked c.loop-next.invariant))
      | else-next-end w ↦
          let none = w.if-next-end.false in
          let same : end ≡ next = omega (arith, within.0, none) in
          let is : next + 1 ≡ c.max-next.result = omega (arith, later, same) in
          subst (λ (n : ℕ). AreUpTo units size n c.if-next-end.places.items) is
          (subst (λ (v : Vec Place). AreUpTo units size (next + 1) v.items) (sym w.places-is)
          (up_to_next units size next c.loop-next.places.items less
          (c.end_of_run-end.ensures.none same (omega (arith, limit, less))) c.loop-next.invariant))
    ]

pub returns : goal.returns
returns c = up_to_all c.args.units.now c.args.size c.loop-next.next c.loop-next.places.items c.loop-next-test.false c.loop-next.invariant
