use Rattle.std.proofs.Common.{◌≡◌, ◌≤◌, ◌<◌, ◌+◌, ◌*◌, ◌-◌, ℕ, Bool, true, false, refl, sym, ap, ◌∙◌, cond, slice_index, slice_index_or, arith}
use Rattle.std.specs.Prelude.{◌==◌, min}
use Rattle.std.proofs.lemmas.Bool.{cond-true, cond-false}
use Rattle.lemmas.specs.Sums.{sum_below, count_below, one_if}
use Rattle.tree.specs.Space.{numbers_in_zone}
use Rattle.volume.specs.Nodes.{slot, word, number, is_marked}
use Rattle.image.specs.Contents.{contents}
use Rattle.image.specs.Entered.{is_in}
use Rattle.image.specs.Counts.{AreSmall, AreCountedTo, named_by_inode, named_by_zone, named_by_entered}
use Rattle.image.proofs.Contents.{number_word}
use Rattle.image.proofs.Steps.{sum_more, no_sum, counted_none, counted_more, counted_same}
use Rattle.image.proofs.uses.count_level.Goals as goal

pub loop-above-init : goal.loop-above-init
loop-above-init c = record { small = c.requires.small; counted = counted_none _ c.args.uses.now c.requires.small (λ z. no_sum _) }

pub loop-above-preserved : goal.loop-above-preserved
loop-above-preserved c =
    let i = c.args.image.now in
    let y = c.loop-above.above in
    let f : ℕ → ℕ → ℕ = named_by_entered i c.args.entered.now c.args.level in
    record {
      small = c.count_numbers.ensures.small;
      counted = counted_more (λ z. sum_below (f z) y) (λ z. f z y) (λ z. sum_below (f z) (y + 1))
          c.args.uses.now c.loop-above.uses c.count_numbers.new.uses (λ z. sum_more (f z) y)
          c.loop-above.invariant.counted
          (counted_same (λ z. cond (slice_index_or c.args.entered.now (c.args.level * c.geometry-zones.result.zones + y) false) (named_by_zone i z y) 0) (λ z. f z y) c.loop-above.uses c.count_numbers.new.uses
          (λ z. ap (λ g. cond (slice_index_or c.args.entered.now (c.args.level * g.zones + y) false) (named_by_zone i z y) 0) (sym c.geometry-zones.ensures))
          c.count_numbers.ensures.counted);
    }

pub returns-clause-counted : goal.returns-clause-counted
returns-clause-counted c =
    let i = c.args.image.now in
    let f : ℕ → ℕ → ℕ = named_by_entered i c.args.entered.now c.args.level in
    let e : c.geometry-zones.result.zones ≡ i.geometry.zones = ap (λ g. g.zones) c.geometry-zones.ensures in
    let all : i.geometry.zones ≡ c.loop-above.above = omega arith in
    counted_same (λ z. sum_below (f z) c.loop-above.above) (λ z. sum_below (f z) i.geometry.zones) c.args.uses.now c.loop-above.uses
    (λ z. ap (sum_below (f z)) all) c.loop-above.invariant.counted
