use Rattle.std.proofs.Common.{◌≡◌, ◌≤◌, ◌<◌, ◌+◌, ◌*◌, ◌-◌, ℕ, Bool, true, false, refl, sym, ap, ◌∙◌, cond, slice_index, slice_index_or, arith}
use Rattle.std.specs.Prelude.{◌==◌, min}
use Rattle.std.proofs.lemmas.Bool.{cond-true, cond-false}
use Rattle.lemmas.specs.Sums.{sum_below, count_below, one_if}
use Rattle.tree.specs.Space.{numbers_in_zone}
use Rattle.volume.specs.Nodes.{slot, word, number, is_marked}
use Rattle.image.specs.Contents.{contents}
use Rattle.image.specs.Entered.{is_in}
use Rattle.image.specs.Counts.{AreSmall, AreCountedTo, named_by_inode, named_by_zone, named_by_entered}
use Rattle.image.proofs.Contents.{number_word}
use Rattle.image.proofs.Steps.{sum_more, no_sum, counted_none, counted_more, counted_same}
use Rattle.image.proofs.uses.count_numbers.Goals as goal

pub loop-j-init : goal.loop-j-init
loop-j-init c = record { small = c.requires; counted = counted_none _ c.args.uses.now c.requires (λ z. no_sum _) }

pub loop-j-preserved : goal.loop-j-preserved
loop-j-preserved c =
    let i = c.args.image.now in
    let y = c.args.above in
    let j = c.loop-j.j in
    record {
      small = c.count_zone.ensures.small;
      counted = counted_more (λ z. count_below (λ j. word (contents i) y j == z) j) (λ z. one_if (c.number.result == z))
          (λ z. count_below (λ j. word (contents i) y j == z) (j + 1)) c.args.uses.now c.loop-j.uses c.count_zone.new.uses
          (λ z. sum_more (λ j. one_if (word (contents i) y j == z)) j
          ∙ ap (λ x. count_below (λ j. word (contents i) y j == z) j + one_if (x == z)) (sym (c.number.ensures ∙ number_word i y j)))
          c.loop-j.invariant.counted c.count_zone.ensures.counted;
    }

pub returns-clause-counted : goal.returns-clause-counted
returns-clause-counted c =
    let i = c.args.image.now in
    let y = c.args.above in
    let all : numbers_in_zone i.geometry ≡ c.loop-j.j = let e = c.numbers-j-end.ensures.value in omega arith in
    counted_same (λ z. count_below (λ j. word (contents i) y j == z) c.loop-j.j) (λ z. cond c.args.is_entered (named_by_zone i z y) 0) c.args.uses.now c.loop-j.uses
    (λ z. cond-true c.args.is_entered (named_by_zone i z y) 0 c.if-not-is_entered.false ∙ ap (count_below (λ j. word (contents i) y j == z)) all)
    c.loop-j.invariant.counted
