use Rattle.std.proofs.Common.{◌≡◌, ◌≤◌, ◌<◌, ◌+◌, ◌*◌, ◌-◌, ℕ, Bool, true, false, refl, sym, ap, ◌∙◌, cond, slice_index, slice_index_or, arith}
use Rattle.std.specs.Prelude.{◌==◌, min}
use Rattle.std.proofs.lemmas.Bool.{cond-true, cond-false}
use Rattle.lemmas.specs.Sums.{sum_below, count_below, one_if}
use Rattle.tree.specs.Space.{numbers_in_zone}
use Rattle.volume.specs.Nodes.{slot, word, number, is_marked}
use Rattle.image.specs.Contents.{contents}
use Rattle.image.specs.Entered.{is_in}
use Rattle.image.specs.Counts.{AreSmall, AreCountedTo, named_by_inode, named_by_zone, named_by_entered}
use Rattle.image.proofs.Contents.{number_word}
use Rattle.image.proofs.Steps.{sum_more, no_sum, counted_none, counted_more, counted_same}
use Rattle.image.proofs.uses.count_inodes.Goals as goal

pub loop-n-init : goal.loop-n-init
loop-n-init c = record { small = c.requires; counted = counted_none _ c.args.uses.now c.requires (λ z. no_sum _) }

pub loop-n-preserved : goal.loop-n-preserved
loop-n-preserved c =
    let i = c.args.image.now in
    let n = c.loop-n.n in
    record {
      small = c.count_inode.ensures.small;
      counted = counted_more (λ z. sum_below (named_by_inode i z) n) (λ z. named_by_inode i z n) (λ z. sum_below (named_by_inode i z) (n + 1))
          c.args.uses.now c.loop-n.uses c.count_inode.new.uses (λ z. sum_more (named_by_inode i z) n)
          c.loop-n.invariant.counted c.count_inode.ensures.counted;
    }

pub returns-clause-counted : goal.returns-clause-counted
returns-clause-counted c =
    let i = c.args.image.now in
    let e : c.geometry-n-end.result.inodes ≡ i.geometry.inodes = ap (λ g. g.inodes) c.geometry-n-end.ensures in
    let all : i.geometry.inodes + 1 ≡ c.loop-n.n = omega arith in
    counted_same (λ z. sum_below (named_by_inode i z) c.loop-n.n) (λ z. sum_below (named_by_inode i z) (i.geometry.inodes + 1)) c.args.uses.now c.loop-n.uses
    (λ z. ap (sum_below (named_by_inode i z)) all) c.loop-n.invariant.counted
