use Rattle.std.proofs.Common.{◌≡◌, ◌≤◌, ◌<◌, ◌+◌, ◌*◌, ◌-◌, ℕ, Bool, true, false, refl, sym, ap, ◌∙◌, cond, slice_index, slice_index_or, arith}
use Rattle.std.specs.Prelude.{◌==◌, min}
use Rattle.std.proofs.lemmas.Bool.{cond-true, cond-false}
use Rattle.lemmas.specs.Sums.{sum_below, count_below, one_if}
use Rattle.tree.specs.Space.{numbers_in_zone}
use Rattle.volume.specs.Nodes.{slot, word, number, is_marked}
use Rattle.image.specs.Contents.{contents}
use Rattle.image.specs.Entered.{is_in}
use Rattle.image.specs.Counts.{AreSmall, AreCountedTo, named_by_inode, named_by_zone, named_by_entered}
use Rattle.image.proofs.Contents.{number_word}
use Rattle.image.proofs.Steps.{sum_more, no_sum, counted_none, counted_more, counted_same}
use Rattle.image.proofs.uses.count_inode.Goals as goal

pub loop-s-init : goal.loop-s-init
loop-s-init c = record { small = c.requires; counted = counted_none _ c.args.uses.now c.requires (λ z. no_sum _) }

pub loop-s-preserved : goal.loop-s-preserved
loop-s-preserved c =
    let i = c.args.image.now in
    let n = c.args.n in
    let s = c.loop-s.s in
    record {
      small = c.count_zone.ensures.small;
      counted = counted_more (λ z. count_below (λ s. slot ((contents i).inodes n) s == z) s) (λ z. one_if (slot c.inode-inode.result s == z))
          (λ z. count_below (λ s. slot ((contents i).inodes n) s == z) (s + 1)) c.args.uses.now c.loop-s.uses c.count_zone.new.uses
          (λ z. sum_more (λ s. one_if (slot ((contents i).inodes n) s == z)) s
          ∙ ap (λ x. count_below (λ s. slot ((contents i).inodes n) s == z) s + one_if (slot x s == z)) (sym c.inode-inode.ensures))
          c.loop-s.invariant.counted c.count_zone.ensures.counted;
    }

pub returns-clause-counted : goal.returns-clause-counted
returns-clause-counted c =
    let i = c.args.image.now in
    let n = c.args.n in
    let all : 10 ≡ c.loop-s.s = omega arith in
    counted_same (λ z. count_below (λ s. slot ((contents i).inodes n) s == z) c.loop-s.s) (λ z. named_by_inode i z n) c.args.uses.now c.loop-s.uses
    (λ z. cond-true (is_marked i.geometry (contents i) n) _ 0 (sym c.is_marked.ensures ∙ c.if-not-is_marked.false)
    ∙ ap (count_below (λ s. slot ((contents i).inodes n) s == z)) all)
    c.loop-s.invariant.counted
