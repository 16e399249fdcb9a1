use Rattle.std.proofs.Common.{◌≡◌, ◌+◌, ◌≤◌, ap, sym, ◌∙◌, arith}
use Rattle.volume.specs.Nodes.{nodes_of}
use Rattle.image.specs.Contents.{contents}
use Rattle.block_store.proofs.Turns.{on_after, turns_as, turns_none, turns_then}
use Rattle.block_store.proofs.Ending.{ends_exit}
use Rattle.volume.proofs.Sums.{count_most}
use Rattle.tree.specs.Changes.{has_no_link}
use Rattle.lemmas.specs.Sums.{one_if}
use Rattle.release.specs.Nameless.{unlinked_below}
use Rattle.release.specs.Giving.{GivesBackBelow}
use Rattle.release.proofs.Leaving.{counted_more, counted_none, may_next, next_given, none_given, one_most}
use Rattle.release.proofs.giving.give_all_back.Goals as goal

pub loop-number-init : goal.loop-number-init
loop-number-init g c = record {
  turns = turns_as _ _ _ _ _ (λ d e same. none_given c.args.image.now d e same) (turns_none _ g.met.B.Blocks.lawful _ c.requires.on.ready);
  count = sym (counted_none (nodes_of c.args.image.now.geometry (contents c.args.image.now)));
}

pub give_back-requires : goal.give_back-requires
give_back-requires g c = record {
  on = on_after _ g.met.B.Blocks.lawful _ _ _ _ c.requires.on c.loop-number.invariant.turns;
}

pub returns-in_err-count-clause-turns : goal.returns-in_err-count-clause-turns
returns-in_err-count-clause-turns g c =
    turns_then _ g.met.B.Blocks.lawful _ _ _ _ _ _
    (λ d m e below gives. ends_exit _ _ _ _ _ _ c.from_residual.ensures.1 (λ has. may_next c.args.image.now d c.loop-number.number m below has) gives)
    c.loop-number.invariant.turns c.in_err-count.ensures.turns

pub overflow_add-count : goal.overflow_add-count
overflow_add-count g c =
    let i = c.args.image.now in
    let n = nodes_of i.geometry (contents i) in
    let most = count_most (λ k. has_no_link (n k)) c.loop-number.number in
    let one = one_most (has_no_link (n c.loop-number.number)) in
    let few = c.requires.on.geometry.inodes in
    let many : c.loop-number.count ≡ unlinked_below n c.loop-number.number = c.loop-number.invariant.count in
    let more : c.in_ok-count.field-0 ≡ one_if (has_no_link (n c.loop-number.number)) = c.in_ok-count.ensures.count in
    let sizes = c.geometry.ensures in
    let inodes = ap (λ (g : Rattle.layout.specs.declared.Geometry.Geometry). g.inodes) sizes in
    omega (arith, most, one, few, many, more, inodes)

pub loop-number-preserved : goal.loop-number-preserved
loop-number-preserved g c =
    let i = c.args.image.now in
    let n = nodes_of i.geometry (contents i) in
    let k = c.loop-number.number in
    record {
      turns = turns_then _ g.met.B.Blocks.lawful _ _ _ _ _ _
          (λ d m e below gives. next_given i d k m e below gives) c.loop-number.invariant.turns c.in_ok-count.ensures.turns;
      count =
          let before : c.loop-number.count ≡ unlinked_below n k = c.loop-number.invariant.count in
          let more : c.in_ok-count.field-0 ≡ one_if (has_no_link (n k)) = c.in_ok-count.ensures.count in
          omega (arith, before, more, counted_more n k);
    }

pub returns-clause-turns : goal.returns-clause-turns
returns-clause-turns g c =
    let i = c.args.image.now in
    let end : c.loop-number.number ≡ i.geometry.inodes + 1 =
    let inodes = ap (λ (g : Rattle.layout.specs.declared.Geometry.Geometry). g.inodes) c.geometry.ensures in omega (arith, inodes) in
    turns_as _ _ _ _ _ (λ d e below. Rattle.std.proofs.Common.subst (λ k. GivesBackBelow i k d e) end below) c.loop-number.invariant.turns

pub returns-clause-count : goal.returns-clause-count
returns-clause-count g c =
    let i = c.args.image.now in
    let end : c.loop-number.number ≡ i.geometry.inodes + 1 =
    let inodes = ap (λ (g : Rattle.layout.specs.declared.Geometry.Geometry). g.inodes) c.geometry.ensures in omega (arith, inodes) in
    c.loop-number.invariant.count ∙ ap (unlinked_below (nodes_of i.geometry (contents i))) end
