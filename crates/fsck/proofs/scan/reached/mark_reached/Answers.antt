use Rattle.std.proofs.Common.{◌≡◌, ℕ, List, length, subst, ap, arith}
use Rattle.std.specs.Prelude.{◌==◌}
use Rattle.lemmas.specs.Sums.{one_if}
use Rattle.fsck.specs.Form.{form_of}
use Rattle.fsck.specs.Reached.{GoesOn}
use Rattle.fsck.proofs.Walks.{walk_begins, walk_goes, walk_over, few_unseen}
use Rattle.fsck.proofs.scan.reached.mark_reached.Goals as goal

pub mark-requires : goal.mark-requires
mark-requires c =
    let few = few_unseen c.args.seen.now in
    let none : length c.in_ok-waiting.waiting.items ≡ 0 = ap length c.in_ok-waiting.ensures.items in
    omega (arith, c.in_ok-waiting.ensures.capacity)

pub loop-n-init : goal.loop-n-init
loop-n-init c =
    let P : List ℕ → Type 0 = λ w. GoesOn (λ k. one_if (1 == k)) c.args.seen.now w c.mark.new.seen c.mark.new.waiting.items in
    let few = few_unseen c.args.seen.now in
    let none : length c.in_ok-waiting.waiting.items ≡ 0 = ap length c.in_ok-waiting.ensures.items in
    record {
      walk = walk_begins (form_of c.args.version) c.args.image.now c.args.seen.now c.mark.new.seen c.mark.new.waiting.items c.requires.size c.requires.fresh
          (subst P c.in_ok-waiting.ensures.items c.mark.ensures.goes);
      room = omega (arith, few, none, c.mark.ensures.goes.less, c.mark.ensures.capacity, c.in_ok-waiting.ensures.capacity);
    }

pub mark_names-requires-clause-room : goal.mark_names-requires-clause-room
mark_names-requires-clause-room c = omega arith

pub loop-n-preserved : goal.loop-n-preserved
loop-n-preserved c = record {
  walk = walk_goes (form_of c.args.version) c.args.image.now c.loop-n.seen c.loop-n.waiting.items c.pop.new.self.items c.in-Some.n c.mark_names.new.seen
      c.mark_names.new.waiting.items c.loop-n.invariant.walk c.in-Some.ensures.items c.mark_names.ensures.goes;
  room = omega arith;
}

pub returns-clause-reached : goal.returns-clause-reached
returns-clause-reached c =
    let none : length c.loop-n.waiting.items ≡ 0 = omega (arith, c.in_default.ensures.cases.0, c.loop-n.waiting.ok.0) in
    walk_over (form_of c.args.version) c.args.image.now c.loop-n.seen c.loop-n.waiting.items c.loop-n.invariant.walk none
