use Rattle.std.proofs.Common.{◌≡◌, ℕ, sym, ap, ◌∙◌, arith}
use Rattle.lemmas.specs.Sums.{sum_below}
use Rattle.volume.specs.Nodes.{slot}
use Rattle.image.specs.Contents.{contents}
use Rattle.image.specs.Entered.{level_of}
use Rattle.fsck.proofs.Counts.{sum_more, no_sum}
use Rattle.migrate.specs.Used.{zones_below}
use Rattle.migrate.proofs.UsedBelow.{level_low, most_low}
use Rattle.migrate.proofs.used.zones_of_file.Goals as goal

pub loop-slot-init : goal.loop-slot-init
loop-slot-init c = record {
  counted = sym (no_sum (λ s. zones_below (contents c.args.old.now.image) (level_of s)
      (slot c.args.inode.now s)));
  few = omega arith;
}

pub overflow_add-used : goal.overflow_add-used
overflow_add-used c =
    let few = c.loop-slot.invariant.few in
    let here = c.zones_below-used.ensures.few in
    let low = most_low c.level_of.result (let l = level_low c.loop-slot.slot (omega arith) in let e = c.level_of.ensures in omega arith) in
    omega arith

pub loop-slot-preserved : goal.loop-slot-preserved
loop-slot-preserved c =
    let v = contents c.args.old.now.image in
    let f : ℕ → ℕ = λ s. zones_below v (level_of s) (slot c.args.inode.now s) in
    let more = sum_more f c.loop-slot.slot in
    let before = c.loop-slot.invariant.counted in
    let few = c.loop-slot.invariant.few in
    let most = c.zones_below-used.ensures.few in
    let low = most_low c.level_of.result (let l = level_low c.loop-slot.slot (omega arith) in let e = c.level_of.ensures in omega arith) in
    let here : c.zones_below-used.result ≡ f c.loop-slot.slot
    = c.zones_below-used.ensures.value ∙ ap (λ l. zones_below v l (slot c.args.inode.now c.loop-slot.slot)) c.level_of.ensures in
    record { counted = omega arith; few = omega arith }

pub returns-clause-value : goal.returns-clause-value
returns-clause-value c =
    let v = contents c.args.old.now.image in
    let all : c.loop-slot.slot ≡ 10 = omega arith in
    c.loop-slot.invariant.counted ∙ ap (sum_below (λ s. zones_below v (level_of s) (slot c.args.inode.now s))) all
