use Rattle.std.proofs.Common.{◌≡◌, ◌+◌, ◌*◌, ◌-◌, ℕ, sym, ap, ◌∙◌, arith}
use Rattle.lemmas.specs.Sums.{sum_below}
use Rattle.volume.specs.Nodes.{number}
use Rattle.image.specs.Contents.{contents}
use Rattle.fsck.proofs.Counts.{sum_more, no_sum}
use Rattle.migrate.specs.Used.{zones_below, most_below}
use Rattle.migrate.proofs.UsedBelow.{none_below, one_block, most_block, most_low, more_below, fits_below}
use Rattle.migrate.proofs.used.+zones_below.Goals as goal

pub returns-then-zone-eq0-clause-value : goal.returns-then-zone-eq0-clause-value
returns-then-zone-eq0-clause-value t c = sym (none_below (contents c.args.old.now.image) c.args.level c.args.zone c.if-zone-eq0.true)

pub loop-j-init : goal.loop-j-init
loop-j-init t c =
    let none = no_sum (λ j. zones_below (contents c.args.old.now.image) (c.args.level - 1)
    (number (contents c.args.old.now.image) c.args.zone j)) in
    record { counted = ap (λ s. 1 + s) (sym none); few = omega arith }

pub overflow_add-used : goal.overflow_add-used
overflow_add-used t c =
    let few = c.loop-j.invariant.few in
    let here = c.zones_below-used.ensures.few in
    let low = most_low (c.args.level - 1) (let l = c.requires.low in omega arith) in
    let most = fits_below c.loop-j.j (most_below (c.args.level - 1)) (omega arith) low in
    omega arith

pub loop-j-preserved : goal.loop-j-preserved
loop-j-preserved t c =
    let v = contents c.args.old.now.image in
    let l : ℕ = c.args.level - 1 in
    let f : ℕ → ℕ = λ j. zones_below v l (number v c.args.zone j) in
    let more = sum_more f c.loop-j.j in
    let before = c.loop-j.invariant.counted in
    let here : c.zones_below-used.result ≡ f c.loop-j.j = c.zones_below-used.ensures.value ∙ ap (zones_below v l) c.number.ensures in
    record {
      counted = omega arith;
      few = more_below c.loop-j.used c.zones_below-used.result c.loop-j.j (most_below l) c.loop-j.invariant.few
          c.zones_below-used.ensures.few;
    }

pub returns-clause-value : goal.returns-clause-value
returns-clause-value t c =
    let v = contents c.args.old.now.image in
    let all : c.loop-j.j ≡ 256 = omega arith in
    c.loop-j.invariant.counted ∙ ap (λ n. 1 + sum_below (λ j. zones_below v (c.args.level - 1) (number v c.args.zone j)) n) all
    ∙ sym (one_block v c.args.level c.args.zone c.if-level-eq0.false c.if-zone-eq0.false)

pub returns-clause-few : goal.returns-clause-few
returns-clause-few t c =
    let all : c.loop-j.j ≡ 256 = omega arith in
    let few = c.loop-j.invariant.few in
    let turn : c.loop-j.j * most_below (c.args.level - 1) ≡ 256 * most_below (c.args.level - 1)
    = ap (λ n. n * most_below (c.args.level - 1)) all in
    let most = most_block c.args.level c.if-level-eq0.false in
    omega arith
