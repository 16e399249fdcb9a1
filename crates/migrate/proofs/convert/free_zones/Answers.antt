use Rattle.std.proofs.Common.{◌≡◌, ◌+◌, ◌-◌, ℕ, Bool, sym, ap, ◌∙◌, arith}
use Rattle.std.specs.Prelude.{not}
use Rattle.lemmas.specs.Sums.{count_below, one_if}
use Rattle.image.specs.Contents.{contents}
use Rattle.fsck.proofs.Counts.{sum_more, no_sum}
use Rattle.migrate.proofs.convert.free_zones.Goals as goal

pub loop-k-init : goal.loop-k-init
loop-k-init c = record { counted = sym (no_sum (λ k. one_if (not ((contents c.args.volume.now).zone_map (k + 1))))); few = omega arith }

pub loop-k-preserved-then-has_zone_bit : goal.loop-k-preserved-then-has_zone_bit
loop-k-preserved-then-has_zone_bit c =
    let p : ℕ → Bool = λ k. not ((contents c.args.volume.now).zone_map (k + 1)) in
    let k = c.loop-k.k in
    let here : one_if (p k) ≡ 0 = ap (λ b. one_if (not b)) (sym c.has_zone_bit.ensures ∙ c.if-has_zone_bit.true) in
    let more = sum_more (λ k. one_if (p k)) k in
    let before = c.loop-k.invariant.counted in
    let few = c.loop-k.invariant.few in
    record { counted = omega arith; few = omega arith }

pub loop-k-preserved : goal.loop-k-preserved
loop-k-preserved c =
    let p : ℕ → Bool = λ k. not ((contents c.args.volume.now).zone_map (k + 1)) in
    let k = c.loop-k.k in
    let here : one_if (p k) ≡ 1 = ap (λ b. one_if (not b)) (sym c.has_zone_bit.ensures ∙ c.if-has_zone_bit.false) in
    let more = sum_more (λ k. one_if (p k)) k in
    let before = c.loop-k.invariant.counted in
    let few = c.loop-k.invariant.few in
    record { counted = omega arith; few = omega arith }

pub returns : goal.returns
unfolding contents
returns c =
    let zones = ap (λ g. g.zones) c.geometry.ensures in
    let first = ap (λ g. g.first_zone) c.geometry-2.ensures in
    let all : c.loop-k.k ≡ c.args.volume.now.geometry.zones - c.args.volume.now.geometry.first_zone = omega arith in
    c.loop-k.invariant.counted ∙ ap (count_below (λ k. not ((contents c.args.volume.now).zone_map (k + 1)))) all
