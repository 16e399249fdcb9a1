use Rattle.std.proofs.Common.{◌≡◌, ◌+◌, ◌*◌, ◌/◌, ap, refl, sym, ◌∙◌, arith}
use Rattle.std.specs.Prelude.{slice_index, min, max}
use Rattle.volume.specs.Reading.{bit_in}
use Rattle.bitmap.specs.Numbers.{count_free_in}
use Rattle.bitmap.specs.Words.{bit_of}
use Rattle.bitmap.proofs.Blocks.{count_moved}
use Rattle.bitmap.proofs.Counting.{counted_none, more_counted}
use Rattle.bitmap.proofs.row.count_clear.Goals as goal

pub loop-place-init : goal.loop-place-init
loop-place-init c =
    let set = bit_in (slice_index c.args.bytes.now) in
    let begins : c.args.from ≡ max c.args.from (min c.args.end (64 * (c.args.from / 64))) = omega arith in
    record {
      value = sym (counted_none set c.args.from) ∙ ap (count_free_in set c.args.from) begins;
      most = omega arith;
      cost = omega arith;
    }

pub loop-place-preserved : goal.loop-place-preserved
loop-place-preserved c =
    let set = bit_in (slice_index c.args.bytes.now) in
    let first = 64 * c.loop-place.place in
    let low = c.saturating_sub.result in
    let high = c.min.result in
    let begins : max c.args.from (min c.args.end first) ≡ first + low = omega arith in
    let ends : first + high ≡ max c.args.from (min c.args.end (64 * (c.loop-place.place + 1))) = omega arith in
    let before = c.loop-place.invariant in
    let here = count_moved set (bit_of c.word_at-word.result) first low high (λ b l h. c.word_at-word.ensures.bits b (omega (arith, h)))
    (first + low) (first + high) (omega arith) refl refl in
    let value = before.value ∙ ap (count_free_in set c.args.from) begins in
    let most = before.most in
    let cost = before.cost in
    let one = c.word_at-word.ensures.cost in
    record {
      value = more_counted set c.args.from (first + low) (first + high) _ _ (omega arith) (omega arith) value
          (c.count_in_word-clear.ensures.value ∙ here) ∙ ap (count_free_in set c.args.from) ends;
      most = omega (arith, most, c.count_in_word-clear.ensures.most);
      cost = omega (arith, cost, one);
    }
