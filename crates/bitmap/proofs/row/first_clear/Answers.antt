use Rattle.std.proofs.Common.{◌≡◌, ◌+◌, ◌*◌, refl, subst, arith}
use Rattle.std.specs.Prelude.{slice_index, min, max}
use Rattle.volume.specs.Reading.{bit_in}
use Rattle.bitmap.specs.Numbers.{AllIn, IsLowestFree}
use Rattle.bitmap.specs.Words.{bit_of}
use Rattle.bitmap.proofs.Blocks.{lowest_moved, none_moved}
use Rattle.bitmap.proofs.Counting.{all_on, lowest_on}
use Rattle.bitmap.proofs.row.first_clear.Goals as goal

pub returns-in-Some-clause-lowest : goal.returns-in-Some-clause-lowest
returns-in-Some-clause-lowest c =
    let set = bit_in (slice_index c.args.bytes.now) in
    let first = 64 * c.loop-place.place in
    let low = c.saturating_sub-low.result in
    let high = c.min-high.result in
    let begins : max c.args.from (min c.args.end first) ≡ first + low = omega arith in
    lowest_on set (first + c.in-Some.bit) c.args.from (first + low) (first + high) c.args.end (omega arith) (omega arith)
    (subst (λ k. AllIn set c.args.from k) begins c.loop-place.invariant.all)
    (lowest_moved set (bit_of c.word_at-word.result) first low high (λ b l h. c.word_at-word.ensures.bits b (omega (arith, h)))
    c.in-Some.bit _ _ refl refl c.in-Some.ensures)

pub loop-place-preserved : goal.loop-place-preserved
loop-place-preserved c =
    let set = bit_in (slice_index c.args.bytes.now) in
    let first = 64 * c.loop-place.place in
    let word = bit_of c.word_at-word.result in
    let low = c.saturating_sub-low.result in
    let high = c.min-high.result in
    let begins : max c.args.from (min c.args.end first) ≡ first + low = omega arith in
    let ends : first + high ≡ max c.args.from (min c.args.end (64 * (c.loop-place.place + 1))) = omega arith in
    let none = subst (λ x. IsLowestFree x word low high) c.in_default.is c.clear_in_word.ensures in
    let cost = c.loop-place.invariant.cost in
    let one = c.word_at-word.ensures.cost in
    record {
      all = subst (λ k. AllIn set c.args.from k) ends (all_on set c.args.from (first + low) (first + high)
          (subst (λ k. AllIn set c.args.from k) begins c.loop-place.invariant.all)
          (none_moved set word first low high (λ b l h. c.word_at-word.ensures.bits b (omega (arith, h))) _ _ refl refl none));
      cost = omega (arith, cost, one);
    }
