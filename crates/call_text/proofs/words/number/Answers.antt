use Rattle.std.proofs.Common.{◌≡◌, ◌*◌, true, ◌∙◌, sym, arith, rules, take_all, get_or, refl, ap, Some}
use Rattle.std.specs.Char.{is_digit, digit_value}
use Rattle.std.specs.Str.Parse.{digits_value}
use Rattle.std.proofs.lemmas.Bool.Decides.{nat_tests}
use Rattle.std.proofs.lemmas.List.Folds.{list_all_more}
use Rattle.call_text.proofs.Numbers.{number_too_large, number_is, over_product, over_sum, value_more}
use Rattle.call_text.proofs.words.number.Goals as goal

pub returns-in_err-checked_mul : goal.returns-in_err-checked_mul
returns-in_err-checked_mul c =
    c.from_residual-in_err-checked_mul.ensures
    ∙ sym (number_too_large c.args.radix _ c.args.word.now c.loop-byte.byte-index c.loop-byte.value (omega arith) c.loop-byte-test.true c.loop-byte.invariant.value
    (over_product _ c.loop-byte.value c.args.radix c.from-in-loop-byte.result _ (search rules) c.in_err-checked_mul.ensures))

pub returns-in_err-value : goal.returns-in_err-value
returns-in_err-value c =
    let digit : c.in_ok-digit.digit ≡ digit_value (get_or c.args.word.now c.loop-byte.byte-index 0) = search rules in
    let k = c.in_ok-checked_mul.ensures in
    let product : c.in_ok-checked_mul.field-0 ≡ c.loop-byte.value * c.from-in-loop-byte.result = search rules in
    let same : c.from-in-loop-byte-2.result ≡ digit_value (get_or c.args.word.now c.loop-byte.byte-index 0) = cc in
    c.from_residual-in_err-value.ensures
    ∙ sym (number_too_large c.args.radix _ c.args.word.now c.loop-byte.byte-index c.loop-byte.value (omega arith) c.loop-byte-test.true c.loop-byte.invariant.value
    (over_sum _ c.loop-byte.value c.args.radix c.from-in-loop-byte.result c.in_ok-checked_mul.field-0 _ c.from-in-loop-byte-2.result (search rules) product same c.in_err-value.ensures))

pub loop-byte-preserved : goal.loop-byte-preserved
loop-byte-preserved c =
    let word = c.args.word.now in
    let i = c.loop-byte.byte-index in
    let h = c.in_ok-value.ensures in
    let k = c.in_ok-checked_mul.ensures in
    let digit : c.in_ok-digit.digit ≡ digit_value (get_or word i 0) = search rules in
    let passes : is_digit (get_or word i 0) c.args.radix ≡ true = grind (arith, nat_tests) in
    let digits = list_all_more (λ b. is_digit b c.args.radix) word i 0 c.loop-byte-test.true in
    let product : c.in_ok-checked_mul.field-0 ≡ c.loop-byte.value * c.from-in-loop-byte.result = search rules in
    let same : c.from-in-loop-byte-2.result ≡ digit_value (get_or word i 0) = cc in record {
      digits = rw (digits, c.loop-byte.invariant.digits, passes) refl;
      fits = omega arith;
      value = value_more c.args.radix word i c.loop-byte.value c.from-in-loop-byte.result c.in_ok-checked_mul.field-0 c.from-in-loop-byte-2.result _ c.loop-byte-test.true
          c.loop-byte.invariant.value (search rules) product same (search rules);
    }

pub returns : goal.returns
returns c =
    let word = c.args.word.now in
    let whole = take_all c.loop-byte.byte-index word (omega arith) in
    let digits = rw whole at c.loop-byte.invariant.digits in
    let value : c.loop-byte.value ≡ digits_value c.args.radix word = rw whole at c.loop-byte.invariant.value in
    ap Some value ∙ sym (number_is _ _ word (search rules) digits (omega arith))
