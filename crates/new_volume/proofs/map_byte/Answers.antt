use Rattle.std.proofs.Common.{◌≡◌, ◌+◌, ◌*◌, ◌^◌, sym, ap, ◌∙◌, add-zero, arith}
use Rattle.std.specs.Prelude.{if◌then◌else◌}
use Rattle.std.proofs.lemmas.Bool.{cond-true, cond-false}
use Rattle.lemmas.specs.Sums.{sum_below}
use Rattle.new_volume.specs.Image.{is_set}
use Rattle.new_volume.proofs.Bits.{sum_none, sum_next, power_fits}
use Rattle.new_volume.proofs.map_byte.Goals as goal
use Rattle.new_volume.proofs.map_byte.Goals.{then-is_set, else-is_set}

pub loop-bit-init : goal.loop-bit-init
loop-bit-init c = sum_none _

pub loop-bit-preserved : goal.loop-bit-preserved
loop-bit-preserved c =
    let bit = c.loop-bit.bit in
    let byte = c.loop-bit.byte in
    let set = is_set c.args.last (8 * c.args.place + bit) in
    let more : c.if-is_set.byte ≡ byte + (if set then 2 ^ bit else 0) = elim c.if-is_set.branch [
      | then-is_set w ↦ w.byte-is ∙ ap (λ n. byte + n) (power_fits bit c.loop-bit-test.true ∙ sym (cond-true set (2 ^ bit) 0 (sym c.is_set.ensures ∙ w.if-is_set.true)))
      | else-is_set w ↦ w.byte-is ∙ sym (ap (λ n. byte + n) (cond-false set (2 ^ bit) 0 (sym c.is_set.ensures ∙ w.if-is_set.false)) ∙ add-zero byte)
    ] in
    sum_next (λ j. is_set c.args.last (8 * c.args.place + j)) bit byte c.if-is_set.byte c.loop-bit.invariant more

pub returns : goal.returns
returns c = c.loop-bit.invariant.sum ∙ ap (sum_below (λ j. if is_set c.args.last (8 * c.args.place + j) then 2 ^ j else 0)) (omega arith)
