use Rattle.std.proofs.Common.{◌≡◌, ◌-◌, ◌*◌, ◌∙◌, ap, sym, arith}
use Rattle.std.specs.Prelude.{drop, length, take}
use Rattle.byteorder.specs.Endian.{little_from}
use Rattle.byteorder.specs.Numbers.{little_from-take}
use Rattle.bitmap.specs.Words.{bit_of}
use Rattle.bitmap.proofs.Words.{word_bits}
use Rattle.bitmap.proofs.row.word_at.Goals as goal

pub returns-clause-bits : goal.returns-clause-bits
returns-clause-bits c = λ j low.
    let bytes = c.args.bytes.now in
    let first = 8 * c.args.place in
    let whole : little_from 0 8 (take (length bytes - first) (drop first bytes)) ≡ little_from 0 8 (drop first bytes) =
    little_from-take 0 8 (length bytes - first) (drop first bytes) (omega arith) in
    word_bits bytes c.args.place j (λ k. omega (arith, c.type_inv.bytes k)) low ∙ ap (λ z. bit_of z j) (sym (c.read_u64.ensures ∙ whole))
