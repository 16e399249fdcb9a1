use Rattle.std.proofs.Common.{◌≡◌, ◌∙◌, arith}
use Rattle.reply_text.specs.Text.{hex_text}
use Rattle.reply_text.proofs.HexDigits.{encode_lower-is, encode_lower-utf8, ok_of_text}
use Rattle.reply_text.proofs.text.write_piece.Goals as goal

pub unwrap-requires-2 : goal.unwrap-requires-2
unwrap-requires-2 g c =
    let digits = rw c.unwrap.ensures at c.encode_to_slice.ensures.written in
    ok_of_text _ _ c.from_utf8.result c.from_utf8.ensures.cases (rw digits (encode_lower-utf8 c.args.piece.now))

pub returns : goal.returns
returns g c =
    let digits = rw c.unwrap.ensures at c.encode_to_slice.ensures.written in
    let text = rw c.unwrap-2.ensures at c.from_utf8.ensures.cases in
    let is : c.unwrap-2.result.now ≡ hex_text c.args.piece.now =
    text.0 ∙ digits ∙ encode_lower-is c.args.piece.now (λ i. omega (arith, c.type_inv.piece i)) in
    λ plain ok. rw is at (c.write_str.ensures.writes plain ok)
