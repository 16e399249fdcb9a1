use Rattle.std.proofs.Common.{arith}
use Rattle.call_text.proofs.Digits.{is_digit}
use Rattle.call_text.proofs.bytes.is_hex_digit.Goals as goal

pub returns : goal.returns
returns c = is_digit c.args.byte (omega arith)
