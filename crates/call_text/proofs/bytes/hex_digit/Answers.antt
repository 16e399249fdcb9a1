use Rattle.std.proofs.Common.{arith}
use Rattle.call_text.proofs.Digits.{number_of}
use Rattle.call_text.proofs.bytes.hex_digit.Goals as goal

pub returns-clause-value : goal.returns-clause-value
returns-clause-value c = number_of c.args.digit (omega arith)
