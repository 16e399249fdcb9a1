use Rattle.std.specs.Prelude.{◌≡◌, ◌++◌, ◌+◌, ◌*◌, ◌≤◌, length, vec_len, vec_capacity}
use Rattle.call_text.specs.Bytes.{hex_bytes}
use Rattle.call_text.proofs.bytes.push_hex.Given as goal

-- the bytes of the digits so far were added, and there is room for those of the others
abbrev pub invariant-loop-rest : goal.invariant-loop-rest
invariant-loop-rest l = record {
  added : l.to.items ++ hex_bytes l.rest ≡ l.fn.to.items ++ hex_bytes l.digits;
  room : 2 * vec_len l.to + length l.rest ≤ 2 * vec_capacity l.to + 1;
}

abbrev pub decreases-loop-rest : goal.decreases-loop-rest
decreases-loop-rest l = length l.rest
