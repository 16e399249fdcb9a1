use Rattle.std.proofs.Common.{◌≡◌, List, ℕ, ◌++◌}
use Rattle.std.specs.Fmt.{HasWritten, IsPlainFormatter}
use Rattle.std.specs.Slice.Iter.{chunks_rest, chunks_size}
use Rattle.reply_text.specs.Text.{hex_text}
use Rattle.reply_text.specs.declared.text.TheConstants.{PIECE}
use Rattle.reply_text.proofs.text.HexDisplay.fmt.Given as goal

-- the bytes before those that are left are written
abbrev pub invariant-loop-piece : goal.invariant-loop-piece
invariant-loop-piece g l =
    (chunks_size l.piece-iterator ≡ PIECE)
    × (written : List ℕ) × (written ++ chunks_rest l.piece-iterator ≡ l.self.0.now)
    × (IsPlainFormatter l.initial.f → HasWritten g.W.Write.write_str_gives l.initial.f (hex_text written) l.f)
