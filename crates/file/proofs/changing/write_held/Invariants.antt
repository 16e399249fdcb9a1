use Rattle.std.proofs.Common.{◌≡◌, ◌<◌, ◌≤◌, ◌+◌, ◌-◌, ◌/◌, ◌%◌, ℕ, length}
use Rattle.volume.specs.Pieces.{pieces}
use Rattle.block_store.specs.World.{Turns}
use Rattle.file.specs.Changing.{IsHeldRow}
use Rattle.file.proofs.HeldRow.{RowSoFar}
use Rattle.file.proofs.changing.write_held.Given as goal

abbrev pub invariant-loop-done : goal.invariant-loop-done
invariant-loop-done g l = record {
  turns : Turns g.B.Blocks.world l.fn.blocks l.blocks (λ d e. (n : ℕ) → IsHeldRow l.geometry (pieces l.geometry d) n (l.at / l.geometry.block_size) l.zones
      → RowSoFar l.geometry n l.at l.bytes (l.at / l.geometry.block_size) l.zones l.done d e);
  done : l.done ≤ length l.bytes;
  from : l.done < length l.bytes → l.from ≡ (l.at + l.done) % l.geometry.block_size;
  index : l.done < length l.bytes → l.at / l.geometry.block_size + l.index ≡ (l.at + l.done) / l.geometry.block_size;
}

abbrev pub decreases-loop-done : goal.decreases-loop-done
decreases-loop-done g l = length l.bytes - l.done
