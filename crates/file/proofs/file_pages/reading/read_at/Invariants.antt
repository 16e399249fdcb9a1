use Rattle.std.proofs.Common.{◌-◌, ◌≡◌, ◌≤◌, ℕ, length, slice_index}
use Rattle.volume.specs.Pieces.{pieces}
use Rattle.volume.specs.Nodes.{file_of}
use Rattle.block_store.specs.World.{Reads}
use Rattle.file.specs.Reading.{HasFileBytes}
use Rattle.file.proofs.file_pages.reading.read_at.Given as goal

abbrev pub invariant-loop-done : goal.invariant-loop-done
invariant-loop-done g l = record {
  reads : Reads g.B.Blocks.world l.fn.blocks l.blocks (λ d. HasFileBytes (file_of l.geometry (pieces l.geometry d) l.inode) l.at l.done l.into);
  rest : (k : ℕ) → l.count ≤ k → slice_index l.into k ≡ slice_index l.fn.into k;
  many : length l.into ≡ length l.fn.into;
  done : l.done ≤ l.count;
}

abbrev pub decreases-loop-done : goal.decreases-loop-done
decreases-loop-done g l = l.count - l.done
