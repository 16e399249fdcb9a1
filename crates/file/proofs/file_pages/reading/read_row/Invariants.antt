use Rattle.std.proofs.Common.{◌≡◌, ◌<◌, ◌≤◌, ◌+◌, ◌-◌, ◌/◌, ◌%◌, length}
use Rattle.volume.specs.Pieces.{pieces}
use Rattle.volume.specs.Nodes.{file_of}
use Rattle.block_store.specs.World.{Reads}
use Rattle.zone.specs.PlaceParts.{HasZones}
use Rattle.file.specs.Reading.{HasFileBytes}
use Rattle.file.proofs.file_pages.reading.read_row.Given as goal

abbrev pub invariant-loop-done : goal.invariant-loop-done
invariant-loop-done g l = record {
  reads : Reads g.B.Blocks.world l.fn.blocks l.blocks (λ d. let v = pieces l.geometry d in
      HasZones l.geometry v l.inode (l.at / l.geometry.block_size) l.found l.zones × HasFileBytes (file_of l.geometry v l.inode) l.at l.done l.into);
  many : length l.into ≡ length l.fn.into;
  done : l.done ≤ l.count;
  from : l.done < l.count → l.from ≡ (l.at + l.done) % l.geometry.block_size;
  index : l.done < l.count → l.at / l.geometry.block_size + l.index ≡ (l.at + l.done) / l.geometry.block_size;
}

abbrev pub decreases-loop-done : goal.decreases-loop-done
decreases-loop-done g l = l.count - l.done
