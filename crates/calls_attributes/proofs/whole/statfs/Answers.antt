use Rattle.std.proofs.Common.{ap, ◌∙◌, ◌+◌, rules}
use Rattle.volume.specs.Reading.{Disk}
use Rattle.volume.specs.Pieces.{pieces}
use Rattle.bitmap.specs.Numbers.{count_free_in}
use Rattle.block_store.proofs.Turns.{turns_then}
use Rattle.calls_attributes.proofs.Room.{statfs_done}
use Rattle.calls_attributes.proofs.whole.statfs.Goals as goal

pub returns-clause-turns : goal.returns-clause-turns
returns-clause-turns g c =
    let a = c.args.geometry.now in
    turns_then _ g.met.B.Blocks.lawful _ _ _ _ _ _
    (λ d e h x y f. statfs_done a c.requires.on.geometry d h f _ _ _ (y.0 ∙ x.0) (search rules) x.1
    (y.1 ∙ ap (λ (z : Disk). count_free_in (pieces a z).inode_map 1 (a.inodes + 1)) x.0))
    c.in_ok-free_zones.ensures.reads.turns c.in_ok-free_inodes.ensures.reads.turns
