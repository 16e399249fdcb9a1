use Rattle.std.proofs.Common.{subst}
use Rattle.volume.specs.Nodes.{file_byte, entry_count_of}
use Rattle.volume.specs.Pieces.{pieces}
use Rattle.block_store.proofs.Turns.{reads_then}
use Rattle.block_store.proofs.Ending.{ends_cut_exit}
use Rattle.directory.specs.Standing.{StandsAt}
use Rattle.directory.proofs.Placing.{placed, not_missing}
use Rattle.directory.proofs.changes.place_of.Goals as goal

pub returns-in_err-place-clause-reads : goal.returns-in_err-place-clause-reads
returns-in_err-place-clause-reads g c =
    reads_then _ g.met.B.Blocks.lawful _ _ _ _ _ _ (λ d p q. ends_cut_exit _ _ _ _ c.from_residual-in_err-place.ensures.1)
    c.in_ok-inode.ensures.reads c.in_err-place.ensures.reads

pub returns-in-Some-clause-reads : goal.returns-in-Some-clause-reads
returns-in-Some-clause-reads g c =
    let v = c.args.geometry.now in
    let i = c.in_ok-inode.inode in
    reads_then _ g.met.B.Blocks.lawful _ _ _ _ _ _
    (λ d p q. placed v (pieces v d) c.args.directory c.args.name.now i c.in-Some.place p
    (subst (StandsAt (file_byte v (pieces v d) i) c.args.name.now 2 (entry_count_of i)) c.in-Some.is q))
    c.in_ok-inode.ensures.reads c.in_ok-place.ensures.reads

pub returns-in-None-clause-reads : goal.returns-in-None-clause-reads
returns-in-None-clause-reads g c =
    let v = c.args.geometry.now in
    let i = c.in_ok-inode.inode in
    reads_then _ g.met.B.Blocks.lawful _ _ _ _ _ _
    (λ d p q t. not_missing v (pieces v d) c.args.directory c.args.name.now i p
    (subst (StandsAt (file_byte v (pieces v d) i) c.args.name.now 2 (entry_count_of i)) c.in-None.is q) t)
    c.in_ok-inode.ensures.reads c.in_ok-place.ensures.reads
