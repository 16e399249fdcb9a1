use Rattle.std.proofs.Common.{◌<◌, ◌≤◌, ◌/◌, arith, rules}
use Rattle.volume.specs.Pieces.{pieces}
use Rattle.volume.specs.Nodes.{file_byte, entry_count_of}
use Rattle.block_store.proofs.Turns.{reads_none, reads_then}
use Rattle.block_store.proofs.Ending.{ends_exit}
use Rattle.calls_files.proofs.Gathering.{none_yet, one_more, said_ok}
use Rattle.calls_files.proofs.listing.gather.names_of.Goals as goal

pub loop-k-init : goal.loop-k-init
loop-k-init g c =
    let a = c.args in
    record {
      reads = reads_none _ g.met.B.Blocks.lawful _ _ c.requires.on.ready (λ d. none_yet (file_byte a.geometry.now (pieces a.geometry.now d) a.inode.now) c.new-names.result c.new-names.ensures);
      within = omega arith;
    }

pub returns-in_err-error-clause-reads : goal.returns-in_err-error-clause-reads
returns-in_err-error-clause-reads g c =
    let two : 2 ≤ c.loop-k.k = search rules in
    let low : c.loop-k.k < entry_count_of c.args.inode.now = search rules in
    reads_then _ g.met.B.Blocks.lawful _ _ _ _ _ _ (λ d p q. ends_exit _ _ _ _ _ _ c.from_residual.ensures.1 (λ s. s c.loop-k.k two low) q)
    c.loop-k.invariant.reads c.in_err-error.ensures.reads

pub returns-in-Err-clause-reads : goal.returns-in-Err-clause-reads
returns-in-Err-clause-reads g c =
    reads_then _ g.met.B.Blocks.lawful _ _ _ _ _ _ (λ d p q. tt) c.loop-k.invariant.reads c.in_ok-error.ensures.reads

pub loop-k-preserved : goal.loop-k-preserved
loop-k-preserved g c =
    let a = c.args in
    let two : 2 ≤ c.loop-k.k = search rules in
    let low : c.loop-k.k < a.inode.now.size / 64 = search rules in
    record {
      reads = reads_then _ g.met.B.Blocks.lawful _ _ _ _ _ _
          (λ d p q. one_more (file_byte a.geometry.now (pieces a.geometry.now d) a.inode.now) c.loop-k.k c.loop-k.names c.put_entry.new.names two p (said_ok _ _ _ c.in_default.is q))
          c.loop-k.invariant.reads c.in_ok-error.ensures.reads;
      within = omega (arith, low, two);
    }
