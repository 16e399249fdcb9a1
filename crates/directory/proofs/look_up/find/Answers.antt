use Rattle.std.proofs.Common.{◌/◌, refl, arith}
use Rattle.block_store.proofs.Turns.{reads_as, reads_none, reads_then, if_cut}
use Rattle.directory.proofs.Pages.{entries_there}
use Rattle.directory.proofs.Turning.{from_low, ends_here, goes_back, none_left}
use Rattle.directory.proofs.look_up.find.Goals as goal

pub loop-left-init : goal.loop-left-init
loop-left-init g c = record {
  reads = reads_none _ g.met.B.Blocks.lawful _ _ c.requires.on.ready
      (λ d. refl);
  size = omega arith;
}

pub returns-in_err-found-clause-reads : goal.returns-in_err-found-clause-reads
returns-in_err-found-clause-reads g c =
    reads_then _ g.met.B.Blocks.lawful _ _ _ _ _ _ (λ d p q. if_cut c.from_residual.result _ c.from_residual.ensures.0)
    c.loop-left.invariant.reads c.find_in_page.ensures.reads

pub returns-in-Some-clause-reads : goal.returns-in-Some-clause-reads
returns-in-Some-clause-reads g c =
    ends_here _ g.met.B.Blocks.lawful _ _ _ c.args.geometry.now c.args.inode.now c.args.name.now c.max-from.result c.loop-left.left c.in-Some.found _
    (from_low c.loop-left.left (c.args.geometry.now.block_size / 64) c.max-from.result c.loop-left-test.true (entries_there _ c.requires.on.geometry.block_size) c.max-from.ensures)
    c.in-Some.is c.loop-left.invariant.reads c.in_ok-found.ensures.reads

pub loop-left-preserved : goal.loop-left-preserved
loop-left-preserved g c =
    let low = from_low c.loop-left.left (c.args.geometry.now.block_size / 64) c.max-from.result c.loop-left-test.true (entries_there _ c.requires.on.geometry.block_size) c.max-from.ensures in
    record {
      reads = goes_back _ g.met.B.Blocks.lawful _ _ _ c.args.geometry.now c.args.inode.now c.args.name.now c.max-from.result c.loop-left.left c.in_ok-found.field-0
          low c.in_default.is c.loop-left.invariant.reads c.in_ok-found.ensures.reads;
      size = omega (arith, low.1, c.loop-left.invariant.size);
    }

pub returns-clause-reads : goal.returns-clause-reads
returns-clause-reads g c =
    reads_as _ _ _ _ _ (λ d p. none_left c.args.geometry.now d c.args.inode.now c.args.name.now c.loop-left.left c.loop-left-test.false p)
    c.loop-left.invariant.reads
