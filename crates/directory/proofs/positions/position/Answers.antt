use Rattle.std.proofs.Common.{◌≤◌, ◌/◌, subst, arith}
use Rattle.volume.specs.Nodes.{file_byte}
use Rattle.volume.specs.Pieces.{pieces}
use Rattle.directory.specs.Standing.{StandsAt}
use Rattle.block_store.proofs.Turns.{reads_none, reads_then, reads_as, if_cut}
use Rattle.directory.proofs.Pages.{entries_there, entries_few}
use Rattle.directory.proofs.Standing.{none_at_first, none_on, none_up_to, named_behind}
use Rattle.directory.proofs.positions.position.Goals as goal

pub loop-from-init : goal.loop-from-init
loop-from-init g c = record { reads = reads_none _ g.met.B.Blocks.lawful _ _ c.requires.on.ready (λ d. none_at_first _ _ 2); low = omega arith }

pub overflow_add-from : goal.overflow_add-from
overflow_add-from g c = let few = entries_few c.args.geometry.now.block_size c.requires.on.geometry.block_size in omega (arith, few)

pub returns-in_err-at-clause-reads : goal.returns-in_err-at-clause-reads
returns-in_err-at-clause-reads g c =
    reads_then _ g.met.B.Blocks.lawful _ _ _ _ _ _ (λ d p q. if_cut c.from_residual.result _ c.from_residual.ensures.0)
    c.loop-from.invariant.reads c.position_in_page.ensures.reads

pub returns-in-Some-clause-reads : goal.returns-in-Some-clause-reads
returns-in-Some-clause-reads g c =
    let a = c.args in
    let low = c.loop-from.invariant.low in
    let count = c.entry_count-count.ensures.count in
    let end : c.min-to.result ≤ a.inode.now.size / 64 = omega arith in
    reads_then _ g.met.B.Blocks.lawful _ _ _ _ _ _
    (λ d p q. named_behind _ _ 2 c.loop-from.from c.min-to.result _ c.in-Some.at low end
    (subst (StandsAt (file_byte a.geometry.now (pieces a.geometry.now d) a.inode.now) a.name.now c.loop-from.from c.min-to.result) c.in-Some.is q))
    c.loop-from.invariant.reads c.in_ok-at.ensures.reads

pub loop-from-preserved : goal.loop-from-preserved
loop-from-preserved g c =
    let a = c.args in
    let some = entries_there a.geometry.now.block_size c.requires.on.geometry.block_size in
    let low = c.loop-from.invariant.low in
    record {
      reads = reads_then _ g.met.B.Blocks.lawful _ _ _ _ _ _
          (λ d p q. none_on _ _ 2 c.loop-from.from c.min-to.result p
          (subst (StandsAt (file_byte a.geometry.now (pieces a.geometry.now d) a.inode.now) a.name.now c.loop-from.from c.min-to.result) c.in_default.is q))
          c.loop-from.invariant.reads c.in_ok-at.ensures.reads;
      low = omega (arith, some);
    }

pub returns-clause-reads : goal.returns-clause-reads
returns-clause-reads g c =
    let count = c.entry_count-count.ensures.count in
    let past : c.args.inode.now.size / 64 ≤ c.loop-from.from = omega arith in
    reads_as _ _ _ _ _
    (λ d p. none_up_to (file_byte c.args.geometry.now (pieces c.args.geometry.now d) c.args.inode.now) c.args.name.now 2 c.loop-from.from (c.args.inode.now.size / 64) past p)
    c.loop-from.invariant.reads
