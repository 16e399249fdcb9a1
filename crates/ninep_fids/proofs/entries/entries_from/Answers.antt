use Rattle.std.proofs.Common.{false, refl}
use Rattle.ninep_fids.specs.Directories.{entries_of}
use Rattle.ninep_fids.proofs.EntryLaws.{begins_there, long_there, ends_there, goes_on, none_longer}
use Rattle.ninep_fids.proofs.entries.entries_from.Goals as goal

pub loop-at-init : goal.loop-at-init
loop-at-init c = record {
  told = begins_there c.args.own c.args.above c.args.names.now (record { bytes = c.new.result; limit = c.args.limit; full = false })
      c.args.offset c.min-first.result c.args.limit c.min-first.ensures c.new.ensures.items refl refl;
  long = long_there c.args.own c.args.above c.args.names.now c.args.offset c.min-first.result c.min-first.ensures;
}

pub loop-at-preserved : goal.loop-at-preserved
loop-at-preserved c =
    let es = entries_of c.args.own c.args.above c.args.names.now in
    record {
      told = goes_on c.loop-at.entries c.put.new.self es c.loop-at.at c.entry_at-inode.result.0 c.entry_at-inode.result.1.now _
          c.entry_at-inode.ensures c.loop-at.invariant.told c.in_ok-put.ensures.told;
      long = none_longer es c.loop-at.at c.entry_at-inode.result.0 c.entry_at-inode.result.1.now _ c.entry_at-inode.ensures
          c.loop-at.invariant.long c.in_ok-put.ensures.short;
    }

pub returns : goal.returns
returns c = ends_there c.args.own c.args.above c.args.names.now c.loop-at.entries c.loop-at.at c.args.offset c.args.limit
    c.loop-at-test.false c.loop-at.invariant.told c.loop-at.invariant.long
