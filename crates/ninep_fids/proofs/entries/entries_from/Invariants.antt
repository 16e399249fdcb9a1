use Rattle.std.proofs.Common.{◌≡◌, drop}
use Rattle.ninep_fids.specs.Directories.{entries_of}
use Rattle.ninep_fids.specs.Entries.{any_long, bytes_each, fitting, stands}
use Rattle.ninep_fids.proofs.entries.entries_from.Given as goal

-- what is told in the end, and whether it is, is settled by what stands and by the entries that are left
abbrev pub invariant-loop-at : goal.invariant-loop-at
invariant-loop-at l = record {
  told : stands l.entries (bytes_each l.at (drop l.at (entries_of l.own l.above l.names)))
      ≡ fitting l.limit (bytes_each l.offset (drop l.offset (entries_of l.own l.above l.names)));
  long : any_long (drop l.at (entries_of l.own l.above l.names)) ≡ any_long (drop l.offset (entries_of l.own l.above l.names));
}
