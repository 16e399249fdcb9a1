use Rattle.std.proofs.Common.{◌≡◌, map, ◌++◌}
use Rattle.tree.specs.Answers.{entry_of}
use Rattle.calls_files.specs.Pairs.{pair_of}
use Rattle.calls_files.proofs.listing.names.NameMap.into_entries.Given as goal

-- the entries so far and the names that are left are all
abbrev pub invariant-loop-name : goal.invariant-loop-name
invariant-loop-name l = map entry_of l.entries.items ++ map pair_of l.name-iterator ≡ l.fn.self
