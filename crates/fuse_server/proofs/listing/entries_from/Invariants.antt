use Rattle.std.proofs.Common.{◌≤◌, length}
use Rattle.fuse_server.proofs.listing.entries_from.Given as goal

abbrev pub invariant-entries : goal.invariant-entries
invariant-entries l = length l.bytes.items ≤ l.room
