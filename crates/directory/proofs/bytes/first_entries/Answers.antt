use Rattle.std.proofs.Common.{◌≡◌, ℕ, length, replicate, rules}
use Rattle.std.specs.Prelude.{slice_index}
use Rattle.directory.proofs.EntryBytes.{first_two}
use Rattle.directory.proofs.bytes.first_entries.Goals as goal

pub returns : goal.returns
returns c =
    let many : length c.put-2.new.into ≡ 128 = search rules in
    first_two c.args.number c.args.parent c.put-2.new.into _ _ (slice_index (replicate 128 0)) (slice_index c.put.new.into) many
    c.entry_bytes.ensures c.entry_bytes-2.ensures c.put.ensures c.put-2.ensures
