use Rattle.std.proofs.Common.{◌≡◌, length, replicate, rules}
use Rattle.std.specs.Prelude.{slice_index}
use Rattle.lemmas.proofs.Lists.{zero_at}
use Rattle.directory.proofs.EntryBytes.{is_name_field}
use Rattle.directory.proofs.bytes.name_bytes.Goals as goal

pub returns : goal.returns
returns c =
    let many : length c.put.new.into ≡ 60 = search rules in
    is_name_field c.args.name.now c.put.new.into (slice_index (replicate 60 0)) many (λ o. zero_at 60 o) c.put.ensures
