use Rattle.std.proofs.Common.{◌≡◌, ◌<◌, ◌^◌, ◌∙◌, ℕ, List, length, replicate, ap, arith, rules}
use Rattle.std.specs.Prelude.{slice_index}
use Rattle.lemmas.proofs.Lists.{zero_at}
use Rattle.block_store.specs.Rows.{with_bytes}
use Rattle.directory.proofs.EntryBytes.{is_entry}
use Rattle.directory.proofs.bytes.entry_bytes.Goals as goal

pub returns : goal.returns
returns c =
    let low : c.args.number < 2 ^ 32 = omega arith in
    let many : length c.put-2.new.into ≡ 64 = search rules in
    let zeros : ℕ → ℕ = slice_index (replicate 64 0) in
    is_entry c.args.number c.args.name.now c.put-2.new.into zeros (slice_index c.put.new.into) low many (λ o. zero_at 64 o)
    (λ o. c.put.ensures o ∙ ap (λ (b : List ℕ). with_bytes 0 b zeros o) c.to_le_bytes.ensures) c.put-2.ensures
