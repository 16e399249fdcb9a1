use Rattle.std.proofs.Common.{◌≡◌, ◌<◌, ◌^◌, ◌∙◌, ℕ, List, length, ap, arith}
use Rattle.std.specs.Prelude.{slice_index}
use Rattle.volume.specs.Reading.{u32_in}
use Rattle.volume.specs.Pieces.{pieces}
use Rattle.block_store.proofs.Turns.{turns_as, ends_as}
use Rattle.directory.proofs.Becoming.{parent_set, may_set_parent}
use Rattle.directory.proofs.EntryBytes.{number_in_bytes}
use Rattle.directory.proofs.changes.set_parent.Goals as goal

pub returns-clause-turns : goal.returns-clause-turns
returns-clause-turns g c =
    let v = c.args.geometry.now in
    let n = c.args.directory in
    let bytes = c.to_le_bytes.result in
    let low : c.args.parent < 2 ^ 32 = omega arith in
    let many : length bytes ≡ 4 = ap length c.to_le_bytes.ensures in
    let is : u32_in (slice_index bytes) 0 ≡ c.args.parent = ap (λ (b : List ℕ). u32_in (slice_index b) 0) c.to_le_bytes.ensures ∙ number_in_bytes c.args.parent low in
    turns_as _ _ _ _ _
    (λ d e q. ends_as _ _ _ _ _ (λ x writes. parent_set v n c.args.parent bytes d e many is writes)
    (λ t. may_set_parent v (pieces v d) n c.args.parent bytes many t) q)
    c.write_at.ensures.turns
