use Rattle.std.proofs.Common.{◌≡◌, ◌<◌, ◌^◌, ◌*◌, ◌∙◌, ℕ, List, length, ap, arith, sym, subst}
use Rattle.std.specs.Prelude.{slice_index}
use Rattle.volume.specs.Reading.{u32_in}
use Rattle.volume.specs.Pieces.{pieces}
use Rattle.block_store.proofs.Turns.{turns_as, turns_then, ends_as}
use Rattle.block_store.proofs.Ending.{ends_exit, turns_three}
use Rattle.file.specs.Changing.{MayWriteAt, WritesAt}
use Rattle.file.proofs.Becoming.{may_change_after}
use Rattle.directory.proofs.Becoming.{may_change}
use Rattle.directory.proofs.EntryBytes.{number_in_bytes}
use Rattle.directory.proofs.Placing.{replaced, may_replace}
use Rattle.directory.proofs.changes.replace.Goals as goal

pub returns-in_err-place-clause-turns : goal.returns-in_err-place-clause-turns
returns-in_err-place-clause-turns g c =
    turns_as _ _ _ _ _ (λ d e p. ends_exit _ _ _ _ _ _ c.from_residual.ensures.1 (λ t. t.has) p.1) c.in_err-place.ensures.reads.turns

pub returns-in_err-write_at-clause-turns : goal.returns-in_err-write_at-clause-turns
returns-in_err-write_at-clause-turns g c =
    let v = c.args.geometry.now in
    let n = c.args.directory in
    let bytes = c.to_le_bytes.result in
    let many : length bytes ≡ 4 = ap length c.to_le_bytes.ensures in
    turns_then _ g.met.B.Blocks.lawful _ _ _ _ _ _
    (λ d e f p q. ends_exit _ _ _ _ _ _ c.from_residual-in_err-write_at.ensures.1
    (λ t. subst (λ x. MayWriteAt v (pieces v x) n (64 * c.in_ok-place.place) bytes) (sym p.0)
    (may_replace v (pieces v d) n c.in_ok-place.place c.args.name.now c.args.number bytes many p.1 t)) q)
    c.in_ok-place.ensures.reads.turns c.in_err-write_at.ensures.turns

pub returns-clause-turns : goal.returns-clause-turns
returns-clause-turns g c =
    let v = c.args.geometry.now in
    let n = c.args.directory in
    let place = c.in_ok-place.place in
    let bytes = c.to_le_bytes.result in
    let low : c.args.number < 2 ^ 32 = omega arith in
    let many : length bytes ≡ 4 = ap length c.to_le_bytes.ensures in
    let is : u32_in (slice_index bytes) 0 ≡ c.args.number = ap (λ (b : List ℕ). u32_in (slice_index b) 0) c.to_le_bytes.ensures ∙ number_in_bytes c.args.number low in
    turns_three _ g.met.B.Blocks.lawful _ _ _ _ _ _ _ _
    (λ d e f h p q r.
    let writes = subst (λ x. WritesAt v n (64 * place) bytes x f) p.0 q in
    ends_as _ _ _ _ _ (λ x stamps. replaced v n place c.args.name.now c.args.number c.args.now bytes d f h many is p.1 writes stamps)
    (λ t. may_change_after v (pieces v d) (pieces v f) n _ _ (may_change v (pieces v d) n t.has.of)
    (writes.becomes (may_replace v (pieces v d) n place c.args.name.now c.args.number bytes many p.1 t))) r)
    c.in_ok-place.ensures.reads.turns c.in_ok-write_at.ensures.turns c.stamp.ensures.turns
