use Rattle.std.proofs.Common.{◌≤◌, ◌*◌, length, arith, ◌∙◌, inl, inr}
use Rattle.std.proofs.lemmas.Bool.{cases_lt}
use Rattle.modeldisk.proofs.ChunkLaws.{chunk-put_same, chunk-put_below, chunk-put_above}
use Rattle.modeldisk.proofs.sector_mover.chunks.put_chunk.Goals as goal

pub returns-clause-put : goal.returns-clause-put
returns-clause-put c =
    let fits : 512 * c.args.k ≤ length c.args.buffer.now = omega arith in
    chunk-put_same c.args.k _ c.args.buffer.now c.copy_from_slice.new.self (omega arith) fits (omega arith) ∙ c.copy_from_slice.ensures.after

pub returns-clause-others : goal.returns-clause-others
returns-clause-others c = λ i ne.
    let fits : 512 * c.args.k ≤ length c.args.buffer.now = omega arith in
    elim (cases_lt i c.args.k) [
      | inl less ↦ chunk-put_below i c.args.k _ c.args.buffer.now c.copy_from_slice.new.self less fits
      | inr more ↦ chunk-put_above i c.args.k _ c.args.buffer.now c.copy_from_slice.new.self (omega arith) (omega arith) fits (omega arith)
    ]
