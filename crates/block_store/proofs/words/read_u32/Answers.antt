use Rattle.std.proofs.Common.{◌∙◌, ap, sym, ℕ}
use Rattle.volume.specs.Reading.{u32_in}
use Rattle.block_store.proofs.Turns.{reads_by, turns_as, turns_seen}
use Rattle.block_store.proofs.words.read_u32.Goals as goal

pub returns-clause-reads : goal.returns-clause-reads
returns-clause-reads g c =
    reads_by _ _ _ _ c.fetch.ensures.looks (turns_as _ _ _ _ _ (λ d e x. (x.0, c.u32_at.ensures ∙ ap (λ (f : ℕ → ℕ). u32_in f c.args.at) (sym x.1)))
    (turns_seen _ g.met.B.Blocks.lawful _ _ c.args.block c.bytes-bytes.result.now (c.bytes-bytes.ensures.bytes c.args.block c.in_ok-frame.ensures.frame) c.fetch.ensures.turns))
