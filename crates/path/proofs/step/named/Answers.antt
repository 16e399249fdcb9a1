use Rattle.std.proofs.Common.{◌∙◌, sym, ap}
use Rattle.std.specs.Prelude.{option_map}
use Rattle.block_store.proofs.Turns.{reads_then, if_cut}
use Rattle.path.proofs.step.named.Goals as goal

pub returns-in_err-found-clause-reads : goal.returns-in_err-found-clause-reads
returns-in_err-found-clause-reads g c =
    reads_then _ g.met.B.Blocks.lawful _ _ _ _ _ _
    (λ d p q directory. if_cut c.from_residual-in_err-found.result _ c.from_residual-in_err-found.ensures.0)
    c.in_ok-number.ensures.reads c.find.ensures.reads

pub returns-in-Some-2-clause-reads : goal.returns-in-Some-2-clause-reads
returns-in-Some-2-clause-reads g c =
    reads_then _ g.met.B.Blocks.lawful _ _ _ _ _ _
    (λ d p q directory. ap (option_map (λ s. s.number)) (sym c.in-Some-2.is) ∙ q.leads)
    c.in_ok-number.ensures.reads c.in_ok-found.ensures.reads

pub returns-in-None-clause-reads : goal.returns-in-None-clause-reads
returns-in-None-clause-reads g c =
    reads_then _ g.met.B.Blocks.lawful _ _ _ _ _ _
    (λ d p q directory. ap (option_map (λ s. s.number)) (sym c.in-None.is) ∙ q.leads)
    c.in_ok-number.ensures.reads c.in_ok-found.ensures.reads
