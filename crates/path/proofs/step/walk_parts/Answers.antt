use Rattle.std.specs.Prelude.{Ok, Err}
use Rattle.block_store.proofs.Turns.{reads_as, reads_then}
use Rattle.path.proofs.Ending.{answers_exit}
use Rattle.path.proofs.Arriving.{is_walk, not_begun}
use Rattle.path.proofs.step.walk_parts.Goals as goal

pub returns-in_err-here-clause-reads : goal.returns-in_err-here-clause-reads
returns-in_err-here-clause-reads g c =
    reads_as _ _ _ _ _
    (λ d p t holds. answers_exit _ _ _ _ c.from_residual.ensures.1 (λ e is. not_begun t c.args.user c.args.start _ e is) (p t holds))
    c.in_err-here.ensures.reads

pub returns-in_err-end-clause-reads : goal.returns-in_err-end-clause-reads
returns-in_err-end-clause-reads g c =
    reads_then _ g.met.B.Blocks.lawful _ _ _ _ _ _
    (λ d p q t holds.
    let begins = p t holds in
    answers_exit _ _ _ _ c.from_residual-in_err-end.ensures.1
    (λ e is. is_walk t c.args.user c.args.start c.in_ok-here.here _ (Err e) begins is) (q t holds begins.there))
    c.in_ok-here.ensures.reads c.in_err-end.ensures.reads

pub returns-clause-reads : goal.returns-clause-reads
returns-clause-reads g c =
    reads_then _ g.met.B.Blocks.lawful _ _ _ _ _ _
    (λ d p q t holds.
    let begins = p t holds in
    is_walk t c.args.user c.args.start c.in_ok-here.here _ (Ok c.in_ok-end.end) begins (q t holds begins.there))
    c.in_ok-here.ensures.reads c.in_ok-end.ensures.reads
