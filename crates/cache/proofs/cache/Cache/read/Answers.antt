use Rattle.cache.proofs.Placing.{reads_cut, reads_after}
use Rattle.cache.proofs.Taking.{read_cut_off}
use Rattle.cache.proofs.Staying.{all_then}
use Rattle.cache.proofs.Flushes.{follows_then}
use Rattle.cache.proofs.Edits.{leaves_then}
use Rattle.cache.proofs.Looking.{looks_then}
use Rattle.cache.proofs.cache.Cache.read.Goals as goal

pub returns-in_err-reading-clause-runs : goal.returns-in_err-reading-clause-runs
returns-in_err-reading-clause-runs g c = reads_cut _ _ _ _ _ (read_cut_off c.from_residual.result _ c.from_residual.ensures.0) c.begin_read.ensures.keeps

pub returns-clause-runs : goal.returns-clause-runs
returns-clause-runs g c =
    reads_after _ _ _ _ c.args.block c.in_ok-reading.reading.block c.in_ok-reading.ensures.reading.0 c.begin_read.ensures.keeps c.wait.ensures.runs

pub returns-clause-stay : goal.returns-clause-stay
returns-clause-stay g c = all_then _ _ _ c.begin_read.ensures.stay c.wait.ensures.stay

pub returns-clause-flush : goal.returns-clause-flush
returns-clause-flush g c = follows_then _ _ _ _ _ _ c.begin_read.ensures.flush c.wait.ensures.flush

pub returns-clause-goes : goal.returns-clause-goes
returns-clause-goes g c = g.met.L.Link.joins _ _ _ c.begin_read.ensures.goes c.wait.ensures.goes

pub returns-clause-leaves : goal.returns-clause-leaves
returns-clause-leaves g c = leaves_then _ _ _ c.begin_read.ensures.leaves c.wait.ensures.leaves

pub returns-clause-looks : goal.returns-clause-looks
returns-clause-looks g c = looks_then _ _ _ c.begin_read.ensures.looks c.wait.ensures.looks
