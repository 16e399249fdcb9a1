use Rattle.cache.proofs.Edits.{leaves_none, leaves_then}
use Rattle.cache.proofs.Placing.{keeps_none, keeps_then, keeps_took}
use Rattle.cache.proofs.Staying.{but_none, but_then, all_but}
use Rattle.cache.proofs.Flushes.{follows_none, follows_then}
use Rattle.cache.proofs.cache.Cache.wait_for.Goals as goal

pub tries-init : goal.tries-init
tries-init g c = record { keeps = keeps_none _ c.requires.ready; leaves = leaves_none _; others = but_none c.args.at _; flush = follows_none _ _; goes = g.met.L.Link.stays _ }

pub tries-preserved : goal.tries-preserved
tries-preserved g c = record {
  keeps = keeps_took _ _ _ _ (keeps_then _ _ _ c.tries.invariant.keeps c.write_out.ensures.keeps) c.take.ensures.runs;
  leaves = leaves_then _ _ _ (leaves_then _ _ _ c.tries.invariant.leaves c.write_out.ensures.leaves) c.take.ensures.leaves;
  others = but_then c.args.at _ _ _ (but_then c.args.at _ _ _ c.tries.invariant.others c.write_out.ensures.others) (all_but c.args.at _ _ c.take.ensures.stay);
  flush = follows_then _ _ _ _ _ _ (follows_then _ _ _ _ _ _ c.tries.invariant.flush c.write_out.ensures.flush) c.take.ensures.flush;
  goes = g.met.L.Link.joins _ _ _ (g.met.L.Link.joins _ _ _ c.tries.invariant.goes c.write_out.ensures.goes) c.take.ensures.goes;
}

pub returns-in_err-take-clause-keeps : goal.returns-in_err-take-clause-keeps
returns-in_err-take-clause-keeps g c = keeps_took _ _ _ _ (keeps_then _ _ _ c.tries.invariant.keeps c.write_out.ensures.keeps) c.take.ensures.runs

pub returns-in_err-take-clause-others : goal.returns-in_err-take-clause-others
returns-in_err-take-clause-others g c =
    but_then c.args.at _ _ _ (but_then c.args.at _ _ _ c.tries.invariant.others c.write_out.ensures.others) (all_but c.args.at _ _ c.take.ensures.stay)

pub returns-in_err-take-clause-flush : goal.returns-in_err-take-clause-flush
returns-in_err-take-clause-flush g c =
    follows_then _ _ _ _ _ _ (follows_then _ _ _ _ _ _ c.tries.invariant.flush c.write_out.ensures.flush) c.take.ensures.flush

pub returns-in_err-take-clause-goes : goal.returns-in_err-take-clause-goes
returns-in_err-take-clause-goes g c =
    g.met.L.Link.joins _ _ _ (g.met.L.Link.joins _ _ _ c.tries.invariant.goes c.write_out.ensures.goes) c.take.ensures.goes

pub returns-in_err-take-clause-leaves : goal.returns-in_err-take-clause-leaves
returns-in_err-take-clause-leaves g c =
    leaves_then _ _ _ (leaves_then _ _ _ c.tries.invariant.leaves c.write_out.ensures.leaves) c.take.ensures.leaves
