use Rattle.std.proofs.Common.{refl, ◌∙◌, arith}
use Rattle.cache.proofs.Placing.{keeps_none, keeps_then}
use Rattle.flusher.proofs.Flushing.{idle, syncs_ok, syncs_cut}
use Rattle.cache.proofs.Flushes.{follows_none, follows_posts, follows_then}
use Rattle.flusher.proofs.write_all.Goals as goal

pub messages-init : goal.messages-init
messages-init g c = record {
  keeps = keeps_none _ c.requires.ready;
  count = refl;
  goes = g.met.L.Link.stays _;
  frames = λ f is. is;
  uses = refl;
  reads = λ t r is w. is;
  flush = follows_none _ _;
}

pub returns-then-is_clean-clause-runs : goal.returns-then-is_clean-clause-runs
returns-then-is_clean-clause-runs g c =
    syncs_ok _ _ (omega (arith, c.begin_runs.new.cache.shape.least)) c.if-is_clean.ensures.clean
    (keeps_then _ _ _ c.messages.invariant.keeps c.begin_runs.ensures.keeps)

pub returns-then-is_clean-clause-idle : goal.returns-then-is_clean-clause-idle
returns-then-is_clean-clause-idle g c = idle _ c.begin_runs.ensures.keeps.ready c.if-is_clean.ensures.clean

pub messages-preserved : goal.messages-preserved
messages-preserved g c = record {
  keeps = keeps_then _ _ _ (keeps_then _ _ _ c.messages.invariant.keeps c.begin_runs.ensures.keeps) c.take_next.ensures.keeps;
  frames = λ f is. c.take_next.ensures.frames f (c.begin_runs.ensures.frames f (c.messages.invariant.frames f is));
  reads = λ t r is w. c.messages.invariant.reads t r (c.begin_runs.ensures.reads t r (c.take_next.ensures.reads t r is w) w) w;
  count = c.take_next.ensures.count ∙ (c.begin_runs.ensures.count ∙ c.messages.invariant.count);
  goes = g.met.L.Link.joins _ _ _ (g.met.L.Link.joins _ _ _ c.messages.invariant.goes c.begin_runs.ensures.goes) c.take_next.ensures.goes;
  uses = c.take_next.ensures.uses ∙ (c.begin_runs.ensures.uses ∙ c.messages.invariant.uses);
  flush =
      let x = c.begin_runs.ensures.posts in
      follows_then _ _ _ _ _ _ (follows_then _ _ _ _ _ _ c.messages.invariant.flush (follows_posts _ _ x.posts _ _ c.begin_runs.ensures.flush x.history x.only_posts)) c.take_next.ensures.flush;
}

pub returns-in_err-take_next-clause-runs : goal.returns-in_err-take_next-clause-runs
returns-in_err-take_next-clause-runs g c =
    syncs_cut c.from_residual.result _ _ c.from_residual.ensures.0
    (keeps_then _ _ _ (keeps_then _ _ _ c.messages.invariant.keeps c.begin_runs.ensures.keeps) c.take_next.ensures.keeps)

pub returns-then-is_clean-clause-flush : goal.returns-then-is_clean-clause-flush
returns-then-is_clean-clause-flush g c =
    let x = c.begin_runs.ensures.posts in
    follows_then _ _ _ _ _ _ c.messages.invariant.flush (follows_posts _ _ x.posts _ _ c.begin_runs.ensures.flush x.history x.only_posts)

pub returns-in_err-take_next-clause-flush : goal.returns-in_err-take_next-clause-flush
returns-in_err-take_next-clause-flush g c =
    let x = c.begin_runs.ensures.posts in
    follows_then _ _ _ _ _ _ (follows_then _ _ _ _ _ _ c.messages.invariant.flush (follows_posts _ _ x.posts _ _ c.begin_runs.ensures.flush x.history x.only_posts)) c.take_next.ensures.flush

pub take_next-requires-clause-stuck : goal.take_next-requires-clause-stuck
take_next-requires-clause-stuck g c = λ live. c.begin_runs.ensures.full (omega arith) live

pub returns-then-is_clean-clause-reads : goal.returns-then-is_clean-clause-reads
returns-then-is_clean-clause-reads g c = λ t r is w. c.messages.invariant.reads t r (c.begin_runs.ensures.reads t r is w) w

pub returns-in_err-take_next-clause-reads : goal.returns-in_err-take_next-clause-reads
returns-in_err-take_next-clause-reads g c = λ t r is w.
    c.messages.invariant.reads t r (c.begin_runs.ensures.reads t r (c.take_next.ensures.reads t r is w) w) w

pub returns-then-is_clean-clause-frames : goal.returns-then-is_clean-clause-frames
returns-then-is_clean-clause-frames g c = λ f is. c.begin_runs.ensures.frames f (c.messages.invariant.frames f is)

pub returns-in_err-take_next-clause-frames : goal.returns-in_err-take_next-clause-frames
returns-in_err-take_next-clause-frames g c = λ f is.
    c.take_next.ensures.frames f (c.begin_runs.ensures.frames f (c.messages.invariant.frames f is))

pub returns-in_err-take_next-clause-goes : goal.returns-in_err-take_next-clause-goes
returns-in_err-take_next-clause-goes g c =
    g.met.L.Link.joins _ _ _ (g.met.L.Link.joins _ _ _ c.messages.invariant.goes c.begin_runs.ensures.goes) c.take_next.ensures.goes
