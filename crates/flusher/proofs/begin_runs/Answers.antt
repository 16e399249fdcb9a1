use Rattle.std.proofs.Common.{◌≤◌, refl, sym, subst, ◌∙◌, arith}
use mathlib.Core.Logic.{inl, inr}
use Rattle.cache.specs.Edits.{AllClean}
use Rattle.cache.specs.Calls.{held_by}
use Rattle.cache.proofs.Placing.{keeps_none, keeps_then}
use Rattle.flusher.proofs.Flushing.{flushing_none, flushing_more, flushing_end, begins_of, begins_none, run_dirty, run_few, lowest_of, all_of, posts_none, posts_then}
use Rattle.flusher.proofs.begin_runs.Goals as goal

pub runs-init : goal.runs-init
runs-init g c = record {
  keeps = keeps_none _ c.requires.ready;
  posts = posts_none _;
  flushing = flushing_none c.args.most _ _ _;
  messages = omega arith;
  frames = λ f is. is;
  reads = λ t r is w. is;
  count = refl;
  goes = g.met.L.Link.stays _;
  flush = refl;
  uses = refl;
  at_once = λ clean. refl;
  busy = λ lt. absurd (omega (arith, lt));
  requests = omega arith;
}

pub write_run-begun-requires : goal.write_run-begun-requires
write_run-begun-requires g c = record { ready = c.runs.invariant.keeps.ready; most = c.runs-test.true }

pub runs-preserved : goal.runs-preserved
runs-preserved g c =
    let i = c.runs.invariant in
    let e = c.write_run-begun.ensures in
    let some = c.if-begun-eq0.false in
    record {
      keeps = keeps_then _ _ _ i.keeps e.keeps;
      posts = posts_then _ _ _ i.posts e.posts;
      flushing = flushing_more c.args.most _ c.runs.left c.write_run-begun.result _ _ _ _ _ _ i.flushing some e.few
          (begins_of c.runs.left c.write_run-begun.result _ _ _ _ _ _ i.keeps.size e.issued);
      messages = omega (arith, i.messages, e.left);
      frames = λ f is. e.frames f (i.frames f is);
      reads = λ t r is w. i.reads t r (e.reads t r is w) w;
      count = e.count ∙ i.count;
      goes = g.met.L.Link.joins _ _ _ i.goes e.goes;
      flush = e.flush ∙ i.flush;
      uses = e.uses ∙ i.uses;
      at_once = λ clean. absurd
          (run_dirty c.runs.left c.write_run-begun.result _ _ _ _ _ some e.issued (subst (λ k. AllClean (held_by k)) (sym (i.at_once clean)) clean));
      busy = λ lt. e.busy (omega (arith, some));
      requests =
          let size : 512 ≤ c.runs.cache.shape.block_size = c.runs.cache.shape.least in
          let few = run_few c.runs.left c.write_run-begun.result _ _ _ _ _ size e.issued in
          let was = i.requests in
          let adds = e.adds (omega (arith, some)) in
          omega (arith, few, was, adds, e.few);
    }

pub returns-then-begun-eq0-clause-keeps : goal.returns-then-begun-eq0-clause-keeps
returns-then-begun-eq0-clause-keeps g c = keeps_then _ _ _ c.runs.invariant.keeps c.write_run-begun.ensures.keeps

pub returns-then-begun-eq0-clause-goes : goal.returns-then-begun-eq0-clause-goes
returns-then-begun-eq0-clause-goes g c = g.met.L.Link.joins _ _ _ c.runs.invariant.goes c.write_run-begun.ensures.goes

pub returns-then-begun-eq0-clause-posts : goal.returns-then-begun-eq0-clause-posts
returns-then-begun-eq0-clause-posts g c = posts_then _ _ _ c.runs.invariant.posts c.write_run-begun.ensures.posts

pub returns-then-begun-eq0-clause-issued : goal.returns-then-begun-eq0-clause-issued
returns-then-begun-eq0-clause-issued g c =
    let i = c.runs.invariant in
    let e = c.write_run-begun.ensures in
    let h = flushing_end c.args.most _ c.runs.left _ _ _ _ _ _ i.flushing (begins_none c.runs.left c.write_run-begun.result _ _ _ _ _ c.if-begun-eq0.true e.issued) in
    lowest_of c.args.most _ c.runs.left _ _ _ _ h

pub returns-then-begun-eq0-clause-runs : goal.returns-then-begun-eq0-clause-runs
returns-then-begun-eq0-clause-runs g c =
    let i = c.runs.invariant in
    let e = c.write_run-begun.ensures in
    let h = flushing_end c.args.most _ c.runs.left _ _ _ _ _ _ i.flushing (begins_none c.runs.left c.write_run-begun.result _ _ _ _ _ c.if-begun-eq0.true e.issued) in
    record { counts = h.counts; runs = h.runs; all = λ live. inr (e.stuck c.if-begun-eq0.true live) }

pub returns-then-begun-eq0-clause-left : goal.returns-then-begun-eq0-clause-left
returns-then-begun-eq0-clause-left g c = omega (arith, c.runs.invariant.messages, c.write_run-begun.ensures.left)

pub returns-then-begun-eq0-clause-stuck : goal.returns-then-begun-eq0-clause-stuck
returns-then-begun-eq0-clause-stuck g c = λ live. inr (c.write_run-begun.ensures.stuck c.if-begun-eq0.true live)

pub returns-then-begun-eq0-clause-full : goal.returns-then-begun-eq0-clause-full
returns-then-begun-eq0-clause-full g c = λ more live. c.write_run-begun.ensures.stuck c.if-begun-eq0.true live

pub returns-then-begun-eq0-clause-frames : goal.returns-then-begun-eq0-clause-frames
returns-then-begun-eq0-clause-frames g c = λ f is. c.write_run-begun.ensures.frames f (c.runs.invariant.frames f is)

pub returns-then-begun-eq0-clause-reads : goal.returns-then-begun-eq0-clause-reads
returns-then-begun-eq0-clause-reads g c = λ t r is w. c.runs.invariant.reads t r (c.write_run-begun.ensures.reads t r is w) w

pub returns-clause-keeps : goal.returns-clause-keeps
returns-clause-keeps g c = c.runs.invariant.keeps

pub returns-clause-posts : goal.returns-clause-posts
returns-clause-posts g c = c.runs.invariant.posts

pub returns-clause-issued : goal.returns-clause-issued
returns-clause-issued g c = lowest_of c.args.most _ c.runs.left _ _ _ _ c.runs.invariant.flushing

pub returns-clause-runs : goal.returns-clause-runs
returns-clause-runs g c =
    let h = c.runs.invariant.flushing in
    let is = h.left_is in
    let none : c.runs.left ≤ 0 = c.runs-test.false in
    record { counts = h.counts; runs = h.runs; all = λ live. inl (omega (arith, is, none)) }

pub returns-clause-left : goal.returns-clause-left
returns-clause-left g c = c.runs.invariant.messages

pub returns-clause-stuck : goal.returns-clause-stuck
returns-clause-stuck g c = λ live. inl (all_of c.args.most _ c.runs.left _ _ _ _ c.runs-test.false c.runs.invariant.flushing)

pub returns-clause-full : goal.returns-clause-full
returns-clause-full g c = λ more live.
    let i = c.runs.invariant in
    let few = c.runs.cache.transfers.table.few in
    let requests = i.requests in
    record { why = inr (i.busy (omega (arith, c.runs-test.false, more)), inl (omega (arith, c.runs-test.false, more, few, requests))) }

pub returns-clause-frames : goal.returns-clause-frames
returns-clause-frames g c = c.runs.invariant.frames

pub returns-then-begun-eq0-clause-at_once : goal.returns-then-begun-eq0-clause-at_once
returns-then-begun-eq0-clause-at_once g c = λ clean. c.write_run-begun.ensures.refused c.if-begun-eq0.true ∙ c.runs.invariant.at_once clean

pub returns-clause-at_once : goal.returns-clause-at_once
returns-clause-at_once g c = c.runs.invariant.at_once
