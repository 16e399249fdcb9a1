use Rattle.std.proofs.Common.{refl, sym, subst, ◌∙◌, arith}
use Rattle.cache.specs.Edits.{AllClean}
use Rattle.cache.specs.Calls.{held_by}
use Rattle.cache.proofs.Placing.{keeps_none, keeps_then}
use Rattle.flusher.proofs.Flushing.{posts_none, posts_then}
use Rattle.flusher.proofs.Ways.{begins_none, begins_more, begins_stopped, begins_all, next_dirty}
use Rattle.flusher.proofs.begin_from.Goals as goal

pub frames-init : goal.frames-init
frames-init g c = record {
  keeps = keeps_none _ c.requires.ready;
  posts = posts_none _;
  begun = begins_none c.args.from _;
  messages = omega arith;
  frames = λ f is. is;
  reads = λ t r is w. is;
  count = refl;
  goes = g.met.L.Link.stays _;
  flush = refl;
  uses = refl;
  at_once = λ clean. refl;
}

pub frames-preserved : goal.frames-preserved
frames-preserved g c =
    let i = c.frames.invariant in
    let e = c.write_next.ensures in
    record {
      keeps = keeps_then _ _ _ i.keeps e.keeps;
      posts = posts_then _ _ _ i.posts e.posts;
      begun = begins_more _ c.args.from c.in-Some.field-0 c.write_next.result _ _ _ i.begun c.in-Some.is e.issued;
      messages = omega (arith, i.messages, e.left);
      frames = λ f is. e.frames f (i.frames f is);
      reads = λ t r is w. i.reads t r (e.reads t r is w) w;
      count = e.count ∙ i.count;
      goes = g.met.L.Link.joins _ _ _ i.goes e.goes;
      flush = e.flush ∙ i.flush;
      uses = e.uses ∙ i.uses;
      at_once = λ clean. absurd
          (next_dirty c.args.from c.in-Some.field-0 c.write_next.result _ _ c.in-Some.is e.issued (subst (λ k. AllClean (held_by k)) (sym (i.at_once clean)) clean));
    }

pub returns-in-None-clause-keeps : goal.returns-in-None-clause-keeps
returns-in-None-clause-keeps g c = keeps_then _ _ _ c.frames.invariant.keeps c.write_next.ensures.keeps

pub returns-in-None-clause-goes : goal.returns-in-None-clause-goes
returns-in-None-clause-goes g c = g.met.L.Link.joins _ _ _ c.frames.invariant.goes c.write_next.ensures.goes

pub returns-in-None-clause-posts : goal.returns-in-None-clause-posts
returns-in-None-clause-posts g c = posts_then _ _ _ c.frames.invariant.posts c.write_next.ensures.posts

pub returns-in-None-clause-begun : goal.returns-in-None-clause-begun
returns-in-None-clause-begun g c =
    let e = c.write_next.ensures in
    begins_stopped 16 c.frames.counter c.args.from c.write_next.result _ _ _ (omega (arith, c.frames-test.true)) c.frames.invariant.begun c.in-None.is e.issued
    (e.stopped c.in-None.is)

pub returns-in-None-clause-left : goal.returns-in-None-clause-left
returns-in-None-clause-left g c = omega (arith, c.frames.invariant.messages, c.write_next.ensures.left)

pub returns-in-None-clause-frames : goal.returns-in-None-clause-frames
returns-in-None-clause-frames g c = λ f is. c.write_next.ensures.frames f (c.frames.invariant.frames f is)

pub returns-in-None-clause-reads : goal.returns-in-None-clause-reads
returns-in-None-clause-reads g c = λ t r is w. c.frames.invariant.reads t r (c.write_next.ensures.reads t r is w) w

pub returns-clause-keeps : goal.returns-clause-keeps
returns-clause-keeps g c = c.frames.invariant.keeps

pub returns-clause-posts : goal.returns-clause-posts
returns-clause-posts g c = c.frames.invariant.posts

pub returns-clause-begun : goal.returns-clause-begun
returns-clause-begun g c = begins_all 16 c.frames.counter c.args.from _ _ (omega (arith, c.frames-test.false)) c.frames.invariant.begun

pub returns-clause-left : goal.returns-clause-left
returns-clause-left g c = c.frames.invariant.messages

pub returns-clause-frames : goal.returns-clause-frames
returns-clause-frames g c = c.frames.invariant.frames

pub returns-in-None-clause-at_once : goal.returns-in-None-clause-at_once
returns-in-None-clause-at_once g c = λ clean. c.write_next.ensures.refused c.in-None.is ∙ c.frames.invariant.at_once clean

pub returns-clause-at_once : goal.returns-clause-at_once
returns-clause-at_once g c = c.frames.invariant.at_once
