use Rattle.std.proofs.Common.{◌≡◌, ℕ, ◌/◌, ◌≤◌, [], refl, ap, ◌∙◌, subst}
use mathlib.Core.Logic.{inl, inr}
use Rattle.std.specs.Prelude.{min}
use Rattle.cache.specs.Runs.{requests_in}
use Rattle.cache.specs.Calls.{held_by}
use Rattle.cache.proofs.Begun.{begins_run}
use Rattle.cache.proofs.Placing.{keeps_none}
use Rattle.cache.proofs.cache.Cache.write_run.Goals as goal

pub returns-then-is_err-clause-keeps : goal.returns-then-is_err-clause-keeps
returns-then-is_err-clause-keeps g c = keeps_none _ c.requires.ready

pub returns-then-is_err-clause-goes : goal.returns-then-is_err-clause-goes
returns-then-is_err-clause-goes g c = g.met.L.Link.stays _

pub returns-then-is_err-clause-posts : goal.returns-then-is_err-clause-posts
returns-then-is_err-clause-posts g c = record { posts = []; history = refl; only_posts = tt }

pub returns-in_default-clause-keeps : goal.returns-in_default-clause-keeps
returns-in_default-clause-keeps g c = keeps_none _ c.requires.ready

pub returns-clause-issued : goal.returns-clause-issued
returns-clause-issued g c =
    let s = c.args.self.now in
    let n = c.dirty_from-count.result in
    let d = c.dirty_from-count.ensures in
    let top : c.min-most.result ≡ min c.args.most (4096 / s.shape.block_size) =
    c.min-most.ensures ∙ ap (λ (k : ℕ). min c.args.most k) c.most_blocks.ensures in
    begins_run c.args.most s.shape.block_size n (held_by s) (held_by c.issue_run.new.self) (requests_in s.transfers.table) (requests_in c.issue_run.new.self.transfers.table)
    d.some (record {
      block = c.in-Some.block;
      some = d.some;
      run = c.if-not-issue_run.ensures.begun;
      lowest = c.in-Some.ensures.1;
      few = subst (λ (k : ℕ). n ≤ k) top d.few;
      end = elim d.end [
        | inl all ↦ inl (all ∙ top)
        | inr over ↦ inr over
      ];
    })
