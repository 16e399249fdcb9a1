use Rattle.std.proofs.Common.{ℕ, sym, subst}
use Rattle.stable.specs.Disk.{put}
use Rattle.stable.specs.Runs.{Knows}
use Rattle.redo.specs.Plans.{log_plan}
use Rattle.redo.specs.UnderWay.{IsCurrent}
use Rattle.image_file.proofs.Calls.{follows_err}
use Rattle.image_file.proofs.kept.Kept.append.Goals as goal

pub returns-in_err-next-clause-follows : goal.returns-in_err-next-clause-follows
returns-in_err-next-clause-follows g c =
    let s = c.args.self.now in
    follows_err (log_plan s.name s.at (g.P.Puts.puts c.args.changes.now)) (g.S.Storage.known s.storage) (g.S.Storage.known c.log.new.storage) c.from_residual.result c.from_residual.ensures.0 c.in_err-next.ensures.follows

pub returns-in_err-next-clause-any_moment : goal.returns-in_err-next-clause-any_moment
returns-in_err-next-clause-any_moment g c image current = c.in_err-next.ensures.under_way image current

pub returns-clause-any_moment : goal.returns-clause-any_moment
returns-clause-any_moment g c image current = c.in_ok-next.ensures.under_way image current

pub returns-clause-ok : goal.returns-clause-ok
returns-clause-ok g c image current =
    let s = c.args.self.now in
    let ws = g.P.Puts.puts c.args.changes.now in
    subst (λ (k : ℕ). Knows (IsCurrent s.name k (put ws image)) (g.S.Storage.known c.log.new.storage)) (sym c.in_ok-next.ensures.next) (c.in_ok-next.ensures.ok image current)
