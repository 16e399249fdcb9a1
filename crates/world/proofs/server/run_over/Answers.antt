use Rattle.std.proofs.Common.{◌≤◌, subst, sym}
use Rattle.world.specs.Starts.{IsBeforeFirst, RunsAll}
use Rattle.volume_mount.specs.OverLink.{line_of, serving_over}
use Rattle.world.proofs.Opened.{few_here}
use Rattle.world.proofs.server.run_over.Goals as goal

pub run_all-requires-clause-few : goal.run_all-requires-clause-few
run_all-requires-clause-few g c =
    few_here g.L.Ran.run _ c.args.link _ c.in-Ok.ensures.link c.in-Ok.ensures.none_absorbed c.requires.few

pub run_all-requires-clause-room : goal.run_all-requires-clause-room
run_all-requires-clause-room g c = subst (λ l. 33 ≤ g.L.Link.room l) (sym c.in-Ok.ensures.link) c.requires.room

pub run_all-requires-clause-live : goal.run_all-requires-clause-live
run_all-requires-clause-live g c = c.in-Ok.ensures.opens.is_new.not_ended

pub run_all-requires-clause-first : goal.run_all-requires-clause-first
run_all-requires-clause-first g c = subst (λ l. IsBeforeFirst (g.L.Ran.run l)) (sym c.in-Ok.ensures.link) c.requires.first

pub returns : goal.returns
returns g c = record {
  before = c.in-Ok.opened;
  opened = c.in-Ok.ensures.opens;
  plays = subst (λ l. RunsAll (serving_over g.L.Link c.in-Ok.opened) (serving_over g.L.Link c.run_all.new.server) (g.L.Link.truth l) (g.L.Ran.run l)
      (g.L.Ran.run (line_of c.run_all.new.server)) c.in_ok-unanswered.unanswered) c.in-Ok.ensures.link c.in_ok-unanswered.ensures.plays;
}
