use Rattle.std.proofs.Common.{refl, ap, arith, subst, length, map, ◌∙◌}
use Rattle.std.specs.Prelude.{All}
use Rattle.synchronous_driver.specs.Inline.{IsReady}
use Rattle.world.specs.Beginning.{IsBegun, range_of}
use Rattle.world.specs.ServerRuns.{IsFresh}
use Rattle.media.specs.Contents.{MediaState}
use Rattle.volume_mount.specs.Starting.{opening_of}
use Rattle.simulated_link.specs.StateView.{run_of}
use Rattle.world.proofs.Opened.{little_work, none_ended, small_budget}
use Rattle.world.proofs.Showing.{all_unused, run_shows, whole_there}
use Rattle.world.proofs.world_run.World.run.Goals as goal

pub overflow_cast-frames : goal.overflow_cast-frames
overflow_cast-frames g c = let few = c.in_ok-prepared.ensures.begun.1.accepted.setup.few_frames in omega (arith, few)

pub link_of-requires-clause-media : goal.link_of-requires-clause-media
link_of-requires-clause-media g c = ap (λ (m : MediaState). m.generation) c.in_ok-prepared.ensures.contents

pub run_over-requires-clause-live : goal.run_over-requires-clause-live
run_over-requires-clause-live g c = none_ended (run_of g.D.LocalDriver.state c.in-Ok.link) c.in-Ok.ensures.fresh.first

pub run_over-requires-clause-budget : goal.run_over-requires-clause-budget
run_over-requires-clause-budget g c = small_budget _ _ (run_of g.D.LocalDriver.state c.in-Ok.link) c.in-Ok.ensures.fresh c.requires.few

pub run_over-requires-clause-few : goal.run_over-requires-clause-few
run_over-requires-clause-few g c = little_work _ _ (run_of g.D.LocalDriver.state c.in-Ok.link) c.in-Ok.ensures.fresh c.requires.few

pub run_over-requires-clause-first : goal.run_over-requires-clause-first
run_over-requires-clause-first g c = c.in-Ok.ensures.fresh.first

pub returns-clause-shows : goal.returns-clause-shows
returns-clause-shows g c =
    let image = c.args.image.now in
    let setup = c.args.setup.now in
    let events = c.args.events.now in
    let range = c.in_ok-prepared.prepared.range in
    let geometry = c.in_ok-prepared.prepared.clean.geometry in
    let tree = c.in_ok-prepared.ensures.begun.0 in
    let state = g.D.LocalDriver.state in
    let v = opening_of image setup.minor range in
    let items = c.as_slice.ensures.value in
    let begun = subst (λ l. IsBegun image setup (map state l) (range_of range) geometry tree) items c.in_ok-prepared.ensures.begun.1 in
    let ready = subst (λ l. All (IsReady v) (map state l)) items c.in_ok-prepared.ensures.ready in
    let new = subst (λ n. IsFresh events n (run_of state c.in-Ok.link)) (ap (λ (m : MediaState). length m.sectors) c.in_ok-prepared.ensures.contents)
    c.in-Ok.ensures.fresh in
    let held = c.in-Ok.ensures.truth v c.in_ok-prepared.ensures.on_media c.in_ok-prepared.ensures.contents ready in
    run_shows _ _ c.in-Ok.link image setup (map state c.args.supply.items) events range geometry tree _ c.in-Ok-run_over.server _
    c.in_ok-prepared.prepared.media c.in_ok-prepared.ensures.contents c.in-Ok.ensures.opened begun
    (all_unused v (map state c.args.supply.items) ready) c.in_ok-prepared.ensures.on_media held held new
    c.in-Ok-run_over.ensures (whole_there _ _ c.link.ensures c.are_whole.ensures) refl refl refl refl refl

pub returns-clause-frames : goal.returns-clause-frames
returns-clause-frames g c = c.in-Ok-run_over.ensures.plays.frame_count ∙ c.in-Ok-run_over.ensures.opened.is_new.as_many
