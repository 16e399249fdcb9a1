use Rattle.std.proofs.Common.{◌≡◌, ◌++◌, ◌∷◌, [], map, sym, subst}
use Rattle.simulated_link.specs.DisksView.{disks_of}
use Rattle.vfs.specs.OverLink.{line_of}
use Rattle.transcript.specs.ShownTranscript.{states_of}
use Rattle.transcript.proofs.Standing.{drivers_stand}
use Rattle.transcript.proofs.run_transcript.Transcript.drivers.Goals as goal

pub returns : goal.returns
returns g c =
    let state = g.D.LocalDriver.state in
    let drivers = (line_of c.args.self.now.server).stage.drivers in
    let last = c.link.result.now.stage.drivers.current in
    subst (λ o. map (λ u. state u.driver) o ++ state last.driver ∷ [] ≡ states_of (disks_of state drivers)) (sym c.as_slice.ensures.value)
    (subst (λ l. map (λ u. state u.driver) l.stage.drivers.older.items ++ state l.stage.drivers.current.driver ∷ [] ≡ states_of (disks_of state drivers))
    (sym c.link.ensures) (drivers_stand state drivers.older.items drivers.current))
