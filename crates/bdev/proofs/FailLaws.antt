-- A driver that fails keeps the interface.
use Rattle.std.proofs.Common.{◌≡◌, ℕ, Option, Some, None, refl, inl, ap}
use Rattle.media.specs.Contents.{MediaState}
use Rattle.bdev.specs.declared.Accept.TheVariants.{Taken, Busy, Old}
use Rattle.bdev.specs.declared.Step.TheVariants.{Failed}
use Rattle.bdev.specs.DriverState.{DriverState, Work}
use Rattle.bdev.specs.Promises.{StepsAt}
use Rattle.bdev.specs.Failing.{FailingKeeps, FailedIsDriver, FailedAccepts, failed}

-- a step that only fails, by the request in work
fails_at : (d : DriverState) (work : Option Work) (m : MediaState) (g : ℕ) → d.work ≡ work → StepsAt d work m g Failed (failed d) m
fails_at d None m g is = (refl, refl)
fails_at d (Some w) m g is =
    (w, inl (record { same_work = refl; same_media = refl }), record { stays = is; failed_is = refl; same_bad = refl })

pub fails : FailingKeeps
fails d m g = record { same_ranges = refl; same_last = refl; steps = fails_at d d.work m g refl }

pub is_driver : FailedIsDriver
is_driver d is = record { bad_is_few = is.bad_is_few; names_its_own = is.names_its_own }

pub accepts : FailedAccepts
accepts old q Taken new h =
    (h.0, h.1, record { same_ranges = h.2.same_ranges; last = h.2.last; work = h.2.work; same_bad = h.2.same_bad; same_failed = refl })
accepts old q Busy new h = (h.0, ap failed h.1)
accepts old q Old new h = (h.0, h.1, ap failed h.2)
