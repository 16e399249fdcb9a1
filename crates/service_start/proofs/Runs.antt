-- What a program came to over a service.
use Rattle.std.proofs.Common.{◌≡◌, ℕ, List, ap, subst, ◌∙◌}
use Rattle.std.specs.Prelude.{IfOk, OnOk, Result, Ok, Err}
use Rattle.layout.specs.declared.Geometry.{Geometry}
use Rattle.records.specs.Opening.{Opening, contents_at}
use Rattle.bdev.specs.DriverState.{DriverState}
use Rattle.reissue.specs.Calls.{Truth}
use Rattle.shared_server.specs.Held.{HoldsIfTrue}
use Rattle.volume_mount.specs.Laws.{sizes_in}
use Rattle.volume_mount.specs.declared.refusal.StartRefusal.{StartRefusal}
use Rattle.volume_mount.specs.Starting.{opening_of, IsPrepared}
use Rattle.reincarnate.specs.declared.policy.Setup.{Setup}
use Rattle.service_start.specs.Stopped.{IsMountedTruly}
use Rattle.service_start.specs.Ran.{HasRun}

-- ---- what was run

-- a program that ran over a service of a volume that was mounted
pub has_run : {O : Type 0} (image : List ℕ) (setup : Setup) (supply : List DriverState) (range : ℕ × ℕ) (v : Opening) (g : Geometry)
    (gives : Geometry → Opening → O → Type 0) (result : Result O StartRefusal) → v ≡ opening_of image setup.minor range
    → g ≡ sizes_in (contents_at v)
    → IsPrepared image setup supply range → {L : Type 0} → (truth : L → Truth) → IfOk result (λ o. gives g v o)
    → OnOk result (IsMountedTruly truth g v)
    → IfOk result (λ o. HasRun image setup supply (λ h opening. gives h opening o))
has_run image setup supply range v g gives (Err e) same sizes prepared truth given held = tt
has_run image setup supply range v g gives (Ok o) same sizes prepared truth given held = (
  g,
  range,
  record {
    prepared = prepared;
    sizes = sizes ∙ ap (λ (x : Opening). sizes_in (contents_at x)) same;
    marks = held.marks;
    holds = subst (λ (x : Opening). HoldsIfTrue g x held.marks) same held.holds;
  },
  subst (λ (x : Opening). gives g x o) same given,
)
