-- Drivers that die by a script, and the policy that goes with them.
use Rattle.std.specs.Prelude.{◌≡◌, ℕ, Bool, List, [], ◌∷◌}
use Rattle.media.specs.Table.{TableState, ranges_of}
use Rattle.bdev.specs.DriverState.{fresh}
use Rattle.reincarnate.specs.Policy.{default_policy}
use Rattle.reincarnate.specs.declared.policy.Policy.{Policy}
use Rattle.reincarnate.specs.declared.policy.Setup.{Setup}
use Rattle.modeldisk.specs.Script.{scripted_state, script_of}
use Rattle.modeldisk.specs.declared.fault.Fault.{Fault}
use Rattle.modeldisk.specs.declared.fault.FaultKind.TheVariants.{Die}
use Rattle.modeldisk.specs.declared.scripted.ScriptedDriver.{ScriptedDriver}
use Rattle.mount_service.specs.declared.mortal.Mortality.{Mortality}
use Rattle.mount_service.specs.declared.mortal.Mortality.TheVariants.{Never, InRequest, WhenTold}

-- none; or a death in one request, once a sector of it was moved
abbrev pub faults_by : Mortality → List Fault
faults_by Never = []
faults_by (InRequest n) = record { request = n; after = 1; kind = Die } ∷ []
faults_by WhenTold = []

-- a new driver with the ranges of this table, with or without an arm, which plays these faults
pub record IsMortal (model : Bool) (mortality : Mortality) (table : TableState) (driver : ScriptedDriver) : Type 0 where
  pub state : scripted_state driver ≡ fresh (ranges_of table)
  pub script : script_of driver ≡ record { faults = faults_by mortality; taken = 0; sweeps = model }

-- the default policy; but where drivers die, a fault is a first one where it comes a tick after the one before
abbrev pub policy_by : Mortality → Policy
policy_by Never = default_policy
policy_by (InRequest n) = record { max_faults = 5; cap = 32; calm = 1; misses = 3 }
policy_by WhenTold = record { max_faults = 5; cap = 32; calm = 1; misses = 3 }

-- this minor, 64 frames, and that policy
abbrev pub setup_by : ℕ → Mortality → Setup
setup_by minor mortality = record { minor = minor; frames = 64; policy = policy_by mortality }
