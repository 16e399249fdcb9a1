-- The reincarnation server with its supply of drivers.
use Rattle.std.specs.Prelude.{◌≡◌, ◌≢◌, ℕ, List, [], ◌∷◌, ◌++◌, length, Result, Ok, Err}
use Rattle.reincarnate.specs.declared.policy.Policy.{Policy}
use Rattle.reincarnate.specs.Policy.{IsAllowed}
use Rattle.reincarnate.specs.declared.policy.Event.{Event}
use Rattle.reincarnate.specs.Watch as restart
use Rattle.reincarnate.specs.declared.Action.{Action}
use Rattle.reincarnate.specs.declared.Action.TheVariants.{Nothing, WaitUntil, Start, GiveUp}
use Rattle.reincarnate.specs.declared.SupplyRefusal.{SupplyRefusal}
use Rattle.reincarnate.specs.declared.SupplyRefusal.TheVariants.{BadPolicy, NoDriver, OutOfMemory}
use Rattle.reincarnate.specs.Known.{Known, watch_with}

abbrev pub refusal_number : SupplyRefusal → ℕ
refusal_number BadPolicy = 1
refusal_number NoDriver = 2
refusal_number OutOfMemory = 3

-- its policy, what that knows, and the drivers that weren't started, the next one first
pub record ReincarnationState (D : Type 0) : Type 0 where
  pub policy : Policy
  pub watch : restart.Watch
  pub supply : List D

abbrev pub state_of : {D : Type 0} → Known → List D → ReincarnationState D
state_of known supply = record { policy = known.policy; watch = watch_with known (length supply); supply = supply }

-- at first the start at tick 0 is awaited
abbrev pub new_state : {D : Type 0} → Policy → List D → ReincarnationState D
new_state rules drivers = record { policy = rules; watch = restart.new_watch (length drivers); supply = drivers }

-- a policy that isn't allowed is refused first, then an empty supply
abbrev pub NewAnswers : {D : Type 0} → Policy → List D → Result (ReincarnationState D) SupplyRefusal → Type 0
NewAnswers rules drivers (Ok state) = IsAllowed rules × (drivers ≢ []) × (state ≡ new_state rules drivers)
NewAnswers rules drivers (Err BadPolicy) = ¬ (IsAllowed rules)
NewAnswers rules drivers (Err NoDriver) = IsAllowed rules × (drivers ≡ [])
NewAnswers rules drivers (Err OutOfMemory) = IsAllowed rules × (drivers ≢ [])

-- a driver more, at the end of the supply
abbrev pub with_driver : {D : Type 0} → ReincarnationState D → D → ReincarnationState D
with_driver state driver = record state { watch = restart.with_spare state.watch; supply = state.supply ++ driver ∷ [] }

-- what the policy calls this action
abbrev pub action_of : {D : Type 0} → Action D → restart.Action
action_of Nothing = restart.Nothing
action_of (WaitUntil tick) = restart.WaitUntil tick
action_of (Start endpoint driver) = restart.Start endpoint
action_of GiveUp = restart.GiveUp

-- the driver that it hands over, if it does
abbrev pub handed_over : {D : Type 0} → Action D → List D
handed_over (Start endpoint driver) = driver ∷ []
handed_over _ = []

-- at an event it does and remembers what the policy says; a start hands over the first driver of the supply, and nothing else changes that
pub record Decides {D : Type 0} (old : ReincarnationState D) (event : Event) (action : Action D) (new : ReincarnationState D) : Type 0 where
  pub policy : new.policy ≡ old.policy
  pub keeps : restart.OnKeeps old.policy old.watch event (action_of action) new.watch
  pub supply : old.supply ≡ handed_over action ++ new.supply
