-- What the reincarnation server rules at a fault.
use Rattle.std.specs.Prelude.{Bool, true, false}
use Rattle.reincarnate.specs.Watch as restart
use Rattle.simulated_link.specs.declared.events.ruling.Ruling.{Ruling}
use Rattle.simulated_link.specs.declared.events.ruling.Ruling.TheVariants.{Ignored, Fault, GivesUp}

-- by what the policy does at an exit or a complaint, which never is a start
abbrev pub ruling_of : restart.Action → Ruling
ruling_of restart.Nothing = Ignored
ruling_of (restart.WaitUntil tick) = Fault
ruling_of (restart.Start e) = Ignored
ruling_of restart.GiveUp = GivesUp

-- whether it is a fault
abbrev pub is_fault : Ruling → Bool
is_fault Ignored = false
is_fault Fault = true
is_fault GivesUp = true

-- whether it is one that gives the device up
abbrev pub gives_up : Ruling → Bool
gives_up Ignored = false
gives_up Fault = false
gives_up GivesUp = true
