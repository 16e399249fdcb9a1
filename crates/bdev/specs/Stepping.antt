-- A step whose answer's bytes stand elsewhere.
use Rattle.std.specs.Prelude.{ℕ, List}
use Rattle.bdev.specs.declared.Step.{Step}
use Rattle.bdev.specs.declared.Step.TheVariants as step
use Rattle.bdev.specs.declared.Stepped.{Stepped}
use Rattle.bdev.specs.declared.Stepped.TheVariants.{Working, Idle, Done, Failed}

-- the same step, an answer with these bytes
abbrev pub step_with : Stepped → List ℕ → Step
step_with Working bytes = step.Working
step_with Idle bytes = step.Idle
step_with (Done completion) bytes = step.Done (record { id = completion.id; outcome = completion.outcome; bytes = bytes })
step_with Failed bytes = step.Failed
