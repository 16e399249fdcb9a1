-- What is done to the drivers leaves the media's generation, and, but for a fault of the current driver, that one living.
use Rattle.std.proofs.Common.{◌≡◌, ℕ, zero, suc, ◌+◌, ◌<◌, ◌≤◌, List, [], ◌∷◌, ◌++◌, Bool, true, false, cond, refl, sym, ◌∙◌, ap, subst, inl, inr, ◌⊎◌, arith}
use Rattle.std.specs.Prelude.{Option, Some, None, Result, Ok, Err, slice_get, slice_set}
use Rattle.message.specs.declared.endpoint.Endpoint.{Endpoint}
use Rattle.message.specs.declared.BlockRequest.{BlockRequest}
use Rattle.message.specs.declared.Kind.{Kind}
use Rattle.message.specs.declared.Kind.TheVariants.{Read, Write}
use Rattle.media.specs.Contents.{MediaState, written, accepts}
use Rattle.bdev.specs.declared.Step.{Step}
use Rattle.bdev.specs.declared.Step.TheVariants.{Working, Idle, Done, Failed}
use Rattle.bdev.specs.DriverState.{DriverState, Work, chunk}
use Rattle.bdev.specs.Promises.{StepKeeps, StepsAt as DriverStepsAt, MovesAtMostOne, MovesBytes}
use Rattle.reissue.specs.declared.link.LinkRefusal.{LinkRefusal}
use Rattle.schedule.specs.declared.log.Post.{Post}
use Rattle.simulated_link.specs.Disks.{Disks, Slot, torn_media, Steps, NoStep, CurrentSteps, OlderSteps, Dies, NoneDies, CurrentDies, OlderDies, Hangs, NoneHangs, CurrentHangs, OlderHangs, LinesUp, NoneIsThere, LineIsFull, IsLinedUp, LinesUpAgain, NoneLinesUp, CurrentLinesUp, OlderLinesUp, Repeats}
use Rattle.conformance.specs.Happens.{GoesWell}

written_generation : (m : MediaState) (g n : ℕ) (bytes : List ℕ) → (written m g n bytes).generation ≡ m.generation
written_generation m g n bytes = by (accepts m g n) where
  by : (c : Bool) → (cond c (record m { sectors = slice_set m.sectors n bytes }) m).generation ≡ m.generation
  by true = refl
  by false = refl

torn_generation : (m : MediaState) (g : ℕ) (sector : Option ℕ) (bytes : Option (List ℕ)) → (torn_media m g sector bytes).generation ≡ m.generation
torn_generation m g (Some sector) (Some bytes) = written_generation m g sector bytes
torn_generation m g (Some sector) None = refl
torn_generation m g None bytes = refl

moves_generation : (kind : Kind) (w : Work) (m : MediaState) (g s j : ℕ) (w' : Work) (m' : MediaState) → MovesBytes kind w m g s j w' m'
    → m'.generation ≡ m.generation
moves_generation Read w m g s j w' m' moves = ap (λ (x : MediaState). x.generation) moves.0
moves_generation Write w m g s j w' m' moves = ap (λ (x : MediaState). x.generation) moves ∙ written_generation m g s (chunk j w.request.bytes)

step_moves : (b : DriverState) (w w' : Work) (m m' : MediaState) (g : ℕ) → MovesAtMostOne b w m g w' m' → m'.generation ≡ m.generation
step_moves b w w' m m' g (inl none) = ap (λ (x : MediaState). x.generation) none.same_media
step_moves b w w' m m' g (inr one) = moves_generation w.request.kind w m g (one.run.first + one.number) one.number w' m' one.bytes

steps_at : (b a : DriverState) (work : Option Work) (m m' : MediaState) (g : ℕ) (step : Step) → DriverStepsAt b work m g step a m' → m'.generation ≡ m.generation
steps_at b a None m m' g step s = ap (λ (x : MediaState). x.generation) s.0
steps_at b a (Some w) m m' g step s = step_moves b w s.0 m m' g s.1

step_generation : (b a : DriverState) (m m' : MediaState) (g : ℕ) (step : Step) → StepKeeps b m g step a m' → m'.generation ≡ m.generation
step_generation b a m m' g step s = steps_at b a b.work m m' g step s.steps

pub steps_generation : (place g : ℕ) (b a : Disks) (result : Option Step) → Steps place g b result a → a.media.generation ≡ b.media.generation
steps_generation place g b _ _ (NoStep none) = refl
steps_generation place g b _ _ (CurrentSteps step a m is live s) = step_generation s.handed a.state b.media m g step s.steps
steps_generation place g b _ _ (OlderSteps at was a step m older live s) = step_generation s.handed a.state b.media m g step s.steps

pub dies_generation : (g : ℕ) (bytes : Option (List ℕ)) (b a : Disks) (died : Bool) → Dies g bytes b died a → a.media.generation ≡ b.media.generation
dies_generation g bytes b _ _ (NoneDies none) = refl
dies_generation g bytes b _ _ (CurrentDies is live) = torn_generation b.media g b.current.state.in_work bytes
dies_generation g bytes b _ _ (OlderDies at was older live) = refl

pub hangs_generation : (g : ℕ) (b a : Disks) → Hangs g b a → a.media.generation ≡ b.media.generation
hangs_generation g b _ (NoneHangs none) = refl
hangs_generation g b _ (CurrentHangs is) = refl
hangs_generation g b _ (OlderHangs at was older) = refl

-- the current driver lives and hangs as it did, and the media are of the same generation
pub record SameCurrent (b a : Disks) : Type 0 where
  pub generation : a.media.generation ≡ b.media.generation
  pub live : a.current.live ≡ b.current.live
  pub hung : a.current.hung ≡ b.current.hung

pub same_current : (b : Disks) → SameCurrent b b
same_current b = record { generation = refl; live = refl; hung = refl }

-- a step that isn't a failure
pub steps_well : (place g : ℕ) (b a : Disks) (result : Option Step) → Steps place g b result a → GoesWell result → SameCurrent b a
steps_well place g b _ _ (NoStep none) well = same_current b
steps_well place g b _ _ (CurrentSteps Working a m is live s) well = record { generation = step_generation s.handed a.state b.media m g Working s.steps; live = s.lives; hung = s.hangs }
steps_well place g b _ _ (CurrentSteps Idle a m is live s) well = record { generation = step_generation s.handed a.state b.media m g Idle s.steps; live = s.lives; hung = s.hangs }
steps_well place g b _ _ (CurrentSteps (Done answer) a m is live s) well = record { generation = step_generation s.handed a.state b.media m g (Done answer) s.steps; live = s.lives; hung = s.hangs }
steps_well place g b _ _ (CurrentSteps Failed a m is live s) well = absurd well
steps_well place g b _ _ (OlderSteps at was a step m older live s) well = record { generation = step_generation s.handed a.state b.media m g step s.steps; live = refl; hung = refl }

-- a step of another driver
pub steps_other : (place g : ℕ) (b a : Disks) (result : Option Step) → Steps place g b result a → (g ≡ b.media.generation → ⊥) → SameCurrent b a
steps_other place g b _ _ (NoStep none) other = same_current b
steps_other place g b _ _ (CurrentSteps step a m is live s) other = absurd (other is)
steps_other place g b _ _ (OlderSteps at was a step m older live s) other = record { generation = step_generation s.handed a.state b.media m g step s.steps; live = refl; hung = refl }

-- a death of another driver, or of none
pub dies_other : (g : ℕ) (bytes : Option (List ℕ)) (b a : Disks) (died : Bool) → Dies g bytes b died a → (g ≡ b.media.generation → ⊥) → SameCurrent b a
dies_other g bytes b _ _ (NoneDies none) other = same_current b
dies_other g bytes b _ _ (CurrentDies is live) other = absurd (other is)
dies_other g bytes b _ _ (OlderDies at was older live) other = record { generation = refl; live = refl; hung = refl }

pub dies_none : (g : ℕ) (bytes : Option (List ℕ)) (b a : Disks) (died : Bool) → Dies g bytes b died a → died ≡ false → SameCurrent b a
dies_none g bytes b _ _ (NoneDies none) is = same_current b
dies_none g bytes b _ _ (CurrentDies at live) is = cc
dies_none g bytes b _ _ (OlderDies at was older live) is = cc

again_same : (g : ℕ) (r : BlockRequest) (b a : Disks) → LinesUpAgain g r b a → SameCurrent b a
again_same g r b _ (NoneLinesUp none) = same_current b
again_same g r b _ (CurrentLinesUp is live few) = record { generation = refl; live = refl; hung = refl }
again_same g r b _ (OlderLinesUp at slot older live few) = record { generation = refl; live = refl; hung = refl }

pub repeats_same : (p : Option Post) (b a : Disks) → Repeats p b a → SameCurrent b a
repeats_same None b a is = subst (λ (x : Disks). SameCurrent b x) (sym is) (same_current b)
repeats_same (Some p) b a again = again_same p.to.generation p.request b a again

pub lines_same : (to : Endpoint) (r : BlockRequest) (b a : Disks) (result : Result (Unit {0}) LinkRefusal) → LinesUp to r b result a → SameCurrent b a
lines_same to r b _ _ (NoneIsThere none) = same_current b
lines_same to r b _ _ (LineIsFull there full) = same_current b
lines_same to r b _ _ (IsLinedUp there few) = record { generation = refl; live = refl; hung = refl }
