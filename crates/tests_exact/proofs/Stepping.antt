-- What driver 1 does at its first step, whatever it picks: it takes the write off its line, writes at most one sector, and where it fails
-- it lives no more.
use Rattle.std.specs.Prelude.{zero, suc, ◌≡◌, ◌⊎◌, ℕ, ◌+◌, ◌<◌, ◌≤◌, List, [], ◌∷◌, true, false, Option, Some, None, refl, IsSomeAnd}
use Rattle.std.proofs.Common.{arith, ap, sym, ◌∙◌, subst, inl, inr}
use Rattle.lemmas.proofs.Options.{some_same}
use Rattle.message.specs.declared.BlockRequest.{BlockRequest}
use Rattle.message.specs.declared.Incoming.{Incoming}
use Rattle.message.specs.declared.Kind.{Kind}
use Rattle.media.specs.Contents.{MediaState, written}
use Rattle.bdev.specs.declared.Accept.TheVariants.{Taken, Busy, Old}
use Rattle.bdev.specs.declared.Run.{Run}
use Rattle.bdev.specs.declared.Step as declared
use Rattle.bdev.specs.declared.Step.TheVariants.{Working, Idle, Done, Failed}
use Rattle.bdev.specs.DriverState.{DriverState, Work, plan, chunk}
use Rattle.bdev.specs.Promises.{AcceptKeeps, Takes, StepKeeps, MovesAtMostOne, MovesSector, MovesBytes}
use Rattle.bdev.specs.Promises as promises
use Rattle.reincarnate.specs.Policy.{default_policy}
use Rattle.synchronous_driver.specs.Steps.{HandsOver}
use Rattle.schedule.specs.declared.Event.TheVariants as event
use Rattle.true_replies.specs.Events.{live_after}
use Rattle.simulated_link.specs.Disks.{Disks, NoneLives, NotStarted, CurrentIsDead, OlderIsDead}
use Rattle.simulated_link.specs.Disks.{Steps, NoStep, CurrentSteps, OlderSteps}
use Rattle.simulated_link.specs.Moments.{Moment, Step}
use Rattle.simulated_link.specs.Scene.{Scene, StepsAt}
use Rattle.simulated_link.specs.RunState.{begun}
use Rattle.tests_exact.proofs.Small.{area, old_0, old_1, new_0, new_1, block, disk, idle, write_both}
use Rattle.tests_exact.proofs.Beginning.{flush_done}
use Rattle.tests_exact.proofs.Making.{after_event}
use Rattle.tests_exact.proofs.Only.{next_event, moment_after}
use Rattle.tests_exact.proofs.WrongEvents.{after_step}
use Rattle.tests_exact.proofs.DeathRow.{later}

-- the moment before it
abbrev pub before : Moment
before = flush_done default_policy (event.Step 1 ∷ later)

-- it took the write, which is off its line
took : (handed : DriverState) (line : List BlockRequest)
    → HandsOver idle (write_both ∷ []) handed line → Takes idle write_both handed × (line ≡ [])
took handed line (Taken, keeps, is) = (keeps.2, is)
took handed line (Busy, keeps, is) = absurd (keeps.0 refl)
took handed line (Old, keeps, is) = absurd (let h : 1 ≤ 0 = keeps.1 in omega (arith, h))

-- at most one sector was written
abbrev pub AtMostOne : MediaState → Type 0
AtMostOne m = (m ≡ disk old_0 old_1 1) ⊎ ((m ≡ disk new_0 old_1 1) ⊎ (m ≡ disk old_0 new_1 1))

one : (number : ℕ) (m : MediaState) → number < 2 → m ≡ written (disk old_0 old_1 1) 1 (4 + number) (chunk number block) → AtMostOne m
one zero m within is = inr (inl is)
one (suc zero) m within is = inr (inr is)
one (suc (suc n)) m within is = absurd (let h : suc (suc n) < 2 = within in omega (arith, h))

moved : (handed : DriverState) (w w' : Work) (m : MediaState) → handed.ranges ≡ idle.ranges → w.request ≡ write_both
    → MovesAtMostOne handed w (disk old_0 old_1 1) 1 w' m → AtMostOne m
moved handed w w' m ranges is (inl nothing) = inl nothing.same_media
moved handed w w' m ranges is (inr sector) =
    let all : Run = record { first = 4; count = 2 } in
    let same : all ≡ sector.run =
    some_same all sector.run (sym (λ i. plan (ranges i) (is i)) ∙ sector.next.plan) in
    let within : sector.number < 2 = subst (λ (r : Run). sector.number < r.count) (sym same) sector.next.within in
    let bytes : m ≡ written (disk old_0 old_1 1) 1 (sector.run.first + sector.number) (chunk sector.number w.request.bytes) =
    subst (λ (k : Kind). MovesBytes k w (disk old_0 old_1 1) 1 (sector.run.first + sector.number) sector.number w' m)
    (ap (λ (r : BlockRequest). r.kind) is) sector.bytes in
    one sector.number m within
    (bytes ∙ λ i. written (disk old_0 old_1 1) 1 ((sym same i).first + sector.number) (chunk sector.number ((is i).bytes)))

-- what holds after a step with the write in work
record Says (step : declared.Step) (a : DriverState) (m : MediaState) : Type 0 where
  media : AtMostOne m
  failed : a.failed ≡ true → step ≡ Failed

says : (handed : DriverState) (work : Option Work) (step : declared.Step) (a : DriverState) (m : MediaState) → handed.ranges ≡ idle.ranges
    → handed.failed ≡ false → IsSomeAnd work (λ w. (w.request ≡ write_both) × ((k : ℕ) → w.moved k ≡ false))
    → promises.StepsAt handed work (disk old_0 old_1 1) 1 step a m → Says step a m
says handed None step a m ranges sound none steps = absurd none
says handed (Some w) Working a m ranges sound is steps = record {
  media = moved handed w steps.0 m ranges is.0 steps.1;
  failed = λ f. (let h : false ≡ true = sym sound ∙ sym steps.2.failed_is ∙ f in cc);
}
says handed (Some w) Idle a m ranges sound is steps = absurd steps.2
says handed (Some w) (Done answer) a m ranges sound is steps = record {
  media = moved handed w steps.0 m ranges is.0 steps.1;
  failed = λ f. (let h : false ≡ true = sym sound ∙ sym steps.2.same_failed ∙ f in cc);
}
says handed (Some w) Failed a m ranges sound is steps = record { media = moved handed w steps.0 m ranges is.0 steps.1; failed = λ f. refl }

-- what holds after it of the driver and the media
pub record FirstStep (d : Disks) : Type 0 where
  pub line : d.current.line ≡ []
  pub last : d.current.state.last ≡ 1
  pub hung : d.current.hung ≡ false
  pub lives : d.current.state.failed ≡ true → d.current.live ≡ false
  pub media : AtMostOne d.media

lives_now : NoneLives 1 before.run.scene.disks → ⊥
lives_now (NotStarted (inl none)) = omega (arith, none)
lives_now (NotStarted (inr later)) = omega (arith, later)
lives_now (CurrentIsDead same dead) = cc
lives_now (OlderIsDead at was older dead) = let h : 1 < 1 = older.older in omega (arith, h)

steps_so : (step : Option declared.Step) (d : Disks) → Steps 1 1 before.run.scene.disks step d → FirstStep d
steps_so _ _ (NoStep none) = absurd (lives_now none)
steps_so _ _ (OlderSteps at was a step m older live s) = absurd (let h : 1 < 1 = older.older in omega (arith, h))
steps_so _ _ (CurrentSteps step a m same live s) =
    let taken = took s.handed a.line s.hands in
    let is = says s.handed s.handed.work step a.state m taken.0.same_ranges taken.0.same_failed taken.0.work s.steps.steps in
    record {
      line = taken.1;
      last = s.steps.same_last ∙ taken.0.last;
      hung = s.hangs;
      lives = λ f. s.lives ∙ ap (λ (x : declared.Step). live_after x true) (is.failed f);
      media = is.media;
    }

pub first_step : (a : Moment) → Step area before a → FirstStep a.run.scene.disks
first_step a step =
    let runs = next_event before (event.Step 1) refl refl refl refl area a step in
    let h : StepsAt 1 1 (begun (event.Step 1) before.run.scene) runs.result runs.scene = runs.occurs in
    let b : Scene = record (begun (event.Step 1) before.run.scene) { disks = h.disks } in
    let left : runs.scene.disks ≡ h.disks = after_step h.step 1 b runs.scene runs.result h.after in
    let there : a.run.scene.disks ≡ h.disks = ap (λ (m : Moment). m.run.scene.disks) runs.is ∙ by runs.result runs.scene ∙ left in
    subst FirstStep (sym there) (steps_so h.step h.disks h.steps) where
      by : (r : Option Incoming) (s : Scene) → (moment_after r (after_event (event.Step 1) s before.run) before).run.scene.disks ≡ s.disks
      by None s = refl
      by (Some message) s = refl
