-- What a driver does with the front of its line, and in a step, as far as what it took and answered goes.
use Rattle.std.proofs.Common.{◌≡◌, ℕ, ◌+◌, ◌<◌, ◌≤◌, List, [], ◌∷◌, refl, sym, ◌∙◌, ap, subst, inl, inr}
use Rattle.std.specs.Prelude.{Option, Some, None, if◌then◌else◌}
use Rattle.message.specs.Good.{is_good}
use Rattle.message.specs.declared.BlockRequest.{BlockRequest}
use Rattle.message.specs.declared.BlockReply.{BlockReply}
use Rattle.media.specs.Contents.{MediaState}
use Rattle.bdev.specs.declared.Accept.{Accept}
use Rattle.bdev.specs.declared.Accept.TheVariants.{Taken, Busy, Old}
use Rattle.bdev.specs.declared.Answer.{Answer}
use Rattle.bdev.specs.declared.Step.{Step}
use Rattle.bdev.specs.declared.Step.TheVariants.{Working, Idle, Done, Failed}
use Rattle.bdev.specs.DriverState.{DriverState, Work}
use Rattle.bdev.specs.Promises.{Takes, AcceptKeeps, MovesAtMostOne, Says, SaysIdle, StepsAt, StepKeeps}
use Rattle.synchronous_driver.specs.Steps.{HandsOver}
use Rattle.true_replies.specs.Events.{reply_of, line_after}
use Rattle.conformance.proofs.Moves.{answers_of}

-- none waits; the driver is busy; the request at the front is old; it is taken
pub data Handing (b a : DriverState) : List BlockRequest → List BlockRequest → Type 0 where
  Leaves : (line : List BlockRequest) → a ≡ b → Handing b a line line
  IsOld : (q : BlockRequest) (rest : List BlockRequest) → q.id ≤ b.last → a ≡ b → Handing b a (q ∷ rest) rest
  IsTaken : (q : BlockRequest) (rest : List BlockRequest) → b.work ≡ None → b.last < q.id → Takes b q a → Handing b a (q ∷ rest) rest

pub handing : (b : DriverState) (line : List BlockRequest) (a : DriverState) (left : List BlockRequest) → HandsOver b line a left
    → Handing b a line left
handing b [] a left h = subst (λ (l : List BlockRequest). Handing b a [] l) (sym h.1) (Leaves [] h.0)
handing b (q ∷ rest) a left h = subst (λ (l : List BlockRequest). Handing b a (q ∷ rest) l) (sym h.2) (by h.0 h.1) where
  by : (result : Accept) → AcceptKeeps b q result a → Handing b a (q ∷ rest) (line_after result q rest)
  by Taken k = IsTaken q rest k.0 k.1 k.2
  by Busy k = Leaves (q ∷ rest) k.1
  by Old k = IsOld q rest k.1 k.2

-- a step without work; one that leaves the work to be done; one that answers it
pub data Stepping (g : ℕ) (b a : DriverState) : List BlockReply → Type 0 where
  Idles : b.work ≡ None → a.work ≡ None → a.last ≡ b.last → a.bad ≡ b.bad → Stepping g b a []
  GoesOn : (w w' : Work) → b.work ≡ Some w → a.work ≡ Some w' → w'.request ≡ w.request → a.last ≡ b.last → a.bad ≡ b.bad → Stepping g b a []
  Ends : (w : Work) (answer : Answer) → b.work ≡ Some w → a.work ≡ None → answer.id ≡ w.request.id → a.last ≡ b.last
      → a.bad ≡ b.bad + (if is_good w.request.count answer.outcome then 0 else 1) → Stepping g b a (reply_of g answer ∷ [])

moves_request : (b : DriverState) (w : Work) (m : MediaState) (g : ℕ) (w' : Work) (m' : MediaState) → MovesAtMostOne b w m g w' m'
    → w'.request ≡ w.request
moves_request b w m g w' m' (inl none) = ap (λ (x : Work). x.request) none.same_work
moves_request b w m g w' m' (inr one) = one.same_request

idle_step : (g : ℕ) (b a : DriverState) (step : Step) → b.work ≡ None → a.last ≡ b.last → SaysIdle b step a
    → Stepping g b a (answers_of g step)
idle_step g b a Idle none last says = Idles none (ap (λ (x : DriverState). x.work) says ∙ none) last (ap (λ (x : DriverState). x.bad) says)
idle_step g b a Failed none last says = Idles none (ap (λ (x : DriverState). x.work) says
    ∙ none) last (ap (λ (x : DriverState). x.bad) says)
idle_step g b a Working none last says = absurd says
idle_step g b a (Done answer) none last says = absurd says

work_step : (g : ℕ) (b a : DriverState) (w w' : Work) (step : Step) → b.work ≡ Some w → w'.request ≡ w.request → a.last ≡ b.last
    → Says b w' step a
    → Stepping g b a (answers_of g step)
work_step g b a w w' Working was same last says = GoesOn w w' was says.stays same last says.same_bad
work_step g b a w w' Failed was same last says = GoesOn w w' was says.stays same last says.same_bad
work_step g b a w w' (Done answer) was same last says =
    Ends w answer was says.ended (says.id ∙ ap (λ (r : BlockRequest). r.id) same) last
    (says.counts ∙ ap (λ (r : BlockRequest). b.bad + (if is_good r.count answer.outcome then 0 else 1)) same)
work_step g b a w w' Idle was same last says = absurd says

steps_at : (g : ℕ) (b a : DriverState) (work : Option Work) (m m' : MediaState) (step : Step) → b.work ≡ work → a.last ≡ b.last
    → StepsAt b work m g step a m'
    → Stepping g b a (answers_of g step)
steps_at g b a None m m' step was last s = idle_step g b a step was last s.1
steps_at g b a (Some w) m m' step was last s = work_step g b a w s.0 step was (moves_request b w m g s.0 m' s.1) last s.2

pub stepping : (b : DriverState) (m : MediaState) (g : ℕ) (step : Step) (a : DriverState) (m' : MediaState) → StepKeeps b m g step a m'
    → Stepping g b a (answers_of g step)
stepping b m g step a m' s = steps_at g b a b.work m m' step refl s.same_last s.steps
