-- No event changes how many sectors the media have.
use Rattle.std.proofs.Common.{◌≡◌, ◌⊎◌, ℕ, ◌+◌, List, [], ◌∷◌, Bool, true, false, refl, sym, ◌∙◌, ap, inl, inr, length}
use Rattle.std.specs.Prelude.{Option, Some, None, slice_get}
use Rattle.message.specs.declared.BlockRequest.{BlockRequest}
use Rattle.message.specs.declared.Kind.{Kind}
use Rattle.message.specs.declared.Kind.TheVariants.{Read, Write}
use Rattle.message.specs.declared.Incoming.{Incoming}
use Rattle.media.specs.Contents.{MediaState, written}
use Rattle.media.proofs.WrittenLaws.{changes_one_sector}
use Rattle.bdev.specs.declared.Step.{Step}
use Rattle.bdev.specs.declared.Step.TheVariants.{Working, Idle, Done, Failed}
use Rattle.bdev.specs.DriverState.{DriverState, Work}
use Rattle.bdev.specs.Promises.{StepKeeps, StepsAt as DriverStepsAt, MovesBytes}
use Rattle.reincarnate.specs.Watch as restart
use Rattle.records.specs.declared.marks.Cause.{Cause}
use Rattle.message.specs.declared.endpoint.Endpoint.{Endpoint}
use Rattle.schedule.specs.declared.Event.{Event}
use Rattle.schedule.specs.declared.Event.TheVariants as event
use Rattle.schedule.specs.declared.log.Post.{Post}
use Rattle.simulated_link.specs.declared.events.ruling.Ruling.{Ruling}
use Rattle.simulated_link.specs.declared.events.ruling.Ruling.TheVariants as ruling
use Rattle.simulated_link.specs.Disks.{Disks, Steps, NoStep, CurrentSteps, OlderSteps, torn_media, Dies, NoneDies, CurrentDies, OlderDies, Hangs, NoneHangs, CurrentHangs, OlderHangs, LinesUpAgain, NoneLinesUp, CurrentLinesUp, OlderLinesUp, Repeats}
use Rattle.simulated_link.specs.Scene.{Scene, Quietly, faulted, ruled, Exits, ActsAt, acted, tick_event, next_started, beaten, AfterStep, AfterDeath}
use Rattle.simulated_link.specs.Kept.{EventsKeepSectors}

-- how many sectors there are
abbrev number : MediaState → ℕ
number m = length m.sectors

moved_number : (k : Kind) (w v : Work) (m a : MediaState) (g s j : ℕ) → MovesBytes k w m g s j v a → number a ≡ number m
moved_number Read w v m a g s j moves = ap number moves.0
moved_number Write w v m a g s j moves = ap number moves ∙ changes_one_sector.number m g s _

stepped_number : (b : DriverState) (work : Option Work) (m a : MediaState) (g : ℕ) (step : Step) (d : DriverState) → DriverStepsAt b work m g step d a
    → number a ≡ number m
stepped_number b None m a g step d steps = ap number steps.0
stepped_number b (Some w) m a g step d (v, inl same, says) = ap number same.same_media
stepped_number b (Some w) m a g step d (v, inr moves, says) =
    moved_number w.request.kind w v m a g (moves.run.first + moves.number) moves.number moves.bytes

steps_number : (place g : ℕ) (b a : Disks) (step : Option Step) → Steps place g b step a → number a.media ≡ number b.media
steps_number place g b _ _ (NoStep none) = refl
steps_number place g b _ _ (CurrentSteps step a m is live s) = stepped_number s.handed s.handed.work b.media m g step a.state s.steps.steps
steps_number place g b _ _ (OlderSteps at was a step m older live s) = stepped_number s.handed s.handed.work b.media m g step a.state s.steps.steps

torn_number : (m : MediaState) (g : ℕ) (sector : Option ℕ) (bytes : Option (List ℕ)) → number (torn_media m g sector bytes) ≡ number m
torn_number m g (Some sector) (Some bytes) = changes_one_sector.number m g sector bytes
torn_number m g (Some sector) None = refl
torn_number m g None bytes = refl

dies_number : (g : ℕ) (bytes : Option (List ℕ)) (b a : Disks) (died : Bool) → Dies g bytes b died a → number a.media ≡ number b.media
dies_number g bytes b _ _ (NoneDies none) = refl
dies_number g bytes b _ _ (CurrentDies is live) = torn_number b.media g b.current.state.in_work bytes
dies_number g bytes b _ _ (OlderDies at was older live) = refl

hangs_number : (g : ℕ) (b a : Disks) → Hangs g b a → number a.media ≡ number b.media
hangs_number g b _ (NoneHangs none) = refl
hangs_number g b _ (CurrentHangs is) = refl
hangs_number g b _ (OlderHangs at was older) = refl

again_number : (g : ℕ) (r : BlockRequest) (b a : Disks) → LinesUpAgain g r b a → number a.media ≡ number b.media
again_number g r b _ (NoneLinesUp none) = refl
again_number g r b _ (CurrentLinesUp is live few) = refl
again_number g r b _ (OlderLinesUp at was older live few) = refl

repeats_number : (p : Option Post) (b a : Disks) → Repeats p b a → number a.media ≡ number b.media
repeats_number None b a same = ap (λ (d : Disks). number d.media) same
repeats_number (Some p) b a again = again_number p.to.generation p.request b a again

-- how many there are in a scene
abbrev sectors : Scene → ℕ
sectors s = number s.disks.media

faulted_number : (r : Ruling) (e : Endpoint) (cause : Cause) (b : Scene) → sectors (faulted r e cause b) ≡ sectors b
faulted_number ruling.Ignored e cause b = refl
faulted_number ruling.Fault e cause b = refl
faulted_number ruling.GivesUp e cause b = refl

exits_number : (g : ℕ) (b a : Scene) (result : Option Incoming) → Exits g b result a → sectors a ≡ sectors b
exits_number g b a result p = ap sectors p.after ∙ faulted_number p.ruling _ _ _

next_number : (g : ℕ) (supply : List DriverState) (b : Scene) → sectors (next_started g supply b) ≡ sectors b
next_number g [] b = refl
next_number g (d ∷ rest) b = refl

acted_number : (a : restart.Action) (b : Scene) → sectors (acted a b) ≡ sectors b
acted_number restart.Nothing b = refl
acted_number (restart.WaitUntil tick) b = refl
acted_number (restart.Start e) b = next_number e.generation b.supply b
acted_number restart.GiveUp b = refl

after_step_number : (step : Option Step) (g : ℕ) (b a : Scene) (result : Option Incoming) → AfterStep step g b result a → sectors a ≡ sectors b
after_step_number (Some Failed) g b a result p = exits_number g b a result p
after_step_number (Some Working) g b a result p = ap sectors p.1
after_step_number (Some Idle) g b a result p = ap sectors p.1
after_step_number (Some (Done answer)) g b a result p = ap sectors p.1
after_step_number None g b a result p = ap sectors p.1

after_death_number : (died : Bool) (g : ℕ) (b a : Scene) (result : Option Incoming) → AfterDeath died g b result a → sectors a ≡ sectors b
after_death_number true g b a result p = exits_number g b a result p
after_death_number false g b a result p = ap sectors p.1

pub events_keep_sectors : EventsKeepSectors
events_keep_sectors place (event.Arrive who now call) b a result p = ap sectors p.1
events_keep_sectors place event.Flush b a result p = ap sectors p.1
events_keep_sectors place event.Tick b a result p = ap sectors p.after ∙ acted_number p.action _
events_keep_sectors place (event.Step g) b a result p =
    after_step_number p.step g (record b { disks = p.disks }) a result p.after ∙ steps_number place g b.disks p.disks p.step p.steps
events_keep_sectors place (event.Die g bytes) b a result p =
    after_death_number p.died g (record b { disks = p.disks }) a result p.after ∙ dies_number g bytes b.disks p.disks p.died p.dies
events_keep_sectors place (event.Hang g) b a result p = ap sectors p.after ∙ hangs_number g b.disks p.disks p.does
events_keep_sectors place (event.Deliver n) b a result p = ap sectors p.1
events_keep_sectors place (event.Repeat n) b a result p =
    ap sectors p.after ∙ repeats_number (slice_get b.noted.posts n) b.disks p.disks p.does
