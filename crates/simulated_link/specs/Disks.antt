-- The media and the drivers of a run, and what each event does to them.
use Rattle.std.specs.Prelude.{◌≡◌, ◌⊎◌, ℕ, ◌+◌, ◌<◌, ◌≤◌, List, [], ◌∷◌, ◌++◌, length, map, Bool, true, false, ◌&&◌, ◌==◌, Option, Some, None, Result, Ok, Err, slice_get, slice_set}
use Rattle.message.specs.declared.endpoint.Endpoint.{Endpoint}
use Rattle.message.specs.declared.BlockRequest.{BlockRequest}
use Rattle.message.specs.declared.BlockReply.{BlockReply}
use Rattle.media.specs.Contents.{MediaState, written, adopted}
use Rattle.bdev.specs.declared.Step.{Step}
use Rattle.bdev.specs.declared.Step.TheVariants.{Working, Idle, Done, Failed}
use Rattle.bdev.specs.DriverState.{DriverState}
use Rattle.bdev.specs.Promises.{StepKeeps, IsDriver}
use Rattle.records.specs.Marks.{Mark}
use Rattle.schedule.specs.declared.Sent.{Sent}
use Rattle.synchronous_driver.specs.Steps.{HandsOver}
use Rattle.true_replies.specs.State.{State, state_of}
use Rattle.true_replies.specs.Events.{reply_of, live_after}
use Rattle.reissue.specs.declared.link.LinkRefusal.{LinkRefusal}
use Rattle.reissue.specs.declared.link.LinkRefusal.TheVariants.{DeadEndpoint, Full}
use Rattle.schedule.specs.declared.log.Post.{Post}

-- a driver that was started, as it stands: what is known of it, whether it lives, whether it hangs, and its line
pub record Slot : Type 0 where
  pub state : DriverState
  pub live : Bool
  pub hung : Bool
  pub line : List BlockRequest

-- the media, the driver that was started last, those started before it (the first one first), and the replies sent
pub record Disks : Type 0 where
  pub media : MediaState
  pub current : Slot
  pub older : List Slot
  pub sent : List Sent

-- the reply that was sent
abbrev pub reply_in : Sent → BlockReply
reply_in s = s.reply

-- what the laws of true replies see of it, with a record
abbrev pub seen : Disks → List Mark → State
seen d marks = state_of d.media d.current.state d.current.live d.current.line (map reply_in d.sent) marks

-- the replies after a step at the event with this number
abbrev pub sent_at : ℕ → ℕ → Step → List Sent → List Sent
sent_at place g (Done a) sent = sent ++ record { reply = reply_of g a; place = place } ∷ []
sent_at place g Working sent = sent
sent_at place g Idle sent = sent
sent_at place g Failed sent = sent

-- a live driver is handed the front of its line, and steps once
pub record SlotSteps (g : ℕ) (b : Slot) (m : MediaState) (step : Step) (a : Slot) (m' : MediaState) : Type 0 where
  pub handed : DriverState
  pub hands : HandsOver b.state b.line handed a.line
  pub driver : IsDriver handed
  pub steps : StepKeeps handed m g step a.state m'
  pub after : IsDriver a.state
  pub lives : a.live ≡ live_after step b.live
  pub hangs : a.hung ≡ b.hung

-- this generation is that of a driver started before the last one, which stands there
pub record IsOlder (g : ℕ) (b : Disks) (at : ℕ) (was : Slot) : Type 0 where
  pub number : g ≡ at + 1
  pub older : g < b.media.generation
  pub there : slice_get b.older at ≡ Some was

-- no driver of this generation lives: it wasn't started, or it died or failed
pub data NoneLives (g : ℕ) (b : Disks) : Type 0 where
  NotStarted : (g ≡ 0) ⊎ (b.media.generation < g) → NoneLives g b
  CurrentIsDead : g ≡ b.media.generation → b.current.live ≡ false → NoneLives g b
  OlderIsDead : (at : ℕ) (was : Slot) → IsOlder g b at was → was.live ≡ false → NoneLives g b

-- the disks with another driver started before the last one in the place of that with this number
abbrev pub with_older : ℕ → Slot → Disks → Disks
with_older at a b = record b { older = slice_set b.older at a }

-- a step of driver g: of none, where none lives, of the current one or of an older one
pub data Steps (place g : ℕ) (b : Disks) : Option Step → Disks → Type 0 where
  NoStep : NoneLives g b → Steps place g b None b
  CurrentSteps : (step : Step) (a : Slot) (m : MediaState) → g ≡ b.media.generation → b.current.live ≡ true
      → SlotSteps g b.current b.media step a m
      → Steps place g b (Some step) (record b { media = m; current = a; sent = sent_at place g step b.sent })
  OlderSteps : (at : ℕ) (was a : Slot) (step : Step) (m : MediaState) → IsOlder g b at was → was.live ≡ true
      → SlotSteps g was b.media step a m
      → Steps place g b (Some step) (record (with_older at a b) { media = m; sent = sent_at place g step b.sent })

-- the sector that a dying driver names gets these bytes, if there are any
abbrev pub torn_media : MediaState → ℕ → Option ℕ → Option (List ℕ) → MediaState
torn_media m g (Some sector) (Some bytes) = written m g sector bytes
torn_media m g (Some sector) None = m
torn_media m g None bytes = m

-- it lives no more
abbrev pub dead_slot : Slot → Slot
dead_slot s = record s { live = false }

-- driver g dies: none, where none lives, the current one, which tears the sector that it names, or an older one; whether one did
pub data Dies (g : ℕ) (bytes : Option (List ℕ)) (b : Disks) : Bool → Disks → Type 0 where
  NoneDies : NoneLives g b → Dies g bytes b false b
  CurrentDies : g ≡ b.media.generation → b.current.live ≡ true
      → Dies g bytes b true (record b { media = torn_media b.media g b.current.state.in_work bytes; current = dead_slot b.current })
  OlderDies : (at : ℕ) (was : Slot) → IsOlder g b at was → was.live ≡ true → Dies g bytes b true (with_older at (dead_slot was) b)

-- it beats no more
abbrev pub hung_slot : Slot → Slot
hung_slot s = record s { hung = true }

-- driver g hangs from now on, if it was started
pub data Hangs (g : ℕ) (b : Disks) : Disks → Type 0 where
  NoneHangs : (g ≡ 0) ⊎ (b.media.generation < g) → Hangs g b b
  CurrentHangs : g ≡ b.media.generation → Hangs g b (record b { current = hung_slot b.current })
  OlderHangs : (at : ℕ) (was : Slot) → IsOlder g b at was → Hangs g b (with_older at (hung_slot was) b)

-- a request more on the line
abbrev pub lined : BlockRequest → Slot → Slot
lined r s = record s { line = s.line ++ r ∷ [] }

-- a request on the line of the current driver
abbrev pub lined_up : BlockRequest → Disks → Disks
lined_up r b = record b { current = lined r b.current }

-- whether the driver at this endpoint is the one that was started last, and lives
abbrev pub is_at : Endpoint → Disks → Bool
is_at to b = (to.slot == 1) && (to.generation == b.media.generation) && b.current.live

-- A post: refused where no such driver is at its endpoint; refused too where the driver's line holds 32; else the request is lined up.
pub data LinesUp (to : Endpoint) (r : BlockRequest) (b : Disks) : Result (Unit {0}) LinkRefusal → Disks → Type 0 where
  NoneIsThere : is_at to b ≡ false → LinesUp to r b (Err DeadEndpoint) b
  LineIsFull : is_at to b ≡ true → 32 ≤ length b.current.line → LinesUp to r b (Err Full) b
  IsLinedUp : is_at to b ≡ true → length b.current.line < 32 → LinesUp to r b (Ok tt) (lined_up r b)

-- the line of driver g takes no repeated request: it doesn't live, or its line holds 16
pub data NoneTakes (g : ℕ) (b : Disks) : Type 0 where
  Dead : NoneLives g b → NoneTakes g b
  CurrentIsFull : g ≡ b.media.generation → 16 ≤ length b.current.line → NoneTakes g b
  OlderIsFull : (at : ℕ) (was : Slot) → IsOlder g b at was → 16 ≤ length was.line → NoneTakes g b

-- a request goes again to the line of driver g, if that lives and its line holds fewer than 16
pub data LinesUpAgain (g : ℕ) (r : BlockRequest) (b : Disks) : Disks → Type 0 where
  NoneLinesUp : NoneTakes g b → LinesUpAgain g r b b
  CurrentLinesUp : g ≡ b.media.generation → b.current.live ≡ true → length b.current.line < 16 → LinesUpAgain g r b (lined_up r b)
  OlderLinesUp : (at : ℕ) (was : Slot) → IsOlder g b at was → was.live ≡ true → length was.line < 16
      → LinesUpAgain g r b (with_older at (lined r was) b)

-- the accepted post with this number, if there is one, goes again to the line of its driver
abbrev pub Repeats : Option Post → Disks → Disks → Type 0
Repeats None b a = a ≡ b
Repeats (Some p) b a = LinesUpAgain p.to.generation p.request b a

-- a start: the generation is adopted, and the driver runs with nothing on its line
abbrev pub started : ℕ → DriverState → Disks → Disks
started g d b = record {
  media = adopted b.media g;
  current = record { state = d; live = true; hung = false; line = [] };
  older = b.older ++ b.current ∷ [];
  sent = b.sent;
}

-- before the first event: the first driver runs, as generation 1, which the media adopted
abbrev pub opened_disks : MediaState → DriverState → Disks
opened_disks media d = record {
  media = adopted media 1;
  current = record { state = d; live = true; hung = false; line = [] };
  older = [];
  sent = [];
}
