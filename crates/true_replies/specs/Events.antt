-- What the events of a schedule do to the state of a run.
use Rattle.std.specs.Prelude.{◌≡◌, ℕ, ◌<◌, ◌+◌, ◌*◌, ◌%◌, ◌≤◌, length, List, [], ◌∷◌, ◌++◌, Bool, true, false, Some}
use Rattle.message.specs.declared.endpoint.Endpoint.{Endpoint}
use Rattle.message.specs.declared.BlockRequest.{BlockRequest}
use Rattle.message.specs.declared.BlockReply.{BlockReply}
use Rattle.message.specs.declared.Incoming.TheVariants as incoming
use Rattle.records.specs.Marks.{Mark, Issued, Started, ChangesNothing}
use Rattle.records.specs.Open.{IsIn, MayFollow, IsWellFormed}
use Rattle.records.specs.Disk.{HasTrueReplies}
use Rattle.records.specs.Told.{received}
use Rattle.media.specs.Contents.{MediaState, sector, written, adopted, sectors_of}
use Rattle.bdev.specs.declared.Accept.{Accept}
use Rattle.bdev.specs.declared.Accept.TheVariants.{Taken, Busy, Old}
use Rattle.bdev.specs.declared.Answer.{Answer}
use Rattle.bdev.specs.declared.Step.{Step}
use Rattle.bdev.specs.declared.Step.TheVariants.{Working, Idle, Done, Failed}
use Rattle.bdev.specs.DriverState.{DriverState, range_while_fresh}
use Rattle.bdev.specs.Promises.{AcceptKeeps, StepKeeps, IsDriver}
use Rattle.records.specs.Opening.{Opening, Fits, contents_at}
use Rattle.true_replies.specs.State.{State, MediaHold, OutsideHolds}
use Rattle.true_replies.specs.Posted.{IsSent, driver_at, since_start}

-- whoever runs a driver stamps its answers
abbrev pub reply_of : ℕ → Answer → BlockReply
reply_of generation a = record { from = driver_at generation; id = a.id; outcome = a.outcome; bytes = a.bytes }

abbrev pub sent_after : ℕ → Step → List BlockReply → List BlockReply
sent_after generation Working sent = sent
sent_after generation Idle sent = sent
sent_after generation (Done a) sent = sent ++ reply_of generation a ∷ []
sent_after generation Failed sent = sent

abbrev pub live_after : Step → Bool → Bool
live_after Working live = live
live_after Idle live = live
live_after (Done a) live = live
live_after Failed live = false

-- a step of the current driver
abbrev pub stepped : State → Step → DriverState → MediaState → State
stepped x step a media =
    record x { media = media; current = a; live = live_after step x.live; sent = sent_after x.media.generation step x.sent }

-- a step of a driver that was started earlier
abbrev pub stepped_older : State → ℕ → Step → MediaState → State
stepped_older x generation step media = record x { media = media; sent = sent_after generation step x.sent }

-- the line after its front was handed to the driver
abbrev pub line_after : Accept → BlockRequest → List BlockRequest → List BlockRequest
line_after Taken q rest = rest
line_after Busy q rest = q ∷ rest
line_after Old q rest = rest

abbrev pub handed : State → Accept → BlockRequest → List BlockRequest → DriverState → State
handed x result q rest a = record x { current = a; line = line_after result q rest }

-- the current driver dies, and leaves these bytes in the sector that it named
abbrev pub torn : State → ℕ → ℕ → List ℕ → State
torn x generation sector bytes = record x { media = written x.media generation sector bytes; live = false }

abbrev pub dead : State → State
dead x = record x { live = false }

-- a driver is started
abbrev pub replaced : State → ℕ → DriverState → State
replaced x generation m = record {
  media = adopted x.media generation;
  current = m;
  live = true;
  line = [];
  sent = x.sent;
  marks = Started (driver_at generation) ∷ x.marks;
}

abbrev pub issued : State → BlockRequest → Endpoint → State
issued x r to = record x { line = x.line ++ r ∷ []; marks = Issued r to ∷ x.marks }

abbrev pub repeated : State → BlockRequest → State
repeated x r = record x { line = x.line ++ r ∷ [] }

abbrev pub delivered : State → BlockReply → State
delivered x a = record x { marks = received (incoming.Reply a) x.marks }

-- a mark that changes nothing of this
abbrev pub noted : State → Mark → State
noted x m = record x { marks = m ∷ x.marks }

-- what one event, or one call's doing at the link, may make of a state
pub data Next (v : Opening) (x : State) : State → Type 0 where
  Stepped : (step : Step) (a : DriverState) (media : MediaState) → x.live ≡ true
      → StepKeeps x.current x.media x.media.generation step a media → IsDriver a → Next v x (stepped x step a media)
  SteppedOlder : (generation : ℕ) (b a : DriverState) (step : Step) (media : MediaState) → generation < x.media.generation
      → StepKeeps b x.media generation step a media → Next v x (stepped_older x generation step media)
  Handed : (result : Accept) (q : BlockRequest) (rest : List BlockRequest) (a : DriverState) → x.line ≡ q ∷ rest
      → AcceptKeeps x.current q result a → IsDriver a → Next v x (handed x result q rest a)
  Torn : (generation sector : ℕ) (bytes : List ℕ) → x.live ≡ true → x.current.in_work ≡ Some sector
      → Next v x (torn x generation sector bytes)
  Dead : Next v x (dead x)
  Replaced : (generation : ℕ) (m : DriverState) → x.media.generation < generation → IsDriver m
      → range_while_fresh m v.minor ≡ Some (v.first, v.count) → Next v x (replaced x generation m)
  IssuedNow : (r : BlockRequest) (to : Endpoint) → MayFollow (Issued r to) x.marks → Fits v r → Next v x (issued x r to)
  Repeated : (r : BlockRequest) → IsIn r (since_start x.marks) → Next v x (repeated x r)
  Delivered : (a : BlockReply) → IsSent a x.sent → Next v x (delivered x a)
  Noted : (m : Mark) → ChangesNothing m → Next v x (noted x m)

-- one after the other
pub data Run (v : Opening) (x : State) : State → Type 0 where
  Start : Run v x x
  Then : (y z : State) → Run v x y → Next v y z → Run v x z

-- the media as they were handed in, before any generation was adopted
abbrev pub opening_media : Opening → MediaState
opening_media v = record { sectors = sectors_of v.media; generation = 0 }

-- how a run begins: no driver was started, and the media are as they were handed in
pub record IsOpening (v : Opening) (x : State) : Type 0 where
  pub media : x.media ≡ opening_media v
  pub driver : IsDriver x.current
  pub unused : x.current.last ≡ 0
  pub live : x.live ≡ false
  pub line : x.line ≡ []
  pub sent : x.sent ≡ []
  pub marks : x.marks ≡ []

-- the media handed in are whole sectors, and the volume lies on them
pub record IsOnMedia (v : Opening) : Type 0 where
  pub whole : length v.media % 512 ≡ 0
  pub most : length v.media ≤ 67108864
  pub inside : 512 * (v.first + v.count) ≤ length v.media

-- every reply that counted was true; the media are the disk where that is sure, and as given outside of the volume
pub record RunIsTrue (v : Opening) (y : State) : Type 0 where
  pub well_formed : IsWellFormed y.marks
  pub true_replies : HasTrueReplies (contents_at v) y.marks
  pub media : MediaHold v (contents_at v) y.media y.marks
  pub outside : OutsideHolds v (opening_media v) y.media
