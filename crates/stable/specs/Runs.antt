-- What a run of steps does, and what holds all along it.
use Rattle.std.specs.Prelude.{◌≡◌, ◌⊎◌, ℕ, List, [], ◌∷◌, ◌++◌, map, Option, Some, None, ⊤, Result, Ok, Err, false}
use Rattle.stable.specs.declared.Which.{Which}
use Rattle.stable.specs.declared.Which.TheVariants.{Log, Image}
use Rattle.stable.specs.Disk.{Contents, Step, Event, Did, Failed, Disk, run, FileState}

-- the disk as it was at first, and what happened since
pub record Known : Type 0 where
  pub first : Disk
  pub events : List Event

-- the disk now
abbrev pub now : Known → Disk
now k = run k.events k.first

-- these events happened, after those before; where nothing is known, nothing is said
abbrev pub Happens : List Event → Option Known → Option Known → Type 0
Happens es None new = ⊤
Happens es (Some k) new = new ≡ Some (record { first = k.first; events = k.events ++ es })

-- steps up to a failure: some first ones were done, and the next one failed
pub record Stops (plan : List Step) (events : List Event) : Type 0 where
  pub before : List Step
  pub at : Step
  pub after : List Step
  pub parts : plan ≡ before ++ at ∷ after
  pub events_are : events ≡ map Did before ++ Failed at ∷ []

-- the events of some moment of a plan: some first steps were done, and no more, or the next one failed
abbrev pub IsMoment : List Step → List Event → Type 0
IsMoment plan events = ((before : List Step) × (after : List Step) × (plan ≡ before ++ after) × (events ≡ map Did before))
    ⊎ Stops plan events

-- All of a plan was done, or at an error some first steps of it, and no other step: it was given up between two steps, or at one that
-- failed.
abbrev pub Follows : {T E : Type 0} → List Step → Option Known → Option Known → Result T E → Type 0
Follows plan old new (Ok _) = Happens (map Did plan) old new
Follows plan old new (Err _) = (events : List Event) × IsMoment plan events × Happens events old new

abbrev pub file_of : Disk → Which → FileState
file_of d Log = d.log
file_of d Image = d.image

-- a read gave these bytes; once something asked of the file has failed, nothing is said
abbrev pub Reads : Option Known → Which → ℕ → List ℕ → Type 0
Reads None file n bytes = ⊤
Reads (Some k) file n bytes = (file_of (now k) file).failed ≡ false → bytes ≡ (file_of (now k) file).shows n

-- the disk is known, and this holds of it now
abbrev pub Knows : (Disk → Type 0) → Option Known → Type 0
Knows P None = ⊥
Knows P (Some k) = P (now k)

-- What happened since is some events, and this holds at each moment of them: after any first ones of them, none and all among these.
abbrev pub EachMoment : (Disk → Type 0) → Option Known → Option Known → Type 0
EachMoment P None new = ⊤
EachMoment P (Some k) new = (events : List Event) × Happens events (Some k) new
    × ((first rest : List Event) → events ≡ first ++ rest → P (run first (now k)))

-- nothing asked of the log has failed, and this is what it shows
abbrev pub ShowsLog : Contents → Disk → Type 0
ShowsLog log d = (d.log.failed ≡ false) × ((n : ℕ) → d.log.shows n ≡ log n)
