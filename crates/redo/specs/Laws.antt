-- What a crash leaves of commits.
use Rattle.std.specs.Prelude.{◌≡◌, ◌⊎◌, ℕ, ◌+◌, ◌<◌, ◌^◌, List, [], map, length, false, Option, Some, None, ◌∷◌, ⊤}
use Rattle.stable.specs.Disk.{Contents, put, Event, Did, Disk, Stale, run, Leaves, Reopens, restarted, Step}
use Rattle.stable.specs.Runs.{IsMoment}
use Rattle.redo.specs.Record.{recovered, record_units, most}
use Rattle.redo.specs.Plans.{log_plan, recover_plan}
use Rattle.redo.specs.UnderWay.{Fits, IsAtRest, IsEither, IsUnderWay, IsUnderWayBy, IsCurrent}

-- it is this image, unit for unit
abbrev pub IsImage : Option Contents → Contents → Type 0
IsImage None image = ⊥
IsImage (Some found) image = (n : ℕ) → found n ≡ image n

-- A recovery finds this image, whatever a crash at this moment leaves.
abbrev pub Finds : ℕ → Contents → Disk → Type 0
Finds name image d = (log left : Contents) → Leaves d log left → IsImage (recovered name log left) image

-- A recovery finds the one or the other, whatever a crash at this moment leaves.
abbrev pub FindsEither : ℕ → Contents → Contents → Disk → Type 0
FindsEither name before after d = (log left : Contents) → Leaves d log left
    → IsImage (recovered name log left) before ⊎ IsImage (recovered name log left) after

-- At each moment of logging, and after each failure, a crash leaves the image before or the image after, whole. After it the log says what
-- makes the image after.
pub record LoggingIsSafe (name at : ℕ) (changes : List (ℕ × List ℕ)) (image : ℕ → List ℕ) (d : Disk) : Type 0 where
  pub each_moment : (events : List Event) → IsMoment (log_plan name at changes) events
      → FindsEither name image (put changes image) (run events d)
  pub under_way : (events : List Event) → IsMoment (log_plan name at changes) events
      → IsUnderWay name image (put changes image) (run events d)
  pub current : IsCurrent name (at + record_units (length changes)) (put changes image) (run (map Did (log_plan name at changes)) d)

-- Where the log says what makes an image, a crash leaves that image, and so does one at each moment of a recovery, and after each failure of
-- it. After it all is at rest with that image.
pub record SettlingIsSafe (name : ℕ) (image : ℕ → List ℕ) (d : Disk) : Type 0 where
  pub finds : Finds name image d
  pub each_moment : (events : List Event) → IsMoment (recover_plan name d.log.shows) events → Finds name image (run events d)
  pub rest : IsAtRest image (run (map Did (recover_plan name d.log.shows)) d)

pub record CommitsAreSafe : Type 0 where
  pub begins : (name : ℕ) (image : ℕ → List ℕ) (d : Disk) → IsAtRest image d → IsCurrent name 0 image d
  pub logging : (name at : ℕ) → name < 2 ^ 64 → at < most → (changes : List (ℕ × List ℕ)) → Fits changes
      → (image : ℕ → List ℕ) (d : Disk) → IsCurrent name at image d → LoggingIsSafe name at changes image d
  pub settling : (name at : ℕ) (image : ℕ → List ℕ) (d : Disk) → IsCurrent name at image d → SettlingIsSafe name image d

-- At each moment of a recovery, and after each failure, the files stand as a commit may leave them, so that a crash leaves the image before
-- or the image after, and the next recovery finds it. After the recovery all is at rest: the image is what was to be found, the one before
-- or the one after.
pub record RecoveryIsSafe (name : ℕ) (before after : ℕ → List ℕ) (d : Disk) : Type 0 where
  pub found : ℕ → List ℕ
  pub found_is : recovered name d.log.shows d.image.shows ≡ Some found
  pub either : IsEither found before after
  pub each_moment : (events : List Event) → IsMoment (recover_plan name d.log.shows) events
      → IsUnderWay name before after (run events d)
  pub rest : IsAtRest found (run (map Did (recover_plan name d.log.shows)) d)

-- The files stand as a commit or a recovery may leave them; no write and no sync of a gate that isn't sure has failed since the last crash,
-- and nothing asked of the log since it was opened.
pub record IsRecoverable (name : ℕ) (before after : ℕ → List ℕ) (d : Disk) : Type 0 where
  pub under_way : IsUnderWayBy (λ h. h ≡ Stale → ⊥) name before after d
  pub sound : d.log.failed ≡ false

abbrev pub RecoveriesAreSafe : Type 0
RecoveriesAreSafe = (name : ℕ) (before after : Contents) (d : Disk) → IsRecoverable name before after d → RecoveryIsSafe name before after d

-- Where a commit or a recovery stands so, a crash leaves the one image or the other; and when the files are opened again, after a crash or
-- not, it stands so again.
pub record CrashIsSafe (name : ℕ) (before after : ℕ → List ℕ) (d : Disk) : Type 0 where
  pub finds : FindsEither name before after d
  pub again : (e : Disk) → Reopens d e → IsUnderWay name before after e
  pub recoverable : (log left : ℕ → List ℕ) → Leaves d log left → IsRecoverable name before after (restarted log left)

abbrev pub CrashesAreSafe : Type 0
CrashesAreSafe = (name : ℕ) (before after : Contents) (d : Disk) → IsUnderWay name before after d → CrashIsSafe name before after d

-- all is at rest, with the one image or the other
abbrev pub RestsWithEither : Contents → Contents → Disk → Type 0
RestsWithEither before after d = (found : Contents) × IsAtRest found d × IsEither found before after

-- what is done: changes are logged, or what the log says is settled
pub data Act : Type 0 where
  Put : List (ℕ × List ℕ) → Act
  Settle : Act

-- the steps of an act, where the next record goes to this place
abbrev pub act_plan : ℕ → Act → ℕ → Disk → List Step
act_plan name (Put changes) at d = log_plan name at changes
act_plan name Settle at d = recover_plan name d.log.shows

-- where the next record goes after it
abbrev pub act_place : Act → ℕ → ℕ
act_place (Put changes) at = at + record_units (length changes)
act_place Settle at = 0

abbrev pub act_image : Act → Contents → Contents
act_image (Put changes) image = put changes image
act_image Settle image = image

-- after acts, one behind the other
abbrev pub disk_after : ℕ → List Act → ℕ → Disk → Disk
disk_after name [] at d = d
disk_after name (a ∷ acts) at d = disk_after name acts (act_place a at) (run (map Did (act_plan name a at d)) d)

abbrev pub place_after : List Act → ℕ → ℕ
place_after [] at = at
place_after (a ∷ acts) at = place_after acts (act_place a at)

abbrev pub image_after : List Act → Contents → Contents
image_after [] image = image
image_after (a ∷ acts) image = image_after acts (act_image a image)

-- what is logged fits, and what the log says is settled before that is long
abbrev pub AreFit : List Act → ℕ → Type 0
AreFit [] at = ⊤
AreFit (Put changes ∷ acts) at = (at < most) × Fits changes × AreFit acts (at + record_units (length changes))
AreFit (Settle ∷ acts) at = AreFit acts 0

-- After any number of commits and settlings: at each moment of the next commit a crash leaves the image of the last one that was answered ok
-- or of the one that is under way, whole; at each moment of a settling, the image of the last one.
pub record RunIsSafe (name : ℕ) (acts : List Act) (image : ℕ → List ℕ) (d : Disk) : Type 0 where
  pub finds : Finds name (image_after acts image) (disk_after name acts 0 d)
  pub logging : (next : List (ℕ × List ℕ)) → AreFit (Put next ∷ []) (place_after acts 0) → (events : List Event)
      → IsMoment (log_plan name (place_after acts 0) next) events
      → FindsEither name (image_after acts image) (put next (image_after acts image)) (run events (disk_after name acts 0 d))
  pub settling : (events : List Event) → IsMoment (recover_plan name (disk_after name acts 0 d).log.shows) events
      → Finds name (image_after acts image) (run events (disk_after name acts 0 d))

abbrev pub RunsAreSafe : Type 0
RunsAreSafe = (name : ℕ) → name < 2 ^ 64 → (acts : List Act) → AreFit acts 0 → (image : Contents) (d : Disk) → IsAtRest image d
    → RunIsSafe name acts image d
