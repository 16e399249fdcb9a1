-- What playing scripts comes to.
use Rattle.std.specs.Prelude.{◌≡◌, ◌⊎◌, ℕ, List, Bool, true, false, ◌||◌, codes, Option, Some, None}
use Rattle.std.specs.Borrow.{Bor}
use Rattle.std.specs.Global.{Vec}
use Rattle.std.specs.List.{list_any}
use Rattle.layout.specs.declared.Geometry.{Geometry}
use Rattle.bdev.specs.DriverState.{DriverState}
use Rattle.reincarnate.specs.declared.policy.Setup.{Setup}
use Rattle.service_start.specs.StartupRefusals.{start_refusal_text}
use Rattle.service_start.specs.Starting.{opening_of}
use Rattle.service_start.specs.Servable.{IsNotServable, IsServable}
use Rattle.service_start.specs.Spent.{IsSpent}
use Rattle.call_text.specs.declared.scripts.timed.TimedCall.{TimedCall}
use Rattle.call_text.specs.declared.scripts.script_files.File.{File}
use Rattle.call_text.specs.declared.scripts.script_files.FileRefusal.{FileRefusal}
use Rattle.call_text.specs.declared.scripts.script_files.FileRefusal.TheVariants.{CannotRead}
use Rattle.call_text.specs.Files as files
use Rattle.reply_text.specs.declared.answers.Played.{Played}
use Rattle.reply_text.specs.Answers.{sessions_text}
use Rattle.tools.specs.Made.{has_eio}
use Rattle.tools.specs.Served.{AreServed, IsUnserved, service_text}
use Rattle.tools.specs.Status.{is_given_up, status_when}
use Rattle.shared_server.specs.declared.locked.LastSync.{LastSync}
use Rattle.serve.specs.Stopping.{is_as_read}
use Rattle.tools.specs.declared.play.ImageFile.{ImageFile}
use Rattle.tools.specs.declared.play.ImageLeft.{ImageLeft}
use Rattle.tools.specs.declared.play.PlayStatus.{PlayStatus}
use Rattle.tools.specs.declared.play.PlayRefusal.{PlayRefusal}
use Rattle.tools.specs.declared.play.PlayRefusal.TheVariants.{Files, Start, Service, OutOfMemory, NotWritten}

-- a service starts on the volume of these sizes, which lies in this range of the image and holds a tree
pub record IsStarted (image : ImageFile) (setup : Setup) (supply : List DriverState) (bytes : Vec ℕ) (g : Geometry)
    (range : ℕ × ℕ) : Type 0 where
  pub read : image.bytes ≡ Some bytes
  pub servable : IsServable bytes.items setup supply g range

-- a service starts on some volume in the image
abbrev pub IsStartedFor : ImageFile → Setup → List DriverState → Type 0
IsStartedFor image setup supply =
    (bytes : Vec ℕ) × (g : Geometry) × (range : ℕ × ℕ) × IsStarted image setup supply bytes g range

-- whether the device was given up: some call was answered EIO, or the last sync was
abbrev pub gave_up : List Played → LastSync → Bool
gave_up played last = list_any has_eio played || is_given_up last

-- how a play ends whose text all goes out
abbrev pub status_by : List Played → LastSync → PlayStatus
status_by played last = status_when (is_as_read last) (gave_up played last)

-- The files' scripts were played on the volume in the image, for which a service starts, each in a session of its own; then the service was
-- stopped: how its last sync went, and the image. (What is said of cuts, `IsSpent`, holds of every record.)
pub record IsPlayed (image : ImageFile) (scripts : List File) (setup : Setup) (supply : List DriverState) (played : List Played)
    (last : LastSync) (left : List ℕ) : Type 0 where
  pub bytes : Vec ℕ
  pub sizes : Geometry
  pub range : ℕ × ℕ
  pub started : IsStarted image setup supply bytes sizes range
  pub calls : List (ℕ × ℕ × List TimedCall)
  pub scripted : files.AreScripts scripts calls
  pub served : AreServed IsSpent sizes (opening_of bytes.items setup.minor range) calls played last left

-- why files aren't read: the image's, or else those of the scripts
abbrev pub AreUnread : Option (Vec ℕ) → Bor (List ℕ) → List File → FileRefusal → Type 0
AreUnread None name scripts refusal = refusal ≡ CannotRead name
AreUnread (Some bytes) name scripts refusal = files.IsRefused scripts refusal

-- why nothing is told of what came of scripts, in the order in which faults are looked for; where the service is refused calls may have
-- been made
abbrev pub IsUnplayed : ImageFile → List File → Setup → List DriverState → PlayRefusal → Type 0
IsUnplayed image scripts setup supply (Files refusal) = AreUnread image.bytes image.name scripts refusal
IsUnplayed image scripts setup supply (Start refusal) =
    ((bytes : Vec ℕ) × (image.bytes ≡ Some bytes) × IsNotServable bytes.items setup supply refusal)
    × ((calls : List (ℕ × ℕ × List TimedCall)) × files.AreScripts scripts calls)
IsUnplayed image scripts setup supply (Service refusal) =
    IsStartedFor image setup supply × ((calls : List (ℕ × ℕ × List TimedCall)) × files.AreScripts scripts calls)
    × IsUnserved IsSpent refusal
IsUnplayed image scripts setup supply OutOfMemory = ⊥
IsUnplayed image scripts setup supply NotWritten = ⊥

-- the scripts were played, so that a play ends whose text all goes out; of the text of their sessions this went out, and this image was left
abbrev pub IsShown : ImageFile → List File → Setup → List DriverState → PlayStatus → (List ℕ → Type 0) → Option ImageLeft → Type 0
IsShown image scripts setup supply ended WentOut left =
    (played : List Played) × (it : ImageLeft) × IsPlayed image scripts setup supply played it.last_sync it.bytes.items
    × (ended ≡ status_by played it.last_sync) × WentOut (sessions_text played) × (left ≡ Some it)

-- whether it is about writing
abbrev pub is_of_output : PlayRefusal → Bool
is_of_output OutOfMemory = true
is_of_output NotWritten = true
is_of_output _ = false

-- nothing went out, and no image was left: nothing was played, or memory ended once calls were made; or the scripts were played, a part of
-- their sessions' text went out, and the image was left
abbrev pub IsCutShort : ImageFile → List File → Setup → List DriverState → PlayRefusal → Type 0 → (List ℕ → Type 0) → Option ImageLeft
    → Type 0
IsCutShort image scripts setup supply refusal Nothing Part left =
    (Nothing × (left ≡ None) × IsUnplayed image scripts setup supply refusal)
    ⊎ ((is_of_output refusal ≡ true) × ((ended : PlayStatus) × IsShown image scripts setup supply ended Part left))

-- the text of a refusal
abbrev pub refusal_text : PlayRefusal → List ℕ
refusal_text (Files refusal) = files.refusal_text refusal
refusal_text (Start refusal) = start_refusal_text refusal
refusal_text (Service refusal) = service_text refusal
refusal_text OutOfMemory = codes "OutOfMemory"
refusal_text NotWritten = codes "cannot write standard output"
