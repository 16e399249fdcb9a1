-- How the two files may stand while a commit or a recovery is under way, and after a crash of either.
use Rattle.std.specs.Prelude.{◌≡◌, ◌⊎◌, ℕ, ◌+◌, ◌<◌, ◌≤◌, ◌^◌, List, [], ◌∷◌, ◌++◌, length, false, ⊤}
use Rattle.std.specs.List.{AllByRecursion}
use Rattle.std.specs.Str.{bytes_eq}
use Rattle.stable.specs.Disk.{Contents, Changes, put, Touches, Held, FileState, Keeps, Disk}
use Rattle.redo.specs.Record.{closed, count_in, record_units, record_standing, Redo, from, most}

-- changes that a record can say: their numbers, and how many there are, in 32 bits
pub record Fits (changes : List (ℕ × List ℕ)) : Type 0 where
  pub few : length changes < 2 ^ 32
  pub numbers : AllByRecursion (λ w. w.0 < 2 ^ 32) changes

-- all changes of records, in order
abbrev pub changes_of : List Changes → Changes
changes_of [] = []
changes_of (c ∷ records) = c ++ changes_of records

-- where the record behind these begins
abbrev pub place : List Changes → ℕ
place [] = 0
place (c ∷ records) = record_units (length c) + place records

-- the record at this place is open, and says these changes
abbrev pub IsRecord : ℕ → Contents → ℕ → Changes → Type 0
IsRecord name log at c = (record_standing name (from at log) ≡ Redo c) × (count_in (log (at + 1)) ≡ length c)

-- these are the records from this place on
abbrev pub AreRecords : ℕ → Contents → ℕ → List Changes → Type 0
AreRecords name log at [] = ⊤
AreRecords name log at (c ∷ records) = IsRecord name log at c × AreRecords name log (at + record_units (length c)) records

-- a log begins with these records, whatever stands behind them
abbrev pub Begins : ℕ → List Changes → Contents → Type 0
Begins name records log = (other : Contents) → ((n : ℕ) → n < place records → other n ≡ log n) → AreRecords name other 0 records

-- a file is sure to hold this, unit for unit, whatever a crash leaves
abbrev pub IsSure : FileState → Contents → Type 0
IsSure f c = (n : ℕ) → Keeps f n (c n)

-- All is at rest: the log's first gate is sure to be closed, the image is sure to be this one, and nothing asked of the log has failed.
pub record IsAtRest (image : ℕ → List ℕ) (d : Disk) : Type 0 where
  pub gate : Keeps d.log 0 closed
  pub image_is : IsSure d.image image
  pub sound : d.log.failed ≡ false

-- Changes make an image of whatever stands in the units of the image file that they set; each other unit is sure to be the image's.
pub record Makes (changes : List (ℕ × List ℕ)) (image : ℕ → List ℕ) (f : FileState) : Type 0 where
  pub made : (n : ℕ) → Touches changes n → (c : ℕ → List ℕ) → put changes c n ≡ image n
  pub rest : (n : ℕ) → Keeps f n (image n) ⊎ Touches changes n

-- the gate at this place is sure to be closed, or, behind records, to be another one than the head behind it
abbrev pub IsShut : ℕ → FileState → Type 0
IsShut at log = Keeps log at closed
    ⊎ ((gate : List ℕ) × (first : List ℕ) × (0 < at) × Keeps log at gate × Keeps log (at + 1) first × (bytes_eq gate first ≡ false))

-- The log is sure to say these records, and no more, and they make this image.
pub record IsLogged (name : ℕ) (records : List (List (ℕ × List ℕ))) (image : ℕ → List ℕ) (d : Disk) : Type 0 where
  pub log : ℕ → List ℕ
  pub says : Begins name records log
  pub few : length records ≤ most
  pub sure : (n : ℕ) → n < place records → Keeps d.log n (log n)
  pub shut : IsShut (place records) d.log
  pub makes : Makes (changes_of records) image d.image

-- The log is sure to say the first records, and where the gate behind them is open the others too, and no more. They make the one image or
-- the other. Of that gate this is so.
pub record IsWritten (G : Held → Type 0) (name : ℕ) (first others : List (List (ℕ × List ℕ))) (before after : ℕ → List ℕ) (d : Disk)
    : Type 0 where
  pub log : ℕ → List ℕ
  pub says_first : Begins name first log
  pub says : Begins name (first ++ others) log
  pub some : 0 < length others
  pub few : length (first ++ others) ≤ most
  pub gate : G (d.log.held (place first))
  pub sure : (n : ℕ) → n < place (first ++ others) → (n ≡ place first → ⊥) → Keeps d.log n (log n)
  pub shut : IsShut (place (first ++ others)) d.log
  pub makes_before : Makes (changes_of first) before d.image
  pub makes_after : Makes (changes_of (first ++ others)) after d.image

-- an image is the one or the other, unit for unit
abbrev pub IsEither : Contents → Contents → Contents → Type 0
IsEither image before after = ((n : ℕ) → image n ≡ before n) ⊎ ((n : ℕ) → image n ≡ after n)

-- what a commit keeps from its first step to its last, and a recovery after it too, where this is so of a gate that isn't sure
abbrev pub IsUnderWayBy : (Held → Type 0) → ℕ → Contents → Contents → Disk → Type 0
IsUnderWayBy G name before after d =
    ((image : Contents) × (records : List Changes) × IsEither image before after × IsLogged name records image d)
    ⊎ ((x : Contents) × (y : Contents) × (first : List Changes) × (others : List Changes)
    × IsEither x before after × IsEither y before after × IsWritten G name first others x y d)

-- of that gate nothing is said
abbrev pub AnyHow : Held → Type 0
AnyHow held = ⊤

abbrev pub IsUnderWay : ℕ → Contents → Contents → Disk → Type 0
IsUnderWay name before after d = IsUnderWayBy AnyHow name before after d

-- The log says what makes this image, and the next record goes to this place. So each recovery makes this image.
pub record IsCurrent (name at : ℕ) (image : ℕ → List ℕ) (d : Disk) : Type 0 where
  pub records : List (List (ℕ × List ℕ))
  pub at_is : place records ≡ at
  pub logged : IsLogged name records image d
  pub gate : Keeps d.log at closed
  pub sound : d.log.failed ≡ false
