-- The marks beside the media of one volume: which units may have changed since the changes were last taken.
use Rattle.std.specs.Prelude.{◌≡◌, ℕ, ◌+◌, ◌/◌, List, [], ◌∷◌, Bool, false, length, map, replicate, Option, Some, None}
use Rattle.std.specs.List.{concat}
use Rattle.media.specs.Contents.{MediaState, sector, IsWhole}
use Rattle.records.specs.Opening.{Opening}
use Rattle.stable.specs.Disk.{Contents, Changes as Puts, put}
use Rattle.changes.specs.declared.taken.Changes.{Changes}
use Rattle.changes.specs.Units.{units_in, is_marked, marked, with_mark, with_marks, AgreesBut, AreTaken, puts_of, unit_of}
use Rattle.shared_media.specs.Confined.{IsImageOutside}

-- The media, a mark for each unit of eight sectors, and one for each of the volume's, counted from its first sector on: whether steps may
-- have written it; and the number that the sectors were published by, if no step may have written since.
pub record ConfinedState : Type 0 where
  pub media : MediaState
  pub marks : List Bool
  pub written : List Bool
  pub edition : Option ℕ

-- how many units media have; the last one may have fewer than eight sectors
abbrev pub units_of : MediaState → ℕ
units_of media = (length media.sectors + 7) / 8

-- media on which no step was taken, of a volume of so many sectors
abbrev pub fresh : ℕ → MediaState → ConfinedState
fresh count media =
    record { media = media; marks = replicate (units_of media) false; written = replicate ((count + 7) / 8) false; edition = None }

-- the same media, of which no unit is marked
abbrev pub unmarked : ConfinedState → ConfinedState
unmarked c = record c { marks = replicate (units_of c.media) false }

-- the unit of the sector that a step may write is marked too, if it names one
abbrev pub marked_for : Option ℕ → List Bool → List Bool
marked_for None marks = marks
marked_for (Some s) marks = with_mark marks (s / 8)

-- the media have as many sectors, and a sector whose unit isn't marked is as it was, and its unit wasn't marked before
pub record MarksChanges (old new : ConfinedState) : Type 0 where
  pub number : length new.media.sectors ≡ length old.media.sectors
  pub same : (n : ℕ) → is_marked new.marks (n / 8) ≡ false → sector new.media n ≡ sector old.media n
  pub still : (n : ℕ) → is_marked new.marks n ≡ false → is_marked old.marks n ≡ false

-- units of an image: the number of each, and its bytes
abbrev pub of_image : List ℕ → List ℕ → Puts
of_image image numbers = map (λ n. (n, unit_of image n)) numbers

-- Changes are exactly the marked units, with their bytes, of an image of as many sectors as were handed in, and outside of the volume as it
-- was handed in.
pub record AreChangesOutside (v : Opening) (changes : List (ℕ × List ℕ)) : Type 0 where
  pub image : List ℕ
  pub outside : IsImageOutside v image
  pub marks : List Bool
  pub as_many : length marks ≡ units_in image
  pub taken : changes ≡ of_image image (marked marks)

-- each of these states marks what changed since the one before it
abbrev pub EachMarks : ConfinedState → List ConfinedState → ConfinedState → Type 0
EachMarks first [] last = MarksChanges first last
EachMarks first (next ∷ rest) last = MarksChanges first next × EachMarks next rest last

-- contents agree with media but in marked units
abbrev pub AgreesWith : Contents → ConfinedState → Type 0
AgreesWith contents confined = AgreesBut confined.marks contents (concat confined.media.sectors)

-- contents that agree with media but in marked units do so after any number of steps
abbrev pub AgreesOn : Type 0
AgreesOn = (first : ConfinedState) (between : List ConfinedState) (last : ConfinedState) (contents : Contents)
    → IsWhole first.media.sectors → IsWhole last.media.sectors → EachMarks first between last
    → AgreesWith contents first → AgreesWith contents last

-- so what is taken after them makes the contents the media's image, unit for unit
abbrev pub TakenAfterSteps : Type 0
TakenAfterSteps = (first : ConfinedState) (between : List ConfinedState) (last : ConfinedState) (contents : Contents) (changes : Changes)
    → IsWhole first.media.sectors → IsWhole last.media.sectors → EachMarks first between last → AgreesWith contents first
    → AreTaken last.marks (concat last.media.sectors) changes
    → (n : ℕ) → put (puts_of changes) contents n ≡ unit_of (concat last.media.sectors) n

-- and where changes that were taken weren't kept, and their units are marked again after any number of steps, the contents agree still
abbrev pub MarkedAgain : Type 0
MarkedAgain = (first : ConfinedState) (between : List ConfinedState) (last : ConfinedState) (contents : Contents) (changes : Changes)
    → IsWhole first.media.sectors → IsWhole last.media.sectors → AgreesWith contents first
    → AreTaken first.marks (concat first.media.sectors) changes → length first.marks ≡ units_of first.media
    → EachMarks (unmarked first) between last → length last.marks ≡ units_of last.media
    → AgreesWith contents (record last { marks = with_marks last.marks changes.numbers.items })
