-- What the calls of media answer, and the numbers of their refusals.
use Rattle.std.specs.Prelude.{ℕ, ◌==◌, List, Result, Ok, Err, codes, if◌then◌else◌}
use Rattle.media.specs.Contents.{MediaState, sector, accepts}
use Rattle.media.specs.declared.MediaRefusal.{MediaRefusal}
use Rattle.media.specs.declared.MediaRefusal.TheVariants.{NotWholeSectors, TooLarge, OutOfMemory}
use Rattle.media.specs.declared.SectorRefusal.{SectorRefusal}
use Rattle.media.specs.declared.SectorRefusal.TheVariants.{Revoked, PastEnd}

-- the names of the refusals to make media
abbrev pub media_refusal_name : MediaRefusal → List ℕ
media_refusal_name NotWholeSectors = codes "NotWholeSectors"
media_refusal_name TooLarge = codes "TooLarge"
media_refusal_name OutOfMemory = codes "OutOfMemory"

-- the numbers of the refusals to make media or an image
abbrev pub media_refusal_number : MediaRefusal → ℕ
media_refusal_number NotWholeSectors = 1
media_refusal_number TooLarge = 2
media_refusal_number OutOfMemory = 3

-- the numbers of the refusals to move a sector
abbrev pub sector_refusal_number : SectorRefusal → ℕ
sector_refusal_number Revoked = 1
sector_refusal_number PastEnd = 2

-- why a sector isn't moved under generation g: the generation is looked at before the sector
abbrev pub refusal_of : MediaState → ℕ → SectorRefusal
refusal_of m g = if g == m.generation then PastEnd else Revoked

-- what `read_sector` answers
abbrev pub read_answer : MediaState → ℕ → ℕ → Result (List ℕ) SectorRefusal
read_answer m g n = if accepts m g n then Ok (sector m n) else Err (refusal_of m g)

-- what `write_sector` and `tear` answer
abbrev pub write_answer : MediaState → ℕ → ℕ → Result (Unit {0}) SectorRefusal
write_answer m g n = if accepts m g n then Ok tt else Err (refusal_of m g)
