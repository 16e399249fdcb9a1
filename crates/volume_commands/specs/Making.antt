-- What a making comes to.
use Rattle.std.specs.Prelude.{◌≡◌, ℕ, ◌-◌, List, ◌++◌, Ok, codes, decimal}
use Rattle.layout.specs.declared.Geometry.{Geometry}
use Rattle.tree.specs.Space.{data_zones}
use Rattle.new_volume.specs.Sizes.{sizes_of, refusal_name}
use Rattle.new_volume.specs.Made.{IsOwnedVolume, IsRefused}
use Rattle.volume_commands.specs.declared.make.Wanted.{Wanted}
use Rattle.volume_commands.specs.declared.make.CommandStatus.{CommandStatus}
use Rattle.volume_commands.specs.declared.make.CommandStatus.TheVariants.{Done, Refused}
use Rattle.volume_commands.specs.declared.make.MakeRefusal.{MakeRefusal}
use Rattle.volume_commands.specs.declared.make.MakeRefusal.TheVariants.{Mkfs, NotWritten}

-- the status of the process
abbrev pub status_number : CommandStatus → ℕ
status_number Done = 0
status_number (Refused told) = 1

-- the line about a volume: its first data zone, how many data zones it has and how many of them are free
abbrev pub line_text : ℕ → ℕ → ℕ → List ℕ
line_text first zones free =
    codes "first " ++ (decimal first ++ (codes " zones " ++ (decimal zones ++ (codes " free " ++ (decimal free ++ codes "\n")))))

-- that of a new volume, whose root takes one data zone
abbrev pub made_text : Geometry → List ℕ
made_text g = line_text g.first_zone (data_zones g) (data_zones g - 1)

-- the text of a refusal
abbrev pub refusal_text : MakeRefusal → List ℕ
refusal_text (Mkfs refusal) = refusal_name refusal
refusal_text NotWritten = codes "cannot write standard output"

-- the text where a file can't be written
abbrev pub unwritten_text : List ℕ → List ℕ
unwritten_text name = codes "cannot write " ++ name

-- the sizes of the volume that is wanted
abbrev pub HasSizes : Wanted → Geometry → Type 0
HasSizes w g = sizes_of w.blocks w.block_size w.inodes ≡ Ok g

-- the image is that of the volume that is wanted, and the line about it went out
abbrev pub IsMade : Wanted → List ℕ → (List ℕ → Type 0) → Type 0
IsMade w image WentOut =
    IsOwnedVolume w.blocks w.block_size w.inodes w.now (record { uid = w.uid; gid = w.gid }) image
    × ((g : Geometry) × HasSizes w g × WentOut (made_text g))

-- there is no such volume or no memory, and nothing went out; or a part of the line about it went out
abbrev pub IsUnmade : Wanted → MakeRefusal → Type 0 → (List ℕ → Type 0) → Type 0
IsUnmade w (Mkfs refusal) Nothing Part = IsRefused w.blocks w.block_size w.inodes refusal × Nothing
IsUnmade w NotWritten Nothing Part = (g : Geometry) × HasSizes w g × Part (made_text g)
