-- What a run starts from, and the requests that fit it.
use Rattle.std.specs.Prelude.{◌≡◌, ℕ, ◌*◌, ◌≤◌, List, length, take, drop, slice_index}
use Rattle.message.specs.declared.BlockRequest.{BlockRequest}
use Rattle.records.specs.Disk.{Contents}

-- where a volume lies on the media, in sectors
pub record Range : Type 0 where
  pub first : ℕ
  pub count : ℕ

-- the bytes of the volume in this range of the media
abbrev pub volume_bytes : Range → List ℕ → List ℕ
volume_bytes range image = take (512 * range.count) (drop (512 * range.first) image)

-- the same by place, 0 past the volume's end
abbrev pub volume_in : Range → List ℕ → Contents
volume_in range image = slice_index (volume_bytes range image)

-- the media's bytes as they were handed in; the volume's minor, its first sector on the media and how many sectors it has
pub record Opening : Type 0 where
  pub media : List ℕ
  pub first : ℕ
  pub count : ℕ
  pub minor : ℕ

-- the range of the volume
abbrev pub opening_range : Opening → Range
opening_range opening = record { first = opening.first; count = opening.count }

-- the volume's bytes by place as they were handed in
abbrev pub contents_at : Opening → Contents
contents_at opening = volume_in (opening_range opening) opening.media

-- a request is for the server's range of the media, of a block's bytes at most, and bears a block of bytes
pub record FitsMinor (minor : ℕ) (r : BlockRequest) : Type 0 where
  pub minor_is : r.minor ≡ minor
  pub count : r.count ≤ 4096
  pub bytes : length r.bytes ≡ 4096

-- the same, for the volume of an opening
abbrev pub Fits : Opening → BlockRequest → Type 0
Fits opening r = FitsMinor opening.minor r
