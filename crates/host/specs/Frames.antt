-- How many blocks a server keeps in memory.
use Rattle.std.specs.Prelude.{ℕ, ◌/◌, nat_lt, if◌then◌else◌, Option, None, Some}

-- as many as are said; else one for each whole 4096 bytes of the image, from 64 to 4096
abbrev pub frames_for : Option ℕ → ℕ → ℕ
frames_for (Some frames) length = frames
frames_for None length =
    let filled = length / 4096 in
    if nat_lt filled 64 then 64 else (if nat_lt filled 4096 then filled else 4096)
