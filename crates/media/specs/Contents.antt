-- What a media holds, and how calls change it.
use Rattle.std.specs.Prelude.{ℕ, ◌≡◌, ◌/◌, ◌≤◌, ◌&&◌, ◌==◌, Bool, List, [], All, length, max, nat_lt, fold, slice_set, if◌then◌else◌}
use Rattle.std.specs.Simd.{first_chunks}
use Rattle.std.proofs.Common.{get_or}

-- the sectors' bytes, and the current generation: the one that may move sectors
pub record MediaState : Type 0 where
  pub sectors : List (List ℕ)
  pub generation : ℕ

-- at most 131072 sectors of 512 bytes
pub record IsWhole (sectors : List (List ℕ)) : Type 0 where
  pub bounded : length sectors ≤ 131072
  pub each : All (λ s. length s ≡ 512) sectors

-- bytes cut into sectors of 512, in order
abbrev pub sectors_of : List ℕ → List (List ℕ)
sectors_of bytes = first_chunks 512 (length bytes / 512) bytes

-- the bytes of sector n
abbrev pub sector : MediaState → ℕ → List ℕ
sector m n = get_or m.sectors n []

-- generation g may move sector n: it is the current one, and there is such a sector
abbrev pub accepts : MediaState → ℕ → ℕ → Bool
accepts m g n = (g == m.generation) && nat_lt n (length m.sectors)

-- the media after new bytes were put into sector n under generation g; what isn't accepted changes nothing
abbrev pub written : MediaState → ℕ → ℕ → List ℕ → MediaState
written m g n bytes = if accepts m g n then record m { sectors = slice_set m.sectors n bytes } else m

-- the media after generation g was adopted: the current one is the greatest adopted so far
abbrev pub adopted : MediaState → ℕ → MediaState
adopted m g = record m { generation = max m.generation g }

-- the calls that can change media: `adopt g`, and `write_sector` and `tear` with generation, sector and bytes
pub data MediaCall : Type 0 where
  Adopt : ℕ → MediaCall
  Write : ℕ → ℕ → List ℕ → MediaCall
  Tear : ℕ → ℕ → List ℕ → MediaCall

-- the media after one call
abbrev pub media_after : MediaState → MediaCall → MediaState
media_after m (Adopt g) = adopted m g
media_after m (Write g n bytes) = written m g n bytes
media_after m (Tear g n bytes) = written m g n bytes

-- the sectors after these calls, in order, on new media with these sectors; no generation above 0 was adopted there
abbrev pub contents_after : List (List ℕ) → List MediaCall → List (List ℕ)
contents_after sectors calls = (fold media_after (record { sectors = sectors; generation = 0 }) calls).sectors
