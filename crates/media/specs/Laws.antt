-- What holds of every list of calls on media, and of every image.
use Rattle.std.specs.Prelude.{ℕ, ◌≡◌, ◌≢◌, ◌<◌, ◌+◌, ◌*◌, ◌%◌, ◌==◌, ◌&&◌, true, List, [], ◌∷◌, ◌++◌, length, max, nat_lt, fold, slice_index, slice_set, if◌then◌else◌}
use Rattle.std.specs.List.{concat}
use Rattle.std.proofs.Common.{get_or}
use Rattle.media.specs.Contents.{MediaState, MediaCall, Adopt, Write, Tear, IsWhole, sector, sectors_of, accepts, written, media_after, contents_after}

-- the greatest generation adopted in these calls, 0 where none was
abbrev pub greatest_adopted : List MediaCall → ℕ
greatest_adopted [] = 0
greatest_adopted (Adopt g ∷ calls) = max g (greatest_adopted calls)
greatest_adopted (Write g n bytes ∷ calls) = greatest_adopted calls
greatest_adopted (Tear g n bytes ∷ calls) = greatest_adopted calls

-- these sectors with sector n set, where g is the greatest generation adopted in the calls and there is such a sector
abbrev pub changed_by : List MediaCall → ℕ → ℕ → List ℕ → List (List ℕ) → List (List ℕ)
changed_by calls g n bytes sectors = if (g == greatest_adopted calls) && nat_lt n (length sectors) then slice_set sectors n bytes else sectors

-- the contents of new media go from call to call: a write or a tear under the greatest generation adopted so far sets its sector
pub record ContentsFollow : Type 0 where
  pub first : (sectors : List (List ℕ)) → contents_after sectors [] ≡ sectors
  pub adopt : (sectors : List (List ℕ)) (calls : List MediaCall) (g : ℕ) → contents_after sectors (calls ++ Adopt g ∷ []) ≡ contents_after sectors calls
  pub write : (sectors : List (List ℕ)) (calls : List MediaCall) (g n : ℕ) (bytes : List ℕ)
      → contents_after sectors (calls ++ Write g n bytes ∷ []) ≡ changed_by calls g n bytes (contents_after sectors calls)
  pub tear : (sectors : List (List ℕ)) (calls : List MediaCall) (g n : ℕ) (bytes : List ℕ)
      → contents_after sectors (calls ++ Tear g n bytes ∷ []) ≡ changed_by calls g n bytes (contents_after sectors calls)

-- a revoked generation changes nothing, whatever was called since
abbrev pub RevokedForEver : Type 0
RevokedForEver = (m : MediaState) (g : ℕ) → g < m.generation → (calls : List MediaCall) (n : ℕ) (bytes : List ℕ)
    → let now : MediaState = fold media_after m calls in (media_after now (Write g n bytes) ≡ now) × (media_after now (Tear g n bytes) ≡ now)

-- an accepted write sets its sector; any write leaves the other sectors, their number and the generation
pub record ChangesOneSector : Type 0 where
  pub same : (m : MediaState) (g n : ℕ) (bytes : List ℕ) → accepts m g n ≡ true → sector (written m g n bytes) n ≡ bytes
  pub others : (m : MediaState) (g n k : ℕ) (bytes : List ℕ) → k ≢ n → sector (written m g n bytes) k ≡ sector m k
  pub number : (m : MediaState) (g n : ℕ) (bytes : List ℕ) → length (written m g n bytes).sectors ≡ length m.sectors
  pub generation : (m : MediaState) (g n : ℕ) (bytes : List ℕ) → (written m g n bytes).generation ≡ m.generation

-- cutting bytes into sectors and joining sectors undo one another, and byte o of sector s stands at 512 * s + o
pub record IsSameImage : Type 0 where
  pub joined : (bytes : List ℕ) → length bytes % 512 ≡ 0 → concat (sectors_of bytes) ≡ bytes
  pub cut : (sectors : List (List ℕ)) → IsWhole sectors → sectors_of (concat sectors) ≡ sectors
  pub long : (sectors : List (List ℕ)) → IsWhole sectors → length (concat sectors) ≡ 512 * length sectors
  pub places : (sectors : List (List ℕ)) → IsWhole sectors → (s o : ℕ) → s < length sectors → o < 512
      → slice_index (concat sectors) (512 * s + o) ≡ slice_index (get_or sectors s []) o
