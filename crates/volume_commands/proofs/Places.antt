-- Where a volume lies in a file.
use Rattle.std.proofs.Common.{◌≡◌, ◌≢◌, ◌≤◌, ◌%◌, ℕ, zero, suc, List, length, refl, ap, ◌∙◌}
use Rattle.std.specs.Prelude.{Result, Err, not, nat_lt, if◌then◌else◌}
use Rattle.std.proofs.lemmas.Bool.{ne_eqb, eq-eqb, le-ltb}
use Rattle.media.specs.Contents.{sectors_of}
use Rattle.media.specs.Places.{volume_place}
use Rattle.volume_commands.specs.declared.verify.NoVolume.{NoVolume}
use Rattle.volume_commands.specs.declared.verify.NoVolume.TheVariants.{NotSectors, TooManySectors}
use Rattle.volume_commands.specs.Verifying.{sectors_or, volume_at}

module _ (bytes : List ℕ) (m : ℕ) where
  -- what comes of the place
  abbrev looked_up : Result (List ℕ) NoVolume
  looked_up = sectors_or bytes (volume_place (sectors_of bytes) (suc m))

  -- the bytes are no sectors
  not_whole : length bytes % 512 ≢ 0 → volume_at bytes (suc m) ≡ Err NotSectors
  not_whole h = ap (λ b. if not b then Err NotSectors else (if nat_lt 67108864 (length bytes) then Err TooManySectors else looked_up)) (ne_eqb (length bytes % 512) 0 h)

  -- they are
  whole : length bytes % 512 ≡ 0 → volume_at bytes (suc m) ≡ (if nat_lt 67108864 (length bytes) then Err TooManySectors else looked_up)
  whole h = ap (λ b. if not b then Err NotSectors else (if nat_lt 67108864 (length bytes) then Err TooManySectors else looked_up)) (eq-eqb (length bytes % 512) 0 h)

  -- not too many
  few : length bytes % 512 ≡ 0 → length bytes ≤ 67108864 → volume_at bytes (suc m) ≡ looked_up
  few h small = whole h ∙ ap (λ b. if b then Err TooManySectors else looked_up) (le-ltb 67108864 (length bytes) small)

-- where the volume lies, by its place
pub at_place : (bytes : List ℕ) (minor : ℕ) → minor ≢ 0 → length bytes % 512 ≡ 0 → length bytes ≤ 67108864
    → volume_at bytes minor ≡ sectors_or bytes (volume_place (sectors_of bytes) minor)
at_place bytes zero some h small = absurd (some refl)
at_place bytes (suc m) some h small = few bytes m h small
