-- What a list of calls changes.
use Rattle.std.proofs.Common.{◌≡◌, ℕ, ◌<◌, ◌&&◌, Bool, true, false, List, [], ◌∷◌, ◌++◌, length, refl, ◌∙◌, ap, arith}
use Rattle.std.specs.Prelude.{◌==◌, max, nat_lt, fold, slice_set, if◌then◌else◌}
use Rattle.media.specs.Contents.{MediaState, MediaCall, Adopt, Write, Tear, accepts, written, media_after}
use Rattle.media.specs.Laws.{ContentsFollow, RevokedForEver, greatest_adopted, changed_by}
use Rattle.media.proofs.WrittenLaws.{generation-written, accepts-false}

-- the generation after calls is the greatest of the one before and those adopted
pub generation_after : (m : MediaState) (calls : List MediaCall) → (fold media_after m calls).generation ≡ max m.generation (greatest_adopted calls)
generation_after m [] = omega arith
generation_after m (Adopt g ∷ calls) = generation_after (media_after m (Adopt g)) calls ∙ omega arith
generation_after m (Write g n bytes ∷ calls) = generation_after (written m g n bytes) calls ∙ ap (λ x. max x (greatest_adopted calls)) (generation-written m g n bytes)
generation_after m (Tear g n bytes ∷ calls) = generation_after (written m g n bytes) calls ∙ ap (λ x. max x (greatest_adopted calls)) (generation-written m g n bytes)

-- one call after others is made on what they left
pub fold_last : (m : MediaState) (calls : List MediaCall) (c : MediaCall) → fold media_after m (calls ++ c ∷ []) ≡ media_after (fold media_after m calls) c
fold_last m [] c = refl
fold_last m (d ∷ calls) c = fold_last (media_after m d) calls c

-- a call of an earlier generation changes nothing
pub written_revoked : (m : MediaState) (g n : ℕ) (bytes : List ℕ) → g < m.generation → written m g n bytes ≡ m
written_revoked m g n bytes less = rw (accepts-false m g n (λ e. omega arith)) refl

-- nor does it ever after
pub revoked_for_ever : RevokedForEver
revoked_for_ever m g less calls n bytes =
    let now : MediaState = fold media_after m calls in
    let e : now.generation ≡ max m.generation (greatest_adopted calls) = generation_after m calls in
    let h : written now g n bytes ≡ now = written_revoked now g n bytes (omega arith) in
    (h, h)

-- the sectors after a write, by the test in it
sectors_written : (b : Bool) (m : MediaState) (n : ℕ) (bytes : List ℕ) → (if b then record m { sectors = slice_set m.sectors n bytes } else m).sectors ≡ (if b then slice_set m.sectors n bytes else m.sectors)
sectors_written true m n bytes = refl
sectors_written false m n bytes = refl

-- a write after other calls on new media
written_last : (sectors : List (List ℕ)) (calls : List MediaCall) (g n : ℕ) (bytes : List ℕ)
    → let start : MediaState = record { sectors = sectors; generation = 0 } in
    (written (fold media_after start calls) g n bytes).sectors ≡ changed_by calls g n bytes (fold media_after start calls).sectors
written_last sectors calls g n bytes =
    let start : MediaState = record { sectors = sectors; generation = 0 } in
    let now : MediaState = fold media_after start calls in
    let e : now.generation ≡ greatest_adopted calls = generation_after start calls ∙ omega arith in
    sectors_written (accepts now g n) now n bytes
    ∙ ap (λ (x : ℕ). if (g == x) && nat_lt n (length now.sectors) then slice_set now.sectors n bytes else now.sectors) e

-- the contents go from call to call
pub contents_follow : ContentsFollow
contents_follow = record {
  first = λ sectors. refl;
  adopt = λ sectors calls g. ap (λ (m : MediaState). m.sectors) (fold_last (record { sectors = sectors; generation = 0 }) calls (Adopt g));
  write = λ sectors calls g n bytes. ap (λ (m : MediaState). m.sectors) (fold_last (record { sectors = sectors; generation = 0 }) calls (Write g n bytes)) ∙ written_last sectors calls g n bytes;
  tear = λ sectors calls g n bytes. ap (λ (m : MediaState). m.sectors) (fold_last (record { sectors = sectors; generation = 0 }) calls (Tear g n bytes)) ∙ written_last sectors calls g n bytes;
}
