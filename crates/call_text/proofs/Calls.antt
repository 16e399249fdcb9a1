-- Lines and their calls, one after the other.
use Rattle.std.proofs.Common.{◌≡◌, ℕ, ◌+◌, ◌≤◌, ◌<◌, get_or, List, [], ◌∷◌, ◌++◌, map, length, take, drop, sym, ap, ◌∙◌, arith, length-append}
use Rattle.std.specs.Prelude.{flat_map}
use Rattle.std.proofs.lemmas.List.{drop_more, flat_map_more, map-append, map_more, take_more}
use Rattle.std.proofs.Math.Seq.{take-append_seam, drop-append_seam}
use Rattle.lemmas.proofs.Lists.{front_of}
use Rattle.call_text.specs.Scripts.{line_bytes, line_call, plain_timed}
use Rattle.call_text.specs.declared.scripts.timed.TimedCall.{TimedCall}
use Rattle.call_text.specs.declared.scripts.timed.TimedLine.{TimedLine}

-- the bytes of the lines from this one on are this one's and the others'
bytes_split : (lines : List TimedLine) (i : ℕ) (d : TimedLine) → i < length lines
    → flat_map line_bytes (drop i lines) ≡ line_bytes (get_or lines i d) ++ flat_map line_bytes (drop (i + 1) lines)
bytes_split lines i d inside = ap (flat_map line_bytes) (drop_more lines i d inside)

-- the bytes of the lines so far and of one more
pub bytes_more : (lines : List TimedLine) (i : ℕ) (d : TimedLine) (old new : List ℕ) → i < length lines → old ≡ flat_map line_bytes (take i lines)
    → new ≡ old ++ line_bytes (get_or lines i d) → new ≡ flat_map line_bytes (take (i + 1) lines)
bytes_more lines i d old new inside h k =
    k ∙ ap (λ b. b ++ line_bytes (get_or lines i d)) h ∙ flat_map_more line_bytes [] (take i lines) (get_or lines i d)
    ∙ ap (flat_map line_bytes) (sym (take_more lines i d inside))

-- there are as many bytes left
pub bytes_left : (lines : List TimedLine) (i : ℕ) (d : TimedLine) (rest : List ℕ) (n : ℕ) → i < length lines → rest ≡ flat_map line_bytes (drop i lines)
    → n ≡ length (line_bytes (get_or lines i d)) → n ≤ length rest
bytes_left lines i d rest n inside h k = (front_of rest _ _ n (h ∙ bytes_split lines i d inside) k).0

-- the first are the line's
pub own_bytes : (lines : List TimedLine) (i : ℕ) (d : TimedLine) (rest own : List ℕ) (n : ℕ) → i < length lines → rest ≡ flat_map line_bytes (drop i lines)
    → n ≡ length (line_bytes (get_or lines i d)) → own ≡ take n rest → own ≡ line_bytes (get_or lines i d)
own_bytes lines i d rest own n inside h k is = is ∙ (front_of rest _ _ n (h ∙ bytes_split lines i d inside) k).1

-- the others are the later lines'
pub bytes_after : (lines : List TimedLine) (i : ℕ) (d : TimedLine) (rest after : List ℕ) (n : ℕ) → i < length lines → rest ≡ flat_map line_bytes (drop i lines)
    → n ≡ length (line_bytes (get_or lines i d)) → after ≡ drop n rest → after ≡ flat_map line_bytes (drop (i + 1) lines)
bytes_after lines i d rest after n inside h k is = is ∙ (front_of rest _ _ n (h ∙ bytes_split lines i d inside) k).2

-- the calls of the lines so far and of one more
pub calls_more : (lines : List TimedLine) (i : ℕ) (d : TimedLine) (old new : List TimedCall) (e : TimedCall) → i < length lines
    → map plain_timed old ≡ map line_call (take i lines) → new ≡ old ++ e ∷ [] → plain_timed e ≡ line_call (get_or lines i d)
    → map plain_timed new ≡ map line_call (take (i + 1) lines)
calls_more lines i d old new e inside h is k =
    ap (map plain_timed) is ∙ map-append plain_timed old (e ∷ []) ∙ ap (λ x. x ++ plain_timed e ∷ []) h ∙ ap (λ x. map line_call (take i lines) ++ x ∷ []) k
    ∙ sym (map_more line_call lines i d inside)
