-- Reading scripts.
use Rattle.std.proofs.Common.{◌≡◌, ℕ, ◌+◌, ◌<◌, List, [], ◌∷◌, ◌++◌, map, length, true, refl, sym, ap, ◌∙◌, append-nil, arith, Option, Some, None, Result, Ok, Err}
use Rattle.std.proofs.lemmas.Grind.{common_steps}
use Rattle.std.proofs.lemmas.Bool.Decides.{nat_tests}
use Rattle.std.proofs.lemmas.List.{length-map, map-append}
use Rattle.std.proofs.lemmas.List.Splits.{length-slice_split}
use Rattle.std.specs.Prelude.{◌==◌}
use Rattle.call_text.specs.Words.{words_of, lines_of}
use Rattle.call_text.proofs.Reading.{some_part, said_after, said_after-nil, said_by-end, lines_go_on, line_bad, lines_are_from, IsFrom}
use Rattle.call_text.specs.Scripts.{user_of, timed_of, timed_at, calls_in, with_user, script_of, script_of_lines, has_call, line_call}
use Rattle.call_text.specs.declared.scripts.timed.TimedCall.{TimedCall}
use Rattle.call_text.specs.declared.scripts.timed.TimedLine.{TimedLine}

-- there are more than three words where a space follows the third
pub more_than_three : (line rest third last first second next : List ℕ) → words_of line ≡ first ∷ words_of rest → words_of rest ≡ second ∷ words_of third → words_of third ≡ next ∷ words_of last
    → (a b c : List ℕ) → words_of line ≡ a ∷ b ∷ c ∷ [] → ⊥
more_than_three line rest third last first second next h k m a b c whole =
    let n = length-slice_split (λ x. x == 32) last in
    let all : words_of line ≡ first ∷ second ∷ next ∷ words_of last = h ∙ ap (λ l. first ∷ l) (k ∙ ap (λ l. second ∷ l) m) in
    let sizes : 3 ≡ length (first ∷ second ∷ next ∷ words_of last) = ap length (sym whole ∙ all) in
    absurd (omega arith)

script_of-line : (line : List ℕ) (lines : List (List ℕ)) → 0 < length lines → script_of_lines (line ∷ lines) ≡ with_user (user_of line) (calls_in 2 lines)
script_of-line line [] some = absurd (omega arith)
script_of-line line (next ∷ more) some = refl

-- what the text says, after the user's line and these
abbrev pub SaysSoFar : List ℕ → Option (ℕ × ℕ) → List TimedLine → List ℕ → Type 0
SaysSoFar text user done rest = script_of text ≡ with_user user (said_after (map line_call done) (calls_in (length done + 2) (lines_of rest)))

-- the first line is the user's
pub script_starts : (text first rest : List ℕ) (uid gid : ℕ) (done : List TimedLine) → done ≡ [] → lines_of text ≡ first ∷ lines_of rest → Some (uid, gid) ≡ user_of first
    → SaysSoFar text (Some (uid, gid)) done rest
script_starts text first rest uid gid done none split user =
    rw none
    (ap script_of_lines split ∙ script_of-line first (lines_of rest) (some_part 10 rest) ∙ ap (λ u. with_user u (calls_in 2 (lines_of rest))) (sym user)
    ∙ ap (with_user (Some (uid, gid))) (sym (said_after-nil (calls_in 2 (lines_of rest)))))

-- a line is a call's
pub script_goes_on : (text : List ℕ) (user : Option (ℕ × ℕ)) (done more : List TimedLine) (rest line after : List ℕ) (read : TimedLine) → more ≡ done ++ read ∷ []
    → SaysSoFar text user done rest → lines_of rest ≡ line ∷ lines_of after → Some (line_call read) ≡ timed_of line → SaysSoFar text user more after
script_goes_on text user done more rest line after read is h split said =
    let size : length (done ++ read ∷ []) + 2 ≡ length done + 2 + 1 = grind (arith, common_steps) in
    let next = h ∙ ap (with_user user)
    (lines_go_on timed_at (said_after (map line_call done) (calls_in (length done + 2) (lines_of rest))) (map line_call done) rest line after (length done + 2) (line_call read) refl split (sym said)) in
    rw (is, size, map-append line_call done (read ∷ [])) next

-- a line can't be read
pub script_bad : (text : List ℕ) (uid gid : ℕ) (done : List TimedLine) (rest line after : List ℕ) (number : ℕ) → number ≡ length done
    → SaysSoFar text (Some (uid, gid)) done rest → lines_of rest ≡ line ∷ lines_of after → None ≡ timed_of line → script_of text ≡ Err (number + 2)
script_bad text uid gid done rest line after number count h split said =
    h
    ∙ ap (with_user (Some (uid, gid)))
    (line_bad timed_at (said_after (map line_call done) (calls_in (length done + 2) (lines_of rest))) (map line_call done) rest line after (length done + 2) refl split (sym said))
    ∙ ap (λ n. Err (n + 2)) (sym count)

has_call-more : (uid gid : ℕ) (done : List TimedCall) (timed : TimedCall) (number : ℕ) (later : Result (List TimedCall) ℕ) → 1 < number → IsFrom (number + 1) later
    → has_call (with_user (Some (uid, gid)) (said_after (done ++ timed ∷ []) later)) ≡ true
has_call-more uid gid done timed number (Ok calls) least h =
    let size : 0 < length ((done ++ timed ∷ []) ++ calls) = grind (arith, common_steps) in grind (arith, nat_tests)
has_call-more uid gid done timed number (Err bad) least h = grind (arith, nat_tests)

-- a call's line was read
pub has_call_read : (text : List ℕ) (uid gid : ℕ) (done : List TimedLine) (rest line after : List ℕ) (read : TimedLine)
    → SaysSoFar text (Some (uid, gid)) done rest → lines_of rest ≡ line ∷ lines_of after → Some (line_call read) ≡ timed_of line → has_call (script_of text) ≡ true
has_call_read text uid gid done rest line after read h split said =
    let all = lines_go_on timed_at (said_after (map line_call done) (calls_in (length done + 2) (lines_of rest))) (map line_call done) rest line after (length done + 2) (line_call read) refl split (sym said) in
    ap has_call (h ∙ ap (with_user (Some (uid, gid))) all)
    ∙ has_call-more uid gid (map line_call done) (line_call read) (length done + 2) (calls_in (length done + 2 + 1) (lines_of after)) (omega arith)
    (lines_are_from timed_at (length done + 2 + 1) (lines_of after))

-- no line is left
pub script_ends : (text : List ℕ) (uid gid : ℕ) (done : List TimedLine) (rest : List ℕ) → SaysSoFar text (Some (uid, gid)) done rest → length rest ≡ 0
    → script_of text ≡ Ok (uid, gid, map line_call done)
script_ends text uid gid done rest h none =
    h ∙ ap (λ later. with_user (Some (uid, gid)) (said_after (map line_call done) later)) (said_by-end timed_at (length done + 2) rest none)
    ∙ ap (λ calls. Ok (uid, gid, calls)) (append-nil (map line_call done))

-- where lines were read there is a call to keep
pub call_kept : (text : List ℕ) (uid gid : ℕ) (lines : List TimedLine) → script_of text ≡ Ok (uid, gid, map line_call lines) → 0 < length lines → has_call (script_of text) ≡ true
call_kept text uid gid lines h some =
    let size : 0 < length (map line_call lines) = omega (arith, length-map lines line_call) in
    let first : has_call (Ok (uid, gid, map line_call lines)) ≡ true = grind (arith, nat_tests) in
    ap has_call h ∙ first
