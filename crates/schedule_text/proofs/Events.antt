-- Lines and their events, one after the other.
use Rattle.std.proofs.Common.{◌≡◌, ℕ, ◌+◌, ◌≤◌, ◌<◌, get_or, List, [], ◌∷◌, ◌++◌, map, length, take, drop, true, false, refl, sym, ap, ◌∙◌, append-nil, arith, length-append, Some, None, Ok, Err}
use Rattle.std.specs.Prelude.{cond, codes, flat_map}
use Rattle.std.specs.Str.{bytes_eq}
use Rattle.std.proofs.lemmas.List.{drop_more, flat_map_more, length-map, map-append, map_more, take_more}
use Rattle.std.proofs.Math.Seq.{take-append_seam, drop-append_seam}
use Rattle.schedule.specs.declared.Event.{Event}
use Rattle.call_text.specs.Words.{words_of, lines_of}
use Rattle.call_text.specs.Lines.{said_by_lines, has_first}
use Rattle.std.proofs.lemmas.Bool.Decides.{nat_tests}
use Rattle.lemmas.proofs.Lists.{front_of}
use Rattle.call_text.proofs.Reading.{some_part, said_after, said_after-nil, said_by-end, lines_go_on, line_bad, has_first_read}
use Rattle.schedule_text.specs.Events.{arrival_of, event_at, event_of, event_but_call, has_event, line_bytes, line_event, plain_event, schedule_in}
use Rattle.schedule_text.specs.declared.line.Line.{Line}

-- no event but a call has more than three words
too_many : (name a b : List ℕ) (more : List (List ℕ)) → 0 < length more → event_but_call name (a ∷ b ∷ more) ≡ None
too_many name a b [] some = absurd (omega arith)
too_many name a b (c ∷ more) some = refl

-- a line of more than three words whose first isn't `call`
pub line_too_long : (line rest last end name a b : List ℕ) → words_of line ≡ name ∷ words_of rest → words_of rest ≡ a ∷ words_of last → words_of last ≡ b ∷ words_of end
    → bytes_eq name (codes "call") ≡ false → event_of (words_of line) ≡ None
line_too_long line rest last end name a b h k m differs =
    ap event_of h ∙ ap (λ c. cond c (arrival_of (words_of rest)) (event_but_call name (words_of rest))) differs
    ∙ ap (event_but_call name) (k ∙ ap (λ l. a ∷ l) m) ∙ too_many name a b (words_of end) (some_part 32 end)

-- the bytes of the lines from this one on are this one's and the others'
bytes_split : (lines : List Line) (i : ℕ) (d : Line) → i < length lines
    → flat_map line_bytes (drop i lines) ≡ line_bytes (get_or lines i d) ++ flat_map line_bytes (drop (i + 1) lines)
bytes_split lines i d inside = ap (flat_map line_bytes) (drop_more lines i d inside)

-- the bytes of the lines so far and of one more
pub bytes_more : (lines : List Line) (i : ℕ) (d : Line) (old new : List ℕ) → i < length lines → old ≡ flat_map line_bytes (take i lines)
    → new ≡ old ++ line_bytes (get_or lines i d) → new ≡ flat_map line_bytes (take (i + 1) lines)
bytes_more lines i d old new inside h k =
    k ∙ ap (λ b. b ++ line_bytes (get_or lines i d)) h ∙ flat_map_more line_bytes [] (take i lines) (get_or lines i d)
    ∙ ap (flat_map line_bytes) (sym (take_more lines i d inside))

-- there are as many bytes left
pub bytes_left : (lines : List Line) (i : ℕ) (d : Line) (rest : List ℕ) (n : ℕ) → i < length lines → rest ≡ flat_map line_bytes (drop i lines)
    → n ≡ length (line_bytes (get_or lines i d)) → n ≤ length rest
bytes_left lines i d rest n inside h k = (front_of rest _ _ n (h ∙ bytes_split lines i d inside) k).0

-- the first are the line's
pub own_bytes : (lines : List Line) (i : ℕ) (d : Line) (rest own : List ℕ) (n : ℕ) → i < length lines → rest ≡ flat_map line_bytes (drop i lines)
    → n ≡ length (line_bytes (get_or lines i d)) → own ≡ take n rest → own ≡ line_bytes (get_or lines i d)
own_bytes lines i d rest own n inside h k is = is ∙ (front_of rest _ _ n (h ∙ bytes_split lines i d inside) k).1

-- the others are the later lines'
pub bytes_after : (lines : List Line) (i : ℕ) (d : Line) (rest after : List ℕ) (n : ℕ) → i < length lines → rest ≡ flat_map line_bytes (drop i lines)
    → n ≡ length (line_bytes (get_or lines i d)) → after ≡ drop n rest → after ≡ flat_map line_bytes (drop (i + 1) lines)
bytes_after lines i d rest after n inside h k is = is ∙ (front_of rest _ _ n (h ∙ bytes_split lines i d inside) k).2

-- the events of the lines so far and of one more
pub events_more : (lines : List Line) (i : ℕ) (d : Line) (old new : List Event) (e : Event) → i < length lines
    → map plain_event old ≡ map line_event (take i lines) → new ≡ old ++ e ∷ [] → plain_event e ≡ line_event (get_or lines i d)
    → map plain_event new ≡ map line_event (take (i + 1) lines)
events_more lines i d old new e inside h is k =
    ap (map plain_event) is ∙ map-append plain_event old (e ∷ []) ∙ ap (λ x. x ++ plain_event e ∷ []) h ∙ ap (λ x. map line_event (take i lines) ++ x ∷ []) k
    ∙ sym (map_more line_event lines i d inside)

-- what the text says, after these lines were read
abbrev pub SaysSoFar : List ℕ → List Line → List ℕ → Type 0
SaysSoFar text done rest = schedule_in text ≡ said_after (map line_event done) (said_by_lines event_at (length done + 1) (lines_of rest))

-- at first none was
pub none_so_far : (text : List ℕ) (done : List Line) → done ≡ [] → SaysSoFar text done text
none_so_far text done none = rw none (sym (said_after-nil (schedule_in text)))

-- one more line
pub line_read : (text rest line after : List ℕ) (done more : List Line) (read : Line) (number : ℕ) → number ≡ length done → more ≡ done ++ read ∷ []
    → SaysSoFar text done rest → lines_of rest ≡ line ∷ lines_of after → Some (line_event read) ≡ event_at (number + 1) line → SaysSoFar text more after
line_read text rest line after done more read number count is h split said =
    let size : length (done ++ read ∷ []) ≡ length done + 1 = omega (arith, length-append done (read ∷ [])) in
    let here : event_at (length done + 1) line ≡ Some (line_event read) = ap (λ n. event_at (n + 1) line) (sym count) ∙ sym said in
    let next = lines_go_on event_at (schedule_in text) (map line_event done) rest line after (length done + 1) (line_event read) h split here in
    rw (is, size, map-append line_event done (read ∷ [])) next

-- a line that can't be read
pub line_not_read : (text rest line after : List ℕ) (done : List Line) (number : ℕ) → number ≡ length done
    → SaysSoFar text done rest → lines_of rest ≡ line ∷ lines_of after → None ≡ event_at (number + 1) line → schedule_in text ≡ Err (number + 1)
line_not_read text rest line after done number count h split said =
    let here : event_at (length done + 1) line ≡ None = ap (λ n. event_at (n + 1) line) (sym count) ∙ sym said in
    line_bad event_at (schedule_in text) (map line_event done) rest line after (length done + 1) h split here ∙ ap (λ n. Err (n + 1)) (sym count)

-- there is an event to keep
pub line_to_keep : (text rest line after : List ℕ) (done : List Line) (read : Line) (number : ℕ) → number ≡ length done
    → SaysSoFar text done rest → lines_of rest ≡ line ∷ lines_of after → Some (line_event read) ≡ event_at (number + 1) line → has_event text ≡ true
line_to_keep text rest line after done read number count h split said =
    let here : event_at (length done + 1) line ≡ Some (line_event read) = ap (λ n. event_at (n + 1) line) (sym count) ∙ sym said in
    has_first_read event_at (schedule_in text) (map line_event done) rest line after 1 (length done + 1) (line_event read) h split here (omega arith)

-- no line is left
pub all_read : (text rest : List ℕ) (done : List Line) → SaysSoFar text done rest → length rest ≡ 0 → schedule_in text ≡ Ok (map line_event done)
all_read text rest done h none =
    h ∙ ap (said_after (map line_event done)) (said_by-end event_at (length done + 1) rest none) ∙ ap Ok (append-nil (map line_event done))

-- where lines were read there is an event to keep
pub event_kept : (text : List ℕ) (lines : List Line) → schedule_in text ≡ Ok (map line_event lines) → 0 < length lines → has_event text ≡ true
event_kept text lines h some =
    let size : 0 < length (map line_event lines) = omega (arith, length-map lines line_event) in
    let first : has_first 1 (Ok (map line_event lines)) ≡ true = grind (arith, nat_tests) in
    ap (has_first 1) h ∙ first
