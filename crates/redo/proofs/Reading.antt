-- What is read of the log while the image alone is written.
use Rattle.std.proofs.Common.{◌≡◌, ℕ, ◌+◌, ◌-◌, ◌<◌, ◌≤◌, zero, suc, List, [], ◌∷◌, ◌++◌, length, map, drop, get_or, sym, ◌∙◌, ap, subst, arith, append_assoc, Option, Some, None, add-one}
use Rattle.std.specs.List.{zip, flat_map}
use Rattle.std.proofs.lemmas.Grind.{flat_map-append}
use Rattle.std.proofs.lemmas.List.{append-nil, map-append}
use Rattle.stable.specs.declared.Which.TheVariants.{Log, Image}
use Rattle.stable.specs.Disk.{Contents, Changes, Step, Write, Sync, Event, Did, Disk, run, done}
use Rattle.stable.specs.Runs.{Known, now, Happens, Knows, Reads, ShowsLog}
use Rattle.redo.specs.Record.{numbers_in, window}
use Rattle.redo.specs.Runs.{Run, singly}
use Rattle.redo.specs.Plans.{run_write}
use Rattle.redo.proofs.Writing.{one_less}
use Rattle.redo.proofs.Left.{Left, left_as}
use Rattle.redo.proofs.Moments.{run-append}

pub shows_after : (log : Contents) (es : List Event) (a b : Option Known) → ((d : Disk) → ShowsLog log d → ShowsLog log (run es d)) → Happens es a b → Knows (ShowsLog log) a → Knows (ShowsLog log) b
shows_after log es None b keeps h k = absurd k
shows_after log es (Some a) b keeps h k =
    subst (Knows (ShowsLog log)) (sym h) (subst (ShowsLog log) (sym (run-append a.events es a.first)) (keeps (now a) k))

pub shows_same : (log : Contents) (a b : Option Known) → Happens [] a b → Knows (ShowsLog log) a → Knows (ShowsLog log) b
shows_same log a b h k = shows_after log [] a b (λ d s. s) h k

pub shows_write : (log : Contents) (n : ℕ) (units : List (List ℕ)) (a b : Option Known) → Happens (Did (Write Image n units) ∷ []) a b → Knows (ShowsLog log) a → Knows (ShowsLog log) b
shows_write log n units a b h k = shows_after log (Did (Write Image n units) ∷ []) a b (λ d s. s) h k

pub shows_synced : (log : Contents) (a b : Option Known) → Happens (Did (Sync Log) ∷ []) a b → Knows (ShowsLog log) a → Knows (ShowsLog log) b
shows_synced log a b h k = shows_after log (Did (Sync Log) ∷ []) a b (λ d s. s) h k

pub reads_log : (log : Contents) (a : Option Known) (n : ℕ) (bytes : List ℕ) → Knows (ShowsLog log) a → Reads a Log n bytes → bytes ≡ log n
reads_log log None n bytes k r = absurd k
reads_log log (Some a) n bytes k r = r k.0 ∙ k.1 n

-- the log while runs go to the image
runs_show : (log : Contents) (runs : List Run) (d : Disk) → ShowsLog log d → ShowsLog log (run (map Did (map (run_write Image) runs)) d)
runs_show log [] d s = s
runs_show log (r ∷ runs) d s = runs_show log runs (done d (Write Image r.0 r.1)) s

pub shows_runs : (log : Contents) (runs : List Run) (a b : Option Known) → Happens (map Did (map (run_write Image) runs)) a b → Knows (ShowsLog log) a → Knows (ShowsLog log) b
shows_runs log runs a b h k = shows_after log (map Did (map (run_write Image) runs)) a b (runs_show log runs) h k

-- the next record's changes in front
pub record_left : (plan : List Step) (a b : Option Known) (whole says rest : Changes) (tail : List Step) → whole ≡ says ++ rest → Left plan a b (map (run_write Image) (singly whole) ++ tail)
    → Left plan a b (map (run_write Image) (singly says) ++ (map (run_write Image) (singly rest) ++ tail))
record_left plan a b whole says rest tail is h =
    left_as plan _ _ a b
    (ap (λ (l : Changes). map (run_write Image) (singly l) ++ tail) is
    ∙ ap (λ (l : List Run). map (run_write Image) l ++ tail) (map-append (λ (w : ℕ × List ℕ). (w.0, w.1 ∷ [])) says rest)
    ∙ ap (λ (l : List Step). l ++ tail) (map-append (run_write Image) (singly says) (singly rest))
    ∙ append_assoc (map (run_write Image) (singly says)) (map (run_write Image) (singly rest)) tail)
    h

-- one unit of the directory more
window_more : (c : Contents) (at k : ℕ) → window c at (suc k) ≡ window c at k ++ c (at + k) ∷ []
window_more c at zero = ap (λ (n : ℕ). c n ∷ []) (let e : at ≡ at + 0 = omega arith in e)
window_more c at (suc k) =
    ap (λ (l : List (List ℕ)). c at ∷ l) (window_more c (at + 1) k)
    ∙ ap (λ (n : ℕ). c at ∷ (window c (at + 1) k ++ c n ∷ [])) (let e : at + 1 + k ≡ at + suc k = omega arith in e)

-- the numbers of one unit more
pub numbers_more : (log : Contents) (old new unit : List ℕ) (i : ℕ) → old ≡ flat_map numbers_in (window log 2 i) → unit ≡ log (2 + i) → new ≡ old ++ numbers_in unit → new ≡ flat_map numbers_in (window log 2 (i + 1))
numbers_more log old new unit i was is more =
    more
    ∙ ap (λ (l : List ℕ). l ++ numbers_in unit) was
    ∙ ap (λ (l : List ℕ). flat_map numbers_in (window log 2 i) ++ numbers_in l) is
    ∙ ap (λ (l : List ℕ). flat_map numbers_in (window log 2 i) ++ l) (sym (append-nil (numbers_in (log (2 + i)))))
    ∙ sym (flat_map-append numbers_in (window log 2 i) (log (2 + i) ∷ []))
    ∙ ap (λ (l : List (List ℕ)). flat_map numbers_in l) (sym (window_more log 2 i))
    ∙ ap (λ (k : ℕ). flat_map numbers_in (window log 2 k)) (sym (add-one i))

-- the next of the changes that a log says
pub redo_next : (log : Contents) (numbers : List ℕ) (first count i : ℕ) → i < length numbers → length numbers ≤ count
    → map (run_write Image) (singly (zip (drop i numbers) (window log (first + i) (count - i))))
    ≡ Write Image (get_or numbers i 0) (log (first + i) ∷ []) ∷ map (run_write Image) (singly (zip (drop (i + 1) numbers) (window log (first + (i + 1)) (count - (i + 1)))))
redo_next log numbers first count i lt le =
    let one : count - i ≡ suc (count - (i + 1)) = omega arith in
    ap (λ (k : ℕ). map (run_write Image) (singly (zip (drop i numbers) (window log (first + i) k)))) one
    ∙ ap (λ (l : List ℕ). map (run_write Image) (singly (zip l (window log (first + i) (suc (count - (i + 1))))))) (one_less numbers i lt)
    ∙ ap (λ (n : ℕ). Write Image (get_or numbers i 0) (log (first + i) ∷ []) ∷ map (run_write Image) (singly (zip (drop (i + 1) numbers) (window log n (count - (i + 1)))))) (let e : first + i + 1 ≡ first + (i + 1) = omega arith in e)

-- the next of the changes that a log says, as they are read
pub next_change : (log : Contents) (numbers : List ℕ) (first count i : ℕ) → i < length numbers → length numbers ≤ count
    → zip (drop i numbers) (window log (first + i) (count - i)) ≡ (get_or numbers i 0, log (first + i)) ∷ zip (drop (i + 1) numbers) (window log (first + (i + 1)) (count - (i + 1)))
next_change log numbers first count i lt le =
    let one : count - i ≡ suc (count - (i + 1)) = omega arith in
    ap (λ (k : ℕ). zip (drop i numbers) (window log (first + i) k)) one
    ∙ ap (λ (l : List ℕ). zip l (window log (first + i) (suc (count - (i + 1))))) (one_less numbers i lt)
    ∙ ap (λ (n : ℕ). (get_or numbers i 0, log (first + i)) ∷ zip (drop (i + 1) numbers) (window log n (count - (i + 1)))) (let e : first + i + 1 ≡ first + (i + 1) = omega arith in e)

-- one of them more was read
pub changes_more : (log : Contents) (numbers bytes : List ℕ) (old new whole : Changes) (first count i : ℕ) → i < length numbers → length numbers ≤ count
    → bytes ≡ log (first + i) → new ≡ old ++ (get_or numbers i 0, bytes) ∷ []
    → old ++ zip (drop i numbers) (window log (first + i) (count - i)) ≡ whole
    → new ++ zip (drop (i + 1) numbers) (window log (first + (i + 1)) (count - (i + 1))) ≡ whole
changes_more log numbers bytes old new whole first count i lt le is more was =
    let rest : Changes = zip (drop (i + 1) numbers) (window log (first + (i + 1)) (count - (i + 1))) in
    ap (λ (l : Changes). l ++ rest) more
    ∙ append_assoc old ((get_or numbers i 0, bytes) ∷ []) rest
    ∙ ap (λ (v : List ℕ). old ++ (get_or numbers i 0, v) ∷ rest) is
    ∙ ap (λ (l : Changes). old ++ l) (sym (next_change log numbers first count i lt le))
    ∙ was
