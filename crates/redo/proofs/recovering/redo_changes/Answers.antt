use Rattle.std.proofs.Common.{◌≡◌, ℕ, ◌+◌, ◌-◌, ◌<◌, ◌≤◌, List, [], ◌∷◌, length, map, drop, get_or, sym, ◌∙◌, ap, arith, Option}
use Rattle.std.proofs.lemmas.List.{drop_all}
use Rattle.std.specs.List.{zip}
use Rattle.stable.specs.declared.Which.TheVariants.{Image}
use Rattle.stable.specs.Disk.{Contents, Step, Write}
use Rattle.stable.specs.Runs.{Known}
use Rattle.redo.specs.Record.{changes_in, first_data, from, numbers_of, window}
use Rattle.redo.specs.Runs.{singly}
use Rattle.redo.specs.Plans.{run_write}
use Rattle.redo.proofs.Left.{Left, left_as, left_same, gives_up, part_stops, none_left, step_done}
use Rattle.redo.proofs.Reading.{reads_log, shows_same, shows_write, redo_next}
use Rattle.redo.proofs.recovering.redo_changes.Goals as goal

-- the rest of it, with the next of the changes in front
next_left : (plan : List Step) (a b : Option Known) (log : Contents) (numbers bytes : List ℕ) (first count i : ℕ) → i < length numbers → length numbers ≤ count → bytes ≡ log (first + i)
    → Left plan a b (map (run_write Image) (singly (zip (drop i numbers) (window log (first + i) (count - i)))))
    → Left plan a b (Write Image (get_or numbers i 0) (bytes ∷ []) ∷ map (run_write Image) (singly (zip (drop (i + 1) numbers) (window log (first + (i + 1)) (count - (i + 1))))))
next_left plan a b log numbers bytes first count i lt le is h =
    left_as plan _ _ a b
    (redo_next log numbers first count i lt le
    ∙ ap (λ (v : List ℕ). Write Image (get_or numbers i 0) (v ∷ []) ∷ map (run_write Image) (singly (zip (drop (i + 1) numbers) (window log (first + (i + 1)) (count - (i + 1)))))) (sym is))
    h

-- none is left
none_more : (plan : List Step) (a b : Option Known) (log : Contents) (numbers : List ℕ) (first count i : ℕ) → length numbers ≤ i
    → Left plan a b (map (run_write Image) (singly (zip (drop i numbers) (window log (first + i) (count - i))))) → Left plan a b []
none_more plan a b log numbers first count i le h =
    left_as plan _ _ a b (ap (λ (l : List ℕ). map (run_write Image) (singly (zip l (window log (first + i) (count - i))))) (drop_all i numbers le)) h

-- at first all is left
first_left : (a b : Option Known) (log : Contents) (numbers : List ℕ) (first count i : ℕ) → i ≡ 0 → first ≡ first_data count → numbers ≡ numbers_of log count
    → Left (map (run_write Image) (singly (changes_in log count))) a b (map (run_write Image) (singly (changes_in log count)))
    → Left (map (run_write Image) (singly (changes_in log count))) a b (map (run_write Image) (singly (zip (drop i numbers) (window log (first + i) (count - i)))))
first_left a b log numbers first count i zero_i is_first is h =
    left_as (map (run_write Image) (singly (changes_in log count))) _ _ a b
    (ap (λ (l : List ℕ). map (run_write Image) (singly (zip l (window log (first_data count) count)))) (sym is)
    ∙ ap (λ (k : ℕ). map (run_write Image) (singly (zip numbers (window log k count)))) (let e : first_data count ≡ first + 0 = omega (arith, is_first) in e)
    ∙ ap (λ (k : ℕ). map (run_write Image) (singly (zip numbers (window log (first + 0) k)))) (let e : count ≡ count - 0 = omega arith in e)
    ∙ ap (λ (k : ℕ). map (run_write Image) (singly (zip (drop k numbers) (window log (first + k) (count - k))))) (sym zero_i))
    h

pub returns-in_err-bytes : goal.returns-in_err-bytes
returns-in_err-bytes g c log shows =
    gives_up _ _ _ _ c.from_residual-in_err-bytes.result c.from_residual-in_err-bytes.ensures.0
    (left_same _ _ _ _ _ (c.loop-i.invariant.left log shows) c.in_err-bytes.ensures.same)

pub returns-in_err-write : goal.returns-in_err-write
returns-in_err-write g c log shows =
    let at = g.S.Storage.known c.loop-i.storage in
    let is = reads_log log at _ c.in_ok-bytes.bytes (c.loop-i.invariant.shows log shows) c.in_ok-bytes.ensures.bytes in
    part_stops _ (Write Image (get_or c.deref-n-items.result.now c.loop-i.i 0) (c.in_ok-bytes.bytes ∷ []) ∷ []) _ _ _ _ c.from_residual-in_err-write.result c.from_residual-in_err-write.ensures.0
    (left_same _ _ _ _ _ (next_left _ _ _ (from c.args.at log) c.deref-n-items.result.now c.in_ok-bytes.bytes _ c.args.count c.loop-i.i c.loop-i-test.true c.loop-i.invariant.few is (c.loop-i.invariant.left log shows)) c.in_ok-bytes.ensures.same)
    c.in_err-write.ensures

pub loop-i-preserved : goal.loop-i-preserved
loop-i-preserved g c =
    let at = g.S.Storage.known c.loop-i.storage in
    record {
      few = c.loop-i.invariant.few;
      left = λ log shows.
          let is = reads_log log at _ c.in_ok-bytes.bytes (c.loop-i.invariant.shows log shows) c.in_ok-bytes.ensures.bytes in
          step_done _ _ _ _ _ _
          (left_same _ _ _ _ _ (next_left _ _ _ (from c.args.at log) c.deref-n-items.result.now c.in_ok-bytes.bytes _ c.args.count c.loop-i.i c.loop-i-test.true c.loop-i.invariant.few is (c.loop-i.invariant.left log shows)) c.in_ok-bytes.ensures.same)
          c.in_ok-write.ensures;
      shows = λ log shows. shows_write log _ _ _ _ c.in_ok-write.ensures (shows_same log _ _ c.in_ok-bytes.ensures.same (c.loop-i.invariant.shows log shows));
    }

pub returns : goal.returns
returns g c log shows =
    none_left _ _ _ (none_more _ _ _ (from c.args.at log) c.deref-n-items.result.now _ c.args.count c.loop-i.i c.loop-i-test.false (c.loop-i.invariant.left log shows))
