-- What a commit's plan writes, and how often it syncs.
use Rattle.std.proofs.Common.{◌≡◌, ℕ, zero, suc, ◌+◌, List, [], ◌∷◌, ◌++◌, length, map, drop, refl, sym, ◌∙◌, ap, arith, length-append}
use Rattle.std.proofs.lemmas.List.{length-map}
use Rattle.stable.specs.declared.Which.{Which}
use Rattle.stable.specs.declared.Which.TheVariants.{Log, Image}
use Rattle.stable.specs.Disk.{Changes, Step, Write, Sync, numbered}
use Rattle.redo.specs.Record.{head, closed, body, directory, directory_units, first_data, record_units}
use Rattle.redo.specs.Runs.{Run, singly, by_sixteen, spread}
use Rattle.redo.specs.Plans.{run_write, runs_of, to_write, to_gate}
use Rattle.redo.specs.Costs.{writes, units_written, syncs, Costs}
use Rattle.redo.proofs.Units.{spread_singly}
use Rattle.redo.proofs.Spelled.{length-directory, length-body}
use Rattle.redo.proofs.CommitLaws.{body_runs, body_runs_are, body_spread, behind}

writes-append : (xs ys : List Step) → writes (xs ++ ys) ≡ writes xs + writes ys
writes-append [] ys = omega arith
writes-append (Write file at units ∷ xs) ys = omega (arith, writes-append xs ys)
writes-append (Sync file ∷ xs) ys = writes-append xs ys

units-append : (xs ys : List Step) → units_written (xs ++ ys) ≡ units_written xs + units_written ys
units-append [] ys = omega arith
units-append (Write file at units ∷ xs) ys = omega (arith, units-append xs ys)
units-append (Sync file ∷ xs) ys = units-append xs ys

syncs-append : (xs ys : List Step) → syncs (xs ++ ys) ≡ syncs xs + syncs ys
syncs-append [] ys = omega arith
syncs-append (Write file at units ∷ xs) ys = syncs-append xs ys
syncs-append (Sync file ∷ xs) ys = omega (arith, syncs-append xs ys)

length-numbered : (units : List (List ℕ)) (at : ℕ) → length (numbered at units) ≡ length units
length-numbered [] at = refl
length-numbered (u ∷ units) at = ap suc (length-numbered units (at + 1))

run_writes : (file : Which) (runs : List Run) → writes (map (run_write file) runs) ≡ length runs
run_writes file [] = refl
run_writes file (r ∷ runs) = omega (arith, run_writes file runs)

run_syncs : (file : Which) (runs : List Run) → syncs (map (run_write file) runs) ≡ 0
run_syncs file [] = refl
run_syncs file (r ∷ runs) = run_syncs file runs

run_units : (file : Which) (runs : List Run) → units_written (map (run_write file) runs) ≡ length (spread runs)
run_units file [] = refl
run_units file (r ∷ runs) =
    ap (λ (k : ℕ). length r.1 + k) (run_units file runs)
    ∙ ap (λ (k : ℕ). k + length (spread runs)) (sym (length-numbered r.1 r.0))
    ∙ sym (length-append (numbered r.0 r.1) (spread runs))

length_sixteen : (k at : ℕ) (units : List (List ℕ)) → length (by_sixteen k at units) ≡ k
length_sixteen zero at units = refl
length_sixteen (suc k) at units = ap suc (length_sixteen k (at + 16) (drop 16 units))

module _ (name at : ℕ) (changes : Changes) where
  abbrev runs : List Run
  runs = body_runs name at (map (λ (w : ℕ × List ℕ). w.0) changes) (map (λ (w : ℕ × List ℕ). w.1) changes)

  abbrev rest : List Step
  rest = Sync Log ∷ []

  are : to_write name at changes ≡ map (run_write Log) runs ++ rest
  are = ap (λ (l : List Step). l ++ rest) (body_runs_are name at (map (λ (w : ℕ × List ℕ). w.0) changes) (map (λ (w : ℕ × List ℕ). w.1) changes))

  count_runs : length runs ≡ directory_units (length changes) + runs_of (length changes) + 2
  count_runs =
      let ns : List ℕ = map (λ (w : ℕ × List ℕ). w.0) changes in
      let units : List (List ℕ) = map (λ (w : ℕ × List ℕ). w.1) changes in
      let dirs : List (List ℕ) = directory (directory_units (length ns)) ns in
      let counted : length ns ≡ length changes = length-map changes (λ (w : ℕ × List ℕ). w.0) in
      let made : length (singly (numbered (at + 2) dirs)) ≡ directory_units (length changes) = length-map (numbered (at + 2) dirs) (λ (w : ℕ × List ℕ). (w.0, w.1 ∷ [])) ∙ length-numbered dirs (at + 2) ∙ length-directory (directory_units (length ns)) ns ∙ ap directory_units counted in
      let data_runs : List Run = by_sixteen (runs_of (length units)) (at + first_data (length ns)) units in
      let gate : List Run = (at + record_units (length ns), closed ∷ []) ∷ [] in
      let data_made : length data_runs ≡ runs_of (length changes) = length_sixteen (runs_of (length units)) (at + first_data (length ns)) units ∙ ap runs_of (length-map changes (λ (w : ℕ × List ℕ). w.1)) in
      ap suc (length-append (singly (numbered (at + 2) dirs)) (data_runs ++ gate)
      ∙ ap (λ (k : ℕ). k + length (data_runs ++ gate)) made
      ∙ ap (λ (k : ℕ). directory_units (length changes) + k) (length-append data_runs gate ∙ ap (λ (k : ℕ). k + 1) data_made))
      ∙ (let e : suc (directory_units (length changes) + (runs_of (length changes) + 1)) ≡ directory_units (length changes) + runs_of (length changes) + 2 = omega arith in e)

  write_writes : writes (to_write name at changes) ≡ directory_units (length changes) + runs_of (length changes) + 2
  write_writes =
      let all : ℕ = directory_units (length changes) + runs_of (length changes) + 2 in
      ap writes are ∙ writes-append (map (run_write Log) runs) rest ∙ ap (λ (k : ℕ). k + 0) (run_writes Log runs ∙ count_runs) ∙ (let e : all + 0 ≡ all = omega arith in e)

  long : length (behind name at changes) ≡ 2 + directory_units (length changes) + length changes
  long =
      length-numbered (body name changes ++ closed ∷ []) (at + 1)
      ∙ length-append (body name changes) (closed ∷ [])
      ∙ ap (λ (k : ℕ). k + 1) (length-body name changes)
      ∙ (let e : 1 + directory_units (length changes) + length changes + 1 ≡ 2 + directory_units (length changes) + length changes = omega arith in e)

  write_units : units_written (to_write name at changes) ≡ 2 + directory_units (length changes) + length changes
  write_units =
      ap units_written are
      ∙ units-append (map (run_write Log) runs) rest
      ∙ ap (λ (k : ℕ). k + 0) (run_units Log runs ∙ ap length (body_spread name at changes) ∙ long)
      ∙ (let e : 2 + directory_units (length changes) + length changes + 0 ≡ 2 + directory_units (length changes) + length changes = omega arith in e)

  write_syncs : syncs (to_write name at changes) ≡ 1
  write_syncs = ap syncs are ∙ syncs-append (map (run_write Log) runs) rest ∙ ap (λ (k : ℕ). k + 1) (run_syncs Log runs)

  pub costs : Costs name at changes
  costs =
      let d : ℕ = directory_units (length changes) in
      let n : ℕ = length changes in
      let gate : List Step = to_gate at (head name n) in
      let image : List Step = map (run_write Image) (singly changes) in
      let last : List Step = Sync Image ∷ to_gate 0 closed in
      record {
        log_units = units-append (to_write name at changes) gate ∙ ap (λ (k : ℕ). k + 1) write_units ∙ (let e : 2 + d + n + 1 ≡ n + d + 3 = omega arith in e);
        log_writes = writes-append (to_write name at changes) gate ∙ ap (λ (k : ℕ). k + 1) write_writes ∙ (let e : d + runs_of n + 2 + 1 ≡ d + runs_of n + 3 = omega arith in e);
        log_syncs = syncs-append (to_write name at changes) gate ∙ ap (λ (k : ℕ). k + 1) write_syncs;
        settle_units = units-append image last ∙ ap (λ (k : ℕ). k + 1) (run_units Image (singly changes) ∙ ap length (spread_singly changes));
        settle_writes = writes-append image last ∙ ap (λ (k : ℕ). k + 1) (run_writes Image (singly changes) ∙ length-map changes (λ (w : ℕ × List ℕ). (w.0, w.1 ∷ [])));
        settle_syncs = ap (λ (k : ℕ). 1 + k) (syncs-append image last ∙ ap (λ (k : ℕ). k + 2) (run_syncs Image (singly changes)));
      }
