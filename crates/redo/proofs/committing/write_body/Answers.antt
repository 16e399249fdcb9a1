use Rattle.std.proofs.Common.{List, ℕ, [], ◌∷◌, ◌++◌, ◌+◌, length, map, sym, ◌∙◌, ap}
use Rattle.stable.specs.declared.Which.TheVariants.{Log}
use Rattle.stable.specs.Disk.{Step, Write}
use Rattle.redo.specs.Record.{head, closed, first_data, record_units}
use Rattle.redo.specs.Plans.{directory_writes, unit_writes, body_writes}
use Rattle.redo.proofs.Left.{all_left, left_as, last_part, part_stops, steps_done, step_done}
use Rattle.redo.proofs.committing.write_body.Goals as goal

pub returns-in_err-write : goal.returns-in_err-write
returns-in_err-write g c =
    let ns = c.args.numbers.now in
    let us : List (List ℕ) = map (λ (w : ℕ × List ℕ). w.1) (g.P.Puts.puts c.args.changes.now) in
    let at = c.args.at in
    let known = g.S.Storage.known in
    let plan : List Step = body_writes c.args.name at ns us in
    let rest : List Step = directory_writes (at + 2) ns ++ (unit_writes (at + first_data (length ns)) us ++ Write Log (at + record_units (length ns)) (closed ∷ []) ∷ []) in
    part_stops plan (Write Log (at + 1) (c.head.result ∷ []) ∷ []) rest _ _ _ c.from_residual.result c.from_residual.ensures.0
    (left_as _ _ _ _ _ (ap (λ (h : List ℕ). Write Log (at + 1) (h ∷ []) ∷ rest) (sym c.head.ensures)) (all_left plan (known c.args.storage.now)))
    c.in_err-write.ensures

pub returns-in_err-write_directory : goal.returns-in_err-write_directory
returns-in_err-write_directory g c =
    let ns = c.args.numbers.now in
    let us : List (List ℕ) = map (λ (w : ℕ × List ℕ). w.1) (g.P.Puts.puts c.args.changes.now) in
    let at = c.args.at in
    let known = g.S.Storage.known in
    let plan : List Step = body_writes c.args.name at ns us in
    let last : List Step = unit_writes (at + first_data (length ns)) us ++ Write Log (at + record_units (length ns)) (closed ∷ []) ∷ [] in
    part_stops plan (directory_writes (at + 2) ns) last _ _ _ c.from_residual-in_err-write_directory.result c.from_residual-in_err-write_directory.ensures.0
    (step_done plan (Write Log (at + 1) (c.head.result ∷ [])) (directory_writes (at + 2) ns ++ last) _ _ _
    (left_as _ _ _ _ _ (ap (λ (h : List ℕ). Write Log (at + 1) (h ∷ []) ∷ (directory_writes (at + 2) ns ++ last)) (sym c.head.ensures)) (all_left plan (known c.args.storage.now)))
    c.in_ok-write.ensures)
    c.in_err-write_directory.ensures

pub returns-in_err-write_units : goal.returns-in_err-write_units
returns-in_err-write_units g c =
    let ns = c.args.numbers.now in
    let us : List (List ℕ) = map (λ (w : ℕ × List ℕ). w.1) (g.P.Puts.puts c.args.changes.now) in
    let at = c.args.at in
    let known = g.S.Storage.known in
    let plan : List Step = body_writes c.args.name at ns us in
    let gate : List Step = Write Log (at + record_units (length ns)) (closed ∷ []) ∷ [] in
    let last : List Step = unit_writes (at + c.first_data.result) us ++ gate in
    part_stops plan (unit_writes (at + c.first_data.result) us) gate _ _ _ c.from_residual-in_err-write_units.result c.from_residual-in_err-write_units.ensures.0
    (steps_done plan (directory_writes (at + 2) ns) last _ _ _
    (step_done plan (Write Log (at + 1) (c.head.result ∷ [])) (directory_writes (at + 2) ns ++ last) _ _ _
    (left_as _ _ _ _ _ (ap (λ (k : ℕ). Write Log (at + 1) (head c.args.name (length ns) ∷ []) ∷ (directory_writes (at + 2) ns ++ (unit_writes (at + k) us ++ gate))) (sym c.first_data.ensures)
    ∙ ap (λ (h : List ℕ). Write Log (at + 1) (h ∷ []) ∷ (directory_writes (at + 2) ns ++ last)) (sym c.head.ensures)) (all_left plan (known c.args.storage.now)))
    c.in_ok-write.ensures)
    c.in_ok-write_directory.ensures)
    c.in_err-write_units.ensures

pub returns : goal.returns
returns g c =
    let ns = c.args.numbers.now in
    let us : List (List ℕ) = map (λ (w : ℕ × List ℕ). w.1) (g.P.Puts.puts c.args.changes.now) in
    let at = c.args.at in
    let known = g.S.Storage.known in
    let plan : List Step = body_writes c.args.name at ns us in
    let gate : List Step = Write Log (at + c.record_units.result) (closed ∷ []) ∷ [] in
    let last : List Step = unit_writes (at + c.first_data.result) us ++ gate in
    last_part plan gate _ _ _ c.write-2.result
    (steps_done plan (unit_writes (at + c.first_data.result) us) gate _ _ _
    (steps_done plan (directory_writes (at + 2) ns) last _ _ _
    (step_done plan (Write Log (at + 1) (c.head.result ∷ [])) (directory_writes (at + 2) ns ++ last) _ _ _
    (left_as _ _ _ _ _ (ap (λ (k : ℕ). Write Log (at + 1) (head c.args.name (length ns) ∷ []) ∷ (directory_writes (at + 2) ns ++ (unit_writes (at + first_data (length ns)) us ++ Write Log (at + k) (closed ∷ []) ∷ []))) (sym c.record_units.ensures)
    ∙ ap (λ (k : ℕ). Write Log (at + 1) (head c.args.name (length ns) ∷ []) ∷ (directory_writes (at + 2) ns ++ (unit_writes (at + k) us ++ gate))) (sym c.first_data.ensures)
    ∙ ap (λ (h : List ℕ). Write Log (at + 1) (h ∷ []) ∷ (directory_writes (at + 2) ns ++ last)) (sym c.head.ensures)) (all_left plan (known c.args.storage.now)))
    c.in_ok-write.ensures)
    c.in_ok-write_directory.ensures)
    c.in_ok-write_units.ensures)
    c.write-2.ensures
