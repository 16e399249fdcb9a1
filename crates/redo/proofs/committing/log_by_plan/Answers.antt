use Rattle.std.proofs.Common.{List, ℕ, [], ◌∷◌, ◌≡◌, ◌∙◌, length, map, refl, ap, arith}
use Rattle.stable.specs.declared.Which.TheVariants.{Log}
use Rattle.stable.specs.Disk.{Step, Sync}
use Rattle.redo.specs.Record.{head}
use Rattle.redo.specs.Plans.{body_writes, to_gate, log_plan}
use Rattle.redo.proofs.Left.{all_left, all_of, left_as, last_stops, part_stops, steps_done, step_done}
use Rattle.redo.proofs.Writing.{log_parts, count_numbers, changes_fit}
use Rattle.redo.proofs.committing.log_by_plan.Goals as goal

pub returns-in_err-write_body-clause-fits : goal.returns-in_err-write_body-clause-fits
returns-in_err-write_body-clause-fits g c =
    changes_fit c.args.numbers.now (g.P.Puts.puts c.args.changes.now) c.requires.numbers c.requires.few (λ i. omega (arith, c.type_inv.numbers i))

pub returns-in_err-sync-clause-fits : goal.returns-in_err-sync-clause-fits
returns-in_err-sync-clause-fits g c =
    changes_fit c.args.numbers.now (g.P.Puts.puts c.args.changes.now) c.requires.numbers c.requires.few (λ i. omega (arith, c.type_inv.numbers i))

pub returns-in_err-write_gate-clause-fits : goal.returns-in_err-write_gate-clause-fits
returns-in_err-write_gate-clause-fits g c =
    changes_fit c.args.numbers.now (g.P.Puts.puts c.args.changes.now) c.requires.numbers c.requires.few (λ i. omega (arith, c.type_inv.numbers i))

pub returns-clause-fits : goal.returns-clause-fits
returns-clause-fits g c =
    changes_fit c.args.numbers.now (g.P.Puts.puts c.args.changes.now) c.requires.numbers c.requires.few (λ i. omega (arith, c.type_inv.numbers i))

pub returns-in_err-write_body-clause-follows : goal.returns-in_err-write_body-clause-follows
returns-in_err-write_body-clause-follows g c =
    let ws = g.P.Puts.puts c.args.changes.now in
    let name = c.args.name in
    let at = c.args.at in
    let body : List Step = body_writes name at c.args.numbers.now (map (λ (w : ℕ × List ℕ). w.1) ws) in
    let first : List ℕ = head name (length ws) in
    part_stops (log_plan name at ws) body (Sync Log ∷ to_gate at first) _ _ _ c.from_residual.result c.from_residual.ensures.0
    (left_as _ _ _ _ _ (log_parts name at c.args.numbers.now ws first c.requires.numbers refl) (all_left (log_plan name at ws) (g.S.Storage.known c.args.storage.now))) c.in_err-write_body.ensures

pub returns-in_err-sync-clause-follows : goal.returns-in_err-sync-clause-follows
returns-in_err-sync-clause-follows g c =
    let ws = g.P.Puts.puts c.args.changes.now in
    let name = c.args.name in
    let at = c.args.at in
    let plan : List Step = log_plan name at ws in
    let body : List Step = body_writes name at c.args.numbers.now (map (λ (w : ℕ × List ℕ). w.1) ws) in
    let first : List ℕ = head name (length ws) in
    part_stops plan (Sync Log ∷ []) (to_gate at first) _ _ _ c.from_residual-in_err-sync.result c.from_residual-in_err-sync.ensures.0
    (steps_done plan body (Sync Log ∷ to_gate at first) _ _ _
    (left_as _ _ _ _ _ (log_parts name at c.args.numbers.now ws first c.requires.numbers refl) (all_left plan (g.S.Storage.known c.args.storage.now))) c.in_ok-write_body.ensures)
    c.in_err-sync.ensures

pub returns-in_err-write_gate-clause-follows : goal.returns-in_err-write_gate-clause-follows
returns-in_err-write_gate-clause-follows g c =
    let ws = g.P.Puts.puts c.args.changes.now in
    let name = c.args.name in
    let at = c.args.at in
    let plan : List Step = log_plan name at ws in
    let body : List Step = body_writes name at c.args.numbers.now (map (λ (w : ℕ × List ℕ). w.1) ws) in
    let gate : List Step = to_gate at c.head.result in
    let first : c.head.result ≡ head name (length ws) = c.head.ensures ∙ ap (λ (k : ℕ). head name k) (count_numbers c.args.numbers.now ws c.requires.numbers) in
    last_stops plan gate _ _ _ c.from_residual-in_err-write_gate.result c.from_residual-in_err-write_gate.ensures.0
    (step_done plan (Sync Log) gate _ _ _
    (steps_done plan body (Sync Log ∷ gate) _ _ _
    (left_as _ _ _ _ _ (log_parts name at c.args.numbers.now ws c.head.result c.requires.numbers first) (all_left plan (g.S.Storage.known c.args.storage.now))) c.in_ok-write_body.ensures)
    c.in_ok-sync.ensures)
    c.in_err-write_gate.ensures

pub returns-clause-follows : goal.returns-clause-follows
returns-clause-follows g c =
    let ws = g.P.Puts.puts c.args.changes.now in
    let name = c.args.name in
    let at = c.args.at in
    let plan : List Step = log_plan name at ws in
    let body : List Step = body_writes name at c.args.numbers.now (map (λ (w : ℕ × List ℕ). w.1) ws) in
    let gate : List Step = to_gate at c.head.result in
    let first : c.head.result ≡ head name (length ws) = c.head.ensures ∙ ap (λ (k : ℕ). head name k) (count_numbers c.args.numbers.now ws c.requires.numbers) in
    all_of plan gate _ _ _
    (step_done plan (Sync Log) gate _ _ _
    (steps_done plan body (Sync Log ∷ gate) _ _ _
    (left_as _ _ _ _ _ (log_parts name at c.args.numbers.now ws c.head.result c.requires.numbers first) (all_left plan (g.S.Storage.known c.args.storage.now))) c.in_ok-write_body.ensures)
    c.in_ok-sync.ensures)
    c.in_ok-write_gate.ensures
