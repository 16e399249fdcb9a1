use Rattle.std.proofs.Common.{◌≡◌, ◌<◌, ◌+◌, ◌-◌, ◌∷◌, [], ℕ, List, length, map, take, drop, min, sym, ◌∙◌, arith}
use Rattle.std.proofs.lemmas.List.{length-map}
use Rattle.stable.specs.declared.Which.TheVariants.{Log}
use Rattle.stable.specs.Disk.{Write}
use Rattle.redo.proofs.Left.{left_as, step_done, part_stops}
use Rattle.redo.proofs.Writing.{count_numbers, units_next}
use Rattle.redo.proofs.parts.write_units.Goals as goal

pub returns-in_err-write_run : goal.returns-in_err-write_run
returns-in_err-write_run g c =
    let ws = g.P.Puts.puts c.args.changes.now in
    let all : List (List ℕ) = map (λ (w : ℕ × List ℕ). w.1) ws in
    let done = c.loop-done.done in
    let counted : length c.numbers-count.result.now ≡ length all = count_numbers c.numbers-count.result.now ws c.numbers-count.ensures.numbers ∙ sym (length-map ws (λ (w : ℕ × List ℕ). w.1)) in
    let more : done < length all = omega (arith, counted, c.loop-done-test.true) in
    let size : c.min-size.result ≡ min (length all - done) 16 = omega (arith, counted, c.min-size.ensures) in
    part_stops _ (Write Log (c.args.first + done) (take c.min-size.result (drop done all)) ∷ []) _ _ _ _ c.from_residual.result c.from_residual.ensures.0
    (left_as _ _ _ _ _ (units_next all c.args.first done c.min-size.result more size) c.loop-done.invariant) c.in_err-write_run.ensures

pub loop-done-preserved : goal.loop-done-preserved
loop-done-preserved g c =
    let ws = g.P.Puts.puts c.args.changes.now in
    let all : List (List ℕ) = map (λ (w : ℕ × List ℕ). w.1) ws in
    let done = c.loop-done.done in
    let counted : length c.numbers-count.result.now ≡ length all = count_numbers c.numbers-count.result.now ws c.numbers-count.ensures.numbers ∙ sym (length-map ws (λ (w : ℕ × List ℕ). w.1)) in
    let more : done < length all = omega (arith, counted, c.loop-done-test.true) in
    let size : c.min-size.result ≡ min (length all - done) 16 = omega (arith, counted, c.min-size.ensures) in
    step_done _ _ _ _ _ _ (left_as _ _ _ _ _ (units_next all c.args.first done c.min-size.result more size) c.loop-done.invariant) c.in_ok-write_run.ensures
