use Rattle.std.proofs.Common.{◌≡◌, ℕ, List, ◌∷◌, [], ◌∙◌, length, map, take, drop, refl, subst, arith}
use Rattle.std.proofs.lemmas.List.{length-map, length-set}
use Rattle.stable.specs.declared.Which.TheVariants.{Log}
use Rattle.stable.specs.Disk.{Write}
use Rattle.stable.specs.Runs.{Follows}
use Rattle.redo.proofs.Writing.{run_next}
use Rattle.redo.proofs.parts.write_run.Goals as goal

pub loop-i-init : goal.loop-i-init
loop-i-init g c = record { long = refl; taken = refl }

pub overflow_add-from : goal.overflow_add-from
overflow_add-from g c = omega (arith, c.requires.there, c.requires.count, c.loop-i-test.true)

pub loop-i-preserved : goal.loop-i-preserved
loop-i-preserved g c =
    let ws = g.P.Puts.puts c.args.changes.now in
    let all = map (λ (w : ℕ × List ℕ). w.1) ws in
    let i = c.loop-i.i in
    let counted : length all ≡ length ws = length-map ws (λ (w : ℕ × List ℕ). w.1) in
    record {
      long = length-set c.loop-i.units i c.unit.result ∙ c.loop-i.invariant.long;
      taken = run_next c.loop-i.units all c.args.from i c.unit.result
          (omega (arith, c.loop-i.invariant.long, c.loop-i-test.true, c.requires.few))
          (omega (arith, counted, c.loop-i-test.true, c.requires.there))
          c.unit.ensures c.loop-i.invariant.taken;
    }

pub returns : goal.returns
returns g c =
    let all = map (λ (w : ℕ × List ℕ). w.1) (g.P.Puts.puts c.args.changes.now) in
    let last : c.loop-i.i ≡ c.args.size = omega (arith, c.loop-i-test.false, c.loop-i.auto.i-end) in
    let taken : take c.args.size c.loop-i.units ≡ take c.args.size (drop c.args.from all) =
    subst (λ (k : ℕ). take k c.loop-i.units ≡ take k (drop c.args.from all)) last c.loop-i.invariant.taken in
    subst (λ (l : List (List ℕ)). Follows (Write Log c.args.first l ∷ []) (g.S.Storage.known c.args.storage.now) (g.S.Storage.known c.write.new.self) c.write.result) taken c.write.ensures
