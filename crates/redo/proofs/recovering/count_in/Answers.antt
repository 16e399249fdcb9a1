use Rattle.std.proofs.Common.{◌≡◌, ◌∙◌, ap, List, ℕ, ◌≤◌, length, take, drop, arith, length-drop}
use Rattle.std.specs.Int.{from_be_bytes, w32}
use Rattle.std.proofs.lemmas.List.{take_all}
use Rattle.redo.proofs.recovering.count_in.Goals as goal

pub returns-in-Some : goal.returns-in-Some
returns-in-Some c =
    let short : length (drop 16 c.args.bytes.now) ≤ 4080 = omega (arith, length-drop 16 c.args.bytes.now) in
    let h : c.in-Some.count.now ≡ take 4 (drop 16 c.args.bytes.now) = c.in-Some.ensures.cases.same ∙ ap (λ (l : List ℕ). take 4 l) (take_all 4080 (drop 16 c.args.bytes.now) short) in
    c.from_be_bytes.ensures ∙ ap (λ (l : List ℕ). from_be_bytes w32 l) h
