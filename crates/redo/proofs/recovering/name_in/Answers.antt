use Rattle.std.proofs.Common.{◌≡◌, ◌∙◌, ap, List, ℕ, ◌≤◌, length, take, drop, arith, length-drop}
use Rattle.std.specs.Int.{from_be_bytes, w64}
use Rattle.std.proofs.lemmas.List.{take_all}
use Rattle.redo.proofs.recovering.name_in.Goals as goal

pub returns-in-Some : goal.returns-in-Some
returns-in-Some c =
    let short : length (drop 8 c.args.bytes.now) ≤ 4088 = omega (arith, length-drop 8 c.args.bytes.now) in
    let h : c.in-Some.name.now ≡ take 8 (drop 8 c.args.bytes.now) = c.in-Some.ensures.cases.0 ∙ ap (λ (l : List ℕ). take 8 l) (take_all 4088 (drop 8 c.args.bytes.now) short) in
    c.from_be_bytes.ensures ∙ ap (λ (l : List ℕ). from_be_bytes w64 l) h
