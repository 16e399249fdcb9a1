use Rattle.std.proofs.Common.{ℕ, sym, ap, ◌∙◌, arith, length, List, take, drop, ◌-◌, ◌∷◌}
use Rattle.std.proofs.lemmas.List.{take_rest}
use Rattle.std.specs.List.{prefix_len}
use Rattle.std.specs.Prelude.{◌==◌, not}
use Rattle.tree.specs.Walk.{parts_of}
use Rattle.path.proofs.Splits.{no_part, first_part}
use Rattle.path.proofs.parts.split_first.Goals as goal

pub returns-then-end-eq0-clause-none : goal.returns-then-end-eq0-clause-none
returns-then-end-eq0-clause-none c =
    let is = take_rest c.args.bytes.now c.leading_slashes.result ∙ ap (λ (n : ℕ). drop n c.args.bytes.now) c.leading_slashes.ensures.count in
    no_part c.args.bytes.now (ap (prefix_len (λ x. not (x == 47))) (sym is) ∙ sym c.until_slash-end.ensures.count ∙ c.if-end-eq0.true)

pub returns-clause-parts : goal.returns-clause-parts
returns-clause-parts c =
    let ys = take (length c.args.bytes.now - c.leading_slashes.result) (drop c.leading_slashes.result c.args.bytes.now) in
    let is = take_rest c.args.bytes.now c.leading_slashes.result ∙ ap (λ (n : ℕ). drop n c.args.bytes.now) c.leading_slashes.ensures.count in
    first_part c.args.bytes.now ys c.until_slash-end.result is c.until_slash-end.ensures.count (omega arith)
    ∙ ap (λ (rest : List ℕ). take c.until_slash-end.result ys ∷ parts_of rest) (sym (take_rest ys c.until_slash-end.result))
