use Rattle.std.proofs.Common.{◌∙◌, ◌-◌, ap, arith, drop, length, length-drop, List, ℕ}
use Rattle.std.specs.Prelude.{nat_eq}
use Rattle.std.specs.List.{starts_with}
use Rattle.std.proofs.lemmas.List.{take_all}
use Rattle.driver_threads.proofs.RangeLaws.{is_at_so}
use Rattle.driver_threads.proofs.comparing.is_at.Goals as goal

pub returns : goal.returns
returns c =
    let start = c.args.start in
    let range = c.args.range.now in
    let whole = take_all (length range - start) (drop start range) (let d = length-drop start range in omega (arith, d)) in
    is_at_so c.starts_with.result start c.args.bytes.now range c.requires
    (c.starts_with.ensures.value ∙ ap (λ (l : List ℕ). starts_with nat_eq l c.args.bytes.now) whole)
