use Rattle.std.proofs.Common.{◌≡◌, ◌∙◌, sym, ap, length, true, false}
use Rattle.std.specs.Prelude.{◌==◌}
use Rattle.std.proofs.lemmas.List.{length-map}
use Rattle.volume_mount.proofs.Starts.{each_ready}
use Rattle.volume_mount.proofs.prepared.check_setup.Goals as goal

pub returns-then-not-has_ranges-clause-refusal : goal.returns-then-not-has_ranges-clause-refusal
returns-then-not-has_ranges-clause-refusal g c = λ w. let no = c.if-not-has_ranges.ensures.1 w.0 in cc

pub returns-then-not-are_ready-clause-refusal : goal.returns-then-not-are_ready-clause-refusal
returns-then-not-are_ready-clause-refusal g c = λ w.
    let ready = each_ready g.D.LocalDriver.state c.args.setup.now.minor c.args.range c.args.supply.now c.are_ready.result c.are_ready.ensures.value in
    let no : false ≡ true = sym c.if-not-are_ready.true ∙ sym ready ∙ w.1 in cc

pub returns-clause-fits : goal.returns-clause-fits
returns-clause-fits g c =
    let ready = each_ready g.D.LocalDriver.state c.args.setup.now.minor c.args.range c.args.supply.now c.are_ready.result c.are_ready.ensures.value in
    (c.has_ranges.ensures.0 c.if-not-has_ranges.false, ready ∙ c.if-not-are_ready.false)

pub returns-clause-some : goal.returns-clause-some
returns-clause-some g c = λ none.
    let empty = sym (length-map c.args.supply.now g.D.LocalDriver.state) ∙ ap length none in
    let no : false ≡ true = c.if-is_empty.ensures ∙ ap (λ n. n == 0) empty in cc
