use Rattle.std.proofs.Common.{◌≡◌, ◌<◌, ◌+◌, ℕ, Bool, true, false, sym, ap, ◌∙◌, arith}
use Rattle.std.specs.Prelude.{not, ◌==◌}
use Rattle.std.proofs.lemmas.Bool.{eq-eqb, ne_eqb}
use Rattle.tree.specs.Space.{numbers_in_zone}
use Rattle.volume.specs.Nodes.{word}
use Rattle.volume.proofs.Sums.{some_from, none_from}
use Rattle.image.specs.Contents.{contents}
use Rattle.image.proofs.Contents.{number_word}
use Rattle.image.proofs.spare.has_number.Goals as goal

pub returns-then-number-ne0 : goal.returns-then-number-ne0
returns-then-number-ne0 c =
    let i = c.args.image.now in
    let z = c.args.zone in
    sym (some_from (λ j. not (word (contents i) z j == 0)) (numbers_in_zone i.geometry) c.loop-j.j (let e = c.numbers-j-end.ensures.value in omega arith)
    (ap not (ne_eqb (word (contents i) z c.loop-j.j) 0 (λ e. c.if-number-ne0.true (c.number.ensures ∙ number_word i z c.loop-j.j ∙ e)))))

pub returns : goal.returns
returns c =
    let i = c.args.image.now in
    let z = c.args.zone in
    sym (none_from (λ j. not (word (contents i) z j == 0)) (numbers_in_zone i.geometry)
    (λ j h. ap not (eq-eqb (word (contents i) z j) 0 (sym (number_word i z j) ∙ c.loop-j.invariant j (let e = c.numbers-j-end.ensures.value in omega arith)))))
