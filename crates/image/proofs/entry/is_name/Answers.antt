use Rattle.std.proofs.Common.{sym, ap, ◌∙◌, eqb-true, arith}
use Rattle.std.specs.Prelude.{not}
use Rattle.std.proofs.lemmas.Bool.{eqb-false}
use Rattle.image.proofs.Texts.{not_empty, not_slash, but_dots}
use Rattle.image.proofs.entry.is_name.Goals as goal

pub returns-then-is_empty : goal.returns-then-is_empty
returns-then-is_empty c = not_empty c.args.name.now (eqb-true _ 0 (sym c.is_empty.ensures ∙ c.if-is_empty.true))

pub returns-then-contains : goal.returns-then-contains
returns-then-contains c = not_slash c.args.name.now c.requires.short c.requires.bytes (λ k. omega (arith, c.type_inv.name k)) (sym c.contains.ensures.value ∙ c.if-contains.true)

pub returns : goal.returns
returns c =
    ap not c.is_dots.ensures
    ∙ but_dots c.args.name.now c.requires.short c.requires.bytes (λ k. omega (arith, c.type_inv.name k)) (eqb-false _ 0 (sym c.is_empty.ensures ∙ c.if-is_empty.false)) (sym c.contains.ensures.value ∙ c.if-contains.false)
