use Rattle.std.proofs.Common.{◌≡◌, ◌+◌, sym, ap, ◌∙◌, slice_index, below_more, arith}
use Rattle.std.specs.Prelude.{not}
use Rattle.std.proofs.lemmas.Bool.{eq-eqb}
use Rattle.std.proofs.lemmas.List.{get_or_past}
use Rattle.image.proofs.Texts.{no_field, all_field}
use Rattle.image.proofs.entry.is_field.Goals as goal
use Rattle.image.proofs.entry.is_field.Goals.{then-a-name, else-a-name}

pub returns-then-entry-a : goal.returns-then-entry-a
returns-then-entry-a c =
    let is : c.if-a-name.wanted ≡ slice_index c.args.name.now c.loop-a.a = elim c.if-a-name.branch [
      | then-a-name w ↦ w.wanted-is
      | else-a-name w ↦ w.wanted-is ∙ sym (get_or_past c.args.name.now c.loop-a.a 0 (omega arith))
    ] in
    no_field (slice_index c.args.entry.now) c.args.name.now c.loop-a.a c.if-a-name.wanted (omega arith) c.if-entry-a.true is

pub loop-a-preserved : goal.loop-a-preserved
loop-a-preserved c =
    let is : c.if-a-name.wanted ≡ slice_index c.args.name.now c.loop-a.a = elim c.if-a-name.branch [
      | then-a-name w ↦ w.wanted-is
      | else-a-name w ↦ w.wanted-is ∙ sym (get_or_past c.args.name.now c.loop-a.a 0 (omega arith))
    ] in
    below_more _ _ c.loop-a.invariant (ap not (eq-eqb (slice_index c.args.entry.now (4 + c.loop-a.a)) (slice_index c.args.name.now c.loop-a.a) (c.if-entry-a.false ∙ is)))

pub returns : goal.returns
returns c = all_field (slice_index c.args.entry.now) c.args.name.now c.loop-a.a (omega arith) c.loop-a.invariant
