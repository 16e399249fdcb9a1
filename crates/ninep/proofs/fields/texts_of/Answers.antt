use Rattle.std.proofs.Common.{ap, sym, ◌∙◌, Ok, arith}
use Rattle.ninep.proofs.TextLaws.{are_texts, same_texts, is_shorter}
use Rattle.ninep.proofs.fields.texts_of.Goals as goal

pub overflow_sub-length : goal.overflow_sub-length
overflow_sub-length c =
    is_shorter c.args.count c.args.bytes.now c.in_ok-rest.rest.now c.in_ok-rest.ensures.0 (λ i. omega (arith, c.type_inv.bytes i))
    c.in_ok-rest.ensures.1

pub returns : goal.returns
returns c =
    c.in_ok-rest.ensures.1
    ∙ ap (λ texts. Ok (texts, c.in_ok-rest.rest.now))
    (sym (same_texts c.args.count c.args.bytes.now c.in_ok-rest.rest.now c.in_ok-rest.ensures.0 (λ i. omega (arith, c.type_inv.bytes i))
    c.in_ok-rest.ensures.1))

pub invariant_of-names : goal.invariant_of-names
invariant_of-names c = record {
  whole =
      are_texts c.args.count c.args.bytes.now c.in_ok-rest.rest.now c.in_ok-rest.ensures.0 (λ i. omega (arith, c.type_inv.bytes i))
      c.in_ok-rest.ensures.1;
  few = c.requires;
}
