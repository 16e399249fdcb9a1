use Rattle.std.proofs.Common.{sym, ◌∙◌}
use Rattle.std.proofs.lemmas.Bool.Decides.{Decides-eqb}
use Rattle.std.proofs.lemmas.Slice.Eq.{strip_prefix_is}
use Rattle.std.specs.Prelude.{None, Some}
use Rattle.ninep_fids.proofs.paths.rest.Goals as goal

pub returns-in_default-clause-none : goal.returns-in_default-clause-none
returns-in_default-clause-none c other _ = strip_prefix_is Decides-eqb c.args.path.now c.args.old.now None c.in_default.ensures.cases other

pub returns-then-is_rest-clause-some : goal.returns-then-is_rest-clause-some
returns-then-is_rest-clause-some c = (
  strip_prefix_is Decides-eqb c.args.path.now c.args.old.now (Some c.in-Some.rest) c.in-Some.ensures.cases,
  sym c.is_rest.ensures ∙ c.if-is_rest.true,
)
