use Rattle.std.proofs.Common.{ap, subst, ◌∙◌, arith}
use Rattle.ninep.specs.Parts.{Gives}
use Rattle.ninep.specs.Requests.{view}
use Rattle.ninep.specs.Reading.{request_at}
use Rattle.ninep.proofs.RequestLaws.{is_found, request_again}
use Rattle.ninep.proofs.reading.read.Goals as goal

pub returns-clause-found : goal.returns-clause-found
returns-clause-found c = is_found c.args.bytes.now c.whole_of.result (λ i. omega (arith, c.type_inv.bytes i)) c.whole_of.ensures

pub returns-clause-only : goal.returns-clause-only
returns-clause-only c =
    λ m is e. subst (λ f. Gives (λ r. view r) c.whole_of.result f) (ap request_at e ∙ request_again m is) c.whole_of.ensures
