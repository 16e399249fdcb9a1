use Rattle.std.proofs.Common.{ap, subst, ◌∙◌, arith}
use Rattle.fields.specs.Parts.{Gives}
use Rattle.fuse.specs.Requests.{view}
use Rattle.fuse.specs.Reading.{request_at}
use Rattle.fuse.proofs.RequestLaws.{is_found, request_again}
use Rattle.fuse.proofs.reading.read.Goals as goal

pub returns-clause-found : goal.returns-clause-found
returns-clause-found c = is_found c.args.bytes.now c.whole_of.result (λ i. omega (arith, c.type_inv.bytes i)) c.whole_of.ensures

pub returns-clause-only : goal.returns-clause-only
returns-clause-only c =
    λ full is e. subst (λ f. Gives (λ m. view m) c.whole_of.result f) (ap request_at e ∙ request_again full is) c.whole_of.ensures
