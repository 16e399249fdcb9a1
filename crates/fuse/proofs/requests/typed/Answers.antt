use Rattle.std.proofs.Common.{ℕ, List, sym, subst}
use Rattle.fields.specs.Parts.{Gives}
use Rattle.fuse.specs.Requests.{Body, body_of}
use Rattle.fuse.specs.Reading.{typed_at}
use Rattle.fuse.proofs.requests.typed.Goals as goal

pub returns-in-4 : goal.returns-in-4
returns-in-4 c =
    subst (λ n. Gives {Y = Body × List ℕ} (λ r. (body_of r.0, r.1.now)) c.setattr.result (typed_at n c.args.input.now)) (sym c.in-4.is)
    c.setattr.ensures
