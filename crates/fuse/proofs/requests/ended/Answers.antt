use Rattle.std.proofs.Common.{◌≡◌, ℕ, List, Ok, Err, subst}
use Rattle.std.specs.Prelude.{IfOk}
use Rattle.fields.specs.Parts.{Gives}
use Rattle.fields.specs.Readers.{TakesAll}
use Rattle.fuse.specs.Requests.{Body, body_of}
use Rattle.fuse.specs.Reading.{TakesTail, typed_at}
use Rattle.fuse.proofs.EndLaws.{typed_is, plain_is}
use Rattle.fuse.proofs.requests.ended.Goals as goal

pub returns-in-Ok-clause-plain : goal.returns-in-Ok-clause-plain
returns-in-Ok-clause-plain c = λ input kinds e empty none all.
    plain_is (body_of c.args.request) kinds input (Ok c.in-Ok.rest) e empty none
    (subst (λ left. TakesAll (Ok input) kinds (body_of c.args.request).fields left) c.in-Ok.is all)

pub returns-in-Err-clause-plain : goal.returns-in-Err-clause-plain
returns-in-Err-clause-plain c = λ input kinds e empty none all.
    plain_is (body_of c.args.request) kinds input (Err c.in-Err.fault) e empty none
    (subst (λ left. TakesAll (Ok input) kinds (body_of c.args.request).fields left) c.in-Err.is all)

pub returns-in-Ok-clause-with_tail : goal.returns-in-Ok-clause-with_tail
returns-in-Ok-clause-with_tail c = λ input kinds mid body e all tail same.
    let own = subst (λ left. IfOk left (λ rest. body ≡ body_of c.args.request)) c.in-Ok.is same in
    subst (λ b. Gives {Y = Body × List ℕ} (λ r. (b, r.now)) (Ok c.in-Ok.rest) (typed_at body.opcode input.now)) own
    (typed_is body kinds input mid (Ok c.in-Ok.rest) e all (subst (λ left. TakesTail mid body left) c.in-Ok.is tail))

pub returns-in-Err-clause-with_tail : goal.returns-in-Err-clause-with_tail
returns-in-Err-clause-with_tail c = λ input kinds mid body e all tail same.
    typed_is body kinds input mid (Err c.in-Err.fault) e all (subst (λ left. TakesTail mid body left) c.in-Err.is tail)
