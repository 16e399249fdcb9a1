use Rattle.std.proofs.Common.{Ok, Err, subst}
use Rattle.ninep.specs.Requests.{body_of}
use Rattle.ninep.specs.Readers.{TakesAll}
use Rattle.ninep.proofs.ReaderLaws.{typed_is}
use Rattle.ninep.proofs.reader.Reader.end.Goals as goal

pub returns-in-Ok : goal.returns-in-Ok
returns-in-Ok c = λ input kinds e all.
    typed_is (body_of c.args.request) kinds input (Ok c.in-Ok.rest) e
    (subst (λ left. TakesAll (Ok input) kinds (body_of c.args.request).fields left) c.in-Ok.is all)

pub returns-in-Err : goal.returns-in-Err
returns-in-Err c = λ input kinds e all.
    typed_is (body_of c.args.request) kinds input (Err c.in-Err.fault) e
    (subst (λ left. TakesAll (Ok input) kinds (body_of c.args.request).fields left) c.in-Err.is all)
