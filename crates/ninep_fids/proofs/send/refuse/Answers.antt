use Rattle.std.proofs.Common.{ap, Err, length}
use Rattle.std.specs.Prelude.{vec_capacity}
use Rattle.ninep_fids.proofs.SendLaws.{no_room}
use Rattle.ninep_fids.proofs.send.refuse.Goals as goal

pub returns-in-Err-clause-full : goal.returns-in-Err-clause-full
returns-in-Err-clause-full c =
    no_room c.in-Err.field-0 c.number-number.result c.args.limit (length c.args.out.now.items) (vec_capacity c.args.out.now)
    (λ e. (c.in-Err.ensures.long (ap Err e)).0) (λ e. c.in-Err.ensures.full (ap Err e))
