use Rattle.std.proofs.Common.{arith}
use Rattle.fuse.proofs.ReplyLaws.{answer_length}
use Rattle.fuse.proofs.writing.write.Goals as goal

pub returns-in_default-put_answer-clause-full : goal.returns-in_default-put_answer-clause-full
returns-in_default-put_answer-clause-full c = λ same.
    omega (arith, answer_length c.args.unique c.args.reply.now, c.in_default-put_answer.ensures.full)
