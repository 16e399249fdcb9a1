use Rattle.conformance.proofs.ReplyLaws.{runs_keep_replies}
use Rattle.conformance.proofs.taking_runs.runs_keep_replies.Goals as goal

pub returns : goal.returns
returns c = runs_keep_replies
