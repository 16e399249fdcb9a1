use Rattle.std.proofs.Common.{rules}
use Rattle.reincarnate.proofs.FollowLaws.{follows_on}
use Rattle.reincarnate.proofs.reincarnation.Reincarnation.on.Goals as goal

pub returns-in-Nothing-clause-follows : goal.returns-in-Nothing-clause-follows
returns-in-Nothing-clause-follows g c = λ drivers turns. follows_on drivers turns _ _ c.args.event _ (search rules)

pub returns-in-WaitUntil-clause-follows : goal.returns-in-WaitUntil-clause-follows
returns-in-WaitUntil-clause-follows g c = λ drivers turns. follows_on drivers turns _ _ c.args.event _ (search rules)

pub returns-in-Some-clause-follows : goal.returns-in-Some-clause-follows
returns-in-Some-clause-follows g c = λ drivers turns. follows_on drivers turns _ _ c.args.event _ (search rules)

pub returns-in-GiveUp-clause-follows : goal.returns-in-GiveUp-clause-follows
returns-in-GiveUp-clause-follows g c = λ drivers turns. follows_on drivers turns _ _ c.args.event _ (search rules)
