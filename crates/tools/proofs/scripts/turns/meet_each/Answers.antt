use Rattle.std.proofs.Common.{◌≡◌, ◌∷◌, [], ◌++◌, Ok, refl, rules}
use Rattle.tools.proofs.Sessions.{meeting_none, meeting_more, meeting_all, none_popped}
use Rattle.tools.proofs.scripts.turns.meet_each.Goals as goal

pub loop-result-init : goal.loop-result-init
loop-result-init g c = λ script played scripts leads results.
    meeting_none g.C.Client.vouches g.C.Client.ended g.C.Client.state script played scripts (g.C.Client.state c.args.client.now)
    c.args.results.items
    c.new-others.result.items c.new-others.ensures.items leads results

pub loop-result-preserved : goal.loop-result-preserved
loop-result-preserved g c = λ script played scripts leads results.
    let grown : c.push.new.self.items
    ≡ c.loop-result.others.items ++ record { client = c.meet.new.other; played = c.in_ok-other.other.played } ∷ [] = search rules in
    let is : c.loop-result.left.items ≡ c.pop.new.self.items ++ Ok c.in_ok-other.other ∷ [] = search rules in
    meeting_more g.C.Client.vouches g.C.Client.ended g.C.Client.state script played scripts _ _ c.loop-result.left.items
    c.pop.new.self.items
    c.loop-result.others.items c.push.new.self.items c.in_ok-other.other _ is grown refl c.meet.ensures
    (c.loop-result.invariant script played scripts leads results)

pub returns : goal.returns
returns g c = λ script played scripts leads results.
    meeting_all g.C.Client.vouches g.C.Client.ended g.C.Client.state script played scripts _ c.loop-result.left.items
    c.loop-result.others.items
    (none_popped c.loop-result.left.items c.pop.new.self.items c.loop-result.left.len c.in_default.ensures.items
    c.in_default.ensures.cases.0
    c.in_default.ensures.rest) (c.loop-result.invariant script played scripts leads results)
