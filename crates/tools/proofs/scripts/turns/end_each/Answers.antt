use Rattle.std.proofs.Common.{◌≡◌, ◌∷◌, [], ◌++◌, rules}
use Rattle.tools.proofs.Sessions.{ending_none, ending_more, ending_all, none_popped}
use Rattle.tools.proofs.scripts.turns.end_each.Goals as goal

pub loop-other-init : goal.loop-other-init
loop-other-init g c = λ script played scripts leads taken seen.
    ending_none g.C.Client.vouches g.C.Client.ended g.C.Client.state script played scripts (g.C.Client.state c.args.client.now)
    c.args.others.items
    c.new-all.result.items c.new-all.ensures.items leads taken seen

pub loop-other-preserved : goal.loop-other-preserved
loop-other-preserved g c = λ script played scripts leads taken seen.
    let grown : c.push.new.self.items ≡ c.loop-other.all.items ++ c.in-Some.other.played ∷ [] = search rules in
    ending_more g.C.Client.vouches g.C.Client.ended g.C.Client.state script played scripts _ _ _ c.loop-other.left.items
    c.pop.new.self.items
    c.loop-other.all.items c.push.new.self.items c.in-Some.other _ c.in-Some.ensures.items grown c.meet.ensures
    (c.loop-other.invariant script played scripts leads taken seen)

pub returns : goal.returns
returns g c = λ script played scripts leads taken seen.
    ending_all g.C.Client.vouches g.C.Client.ended g.C.Client.state script played scripts _ _ c.loop-other.left.items c.loop-other.all.items
    (none_popped c.loop-other.left.items c.pop.new.self.items c.loop-other.left.len c.in_default.ensures.items c.in_default.ensures.cases.0
    c.in_default.ensures.rest) (c.loop-other.invariant script played scripts leads taken seen)
