use Rattle.std.proofs.Common.{◌≡◌, ◌∷◌, [], ◌++◌, Ok, map, rules}
use Rattle.tools.specs.Turns.{asked}
use Rattle.tools.proofs.Sessions.{none_played, none_popped, all_played, results_of}
use Rattle.tools.proofs.scripts.turns.play_together.Goals as goal

pub returns-in_default : goal.returns-in_default
returns-in_default g c =
    let state = g.C.Client.state in
    none_played g.C.Client.vouches g.C.Client.ended state (map (asked state) c.args.turns.items) c.in_ok-results.results.items
    c.new.result.items
    (none_popped c.in_ok-results.results.items c.pop.new.self.items c.in_ok-results.results.len c.in_default.ensures.items
    c.in_default.ensures.cases.0 c.in_default.ensures.rest)
    c.new.ensures.items
    (results_of g.C.Client.vouches g.C.Client.ended state c.args.turns.items c.in_ok-results.results.items (search rules)
    (λ i t r inside. c.in_ok-results.ensures.each i r t inside))

pub returns : goal.returns
returns g c =
    let state = g.C.Client.state in
    let grown : c.push.new.self.items ≡ c.in_ok-all.all.items ++ c.in_ok-client.field-0.played ∷ [] = search rules in
    let is : c.in_ok-results.results.items ≡ c.pop.new.self.items ++ Ok c.in_ok-client.field-0 ∷ [] = search rules in
    all_played g.C.Client.vouches g.C.Client.ended state (map (asked state) c.args.turns.items) c.in_ok-results.results.items
    c.pop.new.self.items
    c.in_ok-client.field-0 (state c.meet_each.new.client) (state c.end_each.new.client) c.in_ok-others.others.items c.in_ok-all.all.items
    c.push.new.self.items is grown
    (results_of g.C.Client.vouches g.C.Client.ended state c.args.turns.items c.in_ok-results.results.items (search rules)
    (λ i t r inside. c.in_ok-results.ensures.each i r t inside))
    c.in_ok-others.ensures c.in_ok-all.ensures
