use Rattle.std.proofs.Common.{rules}
use Rattle.std.specs.Prelude.{◌≡◌, ◌≢◌, List, [], refl}
use Rattle.reincarnate.specs.declared.policy.Policy.{Policy}
use Rattle.reincarnate.specs.Known.{Known, known_at_first}
use Rattle.reincarnate.specs.Supply.{state_of, new_state}
use Rattle.reincarnate.proofs.FollowLaws.{follows_at_first}
use Rattle.reincarnate.proofs.reincarnation.Reincarnation.new.Goals as goal

-- nothing was started, over these drivers
state_at_first : {D : Type 0} (policy : Policy) (known : Known) (supply drivers : List D) → known ≡ known_at_first policy → supply ≡ drivers → state_of known supply ≡ new_state policy drivers
state_at_first policy known supply drivers first same = rw (first, same) refl

pub returns-clause-answers : goal.returns-clause-answers
returns-clause-answers g c =
    let first = state_at_first c.args.policy c.new.result c.in-Ok.supply.items c.args.drivers.items c.new.ensures c.in-Ok.ensures in
    let filled : c.args.drivers.items ≢ [] = λ none. search (rules, none) in
    (search rules, filled, first)

pub returns-clause-follows : goal.returns-clause-follows
returns-clause-follows g c =
    let first = state_at_first c.args.policy c.new.result c.in-Ok.supply.items c.args.drivers.items c.new.ensures c.in-Ok.ensures in
    let filled : c.args.drivers.items ≢ [] = λ none. search (rules, none) in
    rw first (follows_at_first c.args.policy c.args.drivers.items (search rules) filled)
