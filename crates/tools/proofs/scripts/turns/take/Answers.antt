use Rattle.tools.proofs.Sessions.{is_turn}
use Rattle.tools.proofs.scripts.turns.take.Goals as goal

pub returns : goal.returns
returns g c =
    let state = g.C.Client.state in
    let played = rw c.as_slice.ensures.value at c.in_ok-played.ensures.played in
    is_turn g.C.Client.vouches g.C.Client.ended (state c.args.turn.client) (state c.play_turn.new.client)
    c.args.turn.calls.items c.in_ok-played.played c.requires played.0 played.1
