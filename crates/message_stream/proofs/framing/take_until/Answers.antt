use Rattle.std.proofs.Common.{◌≡◌, ◌≤◌, ◌+◌, List, ℕ, length, take, sym, subst, arith}
use Rattle.message_stream.proofs.Streams.{length_of, takes_more}
use Rattle.message_stream.proofs.framing.take_until.Goals as goal

pub returns-clause-taken : goal.returns-clause-taken
returns-clause-taken g c =
    let old = c.args.buffer.now.items in
    let room = c.deref_mut.result.now in
    let count = c.read_into-count.result.0 in
    let same : room ≡ c.make_room.new.buffer.items = c.deref_mut.ensures.value in
    let front : take (length old) room ≡ old = subst (λ (l : List ℕ). take (length old) l ≡ old) (sym same) c.in_default.ensures.front in
    let most : count ≤ length c.read_into-count.new.bytes = c.read_into-count.ensures.most in
    let begun : c.args.at ≤ length old = omega (arith, c.requires.begun, c.args.buffer.now.ok.0) in
    let long : length old ≤ length room = length_of old room front in
    let whole : c.args.at + count ≤ c.make_room.new.buffer.len =
    omega (arith, most, c.read_into-count.auto.bytes, c.requires.wanted, c.in_default.ensures.long, c.make_room.new.buffer.ok.0) in
    takes_more _ _ old room c.read_into-count.new.bytes _ _ c.args.at count _ front begun long whole most c.read_into-count.ensures.taken
