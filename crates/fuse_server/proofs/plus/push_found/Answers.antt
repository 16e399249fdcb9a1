use Rattle.std.proofs.Common.{ℕ, List, ap, length, sym, subst, arith}
use Rattle.std.specs.Borrow.{Bor}
use Rattle.fuse_nodes.specs.Known.{known_of}
use Rattle.fuse_server.specs.Entries.{IsListed}
use Rattle.fuse_server.proofs.Entries.{more_listed, found_length, pushed_within}
use Rattle.fuse_server.proofs.plus.push_found.Goals as goal

pub push_entry_plus-requires : goal.push_entry_plus-requires
push_entry_plus-requires g c =
    omega (arith, ap (λ (b : Bor (List ℕ)). length b.now) c.as_found-written.ensures, c.requires.name)

pub returns-in-Ok-clause-room : goal.returns-in-Ok-clause-room
returns-in-Ok-clause-room g c =
    pushed_within c.found-told.result c.as_found-written.result c.args.entry c.len.result c.args.listing.room c.args.bytes.now.items
    c.has_room.new.bytes.items c.push_entry_plus.new.out.items c.as_found-written.ensures c.len.ensures c.has_room.ensures.items
    c.in-Ok.ensures.ok (c.has_room.ensures.within c.if-has_room.true)

pub returns-in-Ok-clause-listed : goal.returns-in-Ok-clause-listed
returns-in-Ok-clause-listed g c = λ before.
    let P : List ℕ → Type 0 = λ x. IsListed (known_of c.args.nodes.now) x in
    more_listed (known_of c.args.nodes.now) (known_of c.found-told.new.nodes) c.has_room.new.bytes.items c.push_entry_plus.new.out.items
    c.found-told.result c.as_found-written.result c.found-told.ensures.kept c.found-told.ensures.told c.in-Ok.ensures.ok
    (subst P (sym c.has_room.ensures.items) before)

pub unreachable-requires : goal.unreachable-requires
unreachable-requires g c = omega (
  arith,
  found_length c.found-told.result c.as_found-written.result c.args.entry c.len.result c.as_found-written.ensures c.len.ensures,
  c.has_room.ensures.found c.if-has_room.true,
  c.in-Err.ensures.full,
  ap length c.has_room.ensures.items,
)

pub returns-clause-listed : goal.returns-clause-listed
returns-clause-listed g c = λ before.
    let P : List ℕ → Type 0 = λ x. IsListed (known_of c.args.nodes.now) x in subst P (sym c.has_room.ensures.items) before
