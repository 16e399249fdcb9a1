use Rattle.std.proofs.Common.{length, arith, sym}
use Rattle.volume_reading.specs.Sought.{place_of}
use Rattle.volume_reading.proofs.Searching.{before_at}
use Rattle.volume_reading.proofs.Parts.{puts_piece}
use Rattle.volume_reading.proofs.sought.put_bytes.Goals as goal

pub piece_size-count-requires : goal.piece_size-count-requires
piece_size-count-requires c =
    (before_at (length c.args.into.now) (length c.args.into.now) c.args.asked.now.items c.args.ticket c.in-Some.at c.requires.within (sym c.in-Some.ensures.at)).0

pub slice_bounds-copy_from_slice-end : goal.slice_bounds-copy_from_slice-end
slice_bounds-copy_from_slice-end c =
    let b = before_at (length c.args.into.now) (length c.args.into.now) c.args.asked.now.items c.args.ticket c.in-Some.at c.requires.within (sym c.in-Some.ensures.at) in
    omega (arith, b.1, c.piece_size-count.ensures)

pub returns-in-Some-clause-puts : goal.returns-in-Some-clause-puts
returns-in-Some-clause-puts c =
    let b = before_at (length c.args.into.now) (length c.args.into.now) c.args.asked.now.items c.args.ticket c.in-Some.at c.requires.within (sym c.in-Some.ensures.at) in
    puts_piece (place_of c.args.asked.now.items c.args.ticket) c.in-Some.at c.piece_size-count.result c.args.bytes.now c.args.into.now c.copy_from_slice.new.self
    (sym c.in-Some.ensures.at) c.piece_size-count.ensures b.0 (omega (arith, c.piece_size-count.ensures)) c.copy_from_slice.ensures.after
