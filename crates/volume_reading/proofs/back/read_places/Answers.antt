use Rattle.std.proofs.Common.{◌≡◌, ◌+◌, ◌∙◌, List, ℕ, ap, arith, drop, length, sym}
use Rattle.std.proofs.lemmas.List.{take_at}
use Rattle.reissue.specs.Transfers.{link_of, table_of}
use Rattle.volume_reading.proofs.Waiting.{back_none}
use Rattle.volume_reading.proofs.Partway.{partway_none, next_start, next_whole, next_most, next_bound, next_enough, partway_more, partway_cut, partway_all}
use Rattle.volume_reading.proofs.back.read_places.Goals as goal

pub loop-place-init : goal.loop-place-init
loop-place-init g c =
    let t = c.args.transfers.now in
    let h = g.L.Link.history (link_of t) in
    let w = g.L.Link.truth (link_of t) in
    record {
      partway = partway_none g.T.Takes.takes c.args.taker.now c.args.minor c.args.places.now (table_of t) h w
          ((table_of t).ids + g.L.Link.budget_left (link_of t)) c.requires.places
          (back_none c.args.minor (table_of t) h w c.requires.unended c.requires.live c.requires.idle);
      goes = g.met.L.Link.stays _;
      room = c.requires.room;
      none = c.args.room.none;
      wide = c.args.room.wide;
      long = c.args.room.long;
    }

pub read_place-requires-clause-start : goal.read_place-requires-clause-start
read_place-requires-clause-start g c =
    next_start _ _ _ _ _ _ _ _ _ _ _ _ _ _ c.loop-place.invariant.partway c.loop-place-test.true

pub read_place-requires-clause-whole : goal.read_place-requires-clause-whole
read_place-requires-clause-whole g c =
    next_whole _ _ _ _ _ _ _ _ _ _ _ _ _ _ c.loop-place.invariant.partway c.loop-place-test.true

pub read_place-requires-clause-most : goal.read_place-requires-clause-most
read_place-requires-clause-most g c =
    next_most _ _ _ _ _ _ _ _ _ _ _ _ _ _ c.loop-place.invariant.partway c.loop-place-test.true

pub read_place-requires-clause-bound : goal.read_place-requires-clause-bound
read_place-requires-clause-bound g c =
    next_bound _ _ _ _ _ _ _ _ _ _ _ _ _ _ c.loop-place.invariant.partway c.loop-place-test.true

pub read_place-requires-clause-ids : goal.read_place-requires-clause-ids
read_place-requires-clause-ids g c =
    let e = next_enough _ _ _ _ _ _ _ _ _ _ _ _ _ _ c.loop-place.invariant.partway c.loop-place-test.true in
    omega (arith, e, c.requires.ids)

pub returns-in-Err-clause-back : goal.returns-in-Err-clause-back
returns-in-Err-clause-back g c =
    partway_cut _ _ _ _ _ _ _ _ _ _ _ _ _ _ c.loop-place.invariant.partway c.in-Err.stop _ _ _ _ _ c.in-Err.ensures.reads
    c.in-Err.ensures.memory

pub loop-place-preserved : goal.loop-place-preserved
loop-place-preserved g c =
    let i = c.loop-place.invariant in
    let e = c.in-Ok.ensures in
    let u = c.read_place.new.transfers in
    let b = c.loop-place.buffer in
    let n = c.read_place.new.buffer in
    let same : length n ≡ length b.items = e.long ∙ ap (λ (l : List ℕ). length l) c.deref_mut.ensures.value in
    record {
      partway = partway_more _ _ _ _ _ _ _ _ _ _ _ _ _ _ i.partway c.loop-place-test.true
          (table_of u) (g.L.Link.history (link_of u)) (g.L.Link.truth (link_of u)) c.read_place.new.taker _ e.reads e.ids;
      goes = g.met.L.Link.joins _ _ _ i.goes e.goes;
      room = e.room;
      none = e.none;
      wide = rw e.wide i.wide;
      long = ap (λ (l : List ℕ). length l) (take_at n (drop (length n) b.items) b.len (same ∙ sym b.ok.0)) ∙ same ∙ i.long;
    }

pub returns-clause-back : goal.returns-clause-back
returns-clause-back g c =
    partway_all _ _ _ _ _ _ _ _ _ _ _ _ _ _ c.loop-place.invariant.partway c.loop-place-test.false
