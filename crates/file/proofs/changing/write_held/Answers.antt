use Rattle.std.proofs.Common.{rules, ◌≡◌, ◌<◌, ◌≤◌, ◌+◌, ◌-◌, ◌/◌, ◌%◌, length, ap, arith}
use Rattle.std.proofs.lemmas.Nat.{mod_below}
use Rattle.block_store.proofs.Turns.{turns_as, turns_then, turns_none}
use Rattle.block_store.proofs.Ending.{ends_exit}
use Rattle.file.proofs.Rest.{wide}
use Rattle.file.proofs.Sizes.{some_pages, index_in_row, next_starts, next_index}
use Rattle.file.proofs.HeldRow.{row_none, row_zone, row_goes_on, row_written}
use Rattle.file.proofs.changing.write_held.Goals as goal

pub overflow_sub-done : goal.overflow_sub-done
overflow_sub-done g c =
    let a = c.args in
    let l = c.loop-done in
    let starts = l.invariant.from c.loop-done-test.true in
    let below = mod_below (a.at + l.done) a.geometry.now.block_size (wide a.geometry.now c.requires.on.geometry) in
    omega (arith, starts, below)

pub bounds-zones-index : goal.bounds-zones-index
bounds-zones-index g c =
    let a = c.args in
    let l = c.loop-done in
    let w = a.geometry.now.block_size in
    let fit = wide a.geometry.now c.requires.on.geometry in
    let some : 0 < length a.zones.now = some_pages w fit a.at (length a.bytes.now) (length a.zones.now) c.requires.some c.requires.pages in
    index_in_row w fit a.at (length a.zones.now) l.done (length a.bytes.now) l.index some c.requires.pages c.loop-done-test.true (l.invariant.index c.loop-done-test.true)

pub loop-done-init : goal.loop-done-init
loop-done-init g c =
    let a = c.args in
    record {
      turns = turns_as _ _ _ _ _ (λ d e same. λ n row. row_none a.geometry.now n a.at a.bytes.now (a.at / a.geometry.now.block_size) a.zones.now d e same row)
          (turns_none _ g.met.B.Blocks.lawful _ c.requires.on.ready);
      done = omega arith;
      from = λ some. ap (λ x. x % a.geometry.now.block_size) (omega arith);
      index = λ some. let same : a.at / a.geometry.now.block_size ≡ (a.at + 0) / a.geometry.now.block_size = ap (λ x. x / a.geometry.now.block_size) (omega arith) in omega (arith, same);
    }

pub returns-in_err-write_page-clause-turns : goal.returns-in_err-write_page-clause-turns
returns-in_err-write_page-clause-turns g c =
    let a = c.args in
    let l = c.loop-done in
    let w = a.geometry.now.block_size in
    let up : l.done < c.min-end.result = omega (arith, c.min-end.ensures) in
    let low : c.min-end.result ≤ length a.bytes.now = omega (arith, c.min-end.ensures) in
    let its = l.invariant.index c.loop-done-test.true in
    let some : 0 < length a.zones.now = some_pages w (wide a.geometry.now c.requires.on.geometry) a.at (length a.bytes.now) (length a.zones.now) c.requires.some c.requires.pages in
    let few : l.index < length a.zones.now =
    index_in_row w (wide a.geometry.now c.requires.on.geometry) a.at (length a.zones.now) l.done (length a.bytes.now) l.index some c.requires.pages c.loop-done-test.true its in
    turns_then _ g.met.B.Blocks.lawful _ _ _ _ _ _
    (λ d e f p q. λ n row. ends_exit _ _ _ _ _ _ c.from_residual.ensures.1
    (λ may. row_zone a.geometry.now n a.at a.bytes.now (a.at / w) a.zones.now l.done c.min-end.result l.index up low c.requires.end its few d e (p n row) may) q)
    l.invariant.turns c.in_err-write_page.ensures.turns

pub loop-done-preserved : goal.loop-done-preserved
loop-done-preserved g c =
    let a = c.args in
    let l = c.loop-done in
    let w = a.geometry.now.block_size in
    let up : l.done < c.min-end.result = omega (arith, c.min-end.ensures) in
    let low : c.min-end.result ≤ length a.bytes.now = omega (arith, c.min-end.ensures) in
    let its = l.invariant.index c.loop-done-test.true in
    let starts = l.invariant.from c.loop-done-test.true in
    let some : 0 < length a.zones.now = some_pages w (wide a.geometry.now c.requires.on.geometry) a.at (length a.bytes.now) (length a.zones.now) c.requires.some c.requires.pages in
    let few : l.index < length a.zones.now =
    index_in_row w (wide a.geometry.now c.requires.on.geometry) a.at (length a.zones.now) l.done (length a.bytes.now) l.index some c.requires.pages c.loop-done-test.true its in
    let fit : l.from + (c.min-end.result - l.done) ≤ w = omega (arith, c.min-end.ensures) in
    let ends : c.min-end.result < length a.bytes.now → c.min-end.result ≡ l.done + w - l.from = λ more. omega (arith, c.min-end.ensures, more) in
    record {
      turns = turns_then _ g.met.B.Blocks.lawful _ _ _ _ _ _
          (λ d e f p q. λ n row. row_goes_on a.geometry.now n a.at a.bytes.now (a.at / w) a.zones.now l.done c.min-end.result l.index up low c.requires.end its few d e (p n row)
          l.from starts fit f (q n ((a.at + l.done) / w)))
          l.invariant.turns c.in_ok-write_page.ensures.turns;
      done = low;
      from = λ more. next_starts w (wide a.geometry.now c.requires.on.geometry) a.at l.done c.min-end.result l.from starts (ends more);
      index = λ more. next_index w (wide a.geometry.now c.requires.on.geometry) a.at l.done c.min-end.result l.from l.index starts its (ends more);
    }

pub returns-clause-turns : goal.returns-clause-turns
returns-clause-turns g c =
    let a = c.args in
    let l = c.loop-done in
    let all : length a.bytes.now ≤ l.done = search rules in
    turns_as _ _ _ _ _ (λ d e p. λ n row. row_written a.geometry.now n a.at a.bytes.now (a.at / a.geometry.now.block_size) a.zones.now l.done d e c.requires.some all (p n row))
    l.invariant.turns
