use Rattle.std.proofs.Common.{rules, ◌≡◌, ◌<◌, ◌≤◌, ◌+◌, ◌-◌, ◌/◌, ◌%◌, length, arith, refl, ap, ◌∙◌}
use Rattle.std.proofs.lemmas.Nat.{mod_below}
use Rattle.volume.specs.Pieces.{pieces}
use Rattle.block_store.proofs.Turns.{reads_as, reads_then, if_cut}
use Rattle.file.proofs.Parts.{length_kept}
use Rattle.file.proofs.Rest.{wide}
use Rattle.file.proofs.Sizes.{row_reaches, row_room, in_row, next_starts, next_index}
use Rattle.file.proofs.Joined.{next_bytes, row_bytes}
use Rattle.file.proofs.file_pages.reading.read_row.Goals as goal

pub overflow_mul-room : goal.overflow_mul-room
overflow_mul-room g c =
    let few : c.in_ok-found.found ≤ 16 = c.in_ok-found.ensures.some.1 in
    let fits = row_room c.args.geometry.now.block_size (wide c.args.geometry.now c.requires.on.geometry) c.in_ok-found.found few (omega arith) in
    omega (arith, fits)

pub overflow_sub-room : goal.overflow_sub-room
overflow_sub-room g c =
    let reach = row_reaches c.args.geometry.now.block_size (wide c.args.geometry.now c.requires.on.geometry) c.args.at c.in_ok-found.found c.in_ok-found.ensures.some.0 in
    omega (arith, reach)

pub overflow_sub-done : goal.overflow_sub-done
overflow_sub-done g c =
    let a = c.args in
    let l = c.loop-done in
    let starts = l.invariant.from c.loop-done-test.true in
    let below = mod_below (a.at + l.done) a.geometry.now.block_size (wide a.geometry.now c.requires.on.geometry) in
    omega (arith, starts, below)

pub bounds-zones-index : goal.bounds-zones-index
bounds-zones-index g c =
    let a = c.args in
    let l = c.loop-done in
    let few : c.in_ok-found.found ≤ 16 = c.in_ok-found.ensures.some.1 in
    let near = in_row a.geometry.now.block_size (wide a.geometry.now c.requires.on.geometry) a.at c.in_ok-found.found l.done c.min-count.result l.index
    c.in_ok-found.ensures.some.0 (omega (arith, c.min-count.ensures)) c.loop-done-test.true (l.invariant.index c.loop-done-test.true) in
    omega (arith, near, few)

pub loop-done-init : goal.loop-done-init
loop-done-init g c =
    let a = c.args in
    record {
      reads = reads_as _ _ _ _ _ (λ d p. (p, λ k low. absurd (omega (arith, low)))) c.in_ok-found.ensures.reads;
      many = refl;
      done = omega arith;
      from = λ some. ap (λ x. x % a.geometry.now.block_size) (omega arith);
      index = λ some. let same : a.at / a.geometry.now.block_size ≡ (a.at + 0) / a.geometry.now.block_size = ap (λ x. x / a.geometry.now.block_size) (omega arith) in omega (arith, same);
    }

pub loop-done-preserved : goal.loop-done-preserved
loop-done-preserved g c =
    let a = c.args in
    let l = c.loop-done in
    let w = a.geometry.now.block_size in
    let e = c.min-end.result in
    let n = c.in_ok-found.found in
    let its = l.invariant.index c.loop-done-test.true in
    let starts = l.invariant.from c.loop-done-test.true in
    let up : l.done ≤ e = omega (arith, c.min-end.ensures) in
    let low : e ≤ c.min-count.result = omega (arith, c.min-end.ensures) in
    let room : e ≤ length l.into = search rules in
    let many : length c.read_page.new.into ≡ e - l.done = search rules in
    let inside : a.at + e ≤ a.inode.now.size = search rules in
    let fit : l.from + (e - l.done) ≤ w = omega (arith, c.min-end.ensures) in
    let ends : e < c.min-count.result → e ≡ l.done + w - l.from = λ more. omega (arith, c.min-end.ensures, more) in
    let near : l.index < n =
    in_row w (wide a.geometry.now c.requires.on.geometry) a.at n l.done c.min-count.result l.index c.in_ok-found.ensures.some.0 (omega (arith, c.min-count.ensures)) c.loop-done-test.true its in
    record {
      reads = reads_then _ g.met.B.Blocks.lawful _ _ _ _ _ _
          (λ d p q. (
            p.0,
            next_bytes a.geometry.now (pieces a.geometry.now d) a.inode.now a.at l.done e ((a.at + l.done) / w) l.from
                l.into c.read_page.new.into refl starts up inside fit room many p.1
                (row_bytes a.geometry.now (pieces a.geometry.now d) a.inode.now (a.at / w) n l.index ((a.at + l.done) / w) l.from c.find_row.new.zones c.read_page.new.into p.0 its near q),
          ))
          l.invariant.reads c.in_ok-read_page.ensures.reads;
      many = length_kept l.done (e - l.done) l.into c.read_page.new.into (omega (arith, up, room)) many ∙ l.invariant.many;
      done = low;
      from = λ more. next_starts w (wide a.geometry.now c.requires.on.geometry) a.at l.done e l.from starts (ends more);
      index = λ more. next_index w (wide a.geometry.now c.requires.on.geometry) a.at l.done e l.from l.index starts its (ends more);
    }

pub returns-in_err-read_page-clause-reads : goal.returns-in_err-read_page-clause-reads
returns-in_err-read_page-clause-reads g c =
    reads_then _ g.met.B.Blocks.lawful _ _ _ _ _ _ (λ d p q. if_cut c.from_residual-in_err-read_page.result _ c.from_residual-in_err-read_page.ensures.0)
    c.loop-done.invariant.reads c.in_err-read_page.ensures.reads

pub returns-clause-reads : goal.returns-clause-reads
returns-clause-reads g c =
    let l = c.loop-done in
    let all : c.min-count.result ≤ l.done = search rules in
    reads_as _ _ _ _ _ (λ d p. λ k low. p.1 k (omega (arith, all, low))) l.invariant.reads

pub returns-clause-some : goal.returns-clause-some
returns-clause-some g c =
    let reach = row_reaches c.args.geometry.now.block_size (wide c.args.geometry.now c.requires.on.geometry) c.args.at c.in_ok-found.found c.in_ok-found.ensures.some.0 in
    (omega (arith, reach), omega arith)
