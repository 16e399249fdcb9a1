use Rattle.std.proofs.Common.{rules, ◌≡◌, ◌≤◌, ◌-◌, length, arith, ◌∙◌}
use Rattle.volume.specs.Pieces.{pieces}
use Rattle.volume.specs.Nodes.{file_of}
use Rattle.block_store.proofs.Turns.{reads_then, if_cut}
use Rattle.file.specs.Reading.{read_count}
use Rattle.file.proofs.Parts.{index_behind, length_kept}
use Rattle.file.proofs.Joined.{next_part}
use Rattle.file.proofs.file_pages.reading.read_at.Goals as goal

pub returns-in_err-more-clause-reads : goal.returns-in_err-more-clause-reads
returns-in_err-more-clause-reads g c =
    reads_then _ g.met.B.Blocks.lawful _ _ _ _ _ _ (λ d p q. if_cut c.from_residual.result _ c.from_residual.ensures.0)
    c.loop-done.invariant.reads c.in_err-more.ensures.reads

pub returns-in_err-more-clause-rest : goal.returns-in_err-more-clause-rest
returns-in_err-more-clause-rest g c =
    let l = c.loop-done in
    let e = c.min-count.result in
    let up : l.done ≤ e = search rules in
    let room : e ≤ length l.into = search rules in
    let many : length c.read_row.new.into ≡ e - l.done = search rules in
    let count : e ≡ read_count c.args.inode.now.size c.args.at (length c.args.into.now) = search rules in
    λ k high.
    index_behind l.done (e - l.done) l.into c.read_row.new.into (omega (arith, up, room)) many k (omega (arith, up, count, high))
    ∙ l.invariant.rest k (omega (arith, count, high))

pub loop-done-preserved : goal.loop-done-preserved
loop-done-preserved g c =
    let a = c.args in
    let l = c.loop-done in
    let e = c.min-count.result in
    let n = c.in_ok-more.more in
    let up : l.done ≤ e = search rules in
    let room : e ≤ length l.into = search rules in
    let many : length c.read_row.new.into ≡ e - l.done = search rules in
    let few : n ≤ e - l.done = search rules in
    record {
      reads = reads_then _ g.met.B.Blocks.lawful _ _ _ _ _ _
          (λ d p q. next_part (file_of a.geometry.now (pieces a.geometry.now d) a.inode.now) a.at l.done e n l.into c.read_row.new.into up room many few p q)
          l.invariant.reads c.in_ok-more.ensures.reads;
      rest = λ k high.
          index_behind l.done (e - l.done) l.into c.read_row.new.into (omega (arith, up, room)) many k (omega (arith, up, high)) ∙ l.invariant.rest k high;
      many = length_kept l.done (e - l.done) l.into c.read_row.new.into (omega (arith, up, room)) many ∙ l.invariant.many;
      done = omega (arith, up, few);
    }
