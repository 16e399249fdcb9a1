use Rattle.std.proofs.Common.{rules, ◌<◌, ◌≤◌, length, arith}
use Rattle.block_store.proofs.Turns.{turns_as, turns_then, turns_none}
use Rattle.block_store.proofs.Ending.{ends_exit}
use Rattle.file.proofs.SoFar.{so_far_none, may_go_on, goes_on, all_written}
use Rattle.file.proofs.changing.write_chunks.Goals as goal

pub loop-done-init : goal.loop-done-init
loop-done-init g c = record {
  turns = turns_as _ _ _ _ _ (λ d e h. so_far_none c.args.geometry.now c.args.number c.args.at c.args.bytes.now d e h)
      (turns_none _ g.met.B.Blocks.lawful _ c.requires.on.ready);
  done = omega arith;
}

pub returns-in_err-write_chunk-clause-turns : goal.returns-in_err-write_chunk-clause-turns
returns-in_err-write_chunk-clause-turns g c =
    let a = c.args in
    let l = c.loop-done in
    let up : l.done < c.min-end.result = search rules in
    let low : c.min-end.result ≤ length a.bytes.now = search rules in
    turns_then _ g.met.B.Blocks.lawful _ _ _ _ _ _
    (λ d e f p q. ends_exit _ _ _ _ _ _ c.from_residual.ensures.1 (λ may. may_go_on a.geometry.now a.number a.at a.bytes.now l.done c.min-end.result up low d e p may) q)
    l.invariant.turns c.in_err-write_chunk.ensures.turns

pub loop-done-preserved : goal.loop-done-preserved
loop-done-preserved g c =
    let a = c.args in
    let l = c.loop-done in
    let up : l.done < c.min-end.result = search rules in
    let low : c.min-end.result ≤ length a.bytes.now = search rules in
    record {
      turns = turns_then _ g.met.B.Blocks.lawful _ _ _ _ _ _
          (λ d e f p q. goes_on a.geometry.now a.number a.at a.bytes.now l.done c.min-end.result up low d e p f q)
          l.invariant.turns c.in_ok-write_chunk.ensures.turns;
      done = low;
    }

pub returns-clause-turns : goal.returns-clause-turns
returns-clause-turns g c =
    let a = c.args in
    let l = c.loop-done in
    let all : length a.bytes.now ≤ l.done = search rules in
    turns_as _ _ _ _ _ (λ d e p. all_written a.geometry.now a.number a.at a.bytes.now l.done d e c.requires.some all p) l.invariant.turns
