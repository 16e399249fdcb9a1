use Rattle.std.proofs.Common.{◌≡◌, ◌+◌, ◌*◌, ap, sym, ◌∙◌, arith}
use Rattle.volume.specs.Pieces.{pieces}
use Rattle.block_store.proofs.Turns.{reads_none, reads_then, if_cut}
use Rattle.bitmap.specs.Numbers.{count_free_in}
use Rattle.bitmap.specs.Maps.{numbers_in, last_number, reach}
use Rattle.bitmap.proofs.Blocks.{words_more}
use Rattle.bitmap.proofs.Counting.{counted_none, more_counted}
use Rattle.bitmap.proofs.search.count_free.Goals as goal

pub loop-k-init : goal.loop-k-init
loop-k-init g c =
    let m = c.args.map in
    let v = c.args.geometry.now in
    let first : 1 ≡ reach m v 0 = omega arith in
    record {
      reads = reads_none _ g.met.B.Blocks.lawful _ _ c.requires.on.ready
          (λ d. sym (counted_none (numbers_in m (pieces v d)) 1) ∙ ap (count_free_in (numbers_in m (pieces v d)) 1) first);
      most = omega (arith, first);
      cost = omega arith;
    }

pub returns-in_err-free-clause-reads : goal.returns-in_err-free-clause-reads
returns-in_err-free-clause-reads g c =
    reads_then _ g.met.B.Blocks.lawful _ _ _ _ _ _ (λ d p q. if_cut c.from_residual.result _ c.from_residual.ensures.0)
    c.loop-k.invariant.reads c.count_in.ensures.reads

pub loop-k-preserved : goal.loop-k-preserved
loop-k-preserved g c =
    let m = c.args.map in
    let v = c.args.geometry.now in
    let k = c.loop-k.k in
    let within = c.in_ok-free.ensures.within in
    let most = c.loop-k.invariant.most in
    record {
      reads = reads_then _ g.met.B.Blocks.lawful _ _ _ _ _ _
          (λ d p q. more_counted (numbers_in m (pieces v d)) 1 (reach m v k) (reach m v (k + 1)) _ _ (omega arith) (omega (arith, within)) p q)
          c.loop-k.invariant.reads c.in_ok-free.ensures.reads;
      most = omega (arith, within, most);
      cost = words_more (last_number m v) (8 * v.block_size) k _ _ _ (let s = c.requires.on.geometry.sized in omega (arith, s))
          c.loop-k.invariant.cost c.in_ok-free.ensures.cost;
    }
