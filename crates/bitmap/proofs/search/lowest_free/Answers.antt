use Rattle.std.proofs.Common.{◌+◌, ◌*◌, subst, arith}
use Rattle.volume.specs.Pieces.{pieces}
use Rattle.block_store.proofs.Turns.{reads_then, if_cut}
use Rattle.bitmap.specs.Numbers.{IsLowestFree}
use Rattle.bitmap.specs.Maps.{numbers_in, last_number, reach}
use Rattle.bitmap.proofs.Counting.{all_on, lowest_on}
use Rattle.bitmap.proofs.Blocks.{words_more}
use Rattle.bitmap.proofs.search.lowest_free.Goals as goal

pub returns-in_err-number-clause-reads : goal.returns-in_err-number-clause-reads
returns-in_err-number-clause-reads g c =
    reads_then _ g.met.B.Blocks.lawful _ _ _ _ _ _ (λ d p q. if_cut c.from_residual.result _ c.from_residual.ensures.0)
    c.loop-k.invariant.reads c.lowest_in.ensures.reads

pub returns-in-Some-clause-reads : goal.returns-in-Some-clause-reads
returns-in-Some-clause-reads g c =
    let m = c.args.map in
    let v = c.args.geometry.now in
    let k = c.loop-k.k in
    reads_then _ g.met.B.Blocks.lawful _ _ _ _ _ _
    (λ d p q. lowest_on (numbers_in m (pieces v d)) c.in-Some.number 1 (reach m v k) (reach m v (k + 1)) (last_number m v + 1) (omega arith) (omega arith) p
    (subst (λ x. IsLowestFree x (numbers_in m (pieces v d)) (reach m v k) (reach m v (k + 1))) c.in-Some.is q))
    c.loop-k.invariant.reads c.in_ok-number.ensures.reads

pub loop-k-preserved : goal.loop-k-preserved
loop-k-preserved g c =
    let m = c.args.map in
    let v = c.args.geometry.now in
    let k = c.loop-k.k in
    record {
      reads = reads_then _ g.met.B.Blocks.lawful _ _ _ _ _ _
          (λ d p q. all_on (numbers_in m (pieces v d)) 1 (reach m v k) (reach m v (k + 1)) p
          (subst (λ x. IsLowestFree x (numbers_in m (pieces v d)) (reach m v k) (reach m v (k + 1))) c.in_default.is q))
          c.loop-k.invariant.reads c.in_ok-number.ensures.reads;
      cost = words_more (last_number m v) (8 * v.block_size) k _ _ _ (let s = c.requires.on.geometry.sized in omega (arith, s))
          c.loop-k.invariant.cost c.in_ok-number.ensures.cost;
    }
