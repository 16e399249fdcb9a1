use Rattle.std.proofs.Common.{◌∙◌, ap, arith}
use Rattle.std.specs.Prelude.{Some}
use Rattle.host.proofs.Zeros.{started, end_within, moved}
use Rattle.host.proofs.sparse.put_all.Goals as goal

pub loop-at-init : goal.loop-at-init
loop-at-init g c =
    let front = c.zeros_at_front-at.ensures in
    (front.within, λ n is fits. is ∙ ap (λ l. Some l) (started _ n _ front.within fits front.zeros))

pub loop-at-preserved : goal.loop-at-preserved
loop-at-preserved g c =
    let run = c.run_at_front.ensures.within in
    let behind = c.zeros_at_front.ensures in (
      end_within _ _ _ _ c.loop-at.invariant.0 run behind.within,
      λ n is fits. moved _ n _ _ _ _ _ _ (omega arith) c.loop-at.invariant.0 run behind.within behind.zeros c.in_ok-put.ensures
          (c.loop-at.invariant.1 n is fits) fits,
    )
