use Rattle.std.proofs.Common.{◌∙◌, ap, slice_index}
use Rattle.std.specs.Prelude.{not, ◌&&◌, ◌==◌}
use Rattle.image.proofs.Texts.{one_more_blank, none_yet}
use Rattle.image.proofs.entry.is_blank.Goals as goal

pub loop-k-init : goal.loop-k-init
loop-k-init c = none_yet (λ k. not (slice_index c.args.bytes.now k == 0))

pub loop-k-preserved : goal.loop-k-preserved
loop-k-preserved c =
    c.both-blank.ensures ∙ ap (λ b. b && (slice_index c.args.bytes.now c.loop-k.k == 0)) c.loop-k.invariant
    ∙ one_more_blank (λ k. slice_index c.args.bytes.now k == 0) c.loop-k.k
