use Rattle.std.proofs.Common.{◌++◌, ◌∙◌}
use Rattle.volume.specs.Fresh.{fresh_entries}
use Rattle.new_volume.specs.Image.{filled}
use Rattle.new_volume.proofs.new_image.Goals as goal

pub returns : goal.returns
returns c = c.in_ok-push_filled.ensures ∙ (λ i. c.in_ok-image.ensures i ++ filled fresh_entries (c.bytes_in.ensures.bytes i))
