use Rattle.std.proofs.Common.{ap, ◌∙◌, take, drop, ◌++◌}
use Rattle.layout.proofs.Written.{put_is}
use Rattle.layout.proofs.Geometry.write.Goals as goal

pub returns : goal.returns
returns c = put_is 1024 31 c.args.image.now c.copy_from_slice.new.self ∙ ap (λ bytes. take 1024 c.args.image.now ++ (bytes ++ drop 1055 c.args.image.now)) (c.copy_from_slice.ensures.after ∙ c.superblock.ensures)
