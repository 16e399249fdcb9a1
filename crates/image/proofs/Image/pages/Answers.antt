use Rattle.std.proofs.Common.{arith}
use Rattle.image.proofs.Places.{is_geometry}
use Rattle.image.proofs.Image.pages.Goals as goal

pub nonzero_div-result : goal.nonzero_div-result
nonzero_div-result c = let i = c.args.self.now in let sized = (is_geometry i.bytes.now i.geometry i.parsed).sized in omega arith
