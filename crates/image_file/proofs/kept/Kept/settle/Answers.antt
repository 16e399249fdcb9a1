use Rattle.image_file.proofs.kept.Kept.settle.Goals as goal

pub returns-in-Ok-clause-ok : goal.returns-in-Ok-clause-ok
returns-in-Ok-clause-ok g c before after h = c.in-Ok.ensures.ok before after h
