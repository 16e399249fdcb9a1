use Rattle.fuse_server.proofs.Steps.{step_forgotten}
use Rattle.fuse_server.proofs.mount.Mount.hear.Goals as goal

pub returns-in-Forget : goal.returns-in-Forget
returns-in-Forget c = step_forgotten _ _ c.forget.ensures
