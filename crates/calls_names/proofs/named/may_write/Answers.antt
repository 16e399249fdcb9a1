use Rattle.calls_names.proofs.named.may_write.Goals as goal

pub returns : goal.returns
returns c node is = c.may.ensures node (record { permissions_are = is.permissions; owner = is.uid; group = is.gid })
