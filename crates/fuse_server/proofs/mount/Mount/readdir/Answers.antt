use Rattle.fuse_server.proofs.mount.Mount.readdir.Goals as goal

pub returns-in_err-keep_names-clause-asked : goal.returns-in_err-keep_names-clause-asked
returns-in_err-keep_names-clause-asked g c = c.keep_names.ensures.asked

pub returns-clause-asked : goal.returns-clause-asked
returns-clause-asked g c = c.keep_names.ensures.asked

pub returns-in_err-keep_names-clause-steps : goal.returns-in_err-keep_names-clause-steps
returns-in_err-keep_names-clause-steps g c = c.keep_names.ensures.steps

pub returns-clause-steps : goal.returns-clause-steps
returns-clause-steps g c = c.keep_names.ensures.steps
