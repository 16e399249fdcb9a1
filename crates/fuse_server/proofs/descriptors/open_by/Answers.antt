use Rattle.fuse_server.proofs.descriptors.open_by.Goals as goal

pub returns-in_err-fd-clause-asked : goal.returns-in_err-fd-clause-asked
returns-in_err-fd-clause-asked g c = c.calling.ensures.asked

pub returns-clause-asked : goal.returns-clause-asked
returns-clause-asked g c = c.calling.ensures.asked
