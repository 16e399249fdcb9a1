use Rattle.fuse_server.proofs.mount.Mount.hold.Goals as goal

pub returns-in_err-open_node-clause-asked : goal.returns-in_err-open_node-clause-asked
returns-in_err-open_node-clause-asked g c = c.open_node.ensures.asked

pub returns-in_err-open_node-clause-steps : goal.returns-in_err-open_node-clause-steps
returns-in_err-open_node-clause-steps g c = c.open_node.ensures.steps
