use Rattle.fuse_server.proofs.mount.Mount.on_nodes.Goals as goal

pub returns-in-Getattr-clause-asked : goal.returns-in-Getattr-clause-asked
returns-in-Getattr-clause-asked g c = c.getattr.ensures.asked

pub returns-in-Setattr-clause-asked : goal.returns-in-Setattr-clause-asked
returns-in-Setattr-clause-asked g c = c.setattr.ensures.asked

pub returns-in-Readlink-clause-asked : goal.returns-in-Readlink-clause-asked
returns-in-Readlink-clause-asked g c = c.readlink.ensures.asked

pub returns-in-Statfs-clause-asked : goal.returns-in-Statfs-clause-asked
returns-in-Statfs-clause-asked g c = c.statfs.ensures.asked

pub returns-in_default-clause-asked : goal.returns-in_default-clause-asked
returns-in_default-clause-asked g c = c.on_making.ensures.asked

pub returns-in-Getattr-clause-steps : goal.returns-in-Getattr-clause-steps
returns-in-Getattr-clause-steps g c = c.getattr.ensures.steps

pub returns-in-Setattr-clause-steps : goal.returns-in-Setattr-clause-steps
returns-in-Setattr-clause-steps g c = c.setattr.ensures.steps

pub returns-in-Readlink-clause-steps : goal.returns-in-Readlink-clause-steps
returns-in-Readlink-clause-steps g c = c.readlink.ensures.steps

pub returns-in-Statfs-clause-steps : goal.returns-in-Statfs-clause-steps
returns-in-Statfs-clause-steps g c = c.statfs.ensures.steps

pub returns-in_default-clause-steps : goal.returns-in_default-clause-steps
returns-in_default-clause-steps g c = c.on_making.ensures.steps
