use Rattle.fuse_server.proofs.mount.Mount.on_making.Goals as goal

pub returns-in-Mknod-clause-asked : goal.returns-in-Mknod-clause-asked
returns-in-Mknod-clause-asked g c = c.mknod.ensures.asked

pub returns-in-Mkdir-clause-asked : goal.returns-in-Mkdir-clause-asked
returns-in-Mkdir-clause-asked g c = c.mkdir.ensures.asked

pub returns-in-Create-clause-asked : goal.returns-in-Create-clause-asked
returns-in-Create-clause-asked g c = c.create.ensures.asked

pub returns-in-Symlink-clause-asked : goal.returns-in-Symlink-clause-asked
returns-in-Symlink-clause-asked g c = c.symlink.ensures.asked

pub returns-in_default-clause-asked : goal.returns-in_default-clause-asked
returns-in_default-clause-asked g c = c.on_names.ensures.asked

pub returns-in-Mknod-clause-steps : goal.returns-in-Mknod-clause-steps
returns-in-Mknod-clause-steps g c = c.mknod.ensures.steps

pub returns-in-Mkdir-clause-steps : goal.returns-in-Mkdir-clause-steps
returns-in-Mkdir-clause-steps g c = c.mkdir.ensures.steps

pub returns-in-Create-clause-steps : goal.returns-in-Create-clause-steps
returns-in-Create-clause-steps g c = c.create.ensures.steps

pub returns-in-Symlink-clause-steps : goal.returns-in-Symlink-clause-steps
returns-in-Symlink-clause-steps g c = c.symlink.ensures.steps

pub returns-in_default-clause-steps : goal.returns-in_default-clause-steps
returns-in_default-clause-steps g c = c.on_names.ensures.steps
