use Rattle.std.proofs.Common.{refl}
use Rattle.fuse_server.proofs.Steps.{no_step}
use Rattle.fuse_server.proofs.Asking.{stays}
use Rattle.fuse_nodes.specs.Known.{known_of}
use Rattle.fuse_server.proofs.KindLaws.{unknown_for}
use Rattle.fuse_server.proofs.mount.Mount.on_handles.Goals as goal

pub returns-in_default-clause-told : goal.returns-in_default-clause-told
returns-in_default-clause-told g c = unknown_for (known_of c.args.self.now.nodes) c.args.message.now.request

pub returns-in-Open-clause-asked : goal.returns-in-Open-clause-asked
returns-in-Open-clause-asked g c = c.open_file.ensures.asked

pub returns-in-Release-clause-asked : goal.returns-in-Release-clause-asked
returns-in-Release-clause-asked g c = c.release.ensures.asked

pub returns-in-Readdir-clause-asked : goal.returns-in-Readdir-clause-asked
returns-in-Readdir-clause-asked g c = c.readdir.ensures.asked

pub returns-in-Readdirplus-clause-asked : goal.returns-in-Readdirplus-clause-asked
returns-in-Readdirplus-clause-asked g c = c.readdirplus.ensures.asked

pub returns-in-Releasedir-clause-asked : goal.returns-in-Releasedir-clause-asked
returns-in-Releasedir-clause-asked g c = c.release-in-Releasedir.ensures.asked

pub returns-in-Open-clause-steps : goal.returns-in-Open-clause-steps
returns-in-Open-clause-steps g c = c.open_file.ensures.steps

pub returns-in-Release-clause-steps : goal.returns-in-Release-clause-steps
returns-in-Release-clause-steps g c = c.release.ensures.steps

pub returns-in-Readdir-clause-steps : goal.returns-in-Readdir-clause-steps
returns-in-Readdir-clause-steps g c = c.readdir.ensures.steps

pub returns-in-Readdirplus-clause-steps : goal.returns-in-Readdirplus-clause-steps
returns-in-Readdirplus-clause-steps g c = c.readdirplus.ensures.steps

pub returns-in-Releasedir-clause-steps : goal.returns-in-Releasedir-clause-steps
returns-in-Releasedir-clause-steps g c = c.release-in-Releasedir.ensures.steps

pub returns-in-Init-clause-asked : goal.returns-in-Init-clause-asked
returns-in-Init-clause-asked g c = stays _ _ _ _ _

pub returns-in-Destroy-clause-asked : goal.returns-in-Destroy-clause-asked
returns-in-Destroy-clause-asked g c = stays _ _ _ _ _

pub returns-in-Opendir-clause-asked : goal.returns-in-Opendir-clause-asked
returns-in-Opendir-clause-asked g c = stays _ _ _ _ _

pub returns-in_default-clause-asked : goal.returns-in_default-clause-asked
returns-in_default-clause-asked g c = stays _ _ _ _ _

pub returns-in-Init-clause-steps : goal.returns-in-Init-clause-steps
returns-in-Init-clause-steps g c = no_step refl

pub returns-in-Destroy-clause-steps : goal.returns-in-Destroy-clause-steps
returns-in-Destroy-clause-steps g c = no_step refl

pub returns-in-Opendir-clause-steps : goal.returns-in-Opendir-clause-steps
returns-in-Opendir-clause-steps g c = c.open_directory.ensures.steps

pub returns-in_default-clause-steps : goal.returns-in_default-clause-steps
returns-in_default-clause-steps g c = no_step refl
