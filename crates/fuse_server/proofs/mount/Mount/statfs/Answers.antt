use Rattle.std.proofs.Common.{refl}
use Rattle.fuse_server.proofs.Steps.{no_step}
use Rattle.fuse_server.proofs.Asking.{on_err}
use Rattle.fuse_server.proofs.Telling.{room_behind}
use Rattle.fuse_server.proofs.mount.Mount.statfs.Goals as goal

pub returns-clause-behind : goal.returns-clause-behind
returns-clause-behind g c = room_behind c.args.work.reach c.room_of.result c.in_ok-room.room c.in_ok-room.ensures.seen c.room_of.ensures

pub returns-in_err-room-clause-asked : goal.returns-in_err-room-clause-asked
returns-in_err-room-clause-asked g c = on_err _ c.space.ensures.asked

pub returns-in_err-room-clause-steps : goal.returns-in_err-room-clause-steps
returns-in_err-room-clause-steps g c = no_step refl

pub returns-clause-steps : goal.returns-clause-steps
returns-clause-steps g c = no_step refl
