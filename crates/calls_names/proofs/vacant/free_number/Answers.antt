use Rattle.std.proofs.Common.{◌<◌, subst, arith, rules}
use Rattle.volume.specs.Pieces.{pieces}
use Rattle.block_store.proofs.Turns.{reads_as, reads_then}
use Rattle.file.specs.Room.{IsRoomBeside}
use Rattle.inode_operations.specs.NewNodes.{IsLeastFree}
use Rattle.calls_names.proofs.Ending.{answers_halted}
use Rattle.calls_names.proofs.Numbers.{directory_number, is_free_for, no_inode, no_zones, not_long}
use Rattle.calls_names.proofs.vacant.free_number.Goals as goal

pub returns-in_default-clause-reads : goal.returns-in_default-clause-reads
returns-in_default-clause-reads g c =
    let a = c.args in
    let v = a.geometry.now in
    reads_as _ _ _ _ _
    (λ d p t parent holds vacant. no_inode v c.requires.on.geometry d t a.place.now parent holds vacant a.others
    (subst (λ x. IsLeastFree v (pieces v d) x) c.in_default.is p))
    c.in_ok-number.ensures.reads

pub returns-then-size-clause-reads : goal.returns-then-size-clause-reads
returns-then-size-clause-reads g c =
    let a = c.args in
    let v = a.geometry.now in
    let big : 2147483583 < a.place.now.inode.size = search rules in
    reads_as _ _ _ _ _
    (λ d p t parent holds vacant. not_long v c.requires.on.geometry d t a.place.now parent holds vacant (omega (arith, big)))
    c.in_ok-number.ensures.reads

pub returns-in_err-has_room_beside-clause-reads : goal.returns-in_err-has_room_beside-clause-reads
returns-in_err-has_room_beside-clause-reads g c =
    let a = c.args in
    let v = a.geometry.now in
    reads_then _ g.met.B.Blocks.lawful _ _ _ _ _ _
    (λ d p q t parent holds vacant. answers_halted _ _ _ _ _ c.from_residual-in_err-has_room_beside.ensures.1 q
    (directory_number v c.requires.on.geometry d t a.place.now parent holds vacant))
    c.in_ok-number.ensures.reads c.in_err-has_room_beside.ensures.reads

pub returns-then-not-branch-clause-reads : goal.returns-then-not-branch-clause-reads
returns-then-not-branch-clause-reads g c =
    let a = c.args in
    let v = a.geometry.now in
    reads_then _ g.met.B.Blocks.lawful _ _ _ _ _ _
    (λ d p q t parent holds vacant. no_zones v c.requires.on.geometry d t a.place.now parent holds vacant a.others
    (subst (λ b. IsRoomBeside v (pieces v d) a.place.now.directory a.place.now.inode.size 64 a.others b) c.if-not-branch.true q))
    c.in_ok-number.ensures.reads c.in_ok-has_room_beside.ensures.reads

pub returns-clause-reads : goal.returns-clause-reads
returns-clause-reads g c =
    let a = c.args in
    let v = a.geometry.now in
    reads_then _ g.met.B.Blocks.lawful _ _ _ _ _ _
    (λ d p q t parent holds vacant. is_free_for v c.requires.on.geometry d t a.place.now parent holds vacant a.others c.in-Some.number
    (subst (λ x. IsLeastFree v (pieces v d) x) c.in-Some.is p)
    (subst (λ b. IsRoomBeside v (pieces v d) a.place.now.directory a.place.now.inode.size 64 a.others b) c.if-not-branch.false q))
    c.in_ok-number.ensures.reads c.in_ok-has_room_beside.ensures.reads
