use Rattle.std.proofs.Common.{◌≡◌, ◌<◌, ◌^◌, sym, subst, arith}
use Rattle.std.specs.Prelude.{IfOk, IsTrue, Ok}
use Rattle.tree.specs.IsCall.{IsBytes}
use Rattle.tree.specs.Names.{is_name}
use Rattle.tree.specs.Walk.{read_path}
use Rattle.block_store.proofs.Turns.{turns_as, turns_none, turns_then}
use Rattle.block_store.proofs.Ending.{ends_exit, turns_three}
use Rattle.calls_names.specs.declared.linking.Free.{Free}
use Rattle.calls_names.specs.Linking.{FindsFile, FindsFree, IsLast}
use Rattle.calls_names.proofs.Both.{reads_both}
use Rattle.calls_names.proofs.Standing.{volume_of}
use Rattle.calls_names.proofs.Linked.{file_refused, is_number, linked, may_add, may_insert, name_of, name_short, new_refused, no_room, old_refused, place_refused}
use Rattle.calls_names.proofs.linking.link.Goals as goal

pub returns-in-Err-clause-turns : goal.returns-in-Err-clause-turns
returns-in-Err-clause-turns g c =
    let a = c.args in
    let v = a.geometry.now in
    turns_as _ _ _ _ _ (λ d e p f. old_refused v a.user a.now a.old a.new f d e c.in-Err.errno p (sym c.in-Err.ensures.parsed)) (turns_none _ g.met.B.Blocks.lawful _ c.requires.on.ready)

pub returns-in-Err-parse-clause-turns : goal.returns-in-Err-parse-clause-turns
returns-in-Err-parse-clause-turns g c =
    let a = c.args in
    let v = a.geometry.now in
    let from = c.in-Ok.path in
    let old_read : read_path a.old ≡ Ok from = sym c.in-Ok.ensures.parsed in
    turns_as _ _ _ _ _ (λ d e p f. new_refused v a.user a.now a.old a.new f d from old_read e c.in-Err-parse.errno p (sym c.in-Err-parse.ensures.parsed)) (turns_none _ g.met.B.Blocks.lawful _ c.requires.on.ready)

pub returns-in_err-number-clause-turns : goal.returns-in_err-number-clause-turns
returns-in_err-number-clause-turns g c =
    let a = c.args in
    let v = a.geometry.now in
    turns_as _ _ _ _ _ (λ d e p f. ends_exit _ _ _ _ _ _ c.from_residual.ensures.1 (λ h. volume_of v d f h) p.1) c.in_err-number.ensures.reads.turns

pub returns-in-Err-2-clause-turns : goal.returns-in-Err-2-clause-turns
returns-in-Err-2-clause-turns g c =
    let a = c.args in
    let v = a.geometry.now in
    let from = c.in-Ok.path in
    let old_read : read_path a.old ≡ Ok from = sym c.in-Ok.ensures.parsed in
    let to = c.in-Ok-parse.path in
    let new_read : read_path a.new ≡ Ok to = sym c.in-Ok-parse.ensures.parsed in
    turns_as _ _ _ _ _ (λ d e p f. file_refused v a.user a.now a.old a.new f d from old_read to new_read e c.in-Err-2.errno p.0 (subst (λ r. FindsFile v d a.user from r) c.in-Err-2.is p.1)) c.in_ok-number.ensures.reads.turns

pub returns-in_err-free-clause-turns : goal.returns-in_err-free-clause-turns
returns-in_err-free-clause-turns g c =
    let a = c.args in
    let v = a.geometry.now in
    turns_as _ _ _ _ _ (λ d e p f. ends_exit _ _ _ _ _ _ c.from_residual-in_err-free.ensures.1 (λ h. volume_of v d f h) p.1.1)
    (reads_both _ g.met.B.Blocks.lawful _ _ _ _ _ c.in_ok-number.ensures.reads c.in_err-free.ensures.reads).turns

pub returns-in-Err-3-clause-turns : goal.returns-in-Err-3-clause-turns
returns-in-Err-3-clause-turns g c =
    let a = c.args in
    let v = a.geometry.now in
    let from = c.in-Ok.path in
    let old_read : read_path a.old ≡ Ok from = sym c.in-Ok.ensures.parsed in
    let to = c.in-Ok-parse.path in
    let new_read : read_path a.new ≡ Ok to = sym c.in-Ok-parse.ensures.parsed in
    let n = c.in-Ok-2.number in
    turns_as _ _ _ _ _
    (λ d e p f. place_refused v a.user a.now a.old a.new f d from old_read to new_read n (subst (λ r. FindsFile v d a.user from r) c.in-Ok-2.is p.1.0) e c.in-Err-3.errno p.0 (subst (λ r. FindsFree v d a.user to r) c.in-Err-3.is p.1.1))
    (reads_both _ g.met.B.Blocks.lawful _ _ _ _ _ c.in_ok-number.ensures.reads c.in_ok-free.ensures.reads).turns

pub returns-in_err-has_room_for-clause-turns : goal.returns-in_err-has_room_for-clause-turns
returns-in_err-has_room_for-clause-turns g c =
    let a = c.args in
    let v = a.geometry.now in
    let from = c.in-Ok.path in
    let old_read : read_path a.old ≡ Ok from = sym c.in-Ok.ensures.parsed in
    let to = c.in-Ok-parse.path in
    let new_read : read_path a.new ≡ Ok to = sym c.in-Ok-parse.ensures.parsed in
    let n = c.in-Ok-2.number in
    let x = c.in-Ok-3.free in
    let ok = c.requires.on.geometry in
    turns_as _ _ _ _ _
    (λ d e p f. ends_exit _ _ _ _ _ _ c.from_residual-in_err-has_room_for.ensures.1
    (λ h. is_number v a.user a.now a.old a.new f d from old_read to new_read n (subst (λ r. FindsFile v d a.user from r) c.in-Ok-2.is p.1.0.0) ok x (subst (λ r. FindsFree v d a.user to r) c.in-Ok-3.is p.1.0.1) h.tree h.holds) p.1.1)
    (reads_both _ g.met.B.Blocks.lawful _ _ _ _ _ (reads_both _ g.met.B.Blocks.lawful _ _ _ _ _ c.in_ok-number.ensures.reads c.in_ok-free.ensures.reads) c.in_err-has_room_for.ensures.reads).turns

pub returns-then-not-branch-clause-turns : goal.returns-then-not-branch-clause-turns
returns-then-not-branch-clause-turns g c =
    let a = c.args in
    let v = a.geometry.now in
    let from = c.in-Ok.path in
    let old_read : read_path a.old ≡ Ok from = sym c.in-Ok.ensures.parsed in
    let to = c.in-Ok-parse.path in
    let new_read : read_path a.new ≡ Ok to = sym c.in-Ok-parse.ensures.parsed in
    let n = c.in-Ok-2.number in
    let x = c.in-Ok-3.free in
    let ok = c.requires.on.geometry in
    let room = c.in_ok-has_room_for.field-0 in
    turns_as _ _ _ _ _
    (λ d e p f. no_room v a.user a.now a.old a.new f d from old_read to new_read n (subst (λ r. FindsFile v d a.user from r) c.in-Ok-2.is p.1.0.0) ok x (subst (λ r. FindsFree v d a.user to r) c.in-Ok-3.is p.1.0.1) room p.1.1 e p.0 c.if-not-branch.true)
    (reads_both _ g.met.B.Blocks.lawful _ _ _ _ _ (reads_both _ g.met.B.Blocks.lawful _ _ _ _ _ c.in_ok-number.ensures.reads c.in_ok-free.ensures.reads) c.in_ok-has_room_for.ensures.reads).turns

pub returns-in_err-add_link-clause-turns : goal.returns-in_err-add_link-clause-turns
returns-in_err-add_link-clause-turns g c =
    let a = c.args in
    let v = a.geometry.now in
    let from = c.in-Ok.path in
    let old_read : read_path a.old ≡ Ok from = sym c.in-Ok.ensures.parsed in
    let to = c.in-Ok-parse.path in
    let new_read : read_path a.new ≡ Ok to = sym c.in-Ok-parse.ensures.parsed in
    let n = c.in-Ok-2.number in
    let x = c.in-Ok-3.free in
    let ok = c.requires.on.geometry in
    turns_then _ g.met.B.Blocks.lawful _ _ _ _ _ _
    (λ d m e p q f. ends_exit _ _ _ _ _ _ c.from_residual-in_err-add_link.ensures.1
    (λ h. may_add v a.user a.now a.old a.new f d from old_read to new_read n (subst (λ r. FindsFile v d a.user from r) c.in-Ok-2.is p.1.0.0) ok x (subst (λ r. FindsFree v d a.user to r) c.in-Ok-3.is p.1.0.1) m p.0 h) q)
    (reads_both _ g.met.B.Blocks.lawful _ _ _ _ _ (reads_both _ g.met.B.Blocks.lawful _ _ _ _ _ c.in_ok-number.ensures.reads c.in_ok-free.ensures.reads) c.in_ok-has_room_for.ensures.reads).turns c.in_err-add_link.ensures.turns

pub insert-requires-clause-short : goal.insert-requires-clause-short
insert-requires-clause-short g c =
    let a = c.args in
    let v = a.geometry.now in
    let to = c.in-Ok-parse.path in
    let new_read : read_path a.new ≡ Ok to = sym c.in-Ok-parse.ensures.parsed in
    let x = c.in-Ok-3.free in
    let bytes : IsBytes a.new.bytes.now = c.are_bytes.ensures in
    let name : IsTrue (is_name x.name.now) = name_of a.new to x.name.now bytes new_read (subst (λ r. IfOk r (λ (y : Free). IsLast to y.name.now)) c.in-Ok-3.is c.in_ok-free.ensures.last) in
    name_short x.name.now name

pub returns-in_err-insert-clause-turns : goal.returns-in_err-insert-clause-turns
returns-in_err-insert-clause-turns g c =
    let a = c.args in
    let v = a.geometry.now in
    let from = c.in-Ok.path in
    let old_read : read_path a.old ≡ Ok from = sym c.in-Ok.ensures.parsed in
    let to = c.in-Ok-parse.path in
    let new_read : read_path a.new ≡ Ok to = sym c.in-Ok-parse.ensures.parsed in
    let n = c.in-Ok-2.number in
    let x = c.in-Ok-3.free in
    let ok = c.requires.on.geometry in
    let room = c.in_ok-has_room_for.field-0 in
    let bytes : IsBytes a.new.bytes.now = c.are_bytes.ensures in
    let name : IsTrue (is_name x.name.now) = name_of a.new to x.name.now bytes new_read (subst (λ r. IfOk r (λ (y : Free). IsLast to y.name.now)) c.in-Ok-3.is c.in_ok-free.ensures.last) in
    turns_three _ g.met.B.Blocks.lawful _ _ _ _ _ _ _ _
    (λ d m0 m e p q r f. ends_exit _ _ _ _ _ _ c.from_residual-in_err-insert.ensures.1
    (λ h. may_insert v a.user a.now a.old a.new f d from old_read to new_read n (subst (λ r. FindsFile v d a.user from r) c.in-Ok-2.is p.1.0.0) ok x (subst (λ r. FindsFree v d a.user to r) c.in-Ok-3.is p.1.0.1) room p.1.1 c.if-not-branch.false m0 m p.0 q name h) r)
    (reads_both _ g.met.B.Blocks.lawful _ _ _ _ _ (reads_both _ g.met.B.Blocks.lawful _ _ _ _ _ c.in_ok-number.ensures.reads c.in_ok-free.ensures.reads) c.in_ok-has_room_for.ensures.reads).turns c.in_ok-add_link.ensures.turns c.in_err-insert.ensures.turns

pub returns-clause-turns : goal.returns-clause-turns
returns-clause-turns g c =
    let a = c.args in
    let v = a.geometry.now in
    let from = c.in-Ok.path in
    let old_read : read_path a.old ≡ Ok from = sym c.in-Ok.ensures.parsed in
    let to = c.in-Ok-parse.path in
    let new_read : read_path a.new ≡ Ok to = sym c.in-Ok-parse.ensures.parsed in
    let n = c.in-Ok-2.number in
    let x = c.in-Ok-3.free in
    let ok = c.requires.on.geometry in
    let room = c.in_ok-has_room_for.field-0 in
    let bytes : IsBytes a.new.bytes.now = c.are_bytes.ensures in
    let name : IsTrue (is_name x.name.now) = name_of a.new to x.name.now bytes new_read (subst (λ r. IfOk r (λ (y : Free). IsLast to y.name.now)) c.in-Ok-3.is c.in_ok-free.ensures.last) in
    let small : a.now < 2 ^ 32 = let k = c.ranges.now.fits in omega (arith, k) in
    turns_three _ g.met.B.Blocks.lawful _ _ _ _ _ _ _ _
    (λ d m0 m e p q r f. linked v a.user a.now a.old a.new f d from old_read to new_read n (subst (λ r. FindsFile v d a.user from r) c.in-Ok-2.is p.1.0.0) ok x (subst (λ r. FindsFree v d a.user to r) c.in-Ok-3.is p.1.0.1) room p.1.1 c.if-not-branch.false m0 m p.0 q name e r small bytes)
    (reads_both _ g.met.B.Blocks.lawful _ _ _ _ _ (reads_both _ g.met.B.Blocks.lawful _ _ _ _ _ c.in_ok-number.ensures.reads c.in_ok-free.ensures.reads) c.in_ok-has_room_for.ensures.reads).turns c.in_ok-add_link.ensures.turns c.in_ok-insert.ensures.turns
