use Rattle.std.proofs.Common.{◌<◌, ◌≤◌, ◌^◌, Err, sym, subst, arith, rules}
use Rattle.errno.specs.declared.Errno.TheVariants.{EINVAL, EMLINK}
use Rattle.tree.specs.IsCall.{IsBytes}
use Rattle.tree.specs.Answers.{done}
use Rattle.tree.specs.NameCalls.{mkdir}
use Rattle.tree.specs.Tree.{Tree}
use Rattle.volume.specs.Reading.{Disk}
use Rattle.descriptors.specs.Files.{HasFiles}
use Rattle.block_store.proofs.Turns.{turns_as, turns_none, turns_then}
use Rattle.path.proofs.Ending.{answers_as}
use Rattle.calls_names.specs.Making.{MakesDirectoryAt, MayMakeDirectoryAt}
use Rattle.calls_names.specs.Vacant.{FindsNewPlace, FindsNumber, IsNewPlace}
use Rattle.calls_names.proofs.NewDirectories.{bad_mode, directory_done, many_links, may_make, no_place, no_room}
use Rattle.calls_names.proofs.Ending.{meets_exit, meets_halted, meets_refused, reads_both}
use Rattle.calls_names.proofs.directories.make.Goals as goal

pub returns-then-mode-gt-MAX_PERMISSIONS-clause-turns : goal.returns-then-mode-gt-MAX_PERMISSIONS-clause-turns
returns-then-mode-gt-MAX_PERMISSIONS-clause-turns g c =
    let a = c.args in
    let v = a.geometry.now in
    let big : 511 < a.mode = search rules in
    turns_as _ _ _ _ _
    (λ d e p f. meets_refused v (λ (t : Tree). mkdir v t a.user a.now a.path a.mode) (HasFiles f) (HasFiles f) d e p (λ t h. h) EINVAL
    (λ t holds. bad_mode v c.requires.on.geometry a.user a.now a.mode a.path t big))
    (turns_none _ g.met.B.Blocks.lawful _ c.requires.on.ready)

pub returns-in_err-place-clause-turns : goal.returns-in_err-place-clause-turns
returns-in_err-place-clause-turns g c =
    let a = c.args in
    let v = a.geometry.now in
    let few : a.mode ≤ 511 = search rules in
    turns_as _ _ _ _ _
    (λ d e p f. meets_exit v (λ (t : Tree). mkdir v t a.user a.now a.path a.mode) (λ x. done) (HasFiles f) (HasFiles f) d e p.0 (λ t h. h) _ _
    (λ t. FindsNewPlace v d t a.user a.path) c.from_residual.ensures.1 (λ t holds files. p.1 t holds)
    (λ t x holds h. no_place v c.requires.on.geometry a.user a.now a.mode a.path few t x h))
    c.in_err-place.ensures.reads.turns

pub returns-then-place-ge-MAX_LINKS-clause-turns : goal.returns-then-place-ge-MAX_LINKS-clause-turns
returns-then-place-ge-MAX_LINKS-clause-turns g c =
    let a = c.args in
    let v = a.geometry.now in
    let few : a.mode ≤ 511 = search rules in
    let many : 32767 ≤ c.in_ok-place.place.inode.links = search rules in
    turns_as _ _ _ _ _
    (λ d e p f. meets_refused v (λ (t : Tree). mkdir v t a.user a.now a.path a.mode) (HasFiles f) (HasFiles f) d e p.0 (λ t h. h) EMLINK
    (λ t holds. many_links v c.requires.on.geometry a.user a.now a.mode a.path few d t c.in_ok-place.place holds (p.1 t holds) many))
    c.in_ok-place.ensures.reads.turns

pub returns-in_err-number-clause-turns : goal.returns-in_err-number-clause-turns
returns-in_err-number-clause-turns g c =
    let a = c.args in
    let v = a.geometry.now in
    let q = c.in_ok-place.place in
    let few : a.mode ≤ 511 = search rules in
    let low : q.inode.links < 32767 = search rules in
    turns_as _ _ _ _ _
    (λ d e p f. meets_exit v (λ (t : Tree). mkdir v t a.user a.now a.path a.mode) (λ x. done) (HasFiles f) (HasFiles f) d e p.0 (λ t h. h) _ _
    (λ t r. (new : IsNewPlace v d t a.user a.path q) × FindsNumber v t q.directory new.parent q.name.now 1 r) c.from_residual-in_err-number.ensures.1
    (λ t holds files. let new = p.1.0 t holds in answers_as (Err c.in_err-number.field-0.0) (λ r. FindsNumber v t q.directory new.parent q.name.now 1 r) (λ r. (x : IsNewPlace v d t a.user a.path q) × FindsNumber v t q.directory x.parent q.name.now 1 r) (λ r h. (new, h)) (p.1.1 t new.parent holds new.vacant))
    (λ t x holds h. no_room v c.requires.on.geometry a.user a.now a.mode a.path few d t q holds h.0 low x h.1))
    (reads_both _ g.met.B.Blocks.lawful _ _ _ _ _ c.in_ok-place.ensures.reads c.in_err-number.ensures.reads).turns

pub returns-in_err-put_directory-clause-turns : goal.returns-in_err-put_directory-clause-turns
returns-in_err-put_directory-clause-turns g c =
    let a = c.args in
    let v = a.geometry.now in
    let q = c.in_ok-place.place in
    let n = c.in_ok-number.number in
    let few : a.mode ≤ 511 = search rules in
    let low : q.inode.links < 32767 = search rules in
    turns_then _ g.met.B.Blocks.lawful _ _ _ _ _ _
    (λ d e h p r f. meets_halted v (λ (t : Tree). mkdir v t a.user a.now a.path a.mode) (λ x. done) (HasFiles f) (HasFiles f) d h _ _ _ _
    c.from_residual-in_err-put_directory.ensures.1 r
    (λ held. let new = p.1.0 held.tree held.holds in
    subst (λ (z : Disk). MayMakeDirectoryAt v z q n) (sym p.0)
    (may_make v c.requires.on.geometry a.user a.now a.mode a.path few d held.tree q held.holds new low n (p.1.1 held.tree new.parent held.holds new.vacant))))
    (reads_both _ g.met.B.Blocks.lawful _ _ _ _ _ c.in_ok-place.ensures.reads c.in_ok-number.ensures.reads).turns
    c.in_err-put_directory.ensures.turns

pub returns-clause-turns : goal.returns-clause-turns
returns-clause-turns g c =
    let a = c.args in
    let v = a.geometry.now in
    let q = c.in_ok-place.place in
    let n = c.in_ok-number.number in
    let few : a.mode ≤ 511 = search rules in
    let low : q.inode.links < 32767 = search rules in
    let small : a.now < 2 ^ 32 = (let k = c.ranges.now.fits in omega (arith, k)) in
    let uid : a.user.uid < 2 ^ 16 = search rules in
    let gid : a.user.gid < 2 ^ 16 = search rules in
    let bytes : IsBytes a.path.bytes.now = c.are_bytes.ensures in
    turns_then _ g.met.B.Blocks.lawful _ _ _ _ _ _
    (λ d e h p r f. directory_done v c.requires.on.geometry a.user a.now a.mode a.path few d h q n f small uid gid bytes low
    (λ t holds. let new = p.1.0 t holds in (new, p.1.1 t new.parent holds new.vacant))
    (subst (λ (z : Disk). MakesDirectoryAt v a.user a.now a.mode q n z h) p.0 r))
    (reads_both _ g.met.B.Blocks.lawful _ _ _ _ _ c.in_ok-place.ensures.reads c.in_ok-number.ensures.reads).turns
    c.in_ok-put_directory.ensures.turns
