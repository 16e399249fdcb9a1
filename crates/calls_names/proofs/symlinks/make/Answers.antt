use Rattle.std.proofs.Common.{◌≡◌, ◌<◌, ◌^◌, Err, Ok, sym, subst, arith, rules}
use Rattle.std.proofs.lemmas.List.Elements.{All-from_get_or}
use Rattle.std.specs.List.{All}
use Rattle.tree.specs.IsCall.{IsBytes}
use Rattle.tree.specs.Answers.{done}
use Rattle.tree.specs.NameCalls.{symlink}
use Rattle.tree.specs.Tree.{Tree}
use Rattle.volume.specs.Reading.{Disk}
use Rattle.descriptors.specs.Files.{HasFiles}
use Rattle.block_store.proofs.Turns.{turns_as, turns_none, turns_then}
use Rattle.path.proofs.Ending.{answers_as}
use Rattle.calls_names.specs.Asking.{may_be_target}
use Rattle.calls_names.specs.Making.{MakesLinkAt, MayMakeAt}
use Rattle.calls_names.specs.Vacant.{FindsNewPlace, FindsNumber, IsNewPlace}
use Rattle.calls_names.proofs.NewSymlinks.{bad_target, link_done, may_make, no_place, no_room}
use Rattle.calls_names.proofs.Ending.{meets_exit, meets_halted, meets_left, reads_both}
use Rattle.calls_names.proofs.symlinks.make.Goals as goal

pub returns-in_err-may_be_target-clause-turns : goal.returns-in_err-may_be_target-clause-turns
returns-in_err-may_be_target-clause-turns g c =
    let a = c.args in
    let v = a.geometry.now in
    let call = λ (t : Tree). symlink v t a.user a.now a.target.now a.path in
    let bad : may_be_target a.target.now ≡ Err c.in_err-may_be_target.field-0.0 = sym c.in_err-may_be_target.ensures.asked in
    turns_as _ _ _ _ _
    (λ d e p f. meets_left v call (λ x. done) (HasFiles f) (HasFiles f) d e p (λ t h. h)
    _ c.in_err-may_be_target.field-0.0 c.from_residual.ensures.1
    (λ t. bad_target v c.requires.on.geometry a.user a.now a.target a.path t _ bad))
    (turns_none _ g.met.B.Blocks.lawful _ c.requires.on.ready)

pub returns-in_err-place-clause-turns : goal.returns-in_err-place-clause-turns
returns-in_err-place-clause-turns g c =
    let a = c.args in
    let v = a.geometry.now in
    let call = λ (t : Tree). symlink v t a.user a.now a.target.now a.path in
    let fit : may_be_target a.target.now ≡ Ok tt = sym c.in_ok-may_be_target.ensures.asked in
    turns_as _ _ _ _ _
    (λ d e p f. meets_exit v call (λ x. done) (HasFiles f) (HasFiles f) d e p.0 (λ t h. h) _ _
    (λ t. FindsNewPlace v d t a.user a.path) c.from_residual-in_err-place.ensures.1 (λ t holds files. p.1 t holds)
    (λ t x holds h. no_place v c.requires.on.geometry a.user a.now a.target a.path fit t x h))
    c.in_err-place.ensures.reads.turns

pub returns-in_err-number-clause-turns : goal.returns-in_err-number-clause-turns
returns-in_err-number-clause-turns g c =
    let a = c.args in
    let v = a.geometry.now in
    let call = λ (t : Tree). symlink v t a.user a.now a.target.now a.path in
    let q = c.in_ok-place.place in
    let fit : may_be_target a.target.now ≡ Ok tt = sym c.in_ok-may_be_target.ensures.asked in
    turns_as _ _ _ _ _
    (λ d e p f. meets_exit v call (λ x. done) (HasFiles f) (HasFiles f) d e p.0 (λ t h. h) _ _
    (λ t r. (new : IsNewPlace v d t a.user a.path q) × FindsNumber v t q.directory new.parent q.name.now 1 r)
    c.from_residual-in_err-number.ensures.1
    (λ t holds files. let new = p.1.0 t holds in
    answers_as (Err c.in_err-number.field-0.0) (λ r. FindsNumber v t q.directory new.parent q.name.now 1 r)
    (λ r. (x : IsNewPlace v d t a.user a.path q) × FindsNumber v t q.directory x.parent q.name.now 1 r)
    (λ r h. (new, h)) (p.1.1 t new.parent holds new.vacant))
    (λ t x holds h. no_room v c.requires.on.geometry a.user a.now a.target a.path fit d t q holds h.0 x h.1))
    (reads_both _ g.met.B.Blocks.lawful _ _ _ _ _ c.in_ok-place.ensures.reads c.in_err-number.ensures.reads).turns

pub returns-in_err-put_link-clause-turns : goal.returns-in_err-put_link-clause-turns
returns-in_err-put_link-clause-turns g c =
    let a = c.args in
    let v = a.geometry.now in
    let call = λ (t : Tree). symlink v t a.user a.now a.target.now a.path in
    let q = c.in_ok-place.place in
    let n = c.in_ok-number.number in
    let fit : may_be_target a.target.now ≡ Ok tt = sym c.in_ok-may_be_target.ensures.asked in
    turns_then _ g.met.B.Blocks.lawful _ _ _ _ _ _
    (λ d e h p r f. meets_halted v call (λ x. done) (HasFiles f) (HasFiles f) d h _ _ _ _
    c.from_residual-in_err-put_link.ensures.1 r
    (λ held. let new = p.1.0 held.tree held.holds in
    subst (λ (z : Disk). MayMakeAt v z q n 1) (sym p.0)
    (may_make v c.requires.on.geometry a.user a.now a.target a.path fit d held.tree q held.holds new n
    (p.1.1 held.tree new.parent held.holds new.vacant))))
    (reads_both _ g.met.B.Blocks.lawful _ _ _ _ _ c.in_ok-place.ensures.reads c.in_ok-number.ensures.reads).turns
    c.in_err-put_link.ensures.turns

pub returns-clause-turns : goal.returns-clause-turns
returns-clause-turns g c =
    let a = c.args in
    let v = a.geometry.now in
    let call = λ (t : Tree). symlink v t a.user a.now a.target.now a.path in
    let q = c.in_ok-place.place in
    let n = c.in_ok-number.number in
    let fit : may_be_target a.target.now ≡ Ok tt = sym c.in_ok-may_be_target.ensures.asked in
    let small : a.now < 2 ^ 32 = (let k = c.ranges.now.fits in omega (arith, k)) in
    let uid : a.user.uid < 2 ^ 16 = search rules in
    let gid : a.user.gid < 2 ^ 16 = search rules in
    let its_bytes : All (λ k. k < 256) a.target.now =
    All-from_get_or (λ k. k < 256) a.target.now 0 (λ i l. let k = c.type_inv.target i in omega (arith, k)) in
    let bytes : IsBytes a.path.bytes.now = c.are_bytes.ensures in
    turns_then _ g.met.B.Blocks.lawful _ _ _ _ _ _
    (λ d e h p r f. link_done v c.requires.on.geometry a.user a.now a.target a.path fit d h q n f small uid gid its_bytes bytes
    (λ t holds. let new = p.1.0 t holds in (new, p.1.1 t new.parent holds new.vacant))
    (subst (λ (z : Disk). MakesLinkAt v a.user a.now a.target.now q n z h) p.0 r))
    (reads_both _ g.met.B.Blocks.lawful _ _ _ _ _ c.in_ok-place.ensures.reads c.in_ok-number.ensures.reads).turns
    c.in_ok-put_link.ensures.turns
