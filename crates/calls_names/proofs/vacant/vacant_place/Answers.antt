use Rattle.std.proofs.Common.{◌≡◌, true, false, refl, sym, ap, ◌∙◌, Ok}
use Rattle.std.specs.Prelude.{not, is_some, ◌||◌}
use Rattle.tree.specs.IsCall.{IsBytes}
use Rattle.tree.specs.Walk.{has_last_name, read_path}
use Rattle.block_store.proofs.Turns.{reads_as, reads_none}
use Rattle.path.proofs.Ending.{answers_exit}
use Rattle.calls_names.proofs.Ending.{answers_refused}
use Rattle.calls_names.proofs.Vacancies.{barred, is_new_place, name_taken, not_read, not_walked, parent_node, parent_there, taken_is}
use Rattle.calls_names.proofs.vacant.vacant_place.Goals.{then-not-has_last_name-via-then-not-has_last_name, then-not-has_last_name-via-else-not-has_last_name+then-is_some}
use Rattle.calls_names.proofs.vacant.vacant_place.Goals as goal

pub returns-in_err-path-clause-reads : goal.returns-in_err-path-clause-reads
returns-in_err-path-clause-reads g c =
    let a = c.args in
    reads_none _ g.met.B.Blocks.lawful _ _ c.requires.on.ready
    (λ d t holds. answers_refused _ c.in_err-path.field-0.0 _ c.from_residual.ensures.1
    (λ rest. not_read t a.user a.path rest c.in_err-path.field-0.0 (sym c.in_err-path.ensures.parsed)))

pub returns-in_err-place-clause-reads : goal.returns-in_err-place-clause-reads
returns-in_err-place-clause-reads g c =
    let a = c.args in
    let read : read_path a.path ≡ Ok c.in_ok-path.path = sym c.in_ok-path.ensures.parsed in
    reads_as _ _ _ _ _
    (λ d p t holds. answers_exit _ _ _ _ c.from_residual-in_err-place.ensures.1
    (λ e is rest. not_walked t a.user a.path rest c.in_ok-path.path e read is) (p t holds.nodes))
    c.in_err-place.ensures.reads

pub returns-then-not-has_last_name-clause-reads : goal.returns-then-not-has_last_name-clause-reads
returns-then-not-has_last_name-clause-reads g c =
    let a = c.args in
    let way = c.in_ok-path.path in
    let place = c.in_ok-place.place in
    let read : read_path a.path ≡ Ok way = sym c.in_ok-path.ensures.parsed in
    let taken : (not (has_last_name way) || is_some place.there) ≡ true = elim c.then-not-has_last_name.branch [
      | then-not-has_last_name-via-then-not-has_last_name w ↦ ap (λ b. not b || is_some place.there) (sym c.has_last_name.ensures ∙ w.if-not-has_last_name.true)
      | then-not-has_last_name-via-else-not-has_last_name+then-is_some w ↦
          ap (λ b. not b || is_some place.there) (sym c.has_last_name.ensures ∙ w.if-not-has_last_name.false) ∙ sym w.is_some.ensures ∙ w.if-is_some.true
    ] in
    reads_as _ _ _ _ _
    (λ d p t holds rest. let at = p t holds.nodes in
    name_taken t a.user a.path rest way _ read at.walked (taken_is a.geometry.now d t a.user way place holds at ∙ taken))
    c.in_ok-place.ensures.reads

pub returns-then-not-may_write-clause-reads : goal.returns-then-not-may_write-clause-reads
returns-then-not-may_write-clause-reads g c =
    let a = c.args in
    let v = a.geometry.now in
    let way = c.in_ok-path.path in
    let place = c.in_ok-place.place in
    let read : read_path a.path ≡ Ok way = sym c.in_ok-path.ensures.parsed in
    let free : (not (has_last_name way) || is_some place.there) ≡ false =
    ap (λ b. not b || is_some place.there) (sym c.has_last_name.ensures ∙ c.if-not-has_last_name.false) ∙ sym c.is_some.ensures ∙ c.if-is_some.false in
    reads_as _ _ _ _ _
    (λ d p t holds rest. let at = p t holds.nodes in
    barred t a.user a.path rest way _ (parent_node v d t a.user way place holds at) read at.walked (taken_is v d t a.user way place holds at ∙ free)
    (parent_there v d t a.user way place holds at)
    (sym (c.may_write.ensures (parent_node v d t a.user way place holds at)
    (record { permissions = refl; uid = refl; gid = refl })) ∙ c.if-not-may_write.true))
    c.in_ok-place.ensures.reads

pub returns-clause-reads : goal.returns-clause-reads
returns-clause-reads g c =
    let a = c.args in
    let v = a.geometry.now in
    let way = c.in_ok-path.path in
    let place = c.in_ok-place.place in
    let bytes : IsBytes a.path.bytes.now = c.are_bytes.ensures in
    let read : read_path a.path ≡ Ok way = sym c.in_ok-path.ensures.parsed in
    let free : (not (has_last_name way) || is_some place.there) ≡ false =
    ap (λ b. not b || is_some place.there) (sym c.has_last_name.ensures ∙ c.if-not-has_last_name.false) ∙ sym c.is_some.ensures ∙ c.if-is_some.false in
    reads_as _ _ _ _ _
    (λ d p t holds. let at = p t holds.nodes in
    is_new_place v d t a.user way place holds at a.path bytes read (taken_is v d t a.user way place holds at ∙ free)
    (sym (c.may_write.ensures (parent_node v d t a.user way place holds at)
    (record { permissions = refl; uid = refl; gid = refl })) ∙ c.if-not-may_write.false))
    c.in_ok-place.ensures.reads
