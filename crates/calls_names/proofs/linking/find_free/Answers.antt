use Rattle.std.proofs.Common.{◌≡◌, ◌∙◌, true, false, sym, subst}
use Rattle.std.specs.Prelude.{is_some}
use Rattle.tree.specs.Walk.{has_last_name}
use Rattle.block_store.proofs.Turns.{reads_as}
use Rattle.calls_names.specs.Names.{MeansPlace}
use Rattle.calls_names.proofs.LinkPaths.{place_barred, place_found, place_not_walked, place_taken, place_unnamed}
use Rattle.calls_names.proofs.linking.find_free.Goals as goal

pub returns-in-Err-clause-reads : goal.returns-in-Err-clause-reads
returns-in-Err-clause-reads g c =
    let a = c.args in
    let v = a.geometry.now in
    reads_as _ _ _ _ _ (λ d p. place_not_walked v d a.user a.path.now c.in-Err.errno (subst (λ r. MeansPlace v d a.user a.path.now r) c.in-Err.is p)) c.in_ok-place.ensures.reads

pub returns-then-not-has_last_name-clause-reads : goal.returns-then-not-has_last_name-clause-reads
returns-then-not-has_last_name-clause-reads g c =
    let a = c.args in
    let v = a.geometry.now in
    let none : has_last_name a.path.now ≡ false = sym c.has_last_name.ensures ∙ c.if-not-has_last_name.true in
    reads_as _ _ _ _ _ (λ d p. place_unnamed v d a.user a.path.now c.in-Ok.place (subst (λ r. MeansPlace v d a.user a.path.now r) c.in-Ok.is p) none) c.in_ok-place.ensures.reads

pub returns-then-is_some-clause-reads : goal.returns-then-is_some-clause-reads
returns-then-is_some-clause-reads g c =
    let a = c.args in
    let v = a.geometry.now in
    let last : has_last_name a.path.now ≡ true = sym c.has_last_name.ensures ∙ c.if-not-has_last_name.false in
    let taken : is_some c.in-Ok.place.there ≡ true = sym c.is_some.ensures ∙ c.if-is_some.true in
    reads_as _ _ _ _ _ (λ d p. place_taken v d a.user a.path.now c.in-Ok.place (subst (λ r. MeansPlace v d a.user a.path.now r) c.in-Ok.is p) last taken) c.in_ok-place.ensures.reads

pub returns-then-not-may_write-clause-reads : goal.returns-then-not-may_write-clause-reads
returns-then-not-may_write-clause-reads g c =
    let a = c.args in
    let v = a.geometry.now in
    let last : has_last_name a.path.now ≡ true = sym c.has_last_name.ensures ∙ c.if-not-has_last_name.false in
    let free : is_some c.in-Ok.place.there ≡ false = sym c.is_some.ensures ∙ c.if-is_some.false in
    reads_as _ _ _ _ _
    (λ d p. place_barred v d a.user a.path.now c.in-Ok.place (subst (λ r. MeansPlace v d a.user a.path.now r) c.in-Ok.is p) last free c.may_write.result c.may_write.ensures c.if-not-may_write.true)
    c.in_ok-place.ensures.reads

pub returns-clause-reads : goal.returns-clause-reads
returns-clause-reads g c =
    let a = c.args in
    let v = a.geometry.now in
    let last : has_last_name a.path.now ≡ true = sym c.has_last_name.ensures ∙ c.if-not-has_last_name.false in
    let free : is_some c.in-Ok.place.there ≡ false = sym c.is_some.ensures ∙ c.if-is_some.false in
    reads_as _ _ _ _ _
    (λ d p. place_found v d a.user a.path.now c.in-Ok.place (subst (λ r. MeansPlace v d a.user a.path.now r) c.in-Ok.is p) last free c.may_write.result c.may_write.ensures c.if-not-may_write.false
    c.last.result c.last.ensures)
    c.in_ok-place.ensures.reads
