use Rattle.std.proofs.Common.{◌≡◌, ◌∙◌, true, sym, subst}
use Rattle.std.specs.Prelude.{Ok}
use Rattle.tree.specs.IsCall.{IsBytes}
use Rattle.tree.specs.Walk.{has_last_name, read_path}
use Rattle.block_store.proofs.Turns.{reads_as, reads_then}
use Rattle.block_store.proofs.Ending.{ends_exit}
use Rattle.calls_names.specs.Names.{MeansPlace}
use Rattle.calls_names.proofs.Meaning.{has_bytes, its_number, name_found, no_name, not_walked, not_writable}
use Rattle.calls_names.proofs.named.find_name.Goals as goal

pub returns-in-Err-2-clause-reads : goal.returns-in-Err-2-clause-reads
returns-in-Err-2-clause-reads g c =
    let a = c.args in
    let v = a.geometry.now in
    let way = c.in-Ok.parts in
    let read : read_path a.path ≡ Ok way = sym c.in-Ok.ensures.parsed in
    let last : has_last_name way ≡ true = sym c.has_last_name.ensures ∙ c.if-not-has_last_name.false in
    reads_as _ _ _ _ _
    (λ d p. not_walked v d a.user a.path way read last c.in-Err-2.errno (subst (λ r. MeansPlace v d a.user way r) c.in-Err-2.is p))
    c.in_ok-place.ensures.reads

pub returns-in_default-clause-reads : goal.returns-in_default-clause-reads
returns-in_default-clause-reads g c =
    let a = c.args in
    let v = a.geometry.now in
    let way = c.in-Ok.parts in
    let read : read_path a.path ≡ Ok way = sym c.in-Ok.ensures.parsed in
    let last : has_last_name way ≡ true = sym c.has_last_name.ensures ∙ c.if-not-has_last_name.false in
    reads_as _ _ _ _ _
    (λ d p. no_name v d a.user a.path way read last c.in-Ok-2.place (subst (λ r. MeansPlace v d a.user way r) c.in-Ok-2.is p) c.in_default.is)
    c.in_ok-place.ensures.reads

pub returns-then-not-may_write-clause-reads : goal.returns-then-not-may_write-clause-reads
returns-then-not-may_write-clause-reads g c =
    let a = c.args in
    let v = a.geometry.now in
    let way = c.in-Ok.parts in
    let read : read_path a.path ≡ Ok way = sym c.in-Ok.ensures.parsed in
    let last : has_last_name way ≡ true = sym c.has_last_name.ensures ∙ c.if-not-has_last_name.false in
    reads_as _ _ _ _ _
    (λ d p. not_writable v d a.user a.path way read last c.in-Ok-2.place (subst (λ r. MeansPlace v d a.user way r) c.in-Ok-2.is p) c.in-Some.number c.in-Some.is
    c.may_write.result c.may_write.ensures c.if-not-may_write.true)
    c.in_ok-place.ensures.reads

pub returns-in_err-inode-clause-reads : goal.returns-in_err-inode-clause-reads
returns-in_err-inode-clause-reads g c =
    let a = c.args in
    let v = a.geometry.now in
    let way = c.in-Ok.parts in
    let read : read_path a.path ≡ Ok way = sym c.in-Ok.ensures.parsed in
    let last : has_last_name way ≡ true = sym c.has_last_name.ensures ∙ c.if-not-has_last_name.false in
    reads_then _ g.met.B.Blocks.lawful _ _ _ _ _ _
    (λ d p q. ends_exit _ _ _ _ _ _ c.from_residual-in_err-inode.ensures.1
    (λ x. its_number v d a.user a.path way read last c.in-Ok-2.place (subst (λ r. MeansPlace v d a.user way r) c.in-Ok-2.is p) c.in-Some.number c.in-Some.is x) q)
    c.in_ok-place.ensures.reads c.in_err-inode.ensures.reads

pub returns-clause-reads : goal.returns-clause-reads
returns-clause-reads g c =
    let a = c.args in
    let bytes : IsBytes a.path.bytes.now = c.are_bytes.ensures in
    let v = a.geometry.now in
    let way = c.in-Ok.parts in
    let read : read_path a.path ≡ Ok way = sym c.in-Ok.ensures.parsed in
    let last : has_last_name way ≡ true = sym c.has_last_name.ensures ∙ c.if-not-has_last_name.false in
    reads_then _ g.met.B.Blocks.lawful _ _ _ _ _ _
    (λ d p q. name_found v d a.user a.path way read last c.in-Ok-2.place (subst (λ r. MeansPlace v d a.user way r) c.in-Ok-2.is p) c.in-Some.number c.in-Some.is
    c.may_write.result c.may_write.ensures c.if-not-may_write.false bytes c.in_ok-inode.inode q c.last.result c.last.ensures)
    c.in_ok-place.ensures.reads c.in_ok-inode.ensures.reads

pub returns-clause-named : goal.returns-clause-named
returns-clause-named g c =
    has_bytes c.in-Ok.parts c.last.result.now (sym c.has_last_name.ensures ∙ c.if-not-has_last_name.false) c.last.ensures
