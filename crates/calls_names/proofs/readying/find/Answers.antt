use Rattle.std.proofs.Common.{Ok, sym, subst, ◌∙◌}
use Rattle.volume.specs.Pieces.{pieces}
use Rattle.block_store.proofs.Turns.{reads_as, reads_then}
use Rattle.zone.proofs.ZoneInodes.{inode_is}
use Rattle.path.specs.declared.place.Found.{Found}
use Rattle.path.specs.Places.{Finds}
use Rattle.path.specs.Walking.{Walks}
use Rattle.path.proofs.Ending.{answers_exit}
use Rattle.calls_attributes.proofs.Made.{node_there}
use Rattle.calls_names.specs.Opening.{FindsToOpen}
use Rattle.calls_names.proofs.Ending.{answers_halted, reads_both}
use Rattle.calls_names.proofs.LastLinks.{found_as_is, found_no_link, look_refused, walk_found, walk_refused}
use Rattle.calls_names.proofs.readying.find.Goals as goal

pub returns-in_err-number-clause-reads : goal.returns-in_err-number-clause-reads
returns-in_err-number-clause-reads g c =
    let a = c.args in
    let v = a.geometry.now in
    let way = a.path.now in
    reads_as _ _ _ _ _
    (λ d p t holds. answers_exit _ _ (Finds v d t a.user way) (FindsToOpen v d t a.user a.as_is way) c.from_residual.ensures.1
    (λ errno is. look_refused t a.user a.as_is way errno is) (p t holds.nodes))
    c.in_err-number.ensures.reads

pub returns-in-Missing-clause-reads : goal.returns-in-Missing-clause-reads
returns-in-Missing-clause-reads g c =
    let a = c.args in
    let v = a.geometry.now in
    reads_as _ _ _ _ _
    (λ d p t holds. subst (λ (x : Found). Finds v d t a.user a.path.now (Ok x)) c.in-Missing.is (p t holds.nodes))
    c.in_ok-number.ensures.reads

pub returns-then-as_is-clause-reads : goal.returns-then-as_is-clause-reads
returns-then-as_is-clause-reads g c =
    let a = c.args in
    let v = a.geometry.now in
    reads_as _ _ _ _ _
    (λ d p t holds. let looked = subst (λ (x : Found). Finds v d t a.user a.path.now (Ok x)) c.in-There.is (p t holds.nodes) in
    found_as_is v d t a.user a.as_is a.path.now holds c.in-There.number looked.0 looked.1 c.if-as_is.true)
    c.in_ok-number.ensures.reads

pub returns-in_err-inode-clause-reads : goal.returns-in_err-inode-clause-reads
returns-in_err-inode-clause-reads g c =
    let a = c.args in
    let v = a.geometry.now in
    let n = c.in-There.number in
    reads_then _ g.met.B.Blocks.lawful _ _ _ _ _ _
    (λ d p q t holds. let looked = subst (λ (x : Found). Finds v d t a.user a.path.now (Ok x)) c.in-There.is (p t holds.nodes) in
    answers_halted _ _ _ _ _ c.from_residual-in_err-inode.ensures.1 q (inode_is v (pieces v d) n (node_there v d t n holds looked.1).0))
    c.in_ok-number.ensures.reads c.in_err-inode.ensures.reads

pub returns-then-not-is_link-clause-reads : goal.returns-then-not-is_link-clause-reads
returns-then-not-is_link-clause-reads g c =
    let a = c.args in
    let v = a.geometry.now in
    reads_then _ g.met.B.Blocks.lawful _ _ _ _ _ _
    (λ d p q t holds. let looked = subst (λ (x : Found). Finds v d t a.user a.path.now (Ok x)) c.in-There.is (p t holds.nodes) in
    found_no_link v d t a.user a.as_is a.path.now holds c.in-There.number looked.0 looked.1 c.if-as_is.false c.in_ok-inode.inode q
    (sym c.is_link.ensures ∙ c.if-not-is_link.true))
    c.in_ok-number.ensures.reads c.in_ok-inode.ensures.reads

pub returns-in_err-end-clause-reads : goal.returns-in_err-end-clause-reads
returns-in_err-end-clause-reads g c =
    let a = c.args in
    let v = a.geometry.now in
    reads_then _ g.met.B.Blocks.lawful _ _ _ _ _ _
    (λ d p q t holds. let looked = subst (λ (x : Found). Finds v d t a.user a.path.now (Ok x)) c.in-There.is (p.0 t holds.nodes) in
    answers_exit _ _ (Walks t a.user a.path.now) (FindsToOpen v d t a.user a.as_is a.path.now) c.from_residual-in_err-end.ensures.1
    (λ errno w. walk_refused v d t a.user a.as_is a.path.now holds c.in-There.number looked.0 looked.1 c.if-as_is.false
    c.in_ok-inode.inode p.1 (sym c.is_link.ensures ∙ c.if-not-is_link.false) errno w)
    (q t holds.nodes))
    (reads_both _ g.met.B.Blocks.lawful _ _ _ _ _ c.in_ok-number.ensures.reads c.in_ok-inode.ensures.reads) c.in_err-end.ensures.reads

pub returns-clause-reads : goal.returns-clause-reads
returns-clause-reads g c =
    let a = c.args in
    let v = a.geometry.now in
    let end = c.in_ok-end.end in
    reads_then _ g.met.B.Blocks.lawful _ _ _ _ _ _
    (λ d p q t holds. let looked = subst (λ (x : Found). Finds v d t a.user a.path.now (Ok x)) c.in-There.is (p.0 t holds.nodes) in
    walk_found v d t a.user a.as_is a.path.now holds c.in-There.number looked.0 looked.1 c.if-as_is.false c.in_ok-inode.inode p.1
    (sym c.is_link.ensures ∙ c.if-not-is_link.false) end
    (q t holds.nodes))
    (reads_both _ g.met.B.Blocks.lawful _ _ _ _ _ c.in_ok-number.ensures.reads c.in_ok-inode.ensures.reads) c.in_ok-end.ensures.reads
