use Rattle.std.proofs.Common.{◌≡◌, ◌-◌, ℕ, suc, sym, subst, arith, take, inl, inr, List}
use Rattle.std.specs.Prelude.{Ok, Option, IsTrue, is_some}
use Rattle.std.proofs.lemmas.Bool.{cases_eq, cond_both}
use Rattle.block_store.proofs.Turns.{reads_as, reads_none, reads_then}
use Rattle.tree.specs.Tree.{Tree}
use Rattle.tree.specs.Names.{Name}
use Rattle.tree.specs.Walk.{start_of, begins_with_slash, parts_of}
use Rattle.block_store.proofs.Ending.{reads_three}
use Rattle.path.proofs.Going.{dir_is_there}
use Rattle.path.specs.Walking.{TellsTarget, Arrives}
use Rattle.path.proofs.Ending.{answers_as, answers_exit}
use Rattle.path.proofs.Arriving.{refused_here, goes_on, looped, too_long, follows, at_first, one_less, refused_there, arrived}
use Rattle.path.proofs.step.+links.Goals as goal

-- a number but 0 is one more than the one before it
one_more : (k : ℕ) → (k ≡ 0 → ⊥) → k ≡ suc (k - 1)
one_more k h = elim (cases_eq k 0) [ inl e ↦ absurd (h e) | inr d ↦ omega (arith, d) ]

pub follow-returns-in_err-there-clause-reads : goal.follow-returns-in_err-there-clause-reads
follow-returns-in_err-there-clause-reads g t c =
    let a = c.args in
    reads_as _ _ _ _ _ (λ d p u holds there. answers_exit _ _ _ _ c.from_residual.ensures.1
    (λ e is. refused_here u a.user a.at a.part.now e is) (p u holds there)) c.in_err-there.ensures.reads

pub follow-returns-in_err-count-clause-reads : goal.follow-returns-in_err-count-clause-reads
follow-returns-in_err-count-clause-reads g t c =
    reads_then _ g.met.B.Blocks.lawful _ _ _ _ _ _
    (λ d p q u holds there. answers_exit _ _ _ _ c.from_residual-in_err-count.ensures.1 (λ e is. absurd is)
    (q u holds (p u holds there).there))
    c.in_ok-there.ensures.reads c.in_err-count.ensures.reads

pub follow-returns-in_default-clause-reads : goal.follow-returns-in_default-clause-reads
follow-returns-in_default-clause-reads g t c =
    let a = c.args in
    reads_then _ g.met.B.Blocks.lawful _ _ _ _ _ _
    (λ d p q u holds there. goes_on u a.user a.at a.part.now c.in_ok-there.there (p u holds there)
    (subst (λ (o : Option ℕ). TellsTarget u c.in_ok-there.there c.target.new.room (Ok o)) c.in_default.is
    (q u holds (p u holds there).there)))
    c.in_ok-there.ensures.reads c.in_ok-count.ensures.reads

pub follow-returns-then-at-eq0-clause-reads : goal.follow-returns-then-at-eq0-clause-reads
follow-returns-then-at-eq0-clause-reads g t c =
    let a = c.args in
    reads_then _ g.met.B.Blocks.lawful _ _ _ _ _ _
    (λ d p q u holds there. looped u a.user a.at a.part.now c.in_ok-there.there (take c.in-Some.count c.target.new.room) c.if-at-eq0.true
    (p u holds there)
    (subst (λ (o : Option ℕ). TellsTarget u c.in_ok-there.there c.target.new.room (Ok o)) c.in-Some.is (q u holds (p u holds there).there)))
    c.in_ok-there.ensures.reads c.in_ok-count.ensures.reads

pub follow-returns-in_default-of_target-clause-reads : goal.follow-returns-in_default-of_target-clause-reads
follow-returns-in_default-of_target-clause-reads g t c =
    let a = c.args in
    reads_then _ g.met.B.Blocks.lawful _ _ _ _ _ _
    (λ d p q u holds there. too_long u a.user a.at (a.at.links - 1) a.part.now c.in_ok-there.there (take c.in-Some.count c.target.new.room)
    (one_more a.at.links c.if-at-eq0.false) (p u holds there)
    (subst (λ (o : Option ℕ). TellsTarget u c.in_ok-there.there c.target.new.room (Ok o)) c.in-Some.is (q u holds (p u holds there).there))
    c.in_default-of_target.ensures.none)
    c.in_ok-there.ensures.reads c.in_ok-count.ensures.reads

-- where a target is read from there is a node
start_is_there : (t : Tree) (here : ℕ) (target : List ℕ) → IsTrue (is_some (t.nodes 1)) → IsTrue (is_some (t.nodes here))
    → IsTrue (is_some (t.nodes (start_of here target)))
start_is_there t here target root there = cond_both (begins_with_slash target) 1 here (λ (n : ℕ). IsTrue (is_some (t.nodes n))) (λ _. root)
    (λ _. there)

pub follow-returns-clause-reads : goal.follow-returns-clause-reads
follow-returns-clause-reads g t c =
    let a = c.args in
    reads_three _ g.met.B.Blocks.lawful _ _ _ _ _ _ _ _
    (λ d p q r u holds there.
    let steps = p u holds there in
    let link = subst (λ (o : Option ℕ). TellsTarget u c.in_ok-there.there c.target.new.room (Ok o)) c.in-Some.is (q u holds steps.there) in
    let target : List ℕ = take c.in-Some.count c.target.new.room in
    let short = c.in-Some-of_target.ensures.some in
    let at_start : IsTrue (is_some (u.nodes c.start.result)) = subst (λ (n : ℕ). IsTrue (is_some (u.nodes n))) (sym c.start.ensures)
    (start_is_there u a.at.here target (dir_is_there (u.nodes 1) holds.tree.nodes.root) there) in
    answers_as c.lead.result _ _
    (λ s arrives. follows u a.user a.at (a.at.links - 1) a.part.now c.in_ok-there.there target s
    (one_more a.at.links c.if-at-eq0.false) steps link short.0
    (subst (λ (n : ℕ). Arrives u a.user (record { here = n; links = a.at.links - 1 }) (parts_of target) s) c.start.ensures
    (subst (λ (ps : List Name). Arrives u a.user (record { here = c.start.result; links = a.at.links - 1 }) ps s) short.1 arrives)))
    (r u holds at_start))
    c.in_ok-there.ensures.reads c.in_ok-count.ensures.reads c.lead.ensures.reads

pub lead-returns-in_err-at-clause-reads : goal.lead-returns-in_err-at-clause-reads
lead-returns-in_err-at-clause-reads g t c =
    let a = c.args in
    reads_then _ g.met.B.Blocks.lawful _ _ _ _ _ _
    (λ d p q u holds there. answers_exit _ _ _ _ c.from_residual.ensures.1
    (λ e is. refused_there u a.user a.first c.loop-part.at a.parts _ _ c.in-Some.part.now e c.in-Some.ensures.some (p u holds there) is)
    (q u holds (p u holds there).there))
    c.loop-part.invariant.reads c.in_err-at.ensures.reads

pub lead-loop-part-preserved : goal.lead-loop-part-preserved
lead-loop-part-preserved g t c =
    let a = c.args in
    let was = c.loop-part.invariant.links in
    let is = c.in_ok-at.ensures.links in
    record {
      reads = reads_then _ g.met.B.Blocks.lawful _ _ _ _ _ _
          (λ d p q u holds there. one_less u a.user a.first c.loop-part.at c.in_ok-at.at a.parts _ _ c.in-Some.part.now
          c.in-Some.ensures.some (p u holds there) (q u holds (p u holds there).there))
          c.loop-part.invariant.reads c.in_ok-at.ensures.reads;
      links = omega (arith, was, is);
    }

pub lead-loop-part-init : goal.lead-loop-part-init
lead-loop-part-init g t c = record {
  reads = reads_none _ g.met.B.Blocks.lawful _ _ c.requires.on.ready
      (λ d u holds there. at_first u c.args.user c.args.first c.args.parts there);
  links = omega arith;
}

pub lead-returns-clause-reads : goal.lead-returns-clause-reads
lead-returns-clause-reads g t c =
    reads_as _ _ _ _ _ (λ d p u holds there. arrived u c.args.user c.args.first c.loop-part.at c.args.parts _ c.in_default.ensures.none
    (p u holds there)) c.loop-part.invariant.reads
