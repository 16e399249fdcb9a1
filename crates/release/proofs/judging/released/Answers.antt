use Rattle.std.proofs.Common.{List, ℕ, ap, subst, sym, ◌∙◌}
use Rattle.lemmas.proofs.Bools.{false_not_true}
use Rattle.volume.specs.Verdict.{verdict_of}
use Rattle.fsck.specs.declared.verdict.Verdict.{Verdict}
use Rattle.fsck.specs.Shown.{TellsWhetherTree, shown}
use Rattle.release.specs.Released.{IsFoundBy}
use Rattle.release.proofs.Verdicts.{counted_in, found_holds_none, other_is_clean}
use Rattle.release.proofs.judging.released.Goals as goal

pub returns-then-not-is_found_by_links-clause-none : goal.returns-then-not-is_found_by_links-clause-none
returns-then-not-is_found_by_links-clause-none c =
    other_is_clean c.args.volume.now c.in_ok-check.field-0 c.in_ok-check.ensures.verdict
    (λ found. false_not_true (sym c.if-not-is_found_by_links.true ∙ c.is_found_by_links.ensures.1 found))

pub returns-in-Clean-clause-some : goal.returns-in-Clean-clause-some
returns-in-Clean-clause-some c =
    let r = c.in_ok-released.released in
    record {
      was = subst IsFoundBy c.in_ok-check.ensures.verdict (c.is_found_by_links.ensures.0 c.if-not-is_found_by_links.false);
      is = ap verdict_of (sym c.image.ensures) ∙ sym c.in_ok-check-2.ensures.verdict ∙ ap shown c.in-Clean.is;
      many = counted_in c.in-Ok.image c.args.volume.now r.count c.in-Ok.ensures.0 c.in_ok-released.ensures.count;
      tree = c.in_ok-released.ensures.tree;
    }

pub returns-in-Found-clause-none : goal.returns-in-Found-clause-none
returns-in-Found-clause-none c =
    let new = c.in_ok-released.released.blocks.image.items in
    let tells = subst (λ (v : Verdict). TellsWhetherTree new v) c.in-Found.is
    (subst (λ (bytes : List ℕ). TellsWhetherTree bytes c.in_ok-check-2.field-0) c.image.ensures c.in_ok-check-2.ensures.tree) in
    λ holds. absurd (found_holds_none c.args.volume.now new c.in-Found.field-0 c.in_ok-released.ensures.tree tells holds)
