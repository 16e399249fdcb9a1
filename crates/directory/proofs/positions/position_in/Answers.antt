use Rattle.std.proofs.Common.{◌≡◌, ap, sym, ◌∙◌, true, false, arith}
use Rattle.std.specs.Ordering.{eq_by_cmp}
use Rattle.std.specs.Prelude.{slice_index}
use Rattle.tree.specs.Names.{name_cmp}
use Rattle.volume.specs.Nodes.{entry_name}
use Rattle.directory.proofs.Names.{same_decides}
use Rattle.directory.proofs.Standing.{none_more, none_at_first, none_up_to}
use Rattle.directory.proofs.positions.position_in.Goals as goal

pub returns-then-is_named : goal.returns-then-is_named
returns-then-is_named c = record {
  past = omega arith;
  low = omega arith;
  named = sym ((same_decides c.args.name.now (entry_name (slice_index c.args.bytes.now) c.loop-at.at)).0 (sym c.is_named.ensures ∙ c.if-is_named.true));
}

pub loop-at-init : goal.loop-at-init
loop-at-init c = none_at_first _ _ _

pub loop-at-preserved : goal.loop-at-preserved
loop-at-preserved c = none_more _ _ _ _ c.loop-at.invariant (λ e.
    let name = c.args.name.now in
    let there = entry_name (slice_index c.args.bytes.now) c.loop-at.at in
    let t : eq_by_cmp name_cmp name there ≡ true = (same_decides name there).1 (sym e) in
    let f : eq_by_cmp name_cmp name there ≡ false = sym c.is_named.ensures ∙ c.if-is_named.false in
    let no : true ≡ false = sym t ∙ f in
    cc)

pub returns : goal.returns
returns c = none_up_to _ _ _ c.loop-at.at _ c.loop-at-test.false c.loop-at.invariant
