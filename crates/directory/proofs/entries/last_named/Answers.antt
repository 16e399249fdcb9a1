use Rattle.std.proofs.Common.{◌≡◌, ◌-◌, arith, sym, ◌∙◌, true, false}
use Rattle.std.specs.Prelude.{slice_index}
use Rattle.std.specs.Ordering.{eq_by_cmp}
use Rattle.tree.specs.Names.{name_cmp}
use Rattle.volume.specs.Nodes.{entry_name}
use Rattle.directory.proofs.Scans.{one_found, one_less}
use Rattle.directory.proofs.entries.last_named.Goals as goal

pub returns-then-is_named-clause-last : goal.returns-then-is_named-clause-last
returns-then-is_named-clause-last c =
    let f = slice_index c.args.bytes.now in
    let is : eq_by_cmp name_cmp c.args.name.now (entry_name f (c.loop-left.left - 1)) ≡ true =
    sym c.is_named.ensures ∙ c.if-is_named.true in
    sym (c.loop-left.invariant.same ∙ one_found f c.args.name.now c.args.from c.loop-left.left (omega arith) is)

pub loop-left-preserved : goal.loop-left-preserved
loop-left-preserved c =
    let f = slice_index c.args.bytes.now in
    let other : eq_by_cmp name_cmp c.args.name.now (entry_name f (c.loop-left.left - 1)) ≡ false =
    sym c.is_named.ensures ∙ c.if-is_named.false in
    record {
      above = omega arith;
      below = omega arith;
      same = c.loop-left.invariant.same ∙ one_less f c.args.name.now c.args.from c.loop-left.left (omega arith) other;
    }
