use Rattle.std.proofs.Common.{sym, ◌∙◌, rules}
use Rattle.media.proofs.TableLaws.{is_table}
use Rattle.media.proofs.partition.checked.Goals as goal

pub invariant_of-result : goal.invariant_of-result
invariant_of-result c =
    is_table (record { sectors = c.args.sectors; entries = c.args.entries }) (search rules) (search rules)
    (sym c.passes_media.ensures ∙ c.if-passes_media.false) (sym c.has_overlap.ensures ∙ c.if-has_overlap.false)

pub returns-clause-table : goal.returns-clause-table
returns-clause-table c = invariant_of-result c
