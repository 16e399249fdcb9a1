use Rattle.std.proofs.Common.{◌≡◌, sym, ◌∙◌, ap, rules}
use Rattle.media.specs.Table.{IsTable, range_at, range_of_entry}
use Rattle.media.proofs.TableLaws.{range_entry}
use Rattle.media.proofs.partition.Table.range.Goals as goal

pub returns-clause-value : goal.returns-clause-value
returns-clause-value c = c.range_of.ensures ∙ ap range_of_entry c.entry.ensures ∙ sym (range_entry c.args.self.now c.args.minor c.if-minor-eq0.false)

pub returns-clause-inside : goal.returns-clause-inside
returns-clause-inside c =
    let table : IsTable c.args.self.now = search rules in
    let same : c.range_of.result ≡ range_at c.args.self.now c.args.minor = returns-clause-value c in
    rw same (table.inside c.args.minor)
