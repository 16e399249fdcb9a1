use Rattle.std.proofs.Common.{◌≡◌, Result, Some, sym, ◌∙◌, ap}
use Rattle.std.specs.Prelude.{slice_get}
use Rattle.std.specs.Option.{option_copied}
use Rattle.media.specs.declared.partition.PartitionRefusal.{PartitionRefusal}
use Rattle.media.specs.Table.{TableState}
use Rattle.modeldisk.specs.Supply.{count_of, table_or, whole_of}
use Rattle.modeldisk.proofs.Tables.{by_first}
use Rattle.modeldisk.proofs.supply.table_for.Goals as goal

pub returns-in-Ok : goal.returns-in-Ok
returns-in-Ok c =
    let sectors = c.args.sectors.now in
    let there : slice_get sectors 0 ≡ Some c.in-Some.first.now = sym (ap option_copied (sym c.in-Some.is) ∙ c.first.ensures.value) in
    sym (by_first sectors c.in-Some.first.now c.count_of-count.result c.parse.result there c.count_of-count.ensures c.parse.ensures.value
    ∙ ap (λ (r : Result TableState PartitionRefusal). table_or r (count_of sectors)) c.in-Ok.is)

pub returns-in-Err : goal.returns-in-Err
returns-in-Err c =
    let sectors = c.args.sectors.now in
    let there : slice_get sectors 0 ≡ Some c.in-Some.first.now = sym (ap option_copied (sym c.in-Some.is) ∙ c.first.ensures.value) in
    c.whole-in-Err.ensures ∙ ap whole_of c.count_of-count.ensures
    ∙ sym (by_first sectors c.in-Some.first.now c.count_of-count.result c.parse.result there c.count_of-count.ensures c.parse.ensures.value
    ∙ ap (λ (r : Result TableState PartitionRefusal). table_or r (count_of sectors)) c.in-Err.is)
