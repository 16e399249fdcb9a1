use Rattle.std.proofs.Common.{sym, ap, ◌∙◌}
use Rattle.media.specs.Places.{minix_range_or}
use Rattle.media.proofs.Volumes.{table_sectors, within}
use Rattle.media.proofs.partition.place.partition_by.Goals as goal

pub returns-in-Ok-clause-place : goal.returns-in-Ok-clause-place
returns-in-Ok-clause-place c = c.partition_in.ensures.place ∙ ap (λ r. minix_range_or r c.args.minor) (sym c.in-Ok.is ∙ c.parse.ensures.value)

pub returns-in-Ok-clause-inside : goal.returns-in-Ok-clause-inside
returns-in-Ok-clause-inside c = within _ _ _ (table_sectors c.args.first.now c.args.sectors c.in-Ok.table (sym c.parse.ensures.value ∙ c.in-Ok.is)) c.partition_in.ensures.inside

pub returns-in-Err-clause-place : goal.returns-in-Err-clause-place
returns-in-Err-clause-place c = ap (λ r. minix_range_or r c.args.minor) (sym c.in-Err.is ∙ c.parse.ensures.value)
