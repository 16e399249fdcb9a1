use Rattle.std.proofs.Common.{rules}
use Rattle.ninep_fids.specs.Fids.{IsUnlinked}
use Rattle.ninep_fids.proofs.Tables.{each_becomes}
use Rattle.ninep_fids.proofs.fids.Fids.unlink.Goals as goal

pub returns : goal.returns
returns c = each_becomes _ (IsUnlinked c.args.path.now) _ (λ k v b w f t. search rules) _ _ c.retain.ensures.filtered
