use Rattle.std.proofs.Common.{◌∙◌, ◌==◌, rules, tests}
use Rattle.std.proofs.lemmas.Iterator.Consumers.{YieldsList-from_rest}
use Rattle.std.proofs.lemmas.Iterator.Search.{any_from_yields_List}
use Rattle.std.specs.Map.{values_of}
use Rattle.ninep_fids.specs.declared.fid.Fid.{Fid}
use Rattle.ninep_fids.proofs.Tables.{has_values}
use Rattle.ninep_fids.proofs.fids.Fids.has.Goals as goal

pub returns : goal.returns
returns c =
    any_from_yields_List (λ (f : Fid). f.user.uid == c.args.uid) _ _ _ c.any.ensures.ran
    (YieldsList-from_rest (values_of c.args.self.now.fids.entries) c.values.ensures.rest) (λ x b q k. search (rules, tests))
    ∙ has_values c.args.uid c.args.self.now.fids.entries
