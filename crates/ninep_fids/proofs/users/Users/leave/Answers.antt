use Rattle.std.proofs.Common.{◌==◌, not, rules, tests}
use Rattle.std.proofs.lemmas.Fn.{filter_same}
use Rattle.ninep_fids.specs.declared.users.User.{User}
use Rattle.ninep_fids.proofs.users.Users.leave.Goals as goal

pub returns : goal.returns
returns c =
    filter_same _ (λ (user : User). not (user.uid == c.args.uid)) _ (λ x b f h. search (rules, tests)) _ _ c.retain.ensures.filtered
