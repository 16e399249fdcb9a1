-- The numbers of refusals.
use Rattle.std.specs.Prelude.{ℕ}
use Rattle.reissue.specs.declared.link.LinkRefusal.{LinkRefusal}
use Rattle.reissue.specs.declared.link.LinkRefusal.TheVariants as link

-- why a request wasn't posted
abbrev pub link_refusal_number : LinkRefusal → ℕ
link_refusal_number link.DeadEndpoint = 1
link_refusal_number link.Full = 2
