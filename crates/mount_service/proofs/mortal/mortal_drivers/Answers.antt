use Rattle.std.proofs.Common.{◌≡◌, ◌+◌, ℕ, [], ◌∷◌, ◌++◌, length, ◌∙◌, ap}
use Rattle.std.proofs.lemmas.List.{length_push}
use Rattle.std.proofs.lemmas.List.Elements.{All-nil, All-cons, All-append, All-same}
use Rattle.mount_service.specs.Mortal.{IsMortal}
use Rattle.mount_service.proofs.mortal.mortal_drivers.Goals as goal

pub loop-spare-preserved : goal.loop-spare-preserved
loop-spare-preserved c =
    let kind = IsMortal c.args.model c.args.mortality c.args.table in
    let one = c.in_ok-mortal_driver.field-0 in
    let before = c.loop-spare.drivers.items in
    let is : c.push.new.self.items ≡ before ++ one ∷ [] = c.in_ok-push.ensures.items in
    let last = All-cons kind one [] c.in_ok-mortal_driver.ensures (All-nil kind) in (
      ap length is ∙ length_push before one ∙ ap (λ (n : ℕ). n + 1) c.loop-spare.invariant.0,
      All-same kind c.push.new.self.items (before ++ one ∷ []) is (All-append kind before (one ∷ []) c.loop-spare.invariant.1 last),
    )
