use Rattle.std.proofs.Common.{◌≡◌, ◌∙◌, ℕ, List, sym, ap, subst, refl, rules}
use Rattle.std.specs.Prelude.{Ok}
use Rattle.layout.specs.declared.Geometry.{Geometry}
use Rattle.fsck.specs.Shown.{HasItsGeometry, TellsWhetherTree}
use Rattle.layout.proofs.Parsed.{geometry_fits}
use Rattle.media.specs.Contents.{sectors_of}
use Rattle.volume_mount.specs.Starting.{opening_of, place_in}
use Rattle.true_replies.specs.Events.{IsOnMedia}
use Rattle.tests_sessions.proofs.Whole.{at_first}
use Rattle.tests_sessions.proofs.ended.asked_of.Goals as goal

pub ask_and_stop-requires-clause-geometry : goal.ask_and_stop-requires-clause-geometry
ask_and_stop-requires-clause-geometry g c κs lives =
    let clean = subst (λ v. HasItsGeometry c.args.image.now v) c.in-Ok-Clean.field-0-is c.in-Ok-Clean.ensures.geometry in
    let parsed = clean ∙ ap (λ (x : Geometry). Ok x) (sym c.geometry.ensures) in
    ((geometry_fits c.args.image.now c.geometry.result parsed).0, refl)

pub ask_and_stop-requires-clause-tree : goal.ask_and_stop-requires-clause-tree
ask_and_stop-requires-clause-tree g c κs lives =
    let clean = subst (λ v. HasItsGeometry c.args.image.now v) c.in-Ok-Clean.field-0-is c.in-Ok-Clean.ensures.geometry in
    let parsed = clean ∙ ap (λ (x : Geometry). Ok x) (sym c.geometry.ensures) in
    let held = subst (λ v. TellsWhetherTree c.args.image.now v) c.in-Ok-Clean.field-0-is c.in-Ok-Clean.ensures.tree in
    let copied : c.in_ok-from_slice.field-0.items ≡ c.args.image.now = search rules in
    let place = subst (λ (b : List ℕ). place_in (sectors_of b) 0 ≡ Ok c.in-Ok.prepared.range) copied c.in-Ok.ensures.ok.place.1 in
    let media = subst (λ (b : List ℕ). IsOnMedia (opening_of b 0 c.in-Ok.prepared.range)) copied c.in-Ok.ensures.on_media in (
      held.0,
      at_first c.args.image.now c.in-Ok.prepared.range c.geometry.result held.0 place media.whole parsed held.1,
    )
