use Rattle.std.proofs.Common.{◌∙◌, ◌+◌, sym, ap, subst, IfErr, length, map}
use Rattle.std.specs.Prelude.{◌≤◌}
use Rattle.std.proofs.lemmas.List.Folds.{list_all-map}
use Rattle.layout.specs.Places.{geometry_of}
use Rattle.layout.proofs.Parsed.{geometry_fits}
use Rattle.media.specs.Places.{volume_place}
use Rattle.volume_mount.specs.Starting.{is_ready_for, opening_of}
use Rattle.volume_mount.proofs.Starts.{all_ready, err_is, many_sectors, same_bytes}
use Rattle.records.specs.Opening.{volume_bytes}
use Rattle.world.specs.Beginning.{IsNotBegun, range_of}
use Rattle.world.proofs.Begun.{begun, lies_on, not_clean, not_good, well_set_up}
use Rattle.world.proofs.preparing.prepare_run.Goals as goal

pub returns-in_err-clean-clause-refusal : goal.returns-in_err-clean-clause-refusal
returns-in_err-clean-clause-refusal g c =
    let image = c.args.image.now in
    let range = c.in_ok-range.range in
    let supply = map g.D.LocalDriver.state c.args.supply.now in
    let e = c.in_err-clean.field-0.0 in
    let place = ap (λ s. volume_place s c.args.setup.now.minor) (sym c.as_chunks.ensures.front) ∙ c.in_ok-range.ensures.place in
    subst (λ r. IfErr r (IsNotBegun image c.args.setup.now supply)) (sym (err_is c.from_residual-in_err-clean.result e c.from_residual-in_err-clean.ensures))
    (not_clean image c.args.setup.now supply range _ c.in_ok-media.ensures.fine place (same_bytes image range) e c.in_err-clean.ensures)

pub returns-in_err-set_up-clause-refusal : goal.returns-in_err-set_up-clause-refusal
returns-in_err-set_up-clause-refusal g c =
    let image = c.args.image.now in
    let range = c.in_ok-range.range in
    let supply = map g.D.LocalDriver.state c.args.supply.now in
    let e = c.in_err-set_up.field-0.0 in
    let place = ap (λ s. volume_place s c.args.setup.now.minor) (sym c.as_chunks.ensures.front) ∙ c.in_ok-range.ensures.place in
    subst (λ r. IfErr r (IsNotBegun image c.args.setup.now supply)) (sym (err_is c.from_residual-in_err-set_up.result e c.from_residual-in_err-set_up.ensures))
    (not_good image c.args.setup.now supply range _ c.in_ok-media.ensures.fine place (same_bytes image range) e c.in_ok-clean.ensures.1
    c.in_err-set_up.ensures.refusal)

pub returns-clause-begun : goal.returns-clause-begun
returns-clause-begun g c =
    let image = c.args.image.now in
    let range = c.in_ok-range.range in
    let supply = map g.D.LocalDriver.state c.args.supply.now in
    let place = ap (λ s. volume_place s c.args.setup.now.minor) (sym c.as_chunks.ensures.front) ∙ c.in_ok-range.ensures.place in
    begun image c.args.setup.now supply range _ c.in_ok-media.ensures.fine place (same_bytes image range) c.in_ok-clean.clean c.in_ok-clean.ensures
    c.in_ok-set_up.ensures.fits c.in_ok-set_up.ensures.some

pub returns-clause-sizes : goal.returns-clause-sizes
returns-clause-sizes g c =
    let image = c.args.image.now in
    let range = c.in_ok-range.range in
    (geometry_fits (volume_bytes (range_of range) image) c.in_ok-clean.clean.geometry (ap geometry_of (sym (same_bytes image range)) ∙ c.in_ok-clean.ensures.0)).0

pub returns-clause-ready : goal.returns-clause-ready
returns-clause-ready g c =
    let image = c.args.image.now in
    let range = c.in_ok-range.range in
    let minor = c.args.setup.now.minor in
    let state = g.D.LocalDriver.state in
    let well = well_set_up c.args.setup.now range (map state c.args.supply.now) c.in_ok-set_up.ensures.fits in
    all_ready state (opening_of image minor range) c.args.supply.now
    (sym (list_all-map (is_ready_for minor range) state c.args.supply.now) ∙ well.1) c.in_ok-set_up.ensures.drivers

pub returns-clause-on_media : goal.returns-clause-on_media
returns-clause-on_media g c =
    let image = c.args.image.now in
    let count = ap length c.as_chunks.ensures.front ∙ many_sectors image in
    lies_on image c.args.setup.now.minor c.in_ok-range.range c.in_ok-media.ensures.fine
    (subst (λ n. c.in_ok-range.range.0 + c.in_ok-range.range.1 ≤ n) count c.in_ok-range.ensures.inside)
