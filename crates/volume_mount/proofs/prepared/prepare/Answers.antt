use Rattle.std.proofs.Common.{◌∙◌, ◌+◌, sym, ap, subst, IfErr, length, map}
use Rattle.std.specs.Prelude.{◌≤◌}
use Rattle.std.proofs.lemmas.List.Folds.{list_all-map}
use Rattle.volume_mount.specs.Starting.{IsRefused, opening_of, is_ready_for}
use Rattle.volume_mount.proofs.Starts.{err_is, not_placed, placed, held_by, place_wants_none, all_ready, lies_on_media, many_sectors}
use Rattle.volume_mount.proofs.prepared.prepare.Goals as goal

pub returns-in_err-range-clause-refusal : goal.returns-in_err-range-clause-refusal
returns-in_err-range-clause-refusal g c =
    let image = c.args.image.items in
    let e = c.in_err-range.field-0.0 in
    let at = placed c.args.setup.now.minor _ _ _ _ c.in_ok-media.ensures.ok.1 c.as_sectors.ensures c.place_in.ensures.place
    ∙ c.in_err-range.was in
    subst (λ r. IfErr r (IsRefused image c.args.setup.now (map g.D.LocalDriver.state c.args.supply.now))) (sym (err_is c.from_residual-in_err-range.result e c.from_residual-in_err-range.ensures))
    (not_placed image c.args.setup.now (map g.D.LocalDriver.state c.args.supply.now) e c.in_ok-media.ensures.ok.0 at)

pub returns-in_err-range-clause-never : goal.returns-in_err-range-clause-never
returns-in_err-range-clause-never g c =
    let e = c.in_err-range.field-0.0 in
    let at = sym c.place_in.ensures.place ∙ c.in_err-range.was in
    place_wants_none _ _ c.args.setup.now.minor e (err_is c.from_residual-in_err-range.result e c.from_residual-in_err-range.ensures) at

pub returns-clause-ok : goal.returns-clause-ok
returns-clause-ok g c =
    let image = c.args.image.items in
    let at = placed c.args.setup.now.minor _ _ _ _ c.in_ok-media.ensures.ok.1 c.as_sectors.ensures c.place_in.ensures.place
    ∙ c.in_ok-range.was in
    record {
      place = (c.in_ok-media.ensures.ok.0, at);
      set_up = c.in_ok-check_setup.ensures.fits;
      some = c.in_ok-check_setup.ensures.some;
    }

pub returns-clause-ready : goal.returns-clause-ready
returns-clause-ready g c =
    let image = c.args.image.items in
    let range = c.in_ok-range.range in
    let minor = c.args.setup.now.minor in
    let state = g.D.LocalDriver.state in
    all_ready state (opening_of image minor range) c.args.supply.now
    (sym (list_all-map (is_ready_for minor range) state c.args.supply.now) ∙ c.in_ok-check_setup.ensures.fits.1) c.in_ok-check_setup.ensures.drivers

pub returns-clause-on_media : goal.returns-clause-on_media
returns-clause-on_media g c =
    let image = c.args.image.items in
    let count = ap length (c.as_sectors.ensures ∙ held_by _ _ c.in_ok-media.ensures.ok.1) ∙ many_sectors image in
    lies_on_media image c.args.setup.now.minor c.in_ok-range.range c.in_ok-media.ensures.ok.0
    (subst (λ n. c.in_ok-range.range.0 + c.in_ok-range.range.1 ≤ n) count c.in_ok-range.ensures.inside)
