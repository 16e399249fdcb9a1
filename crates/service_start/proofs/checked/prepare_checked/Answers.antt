use Rattle.std.proofs.Common.{ℕ, List, map, subst, sym}
use Rattle.volume_mount.specs.Checked.{HoldsTree, IsUnfit}
use Rattle.volume_mount.specs.Starting.{bytes_of}
use Rattle.service_start.specs.Servable.{IsNotServable}
use Rattle.service_start.proofs.Servable.{inside, unfit}
use Rattle.service_start.proofs.checked.prepare_checked.Goals as goal

pub check_volume-requires : goal.check_volume-requires
check_volume-requires g c =
    inside c.args.image.items c.args.setup.now.minor c.in_ok-prepared.prepared.range c.in_ok-prepared.prepared.media
    c.in_ok-prepared.ensures.contents c.in_ok-prepared.ensures.on_media

pub returns-in-Ok-clause-servable : goal.returns-in-Ok-clause-servable
returns-in-Ok-clause-servable g c = record {
  prepared = c.in_ok-prepared.ensures.ok;
  holds = subst (λ (l : List ℕ). HoldsTree (bytes_of l c.in_ok-prepared.prepared.range) c.in-Ok.clean.geometry)
      c.in_ok-prepared.ensures.bytes c.in-Ok.ensures.holds;
}

pub returns-in-Err-clause-refused : goal.returns-in-Err-clause-refused
returns-in-Err-clause-refused g c =
    let supply = map g.D.BlockDriver.state c.args.supply.now in
    subst (λ e. IsNotServable c.args.image.items c.args.setup.now supply e) (sym c.refusal_of.ensures)
    (unfit c.args.image.items c.args.setup.now supply c.in_ok-prepared.prepared.range c.in-Err.refusal c.in_ok-prepared.ensures.ok
    (subst (λ (l : List ℕ). IsUnfit (bytes_of l c.in_ok-prepared.prepared.range) c.in-Err.refusal) c.in_ok-prepared.ensures.bytes
    c.in-Err.ensures.refused))
