use Rattle.std.proofs.Common.{◌∙◌, ap, refl, subst}
use Rattle.layout.specs.declared.Geometry.{Geometry}
use Rattle.records.specs.Told.{took_end}
use Rattle.volume_mount.specs.Opening.{IsNewOver}
use Rattle.volume_mount.proofs.Mounting.{lacking_later, mounted, refused_later, refused_now, unended}
use Rattle.volume_mount.specs.declared.whole.MountRefusal.TheVariants as refusal
use Rattle.volume_mount.proofs.mounted.mount.Goals as goal

pub returns-then-not-is_allowed-clause-refused : goal.returns-then-not-is_allowed-clause-refused
returns-then-not-is_allowed-clause-refused g c =
    refused_now g.L.Link c.args.link c.args.minor c.args.frames refusal.BadFrames (g.met.L.Link.stays _) (c.if-not-is_allowed.ensures.refused, refl)

pub returns-in-Err-clause-refused : goal.returns-in-Err-clause-refused
returns-in-Err-clause-refused g c =
    refused_now g.L.Link c.args.link c.args.minor c.args.frames refusal.OutOfMemory (g.met.L.Link.stays _) c.if-not-is_allowed.ensures.allowed

pub returns-in-Err-read_volume-clause-refused : goal.returns-in-Err-read_volume-clause-refused
returns-in-Err-read_volume-clause-refused g c =
    let t = c.in-Ok.ensures in
    refused_later g.L.Link c.args.link c.args.minor c.args.frames c.in-Err-read_volume.refusal c.in-Ok.transfers c.read_volume.new.transfers t.link t.agrees t.owes
    c.read_volume.ensures.goes c.if-not-is_allowed.ensures.allowed c.in-Err-read_volume.ensures.reads

pub over-requires-clause-live : goal.over-requires-clause-live
over-requires-clause-live g c =
    let t = c.in-Ok.ensures in
    unended c.args.minor c.in-Ok-read_volume.clean _ _ _ _ _ _ t.agrees (ap (λ (l : _). took_end (g.L.Link.history l)) t.link ∙ c.requires.live)
    c.in-Ok-read_volume.ensures.reads

pub returns-in-Ok-over-clause-mounted : goal.returns-in-Ok-over-clause-mounted
returns-in-Ok-over-clause-mounted g c =
    let t = c.in-Ok.ensures in
    mounted g.L.Link c.args.link c.args.minor c.args.frames c.in-Ok-read_volume.clean c.in-Ok.transfers c.read_volume.new.transfers c.in-Ok-over.server
    t.link t.agrees t.owes c.read_volume.ensures.goes c.if-not-is_allowed.ensures.allowed c.in-Ok-read_volume.ensures.reads
    (subst (λ (x : Geometry). IsNewOver g.L.Link c.read_volume.new.transfers c.args.minor x c.args.frames c.in-Ok-over.server) c.geometry.ensures c.in-Ok-over.ensures.made)

pub returns-in-Err-over-clause-refused : goal.returns-in-Err-over-clause-refused
returns-in-Err-over-clause-refused g c =
    let t = c.in-Ok.ensures in
    lacking_later g.L.Link c.args.link c.args.minor c.args.frames c.in-Ok-read_volume.clean c.in-Ok.transfers c.read_volume.new.transfers t.link t.agrees t.owes
    c.read_volume.ensures.goes c.if-not-is_allowed.ensures.allowed c.in-Ok-read_volume.ensures.reads
