use Rattle.volume_commands.proofs.Tellings.{told_as}
use Rattle.volume_commands.proofs.handing.tell_handing.Goals as goal

pub returns-in_default : goal.returns-in_default
returns-in_default g c =
    told_as g.E.Write.contents c.args.name.now c.args.handing c.tell.result c.args.err.now c.tell.new.to c.in_default.not-Put c.tell.ensures
