use Rattle.std.proofs.Common.{subst}
use Rattle.descriptors.specs.Table.{Table, files_of}
use Rattle.descriptors.specs.Files.{AreFiles}
use Rattle.descriptors.proofs.Calls.{limits}
use Rattle.descriptors.proofs.table.Descriptors.keep_limits.Goals as goal

pub returns : goal.returns
returns c =
    let t : Table = record { opened = c.self.inside.files; sessions = c.self.inside.sessions.items } in
    subst (λ (u : Table). AreFiles (files_of u)) c.self.view_is (limits t c.self.invariant)
