use Rattle.std.proofs.Common.{subst, List, ℕ}
use Rattle.ninep_fids.specs.Fids.{EachBecomes, IsUnlinked}
use Rattle.ninep_fids.specs.Knowledge.{known_of, table_of}
use Rattle.ninep_server.proofs.Following.{removed_leaves}
use Rattle.ninep_server.proofs.naming.Remove.hear.Goals as goal

pub returns-in-Ok : goal.returns-in-Ok
returns-in-Ok c =
    let P : List ℕ → Type 0 = λ path. EachBecomes (IsUnlinked path) (table_of c.args.knows.now.fids) (table_of c.unlink.new.self) in
    removed_leaves c.args.self.session c.args.self.path.items c.args.self.stays c.args.self.descriptor _ _ (known_of c.args.knows.now)
    (table_of c.unlink.new.self) _ c.in-Ok.ensures.told (subst P c.deref.ensures.value c.unlink.ensures) c.let_go.ensures
