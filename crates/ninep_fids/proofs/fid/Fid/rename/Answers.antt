use Rattle.std.proofs.Common.{refl, sym, ◌∙◌, arith}
use Rattle.ninep_fids.proofs.FidLaws.{goes_along}
use Rattle.ninep_fids.proofs.fid.Fid.rename.Goals as goal

pub returns-in-Ok : goal.returns-in-Ok
returns-in-Ok c = goes_along _ _ c.in-Some.rest.now _ _ (sym c.deref.ensures.value ∙ c.in-Some.ensures.some.0) c.in-Some.ensures.some.1
    c.in-Ok.ensures refl refl refl refl refl (omega (arith, c.len.ensures, c.if-len-le-MAX_PATH.true, c.in-Ok.path.ok.0))
