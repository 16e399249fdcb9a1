use Rattle.std.proofs.Common.{◌≡◌, ◌∷◌, refl, sym, ◌∙◌, subst, Option, Some, map}
use Rattle.stable.specs.Disk.{Sync, Did}
use Rattle.stable.specs.declared.Which.TheVariants.{Log}
use Rattle.stable.specs.Runs.{Known, now, Happens}
use Rattle.redo.specs.Record.{standing, Standing, Nothing, Redo, Foreign}
use Rattle.redo.specs.Plans.{recover_plan, to_recover}
use Rattle.redo.specs.Asked.{answer_of}
use Rattle.redo.specs.declared.recovering.Recovered.TheVariants as recovered
use Rattle.image_file.proofs.Calls.{all_moment}
use Rattle.image_file.proofs.kept.start.Goals as goal

foreign_from : (s : Standing) → recovered.Foreign ≡ answer_of s → s ≡ Foreign
foreign_from Nothing is = cc
foreign_from (Redo changes) is = cc
foreign_from Foreign is = refl

pub returns-in-Foreign-clause-follows : goal.returns-in-Foreign-clause-follows
returns-in-Foreign-clause-follows g c k is sound =
    all_moment (recover_plan c.args.name (now k).log.shows) (g.S.Storage.known c.args.storage.now) (g.S.Storage.known c.recover.new.storage) (c.in_ok-recover.ensures.follows k is sound)

pub returns-in-Foreign-clause-foreign : goal.returns-in-Foreign-clause-foreign
returns-in-Foreign-clause-foreign g c k is sound err =
    let log = (now k).log.shows in
    let new = g.S.Storage.known c.recover.new.storage in
    let foreign : standing c.args.name log ≡ Foreign = foreign_from (standing c.args.name log) (sym c.in-Foreign.is ∙ c.in_ok-recover.ensures.answer k is sound) in
    let happens : Happens (map Did (recover_plan c.args.name log)) (Some k) new = subst (λ (o : Option Known). Happens (map Did (recover_plan c.args.name log)) o new) is (c.in_ok-recover.ensures.follows k is sound) in
    record {
      is = foreign;
      unwritten = subst (λ (s : Standing). Happens (map Did (Sync Log ∷ to_recover s (log 0))) (Some k) new) foreign happens;
    }
