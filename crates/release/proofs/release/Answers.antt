use Rattle.std.proofs.Common.{◌≡◌, ◌+◌, ◌-◌, List, ap, arith, length, subst, sym, ◌∙◌}
use mathlib.Core.Logic.{inr}
use Rattle.std.specs.Prelude.{IfNone, IfSome, Option, drop, take, ℕ}
use Rattle.volume.specs.Verdict.{Clean, verdict_of}
use Rattle.release.specs.declared.remains.Remains.{Remains}
use Rattle.release.specs.Released.{HoldsTree, IsReleased}
use Rattle.release.proofs.Releasing.{not_held, released_in}
use Rattle.release.proofs.release.Goals as goal

pub returns-in-Some-2-clause-ok : goal.returns-in-Some-2-clause-ok
returns-in-Some-2-clause-ok c =
    let a = c.in-Some.start in
    let k = c.in-Some.size in
    let j = a + k - a in
    let old = c.args.image.now in
    let part = take j (drop a old) in
    let r = c.in-Some-2.released in
    let bytes = c.copy_from_slice.new.self in
    let same : bytes ≡ r.blocks.image.items = c.copy_from_slice.ensures.after ∙ c.image.ensures in
    let so = subst (λ (o : Option Remains). IfSome o (λ x. IsReleased x.count part x.blocks.image.items)) c.in-Some-2.is c.in_ok-released.ensures.some in
    let long = subst (λ (o : Option Remains). IfSome o (λ x. length x.blocks.image.items ≡ length part)) c.in-Some-2.is c.in_ok-released.ensures.length in
    inr (released_in c.args.minor r.count a k j old bytes (omega arith) c.in-Some.ensures.inside (sym c.place_of.ensures.place ∙ c.in-Some.is)
    (subst (λ (new : List ℕ). IsReleased r.count part new) (sym same) so) (ap length same ∙ long))

pub returns-in-Some-2-clause-must : goal.returns-in-Some-2-clause-must
returns-in-Some-2-clause-must c =
    let a = c.in-Some.start in
    let k = c.in-Some.size in
    let j = a + k - a in
    let old = c.args.image.now in
    let part = take j (drop a old) in
    let r = c.in-Some-2.released in
    let bytes = c.copy_from_slice.new.self in
    let same : bytes ≡ r.blocks.image.items = c.copy_from_slice.ensures.after ∙ c.image.ensures in
    let so = subst (λ (o : Option Remains). IfSome o (λ x. IsReleased x.count part x.blocks.image.items)) c.in-Some-2.is c.in_ok-released.ensures.some in
    let long = subst (λ (o : Option Remains). IfSome o (λ x. length x.blocks.image.items ≡ length part)) c.in-Some-2.is c.in_ok-released.ensures.length in
    λ must. released_in c.args.minor r.count a k j old bytes (omega arith) c.in-Some.ensures.inside (sym c.place_of.ensures.place ∙ c.in-Some.is)
    (subst (λ (new : List ℕ). IsReleased r.count part new) (sym same) so) (ap length same ∙ long)

pub returns-in-None-clause-must : goal.returns-in-None-clause-must
returns-in-None-clause-must c =
    let a = c.in-Some.start in
    let k = c.in-Some.size in
    let j = a + k - a in
    let part = take j (drop a c.args.image.now) in
    let none = subst (λ (o : Option Remains). IfNone o (HoldsTree part → verdict_of part ≡ Clean)) c.in-None.is c.in_ok-released.ensures.none in
    λ must. absurd (not_held c.args.minor a k j c.args.image.now (omega arith) (sym c.place_of.ensures.place ∙ c.in-Some.is) none must)
