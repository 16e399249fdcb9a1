use Rattle.std.proofs.Common.{◌≡◌, Global, List, Vec, ap, length, refl, subst, sym, ℕ, ◌∙◌}
use Rattle.std.specs.Prelude.{None, Option, Some}
use Rattle.std.proofs.lemmas.List.{with_items_is}
use Rattle.release.specs.Telling.{Starts}
use Rattle.release.proofs.telling.start_on.Goals as goal

-- what is there
bytes_is : (a b : Vec ℕ Global) → ◌≡◌ {A = Option (Vec ℕ Global)} (Some a) (Some b) → a.items ≡ b.items
bytes_is a b is = ap (λ (o : Option (Vec ℕ Global)). elim o [ None ↦ a.items | Some v ↦ v.items ]) is

pub returns-clause-some : goal.returns-clause-some
returns-clause-some g c = λ old is.
    let before = c.in_ok-image.image in
    let new = c.release_and_tell.new.image in
    let many : length new ≡ before.len = search (Rattle.std.proofs.Common.rules) in
    let told = c.release_and_tell.ensures in
    let same = c.deref_mut.ensures.value ∙ bytes_is before old (sym c.in_ok-image.was ∙ is) in (
      _,
      refl,
      subst (λ (items : List ℕ). Starts c.args.minor old.items items g.E.Write.contents c.args.err.now c.release_and_tell.new.err)
          (sym (with_items_is before new many))
          (subst (λ (bytes : List ℕ). Starts c.args.minor bytes new g.E.Write.contents c.args.err.now c.release_and_tell.new.err) same told),
    )
