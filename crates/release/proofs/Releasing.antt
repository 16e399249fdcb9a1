-- A volume in an image whose nodes are given back.
use Rattle.std.proofs.Common.{◌≡◌, ◌<◌, ◌≤◌, ◌+◌, ℕ, zero, suc, List, length, take, drop, sym, ap, subst, ◌∙◌, arith}
use Rattle.std.specs.Prelude.{Option, None, Some}
use Rattle.std.proofs.lemmas.List.{length-drop, length-take-le}
use borrow.Rule.Slice.PartMut.{put_mid}
use Rattle.output.specs.declared.Told.{Told}
use Rattle.output.specs.Output.{Tells}
use Rattle.release.specs.Place.{bytes_at, place_in}
use Rattle.volume.specs.Verdict.{Clean, verdict_of}
use Rattle.release.specs.Released.{HoldsTree, IsReleased, IsReleasedIn, MustRelease}
use Rattle.release.specs.Telling.{TellsCount, released_text}
use Rattle.release.proofs.Placing.{outside, stand}

-- it takes the place of the old one
pub released_in : (minor count a k j : ℕ) (old bytes : List ℕ) → j ≡ k → a + k ≤ length old → place_in old minor ≡ Some (a, k)
    → IsReleased count (take j (drop a old)) bytes → length bytes ≡ length (take j (drop a old)) → IsReleasedIn minor count old (put_mid a j old bytes)
released_in minor count a k j old bytes is inside there released long =
    subst (λ (n : ℕ). IsReleased count (take n (drop a old)) bytes → length bytes ≡ length (take n (drop a old)) → IsReleasedIn minor count old (put_mid a n old bytes))
    (sym is) (λ so many. put so (many ∙ length-take-le k (drop a old) (let behind = length-drop a old in omega (arith, behind, inside)))) released long
  where
    put : IsReleased count (take k (drop a old)) bytes → length bytes ≡ k → IsReleasedIn minor count old (put_mid a k old bytes)
    put so many = record {
      place = (a, k);
      there = there;
      outside = outside a k old bytes inside many;
      volume = subst (λ (new : List ℕ). IsReleased count (bytes_at (a, k) old) new) (sym (stand a k old bytes inside many)) so;
    }

-- the place is one
place_is : (p q : ℕ × ℕ) → ◌≡◌ {A = Option (ℕ × ℕ)} (Some p) (Some q) → p ≡ q
place_is p q e = ap (λ (o : Option (ℕ × ℕ)). elim o [ Some x ↦ x | None ↦ p ]) e

-- nothing has to be released where there is no volume
pub not_placed : (minor : ℕ) (image : List ℕ) → place_in image minor ≡ None → MustRelease minor image → ⊥
not_placed minor image none must = let no = sym none ∙ must.there in absurd (cc)

-- nor where it is clean or holds no tree
pub not_held : (minor a k j : ℕ) (image : List ℕ) → j ≡ k → place_in image minor ≡ Some (a, k)
    → (HoldsTree (take j (drop a image)) → verdict_of (take j (drop a image)) ≡ Clean) → MustRelease minor image → ⊥
not_held minor a k j image is there clean must =
    let at : must.place ≡ (a, k) = place_is must.place (a, k) (sym must.there ∙ there) in
    let piece : bytes_at must.place image ≡ take j (drop a image) = ap (λ (p : ℕ × ℕ). bytes_at p image) at ∙ ap (λ (n : ℕ). take n (drop a image)) (sym is) in
    must.unclean (ap verdict_of piece ∙ clean (subst HoldsTree piece must.holds))

-- a line is told of some
pub tells_some : {E : Type 0} (contents : E → Option (List ℕ)) (count : ℕ) (before after : E) (told : Told) → 0 < count
    → Tells (Some (released_text count)) told (contents before) (contents after) → TellsCount contents count before after
tells_some contents zero before after told some tells = absurd (omega (arith, some))
tells_some contents (suc k) before after told some tells = (told, tells)

-- and nothing of none
pub tells_none : {E : Type 0} (contents : E → Option (List ℕ)) (count : ℕ) (before after : E) → count ≡ 0 → after ≡ before
    → TellsCount contents count before after
tells_none contents count before after none same = subst (λ (n : ℕ). TellsCount contents n before after) (sym none) same
