-- The image at the end, put into an archive.
use Rattle.std.proofs.Common.{◌≡◌, ℕ, List, ap, subst, sym}
use Rattle.std.specs.Prelude.{Bool, Option, Some, IfSome}
use Rattle.volume_commands.specs.Handing.{Putting, IsHandedOn}
use Rattle.volume_commands.specs.declared.handing.Handing.{Handing}
use Rattle.volume_commands.specs.declared.handing.Handing.TheVariants.{Put, TakenBeside, NotPut, Beside, Nowhere}
use Rattle.archive.specs.declared.ending.Ending.{Ending}
use Rattle.archive.specs.Ending.{Ends, IsEndedIn}

module _ {A B : Type 0} (ends : Ends A) (leaves : Putting B) (minor : ℕ) (p : Ending A) (b : B) (q : Ending A) (c : B) where
  -- what came of the image, by the place that is made of the archive
  abbrev IsEnded : List ℕ → Bool → Handing → Type 0
  IsEnded image as_read handing =
      IsHandedOn (λ s i put t. IsEndedIn ends s.archive i put t.archive) leaves image minor as_read p b handing q c

  -- it is said of the archive alone
  of_archive : (image : List ℕ) (as_read : Bool) (handing : Handing) → IsEnded image as_read handing
      → IsHandedOn (IsEndedIn ends) leaves image minor as_read p.archive b handing q.archive c
  of_archive image as_read Put it = it
  of_archive image as_read TakenBeside it = it
  of_archive image as_read NotPut it = it
  of_archive image as_read (Beside why) it = (it.0, ap (λ (e : Ending A). e.archive) it.1, it.2)
  of_archive image as_read (Nowhere why) it = (it.0, ap (λ (e : Ending A). e.archive) it.1, it.2)

  -- of the same image, which is as it was read back or isn't
  pub of_image : (bytes image : List ℕ) (read as_read : Bool) (handing : Handing) → bytes ≡ image → read ≡ as_read
      → IsEnded bytes read handing → IsHandedOn (IsEndedIn ends) leaves image minor as_read p.archive b handing q.archive c
  of_image bytes image read as_read handing same also it =
      of_archive image as_read handing (subst (λ r. IsEnded image r handing) also (subst (λ i. IsEnded i read handing) same it))

-- what holds of what is there
pub at_some : {T : Type 0} (P : T → Type 0) (o : Option T) (x : T) → o ≡ Some x → P x → IfSome o P
at_some P o x is p = subst (λ (it : Option _). IfSome it P) (sym is) p
