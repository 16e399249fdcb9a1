-- What a put into an image file comes to: its files before and after it, and at each moment between.
use Rattle.std.specs.Prelude.{◌≡◌, ℕ, List, Option, Result, OnOk, false}
use Rattle.stable.specs.Disk.{put}
use Rattle.stable.specs.Runs.{Known, Knows, EachMoment}
use Rattle.redo.specs.UnderWay.{IsAtRest, IsCurrent}
use Rattle.redo.specs.Laws.{FindsEither}
use Rattle.image_file.specs.declared.kept.Kept.{Kept}
use Rattle.image_file.specs.Images.{IsImageSound, with_image}

-- Where no put has failed and the log says what makes an image: at each moment a crash leaves that image or the image with these changes,
-- and after an ok the log says what makes that with the changes, for the next put.
pub record IsPutBy {S E : Type 0} (known : S → Option Known) (old : Kept S) (changes : List (ℕ × List ℕ)) (answer : Result (Unit {0}) E)
    (new : Kept S) : Type 0 where
  pub name : new.name ≡ old.name
  pub settled : OnOk answer (new.unsettled ≡ false)
  pub any_moment : (image : ℕ → List ℕ) → old.unsettled ≡ false → Knows (IsCurrent old.name old.at image) (known old.storage)
      → EachMoment (FindsEither old.name image (put changes image)) (known old.storage) (known new.storage)
  pub ok : (image : ℕ → List ℕ) → old.unsettled ≡ false → Knows (IsCurrent old.name old.at image) (known old.storage)
      → OnOk answer (Knows (IsCurrent old.name new.at (put changes image)) (known new.storage))

-- The same of a whole image, where nothing asked of the image file has failed; after an ok all is at rest with it.
pub record IsImagePutBy {S E : Type 0} (known : S → Option Known) (old : Kept S) (image : List ℕ) (answer : Result (Unit {0}) E)
    (new : Kept S) : Type 0 where
  pub name : new.name ≡ old.name
  pub settled : OnOk answer (new.unsettled ≡ false)
  pub any_moment : (before : ℕ → List ℕ) → old.unsettled ≡ false → Knows (IsCurrent old.name old.at before) (known old.storage)
      → Knows IsImageSound (known old.storage)
      → EachMoment (FindsEither old.name before (with_image image before)) (known old.storage) (known new.storage)
  pub ok : (before : ℕ → List ℕ) → old.unsettled ≡ false → Knows (IsCurrent old.name old.at before) (known old.storage)
      → Knows IsImageSound (known old.storage) → OnOk answer (Knows (IsAtRest (with_image image before)) (known new.storage))
