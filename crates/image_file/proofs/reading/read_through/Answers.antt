use Rattle.std.proofs.Common.{◌≡◌, ℕ, List, length, refl, sym, ◌∙◌, ap, subst, Option, Some, false}
use Rattle.stable.specs.Disk.{Contents, Changes, put}
use Rattle.stable.specs.Runs.{Known, now, Knows, ShowsLog}
use Rattle.changes.specs.Units.{unit_of}
use Rattle.redo.specs.Asked.{standing_of}
use Rattle.redo.specs.Record.{standing, Standing, redone, Nothing, Redo}
use Rattle.image_file.specs.Images.{within}
use Rattle.image_file.proofs.Bytes.{unit_itself}
use Rattle.image_file.proofs.reading.read_through.Goals as goal

shows_first : (o : Option Known) (k : Known) → o ≡ Some k → (now k).log.failed ≡ false → Knows (ShowsLog (now k).log.shows) o
shows_first o k is sound = subst (Knows (ShowsLog (now k).log.shows)) (sym is) (sound, λ n. refl)

pub returns-in-Nothing-clause-read : goal.returns-in-Nothing-clause-read
returns-in-Nothing-clause-read g c k is sound =
    let log : Contents = (now k).log.shows in
    let image : List ℕ = c.args.image.now in
    let none : Nothing ≡ standing c.args.name log = ap standing_of (sym c.in-Nothing.is) ∙ c.in_ok-read_log.ensures.says log (shows_first (g.S.Storage.known c.args.storage.now) k is sound) in
    record {
      found = unit_of image;
      found_is = ap (λ (s : Standing). redone s (unit_of image)) (sym none);
      size = refl;
      units = λ n. unit_itself image n;
    }

pub returns-in-Changes-clause-read : goal.returns-in-Changes-clause-read
returns-in-Changes-clause-read g c k is sound =
    let log : Contents = (now k).log.shows in
    let image : List ℕ = c.args.image.now in
    let ws : Changes = c.in-Changes.changes.items in
    let redo : Redo ws ≡ standing c.args.name log = ap standing_of (sym c.in-Changes.is) ∙ c.in_ok-read_log.ensures.says log (shows_first (g.S.Storage.known c.args.storage.now) k is sound) in
    record {
      found = put ws (unit_of image);
      found_is = ap (λ (s : Standing). redone s (unit_of image)) (sym redo);
      size = c.put_units.ensures.size;
      units = λ n. c.put_units.ensures.units n ∙ ap (λ (l : Changes). within (length image) n (put l (unit_of image) n)) c.deref.ensures.value;
    }
