use Rattle.std.proofs.Common.{◌≡◌, [], ◌∷◌, ◌++◌, refl, sym, ◌∙◌, arith, true}
use Rattle.std.specs.Str.{bytes_eq}
use Rattle.std.proofs.lemmas.Slice.Eq.{bytes_eq-Decides}
use Rattle.redo.proofs.Left.{happens-append}
use Rattle.image_file.proofs.Calls.{known_still}
use Rattle.changes.specs.Units.{unit_of}
use Rattle.image_file.specs.Images.{ShowsImage, units_of}
use Rattle.image_file.proofs.Comparing.{reads_image, makes_same, makes_more, few_more}
use Rattle.image_file.proofs.differing.differing.Goals as goal
use Rattle.image_file.proofs.differing.differing.Goals.{then-not-has_bytes+in_ok-push, else-not-has_bytes}

pub loop-n-preserved : goal.loop-n-preserved
loop-n-preserved g c =
    let known = g.S.Storage.known in
    let numbers = c.loop-n.numbers.items in
    let numbers_now = c.if-not-has_bytes.numbers.items in
    let n = c.loop-n.n in
    let invariant = c.loop-n.invariant in
    let first = c.args.storage.now in
    let before = c.loop-n.storage in
    let same_now = happens-append [] [] (known first) (known before) (known c.read.new.self) invariant.same c.in_ok-held.ensures.same in
    elim c.if-not-has_bytes.branch [
      | then-not-has_bytes+in_ok-push w ↦
          let ns : numbers_now ≡ numbers ++ n ∷ [] = rw w.numbers-is w.in_ok-push.ensures.items in
          record {
            same = same_now;
            few = few_more numbers numbers_now n n invariant.few ns;
            makes = λ d shows. makes_more numbers numbers_now n c.args.image.now d ns (invariant.makes d shows);
          }
      | else-not-has_bytes w ↦
          record {
            same = same_now;
            few = rw w.numbers-is (omega (arith, invariant.few));
            makes = λ d shows.
                let unit = unit_of c.args.image.now n in
                let bytes = c.in_ok-held.held in
                let shown = known_still (ShowsImage d) (known first) (known before) invariant.same shows in
                let held = reads_image d (known before) n bytes shown c.in_ok-held.ensures.bytes in
                let equal : bytes_eq bytes unit ≡ true = sym c.has_bytes.ensures ∙ w.if-not-has_bytes.false in
                let same = (bytes_eq-Decides bytes unit).0 equal in
                rw w.numbers-is
                (makes_same (units_of c.args.image.now numbers) n c.args.image.now unit bytes d (invariant.makes d shows) refl held same);
          }
    ]
