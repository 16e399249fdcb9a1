-- A step marks what it changes.
use Rattle.std.proofs.Common.{◌≡◌, ℕ, ◌+◌, ◌*◌, ◌/◌, ◌<◌, inl, inr, List, [], ◌∷◌, length, map, zip, Bool, true, false, refl, sym, subst, ◌∙◌, ap, arith, length-set, get_or-set_same, replicate, Option, Some, None, Result, Ok, Err, IfOk}
use Rattle.std.specs.Global.{Vec}
use Rattle.std.proofs.lemmas.List.{length-replicate}
use Rattle.std.specs.List.{concat}
use Rattle.std.proofs.lemmas.Bool.{false≢true}
use Rattle.message.specs.declared.Kind.{Kind}
use Rattle.message.specs.declared.Kind.TheVariants.{Read, Write}
use Rattle.media.specs.Contents.{MediaState, IsWhole, adopted, written}
use Rattle.media.proofs.WrittenLaws.{length-written, sector-written_other, accepts_exists}
use Rattle.media.proofs.SectorLaws.{length-concat}
use Rattle.records.specs.Opening.{Opening}
use Rattle.bdev.specs.declared.Step.{Step}
use Rattle.bdev.specs.declared.Run.{Run}
use Rattle.bdev.specs.DriverState.{DriverState, Work, chunk}
use Rattle.bdev.specs.Promises.{StepKeeps, StepsAt, MovesBytes, IsNext}
use Rattle.changes.specs.declared.taken.Changes.{Changes}
use Rattle.changes.specs.Units.{units_in, is_marked, marked, with_mark, with_marks, AreTaken, puts_of, unit_of}
use Rattle.changes.proofs.Marking.{length-with_marks, still_set, still_marks}
use Rattle.shared_media.specs.Confined.{KeepsBut}
use Rattle.shared_media.specs.Marking.{ConfinedState, MarksChanges, AreChangesOutside, of_image, units_of, marked_for}
use Rattle.shared_media.proofs.Confining.{keeps_outside}

-- media with marks, those of the units that were written, and an edition, of which two the lemmas on marks ask nothing
abbrev with_units : MediaState → List Bool → List Bool → Option ℕ → ConfinedState
with_units m marks units edition = record { media = m; marks = marks; written = units; edition = edition }

abbrev with : MediaState → List Bool → ConfinedState
with m marks = with_units m marks [] None

any_units : (m m' : MediaState) (marks marks' units units' : List Bool) (edition edition' : Option ℕ)
    → MarksChanges (with m marks) (with m' marks')
    → MarksChanges (with_units m marks units edition) (with_units m' marks' units' edition')
any_units m m' marks marks' units units' edition edition' p = record { number = p.number; same = p.same; still = p.still }

-- marks of which none was taken away
abbrev Stills : List Bool → List Bool → Type 0
Stills old new = (n : ℕ) → is_marked new n ≡ false → is_marked old n ≡ false

still_for : (o : Option ℕ) (marks : List Bool) → Stills marks (marked_for o marks)
still_for None marks n off = off
still_for (Some s) marks n off = still_set marks (s / 8) n off

length-marked_for : (o : Option ℕ) (marks : List Bool) → length (marked_for o marks) ≡ length marks
length-marked_for None marks = refl
length-marked_for (Some s) marks = length-set marks (s / 8) true

-- the media stay
same_media : (m m' : MediaState) (old new : List Bool) → m' ≡ m → Stills old new → MarksChanges (with m old) (with m' new)
same_media m m' old new same still =
    subst (λ (x : MediaState). MarksChanges (with m old) (with x new)) (sym same)
    (record { number = refl; same = λ n off. refl; still = still })

pub adopted_marks : (m : MediaState) (marks units : List Bool) (edition : Option ℕ) (g : ℕ)
    → MarksChanges (with_units m marks units edition) (with_units (adopted m g) marks units edition)
adopted_marks m marks units edition g = record { number = refl; same = λ n off. refl; still = λ n off. off }

pub marked_again : (old : ConfinedState) (m : MediaState) (marks marks' units : List Bool) (edition : Option ℕ) (ns : List ℕ)
    → with_units m marks units edition ≡ old → marks' ≡ with_marks marks ns → MarksChanges old (with_units m marks' units edition)
marked_again old m marks marks' units edition ns from is =
    subst (λ (x : ConfinedState). MarksChanges x (with_units m marks' units edition)) from
    (subst (λ (l : List Bool). MarksChanges (with_units m marks units edition) (with_units m l units edition)) (sym is)
    (record { number = refl; same = λ n off. refl; still = still_marks ns marks }))

pub long_unmarked : (m : MediaState) → length (replicate (units_of m) false) ≡ units_of m
long_unmarked m = length-replicate (units_of m) false

pub long_again : (m : MediaState) (marks : List Bool) (ns : List ℕ) → length marks ≡ units_of m → length (with_marks marks ns) ≡ units_of m
long_again m marks ns long = length-with_marks ns marks ∙ long

-- a sector whose unit isn't marked isn't the one that is written
elsewhere : (m : MediaState) (marks : List Bool) (s n : ℕ) → s < length m.sectors → length marks ≡ units_of m
    → is_marked (with_mark marks (s / 8)) (n / 8) ≡ false → n ≡ s → ⊥
elsewhere m marks s n exists long off is =
    let there : is_marked (with_mark marks (s / 8)) (s / 8) ≡ true = get_or-set_same marks (s / 8) true false (omega arith) in
    let here : is_marked (with_mark marks (s / 8)) (s / 8) ≡ false = subst (λ (k : ℕ). is_marked (with_mark marks (s / 8)) (k / 8) ≡ false) is off in
    false≢true (sym here ∙ there)

written_marks : (m : MediaState) (marks : List Bool) (g s : ℕ) (bytes : List ℕ) → s < length m.sectors → length marks ≡ units_of m
    → MarksChanges (with m marks) (with (written m g s bytes) (with_mark marks (s / 8)))
written_marks m marks g s bytes exists long = record {
  number = length-written m g s bytes;
  same = λ n off. sector-written_other m g s n bytes (elsewhere m marks s n exists long off);
  still = still_set marks (s / 8);
}

-- one sector is moved
moved : (b : DriverState) (w w' : Work) (run : Run) (j : ℕ) (m : MediaState) (g : ℕ) (m' : MediaState) (marks : List Bool) (kind : Kind)
    → w.request.kind ≡ kind → IsNext b w run j → run.first + j < length m.sectors → length marks ≡ units_of m
    → MovesBytes kind w m g (run.first + j) j w' m' → MarksChanges (with m marks) (with m' (marked_for b.in_work marks))
moved b w w' run j m g m' marks Read is next exists long bytes =
    same_media m m' marks (marked_for b.in_work marks) bytes.0 (still_for b.in_work marks)
moved b w w' run j m g m' marks Write is next exists long bytes =
    let put : List ℕ = chunk j w.request.bytes in
    subst (λ (x : MediaState). MarksChanges (with m marks) (with x (marked_for b.in_work marks))) (sym bytes)
    (subst (λ (o : Option ℕ). MarksChanges (with m marks) (with (written m g (run.first + j) put) (marked_for o marks))) (sym (next.named is))
    (written_marks m marks g (run.first + j) put exists long))

stepped : (b : DriverState) (work : Option Work) (m : MediaState) (g : ℕ) (step : Step) (a : DriverState) (m' : MediaState) (marks : List Bool)
    → StepsAt b work m g step a m' → length marks ≡ units_of m → MarksChanges (with m marks) (with m' (marked_for b.in_work marks))
stepped b None m g step a m' marks s long = same_media m m' marks (marked_for b.in_work marks) s.0 (still_for b.in_work marks)
stepped b (Some w) m g step a m' marks s long = elim s.1 [
  | inl n ↦ same_media m m' marks (marked_for b.in_work marks) n.same_media (still_for b.in_work marks)
  | inr p ↦ moved b w s.0 p.run p.number m g m' marks w.request.kind refl p.next
      (accepts_exists m g (p.run.first + p.number) p.accepted) long p.bytes
]

pub marks_step : (old : ConfinedState) (b : DriverState) (m : MediaState) (g : ℕ) (step : Step) (a : DriverState) (m' : MediaState)
    (marks marks' units units' : List Bool) (edition edition' : Option ℕ) → with_units m marks units edition ≡ old
    → StepKeeps b m g step a m' → length marks ≡ units_of m → marks' ≡ marked_for b.in_work marks
    → MarksChanges old (with_units m' marks' units' edition')
marks_step old b m g step a m' marks marks' units units' edition edition' from keeps long is =
    subst (λ (x : ConfinedState). MarksChanges x (with_units m' marks' units' edition')) from
    (subst (λ (l : List Bool). MarksChanges (with_units m marks units edition) (with_units m' l units' edition')) (sym is)
    (any_units m m' marks (marked_for b.in_work marks) units units' edition edition' (stepped b b.work m g step a m' marks keeps.steps long)))

pub long_after : (b : DriverState) (m : MediaState) (g : ℕ) (step : Step) (a : DriverState) (m' : MediaState) (marks marks' : List Bool)
    → StepKeeps b m g step a m' → length marks ≡ units_of m → marks' ≡ marked_for b.in_work marks → length marks' ≡ units_of m'
long_after b m g step a m' marks marks' keeps long is =
    let number : length m'.sectors ≡ length m.sectors = (stepped b b.work m g step a m' marks keeps.steps long).number in
    ap length is ∙ length-marked_for b.in_work marks ∙ long ∙ ap (λ k. (k + 7) / 8) (sym number)

-- the marked units of media that are as they were handed in outside of the volume
pub marked_outside : (v : Opening) (units : List Bool) (m : MediaState) (marks : List Bool) → KeepsBut v units m → IsWhole m.sectors
    → length marks ≡ units_of m → AreChangesOutside v (of_image (concat m.sectors) (marked marks))
marked_outside v units m marks kept whole long =
    let bytes : length (concat m.sectors) ≡ 512 * length m.sectors = length-concat m.sectors whole.each in
    record {
      image = concat m.sectors;
      outside = record { media = m; bytes = refl; whole = whole; outside = keeps_outside v units m kept };
      marks = marks;
      as_many = let same : units_in (concat m.sectors) ≡ units_of m = omega arith in long ∙ sym same;
      taken = refl;
    }

-- the numbers of those, where memory was found for them
pub in_place_outside : {E : Type 0} (v : Opening) (units : List Bool) (m : MediaState) (marks : List Bool) (edition : Option ℕ)
    (confined : ConfinedState) (result : Result (Vec ℕ) E) → with_units m marks units edition ≡ confined → KeepsBut v units m → IsWhole m.sectors
    → length marks ≡ units_of m → IfOk result (λ numbers. numbers.items ≡ marked marks)
    → IfOk result (λ numbers. AreChangesOutside v (of_image (concat confined.media.sectors) numbers.items))
in_place_outside v units m marks edition confined (Ok numbers) from kept whole long is =
    subst (λ (c : ConfinedState). AreChangesOutside v (of_image (concat c.media.sectors) numbers.items)) from
    (subst (λ (l : List ℕ). AreChangesOutside v (of_image (concat m.sectors) l)) (sym is) (marked_outside v units m marks kept whole long))
in_place_outside v units m marks edition confined (Err e) from kept whole long is = tt

-- numbers beside what is made of each are the pairs of both
zip_map : (f : ℕ → List ℕ) (ns : List ℕ) → zip ns (map f ns) ≡ map (λ n. (n, f n)) ns
zip_map f [] = refl
zip_map f (n ∷ ns) = ap (λ l. (n, f n) ∷ l) (zip_map f ns)

-- changes that were taken of an image are its marked units
taken_of : (marks : List Bool) (image : List ℕ) (changes : Changes) → AreTaken marks image changes
    → puts_of changes ≡ of_image image (marked marks)
taken_of marks image changes taken =
    ap (λ (l : List ℕ). zip l changes.units.items) taken.numbers ∙ ap (λ (l : List (List ℕ)). zip (marked marks) l) taken.units
    ∙ zip_map (unit_of image) (marked marks)

-- the changes taken of such media
pub changes_outside : (v : Opening) (units : List Bool) (m : MediaState) (marks : List Bool) (changes : Changes) → KeepsBut v units m
    → IsWhole m.sectors → length marks ≡ units_of m → AreTaken marks (concat m.sectors) changes → AreChangesOutside v (puts_of changes)
changes_outside v units m marks changes kept whole long taken =
    subst (AreChangesOutside v) (sym (taken_of marks (concat m.sectors) changes taken)) (marked_outside v units m marks kept whole long)
