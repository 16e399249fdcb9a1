-- The volume's range of an image of which drivers wrote some units.
use Rattle.std.proofs.Common.{◌≡◌, ◌*◌, ◌+◌, ◌/◌, ◌<◌, ◌≤◌, ◌∙◌, ap, arith, length, ℕ, zero, suc, Bool, true, false, List, [], get_or, refl, subst, sym, take, drop}
use Rattle.std.proofs.Common.{get_or-take, get_or-drop, length-drop, zero-add}
use Rattle.std.proofs.lemmas.Bool.{false≢true}
use Rattle.std.proofs.lemmas.List.{length-take-le}
use Rattle.std.specs.Prelude.{slice_index, ◌%◌}
use Rattle.std.specs.List.{concat}
use Rattle.std.specs.Simd.{first_chunks}
use Rattle.media.specs.Contents.{IsWhole, MediaState, sectors_of}
use Rattle.media.proofs.SectorLaws.{is_same_image, sector_count}
use Rattle.records.specs.Opening.{Opening, contents_at}
use Rattle.changes.specs.Units.{Covers, is_marked}
use Rattle.volume_reading.specs.Pieces.{Piece}
use Rattle.shared_server.specs.Finishing.{finish_end}
use Rattle.shared_server.specs.Stopping.{Went}
use Rattle.shared_server.specs.declared.finishing.Finish.{Finish}
use Rattle.shared_server.specs.declared.finishing.Finish.TheVariants.{Read}
use Rattle.shared_media.specs.Confined.{KeepsBut, KeepsOutside}
use Rattle.driver_threads.specs.declared.watch.Likeness.{Likeness}
use Rattle.driver_threads.specs.declared.watch.Likeness.TheVariants.{Same, Differs}
use Rattle.serve.specs.Stopping.{AreThere, HasPieces, IsAsRead, IsOther, Tells, range_in}

-- a byte of a sector that was cut from bytes
byte_of_sector : (m n o : ℕ) (bytes : List ℕ) → n < m → o < 512
    → slice_index (get_or (first_chunks 512 m bytes) n []) o ≡ slice_index bytes (512 * n + o)
byte_of_sector zero n o bytes low within = absurd (omega arith)
byte_of_sector (suc m) zero o bytes low within = rw (zero-add o) (get_or-take 512 bytes o 0 within)
byte_of_sector (suc m) (suc n) o bytes low within =
    byte_of_sector m n o (drop 512 bytes) (omega arith) within
    ∙ get_or-drop 512 bytes (512 * n + o) 0
    ∙ ap (λ (k : ℕ). slice_index bytes k) (omega arith)

-- a place of a range, in the image of all media
in_range : (first count k : ℕ) (image : List ℕ) → k < 512 * count
    → slice_index (take (512 * count) (drop (512 * first) image)) k ≡ slice_index image (512 * first + k)
in_range first count k image low = get_or-take (512 * count) (drop (512 * first) image) k 0 low ∙ get_or-drop (512 * first) image k 0

-- in the units that drivers didn't write it holds what was handed in
stays_unmarked : (v : Opening) (written : List Bool) (media : MediaState) → IsWhole media.sectors → KeepsBut v written media
    → v.first + v.count ≤ length media.sectors → (k : ℕ) → is_marked written (k / 4096) ≡ false → k < 512 * v.count
    → slice_index (range_in v (concat media.sectors)) k ≡ contents_at v k
stays_unmarked v written media whole keeps fits k off low =
    let s : ℕ = k / 512 in
    let o : ℕ = k % 512 in
    let within : o < 512 = omega arith in
    let below : v.first + s < length media.sectors = omega (arith, fits, low) in
    let given : length (sectors_of v.media) ≡ length v.media / 512 = sector_count v.media in
    let many : v.first + s < length v.media / 512 = let n = keeps.outside.number in omega (arith, n, given, below) in
    let at : 512 * (v.first + s) + o ≡ 512 * v.first + k = omega arith in
    let unit : k / 4096 ≡ s / 8 = omega arith in
    in_range v.first v.count k (concat media.sectors) low
    ∙ ap (λ (n : ℕ). slice_index (concat media.sectors) n) (sym at)
    ∙ is_same_image.places media.sectors whole (v.first + s) o below within
    ∙ ap (λ (l : List ℕ). slice_index l o)
    (keeps.unmarked s (omega (arith, low)) (subst (λ (n : ℕ). is_marked written n ≡ false) unit off))
    ∙ byte_of_sector (length v.media / 512) (v.first + s) o v.media many within
    ∙ ap (λ (n : ℕ). slice_index v.media n) at
    ∙ sym (in_range v.first v.count k v.media low)

-- a unit that isn't marked where all are that others have
uncovered : (units written : List Bool) (n : ℕ) → Covers units written → is_marked units n ≡ false → is_marked written n ≡ false
uncovered units written n covers off = by (is_marked written n) refl where
  by : (b : Bool) → is_marked written n ≡ b → b ≡ false
  by true there = absurd (false≢true (sym off ∙ covers n there))
  by false there = refl

-- the range of an image that has the pieces' bytes, beside which drivers wrote none
has_pieces : (v : Opening) (written units : List Bool) (media : MediaState) (pieces : List Piece) (image : List ℕ)
    → image ≡ concat media.sectors → IsWhole media.sectors → KeepsBut v written media → 512 * (v.first + v.count) ≤ length image
    → Covers units written → AreThere v pieces image → HasPieces v units pieces image
has_pieces v written units media pieces image is whole keeps fits covers there =
    let long : length (concat media.sectors) ≡ 512 * length media.sectors = is_same_image.long media.sectors whole in
    let same : length image ≡ length (concat media.sectors) = ap (λ (l : List ℕ). length l) is in
    let inside : v.first + v.count ≤ length media.sectors = omega (arith, long, same, fits) in
    record {
      size = length-take-le (512 * v.count) (drop (512 * v.first) image) (let d = length-drop (512 * v.first) image in omega (arith, d, fits));
      there = there;
      elsewhere = λ k low off.
          ap (λ (l : List ℕ). slice_index (range_in v l) k) is
          ∙ stays_unmarked v written media whole keeps inside k (uncovered units written (k / 4096) covers off) low;
    }

-- an image that is as it was read back
pub as_read : (v : Opening) (finish : Finish) (units : List Bool) (pieces : List Piece) (media : MediaState) (written : List Bool) (image : List ℕ)
    → finish ≡ Read units → image ≡ concat media.sectors → IsWhole media.sectors → KeepsOutside v media → KeepsBut v written media
    → 512 * (v.first + v.count) ≤ length image → Covers units written → AreThere v pieces (concat media.sectors) → IsAsRead v finish pieces image
as_read v finish units pieces media written image from is whole outside keeps fits covers there =
    subst (λ (f : Finish). IsAsRead v f pieces image) (sym from) (
      record { media = media; bytes = is; whole = whole; outside = outside },
      has_pieces v written units media pieces image is whole keeps fits covers
          (subst (λ (l : List ℕ). AreThere v pieces l) (sym is) there),
    )

-- all sectors of its range are there, by other names of what was asked
pub has_all : (v : Opening) (first count : ℕ) (now image : List ℕ) → first ≡ v.first → count ≡ v.count → now ≡ image
    → 512 * (first + count) ≤ length now → 512 * (v.first + v.count) ≤ length image
has_all v first count now image from of there fits =
    let long : length now ≡ length image = ap (λ (l : List ℕ). length l) there in omega (arith, from, of, long, fits)

-- what is told of the pieces of a sync that went
pub told_there : (v : Opening) (finish : Finish) (units : List Bool) (likeness : Likeness) (pieces : List Piece) (sectors : List (List ℕ))
    → finish ≡ Read units → likeness ≡ Same → (finish_end finish ≡ Went → Tells v likeness pieces sectors) → AreThere v pieces (concat sectors)
told_there v finish units likeness pieces sectors from is tells =
    subst (λ (l : Likeness). Tells v l pieces sectors) is (tells (ap finish_end from))

-- so an image isn't as it was read back
pub other_is : (v : Opening) (finish : Finish) (units : List Bool) (likeness : Likeness) (pieces : List Piece) (sectors : List (List ℕ))
    (image : List ℕ) → finish ≡ Read units → likeness ≡ Differs → image ≡ concat sectors
    → (finish_end finish ≡ Went → Tells v likeness pieces sectors) → IsOther v finish pieces image
other_is v finish units likeness pieces sectors image from is same tells =
    let told = subst (λ (l : Likeness). Tells v l pieces sectors) is (tells (ap finish_end from)) in
    subst (λ (f : Finish). IsOther v f pieces image) (sym from) (λ there. told (subst (λ (l : List ℕ). AreThere v pieces l) same there))
