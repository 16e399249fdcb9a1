-- The bytes of media at a run's end.
use Rattle.std.proofs.Common.{◌≡◌, ℕ, zero, suc, ◌⊎◌, ◌+◌, ◌*◌, ◌<◌, ◌≤◌, ◌/◌, List, [], length, get_or, sym, ◌∙◌, ap, arith, inl, inr}
use Rattle.std.specs.Prelude.{slice_index, drop, ◌%◌}
use Rattle.std.specs.List.{concat}
use Rattle.std.proofs.lemmas.List.{get_or_past, get_or-take, get_or-drop}
use Rattle.layout.specs.declared.Geometry.{Geometry}
use Rattle.records.specs.Opening.{Opening, contents_at}
use Rattle.records.specs.Disk.{disk_after, unsure}
use Rattle.records.specs.Area.{WritesInside, IsHeadOrTail}
use Rattle.records.specs.Laws.{Stays}
use Rattle.records.proofs.Inside.{head_and_tail_stay}
use Rattle.records.proofs.Sectors.{unsure_by_sector}
use Rattle.media.specs.Contents.{MediaState, IsWhole, sectors_of}
use Rattle.media.proofs.SectorLaws.{is_same_image, length-first_chunks, IsWhole-first_chunks}
use Rattle.true_replies.specs.State as by_sector
use Rattle.true_replies.specs.Events.{IsOnMedia}
use Rattle.schedule.specs.Headline.{Transcript}
use Rattle.transcript.specs.Shown.{ImageShows}

sectors_given : (bytes : List ℕ) → length (sectors_of bytes) ≡ length bytes / 512
sectors_given bytes = length-first_chunks (length bytes / 512) bytes

given_whole : (v : Opening) → IsOnMedia v → IsWhole (sectors_of v.media)
given_whole v on = let w = on.whole in IsWhole-first_chunks (length v.media / 512) v.media (omega (arith, w)) on.most

-- a byte of media, as its place in their image
byte_at : (sectors : List (List ℕ)) → IsWhole sectors → (s o : ℕ) → s < length sectors → o < 512
    → slice_index (concat sectors) (512 * s + o) ≡ slice_index (get_or sectors s []) o
byte_at sectors whole s o low within = is_same_image.places sectors whole s o low within

low_or_past : (a b : ℕ) → (a < b) ⊎ (b ≤ a)
low_or_past a zero = inr (omega arith)
low_or_past zero (suc b) = inl (omega arith)
low_or_past (suc a) (suc b) = elim (low_or_past a b) [ inl h ↦ inl (omega (arith, h)) | inr h ↦ inr (omega (arith, h)) ]

-- the byte of a sector that is the same in both
same_byte : (now given : List (List ℕ)) → IsWhole now → IsWhole given → length now ≡ length given → (s o : ℕ) → o < 512
    → get_or now s [] ≡ get_or given s [] → slice_index (concat now) (512 * s + o) ≡ slice_index (concat given) (512 * s + o)
same_byte now given whole given_is number s o within same = elim (low_or_past s (length now)) [
  | inl low ↦
      byte_at now whole s o low within
      ∙ ap (λ (l : List ℕ). slice_index l o) same
      ∙ sym (byte_at given given_is s o (let n = number in omega (arith, n, low)) within)
  | inr past ↦
      get_or_past (concat now) (512 * s + o) 0 (let l = is_same_image.long now whole in omega (arith, l, past))
      ∙ sym (get_or_past (concat given) (512 * s + o) 0 (let l = is_same_image.long given given_is in omega (arith, l, past, number)))
]

-- a place of the volume, in the image of all media
handed_in : (v : Opening) (place : ℕ) → place < 512 * v.count → contents_at v place ≡ slice_index v.media (512 * v.first + place)
handed_in v place low =
    get_or-take (512 * v.count) (drop (512 * v.first) v.media) place 0 low ∙ get_or-drop (512 * v.first) v.media place 0

-- a place of the volume that no write covers holds what was handed in
stays_at : (g : Geometry) (v : Opening) (media : MediaState) (t : Transcript) → IsWhole media.sectors
    → length media.sectors ≡ length (sectors_of v.media) → IsOnMedia v → WritesInside g t.marks
    → by_sector.MediaHold v (contents_at v) media t.marks → t.image ≡ concat media.sectors
    → (place : ℕ) → place < 512 * v.count → IsHeadOrTail g place
    → slice_index t.image (512 * v.first + place) ≡ slice_index v.media (512 * v.first + place)
stays_at g v media t whole number on writes inside is place low out =
    let stays : Stays (contents_at v) t.marks place = head_and_tail_stay g (contents_at v) t.marks place writes out in
    let s : ℕ = place / 512 in
    let k : ℕ = place % 512 in
    let at : 512 * s + k ≡ place = omega arith in
    let within : k < 512 = omega arith in
    let below : s < v.count = omega (arith, low) in
    let many : length (sectors_of v.media) ≡ length v.media / 512 = sectors_given v.media in
    let rounded = on.whole in
    let fits = on.inside in
    ap (λ (l : List ℕ). slice_index l (512 * v.first + place)) is
    ∙ ap (λ (n : ℕ). slice_index (concat media.sectors) n) (omega (arith, at))
    ∙ byte_at media.sectors whole (v.first + s) k (let n = number in omega (arith, n, many, fits, below)) within
    ∙ inside.each s k below within (ap (λ (n : ℕ). unsure t.marks n) at ∙ stays.sure)
    ∙ ap (λ (n : ℕ). disk_after (contents_at v) t.marks n) at
    ∙ stays.same
    ∙ handed_in v place low

-- the image of media holds what they hold by sector
pub image_shows : ImageShows
image_shows g v media t on whole number fits_head formed writes inside outside is =
    let given : IsWhole (sectors_of v.media) = given_whole v on in
    let many : length (sectors_of v.media) ≡ length v.media / 512 = sectors_given v.media in
    let rounded = on.whole in
    let fits = on.inside in
    record {
      size = ap length is ∙ is_same_image.long media.sectors whole ∙ (let n = number in omega (arith, n, many, rounded));
      inside = λ s k low within sure.
          ap (λ (l : List ℕ). slice_index l (512 * (v.first + s) + k)) is
          ∙ byte_at media.sectors whole (v.first + s) k (let n = number in omega (arith, n, many, fits, low)) within
          ∙ inside.each s k low within (unsure_by_sector t.marks s k formed within ∙ sure);
      head = λ place low.
          stays_at g v media t whole number on writes inside is place (let f = fits_head in omega (arith, low, f)) (inl low);
      tail = λ place past low. stays_at g v media t whole number on writes inside is place low (inr past);
      outside = λ s k out within.
          ap (λ (l : List ℕ). slice_index l (512 * s + k)) is
          ∙ same_byte media.sectors (sectors_of v.media) whole given number s k within (outside.each s out)
          ∙ ap (λ (l : List ℕ). slice_index l (512 * s + k)) (is_same_image.joined v.media rounded);
    }
