-- The units in which an image file differs from an image, while they are looked for.
use Rattle.std.proofs.Common.{◌≡◌, inl, inr, ℕ, ◌+◌, ◌<◌, ◌≤◌, List, [], ◌∷◌, ◌++◌, length, take, drop, min, replicate, ◌*◌, ◌-◌, sym, ◌∙◌, ap, arith, Option, Some, None}
use Rattle.std.proofs.lemmas.List.{append-nil, map-append, length_push, length-drop, length-take, take_all}
use Rattle.std.proofs.lemmas.Bool.{cases_eq, cases_order}
use Rattle.std.proofs.lemmas.Bool.Decides.{nat_tests}
use Rattle.stable.specs.declared.Which.TheVariants.{Image}
use Rattle.stable.specs.Disk.{Contents, Changes, set, put}
use Rattle.stable.specs.Runs.{Known, Knows, Reads}
use Rattle.redo.proofs.Units.{set_same, set_other, put-append}
use Rattle.changes.specs.Units.{unit_of}
use Rattle.image_file.specs.Images.{ShowsImage, units_of, with_units}

-- a unit that doesn't end behind an image has the image's bytes alone
pub whole_unit : (image rest unit : List ℕ) (n first : ℕ) → first ≡ min (n * 4096) (length image)
    → rest ≡ take (length image - first) (drop first image) → 4096 ≤ length rest → unit ≡ take 4096 rest → unit ≡ unit_of image n
whole_unit image rest unit n first begins lies there is =
    let few : length (drop first image) ≤ length image - first = omega (arith, length-drop first image) in
    let last : rest ≡ drop first image = lies ∙ take_all (length image - first) (drop first image) few in
    let size : length rest ≡ length (drop first image) = ap length last in
    let at : first ≡ 4096 * n = omega (arith, length-drop first image) in
    let bytes : List ℕ = take 4096 (drop (4096 * n) image) in
    let all : unit ≡ bytes = is ∙ ap (take 4096) last ∙ ap (λ (k : ℕ). take 4096 (drop k image)) at in
    let long : length bytes ≡ 4096 = ap length (sym all) ∙ ap length is ∙ omega (arith, length-take 4096 rest) in
    let none : 4096 - length bytes ≡ 0 = omega arith in
    all ∙ sym (ap (λ (k : ℕ). bytes ++ replicate k 0) none ∙ append-nil bytes)

pub reads_image : (c : Contents) (a : Option Known) (n : ℕ) (bytes : List ℕ) → Knows (ShowsImage c) a → Reads a Image n bytes → bytes ≡ c n
reads_image c None n bytes k r = absurd k
reads_image c (Some a) n bytes k r = r k.sound ∙ k.shows n

with_below : (count : ℕ) (image : List ℕ) (c : Contents) (n : ℕ) → n < count → with_units count image c n ≡ unit_of image n
with_below count image c n lt = grind (arith, nat_tests)

with_past : (count : ℕ) (image : List ℕ) (c : Contents) (n : ℕ) → count ≤ n → with_units count image c n ≡ c n
with_past count image c n le = grind (arith, nat_tests)

-- one unit more changes no other one
with_other : (count : ℕ) (image : List ℕ) (c : Contents) (n : ℕ) → (n ≡ count → ⊥) → with_units count image c n ≡ with_units (count + 1) image c n
with_other count image c n other = elim (cases_order n count) [
  | inl same ↦ absurd (other same)
  | inr order ↦ elim order [
    | inl below ↦ with_below count image c n below ∙ sym (with_below (count + 1) image c n (omega arith))
    | inr above ↦ with_past count image c n (omega arith) ∙ sym (with_past (count + 1) image c n (omega arith))
  ]
]

abbrev pub Makes : Changes → ℕ → List ℕ → Contents → Type 0
Makes ws count image c = (n : ℕ) → put ws c n ≡ with_units count image c n

pub makes_none : (image : List ℕ) (c : Contents) → Makes [] 0 image c
makes_none image c n = sym (with_past 0 image c n (omega arith))

-- the next unit is the image's already
pub makes_same : (ws : Changes) (count : ℕ) (image unit held : List ℕ) (c : Contents) → Makes ws count image c → unit ≡ unit_of image count → held ≡ c count → held ≡ unit
    → Makes ws (count + 1) image c
makes_same ws count image unit held c was is shows same n = elim (cases_eq n count) [
  | inr other ↦ was n ∙ with_other count image c n other
  | inl here ↦
      was n
      ∙ with_past count image c n (omega arith)
      ∙ ap c here
      ∙ sym shows
      ∙ same
      ∙ is
      ∙ ap (unit_of image) (sym here)
      ∙ sym (with_below (count + 1) image c n (omega arith))
]

-- the next unit is put
pub makes_more : (ns ns' : List ℕ) (count : ℕ) (image : List ℕ) (c : Contents) → ns' ≡ ns ++ count ∷ [] → Makes (units_of image ns) count image c → Makes (units_of image ns') (count + 1) image c
makes_more ns ns' count image c is_ns was n =
    let ws : Changes = units_of image ns in
    let unit : List ℕ = unit_of image count in
    let all : units_of image ns' ≡ ws ++ (count, unit) ∷ [] = ap (units_of image) is_ns ∙ map-append (λ (n : ℕ). (n, unit_of image n)) ns (count ∷ []) in
    let first : put (units_of image ns') c n ≡ set (put ws c) (count, unit) n = ap (λ (l : Changes). put l c n) all ∙ ap (λ (d : Contents). d n) (put-append ws ((count, unit) ∷ []) c) in
    elim (cases_eq n count) [
      | inl here ↦
          first
          ∙ set_same (put ws c) (count, unit) n here
          ∙ ap (unit_of image) (sym here)
          ∙ sym (with_below (count + 1) image c n (omega arith))
      | inr other ↦ first ∙ set_other (put ws c) (count, unit) n other ∙ was n ∙ with_other count image c n other
    ]

pub few_more : (ns ns' : List ℕ) (n count : ℕ) → length ns ≤ count → ns' ≡ ns ++ n ∷ [] → length ns' ≤ count + 1
few_more ns ns' n count few is = omega (arith, ap length is, length_push ns n)
