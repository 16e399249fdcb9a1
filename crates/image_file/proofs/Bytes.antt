-- The bytes of units.
use Rattle.std.proofs.Common.{◌≡◌, inl, inr, ℕ, ◌+◌, ◌-◌, ◌*◌, ◌<◌, ◌≤◌, List, [], ◌∷◌, ◌++◌, length, take, drop, replicate, min, get_or, refl, sym, ◌∙◌, ap, arith, length-append}
use Rattle.std.proofs.lemmas.Bool.{cases_lt, cases_eq, cases_order}
use Rattle.std.proofs.lemmas.List.{ext_get_or, length-take, length-drop, length-replicate, get_or-take, get_or-drop, get_or_append_left, get_or-append_right, get_or-replicate, get_or_past}
use Rattle.stable.specs.Disk.{Contents, Changes, set, put}
use Rattle.redo.proofs.Units.{set_same, set_other, put-append}
use Rattle.changes.specs.Units.{padded, unit_of}
use Rattle.image_file.specs.Images.{within}

same_zero : (n i z : ℕ) → get_or (replicate n z) i z ≡ z
same_zero n i z = elim (cases_lt i n) [
  | inl there ↦ get_or-replicate n i z z there
  | inr past ↦ get_or_past (replicate n z) i z (omega (arith, length-replicate n z))
]

-- zeros behind bytes change no byte, since there is 0 where there is none
padded_byte : (bytes : List ℕ) (i : ℕ) → get_or (padded bytes) i 0 ≡ get_or bytes i 0
padded_byte bytes i = elim (cases_lt i (length bytes)) [
  | inl there ↦ get_or_append_left bytes (replicate (4096 - length bytes) 0) 0 i there
  | inr past ↦ get_or-append_right bytes (replicate (4096 - length bytes) 0) (length bytes) i 0 refl past ∙ same_zero (4096 - length bytes) (i - length bytes) 0 ∙ sym (get_or_past bytes i 0 past)
]

length-padded : (bytes : List ℕ) → length bytes ≤ 4096 → length (padded bytes) ≡ 4096
length-padded bytes few =
    let zero_of : ℕ = 0 in
    omega (arith, length-append bytes (replicate (4096 - length bytes) zero_of), length-replicate (4096 - length bytes) zero_of)

length-unit : (image : List ℕ) (n : ℕ) → length (unit_of image n) ≡ 4096
length-unit image n = length-padded (take 4096 (drop (4096 * n) image)) (omega (arith, length-take 4096 (drop (4096 * n) image)))

-- byte i of unit n
unit_byte : (image : List ℕ) (n i : ℕ) → i < 4096 → get_or (unit_of image n) i 0 ≡ get_or image (4096 * n + i) 0
unit_byte image n i lt = padded_byte (take 4096 (drop (4096 * n) image)) i ∙ get_or-take 4096 (drop (4096 * n) image) i 0 lt ∙ get_or-drop (4096 * n) image i 0

length-within : (size n : ℕ) (bytes : List ℕ) → length bytes ≡ 4096 → length (within size n bytes) ≡ 4096
length-within size n bytes is = length-padded (take (size - 4096 * n) bytes) (omega (arith, length-take (size - 4096 * n) bytes))

within_byte : (size n i : ℕ) (bytes : List ℕ) → 4096 * n + i < size → get_or (within size n bytes) i 0 ≡ get_or bytes i 0
within_byte size n i bytes lt = padded_byte (take (size - 4096 * n) bytes) i ∙ get_or-take (size - 4096 * n) bytes i 0 (omega arith)

past_byte : (size n i : ℕ) (bytes : List ℕ) → size ≤ 4096 * n + i → get_or (within size n bytes) i 0 ≡ 0
past_byte size n i bytes past =
    padded_byte (take (size - 4096 * n) bytes) i ∙ get_or_past (take (size - 4096 * n) bytes) i 0 (omega (arith, length-take (size - 4096 * n) bytes))

-- a unit is what lies in an image, where each byte of it that lies there is the image's
unit_within : (image bytes : List ℕ) (n : ℕ) → length bytes ≡ 4096 → ((i : ℕ) → i < 4096 → 4096 * n + i < length image → get_or image (4096 * n + i) 0 ≡ get_or bytes i 0)
    → unit_of image n ≡ within (length image) n bytes
unit_within image bytes n is same =
    ext_get_or 0 (unit_of image n) (within (length image) n bytes) (length-unit image n ∙ sym (length-within (length image) n bytes is))
    (λ i lt.
    let few : i < 4096 = omega (arith, length-unit image n) in
    elim (cases_lt (4096 * n + i) (length image)) [
      | inl there ↦ unit_byte image n i few ∙ same i few there ∙ sym (within_byte (length image) n i bytes there)
      | inr past ↦ unit_byte image n i few ∙ get_or_past image (4096 * n + i) 0 past ∙ sym (past_byte (length image) n i bytes past)
    ])

-- a unit of an image lies in it
pub unit_itself : (image : List ℕ) (n : ℕ) → unit_of image n ≡ within (length image) n (unit_of image n)
unit_itself image n = unit_within image (unit_of image n) n (length-unit image n) (λ i few there. sym (unit_byte image n i few))

-- bytes in the place of others

below_byte : (image bytes : List ℕ) (first count k : ℕ) → first + count ≤ length image → count ≤ length bytes → k < first
    → get_or (take first image ++ take count bytes ++ drop (first + count) image) k 0 ≡ get_or image k 0
below_byte image bytes first count k there few lt =
    let rest : List ℕ = drop (first + count) image in
    let size : length (take first image) ≡ first = omega (arith, length-take first image) in
    get_or_append_left (take first image ++ take count bytes) rest 0 k (omega (arith, size, length-append (take first image) (take count bytes)))
    ∙ get_or_append_left (take first image) (take count bytes) 0 k (omega (arith, size))
    ∙ get_or-take first image k 0 lt

in_byte : (image bytes : List ℕ) (first count i : ℕ) → first + count ≤ length image → count ≤ length bytes → i < count
    → get_or (take first image ++ take count bytes ++ drop (first + count) image) (first + i) 0 ≡ get_or bytes i 0
in_byte image bytes first count i there few lt =
    let rest : List ℕ = drop (first + count) image in
    let size : length (take first image) ≡ first = omega (arith, length-take first image) in
    let mid : length (take count bytes) ≡ count = omega (arith, length-take count bytes) in
    get_or_append_left (take first image ++ take count bytes) rest 0 (first + i) (omega (arith, size, mid, length-append (take first image) (take count bytes)))
    ∙ get_or-append_right (take first image) (take count bytes) first (first + i) 0 size (omega arith)
    ∙ ap (λ (k : ℕ). get_or (take count bytes) k 0) (let e : first + i - first ≡ i = omega arith in e)
    ∙ get_or-take count bytes i 0 lt

above_byte : (image bytes : List ℕ) (first count k : ℕ) → first + count ≤ length image → count ≤ length bytes → first + count ≤ k
    → get_or (take first image ++ take count bytes ++ drop (first + count) image) k 0 ≡ get_or image k 0
above_byte image bytes first count k there few le =
    let rest : List ℕ = drop (first + count) image in
    let size : length (take first image) ≡ first = omega (arith, length-take first image) in
    let mid : length (take count bytes) ≡ count = omega (arith, length-take count bytes) in
    get_or-append_right (take first image ++ take count bytes) rest (first + count) k 0 (omega (arith, size, mid, length-append (take first image) (take count bytes))) le
    ∙ get_or-drop (first + count) image (k - (first + count)) 0
    ∙ ap (λ (j : ℕ). get_or image j 0) (let e : first + count + (k - (first + count)) ≡ k = omega arith in e)

pub length-put : (image bytes : List ℕ) (first count : ℕ) → first + count ≤ length image → count ≤ length bytes
    → length (take first image ++ take count bytes ++ drop (first + count) image) ≡ length image
length-put image bytes first count there few =
    omega (arith, length-append (take first image ++ take count bytes) (drop (first + count) image), length-append (take first image) (take count bytes), length-take first image, length-take count bytes, length-drop (first + count) image)

-- a byte of an image in which a unit was put
module _ (image unit new : List ℕ) (number first count : ℕ) (long : length unit ≡ 4096) (begins : first ≡ min (number * 4096) (length image))
    (counts : count ≡ min (length image - first) 4096) (is : new ≡ take first image ++ take count unit ++ drop (first + count) image) where
  there : first + count ≤ length image
  there = omega (arith, begins, counts)

  pub put_length : length new ≡ length image
  put_length = ap length is ∙ length-put image unit first count there (omega (arith, begins, counts, long))

  put_here : (i : ℕ) → i < 4096 → 4096 * number + i < length image → get_or new (4096 * number + i) 0 ≡ get_or unit i 0
  put_here i few lt =
      let place : 4096 * number + i ≡ first + i = omega (arith, begins, counts) in
      ap (λ (k : ℕ). get_or new k 0) place ∙ ap (λ (l : List ℕ). get_or l (first + i) 0) is ∙ in_byte image unit first count i there (omega (arith, begins, counts, long)) (omega (arith, begins, counts))

  put_elsewhere : (n i : ℕ) → (n ≡ number → ⊥) → i < 4096 → get_or new (4096 * n + i) 0 ≡ get_or image (4096 * n + i) 0
  put_elsewhere n i other few = elim (cases_order n number) [
    | inl same ↦ absurd (other same)
    | inr order ↦ elim order [
      | inl below ↦ elim (cases_lt (4096 * n + i) first) [
        | inl lt ↦ ap (λ (l : List ℕ). get_or l (4096 * n + i) 0) is ∙ below_byte image unit first count (4096 * n + i) there (omega (arith, begins, counts, long)) lt
        | inr past ↦ ap (λ (l : List ℕ). get_or l (4096 * n + i) 0) is ∙ above_byte image unit first count (4096 * n + i) there (omega (arith, begins, counts, long)) (omega (arith, begins, counts))
      ]
      | inr above ↦ ap (λ (l : List ℕ). get_or l (4096 * n + i) 0) is ∙ above_byte image unit first count (4096 * n + i) there (omega (arith, begins, counts, long)) (omega (arith, begins, counts))
    ]
  ]

  -- its units
  pub put_unit_is : (n : ℕ) → unit_of new n ≡ within (length image) n (set (unit_of image) (number, unit) n)
  put_unit_is n = elim (cases_eq n number) [
    | inl same ↦
        unit_within new unit n long (λ i few lt. ap (λ (k : ℕ). get_or new (4096 * k + i) 0) same ∙ put_here i few (omega (arith, put_length)))
        ∙ ap (λ (k : ℕ). within k n unit) put_length
        ∙ ap (λ (l : List ℕ). within (length image) n l) (sym (set_same (unit_of image) (number, unit) n same))
    | inr other ↦
        unit_within new (unit_of image n) n (length-unit image n) (λ i few lt. put_elsewhere n i other few ∙ sym (unit_byte image n i few))
        ∙ ap (λ (k : ℕ). within k n (unit_of image n)) put_length
        ∙ ap (λ (l : List ℕ). within (length image) n l) (sym (set_other (unit_of image) (number, unit) n other))
  ]

-- one change more
pub units_more : (old mid new : List ℕ) (ws more : Changes) (w : ℕ × List ℕ) → length mid ≡ length old → more ≡ ws ++ w ∷ []
    → ((n : ℕ) → unit_of mid n ≡ within (length old) n (put ws (unit_of old) n)) → ((n : ℕ) → unit_of new n ≡ within (length mid) n (set (unit_of mid) w n))
    → (n : ℕ) → unit_of new n ≡ within (length old) n (put more (unit_of old) n)
units_more old mid new ws more w size is was puts n =
    let after : put more (unit_of old) ≡ set (put ws (unit_of old)) w = ap (λ (l : Changes). put l (unit_of old)) is ∙ put-append ws (w ∷ []) (unit_of old) in
    let last : within (length old) n (set (put ws (unit_of old)) w n) ≡ within (length old) n (put more (unit_of old) n) = ap (λ (c : Contents). within (length old) n (c n)) (sym after) in
    elim (cases_eq n w.0) [
      | inl same ↦
          puts n
          ∙ ap (λ (k : ℕ). within k n (set (unit_of mid) w n)) size
          ∙ ap (λ (l : List ℕ). within (length old) n l) (set_same (unit_of mid) w n same ∙ sym (set_same (put ws (unit_of old)) w n same))
          ∙ last
      | inr other ↦
          puts n
          ∙ ap (λ (l : List ℕ). within (length mid) n l) (set_other (unit_of mid) w n other)
          ∙ sym (unit_itself mid n)
          ∙ was n
          ∙ ap (λ (l : List ℕ). within (length old) n l) (sym (set_other (put ws (unit_of old)) w n other))
          ∙ last
    ]
