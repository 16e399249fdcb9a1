-- The first finding, part by part.
use Rattle.std.proofs.Common.{◌≡◌, ◌+◌, ℕ, List, [], ◌∷◌, ◌++◌, get_or, false, refl, sym, ap, ◌∙◌, arith}
use mathlib.Core.Logic.{inl, inr}
use Rattle.std.specs.Prelude.{Option, None, Some, Ok, Err, replicate}
use Rattle.std.proofs.lemmas.List.{get_or-replicate, get_or_past, length-replicate}
use Rattle.layout.specs.declared.Geometry.{Geometry}
use Rattle.layout.specs.Places.{geometry_of, refusal_number}
use Rattle.volume.specs.Reading.{disk_of}
use Rattle.volume.specs.Pieces.{pieces}
use Rattle.image.specs.Contents.{contents}
use Rattle.std.proofs.lemmas.Bool.{cases_Bool, cases_lt, and_left, cond-true, cond-false}
use Rattle.volume.specs.Nodes.{is_marked}
use Rattle.volume.specs.Findings.{lacks_inode_bit, lacks_zone_bit, lacks_root, has_bad_mode}
use Rattle.volume.proofs.Sums.{none_below}
use Rattle.image.specs.declared.Image.{Image}
use Rattle.image.proofs.Contents.{g, v, out_of_range}
use Rattle.lemmas.specs.Sums.{some_below, least_below}
use Rattle.volume.specs.declared.Finding.{Finding}
use Rattle.volume.specs.Verdict.{Verdict, Clean, Found, Test, found, first_found, place_limit, tests as tests_3, verdict_of}
use Rattle.volume.specs.Verdict.{verdict_of_pieces}
use Rattle.image.specs.Least.{least_of}
use Rattle.fsck.specs.Form.{EntryForm, version_3}
use Rattle.fsck.specs.Findings.{has_bad_size}
use Rattle.fsck.specs.Verdict.{tests}
use Rattle.fsck.specs.Parts.{found_or, first_of, structure_tests, zone_tests, block_tests, entry_tests, tree_tests}

-- the verdict of a finding, or of none
abbrev pub verdict_from : Option Finding → Verdict
verdict_from None = Clean
verdict_from (Some f) = Found f

-- the first of these, or another
abbrev pub or_else : Option Finding → Option Finding → Option Finding
or_else None other = other
or_else (Some f) other = Some f

-- the number after the last
abbrev pub after : ℕ → List Test → ℕ
after k [] = k
after k (test ∷ tests) = after (k + 1) tests

-- none of no tests
pub first_none : (limit k : ℕ) → None ≡ first_of limit k []
unfolding first_of
first_none limit k = refl

-- the first test is true somewhere
pub first_here : (limit k p : ℕ) (test : Test) (tests : List Test) → Some p ≡ least_of test limit
    → Some (record { number = k; place = p }) ≡ first_of limit k (test ∷ tests)
unfolding first_of
first_here limit k p test tests e = ap (λ o. found_or k o (first_of limit (k + 1) tests)) e

-- or nowhere
pub first_later : (limit k : ℕ) (test : Test) (tests : List Test) (r : Option Finding) → None ≡ least_of test limit
    → r ≡ first_of limit (k + 1) tests → r ≡ first_of limit k (test ∷ tests)
unfolding first_of
first_later limit k test tests r e rest = rest ∙ ap (λ o. found_or k o (first_of limit (k + 1) tests)) e

-- a test and what follows
found_next : (k : ℕ) (o : Option ℕ) (r s : Option Finding) → or_else (found_or k o r) s ≡ found_or k o (or_else r s)
found_next k None r s = refl
found_next k (Some p) r s = refl

-- one part and another
pub first_parts : (limit k : ℕ) (xs bs : List Test) → first_of limit k (xs ++ bs)
    ≡ or_else (first_of limit k xs) (first_of limit (after k xs) bs)
unfolding first_of
first_parts limit k [] bs = refl
first_parts limit k (a ∷ xs) bs =
    ap (found_or k (least_of a limit)) (first_parts limit (k + 1) xs bs)
    ∙ sym (found_next k (least_of a limit) (first_of limit (k + 1) xs) (first_of limit (after (k + 1) xs) bs))

-- the verdict is that of the first finding
pub first_verdict : (limit k : ℕ) (tests : List Test) → verdict_from (first_of limit k tests) ≡ first_found limit k tests
unfolding first_of
first_verdict limit k [] = refl
first_verdict limit k (test ∷ tests) = elim (cases_Bool (some_below test limit)) [
  | inl is ↦
      ap (λ o. verdict_from (found_or k o (first_of limit (k + 1) tests))) (cond-true (some_below test limit)
      (Some (least_below test limit)) None is)
      ∙ sym (cond-true (some_below test limit) (found k (least_below test limit)) (first_found limit (k + 1) tests) is)
  | inr out ↦
      ap (λ o. verdict_from (found_or k o (first_of limit (k + 1) tests))) (cond-false (some_below test limit)
      (Some (least_below test limit)) None out)
      ∙ first_verdict limit (k + 1) tests
      ∙ sym (cond-false (some_below test limit) (found k (least_below test limit)) (first_found limit (k + 1) tests) out)
]

-- none of the first part, nor of the others
none_parts : (k : ℕ) (o : Option ℕ) (r : Option Finding) → None ≡ found_or k o r → (None ≡ o) × (None ≡ r)
none_parts k None r e = (refl, e)
none_parts k (Some p) r e = absurd (cc)

-- where no test is true, the next isn't
pub none_first : (limit k : ℕ) (test : Test) (tests : List Test) → None ≡ first_of limit k (test ∷ tests)
    → (some_below test limit ≡ false) × (None ≡ first_of limit (k + 1) tests)
unfolding first_of
none_first limit k test tests e =
    let parts = none_parts k (least_of test limit) (first_of limit (k + 1) tests) e in (
      elim (cases_Bool (some_below test limit)) [
        | inl is ↦ let some = parts.0 ∙ cond-true (some_below test limit) (Some (least_below test limit)) None is in absurd (cc)
        | inr out ↦ out
      ],
      parts.1,
    )

module _ (form : EntryForm) (i : Image) where
  -- what all findings are
  pub all_parts : first_of (place_limit (g i)) 2 (tests form (g i) (v i))
      ≡ or_else (first_of (place_limit (g i)) 2 (structure_tests form (g i) (v i)))
      (or_else (first_of (place_limit (g i)) 7 (zone_tests (g i) (v i)))
      (or_else (first_of (place_limit (g i)) 10 (block_tests (g i) (v i)))
      (or_else (first_of (place_limit (g i)) 12 (entry_tests form (g i) (v i)))
      (first_of (place_limit (g i)) 15 (tree_tests form (g i) (v i))))))
  all_parts =
      let l = place_limit (g i) in
      let s = structure_tests form (g i) (v i) in
      let z = zone_tests (g i) (v i) in
      let b = block_tests (g i) (v i) in
      let e = entry_tests form (g i) (v i) in
      let t = tree_tests form (g i) (v i) in
      first_parts l 2 s (z ++ (b ++ (e ++ t)))
      ∙ ap (or_else (first_of l 2 s)) (first_parts l 7 z (b ++ (e ++ t))
      ∙ ap (or_else (first_of l 7 z)) (first_parts l 10 b (e ++ t)
      ∙ ap (or_else (first_of l 10 b)) (first_parts l 12 e t)))

  -- where the structure is right, no size is bad
  pub sizes_good : None ≡ first_of (place_limit (g i)) 2 (structure_tests form (g i) (v i)) → (n : ℕ)
      → has_bad_size form (g i) (v i) n ≡ false
  sizes_good e n =
      let l = place_limit (g i) in
      let a = none_first l 2 (lacks_inode_bit (g i) (v i)) _ e in
      let b = none_first l 3 (lacks_zone_bit (g i) (v i)) _ a.1 in
      let c = none_first l 4 (lacks_root (g i) (v i)) _ b.1 in
      let d = none_first l 5 (has_bad_mode (g i) (v i)) _ c.1 in
      let f = none_first l 6 (has_bad_size form (g i) (v i)) _ d.1 in
      elim (cases_lt n l) [
        | inl low ↦ none_below (has_bad_size form (g i) (v i)) l f.0 n low
        | inr far ↦ and_left (is_marked (g i) (v i) n) _ (out_of_range i n (omega arith))
      ]

-- the verdict on an image that is read
verdict_read : (image : List ℕ) (g : Geometry) → geometry_of image ≡ Ok g
    → verdict_of image ≡ verdict_of_pieces g (pieces g (disk_of g image))
verdict_read image g e = ap (λ r. elim r [
  | Err refusal ↦ found 1 (refusal_number refusal)
  | Ok h ↦
      verdict_of_pieces h (pieces h (disk_of h image))
]) e

-- is that of its first finding
pub checked : (i : Image) (image : List ℕ) (o : Option Finding) → i.bytes.now ≡ image → geometry_of image ≡ Ok i.geometry
    → o ≡ first_of (place_limit i.geometry) 2 (tests version_3 i.geometry (contents i)) → verdict_from o ≡ verdict_of image
unfolding contents
checked i image o same read is =
    ap verdict_from is ∙ first_verdict (place_limit i.geometry) 2 (tests_3 i.geometry (contents i))
    ∙ ap (λ bytes. verdict_of_pieces i.geometry (pieces i.geometry (disk_of i.geometry bytes))) same
    ∙ sym (verdict_read image i.geometry read)

-- a row of one value is that value throughout
pub fresh : {X : Type 0} (n : ℕ) (d : X) (xs : List X) → xs ≡ replicate n d → (k : ℕ) → get_or xs k d ≡ d
fresh n d xs e k = ap (λ l. get_or l k d) e ∙ elim (cases_lt k n) [
  | inl low ↦ get_or-replicate n k d d low
  | inr far ↦ let size = length-replicate n d in get_or_past (replicate n d) k d (omega arith)
]
