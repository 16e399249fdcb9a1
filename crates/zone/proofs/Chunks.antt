-- A write of one page.
use Rattle.std.proofs.Common.{◌≡◌, ◌≢◌, ◌<◌, ◌≤◌, ◌+◌, ◌*◌, ◌-◌, ◌/◌, ◌%◌, ℕ, List, length, length-append, ◌⊎◌, ◌++◌, Bool, true, false, refl, sym, ap, ◌∙◌, cond, arith}
use mathlib.Core.Logic.{inl, inr}
use Rattle.std.specs.Prelude.{◌&&◌, ◌||◌, ◌==◌, nat_lt, nat_le, slice_index}
use Rattle.std.proofs.lemmas.Bool.{cases_eq, cases_lt, cond-true, cond-false, eq-eqb, ne_eqb, lt-ltb, le-ltb, le-leb, lt-leb, and_from, and_left, and_right, or_left, or_right}
use Rattle.std.proofs.lemmas.Nat.{div-add-mod', div-mul-add, mod-mul-add}
use Rattle.std.proofs.Math.Nat.{mul-le-mul_right}
use Rattle.std.proofs.lemmas.List.{get_or-append_right, get_or_append_left}
use Rattle.layout.specs.declared.Geometry.{Geometry}
use Rattle.tree.specs.Tree.{File}
use Rattle.lemmas.specs.Sums.{put}
use Rattle.tree.specs.Changes.{file_after_write}
use Rattle.lemmas.proofs.Maps.{put-same, put-other}
use Rattle.zone.specs.Chunks.{grown, resized, Replaces, ChunkIsWritten, WritesJoin}
use Rattle.zone.proofs.Files.{same_file}

module _ (g : Geometry) (f : File) (at : ℕ) (bytes : List ℕ) (row : ℕ → ℕ) (sized : 0 < g.block_size) (zeros : (q : ℕ) → f.size ≤ q → f.byte q ≡ 0) (r : Replaces g.block_size f at bytes row) where
  abbrev w : ℕ
  w = g.block_size

  abbrev end : ℕ
  end = at + length bytes

  -- the size is at least both
  grown_least : (f.size ≤ grown f end) × (end ≤ grown f end)
  grown_least = elim (cases_lt f.size end) [
    | inl low ↦ let e : grown f end ≡ end = cond-true (nat_lt f.size end) end f.size (lt-ltb f.size end low) in (omega arith, omega arith)
    | inr far ↦ let e : grown f end ≡ f.size = cond-false (nat_lt f.size end) end f.size (le-ltb f.size end far) in (omega arith, omega arith)
  ]

  -- the place of a byte
  place : (q : ℕ) → q / w ≡ at / w → q ≡ at / w * w + q % w
  place q e = let a = div-add-mod' q w in let t : q / w * w ≡ at / w * w = ap (λ x. x * w) e in omega arith

  each : (q : ℕ) → cond (nat_lt q (grown f end) && (q / w == at / w)) (row (q % w)) (cond (nat_lt q (grown f end)) (f.byte q) 0) ≡ cond (nat_le at q && nat_lt q end) (slice_index bytes (q - at)) (f.byte q)
  each q =
      let whole = div-add-mod' at w in
      let least = grown_least in
      let within = r.within in
      elim (cases_lt q (grown f end)) [
        | inr past ↦
            cond-false (nat_lt q (grown f end) && (q / w == at / w)) _ _ (and_left _ _ (le-ltb q _ past)) ∙ cond-false (nat_lt q (grown f end)) _ _ (le-ltb q _ past)
            ∙ sym (zeros q (omega (arith, least.0))) ∙ sym (cond-false (nat_le at q && nat_lt q end) _ _ (and_right (nat_le at q) (nat_lt q end) (le-ltb q end (omega (arith, least.1)))))
        | inl low ↦ elim (cases_eq (q / w) (at / w)) [
          | inr d ↦
              let apart : (at ≤ q → q < end → ⊥) = λ a b.
              let inner : q ≡ at / w * w + (at % w + (q - at)) = omega arith in
              d (ap (λ x. x / w) inner ∙ div-mul-add (at / w) w (at % w + (q - at)) (omega arith)) in
              cond-false (nat_lt q (grown f end) && (q / w == at / w)) _ _ (and_right (nat_lt q (grown f end)) (q / w == at / w) (ne_eqb _ _ d)) ∙ cond-true (nat_lt q (grown f end)) _ _ (lt-ltb q _ low)
              ∙ sym (cond-false (nat_le at q && nat_lt q end) _ _ (elim (cases_lt q at) [
                | inl before ↦ and_left _ _ (lt-leb at q before)
                | inr from ↦ and_right (nat_le at q) (nat_lt q end) (elim (cases_lt q end) [ inl l ↦ absurd (apart from l) | inr far ↦ le-ltb q end far ])
              ]))
          | inl e ↦
              let p = place q e in
              cond-true (nat_lt q (grown f end) && (q / w == at / w)) _ _ (and_from _ _ (lt-ltb q _ low) (eq-eqb _ _ e))
              ∙ elim (cases_lt q at) [
                | inl before ↦
                    r.before (q % w) (omega arith) ∙ ap f.byte (sym p) ∙ sym (cond-false (nat_le at q && nat_lt q end) _ _ (and_left _ _ (lt-leb at q before)))
                | inr from ↦ elim (cases_lt q end) [
                  | inl l ↦
                      r.new (q % w) (omega arith) (omega arith) ∙ ap (slice_index bytes) (let t : q % w - at % w ≡ q - at = omega arith in t)
                      ∙ sym (cond-true (nat_le at q && nat_lt q end) _ _ (and_from _ _ (le-leb at q from) (lt-ltb q end l)))
                  | inr far ↦
                      r.after (q % w) (omega arith) (omega arith) ∙ ap f.byte (sym p) ∙ sym (cond-false (nat_le at q && nat_lt q end) _ _ (and_right (nat_le at q) (nat_lt q end) (le-ltb q end far)))
                ]
              ]
        ]
      ]

  -- or with false
  or_none : (a b : Bool) → b ≡ false → a ≡ (a || b)
  or_none true b e = refl
  or_none false b e = sym e

  page : (q : ℕ) → put f.held (at / w) true q ≡ (f.held q || (nat_lt (q * w) end && nat_lt at ((q + 1) * w)))
  page q =
      let whole = div-add-mod' at w in
      let some = r.some in
      let within = r.within in
      let inner : at % w < w = omega arith in
      elim (cases_eq q (at / w)) [
        | inl e ↦
            let t : q * w ≡ at / w * w = ap (λ x. x * w) e in
            let next : (q + 1) * w ≡ q * w + w = omega arith in
            ap (put f.held (at / w) true) e ∙ put-same f.held (at / w) true
            ∙ sym (or_right (f.held q) _ (and_from _ _ (lt-ltb (q * w) end (omega arith)) (lt-ltb at ((q + 1) * w) (omega arith))))
        | inr d ↦ put-other f.held (at / w) true q d ∙ or_none (f.held q) _ (elim (cases_lt q (at / w)) [
          | inl less ↦
              let m : (q + 1) * w ≤ at / w * w = mul-le-mul_right {m = q + 1} {n = at / w} w (omega arith) in
              and_right (nat_lt (q * w) end) (nat_lt at ((q + 1) * w)) (le-ltb at ((q + 1) * w) (omega arith))
          | inr more ↦
              let m : (at / w + 1) * w ≤ q * w = mul-le-mul_right {m = at / w + 1} {n = q} w (omega arith) in
              let next : (at / w + 1) * w ≡ at / w * w + w = omega arith in
              and_left _ _ (le-ltb (q * w) end (omega arith))
        ])
      ]

pub chunk_is_written : ChunkIsWritten
chunk_is_written g f at bytes row sized zeros r = same_file _ _ refl (λ i q. each g f at bytes row sized zeros r q i) (λ i q. page g f at bytes row sized zeros r q i)

module _ (g : Geometry) (f : File) (at : ℕ) (a b : List ℕ) where
  abbrev mid : ℕ
  mid = at + length a

  abbrev last : ℕ
  last = at + length (a ++ b)

  total : last ≡ mid + length b
  total = let e = length-append a b in omega arith

  -- the larger of two
  larger : (x y : ℕ) → ((x ≤ cond (nat_lt x y) y x) × (y ≤ cond (nat_lt x y) y x)) × ((cond (nat_lt x y) y x ≡ x) ⊎ (cond (nat_lt x y) y x ≡ y))
  larger x y = elim (cases_lt x y) [
    | inl low ↦ let e : cond (nat_lt x y) y x ≡ y = cond-true (nat_lt x y) y x (lt-ltb x y low) in ((omega arith, omega arith), inr e)
    | inr far ↦ let e : cond (nat_lt x y) y x ≡ x = cond-false (nat_lt x y) y x (le-ltb x y far) in ((omega arith, omega arith), inl e)
  ]

  join_size : (file_after_write g (file_after_write g f at a) mid b).size ≡ (file_after_write g f at (a ++ b)).size
  join_size =
      let t = total in
      let p = larger f.size mid in
      let s : ℕ = cond (nat_lt f.size mid) mid f.size in
      let q = larger s (mid + length b) in
      let r = larger f.size last in
      elim p.1 [
        | inl x ↦ elim q.1 [
          | inl y ↦ elim r.1 [ inl z ↦ omega arith | inr z ↦ omega (arith, p.0.0, p.0.1, q.0.0, q.0.1, r.0.0, r.0.1) ]
          | inr y ↦ elim r.1 [ inl z ↦ omega (arith, p.0.0, p.0.1, q.0.0, q.0.1, r.0.0, r.0.1) | inr z ↦ omega arith ]
        ]
        | inr x ↦ elim q.1 [
          | inl y ↦ elim r.1 [ inl z ↦ omega (arith, p.0.0, p.0.1, q.0.0, q.0.1, r.0.0, r.0.1) | inr z ↦ omega (arith, p.0.0, p.0.1, q.0.0, q.0.1, r.0.0, r.0.1) ]
          | inr y ↦ elim r.1 [ inl z ↦ omega (arith, p.0.0, p.0.1, q.0.0, q.0.1, r.0.0, r.0.1) | inr z ↦ omega arith ]
        ]
      ]

  -- a guarded value
  in_range : (p x y q : ℕ) (low : p ≤ q) (less : q < x) (u : ℕ) → cond (nat_le p q && nat_lt q x) y u ≡ y
  in_range p x y q low less u = cond-true (nat_le p q && nat_lt q x) y u (and_from _ _ (le-leb p q low) (lt-ltb q x less))

  before_range : (p x y q : ℕ) (less : q < p) (u : ℕ) → cond (nat_le p q && nat_lt q x) y u ≡ u
  before_range p x y q less u = cond-false (nat_le p q && nat_lt q x) y u (and_left (nat_le p q) (nat_lt q x) (lt-leb p q less))

  past_range : (p x y q : ℕ) (far : x ≤ q) (u : ℕ) → cond (nat_le p q && nat_lt q x) y u ≡ u
  past_range p x y q far u = cond-false (nat_le p q && nat_lt q x) y u (and_right (nat_le p q) (nat_lt q x) (le-ltb q x far))

  join_byte : (q : ℕ) → (file_after_write g (file_after_write g f at a) mid b).byte q ≡ (file_after_write g f at (a ++ b)).byte q
  join_byte q =
      let t = total in
      elim (cases_lt q at) [
        | inl low ↦ before_range mid (mid + length b) _ q (omega arith) _ ∙ before_range at mid _ q low _ ∙ sym (before_range at last _ q low _)
        | inr from ↦ elim (cases_lt q mid) [
          | inl low ↦
              before_range mid (mid + length b) _ q low _ ∙ in_range at mid _ q from low _
              ∙ sym (get_or_append_left a b 0 (q - at) (omega arith)) ∙ sym (in_range at last _ q from (omega arith) _)
          | inr on ↦ elim (cases_lt q last) [
            | inl low ↦
                in_range mid (mid + length b) _ q on (omega arith) _
                ∙ sym (get_or-append_right a b (length a) (q - at) 0 refl (omega arith) ∙ ap (slice_index b) (let e : q - at - length a ≡ q - mid = omega arith in e))
                ∙ sym (in_range at last _ q from low _)
            | inr far ↦ past_range mid (mid + length b) _ q (omega arith) _ ∙ past_range at mid _ q on _ ∙ sym (past_range at last _ q far _)
          ]
        ]
      ]

  -- or with one that adds nothing
  or_same : (h x y z : Bool) → (x || y) ≡ z → ((h || x) || y) ≡ (h || z)
  or_same true x y z e = refl
  or_same false x y z e = e

  module _ (sized : 0 < g.block_size) where
    join_held : (q : ℕ) → (file_after_write g (file_after_write g f at a) mid b).held q ≡ (file_after_write g f at (a ++ b)).held q
    join_held q =
        let w : ℕ = g.block_size in
        let t = total in
        let p : ℕ = q * w in
        let n : ℕ = (q + 1) * w in
        let next : n ≡ p + w = omega arith in
        or_same (f.held q) (nat_lt p mid && nat_lt at n) (nat_lt p (mid + length b) && nat_lt mid n) (nat_lt p last && nat_lt at n) (elim (cases_lt at n) [
          | inr far ↦
              (λ i. and_right (nat_lt p mid) (nat_lt at n) (le-ltb at n far) i || and_right (nat_lt p (mid + length b)) (nat_lt mid n) (le-ltb mid n (omega arith)) i)
              ∙ sym (and_right (nat_lt p last) (nat_lt at n) (le-ltb at n far))
          | inl near ↦ elim (cases_lt p mid) [
            | inl low ↦
                or_left (nat_lt p mid && nat_lt at n) (nat_lt p (mid + length b) && nat_lt mid n) (and_from _ _ (lt-ltb p mid low) (lt-ltb at n near))
                ∙ sym (and_from (nat_lt p last) (nat_lt at n) (lt-ltb p last (omega arith)) (lt-ltb at n near))
            | inr past ↦
                ap (λ x. x || (nat_lt p (mid + length b) && nat_lt mid n)) (and_left (nat_lt p mid) (nat_lt at n) (le-ltb p mid past))
                ∙ (elim (cases_lt p last) [
                  | inl low ↦
                      and_from (nat_lt p (mid + length b)) (nat_lt mid n) (lt-ltb p (mid + length b) (omega arith)) (lt-ltb mid n (omega arith))
                      ∙ sym (and_from (nat_lt p last) (nat_lt at n) (lt-ltb p last low) (lt-ltb at n near))
                  | inr far ↦
                      and_left (nat_lt p (mid + length b)) (nat_lt mid n) (le-ltb p (mid + length b) (omega arith))
                      ∙ sym (and_left (nat_lt p last) (nat_lt at n) (le-ltb p last far))
                ])
          ]
        ])

pub writes_join : WritesJoin
writes_join g f at a b sized = same_file _ _ (join_size g f at a b) (λ i q. join_byte g f at a b q i) (λ i q. join_held g f at a b sized q i)
