-- Pages and sizes.
use Rattle.std.proofs.Common.{◌≡◌, ◌<◌, ◌≤◌, ◌+◌, ◌-◌, ◌*◌, ◌/◌, ◌%◌, ◌^◌, ℕ, zero, suc, ap, sym, ◌∙◌, arith}
use mathlib.Core.Logic.{inl, inr}
use Rattle.std.proofs.lemmas.Bool.{cases_lt}
use Rattle.std.proofs.lemmas.Nat.{div-add-mod', div-mul-add, mod-mul-add, div_below, le-div, mod_below, mul-le}
use Rattle.std.proofs.Math.Nat.{div-mul-le_self, mul-le-mul_right}

module _ (w : ℕ) (wide : 0 < w) where
  -- a page that so many bytes cover begins below their end
  pub begins : (size q : ℕ) → q < (size + w - 1) / w → q * w < size
  begins size q below =
      let pages : ℕ = (size + w - 1) / w in
      let covered : pages * w ≤ size + w - 1 = div-mul-le_self (size + w - 1) w in
      let more : (q + 1) * w ≤ pages * w = mul-le-mul_right {m = q + 1} {n = pages} w (omega arith) in
      let next : (q + 1) * w ≡ q * w + w = omega arith in
      omega arith

  -- and one that begins there is covered
  pub covered : (size q : ℕ) → q * w < size → q < (size + w - 1) / w
  covered size q below =
      let next : (q + 1) * w ≡ q * w + w = omega arith in
      let up : q + 1 ≤ (size + w - 1) / w = le-div (q + 1) (size + w - 1) w wide (omega arith) in
      omega arith

  -- the page of a byte begins at it or before
  pub page_begins : (q : ℕ) → q / w * w ≤ q
  page_begins q = div-mul-le_self q w

  -- pages begin in their order
  pub in_order : (p q : ℕ) → p ≤ q / w → p * w ≤ q
  in_order p q low =
      let up : p * w ≤ q / w * w = mul-le-mul_right {m = p} {n = q / w} w low in
      let b = page_begins q in
      omega (arith, up, b)

  pub ends_after : (p q : ℕ) → q / w < p → q < p * w
  ends_after p q low = elim (cases_lt q (p * w)) [
    | inl l ↦ l
    | inr far ↦ let up : p ≤ q / w = le-div p q w wide far in absurd (omega arith)
  ]

  -- some pages from that of a place on end behind it
  pub row_reaches : (at many : ℕ) → 0 < many → at % w < many * w
  row_reaches at many some =
      let one : 1 * w ≤ many * w = mul-le-mul_right {m = 1} {n = many} w some in
      let low = mod_below at w wide in
      omega (arith, one, low)

  -- how many bytes a row of pages has fits in a word
  pub row_room : (many : ℕ) → many ≤ 16 → w < 2 ^ 32 → many * w < 2 ^ 64
  row_room many few low = let most = mul-le many w 16 4294967295 few (omega (arith, low)) in omega (arith, most)

  -- bytes that some pages hold are on one at least
  pub some_pages : (at len many : ℕ) → 0 < len → at % w + len ≤ many * w → 0 < many
  some_pages at len zero some low = absurd (omega (arith, some, low))
  some_pages at len (suc m) some low = omega arith

  -- a place is on one of these pages, where it is before their end
  pub page_in_row : (at many done end : ℕ) → 0 < many → at % w + end ≤ many * w → done < end → (at + done) / w - at / w < many
  page_in_row at many done end some within low =
      let whole = div-add-mod' at w in
      let sum : (at / w + many) * w ≡ at / w * w + many * w = omega arith in
      let below = div_below (at + done) w (at / w + many) wide (omega (arith, whole, sum, within, low)) in
      omega (arith, below, some)

  -- the page's number in the row
  pub index_in_row : (at many done end index : ℕ) → 0 < many → at % w + end ≤ many * w → done < end → at / w + index ≡ (at + done) / w → index < many
  index_in_row at many done end index some within low its = let near = page_in_row at many done end some within low in omega (arith, its, near)

  pub in_row : (at many done count index : ℕ) → 0 < many → count ≤ many * w - at % w → done < count → at / w + index ≡ (at + done) / w → index < many
  in_row at many done count index some few low its =
      let reach = row_reaches at many some in
      index_in_row at many done count index some (omega (arith, reach, few)) low its

  -- where a page ends the next one begins
  pub next_page : (q : ℕ) → ((q + (w - q % w)) % w ≡ 0) × ((q + (w - q % w)) / w ≡ q / w + 1)
  next_page q =
      let whole = div-add-mod' q w in
      let low = mod_below q w wide in
      let sum : (q / w + 1) * w ≡ q / w * w + w = omega arith in
      let spot : q + (w - q % w) ≡ (q / w + 1) * w + 0 = omega (arith, whole, low, sum) in (
        ap (λ x. x % w) spot ∙ mod-mul-add (q / w + 1) w 0 wide,
        ap (λ x. x / w) spot ∙ div-mul-add (q / w + 1) w 0 wide,
      )

  -- so the bytes behind a page begin the next one
  pub next_starts : (at done end from : ℕ) → from ≡ (at + done) % w → end ≡ done + w - from → 0 ≡ (at + end) % w
  next_starts at done end from starts ends =
      let low = mod_below (at + done) w wide in
      let spot : at + end ≡ at + done + (w - (at + done) % w) = omega (arith, starts, ends, low) in
      sym (ap (λ x. x % w) spot ∙ (next_page (at + done)).0)

  pub next_index : (at done end from index : ℕ) → from ≡ (at + done) % w → at / w + index ≡ (at + done) / w → end ≡ done + w - from → at / w + (index + 1) ≡ (at + end) / w
  next_index at done end from index starts its ends =
      let low = mod_below (at + done) w wide in
      let spot : at + end ≡ at + done + (w - (at + done) % w) = omega (arith, starts, ends, low) in
      let next : (at + end) / w ≡ (at + done) / w + 1 = ap (λ x. x / w) spot ∙ (next_page (at + done)).1 in
      omega (arith, its, next)

  -- a byte past the end, in a page that begins before it, is on the last page, behind its last byte
  module _ (size q : ℕ) (past : size ≤ q) (before : q / w * w < size) where
    r : ℕ
    r = size - q / w * w

    small : size - q / w * w < w
    small = let whole = div-add-mod' q w in omega (arith, whole, past, before)

    spot : size ≡ q / w * w + (size - q / w * w)
    spot = omega (arith, before)

    pub rest_page : size / w ≡ q / w
    rest_page = ap (λ x. x / w) spot ∙ div-mul-add (q / w) w (size - q / w * w) small

    rest_is : size % w ≡ size - q / w * w
    rest_is = ap (λ x. x % w) spot ∙ mod-mul-add (q / w) w (size - q / w * w) small

    pub rest_from : size % w ≤ q % w
    rest_from = let whole = div-add-mod' q w in let e = rest_is in omega (arith, whole, e, past, before)

    pub rest_some : size % w ≡ 0 → ⊥
    rest_some none = let e = rest_is in omega (arith, e, none, before)
