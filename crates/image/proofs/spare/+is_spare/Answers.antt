use Rattle.std.proofs.Common.{◌≡◌, ◌<◌, ◌≤◌, ◌+◌, ◌*◌, ◌-◌, ◌^◌, ℕ, Bool, true, false, sym, ap, ◌∙◌, below_more, arith}
use Rattle.std.specs.Prelude.{nat_le}
use Rattle.tree.specs.Space.{numbers_in_zone}
use Rattle.volume.specs.Places.{zone_at}
use Rattle.image.specs.Contents.{contents}
use Rattle.image.specs.Spare.{first_place, is_spare}
use Rattle.image.proofs.Contents.{number_word}
use Rattle.image.proofs.Spares.{hole_spares, page_read, empty_spare, below_spare, none_spare, child_at, deeper, small_place, first_small}
use Rattle.image.proofs.spare.+is_spare.Goals as goal

pub returns-then-zone-eq0 : goal.returns-then-zone-eq0
returns-then-zone-eq0 t c = sym (hole_spares c.args.image.now c.args.n c.args.level c.args.index c.requires.low (sym c.requires.zone ∙ c.if-zone-eq0.true))

pub returns-then-level-eq0 : goal.returns-then-level-eq0
returns-then-level-eq0 t c =
    ap (λ p. nat_le p c.args.index) c.requires.pages
    ∙ page_read c.args.image.now c.args.n c.args.level c.args.index c.args.zone c.requires.low c.requires.zone c.if-zone-eq0.false c.if-level-eq0.true

pub returns-then-not-has_number : goal.returns-then-not-has_number
returns-then-not-has_number t c =
    empty_spare c.args.image.now c.args.n c.args.level c.args.index c.args.zone c.requires.low c.requires.zone c.if-zone-eq0.false (omega arith)
    (sym c.has_number.ensures ∙ c.if-not-has_number.true)

-- the place of number j below the block
same_place : (f h k n w j : ℕ) → f ≡ h → n ≡ w → f + (k * n + j) ≡ h + (k * w + j)
same_place f h k n w j e d = λ x. e x + (k * d x + j)

pub overflow_mul-below : goal.overflow_mul-below
overflow_mul-below t c =
    let small = small_place c.args.level c.args.index c.numbers.result c.loop-j.j (omega arith) c.requires.low c.numbers.ensures.most c.requires.near in
    omega arith

pub overflow_add-below : goal.overflow_add-below
overflow_add-below t c =
    let small = small_place c.args.level c.args.index c.numbers.result c.loop-j.j (omega arith) c.requires.low c.numbers.ensures.most c.requires.near in
    omega arith

pub overflow_add-below-in-loop-j : goal.overflow_add-below-in-loop-j
overflow_add-below-in-loop-j t c =
    let small = small_place c.args.level c.args.index c.numbers.result c.loop-j.j (omega arith) c.requires.low c.numbers.ensures.most c.requires.near in
    let first = first_small (c.args.level - 1) in
    let is = c.first_place-first.ensures in
    omega arith

pub is_spare-requires : goal.is_spare-requires
is_spare-requires t c =
    let i = c.args.image.now in
    let w = numbers_in_zone i.geometry in
    let j : c.loop-j.j < w = let e = c.numbers-j-end.ensures.value in omega arith in
    let place : c.first_place-first.result + (c.args.index * c.numbers.result + c.loop-j.j) ≡ first_place (c.args.level - 1) + (c.args.index * w + c.loop-j.j)
    = same_place _ _ c.args.index c.numbers.result w c.loop-j.j c.first_place-first.ensures c.numbers.ensures.value in
    let most : w ≤ 1024 = let e = c.numbers.ensures.value in let m = c.numbers.ensures.most in omega arith in
    let near = deeper c.args.level c.args.index w c.loop-j.j (omega arith) c.requires.low most j c.requires.near in (
      omega arith,
      (
        omega (arith, c.requires.low),
        (
          omega arith,
          (
            c.requires.pages,
            c.number.ensures ∙ number_word i c.args.zone c.loop-j.j
                ∙ sym (child_at i c.args.n c.args.level c.args.index c.loop-j.j c.args.zone (omega arith) c.requires.low j (sym c.requires.zone) c.if-zone-eq0.false)
                ∙ ap (zone_at i.geometry (contents i) ((contents i).inodes c.args.n) (c.args.level - 1)) (sym place),
          ),
        ),
      ),
    )

pub returns-then-is_spare : goal.returns-then-is_spare
returns-then-is_spare t c =
    let i = c.args.image.now in
    let w = numbers_in_zone i.geometry in
    let j : c.loop-j.j < w = let e = c.numbers-j-end.ensures.value in omega arith in
    let place : first_place (c.args.level - 1) + (c.args.index * w + c.loop-j.j) ≡ c.first_place-first.result + (c.args.index * c.numbers.result + c.loop-j.j)
    = same_place _ _ c.args.index w c.numbers.result c.loop-j.j (sym c.first_place-first.ensures) (sym c.numbers.ensures.value) in
    below_spare i c.args.n c.args.level c.args.index c.args.zone c.requires.low c.requires.zone c.if-zone-eq0.false (omega arith) c.loop-j.j j
    (ap (is_spare i c.args.n (c.args.level - 1)) place ∙ sym c.is_spare.ensures ∙ c.if-is_spare.true)

pub loop-j-preserved : goal.loop-j-preserved
loop-j-preserved t c =
    let i = c.args.image.now in
    let w = numbers_in_zone i.geometry in
    let place : first_place (c.args.level - 1) + (c.args.index * w + c.loop-j.j) ≡ c.first_place-first.result + (c.args.index * c.numbers.result + c.loop-j.j)
    = same_place _ _ c.args.index w c.numbers.result c.loop-j.j (sym c.first_place-first.ensures) (sym c.numbers.ensures.value) in
    let P : ℕ → Type 0 = λ j. is_spare i c.args.n (c.args.level - 1) (first_place (c.args.level - 1) + (c.args.index * w + j)) ≡ false in
    below_more P c.loop-j.j c.loop-j.invariant (ap (is_spare i c.args.n (c.args.level - 1)) place ∙ sym c.is_spare.ensures ∙ c.if-is_spare.false)

pub returns : goal.returns
returns t c =
    none_spare c.args.image.now c.args.n c.args.level c.args.index c.args.zone c.requires.low c.requires.zone c.if-zone-eq0.false (omega arith)
    (sym c.has_number.ensures ∙ c.if-not-has_number.false)
    (λ j h. c.loop-j.invariant j (let e = c.numbers-j-end.ensures.value in omega arith))
