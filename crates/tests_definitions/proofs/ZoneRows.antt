-- The zones that held pages need, by computation: 256 numbers in a zone as in blocks of 1024 bytes, and 16 for the triple range.
use Rattle.std.proofs.Common.{◌≡◌, ◌≤◌, ◌+◌, ◌-◌, ◌*◌, ℕ, zero, suc, Bool, true, false, refl, sym, ap, arith}
use Rattle.std.specs.Prelude.{◌||◌, nat_lt, if◌then◌else◌}
use Rattle.std.proofs.lemmas.Bool.{ne_eqb, le-ltb, or_from}
use Rattle.lemmas.proofs.Bools.{false_not_true}
use Rattle.lemmas.specs.Sums.{sum_below, some_below, count_below}
use Rattle.tree.specs.ZonesNeeded.{page_limit, from_page, single_blocks, double_blocks, triple_blocks, zones_needed}
use Rattle.tree.proofs.Needs.{sum_add, none_counted}
use Rattle.tests_definitions.proofs.TriplePage.{only, triple_page}

-- nothing passes where nothing does
none_below : (p : ℕ → Bool) (n : ℕ) → ((q : ℕ) → p q ≡ false) → some_below p n ≡ false
unfolding some_below
none_below p zero h = refl
none_below p (suc n) h = or_from (some_below p n) (p n) (none_below p n h) (h n)

-- Pages below the triple range need what the ranges before it say, and only those below b have to be counted.
no_triple : (n b : ℕ) (held : ℕ → Bool) → b ≤ 7 + n + n * n → ((q : ℕ) → b ≤ q → held q ≡ false)
    → zones_needed n held ≡ count_below held b + single_blocks n (from_page 7 held) + double_blocks n (from_page (7 + n) held)
no_triple n b held low h =
    let rest : ℕ = page_limit n - b in
    let whole : page_limit n ≡ b + rest = omega arith in
    let past : some_below (λ j. held (b + j)) rest ≡ false = none_below _ rest (λ j. h (b + j) (omega arith)) in
    let past_none : count_below (λ j. held (b + j)) rest ≡ 0 = none_counted (λ j. held (b + j)) rest past in
    let parts : count_below held (b + rest) ≡ count_below held b + count_below (λ j. held (b + j)) rest = sum_add _ b rest in
    let all : count_below held (page_limit n) ≡ count_below held (b + rest) = ap (count_below held) whole in
    let far : some_below (from_page (7 + n + n * n) held) (n * n * n) ≡ false = none_below _ (n * n * n) (λ q. h (7 + n + n * n + q) (omega arith)) in
    let none : triple_blocks n (from_page (7 + n + n * n) held) ≡ 0 = without _ _ far in
    omega arith
  where
    without : (c : Bool) (x : ℕ) → c ≡ false → (if c then x else 0) ≡ 0
    without true x e = absurd (false_not_true (sym e))
    without false x e = refl

-- past a page that is alone none is held
past_only : (p q : ℕ) → suc p ≤ q → only p q ≡ false
past_only p q l = ne_eqb q p (λ e. absurd (omega arith))

-- the first k pages
abbrev first : ℕ → ℕ → Bool
first k q = nat_lt q k

-- past them none is held
past_first : (k q : ℕ) → k ≤ q → first k q ≡ false
past_first k q l = le-ltb q k l

none : zones_needed 256 (λ q. false) ≡ 0
unfolding sum_below some_below
none = no_triple 256 0 (λ q. false) (omega arith) (λ q l. refl)

page_0 : zones_needed 256 (only 0) ≡ 1
unfolding sum_below some_below
page_0 = no_triple 256 1 (only 0) (omega arith) (past_only 0)

page_6 : zones_needed 256 (only 6) ≡ 1
unfolding sum_below some_below
page_6 = no_triple 256 7 (only 6) (omega arith) (past_only 6)

page_7 : zones_needed 256 (only 7) ≡ 2
unfolding sum_below some_below
page_7 = no_triple 256 8 (only 7) (omega arith) (past_only 7)

page_262 : zones_needed 256 (only 262) ≡ 2
unfolding sum_below some_below
page_262 = no_triple 256 263 (only 262) (omega arith) (past_only 262)

page_263 : zones_needed 256 (only 263) ≡ 3
unfolding sum_below some_below
page_263 = no_triple 256 264 (only 263) (omega arith) (past_only 263)

page_65798 : zones_needed 256 (only 65798) ≡ 3
unfolding sum_below some_below
page_65798 = no_triple 256 65799 (only 65798) (omega arith) (past_only 65798)

pages_262_and_263 : zones_needed 256 (λ q. only 262 q || only 263 q) ≡ 5
unfolding sum_below some_below
pages_262_and_263 = no_triple 256 264 (λ q. only 262 q || only 263 q) (omega arith)
    (λ q l. or_from (only 262 q) (only 263 q) (past_only 262 q (omega arith)) (past_only 263 q l))

pages_0_to_55 : zones_needed 256 (first 56) ≡ 57
unfolding sum_below some_below
pages_0_to_55 = no_triple 256 56 (first 56) (omega arith) (past_first 56)

-- 16 numbers in a zone: the triple range begins at page 279, and page 4374 is the last
last_double : zones_needed 16 (only 278) ≡ 3
unfolding sum_below some_below
last_double = refl

first_triple : zones_needed 16 (only 279) ≡ 4
unfolding sum_below some_below
first_triple = refl

last_triple : zones_needed 16 (only 4374) ≡ 4
unfolding sum_below some_below
last_triple = refl

past_last : zones_needed 16 (only 4375) ≡ 0
unfolding sum_below some_below
past_last = refl

-- two pages of one block, of two blocks, and of two blocks of blocks, in the triple range
same_block : zones_needed 16 (λ q. only 279 q || only 294 q) ≡ 5
unfolding sum_below some_below
same_block = refl

next_block : zones_needed 16 (λ q. only 279 q || only 295 q) ≡ 6
unfolding sum_below some_below
next_block = refl

next_block_of_blocks : zones_needed 16 (λ q. only 279 q || only 535 q) ≡ 7
unfolding sum_below some_below
next_block_of_blocks = refl

-- one page of each range: 4 pages and 1 + 2 + 3 blocks
each_range : zones_needed 16 (λ q. only 0 q || only 7 q || only 23 q || only 279 q) ≡ 10
unfolding sum_below some_below
each_range = refl

-- all 7 direct and 16 single pages, and one more
full_single : zones_needed 16 (first 24) ≡ 27
unfolding sum_below some_below
full_single = refl

-- the first page of the triple range, and the last that a file's greatest size reaches
page_65799 : zones_needed 256 (only 65799) ≡ 4
page_65799 = triple_page 256 0 (omega arith) (omega arith)

page_2097151 : zones_needed 256 (only 2097151) ≡ 4
page_2097151 = triple_page 256 2031352 (omega arith) (omega arith)
