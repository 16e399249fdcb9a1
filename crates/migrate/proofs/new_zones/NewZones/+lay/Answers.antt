use Rattle.std.proofs.Common.{◌≡◌, ◌+◌, ◌*◌, ◌-◌, ℕ, length, ap, subst, arith}
use Rattle.std.proofs.lemmas.Bool.{lt-ltb, le-ltb}
use Rattle.std.proofs.lemmas.List.{length-replicate}
use Rattle.lemmas.specs.Sums.{sum_below}
use Rattle.migrate.specs.Pages.{pages_for, pages_from, zones_under}
use Rattle.migrate.specs.Zones.{IsTaken}
use Rattle.migrate.proofs.Laid.{near_below}
use Rattle.migrate.proofs.Under.{block_under, holes_from}
use Rattle.migrate.proofs.Taken.{next_fits}
use Rattle.migrate.proofs.Taking.{BlockTo, taken_hole, taken_page, taken_block, copies_none, copies_next, if_ok}
use Rattle.migrate.proofs.new_zones.NewZones.+lay.Goals as goal

pub returns-then-page-bytes : goal.returns-then-page-bytes
returns-then-page-bytes t c =
    let past = c.if-page-bytes.true in
    taken_hole (pages_from c.args.bytes.now) (holes_from c.args.bytes.now) c.args.level c.args.page _ _
    (le-ltb c.args.page (pages_for (length c.args.bytes.now)) (omega arith))

pub returns-then-level-eq0 : goal.returns-then-level-eq0
returns-then-level-eq0 t c =
    let there = c.if-page-bytes.false in
    let is = lt-ltb c.args.page (pages_for (length c.args.bytes.now)) (omega arith) in
    let whole = c.args.self.now.whole in
    if_ok c.append.result _ _ (λ z a. taken_page (pages_from c.args.bytes.now) c.args.level c.args.page z _ _ c.page_of.result _ _
    c.if-level-eq0.true is whole a c.page_of.ensures) c.append.ensures

pub loop-j-init : goal.loop-j-init
loop-j-init t c =
    let s = pages_from c.args.bytes.now in
    copies_none s (λ _. c.args.level - 1) (s.below (c.args.level - 1) c.args.page) 256 _ _ _ (length-replicate {A = ℕ} 256 0)

pub lay-requires : goal.lay-requires
lay-requires t c =
    let s = pages_from c.args.bytes.now in
    let l : ℕ = c.args.level - 1 in
    let f : ℕ → ℕ = λ j. zones_under s l (s.below l c.args.page j) in
    let there = c.if-page-bytes.false in
    let is = lt-ltb c.args.page (pages_for (length c.args.bytes.now)) (omega arith) in
    let all = block_under s c.args.level c.args.page c.if-level-eq0.false is in
    let low = c.requires.low in
    let here : zones_under s l (c.args.page + c.loop-j.j * c.pages_below.result) ≡ f c.loop-j.j
    = ap (λ w. zones_under s l (c.args.page + c.loop-j.j * w)) c.pages_below.ensures.value in
    let near = near_below c.loop-j.j c.pages_below.result (omega arith) c.pages_below.ensures.few in
    let short = c.requires.short in
    let room = next_fits f c.loop-j.j 256 (zones_under s c.args.level c.args.page)
    (zones_under s l (c.args.page + c.loop-j.j * c.pages_below.result)) c.args.self.now.limit c.loop-j.self.limit
    c.args.self.now.image.items c.loop-j.self.image.items c.loop-j.invariant.takes (omega arith) (omega arith) c.requires.room here in
    (omega arith, (omega arith, (short, (omega arith, room))))

pub loop-j-preserved : goal.loop-j-preserved
loop-j-preserved t c =
    let s = pages_from c.args.bytes.now in
    let l : ℕ = c.args.level - 1 in
    let whole = c.args.self.now.whole in
    copies_next s (λ _. l) (s.below l c.args.page) 256 c.loop-j.j c.in_ok-numbers.field-0 _ _ _ c.loop-j.numbers _ _ _ whole
    c.loop-j-test.true c.loop-j.invariant
    (subst (λ w. IsTaken s l (c.args.page + c.loop-j.j * w) c.in_ok-numbers.field-0 c.loop-j.self.limit c.lay.new.self.limit
    c.loop-j.self.image.items c.lay.new.self.image.items) c.pages_below.ensures.value c.in_ok-numbers.ensures)

pub append-requires-2-clause-room : goal.append-requires-2-clause-room
append-requires-2-clause-room t c =
    let s = pages_from c.args.bytes.now in
    let f : ℕ → ℕ = λ j. zones_under s (c.args.level - 1) (s.below (c.args.level - 1) c.args.page j) in
    let there = c.if-page-bytes.false in
    let is = lt-ltb c.args.page (pages_for (length c.args.bytes.now)) (omega arith) in
    let all = block_under s c.args.level c.args.page c.if-level-eq0.false is in
    let done : sum_below f c.loop-j.j ≡ sum_below f 256 = ap (sum_below f) (let e : c.loop-j.j ≡ 256 = omega arith in e) in
    let taken : length c.loop-j.self.image.items ≡ length c.args.self.now.image.items + 1024 * sum_below f c.loop-j.j
    = c.loop-j.invariant.takes.longer in
    let limit : c.loop-j.self.limit ≡ c.args.self.now.limit = c.loop-j.invariant.takes.limit in
    let room = c.requires.room in
    omega arith

pub returns : goal.returns
returns t c =
    let s = pages_from c.args.bytes.now in
    let there = c.if-page-bytes.false in
    let is = lt-ltb c.args.page (pages_for (length c.args.bytes.now)) (omega arith) in
    let whole = c.args.self.now.whole in
    let all : BlockTo s (c.args.level - 1) c.args.page 256 c.args.self.now.limit c.loop-j.self.limit c.loop-j.numbers
    c.args.self.now.image.items c.loop-j.self.image.items
    = subst (λ j. BlockTo s (c.args.level - 1) c.args.page j c.args.self.now.limit c.loop-j.self.limit c.loop-j.numbers
    c.args.self.now.image.items c.loop-j.self.image.items) (let e : c.loop-j.j ≡ 256 = omega arith in e) c.loop-j.invariant in
    if_ok c.append-2.result _ _ (λ z a. taken_block s c.args.level c.args.page z _ _ _ c.loop-j.numbers c.block_of.result _ _ _
    c.if-level-eq0.false is whole all a c.block_of.ensures) c.append-2.ensures
