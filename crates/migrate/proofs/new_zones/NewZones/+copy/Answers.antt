use Rattle.std.proofs.Common.{◌≡◌, ◌≢◌, ◌+◌, ◌*◌, ◌-◌, ℕ, length, true, ap, subst, arith}
use Rattle.std.specs.Prelude.{not, ◌==◌}
use Rattle.std.proofs.lemmas.Bool.{eq-eqb, ne_eqb, not_from_false}
use Rattle.std.proofs.lemmas.List.{length-replicate}
use Rattle.lemmas.specs.Sums.{sum_below}
use Rattle.volume.specs.Nodes.{number}
use Rattle.image.specs.Contents.{contents}
use Rattle.migrate.specs.Pages.{pages_in, zones_under}
use Rattle.migrate.specs.Zones.{IsTaken}
use Rattle.migrate.proofs.Under.{block_under, holes_in}
use Rattle.migrate.proofs.Taken.{next_fits}
use Rattle.migrate.proofs.Taking.{BlockTo, taken_hole, taken_page, taken_block, copies_none, copies_next, if_ok}
use Rattle.migrate.proofs.new_zones.NewZones.+copy.Goals as goal

-- a number but 0 is some
some_is : (z : ℕ) → z ≢ 0 → not (z == 0) ≡ true
some_is z some = not_from_false (z == 0) (ne_eqb z 0 some)

pub returns-then-zone-eq0 : goal.returns-then-zone-eq0
returns-then-zone-eq0 t c =
    let v = contents c.args.old.now.image in
    taken_hole (pages_in v) (holes_in v) c.args.level c.args.zone _ _ (ap not (eq-eqb c.args.zone 0 c.if-zone-eq0.true))

pub returns-then-level-eq0 : goal.returns-then-level-eq0
returns-then-level-eq0 t c =
    let s = pages_in (contents c.args.old.now.image) in
    let is = some_is c.args.zone c.if-zone-eq0.false in
    let whole = c.args.self.now.whole in
    if_ok c.append.result _ _ (λ z a. taken_page s c.args.level c.args.zone z _ _ c.block.result.now _ _ c.if-level-eq0.true is whole a
    (λ o h. c.block.ensures.bytes o h)) c.append.ensures

pub loop-j-init : goal.loop-j-init
loop-j-init t c = copies_none (pages_in (contents c.args.old.now.image)) (λ _. c.args.level - 1)
    (number (contents c.args.old.now.image) c.args.zone) 256 _ _ _ (length-replicate {A = ℕ} 256 0)

pub copy-requires : goal.copy-requires
copy-requires t c =
    let v = contents c.args.old.now.image in
    let s = pages_in v in
    let l : ℕ = c.args.level - 1 in
    let f : ℕ → ℕ = λ j. zones_under s l (number v c.args.zone j) in
    let all = block_under s c.args.level c.args.zone c.if-level-eq0.false (some_is c.args.zone c.if-zone-eq0.false) in
    let low = c.requires.low in
    let room = next_fits f c.loop-j.j 256 (zones_under s c.args.level c.args.zone) (zones_under s l c.number.result)
    c.args.self.now.limit c.loop-j.self.limit c.args.self.now.image.items c.loop-j.self.image.items c.loop-j.invariant.takes
    (omega arith) (omega arith) c.requires.room (ap (zones_under s l) c.number.ensures) in
    (omega arith, (omega arith, room))

pub loop-j-preserved : goal.loop-j-preserved
loop-j-preserved t c =
    let s = pages_in (contents c.args.old.now.image) in
    let l : ℕ = c.args.level - 1 in
    let whole = c.args.self.now.whole in
    copies_next s (λ _. l) (number (contents c.args.old.now.image) c.args.zone) 256 c.loop-j.j c.in_ok-numbers.field-0 _ _ _
    c.loop-j.numbers _ _ _ whole c.loop-j-test.true c.loop-j.invariant
    (subst (λ k. IsTaken s l k c.in_ok-numbers.field-0 c.loop-j.self.limit c.copy.new.self.limit c.loop-j.self.image.items
    c.copy.new.self.image.items) c.number.ensures c.in_ok-numbers.ensures)

pub append-requires-2-clause-room : goal.append-requires-2-clause-room
append-requires-2-clause-room t c =
    let v = contents c.args.old.now.image in
    let s = pages_in v in
    let f : ℕ → ℕ = λ j. zones_under s (c.args.level - 1) (number v c.args.zone j) in
    let all = block_under s c.args.level c.args.zone c.if-level-eq0.false (some_is c.args.zone c.if-zone-eq0.false) in
    let done : sum_below f c.loop-j.j ≡ sum_below f 256 = ap (sum_below f) (let e : c.loop-j.j ≡ 256 = omega arith in e) in
    let taken : length c.loop-j.self.image.items ≡ length c.args.self.now.image.items + 1024 * sum_below f c.loop-j.j
    = c.loop-j.invariant.takes.longer in
    let limit : c.loop-j.self.limit ≡ c.args.self.now.limit = c.loop-j.invariant.takes.limit in
    let room = c.requires.room in
    omega arith

pub returns : goal.returns
returns t c =
    let s = pages_in (contents c.args.old.now.image) in
    let is = some_is c.args.zone c.if-zone-eq0.false in
    let whole = c.args.self.now.whole in
    let all : BlockTo s (c.args.level - 1) c.args.zone 256 c.args.self.now.limit c.loop-j.self.limit c.loop-j.numbers
    c.args.self.now.image.items c.loop-j.self.image.items
    = subst (λ j. BlockTo s (c.args.level - 1) c.args.zone j c.args.self.now.limit c.loop-j.self.limit c.loop-j.numbers
    c.args.self.now.image.items c.loop-j.self.image.items) (let e : c.loop-j.j ≡ 256 = omega arith in e) c.loop-j.invariant in
    if_ok c.append-2.result _ _ (λ z a. taken_block s c.args.level c.args.zone z _ _ _ c.loop-j.numbers c.block_of.result _ _ _
    c.if-level-eq0.false is whole all a c.block_of.ensures) c.append-2.ensures
