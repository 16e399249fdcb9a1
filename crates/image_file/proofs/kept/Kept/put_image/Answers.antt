use Rattle.std.proofs.Common.{ℕ, refl, subst, sym, ◌∙◌}
use Rattle.stable.specs.Disk.{Contents, put}
use Rattle.stable.specs.Runs.{Knows, EachMoment}
use Rattle.redo.specs.UnderWay.{IsAtRest, IsCurrent, IsUnderWay}
use Rattle.redo.specs.Laws.{FindsEither}
use Rattle.image_file.specs.Images.{units_of, with_image}
use Rattle.image_file.proofs.Calls.{each_then, known_still}
use Rattle.image_file.proofs.Putting.{widely, all_find, current_at, nothing_moves, rest_shows, image_puts, image_settles, image_rests, made_by, on_ok}
use Rattle.image_file.proofs.kept.Kept.put_image.Goals as goal

pub returns-in_err-settle_puts-clause-any_moment : goal.returns-in_err-settle_puts-clause-any_moment
returns-in_err-settle_puts-clause-any_moment g c before settled current sound =
    let s = c.args.self.now in
    let a = g.S.Storage.known s.storage in
    let b = g.S.Storage.known c.settle_puts.new.self.storage in
    let after : Contents = with_image c.args.image.now before in
    all_find s.name before after a b (widely s.name before after a b (c.settle_puts.ensures.any_moment before current))

pub returns-in_err-numbers-clause-any_moment : goal.returns-in_err-numbers-clause-any_moment
returns-in_err-numbers-clause-any_moment g c before settled current sound =
    let s = c.args.self.now in
    let m = c.settle_puts.new.self in
    let a = g.S.Storage.known s.storage in
    let b = g.S.Storage.known m.storage in
    let mid = g.S.Storage.known c.differing.new.storage in
    let after : Contents = with_image c.args.image.now before in
    let rest = c.in_ok-settle_puts.ensures.ok before current in
    let here : Knows (IsCurrent s.name 0 before) b = current_at s.name 0 before b refl rest in
    each_then (FindsEither s.name before after) a b mid (all_find s.name before after a b (widely s.name before after a b (c.settle_puts.ensures.any_moment before current)))
    (all_find s.name before after b mid (nothing_moves s.name 0 before after b mid c.differing.ensures.same here))

pub returns-in_err-put_settled-clause-any_moment : goal.returns-in_err-put_settled-clause-any_moment
returns-in_err-put_settled-clause-any_moment g c before settled current sound =
    let s = c.args.self.now in
    let m = c.settle_puts.new.self in
    let a = g.S.Storage.known s.storage in
    let b = g.S.Storage.known m.storage in
    let mid = g.S.Storage.known c.differing.new.storage in
    let d = g.S.Storage.known c.put_settled.new.self.storage in
    let after : Contents = with_image c.args.image.now before in
    let ws = units_of c.args.image.now c.deref.result.now in
    let rest = c.in_ok-settle_puts.ensures.ok before current in
    let shown = rest_shows before b rest (c.in_ok-settle_puts.ensures.sound before current sound) in
    let here = current_at m.name m.at before b c.in_ok-settle_puts.ensures.place rest in
    let there = known_still (IsCurrent m.name m.at before) b mid c.differing.ensures.same here in
    let first = each_then (FindsEither s.name before after) a b mid (all_find s.name before after a b (widely s.name before after a b (c.settle_puts.ensures.any_moment before current)))
    (all_find s.name before after b mid (nothing_moves s.name 0 before after b mid c.differing.ensures.same (current_at s.name 0 before b refl rest))) in
    each_then (FindsEither s.name before after) a mid d first
    (image_puts s.name before after (put ws before) (made_by c.args.image.now c.in_ok-numbers.numbers.items c.deref.result.now before c.deref.ensures.value (c.in_ok-numbers.ensures.differ before shown)) mid d
    (subst (λ (n : ℕ). EachMoment (IsUnderWay n before (put ws before)) mid d) c.settle_puts.ensures.name (c.put_settled.ensures.any_moment before there)))

pub returns-clause-any_moment : goal.returns-clause-any_moment
returns-clause-any_moment g c before settled current sound =
    let s = c.args.self.now in
    let m = c.settle_puts.new.self in
    let p = c.put_settled.new.self in
    let a = g.S.Storage.known s.storage in
    let b = g.S.Storage.known m.storage in
    let mid = g.S.Storage.known c.differing.new.storage in
    let d = g.S.Storage.known p.storage in
    let e = g.S.Storage.known c.settle_puts-2.new.self.storage in
    let after : Contents = with_image c.args.image.now before in
    let ws = units_of c.args.image.now c.deref.result.now in
    let made : Contents = put ws before in
    let rest = c.in_ok-settle_puts.ensures.ok before current in
    let shown = rest_shows before b rest (c.in_ok-settle_puts.ensures.sound before current sound) in
    let here = current_at m.name m.at before b c.in_ok-settle_puts.ensures.place rest in
    let there = known_still (IsCurrent m.name m.at before) b mid c.differing.ensures.same here in
    let same = made_by c.args.image.now c.in_ok-numbers.numbers.items c.deref.result.now before c.deref.ensures.value (c.in_ok-numbers.ensures.differ before shown) in
    let put_there : Knows (IsCurrent p.name p.at made) d = subst (λ (n : ℕ). Knows (IsCurrent n p.at made) d) (sym c.put_settled.ensures.name) (c.in_ok-put_settled.ensures.ok before there) in
    let first = each_then (FindsEither s.name before after) a b mid (all_find s.name before after a b (widely s.name before after a b (c.settle_puts.ensures.any_moment before current)))
    (all_find s.name before after b mid (nothing_moves s.name 0 before after b mid c.differing.ensures.same (current_at s.name 0 before b refl rest))) in
    let second = each_then (FindsEither s.name before after) a mid d first
    (image_puts s.name before after made same mid d
    (subst (λ (n : ℕ). EachMoment (IsUnderWay n before made) mid d) c.settle_puts.ensures.name (c.put_settled.ensures.any_moment before there))) in
    each_then (FindsEither s.name before after) a d e second
    (image_settles s.name before after made same d e
    (subst (λ (n : ℕ). EachMoment (IsUnderWay n made made) d e) (c.put_settled.ensures.name ∙ c.settle_puts.ensures.name) (c.settle_puts-2.ensures.any_moment made put_there)))

pub returns-clause-ok : goal.returns-clause-ok
returns-clause-ok g c before settled current sound =
    let s = c.args.self.now in
    let m = c.settle_puts.new.self in
    let p = c.put_settled.new.self in
    let b = g.S.Storage.known m.storage in
    let mid = g.S.Storage.known c.differing.new.storage in
    let d = g.S.Storage.known p.storage in
    let e = g.S.Storage.known c.settle_puts-2.new.self.storage in
    let after : Contents = with_image c.args.image.now before in
    let made : Contents = put (units_of c.args.image.now c.deref.result.now) before in
    let rest = c.in_ok-settle_puts.ensures.ok before current in
    let shown = rest_shows before b rest (c.in_ok-settle_puts.ensures.sound before current sound) in
    let there = known_still (IsCurrent m.name m.at before) b mid c.differing.ensures.same (current_at m.name m.at before b c.in_ok-settle_puts.ensures.place rest) in
    let put_there : Knows (IsCurrent p.name p.at made) d = subst (λ (n : ℕ). Knows (IsCurrent n p.at made) d) (sym c.put_settled.ensures.name) (c.in_ok-put_settled.ensures.ok before there) in
    on_ok c.settle_puts-2.result (Knows (IsAtRest made) e) (Knows (IsAtRest after) e) (image_rests s.name before after made (made_by c.args.image.now c.in_ok-numbers.numbers.items c.deref.result.now before c.deref.ensures.value (c.in_ok-numbers.ensures.differ before shown)) e)
    (c.settle_puts-2.ensures.ok made put_there)
