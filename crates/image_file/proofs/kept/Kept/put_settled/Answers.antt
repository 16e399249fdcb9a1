use Rattle.std.proofs.Common.{◌≡◌, ◌<◌, ◌++◌, ℕ, List, arith, map, sym, ◌∙◌, subst, length, OnOk}
use Rattle.std.proofs.lemmas.Bool.{eqb-true, eqb-false}
use Rattle.stable.specs.Disk.{Contents, Changes as Puts, Step, put, Did}
use Rattle.stable.specs.Runs.{now, Follows, Happens, Knows, EachMoment}
use Rattle.redo.specs.Plans.{log_plan, recover_plan}
use Rattle.redo.specs.UnderWay.{IsCurrent, IsUnderWay}
use Rattle.redo.proofs.Left.{all_left, last_part, left_as, part_stops, steps_done, happens-nil}
use Rattle.image_file.specs.Puts.{put_plan, long_plan}
use Rattle.image_file.proofs.Calls.{each_then}
use Rattle.image_file.proofs.Putting.{none_of, plan_of_some, long_of_some, widely, to_recover_it, rests_it, current_at, nothing_moves, none_current}
use Rattle.image_file.proofs.kept.Kept.put_settled.Goals as goal

pub returns-then-is_empty-clause-follows : goal.returns-then-is_empty-clause-follows
returns-then-is_empty-clause-follows g c room =
    let ns = c.numbers.result.now in
    let none : length ns ≡ 0 = eqb-true (length ns) 0 (sym c.is_empty.ensures ∙ c.if-is_empty.true) in
    let empty = none_of ns (g.P.Puts.puts c.args.changes.now) c.numbers.ensures.numbers none in
    let s = c.args.self.now in
    let o = g.S.Storage.known s.storage in
    subst (λ (ws : Puts). Happens (map Did (put_plan s.name s.at ws)) o o) (sym empty) (happens-nil o)

pub returns-then-is_empty-clause-follows_long : goal.returns-then-is_empty-clause-follows_long
returns-then-is_empty-clause-follows_long g c long k is sound =
    let ns = c.numbers.result.now in
    let none : length ns ≡ 0 = eqb-true (length ns) 0 (sym c.is_empty.ensures ∙ c.if-is_empty.true) in
    let empty = none_of ns (g.P.Puts.puts c.args.changes.now) c.numbers.ensures.numbers none in
    let s = c.args.self.now in
    let o = g.S.Storage.known s.storage in
    subst (λ (ws : Puts). Happens (map Did (long_plan s.name (now k).log.shows ws)) o o) (sym empty) (happens-nil o)

pub returns-then-is_empty-clause-any_moment : goal.returns-then-is_empty-clause-any_moment
returns-then-is_empty-clause-any_moment g c image current =
    let s = c.args.self.now in
    let o = g.S.Storage.known s.storage in
    nothing_moves s.name s.at image (put (g.P.Puts.puts c.args.changes.now) image) o o (happens-nil o) current

pub returns-then-is_empty-clause-ok : goal.returns-then-is_empty-clause-ok
returns-then-is_empty-clause-ok g c image current =
    let ns = c.numbers.result.now in
    let none : length ns ≡ 0 = eqb-true (length ns) 0 (sym c.is_empty.ensures ∙ c.if-is_empty.true) in
    let empty = none_of ns (g.P.Puts.puts c.args.changes.now) c.numbers.ensures.numbers none in
    let s = c.args.self.now in
    none_current s.name s.at image (g.P.Puts.puts c.args.changes.now) (g.S.Storage.known s.storage) empty current

pub returns-then-has_room-clause-follows : goal.returns-then-has_room-clause-follows
returns-then-has_room-clause-follows g c room =
    let ns = c.numbers.result.now in
    let s = c.args.self.now in
    let some : 0 < length ns = omega (arith, eqb-false (length ns) 0 (sym c.is_empty.ensures ∙ c.if-is_empty.false)) in
    subst (λ (l : List Step). Follows l (g.S.Storage.known s.storage) (g.S.Storage.known c.append.new.self.storage) c.append.result) (plan_of_some s.name s.at ns (g.P.Puts.puts c.args.changes.now) c.numbers.ensures.numbers some) c.append.ensures.follows

pub returns-in_err-settle-clause-follows_long : goal.returns-in_err-settle-clause-follows_long
returns-in_err-settle-clause-follows_long g c long k is sound =
    let ns = c.numbers.result.now in
    let s = c.args.self.now in
    let some : 0 < length ns = omega (arith, eqb-false (length ns) 0 (sym c.is_empty.ensures ∙ c.if-is_empty.false)) in
    let ws = g.P.Puts.puts c.args.changes.now in
    let a = g.S.Storage.known s.storage in
    let log = (now k).log.shows in
    let plan : List Step = long_plan s.name log ws in
    part_stops plan (recover_plan s.name log) (log_plan s.name 0 ws) a a (g.S.Storage.known c.settle.new.self.storage) c.from_residual.result c.from_residual.ensures.0
    (left_as plan plan (recover_plan s.name log ++ log_plan s.name 0 ws) a a (sym (long_of_some s.name log ns ws c.numbers.ensures.numbers some)) (all_left plan a))
    (c.in_err-settle.ensures.follows k is sound)

pub returns-in_err-settle-clause-any_moment : goal.returns-in_err-settle-clause-any_moment
returns-in_err-settle-clause-any_moment g c image current =
    let s = c.args.self.now in
    let a = g.S.Storage.known s.storage in
    widely s.name image (put (g.P.Puts.puts c.args.changes.now) image) a (g.S.Storage.known c.settle.new.self.storage)
    (c.settle.ensures.any_moment image image (to_recover_it s.name s.at image a current))

pub returns-clause-follows_long : goal.returns-clause-follows_long
returns-clause-follows_long g c long k is sound =
    let ns = c.numbers.result.now in
    let s = c.args.self.now in
    let some : 0 < length ns = omega (arith, eqb-false (length ns) 0 (sym c.is_empty.ensures ∙ c.if-is_empty.false)) in
    let ws = g.P.Puts.puts c.args.changes.now in
    let m = c.settle.new.self in
    let a = g.S.Storage.known s.storage in
    let b = g.S.Storage.known m.storage in
    let d = g.S.Storage.known c.append-2.new.self.storage in
    let log = (now k).log.shows in
    let plan : List Step = long_plan s.name log ws in
    last_part plan (log_plan s.name 0 ws) a b d c.append-2.result
    (steps_done plan (recover_plan s.name log) (log_plan s.name 0 ws) a a b
    (left_as plan plan (recover_plan s.name log ++ log_plan s.name 0 ws) a a (sym (long_of_some s.name log ns ws c.numbers.ensures.numbers some)) (all_left plan a))
    (c.in_ok-settle.ensures.follows k is sound))
    (subst (λ (n : ℕ). Follows (log_plan n 0 ws) b d c.append-2.result) c.settle.ensures.name
    (subst (λ (p : ℕ). Follows (log_plan m.name p ws) b d c.append-2.result) c.in_ok-settle.ensures.place c.append-2.ensures.follows))

pub returns-clause-any_moment : goal.returns-clause-any_moment
returns-clause-any_moment g c image current =
    let s = c.args.self.now in
    let m = c.settle.new.self in
    let a = g.S.Storage.known s.storage in
    let b = g.S.Storage.known m.storage in
    let d = g.S.Storage.known c.append-2.new.self.storage in
    let after : Contents = put (g.P.Puts.puts c.args.changes.now) image in
    let rec = to_recover_it s.name s.at image a current in
    let here = current_at m.name m.at image b c.in_ok-settle.ensures.place (rests_it image b (c.in_ok-settle.ensures.ok image image rec)) in
    each_then (IsUnderWay s.name image after) a b d (widely s.name image after a b (c.settle.ensures.any_moment image image rec))
    (subst (λ (n : ℕ). EachMoment (IsUnderWay n image after) b d) c.settle.ensures.name (c.append-2.ensures.any_moment image here))

pub returns-clause-ok : goal.returns-clause-ok
returns-clause-ok g c image current =
    let s = c.args.self.now in
    let m = c.settle.new.self in
    let a = g.S.Storage.known s.storage in
    let b = g.S.Storage.known m.storage in
    let d = g.S.Storage.known c.append-2.new.self.storage in
    let after : Contents = put (g.P.Puts.puts c.args.changes.now) image in
    let here = current_at m.name m.at image b c.in_ok-settle.ensures.place (rests_it image b (c.in_ok-settle.ensures.ok image image (to_recover_it s.name s.at image a current))) in
    subst (λ (n : ℕ). OnOk c.append-2.result (Knows (IsCurrent n c.append-2.new.self.at after) d)) c.settle.ensures.name (c.append-2.ensures.ok image here)
