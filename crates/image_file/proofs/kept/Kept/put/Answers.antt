use Rattle.std.proofs.Common.{ℕ, subst, OnOk}
use Rattle.stable.specs.Disk.{Contents, put}
use Rattle.stable.specs.Runs.{Knows, EachMoment}
use Rattle.redo.specs.UnderWay.{IsCurrent, IsUnderWay}
use Rattle.image_file.proofs.Calls.{last_moment}
use Rattle.image_file.proofs.Putting.{all_find, current_at, stopped_between, both_between, current_between, on_err}
use Rattle.image_file.proofs.kept.Kept.put.Goals as goal

pub returns-then-not-failed-clause-any_moment : goal.returns-then-not-failed-clause-any_moment
returns-then-not-failed-clause-any_moment g c image settled current =
    let s = c.args.self.now in
    all_find s.name image (put (g.P.Puts.puts c.args.changes.now) image) (g.S.Storage.known s.storage) (g.S.Storage.known c.put_settled.new.self.storage) (c.put_settled.ensures.any_moment image current)

pub returns-then-not-failed-clause-failed : goal.returns-then-not-failed-clause-failed
returns-then-not-failed-clause-failed g c image settled current =
    let s = c.args.self.now in
    let a = g.S.Storage.known s.storage in
    let d = g.S.Storage.known c.put_settled.new.self.storage in
    let after : Contents = put (g.P.Puts.puts c.args.changes.now) image in
    on_err c.put_settled.result (Knows (IsUnderWay s.name image after) d)
    (last_moment (IsUnderWay s.name image after) (IsCurrent s.name s.at image) a d current (c.put_settled.ensures.any_moment image current))

pub returns-in_err-settle-clause-again_any_moment : goal.returns-in_err-settle-clause-again_any_moment
returns-in_err-settle-clause-again_any_moment g c before after unsettled h =
    let s = c.args.self.now in
    stopped_between s.name before after (g.P.Puts.puts c.args.changes.now) (g.S.Storage.known s.storage) (g.S.Storage.known c.settle.new.self.storage) (c.settle.ensures.any_moment before after h)

pub returns-clause-again_any_moment : goal.returns-clause-again_any_moment
returns-clause-again_any_moment g c before after unsettled h =
    let s = c.args.self.now in
    let m = c.settle.new.self in
    let ws = g.P.Puts.puts c.args.changes.now in
    let b = g.S.Storage.known m.storage in
    let d = g.S.Storage.known c.put_settled-2.new.self.storage in
    both_between s.name before after ws (g.S.Storage.known s.storage) b d (c.settle.ensures.any_moment before after h) (c.in_ok-settle.ensures.ok before after h)
    (λ image rest. subst (λ (n : ℕ). EachMoment (IsUnderWay n image (put ws image)) b d) c.settle.ensures.name
    (c.put_settled-2.ensures.any_moment image (current_at m.name m.at image b c.in_ok-settle.ensures.place rest)))

pub returns-clause-again_ok : goal.returns-clause-again_ok
returns-clause-again_ok g c before after unsettled h =
    let s = c.args.self.now in
    let m = c.settle.new.self in
    let ws = g.P.Puts.puts c.args.changes.now in
    let b = g.S.Storage.known m.storage in
    let new = c.put_settled-2.new.self in
    let d = g.S.Storage.known new.storage in
    current_between s.name before after ws new.at b d c.put_settled-2.result (c.in_ok-settle.ensures.ok before after h)
    (λ image rest. subst (λ (n : ℕ). OnOk c.put_settled-2.result (Knows (IsCurrent n new.at (put ws image)) d)) c.settle.ensures.name
    (c.put_settled-2.ensures.ok image (current_at m.name m.at image b c.in_ok-settle.ensures.place rest)))
