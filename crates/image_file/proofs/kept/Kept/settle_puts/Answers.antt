use Rattle.std.proofs.Common.{◌≡◌, sym, ◌∙◌}
use Rattle.std.proofs.lemmas.Bool.{eqb-true}
use Rattle.stable.specs.Runs.{now, Knows}
use Rattle.redo.specs.Plans.{recover_plan}
use Rattle.redo.specs.UnderWay.{IsAtRest}
use Rattle.redo.specs.Laws.{RestsWithEither}
use Rattle.redo.proofs.Left.{happens-nil}
use Rattle.image_file.proofs.Putting.{to_recover_it, rests_it, rest_at, nothing_moves, settled_sound, on_ok}
use Rattle.image_file.proofs.kept.Kept.settle_puts.Goals as goal
use Rattle.image_file.proofs.kept.Kept.settle_puts.Goals.{then-not-self, else-not-self}

pub returns-then-is_settled-clause-any_moment : goal.returns-then-is_settled-clause-any_moment
returns-then-is_settled-clause-any_moment g c image current =
    let s = c.args.self.now in
    let o = g.S.Storage.known s.storage in
    nothing_moves s.name s.at image image o o (happens-nil o) current

pub returns-then-is_settled-clause-ok : goal.returns-then-is_settled-clause-ok
returns-then-is_settled-clause-ok g c image current =
    let s = c.args.self.now in
    let is : s.at ≡ 0 = elim c.if-not-self.branch [
      | then-not-self w ↦ eqb-true s.at 0 (sym w.is_settled-is ∙ c.if-is_settled.true)
      | else-not-self w ↦ cc
    ] in
    rest_at s.name s.at image (g.S.Storage.known s.storage) is current

pub returns-clause-any_moment : goal.returns-clause-any_moment
returns-clause-any_moment g c image current =
    let s = c.args.self.now in
    c.settle.ensures.any_moment image image (to_recover_it s.name s.at image (g.S.Storage.known s.storage) current)

pub returns-clause-ok : goal.returns-clause-ok
returns-clause-ok g c image current =
    let s = c.args.self.now in
    let b = g.S.Storage.known c.settle.new.self.storage in
    on_ok c.settle.result (Knows (RestsWithEither image image) b) (Knows (IsAtRest image) b) (rests_it image b)
    (c.settle.ensures.ok image image (to_recover_it s.name s.at image (g.S.Storage.known s.storage) current))

pub returns-clause-sound : goal.returns-clause-sound
returns-clause-sound g c image current sound =
    let s = c.args.self.now in
    settled_sound (λ k. recover_plan s.name (now k).log.shows) s.name s.at image (g.S.Storage.known s.storage) (g.S.Storage.known c.settle.new.self.storage) c.settle.result current c.settle.ensures.follows sound
