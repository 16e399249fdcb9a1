use Rattle.std.proofs.Common.{ap, sym, subst, ◌∙◌, ◌≡◌, List}
use Rattle.records.specs.Marks.{Mark}
use Rattle.records.specs.Session.{IsLonger}
use Rattle.board.specs.View.{SeatState}
use Rattle.board.specs.Steps.{Meets}
use Rattle.board.proofs.Records.{longer_met}
use Rattle.board.proofs.Joins.{sessions_meet}
use Rattle.board.proofs.board.Board.meet.Goals as goal

met : (a b c d other : SeatState) → a ≡ d → other ≡ b → IsLonger b.view.seen c.view.seen d.view.seen → (e : List Mark) → IsLonger e a.view.seen b.view.seen
    → (e ≡ other.view.seen) × IsLonger e d.view.seen c.view.seen
met a b c d other same kept first e second =
    let second' = subst (λ (s : SeatState). IsLonger e s.view.seen b.view.seen) same second in
    let both = longer_met d.view.seen c.view.seen b.view.seen e first second' in
    (both.0 ∙ ap (λ (s : SeatState). s.view.seen) (sym kept), both.1)

pub returns-clause-same : goal.returns-clause-same
returns-clause-same c =
    (met c.inform.new.seat c.inform.new.other c.args.other.now c.args.seat.now c.inform-2.new.seat c.inform.ensures.seat c.inform-2.ensures.seat
    c.inform.ensures.longer c.inform-2.new.other.view.seen c.inform-2.ensures.longer).0

pub returns-clause-sessions : goal.returns-clause-sessions
returns-clause-sessions c =
    let seat = c.args.seat.now.view in
    let other = c.args.other.now.view in
    let newer = c.inform-2.new.other.view in
    let newer_other = c.inform-2.new.seat.view in
    let both = met c.inform.new.seat c.inform.new.other c.args.other.now c.args.seat.now c.inform-2.new.seat c.inform.ensures.seat c.inform-2.ensures.seat
    c.inform.ensures.longer newer.seen c.inform-2.ensures.longer in
    sessions_meet seat other newer newer_other
    (subst (λ (s : SeatState). Meets s.view newer) c.inform.ensures.seat c.inform-2.ensures.other)
    (subst (λ (s : SeatState). Meets other s.view) (sym c.inform-2.ensures.seat) c.inform.ensures.other)
    both.0 both.1
