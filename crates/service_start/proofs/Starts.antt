-- What a service is started with, from what a start makes of an image.
use Rattle.std.proofs.Common.{◌≡◌, ◌≤◌, ◌^◌, ℕ, List, [], Result, Ok, Err, IfOk, ap, lit≤, subst, sym}
use Rattle.atomic_table.specs.Seated.{TableId}
use Rattle.media.specs.Contents.{MediaState}
use Rattle.bdev.specs.DriverState.{DriverState}
use Rattle.records.specs.Marks.{Mark}
use Rattle.records.specs.Opening.{Opening}
use Rattle.reincarnate.specs.declared.policy.Policy.{Policy}
use Rattle.reincarnate.specs.declared.policy.Setup.{Setup}
use Rattle.reissue.specs.declared.link.Link.{Ghosts as LinkWords}
use Rattle.board.specs.View.{SeatState}
use Rattle.board.specs.declared.counting.parameters.ServiceParameters.{Ghosts as ParameterWords}
use Rattle.service_start.specs.Started.{IsAtHand, IsStarted}
use Rattle.service_start.proofs.Frames.{frames_fit}

-- where all is at hand, a link that the start made is one over which the volume may be mounted
pub started : {N : Type 0} (room : ParameterWords N) (table : TableId) (seat : SeatState) (setup : Setup) (supply : List DriverState)
    (media : MediaState) (range : ℕ × ℕ) → IsAtHand room table seat setup supply media range
    → {L : Type 0} (words : LinkWords L) (runs_on : L → Policy → List DriverState → Type 0) (record_in : L → List Mark) (shown : TableId)
    (link : L) → shown ≡ room.table → record_in link ≡ [] → words.history link ≡ [] → words.budget_left link ≡ 1099511627776
    → ((v : Opening) → words.truth link v []) → runs_on link room.policy room.supply
    → IsStarted room words runs_on record_in shown link setup.minor setup.frames
started room table seat setup supply media range hand words runs_on record_in shown link board marks told budget truth drivers = record {
  board = board;
  fresh = record {
    marks = marks;
    told = told;
    geometry = hand.geometry;
    minor = sym (ap (λ (v : Opening). v.minor) hand.opening);
    frames = frames_fit setup.frames hand.prepared.set_up.0.0 hand.prepared.set_up.0.1;
    budget = subst (λ (n : ℕ). n ≤ 2 ^ 57) (sym budget) (lit≤ tt);
    truth = truth room.opening;
    drivers = drivers;
  };
}

-- and so it is wherever one was made
pub all_started : {N : Type 0} (room : ParameterWords N) (table : TableId) (seat : SeatState) (setup : Setup) (supply : List DriverState)
    (media : MediaState) (range : ℕ × ℕ) → IsAtHand room table seat setup supply media range
    → {L M X : Type 0} (words : LinkWords L) (runs_on : L → Policy → List DriverState → Type 0) (record_in : L → List Mark)
    (board_of : M → TableId) (link_of : M → L) (result : Result M X)
    → IfOk result (λ made. board_of made ≡ room.table) → IfOk result (λ made. record_in (link_of made) ≡ [])
    → IfOk result (λ made. words.history (link_of made) ≡ []) → IfOk result (λ made. words.budget_left (link_of made) ≡ 1099511627776)
    → IfOk result (λ made. (v : Opening) → words.truth (link_of made) v []) → ((link : L) → runs_on link room.policy room.supply)
    → IfOk result (λ made. IsStarted room words runs_on record_in (board_of made) (link_of made) setup.minor setup.frames)
all_started room table seat setup supply media range hand words runs_on record_in board_of link_of (Ok made) board marks told budget truth on =
    started room table seat setup supply media range hand words runs_on record_in (board_of made) (link_of made) board marks told budget truth
    (on (link_of made))
all_started room table seat setup supply media range hand words runs_on record_in board_of link_of (Err e) board marks told budget truth on = tt
