-- The link of a run before its first event.
use Rattle.std.proofs.Common.{◌≡◌, suc, ◌+◌, ◌-◌, ◌<◌, ◌≤◌, ℕ, List, [], ◌∷◌, Bool, true, false, length, refl, sym, ap, subst, arith, Result, Ok}
use Rattle.std.specs.Prelude.{map}
use Rattle.bdev.specs.DriverState.{DriverState}
use Rattle.media.specs.Contents.{MediaState}
use Rattle.reincarnate.specs.declared.policy.Policy.{Policy}
use Rattle.reincarnate.specs.Watch.{Watch, new_watch}
use Rattle.records.specs.Told.{took_end}
use Rattle.schedule.specs.declared.Event.{Event}
use Rattle.schedule.specs.Noted.{Noted}
use Rattle.simulated_link.specs.Scene.{Scene}
use Rattle.simulated_link.specs.StateView.{RunState, IsOpened, left_of, unless_told, work_left}
use Rattle.reincarnate.specs.declared.SupplyRefusal.{SupplyRefusal}
use Rattle.reincarnate.specs.Supply.{ReincarnationState, NewAnswers}
use Rattle.world.specs.Starts.{IsBeforeFirst}
use Rattle.world.specs.ServerRuns.{IsFresh}

-- a link that was just made is one that waits for its first event
pub fresh : (media : MediaState) (rules : Policy) (watch : Watch) (supply : List DriverState) (events : List Event) (p : RunState)
    → IsOpened media rules watch supply events p → IsFresh events (length media.sectors) p
fresh media rules watch supply events p opened = record {
  first = record {
    noted = ap (λ (s : Scene). s.noted) opened.scene.is;
    next = opened.next;
    queue = opened.queue;
    live = opened.over;
  };
  events_are = opened.events_are;
  untold = opened.told;
  sectors_are = ap (λ (s : Scene). length s.disks.media.sectors) opened.scene.is;
}

as_many : {D : Type 0} (state : D → DriverState) (drivers : List D) → length (map state drivers) ≡ length drivers
as_many state [] = refl
as_many state (d ∷ drivers) = ap suc (as_many state drivers)

-- a reincarnation server that was just made of these drivers
pub opened_on : {D : Type 0} (state : D → DriverState) (media : MediaState) (rules : Policy) (drivers : List D)
    (made : Result (ReincarnationState D) SupplyRefusal) (r : ReincarnationState D) (events : List Event) (p : RunState) → made ≡ Ok r → NewAnswers rules drivers made
    → IsOpened media r.policy r.watch (map state r.supply) events p
    → IsOpened media rules (new_watch (length (map state drivers))) (map state drivers) events p
opened_on {D} state media rules drivers made r events p is answers opened =
    let new : NewAnswers rules drivers (Ok r) = subst (λ (m : Result (ReincarnationState D) SupplyRefusal). NewAnswers rules drivers m) is answers in
    subst (λ (n : ℕ). IsOpened media rules (new_watch n) (map state drivers) events p) (sym (as_many state drivers))
    (subst (λ (x : ReincarnationState D). IsOpened media x.policy x.watch (map state x.supply) events p) new.2 opened)

-- nothing was taken, so no End
pub none_ended : (p : RunState) → IsBeforeFirst p → took_end p.scene.noted.history ≡ false
none_ended p first = ap (λ (n : Noted). took_end n.history) first.noted

-- a message for each event, and one more
pub few_left : (over told : Bool) (n : ℕ) → over ≡ false → told ≡ false → n < 4294967296 → left_of over n told ≤ 288230376151711744
few_left true told n o t few = absurd (let y : ⊥ = cc in y)
few_left false true n o t few = absurd (let y : ⊥ = cc in y)
few_left false false n o t few = omega (arith, few)

-- so few messages come in a schedule of fewer than 2^32 events
pub small_budget : (events : List Event) (sectors : ℕ) (p : RunState) → IsFresh events sectors p → length events < 4294967296
    → left_of p.over (length p.events - p.next) p.told ≤ 288230376151711744
small_budget events sectors p new few =
    let all : length p.events ≡ length events = ap length new.events_are in
    few_left p.over p.told (length p.events - p.next) new.first.live new.untold (omega (arith, all, few))

-- a schedule of fewer than 2^32 events leaves little to do
pub little_work : (events : List Event) (sectors : ℕ) (p : RunState) → IsFresh events sectors p → length events < 4294967296 → work_left p + 1 < 281474976710656
little_work events sectors p new few =
    let all : length p.events ≡ length events = ap length new.events_are in
    let none : length p.queue ≡ 0 = ap length new.first.queue in
    let one : unless_told p.told ≡ 1 = ap unless_told new.untold in
    omega (arith, all, none, one, few)

-- over the link that a server was opened on as little is left to do
pub few_here : {L : Type 0} (run : L → RunState) (a b : L) (n : ℕ) → a ≡ b → n ≡ 0 → work_left (run b) + 1 < 281474976710656
    → n + work_left (run a) + 1 < 281474976710656
few_here {L} run a b n same none few =
    let e : work_left (run a) ≡ work_left (run b) = ap (λ (l : L). work_left (run l)) same in omega (arith, e, none, few)
