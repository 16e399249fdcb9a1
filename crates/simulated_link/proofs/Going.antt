-- What goes on in the link, by its parts.
use Rattle.std.proofs.Common.{◌≡◌, List, Bool, true, false, refl, sym, ◌∙◌, ap, subst}
use Rattle.std.specs.Prelude.{map, ◌||◌, ◌&&◌, not, Option, Some, None, Result, Ok, Err, is_ok}
use Rattle.std.specs.declared.alloc.AllocError.{AllocError}
use Rattle.message.specs.declared.endpoint.Endpoint.{Endpoint}
use Rattle.message.specs.declared.BlockRequest.{BlockRequest}
use Rattle.message.specs.declared.Incoming.{Incoming}
use Rattle.message.specs.declared.Incoming.TheVariants as incoming
use Rattle.records.specs.Told.{Posted, Complained, Received}
use Rattle.bdev.specs.DriverState.{DriverState}
use Rattle.reincarnate.specs.declared.policy.Event.TheVariants as policy
use Rattle.reincarnate.specs.Watch.{on}
use Rattle.reincarnate.specs.Supply.{ReincarnationState}
use Rattle.reissue.specs.declared.link.LinkRefusal.{LinkRefusal}
use Rattle.simulated_link.specs.Disks.{Disks, LinesUp}
use Rattle.simulated_link.specs.Ruling.{is_fault, gives_up}
use Rattle.schedule.specs.declared.log.LogEntry.TheVariants as entry
use Rattle.schedule.specs.Noted.{Noted, with_entry, with_end}
use Rattle.simulated_link.specs.Scene.{Scene}
use Rattle.schedule.specs.declared.arrived.Arrived.{Arrived}
use Rattle.simulated_link.specs.RunState.{RunState, noting, paid, ended, starving, posted, complained, ruling_at, RunsEvent, Advances, Goes, ComesToEnd, IsStarved, Takes, TakesOwed, TakesEnd, Posts, Complains, GoesOn, Still, Further, Asides, HandsEvent, HandsNone, HandsOwed, HandsNothing}

-- A run by its parts is the one that it was.
pub same_run : (m b : RunState) → m.scene ≡ b.scene → m.events ≡ b.events → m.next ≡ b.next → m.queue ≡ b.queue → m.owed ≡ b.owed → m.told ≡ b.told
    → m.over ≡ b.over → m.starved ≡ b.starved → m ≡ b
same_run m b scene events next queue owed told over starved =
    λ i. record {
      scene = scene i;
      events = events i;
      next = next i;
      queue = queue i;
      owed = owed i;
      told = told i;
      over = over i;
      starved = starved i;
    }

with_parts : (P : RunState → Type 0) (a : RunState) (n m : Noted) (over live : Bool) → n ≡ m → over ≡ live
    → P (record a { scene = record (a.scene) { noted = m }; over = live }) → P (record a { scene = record (a.scene) { noted = n }; over = over })
with_parts P a n m over live noted same h =
    subst P (λ i. record a { scene = record (a.scene) { noted = sym noted i }; over = sym same i }) h

-- room was made, events were run, and the message that they brought was noted
pub takes : (b m a : RunState) (message : Incoming) (n : Noted) (over : Bool) → m ≡ b → Advances m (Some message) a
    → n ≡ with_entry (entry.Received message) a.scene.noted → over ≡ a.over
    → GoesOn b (record a { scene = record (a.scene) { noted = n }; over = over })
takes b m a message n over same far is live =
    with_parts (λ (p : RunState). GoesOn b p) a n (with_entry (entry.Received message) a.scene.noted) over a.over is live
    (Further b (noting (entry.Received message) a) (Received message) Still (Takes message a (subst (λ (p : RunState). Advances p (Some message) a) same far)))

pub takes_owed : (b m : RunState) (n : Noted) (over : Bool) → m ≡ b → m.over ≡ false → m.owed ≡ true → m.told ≡ false
    → n ≡ with_entry (entry.Received incoming.GaveUp) m.scene.noted → over ≡ m.over
    → GoesOn b (record m { scene = record (m.scene) { noted = n }; over = over; owed = false; told = true })
takes_owed b m n over same live owed first is stays =
    with_parts (λ (p : RunState). GoesOn b p) (paid m) n (with_entry (entry.Received incoming.GaveUp) m.scene.noted) over m.over is stays
    (subst (λ (p : RunState). GoesOn p (noting (entry.Received incoming.GaveUp) (paid m))) same
    (Further m (noting (entry.Received incoming.GaveUp) (paid m)) (Received incoming.GaveUp) Still (TakesOwed live owed first)))

pub takes_end : (b m a : RunState) (n : Noted) (over : Bool) → m ≡ b → b.over ≡ false → ComesToEnd m a → n ≡ with_end a.scene.noted
    → over ≡ true → GoesOn b (record a { scene = record (a.scene) { noted = n }; over = over })
takes_end b m a n over same live far is done =
    with_parts (λ (p : RunState). GoesOn b p) a n (with_end a.scene.noted) over true is done
    (Further b (ended a) (Received incoming.End) Still (TakesEnd a live (subst (λ (p : RunState). ComesToEnd p a) same far)))

-- memory was wanted after an event
pub starves : (b m a : RunState) (r : Option Incoming) (scene : Scene) (queue : List Arrived) (over : Bool) → Advances b None m → RunsEvent m r a → r ≡ None
    → scene ≡ a.scene → queue ≡ a.queue → over ≡ a.over → ComesToEnd b (record a { scene = scene; queue = queue; over = over; starved = true })
starves b m a r scene queue over before last none s q o =
    subst (λ (p : RunState). ComesToEnd b (starving p)) (λ i. record a { scene = sym s i; queue = sym q i; over = sym o i })
    (IsStarved a (Goes m a None before (subst (λ (x : Option Incoming). RunsEvent m x a) none last)))

-- a post
pub posts : (b : RunState) (to : Endpoint) (r : BlockRequest) (result : Result (Unit {0}) LinkRefusal) (d : Disks) (n : Noted) (over : Bool)
    → b.over ≡ false → LinesUp to r b.scene.disks result d → n ≡ with_entry (entry.Posted to r (is_ok result)) b.scene.noted → over ≡ b.over
    → GoesOn b (record b { scene = record (b.scene) { disks = d; noted = n }; over = over })
posts b to r result d n over unended lines is live =
    with_parts (λ (p : RunState). GoesOn b p) (record b { scene = record (b.scene) { disks = d } }) n
    (with_entry (entry.Posted to r (is_ok result)) b.scene.noted) over b.over is live
    (Further b (posted to r (is_ok result) d b) (Posted to r (is_ok result)) Still (Posts to r result d unended lines))

-- a complaint
pub complains : {D : Type 0} (state : D → DriverState) (b : RunState) (r s : ReincarnationState D) (about : Endpoint) (owed : Bool) (n : Noted) (over : Bool)
    → b.scene.supply ≡ map state r.supply → b.scene.policy ≡ r.policy
    → s ≡ record r { watch = (on b.scene.policy b.scene.watch (policy.Complaint about b.scene.tick)).0 }
    → owed ≡ (b.owed || (gives_up (ruling_at about b.scene) && not b.told && not b.over))
    → n ≡ with_entry (entry.Complained about (is_fault (ruling_at about b.scene))) b.scene.noted → over ≡ b.over
    → GoesOn b (record b {
      scene = record (b.scene) { supply = map state s.supply; policy = s.policy; watch = s.watch; noted = n };
      owed = owed;
      over = over;
    })
complains {D} state b r s about owed n over supply same after owes is live =
    let supply_is : b.scene.supply ≡ map state s.supply = supply ∙ sym (ap (λ (x : ReincarnationState D). map state x.supply) after) in
    let policy_is : b.scene.policy ≡ s.policy = same ∙ sym (ap (λ (x : ReincarnationState D). x.policy) after) in
    let watch_is : (on b.scene.policy b.scene.watch (policy.Complaint about b.scene.tick)).0 ≡ s.watch = sym (ap (λ (x : ReincarnationState D). x.watch) after) in
    subst (λ (p : RunState). GoesOn b p) (λ i. record b {
      scene = record (b.scene) { supply = supply_is i; policy = policy_is i; watch = watch_is i; noted = sym is i };
      owed = sym owes i;
      over = sym live i;
    }) (Further b (complained about b) (Complained about) Still (Complains about))

-- between two calls an event was run, and its message noted
pub hands_event : (b m a : RunState) (message : Incoming) (r : Option Incoming) (n : Noted) (over : Bool) → m ≡ b → RunsEvent m r a → r ≡ Some message
    → n ≡ with_entry (entry.Handed message) a.scene.noted → over ≡ a.over
    → Asides b (Ok r) (record a { scene = record (a.scene) { noted = n }; over = over })
hands_event b m a message r n over same next came is live =
    subst (λ (o : Option Incoming). Asides b (Ok o) (record a { scene = record (a.scene) { noted = n }; over = over })) (sym came)
    (with_parts (λ (p : RunState). Asides b (Ok (Some message)) p) a n (with_entry (entry.Handed message) a.scene.noted) over a.over is live
    (HandsEvent message a (subst (λ (o : Option Incoming). RunsEvent b o a) came (subst (λ (p : RunState). RunsEvent p r a) same next))))

pub hands_none : (b m a : RunState) (r : Option Incoming) → m ≡ b → RunsEvent m r a → r ≡ None → Asides b (Ok r) a
hands_none b m a r same next none =
    subst (λ (o : Option Incoming). Asides b (Ok o) a) (sym none)
    (HandsNone a (subst (λ (o : Option Incoming). RunsEvent b o a) none (subst (λ (p : RunState). RunsEvent p r a) same next)))

pub hands_owed : (b m : RunState) (n : Noted) (over : Bool) → m ≡ b → m.over ≡ false → m.owed ≡ true → m.told ≡ false
    → n ≡ with_entry (entry.Handed incoming.GaveUp) m.scene.noted → over ≡ m.over
    → Asides b (Ok (Some incoming.GaveUp)) (record m { scene = record (m.scene) { noted = n }; over = over; owed = false; told = true })
hands_owed b m n over same live owed first is stays =
    with_parts (λ (p : RunState). Asides b (Ok (Some incoming.GaveUp)) p) (paid m) n (with_entry (entry.Handed incoming.GaveUp) m.scene.noted) over m.over is stays
    (subst (λ (p : RunState). Asides p (Ok (Some incoming.GaveUp)) (noting (entry.Handed incoming.GaveUp) (paid m))) same (HandsOwed live owed first))

pub hands_nothing : (b m : RunState) (error : AllocError) → m ≡ b → Asides b (Err error) (starving m)
hands_nothing b m error same = subst (λ (p : RunState). Asides b (Err error) (starving p)) (sym same) (HandsNothing error)

-- it is told once
pub not_told : (told owed : Bool) → (told ≡ true → owed ≡ false) → owed ≡ true → told ≡ false
not_told true owed once is = absurd (no (sym is ∙ once refl)) where
  no : ◌≡◌ {A = Bool} true false → ⊥
  no h = cc
not_told false owed once is = refl
