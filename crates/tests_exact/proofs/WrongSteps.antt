-- Small changes of the rows, none of which is a step: whatever else is picked, no step from the moment before leads there.
use Rattle.std.specs.Prelude.{◌≡◌, ℕ, ◌≤◌, List, [], ◌∷◌, Bool, true, false, Option, Some, None, refl, get_or}
use Rattle.std.proofs.Common.{arith, ap, sym, ◌∙◌, inl, inr, lit≤}
use Rattle.lemmas.proofs.Options.{some_same}
use Rattle.message.specs.declared.BlockRequest.{BlockRequest}
use Rattle.message.specs.declared.endpoint.Endpoint.{Endpoint}
use Rattle.message.specs.declared.Incoming.{Incoming}
use Rattle.message.specs.declared.Incoming.TheVariants as incoming
use Rattle.tree.specs.declared.Call.{Call}
use Rattle.tree.specs.declared.Call.TheVariants.{Close, Sync}
use Rattle.media.specs.Contents.{MediaState}
use Rattle.reincarnate.specs.Policy.{default_policy}
use Rattle.reincarnate.specs.Watch.{driver}
use Rattle.records.specs.Told.{Told, Posted, Complained, Received}
use Rattle.schedule.specs.Noted.{marks_in}
use Rattle.schedule.specs.declared.Event.TheVariants as event
use Rattle.simulated_link.specs.Moments.{Moment, Doing, Resting, Hearing, Answering, Step, Begins, Tells, Takes, Settles, Brings}
use Rattle.simulated_link.specs.Moments.{BringsNone, Pays, HandsCall, Replies}
use Rattle.simulated_link.specs.RunState.{begun}
use Rattle.simulated_link.specs.Scene.{Scene}
use Rattle.tests_exact.proofs.Small.{area, old_1, torn, new_0, new_1, write_both, other_write, boot_write, close, sync}
use Rattle.tests_exact.proofs.Small.{old_isnt_torn, torn_isnt_old, new_isnt_torn, old_isnt_new, old_isnt_new_0}
use Rattle.tests_exact.proofs.Drivers.{reply_of}
use Rattle.tests_exact.proofs.Making.{after_event}
use Rattle.tests_exact.proofs.Only.{moment_after, next_event, first_call, owed_is_told}
use Rattle.tests_exact.proofs.Determined.{only_flush, only_death, only_restart, only_arrival}
use Rattle.tests_exact.proofs.Determined.{only_hang, only_missed, only_late_start, only_older_death}
use Rattle.tests_exact.proofs.Beginning.{start}
use Rattle.tests_exact.proofs.Telling.{history, told_is_allowed, turn_gives, post_is_so}
use Rattle.tests_exact.proofs.WrongEvents.{older_writes_nothing}
use Rattle.tests_exact.proofs.Stepping.{before, AtMostOne, first_step}
use Rattle.tests_exact.proofs.DeathRow as death
use Rattle.tests_exact.proofs.HungRow as hung
use Rattle.tests_exact.proofs.GivenUpRow as given_up
use Rattle.tests_exact.proofs.RefusedRow as refused

-- no step from this moment leads to one of which this holds
abbrev pub NoStep : Moment → (Moment → Type 0) → Type 0
NoStep m Holds = (a : Moment) → Step area m a → Holds a → ⊥

-- the bytes of these sectors
abbrev sector_0 : Moment → List ℕ
sector_0 m = get_or m.run.scene.disks.media.sectors 4 []

abbrev sector_1 : Moment → List ℕ
sector_1 m = get_or m.run.scene.disks.media.sectors 5 []

-- how many drivers were started
abbrev generation : Moment → ℕ
generation m = m.run.scene.disks.media.generation

-- Driver 1 writes both sectors in one step.
both_at_once : NoStep before (λ a. (sector_0 a ≡ new_0) × (sector_1 a ≡ new_1))
both_at_once a step both = by (first_step a step).media where
  by : AtMostOne a.run.scene.disks.media → ⊥
  by (inl none) = old_isnt_new (sym (ap (λ (m : MediaState). get_or m.sectors 5 []) none) ∙ both.1)
  by (inr (inl first)) = old_isnt_new (sym (ap (λ (m : MediaState). get_or m.sectors 5 []) first) ∙ both.1)
  by (inr (inr second)) = old_isnt_new_0 (sym (ap (λ (m : MediaState). get_or m.sectors 4 []) second) ∙ both.0)

-- The write stays on its line.
left_on_line : NoStep before (λ a. a.run.scene.disks.current.line ≡ write_both ∷ [])
left_on_line a step left = let h : [] ≡ write_both ∷ [] = sym (first_step a step).line ∙ left in cc

-- It fails, and lives on.
lives_on : NoStep before (λ a. (a.run.scene.disks.current.state.failed ≡ true) × (a.run.scene.disks.current.live ≡ true))
lives_on a step failed = let h : false ≡ true = sym ((first_step a step).lives failed.0) ∙ failed.1 in cc

-- The death of driver 1 is skipped, and the tick after it is run.
death_skipped : NoStep death.half (λ a. a.run.next ≡ 4)
death_skipped a step skipped = let h : 3 ≡ 4 = sym (ap (λ (m : Moment). m.run.next) (only_death a step)) ∙ skipped in omega (arith, h)

-- It leaves the sector that it died in as it was.
nothing_torn : NoStep death.half (λ a. sector_1 a ≡ old_1)
nothing_torn a step whole = torn_isnt_old (sym (ap sector_1 (only_death a step)) ∙ whole)

-- It tears the sector that it had written.
other_sector_torn : NoStep death.half (λ a. sector_0 a ≡ torn)
other_sector_torn a step other = new_isnt_torn (sym (ap sector_0 (only_death a step)) ∙ other)

-- It is no fault.
no_fault_noted : NoStep death.half (λ a. marks_in a.run.scene.noted ≡ marks_in death.half.run.scene.noted)
no_fault_noted a step none =
    let h : marks_in death.dead.run.scene.noted ≡ marks_in death.half.run.scene.noted =
    sym (ap (λ (m : Moment). marks_in m.run.scene.noted) (only_death a step)) ∙ none in
    cc

-- Driver 2 is started at the death, without a tick.
started_without_a_tick : NoStep death.half (λ a. generation a ≡ 2)
started_without_a_tick a step early = let h : 1 ≡ 2 = sym (ap generation (only_death a step)) ∙ early in omega (arith, h)

-- At the tick at which its start is due no driver is started.
start_missed : NoStep death.dead (λ a. generation a ≡ 1)
start_missed a step none = let h : 2 ≡ 1 = sym (ap generation (only_restart a step)) ∙ none in omega (arith, h)

-- The server isn't told of the start.
start_not_told : NoStep death.dead (λ a. a.doing ≡ Resting)
start_not_told a step rests =
    let h : Hearing (incoming.Started (driver 2)) ≡ Resting = sym (ap (λ (m : Moment). m.doing) (only_restart a step)) ∙ rests in cc

-- which generation the server hears of
abbrev heard : Doing → ℕ
heard Resting = 0
heard (Hearing (incoming.Started e)) = e.generation
heard (Hearing (incoming.Reply a)) = 0
heard (Hearing incoming.GaveUp) = 0
heard (Hearing incoming.Flush) = 0
heard (Hearing incoming.End) = 0
heard (Answering call) = 0

-- It is told of another generation.
other_generation_told : NoStep death.dead (λ a. a.doing ≡ Hearing (incoming.Started (driver 3)))
other_generation_told a step other =
    let h : 2 ≡ 3 = sym (ap (λ (m : Moment). heard m.doing) (only_restart a step)) ∙ ap heard other in omega (arith, h)

-- The write is posted again to driver 1.
posted_to_the_dead : (accepted : Bool)
    → NoStep death.restarted (λ a. history a.run ≡ Posted (driver 1) write_both accepted ∷ history death.restarted.run)
posted_to_the_dead accepted a step told =
    let may = told_is_allowed area death.restarted a (Posted (driver 1) write_both accepted) step told in
    let h : 2 ≡ 1 = ap (λ (e : Endpoint). e.generation) (some_same (driver 2) (driver 1) may.may.endpoint) in omega (arith, h)

-- Another request is posted in its place.
other_write_posted : (accepted : Bool)
    → NoStep death.restarted (λ a. history a.run ≡ Posted (driver 2) other_write accepted ∷ history death.restarted.run)
other_write_posted accepted a step told =
    let may = told_is_allowed area death.restarted a (Posted (driver 2) other_write accepted) step told in
    let h : 2048 ≡ 2560 = ap (λ (r : BlockRequest). r.position) (some_same write_both other_write may.may.first) in omega (arith, h)

-- A write of the boot block became pending
abbrev boot_begun : Moment
boot_begun = record death.restarted {
  outbox = record { never_issued = boot_write ∷ []; unposted = boot_write ∷ []; stopped = false; complaint = None };
}

-- It isn't posted.
boot_block_written : (accepted : Bool) → NoStep boot_begun (λ a. history a.run ≡ Posted (driver 2) boot_write accepted ∷ history boot_begun.run)
boot_block_written accepted a step told =
    let h : 2048 ≤ 0 = (told_is_allowed area boot_begun a (Posted (driver 2) boot_write accepted) step told).may.fits.lies.0 in
    omega (arith, h)

-- The server rests before it has posted it.
post_skipped : NoStep death.restarted (λ a. a.doing ≡ Resting)
post_skipped _ (Begins r busy may) rests = cc
post_skipped _ (Tells told a busy nothing may turn) rests = cc
post_skipped _ (Takes message call a answers may turn) rests = cc
post_skipped _ (Settles message hears calm) rests = let h : true ≡ false = calm.post in cc
post_skipped _ (Brings message a between none runs) rests = cc
post_skipped _ (BringsNone a between none runs) rests = let h : Hearing (incoming.Started (driver 2)) ≡ Resting = between.rests in cc
post_skipped _ (Pays between owed first) rests = cc
post_skipped _ (HandsCall call a between settled hands) rests = cc
post_skipped _ (Replies call reply answers live calm) rests = cc

-- the generation that a message is from
abbrev sender : Incoming → ℕ
sender (incoming.Reply a) = a.from.generation
sender (incoming.Started e) = 0
sender incoming.GaveUp = 0
sender incoming.Flush = 0
sender incoming.End = 0

-- A message is taken that another generation sent.
other_generation_answers :
    NoStep death.sync_begun (λ a. history a.run ≡ Received (incoming.Reply (reply_of 1)) ∷ history death.sync_begun.run)
other_generation_answers a step told =
    let is = told_is_allowed area death.sync_begun a (Received (incoming.Reply (reply_of 1))) step told in
    elim (turn_gives death.sync_begun.run is.after (Received (incoming.Reply (reply_of 1))) (event.Deliver 0) (incoming.Reply (reply_of 2))
    (incoming.Reply (reply_of 1)) refl refl (λ r s o. o.0) is.turn refl) [
      | inl other ↦ let h : 1 ≡ 2 = ap sender other in omega (arith, h)
      | inr end ↦ let h : incoming.Reply (reply_of 1) ≡ incoming.End = end in cc
    ]

-- A dead driver takes a post.
accepted_by_the_dead : NoStep refused.write_begun (λ a. history a.run ≡ Posted (driver 1) write_both true ∷ history refused.write_begun.run)
accepted_by_the_dead a step told =
    let is = told_is_allowed area refused.write_begun a (Posted (driver 1) write_both true) step told in
    let posted : Told = Posted (driver 1) write_both true in
    let h : false ≡ true = post_is_so refused.write_begun.run is.after posted (driver 1) write_both true is.turn refl in cc

-- A live driver with room refuses it.
refused_by_the_living : NoStep refused.restarted (λ a. history a.run ≡ Posted (driver 2) write_both false ∷ history refused.restarted.run)
refused_by_the_living a step told =
    let is = told_is_allowed area refused.restarted a (Posted (driver 2) write_both false) step told in
    elim (post_is_so refused.restarted.run is.after (Posted (driver 2) write_both false) (driver 2) write_both false is.turn refl) [
      | inl none ↦ let h : true ≡ false = none in cc
      | inr full ↦ let h : 32 ≤ 0 = full in omega (arith, h)
    ]

-- A refused post is tried again before any message came.
tried_at_once : (accepted : Bool)
    → NoStep refused.refused (λ a. history a.run ≡ Posted (driver 1) write_both accepted ∷ history refused.refused.run)
tried_at_once accepted a step told =
    let may = told_is_allowed area refused.refused a (Posted (driver 1) write_both accepted) step told in
    let h : true ≡ false = may.may.not_stopped in cc

-- The server doesn't hear a flush.
flush_unheard : NoStep (start default_policy death.events) (λ a. a.doing ≡ Resting)
flush_unheard a step rests =
    let h : Hearing incoming.Flush ≡ Resting = sym (ap (λ (m : Moment). m.doing) (only_flush a step)) ∙ rests in cc

-- A driver that hangs beats on.
hang_forgotten : NoStep hung.half (λ a. a.run.scene.disks.current.hung ≡ false)
hang_forgotten a step beats =
    let h : true ≡ false = sym (ap (λ (m : Moment). m.run.scene.disks.current.hung) (only_hang a step)) ∙ beats in cc

-- A missed heartbeat is no fault.
miss_forgiven : NoStep hung.hung (λ a. marks_in a.run.scene.noted ≡ marks_in hung.hung.run.scene.noted)
miss_forgiven a step none =
    let h : marks_in hung.missed.run.scene.noted ≡ marks_in hung.hung.run.scene.noted =
    sym (ap (λ (m : Moment). marks_in m.run.scene.noted) (only_missed a step)) ∙ none in
    cc

-- Driver 2 is started at the tick of the fault, before the policy's pause is over.
started_before_the_pause : NoStep hung.hung (λ a. generation a ≡ 2)
started_before_the_pause a step early = let h : 1 ≡ 2 = sym (ap generation (only_missed a step)) ∙ early in omega (arith, h)

-- It isn't started once that is over.
pause_too_long : NoStep hung.missed (λ a. generation a ≡ 1)
pause_too_long a step late = let h : 2 ≡ 1 = sym (ap generation (only_late_start a step)) ∙ late in omega (arith, h)

-- An older driver that dies tears a sector.
older_tears : NoStep hung.stepped (λ a. sector_1 a ≡ torn)
older_tears a step tears = old_isnt_torn (sym (ap sector_1 (only_older_death a step)) ∙ tears)

-- It writes one.
older_writes : NoStep hung.restart_heard (λ a. sector_1 a ≡ new_1)
older_writes a step writes =
    let runs = next_event hung.restart_heard (event.Step 1) refl refl refl refl area a step in
    let same = older_writes_nothing 5 1 (begun (event.Step 1) hung.restart_heard.run.scene) runs.scene runs.result (lit≤ tt) runs.occurs in
    let left : sector_1 a ≡ old_1 = ap sector_1 runs.is ∙ by runs.result runs.scene ∙ ap (λ (m : MediaState). get_or m.sectors 5 []) same in
    old_isnt_new (sym left ∙ writes) where
      by : (r : Option Incoming) (s : Scene)
          → sector_1 (moment_after r (after_event (event.Step 1) s hung.restart_heard.run) hung.restart_heard)
          ≡ get_or s.disks.media.sectors 5 []
      by None s = refl
      by (Some message) s = refl

-- A call is handed out before the server is told that the device was given up.
call_before_told : NoStep given_up.close_done (λ a. a.doing ≡ Answering sync)
call_before_told a step handed =
    let is = owed_is_told given_up.close_done refl refl area a step in
    let h : Hearing incoming.GaveUp ≡ Answering sync = sym (ap (λ (m : Moment). m.doing) is) ∙ handed in cc

-- A bad answer isn't complained of, and the call in which it was taken is answered.
complaint_skipped : NoStep given_up.error_taken (λ a. a.doing ≡ Resting)
complaint_skipped _ (Begins r busy may) rests = cc
complaint_skipped _ (Tells told a busy nothing may turn) rests = cc
complaint_skipped _ (Takes message call a answers may turn) rests = cc
complaint_skipped _ (Settles message hears calm) rests = cc
complaint_skipped _ (Brings message a between none runs) rests = cc
complaint_skipped _ (BringsNone a between none runs) rests = let h : Answering close ≡ Resting = between.rests in cc
complaint_skipped _ (Pays between owed first) rests = cc
complaint_skipped _ (HandsCall call a between settled hands) rests = cc
complaint_skipped _ (Replies call reply answers live calm) rests = let h : Some (driver 1) ≡ None = calm.complaint in cc

-- Another driver is complained of.
other_complained_of : NoStep given_up.error_taken (λ a. history a.run ≡ Complained (driver 2) ∷ history given_up.error_taken.run)
other_complained_of a step told =
    let may : Some (driver 1) ≡ Some (driver 2) = (told_is_allowed area given_up.error_taken a (Complained (driver 2)) step told).may in
    let h : 1 ≡ 2 = ap (λ (e : Endpoint). e.generation) (some_same (driver 1) (driver 2) may) in omega (arith, h)

-- A call is handed out that didn't arrive.
call_made_up : NoStep death.written (λ a. a.doing ≡ Answering close)
call_made_up a step handed = let h : Resting ≡ Answering close = sym (ap (λ (m : Moment). m.doing) (only_arrival a step)) ∙ handed in cc

-- two calls wait
abbrev two_wait : Moment
two_wait = record death.sync_waits { run = record (death.sync_waits.run) { queue = sync ∷ close ∷ [] } }

-- The second of them is handed out.
second_call_first : NoStep two_wait (λ a. a.doing ≡ Answering close)
second_call_first a step handed =
    let is = first_call two_wait sync (close ∷ []) refl refl refl area a step in
    let h : Answering sync ≡ Answering close = sym (ap (λ (m : Moment). m.doing) is) ∙ handed in
    let same : Sync ≡ Close 0 = ap call_in h in cc where
      call_in : Doing → Call
      call_in Resting = Sync
      call_in (Hearing message) = Sync
      call_in (Answering call) = call.call

-- Once all was done something more is.
more_done : NoStep death.sync_done (λ a. Unit {0})
more_done _ (Begins r busy may) more = cc
more_done _ (Tells told a busy nothing may turn) more = cc
more_done _ (Takes message call a answers may turn) more = cc
more_done _ (Settles message hears calm) more = cc
more_done _ (Brings message a between none runs) more = let h : None ≡ Some runs.event = runs.is in cc
more_done _ (BringsNone a between none runs) more = let h : None ≡ Some runs.event = runs.is in cc
more_done _ (Pays between owed first) more = cc
more_done _ (HandsCall call a between settled hands) more = let h : Some call ≡ None = hands.first in cc
more_done _ (Replies call reply answers live calm) more = cc
