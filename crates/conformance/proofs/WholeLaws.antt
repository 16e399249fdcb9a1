-- All that justifies a run, put together.
use Rattle.std.proofs.Common.{◌≡◌, ℕ, ◌+◌, ◌≤◌, List, [], ◌∷◌, ◌++◌, length, Bool, true, false, cond, inl, inr, refl, sym, ◌∙◌, ap, subst, arith}
use Rattle.std.specs.Prelude.{◌⊎◌, ◌&&◌, not, ◌==◌, Option, Some, None, IfSome}
use Rattle.message.specs.declared.endpoint.Endpoint.{Endpoint}
use Rattle.message.specs.declared.BlockRequest.{BlockRequest}
use Rattle.bdev.specs.DriverState.{DriverState, Work}
use Rattle.bdev.specs.Promises.{requests_in_work}
use Rattle.reincarnate.specs.declared.policy.Policy.{Policy}
use Rattle.records.specs.Marks.{Mark}
use Rattle.records.specs.Open.{IsWellFormed}
use Rattle.records.specs.Acts.{Outbox, MayPost}
use Rattle.schedule.specs.declared.Sent.{Sent}
use Rattle.schedule.specs.declared.Event.{Event}
use Rattle.schedule.specs.Groups.{Group, marks_of, running, generation, Each, EachGroup}
use Rattle.schedule.specs.Faults.{ExitsOfGroup, HasNotFailed}
use Rattle.schedule.specs.Starts.{GivingUpOfGroup}
use Rattle.schedule.specs.Calls.{CallsSoFar, taken}
use Rattle.schedule.specs.Justified.{AnswersAndFlushes, GroupKeeps}
use Rattle.simulated_link.specs.Disks.{is_at}
use Rattle.simulated_link.specs.Moments.{Moment, Resting, Runs, record_of}
use Rattle.schedule.specs.Noted.{marks_in}
use Rattle.conformance.specs.Steady.{StartsAsDue, HungAsDue, drivers_of}
use Rattle.conformance.specs.Complaining.{ComplaintsAsDue}
use Rattle.conformance.specs.Shown.{EventsJustified}
use Rattle.conformance.proofs.ShownLaws.{runs_show_events}
use Rattle.conformance.specs.Said.{PlacedAsDue}
use Rattle.conformance.specs.Issuing.{FollowedAsDue, HasNoWork}
use Rattle.conformance.proofs.PlaceLaws.{runs_keep_places, runs_end_followed}
use Rattle.conformance.proofs.RoomLaws.{runs_keep_room}
use Rattle.conformance.specs.Acting.{ActsAsDue}
use Rattle.conformance.proofs.ActLaws.{runs_keep_acts}
use Rattle.conformance.proofs.LeavingLaws.{runs_keep_waits}
use Rattle.conformance.specs.Took.{TookNothing}
use Rattle.conformance.proofs.TakingLaws.{runs_keep_took}
use Rattle.conformance.proofs.ReplyLaws.{runs_keep_replies}
use Rattle.conformance.proofs.RunLaws.{runs_keep_steps}
use Rattle.conformance.specs.Whole.{IsUnused, IsAtEnd, RunsAreWhole}

-- each of these keeps what follows from what it keeps
each_so : (P Q : DriverState → Type 0) → ((d : DriverState) → P d → Q d) → (drivers : List DriverState) → Each P drivers → Each Q drivers
each_so P Q so [] h = tt
each_so P Q so (d ∷ drivers) h = (so d h.0, each_so P Q so drivers h.1)

-- a driver that was never used took nothing, works on nothing and hasn't failed
unused_fresh : (last : ℕ) (failed : Bool) → ((last == 0) && not failed) ≡ true → (last ≡ 0) × (failed ≡ false)
unused_fresh last true h = absurd (by (last == 0) h) where
  by : (b : Bool) → (b && false) ≡ true → ⊥
  by true e = cc
  by false e = cc
unused_fresh last false h = (grind (arith, h), refl)

none_in_work : (work : Option Work) (bad last : ℕ) → bad + requests_in_work work ≤ last → last ≡ 0 → work ≡ None
none_in_work None bad last few none = refl
none_in_work (Some w) bad last few none = absurd (omega (arith, few, none))

-- at each event, from what was shown of each clause
all_keep : (policy : Policy) (supply : ℕ) (sent : List Sent) (drivers : List DriverState) (groups : List Group)
    → EachGroup (λ event group earlier. ExitsOfGroup drivers event group earlier) groups → EachGroup (HungAsDue policy) groups → EachGroup ComplaintsAsDue groups
    → EachGroup (StartsAsDue policy) groups → EachGroup (λ event group earlier. GivingUpOfGroup policy supply event group earlier) groups
    → EachGroup FollowedAsDue groups → EachGroup PlacedAsDue groups → EachGroup (λ event group earlier. AnswersAndFlushes sent event group earlier) groups
    → EachGroup (λ event group earlier. CallsSoFar ((event, group) ∷ earlier)) groups → EachGroup (ActsAsDue sent) groups
    → EachGroup (GroupKeeps policy supply sent drivers) groups
all_keep policy supply sent drivers [] exits hung complaints starts giving_up issues places answers calls acts = tt
all_keep policy supply sent drivers (g ∷ groups) exits hung complaints starts giving_up issues places answers calls acts = (
  record {
    faults = record {
      exits = exits.0;
      hung = hung.0;
      complaints = complaints.0;
      starts = starts.0;
      giving_up = giving_up.0;
      issues = issues.0;
      in_place = places.0;
    };
    answers = answers.0;
    calls = calls.0;
    acts = acts.0;
  },
  all_keep policy supply sent drivers groups exits.1 hung.1 complaints.1 starts.1 giving_up.1 issues.1 places.1 answers.1 calls.1 acts.1,
)

-- a run that rests, or whose link has ended
rests_or_over : (m : Moment) → ((m.doing ≡ Resting) × (m.run.queue ≡ [])) ⊎ (m.run.over ≡ true) → (m.doing ≡ Resting) ⊎ (m.run.over ≡ true)
rests_or_over m (inl rests) = inl rests.0
rests_or_over m (inr over) = inr over

pub runs_are_whole : RunsAreWhole
runs_are_whole media rules supply events area b a new unused o rests none runs end left order =
    let groups : List Group = a.run.scene.noted.groups in
    let drivers : List DriverState = drivers_of a.run.scene.disks in
    let unfailed : Each (λ d. d.failed ≡ false) supply =
    each_so IsUnused (λ d. d.failed ≡ false) (λ d h. (unused_fresh d.last d.failed h.fresh).1) supply unused in
    let idle : Each HasNoWork supply = each_so IsUnused HasNoWork
    (λ d h. record { idle = none_in_work d.work d.bad d.last h.driver.bad_is_few (unused_fresh d.last d.failed h.fresh).0 }) supply unused in
    let ready : Each TookNothing supply = each_so IsUnused TookNothing
    (λ d h. record { driver = h.driver; unused = (unused_fresh d.last d.failed h.fresh).0 }) supply unused in
    let e : EventsJustified rules supply groups (marks_in a.run.scene.noted) a.run.scene.disks.sent drivers =
    runs_show_events media rules supply events area b a new unfailed o rests (ap (λ (x : Outbox). x.complaint) none) runs end.calm end.paid in
    let places : EachGroup PlacedAsDue groups = runs_keep_places media rules supply events area b a new unfailed o rests none runs in
    let calls : EachGroup (λ event group earlier. CallsSoFar ((event, group) ∷ earlier)) groups =
    runs_keep_waits media rules supply events area b a new o rests none runs
    (λ m before to r may at. runs_keep_room media rules supply events area b m new unfailed idle o rests none before to r may at) end.ends in
    let formed : IsWellFormed (marks_of groups) = subst IsWellFormed (sym e.record_is) end.well_formed in
    record {
      record_is = e.record_is;
      justified = record {
        events = all_keep rules (length supply) a.run.scene.disks.sent drivers groups e.exits e.hung e.complaints e.starts e.giving_up
            (runs_end_followed media rules supply events area b a new unfailed o rests none runs (rests_or_over a end.ends)) places e.answers calls
            (runs_keep_acts media rules supply events area b a o rests runs);
        drivers_stand = record {
          all = subst (λ (m : List Mark). length drivers ≡ generation m) (sym e.record_is) e.all;
          handed_in = e.handed_in;
          took = runs_keep_took media rules supply events area b a new ready o rests runs;
          sound = subst (λ (m : List Mark). HasNotFailed drivers (running m)) (sym e.record_is) e.sound;
          failures = e.failures;
        };
        replies_stand = record {
          order = e.replies_order;
          steps = runs_keep_steps media rules supply events area b a new (each_so IsUnused _ (λ d h. h.fresh) supply unused) o rests runs places;
          own = runs_keep_replies media rules supply events area b a new ready o rests runs places formed;
        };
        calls_left = record { left = left; order = order ∙ ap (λ (m : List Mark). left ++ taken m) (sym e.record_is); number = refl };
      };
    }
