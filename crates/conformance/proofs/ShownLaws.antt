-- What justifies a run that was run out, put together.
use Rattle.std.proofs.Common.{◌≡◌, List, [], ◌∷◌, length, false, refl, sym, ◌∙◌, subst}
use Rattle.std.specs.Prelude.{None}
use Rattle.message.specs.declared.endpoint.Endpoint.{Endpoint}
use Rattle.bdev.specs.DriverState.{DriverState}
use Rattle.reincarnate.specs.declared.policy.Policy.{Policy}
use Rattle.records.specs.Marks.{Mark}
use Rattle.schedule.specs.declared.Event.{Event}
use Rattle.schedule.specs.Groups.{Group, running, generation, EachGroup}
use Rattle.schedule.specs.Faults.{HasNotFailed}
use Rattle.conformance.specs.Core.{Core}
use Rattle.conformance.specs.Steady.{IsKept, StartsAsDue, HungAsDue, GivesUpAsDue, FlushesAsDue, drivers_of}
use Rattle.conformance.proofs.SteadyLaws.{begins_policy, adds_policy}
use Rattle.simulated_link.specs.StateView.{IsOpened}
use Rattle.conformance.specs.Said.{IsSaid}
use Rattle.conformance.specs.RunLaws.{RunJustified}
use Rattle.conformance.specs.Shown.{RunsShowEvents}
use Rattle.conformance.proofs.AllLaws.{runs_keep_all}
use Rattle.conformance.proofs.FailureLaws.{runs_keep_failures}
use Rattle.conformance.proofs.OpeningLaws.{opened_said, begins_before, calm_before}
use Rattle.conformance.proofs.SaidLaws.{runs_said}

-- the policy stays
policy_kept : (rules : Policy) → IsKept (λ place groups c. c.policy ≡ rules)
policy_kept rules = record {
  begins = λ place groups c a event marks paid begins said. begins_policy place groups c a event marks begins ∙ said;
  adds = λ place event group earlier c a marks adds said. adds_policy c a marks adds ∙ said;
}

-- what each group keeps of two things it keeps of both
each_both : (P Q R : Event → List Mark → List Group → Type 0) → ((event : Event) (group : List Mark) (earlier : List Group) → P event group earlier
    → Q event group earlier → R event group earlier) → (groups : List Group) → EachGroup P groups → EachGroup Q groups → EachGroup R groups
each_both P Q R both [] p q = tt
each_both P Q R both (g ∷ groups) p q = (both g.0 g.1 groups p.0 q.0, each_both P Q R both groups p.1 q.1)

pub runs_show_events : RunsShowEvents
runs_show_events media rules supply events area b a new ready o rests none runs calm paid =
    let x : RunJustified supply a = runs_keep_all media rules supply events area b a new ready o rests none runs in
    let kept : IsSaid (λ place groups c. c.policy ≡ rules) a.run = runs_said (λ place groups c. c.policy ≡ rules) (policy_kept rules) area b a runs
    (calm_before media rules supply events b o) (begins_before media rules supply events b o rests)
    (opened_said (λ place groups c. c.policy ≡ rules) media rules supply events b.run o refl) in
    let groups = a.run.scene.noted.groups in
    let drivers = drivers_of a.run.scene.disks in
    record {
      record_is = x.events.record_is;
      exits = x.events.exits;
      hung = subst (λ (p : Policy). EachGroup (HungAsDue p) groups) kept.said x.events.hung;
      complaints = x.complaints calm;
      starts = subst (λ (p : Policy). EachGroup (StartsAsDue p) groups) kept.said x.events.starts;
      giving_up = each_both _ _ _ (λ event group earlier p q. record { times = p; after_fault = q }) groups
          (subst (λ (p : Policy). EachGroup (GivesUpAsDue (length supply) p) groups) kept.said (x.events.given_up paid)) x.after_fault;
      answers = each_both _ _ _ (λ event group earlier p q. record { answered = p; flushed = q }) groups x.events.answered x.events.flushed;
      ordered = x.ordered;
      all = subst (λ (m : List Mark). length drivers ≡ generation m) x.events.record_is x.events.all;
      handed_in = x.events.handed_in;
      sound = subst (λ (m : List Mark). HasNotFailed drivers (running m)) x.events.record_is x.events.sound;
      failures = runs_keep_failures media rules supply events area b a new ready o rests runs;
      replies_order = x.events.replies_order;
    }
