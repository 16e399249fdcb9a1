-- What each group keeps, each event and what is done within it keep.
use Rattle.std.proofs.Common.{◌≡◌, ℕ, ◌+◌, List, [], ◌∷◌, ◌++◌, Bool, true, false, refl, sym, ◌∙◌, subst}
use Rattle.reincarnate.specs.declared.policy.Policy.{Policy}
use Rattle.records.specs.Marks.{Mark}
use Rattle.schedule.specs.declared.Event.{Event}
use Rattle.schedule.specs.Groups.{Group, EachGroup}
use Rattle.conformance.specs.Core.{Core, FollowsGroups}
use Rattle.conformance.specs.Happens.{TicksTo, Beats, MissesOne, FoundHung, WaitsOn, StartsNext, IsOver, beaten_core, Begins, Arrives, Flushes, Answers, Drops, Delivers, LinesAgain, HangsOne, StepsOne, FailsOne, DiesNone, DiesOne, Ticks, Adds, AddsNothing, Posts, Replies, Complains, Pays}
use Rattle.conformance.specs.Steady.{IsKept, EachSoFar, StartsAsDue, HungAsDue, FlushesAsDue}
use Rattle.conformance.proofs.TickLaws.{follows_begins, follows_adds}
use Rattle.conformance.proofs.StartLaws.{starts_begins, starts_adds, hung_begins, hung_adds, flushes_begins, flushes_adds}

tick_policy : (c a : Core) (marks : List Mark) → TicksTo c marks a → a.policy ≡ c.policy
tick_policy c _ _ (Beats last count is same) = refl
tick_policy c _ _ (MissesOne last count is same few) = refl
tick_policy c _ _ (FoundHung last count ends after is same enough fault) = refl
tick_policy c _ _ (WaitsOn until is early) = refl
tick_policy c _ _ (StartsNext until d rest is come spare) = refl
tick_policy c _ _ (IsOver is) = refl

-- the policy stays
pub begins_policy : (place : ℕ) (groups : List Group) (c a : Core) (event : Event) (marks : List Mark) → Begins place groups c event marks a → a.policy ≡ c.policy
begins_policy place groups c _ _ _ (Arrives who now call) = refl
begins_policy place groups c _ _ _ Flushes = refl
begins_policy place groups c _ _ _ (Answers n s there counts) = refl
begins_policy place groups c _ _ _ (Drops n s there counts) = refl
begins_policy place groups c _ _ _ (Delivers n there) = refl
begins_policy place groups c _ _ _ (LinesAgain n p d same again) = refl
begins_policy place groups c _ _ _ (HangsOne g d hangs) = refl
begins_policy place groups c _ _ _ (StepsOne g step d steps well) = refl
begins_policy place groups c _ _ _ (FailsOne g d ends after steps report) = refl
begins_policy place groups c _ _ _ (DiesNone g bytes d dies) = refl
begins_policy place groups c _ _ _ (DiesOne g bytes d ends after dies report) = refl
begins_policy place groups c a _ marks (Ticks _ _ ticks) = tick_policy (beaten_core c) a marks ticks

pub adds_policy : (c a : Core) (marks : List Mark) → Adds c marks a → a.policy ≡ c.policy
adds_policy c _ _ AddsNothing = refl
adds_policy c _ _ (Posts r to d lines) = refl
adds_policy c _ _ (Replies who now call answer) = refl
adds_policy c _ _ (Complains about ends after report) = refl
adds_policy c _ _ (Pays owed) = refl

-- where an event has it from what was known, and no more marks of it take it away
pub each_kept : (drivers : ℕ) (Keeps : Policy → Event → List Mark → List Group → Type 0)
    → ((place : ℕ) (groups : List Group) (c a : Core) (event : Event) (marks : List Mark) → FollowsGroups drivers groups c → c.owed ≡ false
    → Begins place groups c event marks a → Keeps c.policy event marks groups)
    → ((c a : Core) (marks group : List Mark) (policy : Policy) (event : Event) (earlier : List Group) → Adds c marks a
    → Keeps policy event group earlier → Keeps policy event (marks ++ group) earlier)
    → IsKept (EachSoFar drivers Keeps)
each_kept drivers Keeps at_event within = record {
  begins = λ place groups c a event marks paid begins h. record {
    follows = follows_begins drivers place groups c a event marks h.follows begins;
    each = subst (λ (p : Policy). EachGroup (Keeps p) ((event, marks) ∷ groups)) (sym (begins_policy place groups c a event marks begins))
        (at_event place groups c a event marks h.follows paid begins, h.each);
  };
  adds = λ place event group earlier c a marks adds h. record {
    follows = follows_adds drivers event group earlier c a marks h.follows adds;
    each = subst (λ (p : Policy). EachGroup (Keeps p) ((event, marks ++ group) ∷ earlier)) (sym (adds_policy c a marks adds))
        (within c a marks group c.policy event earlier adds h.each.0, h.each.1);
  };
}

pub starts_kept : (drivers : ℕ) → IsKept (EachSoFar drivers StartsAsDue)
starts_kept drivers = each_kept drivers StartsAsDue
    (λ place groups c a event marks h paid begins. starts_begins drivers place groups c a event marks h paid begins)
    (λ c a marks group policy event earlier adds h. starts_adds c a marks group adds ∙ h)

pub hung_kept : (drivers : ℕ) → IsKept (EachSoFar drivers HungAsDue)
hung_kept drivers = each_kept drivers HungAsDue
    (λ place groups c a event marks h paid begins. hung_begins drivers place groups c a event marks h begins)
    (λ c a marks group policy event earlier adds h. hung_adds c a marks group adds ∙ h)

pub flushes_kept : (drivers : ℕ) → IsKept (EachSoFar drivers FlushesAsDue)
flushes_kept drivers = each_kept drivers FlushesAsDue
    (λ place groups c a event marks h paid begins. flushes_begins place groups c a event marks begins)
    (λ c a marks group policy event earlier adds h. flushes_adds c a marks group adds ∙ h)
