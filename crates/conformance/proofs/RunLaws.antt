-- At each moment of a run each reply stands at a step of its driver.
use Rattle.std.proofs.Common.{◌≡◌, ℕ, ◌<◌, List, [], ◌∷◌, length, Bool, true, false, refl, sym, ◌∙◌, subst, arith}
use Rattle.std.proofs.lemmas.Bool.Decides.{nat_tests}
use Rattle.std.specs.Prelude.{◌&&◌, ◌==◌, not}
use Rattle.bdev.specs.DriverState.{DriverState, is_fresh}
use Rattle.media.specs.Contents.{MediaState}
use Rattle.reincarnate.specs.declared.policy.Policy.{Policy}
use Rattle.schedule.specs.Groups.{Each}
use Rattle.conformance.specs.Seen.{core_at}
use Rattle.conformance.specs.Said.{IsSaid, StandsBefore}
use Rattle.conformance.proofs.SaidLaws.{runs_said}
use Rattle.conformance.proofs.OpeningLaws.{opened_scene, opened_said, opened_follows, calm_before}
use Rattle.conformance.specs.Sending.{RunsKeepSteps}
use Rattle.conformance.proofs.IssuedMarks.{all_new}
use Rattle.conformance.proofs.SendLaws.{SendsSoFar, SendsWell, sends_kept}

-- a new driver took nothing and hasn't failed
took_nothing : (d : DriverState) → is_fresh d ≡ true → d.last ≡ 0
took_nothing d new = by (d.last == 0) refl d.failed new where
  by : (b : Bool) → (d.last == 0) ≡ b → (failed : Bool) → (b && not failed) ≡ true → d.last ≡ 0
  by true is failed ok = grind (arith, nat_tests, is)
  by false is failed ok = cc

has_not_failed : (d : DriverState) → is_fresh d ≡ true → d.failed ≡ false
has_not_failed d new = by (d.last == 0) d.failed new where
  by : (b failed : Bool) → (b && not failed) ≡ true → failed ≡ false
  by b false ok = refl
  by true true ok = cc
  by false true ok = cc

all_are : (P : DriverState → Type 0) (supply : List DriverState) → ((d : DriverState) → is_fresh d ≡ true → P d) → Each (λ d. is_fresh d ≡ true) supply → Each P supply
all_are P [] f each = tt
all_are P (d ∷ supply) f each = (f d each.0, all_are P supply f each.1)

opened_sends : (media : MediaState) (rules : Policy) (supply : List DriverState) (first : DriverState) (rest : List DriverState) → media.generation ≡ 0
    → supply ≡ first ∷ rest → Each (λ d. is_fresh d ≡ true) (first ∷ rest)
    → SendsSoFar (length supply) 0 [] (core_at (opened_scene media rules (length supply) first rest) false false)
opened_sends media rules supply first rest none spare new = record {
  slots = record {
    follows = opened_follows media rules supply first rest none spare;
    numbered = omega (arith, none);
    fresh = all_are (λ d. d.failed ≡ false) rest has_not_failed new.1;
    slots = record {
      older = λ at s there. cc;
      current = record { live = λ alive. refl; failed = λ fails. absurd (clash (sym (has_not_failed first new.0) ∙ fails)) };
    };
    unstarted = λ h low. refl;
  };
  answered = record { places = refl; sent = tt; order = refl; each = tt };
  issues = record { new = λ id. refl; yet = λ g id low. refl };
  posts = tt;
  fresh = all_are (λ d. d.last ≡ 0) rest took_nothing new.1;
  works = record {
    older = λ at s there. cc;
    current = record { line = tt; works = λ alive took. absurd (some first.last (took_nothing first new.0) took) };
  };
  steps = tt;
} where
  clash : ◌≡◌ {A = Bool} false true → ⊥
  clash is = cc

  some : (n : ℕ) → n ≡ 0 → 0 < n → ⊥
  some n is low = omega (arith, is, low)

pub runs_keep_steps : RunsKeepSteps
runs_keep_steps media rules supply events area b a none new o rests runs placed =
    let n : ℕ = length supply in
    let owned : IsSaid (SendsWell n) a.run = runs_said (SendsWell n) (sends_kept n) area b a runs (calm_before media rules supply events b o)
    (StandsBefore rests o.queue o.owed)
    (opened_said (SendsWell n) media rules supply events b.run o (λ ok. opened_sends media rules supply o.scene.first o.scene.rest none o.scene.spare
    (subst (λ (l : List DriverState). Each (λ d. is_fresh d ≡ true) l) o.scene.spare new))) in
    (owned.said (all_new a.run.scene.noted.groups placed)).steps
