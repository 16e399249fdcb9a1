-- What a turn comes to, and a run.
use Rattle.std.proofs.Common.{◌≡◌, ℕ, ◌+◌, ◌<◌, ◌≤◌, true, false, ◌∙◌, ap, subst, arith}
use Rattle.std.specs.Prelude.{Option, Some, None, length}
use Rattle.records.specs.ServerCall.{Serving}
use Rattle.reissue.specs.Calls.{Truth}
use Rattle.schedule.specs.declared.arrived.Arrived.{Arrived}
use Rattle.simulated_link.specs.StateView.{RunState, HandsOut, work_left}
use Rattle.simulated_link.specs.Moments.{Resting, Answering}
use Rattle.simulated_link.proofs.Leading.{calls_lead_on}
use Rattle.world.specs.declared.run_loop.course.Course.{Course}
use Rattle.world.specs.declared.run_loop.course.Course.TheVariants.{More, Done, Cut}
use Rattle.world.specs.Runs.{RunsOn, IsLive, IsIdle, IsNext, RunsOne, AnswersTo, GoesFurther, IsDone, IsCut, ComesTo, EndsAs, doing_of, doing_after}
use Rattle.world.proofs.Standing.{runs_joins}
use Rattle.world.proofs.Stepping.{none_left}

-- the call that was handed out is being answered
pub answering : (t : Serving) (m : RunState) (call : Arrived) (first : Option Arrived) → first ≡ Some call → IsLive (doing_of first) t m → IsLive (Answering call) t m
answering t m call first is live = subst (λ (o : Option Arrived). IsLive (doing_of o) t m) is live

-- what came of the call is what the turn comes to
pub call_comes : (c : Course) (s t u : Serving) (was then is : Truth) (b m a : RunState) (call : Arrived) (first : Option Arrived) → first ≡ Some call
    → HandsOut b first m → RunsOn s t was then b m Resting (doing_of first) → RunsOn t u then is m a (Answering call) (doing_after c call)
    → AnswersTo c call u a → ComesTo c s u was is b a
call_comes c s t u was then is b m a call first is_call hands before runs answers = by c runs answers where
  first_runs : RunsOn s t was then b m Resting (Answering call)
  first_runs = subst (λ (o : Option Arrived). RunsOn s t was then b m Resting (doing_of o)) is_call before

  less : work_left m < work_left b
  less = (calls_lead_on b m (Some call) (subst (λ (o : Option Arrived). HandsOut b o m) is_call hands)).less

  by : (c : Course) → RunsOn t u then is m a (Answering call) (doing_after c call) → AnswersTo c call u a → ComesTo c s u was is b a
  by More runs answers = record {
    runs = runs_joins s t u was then is b m a Resting (Answering call) Resting first_runs runs;
    idle = answers;
    less = (let h : work_left m < work_left b = less in omega (arith, h, runs.leads.work));
  }
  by Done runs answers = absurd answers
  by Cut runs answers = record {
    call = call;
    runs = runs_joins s t u was then is b m a Resting (Answering call) (Answering call) first_runs runs;
    cut = answers;
  }

-- none was handed out: the next event may be run
pub none_out : (s t : Serving) (was then : Truth) (b m : RunState) (first : Option Arrived) → first ≡ None → RunsOn s t was then b m Resting (doing_of first)
    → RunsOn s t was then b m Resting Resting
none_out s t was then b m first none runs = subst (λ (o : Option Arrived). RunsOn s t was then b m Resting (doing_of o)) none runs

pub still_idle : (t : Serving) (m : RunState) (first : Option Arrived) → first ≡ None → IsLive (doing_of first) t m → IsIdle t m
still_idle t m first none live = subst (λ (o : Option Arrived). IsLive (doing_of o) t m) none live

pub is_next : (b m : RunState) (first : Option Arrived) → first ≡ None → HandsOut b first m → m.next < length m.events → IsNext m
is_next b m first none hands low = record { left = low; queue = none_left b m (subst (λ (o : Option Arrived). HandsOut b o m) none hands) }

pub event_comes : (s t u : Serving) (was then is : Truth) (b m a : RunState) (first : Option Arrived) → first ≡ None
    → RunsOn s t was then b m Resting (doing_of first) → RunsOn t u then is m a Resting Resting → IsIdle u a → RunsOne m a → ComesTo More s u was is b a
event_comes s t u was then is b m a first none before runs idle one =
    let joined : RunsOn s t was then b m Resting Resting = none_out s t was then b m first none before in
    record {
      runs = runs_joins s t u was then is b m a Resting Resting Resting joined runs;
      idle = idle;
      less = omega (arith, joined.leads.work, one.less);
    }

pub nothing_left : (s t : Serving) (was then : Truth) (b m : RunState) (first : Option Arrived) → first ≡ None → HandsOut b first m
    → RunsOn s t was then b m Resting (doing_of first) → IsLive (doing_of first) t m → b.owed ≡ false → (m.next < length m.events → ⊥)
    → ComesTo Done s t was then b m
nothing_left s t was then b m first none hands runs live paid past = record {
  runs = none_out s t was then b m first none runs;
  idle = still_idle t m first none live;
  out = record {
    events = omega (arith, past);
    paid = ap (λ (p : RunState). p.owed) hands.after ∙ paid;
    queue = none_left b m (subst (λ (o : Option Arrived). HandsOut b o m) none hands);
  };
}

-- a turn of a run
comes_at : (c d : Course) (s t : Serving) (was is : Truth) (b a : RunState) → c ≡ d → ComesTo c s t was is b a → ComesTo d s t was is b a
comes_at c d s t was is b a same comes = subst (λ (x : Course). ComesTo x s t was is b a) same comes

goes_further : (c : Course) (t u : Serving) (then is : Truth) (m a : RunState) → c ≡ More → ComesTo c t u then is m a → GoesFurther t u then is m a
goes_further c t u then is m a same comes = comes_at c More t u then is m a same comes

pub goes_more : (c : Course) (t u : Serving) (then is : Truth) (m a : RunState) (k n most : ℕ) → c ≡ More → ComesTo c t u then is m a → k ≤ n + 1
    → n + work_left m ≤ most → k + work_left a ≤ most
goes_more c t u then is m a k n most same comes one few =
    let x : GoesFurther t u then is m a = goes_further c t u then is m a same comes in omega (arith, x.less, one, few)

pub more_runs : (c : Course) (s t u : Serving) (was then is : Truth) (b m a : RunState) → c ≡ More → RunsOn s t was then b m Resting Resting
    → ComesTo c t u then is m a → RunsOn s u was is b a Resting Resting
more_runs c s t u was then is b m a same before comes =
    runs_joins s t u was then is b m a Resting Resting Resting before (goes_further c t u then is m a same comes).runs

pub more_idle : (c : Course) (t u : Serving) (then is : Truth) (m a : RunState) → c ≡ More → ComesTo c t u then is m a → IsIdle u a
more_idle c t u then is m a same comes = (goes_further c t u then is m a same comes).idle

pub goes_less : (c : Course) (t u : Serving) (then is : Truth) (m a : RunState) → c ≡ More → ComesTo c t u then is m a → work_left a < work_left m
goes_less c t u then is m a same comes = (goes_further c t u then is m a same comes).less

-- its last one
pub ends_done : (c : Course) (s t u : Serving) (was then is : Truth) (b m a : RunState) → c ≡ Done → RunsOn s t was then b m Resting Resting
    → ComesTo c t u then is m a → EndsAs false s u was is b a
ends_done c s t u was then is b m a same before comes = by (comes_at c Done t u then is m a same comes) where
  by : IsDone t u then is m a → EndsAs false s u was is b a
  by x = record { runs = runs_joins s t u was then is b m a Resting Resting Resting before x.runs; idle = x.idle; out = x.out }

pub ends_cut : (c : Course) (s t u : Serving) (was then is : Truth) (b m a : RunState) → c ≡ Cut → RunsOn s t was then b m Resting Resting
    → ComesTo c t u then is m a → EndsAs true s u was is b a
ends_cut c s t u was then is b m a same before comes = by (comes_at c Cut t u then is m a same comes) where
  by : IsCut t u then is m a → EndsAs true s u was is b a
  by x = record { call = x.call; runs = runs_joins s t u was then is b m a Resting Resting (Answering x.call) before x.runs; cut = x.cut }
