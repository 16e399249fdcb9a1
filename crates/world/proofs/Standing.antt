-- A server over its link leads on through what is done at the link, through messages and through calls.
use Rattle.std.proofs.Common.{◌≡◌, ◌⊎◌, ◌<◌, List, [], ◌∷◌, ◌++◌, Bool, true, false, refl, sym, ◌∙◌, ap, subst, arith}
use Rattle.std.specs.Prelude.{ℕ, ◌||◌, ◌&&◌, not, Option, Some, None, Result, Ok, Err, IfOk, IsTrue, OnOk, OnErr}
use Rattle.std.specs.declared.alloc.AllocError.{AllocError}
use Rattle.lemmas.proofs.Bools.{is_false, true_not_false}
use Rattle.layout.specs.declared.Geometry.{Geometry}
use Rattle.message.specs.declared.BlockRequest.{BlockRequest}
use Rattle.message.specs.declared.Incoming.{Incoming}
use Rattle.message.specs.declared.Incoming.TheVariants.{Flush}
use Rattle.tree.specs.Tree.{Tree}
use Rattle.tree.specs.declared.Reply.{Reply}
use Rattle.tree.specs.Answers.{Answer, answer_of}
use Rattle.records.specs.Marks.{Mark, Took, gave_up}
use Rattle.records.specs.Disk.{Contents, HasTrueReplies}
use Rattle.records.specs.Legal.{tree_after}
use Rattle.records.specs.Settled.{only_looks}
use Rattle.records.specs.Opening.{Opening, contents_at}
use Rattle.records.specs.Told.{received, took_end}
use Rattle.records.specs.Acts.{Absorbed, Outbox, told_of, marks_after, owed_after_message, IsAtRest}
use Rattle.records.specs.Flushes.{FlushesOn, FrameState, OvertakesNone, pending_requests}
use Rattle.records.specs.ServerCall.{Serving, Serves, Outcome, Replied, Cut as WasCutOff, state_of}
use Rattle.records.specs.Area.{Area, area_of}
use Rattle.reissue.specs.Calls.{Truth}
use Rattle.simulated_link.specs.Kept.{with_next}
use Rattle.schedule.specs.declared.arrived.Arrived.{Arrived}
use Rattle.simulated_link.specs.StateView.{RunState, RunTruth, GoesOn, Asides, HandsEvent, HandsNone, HandsOwed, HandsNothing, Answers, HandsOut, work_left}
use Rattle.simulated_link.specs.Laws.{LeadsOn, IsToldOfEnd}
use Rattle.simulated_link.specs.Waiting.{arrival_of, HasCalls}
use Rattle.simulated_link.specs.Moments.{Doing, Resting, Hearing, Answering, Moment, record_of, Step, Runs}
use Rattle.simulated_link.specs.Moments as moments
use Rattle.simulated_link.proofs.Leading.{leads_stays, leads_joins, servers_lead_on, asides_lead_on, calls_lead_on, answers_lead_on}
use Rattle.simulated_link.proofs.Waits.{servers_hand_none, asides_hand_none, one_is_handed_out, it_is_answered}
use Rattle.simulated_link.proofs.Running.{history_of, goes_told_of_end, quiet_next, runs_join, runs_at, servers_end_rightly}
use Rattle.file_server.specs.Over.{SameServing, Hears, Stands, AbsorbsOver, CallSpecification}
use Rattle.file_server.proofs.Standing.{same_state, serves_same}
use Rattle.world.specs.declared.run_loop.course.Course.TheVariants.{More, Cut}
use Rattle.world.specs.Served.{FramesHold, Turn, Turns, Starts, Then, Stays, Cuts, Hears as Hears_message, Answers as Answers_call}
use Rattle.world.specs.Runs.{area_at, moment, RunsOn, StandsAfter, Awaits, Notes, IsLive, IsIdle, IsNext, RunsOne, AnswersTo, doing_of}
use Rattle.world.proofs.Stepping.{no_end, told_absorbed, over_is_ended, asides_over, asides_told, asides_record, aside_step, quiet_step, asides_next, owing, owing_first, absorbed_history, absorb_runs, CallRuns, call_history, call_runs, replied, same_left, hands_run}

-- servers of the same volume may write the same
same_area : (s t : Serving) → t.geometry ≡ s.geometry → t.minor ≡ s.minor → area_at t ≡ area_at s
same_area s t geometry minor = λ i. area_of (geometry i) (minor i)

-- the guarantee of a link is that of its run
abbrev pub IsGuarantee : Truth → RunState → Type 0
IsGuarantee was p = (v : Opening) (marks : List Mark) → was v marks → RunTruth v p.scene marks

-- ---- its frames, turn by turn

-- they hold where the server stands
frames_hold : (g : Geometry) (t : Serving) (is : Truth) (a : RunState) (v : Opening) (tree : Tree) (marks : List Mark) → t.geometry ≡ g
    → IsGuarantee is a → Stands t is v tree marks → t.ended ≡ false → FramesHold g (contents_at v) tree (record_of a) t.outbox (state_of t)
frames_hold g t is a v tree marks same guarantees stood live =
    let first : FramesHold t.geometry (contents_at v) tree marks t.outbox (state_of t) = record {
      reads_back = λ tr u. (stood.serves.has_tree tr live u).reads_back;
      known = stood.serves.known;
    } in
    subst (λ (x : Geometry). FramesHold x (contents_at v) tree (record_of a) t.outbox (state_of t)) same
    (subst (λ (l : List Mark). FramesHold t.geometry (contents_at v) tree l t.outbox (state_of t)) (sym (guarantees v marks stood.truth).is) first)

-- turns lead on
turns_join : (area : Area) (g : Geometry) (image : Contents) (tree : Tree) (m : Moment) (f : FrameState) (n : Moment) (h : FrameState)
    (o : Moment) (k : FrameState) → Turns area g image tree m f n h → Turns area g image tree n h o k → Turns area g image tree m f o k
turns_join area g image tree m f n h _ _ first Starts = first
turns_join area g image tree m f n h o k first (Then p _ q _ between turn) =
    Then p o q k (turns_join area g image tree m f n h p q first between) turn

-- servers of the same volume
turns_at : (s t : Serving) (image : Contents) (tree : Tree) (m n : Moment) (f h : FrameState) → t.geometry ≡ s.geometry → t.minor ≡ s.minor
    → Turns (area_at t) t.geometry image tree m f n h → Turns (area_at s) s.geometry image tree m f n h
turns_at s t image tree m n f h geometry minor turns =
    subst (λ (g : Geometry). Turns (area_at s) g image tree m f n h) geometry
    (subst (λ (area : Area). Turns area t.geometry image tree m f n h) (same_area s t geometry minor) turns)

-- one turn
one : (area : Area) (g : Geometry) (image : Contents) (tree : Tree) (m n : Moment) (f h : FrameState) → Turn area g image tree m n f h
    → Turns area g image tree m f n h
one area g image tree m n f h turn = Then m n f h Starts turn

pub runs_stays : (s : Serving) (was : Truth) (b : RunState) (x : Doing) → RunsOn s s was was b b x x
runs_stays s was b x = record {
  geometry = refl;
  minor = refl;
  frame_count = refl;
  leads = leads_stays b;
  stands = λ v tree marks stood. record { marks = marks; stands = stood; runs = moments.Starts; turns = Starts };
}

pub runs_joins : (s t u : Serving) (was then is : Truth) (b m a : RunState) (x y z : Doing) → RunsOn s t was then b m x y → RunsOn t u then is m a y z
    → RunsOn s u was is b a x z
runs_joins s t u was then is b m a x y z first next = record {
  geometry = next.geometry ∙ first.geometry;
  minor = next.minor ∙ first.minor;
  frame_count = next.frame_count ∙ first.frame_count;
  leads = leads_joins b m a first.leads next.leads;
  stands = λ v tree marks stood.
      let between : StandsAfter (area_at s) s.geometry (state_of s) t then v tree (moment s b x) (moment t m y) = first.stands v tree marks stood in
      let after : StandsAfter (area_at t) t.geometry (state_of t) u is v tree (moment t m y) (moment u a z) =
      next.stands v tree between.marks between.stands in
      record {
        marks = after.marks;
        stands = after.stands;
        runs = runs_join (area_at s) (moment s b x) (moment t m y) (moment u a z) between.runs
            (runs_at (area_at t) (area_at s) (moment t m y) (moment u a z) (same_area s t first.geometry first.minor) after.runs);
        turns = turns_join (area_at s) s.geometry (contents_at v) tree (moment s b x) (state_of s) (moment t m y) (state_of t) (moment u a z) (state_of u)
            between.turns (turns_at s t (contents_at v) tree (moment t m y) (moment u a z) (state_of t) (state_of u) first.geometry first.minor after.turns);
      };
}

-- something was done at the link that was lent, and the link was put back
awaits_there : (s t : Serving) (was is : Truth) (b a : RunState) (r : Result (Option Incoming) AllocError) → SameServing s t → Asides b r a
    → ((v : Opening) (marks : List Mark) → was v marks → IfOk r (λ m. is v (with_next m marks))) → IfOk r (λ m. Awaits s t was is b a m)
awaits_there s t was is b a (Ok message) same asides truth = record { same = same; asides = asides; truth = truth }
awaits_there s t was is b a (Err error) same asides truth = tt

pub advanced : {Line : Type 0} (truth : Line → Truth) (run : Line → RunState) (s t : Serving) (before lent after there : Line)
    (r : Result (Option Incoming) AllocError) → lent ≡ before → there ≡ after → SameServing s t → Asides (run lent) r (run after)
    → ((v : Opening) (marks : List Mark) → truth lent v marks → IfOk r (λ m. truth after v (with_next m marks)))
    → IfOk r (λ m. Awaits s t (truth before) (truth there) (run before) (run there) m)
advanced {Line} truth run s t before lent after there r value put same asides keeps =
    subst (λ (l : Line). IfOk r (λ m. Awaits s t (truth before) (truth l) (run before) (run l) m)) (sym put)
    (subst (λ (l : Line). IfOk r (λ m. Awaits s t (truth l) (truth after) (run l) (run after) m)) value
    (awaits_there s t (truth lent) (truth after) (run lent) (run after) r same asides keeps))

-- the server and what it owes, after something was done at its link
still_serves : (s t : Serving) (was is : Truth) (v : Opening) (tree : Tree) (marks noted : List Mark) → SameServing s t → Hears s was v tree marks marks
    → is v noted → Hears t is v tree marks noted
still_serves s t was is v tree marks noted same stood truth = record {
  minor = stood.minor ∙ sym same.minor;
  serves = serves_same s t (contents_at v) tree marks same stood.serves;
  truth = truth;
}

rests : (s : Serving) (was : Truth) (b : RunState) (v : Opening) (tree : Tree) (marks : List Mark) → IsGuarantee was b → Hears s was v tree marks marks
    → IsAtRest (record_of b) s.outbox
rests s was b v tree marks guarantees stood = subst (λ (l : List Mark). IsAtRest l s.outbox) (sym (guarantees v marks stood.truth).is) stood.serves.at_rest

-- nothing was done but an event, or that a call was handed out
stays_turn : (s t : Serving) (was is : Truth) (b a : RunState) (x y : Doing) (v : Opening) (tree : Tree) (marks : List Mark) → SameServing s t
    → IsGuarantee was b → IsGuarantee is a → Hears s was v tree marks marks → Hears t is v tree marks marks
    → Runs (area_at s) (moment s b x) (moment t a y) → t.ended ≡ false
    → Turns (area_at s) s.geometry (contents_at v) tree (moment s b x) (state_of s) (moment t a y) (state_of t)
stays_turn s t was is b a x y v tree marks same first later stood there runs live =
    one (area_at s) s.geometry (contents_at v) tree (moment s b x) (moment t a y) (state_of s) (state_of t)
    (Stays runs ((later v marks there.truth).is ∙ sym (first v marks stood.truth).is) (same_state s t same)
    (frames_hold s.geometry t is a v tree marks same.geometry later there live))

-- no message came
pub none_came : (s t : Serving) (was is : Truth) (b a : RunState) (r : Option Incoming) → r ≡ None → Awaits s t was is b a r → IsIdle s b
    → (b.owed ≡ true) ⊎ IsNext b → IsGuarantee was b → IsGuarantee is a → RunsOn s t was is b a Resting Resting
none_came s t was is b a r none w idle left guarantees later = by (subst (λ (o : Option Incoming). Awaits s t was is b a o) none w) where
  by : Awaits s t was is b a None → RunsOn s t was is b a Resting Resting
  by x = record {
    geometry = x.same.geometry;
    minor = x.same.minor;
    frame_count = x.same.frame_count;
    leads = (asides_lead_on b a (Ok None) x.asides).leads;
    stands = λ v tree marks stood.
        let there : Hears t is v tree marks marks = still_serves s t was is v tree marks marks x.same stood (x.truth v marks stood.truth) in
        let runs : Runs (area_at s) (moment s b Resting) (moment t a Resting) =
        owing (area_at s) (moment s b Resting) a s.outbox t.outbox Resting (sym x.same.outbox)
        (moments.Then (moment s b Resting) (record { run = a; outbox = s.outbox; doing = Resting }) moments.Starts
        (quiet_step (area_at s) b a s.outbox x.asides idle.live (rests s was b v tree marks guarantees stood) left)) in
        record {
          marks = marks;
          stands = there;
          runs = runs;
          turns = stays_turn s t was is b a Resting Resting v tree marks x.same guarantees later stood there runs (x.same.ended ∙ idle.ended);
        };
  }

pub none_came_idle : (s t : Serving) (was is : Truth) (b a : RunState) (r : Option Incoming) → Awaits s t was is b a r → IsIdle s b → IsIdle t a
none_came_idle s t was is b a r w idle = record {
  ended = w.same.ended ∙ idle.ended;
  live = asides_over b a r w.asides ∙ idle.live;
  told_of_end = asides_told b a r w.asides idle.told_of_end;
  calls = asides_hand_none [] b a (Ok r) w.asides idle.calls;
}

pub none_came_one : (s t : Serving) (was is : Truth) (b a : RunState) (r : Option Incoming) → Awaits s t was is b a r → RunsOne b a
none_came_one s t was is b a r w = record { next = asides_next b a r w.asides; less = (asides_lead_on b a (Ok r) w.asides).less }

-- nothing was taken in it
absorbed_ended : (s t : Serving) (was is : Truth) (message : Incoming) → AbsorbsOver s t was is message → t.ended ≡ s.ended
absorbed_ended s t was is message absorbs =
    absorbs.keeps.leads.ended
    ∙ ap (λ (b : Bool). b || s.ended) (ap took_end (told_absorbed absorbs.keeps.later message) ∙ no_end (told_of absorbs.keeps.later) absorbs.keeps.none_taken)

-- a message was handed over to a server that stays
hears_turn : (s t u : Serving) (was noted is : Truth) (b a : RunState) (message : Incoming) (v : Opening) (tree : Tree) (marks : List Mark)
    → SameServing s t → (absorbs : AbsorbsOver t u noted is message) → IsGuarantee was b → IsGuarantee is a → Hears s was v tree marks marks
    → Hears t noted v tree marks (received message marks) → Stands u is v tree (marks_after (absorbs.keeps.later ++ Absorbed message ∷ []) marks)
    → Runs (area_at s) (moment s b Resting) (moment u a Resting) → u.ended ≡ false
    → Turns (area_at s) s.geometry (contents_at v) tree (moment s b Resting) (state_of s) (moment u a Resting) (state_of u)
hears_turn s t u was noted is b a message v tree marks same absorbs first later stood heard there runs live =
    one (area_at s) s.geometry (contents_at v) tree (moment s b Resting) (moment u a Resting) (state_of s) (state_of u)
    (Hears_message message absorbs.keeps.later runs (after_is ∙ ap (marks_after (absorbs.keeps.later ++ Absorbed message ∷ [])) (sym before_is))
    absorbs.keeps.none_absorbed absorbs.keeps.none_taken
    (subst (λ (f : FrameState). OvertakesNone f (state_of u)) (same_state s t same) absorbs.keeps.none_overtaken) flushes
    (frames_hold s.geometry u is a v tree after (absorbs.keeps.leads.geometry ∙ same.geometry) later there live))
  where
    after : List Mark
    after = marks_after (absorbs.keeps.later ++ Absorbed message ∷ []) marks

    before_is : record_of b ≡ marks
    before_is = (first v marks stood.truth).is

    after_is : record_of a ≡ after
    after_is = (later v after there.truth).is

    flushes : message ≡ Flush → FlushesOn s.geometry.block_size (not (gave_up (record_of a))) (state_of s) (state_of u)
        (pending_requests (record_of b) s.outbox) (pending_requests (record_of a) u.outbox)
    flushes is_flush =
        let was_so = absorbs.keeps.flushes (contents_at v) tree marks heard.serves.agrees is_flush in
        let alive : (not u.ended && not (gave_up after)) ≡ not (gave_up (record_of a)) =
        ap (λ (x : Bool). not x && not (gave_up after)) live ∙ ap (λ (l : List Mark). not (gave_up l)) (sym after_is) in
        subst (λ (size : ℕ). FlushesOn size (not (gave_up (record_of a))) (state_of s) (state_of u) (pending_requests (record_of b) s.outbox)
        (pending_requests (record_of a) u.outbox)) (ap (λ (g : Geometry). g.block_size) same.geometry)
        (subst (λ (x : Bool). FlushesOn t.geometry.block_size x (state_of s) (state_of u) (pending_requests (record_of b) s.outbox)
        (pending_requests (record_of a) u.outbox)) alive
        (subst (λ (f : FrameState). FlushesOn t.geometry.block_size (not u.ended && not (gave_up after)) f (state_of u)
        (pending_requests (record_of b) s.outbox) (pending_requests (record_of a) u.outbox)) (same_state s t same)
        (subst (λ (rs : List BlockRequest). FlushesOn t.geometry.block_size (not u.ended && not (gave_up after)) (state_of t) (state_of u) rs
        (pending_requests (record_of a) u.outbox))
        (ap (λ (o : Outbox). pending_requests marks o) same.outbox ∙ ap (λ (l : List Mark). pending_requests l s.outbox) (sym before_is))
        (subst (λ (rs : List BlockRequest). FlushesOn t.geometry.block_size (not u.ended && not (gave_up after)) (state_of t) (state_of u)
        (pending_requests marks t.outbox) rs) (ap (λ (l : List Mark). pending_requests l u.outbox) (sym after_is)) was_so))))

-- the message is handed over
pub handed : (s t u : Serving) (was noted is : Truth) (b m a : RunState) (r : Option Incoming) (message : Incoming) → r ≡ Some message
    → AbsorbsOver t u noted is message → GoesOn m a → Awaits s t was noted b m r → IsIdle s b → (b.owed ≡ true) ⊎ IsNext b → IsGuarantee was b
    → IsGuarantee is a → t.told ≡ history_of m → u.told ≡ history_of a → RunsOn s u was is b a Resting Resting
handed s t u was noted is b m a r message came absorbs on w idle left guarantees finally first last =
    by (subst (λ (o : Option Incoming). Awaits s t was noted b m o) came w) where
      by : Awaits s t was noted b m (Some message) → RunsOn s u was is b a Resting Resting
      by x = record {
        geometry = absorbs.keeps.leads.geometry ∙ x.same.geometry;
        minor = absorbs.keeps.leads.minor ∙ x.same.minor;
        frame_count = absorbs.keeps.leads.frame_count ∙ x.same.frame_count;
        leads = leads_joins b m a (asides_lead_on b m (Ok (Some message)) x.asides).leads (servers_lead_on m a on);
        stands = λ v tree marks stood.
            let h : Hears t noted v tree marks (received message marks) = still_serves s t was noted v tree marks (received message marks) x.same stood (x.truth v marks stood.truth) in
            let is_record : record_of b ≡ marks = (guarantees v marks stood.truth).is in
            let there : Stands u is v tree (marks_after (absorbs.keeps.later ++ Absorbed message ∷ []) marks) = record {
              minor = h.minor ∙ sym absorbs.keeps.leads.minor;
              serves = absorbs.keeps.serves (contents_at v) tree marks h.serves;
              truth = absorbs.truth v tree marks h.minor h.serves.agrees h.truth;
            } in
            let runs : Runs (area_at s) (moment s b Resting) (moment u a Resting) = runs_join (area_at s) (moment s b Resting) (record { run = m; outbox = owed_after_message message marks s.outbox; doing = Hearing message })
            (moment u a Resting)
            (moments.Then (moment s b Resting) (record { run = m; outbox = owed_after_message message marks s.outbox; doing = Hearing message }) moments.Starts
            (subst (λ (l : List Mark). Step (area_at s) (moment s b Resting)
            (record { run = m; outbox = owed_after_message message l s.outbox; doing = Hearing message })) is_record
            (aside_step (area_at s) b m s.outbox message x.asides idle.live (rests s was b v tree marks guarantees stood) left)))
            (runs_at (area_at t) (area_at s) _ _ (same_area s t x.same.geometry x.same.minor)
            (owing_first (area_at t) m (owed_after_message message marks t.outbox) (owed_after_message message marks s.outbox) (Hearing message)
            (moment u a Resting) (ap (owed_after_message message marks) x.same.outbox)
            (absorb_runs t u noted is m a message v tree marks absorbs on (asides_told b m (Some message) x.asides idle.told_of_end) first last
            (asides_record b m message x.asides ∙ ap (received message) is_record) h.serves))) in
            record {
              marks = marks_after (absorbs.keeps.later ++ Absorbed message ∷ []) marks;
              stands = there;
              runs = runs;
              turns = hears_turn s t u was noted is b a message v tree marks x.same absorbs guarantees finally stood h there runs
                  (absorbed_ended t u noted is message absorbs ∙ x.same.ended ∙ idle.ended);
            };
      }

-- the link still hasn't ended
pub absorbed_live : (s t : Serving) (was is : Truth) (b a : RunState) (message : Incoming) → AbsorbsOver s t was is message → GoesOn b a → IsToldOfEnd b
    → s.ended ≡ false → b.over ≡ false → HasCalls [] b → s.told ≡ history_of b → t.told ≡ history_of a → IsIdle t a
absorbed_live s t was is b a message absorbs on told ended live calls first last =
    let over : t.ended ≡ false = absorbed_ended s t was is message absorbs ∙ ended in
    let after : IsToldOfEnd a = goes_told_of_end b a on told in
    record {
      ended = over;
      live = over_is_ended s t b a (told_of absorbs.keeps.later) told after (absorbed_history s t was is b a message absorbs first last)
          (absorbs.keeps.leads.ended ∙ ap (λ (b : Bool). b || s.ended) (ap took_end (told_absorbed absorbs.keeps.later message))) (ended ∙ sym live) ∙ over;
      told_of_end = after;
      calls = servers_hand_none [] b a on calls;
    }

pub handed_idle : (s t u : Serving) (was noted is : Truth) (b m a : RunState) (r : Option Incoming) (message : Incoming)
    → AbsorbsOver t u noted is message → GoesOn m a → Awaits s t was noted b m r → IsIdle s b → t.told ≡ history_of m → u.told ≡ history_of a → IsIdle u a
handed_idle s t u was noted is b m a r message absorbs on w idle first last =
    absorbed_live t u noted is m a message absorbs on (asides_told b m r w.asides idle.told_of_end) (w.same.ended ∙ idle.ended)
    (asides_over b m r w.asides ∙ idle.live) (asides_hand_none [] b m (Ok r) w.asides idle.calls) first last

pub handed_one : (s t u : Serving) (was noted is : Truth) (b m a : RunState) (r : Option Incoming) (message : Incoming)
    → AbsorbsOver t u noted is message → GoesOn m a → Awaits s t was noted b m r → IsIdle s b → t.told ≡ history_of m → u.told ≡ history_of a → RunsOne b a
handed_one s t u was noted is b m a r message absorbs on w idle first last =
    let on_leads : LeadsOn m a = servers_lead_on m a on in
    let less : work_left m < work_left b = (asides_lead_on b m (Ok r) w.asides).less in
    record {
      next = quiet_next m a (told_of absorbs.keeps.later) on (asides_told b m r w.asides idle.told_of_end)
          (absorbed_history t u noted is m a message absorbs first last) absorbs.keeps.none_taken ∙ asides_next b m r w.asides;
      less = omega (arith, on_leads.work, less);
    }

-- a call is the one that arrived
pub of_call : (s t : Serving) (was is : Truth) (asked arrived : Arrived) (outcome : Outcome) → asked ≡ arrived
    → CallSpecification s t was is asked.who asked.now asked.call outcome → CallSpecification s t was is arrived.who arrived.now arrived.call outcome
of_call s t was is asked arrived outcome same calls = subst (λ (x : Arrived). CallSpecification s t was is x.who x.now x.call outcome) same calls

-- an answer is noted at the link that was lent
noted_there : (s t : Serving) (was is : Truth) (b a : RunState) (arrived : Arrived) (reply : Reply) (r : Result (Unit {0}) AllocError) → SameServing s t
    → Answers b arrived reply r a
    → ((v : Opening) (marks : List Mark) → was v marks → OnOk r (is v (Took arrived.who arrived.now arrived.call (answer_of reply) ∷ marks)))
    → OnOk r (Notes s t was is b a arrived reply)
noted_there s t was is b a arrived reply (Ok done) same answers truth = record { same = same; answers = answers; truth = truth }
noted_there s t was is b a arrived reply (Err error) same answers truth = tt

pub noted : {Line : Type 0} (truth : Line → Truth) (run : Line → RunState) (s t : Serving) (before lent after there : Line) (arrived : Arrived) (reply : Reply)
    (r : Result (Unit {0}) AllocError) → lent ≡ before → there ≡ after → SameServing s t → Answers (run lent) arrived reply r (run after)
    → ((v : Opening) (marks : List Mark) → truth lent v marks
    → OnOk r (truth after v (Took arrived.who arrived.now arrived.call (answer_of reply) ∷ marks)))
    → OnOk r (Notes s t (truth before) (truth there) (run before) (run there) arrived reply)
noted {Line} truth run s t before lent after there arrived reply r value put same answers keeps =
    subst (λ (l : Line). OnOk r (Notes s t (truth before) (truth l) (run before) (run l) arrived reply)) (sym put)
    (subst (λ (l : Line). OnOk r (Notes s t (truth l) (truth after) (run l) (run after) arrived reply)) value
    (noted_there s t (truth lent) (truth after) (run lent) (run after) arrived reply r same answers keeps))

not_cut : (answer : Answer) → ◌≡◌ (Replied answer) WasCutOff → ⊥
not_cut answer h = cc

answered_ended : (s t : Serving) (was is : Truth) (arrived : Arrived) (reply : Reply)
    → CallSpecification s t was is arrived.who arrived.now arrived.call (Replied (answer_of reply)) → t.ended ≡ false
answered_ended s t was is arrived reply calls = is_false t.ended (λ over. not_cut (answer_of reply) (calls.keeps.cut.1 over))

pub answered_over : (s t : Serving) (was is : Truth) (b a : RunState) (arrived : Arrived) (reply : Reply)
    → CallSpecification s t was is arrived.who arrived.now arrived.call (Replied (answer_of reply)) → GoesOn b a → IsLive (Answering arrived) s b
    → s.told ≡ history_of b → t.told ≡ history_of a → a.over ≡ false
answered_over s t was is b a arrived reply calls on handed first last =
    over_is_ended s t b a (told_of calls.keeps.acts) handed.told_of_end (goes_told_of_end b a on handed.told_of_end)
    (call_history s t was is b a arrived (Replied (answer_of reply)) calls first last) calls.keeps.leads.ended (handed.ended ∙ sym handed.live)
    ∙ answered_ended s t was is arrived reply calls

-- a call that only looks overtakes no block
looks_on : (s t u : Serving) (was is : Truth) (b a : RunState) (arrived : Arrived) (reply : Reply)
    (calls : CallSpecification s t was is arrived.who arrived.now arrived.call (Replied (answer_of reply))) → SameServing t u
    → (v : Opening) (tree : Tree) (marks : List Mark) → Stands s was v tree marks → record_of b ≡ marks
    → record_of a ≡ Took arrived.who arrived.now arrived.call (answer_of reply) ∷ marks_after calls.keeps.acts marks
    → HasTrueReplies (contents_at v) (record_of a) → IsTrue (only_looks (tree_after s.geometry tree (record_of b)) arrived.who arrived.call)
    → OvertakesNone (state_of s) (state_of u)
looks_on s t u was is b a arrived reply calls same v tree marks stood first last replies looks =
    subst (λ (f : FrameState). OvertakesNone (state_of s) f) (sym (same_state t u same))
    (calls.keeps.looked (contents_at v) tree marks stood.serves (subst (λ (l : List Mark). HasTrueReplies (contents_at v) l) last replies)
    (subst (λ (l : List Mark). IsTrue (only_looks (tree_after s.geometry tree l) arrived.who arrived.call)) first looks)).none_overtaken

-- a call was answered, and its answer noted
pub answered : (s t u : Serving) (was is after : Truth) (b m a : RunState) (arrived : Arrived) (reply : Reply)
    → CallSpecification s t was is arrived.who arrived.now arrived.call (Replied (answer_of reply)) → GoesOn b m → Notes t u is after m a arrived reply
    → IsLive (Answering arrived) s b → IsGuarantee was b → IsGuarantee after a → s.told ≡ history_of b → t.told ≡ history_of m
    → RunsOn s u was after b a (Answering arrived) Resting
answered s t u was is after b m a arrived reply calls on n live guarantees finally first last = record {
  geometry = n.same.geometry ∙ calls.keeps.leads.geometry;
  minor = n.same.minor ∙ calls.keeps.leads.minor;
  frame_count = n.same.frame_count ∙ calls.keeps.leads.frame_count;
  leads = leads_joins b m a (servers_lead_on b m on) (answers_lead_on m a arrived reply (Ok tt) n.answers);
  stands = λ v tree marks stood.
      let done : Serves t (contents_at v) tree (Took arrived.who arrived.now arrived.call (answer_of reply) ∷ marks_after calls.keeps.acts marks) =
      calls.keeps.serves (contents_at v) tree marks stood.serves in
      let runs : CallRuns s t b m arrived (marks_after calls.keeps.acts marks) =
      call_runs s t was is b m arrived (Replied (answer_of reply)) v tree marks calls on live.told_of_end first last
      (guarantees v marks stood.truth).is stood.serves in
      let there : Stands u after v tree (Took arrived.who arrived.now arrived.call (answer_of reply) ∷ marks_after calls.keeps.acts marks) = record {
        minor = stood.minor ∙ sym calls.keeps.leads.minor ∙ sym n.same.minor;
        serves = serves_same t u (contents_at v) tree (Took arrived.who arrived.now arrived.call (answer_of reply) ∷ marks_after calls.keeps.acts marks)
            n.same done;
        truth = n.truth v (marks_after calls.keeps.acts marks) (calls.truth v tree marks stood.minor stood.serves.agrees stood.truth);
      } in
      let all_runs : Runs (area_at s) (moment s b (Answering arrived)) (moment u a Resting) = owing (area_at s) (moment s b (Answering arrived)) a t.outbox u.outbox Resting (sym n.same.outbox)
      (subst (λ (p : RunState). Runs (area_at s) (moment s b (Answering arrived)) (record { run = p; outbox = t.outbox; doing = Resting })) (sym n.answers)
      (replied (area_at s) (moment s b (Answering arrived)) m t.outbox arrived reply (marks_after calls.keeps.acts marks) runs.runs
      (answered_over s t was is b m arrived reply calls on live first last) runs.record_is done.at_rest)) in
      record {
        marks = Took arrived.who arrived.now arrived.call (answer_of reply) ∷ marks_after calls.keeps.acts marks;
        stands = there;
        runs = all_runs;
        turns = one (area_at s) s.geometry (contents_at v) tree (moment s b (Answering arrived)) (moment u a Resting) (state_of s) (state_of u)
            (Answers_call arrived (answer_of reply) calls.keeps.acts all_runs ((finally v _ there.truth).is
            ∙ ap (λ (l : List Mark). Took arrived.who arrived.now arrived.call (answer_of reply) ∷ marks_after calls.keeps.acts l)
            (sym (guarantees v marks stood.truth).is)) calls.keeps.none_absorbed
            (looks_on s t u was is b a arrived reply calls n.same v tree marks stood (guarantees v marks stood.truth).is
            (finally v _ there.truth).is)
            (frames_hold s.geometry u after a v tree _ (n.same.geometry ∙ calls.keeps.leads.geometry) finally there
            (n.same.ended ∙ answered_ended s t was is arrived reply calls)));
      };
}

pub answered_to : (s t u : Serving) (was is after : Truth) (b m a : RunState) (arrived : Arrived) (reply : Reply)
    → CallSpecification s t was is arrived.who arrived.now arrived.call (Replied (answer_of reply)) → GoesOn b m → Notes t u is after m a arrived reply
    → IsLive (Answering arrived) s b → s.told ≡ history_of b → t.told ≡ history_of m → u.told ≡ history_of a → AnswersTo More arrived u a
answered_to s t u was is after b m a arrived reply calls on n live first last then =
    let over : m.over ≡ false = answered_over s t was is b m arrived reply calls on live first last in
    let same : a.over ≡ m.over = ap (λ (p : RunState). p.over) n.answers in
    let told : IsToldOfEnd m = goes_told_of_end b m on live.told_of_end in
    record {
      ended = n.same.ended ∙ answered_ended s t was is arrived reply calls;
      live = same ∙ over;
      told_of_end = record { is = ap took_end (sym then ∙ n.same.told ∙ last) ∙ told.is ∙ sym same };
      calls = it_is_answered m a arrived reply n.answers (servers_hand_none (arrival_of arrived ∷ []) b m on live.calls);
    }

-- a call was cut
pub cut_off : (s t : Serving) (was is : Truth) (b a : RunState) (arrived : Arrived) → CallSpecification s t was is arrived.who arrived.now arrived.call WasCutOff
    → GoesOn b a → IsLive (Answering arrived) s b → IsGuarantee was b → IsGuarantee is a → s.told ≡ history_of b → t.told ≡ history_of a
    → RunsOn s t was is b a (Answering arrived) (Answering arrived)
cut_off s t was is b a arrived calls on live guarantees finally first last = record {
  geometry = calls.keeps.leads.geometry;
  minor = calls.keeps.leads.minor;
  frame_count = calls.keeps.leads.frame_count;
  leads = servers_lead_on b a on;
  stands = λ v tree marks stood.
      let there : Stands t is v tree (marks_after calls.keeps.acts marks) = record {
        minor = stood.minor ∙ sym calls.keeps.leads.minor;
        serves = calls.keeps.serves (contents_at v) tree marks stood.serves;
        truth = calls.truth v tree marks stood.minor stood.serves.agrees stood.truth;
      } in
      let runs : Runs (area_at s) (moment s b (Answering arrived)) (moment t a (Answering arrived)) =
      (call_runs s t was is b a arrived WasCutOff v tree marks calls on live.told_of_end first last (guarantees v marks stood.truth).is stood.serves).runs in
      record {
        marks = marks_after calls.keeps.acts marks;
        stands = there;
        runs = runs;
        turns = one (area_at s) s.geometry (contents_at v) tree (moment s b (Answering arrived)) (moment t a (Answering arrived)) (state_of s) (state_of t)
            (Cuts calls.keeps.acts runs ((finally v _ there.truth).is ∙ ap (marks_after calls.keeps.acts) (sym (guarantees v marks stood.truth).is))
            calls.keeps.none_absorbed);
      };
}

pub cut_to : (s t : Serving) (was is : Truth) (b a : RunState) (arrived : Arrived) → CallSpecification s t was is arrived.who arrived.now arrived.call WasCutOff
    → GoesOn b a → IsLive (Answering arrived) s b → s.told ≡ history_of b → t.told ≡ history_of a → AnswersTo Cut arrived t a
cut_to s t was is b a arrived calls on live first last =
    let ended : t.ended ≡ true = calls.keeps.cut.0 refl in
    record {
      ended = ended;
      over = over_is_ended s t b a (told_of calls.keeps.acts) live.told_of_end (goes_told_of_end b a on live.told_of_end)
          (call_history s t was is b a arrived WasCutOff calls first last) calls.keeps.leads.ended (live.ended ∙ sym live.live) ∙ ended;
      why = (servers_end_rightly b a on (record { why = λ over. absurd (true_not_false (sym over ∙ live.live)) })).why
          (over_is_ended s t b a (told_of calls.keeps.acts) live.told_of_end (goes_told_of_end b a on live.told_of_end)
          (call_history s t was is b a arrived WasCutOff calls first last) calls.keeps.leads.ended (live.ended ∙ sym live.live) ∙ ended);
      calls = servers_hand_none (arrival_of arrived ∷ []) b a on live.calls;
    }

-- a call is handed out by the link that was lent
hands_there : (s t : Serving) (was is : Truth) (b a : RunState) (first : Option Arrived) → SameServing s t → HandsOut b first a → b.over ≡ false → b.owed ≡ false
    → IsGuarantee was b → IsGuarantee is a → ((v : Opening) (marks : List Mark) → was v marks → is v marks) → s.ended ≡ false
    → RunsOn s t was is b a Resting (doing_of first)
hands_there s t was is b a first same hands live paid guarantees finally truth unended = record {
  geometry = same.geometry;
  minor = same.minor;
  frame_count = same.frame_count;
  leads = (calls_lead_on b a first hands).leads;
  stands = λ v tree marks stood.
      let there : Hears t is v tree marks marks = still_serves s t was is v tree marks marks same stood (truth v marks stood.truth) in
      let runs : Runs (area_at s) (moment s b Resting) (moment t a (doing_of first)) =
      owing (area_at s) (moment s b Resting) a s.outbox t.outbox (doing_of first) (sym same.outbox)
      (hands_run (area_at s) b a s.outbox first hands live paid (rests s was b v tree marks guarantees stood)) in
      record {
        marks = marks;
        stands = there;
        runs = runs;
        turns = stays_turn s t was is b a Resting (doing_of first) v tree marks same guarantees finally stood there runs (same.ended ∙ unended);
      };
}

pub handed_out : {Line : Type 0} (truth : Line → Truth) (run : Line → RunState) (s t : Serving) (before lent after there : Line) (first : Option Arrived)
    → lent ≡ before → there ≡ after → SameServing s t → HandsOut (run lent) first (run after) → (run before).over ≡ false → (run before).owed ≡ false
    → s.ended ≡ false → ((l : Line) → IsGuarantee (truth l) (run l)) → ((v : Opening) (marks : List Mark) → truth lent v marks → truth after v marks)
    → RunsOn s t (truth before) (truth there) (run before) (run there) Resting (doing_of first)
handed_out {Line} truth run s t before lent after there first value put same hands live paid unended guarantees keeps =
    subst (λ (l : Line). RunsOn s t (truth before) (truth l) (run before) (run l) Resting (doing_of first)) (sym put)
    (subst (λ (l : Line). RunsOn s t (truth l) (truth after) (run l) (run after) Resting (doing_of first)) value
    (hands_there s t (truth lent) (truth after) (run lent) (run after) first same hands (ap (λ (l : Line). (run l).over) value ∙ live)
    (ap (λ (l : Line). (run l).owed) value ∙ paid) (guarantees lent) (guarantees after) keeps unended))

pub hands : {Line : Type 0} (run : Line → RunState) (before lent after there : Line) (first : Option Arrived) → lent ≡ before → there ≡ after
    → HandsOut (run lent) first (run after) → HandsOut (run before) first (run there)
hands {Line} run before lent after there first value put h =
    subst (λ (l : Line). HandsOut (run before) first (run l)) (sym put) (subst (λ (l : Line). HandsOut (run l) first (run after)) value h)

-- the server answers the call that was handed out, if one was
pub out_live : (s t : Serving) (b a : RunState) (first : Option Arrived) → SameServing s t → HandsOut b first a → IsIdle s b → IsLive (doing_of first) t a
out_live s t b a None same hands idle =
    subst (λ (p : RunState). IsIdle t p) (sym (same_left b a hands)) (record {
      ended = same.ended ∙ idle.ended;
      live = idle.live;
      told_of_end = idle.told_of_end;
      calls = idle.calls;
    })
out_live s t b a (Some call) same hands idle = record {
  ended = same.ended ∙ idle.ended;
  live = ap (λ (p : RunState). p.over) hands.after ∙ idle.live;
  told_of_end = subst (λ (p : RunState). IsToldOfEnd p) (sym hands.after) (record { is = idle.told_of_end.is });
  calls = one_is_handed_out b a call hands idle.calls;
}

-- nothing was done for want of memory
asides_starved : (b a : RunState) (r : Result (Option Incoming) AllocError) → Asides b r a → OnErr r (a.starved ≡ true)
asides_starved b _ _ (HandsEvent message a next) = tt
asides_starved b _ _ (HandsNone a next) = tt
asides_starved b _ _ (HandsOwed live owed first) = tt
asides_starved b _ _ (HandsNothing error) = refl

pub starved_aside : {Line : Type 0} (run : Line → RunState) (lent after there : Line) (r : Result (Option Incoming) AllocError) → there ≡ after
    → Asides (run lent) r (run after) → OnErr r ((run there).starved ≡ true)
starved_aside {Line} run lent after there r put asides =
    subst (λ (l : Line). OnErr r ((run l).starved ≡ true)) (sym put) (asides_starved (run lent) (run after) r asides)

answers_starved : (b a : RunState) (arrived : Arrived) (reply : Reply) (r : Result (Unit {0}) AllocError) → Answers b arrived reply r a → OnErr r (a.starved ≡ true)
answers_starved b a arrived reply (Ok done) answers = tt
answers_starved b a arrived reply (Err error) answers = ap (λ (p : RunState). p.starved) answers

pub starved_took : {Line : Type 0} (run : Line → RunState) (lent after there : Line) (arrived : Arrived) (reply : Reply) (r : Result (Unit {0}) AllocError)
    → there ≡ after → Answers (run lent) arrived reply r (run after) → OnErr r ((run there).starved ≡ true)
starved_took {Line} run lent after there arrived reply r put answers =
    subst (λ (l : Line). OnErr r ((run l).starved ≡ true)) (sym put) (answers_starved (run lent) (run after) arrived reply r answers)
