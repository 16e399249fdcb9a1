-- Calls one after the other, and what a request begun or a message taken is as a call.
use Rattle.std.specs.Prelude.{not, ◌||◌}
use Rattle.std.proofs.Common.{◌≡◌, ℕ, ◌+◌, ◌<◌, ◌≤◌, List, [], ◌∷◌, ◌++◌, length, Bool, true, false, cond, refl, sym, ◌∙◌, ap, subst, arith, append_assoc, Option, Some, None}
use Rattle.message.specs.declared.Incoming.{Incoming}
use Rattle.message.specs.declared.Incoming.TheVariants as incoming
use Rattle.records.specs.Marks.{Mark, Answered}
use Rattle.records.specs.Open.{counts}
use Rattle.records.specs.Disk.{Contents, HasTrueReplies}
use Rattle.records.specs.Area.{Area}
use Rattle.records.specs.Told.{Told, Posted, Complained, Received, grown, received, heard, took_end}
use Rattle.records.specs.Acts.{Act, Absorbed, Outbox, KeepsRules, told_of, marks_after, outbox_after}
use Rattle.records.proofs.ActLaws.{acts_compose}
use Rattle.reissue.specs.declared.ask.Ask.{Ask}
use Rattle.reissue.specs.Settlements.{Settlement}
use Rattle.reissue.specs.Settlements as settled
use Rattle.reissue.specs.declared.table.Table.{Table}
use Rattle.reissue.specs.Moves.{DiskState, Spares, Moves, state_after, IsBusy}
use Rattle.reissue.specs.Entries.{pending_of, AllIn, AllOfMinor}
use Rattle.reissue.specs.Agrees.{Agrees}
use Rattle.reissue.specs.Answers.{complaints_about}
use Rattle.reissue.specs.Posts.{due_after}
use Rattle.reissue.specs.Rules.{KeepsRulesBy, outbox_of}
use Rattle.message.specs.declared.endpoint.Endpoint.{Endpoint}
use Rattle.reissue.specs.Calls.{AsksIn, Begins, Steps, Absorbs, more_may_come}
use Rattle.reissue.proofs.Joining.{grown_append}
use Rattle.reissue.proofs.Inside.{of_minor}
use Rattle.cache.proofs.Handing.{Done, told_both, none_of_both}
use Rattle.cache.specs.Calls.{AbstractCache, IsReady, Runs, after_message, with_handed, messages_left}
use Rattle.cache.specs.Settling.{is_ended_by}

-- ---- true replies

-- replies that are true with one more mark or not
true_by : (b : Bool) (image : Contents) (m : Mark) (marks : List Mark) → (HasTrueReplies image (m ∷ marks) → HasTrueReplies image marks)
    → HasTrueReplies image (cond b (m ∷ marks) marks) → HasTrueReplies image marks
true_by true image m marks f h = f h
true_by false image m marks f h = h

-- replies that are true after a message were so before
true_received : (m : Incoming) (image : Contents) (marks : List Mark) → HasTrueReplies image (received m marks) → HasTrueReplies image marks
true_received (incoming.Reply a) image marks h = true_by (counts marks a) image (Answered a) marks (λ k. k.0) h
true_received (incoming.Started e) image marks h = h
true_received incoming.GaveUp image marks h = h
true_received incoming.Flush image marks h = h
true_received incoming.End image marks h = h

-- and so for all that was told
pub true_before : (es : List Told) (image : Contents) (marks : List Mark)
    → HasTrueReplies image (grown es marks) → HasTrueReplies image marks
true_before [] image marks h = h
true_before (Posted to r true ∷ es) image marks h = true_before es image marks h
true_before (Posted to r false ∷ es) image marks h = true_before es image marks h
true_before (Complained e ∷ es) image marks h = true_before es image marks h
true_before (Received m ∷ es) image marks h = true_before es image marks (true_received m image (grown es marks) h)

-- ---- acts one after the other

-- acts that keep the rules, and then others
rules_then : (area : Area) (a b c : Table) (before between after : List Told) (marks more most : List Mark) (first then : List Act)
    → KeepsRulesBy first area a b before between marks more → KeepsRulesBy then area b c between after more most
    → KeepsRulesBy (then ++ first) area a c before after marks most
rules_then area a b c before between after marks more most first then x y =
    let both = acts_compose area then first marks (outbox_of a) in
    let second : KeepsRules area then (marks_after first marks) (outbox_after first marks (outbox_of a)) =
    subst (λ (ms : List Mark). KeepsRules area then ms (outbox_after first marks (outbox_of a))) (sym x.grows)
    (subst (λ (o : Outbox). KeepsRules area then more o) (sym x.owes) y.keeps) in
    record {
      told = y.told ∙ ap (λ (l : List Told). told_of then ++ l) x.told ∙ sym (append_assoc (told_of then) (told_of first) before)
          ∙ ap (λ (l : List Told). l ++ before) (sym both.told);
      grows = both.record_after ∙ ap (marks_after then) x.grows ∙ y.grows;
      keeps = both.keep x.keeps second;
      owes = both.owed ∙ ap (λ (ms : List Mark). outbox_after then ms (outbox_after first marks (outbox_of a))) x.grows
          ∙ ap (outbox_after then more) x.owes ∙ y.owes;
    }

-- the message that is handed over comes first of all
handed_first : (m : Option Incoming) (xs ys : List Act) → xs ++ with_handed m ys ≡ with_handed m (xs ++ ys)
handed_first None xs ys = refl
handed_first (Some message) xs ys = sym (append_assoc xs ys (Absorbed message ∷ []))

-- ---- messages and ids

-- where none was taken as many are left, or fewer
pub left_same : (a b : AbstractCache) → b.ended ≡ a.ended → b.budget ≤ a.budget → messages_left b ≤ messages_left a
left_same a b e less = by a.ended b.ended e
  where
    by : (x y : Bool) → y ≡ x → cond y 0 (b.budget + 1) ≤ cond x 0 (a.budget + 1)
    by false false e = omega (arith, less)
    by true true e = omega arith
    by false true e = cc
    by true false e = cc

-- where one was taken fewer
left_step : (a b : AbstractCache) → a.ended ≡ false → (b.ended ≡ false → b.budget < a.budget) → messages_left b < messages_left a
left_step a b alive less = by a.ended b.ended alive less
  where
    by : (x y : Bool) → x ≡ false → (y ≡ false → b.budget < a.budget) → cond y 0 (b.budget + 1) < cond x 0 (a.budget + 1)
    by false false e less = let l = less refl in omega (arith, l)
    by false true e less = omega arith
    by true y e less = cc

-- ids after a request was begun, a message was taken, and one was handed over
ids_begun : (i j p q m n : ℕ) → j + p ≡ i + q → n ≤ m → j + n + p ≤ i + m + q + 0
ids_begun i j p q m n e less = omega (arith, e, less)

ids_taken : (i j p q m n : ℕ) → j + p ≤ i + q + 1 → n < m → j + n + p ≤ i + m + q + 0
ids_taken i j p q m n e less = omega (arith, e, less)

ids_handed : (i j p q m n : ℕ) → j + p ≤ i + q + 1 → n ≤ m → j + n + p ≤ i + m + q + 1
ids_handed i j p q m n e less = omega (arith, e, less)

-- and after both
pub ids_then : (i j k p q r l m n c : ℕ) → j + m + p ≤ i + l + q + c → k + n + q ≤ j + m + r + 0 → k + n + p ≤ i + l + r + c
ids_then i j k p q r l m n c first second = omega (arith, first, second)

-- where none was given
pub ids_kept : (i m p : ℕ) → i + m + p ≤ i + m + p + 0
ids_kept i m p = omega arith

left_then : (l m n : ℕ) → m ≤ l → n ≤ m → n ≤ l
left_then l m n h k = omega (arith, h, k)

fewer_most : (m n : ℕ) → n < m → n ≤ m
fewer_most m n h = omega (arith, h)

pub same_left : (m : ℕ) → m ≤ m
same_left m = omega arith

-- ---- calls one after the other

-- nothing happened
pub runs_none : (c : AbstractCache) (R : DiskState → DiskState → Type 0) → IsReady c → ((w : DiskState) → R w w) → Runs None c c R
runs_none c R ready h = record {
  ready = ready;
  told = [];
  history = refl;
  acts = [];
  done = refl;
  none_absorbed = refl;
  area = refl;
  size = refl;
  ended = λ e. e;
  left = same_left _;
  ids = ids_kept _ _ _;
  agrees = λ marks k. k;
  ends = λ e. e;
  related = λ image marks k tr. h (state_after image marks);
  truth = λ opening marks k e was. was;
  rules = λ marks k. record { told = refl; grows = refl; keeps = tt; owes = refl };
}

-- another relation that follows
pub runs_as : (m : Option Incoming) (a b : AbstractCache) (R S : DiskState → DiskState → Type 0)
    → ((w v : DiskState) → R w v → S w v) → Runs m a b R → Runs m a b S
runs_as m a b R S h x = record {
  ready = x.ready;
  told = x.told;
  history = x.history;
  acts = x.acts;
  done = x.done;
  none_absorbed = x.none_absorbed;
  area = x.area;
  size = x.size;
  ended = x.ended;
  left = x.left;
  ids = x.ids;
  agrees = x.agrees;
  ends = x.ends;
  related = λ image marks k tr. h (state_after image marks) (state_after image (grown x.told (after_message m marks))) (x.related image marks k tr);
  truth = x.truth;
  rules = x.rules;
}

-- one call after the other
pub runs_then : (m : Option Incoming) (a b c : AbstractCache) (R S T : DiskState → DiskState → Type 0)
    → ((u v w : DiskState) → R u v → S v w → T u w) → Runs m a b R → Runs None b c S → Runs m a c T
runs_then m a b c R S T h x y = record {
  ready = y.ready;
  told = y.told ++ x.told;
  history = y.history ∙ ap (λ (l : List Told). y.told ++ l) x.history ∙ sym (append_assoc y.told x.told a.told);
  acts = y.acts ++ x.acts;
  done = y.done ∙ ap (λ (l : List Told). told_of y.acts ++ l) x.done ∙ sym (append_assoc (told_of y.acts) (told_of x.acts) a.told)
      ∙ ap (λ (l : List Told). l ++ a.told) (sym (told_both y.acts x.acts));
  none_absorbed = none_of_both y.acts x.acts y.none_absorbed x.none_absorbed;
  area = y.area ∙ x.area;
  size = y.size ∙ x.size;
  ended = λ e. y.ended (x.ended e);
  left = left_then _ _ _ x.left y.left;
  ids = ids_then _ _ _ _ _ _ _ _ _ _ x.ids y.ids;
  agrees = λ marks k. subst (λ (ms : List Mark). Agrees c.table ms) (sym (all marks)) (y.agrees (mid marks) (x.agrees marks k));
  ends = λ e. y.ends (x.ends e);
  related = λ image marks k tr.
      let tr' : HasTrueReplies image (grown y.told (mid marks)) = subst (λ (ms : List Mark). HasTrueReplies image ms) (all marks) tr in
      let first = x.related image marks k (true_before y.told image (mid marks) tr') in
      let second = y.related image (mid marks) (x.agrees marks k) tr' in
      subst (λ (ms : List Mark). T (state_after image marks) (state_after image ms)) (sym (all marks))
      (h (state_after image marks) (state_after image (mid marks)) (state_after image (grown y.told (mid marks))) first second);
  truth = λ opening marks k e was.
      subst (λ (ms : List Mark). c.truth opening ms) (sym (all marks))
      (y.truth opening (mid marks) (x.agrees marks k) (e ∙ ap (λ (r : Area). r.minor) (sym x.area)) (x.truth opening marks k e was));
  rules = λ marks k.
      let first = x.rules marks k in
      let second = y.rules (mid marks) (x.agrees marks k) in
      subst (λ (l : List Act). KeepsRulesBy l a.area a.table c.table a.told c.told marks (grown (y.told ++ x.told) (after_message m marks)))
      (handed_first m y.acts x.acts)
      (subst (λ (ms : List Mark). KeepsRulesBy (y.acts ++ with_handed m x.acts) a.area a.table c.table a.told c.told marks ms) (sym (all marks))
      (rules_then a.area a.table b.table c.table a.told b.told c.told marks (mid marks) (grown y.told (mid marks)) (with_handed m x.acts) y.acts first
      (subst (λ (r : Area). KeepsRulesBy y.acts r b.table c.table b.told c.told (mid marks) (grown y.told (mid marks))) x.area second)));
}
  where
    mid : List Mark → List Mark
    mid marks = grown x.told (after_message m marks)

    all : (marks : List Mark) → grown (y.told ++ x.told) (after_message m marks) ≡ grown y.told (mid marks)
    all marks = grown_append y.told x.told (after_message m marks)

-- ---- a request is begun, as a call

-- what is pending for the area is for the minor that a run has
all_of : (area : Area) (t : Table) (minor : ℕ) → minor ≡ area.minor → AllIn area t.pending → AllOfMinor minor t.pending
all_of area t minor e all = subst (λ (n : ℕ). AllOfMinor n t.pending) (sym e) (of_minor area t.pending all)

-- what beginning did, where the frames may have changed too
pub begin_runs : (ask : Ask) (old new : AbstractCache) (R : DiskState → DiskState → Type 0)
    → Begins ask old.table new.table old.told new.told old.truth new.truth
    → IsReady new → AllIn old.area old.table.pending → AsksIn old.area ask → new.area ≡ old.area → new.size ≡ old.size
    → new.ended ≡ old.ended → new.budget ≤ old.budget
    → new.table.ids + length old.table.pending ≡ old.table.ids + length new.table.pending
    → ((w v : DiskState) → Spares (pending_of new.table.pending) w v → R w v) → Runs None old new R
begin_runs ask old new R x ready minors asks same_area same_size ended budget ids h = record {
  ready = ready;
  told = x.posts;
  history = x.history;
  acts = x.acts;
  done = x.told;
  none_absorbed = x.none_absorbed;
  area = same_area;
  size = same_size;
  ended = λ e. ended ∙ e;
  left = left_same old new ended budget;
  ids = ids_begun _ _ _ _ _ _ ids (left_same old new ended budget);
  agrees = x.agrees;
  ends = λ e. ended ∙ e ∙ sym x.ended;
  related = λ image marks k tr. h (state_after image marks) (state_after image (grown x.posts marks)) (x.spares image marks k);
  truth = λ opening marks k e was.
      x.truth opening marks k (asks.0 ∙ sym e) (all_of old.area old.table opening.minor e minors) was;
  rules = λ marks k. x.rules old.area marks k minors asks;
}

-- ---- a message is taken, as a call

-- what was told with the message
abbrev news : Bool → Incoming → List Told
news b m = cond b [] (Received m ∷ [])

-- an end that was heard before adds nothing
heard_news : (m : Incoming) (before : List Told) → (b : Bool) × (heard m before ≡ news b m ++ before) × ((marks : List Mark) → grown (news b m) marks ≡ received m marks)
heard_news (incoming.Reply a) before = (false, refl, λ marks. refl)
heard_news (incoming.Started e) before = (false, refl, λ marks. refl)
heard_news incoming.GaveUp before = (false, refl, λ marks. refl)
heard_news incoming.Flush before = (false, refl, λ marks. refl)
heard_news incoming.End before = by (took_end before) refl
  where
    by : (b : Bool) → took_end before ≡ b
        → (c : Bool) × (heard incoming.End before ≡ news c incoming.End ++ before) × ((marks : List Mark) → grown (news c incoming.End) marks ≡ received incoming.End marks)
    by true e = (true, rw e refl, λ marks. refl)
    by false e = (false, rw e refl, λ marks. refl)

-- what taking a message did, where the frames may have changed too
pub step_runs : (res : Settlement) (old new : AbstractCache) (R : DiskState → DiskState → Type 0)
    → Steps res old.table new.table old.told new.told old.truth new.truth
    → IsReady new → AllIn old.area old.table.pending → IsBusy (pending_of old.table.pending) → old.table.given_up ≡ false
    → new.area ≡ old.area → new.size ≡ old.size → old.ended ≡ false → new.ended ≡ is_ended_by res
    → (is_ended_by res ≡ false → new.budget < old.budget)
    → new.table.ids + length old.table.pending ≤ old.table.ids + length new.table.pending + 1
    → ((w v : DiskState) → Moves res (pending_of old.table.pending) w v → R w v) → Runs None old new R
step_runs res old new R x ready minors busy going same_area same_size alive ended budget ids h = record {
  ready = ready;
  told = told;
  history = history;
  acts = x.acts;
  done = x.told;
  none_absorbed = x.none_absorbed;
  area = same_area;
  size = same_size;
  ended = λ e. absurd (let k = alive in cc);
  left = fewer_most _ _ fewer;
  ids = ids_taken _ _ _ _ _ _ ids fewer;
  agrees = λ marks k. subst (λ (ms : List Mark). Agrees new.table ms) (sym (all marks k)) (x.agrees marks k);
  ends = λ e. ended ∙ by_end res e ∙ sym x.ended;
  related = λ image marks k tr.
      subst (λ (ms : List Mark). R (state_after image marks) (state_after image ms)) (sym (all marks k))
      (h (state_after image marks) (state_after image (grown x.posts (received x.message marks)))
      ((x.closing marks k).moves image (subst (λ (ms : List Mark). HasTrueReplies image ms) (all marks k) tr)));
  truth = λ opening marks k e was.
      subst (λ (ms : List Mark). new.truth opening ms) (sym (all marks k))
      (x.truth opening marks k (all_of old.area old.table opening.minor e minors) was);
  rules = λ marks k.
      subst (λ (ms : List Mark). KeepsRulesBy x.acts old.area old.table new.table old.told new.told marks ms) (sym (all marks k))
      (x.rules old.area marks k minors busy going);
}
  where
    fewer : messages_left new < messages_left old
    fewer = left_step old new alive (λ e. budget (sym ended ∙ e))

    more : (b : Bool) × (heard x.message old.told ≡ news b x.message ++ old.told) × ((marks : List Mark) → grown (news b x.message) marks ≡ received x.message marks)
    more = heard_news x.message old.told

    told : List Told
    told = x.posts ++ (x.complaints ++ news more.0 x.message)

    history : new.told ≡ told ++ old.told
    history = x.history ∙ ap (λ (l : List Told). x.posts ++ (x.complaints ++ l)) more.1
        ∙ ap (λ (l : List Told). x.posts ++ l) (sym (append_assoc x.complaints (news more.0 x.message) old.told))
        ∙ sym (append_assoc x.posts (x.complaints ++ news more.0 x.message) old.told)

    -- complaints leave no mark
    silent : (marks ms : List Mark) → Agrees old.table marks → grown x.complaints ms ≡ ms
    silent marks ms k = rw (x.due marks k) (by (due_after x.message marks))
      where
        by : (o : Option Endpoint) → grown (complaints_about o) ms ≡ ms
        by None = refl
        by (Some about) = refl

    all : (marks : List Mark) → Agrees old.table marks → grown told marks ≡ grown x.posts (received x.message marks)
    all marks k = grown_append x.posts (x.complaints ++ news more.0 x.message) marks
        ∙ ap (λ (l : List Mark). grown x.posts l) (grown_append x.complaints (news more.0 x.message) marks
        ∙ silent marks (grown (news more.0 x.message) marks) k ∙ more.2 marks)

    -- it had not ended before
    open_told : old.ended ≡ took_end old.told → took_end old.told ≡ false
    open_told e = sym e ∙ alive

    by_end : (r : Settlement) → old.ended ≡ took_end old.told → is_ended_by r ≡ (not (more_may_come r) || took_end old.told)
    by_end settled.End e = refl
    by_end settled.Nothing e = sym (open_told e)
    by_end settled.Flush e = sym (open_told e)
    by_end settled.GaveUp e = sym (open_told e)
    by_end (settled.Read t bytes) e = sym (open_told e)
    by_end (settled.Written t) e = sym (open_told e)

-- ---- a message is handed over, as a call

-- what absorbing a message did, where the frames may have changed too
pub absorb_runs : (m : Incoming) (res : Settlement) (old new : AbstractCache) (R : DiskState → DiskState → Type 0)
    → (x : Absorbs m res old.table new.table old.told new.told old.truth new.truth)
    → IsReady new → AllIn old.area old.table.pending
    → new.area ≡ old.area → new.size ≡ old.size → new.ended ≡ old.ended → new.budget ≤ old.budget
    → new.table.ids + length old.table.pending ≤ old.table.ids + length new.table.pending + 1
    → (d : Done m old.table new.table old.told new.told x.posts)
    → ((w v : DiskState) → Moves res (pending_of old.table.pending) w v → R w v) → (r : Runs (Some m) old new R) × (r.acts ≡ d.acts)
absorb_runs m res old new R x ready minors same_area same_size ended budget ids d h = (
  record {
    acts = d.acts;
    done = d.done;
    none_absorbed = d.none_absorbed;
    ready = ready;
    told = told;
    history = x.history ∙ sym (append_assoc x.posts x.complaints old.told);
    area = same_area;
    size = same_size;
    ended = λ e. ended ∙ e;
    left = left_same old new ended budget;
    ids = ids_handed _ _ _ _ _ _ ids (left_same old new ended budget);
    agrees = λ marks k. subst (λ (ms : List Mark). Agrees new.table ms) (sym (all marks)) (x.agrees marks k);
    ends = λ e. ended ∙ e ∙ sym x.ended;
    related = λ image marks k tr.
        subst (λ (ms : List Mark). R (state_after image marks) (state_after image ms)) (sym (all marks))
        (h (state_after image marks) (state_after image (grown x.posts (received m marks)))
        ((x.closing marks k).moves image (subst (λ (ms : List Mark). HasTrueReplies image ms) (all marks) tr)));
    truth = λ opening marks k e was.
        subst (λ (ms : List Mark). new.truth opening ms) (sym (all marks))
        (x.truth opening marks k (all_of old.area old.table opening.minor e minors) was);
    rules = λ marks k.
        subst (λ (ms : List Mark). KeepsRulesBy (d.acts ++ Absorbed m ∷ []) old.area old.table new.table old.told new.told marks ms) (sym (all marks))
        (d.rules old.area marks k minors);
  },
  refl,
)
  where
    told : List Told
    told = x.posts ++ x.complaints

    all : (marks : List Mark) → grown told (received m marks) ≡ grown x.posts (received m marks)
    all marks = grown_append x.posts x.complaints (received m marks) ∙ ap (λ (l : List Mark). grown x.posts l) (x.silent (received m marks))
