-- What is told on a message and the posts after it, together.
use Rattle.std.proofs.Common.{◌≡◌, ℕ, ◌+◌, ◌-◌, ◌<◌, List, [], ◌∷◌, ◌++◌, length, drop, map, Bool, true, false, refl, sym, ◌∙◌, ap, subst, arith, append_assoc, inl, inr, Option, zero, suc}
use Rattle.std.proofs.lemmas.Bool.Decides.{nat_tests}
use Rattle.std.specs.Prelude.{MatchBool, ◌==◌, ◌||◌, not, nat_lt, cond}
use Rattle.message.specs.declared.endpoint.Endpoint.{Endpoint}
use Rattle.message.specs.declared.BlockRequest.{BlockRequest}
use Rattle.message.specs.declared.Incoming.{Incoming}
use Rattle.message.specs.declared.Incoming.TheVariants as incoming
use Rattle.records.specs.Marks.{Mark, Issued}
use Rattle.records.specs.Disk.{Contents, HasTrueReplies}
use Rattle.records.specs.Told.{Told, Posted, Complained, Received, grown, received, heard, took_end}
use Rattle.records.specs.Acts.{Act, Began, AtLink, told_of, has_absorbed}
use Rattle.reissue.specs.declared.ask.Ask.{Ask}
use Rattle.reissue.specs.Settlements.{Settlement}
use Rattle.reissue.specs.Settlements as settled
use Rattle.reissue.specs.declared.pending.Pending.{Pending}
use Rattle.reissue.specs.declared.table.Table.{Table}
use Rattle.records.specs.Opening.{Opening}
use Rattle.reissue.specs.Room.{room_needed}
use Rattle.reissue.specs.Moves.{Closes, Spares, state_after, IsRequestFor}
use Rattle.records.specs.Area.{Area}
use Rattle.reissue.specs.Entries.{pending_of, request_of, AllOfMinor, AllIn, IsAmong}
use Rattle.reissue.specs.Agrees.{Agrees, unposted}
use Rattle.reissue.specs.Posts.{OnlyPosts, PostsInOrder, PostsAfter, is_message}
use Rattle.reissue.specs.Calls.{Truth, Leads, TakesIn, Absorbs, Steps, Begins, PostsNew, IsAnswerTo, more_may_come}
use Rattle.reissue.proofs.Posting.{closing_posted}
use Rattle.reissue.specs.Rules.{BeganAmong, at_link, all_began, began_on, acts_on}
use Rattle.reissue.proofs.StepRules.{arrival}
use Rattle.reissue.proofs.CallRules.{absorb_rules, step_rules, begin_rules}
use Rattle.reissue.proofs.Inside.{IsIn, of_minor, in_push, ask_is_in, wide, is_in_wide, in_wide}

-- the record after both
pub grown_append : (es fs : List Told) (marks : List Mark) → grown (es ++ fs) marks ≡ grown es (grown fs marks)
grown_append [] fs marks = refl
grown_append (Posted to r true ∷ es) fs marks = ap (λ (m : List Mark). Issued r to ∷ m) (grown_append es fs marks)
grown_append (Posted to r false ∷ es) fs marks = grown_append es fs marks
grown_append (Complained e ∷ es) fs marks = grown_append es fs marks
grown_append (Received m ∷ es) fs marks = ap (λ (l : List Mark). received m l) (grown_append es fs marks)

-- posts answer nothing: where replies are true after them they were so before
true_before : (es : List Told) (image : Contents) (marks : List Mark) → OnlyPosts es
    → HasTrueReplies image (grown es marks) → HasTrueReplies image marks
true_before [] image marks o h = h
true_before (Posted to r true ∷ es) image marks o h = true_before es image marks o h
true_before (Posted to r false ∷ es) image marks o h = true_before es image marks o h
true_before (Complained e ∷ es) image marks o h = absurd o
true_before (Received m ∷ es) image marks o h = absurd o

-- posts end nothing
ended_posts : (es before : List Told) → OnlyPosts es → took_end (es ++ before) ≡ took_end before
ended_posts [] before o = refl
ended_posts (Posted to r accepted ∷ es) before o = ended_posts es before o
ended_posts (Complained e ∷ es) before o = absurd o
ended_posts (Received m ∷ es) before o = absurd o

-- nor does a post's history
ended_after : (es before after : List Told) → OnlyPosts es → after ≡ es ++ before → took_end after ≡ took_end before
ended_after es before after o history = ap took_end history ∙ ended_posts es before o

-- an answer of End is that to an End
ended_heard : (m : Incoming) (res : Settlement) (before : List Told) → IsAnswerTo m res
    → took_end (heard m before) ≡ (not (more_may_come res) || took_end before)
ended_heard incoming.End res before a = rw a (by (took_end before) refl) where
  by : (b : Bool) → took_end before ≡ b → took_end (cond b before (Received incoming.End ∷ before)) ≡ true
  by true e = e
  by false e = refl
ended_heard (incoming.Reply x) settled.Nothing before a = refl
ended_heard (incoming.Reply x) (settled.Read t bytes) before a = refl
ended_heard (incoming.Reply x) (settled.Written t) before a = refl
ended_heard (incoming.Reply x) settled.Flush before a = absurd a
ended_heard (incoming.Reply x) settled.GaveUp before a = absurd a
ended_heard (incoming.Reply x) settled.End before a = absurd a
ended_heard (incoming.Started d) res before a = rw a refl
ended_heard incoming.GaveUp res before a = rw a refl
ended_heard incoming.Flush res before a = rw a refl

-- no message is handed over in what is told
none_told : (told : List Told) (acts : List Act) → has_absorbed (at_link told ++ acts) ≡ has_absorbed acts
none_told [] acts = refl
none_told (t ∷ told) acts = none_told told acts

-- nor in what becomes pending
none_begun : (ps : List Pending) (acts : List Act) → has_absorbed (all_began ps ++ acts) ≡ has_absorbed acts
none_begun [] acts = refl
none_begun (p ∷ ps) acts = none_begun ps acts

-- nor in a taken message
none_arrives : (m : Incoming) (before : List Told) → has_absorbed (arrival m before) ≡ false
none_arrives incoming.End before = by (took_end before) where
  by : (b : Bool) → has_absorbed (cond b [] (AtLink (Received incoming.End) ∷ [])) ≡ false
  by true = refl
  by false = refl
none_arrives (incoming.Reply a) before = refl
none_arrives (incoming.Started d) before = refl
none_arrives incoming.GaveUp before = refl
none_arrives incoming.Flush before = refl

-- and so in a step
none_absorbed : (posts : List Told) (old mid : Table) (complaints : List Told) (m : Incoming) (before : List Told)
    → has_absorbed (acts_on posts old mid complaints (arrival m before)) ≡ false
none_absorbed posts old mid complaints m before =
    none_told posts (began_on old mid ++ (at_link complaints ++ arrival m before)) ∙ by (nat_lt old.ids mid.ids)
  where
    rest : has_absorbed (at_link complaints ++ arrival m before) ≡ false
    rest = none_told complaints (arrival m before) ∙ none_arrives m before

    by : (b : Bool) → has_absorbed (cond b (all_began (drop (length mid.pending - 1) mid.pending)) [] ++ (at_link complaints ++ arrival m before)) ≡ false
    by true = none_begun (drop (length mid.pending - 1) mid.pending) (at_link complaints ++ arrival m before) ∙ rest
    by false = rest

-- nothing becomes pending in what is told
began_told : (told : List Told) (acts : List Act) (ps : List Pending) → BeganAmong acts ps → BeganAmong (at_link told ++ acts) ps
began_told [] acts ps h = h
began_told (t ∷ told) acts ps h = began_told told acts ps h

-- nor in a taken message
began_arrives : (m : Incoming) (before : List Told) (ps : List Pending) → BeganAmong (arrival m before) ps
began_arrives incoming.End before ps = by (took_end before) where
  by : (b : Bool) → BeganAmong (cond b [] (AtLink (Received incoming.End) ∷ [])) ps
  by true = tt
  by false = tt
began_arrives (incoming.Reply a) before ps = tt
began_arrives (incoming.Started d) before ps = tt
began_arrives incoming.GaveUp before ps = tt
began_arrives incoming.Flush before ps = tt

-- these become pending
began_those : (qs : List Pending) (acts : List Act) (ps : List Pending) → ((p : Pending) → IsAmong p qs → IsAmong p ps)
    → BeganAmong acts ps → BeganAmong (all_began qs ++ acts) ps
began_those [] acts ps e h = h
began_those (q ∷ qs) acts ps e h = ((q, e q (inl refl), refl), began_those qs acts ps (λ p i. e p (inr i)) h)

-- one of the last is one of all
among_drop : (n : ℕ) (ps : List Pending) (p : Pending) → IsAmong p (drop n ps) → IsAmong p ps
among_drop zero [] p i = i
among_drop zero (q ∷ ps) p i = i
among_drop (suc n) [] p i = i
among_drop (suc n) (q ∷ ps) p i = inr (among_drop n ps p i)

-- the last is one of all
among_end : (ps : List Pending) (p : Pending) → IsAmong p (ps ++ p ∷ [])
among_end [] p = inl refl
among_end (q ∷ ps) p = inr (among_end ps p)

-- what becomes pending in a step
began_in_step : (posts : List Told) (old mid : Table) (complaints : List Told) (m : Incoming) (before : List Told)
    → BeganAmong (acts_on posts old mid complaints (arrival m before)) mid.pending
began_in_step posts old mid complaints m before =
    began_told posts (began_on old mid ++ (at_link complaints ++ arrival m before)) mid.pending (by (nat_lt old.ids mid.ids))
  where
    rest : BeganAmong (at_link complaints ++ arrival m before) mid.pending
    rest = began_told complaints (arrival m before) mid.pending (began_arrives m before mid.pending)

    by : (b : Bool) → BeganAmong (cond b (all_began (drop (length mid.pending - 1) mid.pending)) [] ++ (at_link complaints ++ arrival m before)) mid.pending
    by true = began_those (drop (length mid.pending - 1) mid.pending) (at_link complaints ++ arrival m before) mid.pending
        (λ p i. among_drop (length mid.pending - 1) mid.pending p i) rest
    by false = rest

-- what the link was told stands in front
told_first : (told : List Told) (acts : List Act) → told_of (at_link told ++ acts) ≡ told ++ told_of acts
told_first [] acts = refl
told_first (t ∷ told) acts = ap (λ (l : List Told). t ∷ l) (told_first told acts)

-- what becomes pending isn't told
told_begun : (ps : List Pending) (acts : List Act) → told_of (all_began ps ++ acts) ≡ told_of acts
told_begun [] acts = refl
told_begun (p ∷ ps) acts = told_begun ps acts

-- a taken message is
told_arrival : (m : Incoming) (before : List Told) → told_of (arrival m before) ++ before ≡ heard m before
told_arrival incoming.End before = by (took_end before) where
  by : (b : Bool) → told_of (cond b [] (AtLink (Received incoming.End) ∷ [])) ++ before ≡ cond b before (Received incoming.End ∷ before)
  by true = refl
  by false = refl
told_arrival (incoming.Reply a) before = refl
told_arrival (incoming.Started d) before = refl
told_arrival incoming.GaveUp before = refl
told_arrival incoming.Flush before = refl

-- all that is told in a step
told_on : (posts : List Told) (old mid : Table) (complaints : List Told) (m : Incoming) (before : List Told)
    → told_of (acts_on posts old mid complaints (arrival m before)) ++ before ≡ posts ++ (complaints ++ heard m before)
told_on posts old mid complaints m before =
    ap (λ (l : List Told). l ++ before)
    (told_first posts (began_on old mid ++ (at_link complaints ++ arrival m before))
    ∙ ap (λ (l : List Told). posts ++ l) (by (nat_lt old.ids mid.ids) ∙ told_first complaints (arrival m before)))
    ∙ append_assoc posts (complaints ++ told_of (arrival m before)) before
    ∙ ap (λ (l : List Told). posts ++ l) (append_assoc complaints (told_of (arrival m before)) before ∙ ap (λ (l : List Told). complaints ++ l) (told_arrival m before))
  where
    by : (b : Bool) → told_of (cond b (all_began (drop (length mid.pending - 1) mid.pending)) [] ++ (at_link complaints ++ arrival m before))
        ≡ told_of (at_link complaints ++ arrival m before)
    by true = told_begun (drop (length mid.pending - 1) mid.pending) (at_link complaints ++ arrival m before)
    by false = refl

-- what is told where a request is begun
told_began : (posts before after : List Told) (r : BlockRequest) → after ≡ posts ++ before → after ≡ told_of (at_link posts ++ Began r ∷ []) ++ before
told_began posts before after r history =
    history ∙ sym (ap (λ (l : List Told). l ++ before) (told_first posts (Began r ∷ [])) ∙ append_assoc posts [] before)

-- the posts after what was done on a message
pub absorbs_then : (m : Incoming) (res : Settlement) (s t u : Table) (before between after : List Told) (was mid is : Truth)
    → TakesIn m res s t before between was mid → Leads t u between after mid is
    → MatchBool (is_message m) (PostsInOrder t.current (unposted t) between after) (after ≡ between) → u.current ≡ t.current
    → Absorbs m res s u before after was is
absorbs_then m res s t u before between after was mid is x l posts current =
    let in_order = subst (λ (h : List Told). PostsAfter m t h after) x.history posts in
    let history = l.history ∙ ap (λ (h : List Told). l.posts ++ h) x.history in
    let agrees : (marks : List Mark) → Agrees s marks → Agrees u (grown l.posts (received m marks)) = λ marks h. l.agrees (received m marks) (x.agrees marks h) in
    record {
      heard = x.agrees;
      current = current;
      given_up = l.given_up ∙ x.given_up;
      ended = ended_after l.posts between after l.only_posts l.history ∙ x.ended;
      rules = λ area marks h minors.
          absorb_rules area m s t u marks before after l.posts x.complaints h (x.agrees marks h) (x.hears marks h)
          (x.minors area minors) (x.due marks h) in_order history l.same l.posted l.issued current;
      mid = t;
      posts = l.posts;
      complaints = x.complaints;
      history = history;
      only_posts = l.only_posts;
      quiet = x.quiet;
      unasked = x.unasked;
      silent = x.silent;
      due = x.due;
      hears = x.hears;
      in_order = in_order;
      same = l.same;
      posted = l.posted;
      issued = l.issued;
      agrees = agrees;
      closes = subst (λ (ls : List Pending). Closes res (pending_of s.pending) (pending_of ls)) (sym l.same) x.closes;
      closing = λ marks h.
          closing_posted res s.pending t.pending u.pending marks (received m marks) l.posts l.only_posts l.same x.closes
          (λ image tr. true_before l.posts image (received m marks) l.only_posts tr)
          (λ image. l.spares image (received m marks) (x.agrees marks h)) (x.closing marks h);
      minors = λ area h. subst (λ (ls : List Pending). AllIn area ls) (sym l.same) (x.minors area h);
      truth = λ opening marks h minors k.
          l.truth opening (received m marks) (x.agrees marks h)
          (of_minor (wide opening.minor) t.pending (x.minors (wide opening.minor) (in_wide opening.minor s.pending minors))) (x.truth opening (received m marks) k);
    }

-- a message taken, and what was done on it
pub steps_one : (m : Incoming) (res : Settlement) (t u : Table) (before taken after : List Told) (was mid is : Truth)
    → taken ≡ heard m before
    → ((opening : Opening) (marks : List Mark) → was opening marks → mid opening (received m marks))
    → Absorbs m res t u taken after mid is → IsAnswerTo m res → Steps res t u before after was is
steps_one m res t u before taken after was mid is told truth x answer =
    let in_order = subst (λ (h : List Told). PostsAfter m x.mid (x.complaints ++ h) after) told x.in_order in
    let history = x.history ∙ ap (λ (h : List Told). x.posts ++ (x.complaints ++ h)) told in
    record {
      rules = λ area marks h minors busy going.
          step_rules area m t x.mid u marks before after x.posts x.complaints h (x.heard marks h) (x.hears marks h)
          (subst (λ (ls : List Pending). AllIn area ls) x.same (x.minors area minors)) (x.due marks h) in_order history
          x.same x.posted x.issued x.current busy going;
      acts = acts_on x.posts t x.mid x.complaints (arrival m before);
      told = history ∙ sym (told_on x.posts t x.mid x.complaints m before);
      none_absorbed = none_absorbed x.posts t x.mid x.complaints m before;
      began = subst (λ (ls : List Pending). BeganAmong (acts_on x.posts t x.mid x.complaints (arrival m before)) ls) (sym x.same)
          (began_in_step x.posts t x.mid x.complaints m before);
      given_up = x.given_up;
      ended = x.ended ∙ ap took_end told ∙ ended_heard m res before answer;
      message = m;
      mid = x.mid;
      posts = x.posts;
      complaints = x.complaints;
      history = history;
      only_posts = x.only_posts;
      unasked = x.unasked;
      answer = answer;
      due = x.due;
      hears = x.hears;
      in_order = in_order;
      same = x.same;
      posted = x.posted;
      issued = x.issued;
      closes = x.closes;
      minors = x.minors;
      grows = λ marks. grown_append x.posts (x.complaints ++ (Received m ∷ [])) marks
          ∙ ap (λ (l : List Mark). grown x.posts l)
          (grown_append x.complaints (Received m ∷ []) marks ∙ x.silent (received m marks));
      agrees = x.agrees;
      closing = x.closing;
      truth = λ opening marks h minors k. x.truth opening marks h minors (truth opening marks k);
    }

-- a request is added, and posted or not
pub begins_add : (ask : Ask) (s t u : Table) (p : Pending) (due : Bool) (before after : List Told) (was is : Truth)
    → ((marks : List Mark) → Agrees s marks → Agrees t marks)
    → t.pending ≡ s.pending ++ p ∷ [] → t.posted ≡ s.posted → t.issued ≡ s.issued → IsRequestFor ask (s.ids + 1) p.request
    → t.current ≡ s.current → u.current ≡ t.current → t.given_up ≡ s.given_up → length s.pending < 16
    → due ≡ (s.posted == length s.pending)
    → MatchBool due (PostsInOrder t.current (unposted t) before after) (after ≡ before)
    → Leads t u before after was is → Begins ask s u before after was is
begins_add ask s t u p due before after was is agrees items posted issued asked here there up few is_due in_order l =
    let added : (area : Area) → IsIn area p → AllIn area s.pending → AllIn area t.pending = λ area e h.
    subst (λ (ls : List Pending). AllIn area ls) (sym items) (in_push area s.pending p h e) in
    let wider : (n : ℕ) → ask.minor ≡ n → AllOfMinor n s.pending → AllOfMinor n t.pending = λ n e h.
    of_minor (wide n) t.pending (added (wide n) (is_in_wide n p (asked.minor ∙ e)) (in_wide n s.pending h)) in
    record {
      rules = λ area marks h m e.
          begin_rules area s t u p due marks before after l.posts h m (ask_is_in area ask (s.ids + 1) p asked e) items posted issued here there asked.number few is_due in_order l.history
          l.same l.posted l.issued;
      acts = at_link l.posts ++ Began p.request ∷ [];
      told = told_began l.posts before after p.request l.history;
      none_absorbed = none_told l.posts (Began p.request ∷ []);
      began = began_told l.posts (Began p.request ∷ []) u.pending
          ((p, subst (λ (ls : List Pending). IsAmong p ls) (sym (l.same ∙ items)) (among_end s.pending p), refl), tt);
      posts = l.posts;
      history = l.history;
      only_posts = l.only_posts;
      given_up = l.given_up ∙ up;
      ended = ended_after l.posts before after l.only_posts l.history;
      posted = omega (arith, l.posted, posted);
      issued = omega (arith, l.issued, issued);
      agrees = λ marks h. l.agrees marks (agrees marks h);
      spares = λ image marks h.
          subst (λ (x : List Pending). Spares (pending_of x) (state_after image marks) (state_after image (grown l.posts marks))) (sym l.same)
          (l.spares image marks (agrees marks h));
      minors = λ area e h. subst (λ (ls : List Pending). AllIn area ls) (sym l.same) (added area (ask_is_in area ask (s.ids + 1) p asked e) h);
      truth = λ opening marks h e m k. l.truth opening marks (agrees marks h) (wider opening.minor e m) k;
    }

-- nothing is begun
pub begins_none : (ask : Ask) (t : Table) (history : List Told) (was : Truth) → Begins ask t t history history was was
begins_none ask t history was = record {
  acts = [];
  told = refl;
  none_absorbed = refl;
  began = tt;
  given_up = refl;
  ended = refl;
  posts = [];
  history = refl;
  only_posts = tt;
  posted = omega arith;
  issued = omega (arith, t.order);
  agrees = λ marks h. h;
  spares = λ image marks h. record { disk = λ p q. refl; sure = λ p q s. s };
  minors = λ area e h. h;
  truth = λ opening marks h e m k. k;
  rules = λ area marks h m e. record { told = refl; grows = refl; keeps = tt; owes = refl };
}

-- behind these stands the last
drop_front : (xs : List Pending) (p : Pending) (n : ℕ) → n ≡ length xs → drop n (xs ++ p ∷ []) ≡ p ∷ []
drop_front xs p n e = rw e (go xs) where
  go : (xs : List Pending) → drop (length xs) (xs ++ p ∷ []) ≡ p ∷ []
  go [] = refl
  go (x ∷ xs) = go xs

-- where each earlier one was posted, what isn't posted is the new one
pub posts_new : (s t : Table) (p : Pending) (due : Bool) (before after : List Told)
    → due ≡ (s.posted == length s.pending)
    → t.pending ≡ s.pending ++ p ∷ [] → t.posted ≡ s.posted → t.current ≡ s.current
    → MatchBool due (PostsInOrder t.current (unposted t) before after) (after ≡ before)
    → PostsNew s p.request before after
posts_new s t p due before after e items posted current h =
    subst (λ (b : Bool). MatchBool b (PostsInOrder s.current (p.request ∷ []) before after) (after ≡ before)) e (by due (sym e) h) where
      unposted_is : (s.posted == length s.pending) ≡ true → unposted t ≡ p.request ∷ []
      unposted_is f =
          let all : s.posted ≡ length s.pending = grind (arith, nat_tests) in
          rw (items, posted) (ap (λ (l : List Pending). map request_of l) (drop_front s.pending p s.posted all))

      by : (b : Bool) → (s.posted == length s.pending) ≡ b → MatchBool b (PostsInOrder t.current (unposted t) before after) (after ≡ before)
          → MatchBool b (PostsInOrder s.current (p.request ∷ []) before after) (after ≡ before)
      by true f h =
          subst (λ (o : Option Endpoint). PostsInOrder o (p.request ∷ []) before after) current
          (subst (λ (l : List BlockRequest). PostsInOrder t.current l before after) (unposted_is f) h)
      by false f h = h

-- a message needs room for 33
pub room_of : (m : Incoming) → is_message m ≡ true → room_needed m ≡ 33
room_of incoming.End e = cc
room_of (incoming.Reply a) e = refl
room_of (incoming.Started d) e = refl
room_of incoming.GaveUp e = refl
room_of incoming.Flush e = refl

-- only End is no message
pub only_end : (m : Incoming) → is_message m ≡ false → m ≡ incoming.End
only_end incoming.End e = refl
only_end (incoming.Reply a) e = cc
only_end (incoming.Started d) e = cc
only_end incoming.GaveUp e = cc
only_end incoming.Flush e = cc

-- where another message may come, this was one
pub went_on : (m : Incoming) (res : Settlement) → IsAnswerTo m res → more_may_come res ≡ true → is_message m ≡ true
went_on incoming.End res a g = absurd (ended (ap more_may_come (sym a) ∙ g)) where
  ended : false ≡ true → ⊥
  ended e = cc
went_on (incoming.Reply x) res a g = refl
went_on (incoming.Started d) res a g = refl
went_on incoming.GaveUp res a g = refl
went_on incoming.Flush res a g = refl

-- a message came, so the budget wasn't spent, and fell
pub falls_to : (m : Incoming) (res : Settlement) (a b : ℕ) → IsAnswerTo m res → more_may_come res ≡ true → (0 < a → b < a) → (a ≡ 0 → m ≡ incoming.End) → b < a
falls_to m res zero b answer on less spent = absurd (nothing (ap is_message (sym (spent refl)) ∙ went_on m res answer on)) where
  nothing : is_message incoming.End ≡ true → ⊥
  nothing e = cc
falls_to m res (suc a) b answer on less spent = less (omega arith)
