-- What events keep of the drivers and of the server's record.
use Rattle.std.proofs.Common.{◌≡◌, ℕ, zero, suc, ◌+◌, ◌<◌, ◌≤◌, List, [], ◌∷◌, ◌++◌, Bool, true, false, cond, refl, sym, ◌∙◌, ap, subst, inl, inr, arith}
use Rattle.std.specs.Prelude.{All, map, Option, Some, None, slice_get, slice_set, max}
use Rattle.message.specs.declared.endpoint.Endpoint.{Endpoint}
use Rattle.message.specs.declared.BlockRequest.{BlockRequest}
use Rattle.message.specs.declared.BlockReply.{BlockReply}
use Rattle.message.specs.declared.Incoming.{Incoming}
use Rattle.message.specs.declared.Incoming.TheVariants as incoming
use Rattle.media.specs.Contents.{MediaState, written, accepts}
use Rattle.bdev.specs.declared.Step.{Step}
use Rattle.bdev.specs.declared.Step.TheVariants.{Working, Idle, Done, Failed}
use Rattle.message.specs.declared.Kind.{Kind}
use Rattle.message.specs.declared.Kind.TheVariants.{Read, Write}
use Rattle.bdev.specs.DriverState.{DriverState, Work, chunk, fresh}
use Rattle.bdev.specs.Promises.{StepKeeps, StepsAt as DriverStepsAt, MovesAtMostOne, MovesBytes, IsDriver}
use Rattle.reincarnate.specs.declared.policy.Event.{Event as PolicyEvent}
use Rattle.reincarnate.specs.declared.policy.Event.TheVariants as policy
use Rattle.reincarnate.specs.Watch as restart
use Rattle.reincarnate.specs.Watch.{driver, on}
use Rattle.records.specs.Marks.{Mark, Started, Answered, Flush, GaveUp, Fault, ChangesNothing}
use Rattle.records.specs.declared.marks.Cause.{Cause}
use Rattle.records.specs.declared.marks.Cause.TheVariants.{Exit, Hung}
use Rattle.records.specs.Open.{IsIn, counts}
use Rattle.records.specs.Opening.{Opening, contents_at}
use Rattle.records.specs.Told.{received}
use Rattle.schedule.specs.declared.Sent.{Sent}
use Rattle.schedule.specs.declared.Event.TheVariants as event
use Rattle.schedule.specs.Groups.{Group, event_of}
use Rattle.synchronous_driver.specs.Inline.{IsReady}
use Rattle.synchronous_driver.specs.Steps.{HandsOver}
use Rattle.true_replies.specs.State.{State, state_of, Invariant}
use Rattle.true_replies.specs.Posted.{IsSent, since_start}
use Rattle.true_replies.specs.Events.{opening_media, IsOnMedia, sent_after, live_after, reply_of, Stepped, SteppedOlder, Torn, Dead, Replaced, Repeated, Delivered, Noted as AlsoNoted}
use Rattle.true_replies.proofs.Keeps.{next_keeps, opening_holds}
use Rattle.true_replies.proofs.Others.{handed_keeps}
use Rattle.schedule.specs.Faultless.{without_faults}
use Rattle.schedule.specs.declared.log.LogEntry.{LogEntry}
use Rattle.schedule.specs.declared.log.LogEntry.TheVariants as entry
use Rattle.schedule.specs.declared.log.Post.{Post}
use Rattle.schedule.specs.Posts.{post_of}
use Rattle.schedule.specs.Noted.{Noted, grouped, with_mark, with_entry}
use Rattle.schedule.proofs.NotedLaws.{mark_in, one_more}
use Rattle.simulated_link.specs.declared.events.ruling.Ruling.{Ruling}
use Rattle.simulated_link.specs.declared.events.ruling.Ruling.TheVariants as ruling
use Rattle.simulated_link.specs.Disks.{Disks, seen, reply_in, sent_at, Steps, NoStep, CurrentSteps, OlderSteps, torn_media, Dies, NoneDies, CurrentDies, OlderDies, Hangs, NoneHangs, CurrentHangs, OlderHangs, LinesUpAgain, NoneLinesUp, CurrentLinesUp, OlderLinesUp, Repeats, started, opened_disks}
use Rattle.simulated_link.specs.Scene.{Scene, faulted, told_of_ruling, ruled, Exits, beaten, acted, told_of_action, tick_event, next_started, Ticks, AfterStep, AfterDeath, delivered}
use Rattle.simulated_link.specs.Kept.{DisksKept, IsPost, PostsKept, SceneKept, NotesAside, with_next, IsLatest, EventsKeep, EventsNoteAside, OpeningKeeps}
use Rattle.simulated_link.proofs.DisksLaws.{map_push}
use Rattle.simulated_link.proofs.Decided.{start_is_next}

sent_same : (place g : ℕ) (step : Step) (sent : List Sent) → map reply_in (sent_at place g step sent) ≡ sent_after g step (map reply_in sent)
sent_same place g (Done a) sent = map_push reply_in sent (record { reply = reply_of g a; place = place })
sent_same place g Working sent = refl
sent_same place g Idle sent = refl
sent_same place g Failed sent = refl

abbrev Fine : Opening → State → Type 0
Fine v x = Invariant v (contents_at v) (opening_media v) x

-- the front of the line is handed over
hands_keep : (v : Opening) (media : MediaState) (d h : DriverState) (live : Bool) (line after : List BlockRequest) (sent : List BlockReply) (marks : List Mark)
    → HandsOver d line h after → IsDriver h → Fine v (state_of media d live line sent marks) → Fine v (state_of media h live after sent marks)
hands_keep v media d h live [] after sent marks hands driver kept =
    subst (λ (l : List BlockRequest). Fine v (state_of media h live l sent marks)) (sym hands.1)
    (subst (λ (x : DriverState). Fine v (state_of media x live [] sent marks)) (sym hands.0) kept)
hands_keep v media d h live (q ∷ rest) after sent marks hands driver kept =
    subst (λ (l : List BlockRequest). Fine v (state_of media h live l sent marks)) (sym hands.2)
    (handed_keeps v (contents_at v) (opening_media v) (state_of media d live (q ∷ rest) sent marks) hands.0 q rest h kept refl hands.1 driver)

steps_keep : (v : Opening) (place g : ℕ) (b a : Disks) (result : Option Step) (marks : List Mark) → Steps place g b result a
    → DisksKept v b marks → DisksKept v a marks
steps_keep v place g b _ _ marks (NoStep none) kept = kept
steps_keep v place g b _ _ marks (CurrentSteps step a m is live s) kept =
    let x = state_of b.media s.handed b.current.live a.line (map reply_in b.sent) marks in
    let at_hand : Fine v x = hands_keep v b.media b.current.state s.handed b.current.live b.current.line a.line (map reply_in b.sent) marks s.hands
    s.driver kept in
    let after : Fine v (state_of m a.state (live_after step b.current.live) a.line (sent_after b.media.generation step (map reply_in b.sent)) marks) =
    next_keeps v (contents_at v) (opening_media v) x _ at_hand
    (Stepped step a.state m live (subst (λ (n : ℕ). StepKeeps s.handed b.media n step a.state m) is s.steps) s.after) in
    subst (λ (alive : Bool). Fine v (state_of m a.state alive a.line (map reply_in (sent_at place g step b.sent)) marks)) (sym s.lives)
    (subst (λ (l : List BlockReply). Fine v (state_of m a.state (live_after step b.current.live) a.line l marks))
    (ap (λ (n : ℕ). sent_after n step (map reply_in b.sent)) (sym is) ∙ sym (sent_same place g step b.sent)) after)
steps_keep v place g b _ _ marks (OlderSteps at was a step m older live s) kept =
    subst (λ (l : List BlockReply). Fine v (state_of m b.current.state b.current.live b.current.line l marks)) (sym (sent_same place g step b.sent))
    (next_keeps v (contents_at v) (opening_media v) (seen b marks) _ kept (SteppedOlder g s.handed a.state step m older.older s.steps))

-- the current driver dies
dies_current : (v : Opening) (d : Disks) (g : ℕ) (sector : Option ℕ) (bytes : Option (List ℕ)) (marks : List Mark) → d.current.state.in_work ≡ sector
    → d.current.live ≡ true → DisksKept v d marks
    → Fine v (state_of (torn_media d.media g sector bytes) d.current.state false d.current.line (map reply_in d.sent) marks)
dies_current v d g (Some sector) (Some bytes) marks e live kept =
    next_keeps v (contents_at v) (opening_media v) (seen d marks) _ kept (Torn g sector bytes live e)
dies_current v d g (Some sector) None marks e live kept = next_keeps v (contents_at v) (opening_media v) (seen d marks) _ kept Dead
dies_current v d g None (Some bytes) marks e live kept = next_keeps v (contents_at v) (opening_media v) (seen d marks) _ kept Dead
dies_current v d g None None marks e live kept = next_keeps v (contents_at v) (opening_media v) (seen d marks) _ kept Dead

dies_keep : (v : Opening) (g : ℕ) (bytes : Option (List ℕ)) (b a : Disks) (died : Bool) (marks : List Mark) → Dies g bytes b died a
    → DisksKept v b marks → DisksKept v a marks
dies_keep v g bytes b _ _ marks (NoneDies none) kept = kept
dies_keep v g bytes b _ _ marks (CurrentDies is live) kept = dies_current v b g b.current.state.in_work bytes marks refl live kept
dies_keep v g bytes b _ _ marks (OlderDies at was older live) kept = kept

-- a media's generation stays but for a start
torn_generation : (m : MediaState) (g : ℕ) (sector : Option ℕ) (bytes : Option (List ℕ)) → (torn_media m g sector bytes).generation ≡ m.generation
torn_generation m g (Some sector) (Some bytes) = by (accepts m g sector) where
  by : (c : Bool) → (cond c (record m { sectors = slice_set m.sectors sector bytes }) m).generation ≡ m.generation
  by true = refl
  by false = refl
torn_generation m g (Some sector) None = refl
torn_generation m g None bytes = refl

dies_generation : (g : ℕ) (bytes : Option (List ℕ)) (b a : Disks) (died : Bool) → Dies g bytes b died a → a.media.generation ≡ b.media.generation
dies_generation g bytes b _ _ (NoneDies none) = refl
dies_generation g bytes b _ _ (CurrentDies is live) = torn_generation b.media g b.current.state.in_work bytes
dies_generation g bytes b _ _ (OlderDies at was older live) = refl

hangs_keep : (v : Opening) (g : ℕ) (b a : Disks) (marks : List Mark) → Hangs g b a → DisksKept v b marks → DisksKept v a marks
hangs_keep v g b _ marks (NoneHangs none) kept = kept
hangs_keep v g b _ marks (CurrentHangs is) kept = kept
hangs_keep v g b _ marks (OlderHangs at was older) kept = kept

hangs_generation : (g : ℕ) (b a : Disks) → Hangs g b a → a.media.generation ≡ b.media.generation
hangs_generation g b _ (NoneHangs none) = refl
hangs_generation g b _ (CurrentHangs is) = refl
hangs_generation g b _ (OlderHangs at was older) = refl

lines_keep : (v : Opening) (g : ℕ) (r : BlockRequest) (b a : Disks) (marks : List Mark) → LinesUpAgain g r b a
    → (g ≡ b.media.generation → IsIn r (since_start marks)) → DisksKept v b marks → DisksKept v a marks
lines_keep v g r b _ marks (NoneLinesUp none) was kept = kept
lines_keep v g r b _ marks (CurrentLinesUp is live few) was kept =
    next_keeps v (contents_at v) (opening_media v) (seen b marks) _ kept (Repeated r (was is))
lines_keep v g r b _ marks (OlderLinesUp at slot older live few) was kept = kept

lines_generation : (g : ℕ) (r : BlockRequest) (b a : Disks) → LinesUpAgain g r b a → a.media.generation ≡ b.media.generation
lines_generation g r b _ (NoneLinesUp none) = refl
lines_generation g r b _ (CurrentLinesUp is live few) = refl
lines_generation g r b _ (OlderLinesUp at slot older live few) = refl

-- the post that stands there is one of them
there_is_post : (posts : List Post) (n : ℕ) (p : Post) → slice_get posts n ≡ Some p → IsPost p posts
there_is_post [] n p there = cc
there_is_post (q ∷ posts) zero p there = inl (cc)
there_is_post (q ∷ posts) (suc n) p there = inr (there_is_post posts n p there)

-- what leaves the requests issued since the start leaves what holds of posts
pub posts_stay : (g : ℕ) (posts : List Post) (marks more : List Mark) → since_start more ≡ since_start marks → PostsKept g posts marks → PostsKept g posts more
posts_stay g posts marks more same k = record {
  before = k.before;
  since = λ p is at. subst (λ (l : List BlockRequest). IsIn p.request l) (sym same) (k.since p is at);
}

reply_leaves : (a : BlockReply) (marks : List Mark) → since_start (received (incoming.Reply a) marks) ≡ since_start marks
reply_leaves a marks = by (counts marks a) where
  by : (c : Bool) → since_start (cond c (Answered a ∷ marks) marks) ≡ since_start marks
  by true = refl
  by false = refl

-- the same drivers, posts and supply
pub kept_same : (v : Opening) (b a : Scene) (marks : List Mark) → a.disks ≡ b.disks → a.noted.posts ≡ b.noted.posts → a.supply ≡ b.supply
    → SceneKept v b marks → SceneKept v a marks
kept_same v b a marks disks posts supply k = record {
  disks = subst (λ (d : Disks). DisksKept v d marks) (sym disks) k.disks;
  posts = subst (λ (d : Disks). PostsKept d.media.generation a.noted.posts marks) (sym disks)
      (subst (λ (l : List Post). PostsKept b.disks.media.generation l marks) (sym posts) k.posts);
  supply = subst (λ (l : List DriverState). All (IsReady v) l) (sym supply) k.supply;
}

-- a mark that changes nothing
pub kept_noted : (v : Opening) (b : Scene) (m : Mark) (marks : List Mark) → ChangesNothing m → since_start (m ∷ marks) ≡ since_start marks
    → SceneKept v b marks → SceneKept v b (m ∷ marks)
kept_noted v b m marks nothing same k = record {
  disks = next_keeps v (contents_at v) (opening_media v) (seen b.disks marks) _ k.disks (AlsoNoted m nothing);
  posts = posts_stay b.disks.media.generation b.noted.posts marks (m ∷ marks) same k.posts;
  supply = k.supply;
}

-- other disks of the same generation
kept_disks : (v : Opening) (b : Scene) (d : Disks) (marks : List Mark) → d.media.generation ≡ b.disks.media.generation → DisksKept v d marks
    → SceneKept v b marks → SceneKept v (record b { disks = d }) marks
kept_disks v b d marks same kept k = record {
  disks = kept;
  posts = subst (λ (g : ℕ). PostsKept g b.noted.posts marks) (sym same) k.posts;
  supply = k.supply;
}

pub history_same : (m : Mark) (n : Noted) → (with_mark m n).history ≡ n.history
history_same m n = by n.groups where
  by : (groups : List Group) → (grouped m groups n.first n).history ≡ n.history
  by [] = refl
  by (g ∷ groups) = refl

pub events_same : (m : Mark) (n : Noted) → map event_of (with_mark m n).groups ≡ map event_of n.groups
events_same m n = by n.groups refl where
  by : (groups : List Group) → n.groups ≡ groups → map event_of (grouped m groups n.first n).groups ≡ map event_of n.groups
  by [] is = refl
  by (g ∷ groups) is = sym (ap (map event_of) is)

none_after : (xs : List Post) → xs ++ [] ≡ xs
none_after [] = refl
none_after (x ∷ xs) = ap (λ (l : List Post). x ∷ l) (none_after xs)

-- a note that is no accepted post
pub posts_entry : (e : LogEntry) (n : Noted) → post_of e ≡ [] → (with_entry e n).posts ≡ n.posts
posts_entry e n none = one_more e n.posts ∙ ap (λ (l : List Post). n.posts ++ l) none ∙ none_after n.posts

pub aside_none : (n : Noted) → NotesAside n n
aside_none n = record { history = refl; marks = refl; posts = refl; events = refl }

pub aside_both : (a b c : Noted) → NotesAside a b → NotesAside b c → NotesAside a c
aside_both a b c p q = record {
  history = q.history ∙ p.history;
  marks = q.marks ∙ p.marks;
  posts = q.posts ∙ p.posts;
  events = q.events ∙ p.events;
}

pub aside_fault : (e : Endpoint) (cause : Cause) (n : Noted) → NotesAside n (with_entry (entry.Faulted e cause) n)
aside_fault e cause n = record {
  history = history_same (Fault e cause) n;
  marks = ap without_faults (mark_in (Fault e cause) n);
  posts = posts_entry (entry.Faulted e cause) n refl;
  events = events_same (Fault e cause) n;
}

-- a fault, if it was ruled so
faulted_disks : (r : Ruling) (e : Endpoint) (cause : Cause) (b : Scene) → (faulted r e cause b).disks ≡ b.disks
faulted_disks ruling.Ignored e cause b = refl
faulted_disks ruling.Fault e cause b = refl
faulted_disks ruling.GivesUp e cause b = refl

faulted_supply : (r : Ruling) (e : Endpoint) (cause : Cause) (b : Scene) → (faulted r e cause b).supply ≡ b.supply
faulted_supply ruling.Ignored e cause b = refl
faulted_supply ruling.Fault e cause b = refl
faulted_supply ruling.GivesUp e cause b = refl

faulted_aside : (r : Ruling) (e : Endpoint) (cause : Cause) (b : Scene) → NotesAside b.noted (faulted r e cause b).noted
faulted_aside ruling.Ignored e cause b = aside_none b.noted
faulted_aside ruling.Fault e cause b = aside_fault e cause b.noted
faulted_aside ruling.GivesUp e cause b = aside_fault e cause b.noted

faulted_keeps : (v : Opening) (r : Ruling) (e : Endpoint) (cause : Cause) (b : Scene) (marks : List Mark) → SceneKept v b marks
    → SceneKept v (faulted r e cause b) marks
faulted_keeps v r e cause b marks k =
    kept_same v b (faulted r e cause b) marks (faulted_disks r e cause b) (faulted_aside r e cause b).posts (faulted_supply r e cause b) k

told_keeps : (v : Opening) (r : Ruling) (b : Scene) (marks : List Mark) → SceneKept v b marks → SceneKept v b (with_next (told_of_ruling r) marks)
told_keeps v ruling.Ignored b marks k = k
told_keeps v ruling.Fault b marks k = k
told_keeps v ruling.GivesUp b marks k = kept_noted v b GaveUp marks tt refl k

-- by equations
kept_by : (v : Opening) (a b : Scene) (result told : Option Incoming) (marks : List Mark) → result ≡ told → a ≡ b
    → SceneKept v b (with_next told marks) → SceneKept v a (with_next result marks)
kept_by v a b result told marks tells is k =
    subst (λ (r : Option Incoming). SceneKept v a (with_next r marks)) (sym tells)
    (subst (λ (s : Scene). SceneKept v s (with_next told marks)) (sym is) k)

aside_by : (b a c : Scene) → a ≡ c → NotesAside b.noted c.noted → NotesAside b.noted a.noted
aside_by b a c is n = subst (λ (s : Scene). NotesAside b.noted s.noted) (sym is) n

-- what is known of the reincarnation server is no part of what is kept
ruled_keeps : (v : Opening) (event : PolicyEvent) (b : Scene) (marks : List Mark) → SceneKept v b marks → SceneKept v (ruled event b) marks
ruled_keeps v event b marks k = record { disks = k.disks; posts = k.posts; supply = k.supply }

exits_keep : (v : Opening) (g : ℕ) (b a : Scene) (result : Option Incoming) (marks : List Mark) → Exits g b result a → SceneKept v b marks
    → SceneKept v a (with_next result marks)
exits_keep v g b a result marks x k =
    kept_by v a _ result (told_of_ruling x.ruling) marks x.tells x.after
    (told_keeps v x.ruling _ marks
    (faulted_keeps v x.ruling (driver g) Exit _ marks (ruled_keeps v (policy.Exit (driver g) b.tick) b marks k)))

exits_aside : (g : ℕ) (b a : Scene) (result : Option Incoming) → Exits g b result a → NotesAside b.noted a.noted
exits_aside g b a result x = aside_by b a _ x.after (faulted_aside x.ruling (driver g) Exit (ruled (policy.Exit (driver g) b.tick) b))

-- a driver is started
starts_keep : (v : Opening) (g : ℕ) (d : DriverState) (rest : List DriverState) (b : Scene) (marks : List Mark) → g ≡ b.disks.media.generation + 1
    → b.supply ≡ d ∷ rest → SceneKept v b marks
    → SceneKept v (record b { disks = started g d b.disks; supply = rest }) (Started (driver g) ∷ marks)
starts_keep v g d rest b marks next spare k =
    let ready : All (IsReady v) (d ∷ rest) = subst (λ (l : List DriverState). All (IsReady v) l) spare k.supply in
    let newer : b.disks.media.generation < g = omega (arith, next) in
    record {
      disks = next_keeps v (contents_at v) (opening_media v) (seen b.disks marks) _ k.disks
          (Replaced g d newer (ready zero d (omega arith)).driver (ready zero d (omega arith)).ready);
      posts = record {
        before = λ p is. let h : p.to.generation ≤ b.disks.media.generation = k.posts.before p is in omega (arith, h, next);
        since = λ p is at. let h : p.to.generation ≤ b.disks.media.generation = k.posts.before p is in absurd (greater p h at);
      };
      supply = λ i x low. ready (suc i) x (omega (arith, low));
    } where
      greater : (p : Post) → p.to.generation ≤ b.disks.media.generation → p.to.generation ≡ max b.disks.media.generation g → ⊥
      greater p h at = omega (arith, h, at, next)

next_driver_keeps : (v : Opening) (e : Endpoint) (b : Scene) (supply : List DriverState) (marks : List Mark) → supply ≡ b.supply
    → e ≡ driver (b.disks.media.generation + 1) → ((d : DriverState) × (rest : List DriverState) × (b.supply ≡ d ∷ rest)) → SceneKept v b marks
    → SceneKept v (next_started e.generation supply b) (Started e ∷ marks)
next_driver_keeps v e b [] marks is at spare k = absurd (no_spare spare.0 spare.1 (is ∙ spare.2)) where
  no_spare : (d : DriverState) (rest : List DriverState) → ◌≡◌ {A = List DriverState} [] (d ∷ rest) → ⊥
  no_spare d rest h = cc
next_driver_keeps v e b (d ∷ rest) marks is at spare k =
    subst (λ (x : Endpoint). SceneKept v (record b { disks = started e.generation d b.disks; supply = rest }) (Started x ∷ marks))
    (ap (λ (x : Endpoint). driver x.generation) at ∙ sym at)
    (starts_keep v e.generation d rest b marks (ap (λ (x : Endpoint). x.generation) at) (sym is) k)

acted_keeps : (v : Opening) (action : restart.Action) (b : Scene) (marks : List Mark)
    → ((e : Endpoint) → action ≡ restart.Start e → (e ≡ driver (b.disks.media.generation + 1)) × ((d : DriverState) × (rest : List DriverState) × (b.supply ≡ d ∷ rest)))
    → SceneKept v b marks → SceneKept v (acted action b) (with_next (told_of_action action) marks)
acted_keeps v restart.Nothing b marks start k = k
acted_keeps v (restart.WaitUntil tick) b marks start k = faulted_keeps v ruling.Fault (driver b.disks.media.generation) Hung b marks k
acted_keeps v restart.GiveUp b marks start k =
    kept_noted v _ GaveUp marks tt refl (faulted_keeps v ruling.GivesUp (driver b.disks.media.generation) Hung b marks k)
acted_keeps v (restart.Start e) b marks start k = next_driver_keeps v e b b.supply marks refl (start e refl).0 (start e refl).1 k

ticks_keep : (v : Opening) (b a : Scene) (result : Option Incoming) (marks : List Mark) → IsLatest b → Ticks b result a → SceneKept v b marks
    → SceneKept v a (with_next result marks)
ticks_keep v b a result marks latest t k =
    let c = ruled (tick_event (beaten b)) (beaten b) in
    let beaten_keeps : SceneKept v c marks = record { disks = k.disks; posts = k.posts; supply = k.supply } in
    kept_by v a (acted t.action c) result (told_of_action t.action) marks t.tells t.after
    (acted_keeps v t.action c marks
    (λ e is. (
      start_is_next b.policy b.watch (beaten b).tick (beaten b).pulse e (sym t.is ∙ is)
          ∙ ap (λ (n : ℕ). driver (n + 1)) latest,
      t.spare e is,
    ))
    beaten_keeps)

acted_aside : (action : restart.Action) (b : Scene) → NotesAside b.noted (acted action b).noted
acted_aside restart.Nothing b = aside_none b.noted
acted_aside (restart.WaitUntil tick) b = aside_fault (driver b.disks.media.generation) Hung b.noted
acted_aside restart.GiveUp b = aside_fault (driver b.disks.media.generation) Hung b.noted
acted_aside (restart.Start e) b = by b.supply where
  by : (supply : List DriverState) → NotesAside b.noted (next_started e.generation supply b).noted
  by [] = aside_none b.noted
  by (d ∷ rest) = aside_none b.noted

after_step_keeps : (v : Opening) (step : Option Step) (g : ℕ) (b a : Scene) (result : Option Incoming) (marks : List Mark) → AfterStep step g b result a
    → SceneKept v b marks → SceneKept v a (with_next result marks)
after_step_keeps v (Some Failed) g b a result marks x k = exits_keep v g b a result marks x k
after_step_keeps v (Some Working) g b a result marks x k = kept_by v a b result None marks x.0 x.1 k
after_step_keeps v (Some Idle) g b a result marks x k = kept_by v a b result None marks x.0 x.1 k
after_step_keeps v (Some (Done answer)) g b a result marks x k = kept_by v a b result None marks x.0 x.1 k
after_step_keeps v None g b a result marks x k = kept_by v a b result None marks x.0 x.1 k

after_step_aside : (step : Option Step) (g : ℕ) (b a : Scene) (result : Option Incoming) → AfterStep step g b result a → NotesAside b.noted a.noted
after_step_aside (Some Failed) g b a result x = exits_aside g b a result x
after_step_aside (Some Working) g b a result x = aside_by b a b x.1 (aside_none b.noted)
after_step_aside (Some Idle) g b a result x = aside_by b a b x.1 (aside_none b.noted)
after_step_aside (Some (Done answer)) g b a result x = aside_by b a b x.1 (aside_none b.noted)
after_step_aside None g b a result x = aside_by b a b x.1 (aside_none b.noted)

after_death_keeps : (v : Opening) (died : Bool) (g : ℕ) (b a : Scene) (result : Option Incoming) (marks : List Mark) → AfterDeath died g b result a
    → SceneKept v b marks → SceneKept v a (with_next result marks)
after_death_keeps v true g b a result marks x k = exits_keep v g b a result marks x k
after_death_keeps v false g b a result marks x k = kept_by v a b result None marks x.0 x.1 k

after_death_aside : (died : Bool) (g : ℕ) (b a : Scene) (result : Option Incoming) → AfterDeath died g b result a → NotesAside b.noted a.noted
after_death_aside true g b a result x = exits_aside g b a result x
after_death_aside false g b a result x = aside_by b a b x.1 (aside_none b.noted)

reply_or : BlockReply → Option Sent → BlockReply
reply_or a (Some s) = s.reply
reply_or a None = a

sent_there : (sent : List Sent) (n : ℕ) (s : Sent) → slice_get sent n ≡ Some s → IsSent s.reply (map reply_in sent)
unfolding reply_or
sent_there [] n s there = cc
sent_there (x ∷ sent) zero s there = inl (sym (ap (λ (o : Option Sent). reply_or x.reply o) there))
sent_there (x ∷ sent) (suc n) s there = inr (sent_there sent n s there)

delivered_keeps : (v : Opening) (b : Scene) (o : Option Sent) (n : ℕ) (marks : List Mark) → slice_get b.disks.sent n ≡ o → SceneKept v b marks
    → SceneKept v b (with_next (delivered o) marks)
delivered_keeps v b None n marks there k = k
delivered_keeps v b (Some s) n marks there k = record {
  disks = next_keeps v (contents_at v) (opening_media v) (seen b.disks marks) _ k.disks (Delivered s.reply (sent_there b.disks.sent n s there));
  posts = posts_stay b.disks.media.generation b.noted.posts marks (received (incoming.Reply s.reply) marks) (reply_leaves s.reply marks) k.posts;
  supply = k.supply;
}

repeats_keep : (v : Opening) (b : Scene) (o : Option Post) (n : ℕ) (d : Disks) (marks : List Mark) → slice_get b.noted.posts n ≡ o → Repeats o b.disks d
    → SceneKept v b marks → SceneKept v (record b { disks = d }) marks
repeats_keep v b None n d marks there same k =
    kept_disks v b d marks (ap (λ (x : Disks). x.media.generation) same) (subst (λ (x : Disks). DisksKept v x marks) (sym same) k.disks) k
repeats_keep v b (Some p) n d marks there again k =
    kept_disks v b d marks (lines_generation p.to.generation p.request b.disks d again)
    (lines_keep v p.to.generation p.request b.disks d marks again (k.posts.since p (there_is_post b.noted.posts n p there)) k.disks) k

written_generation : (m : MediaState) (g n : ℕ) (bytes : List ℕ) → (written m g n bytes).generation ≡ m.generation
written_generation m g n bytes = by (accepts m g n) where
  by : (c : Bool) → (cond c (record m { sectors = slice_set m.sectors n bytes }) m).generation ≡ m.generation
  by true = refl
  by false = refl

moves_generation : (kind : Kind) (w : Work) (m : MediaState) (g s j : ℕ) (w' : Work) (m' : MediaState) → MovesBytes kind w m g s j w' m'
    → m'.generation ≡ m.generation
moves_generation Read w m g s j w' m' moves = ap (λ (x : MediaState). x.generation) moves.0
moves_generation Write w m g s j w' m' moves = ap (λ (x : MediaState). x.generation) moves ∙ written_generation m g s (chunk j w.request.bytes)

step_moves : (b : DriverState) (w w' : Work) (m m' : MediaState) (g : ℕ) → MovesAtMostOne b w m g w' m' → m'.generation ≡ m.generation
step_moves b w w' m m' g (inl none) = ap (λ (x : MediaState). x.generation) none.same_media
step_moves b w w' m m' g (inr one) = moves_generation w.request.kind w m g (one.run.first + one.number) one.number w' m' one.bytes

steps_at : (b a : DriverState) (work : Option Work) (m m' : MediaState) (g : ℕ) (step : Step) → DriverStepsAt b work m g step a m' → m'.generation ≡ m.generation
steps_at b a None m m' g step s = ap (λ (x : MediaState). x.generation) s.0
steps_at b a (Some w) m m' g step s = step_moves b w s.0 m m' g s.1

step_generation : (b a : DriverState) (m m' : MediaState) (g : ℕ) (step : Step) → StepKeeps b m g step a m' → m'.generation ≡ m.generation
step_generation b a m m' g step s = steps_at b a b.work m m' g step s.steps

steps_generation : (place g : ℕ) (b a : Disks) (result : Option Step) → Steps place g b result a → a.media.generation ≡ b.media.generation
steps_generation place g b _ _ (NoStep none) = refl
steps_generation place g b _ _ (CurrentSteps step a m is live s) = step_generation s.handed a.state b.media m g step s.steps
steps_generation place g b _ _ (OlderSteps at was a step m older live s) = step_generation s.handed a.state b.media m g step s.steps

pub events_keep : EventsKeep
events_keep v place (event.Arrive who now call) b a result marks latest p k = kept_by v a b result None marks p.0 p.1 k
events_keep v place event.Flush b a result marks latest p k =
    kept_by v a b result (Some incoming.Flush) marks p.0 p.1 (kept_noted v b Flush marks tt refl k)
events_keep v place event.Tick b a result marks latest p k = ticks_keep v b a result marks latest p k
events_keep v place (event.Step g) b a result marks latest p k =
    after_step_keeps v p.step g (record b { disks = p.disks }) a result marks p.after
    (kept_disks v b p.disks marks (steps_generation place g b.disks p.disks p.step p.steps)
    (steps_keep v place g b.disks p.disks p.step marks p.steps k.disks) k)
events_keep v place (event.Die g bytes) b a result marks latest p k =
    after_death_keeps v p.died g (record b { disks = p.disks }) a result marks p.after
    (kept_disks v b p.disks marks (dies_generation g bytes b.disks p.disks p.died p.dies)
    (dies_keep v g bytes b.disks p.disks p.died marks p.dies k.disks) k)
events_keep v place (event.Hang g) b a result marks latest p k =
    kept_by v a (record b { disks = p.disks }) result None marks p.tells p.after
    (kept_disks v b p.disks marks (hangs_generation g b.disks p.disks p.does) (hangs_keep v g b.disks p.disks marks p.does k.disks) k)
events_keep v place (event.Deliver n) b a result marks latest p k =
    kept_by v a b result (delivered (slice_get b.disks.sent n)) marks p.0 p.1 (delivered_keeps v b (slice_get b.disks.sent n) n marks refl k)
events_keep v place (event.Repeat n) b a result marks latest p k =
    kept_by v a (record b { disks = p.disks }) result None marks p.tells p.after
    (repeats_keep v b (slice_get b.noted.posts n) n p.disks marks refl p.does k)

pub events_note_aside : EventsNoteAside
events_note_aside place (event.Arrive who now call) b a result p = aside_by b a b p.1 (aside_none b.noted)
events_note_aside place event.Flush b a result p = aside_by b a b p.1 (aside_none b.noted)
events_note_aside place event.Tick b a result p = aside_by b a _ p.after (acted_aside p.action (ruled (tick_event (beaten b)) (beaten b)))
events_note_aside place (event.Step g) b a result p = after_step_aside p.step g (record b { disks = p.disks }) a result p.after
events_note_aside place (event.Die g bytes) b a result p = after_death_aside p.died g (record b { disks = p.disks }) a result p.after
events_note_aside place (event.Hang g) b a result p = aside_by b a (record b { disks = p.disks }) p.after (aside_none b.noted)
events_note_aside place (event.Deliver n) b a result p = aside_by b a b p.1 (aside_none b.noted)
events_note_aside place (event.Repeat n) b a result p = aside_by b a (record b { disks = p.disks }) p.after (aside_none b.noted)

-- a driver that isn't there could have done nothing yet
before_first : (v : Opening) → IsOnMedia v → Fine v (state_of (opening_media v) (fresh []) false [] [] [])
before_first v on = opening_holds v (state_of (opening_media v) (fresh []) false [] [] []) on (record {
  media = refl;
  driver = record { bad_is_few = omega arith; names_its_own = tt };
  unused = refl;
  live = refl;
  line = refl;
  sent = refl;
  marks = refl;
})

opening_kept : (v : Opening) (s : Scene) (first : DriverState) (rest : List DriverState) → IsOnMedia v → All (IsReady v) (first ∷ rest)
    → s.noted.posts ≡ [] → s.disks ≡ opened_disks (opening_media v) first → s.supply ≡ rest → SceneKept v s (Started (driver 1) ∷ [])
opening_kept v s first rest on ready none disks supply =
    let own : IsReady v first = ready zero first (omega arith) in
    record {
      disks = subst (λ (d : Disks). DisksKept v d (Started (driver 1) ∷ [])) (sym disks)
          (next_keeps v (contents_at v) (opening_media v) (state_of (opening_media v) (fresh []) false [] [] []) _ (before_first v on)
          (Replaced 1 first (omega arith) own.driver own.ready));
      posts = subst (λ (l : List Post). PostsKept s.disks.media.generation l (Started (driver 1) ∷ [])) (sym none)
          (record { before = λ p is. absurd is; since = λ p is at. absurd is });
      supply = subst (λ (l : List DriverState). All (IsReady v) l) (sym supply) (λ i x low. ready (suc i) x (omega (arith, low)));
    }

pub opening_keeps : OpeningKeeps
opening_keeps v rules watch supply noted a on ready none o =
    subst (λ (s : Scene). SceneKept v s (Started (driver 1) ∷ [])) (sym o.is)
    (opening_kept v _ o.first o.rest on (subst (λ (l : List DriverState). All (IsReady v) l) o.spare ready) none refl refl)
