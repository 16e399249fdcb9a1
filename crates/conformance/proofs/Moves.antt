-- What each event, and what is done within one, does to the drivers and to what was issued to them.
use Rattle.std.proofs.Common.{◌≡◌, ℕ, ◌+◌, List, [], ◌∷◌, ◌++◌, Bool, true, false, refl, sym, ◌∙◌, ap, subst}
use Rattle.std.specs.Prelude.{◌==◌, if◌then◌else◌, Option, Some, None, Result, Ok, slice_get, slice_set}
use Rattle.message.specs.declared.endpoint.Endpoint.{Endpoint}
use Rattle.message.specs.declared.BlockRequest.{BlockRequest}
use Rattle.message.specs.declared.BlockReply.{BlockReply}
use Rattle.media.specs.Contents.{MediaState}
use Rattle.bdev.specs.declared.Step.{Step}
use Rattle.bdev.specs.declared.Step.TheVariants.{Working, Idle, Done, Failed}
use Rattle.bdev.specs.DriverState.{DriverState}
use Rattle.reincarnate.specs.Watch.{driver}
use Rattle.records.specs.Marks.{Mark, Started, Issued}
use Rattle.records.specs.declared.marks.Cause.{Cause}
use Rattle.records.specs.declared.marks.Cause.TheVariants.{Exit, Hung}
use Rattle.schedule.specs.declared.Sent.{Sent}
use Rattle.schedule.specs.declared.Event.{Event}
use Rattle.schedule.specs.Groups.{Group}
use Rattle.schedule.specs.Drivers.{requests_issued_to}
use Rattle.true_replies.specs.Posted.{since_start}
use Rattle.true_replies.specs.Events.{reply_of}
use Rattle.reissue.specs.declared.link.LinkRefusal.{LinkRefusal}
use Rattle.schedule.specs.declared.log.Post.{Post}
use Rattle.simulated_link.specs.Disks.{Disks, Slot, SlotSteps, IsOlder, started, sent_at, is_at, lined_up, Steps, NoStep, CurrentSteps, OlderSteps, Dies, NoneDies, CurrentDies, OlderDies, Hangs, NoneHangs, CurrentHangs, OlderHangs, LinesUp, NoneIsThere, LineIsFull, IsLinedUp, LinesUpAgain, NoneLinesUp, CurrentLinesUp, OlderLinesUp, Repeats}
use Rattle.conformance.specs.Core.{Core}
use Rattle.conformance.specs.Happens.{fault_marks, exit_marks, blame_marks, beaten_core, TicksTo, Beats, MissesOne, FoundHung, WaitsOn, StartsNext, IsOver, Begins, Arrives, Flushes, Answers, Drops, Delivers, LinesAgain, HangsOne, StepsOne, FailsOne, DiesNone, DiesOne, Ticks, Adds, AddsNothing, Posts, Replies, Complains, Pays}
use Rattle.conformance.proofs.DiskMoves.{steps_generation, dies_generation}
use Rattle.conformance.proofs.FollowLaws.{same_number, other_number}
use Rattle.conformance.specs.Took.{replies_from}
use Rattle.conformance.proofs.Small.{none_more}

-- nothing is issued in these marks, and none of them is a start
pub record IsQuiet (marks : List Mark) : Type 0 where
  pub none : (h : ℕ) (before : List Mark) → requests_issued_to h (marks ++ before) ≡ requests_issued_to h before
  pub since : (before : List Mark) → since_start (marks ++ before) ≡ since_start before

-- the reply of a step
abbrev pub answers_of : ℕ → Step → List BlockReply
answers_of g (Done a) = reply_of g a ∷ []
answers_of g Working = []
answers_of g Idle = []
answers_of g Failed = []

-- what is done to one driver, with what it answers: nothing that matters here, a step, or an accepted post that goes again to its line
pub data SlotMoves (posts : List Post) (g : ℕ) (b a : Slot) : List BlockReply → Type 0 where
  Turns : a.state ≡ b.state → a.line ≡ b.line → SlotMoves posts g b a []
  StepsSo : (m m' : MediaState) (step : Step) → SlotSteps g b m step a m' → SlotMoves posts g b a (answers_of g step)
  Again : (n : ℕ) (p : Post) → slice_get posts n ≡ Some p → p.to.generation ≡ g → a.state ≡ b.state → a.line ≡ b.line ++ p.request ∷ []
      → SlotMoves posts g b a []

-- one driver is changed
pub data Touches (R : Slot → Slot → Type 0) (g : ℕ) (b a : Disks) : Type 0 where
  TheLast : g ≡ b.media.generation → R b.current a.current → a.older ≡ b.older → a.media.generation ≡ b.media.generation → Touches R g b a
  AnOlder : (at : ℕ) (was new : Slot) → IsOlder g b at was → R was new → a.older ≡ slice_set b.older at new → a.current ≡ b.current
      → a.media.generation ≡ b.media.generation → Touches R g b a

-- this driver sent these replies, and no other one any
pub record SentBy (g : ℕ) (answers : List BlockReply) (b a : List Sent) : Type 0 where
  pub own : replies_from g a ≡ replies_from g b ++ answers
  pub others : (h : ℕ) → (h ≡ g → ⊥) → replies_from h a ≡ replies_from h b

-- what stands, as what is kept of the drivers sees it, changes so, with these marks
pub data Move (c a : Core) : List Mark → Type 0 where
  Stays : (marks : List Mark) → IsQuiet marks → a.disks ≡ c.disks → a.supply ≡ c.supply → a.posts ≡ c.posts → Move c a marks
  OneMoves : (marks : List Mark) (g : ℕ) (answers : List BlockReply) → IsQuiet marks
      → Touches (λ s t. SlotMoves c.posts g s t answers) g c.disks a.disks → SentBy g answers c.disks.sent a.disks.sent
      → a.supply ≡ c.supply → a.posts ≡ c.posts → Move c a marks
  Issues : (r : BlockRequest) (to : Endpoint) → is_at to c.disks ≡ true → a.disks ≡ lined_up r c.disks → a.supply ≡ c.supply
      → a.posts ≡ c.posts ++ record { to = to; request = r } ∷ [] → Move c a (Issued r to ∷ [])
  StartsOne : (e : Endpoint) (d : DriverState) (rest : List DriverState) → c.supply ≡ d ∷ rest → a.supply ≡ rest
      → a.disks ≡ started (c.disks.media.generation + 1) d c.disks → a.posts ≡ c.posts → Move c a (Started e ∷ [])

quiet_none : IsQuiet []
quiet_none = record { none = λ h before. refl; since = λ before. refl }

quiet_fault : (ends : Bool) (e : Endpoint) (cause : Cause) → IsQuiet (fault_marks ends e cause)
quiet_fault true e cause = record { none = λ h before. refl; since = λ before. refl }
quiet_fault false e cause = record { none = λ h before. refl; since = λ before. refl }

quiet_exit : (ends : Option Bool) (e : Endpoint) → IsQuiet (exit_marks ends e)
quiet_exit None e = quiet_none
quiet_exit (Some ends) e = quiet_fault ends e Exit

quiet_blame : (ends : Option Bool) (e : Endpoint) → IsQuiet (blame_marks ends e)
quiet_blame None e = quiet_none
quiet_blame (Some ends) e = record { none = λ h before. refl; since = λ before. refl }

-- nothing is sent
sent_none : (g : ℕ) (sent : List Sent) → SentBy g [] sent sent
sent_none g sent = record { own = none_more (replies_from g sent); others = λ h other. refl }

sent_same : (g : ℕ) (b a : List Sent) → a ≡ b → SentBy g [] b a
sent_same g b a is = subst (λ (l : List Sent). SentBy g [] b l) (sym is) (sent_none g b)

pub replies_append : (h : ℕ) (sent more : List Sent) → replies_from h (sent ++ more) ≡ replies_from h sent ++ replies_from h more
replies_append h [] more = refl
replies_append h (t ∷ sent) more =
    ap (λ (l : List BlockReply). if t.reply.from.generation == h then t.reply ∷ l else l) (replies_append h sent more)
    ∙ by (t.reply.from.generation == h) where
      by : (b : Bool) → (if b then t.reply ∷ (replies_from h sent ++ replies_from h more) else (replies_from h sent ++ replies_from h more))
          ≡ (if b then t.reply ∷ replies_from h sent else replies_from h sent) ++ replies_from h more
      by true = refl
      by false = refl

one_reply : (g place : ℕ) (r : BlockReply) → r.from.generation ≡ g → (sent : List Sent) → SentBy g (r ∷ []) sent
    (sent ++ record { reply = r; place = place } ∷ [])
one_reply g place r is sent = record {
  own = replies_append g sent (record { reply = r; place = place } ∷ [])
      ∙ ap (λ (b : Bool). replies_from g sent ++ (if b then r ∷ [] else [])) (ap (λ (n : ℕ). n == g) is ∙ same_number g);
  others = λ h other. replies_append h sent (record { reply = r; place = place } ∷ [])
      ∙ ap (λ (b : Bool). replies_from h sent ++ (if b then r ∷ [] else [])) (ap (λ (n : ℕ). n == h) is
      ∙ other_number g h (λ e. other (sym e)))
      ∙ sym (none_more (replies_from h sent));
}

sent_by : (place g : ℕ) (step : Step) (sent : List Sent) → SentBy g (answers_of g step) sent (sent_at place g step sent)
sent_by place g (Done a) sent = one_reply g place (reply_of g a) refl sent
sent_by place g Working sent = sent_none g sent
sent_by place g Idle sent = sent_none g sent
sent_by place g Failed sent = sent_none g sent

-- disks that are known by another name
one_moved : (c a : Core) (d : Disks) (marks : List Mark) (g : ℕ) (answers : List BlockReply) → IsQuiet marks → a.disks ≡ d
    → Touches (λ s t. SlotMoves c.posts g s t answers) g c.disks d → SentBy g answers c.disks.sent d.sent → a.supply ≡ c.supply
    → a.posts ≡ c.posts → Move c a marks
one_moved c a d marks g answers quiet is touches sent supply posts =
    OneMoves marks g answers quiet (subst (λ (x : Disks). Touches (λ s t. SlotMoves c.posts g s t answers) g c.disks x) (sym is) touches)
    (subst (λ (x : Disks). SentBy g answers c.disks.sent x.sent) (sym is) sent) supply posts

steps_move : (place g : ℕ) (c a : Core) (result : Option Step) (d : Disks) (marks : List Mark) → IsQuiet marks
    → Steps place g c.disks result d → a.disks ≡ d
    → a.supply ≡ c.supply → a.posts ≡ c.posts → Move c a marks
steps_move place g c a _ _ marks quiet (NoStep none) is supply posts = Stays marks quiet is supply posts
steps_move place g c a _ _ marks quiet (CurrentSteps step s m at live steps) is supply posts =
    one_moved c a _ marks g (answers_of g step) quiet is
    (TheLast at (StepsSo c.disks.media m step steps) refl
    (steps_generation place g c.disks _ (Some step) (CurrentSteps step s m at live steps)))
    (sent_by place g step c.disks.sent) supply posts
steps_move place g c a _ _ marks quiet (OlderSteps at was s step m older live steps) is supply posts =
    one_moved c a _ marks g (answers_of g step) quiet is
    (AnOlder at was s older (StepsSo c.disks.media m step steps) refl refl
    (steps_generation place g c.disks _ (Some step) (OlderSteps at was s step m older live steps)))
    (sent_by place g step c.disks.sent) supply posts

dies_move : (g : ℕ) (bytes : Option (List ℕ)) (c a : Core) (died : Bool) (d : Disks) (marks : List Mark) → IsQuiet marks
    → Dies g bytes c.disks died d → a.disks ≡ d
    → a.supply ≡ c.supply → a.posts ≡ c.posts → Move c a marks
dies_move g bytes c a _ _ marks quiet (NoneDies none) is supply posts = Stays marks quiet is supply posts
dies_move g bytes c a _ _ marks quiet (CurrentDies at live) is supply posts =
    one_moved c a _ marks g [] quiet is (TheLast at (Turns refl refl) refl (dies_generation g bytes c.disks _ true (CurrentDies at live)))
    (sent_none g c.disks.sent) supply posts
dies_move g bytes c a _ _ marks quiet (OlderDies at was older live) is supply posts =
    one_moved c a _ marks g [] quiet is (AnOlder at was _ older (Turns refl refl) refl refl refl) (sent_none g c.disks.sent) supply posts

hangs_move : (g : ℕ) (c a : Core) (d : Disks) → Hangs g c.disks d → a.disks ≡ d → a.supply ≡ c.supply → a.posts ≡ c.posts → Move c a []
hangs_move g c a _ (NoneHangs none) is supply posts = Stays [] quiet_none is supply posts
hangs_move g c a _ (CurrentHangs at) is supply posts =
    one_moved c a _ [] g [] quiet_none is (TheLast at (Turns refl refl) refl refl) (sent_none g c.disks.sent) supply posts
hangs_move g c a _ (OlderHangs at was older) is supply posts =
    one_moved c a _ [] g [] quiet_none is (AnOlder at was _ older (Turns refl refl) refl refl refl) (sent_none g c.disks.sent) supply posts

again_move : (n : ℕ) (p : Post) (c a : Core) (d : Disks) → slice_get c.posts n ≡ Some p
    → LinesUpAgain p.to.generation p.request c.disks d → a.disks ≡ d
    → a.supply ≡ c.supply → a.posts ≡ c.posts → Move c a []
again_move n p c a _ there (NoneLinesUp none) is supply posts = Stays [] quiet_none is supply posts
again_move n p c a _ there (CurrentLinesUp at live few) is supply posts =
    one_moved c a _ [] p.to.generation [] quiet_none is (TheLast at (Again n p there refl refl refl) refl refl)
    (sent_none p.to.generation c.disks.sent)
    supply posts
again_move n p c a _ there (OlderLinesUp at was older live few) is supply posts =
    one_moved c a _ [] p.to.generation [] quiet_none is (AnOlder at was _ older (Again n p there refl refl refl) refl refl refl)
    (sent_none p.to.generation c.disks.sent) supply posts

repeats_move : (n : ℕ) (p : Option Post) (c a : Core) (d : Disks) → p ≡ slice_get c.posts n → Repeats p c.disks d → a.disks ≡ d
    → a.supply ≡ c.supply → a.posts ≡ c.posts → Move c a []
repeats_move n None c a d there again is supply posts = Stays [] quiet_none (is ∙ again) supply posts
repeats_move n (Some p) c a d there again is supply posts = again_move n p c a d (sym there) again is supply posts

tick_move : (c a : Core) (marks : List Mark) → c.disks.media.generation ≡ c.watch.generation → TicksTo (beaten_core c) marks a
    → Move c a marks
tick_move c _ _ latest (Beats last count is same) = Stays [] quiet_none refl refl refl
tick_move c _ _ latest (MissesOne last count is same few) = Stays [] quiet_none refl refl refl
tick_move c _ _ latest (FoundHung last count ends after is same enough fault) =
    Stays _ (quiet_fault ends (driver c.disks.media.generation) Hung) refl refl refl
tick_move c _ _ latest (WaitsOn until is early) = Stays [] quiet_none refl refl refl
tick_move c _ _ latest (StartsNext until d rest is come spare) =
    StartsOne (driver (c.watch.generation + 1)) d rest spare refl (ap (λ (n : ℕ). started (n + 1) d c.disks) (sym latest)) refl
tick_move c _ _ latest (IsOver is) = Stays [] quiet_none refl refl refl

pub begins_move : (place : ℕ) (groups : List Group) (c a : Core) (event : Event) (marks : List Mark)
    → c.disks.media.generation ≡ c.watch.generation
    → Begins place groups c event marks a → Move c a marks
begins_move place groups c _ _ _ latest (Arrives who now call) = Stays [] quiet_none refl refl refl
begins_move place groups c _ _ _ latest Flushes = Stays _ (record { none = λ h before. refl; since = λ before. refl }) refl refl refl
begins_move place groups c _ _ _ latest (Answers n s there counts) =
    Stays _ (record { none = λ h before. refl; since = λ before. refl }) refl refl refl
begins_move place groups c _ _ _ latest (Drops n s there counts) = Stays [] quiet_none refl refl refl
begins_move place groups c _ _ _ latest (Delivers n there) = Stays [] quiet_none refl refl refl
begins_move place groups c _ _ _ latest (LinesAgain n p d same again) = repeats_move n p c _ d same again refl refl refl
begins_move place groups c _ _ _ latest (HangsOne g d hangs) = hangs_move g c _ d hangs refl refl refl
begins_move place groups c _ _ _ latest (StepsOne g step d steps well) = steps_move place g c _ step d [] quiet_none steps refl refl refl
begins_move place groups c _ _ _ latest (FailsOne g d ends after steps report) =
    steps_move place g c _ (Some Failed) d _ (quiet_exit ends (driver g)) steps refl refl refl
begins_move place groups c _ _ _ latest (DiesNone g bytes d dies) = dies_move g bytes c _ false d [] quiet_none dies refl refl refl
begins_move place groups c _ _ _ latest (DiesOne g bytes d ends after dies report) =
    dies_move g bytes c _ true d _ (quiet_exit ends (driver g)) dies refl refl refl
begins_move place groups c a _ marks latest (Ticks _ _ ticks) = tick_move c a marks latest ticks

posts_move : (r : BlockRequest) (to : Endpoint) (c a : Core) (d : Disks) (result : Result (Unit {0}) LinkRefusal)
    → LinesUp to r c.disks result d → result ≡ Ok tt → a.disks ≡ d
    → a.supply ≡ c.supply → a.posts ≡ c.posts ++ record { to = to; request = r } ∷ [] → Move c a (Issued r to ∷ [])
posts_move r to c a _ _ (NoneIsThere none) ok is supply posts = cc
posts_move r to c a _ _ (LineIsFull there full) ok is supply posts = cc
posts_move r to c a _ _ (IsLinedUp there few) ok is supply posts = Issues r to there is supply posts

pub adds_move : (c a : Core) (marks : List Mark) → Adds c marks a → Move c a marks
adds_move c _ _ AddsNothing = Stays [] quiet_none refl refl refl
adds_move c _ _ (Posts r to d lines) = posts_move r to c _ d (Ok tt) lines refl refl refl refl
adds_move c _ _ (Replies who now call answer) = Stays _ (record { none = λ h before. refl; since = λ before. refl }) refl refl refl
adds_move c _ _ (Complains about ends after report) = Stays _ (quiet_blame ends about) refl refl refl
adds_move c _ _ (Pays owed) = Stays _ (record { none = λ h before. refl; since = λ before. refl }) refl refl refl
