-- The line of the current driver: at most 16 requests, and then open ones that it wasn't handed.
use Rattle.std.proofs.Common.{◌≡◌, ℕ, zero, suc, ◌+◌, ◌<◌, ◌≤◌, List, [], ◌∷◌, ◌++◌, length, max, Bool, true, false, refl, sym, ◌∙◌, ap, subst, arith, inl, inr, append_assoc}
use Rattle.std.proofs.lemmas.List.{append-nil}
use Rattle.std.specs.Prelude.{Option, Some, None, IsSomeAnd, ◌==◌, nat_lt, slice_get}
use Rattle.message.specs.declared.endpoint.Endpoint.{Endpoint}
use Rattle.message.specs.declared.BlockRequest.{BlockRequest}
use Rattle.message.specs.declared.BlockReply.{BlockReply}
use Rattle.media.specs.Contents.{MediaState}
use Rattle.bdev.specs.declared.Accept.{Accept}
use Rattle.bdev.specs.declared.Accept.TheVariants.{Taken, Busy, Old}
use Rattle.bdev.specs.declared.Step.{Step}
use Rattle.bdev.specs.declared.Step.TheVariants.{Working, Idle, Done, Failed}
use Rattle.bdev.specs.DriverState.{DriverState, Work}
use Rattle.bdev.specs.Promises.{AcceptKeeps, MovesAtMostOne, StepsAt as DriverStepsAt}
use Rattle.true_replies.specs.Events.{line_after}
use Rattle.records.specs.Marks.{Mark, Answered, Issued}
use Rattle.records.specs.Open.{greatest, open_requests, without_id, IsIn}
use Rattle.records.specs.Laws.{AllAbove, IsRising}
use Rattle.records.proofs.OpenRequests.{Below, cond_has, open_stays, in_push_old}
use Rattle.schedule.specs.declared.Sent.{Sent}
use Rattle.schedule.specs.Groups.{Each}
use Rattle.synchronous_driver.specs.Steps.{HandsOver}
use Rattle.schedule.specs.declared.log.Post.{Post}
use Rattle.simulated_link.specs.Disks.{Disks, sent_at, Steps, NoStep, CurrentSteps, OlderSteps, Dies, NoneDies, CurrentDies, OlderDies, Hangs, NoneHangs, CurrentHangs, OlderHangs, LinesUpAgain, NoneLinesUp, CurrentLinesUp, OlderLinesUp, Repeats, lined_up, started}
use Rattle.conformance.proofs.DiskMoves.{steps_generation, dies_generation}
use Rattle.conformance.proofs.NumberLaws.{IsFrom, length_push}
use Rattle.conformance.proofs.Issues.{AllOpen}

-- these have rising ids, from the first number on and before the second
abbrev pub Between : ℕ → ℕ → List BlockRequest → Type 0
Between low bound [] = low ≤ bound
Between low bound (r ∷ rs) = (low ≤ r.id) × Between (suc r.id) bound rs

-- these have lesser ids
abbrev pub Lower : ℕ → List BlockRequest → Type 0
Lower n [] = Unit {0}
Lower n (r ∷ rs) = (r.id < n) × Lower n rs

abbrev pub WorkLow : ℕ → Option Work → Type 0
WorkLow n None = Unit {0}
WorkLow n (Some w) = w.request.id < n

-- a reply was sent by a driver up to this generation; one of its own is to a request with a lesser id
abbrev pub SentLow : ℕ → ℕ → Sent → Type 0
SentLow generation n s = (s.reply.from.generation ≤ generation) × (s.reply.from.generation ≡ generation → s.reply.id < n)

abbrev pub PostLow : ℕ → ℕ → Post → Type 0
PostLow generation n p = (p.to.generation ≤ generation) × (p.to.generation ≡ generation → p.request.id < n)

-- The line holds at most 16 requests, and then open ones with rising ids below this number; the driver was handed none of these, nor has it
-- answered one.
pub record OnLine (marks : List Mark) (d : Disks) (bound : ℕ) : Type 0 where
  pub old : List BlockRequest
  pub new : List BlockRequest
  pub low : ℕ
  pub line_is : d.current.line ≡ old ++ new
  pub short : length old ≤ 16
  pub old_low : Lower low old
  pub work_low : WorkLow low d.current.state.work
  pub sent_low : Each (SentLow d.media.generation low) d.sent
  pub new_is : Between low bound new
  pub new_open : AllOpen marks new

pub between_low : (low bound : ℕ) (rs : List BlockRequest) → Between low bound rs → low ≤ bound
between_low low bound [] h = h
between_low low bound (r ∷ rs) h = let k : suc r.id ≤ bound = between_low (suc r.id) bound rs h.1 in omega (arith, h.0, k)

pub between_from : (low least bound : ℕ) (rs : List BlockRequest) → least ≤ low → Between low bound rs → Between least bound rs
between_from low least bound [] le h = omega (arith, le, h)
between_from low least bound (r ∷ rs) le h = (omega (arith, le, h.0), h.1)

pub between_push : (low bound : ℕ) (rs : List BlockRequest) (r : BlockRequest) → Between low bound rs → bound ≤ r.id → Between low (suc r.id) (rs ++ r ∷ [])
between_push low bound [] r h le = (omega (arith, h, le), omega arith)
between_push low bound (s ∷ rs) r h le = (h.0, between_push (suc s.id) bound rs r h.1 le)

pub between_join : (low mid bound : ℕ) (xs ys : List BlockRequest) → Between low mid xs → Between mid bound ys → Between low bound (xs ++ ys)
between_join low mid bound [] ys h k = between_from mid low bound ys h k
between_join low mid bound (x ∷ xs) ys h k = (h.0, between_join (suc x.id) mid bound xs ys h.1 k)

pub between_without : (low bound id : ℕ) (rs : List BlockRequest) → Between low bound rs → Between low bound (without_id id rs)
between_without low bound id [] h = h
between_without low bound id (r ∷ rs) h =
    let later : low ≤ suc r.id = omega (arith, h.0) in
    cond_has (λ (l : List BlockRequest). Between low bound l) (r.id == id) rs (r ∷ without_id id rs)
    (between_from (suc r.id) low bound rs later h.1) (h.0, between_without (suc r.id) bound id rs h.1)

pub between_numbered : (n : ℕ) (rs : List BlockRequest) → IsFrom n rs → Between n (n + length rs) rs
between_numbered n [] h = omega arith
between_numbered n (r ∷ rs) h = (
  omega (arith, h.0),
  subst (λ (k : ℕ). Between k (n + suc (length rs)) rs) (ap suc (sym h.0))
      (subst (λ (k : ℕ). Between (suc n) k rs) (omega arith) (between_numbered (suc n) rs h.1)),
)

-- the ids of those that are there
above_in : (n : ℕ) (xs : List BlockRequest) → AllAbove n xs → (s : BlockRequest) → IsIn s xs → n < s.id
above_in n [] k s i = absurd i
above_in n (x ∷ xs) k s (inl is) = let same : s.id ≡ x.id = ap (λ (y : BlockRequest). y.id) is in omega (arith, same, k.0)
above_in n (x ∷ xs) k s (inr i) = above_in n xs k.1 s i

-- open requests have rising ids up to the greatest
pub between_rising : (low g : ℕ) (rs : List BlockRequest) → IsRising rs → Below g rs → low ≤ suc g → ((r : BlockRequest) → IsIn r rs → low ≤ r.id) → Between low (suc g) rs
between_rising low g [] rising below le from = le
between_rising low g (r ∷ rs) rising below le from = (
  from r (inl refl),
  between_rising (suc r.id) g rs rising.1 below.1 (omega (arith, below.0)) (λ s i. above_in r.id rs rising.0 s i),
)

pub lower_more : (n m : ℕ) (rs : List BlockRequest) → n ≤ m → Lower n rs → Lower m rs
lower_more n m [] le h = tt
lower_more n m (r ∷ rs) le h = (omega (arith, le, h.0), lower_more n m rs le h.1)

pub lower_all : (low bound : ℕ) (old new : List BlockRequest) → Lower low old → Between low bound new → Lower bound (old ++ new)
lower_all low bound [] new h k = of_new low new k where
  of_new : (n : ℕ) (rs : List BlockRequest) → Between n bound rs → Lower bound rs
  of_new n [] b = tt
  of_new n (r ∷ rs) b = let le : suc r.id ≤ bound = between_low (suc r.id) bound rs b.1 in (le, of_new (suc r.id) rs b.1)
lower_all low bound (r ∷ old) new h k = let le : low ≤ bound = between_low low bound new k in (omega (arith, le, h.0), lower_all low bound old new h.1 k)

pub lower_push : (n : ℕ) (rs : List BlockRequest) (r : BlockRequest) → Lower n rs → r.id < n → Lower n (rs ++ r ∷ [])
lower_push n [] r h low = (low, tt)
lower_push n (s ∷ rs) r h low = (h.0, lower_push n rs r h.1 low)

pub work_more : (n m : ℕ) (w : Option Work) → n ≤ m → WorkLow n w → WorkLow m w
work_more n m None le h = tt
work_more n m (Some w) le h = omega (arith, le, h)

sent_one : (g n m : ℕ) (s : Sent) → n ≤ m → SentLow g n s → SentLow g m s
sent_one g n m s le h = (h.0, λ own. let low : s.reply.id < n = h.1 own in omega (arith, le, low))

pub sent_more : (g n m : ℕ) (sent : List Sent) → n ≤ m → Each (SentLow g n) sent → Each (SentLow g m) sent
sent_more g n m [] le h = tt
sent_more g n m (s ∷ sent) le h = (sent_one g n m s le h.0, sent_more g n m sent le h.1)

pub sent_push : (Keeps : Sent → Type 0) (sent : List Sent) (s : Sent) → Each Keeps sent → Keeps s → Each Keeps (sent ++ s ∷ [])
sent_push Keeps [] s h k = (k, tt)
sent_push Keeps (x ∷ sent) s h k = (h.0, sent_push Keeps sent s h.1 k)

pub sent_found : (Keeps : Sent → Type 0) (sent : List Sent) (n : ℕ) (s : Sent) → Each Keeps sent → slice_get sent n ≡ Some s → Keeps s
sent_found Keeps [] n s h there = cc
sent_found Keeps (x ∷ sent) zero s h there = subst (λ (y : Sent). Keeps y) (same x s there) h.0 where
  same : (t u : Sent) → Some t ≡ Some u → t ≡ u
  same t u e = ap (λ (o : Option Sent). sent_or t o) e where
    sent_or : Sent → Option Sent → Sent
    sent_or d None = d
    sent_or d (Some y) = y
sent_found Keeps (x ∷ sent) (suc n) s h there = sent_found Keeps sent n s h.1 there

pub post_found : (Keeps : Post → Type 0) (posts : List Post) (n : ℕ) (p : Post) → Each Keeps posts → Some p ≡ slice_get posts n → Keeps p
post_found Keeps [] n p h there = cc
post_found Keeps (x ∷ posts) zero p h there = subst (λ (y : Post). Keeps y) (same x p (sym there)) h.0 where
  same : (t u : Post) → Some t ≡ Some u → t ≡ u
  same t u e = ap (λ (o : Option Post). post_or t o) e where
    post_or : Post → Option Post → Post
    post_or d None = d
    post_or d (Some y) = y
post_found Keeps (x ∷ posts) (suc n) p h there = post_found Keeps posts n p h.1 there

pub post_push : (Keeps : Post → Type 0) (posts : List Post) (p : Post) → Each Keeps posts → Keeps p → Each Keeps (posts ++ p ∷ [])
post_push Keeps [] p h k = (k, tt)
post_push Keeps (x ∷ posts) p h k = (h.0, post_push Keeps posts p h.1 k)

-- and from a number on
from_in : (n bound : ℕ) (xs : List BlockRequest) → Between n bound xs → (s : BlockRequest) → IsIn s xs → n ≤ s.id
from_in n bound [] k s i = absurd i
from_in n bound (x ∷ xs) k s (inl is) = let same : s.id ≡ x.id = ap (λ (y : BlockRequest). y.id) is in omega (arith, same, k.0)
from_in n bound (x ∷ xs) k s (inr i) = let later : suc x.id ≤ s.id = from_in (suc x.id) bound xs k.1 s i in omega (arith, later, k.0)

later_in : (q s : BlockRequest) (opened : List BlockRequest) → q.id < s.id → IsIn s (q ∷ opened) → IsIn s opened
later_in q s opened more (inl is) = let same : s.id ≡ q.id = ap (λ (y : BlockRequest). y.id) is in absurd (none s.id q.id same more) where
  none : (x y : ℕ) → x ≡ y → y < x → ⊥
  none x y is more = omega (arith, is, more)
later_in q s opened more (inr i) = i

few_by : (low bound : ℕ) (r q : BlockRequest) (rs opened : List BlockRequest) → Between low bound (r ∷ rs)
    → ((s : BlockRequest) → IsIn s (r ∷ rs) → IsIn s (q ∷ opened)) → IsRising (q ∷ opened) → IsIn r (q ∷ opened)
    → (((s : BlockRequest) → IsIn s rs → IsIn s opened) → length rs ≤ length opened)
    → (((s : BlockRequest) → IsIn s (r ∷ rs) → IsIn s opened) → suc (length rs) ≤ length opened) → suc (length rs) ≤ suc (length opened)
few_by low bound r q rs opened h f rising (inl is) rest all =
    let same : r.id ≡ q.id = ap (λ (y : BlockRequest). y.id) is in
    let k : length rs ≤ length opened = rest (λ s i. let more : suc r.id ≤ s.id = from_in (suc r.id) bound rs h.1 s i in
    later_in q s opened (omega (arith, same, more)) (f s (inr i))) in
    omega (arith, k)
few_by low bound r q rs opened h f rising (inr i) rest all =
    let later : q.id < r.id = above_in q.id opened rising.0 r i in
    let k : suc (length rs) ≤ length opened = all (λ s j. later_in q s opened (more_in s later j) (f s j)) in
    omega (arith, k) where
      more_in : (s : BlockRequest) → q.id < r.id → IsIn s (r ∷ rs) → q.id < s.id
      more_in s later (inl is) = let same : s.id ≡ r.id = ap (λ (y : BlockRequest). y.id) is in omega (arith, same, later)
      more_in s later (inr j) = let next : suc r.id ≤ s.id = from_in (suc r.id) bound rs h.1 s j in omega (arith, next, later)

-- at most as many as are open
pub few_open : (low bound : ℕ) (rs opened : List BlockRequest) → Between low bound rs → ((r : BlockRequest) → IsIn r rs → IsIn r opened) → IsRising opened
    → length rs ≤ length opened
few_open low bound [] opened h f rising = omega arith
few_open low bound (r ∷ rs) [] h f rising = absurd (f r (inl refl))
few_open low bound (r ∷ rs) (q ∷ opened) h f rising = few_by low bound r q rs opened h f rising (f r (inl refl))
    (λ g. few_open (suc r.id) bound rs opened h.1 g rising.1) (λ g. few_open low bound (r ∷ rs) opened h g rising.1)

pub open_in : (marks : List Mark) (rs : List BlockRequest) → AllOpen marks rs → (r : BlockRequest) → IsIn r rs → IsIn r (open_requests marks)
open_in marks [] h r i = absurd i
open_in marks (x ∷ rs) h r (inl is) = subst (λ (y : BlockRequest). IsIn y (open_requests marks)) (sym is) h.0
open_in marks (x ∷ rs) h r (inr i) = open_in marks rs h.1 r i

-- an answer to a lesser id closes none of these
pub stay_open : (marks : List Mark) (a : BlockReply) (low bound : ℕ) (rs : List BlockRequest) → a.id < low → Between low bound rs → AllOpen marks rs
    → AllOpen (Answered a ∷ marks) rs
stay_open marks a low bound [] less h k = tt
stay_open marks a low bound (r ∷ rs) less h k = (
  open_stays marks a r (λ is. none r.id h.0 is) k.0,
  stay_open marks a (suc r.id) bound rs (omega (arith, less, h.0)) h.1 k.1,
) where
  none : (n : ℕ) → low ≤ n → n ≡ a.id → ⊥
  none n le is = omega (arith, less, le, is)

-- nor does an issue
pub issue_leaves : (marks : List Mark) (r : BlockRequest) (to : Endpoint) (rs : List BlockRequest) → AllOpen marks rs → AllOpen (Issued r to ∷ marks) rs
issue_leaves marks r to [] h = tt
issue_leaves marks r to (x ∷ rs) h = (
  cond_has (λ (l : List BlockRequest). IsIn x l) (nat_lt (greatest marks) r.id) (open_requests marks ++ r ∷ []) (open_requests marks)
      (in_push_old (open_requests marks) r x h.0) h.0,
  issue_leaves marks r to rs h.1,
)

-- what is done to other drivers
pub same_line : (marks : List Mark) (b a : Disks) (bound : ℕ) → a.current.line ≡ b.current.line → a.current.state ≡ b.current.state
    → a.media.generation ≡ b.media.generation → a.sent ≡ b.sent → OnLine marks b bound → OnLine marks a bound
same_line marks b a bound line state generation sent h = record {
  old = h.old;
  new = h.new;
  low = h.low;
  line_is = line ∙ h.line_is;
  short = h.short;
  old_low = h.old_low;
  work_low = subst (λ (s : DriverState). WorkLow h.low s.work) (sym state) h.work_low;
  sent_low = subst (λ (n : ℕ). Each (SentLow n h.low) a.sent) (sym generation)
      (subst (λ (l : List Sent). Each (SentLow b.media.generation h.low) l) (sym sent) h.sent_low);
  new_is = h.new_is;
  new_open = h.new_open;
}

-- the front of the line was handed over
record HandedOn (marks : List Mark) (low bound : ℕ) (state : DriverState) (line : List BlockRequest) : Type 0 where
  old : List BlockRequest
  new : List BlockRequest
  least : ℕ
  line_is : line ≡ old ++ new
  short : length old ≤ 16
  raised : low ≤ least
  old_low : Lower least old
  work_low : WorkLow least state.work
  new_is : Between least bound new
  new_open : AllOpen marks new

work_taken : (n : ℕ) (q : BlockRequest) (work : Option Work) → IsSomeAnd work (λ w. (w.request ≡ q) × ((k : ℕ) → w.moved k ≡ false)) → q.id < n → WorkLow n work
work_taken n q None some low = absurd some
work_taken n q (Some w) some low = let same : w.request.id ≡ q.id = ap (λ (r : BlockRequest). r.id) some.0 in omega (arith, same, low)

hand_old : (marks : List Mark) (low bound : ℕ) (q : BlockRequest) (rest new : List BlockRequest) (b a : DriverState) (line : List BlockRequest) (result : Accept)
    → AcceptKeeps b q result a → line ≡ line_after result q (rest ++ new) → length (q ∷ rest) ≤ 16 → Lower low (q ∷ rest) → WorkLow low b.work
    → Between low bound new → AllOpen marks new → HandedOn marks low bound a line
hand_old marks low bound q rest new b a line Taken keeps is short lower work k opened = record {
  old = rest;
  new = new;
  least = low;
  line_is = is;
  short = omega (arith, short);
  raised = omega arith;
  old_low = lower.1;
  work_low = work_taken low q a.work keeps.2.work lower.0;
  new_is = k;
  new_open = opened;
}
hand_old marks low bound q rest new b a line Busy keeps is short lower work k opened = record {
  old = q ∷ rest;
  new = new;
  least = low;
  line_is = is;
  short = short;
  raised = omega arith;
  old_low = lower;
  work_low = subst (λ (s : DriverState). WorkLow low s.work) (sym keeps.1) work;
  new_is = k;
  new_open = opened;
}
hand_old marks low bound q rest new b a line Old keeps is short lower work k opened = record {
  old = rest;
  new = new;
  least = low;
  line_is = is;
  short = omega (arith, short);
  raised = omega arith;
  old_low = lower.1;
  work_low = subst (λ (s : DriverState). WorkLow low s.work) (sym keeps.2) work;
  new_is = k;
  new_open = opened;
}

hand_new : (marks : List Mark) (low bound : ℕ) (q : BlockRequest) (rest : List BlockRequest) (b a : DriverState) (line : List BlockRequest) (result : Accept)
    → AcceptKeeps b q result a → line ≡ line_after result q rest → WorkLow low b.work → Between low bound (q ∷ rest) → AllOpen marks (q ∷ rest)
    → HandedOn marks low bound a line
hand_new marks low bound q rest b a line Taken keeps is work k opened = record {
  old = [];
  new = rest;
  least = suc q.id;
  line_is = is;
  short = omega arith;
  raised = omega (arith, k.0);
  old_low = tt;
  work_low = work_taken (suc q.id) q a.work keeps.2.work (omega arith);
  new_is = k.1;
  new_open = opened.1;
}
hand_new marks low bound q rest b a line Busy keeps is work k opened = record {
  old = [];
  new = q ∷ rest;
  least = low;
  line_is = is;
  short = omega arith;
  raised = omega arith;
  old_low = tt;
  work_low = subst (λ (s : DriverState). WorkLow low s.work) (sym keeps.1) work;
  new_is = k;
  new_open = opened;
}
hand_new marks low bound q rest b a line Old keeps is work k opened = record {
  old = [];
  new = rest;
  least = suc q.id;
  line_is = is;
  short = omega arith;
  raised = omega (arith, k.0);
  old_low = tt;
  work_low = subst (λ (s : DriverState). WorkLow (suc q.id) s.work) (sym keeps.2) (work_more low (suc q.id) b.work (omega (arith, k.0)) work);
  new_is = k.1;
  new_open = opened.1;
}

hand_on : (marks : List Mark) (low bound : ℕ) (b a : DriverState) (line after old new : List BlockRequest) → HandsOver b line a after → line ≡ old ++ new
    → length old ≤ 16 → Lower low old → WorkLow low b.work → Between low bound new → AllOpen marks new → HandedOn marks low bound a after
hand_on marks low bound b a line after [] [] hands is short lower work k opened = by line is hands where
  by : (l : List BlockRequest) → l ≡ [] → HandsOver b l a after → HandedOn marks low bound a after
  by [] is h = record {
    old = [];
    new = [];
    least = low;
    line_is = h.1;
    short = omega arith;
    raised = omega arith;
    old_low = tt;
    work_low = subst (λ (s : DriverState). WorkLow low s.work) (sym h.0) work;
    new_is = k;
    new_open = tt;
  }
  by (q ∷ l) is h = cc
hand_on marks low bound b a line after [] (q ∷ rest) hands is short lower work k opened =
    let h : HandsOver b (q ∷ rest) a after = subst (λ (l : List BlockRequest). HandsOver b l a after) is hands in
    hand_new marks low bound q rest b a after h.0 h.1 h.2 work k opened
hand_on marks low bound b a line after (q ∷ rest) new hands is short lower work k opened =
    let h : HandsOver b (q ∷ (rest ++ new)) a after = subst (λ (l : List BlockRequest). HandsOver b l a after) is hands in
    hand_old marks low bound q rest new b a after h.0 h.1 h.2 short lower work k opened

-- a step leaves the request in work there, or answers it
moved_same : (b : DriverState) (w : Work) (m : MediaState) (g : ℕ) (w' : Work) (m' : MediaState) → MovesAtMostOne b w m g w' m' → w'.request ≡ w.request
moved_same b w m g w' m' (inl none) = ap (λ (x : Work). x.request) none.same_work
moved_same b w m g w' m' (inr one) = one.same_request

record Stepped (least g place generation : ℕ) (step : Step) (a : DriverState) (sent : List Sent) : Type 0 where
  work_low : WorkLow least a.work
  sent_low : Each (SentLow generation least) (sent_at place g step sent)

step_on : (least g place generation : ℕ) (b : DriverState) (work : Option Work) (m : MediaState) (step : Step) (a : DriverState) (m' : MediaState) (sent : List Sent)
    → DriverStepsAt b work m g step a m' → b.work ≡ work → WorkLow least work → g ≤ generation → Each (SentLow generation least) sent
    → Stepped least g place generation step a sent
step_on least g place generation b None m Idle a m' sent s is low le h = record {
  work_low = subst (λ (w : Option Work). WorkLow least w) (sym (ap (λ (d : DriverState). d.work) s.1 ∙ is)) tt;
  sent_low = h;
}
step_on least g place generation b None m Failed a m' sent s is low le h = record {
  work_low = subst (λ (w : Option Work). WorkLow least w) (sym (ap (λ (d : DriverState). d.work) s.1 ∙ is)) tt;
  sent_low = h;
}
step_on least g place generation b None m Working a m' sent s is low le h = absurd s.1
step_on least g place generation b None m (Done answer) a m' sent s is low le h = absurd s.1
step_on least g place generation b (Some w) m Working a m' sent s is low le h =
    let same : s.0.request.id ≡ w.request.id = ap (λ (r : BlockRequest). r.id) (moved_same b w m g s.0 m' s.1) in
    record { work_low = subst (λ (x : Option Work). WorkLow least x) (sym s.2.stays) (omega (arith, same, low)); sent_low = h }
step_on least g place generation b (Some w) m Failed a m' sent s is low le h =
    let same : s.0.request.id ≡ w.request.id = ap (λ (r : BlockRequest). r.id) (moved_same b w m g s.0 m' s.1) in
    record { work_low = subst (λ (x : Option Work). WorkLow least x) (sym s.2.stays) (omega (arith, same, low)); sent_low = h }
step_on least g place generation b (Some w) m Idle a m' sent s is low le h = absurd s.2
step_on least g place generation b (Some w) m (Done answer) a m' sent s is low le h =
    let same : s.0.request.id ≡ w.request.id = ap (λ (r : BlockRequest). r.id) (moved_same b w m g s.0 m' s.1) in
    record {
      work_low = subst (λ (x : Option Work). WorkLow least x) (sym s.2.ended) tt;
      sent_low = sent_push (SentLow generation least) sent _ h (le, λ own. omega (arith, same, low, s.2.id));
    }

older_sent : (g place generation n : ℕ) (step : Step) (sent : List Sent) → g < generation → Each (SentLow generation n) sent → Each (SentLow generation n) (sent_at place g step sent)
older_sent g place generation n Working sent low h = h
older_sent g place generation n Idle sent low h = h
older_sent g place generation n Failed sent low h = h
older_sent g place generation n (Done answer) sent low h = sent_push (SentLow generation n) sent _ h (omega (arith, low), λ own. absurd (none g own low)) where
  none : (k : ℕ) → k ≡ generation → k < generation → ⊥
  none k is less = omega (arith, is, less)

pub steps_on : (marks : List Mark) (bound place g : ℕ) (b a : Disks) (result : Option Step) → Steps place g b result a → OnLine marks b bound → OnLine marks a bound
steps_on marks bound place g b _ _ (NoStep none) h = h
steps_on marks bound place g b _ _ (CurrentSteps step a m is live s) h =
    let k : HandedOn marks h.low bound s.handed a.line =
    hand_on marks h.low bound b.current.state s.handed b.current.line a.line h.old h.new s.hands h.line_is h.short h.old_low h.work_low h.new_is h.new_open in
    let same : m.generation ≡ b.media.generation = steps_generation place g b _ (Some step) (CurrentSteps step a m is live s) in
    let t : Stepped k.least g place b.media.generation step a.state b.sent =
    step_on k.least g place b.media.generation s.handed s.handed.work b.media step a.state m b.sent s.steps.steps refl k.work_low (omega (arith, is))
    (sent_more b.media.generation h.low k.least b.sent k.raised h.sent_low) in
    record {
      old = k.old;
      new = k.new;
      low = k.least;
      line_is = k.line_is;
      short = k.short;
      old_low = k.old_low;
      work_low = t.work_low;
      sent_low = subst (λ (n : ℕ). Each (SentLow n k.least) (sent_at place g step b.sent)) (sym same) t.sent_low;
      new_is = k.new_is;
      new_open = k.new_open;
    }
steps_on marks bound place g b _ _ (OlderSteps at was a step m older live s) h =
    let same : m.generation ≡ b.media.generation = steps_generation place g b _ (Some step) (OlderSteps at was a step m older live s) in
    record {
      old = h.old;
      new = h.new;
      low = h.low;
      line_is = h.line_is;
      short = h.short;
      old_low = h.old_low;
      work_low = h.work_low;
      sent_low = subst (λ (n : ℕ). Each (SentLow n h.low) (sent_at place g step b.sent)) (sym same)
          (older_sent g place b.media.generation h.low step b.sent older.older h.sent_low);
      new_is = h.new_is;
      new_open = h.new_open;
    }

pub dies_on : (marks : List Mark) (bound g : ℕ) (bytes : Option (List ℕ)) (b a : Disks) (died : Bool) → Dies g bytes b died a → OnLine marks b bound → OnLine marks a bound
dies_on marks bound g bytes b _ _ (NoneDies none) h = h
dies_on marks bound g bytes b _ _ (CurrentDies is live) h =
    same_line marks b _ bound refl refl (dies_generation g bytes b _ true (CurrentDies is live)) refl h
dies_on marks bound g bytes b _ _ (OlderDies at was older live) h = same_line marks b _ bound refl refl refl refl h

pub hangs_on : (marks : List Mark) (bound g : ℕ) (b a : Disks) → Hangs g b a → OnLine marks b bound → OnLine marks a bound
hangs_on marks bound g b _ (NoneHangs none) h = h
hangs_on marks bound g b _ (CurrentHangs is) h = same_line marks b _ bound refl refl refl refl h
hangs_on marks bound g b _ (OlderHangs at was older) h = same_line marks b _ bound refl refl refl refl h

again_on : (marks : List Mark) (bound : ℕ) (p : Post) (b a : Disks) → PostLow b.media.generation bound p → LinesUpAgain p.to.generation p.request b a
    → OnLine marks b bound → OnLine marks a bound
again_on marks bound p b _ post (NoneLinesUp none) h = h
again_on marks bound p b _ post (CurrentLinesUp is live few) h =
    let le : h.low ≤ bound = between_low h.low bound h.new h.new_is in
    let more : length (b.current.line ++ p.request ∷ []) ≡ suc (length b.current.line) = length_push b.current.line p.request in
    record {
      old = b.current.line ++ p.request ∷ [];
      new = [];
      low = bound;
      line_is = sym (append-nil (b.current.line ++ p.request ∷ []));
      short = omega (arith, more, few);
      old_low = lower_push bound b.current.line p.request
          (subst (λ (l : List BlockRequest). Lower bound l) (sym h.line_is) (lower_all h.low bound h.old h.new h.old_low h.new_is)) (post.1 is);
      work_low = work_more h.low bound b.current.state.work le h.work_low;
      sent_low = sent_more b.media.generation h.low bound b.sent le h.sent_low;
      new_is = omega arith;
      new_open = tt;
    }
again_on marks bound p b _ post (OlderLinesUp at was older live few) h = same_line marks b _ bound refl refl refl refl h

pub repeats_on : (marks : List Mark) (bound : ℕ) (p : Option Post) (posts : List Post) (n : ℕ) (b a : Disks) → p ≡ slice_get posts n
    → Each (PostLow b.media.generation bound) posts → Repeats p b a → OnLine marks b bound → OnLine marks a bound
repeats_on marks bound None posts n b a there low is h = subst (λ (d : Disks). OnLine marks d bound) (sym is) h
repeats_on marks bound (Some p) posts n b a there low again h =
    again_on marks bound p b a (post_found (PostLow b.media.generation bound) posts n p low there) again h

-- a request more
pub lined_on : (marks marks' : List Mark) (bound : ℕ) (r : BlockRequest) (d : Disks) → bound ≤ r.id → ((rs : List BlockRequest) → AllOpen marks rs → AllOpen marks' rs)
    → IsIn r (open_requests marks') → OnLine marks d bound → OnLine marks' (lined_up r d) (suc r.id)
lined_on marks marks' bound r d le leaves opened h = record {
  old = h.old;
  new = h.new ++ r ∷ [];
  low = h.low;
  line_is = ap (λ (l : List BlockRequest). l ++ r ∷ []) h.line_is ∙ append_assoc h.old h.new (r ∷ []);
  short = h.short;
  old_low = h.old_low;
  work_low = h.work_low;
  sent_low = h.sent_low;
  new_is = between_push h.low bound h.new r h.new_is le;
  new_open = one_more h.new (leaves h.new h.new_open);
} where
  one_more : (rs : List BlockRequest) → AllOpen marks' rs → AllOpen marks' (rs ++ r ∷ [])
  one_more [] k = (opened, tt)
  one_more (x ∷ rs) k = (k.0, one_more rs k.1)

-- a new driver
pub started_on : (marks : List Mark) (g : ℕ) (next : DriverState) (d : Disks) (low : ℕ) → next.work ≡ None → d.media.generation < g
    → Each (SentLow d.media.generation low) d.sent → OnLine marks (started g next d) 0
started_on marks g next d low idle more sent = record {
  old = [];
  new = [];
  low = 0;
  line_is = refl;
  short = omega arith;
  old_low = tt;
  work_low = subst (λ (w : Option Work). WorkLow 0 w) (sym idle) tt;
  sent_low = of_older d.sent sent;
  new_is = omega arith;
  new_open = tt;
} where
  of_older : (sent : List Sent) → Each (SentLow d.media.generation low) sent → Each (SentLow (max d.media.generation g) 0) sent
  of_older [] h = tt
  of_older (s ∷ sent) h = ((omega (arith, h.0.0), λ own. absurd (none s.reply.from.generation h.0.0 own)), of_older sent h.1) where
    none : (n : ℕ) → n ≤ d.media.generation → n ≡ max d.media.generation g → ⊥
    none n le is = omega (arith, le, is, more)
