-- What was issued to each driver: each event keeps it, and so does what is done within one.
use Rattle.std.proofs.Common.{◌≡◌, ℕ, zero, suc, ◌+◌, ◌<◌, ◌≤◌, List, [], ◌∷◌, ◌++◌, length, Bool, true, false, refl, sym, ◌∙◌, ap, subst, arith, inl, inr}
use Rattle.std.specs.Prelude.{◌&&◌, ◌==◌, max, if◌then◌else◌, slice_set}
use Rattle.lemmas.proofs.Bools.{and_left, and_right}
use Rattle.message.specs.declared.endpoint.Endpoint.{Endpoint}
use Rattle.message.specs.declared.BlockRequest.{BlockRequest}
use Rattle.message.specs.declared.BlockReply.{BlockReply}
use Rattle.bdev.specs.DriverState.{DriverState}
use Rattle.records.specs.Marks.{Mark, Started, Issued}
use Rattle.records.specs.Open.{IsIn}
use Rattle.schedule.specs.Groups.{Each}
use Rattle.schedule.specs.Drivers.{requests_issued_to}
use Rattle.true_replies.specs.Posted.{since_start}
use Rattle.schedule.specs.declared.log.Post.{Post}
use Rattle.simulated_link.specs.Disks.{Disks, Slot, started, is_at, lined_up}
use Rattle.conformance.specs.Core.{Core}
use Rattle.conformance.proofs.FollowLaws.{same_number, other_number}
use Rattle.conformance.proofs.ExitLaws.{length_more}
use Rattle.conformance.specs.Took.{TookNothing, replies_from}
use Rattle.conformance.proofs.Small.{number_is}
use Rattle.conformance.proofs.Moves.{IsQuiet, Touches, TheLast, AnOlder, SentBy, Move, Stays, OneMoves, Issues, StartsOne}

-- each accepted post was issued to the driver that it names
abbrev pub PostsWere : List Mark → List Post → Type 0
PostsWere marks posts = Each (λ p. IsIn p.request (requests_issued_to p.to.generation marks)) posts

-- what is known of what was issued, by the record, the drivers, those that are left, and the accepted posts
pub record Known (marks : List Mark) (d : Disks) (supply : List DriverState) (posts : List Post) : Type 0 where
  pub numbered : length d.older + 1 ≡ d.media.generation
  pub new : Each TookNothing supply
  pub posted : PostsWere marks posts
  pub since : requests_issued_to d.media.generation marks ≡ since_start marks
  pub unstarted : (h : ℕ) → d.media.generation < h → requests_issued_to h marks ≡ []
  pub silent : (h : ℕ) → d.media.generation < h → replies_from h d.sent ≡ []

-- what was issued stays issued
posts_on : (marks after : List Mark) (posts : List Post) → ((h : ℕ) (r : BlockRequest) → IsIn r (requests_issued_to h marks)
    → IsIn r (requests_issued_to h after))
    → PostsWere marks posts → PostsWere after posts
posts_on marks after [] on h = tt
posts_on marks after (p ∷ posts) on h = (on p.to.generation p.request h.0, posts_on marks after posts on h.1)

posts_more : (marks : List Mark) (posts : List Post) (p : Post) → PostsWere marks posts
    → IsIn p.request (requests_issued_to p.to.generation marks)
    → PostsWere marks (posts ++ p ∷ [])
posts_more marks [] p h is = (is, tt)
posts_more marks (q ∷ posts) p h is = (h.0, posts_more marks posts p h.1 is)

pub quiet_known : (marks before : List Mark) (d : Disks) (supply : List DriverState) (posts : List Post) → IsQuiet marks
    → Known before d supply posts
    → Known (marks ++ before) d supply posts
quiet_known marks before d supply posts quiet k = record {
  numbered = k.numbered;
  new = k.new;
  posted = posts_on before (marks ++ before) posts (λ h r is. subst (λ (l : List BlockRequest). IsIn r l)
      (sym (quiet.none h before)) is) k.posted;
  since = quiet.none d.media.generation before ∙ k.since ∙ sym (quiet.since before);
  unstarted = λ h low. quiet.none h before ∙ k.unstarted h low;
  silent = k.silent;
}

-- the number of the driver that is changed
touched_number : (R : Slot → Slot → Type 0) (g : ℕ) (b a : Disks) → Touches R g b a → g ≤ b.media.generation
touched_number R g b a (TheLast is r older same) = omega (arith, is)
touched_number R g b a (AnOlder at was new is r older current same) = let low : g < b.media.generation = is.older in omega (arith, low)

same_length : (slots : List Slot) (at : ℕ) (s : Slot) → length (slice_set slots at s) ≡ length slots
same_length [] at s = refl
same_length (x ∷ slots) zero s = refl
same_length (x ∷ slots) (suc at) s = ap suc (same_length slots at s)

touched_numbered : (R : Slot → Slot → Type 0) (g : ℕ) (b a : Disks) → Touches R g b a → length a.older + 1 ≡ length b.older + 1
touched_numbered R g b a (TheLast is r older same) = ap (λ (l : List Slot). length l + 1) older
touched_numbered R g b a (AnOlder at was new is r older current same) =
    ap (λ (l : List Slot). length l + 1) older ∙ ap (λ (n : ℕ). n + 1) (same_length b.older at new)

pub touched_same : (R : Slot → Slot → Type 0) (g : ℕ) (b a : Disks) → Touches R g b a → a.media.generation ≡ b.media.generation
touched_same R g b a (TheLast is r older same) = same
touched_same R g b a (AnOlder at was new is r older current same) = same

touched_known : (R : Slot → Slot
    → Type 0) (g : ℕ) (answers : List BlockReply) (marks : List Mark) (b a : Disks) (supply : List DriverState) (posts : List Post)
    → Touches R g b a → SentBy g answers b.sent a.sent → Known marks b supply posts → Known marks a supply posts
touched_known R g answers marks b a supply posts touches sent k =
    let same : a.media.generation ≡ b.media.generation = touched_same R g b a touches in
    record {
      numbered = touched_numbered R g b a touches ∙ k.numbered ∙ sym same;
      new = k.new;
      posted = k.posted;
      since = ap (λ (n : ℕ). requests_issued_to n marks) same ∙ k.since;
      unstarted = λ h low. k.unstarted h (subst (λ (n : ℕ). n < h) same low);
      silent = λ h low.
          let above : b.media.generation < h = subst (λ (n : ℕ). n < h) same low in
          let most : g ≤ b.media.generation = touched_number R g b a touches in
          sent.others h (λ is. not_both h g b.media.generation is most above) ∙ k.silent h above;
    } where
      not_both : (h g n : ℕ) → h ≡ g → g ≤ n → n < h → ⊥
      not_both h g n is most above = omega (arith, is, most, above)

-- a request is issued to the driver that was started last
pub record ToLast (to : Endpoint) (d : Disks) : Type 0 where
  pub slot : to.slot ≡ 1
  pub generation : to.generation ≡ d.media.generation

pub to_last : (to : Endpoint) (d : Disks) → is_at to d ≡ true → ToLast to d
to_last to d there = record { slot = number_is to.slot 1 slot; generation = number_is to.generation d.media.generation number } where
  both : ((to.slot == 1) && (to.generation == d.media.generation)) ≡ true
  both = by (to.slot == 1) (to.generation == d.media.generation) d.current.live there where
    by : (a b c : Bool) → (a && b && c) ≡ true → (a && b) ≡ true
    by true true c h = refl
    by true false c h = cc
    by false b c h = cc

  slot : (to.slot == 1) ≡ true
  slot = and_left (to.slot == 1) (to.generation == d.media.generation) both

  number : (to.generation == d.media.generation) ≡ true
  number = and_right (to.slot == 1) (to.generation == d.media.generation) both

pub issued_own : (g : ℕ) (r : BlockRequest) (to : Endpoint) (marks : List Mark) → to.slot ≡ 1 → to.generation ≡ g
    → requests_issued_to g (Issued r to ∷ marks) ≡ r ∷ requests_issued_to g marks
issued_own g r to marks slot is =
    ap (λ (b : Bool). if b && (to.generation == g) then r ∷ requests_issued_to g marks else requests_issued_to g marks)
    (ap (λ (n : ℕ). n == 1) slot)
    ∙ ap (λ (b : Bool). if b then r ∷ requests_issued_to g marks else requests_issued_to g marks) (ap (λ (n : ℕ). n == g) is
    ∙ same_number g)

pub issued_other : (h : ℕ) (r : BlockRequest) (to : Endpoint) (marks : List Mark) → (h ≡ to.generation → ⊥)
    → requests_issued_to h (Issued r to ∷ marks) ≡ requests_issued_to h marks
issued_other h r to marks other =
    ap (λ (b : Bool). if (to.slot == 1) && b then r ∷ requests_issued_to h marks else requests_issued_to h marks)
    (other_number to.generation h (λ e. other (sym e))) ∙ by (to.slot == 1) where
      by : (a : Bool) → (if a && false then r ∷ requests_issued_to h marks else requests_issued_to h marks) ≡ requests_issued_to h marks
      by true = refl
      by false = refl

issued_on : (h : ℕ) (r : BlockRequest) (to : Endpoint) (marks : List Mark) (q : BlockRequest) → IsIn q (requests_issued_to h marks)
    → IsIn q (requests_issued_to h (Issued r to ∷ marks))
issued_on h r to marks q is = by ((to.slot == 1) && (to.generation == h)) where
  by : (b : Bool) → IsIn q (if b then r ∷ requests_issued_to h marks else requests_issued_to h marks)
  by true = inr is
  by false = is

issued_known : (r : BlockRequest) (to : Endpoint) (marks : List Mark) (d : Disks) (supply : List DriverState) (posts : List Post)
    → is_at to d ≡ true
    → Known marks d supply posts → Known (Issued r to ∷ marks) (lined_up r d) supply (posts ++ record { to = to; request = r } ∷ [])
issued_known r to marks d supply posts there k =
    let last : ToLast to d = to_last to d there in
    record {
      numbered = k.numbered;
      new = k.new;
      posted = posts_more (Issued r to ∷ marks) posts (record { to = to; request = r })
          (posts_on marks (Issued r to ∷ marks) posts (λ h q is. issued_on h r to marks q is) k.posted)
          (subst (λ (l : List BlockRequest). IsIn r l) (sym (issued_own to.generation r to marks last.slot refl)) (inl refl));
      since = issued_own d.media.generation r to marks last.slot last.generation ∙ ap (λ (l : List BlockRequest). r ∷ l) k.since;
      unstarted = λ h low. issued_other h r to marks (λ is. not_both h to.generation d.media.generation is last.generation low)
          ∙ k.unstarted h low;
      silent = k.silent;
    } where
      not_both : (h g n : ℕ) → h ≡ g → g ≡ n → n < h → ⊥
      not_both h g n is at above = omega (arith, is, at, above)

-- the next driver is started
pub next_generation : (b : Disks) (d : DriverState) → (started (b.media.generation + 1) d b).media.generation ≡ b.media.generation + 1
next_generation b d = greater b.media.generation where
  greater : (n : ℕ) → max n (n + 1) ≡ n + 1
  greater n = omega arith

started_known : (e : Endpoint) (d : DriverState) (rest : List DriverState) (marks : List Mark) (b : Disks) (posts : List Post)
    → Known marks b (d ∷ rest) posts → Known (Started e ∷ marks) (started (b.media.generation + 1) d b) rest posts
started_known e d rest marks b posts k =
    let next : (started (b.media.generation + 1) d b).media.generation ≡ b.media.generation + 1 = next_generation b d in
    record {
      numbered = ap (λ (n : ℕ). n + 1) (length_more b.older b.current ∙ k.numbered) ∙ sym next;
      new = k.new.1;
      posted = k.posted;
      since = ap (λ (n : ℕ). requests_issued_to n marks) next ∙ k.unstarted (b.media.generation + 1) (omega arith);
      unstarted = λ h low. k.unstarted h (below b.media.generation _ h next low);
      silent = λ h low. k.silent h (below b.media.generation _ h next low);
    } where
      below : (n m h : ℕ) → m ≡ n + 1 → m < h → n < h
      below n m h is low = omega (arith, is, low)

-- the same by another name
known_as : (marks : List Mark) (b a : Disks) (s t : List DriverState) (p q : List Post) → a ≡ b → t ≡ s → q ≡ p → Known marks b s p
    → Known marks a t q
known_as marks b a s t p q disks supply posts k =
    subst (λ (x : List Post). Known marks a t x) (sym posts)
    (subst (λ (x : List DriverState). Known marks a x p) (sym supply) (subst (λ (x : Disks). Known marks x s p) (sym disks) k))

pub known_moves : (before : List Mark) (c a : Core) (marks : List Mark) → Move c a marks → Known before c.disks c.supply c.posts
    → Known (marks ++ before) a.disks a.supply a.posts
known_moves before c a _ (Stays marks quiet disks supply posts) k =
    known_as (marks ++ before) c.disks a.disks c.supply a.supply c.posts a.posts disks supply posts
    (quiet_known marks before c.disks c.supply c.posts quiet k)
known_moves before c a _ (OneMoves marks g answers quiet touches sent supply posts) k =
    known_as (marks ++ before) a.disks a.disks c.supply a.supply c.posts a.posts refl supply posts
    (quiet_known marks before a.disks c.supply c.posts quiet
    (touched_known _ g answers before c.disks a.disks c.supply c.posts touches sent k))
known_moves before c a _ (Issues r to there disks supply posts) k =
    known_as (Issued r to ∷ before) _ a.disks c.supply a.supply _ a.posts disks supply posts
    (issued_known r to before c.disks c.supply c.posts there k)
known_moves before c a _ (StartsOne e d rest spare supply disks posts) k =
    known_as (Started e ∷ before) _ a.disks rest a.supply c.posts a.posts disks supply posts
    (started_known e d rest before c.disks c.posts (subst (λ (x : List DriverState). Known before c.disks x c.posts) spare k))
