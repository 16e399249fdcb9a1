-- Which flushes are wanted.
use Rattle.std.proofs.Common.{◌≡◌, ℕ, zero, suc, ◌+◌, List, [], ◌∷◌, ◌++◌, refl, sym, ap, subst, ◌∙◌, arith, Bool, true, false, ◌||◌}
use Rattle.std.specs.Prelude.{if◌then◌else◌}
use Rattle.message.specs.declared.Incoming.{Incoming}
use Rattle.message.specs.declared.Incoming.TheVariants as incoming
use Rattle.records.specs.Marks.{Mark}
use Rattle.records.specs.Marks as marks
use Rattle.records.specs.Open.{counts}
use Rattle.records.specs.Told.{Told, Posted, Complained, Received, grown, received, heard, took_end}
use Rattle.reissue.specs.Settlements.{Settlement}
use Rattle.reissue.specs.Settlements as settled
use Rattle.reissue.specs.Posts.{OnlyPosts}
use Rattle.reissue.specs.Calls.{IsAnswerTo, IsOfReply}
use Rattle.cache.specs.Calls.{flushes_in, some_of, FlushFollows}
use Rattle.cache.specs.Settling.{IsWantedFor}

-- whether a flush is wanted for a message is so as for what it came to
pub wanted_for : (m : Incoming) (r : Settlement) (old new : Bool) → IsAnswerTo m r → IsWantedFor (r ≡ settled.Flush) old new
    → IsWantedFor (m ≡ incoming.Flush) old new
wanted_for (incoming.Reply a) r old new answer w =
    ((λ e. absurd (let k = e in cc)), (λ _. w.1 (λ e. subst (λ (x : Settlement). IsOfReply x) e answer)))
wanted_for (incoming.Started e) r old new answer w =
    ((λ k. absurd (let z = k in cc)), (λ _. w.1 (λ k. absurd (let z : settled.Nothing ≡ settled.Flush = sym answer ∙ k in cc))))
wanted_for incoming.GaveUp r old new answer w =
    ((λ k. absurd (let z = k in cc)), (λ _. w.1 (λ k. absurd (let z : settled.GaveUp ≡ settled.Flush = sym answer ∙ k in cc))))
wanted_for incoming.Flush r old new answer w = ((λ _. w.0 answer), (λ no. absurd (no refl)))
wanted_for incoming.End r old new answer w =
    ((λ k. absurd (let z = k in cc)), (λ _. w.1 (λ k. absurd (let z : settled.End ≡ settled.Flush = sym answer ∙ k in cc))))

-- how many flushes a message is
abbrev one : Incoming → ℕ
one (incoming.Reply a) = 0
one (incoming.Started e) = 0
one incoming.GaveUp = 0
one incoming.Flush = 1
one incoming.End = 0

-- how many flushes a record has
abbrev in_record : List Mark → ℕ
in_record [] = 0
in_record (marks.Flush ∷ ms) = in_record ms + 1
in_record (marks.Started e ∷ ms) = in_record ms
in_record (marks.Answered a ∷ ms) = in_record ms
in_record (marks.GaveUp ∷ ms) = in_record ms
in_record (marks.Issued r to ∷ ms) = in_record ms
in_record (marks.Took who now call answer ∷ ms) = in_record ms
in_record (marks.Fault e cause ∷ ms) = in_record ms

-- one more thing told
one_told : (m : Incoming) (told : List Told) → flushes_in (Received m ∷ told) ≡ one m + flushes_in told
one_told (incoming.Reply a) told = omega arith
one_told (incoming.Started e) told = omega arith
one_told incoming.GaveUp told = omega arith
one_told incoming.Flush told = omega arith
one_told incoming.End told = omega arith

-- those of two lists
appended : (a b : List Told) → flushes_in (a ++ b) ≡ flushes_in a + flushes_in b
appended [] b = omega arith
appended (Posted to r accepted ∷ a) b = appended a b
appended (Complained about ∷ a) b = appended a b
appended (Received m ∷ a) b =
    let x = one_told m (a ++ b) in
    let y = one_told m a in
    let z = appended a b in
    omega (arith, x, y, z)

-- posts are none
no_flushes : (posts : List Told) → OnlyPosts posts → flushes_in posts ≡ 0
no_flushes [] h = refl
no_flushes (Posted to r accepted ∷ posts) h = no_flushes posts h
no_flushes (Complained about ∷ posts) h = absurd h
no_flushes (Received m ∷ posts) h = absurd h

-- what a message adds to a record
one_received : (m : Incoming) (ms : List Mark) → in_record (received m ms) ≡ one m + in_record ms
one_received (incoming.Reply a) ms = by (counts ms a)
  where
    by : (b : Bool) → in_record (if b then marks.Answered a ∷ ms else ms) ≡ 0 + in_record ms
    by true = omega arith
    by false = omega arith
one_received (incoming.Started e) ms = omega arith
one_received incoming.GaveUp ms = omega arith
one_received incoming.Flush ms = omega arith
one_received incoming.End ms = omega arith

-- a record has those that were told
recorded : (told : List Told) (ms : List Mark) → in_record (grown told ms) ≡ flushes_in told + in_record ms
recorded [] ms = omega arith
recorded (Posted to r true ∷ told) ms = recorded told ms
recorded (Posted to r false ∷ told) ms = recorded told ms
recorded (Complained about ∷ told) ms = recorded told ms
recorded (Received m ∷ told) ms =
    let x = one_received m (grown told ms) in
    let y = one_told m told in
    let z = recorded told ms in
    omega (arith, x, y, z)

-- and a take those of its message
one_heard : (m : Incoming) (told : List Told) → flushes_in (heard m told) ≡ one m + flushes_in told
one_heard (incoming.Reply a) told = omega arith
one_heard (incoming.Started e) told = omega arith
one_heard incoming.GaveUp told = omega arith
one_heard incoming.Flush told = omega arith
one_heard incoming.End told = by (took_end told)
  where
    by : (b : Bool) → flushes_in (if b then told else Received incoming.End ∷ told) ≡ 0 + flushes_in told
    by true = omega arith
    by false = omega arith

or_none : (b : Bool) → b ≡ (b || some_of 0)
or_none true = refl
or_none false = refl

or_some : (a : Bool) (m n : ℕ) → ((a || some_of m) || some_of n) ≡ (a || some_of (n + m))
or_some true m n = refl
or_some false zero zero = refl
or_some false zero (suc n) = let e : suc n ≡ suc n + zero = omega arith in ap (λ (k : ℕ). some_of k) e
or_some false (suc m) zero = let e : suc m ≡ zero + suc m = omega arith in ap (λ (k : ℕ). some_of k) e
or_some false (suc m) (suc n) = let e : suc (n + suc m) ≡ suc n + suc m = omega arith in ap (λ (k : ℕ). some_of k) e

-- nothing came
pub follows_none : (b : Bool) (told : List Told) → FlushFollows b told b told
follows_none b told = record { since = 0; counted = omega arith; wanted = or_none b }

-- nothing came but posts
pub follows_posts : (was is : Bool) (posts before after : List Told) → is ≡ was → after ≡ posts ++ before → OnlyPosts posts → FlushFollows was before is after
follows_posts was is posts before after same told only =
    let e = ap flushes_in told ∙ appended posts before in
    let z = no_flushes posts only in
    record { since = 0; counted = omega (arith, e, z); wanted = same ∙ or_none was }

-- one after the other
pub follows_then : (a b c : Bool) (k l m : List Told) → FlushFollows a k b l → FlushFollows b l c m → FlushFollows a k c m
follows_then a b c k l m x y = record {
  since = y.since + x.since;
  counted = let p = x.counted in let q = y.counted in omega (arith, p, q);
  wanted = y.wanted ∙ ap (λ (z : Bool). z || some_of y.since) x.wanted ∙ or_some a x.since y.since;
}

-- a flush is wanted for one message
for_one : (m : Incoming) (was is : Bool) → IsWantedFor (m ≡ incoming.Flush) was is → is ≡ (was || some_of (one m))
for_one (incoming.Reply a) was is w = w.1 (λ e. absurd (let k = e in cc)) ∙ or_none was
for_one (incoming.Started e) was is w = w.1 (λ k. absurd (let z = k in cc)) ∙ or_none was
for_one incoming.GaveUp was is w = w.1 (λ k. absurd (let z = k in cc)) ∙ or_none was
for_one incoming.Flush was is w = w.0 refl ∙ or_true was
  where
    or_true : (b : Bool) → true ≡ (b || true)
    or_true true = refl
    or_true false = refl
for_one incoming.End was is w = w.1 (λ k. absurd (let z = k in cc)) ∙ or_none was

-- a message was taken, complaints were made and posts
pub follows_take : (m : Incoming) (posts complaints before after : List Told) (was is : Bool) → after ≡ posts ++ (complaints ++ heard m before) → OnlyPosts posts
    → ((ms : List Mark) → grown (posts ++ (complaints ++ (Received m ∷ []))) ms ≡ grown posts (received m ms)) → IsWantedFor (m ≡ incoming.Flush) was is
    → FlushFollows was before is after
follows_take m posts complaints before after was is told only grows w =
    let told_in = ap flushes_in told ∙ appended posts (complaints ++ heard m before) in
    let no_posts = no_flushes posts only in
    let rest = appended complaints (heard m before) in
    let last = one_heard m before in
    let both = sym (recorded (posts ++ (complaints ++ (Received m ∷ []))) []) ∙ ap in_record (grows []) ∙ recorded posts (received m []) in
    let split = appended posts (complaints ++ (Received m ∷ [])) in
    let split_more = appended complaints (Received m ∷ []) in
    let here = one_told m [] in
    let there = one_received m [] in
    record { since = one m; counted = omega (arith, told_in, no_posts, rest, last, both, split, split_more, here, there); wanted = for_one m was is w }
