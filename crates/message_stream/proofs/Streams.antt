-- Streams whose bytes are known, and messages that were answered.
use Rattle.std.proofs.Common.{◌≡◌, ◌≤◌, ◌+◌, ℕ, zero, suc, List, [], ◌∷◌, ◌++◌, length, take, refl, sym, ap, subst, ◌∙◌, append_assoc, arith}
use Rattle.std.proofs.Math.Seq.{take-append-add}
use Rattle.std.proofs.lemmas.List.{append-nil, length-append, length-take, length-take-le, take-append-le}
use Rattle.std.proofs.lemmas.List.Elements.{All-nil, All-cons, All-append}
use Rattle.std.proofs.lemmas.List.Folds.{concat-append}
use Rattle.std.specs.Prelude.{Option, Some, None, Result, Ok, Err, OnOk, IfErr}
use Rattle.std.specs.Result.{IsErrAnd}
use Rattle.std.specs.List.{concat}
use Rattle.std.specs.Io.KnownBytes.{Consumes, Appends, Keeps, IsAtEnd}
use Rattle.message_stream.specs.Messages.{IsMessage, TakesMore}
use Rattle.message_stream.specs.Answered.{IsAnswered, AreAnswered, AppendsSome, IsAllOf, IsAnsweredAll, IsAnsweredWhole, Lead}
use Rattle.message_stream.specs.Stopped.{Stops, IsStopped, IsUnread, Responds, RespondsNot}
use Rattle.message_stream.specs.declared.answering.StreamRefusal.{StreamRefusal}
use Rattle.message_stream.specs.declared.answering.StreamRefusal.TheVariants.{Input, OutOfMemory, NotWritten, TooMany}

pub appends_none : (a : Option (List ℕ)) → Appends a a []
appends_none None = tt
appends_none (Some xs) = sym (append-nil xs)

-- nothing went out
pub appends_nothing : (a : Option (List ℕ)) (answer : List ℕ) → answer ≡ [] → Appends a a answer
appends_nothing a answer none = subst (Appends a a) (sym none) (appends_none a)

pub appends_kept : (a b c : Option (List ℕ)) (p : List ℕ) → Appends a b p → Keeps b c → Appends a c p
appends_kept None b c p h k = tt
appends_kept (Some xs) None c p h k = absurd h
appends_kept (Some xs) (Some ys) None p h k = absurd k
appends_kept (Some xs) (Some ys) (Some zs) p h k = k ∙ h

pub appends_more : (a b c : Option (List ℕ)) (p q : List ℕ) → Appends a b p → Appends b c q → Appends a c (p ++ q)
appends_more None b c p q h k = tt
appends_more (Some xs) None c p q h k = absurd h
appends_more (Some xs) (Some ys) None p q h k = absurd k
appends_more (Some xs) (Some ys) (Some zs) p q h k = k ∙ ap (λ l. l ++ q) h ∙ append_assoc xs p q

pub consumes_more : (a b c : Option (List ℕ)) (p q : List ℕ) → Consumes a b p → Consumes b c q → Consumes a c (p ++ q)
consumes_more None b c p q h k = tt
consumes_more (Some xs) None c p q h k = absurd h
consumes_more (Some xs) (Some ys) None p q h k = absurd k
consumes_more (Some xs) (Some ys) (Some zs) p q h k = h ∙ ap (λ l. p ++ l) k ∙ sym (append_assoc p q zs)

consumes_none : (a : Option (List ℕ)) → Consumes a a []
consumes_none None = tt
consumes_none (Some xs) = refl

-- no message was answered yet
pub none_answered : {S : Type 0} (few : ℕ) (R : List ℕ → List ℕ → S → S → Type 0) (a o : Option (List ℕ)) (s : S)
    → AreAnswered few R a a o o s s
none_answered few R a o s = record {
  messages = [];
  replies = [];
  whole = All-nil (IsMessage few);
  taken = consumes_none a;
  given = appends_none o;
  leads = refl;
}

one_more : (xss : List (List ℕ)) (xs : List ℕ) → concat (xss ++ xs ∷ []) ≡ concat xss ++ xs
one_more xss xs = concat-append xss (xs ∷ []) ∙ ap (λ l. concat xss ++ l) (append-nil xs)

lead_more : {S : Type 0} (R : List ℕ → List ℕ → S → S → Type 0) (ms rs : List (List ℕ)) (m a : List ℕ) (s t u : S)
    → Lead R ms rs s t → R m a t u → Lead R (ms ++ m ∷ []) (rs ++ a ∷ []) s u
lead_more R [] [] m a s t u so_far one = (u, subst (λ z. R m a z u) (sym so_far) one, refl)
lead_more R [] (b ∷ bs) m a s t u so_far one = absurd so_far
lead_more R (n ∷ ns) [] m a s t u so_far one = absurd so_far
lead_more R (n ∷ ns) (b ∷ bs) m a s t u (v, first, rest) one = (v, first, lead_more R ns bs m a v t u rest one)

-- one more was answered
pub answered_more : {S : Type 0} (few : ℕ) (R : List ℕ → List ℕ → S → S → Type 0) (a b c o p q : Option (List ℕ)) (s t u : S)
    → AreAnswered few R a b o p s t → IsAnswered few R b c p q t u → AreAnswered few R a c o q s u
answered_more few R a b c o p q s t u so_far one = record {
  messages = so_far.messages ++ one.message ∷ [];
  replies = so_far.replies ++ one.answer ∷ [];
  whole = All-append (IsMessage few) so_far.messages (one.message ∷ []) so_far.whole
      (All-cons (IsMessage few) one.message [] one.whole (All-nil (IsMessage few)));
  taken = subst (Consumes a c) (sym (one_more so_far.messages one.message)) (consumes_more a b c _ _ so_far.taken one.taken);
  given = subst (Appends o q) (sym (one_more so_far.replies one.answer)) (appends_more o p q _ _ so_far.given one.given);
  leads = lead_more R so_far.messages so_far.replies one.message one.answer s t u so_far.leads one.leads;
}

-- what was consumed of known bytes is all of them, where none is left
all_of : (a b : Option (List ℕ)) (bytes : List ℕ) → Consumes a b bytes → IsAtEnd b → IsAllOf a bytes
all_of None b bytes taken end = tt
all_of (Some xs) None bytes taken end = absurd taken
all_of (Some xs) (Some ys) bytes taken end = taken ∙ ap (λ l. bytes ++ l) end ∙ append-nil bytes

-- all were answered, where the stream has ended
answered_whole : {S : Type 0} (few : ℕ) (R : List ℕ → List ℕ → S → S → Type 0) (a b o p : Option (List ℕ)) (s t : S)
    → AreAnswered few R a b o p s t → IsAtEnd b → IsAnsweredWhole few R a o p s t
answered_whole few R a b o p s t so_far end = record {
  messages = so_far.messages;
  replies = so_far.replies;
  whole = so_far.whole;
  taken = all_of a b (concat so_far.messages) so_far.taken end;
  given = so_far.given;
  leads = so_far.leads;
}

-- what was taken is nothing where a stream was at its end
pub at_end : (a b : Option (List ℕ)) (bytes : List ℕ) → Consumes a b bytes → IsAtEnd b → bytes ≡ [] → IsAtEnd a
at_end None b bytes taken end none = tt
at_end (Some xs) None bytes taken end none = absurd taken
at_end (Some xs) (Some ys) bytes taken end none = taken ∙ ap (λ l. bytes ++ l) end ∙ ap (λ l. l ++ []) none

keeps_kept : (a b c : Option (List ℕ)) → Keeps a b → Keeps b c → Keeps a c
keeps_kept None b c h k = tt
keeps_kept (Some xs) None c h k = absurd h
keeps_kept (Some xs) (Some ys) None h k = absurd k
keeps_kept (Some xs) (Some ys) (Some zs) h k = k ∙ h

-- a beginning of what was written
pub appends_some : (a b c : Option (List ℕ)) (p : List ℕ) → Appends a b p → Keeps b c → AppendsSome a c p
appends_some a b c p h k = (p, [], sym (append-nil p), appends_kept a b c p h k)

pub keeps_same : (a : Option (List ℕ)) → Keeps a a
keeps_same None = tt
keeps_same (Some xs) = refl

-- the same by states of two parts
pub answered_all : {S K : Type 0} (few : ℕ) (R : List ℕ → List ℕ → S × K → S × K → Type 0) (a b o p : Option (List ℕ)) (s : S × K) (t : S)
    (l : K) → AreAnswered few R a b o p s (t, l) → IsAtEnd b → IsAnsweredAll few R a o p s t
answered_all few R a b o p s t l so_far end = (l, answered_whole few R a b o p s (t, l) so_far end)

-- and then it stopped
pub stopped : {S K : Type 0} (few : ℕ) (R : List ℕ → List ℕ → S × K → S × K → Type 0) (e : StreamRefusal) (a b c o p q : Option (List ℕ))
    (s : S × K) (t : S × K) (u : S) (l : K) → AreAnswered few R a b o p s t → Stops few R e b c p q t (u, l) → IsStopped few R e a c o q s u
stopped few R e a b c o p q s t u l so_far stops =
    (l, record { between = b; written = p; here = t; answered = so_far; stops = stops })

pub consumes_kept : (a b c : Option (List ℕ)) (p : List ℕ) → Keeps a b → Consumes b c p → Consumes a c p
consumes_kept None b c p h k = tt
consumes_kept (Some xs) None c p h k = absurd h
consumes_kept (Some xs) (Some ys) None p h k = absurd k
consumes_kept (Some xs) (Some ys) (Some zs) p h k = sym h ∙ k

-- what takes nothing keeps all
pub kept_at_end : (a b c : Option (List ℕ)) (n : ℕ) (bytes : List ℕ) → Keeps a b → n ≡ 0 → Consumes b c (take n bytes) → Keeps a c
kept_at_end None b c n bytes h e k = tt
kept_at_end (Some xs) None c n bytes h e k = absurd h
kept_at_end (Some xs) (Some ys) None n bytes h e k = absurd k
kept_at_end (Some xs) (Some ys) (Some zs) n bytes h e k = sym (subst (λ (m : ℕ). ys ≡ take m bytes ++ zs) e k) ∙ h

-- bytes that were put behind others in their place
pub put_behind : (xs ys post : List ℕ) (a n : ℕ) → a ≤ length xs → n ≤ length ys → take (a + n) (take a xs ++ (ys ++ post)) ≡ take a xs ++ take n ys
put_behind xs ys post a n less fits =
    let long : length (take a xs) ≡ a = length-take-le a xs less in
    let front : take (length (take a xs) + n) (take a xs ++ (ys ++ post)) ≡ take a xs ++ take n (ys ++ post) =
    take-append-add (take a xs) (ys ++ post) n in
    subst (λ (m : ℕ). take (m + n) (take a xs ++ (ys ++ post)) ≡ take a xs ++ take n (ys ++ post)) long front
    ∙ ap (λ (l : List ℕ). take a xs ++ l) (take-append-le n ys post fits)

pub fits_behind : (xs ys post : List ℕ) (a n : ℕ) → a ≤ length xs → n ≤ length ys → a + n ≤ length (take a xs ++ (ys ++ post))
fits_behind xs ys post a n less fits =
    omega (arith, length-append (take a xs) (ys ++ post), length-append ys post, length-take-le a xs less)

-- some bytes more are read
pub reads_on : (a b c : Option (List ℕ)) (xs ys post : List ℕ) (at n : ℕ) → at ≤ length xs → n ≤ length ys → Consumes a b (take at xs)
    → Consumes b c (take n ys) → Consumes a c (take (at + n) (take at xs ++ (ys ++ post)))
reads_on a b c xs ys post at n less fits so_far more =
    subst (Consumes a c) (sym (put_behind xs ys post at n less fits)) (consumes_more a b c (take at xs) (take n ys) so_far more)

take_less : (m n : ℕ) (xs : List ℕ) → m ≤ n → take m (take n xs) ≡ take m xs
take_less zero n xs h = refl
take_less (suc m) zero xs h = absurd (omega (arith, h))
take_less (suc m) (suc n) [] h = refl
take_less (suc m) (suc n) (x ∷ xs) h = ap (λ (l : List ℕ). x ∷ l) (take_less m n xs (omega (arith, h)))

-- what stands in a part of a list stands in the list
pub taken_of : (ms ds new : List ℕ) (len n : ℕ) → n ≤ len → n ≤ length ms → new ≡ take n (take len (ms ++ ds)) → new ≡ take n ms
taken_of ms ds new len n fits less is = is ∙ take_less n len (ms ++ ds) fits ∙ take-append-le n ms ds less

-- what has a list as its front is as long at least
pub length_of : (xs ys : List ℕ) → take (length xs) ys ≡ xs → length xs ≤ length ys
length_of xs ys front = omega (arith, ap length front, length-take (length xs) ys)

-- what was read stands behind what a buffer had, which was made longer
pub takes_more : (a b : Option (List ℕ)) (old longer ys post ds : List ℕ) (at n len : ℕ) → take (length old) longer ≡ old → at ≤ length old
    → length old ≤ length longer → at + n ≤ len → n ≤ length ys → Consumes a b (take n ys)
    → TakesMore a b (take at old) (take (at + n) (take len ((take at longer ++ (ys ++ post)) ++ ds)))
takes_more a b old longer ys post ds at n len front less long whole fits taken =
    let within : at ≤ length longer = omega (arith, less, long) in
    let kept : take at longer ≡ take at old = sym (take_less at (length old) longer less) ∙ ap (take at) front in
    let all : List ℕ = take at longer ++ (ys ++ post) in
    let here : take (at + n) (take len (all ++ ds)) ≡ take (at + n) all =
    taken_of all ds _ len (at + n) whole (fits_behind longer ys post at n within fits) refl in
    (take n ys, here ∙ put_behind longer ys post at n within fits ∙ ap (λ (l : List ℕ). l ++ take n ys) kept, taken)

-- a message was taken, and answered
pub is_answered : {S : Type 0} (few : ℕ) (R : List ℕ → List ℕ → S → S → Type 0) (a b p q : Option (List ℕ)) (message : List ℕ) (s t : S)
    → IsMessage few message → Consumes a b message → Responds R message p q s t → IsAnswered few R a b p q s t
is_answered few R a b p q message s t whole taken it = record {
  message = message;
  answer = it.answer;
  whole = whole;
  taken = taken;
  given = it.given;
  leads = it.leads;
}

-- a message was taken, and not answered whole
stops_at : {S : Type 0} (few : ℕ) (R : List ℕ → List ℕ → S → S → Type 0) (e : StreamRefusal) (a b p q : Option (List ℕ))
    (message : List ℕ) (s t : S) → IsMessage few message → Consumes a b message → RespondsNot R e message p q s t → Stops few R e a b p q s t
stops_at few R (Input r) a b p q message s t whole taken it = absurd it
stops_at few R OutOfMemory a b p q message s t whole taken it = record { part = message; taken = taken; silent = it.0; same = it.1 }
stops_at few R NotWritten a b p q message s t whole taken it =
    record { message = message; answer = it.0; whole = whole; taken = taken; given = it.1; leads = it.2 }
stops_at few R TooMany a b p q message s t whole taken it = absurd it

pub stops_answering : {S W : Type 0} (few : ℕ) (R : List ℕ → List ℕ → S × W → S × W → Type 0) (e : StreamRefusal)
    (a b p q : Option (List ℕ)) (message : List ℕ) (s : S × W) (t : S) → IsMessage few message → Consumes a b message
    → (w : W) × RespondsNot R e message p q s (t, w) → (w : W) × Stops few R e a b p q s (t, w)
stops_answering few R e a b p q message s t whole taken (w, it) = (w, stops_at few R e a b p q message s (t, w) whole taken it)

-- no message was taken
stops_before : {S : Type 0} (few : ℕ) (R : List ℕ → List ℕ → S → S → Type 0) (e : StreamRefusal) (a b p : Option (List ℕ))
    (part : List ℕ) (s : S) → Consumes a b part → IsUnread e b → Stops few R e a b p p s s
stops_before few R (Input r) a b p part s taken unread =
    (record { part = part; taken = taken; silent = keeps_same p; same = refl }, unread)
stops_before few R OutOfMemory a b p part s taken unread = absurd unread
stops_before few R NotWritten a b p part s taken unread = absurd unread
stops_before few R TooMany a b p part s taken unread = absurd unread

pub stops_reading : {S W : Type 0} (few : ℕ) (R : List ℕ → List ℕ → S × W → S × W → Type 0) (e : StreamRefusal) (a b p : Option (List ℕ))
    (part : List ℕ) (s : S) (w : W) → Consumes a b part → IsUnread e b → (v : W) × Stops few R e a b p p (s, w) (s, v)
stops_reading few R e a b p part s w taken unread = (w, stops_before few R e a b p part (s, w) taken unread)

-- as many were answered as may be
pub stops_here : {S : Type 0} (few : ℕ) (R : List ℕ → List ℕ → S → S → Type 0) (a p : Option (List ℕ)) (s : S)
    → Stops few R TooMany a a p p s s
stops_here few R a p s = record { part = []; taken = consumes_none a; silent = keeps_same p; same = refl }

-- the stream has ended, and nothing more was done
pub ended_silent : {S K O : Type 0} (few : ℕ) (R : List ℕ → List ℕ → S × K → S × K → Type 0) (contents : O → Option (List ℕ))
    (a b o : Option (List ℕ)) (x y : O) (s : S × K) (t u : S) (l : K) → AreAnswered few R a b o (contents x) s (t, l) → IsAtEnd b → y ≡ x
    → u ≡ t → IsAnsweredAll few R a o (contents y) s u
ended_silent {S} {K} {O} few R contents a b o x y s t u l so_far end same_output same_state =
    subst (λ (z : O). IsAnsweredAll few R a o (contents z) s u) (sym same_output)
    (subst (λ (z : S). IsAnsweredAll few R a o (contents x) s z) (sym same_state) (answered_all few R a b o (contents x) s t l so_far end))

-- an answer that was written
pub responds : {S A E : Type 0} (R : List ℕ → List ℕ → S → S → Type 0) (r : Result A E) (message answer : List ℕ) (p q : Option (List ℕ))
    (s t : S) → OnOk r (Appends p q answer) → R message answer s t → OnOk r (Responds R message p q s t)
responds R (Ok a) message answer p q s t given leads = record { answer = answer; given = given; leads = leads }
responds R (Err e) message answer p q s t given leads = tt

-- one that wasn't, or not whole
pub responds_not : {S W A : Type 0} (R : List ℕ → List ℕ → S × W → S × W → Type 0) (r : Result A StreamRefusal) (message answer : List ℕ)
    (p q : Option (List ℕ)) (s : S × W) (t : S) (w : W) → IfErr r (λ e. (e ≡ NotWritten) × AppendsSome p q answer)
    → R message answer s (t, w) → IfErr r (λ e. (v : W) × RespondsNot R e message p q s (t, v))
responds_not R (Ok a) message answer p q s t w given leads = tt
responds_not R (Err e) message answer p q s t w given leads =
    (w, subst (λ (x : StreamRefusal). RespondsNot R x message p q s (t, w)) (sym given.0) (answer, given.1, leads))

-- none, for want of memory
pub without_memory : {S W : Type 0} (R : List ℕ → List ℕ → S × W → S × W → Type 0) (message : List ℕ) (p : Option (List ℕ)) (s t : S)
    (w : W) → t ≡ s → (v : W) × RespondsNot R OutOfMemory message p p (s, w) (t, v)
without_memory R message p s t w same = (w, (keeps_same p, ap (λ x. (x, w)) same))

-- a refusal that is handed on
pub if_err : {A E : Type 0} (r : Result A E) (P : E → Type 0) (e : E) → IsErrAnd r (λ x. x ≡ e) → P e → IfErr r P
if_err (Ok a) P e is h = tt
if_err (Err x) P e is h = subst P (sym is) h
