-- Where no write is pending, a call asks for reads alone.
use Rattle.std.proofs.Common.{◌≡◌, ℕ, zero, suc, List, [], ◌∷◌, ◌++◌, append_assoc, length, Bool, true, false, refl, sym, ap, subst, ◌∙◌, Option, Some, None, Ok}
use mathlib.Core.Logic.{inl, inr}
use Rattle.std.proofs.lemmas.Bool.{cond-true, cond-false, eq-eqb, ne_eqb, cases_eq}
use Rattle.std.specs.Prelude.{map, drop, MatchBool, ◌==◌, if◌then◌else◌}
use Rattle.message.specs.Good.{is_write}
use Rattle.message.specs.declared.Kind.{Kind}
use Rattle.message.specs.declared.Kind.TheVariants.{Read, Write}
use Rattle.message.specs.declared.endpoint.Endpoint.{Endpoint}
use Rattle.message.specs.declared.BlockRequest.{BlockRequest}
use Rattle.message.specs.declared.Incoming.{Incoming}
use Rattle.message.specs.declared.Incoming.TheVariants as incoming
use Rattle.records.specs.Told.{Told, Posted, Complained, Received, heard, took_end}
use Rattle.records.specs.Settled.{PostsReads}
use Rattle.reissue.specs.declared.ask.Ask.{Ask}
use Rattle.reissue.specs.declared.pending.Pending.{Pending}
use Rattle.reissue.specs.declared.table.Table.{Table}
use Rattle.reissue.specs.Settlements.{Settlement}
use Rattle.reissue.specs.Settlements as settled
use Rattle.reissue.specs.Moves.{Begun, Closes, Opens, put, written_by, begun_by}
use Rattle.reissue.specs.Entries.{pending_of, begun_of, request_of, IsFresh, AreDistinct}
use Rattle.reissue.specs.Agrees.{unposted}
use Rattle.reissue.specs.Posts.{ArePostedTo, PostsInOrder, PostsAfter, is_message}
use Rattle.reissue.specs.Calls.{Truth, Absorbs, Steps, Adds}
use Rattle.reissue.proofs.Maps.{put_cases}

-- no write is pending
abbrev pub NoWrite : (ℕ → Option Begun) → Type 0
NoWrite pending = (t : ℕ) (r : Begun) (bytes : List ℕ) → pending t ≡ Some r → r.written ≡ Some bytes → ⊥

-- from the one history to the other reads alone were asked for
pub record TellsReads (before after : List Told) : Type 0 where
  pub told : List Told
  pub history : after ≡ told ++ before
  pub reads : PostsReads told

-- so many requests that are reads, and then so many
pub both_read : (xs ys : List Told) → PostsReads xs → PostsReads ys → PostsReads (xs ++ ys)
both_read [] ys h k = k
both_read (Posted to r accepted ∷ xs) ys h k = (h.0, both_read xs ys h.1 k)
both_read (Complained about ∷ xs) ys h k = both_read xs ys h k
both_read (Received message ∷ xs) ys h k = both_read xs ys h k

-- nothing was told
pub tells_none : (a b : List Told) → b ≡ a → TellsReads a b
tells_none a b same = record { told = []; history = same; reads = tt }

-- one after the other
pub tells_then : (a b c : List Told) → TellsReads a b → TellsReads b c → TellsReads a c
tells_then a b c x y = record {
  told = y.told ++ x.told;
  history = y.history ∙ ap (λ (l : List Told). y.told ++ l) x.history ∙ sym (append_assoc y.told x.told a);
  reads = both_read y.told x.told y.reads x.reads;
}

-- ---- what is pending

-- each of these requests is a read
abbrev AreReads : List BlockRequest → Type 0
AreReads [] = Unit {0}
AreReads (r ∷ rs) = (is_write r.kind ≡ false) × AreReads rs

fresh_none : (t : ℕ) (ps : List Pending) → IsFresh t ps → pending_of ps t ≡ None
fresh_none t [] f = refl
fresh_none t (p ∷ ps) f = cond-false (p.ticket == t) (Some (begun_of p)) (pending_of ps t) (ne_eqb p.ticket t f.0) ∙ fresh_none t ps f.1

-- the first one is a read
first_read : (p : Pending) (ps : List Pending) → NoWrite (pending_of (p ∷ ps)) → is_write p.request.kind ≡ false
first_read p ps none = by p.request.kind refl where
  there : pending_of (p ∷ ps) p.ticket ≡ Some (begun_of p)
  there = cond-true (p.ticket == p.ticket) (Some (begun_of p)) (pending_of ps p.ticket) (eq-eqb p.ticket p.ticket refl)

  by : (k : Kind) → p.request.kind ≡ k → is_write p.request.kind ≡ false
  by Read e = ap is_write e
  by Write e = absurd (none p.ticket (begun_of p) p.bytes there (ap (λ (k : Kind). written_by k p.bytes) e))

-- the others are pending too
others_none : (p : Pending) (ps : List Pending) → IsFresh p.ticket ps → NoWrite (pending_of (p ∷ ps)) → NoWrite (pending_of ps)
others_none p ps fresh none = λ t r bytes is wr. elim (cases_eq p.ticket t) [
  | inl e ↦ absurd (let z : None ≡ Some r = sym (fresh_none p.ticket ps fresh) ∙ ap (pending_of ps) e ∙ is in cc)
  | inr ne ↦ none t r bytes (cond-false (p.ticket == t) (Some (begun_of p)) (pending_of ps t) (ne_eqb p.ticket t ne) ∙ is) wr
]

-- each that is pending is a read, and so is each that isn't posted
pending_reads : (n : ℕ) (ps : List Pending) → AreDistinct ps → NoWrite (pending_of ps) → AreReads (map request_of (drop n ps))
pending_reads zero [] d none = tt
pending_reads (suc n) [] d none = tt
pending_reads zero (p ∷ ps) d none = (first_read p ps none, pending_reads zero ps d.1 (others_none p ps d.0 none))
pending_reads (suc n) (p ∷ ps) d none = pending_reads n ps d.1 (others_none p ps d.0 none)

unposted_reads : (table : Table) → NoWrite (pending_of table.pending) → AreReads (unposted table)
unposted_reads table none = pending_reads table.posted table.pending table.numbers.distinct none

-- ---- what is posted

posted_reads : (to : Endpoint) (rs : List BlockRequest) (before after : List Told) → AreReads rs → ArePostedTo to rs before after → TellsReads before after
posted_reads to [] before after a h = tells_none before after h
posted_reads to (r ∷ rs) before after a (inl h) = record { told = Posted to r false ∷ []; history = h; reads = (a.0, tt) }
posted_reads to (r ∷ rs) before after a (inr h) =
    tells_then before (Posted to r true ∷ before) after (record { told = Posted to r true ∷ []; history = refl; reads = (a.0, tt) })
    (posted_reads to rs (Posted to r true ∷ before) after a.1 h)

in_order_reads : (o : Option Endpoint) (rs : List BlockRequest) (before after : List Told) → AreReads rs → PostsInOrder o rs before after → TellsReads before after
in_order_reads None rs before after a h = tells_none before after h
in_order_reads (Some to) rs before after a h = posted_reads to rs before after a h

due_reads : (b : Bool) (o : Option Endpoint) (rs : List BlockRequest) (before after : List Told) → AreReads rs
    → MatchBool b (PostsInOrder o rs before after) (after ≡ before) → TellsReads before after
due_reads true o rs before after a h = in_order_reads o rs before after a h
due_reads false o rs before after a h = tells_none before after h

after_reads : (m : Incoming) (mid : Table) (before after : List Told) → NoWrite (pending_of mid.pending) → PostsAfter m mid before after → TellsReads before after
after_reads m mid before after none h = due_reads (is_message m) mid.current (unposted mid) before after (unposted_reads mid none) h

-- ---- calls

-- what is pending where one was taken out
no_write_out : (pending pending' : ℕ → Option Begun) (u : ℕ) → pending' ≡ put pending u None → NoWrite pending → NoWrite pending'
no_write_out pending pending' u e none = λ t r bytes is wr.
    let here : put pending u None t ≡ Some r = ap (λ (f : ℕ → Option Begun). f t) (sym e) ∙ is in
    elim (put_cases pending u None t) [
      | inl p ↦ absurd (let z : None ≡ Some r = sym p.1 ∙ here in cc)
      | inr p ↦ none t r bytes (sym p.1 ∙ here) wr
    ]

no_write_same : (pending pending' : ℕ → Option Begun) → pending' ≡ pending → NoWrite pending → NoWrite pending'
no_write_same pending pending' e none = subst NoWrite (sym e) none

-- a message begins no write
pub closes_none : (res : Settlement) (pending pending' : ℕ → Option Begun) → Closes res pending pending' → NoWrite pending → NoWrite pending'
closes_none (settled.Read u bytes) pending pending' closes none = no_write_out pending pending' u closes.3 none
closes_none (settled.Written u) pending pending' closes none = no_write_out pending pending' u closes.4 none
closes_none settled.Nothing pending pending' closes none = no_write_same pending pending' closes none
closes_none settled.Flush pending pending' closes none = no_write_same pending pending' closes none
closes_none settled.GaveUp pending pending' closes none = no_write_same pending pending' closes none
closes_none settled.End pending pending' closes none = no_write_same pending pending' closes none

-- a message that is absorbed, and what is posted then
pub absorb_reads : (m : Incoming) (res : Settlement) (old new : Table) (before after : List Told) (was is : Truth)
    → Absorbs m res old new before after was is → NoWrite (pending_of old.pending) → TellsReads before after
absorb_reads m res old new before after was is x none =
    let left : NoWrite (pending_of new.pending) = closes_none res (pending_of old.pending) (pending_of new.pending) x.closes none in
    let mid : NoWrite (pending_of x.mid.pending) = subst (λ (l : List Pending). NoWrite (pending_of l)) x.same left in
    tells_then before (x.complaints ++ before) after (record { told = x.complaints; history = refl; reads = x.unasked })
    (after_reads m x.mid (x.complaints ++ before) after mid x.in_order)

-- a message asks for nothing
heard_one : (m : Incoming) (before : List Told) → TellsReads before (Received m ∷ before)
heard_one m before = record { told = Received m ∷ []; history = refl; reads = tt }

heard_end : (b : Bool) (before : List Told) → TellsReads before (if b then before else Received incoming.End ∷ before)
heard_end true before = tells_none before before refl
heard_end false before = heard_one incoming.End before

heard_reads : (m : Incoming) (before : List Told) → TellsReads before (heard m before)
heard_reads incoming.End before = heard_end (took_end before) before
heard_reads (incoming.Reply a) before = heard_one (incoming.Reply a) before
heard_reads (incoming.Started e) before = heard_one (incoming.Started e) before
heard_reads incoming.GaveUp before = heard_one incoming.GaveUp before
heard_reads incoming.Flush before = heard_one incoming.Flush before

-- one that is taken
pub step_reads : (res : Settlement) (old new : Table) (before after : List Told) (was is : Truth)
    → Steps res old new before after was is → NoWrite (pending_of old.pending) → TellsReads before after
step_reads res old new before after was is x none =
    let left : NoWrite (pending_of new.pending) = closes_none res (pending_of old.pending) (pending_of new.pending) x.closes none in
    let mid : NoWrite (pending_of x.mid.pending) = subst (λ (l : List Pending). NoWrite (pending_of l)) x.same left in
    tells_then before (heard x.message before) after (heard_reads x.message before)
    (tells_then (heard x.message before) (x.complaints ++ heard x.message before) after (record { told = x.complaints; history = refl; reads = x.unasked })
    (after_reads x.message x.mid (x.complaints ++ heard x.message before) after mid x.in_order))

-- a read that is taken up
pub begin_reads : (ask : Ask) (old new : Table) (before after : List Told) → ask.kind ≡ Read → Adds ask old new before after → TellsReads before after
begin_reads ask old new before after read x =
    due_reads (old.posted == length old.pending) old.current (x.entry.request ∷ []) before after (ap is_write (x.request.kind ∙ read), tt) x.in_order

pub begin_none : (ask : Ask) (t : ℕ) (pending pending' : ℕ → Option Begun) → ask.kind ≡ Read → Opens (Ok t) (begun_by ask) pending pending'
    → NoWrite pending → NoWrite pending'
begin_none ask t pending pending' read opens none = λ u r bytes is wr.
    let here : put pending t (Some (begun_by ask)) u ≡ Some r = ap (λ (f : ℕ → Option Begun). f u) (sym opens.1) ∙ is in
    elim (put_cases pending t (Some (begun_by ask)) u) [
      | inl p ↦
          let same : Some (begun_by ask) ≡ Some r = sym p.1 ∙ here in
          let one : begun_by ask ≡ r = cc in
          let nothing : None ≡ Some bytes = sym (ap (λ (k : Kind). written_by k ask.bytes.now) read) ∙ ap (λ (b : Begun). b.written) one ∙ wr in
          absurd (let z : ⊥ = cc in z)
      | inr p ↦ none u r bytes (sym p.1 ∙ here) wr
    ]
