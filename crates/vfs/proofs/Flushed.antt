-- What a Flush makes pending, as the record has it.
use Rattle.std.proofs.Common.{◌≡◌, ℕ, ◌+◌, ◌-◌, ◌*◌, ◌^◌, ◌<◌, ◌≤◌, List, [], ◌∷◌, refl, sym, ap, ◌∙◌, arith, Bool, true, false, Option, Some, None}
use mathlib.Core.Logic.{inl, inr}
use Rattle.std.specs.Prelude.{◌||◌, ◌&&◌, not, map, nat_le, nat_lt, sum}
use Rattle.std.specs.List.{list_any}
use Rattle.std.proofs.lemmas.Bool.{cases_lt}
use Rattle.std.proofs.lemmas.Bool.Decides.{nat_tests}
use Rattle.std.proofs.lemmas.List.{length-map}
use Rattle.lemmas.proofs.Bools.{from_clash, and_left, and_right}
use Rattle.message.specs.declared.BlockRequest.{BlockRequest}
use Rattle.message.specs.Good.{is_write}
use Rattle.records.specs.Flushes.{WritesRun, WritesLowest, without_run, may_read}
use Rattle.records.specs.Flushes as record_of
use Rattle.reissue.specs.declared.pending.Pending.{Pending}
use Rattle.reissue.specs.Entries.{IsAmong, begun_of, request_of, meets}
use Rattle.reissue.proofs.Tickets.{pending_among}
use Rattle.cache.specs.declared.slot.Slot.{Slot}
use Rattle.cache.specs.declared.state.State.TheVariants.{Dirty}
use Rattle.cache.specs.Slots.{is_dirty, is_dirty_held, ticket_of}
use Rattle.cache.specs.Edits.{IsOutside}
use Rattle.cache.specs.Runs.{IssuesRun}
use Rattle.cache.specs.Calls.{AbstractCache, IsReady, IsStuck}
use Rattle.cache.proofs.Begun.{dirty_held}
use Rattle.cache.proofs.Tied.{Within, within_or, in_run, way_ticket}
use Rattle.flusher.specs.Flushing.{WritesRuns}
use Rattle.vfs.proofs.Framed.{bytes_of}
use Rattle.vfs.proofs.Unwritten.{may_have_of}

-- the blocks with dirty slots
abbrev pub dirty_in : (ℕ → Option Slot) → ℕ → Bool
dirty_in held = λ block. is_dirty_held (held block)

-- no more are dirty after a run
fewer_run : (most size n b : ℕ) (old new : ℕ → Option Slot) (ps qs : List BlockRequest) → IssuesRun most size n old new ps qs
    → is_dirty_held (new b) ≡ true → is_dirty_held (old b) ≡ true
fewer_run most size n b old new ps qs x dirty = elim (within_or x.block n b) [
  | inl here ↦
      let y = x.run.begun.each here.index here.below in
      let clear : is_dirty_held (new b) ≡ false = ap (λ k. is_dirty_held (new k)) here.is ∙ ap is_dirty_held y.after in
      from_clash (sym dirty ∙ clear)
  | inr out ↦ ap is_dirty_held (sym (x.run.begun.others b out)) ∙ dirty
]

-- nor after many
fewer : (counts : List ℕ) (most size b : ℕ) (old new : ℕ → Option Slot) (ps qs : List BlockRequest) → WritesRuns counts most size old new ps qs
    → is_dirty_held (new b) ≡ true → is_dirty_held (old b) ≡ true
fewer [] most size b old new ps qs x dirty = ap (λ (f : ℕ → Option Slot). is_dirty_held (f b)) (sym x.0) ∙ dirty
fewer (n ∷ counts) most size b old new ps qs x dirty =
    fewer counts most size b old x.0 ps x.1 x.2 (fewer_run (most - sum counts) size n b x.0 new x.1 qs x.3 dirty)

-- a run, as the record has it
run_written : (most size n : ℕ) (old new : ℕ → Option Slot) (ps qs : List BlockRequest) → ((b : ℕ) → is_dirty_held (old b) ≡ true → b < 2 ^ 32)
    → IssuesRun most size n old new ps qs → WritesRun most size n (dirty_in old) (dirty_in new) ps qs
run_written most size n old new ps qs low x = record {
  request = x.run.request;
  block = x.block;
  added = x.run.added;
  write = x.run.write;
  position = x.run.start;
  bytes = x.run.whole;
  some = x.some;
  lowest = λ b lt. lowest b lt (is_dirty_held (old b)) refl;
  unwritten = λ i lt. let y = x.run.begun.each i lt in ap is_dirty_held y.is ∙ ap is_dirty y.dirty;
  few = x.few;
  end = elim x.end [
    | inl all ↦ inl all
    | inr (inl far) ↦ inr (past far (is_dirty_held (old (x.block + n))) refl)
    | inr (inr over) ↦ inr over
  ];
  left = λ i b. left b i;
}
  where
    lowest : (b : ℕ) → b < x.block → (v : Bool) → is_dirty_held (old b) ≡ v → is_dirty_held (old b) ≡ false
    lowest b lt true e =
        let d = dirty_held (old b) e in
        let le = x.lowest b d.0 d.1 d.2 in
        absurd (omega (arith, le, lt))
    lowest b lt false e = e

    past : 2 ^ 32 ≤ x.block + n → (v : Bool) → is_dirty_held (old (x.block + n)) ≡ v → is_dirty_held (old (x.block + n)) ≡ false
    past far true e = let lt = low (x.block + n) e in absurd (omega (arith, far, lt))
    past far false e = e

    both : (v : Bool) → (v && false) ≡ false
    both true = refl
    both false = refl

    one : (v : Bool) → (v && true) ≡ v
    one true = refl
    one false = refl

    left : (b : ℕ) → is_dirty_held (new b) ≡ without_run x.block n (dirty_in old) b
    left b = elim (within_or x.block n b) [
      | inl here ↦
          let y = x.run.begun.each here.index here.below in
          let is = here.is in
          let below = here.below in
          let there : (nat_le x.block b && nat_lt b (x.block + n)) ≡ true = grind (arith, nat_tests, is, below) in
          ap (λ k. is_dirty_held (new k)) is ∙ ap is_dirty_held y.after ∙ sym (ap (λ v. is_dirty_held (old b) && not v) there ∙ both (is_dirty_held (old b)))
      | inr out ↦
          let away : (nat_le x.block b && nat_lt b (x.block + n)) ≡ false = outside b out in
          ap is_dirty_held (x.run.begun.others b out) ∙ sym (ap (λ v. is_dirty_held (old b) && not v) away ∙ one (is_dirty_held (old b)))
    ]
      where
        outside : (b : ℕ) → IsOutside x.block n b → (nat_le x.block b && nat_lt b (x.block + n)) ≡ false
        outside b (inl lower) = grind (arith, nat_tests, lower)
        outside b (inr past) = grind (arith, nat_tests, past)

-- runs, as the record has them
pub runs_written : (counts : List ℕ) (most size : ℕ) (old new : ℕ → Option Slot) (ps qs : List BlockRequest)
    → ((b : ℕ) → is_dirty_held (old b) ≡ true → b < 2 ^ 32) → WritesRuns counts most size old new ps qs
    → WritesLowest counts most size (dirty_in old) (dirty_in new) ps qs
runs_written [] most size old new ps qs low x = (ap dirty_in x.0, x.1)
runs_written (n ∷ counts) most size old new ps qs low x = (
  dirty_in x.0,
  x.1,
  runs_written counts most size old x.0 ps x.1 low x.2,
  run_written (most - sum counts) size n x.0 new x.1 qs (λ b dirty. low b (fewer counts most size b old x.0 ps x.1 x.2 dirty)) x.3,
)

-- ---- no further write can begin

-- a pending write has no byte of a dirty block
apart : (c : AbstractCache) → IsReady c → 0 < c.size → (b : ℕ) (s : Slot) → c.held b ≡ Some s → s.state ≡ Dirty → (p : Pending) → IsAmong p c.table.pending
    → is_write p.request.kind ≡ true → meets (b * c.size) c.size p ≡ true → ⊥
apart c ready sized b s is dirty p among write meet =
    let run = ready.tied.writes p.ticket (begun_of p) p.bytes (pending_among p c.table.pending c.table.numbers.distinct among)
    (bytes_of p.request.kind p.bytes write) in
    let start = run.start in
    let whole = run.whole in
    let some = p.some in
    let here : Within run.block run.count b = elim (cases_lt (b * c.size) p.start) [
      | inl lower ↦
          let o = p.start - b * c.size in
          in_run b run.block run.count o c.size (omega (arith, lower, last)) (omega (arith, start, lower)) (omega (arith, start, whole, lower, some))
      | inr le ↦ in_run b run.block run.count 0 c.size sized (omega (arith, start, le)) (omega (arith, start, whole, first))
    ] in
    let y = run.each here.index here.below in
    let there : c.held b ≡ Some y.slot = ap c.held here.is ∙ y.holds in
    let one : Some s ≡ Some y.slot = sym is ∙ there in
    let same : s ≡ y.slot = cc in
    let none : None ≡ Some p.ticket = ap ticket_of (sym dirty) ∙ ap (λ (v : Slot). ticket_of v.state) same
    ∙ way_ticket c.size y.slot p.ticket (here.index * c.size) p.bytes y.way in
    cc
  where
    first : b * c.size < p.start + p.size
    first = let e : nat_lt (b * c.size) (p.start + p.size) ≡ true = and_left (nat_lt (b * c.size) (p.start + p.size)) _ meet in grind (arith, nat_tests)

    last : p.start < b * c.size + c.size
    last = let e : nat_lt p.start (b * c.size + c.size) ≡ true = and_right (nat_lt (b * c.size) (p.start + p.size)) _ meet in grind (arith, nat_tests)

-- so one that has is a read
reads_any : (size b : ℕ) (ps : List Pending) → ((p : Pending) → IsAmong p ps → is_write p.request.kind ≡ true → meets (b * size) size p ≡ true → ⊥)
    → list_any (meets (b * size) size) ps ≡ true → list_any (may_read size b) (map request_of ps) ≡ true
reads_any size b [] apart any = cc
reads_any size b (p ∷ ps) apart any = by (meets (b * size) size p) refl (λ rest. reads_any size b ps (λ q among. apart q (inr among)) rest)
  where
    either : (x y : Bool) → y ≡ true → (x || y) ≡ true
    either true y e = refl
    either false y e = e

    kind : meets (b * size) size p ≡ true → (k : Bool) → is_write p.request.kind ≡ k → is_write p.request.kind ≡ false
    kind meet true e = absurd (apart p (inl refl) e meet)
    kind meet false e = e

    here : meets (b * size) size p ≡ true → may_read size b p.request ≡ true
    here meet =
        let e : nat_lt (b * size) (p.start + p.size) ≡ true = and_left (nat_lt (b * size) (p.start + p.size)) _ meet in
        let f : nat_lt p.start (b * size + size) ≡ true = and_right (nat_lt (b * size) (p.start + p.size)) _ meet in
        let lower : b * size < p.start + p.size = grind (arith, nat_tests) in
        let upper : p.start < b * size + size = grind (arith, nat_tests) in
        let read = kind meet (is_write p.request.kind) refl in
        let have = may_have_of size b p lower upper in
        rw (read, have) refl

    by : (v : Bool) → meets (b * size) size p ≡ v
        → (list_any (meets (b * size) size) ps ≡ true → list_any (may_read size b) (map request_of ps) ≡ true)
        → list_any (may_read size b) (map request_of (p ∷ ps)) ≡ true
    by true e later = rw (here e) refl
    by false e later =
        let rest : list_any (meets (b * size) size) ps ≡ true = ap (λ (v : Bool). v || list_any (meets (b * size) size) ps) (sym e) ∙ any in
        either (may_read size b p.request) (list_any (may_read size b) (map request_of ps)) (later rest)

-- as the record has it
pub stuck : (c : AbstractCache) → IsReady c → 0 < c.size → IsStuck c → record_of.IsStuck c.size (dirty_in c.held) (map request_of c.table.pending)
stuck c ready sized x = elim x.why [
  | inl none ↦ inl (λ b. clear none b (c.held b) refl)
  | inr (busy, inl full) ↦ inr (inl (length-map c.table.pending request_of ∙ full))
  | inr (busy, inr (b, s, is, dirty, any)) ↦ inr (inr (
    b,
    ap is_dirty_held is ∙ ap is_dirty dirty,
    reads_any c.size b c.table.pending (λ p among. apart c ready sized b s is dirty p among) any,
  ))
]
  where
    clear : ((b : ℕ) (s : Slot) → c.held b ≡ Some s → is_dirty s.state ≡ false) → (b : ℕ) (o : Option Slot) → c.held b ≡ o → is_dirty_held (c.held b) ≡ false
    clear none b None e = ap is_dirty_held e
    clear none b (Some s) e = ap is_dirty_held e ∙ none b s e
