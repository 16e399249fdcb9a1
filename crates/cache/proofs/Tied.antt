-- Slots and pending requests stay tied.
use Rattle.std.proofs.Common.{◌≡◌, ◌≢◌, ℕ, suc, ◌<◌, ◌≤◌, ◌+◌, ◌-◌, ◌*◌, List, Bool, true, false, refl, sym, ap, subst, ◌∙◌, arith, Option, Some, None}
use mathlib.Core.Logic.{inl, inr, ◌⊎◌}
use Rattle.std.proofs.lemmas.Bool.{cond-true, cond-false, eq-eqb, ne_eqb, cases_lt}
use Rattle.std.proofs.Math.Nat.{mul-le-mul_right, suc-mul, add-mul}
use Rattle.reissue.specs.Moves.{Begun, put, IsQuiet}
use Rattle.reissue.proofs.Maps.{put-same, put-other, put_cases}
use Rattle.cache.specs.Slots.{is_number, is_under, ticket_of, dirtied, written}
use Rattle.cache.specs.Edits.{after_write, held_after_write, AreBegun, IsOutside}
use Rattle.cache.specs.Frames.{IsUnderWay, HasSlot, IsRun, HasWrite, Tied}
use Rattle.cache.specs.Runs.{AreGathered}
use Rattle.cache.specs.declared.slot.Slot.{Slot}
use Rattle.cache.specs.declared.state.State.{State}
use Rattle.cache.specs.declared.state.State.TheVariants.{Clean, Dirty, Writing, Changed}

-- what is there is one slot
pub same_slot : (o : Option Slot) (s t : Slot) → o ≡ Some s → o ≡ Some t → s ≡ t
same_slot o s t h k = cc

-- or one request
pub same_begun : (o : Option Begun) (s t : Begun) → o ≡ Some s → o ≡ Some t → s ≡ t
same_begun o s t h k = cc

-- one of so many blocks from this one on
pub record Within (block count b : ℕ) : Type 0 where
  pub index : ℕ
  pub below : index < count
  pub is : b ≡ block + index

-- a place in a run lies in one of its blocks
pub in_run : (b c count o size : ℕ) → o < size → c * size ≤ b * size + o → b * size + o < c * size + count * size → Within c count b
in_run b c count o size lt from to = elim (cases_lt b c) [
  | inl lower ↦
      let more : suc b * size ≤ c * size = mul-le-mul_right size lower in
      let one : suc b * size ≡ b * size + size = suc-mul b size in
      absurd (omega (arith, more, one, lt, from))
  | inr le ↦ elim (cases_lt (b - c) count) [
    | inl below ↦ record { index = b - c; below = below; is = omega (arith, le) }
    | inr past ↦
        let at : c + (b - c) ≡ b = omega (arith, le) in
        let far : count * size ≤ (b - c) * size = mul-le-mul_right size past in
        let whole : b * size ≡ c * size + (b - c) * size = ap (λ n. n * size) (sym at) ∙ add-mul c (b - c) size in
        absurd (omega (arith, far, whole, to))
  ]
]

-- each block is one of so many from this one on, or outside
pub within_or : (block count b : ℕ) → Within block count b ⊎ IsOutside block count b
within_or block count b = elim (cases_lt b block) [
  | inl lower ↦ inr (inl lower)
  | inr le ↦ elim (cases_lt (b - block) count) [
    | inl below ↦ inl (record { index = b - block; below = below; is = omega (arith, le) })
    | inr past ↦ inr (inr (omega (arith, le, past)))
  ]
]

-- the block so many past the first begins so many blocks' bytes past it
pub place_past : (block i size : ℕ) → (block + i) * size ≡ block * size + i * size
place_past block i size = add-mul block i size

-- and ends within the run
pub fits_past : (i count size : ℕ) → i < count → i * size + size ≤ count * size
fits_past i count size lt =
    let more : suc i * size ≤ count * size = mul-le-mul_right size lt in
    let one : suc i * size ≡ i * size + size = suc-mul i size in
    omega (arith, more, one)

-- a slot whose write is under way has its ticket
pub way_ticket : (size : ℕ) (s : Slot) (t from : ℕ) (bytes : List ℕ) → IsUnderWay size s t from bytes → ticket_of s.state ≡ Some t
way_ticket size s t from bytes h = elim h.state [
  | inl e ↦ ap ticket_of e
  | inr p ↦ ap ticket_of p.0
]

-- a clean slot has none
pub no_ticket : (s : State) (t : ℕ) → s ≡ Clean → ticket_of s ≡ Some t → ⊥
no_ticket s t e h = let k : None ≡ Some t = rw e at h in cc

-- a run, by slots that go on being under way
pub run_like : (size : ℕ) (held held' : ℕ → Option Slot) (n : ℕ) (r : Begun) (bytes : List ℕ) (h : IsRun size held n r bytes)
    → ((i : ℕ) → i < h.count → HasSlot size held n (h.block + i) (i * size) bytes → HasSlot size held' n (h.block + i) (i * size) bytes)
    → IsRun size held' n r bytes
run_like size held held' n r bytes h each = record {
  block = h.block;
  count = h.count;
  some = h.some;
  start = h.start;
  whole = h.whole;
  each = λ i lt. each i lt (h.each i lt);
}

-- a slot under another ticket isn't written
pub stays_other : (n m : ℕ) (s : Slot) → ticket_of s.state ≡ Some m → m ≢ n → after_write n s ≡ s
stays_other n m s t ne =
    let e : is_under n s ≡ false = ap (λ (o : Option ℕ). is_number o n) t ∙ ne_eqb m n ne in
    cond-false (is_under n s) (record s { state = written s.state }) s e

-- a slot with a write under way after one was written wasn't that one
pub not_under : (n m : ℕ) (s : Slot) → ticket_of (after_write n s).state ≡ Some m → (after_write n s ≡ s) × (m ≢ n)
not_under n m s h = by (is_under n s) refl
  where
    no_more : (x : State) → ticket_of (written x) ≡ Some m → ⊥
    no_more Clean k = cc
    no_more Dirty k = cc
    no_more (Writing y) k = cc
    no_more (Changed y) k = cc

    by : (v : Bool) → is_under n s ≡ v → (after_write n s ≡ s) × (m ≢ n)
    by true e =
        let is : after_write n s ≡ record s { state = written s.state } = cond-true (is_under n s) (record s { state = written s.state }) s e in
        absurd (no_more s.state (ap (λ (x : Slot). ticket_of x.state) (sym is) ∙ h))
    by false e =
        let is : after_write n s ≡ s = cond-false (is_under n s) (record s { state = written s.state }) s e in
        let t : ticket_of s.state ≡ Some m = ap (λ (x : Slot). ticket_of x.state) (sym is) ∙ h in
        (is, λ at. (let z : is_under n s ≡ true = ap (λ (o : Option ℕ). is_number o n) t ∙ eq-eqb m n at in let y : true ≡ false = sym z ∙ e in cc))

-- a block that has no write under way is quiet
pub quiet : (size : ℕ) (held : ℕ → Option Slot) (pending : ℕ → Option Begun) (b o : ℕ)
    → Tied size held pending → o < size → ((t : ℕ) (s : Slot) → held b ≡ Some s → ticket_of s.state ≡ Some t → ⊥)
    → IsQuiet pending (b * size + o)
quiet size held pending b o k lt none = record {
  none = λ t r bytes is write touches.
      let h = k.writes t r bytes is write in
      let start = h.start in
      let whole = h.whole in
      let from = touches.from in
      let to = touches.to in
      let at : Within h.block h.count b = in_run b h.block h.count o size lt (omega (arith, start, from)) (omega (arith, start, whole, to)) in
      let x = h.each at.index at.below in
      none t x.slot (ap held at.is ∙ x.holds) (way_ticket size x.slot t (at.index * size) bytes x.way);
}

-- ---- the slot of a block is changed

-- what is under way stays so, and nothing more
pub tied_slot : (size : ℕ) (held : ℕ → Option Slot) (pending : ℕ → Option Begun) (b : ℕ) (s t : Slot)
    → held b ≡ Some s → ((n from : ℕ) (bytes : List ℕ) → IsUnderWay size s n from bytes → IsUnderWay size t n from bytes)
    → ((n : ℕ) → ticket_of t.state ≡ Some n → ticket_of s.state ≡ Some n)
    → Tied size held pending → Tied size (put held b (Some t)) pending
tied_slot size held pending b s t is way back k = record {
  writes = λ n r bytes h wr. with_slots n r bytes (k.writes n r bytes h wr);
  issued = λ c n u h e. elim (put_cases held b (Some t) c) [
    | inl p ↦
        let same : u ≡ t = same_slot (put held b (Some t) c) u t h p.1 in
        k.issued c n s (ap held p.0 ∙ is) (back n (ap (λ (x : Slot). ticket_of x.state) (sym same) ∙ e))
    | inr p ↦ k.issued c n u (sym p.1 ∙ h) e
  ];
}
  where
    with_slot : (n c from : ℕ) (bytes : List ℕ) → HasSlot size held n c from bytes → HasSlot size (put held b (Some t)) n c from bytes
    with_slot n c from bytes h = elim (put_cases held b (Some t) c) [
      | inl p ↦
          let same : h.slot ≡ s = same_slot (held c) h.slot s h.holds (ap held p.0 ∙ is) in
          record { slot = t; holds = p.1; way = way n from bytes (subst (λ (x : Slot). IsUnderWay size x n from bytes) same h.way) }
      | inr p ↦ record { slot = h.slot; holds = p.1 ∙ h.holds; way = h.way }
    ]

    with_slots : (n : ℕ) (r : Begun) (bytes : List ℕ) → IsRun size held n r bytes → IsRun size (put held b (Some t)) n r bytes
    with_slots n r bytes h = run_like size held (put held b (Some t)) n r bytes h (λ i lt. with_slot n (h.block + i) (i * size) bytes)

-- the bytes of a slot are changed
pub tied_changed : (size : ℕ) (held : ℕ → Option Slot) (pending : ℕ → Option Begun) (b : ℕ) (s t : Slot)
    → held b ≡ Some s → t.state ≡ dirtied s.state → Tied size held pending → Tied size (put held b (Some t)) pending
tied_changed size held pending b s t is st k = tied_slot size held pending b s t is way back k
  where
    state_of_ticket : (x : State) (n : ℕ) → ticket_of (dirtied x) ≡ Some n → ticket_of x ≡ Some n
    state_of_ticket Clean n h = cc
    state_of_ticket Dirty n h = cc
    state_of_ticket (Writing u) n h = h
    state_of_ticket (Changed u) n h = h

    back : (n : ℕ) → ticket_of t.state ≡ Some n → ticket_of s.state ≡ Some n
    back n e = state_of_ticket s.state n (ap ticket_of (sym st) ∙ e)

    way : (n from : ℕ) (bytes : List ℕ) → IsUnderWay size s n from bytes → IsUnderWay size t n from bytes
    way n from bytes h = record {
      state = elim h.state [
        | inl c ↦ inl (st ∙ ap dirtied c)
        | inr p ↦ inl (st ∙ ap dirtied p.0)
      ];
    }

-- a block without a write under way gets a slot without one, or loses its slot
pub tied_idle : (size : ℕ) (held : ℕ → Option Slot) (pending : ℕ → Option Begun) (b : ℕ) (x : Option Slot)
    → ((n : ℕ) (s : Slot) → held b ≡ Some s → ticket_of s.state ≡ Some n → ⊥)
    → ((n : ℕ) (t : Slot) → x ≡ Some t → ticket_of t.state ≡ Some n → ⊥)
    → Tied size held pending → Tied size (put held b x) pending
tied_idle size held pending b x none none' k = record {
  writes = λ n r bs h wr. let y = k.writes n r bs h wr in run_like size held (put held b x) n r bs y (λ i lt. other n (y.block + i) (i * size) bs);
  issued = λ c n u h e. elim (put_cases held b x c) [
    | inl p ↦ absurd (none' n u (sym p.1 ∙ h) e)
    | inr p ↦ k.issued c n u (sym p.1 ∙ h) e
  ];
}
  where
    other : (n c from : ℕ) (bs : List ℕ) → HasSlot size held n c from bs → HasSlot size (put held b x) n c from bs
    other n c from bs y = elim (put_cases held b x c) [
      | inl p ↦ absurd (none n y.slot (ap held (sym p.0) ∙ y.holds) (way_ticket size y.slot n from bs y.way))
      | inr p ↦ record { slot = y.slot; holds = p.1 ∙ y.holds; way = y.way }
    ]

-- ---- a request is begun or settled

-- a read comes or goes, or nothing does
pub record SameWrites (pending pending' : ℕ → Option Begun) : Type 0 where
  pub to : (t : ℕ) (r : Begun) (bytes : List ℕ) → pending t ≡ Some r → r.written ≡ Some bytes → pending' t ≡ Some r
  pub from : (t : ℕ) (r : Begun) (bytes : List ℕ) → pending' t ≡ Some r → r.written ≡ Some bytes → pending t ≡ Some r

-- then what is tied stays so
same_writes : (size : ℕ) (held : ℕ → Option Slot) (pending pending' : ℕ → Option Begun)
    → SameWrites pending pending' → Tied size held pending → Tied size held pending'
same_writes size held pending pending' e k = record {
  writes = λ t r bytes h wr. k.writes t r bytes (e.from t r bytes h wr) wr;
  issued = λ b t s h ts.
      let x = k.issued b t s h ts in
      record { request = x.request; bytes = x.bytes; is = e.to t x.request x.bytes x.is x.write; write = x.write; from = x.from; to = x.to };
}

-- a read is begun
pub tied_read : (size : ℕ) (held : ℕ → Option Slot) (pending : ℕ → Option Begun) (t : ℕ) (r : Begun)
    → pending t ≡ None → r.written ≡ None → Tied size held pending → Tied size held (put pending t (Some r))
tied_read size held pending t r free read k = same_writes size held pending (put pending t (Some r)) begun k
  where
    begun : SameWrites pending (put pending t (Some r))
    begun = record {
      to = λ n q bytes h wr. elim (put_cases pending t (Some r) n) [
        | inl p ↦ let m = ap pending p.0 ∙ free in cc
        | inr p ↦ p.1 ∙ h
      ];
      from = λ n q bytes h wr. elim (put_cases pending t (Some r) n) [
        | inl p ↦
            let same : q ≡ r = same_begun (put pending t (Some r) n) q r h p.1 in
            let m = ap (λ (x : Begun). x.written) same in cc
        | inr p ↦ sym p.1 ∙ h
      ];
    }

-- a read is settled
pub tied_read_settled : (size : ℕ) (held : ℕ → Option Slot) (pending : ℕ → Option Begun) (t : ℕ) (r : Begun)
    → pending t ≡ Some r → r.written ≡ None → Tied size held pending → Tied size held (put pending t None)
tied_read_settled size held pending t r is read k = same_writes size held pending (put pending t None) settled k
  where
    settled : SameWrites pending (put pending t None)
    settled = record {
      to = λ n q bytes h wr. elim (put_cases pending t None n) [
        | inl p ↦
            let same : q ≡ r = same_begun (pending n) q r h (ap pending p.0 ∙ is) in
            let m = ap (λ (x : Begun). x.written) same in cc
        | inr p ↦ p.1 ∙ h
      ];
      from = λ n q bytes h wr. elim (put_cases pending t None n) [
        | inl p ↦ let m = p.1 in cc
        | inr p ↦ sym p.1 ∙ h
      ];
    }

-- the writes of a run are begun in one request
pub tied_run : (size : ℕ) (held held' : ℕ → Option Slot) (pending : ℕ → Option Begun) (b count n : ℕ) (r : Begun) (bytes : List ℕ)
    → 0 < count → AreBegun b count n held held' → AreGathered held b count size bytes
    → pending n ≡ None → r.start ≡ b * size → r.size ≡ count * size → r.written ≡ Some bytes
    → Tied size held pending → Tied size held' (put pending n (Some r))
tied_run size held held' pending b count n r bytes some begun from free start whole wr k = record {
  writes = λ m q bs h wq. elim (put_cases pending n (Some r) m) [
    | inl p ↦ new_run m q bs p.0 (same_begun (put pending n (Some r) m) q r h p.1) wq
    | inr p ↦
        let y = k.writes m q bs (sym p.1 ∙ h) wq in
        run_like size held held' m q bs y (λ i lt. old_slot m (y.block + i) (i * size) bs)
  ];
  issued = λ c m u h e. elim (within_or b count c) [
    | inl w ↦ new_write c m u h e w
    | inr out ↦
        let x = k.issued c m u (sym (begun.others c out) ∙ h) e in
        let ne : m ≢ n = λ at. let y = x.is in let z = ap pending at ∙ free in cc in
        record { request = x.request; bytes = x.bytes; is = put-other pending n (Some r) m ne ∙ x.is; write = x.write; from = x.from; to = x.to }
  ];
}
  where
    new_slot : (m i : ℕ) → m ≡ n → i < count → HasSlot size held' m (b + i) (i * size) bytes
    new_slot m i at lt =
        let x = begun.each i lt in
        record {
          slot = record x.slot { state = Writing n };
          holds = x.after;
          way = record { state = inr (ap Writing (sym at), λ o lo. sym (from.each i o x.slot lt lo x.is)) };
        }

    new_run : (m : ℕ) (q : Begun) (bs : List ℕ) → m ≡ n → q ≡ r → q.written ≡ Some bs → IsRun size held' m q bs
    new_run m q bs at same wq =
        let one : Some bytes ≡ Some bs = sym wr ∙ ap (λ (x : Begun). x.written) (sym same) ∙ wq in
        let these : bytes ≡ bs = cc in
        subst (λ (x : List ℕ). IsRun size held' m q x) these (record {
          block = b;
          count = count;
          some = some;
          start = ap (λ (x : Begun). x.start) same ∙ start;
          whole = ap (λ (x : Begun). x.size) same ∙ whole;
          each = λ i lt. new_slot m i at lt;
        })

    old_slot : (m c at : ℕ) (bs : List ℕ) → HasSlot size held m c at bs → HasSlot size held' m c at bs
    old_slot m c at bs x = elim (within_or b count c) [
      | inl w ↦
          let y = begun.each w.index w.below in
          let same : x.slot ≡ y.slot = same_slot (held c) x.slot y.slot x.holds (ap held w.is ∙ y.is) in
          let f : ticket_of x.slot.state ≡ Some m = way_ticket size x.slot m at bs x.way in
          let g : ticket_of x.slot.state ≡ None = ap ticket_of (ap (λ (z : Slot). z.state) same ∙ y.dirty) in
          absurd (let z : None ≡ Some m = sym g ∙ f in cc)
      | inr out ↦ record { slot = x.slot; holds = begun.others c out ∙ x.holds; way = x.way }
    ]

    new_write : (c m : ℕ) (u : Slot) → held' c ≡ Some u → ticket_of u.state ≡ Some m → Within b count c → HasWrite size (put pending n (Some r)) c m
    new_write c m u h e w =
        let y = begun.each w.index w.below in
        let same : u ≡ record y.slot { state = Writing n } = same_slot (held' c) u (record y.slot { state = Writing n }) h (ap held' w.is ∙ y.after) in
        let its : Some n ≡ Some m = sym (ap (λ (x : Slot). ticket_of x.state) same) ∙ e in
        let at : m ≡ n = cc in
        let place : c * size ≡ b * size + w.index * size = ap (λ z. z * size) w.is ∙ place_past b w.index size in
        let fits = fits_past w.index count size w.below in
        record {
          request = r;
          bytes = bytes;
          is = ap (put pending n (Some r)) at ∙ put-same pending n (Some r);
          write = wr;
          from = omega (arith, start, place);
          to = omega (arith, start, whole, place, fits);
        }

-- the write of a run is settled
pub tied_written : (size : ℕ) (held held' : ℕ → Option Slot) (pending : ℕ → Option Begun) (n : ℕ)
    → ((b : ℕ) → held' b ≡ held_after_write n (held b)) → Tied size held pending → Tied size held' (put pending n None)
tied_written size held held' pending n after k = record {
  writes = λ m q bs h wq. elim (put_cases pending n None m) [
    | inl p ↦ let z = p.1 in cc
    | inr p ↦
        let y = k.writes m q bs (sym p.1 ∙ h) wq in
        run_like size held held' m q bs y (λ i lt. other m (y.block + i) (i * size) bs p.0)
  ];
  issued = λ c m u h e.
      let w = was_under n c m u (held c) refl (sym (after c) ∙ h) e in
      let x = k.issued c m u w.0 e in
      record { request = x.request; bytes = x.bytes; is = put-other pending n None m w.1 ∙ x.is; write = x.write; from = x.from; to = x.to };
}
  where
    other : (m c from : ℕ) (bs : List ℕ) → m ≢ n → HasSlot size held m c from bs → HasSlot size held' m c from bs
    other m c from bs ne x = record {
      slot = x.slot;
      holds = after c ∙ ap (held_after_write n) x.holds ∙ ap Some (stays_other n m x.slot (way_ticket size x.slot m from bs x.way) ne);
      way = x.way;
    }

    was_under : (n c m : ℕ) (u : Slot) (o : Option Slot) → held c ≡ o → held_after_write n (held c) ≡ Some u → ticket_of u.state ≡ Some m
        → (held c ≡ Some u) × (m ≢ n)
    was_under n c m u None e h t = let z : None ≡ Some u = ap (held_after_write n) (sym e) ∙ h in absurd (let y : ⊥ = cc in y)
    was_under n c m u (Some s) e h t =
        let z : Some (after_write n s) ≡ Some u = ap (held_after_write n) (sym e) ∙ h in
        let same : after_write n s ≡ u = cc in
        let g = not_under n m s (ap (λ (x : Slot). ticket_of x.state) same ∙ t) in
        (e ∙ ap Some (sym g.0 ∙ same), g.1)
