-- Slots and the disk go on agreeing, and what would be read back stays.
use Rattle.std.proofs.Common.{◌≡◌, ℕ, zero, suc, ◌<◌, ◌≤◌, ◌+◌, ◌*◌, List, [], ◌∷◌, get_or, take, get_or-take, refl, sym, ap, subst, ◌∙◌, arith, Bool, true, false, Option, Some, None}
use mathlib.Core.Logic.{inl, inr, ◌⊎◌}
use Rattle.std.specs.Prelude.{slice_index, nat_lt, cond}
use Rattle.std.proofs.lemmas.Bool.{cond-true, cases_lt, lt-ltb}
use Rattle.std.proofs.lemmas.Bool.Decides.{nat_tests}
use Rattle.records.specs.View.{frame_or}
use Rattle.reissue.specs.Moves.{DiskState, Begun, put, Spares}
use Rattle.reissue.proofs.Maps.{put-same, put-other, put_cases}
use Rattle.cache.specs.Slots.{is_under, ticket_of, dirtied, written}
use Rattle.cache.specs.Edits.{AreBegun, after_write, held_after_write}
use Rattle.cache.specs.Frames.{HasSure, Tied, CacheAgrees, frame_of, disk_block, view}
use Rattle.cache.proofs.Held.{block_is}
use Rattle.cache.proofs.Tied.{Within, same_slot, same_begun, quiet, no_ticket, within_or, in_run, place_past, fits_past}
use Rattle.cache.specs.declared.slot.Slot.{Slot}
use Rattle.cache.specs.declared.state.State.{State}
use Rattle.cache.specs.declared.state.State.TheVariants.{Clean, Dirty, Writing, Changed}

-- ---- bytes of a block

-- the byte of a slot, or this one
abbrev pub byte_or : Option Slot → ℕ → ℕ → ℕ
byte_or None o below = below
byte_or (Some s) o below = slice_index s.bytes.value o

-- no byte stands past the end of a list's leading part
get_or_past : (n : ℕ) (xs : List ℕ) (o : ℕ) → n ≤ o → get_or (take n xs) o 0 ≡ 0
get_or_past zero xs o le = refl
get_or_past (suc n) [] o le = refl
get_or_past (suc n) (x ∷ xs) zero le = absurd (omega arith)
get_or_past (suc n) (x ∷ xs) (suc o) le = get_or_past n xs o (omega arith)

-- within the block
pub seen_within : (size : ℕ) (w : DiskState) (b o : ℕ) (x : Option Slot) → o < size
    → frame_or (frame_of size x) (disk_block size w b) o ≡ byte_or x o (w.disk (b * size + o))
seen_within size w b o None lt = cond-true (nat_lt o size) (w.disk (b * size + o)) 0 (lt-ltb o size lt)
seen_within size w b o (Some s) lt = get_or-take size s.bytes.value o 0 lt

-- past its end
pub seen_past : (size : ℕ) (w : DiskState) (b o : ℕ) (x : Option Slot) → size ≤ o
    → frame_or (frame_of size x) (disk_block size w b) o ≡ 0
seen_past size w b o None le = grind (arith, nat_tests)
seen_past size w b o (Some s) le = get_or_past size s.bytes.value o le

-- what would be read back is the same where each byte within a block is
pub same_view : (size : ℕ) (held held' : ℕ → Option Slot) (w v : DiskState)
    → ((b o : ℕ) → o < size → byte_or (held' b) o (v.disk (b * size + o)) ≡ byte_or (held b) o (w.disk (b * size + o)))
    → view size held' v ≡ view size held w
same_view size held held' w v h = λ i b o. at b o (cases_lt o size) i
  where
    at : (b o : ℕ) → ((o < size) ⊎ (size ≤ o)) → view size held' v b o ≡ view size held w b o
    at b o (inl lt) = seen_within size v b o (held' b) lt ∙ h b o lt ∙ sym (seen_within size w b o (held b) lt)
    at b o (inr le) = seen_past size v b o (held' b) le ∙ sym (seen_past size w b o (held b) le)

-- ---- the disk changes where writes are pending

-- slots and the disk go on agreeing
pub agrees_moved : (size : ℕ) (held : ℕ → Option Slot) (pending : ℕ → Option Begun) (w v : DiskState)
    → Spares pending w v → Tied size held pending → CacheAgrees size held w → CacheAgrees size held v
agrees_moved size held pending w v sp t k = record {
  clean = λ b s h e o lt.
      let was = k.clean b s h e o lt in
      let q = quiet size held pending b o t lt (λ n u hu tu. no_ticket u.state n (ap (λ (x : Slot). x.state) (same_slot (held b) u s hu h) ∙ e) tu) in
      record { byte_is = was.byte_is ∙ sym (sp.disk (b * size + o) q); sure = sp.sure (b * size + o) q was.sure };
  covered = λ b h o lt.
      let q = quiet size held pending b o t lt (λ n u hu tu. cc) in
      sp.sure (b * size + o) q (k.covered b h o lt);
}

-- what would be read back stays
pub view_moved : (size : ℕ) (held : ℕ → Option Slot) (pending : ℕ → Option Begun) (w v : DiskState)
    → Spares pending w v → Tied size held pending → view size held v ≡ view size held w
view_moved size held pending w v sp k = same_view size held held w v (λ b o lt. at b o lt (held b) refl)
  where
    at : (b o : ℕ) → o < size → (x : Option Slot) → held b ≡ x
        → byte_or (held b) o (v.disk (b * size + o)) ≡ byte_or (held b) o (w.disk (b * size + o))
    at b o lt None e = rw e (sp.disk (b * size + o) (quiet size held pending b o k lt (λ t u hu tu. cc)))
    at b o lt (Some s) e = rw e refl

-- ---- the slot of one block changes

-- slots and the disk go on agreeing, if that block's do
pub agrees_put : (size : ℕ) (held : ℕ → Option Slot) (w : DiskState) (b : ℕ) (x : Option Slot)
    → ((s : Slot) → x ≡ Some s → s.state ≡ Clean → (o : ℕ) → o < size → HasSure w (b * size + o) (slice_index s.bytes.value o))
    → (x ≡ None → (o : ℕ) → o < size → w.unsure (b * size + o) ≡ false)
    → CacheAgrees size held w → CacheAgrees size (put held b x) w
agrees_put size held w b x clean none k = record {
  clean = λ c u h e o lt. elim (put_cases held b x c) [
    | inl p ↦ subst (λ (d : ℕ). HasSure w (d * size + o) (slice_index u.bytes.value o)) (sym p.0) (clean u (sym p.1 ∙ h) e o lt)
    | inr p ↦ k.clean c u (sym p.1 ∙ h) e o lt
  ];
  covered = λ c h o lt. elim (put_cases held b x c) [
    | inl p ↦ subst (λ (d : ℕ). w.unsure (d * size + o) ≡ false) (sym p.0) (none (sym p.1 ∙ h) o lt)
    | inr p ↦ k.covered c (sym p.1 ∙ h) o lt
  ];
}

-- what would be read back stays, if that block's bytes do
pub view_put : (size : ℕ) (held : ℕ → Option Slot) (w : DiskState) (b : ℕ) (x : Option Slot)
    → ((o : ℕ) → o < size → byte_or x o (w.disk (b * size + o)) ≡ byte_or (held b) o (w.disk (b * size + o)))
    → view size (put held b x) w ≡ view size held w
view_put size held w b x h = same_view size held (put held b x) w w (λ c o lt.
    elim (put_cases held b x c) [
      | inl p ↦ rw (p.1, p.0) (h o lt)
      | inr p ↦ rw p.1 refl
    ])

-- just that block's bytes change
pub view_row : (size : ℕ) (held : ℕ → Option Slot) (w : DiskState) (b : ℕ) (x : Option Slot) (row : ℕ → ℕ)
    → frame_or (frame_of size x) (disk_block size w b) ≡ row
    → view size (put held b x) w ≡ put (view size held w) b row
view_row size held w b x row h = λ i c. at c i
  where
    at : (c : ℕ) → view size (put held b x) w c ≡ put (view size held w) b row c
    at c = elim (put_cases held b x c) [
      | inl p ↦
          ap (λ (d : ℕ). view size (put held b x) w d) p.0
          ∙ ap (λ (y : Option Slot). frame_or (frame_of size y) (disk_block size w b)) (put-same held b x) ∙ h
          ∙ sym (ap (put (view size held w) b row) p.0 ∙ put-same (view size held w) b row)
      | inr p ↦
          ap (λ (y : Option Slot). frame_or (frame_of size y) (disk_block size w c)) p.1
          ∙ sym (put-other (view size held w) b row c p.0)
    ]

-- a slot that has other bytes isn't clean
pub not_clean : (s : State) → dirtied s ≡ Clean → ⊥
not_clean Clean h = cc
not_clean Dirty h = cc
not_clean (Writing u) h = cc
not_clean (Changed u) h = cc

-- a clean slot is given up
pub agrees_given_up : (size : ℕ) (held : ℕ → Option Slot) (w : DiskState) (b : ℕ) (s : Slot)
    → held b ≡ Some s → s.state ≡ Clean → CacheAgrees size held w → CacheAgrees size (put held b None) w
agrees_given_up size held w b s is st k = agrees_put size held w b None (λ u h e o lt. cc) (λ e o lt. (k.clean b s is st o lt).sure) k

-- and its block reads as before
pub view_given_up : (size : ℕ) (held : ℕ → Option Slot) (w : DiskState) (b : ℕ) (s : Slot)
    → held b ≡ Some s → s.state ≡ Clean → CacheAgrees size held w → view size (put held b None) w ≡ view size held w
view_given_up size held w b s is st k = view_put size held w b None (λ o lt.
    let here = (k.clean b s is st o lt).byte_is in
    rw is (sym here))

-- the writes of a run are begun: slots and the disk go on agreeing
pub agrees_begun : (size : ℕ) (held held' : ℕ → Option Slot) (w : DiskState) (b count n : ℕ) → AreBegun b count n held held'
    → CacheAgrees size held w → CacheAgrees size held' w
agrees_begun size held held' w b count n begun k = record {
  clean = λ c u h e o lt. elim (within_or b count c) [
    | inl x ↦
        let y = begun.each x.index x.below in
        let z : Some (record y.slot { state = Writing n }) ≡ Some u = sym y.after ∙ ap held' (sym x.is) ∙ h in
        let same : record y.slot { state = Writing n } ≡ u = cc in
        absurd (let f : Writing n ≡ Clean = ap (λ (v : Slot). v.state) same ∙ e in cc)
    | inr out ↦ k.clean c u (sym (begun.others c out) ∙ h) e o lt
  ];
  covered = λ c h o lt. elim (within_or b count c) [
    | inl x ↦
        let y = begun.each x.index x.below in
        absurd (let z : None ≡ Some (record y.slot { state = Writing n }) = sym h ∙ ap held' x.is ∙ y.after in cc)
    | inr out ↦ k.covered c (sym (begun.others c out) ∙ h) o lt
  ];
}

-- and each block reads as before
pub view_begun : (size : ℕ) (held held' : ℕ → Option Slot) (w : DiskState) (b count n : ℕ) → AreBegun b count n held held'
    → view size held' w ≡ view size held w
view_begun size held held' w b count n begun = same_view size held held' w w (λ c o lt. elim (within_or b count c) [
  | inl x ↦
      let y = begun.each x.index x.below in
      let is : held c ≡ Some y.slot = ap held x.is ∙ y.is in
      let after : held' c ≡ Some (record y.slot { state = Writing n }) = ap held' x.is ∙ y.after in
      rw (is, after) refl
  | inr out ↦ rw (begun.others c out) refl
])

-- a write was settled: each block reads as before
pub view_written : (size : ℕ) (held held' : ℕ → Option Slot) (w : DiskState) (n : ℕ) → ((b : ℕ) → held' b ≡ held_after_write n (held b))
    → view size held' w ≡ view size held w
view_written size held held' w n after =
    same_view size held held' w w (λ b o lt. ap (λ (x : Option Slot). byte_or x o (w.disk (b * size + o))) (after b) ∙ by (held b) o (w.disk (b * size + o)))
  where
    bytes_of : (v : Bool) (s : Slot) (o : ℕ) → slice_index (cond v (record s { state = written s.state }) s).bytes.value o ≡ slice_index s.bytes.value o
    bytes_of true s o = refl
    bytes_of false s o = refl

    by : (x : Option Slot) (o below : ℕ) → byte_or (held_after_write n x) o below ≡ byte_or x o below
    by None o below = refl
    by (Some s) o below = bytes_of (is_under n s) s o

-- and a slot is clean then, or dirty if it was changed since the write was begun
pub agrees_written : (size : ℕ) (held held' : ℕ → Option Slot) (pending : ℕ → Option Begun) (v : DiskState) (n : ℕ) (r : Begun) (bytes : List ℕ)
    → ((b : ℕ) → held' b ≡ held_after_write n (held b)) → pending n ≡ Some r → r.written ≡ Some bytes
    → ((k : ℕ) → k < r.size → (v.disk (r.start + k) ≡ slice_index bytes k) × (v.unsure (r.start + k) ≡ false))
    → Tied size held pending → CacheAgrees size held v → CacheAgrees size held' v
agrees_written size held held' pending v n r bytes after there wr tells k agrees = record {
  clean = λ b u h e o lt. by_slot b o lt (held b) refl u (sym (after b) ∙ h) e;
  covered = λ b h o lt. agrees.covered b (none (held b) (sym (after b) ∙ h)) o lt;
}
  where
    none : (x : Option Slot) → held_after_write n x ≡ None → x ≡ None
    none None h = refl
    none (Some s) h = cc

    was_writing : (x : State) (m : ℕ) → ticket_of x ≡ Some m → written x ≡ Clean → x ≡ Writing m
    was_writing Clean m h e = cc
    was_writing Dirty m h e = cc
    was_writing (Writing y) m h e = cc
    was_writing (Changed y) m h e = cc

    now_clean : (b o : ℕ) (s : Slot) → o < size → held b ≡ Some s → s.state ≡ Writing n → HasSure v (b * size + o) (slice_index s.bytes.value o)
    now_clean b o s lt is writing =
        let x = k.writes n r bytes there wr in
        let y = k.issued b n s is (ap ticket_of writing) in
        let one : y.request ≡ r = same_begun (pending n) y.request r y.is there in
        let from : r.start ≤ b * size = subst (λ (q : Begun). q.start ≤ b * size) one y.from in
        let to : b * size + size ≤ r.start + r.size = subst (λ (q : Begun). b * size + size ≤ q.start + q.size) one y.to in
        let start = x.start in
        let whole = x.whole in
        let at : Within x.block x.count b = in_run b x.block x.count o size lt (omega (arith, start, from)) (omega (arith, start, whole, to, lt)) in
        let z = x.each at.index at.below in
        let same : z.slot ≡ s = same_slot (held b) z.slot s (ap held at.is ∙ z.holds) is in
        let fits = fits_past at.index x.count size at.below in
        let told = tells (at.index * size + o) (omega (arith, whole, fits, lt)) in
        let past : b * size ≡ x.block * size + at.index * size = ap (λ q. q * size) at.is ∙ place_past x.block at.index size in
        let place : r.start + (at.index * size + o) ≡ b * size + o = omega (arith, start, past) in
        elim z.way.state [
          | inl e ↦ absurd (let f : Writing n ≡ Changed n = sym writing ∙ ap (λ (q : Slot). q.state) (sym same) ∙ e in cc)
          | inr p ↦ record {
            byte_is = ap (λ (q : Slot). slice_index q.bytes.value o) (sym same) ∙ p.1 o lt ∙ sym told.0 ∙ ap v.disk place;
            sure = ap v.unsure (sym place) ∙ told.1;
          }
        ]

    by_state : (b o : ℕ) (s : Slot) (under : Bool) → o < size → held b ≡ Some s → is_under n s ≡ under
        → (cond under (record s { state = written s.state }) s).state ≡ Clean
        → HasSure v (b * size + o) (slice_index (cond under (record s { state = written s.state }) s).bytes.value o)
    by_state b o s true lt is e clean = now_clean b o s lt is (was_writing s.state n (block_is (ticket_of s.state) n e) clean)
    by_state b o s false lt is e clean = agrees.clean b s is clean o lt

    by_slot : (b o : ℕ) → o < size → (x : Option Slot) → held b ≡ x → (u : Slot) → held_after_write n (held b) ≡ Some u → u.state ≡ Clean
        → HasSure v (b * size + o) (slice_index u.bytes.value o)
    by_slot b o lt None is u h e = let z : None ≡ Some u = ap (held_after_write n) (sym is) ∙ h in absurd (let y : ⊥ = cc in y)
    by_slot b o lt (Some s) is u h e =
        let z : Some (after_write n s) ≡ Some u = ap (held_after_write n) (sym is) ∙ h in
        let same : after_write n s ≡ u = cc in
        subst (λ (q : Slot). HasSure v (b * size + o) (slice_index q.bytes.value o)) same
        (by_state b o s (is_under n s) lt is refl (ap (λ (q : Slot). q.state) same ∙ e))
