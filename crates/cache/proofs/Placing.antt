-- A block comes into a slot or out of one, or has other bytes there.
use Rattle.std.proofs.Common.{◌≡◌, ℕ, ◌+◌, ◌-◌, ◌*◌, ◌<◌, ◌≤◌, List, [], length, set, refl, sym, ap, subst, ◌∙◌, arith, Bool, true, false, cond, Option, Some, None, Result, Ok, Err, IsErr}
use mathlib.Core.Logic.{inl, inr, ◌⊎◌}
use Rattle.std.specs.Prelude.{◌&&◌, is_some, not, slice_index, slice_get, nat_le, nat_lt}
use Rattle.std.proofs.lemmas.Bool.{cases_lt, cond-true, cond-false}
use Rattle.std.proofs.lemmas.Bool.Decides.{nat_tests}
use Rattle.records.specs.View.{frame_or}
use Rattle.reissue.specs.Moves.{DiskState, Begun, put}
use Rattle.reissue.specs.Entries.{pending_of}
use Rattle.reissue.proofs.Maps.{is_put}
use Rattle.cache.specs.declared.slot.Slot.{Slot}
use Rattle.cache.specs.declared.state.State.{State}
use Rattle.cache.specs.declared.state.State.TheVariants.{Clean, Dirty, Writing, Changed}
use Rattle.block_store.specs.declared.Cut.{Cut}
use Rattle.cache.specs.Slots.{held, ticket_of, dirtied, is_clean, is_changed, is_unclean_slot, IsDistinct}
use Rattle.cache.specs.Edits.{IsSetAt, IsFilledAt, IsSlotAt, IsFreeAt, IsAt}
use Rattle.cache.specs.Frames.{Tied, IsWritable, AllInside, CacheAgrees, HasSure, view, frame_of, disk_block, with_bytes}
use Rattle.cache.specs.Calls.{AbstractCache, IsReady, Runs, Serves, Keeps, Rewrites, Blanks, unless_clean, forgotten}
use Rattle.cache.specs.Settling.{Taking}
use Rattle.cache.specs.Settling as took
use Rattle.cache.specs.Takes.{Reads, AreDisk, BytesOf, Takes, ReadTells, ReadsStay, is_read_of, IsReadAt}
use Rattle.cache.proofs.Held.{place_of, held_at, held_set, held_vacated}
use Rattle.cache.proofs.Filling.{vacated_held, filled_held}
use Rattle.cache.proofs.Tied.{tied_idle, tied_changed, no_ticket}
use Rattle.cache.proofs.Inside.{inside_put, inside_still, writable_still}
use Rattle.cache.proofs.Agreeing.{agrees_put, agrees_given_up, view_given_up, view_put, view_row, not_clean, seen_within, seen_past}
use Rattle.cache.proofs.Overtaking.{overtakes_put}
use Rattle.cache.proofs.Edits.{one_slot}
use Rattle.cache.proofs.Runs.{runs_none, runs_as, runs_then, same_left, ids_kept}

-- ---- calls at the link between changes of frames

-- two calls that leave what would be read back
pub serves_then : (a b c : AbstractCache) (u v w : DiskState) → Serves a b u v → Serves b c v w → Serves a c u w
serves_then a b c u v w x y = record {
  agrees = λ k. y.agrees (x.agrees k);
  same = λ k. y.same (x.agrees k) ∙ x.same k;
  none_overtaken = λ block is. x.none_overtaken block (y.none_overtaken block is);
}

-- one after the other
pub keeps_then : (a b c : AbstractCache) → Keeps a b → Keeps b c → Keeps a c
keeps_then a b c x y =
    runs_then None a b c (λ w v. Serves a b w v) (λ w v. Serves b c w v) (λ w v. Serves a c w v) (λ u v w p q. serves_then a b c u v w p q) x y

-- nothing was done
pub keeps_none : (c : AbstractCache) → IsReady c → Keeps c c
keeps_none c ready =
    runs_none c (λ w v. Serves c c w v) ready (λ w. record { agrees = λ a. a; same = λ a. refl; none_overtaken = λ block is. is })

-- after a call, a message taken
pub keeps_took : (r : Result Taking Cut) (a b c : AbstractCache) → Keeps a b → Runs None b c (λ w v. Takes r b c w v) → Keeps a c
keeps_took r a b c x y =
    runs_then None a b c (λ w v. Serves a b w v) (λ w v. Takes r b c w v) (λ w v. Serves a c w v) (λ u v w p q. serves_then a b c u v w p q.serves) x y

-- a read that was cut
pub reads_cut : (r : Result (List ℕ) Cut) (start size : ℕ) (a b : AbstractCache) → IsErr r → Keeps a b → Runs None a b (λ w v. Reads r start size a b w v)
reads_cut r start size a b cut x =
    runs_as None a b (λ w v. Serves a b w v) (λ w v. Reads r start size a b w v) (λ w v p. record { serves = p; bytes = none r cut v }) x
  where
    none : (q : Result (List ℕ) Cut) → IsErr q → (v : DiskState) → BytesOf q start size v
    none (Err e) h v = tt
    none (Ok bytes) h v = cc

-- a read leaves what would be read back
pub keeps_read : (r : Result (List ℕ) Cut) (start size : ℕ) (a b : AbstractCache) → Runs None a b (λ w v. Reads r start size a b w v) → Keeps a b
keeps_read r start size a b x = runs_as None a b (λ w v. Reads r start size a b w v) (λ w v. Serves a b w v) (λ w v p. p.serves) x

-- a read is pending still
pub still_reading : (r : Result Taking Cut) (pending pending' : ℕ → Option Begun) (ticket start size : ℕ) → ReadsStay r pending pending'
    → is_read_of r ticket ≡ false → IsReadAt pending ticket start size → IsReadAt pending' ticket start size
still_reading r pending pending' ticket start size stay other x = record {
  request = x.request;
  is = stay.stays ticket x.request x.is x.read other;
  read = x.read;
  start_is = x.start_is;
  size_is = x.size_is;
}

-- the read is settled
pub reads_done : (r : Result Taking Cut) (a b c : AbstractCache) (settled ticket start size : ℕ) (bytes : List ℕ) → r ≡ Ok (took.Read settled bytes) → settled ≡ ticket
    → IsReadAt (pending_of b.table.pending) ticket start size → Keeps a b → Runs None b c (λ w v. Takes r b c w v)
    → Runs None a c (λ w v. Reads (Ok bytes) start size a c w v)
reads_done r a b c settled ticket start size bytes e same at x y =
    runs_then None a b c (λ w v. Serves a b w v) (λ w v. Takes r b c w v) (λ w v. Reads (Ok bytes) start size a c w v)
    (λ u v w p q. record { serves = serves_then a b c u v w p q.serves; bytes = told w q.tells }) x y
  where
    told : (w : DiskState) → ReadTells r (pending_of b.table.pending) w → AreDisk start size bytes w
    told w h =
        let one : ReadTells (Ok (took.Read settled bytes)) (pending_of b.table.pending) w =
        subst (λ (k : Result Taking Cut). ReadTells k (pending_of b.table.pending) w) e h in
        let all = one at.request (ap (pending_of b.table.pending) same ∙ at.is) in
        subst (λ (n : ℕ). AreDisk n size bytes w) at.start_is (subst (λ (n : ℕ). AreDisk at.request.start n bytes w) at.size_is all)

-- a read after a call
pub reads_after : (r : Result (List ℕ) Cut) (a b c : AbstractCache) (block its : ℕ) → its ≡ block → Keeps a b
    → Runs None b c (λ w v. Reads r (its * b.size) b.size b c w v) → Runs None a c (λ w v. Reads r (block * a.size) a.size a c w v)
reads_after r a b c block its same x y =
    runs_then None a b c (λ w v. Serves a b w v) (λ w v. Reads r (its * b.size) b.size b c w v) (λ w v. Reads r (block * a.size) a.size a c w v)
    (λ u v w p q. record {
      serves = serves_then a b c u v w p q.serves;
      bytes = subst (λ (n : ℕ). BytesOf r (block * n) n w) x.size (subst (λ (n : ℕ). BytesOf r (n * b.size) b.size w) same q.bytes);
    }) x y

-- a change of the slots alone, as a call
pub runs_slots : (old new : AbstractCache) (R : DiskState → DiskState → Type 0) → new.area ≡ old.area → new.size ≡ old.size → new.table ≡ old.table
    → new.told ≡ old.told → new.truth ≡ old.truth → new.room ≡ old.room → new.budget ≡ old.budget → new.ended ≡ old.ended
    → IsReady old → Tied old.size new.held (pending_of old.table.pending) → AllInside old.area old.size new.held
    → ((w : DiskState) → R w w) → Runs None old new R
runs_slots old new R area size table told truth room budget ended ready tied inside h =
    subst (λ (c : AbstractCache). Runs None old c R) same (moved (made old new.held) refl)
  where
    made : AbstractCache → (ℕ → Option Slot) → AbstractCache
    made c h = record c { held = h }

    same : made old new.held ≡ new
    same = λ i. record {
      area = sym area i;
      size = sym size i;
      held = new.held;
      table = sym table i;
      told = sym told i;
      truth = sym truth i;
      room = sym room i;
      budget = sym budget i;
      ended = sym ended i;
    }

    moved : (c : AbstractCache) → c ≡ made old new.held → Runs None old c R
    moved c e = subst (λ (d : AbstractCache). Runs None old d R) (sym e) (record {
      ready = record { minors = ready.minors; tied = tied; inside = inside; room = ready.room; ids = ready.ids };
      told = [];
      history = refl;
      acts = [];
      done = refl;
      none_absorbed = refl;
      area = refl;
      size = refl;
      ended = λ f. f;
      left = same_left _;
      ids = ids_kept _ _ _;
      agrees = λ marks k. k;
      ends = λ f. f;
      related = λ image marks k tr. h _;
      truth = λ opening marks k f was. was;
      rules = λ marks k. record { told = refl; grows = refl; keeps = tt; owes = refl };
    })

-- what isn't clean lies in the area, where one slot was put in or taken out
put_inside : (old : AbstractCache) (slots : ℕ → Option Slot) (b : ℕ) (o : Option Slot)
    → ((s : Slot) → o ≡ Some s → is_clean s.state ≡ false → IsWritable old.area old.size b) → slots ≡ put old.held b o → IsReady old
    → AllInside old.area old.size slots
put_inside old slots b o one to ready =
    inside_still old.area old.area old.size old.size (put old.held b o) slots refl refl to
    (inside_put old.area old.size old.held b o one ready.inside)

-- ---- a slot is made free

-- a slot that isn't unclean has no block, or is clean
not_unclean : (s : Slot) → not (is_unclean_slot s) ≡ true → (s.block ≡ None) ⊎ (s.state ≡ Clean)
not_unclean s h = by s.block s.state refl refl h
  where
    by : (o : Option ℕ) (x : State) → s.block ≡ o → s.state ≡ x → not (is_some o && not (is_clean x)) ≡ true → (s.block ≡ None) ⊎ (s.state ≡ Clean)
    by None x p q h = inl p
    by (Some b) Clean p q h = inr q
    by (Some b) Dirty p q h = cc
    by (Some b) (Writing t) p q h = cc
    by (Some b) (Changed t) p q h = cc

-- a slot that isn't unclean is made free, as a call
pub vacated : (old new : AbstractCache) (items items' : List Slot) (at : ℕ) → IsDistinct items
    → IsSlotAt items at (λ s. not (is_unclean_slot s)) → IsSetAt items items' at (λ t. record t { block = None })
    → old.held ≡ held items → new ≡ record old { held = held items' } → IsReady old → Keeps old new
vacated old new items items' at d f e here all ready = subst (λ (c : AbstractCache). Keeps old c) (sym all)
    (elim (vacated_held items items' at f.slot d f.is e) [
      | inl p ↦
          let same : record old { held = held items' } ≡ old = ap (λ (h : ℕ → Option Slot). record old { held = h }) (p.1 ∙ sym here) in
          subst (λ (c : AbstractCache). Keeps old c) (sym same) (keeps_none old ready)
      | inr p ↦ elim (not_unclean f.slot f.passes) [
        | inl none ↦ absurd (never p.0 none p.1)
        | inr clean ↦ given_up p.0 f.slot (ap (λ (h : ℕ → Option Slot). h p.0) here ∙ p.1) clean (p.2 ∙ ap (λ (h : ℕ → Option Slot). put h p.0 None) (sym here))
      ]
    ])
  where
    never : (b : ℕ) → f.slot.block ≡ None → held items b ≡ Some f.slot → ⊥
    never b none h =
        let p = place_of items b f.slot h in
        let z : None ≡ Some b = sym none ∙ p.block in
        cc

    given_up : (b : ℕ) (s : Slot) → old.held b ≡ Some s → s.state ≡ Clean → held items' ≡ put old.held b None
        → Keeps old (record old { held = held items' })
    given_up b s is clean to =
        runs_slots old (record old { held = held items' }) (λ w v. Serves old (record old { held = held items' }) w v) refl refl refl refl refl refl refl refl ready
        (subst (λ (h : ℕ → Option Slot). Tied old.size h (pending_of old.table.pending)) (sym to)
        (tied_idle old.size old.held (pending_of old.table.pending) b None
        (λ n u hu tu. no_ticket u.state n (ap (λ (x : Slot). x.state) (let k : u ≡ s = cc in k) ∙ clean) tu) (λ n u hu tu. cc) ready.tied))
        (put_inside old (held items') b None (λ u none. absurd (let z : ⊥ = cc in z)) to ready)
        (λ w. record {
          agrees = λ a. subst (λ (h : ℕ → Option Slot). CacheAgrees old.size h w) (sym to) (agrees_given_up old.size old.held w b s is clean a);
          same = λ a. ap (λ (h : ℕ → Option Slot). view old.size h w) to ∙ view_given_up old.size old.held w b s is clean a;
          none_overtaken = overtakes_put old.held (held items') b None to refl;
        })

-- ---- a block comes into a free slot

-- what was read comes into it, as a call
pub placed : (old new : AbstractCache) (items items' : List Slot) (at b start size : ℕ) (bytes : List ℕ) (before : AbstractCache)
    → IsDistinct items → IsFreeAt items at → held items b ≡ None
    → (e : IsFilledAt items items' at b bytes Clean)
    → old.held ≡ held items → new ≡ record old { held = held items' } → start ≡ b * size → old.size ≡ size → IsReady old
    → Runs None before old (λ w v. Reads (Ok bytes) start size before old w v)
    → Keeps before new
placed old new items items' at b start size bytes before d free none e here all at_start whole ready x =
    runs_then None before old new (λ w v. Reads (Ok bytes) start size before old w v)
    (λ w v. AreDisk start size bytes w → Serves old new w v) (λ w v. Serves before new w v)
    (λ u v w p q. serves_then before old new u v w p.serves (q p.bytes)) x
    (subst (λ (c : AbstractCache). Runs None old c (λ w v. AreDisk start size bytes w → Serves old c w v)) (sym all)
    (runs_slots old after (λ w v. AreDisk start size bytes w → Serves old after w v) refl refl refl refl refl refl refl refl ready tied inside
    (λ w told. record {
      agrees = λ a. subst (λ (h : ℕ → Option Slot). CacheAgrees old.size h w) (sym to)
          (agrees_put old.size old.held w b (Some t) (λ u h c o lt. subst (λ (y : Slot). HasSure w (b * old.size + o) (slice_index y.bytes.value o))
          (let k : t ≡ u = cc in k) (sure w a told o lt)) (λ h o lt. cc) a);
      same = λ a. ap (λ (h : ℕ → Option Slot). view old.size h w) to
          ∙ view_put old.size old.held w b (Some t) (λ o lt. rw slot (sure w a told o lt).byte_is);
      none_overtaken = overtakes_put old.held (held items') b (Some t) to (ap is_changed e.state_is);
    })))
  where
    t : Slot
    t = e.after

    after : AbstractCache
    after = record old { held = held items' }

    slot : old.held b ≡ None
    slot = ap (λ (h : ℕ → Option Slot). h b) here ∙ none

    to : held items' ≡ put old.held b (Some t)
    to = filled_held items items' at b bytes Clean d free none e ∙ ap (λ (h : ℕ → Option Slot). put h b (Some t)) (sym here)

    tied : Tied old.size (held items') (pending_of old.table.pending)
    tied = subst (λ (h : ℕ → Option Slot). Tied old.size h (pending_of old.table.pending)) (sym to)
        (tied_idle old.size old.held (pending_of old.table.pending) b (Some t) (λ n s h k. let z = slot in cc)
        (λ n u h k. let y : t ≡ u = cc in let z : None ≡ Some n = sym (ap ticket_of e.state_is) ∙ ap (λ (x : Slot). ticket_of x.state) y ∙ k in cc) ready.tied)

    -- it is clean
    its_clean : (u : Slot) → Some t ≡ Some u → is_clean u.state ≡ true
    its_clean u same = let y : t ≡ u = cc in sym (ap (λ (x : Slot). is_clean x.state) y) ∙ ap is_clean e.state_is

    inside : AllInside old.area old.size (held items')
    inside = put_inside old (held items') b (Some t)
        (λ u same unclean. absurd (let z : true ≡ false = sym (its_clean u same) ∙ unclean in cc)) to ready

    sure : (w : DiskState) → CacheAgrees old.size old.held w → AreDisk start size bytes w → (o : ℕ) → o < old.size
        → HasSure w (b * old.size + o) (slice_index t.bytes.value o)
    sure w a told o lt =
        let u = a.covered b slot o lt in
        let place : start + o ≡ b * old.size + o = ap (λ q. q + o) (at_start ∙ ap (λ n. b * n) (sym whole)) in
        let lt' : o < size = subst (λ (n : ℕ). o < n) whole lt in
        record { byte_is = ap (λ (y : List ℕ). slice_index y o) e.bytes_are ∙ told.each o lt' (ap w.unsure place ∙ u) ∙ ap w.disk place; sure = u }

-- ---- a block has other bytes

-- the bytes of one slot are changed, as a call
pub rewritten : (old new : AbstractCache) (items items' : List Slot) (at b : ℕ) (s t : Slot) (row : (ℕ → ℕ) → ℕ → ℕ)
    → IsDistinct items → slice_get items at ≡ Some s → s.block ≡ Some b → t.block ≡ s.block → t.state ≡ dirtied s.state → items' ≡ set items at t
    → ((w : DiskState) → frame_or (frame_of old.size (Some t)) (disk_block old.size w b) ≡ row (frame_or (frame_of old.size (Some s)) (disk_block old.size w b)))
    → old.held ≡ held items → new ≡ record old { held = held items' } → IsReady old → IsWritable old.area old.size b
    → Runs None old new (λ w v. Rewrites b row old new w v)
rewritten old new items items' at b s t row d is block same st set_is h here all ready inside =
    subst (λ (c : AbstractCache). Runs None old c (λ w v. Rewrites b row old c w v)) (sym all)
    (runs_slots old after (λ w v. Rewrites b row old after w v) refl refl refl refl refl refl refl refl ready
    (subst (λ (f : ℕ → Option Slot). Tied old.size f (pending_of old.table.pending)) (sym to)
    (tied_changed old.size old.held (pending_of old.table.pending) b s t slot st ready.tied))
    (put_inside old (held items') b (Some t) (λ u some unclean. inside) to ready)
    (λ w. record {
      agrees = λ a. subst (λ (f : ℕ → Option Slot). CacheAgrees old.size f w) (sym to)
          (agrees_put old.size old.held w b (Some t) (λ u k c o lt. absurd (not_clean s.state (sym st ∙ ap (λ (x : Slot). x.state) (let y : t ≡ u = cc in y) ∙ c)))
          (λ k o lt. cc) a);
      changed = λ a. ap (λ (f : ℕ → Option Slot). view old.size f w) to
          ∙ view_row old.size old.held w b (Some t) (row (view old.size old.held w b))
          (h w ∙ ap (λ (x : Option Slot). row (frame_or (frame_of old.size x) (disk_block old.size w b))) (sym slot));
    }))
  where
    after : AbstractCache
    after = record old { held = held items' }

    slot : old.held b ≡ Some s
    slot = ap (λ (f : ℕ → Option Slot). f b) here ∙ held_at items at b s d is block

    to : held items' ≡ put old.held b (Some t)
    to = ap held set_is ∙ held_set items at b s t d is block same ∙ ap (λ (f : ℕ → Option Slot). put f b (Some t)) (sym here)

-- the row of a block whose bytes were changed
pub changed_row : (size from : ℕ) (bytes : List ℕ) (b : ℕ) (s t : Slot) (w : DiskState) → from + length bytes ≤ size
    → ((o : ℕ) → slice_index t.bytes.value o ≡ cond (nat_le from o && nat_lt o (from + length bytes)) (slice_index bytes (o - from)) (slice_index s.bytes.value o))
    → frame_or (frame_of size (Some t)) (disk_block size w b) ≡ with_bytes from bytes (frame_or (frame_of size (Some s)) (disk_block size w b))
changed_row size from bytes b s t w within h = λ i o. at o (cases_lt o size) i
  where
    and_false : (b : Bool) → (b && false) ≡ false
    and_false true = refl
    and_false false = refl

    past : (o : ℕ) → size ≤ o → with_bytes from bytes (frame_or (frame_of size (Some s)) (disk_block size w b)) o ≡ frame_or (frame_of size (Some s)) (disk_block size w b) o
    past o le =
        let no : nat_lt o (from + length bytes) ≡ false = grind (arith, nat_tests) in
        cond-false (nat_le from o && nat_lt o (from + length bytes)) (slice_index bytes (o - from)) (frame_or (frame_of size (Some s)) (disk_block size w b) o)
        (rw no (and_false (nat_le from o)))

    at : (o : ℕ) → ((o < size) ⊎ (size ≤ o))
        → frame_or (frame_of size (Some t)) (disk_block size w b) o ≡ with_bytes from bytes (frame_or (frame_of size (Some s)) (disk_block size w b)) o
    at o (inl lt) = seen_within size w b o (Some t) lt ∙ h o
        ∙ ap (λ (y : ℕ). cond (nat_le from o && nat_lt o (from + length bytes)) (slice_index bytes (o - from)) y) (sym (seen_within size w b o (Some s) lt))
    at o (inr le) = seen_past size w b o (Some t) le ∙ sym (past o le ∙ seen_past size w b o (Some s) le)

-- the row of a block of zero bytes
pub zero_row : (size b : ℕ) (t : Slot) (w : DiskState) → ((o : ℕ) → slice_index t.bytes.value o ≡ 0)
    → frame_or (frame_of size (Some t)) (disk_block size w b) ≡ (λ o. 0)
zero_row size b t w h = λ i o. at o (cases_lt o size) i
  where
    at : (o : ℕ) → ((o < size) ⊎ (size ≤ o)) → frame_or (frame_of size (Some t)) (disk_block size w b) o ≡ 0
    at o (inl lt) = seen_within size w b o (Some t) lt ∙ h o
    at o (inr le) = seen_past size w b o (Some t) le

-- ---- a block without a frame gets one of zero bytes

-- as a call, after others
pub blanked : (old new : AbstractCache) (items items' : List Slot) (at b : ℕ) (bytes : List ℕ) (before : AbstractCache)
    → IsDistinct items → IsFreeAt items at → held items b ≡ None → ((o : ℕ) → slice_index bytes o ≡ 0)
    → (e : IsFilledAt items items' at b bytes Dirty)
    → old.held ≡ held items → new ≡ record old { held = held items' } → IsReady old → IsWritable before.area before.size b → Keeps before old
    → Runs None before new (λ w v. Rewrites b (λ row o. 0) before new w v)
blanked old new items items' at b bytes before d free none zeros e here all ready inside x =
    runs_then None before old new (λ w v. Serves before old w v) (λ w v. Rewrites b (λ row o. 0) old new w v) (λ w v. Rewrites b (λ row o. 0) before new w v)
    (λ u v w p q. record {
      agrees = λ a. q.agrees (p.agrees a);
      changed = λ a. q.changed (p.agrees a) ∙ ap (λ (y : ℕ → ℕ → ℕ). put y b (λ o. 0)) (p.same a);
    }) x
    (subst (λ (c : AbstractCache). Runs None old c (λ w v. Rewrites b (λ row o. 0) old c w v)) (sym all)
    (runs_slots old after (λ w v. Rewrites b (λ row o. 0) old after w v) refl refl refl refl refl refl refl refl ready tied
    (put_inside old (held items') b (Some t)
    (λ u some unclean. writable_still before.area old.area before.size old.size b x.area x.size inside) to ready)
    (λ w. record {
      agrees = λ a. subst (λ (h : ℕ → Option Slot). CacheAgrees old.size h w) (sym to)
          (agrees_put old.size old.held w b (Some t) (λ u h c o lt.
          absurd (let y : t ≡ u = cc in let z : Dirty ≡ Clean = sym e.state_is ∙ ap (λ (k : Slot). k.state) y ∙ c in let q : ⊥ = cc in q)) (λ h o lt. cc) a);
      changed = λ a. ap (λ (h : ℕ → Option Slot). view old.size h w) to
          ∙ view_row old.size old.held w b (Some t) (λ o. 0) (zero_row old.size b t w (λ o. ap (λ (y : List ℕ). slice_index y o) e.bytes_are ∙ zeros o));
    })))
  where
    t : Slot
    t = e.after

    after : AbstractCache
    after = record old { held = held items' }

    slot : old.held b ≡ None
    slot = ap (λ (h : ℕ → Option Slot). h b) here ∙ none

    to : held items' ≡ put old.held b (Some t)
    to = filled_held items items' at b bytes Dirty d free none e ∙ ap (λ (h : ℕ → Option Slot). put h b (Some t)) (sym here)

    tied : Tied old.size (held items') (pending_of old.table.pending)
    tied = subst (λ (h : ℕ → Option Slot). Tied old.size h (pending_of old.table.pending)) (sym to)
        (tied_idle old.size old.held (pending_of old.table.pending) b (Some t) (λ n s h k. let z = slot in cc)
        (λ n u h k. let y : t ≡ u = cc in let z : None ≡ Some n = sym (ap ticket_of e.state_is) ∙ ap (λ (x : Slot). ticket_of x.state) y ∙ k in cc) ready.tied)

-- ---- a block is forgotten

-- a clean slot isn't unclean
pub clean_passes : (s : Slot) → is_clean s.state ≡ true → not (is_unclean_slot s) ≡ true
clean_passes s h = by s.block s.state h
  where
    by : (o : Option ℕ) (x : State) → is_clean x ≡ true → not (is_some o && not (is_clean x)) ≡ true
    by None x h = refl
    by (Some b) Clean h = refl
    by (Some b) Dirty h = cc
    by (Some b) (Writing t) h = cc
    by (Some b) (Changed t) h = cc

-- nothing is changed at a place that has this already
put_id : (f : ℕ → Option Slot) (n : ℕ) (x : Option Slot) → f n ≡ x → f ≡ put f n x
put_id f n x h = is_put f f n x h (λ m ne. refl)

-- which block has which slot, where a clean one is given up
pub forgotten_clean : (items items' : List Slot) (at b : ℕ) (s : Slot) → IsDistinct items → IsAt items at b → slice_get items at ≡ Some s
    → is_clean s.state ≡ true → IsSetAt items items' at (λ t. record t { block = None }) → held items' ≡ forgotten b (held items)
forgotten_clean items items' at b s d found is clean e =
    let same = one_slot items at found.slot s found.is is in
    let one = one_slot items at e.slot s e.is is in
    let block : s.block ≡ Some b = ap (λ (y : Slot). y.block) (sym same) ∙ found.block_is in
    let here : held items b ≡ Some s = held_at items at b s d is block in
    let none : unless_clean (held items b) ≡ None = ap unless_clean here ∙ cond-true (is_clean s.state) None (Some s) clean in
    ap held (e.all ∙ ap (λ (y : Slot). set items at (record y { block = None })) one) ∙ held_vacated items at b s (record s { block = None }) d is block refl
    ∙ ap (λ (x : Option Slot). put (held items) b x) (sym none)

-- where another one stays
pub forgotten_other : (items : List Slot) (at b : ℕ) (s : Slot) → IsDistinct items → IsAt items at b → slice_get items at ≡ Some s
    → is_clean s.state ≡ false → held items ≡ forgotten b (held items)
forgotten_other items at b s d found is unclean =
    let same = one_slot items at found.slot s found.is is in
    let here : held items b ≡ Some s = held_at items at b s d is (ap (λ (y : Slot). y.block) (sym same) ∙ found.block_is) in
    put_id (held items) b (unless_clean (held items b)) (here ∙ sym (ap unless_clean here ∙ cond-false (is_clean s.state) None (Some s) unclean))

-- and where there is none
pub forgotten_none : (h : ℕ → Option Slot) (b : ℕ) → h b ≡ None → h ≡ forgotten b h
forgotten_none h b none = put_id h b (unless_clean (h b)) (none ∙ sym (ap unless_clean none))

-- a frame of zero bytes that was cut
pub blanks_cut : {X : Type 0} (r : Result X Cut) (b : ℕ) (old new : AbstractCache) → IsErr r → Keeps old new → Runs None old new (λ w v. Blanks r b old new w v)
blanks_cut (Err cut) b old new h x = x
blanks_cut (Ok frame) b old new h x = cc
