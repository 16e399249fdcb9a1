-- Entries of a slab in the order of a list of keys: what an insert and a removal do to that list.
use Rattle.std.proofs.Common.{◌≡◌, ◌≢◌, ℕ, suc, zero, ◌+◌, ◌<◌, List, [], ◌∷◌, ◌++◌, length, get_or, refl, sym, ◌∙◌, ap, subst, arith, Option, Some, None}
use Rattle.std.specs.Prelude.{remove}
use Rattle.std.specs.Global.{Box}
use Rattle.slab.specs.Slab.{Slab, get, Updates}
use Rattle.reissue.specs.declared.pending.Pending.{Pending}
use Rattle.reissue.specs.Queue.{with_entry, entries_at, IsOtherKey, HoldsKeys}

-- an entry that is there stands first
entries_cons : (slab : Slab (Box Pending)) (key : ℕ) (keys : List ℕ) (p : Box Pending) → get slab key ≡ Some p
    → entries_at slab (key ∷ keys) ≡ p.value ∷ entries_at slab keys
entries_cons slab key keys p e = ap (λ (o : Option (Box Pending)). with_entry o (entries_at slab keys)) e

-- there are as many entries as keys
pub length_entries : (slab : Slab (Box Pending)) (keys : List ℕ) → HoldsKeys slab keys → length (entries_at slab keys) ≡ length keys
length_entries slab [] h = refl
length_entries slab (key ∷ keys) h =
    ap (λ (l : List Pending). length l) (entries_cons slab key keys h.0.0 h.0.1) ∙ ap suc (length_entries slab keys h.2)

-- the entry at a place is that of the key there
pub entry_at : (slab : Slab (Box Pending)) (keys : List ℕ) (at key : ℕ) (p : Box Pending) → HoldsKeys slab keys → at < length keys
    → key ≡ get_or keys at key → get slab key ≡ Some p → p.value ≡ get_or (entries_at slab keys) at p.value
entry_at slab [] at key p h lt is e = absurd (omega arith)
entry_at slab (k ∷ keys) zero key p h lt is e =
    ap (λ (l : List Pending). get_or l zero p.value) (sym (entries_cons slab k keys p (ap (get slab) (sym is) ∙ e)))
entry_at slab (k ∷ keys) (suc at) key p h lt is e =
    entry_at slab keys at key p h.2 (omega arith) is e
    ∙ ap (λ (l : List Pending). get_or l (suc at) p.value) (sym (entries_cons slab k keys h.0.0 h.0.1))

-- a key without an entry is none of those that have one
pub is_other : (slab : Slab (Box Pending)) (key : ℕ) (keys : List ℕ) → get slab key ≡ None → HoldsKeys slab keys → IsOtherKey key keys
is_other slab key [] e h = tt
is_other slab key (k ∷ keys) e h = (λ same. none_some (sym e ∙ ap (get slab) (sym same) ∙ h.0.1), is_other slab key keys e h.2) where
  none_some : {p : Box Pending} → None ≡ Some p → ⊥
  none_some x = cc

-- a change at another key leaves these entries
pub entries_same : (old new : Slab (Box Pending)) (key : ℕ) (slot : Option (Box Pending)) (keys : List ℕ) → Updates old new key slot
    → IsOtherKey key keys → entries_at new keys ≡ entries_at old keys
entries_same old new key slot [] u o = refl
entries_same old new key slot (k ∷ keys) u o =
    ap (λ (x : Option (Box Pending)). with_entry x (entries_at new keys)) (u.others k o.0)
    ∙ ap (λ (l : List Pending). with_entry (get old k) l) (entries_same old new key slot keys u o.1)

-- and these keys keep theirs
pub holds_same : (old new : Slab (Box Pending)) (key : ℕ) (slot : Option (Box Pending)) (keys : List ℕ) → Updates old new key slot
    → IsOtherKey key keys → HoldsKeys old keys → HoldsKeys new keys
holds_same old new key slot [] u o h = tt
holds_same old new key slot (k ∷ keys) u o h =
    ((h.0.0, u.others k o.0 ∙ h.0.1), h.1, holds_same old new key slot keys u o.1 h.2)

-- a new entry under a new key goes to the end
pub entries_push : (old new : Slab (Box Pending)) (key : ℕ) (p : Box Pending) (keys : List ℕ) → get old key ≡ None → HoldsKeys old keys
    → Updates old new key (Some p) → entries_at new (keys ++ key ∷ []) ≡ entries_at old keys ++ p.value ∷ []
entries_push old new key p keys e h u = go keys h where
  go : (keys : List ℕ) → HoldsKeys old keys → entries_at new (keys ++ key ∷ []) ≡ entries_at old keys ++ p.value ∷ []
  go [] h = entries_cons new key [] p u.changed
  go (k ∷ keys) h =
      let o = is_other old key (k ∷ keys) e h in
      entries_cons new k (keys ++ key ∷ []) h.0.0 (u.others k o.0 ∙ h.0.1)
      ∙ ap (λ (l : List Pending). h.0.0.value ∷ l) (go keys h.2)
      ∙ ap (λ (l : List Pending). l ++ p.value ∷ []) (sym (entries_cons old k keys h.0.0 h.0.1))

-- and the keys are still apart, each with its entry
pub holds_push : (old new : Slab (Box Pending)) (key : ℕ) (p : Box Pending) (keys : List ℕ) → get old key ≡ None → HoldsKeys old keys
    → Updates old new key (Some p) → HoldsKeys new (keys ++ key ∷ [])
holds_push old new key p [] e h u = ((p, u.changed), tt, tt)
holds_push old new key p (k ∷ keys) e h u =
    let o = is_other old key (k ∷ keys) e h in
    ((h.0.0, u.others k o.0 ∙ h.0.1), other_push keys h.1 o.0, holds_push old new key p keys e h.2 u) where
      other_push : (keys : List ℕ) → IsOtherKey k keys → k ≢ key → IsOtherKey k (keys ++ key ∷ [])
      other_push [] x n = ((λ same. n (sym same)), tt)
      other_push (l ∷ keys) x n = (x.0, other_push keys x.1 n)

-- the others without one of them
other_remove : (key : ℕ) (keys : List ℕ) (at : ℕ) → IsOtherKey key keys → IsOtherKey key (remove keys at)
other_remove key [] zero o = tt
other_remove key [] (suc at) o = tt
other_remove key (k ∷ keys) zero o = o.1
other_remove key (k ∷ keys) (suc at) o = (o.0, other_remove key keys at o.1)

-- one of the others, by its place
other_at : (key : ℕ) (keys : List ℕ) (at d : ℕ) → IsOtherKey key keys → at < length keys → get_or keys at d ≢ key
other_at key [] at d o lt = absurd (omega arith)
other_at key (k ∷ keys) zero d o lt = o.0
other_at key (k ∷ keys) (suc at) d o lt = other_at key keys at d o.1 (omega arith)

-- a key that is taken out is none of the rest
pub other_removed : (slab : Slab (Box Pending)) (keys : List ℕ) (at key : ℕ) → HoldsKeys slab keys → at < length keys
    → key ≡ get_or keys at key → IsOtherKey key (remove keys at)
other_removed slab [] at key h lt is = absurd (omega arith)
other_removed slab (k ∷ keys) zero key h lt is = subst (λ (x : ℕ). IsOtherKey x keys) (sym is) h.1
other_removed slab (k ∷ keys) (suc at) key h lt is =
    ((λ same. other_at k keys at key h.1 (omega arith) (sym is ∙ sym same)), other_removed slab keys at key h.2 (omega arith) is)

-- the rest of the keys keep their entries
holds_rest : (slab : Slab (Box Pending)) (keys : List ℕ) (at : ℕ) → HoldsKeys slab keys → HoldsKeys slab (remove keys at)
holds_rest slab [] zero h = tt
holds_rest slab [] (suc at) h = tt
holds_rest slab (k ∷ keys) zero h = h.2
holds_rest slab (k ∷ keys) (suc at) h = (h.0, other_remove k keys at h.1, holds_rest slab keys at h.2)

-- and so do their entries stand without the one taken out
entries_rest : (slab : Slab (Box Pending)) (keys : List ℕ) (at : ℕ) → HoldsKeys slab keys
    → entries_at slab (remove keys at) ≡ remove (entries_at slab keys) at
entries_rest slab [] zero h = refl
entries_rest slab [] (suc at) h = refl
entries_rest slab (k ∷ keys) zero h = ap (λ (l : List Pending). remove l zero) (sym (entries_cons slab k keys h.0.0 h.0.1))
entries_rest slab (k ∷ keys) (suc at) h =
    entries_cons slab k (remove keys at) h.0.0 h.0.1
    ∙ ap (λ (l : List Pending). h.0.0.value ∷ l) (entries_rest slab keys at h.2)
    ∙ ap (λ (l : List Pending). remove l (suc at)) (sym (entries_cons slab k keys h.0.0 h.0.1))

-- an entry is taken out with its key
pub entries_remove : (old new : Slab (Box Pending)) (keys : List ℕ) (at key : ℕ) → HoldsKeys old keys → at < length keys
    → key ≡ get_or keys at key → Updates old new key None
    → entries_at new (remove keys at) ≡ remove (entries_at old keys) at
entries_remove old new keys at key h lt is u =
    entries_same old new key None (remove keys at) u (other_removed old keys at key h lt is) ∙ entries_rest old keys at h

-- and the other keys keep theirs
pub holds_remove : (old new : Slab (Box Pending)) (keys : List ℕ) (at key : ℕ) → HoldsKeys old keys → at < length keys
    → key ≡ get_or keys at key → Updates old new key None → HoldsKeys new (remove keys at)
holds_remove old new keys at key h lt is u =
    holds_same old new key None (remove keys at) u (other_removed old keys at key h lt is) (holds_rest old keys at h)

-- what is known of the number of entries is known of the keys
pub keys_below : (slab : Slab (Box Pending)) (keys : List ℕ) (items : List Pending) (n : ℕ) → HoldsKeys slab keys
    → entries_at slab keys ≡ items → length items < n → length keys < n
keys_below slab keys items n h e lt =
    let l = length_entries slab keys h in
    let m : length (entries_at slab keys) ≡ length items = ap (λ (x : List Pending). length x) e in
    omega (arith, l, m, lt)

-- a place among the entries is one among the keys
pub place_below : (slab : Slab (Box Pending)) (keys : List ℕ) (items : List Pending) (at : ℕ) → HoldsKeys slab keys
    → entries_at slab keys ≡ items → at < length items → at < length keys
place_below slab keys items at h e lt =
    let l = length_entries slab keys h in
    let m : length (entries_at slab keys) ≡ length items = ap (λ (x : List Pending). length x) e in
    omega (arith, l, m, lt)

-- each key has an entry
pub held_at : (slab : Slab (Box Pending)) (keys : List ℕ) (at key : ℕ) → HoldsKeys slab keys → at < length keys
    → key ≡ get_or keys at key → (p : Box Pending) × (get slab key ≡ Some p)
held_at slab [] at key h lt is = absurd (omega arith)
held_at slab (k ∷ keys) zero key h lt is = (h.0.0, ap (get slab) is ∙ h.0.1)
held_at slab (k ∷ keys) (suc at) key h lt is = held_at slab keys at key h.2 (omega arith) is

-- one key less
pub length_rest : (keys : List ℕ) (at : ℕ) → at < length keys → length (remove keys at) + 1 ≡ length keys
length_rest [] at lt = absurd (omega arith)
length_rest (k ∷ keys) zero lt = omega arith
length_rest (k ∷ keys) (suc at) lt =
    let rest : length (remove keys at) + 1 ≡ length keys = length_rest keys at (omega arith) in
    let more : length (remove (k ∷ keys) (suc at)) ≡ suc (length (remove keys at)) = refl in
    omega (arith, rest, more)
