-- What posts leave of what an answer told.
use Rattle.std.proofs.Common.{◌≡◌, ℕ, ◌+◌, ◌<◌, List, [], ◌∷◌, Bool, true, false, refl, sym, ◌∙◌, subst, inl, inr, Option, Some, None, arith, length}
use Rattle.reissue.specs.Settlements.{Settlement}
use Rattle.reissue.specs.Settlements as settled
use Rattle.reissue.proofs.Maps.{put_cases}
use Rattle.reissue.specs.declared.pending.Pending.{Pending}
use Rattle.reissue.proofs.Writes.{spares_then}
use Rattle.reissue.proofs.Tickets.{pending_here}
use Rattle.std.specs.List.{list_any}
use Rattle.lemmas.proofs.Bools.{or_false_right}
use Rattle.records.specs.Disk.{Contents, HasTrueReplies, disk_after, unsure, bytes_read, is_read}
use Rattle.records.specs.Marks.{Mark}
use Rattle.records.specs.Told.{Complained, Posted, Received, Told, grown}
use Rattle.reissue.specs.Closing.{Closing, LeavesQuiet, ReadsOn}
use Rattle.reissue.specs.Entries.{AllAsk, IsLeft, begun_of, pending_of}
use Rattle.reissue.specs.Moves.{Begun, Closes, Joins, IsBusy, IsQuiet, Spares, Tells, put, state_after}
use Rattle.reissue.specs.Posts.{OnlyPosts}

-- a place stays quiet when a request is settled
quiet_put : (f : ℕ → Option Begun) (t p : ℕ) → IsQuiet f p → IsQuiet (put f t None) p
quiet_put f t p h = record {
  none = λ m r bytes is w touch. elim (put_cases f t None m) [
    | inl e ↦ absurd (none_some (sym e.1 ∙ is))
    | inr e ↦ h.none m r bytes (sym e.1 ∙ is) w touch
  ];
} where
  none_some : {r : Begun} → None ≡ Some r → ⊥
  none_some h = cc

-- and on each message
quiet_closed : (res : Settlement) (f g : ℕ → Option Begun) → Closes res f g → (p : ℕ) → IsQuiet f p → IsQuiet g p
quiet_closed (settled.Read t b) f g c p h = subst (λ (x : ℕ → Option Begun). IsQuiet x p) (sym c.3) (quiet_put f t p h)
quiet_closed (settled.Written t) f g c p h = subst (λ (x : ℕ → Option Begun). IsQuiet x p) (sym c.4) (quiet_put f t p h)
quiet_closed settled.Nothing f g c p h = subst (λ (x : ℕ → Option Begun). IsQuiet x p) (sym c) h
quiet_closed settled.Flush f g c p h = subst (λ (x : ℕ → Option Begun). IsQuiet x p) (sym c) h
quiet_closed settled.GaveUp f g c p h = subst (λ (x : ℕ → Option Begun). IsQuiet x p) (sym c) h
quiet_closed settled.End f g c p h = subst (λ (x : ℕ → Option Begun). IsQuiet x p) (sym c) h

-- posts leave the disk
disk_posted : (es : List Told) (image : Contents) (marks : List Mark) (p : ℕ) → OnlyPosts es → disk_after image (grown es marks) p ≡ disk_after image marks p
disk_posted [] image marks p o = refl
disk_posted (Posted to r true ∷ es) image marks p o = disk_posted es image marks p o
disk_posted (Posted to r false ∷ es) image marks p o = disk_posted es image marks p o
disk_posted (Complained e ∷ es) image marks p o = absurd o
disk_posted (Received m ∷ es) image marks p o = absurd o

-- what is sure after posts was sure before
sure_posted : (es : List Told) (marks : List Mark) (p : ℕ) → OnlyPosts es → unsure (grown es marks) p ≡ false → unsure marks p ≡ false
sure_posted [] marks p o h = h
sure_posted (Posted to r true ∷ es) marks p o h = sure_posted es marks p o (or_false_right _ (unsure (grown es marks) p) h)
sure_posted (Posted to r false ∷ es) marks p o h = sure_posted es marks p o h
sure_posted (Complained e ∷ es) marks p o h = absurd o
sure_posted (Received m ∷ es) marks p o h = absurd o

-- what a settled request tells still holds after posts
tells_posted : (res : Settlement) (f g : ℕ → Option Begun) (es : List Told) (image : Contents) (marks : List Mark) → OnlyPosts es
    → LeavesQuiet res f g → Spares g (state_after image marks) (state_after image (grown es marks))
    → Tells res f (state_after image marks) → Tells res f (state_after image (grown es marks))
tells_posted (settled.Read t b) f g es image marks o l s h = λ r is k lt sure.
    h r is k lt (sure_posted es marks (r.start + k) o sure) ∙ sym (disk_posted es image marks (r.start + k) o)
tells_posted (settled.Written t) f g es image marks o l s h = λ r bytes is w k lt.
    let x = h r bytes is w k lt in
    let q = l r is (r.start + k) (record { from = omega arith; to = omega (arith, lt) }) in
    (s.disk (r.start + k) q ∙ x.0, s.sure (r.start + k) q x.1)
tells_posted settled.Nothing f g es image marks o l s h = tt
tells_posted settled.Flush f g es image marks o l s h = tt
tells_posted settled.GaveUp f g es image marks o l s h = tt
tells_posted settled.End f g es image marks o l s h = tt

-- posts leave what was read
bytes_read_posted : (es : List Told) (marks : List Mark) (p : ℕ) → OnlyPosts es → bytes_read (grown es marks) p ≡ bytes_read marks p
bytes_read_posted [] marks p o = refl
bytes_read_posted (Posted to r true ∷ es) marks p o = bytes_read_posted es marks p o
bytes_read_posted (Posted to r false ∷ es) marks p o = bytes_read_posted es marks p o
bytes_read_posted (Complained e ∷ es) marks p o = absurd o
bytes_read_posted (Received m ∷ es) marks p o = absurd o

-- and what places were
is_read_posted : (es : List Told) (marks : List Mark) (p : ℕ) → OnlyPosts es → is_read (grown es marks) p ≡ is_read marks p
is_read_posted [] marks p o = refl
is_read_posted (Posted to r true ∷ es) marks p o = is_read_posted es marks p o
is_read_posted (Posted to r false ∷ es) marks p o = is_read_posted es marks p o
is_read_posted (Complained e ∷ es) marks p o = absurd o
is_read_posted (Received m ∷ es) marks p o = absurd o

-- and so what a settled read has
joins_posted : (res : Settlement) (f : ℕ → Option Begun) (es : List Told) (marks : List Mark) → OnlyPosts es
    → Joins res f marks → Joins res f (grown es marks)
joins_posted (settled.Read t b) f es marks o h = λ r is k lt.
    let was = h r is k lt in
    (was.0 ∙ sym (bytes_read_posted es marks (r.start + k) o), is_read_posted es marks (r.start + k) o ∙ was.1)
joins_posted (settled.Written t) f es marks o h = tt
joins_posted settled.Nothing f es marks o h = tt
joins_posted settled.Flush f es marks o h = tt
joins_posted settled.GaveUp f es marks o h = tt
joins_posted settled.End f es marks o h = tt

-- what a message did to what was read
reads_posted : (ps ts us : List Pending) (marks mid : List Mark) (es : List Told) → OnlyPosts es → us ≡ ts
    → ReadsOn ps ts marks mid → ReadsOn ps us marks (grown es mid)
reads_posted ps ts us marks mid es o same h = record {
  others = λ place none. let k = h.others place none in
      (bytes_read_posted es mid place o ∙ k.0, is_read_posted es mid place o ∙ k.1);
  left = λ place l. let k = h.left place (subst (λ (x : List Pending). IsLeft x place) same l) in (k.0, is_read_posted es mid place o ∙ k.1);
  ask = λ a. subst (λ (x : List Pending). AllAsk x) (sym same) (h.ask a);
}

-- what a message did, and then posts
pub closing_posted : (res : Settlement) (ps ts us : List Pending) (marks mid : List Mark) (es : List Told)
    → OnlyPosts es → us ≡ ts → Closes res (pending_of ps) (pending_of ts)
    → ((image : Contents) → HasTrueReplies image (grown es mid) → HasTrueReplies image mid)
    → ((image : Contents) → Spares (pending_of ts) (state_after image mid) (state_after image (grown es mid)))
    → Closing res ps ts marks mid → Closing res ps us marks (grown es mid)
closing_posted res ps ts us marks mid es o same c before s h = record {
  moves = λ image tr.
      let m = h.moves image (before image tr) in
      record {
        spares = spares_then (pending_of ps) (state_after image marks) (state_after image mid) (state_after image (grown es mid)) m.spares
            (record {
              disk = λ p q. (s image).disk p (quiet_closed res (pending_of ps) (pending_of ts) c p q);
              sure = λ p q u. (s image).sure p (quiet_closed res (pending_of ps) (pending_of ts) c p q) u;
            });
        tells = tells_posted res (pending_of ps) (pending_of ts) es image mid o h.leaves (s image) m.tells;
      };
  joins = joins_posted res (pending_of ps) es mid o h.joins;
  leaves = subst (λ (l : List Pending). LeavesQuiet res (pending_of ps) (pending_of l)) (sym same) h.leaves;
  reads = reads_posted ps ts us marks mid es o same h.reads;
}

-- where there is an entry, something is pending
pub busy : (ps : List Pending) → 0 < length ps → IsBusy (pending_of ps)
busy [] lt = absurd (omega arith)
busy (p ∷ ps) lt = record { ticket = p.ticket; request = begun_of p; is = pending_here p ps p.ticket refl }

-- where one passes a test, something is pending
pub busy_any : (test : Pending → Bool) (ps : List Pending) → list_any test ps ≡ true → IsBusy (pending_of ps)
busy_any test [] e = cc
busy_any test (p ∷ ps) e = busy (p ∷ ps) (omega arith)
