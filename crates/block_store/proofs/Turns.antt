-- Calls on blocks, one after the other.
use Rattle.std.proofs.Common.{◌≡◌, ℕ, sym, ap, subst, ◌∙◌, List, Some}
use Rattle.std.specs.Prelude.{Result, Ok, Err, OnOk, IfOk, IfErr, IsErr, slice_index}
use Rattle.volume.specs.Reading.{Disk}
use Rattle.layout.specs.declared.Geometry.{Geometry}
use Rattle.volume.specs.Pieces.{Pieces}
use Rattle.block_store.specs.declared.Cut.{Cut}
use Rattle.block_store.specs.declared.Halt.{Halt}
use Rattle.block_store.specs.declared.Halt.TheVariants as halt
use Rattle.block_store.specs.World.{World, IsWorld, Turns, Reads}
use Rattle.block_store.specs.Volume.{IsOn, Alters}
use Rattle.block_store.specs.Halts.{cut_off, IsHalt, Ends}

-- nothing happened
pub turns_none : {B : Type 0} (w : World B) → IsWorld w → (a : B) → w.ready a → Turns w a a (λ d e. e ≡ d)
turns_none w k a r = record { leads = k.begin a r; related = λ d e s. k.still a d e s }

-- another relation that follows
pub turns_as : {B : Type 0} (w : World B) (a b : B) (R S : Disk → Disk → Type 0)
    → ((d e : Disk) → R d e → S d e) → Turns w a b R → Turns w a b S
turns_as w a b R S h x = record { leads = x.leads; related = λ d e s. h d e (x.related d e s) }

-- one call after the other
pub turns_then : {B : Type 0} (w : World B) → IsWorld w → (a b c : B) (R S T : Disk → Disk → Type 0)
    → ((d e f : Disk) → R d e → S e f → T d f) → Turns w a b R → Turns w b c S → Turns w a c T
turns_then w k a b c R S T h x y = record {
  leads = k.chain a b c x.leads y.leads;
  related = λ d f s.
      let m = k.between a b c d f x.leads y.leads s in
      h d m.middle f (x.related d m.middle m.first) (y.related m.middle f m.then);
}

-- a call that leaves what would be read back, and then another
pub turns_after : {B : Type 0} (w : World B) → IsWorld w → (a b c : B) (T : Disk → Disk → Type 0)
    → Turns w a b (λ d e. e ≡ d) → Turns w b c T → Turns w a c T
turns_after w k a b c T x y = turns_then w k a b c (λ d e. e ≡ d) T T (λ d e f p q. subst_disk T d e f p q) x y
  where
    subst_disk : (T : Disk → Disk → Type 0) (d e f : Disk) → e ≡ d → T e f → T d f
    subst_disk T d e f p q = rw (sym p) q

-- blocks stay a volume's
pub on_after : {B : Type 0} (w : World B) → IsWorld w → (g : Geometry) (a b : B) (R : Disk → Disk → Type 0)
    → IsOn w g a → Turns w a b R → IsOn w g b
on_after w k g a b R on x = record {
  ready = k.ready a b x.leads;
  size = k.size a b x.leads ∙ on.size;
  geometry = on.geometry;
  inside = λ block low high. k.writable a b x.leads block (on.inside block low high);
}

-- the bytes of a frame are what would be read back
pub turns_seen : {B : Type 0} (w : World B) → IsWorld w → (a b : B) (block : ℕ) (bytes : List ℕ)
    → w.frames b block ≡ Some bytes → Turns w a b (λ d e. e ≡ d) → Turns w a b (λ d e. (e ≡ d) × (d block ≡ slice_index bytes))
turns_seen w k a b block bytes h x = record {
  leads = x.leads;
  related = λ d e s.
      let same = x.related d e s in
      (same, ap (λ (y : Disk). y block) (sym same) ∙ (k.shown a b d e s).1 block bytes h);
}

-- what follows of a result that is good
pub on_ok : {X E : Type 0} (r : Result X E) (P Q : Type 0) → (P → Q) → OnOk r P → OnOk r Q
on_ok (Ok x) P Q h p = h p
on_ok (Err e) P Q h p = tt

-- a call that only looks, of which this is said
pub reads_by : {B : Type 0} (w : World B) (a b : B) (P : Disk → Type 0) → w.looks a b → Turns w a b (λ d e. (e ≡ d) × P d) → Reads w a b P
reads_by w a b P looks turns = record { turns = turns; looks = looks }

-- two reads
pub reads_then : {B : Type 0} (w : World B) → IsWorld w → (a b c : B) (P Q R : Disk → Type 0) → ((d : Disk) → P d → Q d → R d)
    → Reads w a b P → Reads w b c Q → Reads w a c R
reads_then w k a b c P Q R h x y = record {
  turns = turns_then w k a b c (λ d e. (e ≡ d) × P d) (λ d e. (e ≡ d) × Q d) (λ d e. (e ≡ d) × R d)
      (λ d e f p q. (q.0 ∙ p.0, h d p.1 (subst (λ (z : Disk). Q z) p.0 q.1))) x.turns y.turns;
  looks = k.look_on a b c x.looks y.looks;
}

-- nothing is read
pub reads_none : {B : Type 0} (w : World B) → IsWorld w → (a : B) (P : Disk → Type 0) → w.ready a → ((d : Disk) → P d) → Reads w a a P
reads_none w k a P r h = record {
  turns = turns_as w a a (λ d e. e ≡ d) (λ d e. (e ≡ d) × P d) (λ d e same. (same, h d)) (turns_none w k a r);
  looks = k.look a;
}

-- another fact that follows
pub reads_as : {B : Type 0} (w : World B) (a b : B) (P Q : Disk → Type 0) → ((d : Disk) → P d → Q d) → Reads w a b P → Reads w a b Q
reads_as w a b P Q h x = record {
  turns = turns_as w a b (λ d e. (e ≡ d) × P d) (λ d e. (e ≡ d) × Q d) (λ d e p. (p.0, h d p.1)) x.turns;
  looks = x.looks;
}

-- what follows of a result that is good, and of what it gave
pub if_ok : {X E : Type 0} (r : Result X E) (P Q : X → Type 0) → ((x : X) → P x → Q x) → IfOk r P → IfOk r Q
if_ok (Ok x) P Q h p = h x p
if_ok (Err e) P Q h p = tt

-- nothing is said of what a call that was cut gave
pub if_cut : {X E : Type 0} (r : Result X E) (P : X → Type 0) → IsErr r → IfOk r P
if_cut (Ok x) P h = cc
if_cut (Err e) P h = tt

-- pieces altered twice
pub alters_then : (g : Geometry) (u v : Pieces) (d e f : Disk) → Alters g u d e → Alters g v e f → Alters g v d f
alters_then g u v d e f x y = record { pieces = y.pieces; head = λ b h. y.head b h ∙ x.head b h }

-- what follows of how a call ended: of what it gave, and of what speaks against it
pub ends_as : {X : Type 0} (r : Result X Halt) (P Q : X → Type 0) (S T : Type 0) → ((x : X) → P x → Q x) → (T → S) → Ends r P S → Ends r Q T
ends_as (Ok x) P Q S T h k p = h x p
ends_as (Err (halt.Cut c)) P Q S T h k p = tt
ends_as (Err halt.Unsound) P Q S T h k p = λ t. p (k t)

-- a call that ended well
pub ends_ok : {X : Type 0} (r : Result X Halt) (x : X) (P : X → Type 0) (S : Type 0) → r ≡ Ok x → P x → Ends r P S
ends_ok r x P S is p = subst (λ y. Ends y P S) (sym is) p

-- nothing is said of a call that was cut
pub ends_cut : {X : Type 0} (r : Result X Halt) (c : Cut) (P : X → Type 0) (S : Type 0) → r ≡ Err (cut_off c) → Ends r P S
ends_cut r c P S is = subst (λ y. Ends y P S) (sym is) tt

-- nor where a call on blocks was cut
pub ends_if_cut : {X : Type 0} (r : Result X Halt) (P : X → Type 0) (S : Type 0) → ((c : Cut) × (r ≡ Err (cut_off c))) → Ends r P S
ends_if_cut r P S h = ends_cut r h.0 P S h.1

-- a call ends as the one ended that it made
pub ends_passed : {X Y : Type 0} (r : Result X Halt) (s : Result Y Halt) (h : Halt) (P : X → Type 0) (Q : Y → Type 0) (S T : Type 0)
    → r ≡ Err h → s ≡ Err h → (T → S) → Ends r P S → Ends s Q T
ends_passed r s (halt.Cut c) P Q S T was is k p = ends_cut s c Q T is
ends_passed r s halt.Unsound P Q S T was is k p = subst (λ y. Ends y Q T) (sym is) (λ t. subst (λ y. Ends y P S) was p (k t))

-- why a call was cut is why the one was that made it
pub halt_cut : {B X : Type 0} (w : World B) (b : B) (r : Result X Halt) (c : Cut) → r ≡ Err (cut_off c) → w.over b c → IfErr r (λ h. IsHalt w b h)
halt_cut w b r c is why = subst (λ y. IfErr y (λ h. IsHalt w b h)) (sym is) why
