-- How calls stop.
use Rattle.std.proofs.Common.{◌≡◌, refl, sym, ap, subst, ◌∙◌}
use Rattle.std.specs.Prelude.{Result, Err, IsErrAnd}
use Rattle.std.proofs.lemmas.Result.{err_from_is_err_and}
use Rattle.errno.specs.declared.Errno.{Errno}
use Rattle.layout.specs.declared.Geometry.{Geometry}
use Rattle.tree.specs.Tree.{Tree}
use Rattle.tree.specs.Answers.{Answer, Effect, refused}
use Rattle.volume.specs.Reading.{Disk}
use Rattle.volume.specs.Holds.{HoldsVolume}
use Rattle.block_store.specs.declared.Halt.{Halt}
use Rattle.block_store.specs.declared.Halt.TheVariants as halt
use Rattle.block_store.specs.Halts.{Ends}
use Rattle.block_store.specs.World.{IsWorld, Reads, World}
use Rattle.block_store.proofs.Turns.{reads_then}
use Rattle.path.specs.declared.stop.Stop.{Stop}
use Rattle.path.specs.declared.stop.Stop.TheVariants as stop
use Rattle.path.specs.Stops.{Answers, halted, refused as refused_stop}
use Rattle.calls_attributes.specs.Does.{Does, IsHeld}
use Rattle.calls_attributes.proofs.Made.{refused_made}
use Rattle.calls_names.specs.Stopping.{MeetsOrStops}

module _ {X Y : Type 0} (g : Geometry) (effect : Tree → Effect) (answer : Y → Answer) (Before After : Tree → Type 0) (d e : Disk) (same : e ≡ d)
    (keeps : (t : Tree) → Before t → After t) where
  -- a call that is left because one that it made stopped
  pub meets_exit : (s : Result Y Stop) (why : Stop) (Q : Tree → Result X Errno → Type 0) → IsErrAnd s (λ y. y ≡ why)
      → ((t : Tree) → HoldsVolume g d t → Before t → Answers (Err why) (Q t)) → ((t : Tree) (x : Errno) → HoldsVolume g d t → Q t (Err x) → effect t ≡ Err x)
      → MeetsOrStops g effect answer s Before After d e
  meets_exit s why Q left p h = let is = err_from_is_err_and s left in subst (λ y. MeetsOrStops g effect answer y Before After d e) (sym (is.1 ∙ ap (λ y. Err y) is.2)) (by why p)
    where
      by : (why : Stop) → ((t : Tree) → HoldsVolume g d t → Before t → Answers (Err why) (Q t)) → MeetsOrStops g effect answer (Err why) Before After d e
      by (stop.Refused x) p = record { each = λ t holds before. refused_made g t (effect t) x After d e (h t x holds (p t holds before)) same holds (keeps t before) }
      by (stop.Halted (halt.Cut c)) p = tt
      by (stop.Halted halt.Unsound) p = λ held. p held.tree held.holds held.before

-- a call that is left because of a refusal before it looks at the volume
pub meets_left : {X : Type 0} (g : Geometry) (effect : Tree → Effect) (answer : X → Answer) (Before After : Tree → Type 0) (d e : Disk)
    → e ≡ d → ((t : Tree) → Before t → After t) → (s : Result X Stop) (x : Errno) → IsErrAnd s (λ y. y ≡ refused_stop x)
    → ((t : Tree) → effect t ≡ Err x)
    → MeetsOrStops g effect answer s Before After d e
meets_left g effect answer Before After d e same keeps s x left h =
    meets_exit g effect answer Before After d e same keeps s (refused_stop x) (λ t r. r ≡ Err x) left
    (λ t holds before. refl) (λ t y holds q. h t ∙ sym q)

-- a call that refuses
pub meets_refused : (g : Geometry) (effect : Tree → Effect) (Before After : Tree → Type 0) (d e : Disk) → e ≡ d → ((t : Tree) → Before t → After t) → (x : Errno)
    → ((t : Tree) → HoldsVolume g d t → effect t ≡ Err x) → Does g effect (refused x) Before After d e
meets_refused g effect Before After d e same keeps x h = record { each = λ t holds before. refused_made g t (effect t) x After d e (h t holds) same holds (keeps t before) }

-- a call that is left because one that writes was cut off
pub meets_halted : {X Y : Type 0} (g : Geometry) (effect : Tree → Effect) (answer : Y → Answer) (Before After : Tree → Type 0) (d e : Disk)
    (s : Result Y Stop) (h : Halt) (P : X → Type 0) (S : Type 0) → IsErrAnd s (λ y. y ≡ halted h) → Ends (Err h) P S → (IsHeld g Before d → S)
    → MeetsOrStops g effect answer s Before After d e
meets_halted g effect answer Before After d e s h P S left p k =
    let is = err_from_is_err_and s left in subst (λ y. MeetsOrStops g effect answer y Before After d e) (sym (is.1 ∙ ap (λ y. Err y) is.2)) (by h p)
  where
    by : (h : Halt) → Ends (Err h) P S → MeetsOrStops g effect answer (Err (halted h)) Before After d e
    by (halt.Cut c) p = tt
    by halt.Unsound p = λ held. p (k held)

-- a call that is left because one refused
pub answers_refused : {Y : Type 0} (s : Result Y Stop) (e : Errno) (Q : Result Y Errno → Type 0) → IsErrAnd s (λ y. y ≡ refused_stop e) → Q (Err e) → Answers s Q
answers_refused s e Q left q = let is = err_from_is_err_and s left in subst (λ y. Answers y Q) (sym (is.1 ∙ ap (λ y. Err y) is.2)) q

-- or because one was halted, which it isn't for want of this
pub answers_halted : {X Y : Type 0} (s : Result Y Stop) (h : Halt) (P : X → Type 0) (Q : Result Y Errno → Type 0) (S : Type 0)
    → IsErrAnd s (λ y. y ≡ halted h) → Ends (Err h) P S → S → Answers s Q
answers_halted {X} {Y} s h P Q S left p k = let is = err_from_is_err_and s left in subst (λ y. Answers y Q) (sym (is.1 ∙ ap (λ y. Err y) is.2)) (by h p)
  where
    by : (h : Halt) → Ends {X = X} (Err h) P S → Answers (Err (halted h)) Q
    by (halt.Cut c) p = tt
    by halt.Unsound p = p k

-- a call that was halted ends so
pub halted_ends : {X Y : Type 0} (g : Geometry) (effect : Tree → Effect) (answer : X → Answer) (Before After : Tree → Type 0) (d e : Disk) (h : Halt) (P : Y → Type 0)
    → MeetsOrStops g effect answer (Err (halted h)) Before After d e → Ends (Err h) P (IsHeld g Before d)
halted_ends g effect answer Before After d e (halt.Cut c) P p = tt
halted_ends g effect answer Before After d e halt.Unsound P p = p

-- two reads, of which both are said
pub reads_both : {B : Type 0} (w : World B) → IsWorld w → (a b c : B) (P Q : Disk → Type 0) → Reads w a b P → Reads w b c Q → Reads w a c (λ d. P d × Q d)
reads_both w k a b c P Q x y = reads_then w k a b c P Q (λ d. P d × Q d) (λ d p q. (p, q)) x y
