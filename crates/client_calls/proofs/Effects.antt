-- Client calls, by their effects.
use Rattle.std.proofs.Common.{◌≡◌, ℕ, ◌<◌, ◌≤◌, Bool, true, false, refl, sym, ap, subst, ◌∙◌, Err}
use mathlib.Core.Logic.{inl, inr}
use Rattle.std.specs.Prelude.{◌&&◌, if◌then◌else◌, Result}
use Rattle.std.proofs.lemmas.Bool.{le-leb, lt-leb}
use Rattle.errno.specs.declared.Errno.{Errno}
use Rattle.errno.specs.declared.Errno.TheVariants.{EINVAL}
use Rattle.layout.specs.declared.Geometry.{Geometry}
use Rattle.tree.specs.declared.Who.{Who}
use Rattle.tree.specs.declared.Call.{Call}
use Rattle.tree.specs.declared.Reply.{Reply}
use Rattle.tree.specs.Tree.{Tree}
use Rattle.tree.specs.Refusals.{◌>>=◌, refuse_if}
use Rattle.tree.specs.Answers.{Answer, Effect, refused, done, descriptor, some_bytes, wrote, position, node_is, names_are, room_is, answer_of}
use Rattle.tree.specs.Effects.{effect_of, effect_in_session, reply_to, tree_after_call, may_want_memory}
use Rattle.volume.specs.Reading.{Disk}
use Rattle.volume.specs.Holds.{HoldsVolume}
use Rattle.records.specs.Legal.{is_success, is_no_memory, may_lack_memory, tree_after_answer}
use Rattle.descriptors.specs.Files.{Files, HasFiles}
use Rattle.block_store.specs.declared.Halt.{Halt}
use Rattle.block_store.specs.declared.Halt.TheVariants as halt
use Rattle.block_store.specs.Halts.{Ends}
use Rattle.block_store.proofs.Turns.{ends_as}
use Rattle.calls_attributes.specs.Does.{IsHeld, IsMade, IsLacking, Does, DoesOrLacks, Meets, MeetsOrLacks}
use Rattle.client_calls.specs.Calls.{IsDone, DoesCall, MeetsCall}
use Rattle.calls_attributes.proofs.Made.{refused_made}

-- no success is want of memory
not_both : (w : Bool) (a : Answer) (t u : Tree) → (if (w && is_success a) && is_no_memory a then t else u) ≡ u
not_both w a t u = ap (λ (b : Bool). if b then t else u) (by w a)
  where
    with_error : (w : Bool) (e : Errno) → ((w && false) && is_no_memory (refused e)) ≡ false
    with_error true e = refl
    with_error false e = refl

    plain : (w : Bool) → ((w && true) && false) ≡ false
    plain true = refl
    plain false = refl

    by : (w : Bool) (a : Answer) → ((w && is_success a) && is_no_memory a) ≡ false
    by w (refused e) = with_error w e
    by w done = plain w
    by w (descriptor n) = plain w
    by w (some_bytes n) = plain w
    by w (wrote n) = plain w
    by w (position n) = plain w
    by w (node_is n) = plain w
    by w (names_are n) = plain w
    by w (room_is n) = plain w

-- what a call's effect made is done
pub made_done : (g : Geometry) (t : Tree) (who : Who) (now : ℕ) (call : Call) (answer : Answer) (f : Files) (e : Disk)
    → IsMade g t (effect_of g t who now call) answer (HasFiles f) e → IsDone g t who now call answer f e
made_done g t who now call answer f e m =
    let after : tree_after_answer g t who now call answer ≡ tree_after_call g t who now call =
    ap (λ (a : Answer). tree_after_answer g t who now call a) m.answers
    ∙ not_both (may_want_memory call) (reply_to g t who now call) t (tree_after_call g t who now call) in
    record {
      replies = inl m.answers;
      holds = subst (λ (x : Tree). HoldsVolume g e x) (sym after) m.holds;
      files = subst (λ (x : Tree). HasFiles f x) (sym after) m.after;
    }

-- so is want of memory, where it may be answered
pub lacking_done : (g : Geometry) (t : Tree) (who : Who) (now : ℕ) (call : Call) (answer : Answer) (f : Files) (e : Disk) → may_want_memory call ≡ true
    → IsLacking g t (effect_of g t who now call) answer (HasFiles f) e → IsDone g t who now call answer f e
lacking_done g t who now call answer f e may m =
    let lack : may_lack_memory g t who now call ≡ true = and_true (may_want_memory call) (is_success (reply_to g t who now call)) may m.success in
    let after : tree_after_answer g t who now call answer ≡ t =
    ap (λ (a : Answer). tree_after_answer g t who now call a) m.answers
    ∙ ap (λ (b : Bool). if b && true then t else tree_after_call g t who now call) lack in
    record {
      replies = inr (lack, m.answers);
      holds = subst (λ (x : Tree). HoldsVolume g e x) (sym after) m.holds;
      files = subst (λ (x : Tree). HasFiles f x) (sym after) m.after;
    }
  where
    and_true : (a b : Bool) → a ≡ true → b ≡ true → (a && b) ≡ true
    and_true true true p q = refl
    and_true false b p q = cc
    and_true a false p q = cc

module _ (g : Geometry) (who : Who) (now : ℕ) (call : Call) where
  abbrev in_session : Tree → ℕ → Effect
  in_session t x = effect_in_session g t who now call

  -- a session that may not be
  pub call_late : (f : Files) (d e : Disk) → 64 ≤ who.session → e ≡ d → DoesCall g who now call (refused EINVAL) f f d e
  call_late f d e late same = record {
    each = λ t holds files.
        made_done g t who now call (refused EINVAL) f e
        (refused_made g t (effect_of g t who now call) EINVAL (HasFiles f) d e (ap (λ b. refuse_if b EINVAL >>= in_session t) (le-leb 64 who.session late)) same holds files);
  }

  module _ (early : who.session < 64) (effect : Tree → Effect) (is : (t : Tree) → effect_in_session g t who now call ≡ effect t) where
    -- the effect of one that may be
    whole : (t : Tree) → effect t ≡ effect_of g t who now call
    whole t = sym (ap (λ b. refuse_if b EINVAL >>= in_session t) (lt-leb 64 who.session early) ∙ is t)

    pub call_does : (answer : Answer) (f h : Files) (d e : Disk) → Does g effect answer (HasFiles f) (HasFiles h) d e → DoesCall g who now call answer f h d e
    call_does answer f h d e x = record {
      each = λ t holds files.
          made_done g t who now call answer h e (subst (λ (y : Effect). IsMade g t y answer (HasFiles h) e) (whole t) (x.each t holds files));
    }

    pub call_meets : (r : Result (Unit {0}) Halt) (y : Reply) (f h : Files) (d e : Disk) → Meets g effect r y (HasFiles f) (HasFiles h) d e
        → MeetsCall g who now call r y f h d e
    call_meets r y f h d e x = ends_as r _ _ _ _ (λ (u : Unit {0}). call_does (answer_of y) f h d e) (λ held. held) x

    -- of this call
    pub kind_meets : (k : Call) → k ≡ call → (r : Result (Unit {0}) Halt) (y : Reply) (f h : Files) (d e : Disk)
        → Meets g effect r y (HasFiles f) (HasFiles h) d e → MeetsCall g who now k r y f h d e
    kind_meets k kind r y f h d e x = subst (λ (z : Call). MeetsCall g who now z r y f h d e) (sym kind) (call_meets r y f h d e x)

    -- and where memory may be wanting
    pub call_lacks : may_want_memory call ≡ true → (answer : Answer) (f h : Files) (d e : Disk)
        → DoesOrLacks g effect answer (HasFiles f) (HasFiles h) d e → DoesCall g who now call answer f h d e
    call_lacks may answer f h d e x = record {
      each = λ t holds files. elim (x.each t holds files) [
        | inl m ↦ made_done g t who now call answer h e (subst (λ (y : Effect). IsMade g t y answer (HasFiles h) e) (whole t) m)
        | inr m ↦ lacking_done g t who now call answer h e may (subst (λ (y : Effect). IsLacking g t y answer (HasFiles h) e) (whole t) m)
      ];
    }

    pub call_meets_or_lacks : may_want_memory call ≡ true → (r : Result (Unit {0}) Halt) (y : Reply) (f h : Files) (d e : Disk)
        → MeetsOrLacks g effect r y (HasFiles f) (HasFiles h) d e → MeetsCall g who now call r y f h d e
    call_meets_or_lacks may r y f h d e x = ends_as r _ _ _ _ (λ (u : Unit {0}). call_lacks may (answer_of y) f h d e) (λ held. held) x

    pub kind_meets_or_lacks : (k : Call) → k ≡ call → may_want_memory call ≡ true → (r : Result (Unit {0}) Halt) (y : Reply) (f h : Files) (d e : Disk)
        → MeetsOrLacks g effect r y (HasFiles f) (HasFiles h) d e → MeetsCall g who now k r y f h d e
    kind_meets_or_lacks k kind may r y f h d e x =
        subst (λ (z : Call). MeetsCall g who now z r y f h d e) (sym kind) (call_meets_or_lacks may r y f h d e x)

-- what is unsound holds no tree
pub call_unsound : (g : Geometry) (who : Who) (now : ℕ) (call : Call) (answer : Answer) (f h : Files) (d e : Disk) → (IsHeld g (HasFiles f) d → ⊥)
    → DoesCall g who now call answer f h d e
call_unsound g who now call answer f h d e none = record { each = λ t holds files. absurd (none (record { tree = t; holds = holds; before = files })) }

-- what was unsound speaks against a tree
pub unsound_is : {X : Type 0} (r : Result X Halt) (h : Halt) (P : X → Type 0) (S : Type 0) → r ≡ Err h → h ≡ halt.Unsound → Ends r P S → S → ⊥
unsound_is {X = X} r h P S is kind x = subst (λ (y : Result X Halt). Ends y P S) (is ∙ ap (λ (z : Halt). Err z) kind) x
