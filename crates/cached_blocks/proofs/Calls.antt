-- Calls of a cache, as blocks have them.
use Rattle.std.proofs.Common.{◌≡◌, ℕ, List, sym, ap, subst, ◌∙◌, None}
use Rattle.std.specs.Prelude.{Result, Ok, Err, OnOk}
use Rattle.volume.specs.Reading.{Disk}
use Rattle.records.specs.Told.{Told, grown}
use Rattle.records.specs.Disk.{HasTrueReplies}
use Rattle.reissue.specs.Moves.{DiskState, state_after}
use Rattle.cache.specs.Calls.{AbstractCache, Runs, Keeps, Serves, Blanks, Rewrites}
use Rattle.cache.specs.Frames.{view, with_bytes}
use Rattle.cache.proofs.Runs.{runs_as}
use Rattle.block_store.specs.declared.Cut.{Cut}
use Rattle.block_store.specs.World.{Turns}
use Rattle.block_store.specs.Rows.{written, cleared}
use Rattle.block_store.proofs.Turns.{turns_as}
use Rattle.cached_blocks.specs.World.{Sees, world_by}
use Rattle.cached_blocks.specs.Lawful.{Fits, one_told}

-- A call of a cache, as blocks have it.
pub turns : {B : Type 0} (f : B → AbstractCache) (goes : B → B → Type 0) (a b : B) (R : DiskState → DiskState → Type 0) (Q : Disk → Disk → Type 0)
    → ((w v : DiskState) → R w v → Fits (f a) w → Fits (f b) v)
    → ((w v : DiskState) → R w v → Fits (f a) w → Q (view (f a).size (f a).held w) (view (f b).size (f b).held v))
    → goes a b → Runs None (f a) (f b) R → Turns (world_by f goes) a b Q
turns f goes a b R Q h k on x = record {
  leads = record { runs = runs_as None (f a) (f b) R (λ w v. Fits (f a) w → Fits (f b) v) h x; on = on };
  related = λ d e s.
      let same : s.told ≡ x.told = one_told (f a) (f b) s.told x.told s.history x.history in
      let tr : HasTrueReplies s.image (grown x.told s.marks) = subst (λ (l : List Told). HasTrueReplies s.image (grown l s.marks)) same s.true_replies in
      let q = k (state_after s.image s.marks) (state_after s.image (grown x.told s.marks)) (x.related s.image s.marks s.agrees tr) s.covered in
      let late = s.after ∙ ap (λ (l : List Told). view (f b).size (f b).held (state_after s.image (grown l s.marks))) same in
      by d _ e _ s.before late q;
}
  where
    by : (d d2 e e2 : Disk) → d ≡ d2 → e ≡ e2 → Q d2 e2 → Q d e
    by d d2 e e2 p q x = subst (λ (y : Disk). Q y e) (sym p) (subst (λ (y : Disk). Q d2 y) (sym q) x)

-- a call that leaves what would be read back
pub turns_kept : {B : Type 0} (f : B → AbstractCache) (goes : B → B → Type 0) (a b : B) → goes a b → Keeps (f a) (f b) → Turns (world_by f goes) a b (λ d e. e ≡ d)
turns_kept f goes a b on x = turns f goes a b (λ w v. Serves (f a) (f b) w v) (λ d e. e ≡ d) (λ w v s. s.agrees) (λ w v s. s.same) on x

-- a call that changes bytes
pub turns_changed : {B : Type 0} (f : B → AbstractCache) (goes : B → B → Type 0) (a b : B) (at block from : ℕ) (bytes : List ℕ) → at ≡ block → goes a b
    → Runs None (f a) (f b) (λ w v. Rewrites at (with_bytes from bytes) (f a) (f b) w v)
    → Turns (world_by f goes) a b (λ d e. e ≡ written block from bytes d)
turns_changed f goes a b at block from bytes same on x =
    let y = subst (λ (n : ℕ). Runs None (f a) (f b) (λ w v. Rewrites n (with_bytes from bytes) (f a) (f b) w v)) same x in
    turns f goes a b (λ w v. Rewrites block (with_bytes from bytes) (f a) (f b) w v) (λ d e. e ≡ written block from bytes d) (λ w v s. s.agrees) (λ w v s. s.changed) on y

-- a call that clears a block, unless it was cut
pub turns_fresh : {B X : Type 0} (f : B → AbstractCache) (goes : B → B → Type 0) (a b : B) (r : Result X Cut) (block : ℕ) → goes a b
    → Runs None (f a) (f b) (λ w v. Blanks r block (f a) (f b) w v) → Turns (world_by f goes) a b (λ d e. OnOk r (e ≡ cleared block d))
turns_fresh f goes a b (Ok x) block on runs =
    turns f goes a b (λ w v. Rewrites block (λ row o. 0) (f a) (f b) w v) (λ d e. e ≡ cleared block d) (λ w v s. s.agrees) (λ w v s. s.changed)
    on runs
turns_fresh f goes a b (Err c) block on runs = turns_as _ _ _ _ _ (λ d e x. tt) (turns_kept f goes a b on runs)

-- what a call keeps stays where it is seen
pub seen_kept : (a b : AbstractCache) (d e : Disk) (k : Keeps a b) (s : Sees a b d e)
    → Serves a b (state_after s.image s.marks) (state_after s.image (grown k.told s.marks))
seen_kept a b d e k s =
    let same : s.told ≡ k.told = one_told a b s.told k.told s.history k.history in
    k.related s.image s.marks s.agrees (subst (λ (l : List Told). HasTrueReplies s.image (grown l s.marks)) same s.true_replies)

pub seen_same : (a b : AbstractCache) (d e : Disk) → Keeps a b → Sees a b d e → e ≡ d
seen_same a b d e k s =
    let same : s.told ≡ k.told = one_told a b s.told k.told s.history k.history in
    s.after ∙ ap (λ (l : List Told). view b.size b.held (state_after s.image (grown l s.marks))) same
    ∙ (seen_kept a b d e k s).same s.covered ∙ sym s.before
