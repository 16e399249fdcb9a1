-- Why an unmount is refused where calls are cut.
use Rattle.std.proofs.Common.{◌≡◌, ℕ, Bool, false, refl, sym, ◌∙◌, ap}
use Rattle.layout.specs.declared.Geometry.{Geometry}
use Rattle.volume.specs.Reading.{Disk}
use Rattle.records.specs.Unmount.{unmounting_of}
use Rattle.records.specs.Unmount as legal
use Rattle.cache.specs.Calls.{AbstractCache, IsLive, IsWhyCut}
use Rattle.block_store.specs.declared.Cut.{Cut as Why}
use Rattle.block_store.specs.declared.Cut.TheVariants.{Eio, LinkEnded}
use Rattle.cache.specs.Looking.{Looks}
use Rattle.cache.proofs.Looking.{looks_none}
use Rattle.cached_blocks.specs.World.{Leads, Sees}
use Rattle.descriptors.specs.Files.{Files, is_busy}
use Rattle.vfs.specs.declared.unmounting.UnmountRefusal.{UnmountRefusal}
use Rattle.vfs.specs.declared.unmounting.UnmountRefusal.TheVariants as refusal
use Rattle.vfs.specs.Serving.{MayServe, server_of}
use Rattle.vfs.specs.UnmountingLaws.{UnmountsOver}
use Rattle.vfs.specs.Unmounting.{in_words, refused_by}
use Rattle.vfs.proofs.Ending.{none, false_true}
use Rattle.vfs.proofs.Keeping.{unmounts}

-- which it is
pub is_cut : (a : AbstractCache) (why : Why) (busy : Bool) → IsWhyCut a why → in_words (refused_by why) ≡ unmounting_of a.ended a.table.given_up busy
is_cut a LinkEnded busy h = sym (ap (λ (z : Bool). unmounting_of z a.table.given_up busy) h)
is_cut a Eio busy h = sym (ap (λ (z : Bool). unmounting_of z a.table.given_up busy) h.0 ∙ ap (λ (z : Bool). unmounting_of false z busy) h.1)

-- a refusal is no success
no_success : (e : UnmountRefusal) → in_words e ≡ legal.Unmounted → ⊥
no_success refusal.LinkEnded same = cc
no_success refusal.Eio same = cc
no_success refusal.Busy same = cc

-- it is refused where it is asked
pub refused_at_once : (g : Geometry) (a : AbstractCache) (n : ℕ) (w : Bool) (f : Files) → MayServe g a → ((d e : Disk) → Sees a a d e → e ≡ d) → (why : Why) (r : UnmountRefusal)
    → r ≡ refused_by why → IsWhyCut a why → UnmountsOver (server_of g a n w f) (server_of g a n w f) a.truth a.truth (in_words r)
refused_at_once g a n w f may same why r e h =
    unmounts g a a n n refl w w f f may.size may.geometry.sized may.area may.ends (none a may.ready) refl same
    (λ z. refl) (λ z. refl) (looks_none a) (in_words r) (λ z. refl)
    (ap in_words e ∙ is_cut a why (is_busy f) h) (λ z. absurd (no_success r z))

-- it is refused while it writes
pub refused_later : (g : Geometry) (a b : AbstractCache) (n m : ℕ) → m ≡ n → (w u : Bool) (f : Files) → MayServe g a → IsLive a → is_busy f ≡ false → (x : Leads a b)
    → ((d e : Disk) → Sees a b d e → e ≡ d) → (why : Why) (r : UnmountRefusal) → r ≡ refused_by why → IsWhyCut b why → Looks a b
    → UnmountsOver (server_of g a n w f) (server_of g b m u f) a.truth b.truth (in_words r)
refused_later g a b n m many w u f may l idle x same why r e h looks =
    unmounts g a b n m many w u f f may.size may.geometry.sized may.area may.ends x refl same
    (λ z. absurd (false_true a.ended z l.not_ended)) (λ z. absurd (false_true a.table.given_up z l.not_given_up)) looks
    (in_words r) (λ z. absurd (false_true (is_busy f) z idle)) (ap in_words e ∙ is_cut b why (is_busy f) h) (λ z. absurd (no_success r z))
