-- How an unmount ends that isn't refused, or is because a file is open.
use Rattle.std.proofs.Common.{◌≡◌, ℕ, Bool, true, false, refl, sym, ◌∙◌, ap}
use Rattle.layout.specs.declared.Geometry.{Geometry}
use Rattle.volume.specs.Reading.{Disk}
use Rattle.records.specs.Unmount.{unmounting_of}
use Rattle.records.specs.Unmount as legal
use Rattle.cache.specs.Calls.{AbstractCache, IsLive}
use Rattle.cache.specs.Edits.{AllClean}
use Rattle.cache.specs.Looking.{Looks}
use Rattle.cache.proofs.Looking.{looks_none}
use Rattle.cached_blocks.specs.World.{Leads, Sees}
use Rattle.descriptors.specs.Files.{Files, is_busy}
use Rattle.vfs.specs.Serving.{MayServe, server_of}
use Rattle.vfs.specs.UnmountingLaws.{UnmountsOver}
use Rattle.vfs.proofs.Ending.{none, false_true}
use Rattle.vfs.proofs.Keeping.{unmounts}

is_live : (a : AbstractCache) (busy : Bool) → IsLive a → unmounting_of a.ended a.table.given_up busy ≡ unmounting_of false false busy
is_live a busy l = ap (λ (z : Bool). unmounting_of z a.table.given_up busy) l.not_ended ∙ ap (λ (z : Bool). unmounting_of false z busy) l.not_given_up

busy_no_success : legal.Busy ≡ legal.Unmounted → ⊥
busy_no_success same = cc

-- some file is open
pub busy_at_once : (g : Geometry) (a : AbstractCache) (n : ℕ) (w : Bool) (f : Files) → MayServe g a → ((d e : Disk) → Sees a a d e → e ≡ d) → IsLive a → is_busy f ≡ true
    → UnmountsOver (server_of g a n w f) (server_of g a n w f) a.truth a.truth legal.Busy
busy_at_once g a n w f may same l busy =
    unmounts g a a n n refl w w f f may.size may.geometry.sized may.area may.ends (none a may.ready) refl same
    (λ z. refl) (λ z. refl) (looks_none a) legal.Busy (λ z. refl)
    (sym (is_live a (is_busy f) l ∙ ap (λ (z : Bool). unmounting_of false false z) busy)) (λ z. absurd (busy_no_success z))

-- all is written
pub unmounted : (g : Geometry) (a b : AbstractCache) (n m : ℕ) → m ≡ n → (w u : Bool) (f : Files) → MayServe g a → IsLive a → is_busy f ≡ false → (x : Leads a b)
    → ((d e : Disk) → Sees a b d e → e ≡ d) → IsLive b → AllClean b.held → Looks a b
    → UnmountsOver (server_of g a n w f) (server_of g b m u f) a.truth b.truth legal.Unmounted
unmounted g a b n m many w u f may l idle x same k all looks =
    unmounts g a b n m many w u f f may.size may.geometry.sized may.area may.ends x refl same
    (λ z. absurd (false_true a.ended z l.not_ended)) (λ z. absurd (false_true a.table.given_up z l.not_given_up)) looks
    legal.Unmounted (λ z. absurd (false_true (is_busy f) z idle))
    (sym (is_live b (is_busy f) k ∙ ap (λ (z : Bool). unmounting_of false false z) idle)) (λ z. (k.not_ended, k.not_given_up, all))
