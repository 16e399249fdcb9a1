-- Flushes, and messages that are handed over.
use Rattle.std.proofs.Common.{◌≡◌, ℕ, zero, suc, List, [], ◌∷◌, ◌++◌, append_assoc, Bool, true, false, refl, sym, ap, subst, ◌∙◌, Option, Some}
use mathlib.Core.Logic.{inl, inr}
use Rattle.std.proofs.lemmas.List.{append_cancel_right}
use Rattle.message.specs.declared.BlockRequest.{BlockRequest}
use Rattle.message.specs.declared.Incoming.{Incoming}
use Rattle.message.specs.declared.Incoming.TheVariants.{End}
use Rattle.records.specs.Told.{Told, Posted, Complained, Received, took_nothing}
use Rattle.records.specs.Acts.{told_of}
use Rattle.reissue.specs.Posts.{OnlyPosts}
use Rattle.cache.specs.declared.slot.Slot.{Slot}
use Rattle.cache.specs.declared.state.State.TheVariants.{Clean, Dirty}
use Rattle.cache.specs.Edits.{AllClean, IssuesLowest}
use Rattle.cache.specs.Calls.{AbstractCache, Keeps, Serves, PostsAlone, HandsOver}
use Rattle.cache.specs.Runs.{requests_in}
use Rattle.cache.specs.Slots.{OvertakesNone}
use Rattle.cache.proofs.Runs.{runs_then}
use Rattle.cache.proofs.Overtaking.{overtakes_same}
use Rattle.cache.proofs.Placing.{serves_then}
use Rattle.flusher.specs.Flushing.{WritesLowest, WritesRuns, WritesInRuns}
use Rattle.flusher.proofs.Flushing.{flush_overtakes}
use Rattle.cached_blocks.specs.Cached.{Flushes}

-- where each frame is clean no write is begun
clean_none : (old new : ℕ → Option Slot) → AllClean old → IssuesLowest old new → ⊥
clean_none old new clean x = let e : Clean ≡ Dirty = sym (clean x.block x.slot x.is) ∙ x.dirty in cc

-- and each stays clean
pub stays_clean : (n : ℕ) (old new : ℕ → Option Slot) → WritesLowest n old new → AllClean old → AllClean new
stays_clean zero old new h clean = subst AllClean (sym h) clean
stays_clean (suc n) old new (inl h) clean = subst AllClean (sym h) clean
stays_clean (suc n) old new (inr x) clean = absurd (clean_none old x.0 clean x.1)

-- no block is overtaken by the writes of a Flush that is wanted
pub wanted_overtakes : (w : Bool) (a b : AbstractCache) → (w ≡ true → Flushes a b) → (w ≡ false → b ≡ a) → OvertakesNone a.held b.held
wanted_overtakes true a b flushed unasked = λ block is.
    let x = (flushed refl).runs in
    sym (flush_overtakes x.counts 16 a.size a.held b.held (requests_in a.table) (requests_in b.table) x.runs block) ∙ is
wanted_overtakes false a b flushed unasked = overtakes_same a.held b.held (ap (λ (c : AbstractCache). c.held) (unasked refl))

-- posts take nothing
posts_take_nothing : (posts more : List Told) → OnlyPosts posts → took_nothing (posts ++ more) ≡ took_nothing more
posts_take_nothing [] more h = refl
posts_take_nothing (Posted to r accepted ∷ posts) more h = posts_take_nothing posts more h
posts_take_nothing (Complained about ∷ posts) more h = absurd h
posts_take_nothing (Received message ∷ posts) more h = absurd h

-- a message that is no End, and then posts
pub hands_then : (m : Incoming) (a b c : AbstractCache) → (m ≡ End → ⊥) → HandsOver m a b → Keeps b c → PostsAlone b c
    → OvertakesNone b.held c.held → HandsOver m a c
hands_then m a b c other x y p over =
    let runs =
    runs_then (Some m) a b c (λ w v. Serves a b w v) (λ w v. Serves b c w v) (λ w v. Serves a c w v) (serves_then a b c) x.runs y in
    let all : told_of runs.acts ≡ p.posts ++ told_of x.runs.acts =
    append_cancel_right (told_of runs.acts) (p.posts ++ told_of x.runs.acts) a.told
    (sym runs.done ∙ p.history ∙ ap (λ (l : List Told). p.posts ++ l) x.runs.done ∙ sym (append_assoc p.posts (told_of x.runs.acts) a.told)) in
    record {
      runs = runs;
      none_taken = ap took_nothing all ∙ posts_take_nothing p.posts (told_of x.runs.acts) p.only_posts ∙ x.none_taken;
      none_overtaken = λ block is. x.none_overtaken block (over block is);
      no_effect = λ e. absurd (other e);
    }

-- runs that are begun from one cache are begun from each with its frames and requests
pub from_there : (a b c : AbstractCache) → b.size ≡ a.size → b.held ≡ a.held → requests_in b.table ≡ requests_in a.table → WritesInRuns 16 b c
    → WritesInRuns 16 a c
from_there a b c size held requests x = record {
  counts = x.counts;
  runs = subst (λ (n : ℕ). WritesRuns x.counts 16 n a.held c.held (requests_in a.table) (requests_in c.table)) size
      (subst (λ (f : ℕ → Option Slot). WritesRuns x.counts 16 b.size f c.held (requests_in a.table) (requests_in c.table)) held
      (subst (λ (l : List BlockRequest). WritesRuns x.counts 16 b.size b.held c.held l (requests_in c.table)) requests x.runs));
  all = x.all;
}
