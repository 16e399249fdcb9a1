-- Each move keeps the rule of the server's line.
use Rattle.std.proofs.Common.{◌≡◌, ◌≢◌, ℕ, zero, suc, true, false, true≢false, List, [], ◌∷◌, ◌++◌, set, sym, refl, ap, ◌∙◌, subst}
use Rattle.std.proofs.Common.{⊎_elim, ◌⊎◌, inl, inr}
use mathlib.Core.Option.{some, some-ne-none, some-injective}
use mathlib.Core.Logic.{dite}
use native.Mathlib.Decide.{ℕ_discrete}
use lib.ListN.{get_elem?}
use Rattle.crossbeam_channel.specs.Fifo.{Pushes, Pops, Forks}
use Rattle.atomic_table.proofs.Lists.{at_set, at_snoc, at_longer, set_again, set_else}
use Rattle.message.specs.declared.endpoint.Endpoint.{Endpoint}
use Rattle.channel_link.specs.declared.messages.News.{News}
use Rattle.channel_link.specs.declared.messages.NewsView.{NewsView}
use Rattle.channel_link.specs.News.{reader, driver, sent_by, got_by, Bears, Among, SentBySome, Borne}

off : false ≡ true → ⊥
off e = true≢false (sym e)

set_at : (l : List NewsView) (i : ℕ) (v w : NewsView) → get_elem? l i ≡ some v → get_elem? (set l i w) i ≡ some w
set_at [] i v w e = absurd (some-ne-none v (sym e))
set_at (x ∷ xs) zero v w e = refl
set_at (x ∷ xs) (suc i) v w e = set_at xs i v w e

among_head : (xs : List News) (x : News) → Among (x ∷ xs) x
among_head xs x = (0, refl)

among_tail : (xs : List News) (x y : News) → Among xs y → Among (x ∷ xs) y
among_tail xs x y h = (suc h.0, h.1)

among_cons : (xs : List News) (x y : News) (k : ℕ) → get_elem? (x ∷ xs) k ≡ some y → (x ≡ y) ⊎ Among xs y
among_cons xs x y zero e = inl (some-injective x y e)
among_cons xs x y (suc k) e = inr (k, e)

among_none : (x : News) (k : ℕ) → get_elem? [] k ≡ some x → ⊥
among_none x k e = some-ne-none x (sym e)

-- it stays borne where a pass keeps its endpoint and what it sent
stays : (views : List NewsView) (port : ℕ) (v w : NewsView) (x : News) → get_elem? views port ≡ some v → w.drives ≡ v.drives
    → w.endpoint ≡ v.endpoint → (Among v.sent x → Among w.sent x)
    → SentBySome views x → SentBySome (set views port w) x
stays views port v w x at d e more h = dite (ℕ_discrete h.0 port)
    (λ same.
    let is : v ≡ h.1 = some-injective v h.1 (sym at ∙ ap (λ p. get_elem? views p) (sym same) ∙ h.2) in
    let own : Bears w.endpoint x = subst (λ (o : Endpoint). Bears o x) (sym (e ∙ ap (λ (u : NewsView). u.endpoint) is)) h.4 in
    let among : Among w.sent x = more (subst (λ (u : NewsView). Among u.sent x) (sym is) h.5) in
    (port, w, set_at views port v w at, d ∙ ap (λ (u : NewsView). u.drives) is ∙ h.3, own, among))
    (λ other. (h.0, h.1, set_else views port h.0 w other ∙ h.2, h.3, h.4, h.5))

pub begins : Borne [] (reader [] ∷ [])
begins = (0, [], (λ x m. absurd (among_none x m.0 m.1)), (λ x m. absurd (among_none x m.0 m.1)), one)
  where
    one : (p : ℕ) (v : NewsView) → get_elem? (reader [] ∷ []) p ≡ some v → v.gets ≡ true → (p ≡ 0) × (v.got ≡ [])
    one zero v e _ = (refl, ap (λ (u : NewsView). u.got) (sym (some-injective (reader []) v e)))
    one (suc p) v e _ = absurd (some-ne-none v (sym e))

pub sends : (n port : ℕ) (v : NewsView) (x : News) → v.drives ≡ true → Bears v.endpoint x → Pushes Borne n port v x (λ w. w ≡ sent_by v x)
sends n port v x may own items views room h at = let w = sent_by v x in (
  w,
  (
    h.0,
    h.1,
    (λ y m. stays views port v w y at refl refl (among_tail v.sent x y) (h.2 y m)),
    (λ y m. ⊎_elim
        (λ old. stays views port v w y at refl refl (among_tail v.sent x y) (h.3 y (m.0, old)))
        (λ (new : x ≡ y).
        subst (λ (z : News). SentBySome (set views port w) z) new (port, w, set_at views port v w at, may, own, among_head v.sent x))
        (at_snoc items x y m.0 m.1)),
    (λ p u e g. ⊎_elim
        (λ (t : (p ≡ port) × (w ≡ u)).
        let m = h.4 port v at (ap (λ (z : NewsView). z.gets) t.1 ∙ g) in
        (t.0 ∙ m.0, ap (λ (z : NewsView). z.got) (sym t.1) ∙ m.1))
        (λ (t : (p ≢ port) × (get_elem? views p ≡ some u)). h.4 p u t.1 g)
        (at_set views port p w u e)),
  ),
  refl,
)

pub gets : (port : ℕ) (v : NewsView) → v.gets ≡ true → Pops Borne port v (λ x w. w ≡ got_by v x)
gets port v may x items views h at =
    let w = got_by v x in
    let mine = h.4 port v at may in (
      w,
      (
        h.0,
        x ∷ h.1,
        (λ y m. ⊎_elim
            (λ (same : x ≡ y). stays views port v w y at refl refl (λ a. a) (h.3 y (0, ap some same)))
            (λ (old : Among h.1 y). stays views port v w y at refl refl (λ a. a) (h.2 y old))
            (among_cons h.1 x y m.0 m.1)),
        (λ y m. stays views port v w y at refl refl (λ a. a) (h.3 y (among_tail items x y m))),
        (λ p u e g. ⊎_elim
            (λ (t : (p ≡ port) × (w ≡ u)). (t.0 ∙ mine.0, ap (λ (z : NewsView). z.got) (sym t.1) ∙ ap (λ (l : List News). x ∷ l) mine.1))
            (λ (t : (p ≢ port) × (get_elem? views p ≡ some u)). absurd (t.0 ((h.4 p u t.1 g).0 ∙ sym mine.0)))
            (at_set views port p w u e)),
      ),
      refl,
    )

longer : (views : List NewsView) (more : List NewsView) (x : News) → SentBySome views x → SentBySome (views ++ more) x
longer views more x b = (b.0, b.1, at_longer views more b.0 b.1 b.2, b.3, b.4, b.5)

pub forks : (port : ℕ) (v : NewsView) (endpoint : Endpoint) → Forks Borne port v v (driver endpoint [])
forks port v endpoint items views h at =
    let same = set_again views port v at in (
      h.0,
      h.1,
      (λ y m. longer (set views port v) (driver endpoint [] ∷ []) y (subst (λ (l : List NewsView). SentBySome l y) (sym same) (h.2 y m))),
      (λ y m. longer (set views port v) (driver endpoint [] ∷ []) y (subst (λ (l : List NewsView). SentBySome l y) (sym same) (h.3 y m))),
      (λ p u e g. ⊎_elim
          (λ old. h.4 p u (subst (λ (l : List NewsView). get_elem? l p ≡ some u) same old) g)
          (λ (new : driver endpoint [] ≡ u). absurd (off (ap (λ (z : NewsView). z.gets) new ∙ g)))
          (at_snoc (set views port v) (driver endpoint []) u p e)),
    )
