-- What was compared piece by piece, told of all pieces.
use Rattle.std.proofs.Common.{◌≡◌, ◌≢◌, ◌⊎◌, ◌∙◌, ℕ, List, [], ◌∷◌, ap, refl, subst, sym, inl, inr}
use Rattle.std.specs.List.{concat}
use Rattle.records.specs.Opening.{Opening}
use Rattle.volume_reading.specs.Pieces.{Piece}
use Rattle.volume_reading.specs.Places.{AreTaken}
use Rattle.driver_threads.specs.Watched.{Compares, WatchState}
use Rattle.driver_threads.specs.declared.watch.Likeness.{Likeness}
use Rattle.driver_threads.specs.declared.watch.Likeness.TheVariants.{Same, Differs, Unsure}
use Rattle.serve.specs.Stopping.{AreThere, Tells}

-- pieces were compared, one after the other
pub record ComparesAll (v : Opening) (s : WatchState) (pieces : List Piece) (t : WatchState) : Type 0 where
  pub sectors : t.sectors ≡ s.sectors
  pub same : t.likeness ≡ Same → (s.likeness ≡ Same) × AreThere v pieces (concat s.sectors)
  pub differs : t.likeness ≡ Differs → (s.likeness ≡ Differs) ⊎ (AreThere v pieces (concat s.sectors) → ⊥)

-- which the taker of pieces did, of whose state this is the watch
pub all_compared : {T : Type 0} (watch : T → WatchState) (v : Opening) (s t : T) (pieces : List Piece)
    → AreTaken (λ (a : T) (p : Piece) (b : T). Compares v (watch a) p.start p.bytes (watch b)) s pieces t
    → ComparesAll v (watch s) pieces (watch t)
all_compared {T} watch v s t [] is = record {
  sectors = ap (λ (x : T). (watch x).sectors) is;
  same = λ h. (sym (ap (λ (x : T). (watch x).likeness) is) ∙ h, tt);
  differs = λ h. inl (sym (ap (λ (x : T). (watch x).likeness) is) ∙ h);
}
all_compared {T} watch v s t (p ∷ ps) taken =
    let c = taken.1 in
    let k = all_compared watch v taken.0 t ps taken.2 in
    record {
      sectors = k.sectors ∙ c.sectors;
      same = λ h.
          let rest = k.same h in
          let first = c.same rest.0 in
          (first.0, (first.1, subst (λ (l : List (List ℕ)). AreThere v ps (concat l)) c.sectors rest.1));
      differs = λ h. elim (k.differs h) [
        | inl before ↦ elim (c.differs before) [
          | inl first ↦ inl first
          | inr none ↦ inr (λ all. none all.0)
        ]
        | inr none ↦ inr (λ all. none (subst (λ (l : List (List ℕ)). AreThere v ps (concat l)) (sym c.sectors) all.1))
      ];
    }

-- so it is told of the sectors that are left, where the watch still knew them
pub tells_so : (v : Opening) (s t : WatchState) (pieces : List Piece) (told : Likeness) (sectors : List (List ℕ)) → ComparesAll v s pieces t
    → s.likeness ≢ Differs → (told ≡ Same → (t.likeness ≡ Same) × (sectors ≡ t.sectors))
    → (told ≡ Differs → (t.likeness ≡ Differs) × (sectors ≡ t.sectors)) → Tells v told pieces sectors
tells_so v s t pieces Same sectors k first same differs =
    let x = same refl in
    subst (λ (l : List (List ℕ)). AreThere v pieces (concat l)) (sym (x.1 ∙ k.sectors)) (k.same x.0).1
tells_so v s t pieces Differs sectors k first same differs =
    let x = differs refl in
    elim (k.differs x.0) [
      | inl before ↦ absurd (first before)
      | inr none ↦ λ all. none (subst (λ (l : List (List ℕ)). AreThere v pieces (concat l)) (x.1 ∙ k.sectors) all)
    ]
tells_so v s t pieces Unsure sectors k first same differs = tt
