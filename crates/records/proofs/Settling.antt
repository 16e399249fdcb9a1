-- Where calls only looked since the last sync, and no write was issued since, the disk alone holds the tree.
use Rattle.std.proofs.Common.{◌≡◌, ℕ, ◌+◌, ◌≤◌, List, [], ◌∷◌, Bool, true, false, cond, refl, sym, ◌∙◌, ap, subst, inl, inr, arith, Option, Some, None}
use Rattle.std.proofs.lemmas.Bool.Decides.{nat_tests}
use Rattle.std.specs.Prelude.{nat_lt, nat_le, ◌&&◌, ◌||◌, not, IsTrue}
use Rattle.std.proofs.lemmas.Bool.{and_parts}
use Rattle.lemmas.proofs.Bools.{from_clash, is_false, false_not_true, or_cases}
use Rattle.layout.specs.declared.Geometry.{Geometry}
use Rattle.message.specs.Good.{is_write}
use Rattle.message.specs.declared.BlockRequest.{BlockRequest}
use Rattle.message.specs.declared.BlockReply.{BlockReply}
use Rattle.tree.specs.declared.Who.{Who}
use Rattle.tree.specs.declared.Call.{Call}
use Rattle.tree.specs.Tree.{Tree}
use Rattle.tree.specs.Answers.{Answer}
use Rattle.volume.specs.Reading.{blocks_of}
use Rattle.volume.specs.Holds.{HoldsVolume}
use Rattle.records.specs.Marks.{Mark, Started, Answered, Flush, GaveUp, Took, Issued, Fault, gave_up}
use Rattle.records.specs.Open.{open_requests, asked_by, moved_by, moved_of, IsWellFormed}
use Rattle.records.specs.Disk.{Contents, disk_after, unsure, covers, settles, byte_for}
use Rattle.records.specs.Legal.{is_sync, is_success, tree_after, tree_after_answer, IsSynced, IsLegal, IsLegalTook}
use Rattle.records.specs.Settled.{only_looks, is_settled, none_written, LookingWritesNothing}
use Rattle.records.specs.LegalLaws.{SettledIsHeld}
use Rattle.records.proofs.OpenRequests.{with_id_in}
use Rattle.records.proofs.Unsure.{moved_le, unsure_open}
use Rattle.records.proofs.Looking.{held_after}

-- ---- an answer settles nothing where no place is unsure

covered : (r : BlockRequest) (n place : ℕ) → n ≤ r.count → nat_le r.position place ≡ true → nat_lt place (r.position + n) ≡ true
    → covers r place ≡ true
covered r n place few from to = grind (arith, nat_tests)

nothing_settled : (marks : List Mark) (a : BlockReply) (place : ℕ) → IsWellFormed marks → unsure marks place ≡ false
    → settles (asked_by a marks) (moved_by a marks) place ≡ false
nothing_settled marks a place well sure = is_false _ (λ h. at (asked_by a marks) refl (moved_by a marks) refl h)
  where
    at : (o : Option BlockRequest) → asked_by a marks ≡ o → (m : Option ℕ) → moved_by a marks ≡ m → settles o m place ≡ true → ⊥
    at None is m good h = false_not_true h
    at (Some r) is None good h = false_not_true h
    at (Some r) is (Some n) good h =
        let inside = and_parts (is_write r.kind && nat_le r.position place) (nat_lt place (r.position + n)) h in
        let parts = and_parts (is_write r.kind) (nat_le r.position place) inside.0 in
        let few : n ≤ r.count = (moved_le r.count n a.outcome (ap (λ (x : Option BlockRequest). moved_of x a) (sym is) ∙ good)).0 in
        false_not_true (sym sure ∙ unsure_open marks well r place (with_id_in a.id (open_requests marks) r is).0 parts.0 (covered r n place few parts.1 inside.1))

-- ---- what each mark leaves

abbrev Held : Geometry → Contents → Tree → List Mark → Type 0
Held g image tree marks = IsSynced g image marks (tree_after g tree marks)

answered : (g : Geometry) (image : Contents) (tree : Tree) (a : BlockReply) (marks : List Mark) → IsWellFormed marks → Held g image tree marks
    → Held g image tree (Answered a ∷ marks)
answered g image tree a marks well held = record {
  sure = record { each = λ place. ap (λ (b : Bool). not (settles (asked_by a marks) (moved_by a marks) place) && b) (held.sure.each place) ∙ none (settles (asked_by a marks) (moved_by a marks) place) };
  holds = subst (λ (d : Contents). HoldsVolume g (blocks_of g d) (tree_after g tree marks)) (sym (λ i place. same place i)) held.holds;
}
  where
    none : (b : Bool) → (not b && false) ≡ false
    none true = refl
    none false = refl

    same : (place : ℕ) → disk_after image (Answered a ∷ marks) place ≡ disk_after image marks place
    same place = ap (λ (b : Bool). cond b (byte_for (asked_by a marks) place) (disk_after image marks place))
        (nothing_settled marks a place well (held.sure.each place))

issued : (write : Bool) (covers_it before : Bool) → write ≡ false → before ≡ false → ((write && covers_it) || before) ≡ false
issued false c b w h = h
issued true c b w h = from_clash w

-- a call is a sync that was answered ok, or it looks after such calls
took : (g : Geometry) (image : Contents) (tree : Tree) (marks : List Mark) (who : Who) (now : ℕ) (call : Call) (answer : Answer) (up : Bool) → gave_up marks ≡ up
    → IsLegalTook g image (tree_after g tree marks) marks up who now call answer
    → (IsTrue (only_looks (tree_after g tree marks) who call) → IsTrue (is_settled g tree marks) → Held g image tree marks)
    → is_settled g tree (Took who now call answer ∷ marks) ≡ true
    → IsSynced g image marks (cond up (tree_after g tree marks) (tree_after_answer g (tree_after g tree marks) who now call answer))
took g image tree marks who now call answer false is legal before settled = elim (or_cases (is_sync call && is_success answer) _ settled) [
  | inl sync ↦ let both = and_parts (is_sync call) (is_success answer) sync in legal.syncs both.0 both.1
  | inr looks ↦
      let both = and_parts (only_looks (tree_after g tree marks) who call) (is_settled g tree marks) looks in
      let held = before both.0 both.1 in
      record { sure = held.sure; holds = held_after g _ (tree_after g tree marks) who now call answer both.0 held.holds }
]
took g image tree marks who now call answer true is legal before settled = elim (or_cases (is_sync call && is_success answer) _ settled) [
  | inl sync ↦ absurd (false_not_true (sym (ap is_success legal) ∙ (and_parts (is_sync call) (is_success answer) sync).1))
  | inr looks ↦ let both = and_parts (only_looks (tree_after g tree marks) who call) (is_settled g tree marks) looks in before both.0 both.1
]

held : (g : Geometry) (image : Contents) (tree : Tree) (marks : List Mark) → HoldsVolume g (blocks_of g image) tree → IsWellFormed marks
    → IsLegal g image tree marks → LookingWritesNothing g tree marks → is_settled g tree marks ≡ true → none_written marks ≡ true
    → Held g image tree marks
held g image tree [] first well legal looking settled none = record { sure = record { each = λ place. refl }; holds = first }
held g image tree (Started e ∷ marks) first well legal looking settled none =
    let h = held g image tree marks first well.0 legal looking settled none in record { sure = record { each = h.sure.each }; holds = h.holds }
held g image tree (Answered a ∷ marks) first well legal looking settled none =
    answered g image tree a marks well.0 (held g image tree marks first well.0 legal looking settled none)
held g image tree (Flush ∷ marks) first well legal looking settled none =
    let h = held g image tree marks first well.0 legal looking settled none in record { sure = record { each = h.sure.each }; holds = h.holds }
held g image tree (GaveUp ∷ marks) first well legal looking settled none =
    let h = held g image tree marks first well.0 legal looking settled none in record { sure = record { each = h.sure.each }; holds = h.holds }
held g image tree (Fault e cause ∷ marks) first well legal looking settled none =
    let h = held g image tree marks first well.0 legal looking settled none in record { sure = record { each = h.sure.each }; holds = h.holds }
held g image tree (Issued r e ∷ marks) first well legal looking settled none =
    let both = and_parts (not (is_write r.kind)) (none_written marks) none in
    let h = held g image tree marks first well.0 legal looking settled both.1 in
    record {
      sure = record { each = λ place. issued (is_write r.kind) (covers r place) (unsure marks place) (from_not both.0) (h.sure.each place) };
      holds = h.holds;
    }
  where
    from_not : {b : Bool} → not b ≡ true → b ≡ false
    from_not {b = false} h = refl
    from_not {b = true} h = absurd (false_not_true h)
held g image tree (Took who now call answer ∷ marks) first well legal looking settled none =
    let h = took g image tree marks who now call answer (gave_up marks) refl legal.1
    (λ looks before. held g image tree marks first well.0 legal.0 looking.0 before (looking.1 (both_are _ _ looks before))) settled in
    record { sure = record { each = h.sure.each }; holds = h.holds }
  where
    both_are : (a b : Bool) → a ≡ true → b ≡ true → (a && b) ≡ true
    both_are true b x y = y
    both_are false b x y = x

pub settled_is_held : SettledIsHeld
settled_is_held g image tree marks first well legal looking settled none = held g image tree marks first.holds well legal looking settled none
