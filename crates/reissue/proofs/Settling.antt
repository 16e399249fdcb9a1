-- What an answer does to the entries, exactly.
use Rattle.std.proofs.Common.{◌≡◌, ℕ, ◌+◌, ◌-◌, ◌<◌, [], ◌∷◌, ◌++◌, length, get_or, Bool, false, cond, sym, subst, arith}
use Rattle.std.proofs.lemmas.Bool.Decides.{nat_tests}
use Rattle.std.specs.Prelude.{nat_lt, remove}
use Rattle.lemmas.proofs.Numbers.{less_holds}
use Rattle.reissue.specs.declared.pending.Pending.{Pending}
use Rattle.reissue.specs.declared.table.Table.{Table}
use Rattle.reissue.specs.Hears.{IsRest, LeavesRest, IsAnswered}

-- an issued place is a place
pub issued_within : (t : Table) (at : ℕ) → at < t.issued → at < length t.pending
issued_within t at lt = omega (arith, lt, t.within)

-- the same isn't less
not_less : (n m : ℕ) → n ≡ m → nat_lt n m ≡ false
not_less n m e = grind (arith, nat_tests)

-- nothing is left of it
pub answered_whole : (t v : Table) (id at n : ℕ) (e : Pending) → at < t.issued → e ≡ get_or t.pending at e → e.request.id ≡ id
    → n ≡ e.request.count → v.pending ≡ remove t.pending at → v.ids ≡ t.ids
    → v.posted ≡ cond (nat_lt at t.posted) (t.posted - 1) t.posted → v.issued + 1 ≡ t.issued → IsAnswered t v id n
answered_whole t v id at n e lt is same all items ids posted issued = record {
  at = at;
  entry = e;
  issued = lt;
  there = is;
  id_is = same;
  left = subst (λ (b : Bool). LeavesRest t v at e n b) (sym (not_less n e.request.count all)) (items, ids);
  posted = posted;
  issued_left = issued;
}

-- its rest goes to the end
pub answered_part : (t v : Table) (id at n : ℕ) (e r : Pending) → at < t.issued → e ≡ get_or t.pending at e → e.request.id ≡ id
    → n < e.request.count → v.pending ≡ remove t.pending at ++ r ∷ [] → v.ids ≡ t.ids + 1 → IsRest e r n (t.ids + 1)
    → v.posted ≡ cond (nat_lt at t.posted) (t.posted - 1) t.posted → v.issued + 1 ≡ t.issued → IsAnswered t v id n
answered_part t v id at n e r lt is same part items ids rest posted issued = record {
  at = at;
  entry = e;
  issued = lt;
  there = is;
  id_is = same;
  left = subst (λ (b : Bool). LeavesRest t v at e n b) (sym (less_holds n e.request.count part)) (r, items, rest, ids);
  posted = posted;
  issued_left = issued;
}
