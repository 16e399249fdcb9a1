-- What a call is told where there is an archive, and that a sync which is told as done was put into it.
use Rattle.std.proofs.Common.{◌≡◌, ◌∙◌, ℕ, List, refl, subst, sym, inl, inr}
use Rattle.std.specs.Prelude.{⊤, Result, Ok, Err}
use Rattle.layout.specs.declared.Geometry.{Geometry}
use Rattle.errno.specs.declared.Errno.{Errno}
use Rattle.tree.specs.declared.Call.TheVariants.{Sync}
use Rattle.tree.specs.declared.Outcome.{Outcome}
use Rattle.tree.specs.declared.Outcome.TheVariants.{Reply}
use Rattle.tree.specs.declared.Reply.TheVariants.{Done}
use Rattle.records.specs.Marks.{Mark}
use Rattle.records.specs.Opening.{Opening}
use Rattle.records.specs.Session.{SessionState}
use Rattle.reissue.specs.declared.link.Link.{Ghosts as LinkWords}
use Rattle.archive.specs.Called.{IsAnsweredBy, IsCalled}
use Rattle.archive.specs.Behind.{Puts, IsArchived, IsKeptCall, IsPut, IsTold, OkMeansPut, outcome_then}

abbrev is_done : Outcome → Type 0
is_done (Reply Done) = ⊤
is_done _ = ⊥

abbrev is_ok : Result (Unit {0}) Errno → Type 0
is_ok (Ok done) = ⊤
is_ok (Err e) = ⊥

-- ok came of the changes only where they were put
put_of : {A : Type 0} (puts : Puts A) (v : Opening) → IsArchived puts v (Ok tt) → (s : A) × (t : A) × IsPut puts v s (Ok tt) t
put_of puts v (inl put) = put
put_of puts v (inr refused) = absurd (subst is_ok refused tt)

pub ok_means_put : {A : Type 0} (puts : Puts A) → OkMeansPut puts
ok_means_put puts g v before now after it = elim it.is_told [
  | inl told ↦ (
    subst (λ (o : Outcome). IsAnsweredBy g v before now Sync o after) (sym told.0) it.answered,
    put_of puts v (told.1 (refl, sym told.0)),
  )
  | inr refused ↦ absurd (subst is_done refused.1.2 tt)
]

-- what is told of a sync that was done
pub told_of : {A : Type 0} (puts : Puts A) (v : Opening) (put : Result (Unit {0}) Errno) → IsArchived puts v put
    → IsTold (IsArchived puts v) Sync (Reply Done) (outcome_then put)
told_of puts v (Ok done) archived = inl (refl, λ synced. archived)
told_of puts v (Err e) archived = inr ((refl, refl), (e, archived, refl))

-- a sync that was done, and what is told of it
pub kept_done : {A L : Type 0} (puts : Puts A) (link : LinkWords L) (marks : L → List Mark) (g : Geometry) (v : Opening)
    (before : SessionState) (now : ℕ) (came : Outcome) (after : SessionState) (put : Result (Unit {0}) Errno) (told : Outcome)
    → IsCalled link marks g v before now Sync came after → came ≡ Reply Done → IsArchived puts v put → told ≡ outcome_then put
    → IsKeptCall puts link marks g v before now Sync told after
kept_done puts link marks g v before now came after put told called done archived is = record {
  came = Reply Done;
  called = subst (λ (o : Outcome). IsCalled link marks g v before now Sync o after) done called;
  is_told = subst (λ (o : Outcome). IsTold (IsArchived puts v) Sync (Reply Done) o) (sym is) (told_of puts v put archived);
}
