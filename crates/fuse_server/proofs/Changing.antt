-- Changes that are made, one after the other.
use Rattle.std.proofs.Common.{◌≡◌, ◌≤◌, ◌+◌, ◌∙◌, ℕ, false, List, [], ◌∷◌, ◌++◌, append-nil, append_assoc, length, Option, Some, None, Result, refl, sym, ap, subst, arith}
use Rattle.std.proofs.lemmas.List.{length-append}
use Rattle.std.specs.Option.{option_map, option_to_list}
use Rattle.tree.specs.declared.Call.{Call}
use Rattle.tree.specs.declared.Call.TheVariants as call
use Rattle.tree.specs.declared.Outcome.{Outcome}
use Rattle.tree.specs.declared.Outcome.TheVariants as outcome
use Rattle.tree.specs.declared.PathFrom.{PathFrom}
use Rattle.tree.specs.declared.Reply.TheVariants as reply
use Rattle.talks.specs.Changes.{in_order, change_call}
use Rattle.talks.specs.Plain.{plain_call}
use Rattle.talks.specs.declared.ask.Leaving.{Leaving}
use Rattle.talks.specs.declared.changes.Change.{Change}
use Rattle.talks.specs.declared.changes.Change.TheVariants as change
use Rattle.talks.specs.declared.changes.Changes.{Changes}
use Rattle.talks.specs.declared.heard.Heard.{Heard}
use Rattle.talks.specs.declared.heard.Heard.TheVariants as heard_of
use Rattle.talks.specs.declared.sessions.EnterRefusal.{EnterRefusal}
use Rattle.fuse_server.specs.Asking.{TalkedBy, TalkedFor}
use Rattle.fuse_server.specs.Changing.{changes_done}
use Rattle.fuse_server.specs.Losing.{takes_name}
use Rattle.fuse_server.proofs.Asking.{by_both, by_none, by_one, by_same}

-- no more changes than there are kinds of them
one_at_most : {A : Type 0} (o : Option A) → length (option_to_list o) ≤ 1
one_at_most None = omega arith
one_at_most (Some a) = omega arith

few_changes : (c : Changes) → length (in_order c) ≤ 4
few_changes c =
    let sizes = option_to_list (option_map (λ size. change.Size size) c.size) in
    let owners = option_to_list (option_map (λ (owners : ℕ × ℕ). change.Owners owners.0 owners.1) c.owners) in
    let modes = option_to_list (option_map (λ mode. change.Mode mode) c.mode) in
    let times = option_to_list (option_map (λ (times : ℕ × ℕ). change.Times times.0 times.1) c.times) in
    omega (
      arith,
      length-append sizes (owners ++ (modes ++ times)),
      length-append owners (modes ++ times),
      length-append modes times,
      one_at_most (option_map (λ size. change.Size size) c.size),
      one_at_most (option_map (λ (owners : ℕ × ℕ). change.Owners owners.0 owners.1) c.owners),
      one_at_most (option_map (λ mode. change.Mode mode) c.mode),
      one_at_most (option_map (λ (times : ℕ × ℕ). change.Times times.0 times.1) c.times),
    )

-- a change takes no name away, wherever its path's bytes stand
plainly_quiet : (c : Call) → takes_name (plain_call c) ≡ takes_name c
plainly_quiet (call.Open path flags mode) = refl
plainly_quiet (call.Write fd bytes) = refl
plainly_quiet (call.Stat path) = refl
plainly_quiet (call.Link old new) = refl
plainly_quiet (call.Unlink path) = refl
plainly_quiet (call.Mkdir path mode) = refl
plainly_quiet (call.Rmdir path) = refl
plainly_quiet (call.Rename old new) = refl
plainly_quiet (call.Chmod path mode) = refl
plainly_quiet (call.Chown path uid gid) = refl
plainly_quiet (call.Utime path atime mtime) = refl
plainly_quiet (call.Truncate path size) = refl
plainly_quiet (call.Symlink target path) = refl
plainly_quiet (call.Readlink path) = refl
plainly_quiet (call.Lstat path) = refl
plainly_quiet c = refl

change_quiet : (path : PathFrom) (c : Change) → takes_name (change_call path c) ≡ false
change_quiet path (change.Size size) = refl
change_quiet path (change.Owners uid gid) = refl
change_quiet path (change.Mode mode) = refl
change_quiet path (change.Times atime mtime) = refl

quiet_change : (path : PathFrom) (c : Change) (asked : Call) → plain_call asked ≡ change_call path c → takes_name asked ≡ false
quiet_change path c asked is = sym (plainly_quiet asked) ∙ (ap (λ (x : Call). takes_name x) is ∙ change_quiet path c)

-- Of all changes these are left, after so many turns; the others were made.
pub record Changing {S : Type 0} (called : S → ℕ → ℕ → Call → Outcome → S → Type 0)
    (entered : S → ℕ → ℕ → Result ℕ EnterRefusal → S → Type 0) (left : S → Leaving → S → Type 0) (now : ℕ)
    (s : S) (path : PathFrom) (all rest : List Change) (turns : ℕ) (t : S) : Type 0 where
  pub calls : List (Call × Heard)
  pub talked : TalkedBy called entered left now s calls t
  pub made : calls ++ changes_done path rest ≡ changes_done path all
  pub few : length rest + turns ≤ 4

pub begins : {S : Type 0} (called : S → ℕ → ℕ → Call → Outcome → S → Type 0) (entered : S → ℕ → ℕ → Result ℕ EnterRefusal → S → Type 0)
    (left : S → Leaving → S → Type 0) (now : ℕ) (s : S) (path : PathFrom) (changes : Changes)
    → Changing called entered left now s path (in_order changes) (in_order changes) 0 s
begins called entered left now s path changes = record {
  calls = [];
  talked = by_none called entered left now s;
  made = refl;
  few = omega (arith, few_changes changes);
}

-- one more is made
one_made : (path : PathFrom) (calls total : List (Call × Heard)) (c : Change) (asked : Call) (more : List Change)
    → plain_call asked ≡ change_call path c → calls ++ changes_done path (c ∷ more) ≡ total
    → (calls ++ ((plain_call asked, heard_of.Outcome (outcome.Reply reply.Done)) ∷ [])) ++ changes_done path more ≡ total
one_made path calls total c asked more is made =
    let With : Call → List (Call × Heard) = λ x. calls ++ ((x, heard_of.Outcome (outcome.Reply reply.Done)) ∷ changes_done path more) in
    append_assoc calls ((plain_call asked, heard_of.Outcome (outcome.Reply reply.Done)) ∷ []) (changes_done path more) ∙ (ap With is ∙ made)

pub goes_further : {S : Type 0} {called : S → ℕ → ℕ → Call → Outcome → S → Type 0}
    {entered : S → ℕ → ℕ → Result ℕ EnterRefusal → S → Type 0} {left : S → Leaving → S → Type 0} {now : ℕ}
    {s t u : S} {path : PathFrom} {all rest : List Change} {turns : ℕ} (next : ℕ) (c : Change) (more : List Change) (asked : Call)
    → next ≡ turns + 1 → rest ≡ c ∷ more → plain_call asked ≡ change_call path c
    → Changing called entered left now s path all rest turns t → TalkedFor called entered left now t asked reply.Done u
    → Changing called entered left now s path all more next u
goes_further {path = path} {all} {rest} {turns} next c more asked after parts is before last =
    let M : List Change → Type 0 = λ xs. before.calls ++ changes_done path xs ≡ changes_done path all in
    let F : List Change → Type 0 = λ xs. length xs + turns ≤ 4 in
    let enough : length (c ∷ more) + turns ≤ 4 = subst F parts before.few in record {
      calls = before.calls ++ ((plain_call asked, heard_of.Outcome (outcome.Reply reply.Done)) ∷ []);
      talked = by_both before.talked (by_one (quiet_change path c asked is) last);
      made = one_made path before.calls (changes_done path all) c asked more is (subst M parts before.made);
      few = omega (arith, after, enough);
    }

-- all were made, where none is left
pub all_made : {S : Type 0} {called : S → ℕ → ℕ → Call → Outcome → S → Type 0}
    {entered : S → ℕ → ℕ → Result ℕ EnterRefusal → S → Type 0} {left : S → Leaving → S → Type 0} {now : ℕ}
    {s t : S} {path : PathFrom} {all rest : List Change} {turns : ℕ} → rest ≡ []
    → Changing called entered left now s path all rest turns t → TalkedBy called entered left now s (changes_done path all) t
all_made {path = path} {all} none it =
    let M : List Change → Type 0 = λ xs. it.calls ++ changes_done path xs ≡ changes_done path all in
    by_same (sym (append-nil it.calls) ∙ subst M none it.made) it.talked

-- none is left after four turns
pub none_left : {S : Type 0} {called : S → ℕ → ℕ → Call → Outcome → S → Type 0}
    {entered : S → ℕ → ℕ → Result ℕ EnterRefusal → S → Type 0} {left : S → Leaving → S → Type 0} {now : ℕ}
    {s t : S} {path : PathFrom} {all : List Change} (rest : List Change) (turns : ℕ) → 4 ≤ turns
    → Changing called entered left now s path all rest turns t → rest ≡ []
none_left [] turns most it = refl
none_left (c ∷ rest) turns most it = absurd (omega (arith, most, it.few))
