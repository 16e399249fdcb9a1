-- Where nothing is pending, a message makes a cache tell its link nothing.
use Rattle.std.proofs.Common.{◌≡◌, ℕ, zero, suc, List, [], ◌∷◌, ◌++◌, Bool, true, false, refl, sym, ap, subst, ◌∙◌, arith, Option, Some, None}
use Rattle.std.proofs.lemmas.Bool.Decides.{nat_tests}
use Rattle.std.specs.Prelude.{map, drop, not, ◌&&◌, is_some, MatchBool, if◌then◌else◌}
use Rattle.message.specs.declared.endpoint.Endpoint.{Endpoint}
use Rattle.message.specs.declared.BlockRequest.{BlockRequest}
use Rattle.message.specs.declared.Incoming.{Incoming}
use Rattle.message.specs.declared.Incoming.TheVariants as incoming
use Rattle.records.specs.Marks.{Mark, gave_up, last_started, is_endpoint}
use Rattle.records.specs.Open.{open_requests, with_id, moved_by}
use Rattle.records.specs.Told.{Told}
use Rattle.reissue.specs.Settlements.{Settlement}
use Rattle.reissue.specs.Settlements as settled
use Rattle.reissue.specs.declared.pending.Pending.{Pending}
use Rattle.reissue.specs.declared.table.Table.{Table}
use Rattle.reissue.specs.Moves.{Begun, Closes}
use Rattle.reissue.specs.Entries.{pending_of, begun_of, request_of}
use Rattle.reissue.specs.Agrees.{Agrees, unposted}
use Rattle.reissue.specs.Answers.{complaints_about}
use Rattle.reissue.specs.Posts.{PostsInOrder, is_message, due_after}
use Rattle.reissue.specs.Calls.{Absorbs}
use Rattle.cache.specs.Calls.{AbstractCache, IsIdle}

-- nothing can be taken out of nothing
none_closed : (res : Settlement) (new : ℕ → Option Begun) → Closes res (pending_of []) new → (t : ℕ) → new t ≡ None
none_closed (settled.Read u bytes) new closes t = absurd (let e : None ≡ Some closes.0 = closes.1 in cc)
none_closed (settled.Written u) new closes t = absurd (let e : None ≡ Some closes.0 = closes.2 in cc)
none_closed settled.Nothing new closes t = ap (λ (f : ℕ → Option Begun). f t) closes
none_closed settled.Flush new closes t = ap (λ (f : ℕ → Option Begun). f t) closes
none_closed settled.GaveUp new closes t = ap (λ (f : ℕ → Option Begun). f t) closes
none_closed settled.End new closes t = ap (λ (f : ℕ → Option Begun). f t) closes

first_there : (p : Pending) (ps : List Pending) → pending_of (p ∷ ps) p.ticket ≡ Some (begun_of p)
first_there p ps = grind (arith, nat_tests)

none_left : (ps : List Pending) → ((t : ℕ) → pending_of ps t ≡ None) → ps ≡ []
none_left [] none = refl
none_left (p ∷ ps) none = absurd (let e : Some (begun_of p) ≡ None = sym (first_there p ps) ∙ none p.ticket in cc)

-- nothing is open in a record that agrees with nothing pending
none_open : (table : Table) (marks : List Mark) → table.pending ≡ [] → Agrees table marks → open_requests marks ≡ []
none_open table marks none agrees =
    sym agrees.holds.requests ∙ ap (λ (l : List Pending). map request_of l) (first_empty agrees.opened agrees.waiting (sym agrees.holds.items ∙ none))
  where
    first_empty : (xs ys : List Pending) → xs ++ ys ≡ [] → xs ≡ []
    first_empty [] ys e = refl
    first_empty (x ∷ xs) ys e = absurd (let f : x ∷ (xs ++ ys) ≡ [] = e in cc)

-- so no complaint is due
none_due : (m : Incoming) (marks : List Mark) → open_requests marks ≡ [] → due_after m marks ≡ None
none_due (incoming.Reply a) marks none = by (not (gave_up marks)) (is_endpoint a.from (last_started marks)) where
  by : (x y : Bool) → (if (x && y && is_some (with_id a.id (open_requests marks))) && not (is_some (moved_by a marks)) then Some a.from else None) ≡ None
  by true true = rw none refl
  by true false = refl
  by false true = refl
  by false false = refl
none_due (incoming.Started e) marks none = refl
none_due incoming.GaveUp marks none = refl
none_due incoming.Flush marks none = refl
none_due incoming.End marks none = refl

-- and nothing is posted
none_posted : (to : Option Endpoint) (before after : List Told) → PostsInOrder to [] before after → after ≡ before
none_posted None before after h = h
none_posted (Some e) before after h = h

drop_none : (n : ℕ) → ◌≡◌ {A = List Pending} (drop n []) []
drop_none zero = refl
drop_none (suc n) = refl

none_unposted : (table : Table) → table.pending ≡ [] → unposted table ≡ []
none_unposted table none = ap (λ (l : List Pending). map request_of (drop table.posted l)) none ∙ ap (λ (l : List Pending). map request_of l) (drop_none table.posted)

pub silent : (m : Incoming) (res : Settlement) (old new : AbstractCache)
    → Absorbs m res old.table new.table old.told new.told old.truth new.truth → IsIdle old → new.told ≡ old.told
silent m res old new x idle =
    let closes : Closes res (pending_of []) (pending_of new.table.pending) =
    subst (λ (l : List Pending). Closes res (pending_of l) (pending_of new.table.pending)) idle.none x.closes in
    let left : x.mid.pending ≡ [] = sym x.same ∙ none_left new.table.pending (none_closed res (pending_of new.table.pending) closes) in
    let quiet : x.complaints ≡ [] = x.due idle.marks idle.agrees
    ∙ ap complaints_about (none_due m idle.marks (none_open old.table idle.marks idle.none idle.agrees)) in
    told (is_message m) (unposted x.mid) (x.complaints ++ old.told) (none_unposted x.mid left) x.in_order ∙ ap (λ (l : List Told). l ++ old.told) quiet
  where
    told : (b : Bool) (rs : List BlockRequest) (before : List Told) → rs ≡ []
        → MatchBool b (PostsInOrder x.mid.current rs before new.told) (new.told ≡ before) → new.told ≡ before
    told true rs before none h =
        none_posted x.mid.current before new.told (subst (λ (l : List BlockRequest). PostsInOrder x.mid.current l before new.told) none h)
    told false rs before none h = h
