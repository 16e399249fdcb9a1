-- What is done on a message that is handed over between two calls.
use Rattle.std.proofs.Common.{◌≡◌, ℕ, ◌+◌, ◌-◌, List, [], ◌∷◌, ◌++◌, length, drop, length-append, Bool, true, false, cond, refl, sym, ◌∙◌, ap, subst, arith, append_assoc}
use Rattle.std.specs.Prelude.{nat_lt}
use Rattle.std.proofs.lemmas.Bool.Decides.{nat_tests}
use Rattle.message.specs.declared.Incoming.{Incoming}
use Rattle.message.specs.declared.Incoming.TheVariants as incoming
use Rattle.records.specs.Marks.{Mark}
use Rattle.records.specs.Area.{Area}
use Rattle.records.specs.Told.{Told, Posted, Complained, Received, received, grown, took_nothing}
use Rattle.records.specs.Acts.{Act, Began, Absorbed, AtLink, told_of, has_absorbed}
use Rattle.reissue.specs.Settlements.{Settlement}
use Rattle.reissue.specs.declared.pending.Pending.{Pending}
use Rattle.reissue.specs.declared.table.Table.{Table}
use Rattle.reissue.specs.Entries.{AllIn}
use Rattle.reissue.specs.Agrees.{Agrees}
use Rattle.reissue.specs.Posts.{OnlyPosts}
use Rattle.reissue.specs.Rules.{KeepsRulesBy, at_link, all_began, began_on, acts_on}
use Rattle.reissue.specs.Calls.{Absorbs, Truth}

-- what was told by acts and others after them
pub told_both : (xs ys : List Act) → told_of (xs ++ ys) ≡ told_of xs ++ told_of ys
told_both [] ys = refl
told_both (Began r ∷ xs) ys = told_both xs ys
told_both (Absorbed m ∷ xs) ys = told_both xs ys
told_both (AtLink t ∷ xs) ys = ap (λ (l : List Told). t ∷ l) (told_both xs ys)

-- none of both is handed over
pub none_of_both : (xs ys : List Act) → has_absorbed xs ≡ false → has_absorbed ys ≡ false → has_absorbed (xs ++ ys) ≡ false
none_of_both [] ys h k = k
none_of_both (Began r ∷ xs) ys h k = none_of_both xs ys h k
none_of_both (Absorbed m ∷ xs) ys h k = cc
none_of_both (AtLink t ∷ xs) ys h k = none_of_both xs ys h k

-- what becomes pending is told to nobody
began_told : (b : Bool) (ps : List Pending) → told_of (cond b (all_began ps) []) ≡ []
began_told false ps = refl
began_told true [] = refl
began_told true (p ∷ ps) = began_told true ps

-- it isn't handed over either
began_none : (b : Bool) (ps : List Pending) → has_absorbed (cond b (all_began ps) []) ≡ false
began_none false ps = refl
began_none true [] = refl
began_none true (p ∷ ps) = began_none true ps

-- nor is what is told to the link
link_told : (ts : List Told) → told_of (at_link ts) ≡ ts
link_told [] = refl
link_told (t ∷ ts) = ap (λ (l : List Told). t ∷ l) (link_told ts)

link_none : (ts : List Told) → has_absorbed (at_link ts) ≡ false
link_none [] = refl
link_none (t ∷ ts) = link_none ts

-- what is done on any message but End
abbrev acts_then : List Told → Table → Table → List Told → List Act
acts_then posts old mid complaints = at_link posts ++ (began_on old mid ++ at_link complaints)

acts_told : (posts complaints : List Told) (old mid : Table) → told_of (acts_then posts old mid complaints) ≡ posts ++ complaints
acts_told posts complaints old mid =
    told_both (at_link posts) (began_on old mid ++ at_link complaints)
    ∙ ap (λ (l : List Told). l ++ told_of (began_on old mid ++ at_link complaints)) (link_told posts)
    ∙ ap (λ (l : List Told). posts ++ l) (told_both (began_on old mid) (at_link complaints)
    ∙ ap (λ (l : List Told). l ++ told_of (at_link complaints)) (began_told (nat_lt old.ids mid.ids) (drop (length mid.pending - 1) mid.pending))
    ∙ link_told complaints)

acts_none : (posts complaints : List Told) (old mid : Table) → has_absorbed (acts_then posts old mid complaints) ≡ false
acts_none posts complaints old mid =
    none_of_both (at_link posts) (began_on old mid ++ at_link complaints) (link_none posts)
    (none_of_both (began_on old mid) (at_link complaints) (began_none (nat_lt old.ids mid.ids) (drop (length mid.pending - 1) mid.pending)) (link_none complaints))

-- posts and a complaint take no message
took_none : (posts complaints : List Told) → OnlyPosts posts → took_nothing complaints ≡ true → took_nothing (posts ++ complaints) ≡ true
took_none [] complaints only quiet = quiet
took_none (Posted to r accepted ∷ posts) complaints only quiet = took_none posts complaints only quiet
took_none (Complained about ∷ posts) complaints only quiet = absurd only
took_none (Received message ∷ posts) complaints only quiet = absurd only

-- what adds nothing is nothing
no_more : (xs ys : List Told) → ys ≡ xs ++ ys → xs ≡ []
no_more [] ys h = refl
no_more (x ∷ xs) ys h =
    let l : length ys ≡ length (x ∷ xs ++ ys) = ap (λ (k : List Told). length k) h in
    let m : length (x ∷ xs ++ ys) ≡ length (x ∷ xs) + length ys = length-append (x ∷ xs) ys in
    absurd (omega (arith, l, m))

-- What is done on a message that is handed over.
pub record Done (m : Incoming) (old new : Table) (before after : List Told) (posts : List Told) : Type 0 where
  pub acts : List Act
  pub done : after ≡ told_of acts ++ before
  pub none_absorbed : has_absorbed acts ≡ false
  pub none_taken : took_nothing (told_of acts) ≡ true
  pub no_effect : m ≡ incoming.End → acts ≡ []
  pub rules : (area : Area) (marks : List Mark) → Agrees old marks → AllIn area old.pending
      → KeepsRulesBy (acts ++ Absorbed m ∷ []) area old new before after marks (grown posts (received m marks))

-- any message but End
done_other : (m : Incoming) (res : Settlement) (old new : Table) (before after : List Told) (was is : Truth)
    → (m ≡ incoming.End → ⊥) → (x : Absorbs m res old new before after was is) → Done m old new before after x.posts
done_other m res old new before after was is other x = record {
  acts = acts_then x.posts old x.mid x.complaints;
  done = x.history ∙ sym (append_assoc x.posts x.complaints before) ∙ ap (λ (l : List Told). l ++ before) (sym (acts_told x.posts x.complaints old x.mid));
  none_absorbed = acts_none x.posts x.complaints old x.mid;
  none_taken = ap took_nothing (acts_told x.posts x.complaints old x.mid) ∙ took_none x.posts x.complaints x.only_posts x.quiet;
  no_effect = λ e. absurd (other e);
  rules = λ area marks k minors.
      subst (λ (l : List Act). KeepsRulesBy l area old new before after marks (grown x.posts (received m marks))) (sym same) (x.rules area marks k minors);
}
  where
    same : acts_then x.posts old x.mid x.complaints ++ Absorbed m ∷ [] ≡ acts_on x.posts old x.mid x.complaints (Absorbed m ∷ [])
    same = append_assoc (at_link x.posts) (began_on old x.mid ++ at_link x.complaints) (Absorbed m ∷ [])
        ∙ ap (λ (l : List Act). at_link x.posts ++ l) (append_assoc (began_on old x.mid) (at_link x.complaints) (Absorbed m ∷ []))

-- an End
done_end : (res : Settlement) (old new : Table) (before after : List Told) (was is : Truth) → after ≡ before
    → (x : Absorbs incoming.End res old new before after was is) → Done incoming.End old new before after x.posts
done_end res old new before after was is stays x = record {
  acts = [];
  done = stays;
  none_absorbed = refl;
  none_taken = refl;
  no_effect = λ e. refl;
  rules = λ area marks k minors.
      subst (λ (l : List Act). KeepsRulesBy l area old new before after marks (grown x.posts (received incoming.End marks))) (same marks k)
      (x.rules area marks k minors);
}
  where
    no_posts : x.posts ≡ []
    no_posts = no_more x.posts (x.complaints ++ before) (sym x.in_order ∙ x.history)

    began : (n : ℕ) → n ≡ old.ids → (ps : List Pending) → cond (nat_lt old.ids n) (all_began ps) [] ≡ []
    began n e ps = let no : nat_lt old.ids n ≡ false = grind (arith, nat_tests, e) in rw no refl

    same : (marks : List Mark) → Agrees old marks → acts_on x.posts old x.mid x.complaints (Absorbed incoming.End ∷ []) ≡ Absorbed incoming.End ∷ []
    same marks k =
        ap (λ (l : List Told). acts_on l old x.mid x.complaints (Absorbed incoming.End ∷ [])) no_posts
        ∙ ap (λ (l : List Told). acts_on [] old x.mid l (Absorbed incoming.End ∷ [])) (x.due marks k)
        ∙ ap (λ (l : List Act). l ++ Absorbed incoming.End ∷ []) (began x.mid.ids (x.hears marks k).0.ids (drop (length x.mid.pending - 1) x.mid.pending))

-- each message
pub done_on : (m : Incoming) (res : Settlement) (old new : Table) (before after : List Told) (was is : Truth) → (m ≡ incoming.End → after ≡ before)
    → (x : Absorbs m res old new before after was is) → Done m old new before after x.posts
done_on (incoming.Reply a) res old new before after was is stays x = done_other (incoming.Reply a) res old new before after was is (λ e. cc) x
done_on (incoming.Started d) res old new before after was is stays x = done_other (incoming.Started d) res old new before after was is (λ e. cc) x
done_on incoming.GaveUp res old new before after was is stays x = done_other incoming.GaveUp res old new before after was is (λ e. cc) x
done_on incoming.Flush res old new before after was is stays x = done_other incoming.Flush res old new before after was is (λ e. cc) x
done_on incoming.End res old new before after was is stays x = done_end res old new before after was is (stays refl) x
