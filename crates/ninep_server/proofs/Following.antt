-- How plans are followed.
use Rattle.std.proofs.Common.{◌≡◌, ◌∙◌, ◌+◌, ℕ, suc, Bool, true, false, List, Option, Some, None, Result, Ok, inl, inr, refl, sym, subst, arith}
use Rattle.errno.specs.declared.Errno.TheVariants.{ENOMEM}
use Rattle.ninep.specs.Requests.{Body}
use Rattle.tree.specs.declared.Reply.{Reply}
use Rattle.tree.specs.declared.Call.TheVariants as call
use Rattle.ninep_fids.specs.Fids.{EachBecomes, IsUnlinked}
use Rattle.ninep_fids.specs.Knowledge.{Known, File, found, has_fid, without, parted}
use Rattle.ninep_fids.specs.Plans.{Plan, Says, Asks, Changes, OrNoMemory, IsSaid, Drops, Follows, closing, letting_go, error, with_it}
use Rattle.ninep_fids.specs.Nodes.{said_of}
use Rattle.talks.specs.declared.refused.Refused.{Refused}
use Rattle.talks.specs.declared.refused.Refused.TheVariants.{By, Stale}
use Rattle.ninep_fids.specs.declared.answer.NinepAnswer.TheVariants as answer
use Rattle.talks.specs.declared.ask.Ask.{Ask}
use Rattle.talks.specs.declared.ask.Ask.TheVariants as ask
use Rattle.talks.specs.declared.heard.Heard.{Heard}
use Rattle.ninep_fids.specs.declared.answer.Said.{Said}
use Rattle.ninep_server.specs.Naming.{removed, removes, removing_file}
use Rattle.ninep_server.specs.Progress.{left_of, left_of_turn, AsksNext, behind, SaysSame, Leaves, IsCarriedOn, Within}
use Rattle.ninep_server.specs.Messages.{syncing, synced}
use Rattle.ninep_server.specs.declared.work.Work.{Work}
use Rattle.ninep_server.specs.declared.turn.Turn.{Turn}
use Rattle.ninep_server.specs.declared.turn.Turn.TheVariants as turn

-- what says the same is followed by saying it
says_it : {S : Type 0} (may : S → Ask → Heard → S → Type 0) (q : Plan) (body : ℕ → Body) (s u : S) (l m : Known) (it : Said)
    → SaysSame q body → Follows may q s l it u m → IsSaid it body × (u ≡ s) × (m ≡ l)
says_it may (Says other) body s u l m it h f = ((λ most. f.0 most ∙ h most), f.1, f.2)
says_it may (Asks asked next) body s u l m it h f = absurd h
says_it may (Changes change next) body s u l m it h f = absurd h
says_it may (OrNoMemory next) body s u l m it h f = absurd h

says_alone : {S : Type 0} (may : S → Ask → Heard → S → Type 0) (q : Plan) (body : ℕ → Body) (s u : S) (k l m : Known) (it : Said)
    → SaysSame q body → l ≡ k → Follows may q s l it u m → IsSaid it body × (u ≡ s) × (m ≡ k)
says_alone may q body s u k l m it h same f =
    let it_is : IsSaid it body × (u ≡ s) × (m ≡ l) = says_it may q body s u l m it h f in
    (it_is.0, it_is.1, it_is.2 ∙ same)

-- what is left of a plan carries it on
pub carried : {S : Type 0} (may : S → Ask → Heard → S → Type 0) (p q : Plan) (s : S) (k l : Known) → Leaves p k q l
    → IsCarriedOn may p s k q s l
carried may (Says body) q s k l h it u m f = says_alone may q body s u k l m it h.0 h.1 f
carried may (Asks asked next) q s k l h it u m f =
    subst (λ (n : Known). Follows may (Asks asked next) s n it u m) h.1 (subst (λ (r : Plan). Follows may r s l it u m) h.0 f)
carried may (Changes change next) q s k l h it u m f = (h.0, h.1, carried may next q s h.0 l h.2 it u m f)
carried may (OrNoMemory next) q s k l (inl h) it u m f = inl (carried may next q s k l h it u m f)
carried may (OrNoMemory next) q s k l (inr h) it u m f = inr (says_alone may q (error (By ENOMEM)) s u k l m it h.0 h.1 f)

exchanged : {S : Type 0} (may : S → Ask → Heard → S → Type 0) (p q : Plan) (a : Ask) (h : Heard) (s t : S) (k l : Known) → AsksNext p a
    → may s a h t → Leaves (behind p h) k q l → IsCarriedOn may p s k q t l
exchanged may (Says body) q a h s t k l asks heard left it u m f = absurd asks
exchanged may (Asks asked next) q a h s t k l asks heard left it u m f =
    (a, h, t, asks, heard, carried may (next h) q t k l left it u m f)
exchanged may (Changes change next) q a h s t k l asks heard left it u m f = absurd asks
exchanged may (OrNoMemory next) q a h s t k l asks heard left it u m f = absurd asks

-- an exchange carries a plan on
pub carried_on : {S : Type 0} (may : S → Ask → Heard → S → Type 0) (p q r : Plan) (a : Ask) (h : Heard) (s t : S) (k l : Known)
    → AsksNext p a → may s a h t → Leaves (behind p h) k q l → r ≡ q → IsCarriedOn may p s k r t l
carried_on may p q r a h s t k l asks heard left same =
    subst (λ (x : Plan). IsCarriedOn may p s k x t l) (sym same) (exchanged may p q a h s t k l asks heard left)

-- one thing is carried on after the other
pub carried_further : {S : Type 0} (may : S → Ask → Heard → S → Type 0) (p q r : Plan) (s t u : S) (k l m : Known)
    → IsCarriedOn may p s k q t l → IsCarriedOn may q t l r u m → IsCarriedOn may p s k r u m
carried_further may p q r s t u k l m first second it v n f = first it v n (second it v n f)

says_few : (n : ℕ) (q : Plan) (body : ℕ → Body) → SaysSame q body → Within q n
says_few n (Says other) body h = tt
says_few n (Asks asked next) body h = absurd h
says_few n (Changes change next) body h = absurd h
says_few n (OrNoMemory next) body h = absurd h

-- what is left of a plan asks no more than it
pub left_few : (n : ℕ) (p q : Plan) (k l : Known) → Within p n → Leaves p k q l → Within q n
left_few n (Says body) q k l few h = says_few n q body h.0
left_few n (Asks asked next) q k l few h = subst (λ (r : Plan). Within r n) (sym h.0) few
left_few n (Changes change next) q k l few h = left_few n next q h.0 l few h.2
left_few n (OrNoMemory next) q k l few (inl h) = left_few n next q k l few h
left_few n (OrNoMemory next) q k l few (inr h) = says_few n q (error (By ENOMEM)) h.0

fewer : (n : ℕ) (p q : Plan) (a : Ask) (h : Heard) (k l : Known) → AsksNext p a → Leaves (behind p h) k q l → Within p (suc n) → Within q n
fewer n (Says body) q a h k l asks left few = absurd asks
fewer n (Asks asked next) q a h k l asks left few = left_few n (next h) q k l (few h) left
fewer n (Changes change next) q a h k l asks left few = absurd asks
fewer n (OrNoMemory next) q a h k l asks left few = absurd asks

-- how few things a plan still asks, where its answer begins
pub begins_few : (n : ℕ) (p q : Plan) (k l : Known) → n + 0 ≡ 16 → Within p 16 → Leaves p k q l → Within q n
begins_few n p q k l e few h =
    let same : 16 ≡ n = omega (arith, e) in
    subst (λ (m : ℕ). Within q m) same (left_few 16 p q k l few h)

-- and behind one thing more
pub goes_few : (n i : ℕ) (q r : Plan) → n + (i + 1) ≡ 16 → ((m : ℕ) → m + i ≡ 16 → Within q m) → (Within q (suc n) → Within r n)
    → Within r n
goes_few n i q r e before step =
    let same : suc n + i ≡ 16 = omega (arith, e) in
    step (before (suc n) same)

-- what is said is followed
pub ends : {S : Type 0} (may : S → Ask → Heard → S → Type 0) (p : Plan) (s t : S) (k l : Known) (here : Turn) (it : Said)
    → here ≡ turn.Said it → IsCarriedOn may p s k (left_of_turn here) t l → Follows may p s k it t l
ends may p s t k l here it e carries =
    carries it t l (subst (λ (x : Turn). Follows may (left_of_turn x) t l it t l) (sym e) ((λ most. refl), refl, refl))

-- where it is known what an answer waits for
pub work_carried : {S : Type 0} (may : S → Ask → Heard → S → Type 0) (here : Turn) (w : Work) (q r : Plan) (a : Ask) (h : Heard) (s t : S)
    (k l : Known) → here ≡ turn.Go w → AsksNext (left_of w) a → may s a h t → Leaves (behind (left_of w) h) k q l → r ≡ q
    → IsCarriedOn may (left_of_turn here) s k r t l
work_carried {S} may here w q r a h s t k l e asks heard left same =
    let P : Turn → Type 0 = λ x. IsCarriedOn may (left_of_turn x) s k r t l in
    subst P (sym e) (carried_on may (left_of w) q r a h s t k l asks heard left same)

pub work_few : (n : ℕ) (here : Turn) (w : Work) (q r : Plan) (a : Ask) (h : Heard) (k l : Known) → here ≡ turn.Go w
    → AsksNext (left_of w) a → Leaves (behind (left_of w) h) k q l → r ≡ q → Within (left_of_turn here) (suc n) → Within r n
work_few n here w q r a h k l e asks left same =
    let P : Turn → Type 0 = λ x. Within (left_of_turn x) (suc n) → Within r n in
    subst P (sym e) (λ few. subst (λ (x : Plan). Within x n) (sym same) (fewer n (left_of w) q a h k l asks left few))

pub sync_carried : {S : Type 0} (may : S → Ask → Heard → S → Type 0) (here : Turn) (session : ℕ) (r : Plan) (h : Heard) (s t : S)
    (k : Known)
    → here ≡ turn.Sync session → may s (ask.Call session call.Sync) h t → Leaves (synced h) k r k
    → IsCarriedOn may (left_of_turn here) s k r t k
sync_carried {S} may here session r h s t k e heard left =
    let P : Turn → Type 0 = λ x. IsCarriedOn may (left_of_turn x) s k r t k in
    subst P (sym e) (exchanged may (syncing session) r (ask.Call session call.Sync) h s t k k refl heard left)

pub sync_few : (n : ℕ) (here : Turn) (session : ℕ) (r : Plan) (h : Heard) (k : Known) → here ≡ turn.Sync session
    → Leaves (synced h) k r k → Within (left_of_turn here) (suc n) → Within r n
sync_few n here session r h k e left =
    let P : Turn → Type 0 = λ x. Within (left_of_turn x) (suc n) → Within r n in
    subst P (sym e) (fewer n (syncing session) r (ask.Call session call.Sync) h k k refl left)

-- the same is left
closes : (session : ℕ) (d : Option ℕ) (body : ℕ → Body) (k : Known) → Leaves (closing session d body) k (closing session d body) k
closes session None body k = ((λ most. refl), refl)
closes session (Some fd) body k = (refl, refl)

lets_go : (stays : Bool) (session : ℕ) (d : Option ℕ) (body : ℕ → Body) (k : Known)
    → Leaves (letting_go stays session d body) k (letting_go stays session d body) k
lets_go true session d body k = closes session d body k
lets_go false session d body k = (refl, refl)

-- a name was taken away, and what is left is to close
pub removed_leaves : (session : ℕ) (path : List ℕ) (stays : Bool) (d : Option ℕ) (r : Result Reply Refused) (done : Reply) (k : Known)
    (fids : List (ℕ × File)) (q : Plan) → r ≡ Ok done → EachBecomes (IsUnlinked path) k.fids fids
    → q ≡ letting_go stays session d (said_of answer.Remove) → Leaves (removed session path stays d r) k q (record k { fids = fids })
removed_leaves session path stays d r done k fids q told each is =
    let l : Known = record k { fids = fids } in
    let P : Result Reply Refused → Type 0 = λ x. Leaves (removed session path stays d x) k q l in
    let Q : Plan → Type 0 = λ x. Leaves (letting_go stays session d (said_of answer.Remove)) l x l in
    subst P (sym told) (l, (fids, each, refl), subst Q (sym is) (lets_go stays session d (said_of answer.Remove) l))

-- a fid was let go whose file has lost its name
pub removes_gone : (k l : Known) (fid : ℕ) (file : File) (stays : Bool) (q : Plan) → found k.fids fid ≡ Ok file → file.gone ≡ true
    → stays ≡ has_fid (without k.fids fid) file.user.uid → l ≡ parted k fid file.user.uid
    → q ≡ letting_go stays file.user.session file.descriptor (error Stale) → Leaves (removes k fid) k q l
removes_gone k l fid file stays q there gone left same is =
    let last : Bool = has_fid (without k.fids fid) file.user.uid in
    let P : Result File Refused → Type 0 = λ r. Leaves (with_it r (λ f. Changes (Drops fid f.user.uid)
    (removing_file f (has_fid (without k.fids fid) f.user.uid) f.gone))) k q l in
    let G : Bool → Type 0 = λ g. Leaves (removing_file file last g) l q l in
    let Q : Bool → Type 0 = λ b. Leaves (letting_go b file.user.session file.descriptor (error Stale)) l q l in
    let R : Plan → Type 0 = λ x. Leaves (letting_go stays file.user.session file.descriptor (error Stale)) l x l in
    subst P (sym there) (
      l,
      same,
      subst G (sym gone) (subst Q left
          (subst R (sym is) (lets_go stays file.user.session file.descriptor (error Stale) l))),
    )
