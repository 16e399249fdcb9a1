-- What is done on a message are acts that the rules allow.
use Rattle.std.proofs.Common.{◌≡◌, ℕ, suc, zero, ◌+◌, ◌-◌, ◌<◌, ◌≤◌, List, [], ◌∷◌, ◌++◌, length, drop, map, Bool, true, false, cond, refl, sym, ◌∙◌, ap, subst, arith, Option, Some, None}
use Rattle.std.proofs.lemmas.List.{length-append, length-drop, length-map, map-append}
use Rattle.std.proofs.lemmas.Bool.Decides.{nat_tests}
use Rattle.std.proofs.Math.Seq.{drop-append_seam}
use Rattle.std.specs.Prelude.{nat_lt, is_some, ◌&&◌, not, remove}
use Rattle.lemmas.proofs.Numbers.{less_from}
use Rattle.message.specs.declared.endpoint.Endpoint.{Endpoint}
use Rattle.message.specs.declared.BlockRequest.{BlockRequest}
use Rattle.message.specs.declared.BlockReply.{BlockReply}
use Rattle.message.specs.declared.Incoming.{Incoming}
use Rattle.message.specs.declared.Incoming.TheVariants as incoming
use Rattle.records.specs.Marks.{Mark, gave_up}
use Rattle.records.specs.Open.{open_requests, greatest, counts, moved_by, without_id}
use Rattle.records.specs.Told.{Told, Complained, Received, received, took_end}
use Rattle.records.specs.Area.{Area}
use Rattle.records.specs.Acts.{Act, Began, AtLink, Outbox, KeepsRules, MayAct, outbox_after, marks_after, told_of, with_act, owed_after_act, owed_after_message, complaint_due, without_answered}
use Rattle.reissue.specs.declared.pending.Pending.{Pending}
use Rattle.reissue.specs.declared.table.Table.{Table}
use Rattle.reissue.specs.Entries.{request_of}
use Rattle.reissue.specs.Agrees.{Agrees, unposted, never_issued}
use Rattle.reissue.specs.Hears.{Hears, HearsAnswer, HearsStart, IsAnswered, IsUnanswered, LeavesRest, counted_move}
use Rattle.reissue.specs.Answers.{complaints_about}
use Rattle.reissue.specs.Posts.{due_after, is_message}
use Rattle.reissue.specs.Rules.{outbox_of, at_link, all_began, began_on}
use Rattle.reissue.proofs.Order.{without_posted, drop_removed, drop_push}
use Rattle.reissue.proofs.PostRules.{box, box_same}
use Rattle.reissue.proofs.TableRules.{loose, ends_same}

-- a message was taken; of Ends the first alone leaves a trace
abbrev pub arrival : Incoming → List Told → List Act
arrival incoming.End before = cond (took_end before) [] (AtLink (Received incoming.End) ∷ [])
arrival m before = AtLink (Received m) ∷ []

-- a message that arrives: what this act adds to the record and to what is owed
pub record Arrives (area : Area) (act : Act) (m : Incoming) (marks : List Mark) (o : Outbox) : Type 0 where
  pub grows : with_act act marks ≡ received m marks
  pub owed : owed_after_act act marks o ≡ owed_after_message m marks o
  pub may : MayAct area marks o act

-- what is done on it before the posts
pub record Heard (begun : List Act) (area : Area) (act : Act) (m : Incoming) (marks : List Mark) (o next : Outbox) : Type 0 where
  pub acts : List Act
  pub are : acts ≡ begun ++ (at_link (complaints_about (due_after m marks)) ++ act ∷ [])
  pub told : told_of acts ≡ complaints_about (due_after m marks) ++ told_of (act ∷ [])
  pub keeps : KeepsRules area acts marks o
  pub owes : outbox_after acts marks o ≡ next
  pub grows : marks_after acts marks ≡ received m marks

-- nothing but the message
heard_alone : (area : Area) (act : Act) (m : Incoming) (marks : List Mark) (o next : Outbox) → Arrives area act m marks o
    → due_after m marks ≡ None → owed_after_message m marks o ≡ next → Heard [] area act m marks o next
heard_alone area act m marks o next a due e = record {
  acts = act ∷ [];
  are = rw due refl;
  told = rw due refl;
  keeps = (tt, a.may);
  owes = a.owed ∙ e;
  grows = a.grows;
}

-- an answer that isn't good, or doesn't count: a complaint where one is due
heard_complaint : (area : Area) (act : Act) (m : Incoming) (marks : List Mark) (o : Outbox) (ns us : List BlockRequest) → Arrives area act m marks o
    → owed_after_message m marks o ≡ record { never_issued = ns; unposted = us; stopped = false; complaint = due_after m marks }
    → Heard [] area act m marks o (box ns us false)
heard_complaint area act m marks o ns us a e = by (due_after m marks) refl where
  by : (c : Option Endpoint) → due_after m marks ≡ c → Heard [] area act m marks o (box ns us false)
  by None d = heard_alone area act m marks o (box ns us false) a d (e ∙ rw d refl)
  by (Some about) d =
      let owed : owed_after_act act marks o ≡ record { never_issued = ns; unposted = us; stopped = false; complaint = Some about } = a.owed ∙ e ∙ rw d refl in
      record {
        acts = AtLink (Complained about) ∷ act ∷ [];
        are = rw d refl;
        told = rw d refl;
        keeps = ((tt, a.may), ap (λ (x : Outbox). x.complaint) owed);
        owes = ap (λ (x : Outbox). record x { complaint = None }) owed;
        grows = a.grows;
      }

-- a good answer to part of a request: the rest becomes pending
heard_rest : (area : Area) (act : Act) (m : Incoming) (marks : List Mark) (o : Outbox) (ns us : List BlockRequest) (r : BlockRequest)
    → Arrives area act m marks o → due_after m marks ≡ None → owed_after_message m marks o ≡ box ns us false
    → r.id ≡ greatest (received m marks) + length ns + 1 → length (open_requests (received m marks)) + length ns < 16
    → Heard (Began r ∷ []) area act m marks o (box (ns ++ r ∷ []) (us ++ r ∷ []) false)
heard_rest area act m marks o ns us r a due e next room =
    let owed : owed_after_act act marks o ≡ box ns us false = a.owed ∙ e in
    let T : List Mark → Outbox → Type 0 = λ ms x. MayAct area ms x (Began r) in
    let may : MayAct area (received m marks) (box ns us false) (Began r) = record { next = next; room = room } in
    record {
      acts = Began r ∷ act ∷ [];
      are = rw due refl;
      told = rw due refl;
      keeps = ((tt, a.may), subst (λ (ms : List Mark). T ms (owed_after_act act marks o)) (sym a.grows) (subst (λ (x : Outbox). T (received m marks) x) (sym owed) may));
      owes = ap (λ (x : Outbox). record x { never_issued = x.never_issued ++ r ∷ []; unposted = x.unposted ++ r ∷ [] }) owed;
      grows = a.grows;
    }

-- a table from which nothing was taken
loose_same : (old mid : Table) → IsUnanswered old mid → box (never_issued old) (unposted old) false ≡ loose mid
loose_same old mid x = box_same (never_issued old) (never_issued mid) (unposted old) (unposted mid) false false
    (ends_same old.issued mid.issued old.pending mid.pending (sym x.issued) (sym x.pending))
    (ends_same old.posted mid.posted old.pending mid.pending (sym x.posted) (sym x.pending)) refl

-- what stands at the end
last_is : (rs : List Pending) (r : Pending) → drop (length (rs ++ r ∷ []) - 1) (rs ++ r ∷ []) ≡ r ∷ []
last_is rs r = let end : length (rs ++ r ∷ []) - 1 ≡ length rs = omega (arith, length-append rs (r ∷ [])) in rw end (drop-append_seam rs (r ∷ []))

-- where no id was given nothing became pending
pub began_none : (old mid : Table) → mid.ids ≡ old.ids → began_on old mid ≡ []
began_none old mid same = by (nat_lt old.ids mid.ids) refl where
  by : (b : Bool) → nat_lt old.ids mid.ids ≡ b → cond b (all_began (drop (length mid.pending - 1) mid.pending)) [] ≡ []
  by true e = absurd (omega (arith, same, less_from old.ids mid.ids e))
  by false e = refl

-- where one was given, it is the last request's
began_one : (old mid : Table) (rs : List Pending) (r : Pending) → mid.ids ≡ old.ids + 1 → mid.pending ≡ rs ++ r ∷ []
    → began_on old mid ≡ Began r.request ∷ []
began_one old mid rs r more items =
    let given : nat_lt old.ids mid.ids ≡ true = grind (arith, nat_tests, more) in
    let last : drop (length mid.pending - 1) mid.pending ≡ r ∷ [] = rw items (last_is rs r) in
    rw (given, last) refl

-- both tests at once
and_some : (b : Bool) (o : Option ℕ) → (b && is_some o) ≡ is_some (cond b o None)
and_some true o = refl
and_some false o = refl

-- a good answer asks for no complaint
none_due : (b : Bool) (o : Option ℕ) (n : ℕ) (e : Endpoint) → cond b o None ≡ Some n → cond (b && not (is_some o)) (Some e) None ≡ None
none_due true None n e h = cc
none_due true (Some k) n e h = refl
none_due false o n e h = cc

-- what a reply leaves unposted
left_after : (marks : List Mark) (a : BlockReply) (us : List BlockRequest) (m : Option ℕ) → counted_move marks a ≡ m
    → without_answered a marks us ≡ cond (is_some m) (without_id a.id us) us
left_after marks a us m e = ap (λ (b : Bool). cond b (without_id a.id us) us) (and_some (counts marks a) (moved_by a marks) ∙ ap (λ (o : Option ℕ). is_some o) e)

-- one less
length_removed : (ps : List Pending) (at : ℕ) → at < length ps → length (remove ps at) + 1 ≡ length ps
length_removed [] at lt = absurd (omega arith)
length_removed (p ∷ ps) zero lt = omega arith
length_removed (p ∷ ps) (suc at) lt =
    let rest : length (remove ps at) + 1 ≡ length ps = length_removed ps at (omega arith) in
    let more : length (remove (p ∷ ps) (suc at)) ≡ suc (length (remove ps at)) = refl in
    omega (arith, rest, more)

-- where no id was given
none_began : {area : Area} {act : Act} {m : Incoming} {marks : List Mark} {o next : Outbox} (old mid : Table) → mid.ids ≡ old.ids
    → Heard [] area act m marks o next → Heard (began_on old mid) area act m marks o next
none_began {area} {act} {m} {marks} {o} {next} old mid same h =
    subst (λ (begun : List Act). Heard begun area act m marks o next) (sym (began_none old mid same)) h

-- an answer that settles a request or a part of it
heard_answer : (area : Area) (act : Act) (a : BlockReply) (n : ℕ) (old mid : Table) (marks : List Mark)
    → Arrives area act (incoming.Reply a) marks (outbox_of old) → Agrees mid (received (incoming.Reply a) marks)
    → counted_move marks a ≡ Some n → IsAnswered old mid a.id n → Heard (began_on old mid) area act (incoming.Reply a) marks (outbox_of old) (loose mid)
heard_answer area act a n old mid marks arrives h moves x = by (nat_lt n x.entry.request.count) x.left where
  within : x.at < length old.pending
  within = omega (arith, x.issued, old.within)

  due : due_after (incoming.Reply a) marks ≡ None
  due = none_due (counts marks a) (moved_by a marks) n a.from moves

  ends : drop mid.issued (remove old.pending x.at) ≡ drop old.issued old.pending
  ends = let next : suc mid.issued ≡ old.issued = omega (arith, x.issued_left) in
      drop_removed mid.issued x.at old.pending (omega (arith, x.issued, x.issued_left)) ∙ ap (λ (k : ℕ). drop k old.pending) next

  left : without_id a.id (unposted old) ≡ map request_of (drop mid.posted (remove old.pending x.at))
  left = rw (← x.id_is) (without_posted old.ids x.at old.posted mid.posted old.pending x.entry old.numbers.rising within x.there x.posted)

  owed : owed_after_message (incoming.Reply a) marks (outbox_of old)
      ≡ box (map request_of (drop mid.issued (remove old.pending x.at))) (map request_of (drop mid.posted (remove old.pending x.at))) false
  owed =
      ap (λ (c : Option Endpoint). record { never_issued = never_issued old; unposted = without_answered a marks (unposted old); stopped = false; complaint = c }) due
      ∙ box_same (never_issued old) (map request_of (drop mid.issued (remove old.pending x.at)))
      (without_answered a marks (unposted old)) (map request_of (drop mid.posted (remove old.pending x.at))) false false
      (ap (λ (l : List Pending). map request_of l) (sym ends)) (left_after marks a (unposted old) (Some n) moves ∙ left) refl

  less : length (remove old.pending x.at) + 1 ≡ length old.pending
  less = length_removed old.pending x.at within

  by : (b : Bool) → LeavesRest old mid x.at x.entry n b → Heard (began_on old mid) area act (incoming.Reply a) marks (outbox_of old) (loose mid)
  by false l = none_began old mid l.1 (heard_alone area act (incoming.Reply a) marks (outbox_of old) (loose mid) arrives due (owed
      ∙ box_same (map request_of (drop mid.issued (remove old.pending x.at))) (never_issued mid)
      (map request_of (drop mid.posted (remove old.pending x.at))) (unposted mid) false false
      (ends_same mid.issued mid.issued (remove old.pending x.at) mid.pending refl (sym l.0))
      (ends_same mid.posted mid.posted (remove old.pending x.at) mid.pending refl (sym l.0)) refl))
  by true l =
      let rs = remove old.pending x.at in
      let r = l.0 in
      let items : length mid.pending ≡ length old.pending = ap (λ (l : List Pending). length l) l.1 ∙ omega (arith, length-append rs (r ∷ []), less) in
      let issued_le : mid.issued ≤ length rs = omega (arith, x.issued_left, old.within, less) in
      let posted_le : mid.posted ≤ length rs = omega (arith, issued_le, mid.order) in
      let never : length (map request_of (drop mid.issued rs)) ≡ length rs - mid.issued = length-map (drop mid.issued rs) request_of ∙ length-drop mid.issued rs in
      let both : length h.opened + length h.waiting ≡ length mid.pending = sym (length-append h.opened h.waiting) ∙ ap (λ (l : List Pending). length l) (sym h.holds.items) in
      let open_count : length (open_requests (received (incoming.Reply a) marks)) ≡ mid.issued =
      ap (λ (l : List BlockRequest). length l) (sym h.holds.requests) ∙ length-map h.opened request_of ∙ sym h.holds.issued in
      subst (λ (x : Outbox). Heard (began_on old mid) area act (incoming.Reply a) marks (outbox_of old) x)
      (box_same (map request_of (drop mid.issued rs) ++ r.request ∷ []) (never_issued mid) (map request_of (drop mid.posted rs) ++ r.request ∷ []) (unposted mid) false false
      (sym (map-append request_of (drop mid.issued rs) (r ∷ [])) ∙ ap (λ (l : List Pending). map request_of l) (sym (drop_push mid.issued rs r issued_le))
      ∙ ends_same mid.issued mid.issued (rs ++ r ∷ []) mid.pending refl (sym l.1))
      (sym (map-append request_of (drop mid.posted rs) (r ∷ [])) ∙ ap (λ (l : List Pending). map request_of l) (sym (drop_push mid.posted rs r posted_le))
      ∙ ends_same mid.posted mid.posted (rs ++ r ∷ []) mid.pending refl (sym l.1)) refl)
      (subst (λ (begun : List Act). Heard begun area act (incoming.Reply a) marks (outbox_of old) (box (map request_of (drop mid.issued rs) ++ r.request ∷ []) (map request_of (drop mid.posted rs) ++ r.request ∷ []) false))
      (sym (began_one old mid rs r l.3 l.1)) (heard_rest area act (incoming.Reply a) marks (outbox_of old) (map request_of (drop mid.issued rs)) (map request_of (drop mid.posted rs)) r.request arrives due owed
      (l.2.number ∙ omega (arith, l.3, h.holds.ids, h.holds.issued, both, items, never, less, x.issued_left))
      (omega (arith, open_count, never, less, old.few, x.issued_left, old.within))))

-- a reply
heard_reply : (area : Area) (act : Act) (a : BlockReply) (old mid : Table) (marks : List Mark)
    → Arrives area act (incoming.Reply a) marks (outbox_of old) → Agrees mid (received (incoming.Reply a) marks)
    → HearsAnswer old mid a.id (counted_move marks a) → Heard (began_on old mid) area act (incoming.Reply a) marks (outbox_of old) (loose mid)
heard_reply area act a old mid marks arrives h x = by (counted_move marks a) refl x where
  by : (m : Option ℕ) → counted_move marks a ≡ m → HearsAnswer old mid a.id m → Heard (began_on old mid) area act (incoming.Reply a) marks (outbox_of old) (loose mid)
  by None e x = subst (λ (o : Outbox). Heard (began_on old mid) area act (incoming.Reply a) marks (outbox_of old) o) (loose_same old mid x)
      (none_began old mid x.ids (heard_complaint area act (incoming.Reply a) marks (outbox_of old) (never_issued old) (unposted old) arrives
      (ap (λ (l : List BlockRequest). record { never_issued = never_issued old; unposted = l; stopped = false; complaint = complaint_due a marks })
      (left_after marks a (unposted old) None e))))
  by (Some n) e x = heard_answer area act a n old mid marks arrives h e x

-- a start, before the device is given up
heard_start : (area : Area) (act : Act) (e : Endpoint) (old mid : Table) (marks : List Mark)
    → Arrives area act (incoming.Started e) marks (outbox_of old) → Agrees old marks → gave_up marks ≡ false
    → HearsStart old mid e false → Heard (began_on old mid) area act (incoming.Started e) marks (outbox_of old) (loose mid)
heard_start area act e old mid marks arrives h g x =
    let waiting : drop old.issued old.pending ≡ h.waiting =
    ap (λ (k : ℕ). drop k old.pending) h.holds.issued ∙ ap (λ (l : List Pending). drop (length h.opened) l) h.holds.items
    ∙ drop-append_seam h.opened h.waiting in
    let all : open_requests marks ++ never_issued old ≡ unposted mid =
    ap (λ (l : List BlockRequest). l ++ never_issued old) (sym h.holds.requests)
    ∙ ap (λ (l : List Pending). map request_of h.opened ++ map request_of l) waiting
    ∙ sym (map-append request_of h.opened h.waiting) ∙ ap (λ (l : List Pending). map request_of l) (sym h.holds.items)
    ∙ ends_same 0 mid.posted old.pending mid.pending (sym x.2) (sym x.0) in
    none_began old mid x.1 (heard_alone area act (incoming.Started e) marks (outbox_of old) (loose mid) arrives refl
    (ap (λ (b : Bool). cond b (record (outbox_of old) { stopped = false }) (record (outbox_of old) { unposted = open_requests marks ++ never_issued old; stopped = false })) g
    ∙ box_same (never_issued old) (never_issued mid) (open_requests marks ++ never_issued old) (unposted mid) false false
    (ends_same old.issued mid.issued old.pending mid.pending (sym x.3) (sym x.0)) all refl))

-- a start after the device was given up
heard_late_start : (area : Area) (act : Act) (e : Endpoint) (old mid : Table) (marks : List Mark)
    → Arrives area act (incoming.Started e) marks (outbox_of old) → gave_up marks ≡ true
    → IsUnanswered old mid → Heard (began_on old mid) area act (incoming.Started e) marks (outbox_of old) (loose mid)
heard_late_start area act e old mid marks arrives g x =
    none_began old mid x.ids (heard_alone area act (incoming.Started e) marks (outbox_of old) (loose mid) arrives refl
    (ap (λ (b : Bool). cond b (record (outbox_of old) { stopped = false }) (record (outbox_of old) { unposted = open_requests marks ++ never_issued old; stopped = false })) g
    ∙ loose_same old mid x))

-- a message but End
pub heard : (area : Area) (act : Act) (m : Incoming) (old mid : Table) (marks : List Mark)
    → Arrives area act m marks (outbox_of old) → Agrees old marks → Agrees mid (received m marks) → Hears m old mid marks
    → is_message m ≡ true → Heard (began_on old mid) area act m marks (outbox_of old) (loose mid)
heard area act (incoming.Reply a) old mid marks arrives h k x e = heard_reply area act a old mid marks arrives k x.0
heard area act (incoming.Started d) old mid marks arrives h k x e = by old.given_up (sym h.holds.given_up) x where
  by : (b : Bool) → gave_up marks ≡ b → HearsStart old mid d b → Heard (began_on old mid) area act (incoming.Started d) marks (outbox_of old) (loose mid)
  by true g x = heard_late_start area act d old mid marks arrives g x.0
  by false g x = heard_start area act d old mid marks arrives h g x
heard area act incoming.GaveUp old mid marks arrives h k x e =
    none_began old mid x.0.ids (heard_alone area act incoming.GaveUp marks (outbox_of old) (loose mid) arrives refl (loose_same old mid x.0))
heard area act incoming.Flush old mid marks arrives h k x e =
    none_began old mid x.0.ids (heard_alone area act incoming.Flush marks (outbox_of old) (loose mid) arrives refl (loose_same old mid x.0))
heard area act incoming.End old mid marks arrives h k x e = cc
