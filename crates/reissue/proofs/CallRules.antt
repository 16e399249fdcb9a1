-- Each call's acts, together, are acts that the rules allow.
use Rattle.std.proofs.Common.{◌≡◌, ℕ, ◌+◌, ◌-◌, ◌<◌, ◌≤◌, List, [], ◌∷◌, ◌++◌, length, drop, map, max, Bool, true, false, refl, sym, ◌∙◌, ap, subst, arith, append_assoc, Option, Some, None}
use Rattle.std.proofs.lemmas.Bool.Decides.{nat_tests}
use Rattle.std.proofs.lemmas.List.{length-append, length-drop, length-map, map-append}
use Rattle.std.specs.Prelude.{nat_lt, is_some, ◌&&◌, ◌==◌, MatchBool}
use Rattle.message.specs.declared.endpoint.Endpoint.{Endpoint}
use Rattle.message.specs.declared.BlockRequest.{BlockRequest}
use Rattle.message.specs.declared.Incoming.{Incoming}
use Rattle.message.specs.declared.Incoming.TheVariants as incoming
use Rattle.records.specs.Marks.{Mark}
use Rattle.records.specs.Open.{open_requests}
use Rattle.records.specs.Told.{heard as taken, took_end, Told, Received, received, grown, with_told}
use Rattle.records.specs.Area.{Area}
use Rattle.records.specs.Acts.{Act, Began, Absorbed, AtLink, Outbox, KeepsRules, MayAct, outbox_after, marks_after, told_of}
use Rattle.records.proofs.ActLaws.{acts_compose}
use Rattle.reissue.specs.declared.pending.Pending.{Pending}
use Rattle.reissue.specs.declared.table.Table.{Table}
use Rattle.reissue.specs.Moves.{IsBusy}
use Rattle.reissue.specs.Entries.{AllIn, request_of, pending_of}
use Rattle.reissue.specs.Agrees.{Agrees, unposted, never_issued}
use Rattle.reissue.specs.Hears.{Hears, IsUnanswered}
use Rattle.reissue.specs.Answers.{complaints_about}
use Rattle.reissue.specs.Posts.{PostsInOrder, PostsAfter, accepted_of, due_after, is_message}
use Rattle.reissue.specs.Rules.{outbox_of, KeepsRulesBy, at_link, acts_on}
use Rattle.reissue.proofs.Order.{append_cancel, drop_push}
use Rattle.reissue.proofs.Inside.{IsIn, in_push}
use Rattle.reissue.proofs.PostRules.{told_at_link, box, box_same}
use Rattle.reissue.proofs.TableRules.{loose, ends_same, table_posts, PostsKeep, at_rest, needed}
use Rattle.reissue.proofs.StepRules.{arrival, Arrives, heard, began_none}

-- the marks of what the link was told
marks_at_link : (told : List Told) (marks : List Mark) → marks_after (at_link told) marks ≡ grown told marks
marks_at_link [] marks = refl
marks_at_link (t ∷ told) marks = ap (λ (l : List Mark). with_told t l) (marks_at_link told marks)

-- acts, and then these posts
posts_then : (area : Area) (acts : List Act) (posts : List Told) (old mid new : Table) (marks M : List Mark) (before after : List Told)
    → KeepsRules area acts marks (outbox_of old) → outbox_after acts marks (outbox_of old) ≡ loose mid → marks_after acts marks ≡ M
    → after ≡ posts ++ (told_of acts ++ before) → PostsKeep area mid new M posts
    → KeepsRulesBy (at_link posts ++ acts) area old new before after marks (grown posts M)
posts_then area acts posts old mid new marks M before after keeps owes grows told y =
    let c = acts_compose area (at_link posts) acts marks (outbox_of old) in
    let second : KeepsRules area (at_link posts) (marks_after acts marks) (outbox_after acts marks (outbox_of old)) =
    subst (λ (ms : List Mark). KeepsRules area (at_link posts) ms (outbox_after acts marks (outbox_of old))) (sym grows)
    (subst (λ (o : Outbox). KeepsRules area (at_link posts) M o) (sym owes) y.keeps) in
    record {
      told = told ∙ sym (append_assoc posts (told_of acts) before)
          ∙ ap (λ (l : List Told). (l ++ told_of acts) ++ before) (sym (told_at_link posts)) ∙ ap (λ (l : List Told). l ++ before) (sym c.told);
      grows = c.record_after ∙ ap (λ (ms : List Mark). marks_after (at_link posts) ms) grows ∙ marks_at_link posts M;
      keeps = c.keep keeps second;
      owes = c.owed ∙ ap (λ (ms : List Mark). outbox_after (at_link posts) ms (outbox_after acts marks (outbox_of old))) grows
          ∙ ap (λ (o : Outbox). outbox_after (at_link posts) M o) owes ∙ y.owes;
    }

-- a table that stays as it is owes the same
owes_same : (old mid new : Table) → IsUnanswered old mid → mid.current ≡ old.current → new.pending ≡ mid.pending
    → new.posted ≡ mid.posted → new.issued ≡ max mid.issued new.posted → new.current ≡ mid.current → outbox_of old ≡ outbox_of new
owes_same old mid new x current pending posted issued same =
    box_same (never_issued old) (never_issued new) (unposted old) (unposted new)
    (is_some old.current && nat_lt old.posted (length old.pending)) (is_some new.current && nat_lt new.posted (length new.pending))
    (ends_same old.issued new.issued old.pending new.pending (omega (arith, x.issued, issued, posted, mid.order)) (sym (pending ∙ x.pending)))
    (ends_same old.posted new.posted old.pending new.pending (omega (arith, x.posted, posted)) (sym (pending ∙ x.pending)))
    (rw (same, current, posted, x.posted, pending, x.pending) refl)

-- nothing but the message
acts_alone : (posts : List Told) (old mid : Table) (complaints : List Told) (arrived : List Act) → posts ≡ [] → mid.ids ≡ old.ids → complaints ≡ []
    → acts_on posts old mid complaints arrived ≡ arrived
acts_alone posts old mid complaints arrived no_post same no_complaint = rw (no_post, no_complaint, began_none old mid same) refl

-- a message that arrives by this act, and all that is done on it
message_rules : (area : Area) (act : Act) (m : Incoming) (old mid new : Table) (marks : List Mark) (before between after posts complaints : List Told)
    → Arrives area act m marks (outbox_of old) → Agrees old marks → Agrees mid (received m marks) → Hears m old mid marks
    → AllIn area mid.pending
    → complaints ≡ complaints_about (due_after m marks) → PostsAfter m mid (complaints ++ between) after
    → after ≡ posts ++ (complaints ++ between) → between ≡ told_of (act ∷ []) ++ before
    → new.pending ≡ mid.pending → new.posted ≡ mid.posted + accepted_of posts → new.issued ≡ max mid.issued new.posted → new.current ≡ mid.current
    → KeepsRulesBy (acts_on posts old mid complaints (act ∷ [])) area old new before after marks (grown posts (received m marks))
message_rules area act m old mid new marks before between after posts complaints arrives h k hears minors due order history here pending posted issued current =
    by m refl where
      whole : (n : Incoming) → n ≡ m → is_message n ≡ true → KeepsRulesBy (acts_on posts old mid complaints (act ∷ [])) area old new before after marks (grown posts (received m marks))
      whole n e message =
          let real : is_message m ≡ true = ap is_message (sym e) ∙ message in
          let x = heard area act m old mid marks arrives h k hears real in
          let order' : PostsInOrder mid.current (unposted mid) (complaints ++ between) after =
          subst (λ (b : Bool). MatchBool b (PostsInOrder mid.current (unposted mid) (complaints ++ between) after) (after ≡ complaints ++ between)) real order in
          let y = table_posts area mid new (received m marks) (complaints ++ between) after posts k.holds.current current minors order' history pending posted issued in
          let told : after ≡ posts ++ (told_of x.acts ++ before) =
          history ∙ ap (λ (l : List Told). posts ++ l)
          (ap (λ (l : List Told). complaints ++ l) here ∙ sym (append_assoc complaints (told_of (act ∷ [])) before)
          ∙ ap (λ (l : List Told). (l ++ told_of (act ∷ [])) ++ before) due ∙ ap (λ (l : List Told). l ++ before) (sym x.told)) in
          let same : at_link posts ++ x.acts ≡ acts_on posts old mid complaints (act ∷ []) =
          ap (λ (l : List Act). at_link posts ++ l) x.are ∙ ap (λ (l : List Told). acts_on posts old mid l (act ∷ [])) (sym due) in
          subst (λ (acts : List Act). KeepsRulesBy acts area old new before after marks (grown posts (received m marks))) same
          (posts_then area x.acts posts old mid new marks (received m marks) before after x.keeps x.owes x.grows told y)

      ended : m ≡ incoming.End → KeepsRulesBy (acts_on posts old mid complaints (act ∷ [])) area old new before after marks (grown posts (received m marks))
      ended e =
          let no_complaint : complaints ≡ [] = due ∙ ap (λ (n : Incoming). complaints_about (due_after n marks)) e in
          let quiet : after ≡ complaints ++ between = subst (λ (n : Incoming). PostsAfter n mid (complaints ++ between) after) e order in
          let no_post : posts ≡ [] = append_cancel posts [] (complaints ++ between) (sym history ∙ quiet) in
          let x = subst (λ (n : Incoming). Hears n old mid marks) e hears in
          let nothing : new.posted ≡ mid.posted = omega (arith, posted, ap accepted_of no_post) in
          subst (λ (acts : List Act). KeepsRulesBy acts area old new before after marks (grown posts (received m marks)))
          (sym (acts_alone posts old mid complaints (act ∷ []) no_post x.0.ids no_complaint))
          (record {
            told = quiet ∙ ap (λ (l : List Told). l ++ between) no_complaint ∙ here;
            grows = arrives.grows ∙ ap (λ (l : List Told). grown l (received m marks)) (sym no_post);
            keeps = (tt, arrives.may);
            owes = arrives.owed ∙ rw e (owes_same old mid new x.0 x.1 pending nothing issued current);
          })

      by : (n : Incoming) → n ≡ m → KeepsRulesBy (acts_on posts old mid complaints (act ∷ [])) area old new before after marks (grown posts (received m marks))
      by incoming.End e = ended (sym e)
      by (incoming.Reply a) e = whole (incoming.Reply a) e refl
      by (incoming.Started d) e = whole (incoming.Started d) e refl
      by incoming.GaveUp e = whole incoming.GaveUp e refl
      by incoming.Flush e = whole incoming.Flush e refl

-- a message that was handed over between two calls
pub absorb_rules : (area : Area) (m : Incoming) (old mid new : Table) (marks : List Mark) (before after posts complaints : List Told)
    → Agrees old marks → Agrees mid (received m marks) → Hears m old mid marks
    → AllIn area mid.pending → complaints ≡ complaints_about (due_after m marks) → PostsAfter m mid (complaints ++ before) after
    → after ≡ posts ++ (complaints ++ before)
    → new.pending ≡ mid.pending → new.posted ≡ mid.posted + accepted_of posts → new.issued ≡ max mid.issued new.posted → new.current ≡ mid.current
    → KeepsRulesBy (acts_on posts old mid complaints (Absorbed m ∷ [])) area old new before after marks (grown posts (received m marks))
absorb_rules area m old mid new marks before after posts complaints h k hears minors due order history pending posted issued current =
    let arrives : Arrives area (Absorbed m) m marks (outbox_of old) =
    record { grows = refl; owed = refl; may = at_rest old marks h } in
    message_rules area (Absorbed m) m old mid new marks before before after posts complaints arrives h k hears minors due order history refl
    pending posted issued current

-- an end that was taken again leaves no trace
ended_again : (area : Area) (old mid new : Table) (marks : List Mark) (before after posts complaints : List Told)
    → Hears incoming.End old mid marks → complaints ≡ [] → after ≡ complaints ++ before → after ≡ posts ++ (complaints ++ before)
    → new.pending ≡ mid.pending → new.posted ≡ mid.posted + accepted_of posts → new.issued ≡ max mid.issued new.posted → new.current ≡ mid.current
    → KeepsRulesBy (acts_on posts old mid complaints []) area old new before after marks (grown posts marks)
ended_again area old mid new marks before after posts complaints x none quiet history pending posted issued current =
    let no_post : posts ≡ [] = append_cancel posts [] (complaints ++ before) (sym history ∙ quiet) in
    let nothing : new.posted ≡ mid.posted = omega (arith, posted, ap accepted_of no_post) in
    subst (λ (acts : List Act). KeepsRulesBy acts area old new before after marks (grown posts marks))
    (sym (acts_alone posts old mid complaints [] no_post x.0.ids none))
    (record {
      told = quiet ∙ ap (λ (l : List Told). l ++ before) none;
      grows = ap (λ (l : List Told). grown l marks) (sym no_post);
      keeps = tt;
      owes = owes_same old mid new x.0 x.1 pending nothing issued current;
    })

-- a message that was taken while something was pending
pub step_rules : (area : Area) (m : Incoming) (old mid new : Table) (marks : List Mark) (before after posts complaints : List Told)
    → Agrees old marks → Agrees mid (received m marks) → Hears m old mid marks
    → AllIn area mid.pending → complaints ≡ complaints_about (due_after m marks)
    → PostsAfter m mid (complaints ++ taken m before) after → after ≡ posts ++ (complaints ++ taken m before)
    → new.pending ≡ mid.pending → new.posted ≡ mid.posted + accepted_of posts → new.issued ≡ max mid.issued new.posted → new.current ≡ mid.current
    → IsBusy (pending_of old.pending) → old.given_up ≡ false
    → KeepsRulesBy (acts_on posts old mid complaints (arrival m before)) area old new before after marks (grown posts (received m marks))
step_rules area m old mid new marks before after posts complaints h k hears minors due order history pending posted issued current busy going =
    by m refl where
      arrives : Arrives area (AtLink (Received m)) m marks (outbox_of old)
      arrives = record { grows = refl; owed = refl; may = record { at_rest = at_rest old marks h; live = sym h.holds.given_up ∙ going; needed = needed old marks h (sym h.holds.given_up ∙ going) busy } }

      first : taken m before ≡ Received m ∷ before → arrival m before ≡ AtLink (Received m) ∷ [] → KeepsRulesBy (acts_on posts old mid complaints (arrival m before)) area old new before after marks (grown posts (received m marks))
      first e one =
          subst (λ (arrived : List Act). KeepsRulesBy (acts_on posts old mid complaints arrived) area old new before after marks (grown posts (received m marks))) (sym one)
          (message_rules area (AtLink (Received m)) m old mid new marks before (Received m ∷ before) after posts complaints arrives h k hears minors due
          (subst (λ (l : List Told). PostsAfter m mid (complaints ++ l) after) e order) (subst (λ (l : List Told). after ≡ posts ++ (complaints ++ l)) e history)
          refl pending posted issued current)

      ended : m ≡ incoming.End → (b : Bool) → took_end before ≡ b → KeepsRulesBy (acts_on posts old mid complaints (arrival m before)) area old new before after marks (grown posts (received m marks))
      ended e false first_end = first (rw e (rw first_end refl)) (rw e (rw first_end refl))
      ended e true again =
          let same : taken m before ≡ before = rw e (rw again refl) in
          let quiet : PostsAfter m mid (complaints ++ before) after = subst (λ (l : List Told). PostsAfter m mid (complaints ++ l) after) same order in
          let none : arrival m before ≡ [] = rw e (rw again refl) in
          subst (λ (arrived : List Act). KeepsRulesBy (acts_on posts old mid complaints arrived) area old new before after marks (grown posts (received m marks))) (sym none)
          (rw e (ended_again area old mid new marks before after posts complaints
          (subst (λ (n : Incoming). Hears n old mid marks) e hears) (due ∙ ap (λ (n : Incoming). complaints_about (due_after n marks)) e)
          (subst (λ (n : Incoming). PostsAfter n mid (complaints ++ before) after) e quiet)
          (subst (λ (l : List Told). after ≡ posts ++ (complaints ++ l)) same history) pending posted issued current))

      by : (n : Incoming) → m ≡ n → KeepsRulesBy (acts_on posts old mid complaints (arrival m before)) area old new before after marks (grown posts (received m marks))
      by incoming.End e = ended e (took_end before) refl
      by (incoming.Reply a) e = first (rw e refl) (rw e refl)
      by (incoming.Started d) e = first (rw e refl) (rw e refl)
      by incoming.GaveUp e = first (rw e refl) (rw e refl)
      by incoming.Flush e = first (rw e refl) (rw e refl)

-- a request becomes pending
may_begin : (area : Area) (old : Table) (marks : List Mark) (r : BlockRequest) → Agrees old marks → r.id ≡ old.ids + 1 → length old.pending < 16
    → MayAct area marks (outbox_of old) (Began r)
may_begin area old marks r h id few =
    let both : length h.opened + length h.waiting ≡ length old.pending = sym (length-append h.opened h.waiting) ∙ ap (λ (l : List Pending). length l) (sym h.holds.items) in
    let never : length (never_issued old) ≡ length old.pending - old.issued = length-map (drop old.issued old.pending) request_of ∙ length-drop old.issued old.pending in
    let open_count : length (open_requests marks) ≡ old.issued =
    ap (λ (l : List BlockRequest). length l) (sym h.holds.requests) ∙ length-map h.opened request_of ∙ sym h.holds.issued in
    record {
      next = omega (arith, id, h.holds.ids, both, never, h.holds.issued);
      room = omega (arith, open_count, never, few, old.within);
    }

-- the end of the list, with one more
pushed : (n m : ℕ) (old mid : List Pending) (p : Pending) → n ≡ m → n ≤ length old → mid ≡ old ++ p ∷ []
    → map request_of (drop n old) ++ p.request ∷ [] ≡ map request_of (drop m mid)
pushed n m old mid p e le items =
    sym (map-append request_of (drop n old) (p ∷ [])) ∙ ap (λ (l : List Pending). map request_of l) (sym (drop_push n old p le))
    ∙ ends_same n m (old ++ p ∷ []) mid e (sym items)

-- behind a refused post, one more changes nothing
stopped_same : (o : Option Endpoint) (n l : ℕ) → n ≤ l → (n == l) ≡ false → (is_some o && nat_lt n l) ≡ (is_some o && nat_lt n (l + 1))
stopped_same None n l le e = refl
stopped_same (Some to) n l le e = grind (arith, nat_tests)

-- where all are posted nothing was refused
stopped_none : (o : Option Endpoint) (n l : ℕ) → (n == l) ≡ true → (is_some o && nat_lt n l) ≡ false
stopped_none None n l e = refl
stopped_none (Some to) n l e = grind (arith, nat_tests)

-- a request is taken up, and posted or not
pub begin_rules : (area : Area) (old mid new : Table) (p : Pending) (due : Bool) (marks : List Mark) (before after posts : List Told)
    → Agrees old marks → AllIn area old.pending → IsIn area p
    → mid.pending ≡ old.pending ++ p ∷ [] → mid.posted ≡ old.posted → mid.issued ≡ old.issued → mid.current ≡ old.current → new.current ≡ mid.current
    → p.request.id ≡ old.ids + 1 → length old.pending < 16
    → due ≡ (old.posted == length old.pending)
    → MatchBool due (PostsInOrder mid.current (unposted mid) before after) (after ≡ before) → after ≡ posts ++ before
    → new.pending ≡ mid.pending → new.posted ≡ mid.posted + accepted_of posts → new.issued ≡ max mid.issued new.posted
    → KeepsRulesBy (at_link posts ++ Began p.request ∷ []) area old new before after marks (grown posts marks)
begin_rules area old mid new p due marks before after posts h minors lies items posted_is issued_is here there id few is_due order history pending posted issued =
    by (old.posted == length old.pending) refl (subst (λ (b : Bool). MatchBool b (PostsInOrder mid.current (unposted mid) before after) (after ≡ before)) is_due order) where
      may : MayAct area marks (outbox_of old) (Began p.request)
      may = may_begin area old marks p.request h id few

      never : never_issued old ++ p.request ∷ [] ≡ never_issued mid
      never = pushed old.issued mid.issued old.pending mid.pending p (sym issued_is) old.within items

      rest : unposted old ++ p.request ∷ [] ≡ unposted mid
      rest = pushed old.posted mid.posted old.pending mid.pending p (sym posted_is) (omega (arith, old.order, old.within)) items

      minors' : AllIn area mid.pending
      minors' = subst (λ (l : List Pending). AllIn area l) (sym items) (in_push area old.pending p minors lies)

      by : (b : Bool) → (old.posted == length old.pending) ≡ b → MatchBool b (PostsInOrder mid.current (unposted mid) before after) (after ≡ before)
          → KeepsRulesBy (at_link posts ++ Began p.request ∷ []) area old new before after marks (grown posts marks)
      by true e order =
          let full : box (never_issued old ++ p.request ∷ []) (unposted old ++ p.request ∷ []) (is_some old.current && nat_lt old.posted (length old.pending)) ≡ loose mid =
          box_same (never_issued old ++ p.request ∷ []) (never_issued mid) (unposted old ++ p.request ∷ []) (unposted mid)
          (is_some old.current && nat_lt old.posted (length old.pending)) false never rest (stopped_none old.current old.posted (length old.pending) e) in
          let y = table_posts area mid new marks before after posts (here ∙ h.holds.current) there minors' order history pending posted issued in
          posts_then area (Began p.request ∷ []) posts old mid new marks marks before after (tt, may) full refl history y
      by false e order =
          let no_post : posts ≡ [] = append_cancel posts [] before (sym history ∙ order) in
          let nothing : new.posted ≡ mid.posted = omega (arith, posted, ap accepted_of no_post) in
          let longer : length mid.pending ≡ length old.pending + 1 = ap (λ (l : List Pending). length l) items ∙ omega (arith, length-append old.pending (p ∷ [])) in
          subst (λ (l : List Told). KeepsRulesBy (at_link l ++ Began p.request ∷ []) area old new before after marks (grown posts marks)) (sym no_post) (
          record {
            told = order;
            grows = ap (λ (l : List Told). grown l marks) (sym no_post);
            keeps = (tt, may);
            owes =
                box_same (never_issued old ++ p.request ∷ []) (never_issued new) (unposted old ++ p.request ∷ []) (unposted new)
                (is_some old.current && nat_lt old.posted (length old.pending)) (is_some new.current && nat_lt new.posted (length new.pending))
                (never ∙ ends_same mid.issued new.issued mid.pending new.pending (omega (arith, issued, nothing, mid.order)) (sym pending))
                (rest ∙ ends_same mid.posted new.posted mid.pending new.pending (sym nothing) (sym pending))
                (stopped_same old.current old.posted (length old.pending) (omega (arith, old.order, old.within)) e
                ∙ rw (there, here, nothing, posted_is, pending, longer) refl);
          }
          )
