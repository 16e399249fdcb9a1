-- What a call of a server over a cache keeps.
use Rattle.std.proofs.Common.{◌≡◌, ◌≢◌, ℕ, ◌<◌, List, [], ◌∷◌, Bool, true, false, cond, refl, sym, ◌∙◌, ap, subst, inl, inr, None}
use Rattle.std.specs.Prelude.{IsTrue, Option, is_some, ◌&&◌}
use Rattle.std.proofs.lemmas.Bool.{and_parts}
use Rattle.std.proofs.lemmas.List.{append_cancel_right}
use Rattle.lemmas.proofs.Bools.{from_clash, is_false, or_cases}
use Rattle.errno.specs.declared.Errno.TheVariants.{EIO}
use Rattle.layout.specs.declared.Geometry.{Geometry}
use Rattle.message.specs.declared.Incoming.{Incoming}
use Rattle.message.specs.declared.Incoming.TheVariants as incoming
use Rattle.tree.specs.declared.Who.{Who}
use Rattle.tree.specs.declared.Call.{Call}
use Rattle.tree.specs.declared.Call.TheVariants.{Dup}
use Rattle.lemmas.specs.Sums.{some_below}
use Rattle.tree.specs.Tree.{Tree, OpenFile, most_open_files}
use Rattle.tree.specs.Answers.{Answer, refused}
use Rattle.volume.specs.Reading.{Disk}
use Rattle.volume.specs.Holds.{HoldsVolume}
use Rattle.records.specs.Marks.{Mark, Answered, Took, gave_up}
use Rattle.records.specs.Open.{counts}
use Rattle.records.specs.Disk.{Contents, HasTrueReplies}
use Rattle.records.specs.Told.{Told, Posted, Complained, Received, received, grown, took_end}
use Rattle.records.specs.Acts.{Act, Began, Absorbed, AtLink, marks_after}
use Rattle.records.specs.Legal.{IsLegal, IsLegalTook, is_sync, tree_after, tree_after_answer, is_success, IsSynced}
use Rattle.records.specs.View.{server_view, IsCovered}
use Rattle.records.specs.ServerCall.{Serving, Serves, IsQuiet, KnowsFrames, state_of, LeavesView, Replied, Cut, CallKeeps}
use Rattle.records.specs.Settled.{only_looks, is_settled, none_written, LookingWritesNothing, PostsReads}
use Rattle.records.proofs.Quiet.{settled_acts, looking_acts, written_told}
use Rattle.records.specs.Area.{Area, WritesInside, area_of}
use Rattle.records.proofs.Inside.{acts_write_inside}
use Rattle.records.specs.Unmount.{Unmounting, Unmounted, unmounting_of}
use Rattle.reissue.specs.Agrees.{Agrees}
use Rattle.reissue.specs.Moves.{state_after}
use Rattle.reissue.specs.Rules.{outbox_of}
use Rattle.reissue.proofs.TableRules.{at_rest}
use Rattle.reissue.proofs.Taking.{agrees_took}
use Rattle.cache.specs.Calls.{AbstractCache, Runs}
use Rattle.cache.specs.Laws.{LeadsBy}
use Rattle.cache.specs.Frames.{CacheAgrees, frames_of, view}
use Rattle.cache.specs.Slots.{OvertakesNone}
use Rattle.cache.proofs.Runs.{true_before}
use Rattle.cache.proofs.Leading.{leads_by}
use Rattle.cache.proofs.ReadingBack.{frames_read_back}
use Rattle.cached_blocks.specs.World.{Leads, Sees}
use Rattle.flusher.proofs.Flushing.{synced}
use Rattle.cache.specs.Edits.{AllClean}
use Rattle.cache.specs.Looking.{IsSettled, LooksOn, Looks}
use Rattle.descriptors.specs.Files.{Files, HasFiles, is_busy}
use Rattle.client_calls.specs.Calls.{IsDone, DoesCall}
use Rattle.records.specs.Opening.{Opening, contents_at}
use Rattle.file_server.specs.Over.{CallSpecification}
use Rattle.vfs.specs.Serving.{IsServer, LooksOver, server_of}
use Rattle.vfs.specs.UnmountingLaws.{UnmountsOver}
use Rattle.vfs.proofs.Unwritten.{knows}
use Rattle.cached_blocks.proofs.Calls.{seen_kept, seen_same}

-- ---- acts leave the tree and a legal record (as in the crate `serve`)

tree_received : (g : Geometry) (tree : Tree) (m : Incoming) (marks : List Mark) → tree_after g tree (received m marks) ≡ tree_after g tree marks
tree_received g tree (incoming.Reply a) marks = by (counts marks a) where
  by : (b : Bool) → tree_after g tree (cond b (Answered a ∷ marks) marks) ≡ tree_after g tree marks
  by true = refl
  by false = refl
tree_received g tree (incoming.Started e) marks = refl
tree_received g tree incoming.GaveUp marks = refl
tree_received g tree incoming.Flush marks = refl
tree_received g tree incoming.End marks = refl

pub tree_acts : (g : Geometry) (tree : Tree) (acts : List Act) (marks : List Mark) → tree_after g tree (marks_after acts marks) ≡ tree_after g tree marks
tree_acts g tree [] marks = refl
tree_acts g tree (Began r ∷ acts) marks = tree_acts g tree acts marks
tree_acts g tree (Absorbed m ∷ acts) marks = tree_received g tree m (marks_after acts marks) ∙ tree_acts g tree acts marks
tree_acts g tree (AtLink (Posted to r true) ∷ acts) marks = tree_acts g tree acts marks
tree_acts g tree (AtLink (Posted to r false) ∷ acts) marks = tree_acts g tree acts marks
tree_acts g tree (AtLink (Complained e) ∷ acts) marks = tree_acts g tree acts marks
tree_acts g tree (AtLink (Received m) ∷ acts) marks = tree_received g tree m (marks_after acts marks) ∙ tree_acts g tree acts marks

legal_received : (g : Geometry) (image : Contents) (tree : Tree) (m : Incoming) (marks : List Mark) → IsLegal g image tree marks
    → IsLegal g image tree (received m marks)
legal_received g image tree (incoming.Reply a) marks h = by (counts marks a) where
  by : (b : Bool) → IsLegal g image tree (cond b (Answered a ∷ marks) marks)
  by true = h
  by false = h
legal_received g image tree (incoming.Started e) marks h = h
legal_received g image tree incoming.GaveUp marks h = h
legal_received g image tree incoming.Flush marks h = h
legal_received g image tree incoming.End marks h = h

pub legal_acts : (g : Geometry) (image : Contents) (tree : Tree) (acts : List Act) (marks : List Mark) → IsLegal g image tree marks
    → IsLegal g image tree (marks_after acts marks)
legal_acts g image tree [] marks h = h
legal_acts g image tree (Began r ∷ acts) marks h = legal_acts g image tree acts marks h
legal_acts g image tree (Absorbed m ∷ acts) marks h = legal_received g image tree m (marks_after acts marks) (legal_acts g image tree acts marks h)
legal_acts g image tree (AtLink (Posted to r true) ∷ acts) marks h = legal_acts g image tree acts marks h
legal_acts g image tree (AtLink (Posted to r false) ∷ acts) marks h = legal_acts g image tree acts marks h
legal_acts g image tree (AtLink (Complained e) ∷ acts) marks h = legal_acts g image tree acts marks h
legal_acts g image tree (AtLink (Received m) ∷ acts) marks h = legal_received g image tree m (marks_after acts marks) (legal_acts g image tree acts marks h)

gone_received : (m : Incoming) (marks : List Mark) → gave_up marks ≡ true → gave_up (received m marks) ≡ true
gone_received (incoming.Reply a) marks h = by (counts marks a) where
  by : (b : Bool) → gave_up (cond b (Answered a ∷ marks) marks) ≡ true
  by true = h
  by false = h
gone_received (incoming.Started e) marks h = h
gone_received incoming.GaveUp marks h = refl
gone_received incoming.Flush marks h = h
gone_received incoming.End marks h = h

pub gone_acts : (acts : List Act) (marks : List Mark) → gave_up marks ≡ true → gave_up (marks_after acts marks) ≡ true
gone_acts [] marks h = h
gone_acts (Began r ∷ acts) marks h = gone_acts acts marks h
gone_acts (Absorbed m ∷ acts) marks h = gone_received m (marks_after acts marks) (gone_acts acts marks h)
gone_acts (AtLink (Posted to r true) ∷ acts) marks h = gone_acts acts marks h
gone_acts (AtLink (Posted to r false) ∷ acts) marks h = gone_acts acts marks h
gone_acts (AtLink (Complained e) ∷ acts) marks h = gone_acts acts marks h
gone_acts (AtLink (Received m) ∷ acts) marks h = gone_received m (marks_after acts marks) (gone_acts acts marks h)

-- ---- small facts

cut_replied : (a : Answer) → Replied a ≡ Cut → ⊥
cut_replied a e = cc

same_reply : (a b : Answer) → Replied a ≡ Replied b → a ≡ b
same_reply a b e = cc

-- a cache's slots at some record
pub view_of : (g : Geometry) → 0 < g.block_size → (c : AbstractCache) → c.size ≡ g.block_size → (image : Contents) (marks : List Mark)
    → server_view g (frames_of c.size c.held) image marks ≡ view c.size c.held (state_after image marks)
view_of g some c e image marks = ap (λ n. server_view g (frames_of n c.held) image marks) e ∙ (frames_read_back g c.held image marks some).0
    ∙ sym (ap (λ n. view n c.held (state_after image marks)) e)

pub covers_of : (g : Geometry) → 0 < g.block_size → (c : AbstractCache) → c.size ≡ g.block_size → (image : Contents) (marks : List Mark)
    → CacheAgrees c.size c.held (state_after image marks) → IsCovered g (frames_of c.size c.held) marks
covers_of g some c e image marks k = subst (λ n. IsCovered g (frames_of n c.held) marks) (sym e)
    ((frames_read_back g c.held image marks some).1 (subst (λ n. CacheAgrees n c.held (state_after image marks)) e k))

-- ---- a call over a cache

module _ (g : Geometry) (a b : AbstractCache) (n m : ℕ) (many : m ≡ n) (w u : Bool) (p q : Files)
    (sized : a.size ≡ g.block_size) (some : 0 < g.block_size)
    (within : a.area ≡ area_of g a.area.minor) (ends : a.ended ≡ took_end a.told) (x : Leads a b) where
  abbrev s : Serving
  s = server_of g a n w p

  abbrev t : Serving
  t = server_of g b m u q

  -- but for the disk
  abbrev bare : Runs None a b (λ w v. Unit {0})
  bare = record {
    ready = x.ready;
    told = x.told;
    history = x.history;
    acts = x.acts;
    done = x.done;
    none_absorbed = x.none_absorbed;
    area = x.area;
    size = x.size;
    ended = x.ended;
    left = x.left;
    ids = x.ids;
    agrees = x.agrees;
    ends = x.ends;
    related = λ image marks k tr. tt;
    truth = x.truth;
    rules = x.rules;
  }

  -- its area stays
  stays_within : b.area ≡ area_of g b.area.minor
  stays_within = x.area ∙ within ∙ ap (λ (w : Area). area_of g w.minor) (sym x.area)

  -- its acts are the server's
  led : LeadsBy x.acts s a t
  led = leads_by None a b s t (record { area = sym within; outbox = refl; told = refl; ended = refl })
      (record { area = sym stays_within; outbox = refl; told = refl; ended = refl })
      refl many ends bare

  abbrev after : List Mark → List Mark
  after marks = marks_after x.acts marks

  grows : (marks : List Mark) → Agrees a.table marks → after marks ≡ grown x.told marks
  grows marks k = (x.rules marks k).grows

  table : (marks : List Mark) → Agrees a.table marks → Agrees b.table (after marks)
  table marks k = subst (λ (ms : List Mark). Agrees b.table ms) (sym (grows marks k)) (x.agrees marks k)

  late : (image : Contents) (marks : List Mark) → Agrees a.table marks → HasTrueReplies image (after marks) → HasTrueReplies image (grown x.told marks)
  late image marks k tr = subst (λ (ms : List Mark). HasTrueReplies image ms) (grows marks k) tr

  early : (image : Contents) (marks : List Mark) → Agrees a.table marks → HasTrueReplies image (after marks) → HasTrueReplies image marks
  early image marks k tr = true_before x.told image marks (late image marks k tr)

  slots : (image : Contents) (tree : Tree) (marks : List Mark) → IsServer g a p image tree marks → HasTrueReplies image (after marks)
      → CacheAgrees b.size b.held (state_after image (after marks))
  slots image tree marks k tr = subst (λ (ms : List Mark). CacheAgrees b.size b.held (state_after image ms)) (sym (grows marks k.table))
      (x.related image marks k.table (late image marks k.table tr) (k.slots (early image marks k.table tr)))

  given_up : (marks : List Mark) → Agrees a.table marks → b.table.given_up ≡ gave_up (after marks)
  given_up marks k = (table marks k).holds.given_up

  -- each write lies in the volume, behind its first two blocks
  inside : (marks : List Mark) → Agrees a.table marks → WritesInside g marks → WritesInside g (after marks)
  inside marks k w = acts_write_inside g a.area.minor x.acts marks (outbox_of a.table) (led.rules marks k).keep w

  -- what would be read back before and after
  seen : (image : Contents) (tree : Tree) (marks : List Mark) → IsServer g a p image tree marks → HasTrueReplies image (after marks)
      → Sees a b (view a.size a.held (state_after image marks)) (view b.size b.held (state_after image (after marks)))
  seen image tree marks k tr = record {
    image = image;
    marks = marks;
    told = x.told;
    history = x.history;
    agrees = k.table;
    true_replies = late image marks k.table tr;
    covered = k.slots (early image marks k.table tr);
    before = refl;
    after = ap (λ (ms : List Mark). view b.size b.held (state_after image ms)) (grows marks k.table);
  }

  -- what the link guarantees goes on
  heard : (v : Opening) (tree : Tree) (marks : List Mark) → v.minor ≡ a.area.minor → IsServer g a p (contents_at v) tree marks
      → a.truth v marks → b.truth v (after marks)
  heard v tree marks minor k was = subst (λ (ms : List Mark). b.truth v ms) (sym (grows marks k.table)) (x.truth v marks k.table minor was)

  -- only reads were posted since, where nothing was left to write
  quiet : (marks : List Mark) → Agrees a.table marks → LooksOn a b → none_written marks ≡ true → none_written (after marks) ≡ true
  quiet marks k l none =
      let same : l.told ≡ x.told = append_cancel_right l.told x.told a.told (sym l.history ∙ x.history) in
      ap none_written (grows marks k) ∙ written_told x.told marks (subst (λ (told : List Told). PostsReads told) same l.reads) none

  -- a call that only looks finds nothing to write, after any record, leaves what would be read back, and overtakes no block
  abbrev pub LooksThere : Who → Call → Type 0
  LooksThere who call = (image : Contents) (tree : Tree) (marks : List Mark) → Serves s image tree marks → HasTrueReplies image (after marks)
      → IsTrue (only_looks (tree_after g tree marks) who call)
      → Looks a b × (view b.size b.held (state_after image (after marks)) ≡ view a.size a.held (state_after image marks))
      × OvertakesNone a.held b.held

  -- and leaves what would be read back
  leaves : (who : Who) (call : Call) → LooksThere who call → (image : Contents) (tree : Tree) (marks : List Mark) → Serves s image tree marks
      → HasTrueReplies image (after marks) → IsTrue (only_looks (tree_after g tree marks) who call) → LeavesView s t image marks (after marks)
  leaves who call looks image tree marks k tr only =
      let sized' = x.size ∙ sized in
      record {
        same = view_of g some b sized' image (after marks) ∙ (looks image tree marks k tr only).1 ∙ sym (view_of g some a sized image marks);
        covered = covers_of g some b sized' image (after marks) (slots image tree marks k.agrees tr);
        none_overtaken = (looks image tree marks k tr only).2;
      }

  -- it knows which blocks are unwritten
  unwritten : (image : Contents) (tree : Tree) (marks : List Mark) → IsServer g a p image tree marks → KnowsFrames t.geometry (state_of t) t.outbox image (after marks)
  unwritten image tree marks k =
      knows g b m u q some (x.size ∙ sized) x.ready.tied image (after marks) (table marks k.table) (slots image tree marks k)

  -- the tree is there before it
  pub looks_there : (who : Who) (call : Call) → a.ended ≡ false → ((marks : List Mark) → Agrees a.table marks → gave_up marks ≡ false)
      → LooksOver g who call p a b → LooksThere who call
  looks_there who call live going looks image tree marks k tr only =
      let first = early image marks k.agrees.table tr in
      let up = going marks k.agrees.table in
      let d = view a.size a.held (state_after image marks) in
      let e = view b.size b.held (state_after image (after marks)) in
      let there = seen image tree marks k.agrees tr in
      let l = looks d e there (tree_after g tree marks)
      (subst (λ (y : Disk). HoldsVolume g y (tree_after g tree marks)) (view_of g some a sized image marks) (k.has_tree first live up).reads_back.holds)
      (k.agrees.files first live up) only in
      (l.0, seen_same a b d e l.1 there, (seen_kept a b d e l.1 there).none_overtaken)

  -- a dup does nothing, where no Flush is wanted
  abbrev pub IsCalm : Call → Type 0
  IsCalm call = (fd : ℕ) → call ≡ Dup fd → w ≡ false → x.acts ≡ []

  -- a call that was finished
  module _ (who : Who) (now : ℕ) (call : Call) (answer : Answer) (unended : a.ended ≡ false) (looks : LooksThere who call) where
    looked : (image : Contents) (tree : Tree) (marks : List Mark) → Serves s image tree marks → HasTrueReplies image (after marks)
        → IsTrue (only_looks (tree_after g tree (after marks)) who call && is_settled g tree (after marks))
        → LooksOn a b × (none_written (after marks) ≡ true)
    looked image tree marks k tr h =
        let both = and_parts (only_looks (tree_after g tree (after marks)) who call) (is_settled g tree (after marks)) h in
        let was = k.settled (early image marks k.agrees.table tr) unended (sym (settled_acts g tree x.acts marks) ∙ both.1) in
        let only = subst (λ (y : Tree). IsTrue (only_looks y who call)) (tree_acts g tree x.acts marks) both.0 in
        let l = (looks image tree marks k tr only).0 was.settled in
        (l, quiet marks k.agrees.table l was.none_written)

    took_looking : (image : Contents) (tree : Tree) (marks : List Mark) → Serves s image tree marks → HasTrueReplies image (after marks)
        → LookingWritesNothing g tree (Took who now call answer ∷ after marks)
    took_looking image tree marks k tr =
        (looking_acts g tree x.acts marks (k.looking (early image marks k.agrees.table tr)), λ h. (looked image tree marks k tr h).1)

    took_settled : (image : Contents) (tree : Tree) (marks : List Mark) → Serves s image tree marks → HasTrueReplies image (after marks)
        → (IsTrue (is_sync call) → IsTrue (is_success answer) → IsSettled b) → is_settled g tree (Took who now call answer ∷ after marks) ≡ true
        → IsQuiet t (Took who now call answer ∷ after marks)
    took_settled image tree marks k tr clean h = record {
      settled = elim (or_cases (is_sync call && is_success answer) _ h) [
        | inl sync ↦ let both = and_parts (is_sync call) (is_success answer) sync in clean both.0 both.1
        | inr only ↦ (looked image tree marks k tr only).0.settled
      ];
      none_written = refl;
    }

  -- a call that was answered
  module _ (who : Who) (now : ℕ) (call : Call) (answer : Answer) (calm : IsCalm call) (done_with : u ≡ false)
      (live : b.ended ≡ false) (going : b.table.given_up ≡ false) (proper : answer ≢ refused EIO) (clean : IsTrue (is_sync call) → IsTrue (is_success answer) → IsSettled b)
      (looks : LooksOver g who call p a b)
      (does : (d e : Disk) → Sees a b d e → DoesCall g who now call answer p q d e) where
    -- before it the tree was there
    goes_on : (marks : List Mark) → Agrees a.table marks → gave_up marks ≡ false
    goes_on marks k = is_false (gave_up marks) (λ e. from_clash (sym (gone_acts x.acts marks e) ∙ sym (given_up marks k) ∙ going))

    opened : a.ended ≡ false
    opened = is_false a.ended (λ e. from_clash (sym (x.ended e) ∙ live))

    there : LooksThere who call
    there = looks_there who call opened goes_on looks

    abbrev more : List Mark → List Mark
    more marks = Took who now call answer ∷ after marks

    -- what came of it
    done : (image : Contents) (tree : Tree) (marks : List Mark) → Serves s image tree marks → HasTrueReplies image (after marks)
        → IsDone g (tree_after g tree (after marks)) who now call answer q (view b.size b.held (state_after image (after marks)))
    done image tree marks k tr =
        let first = early image marks k.agrees.table tr in
        let was = k.has_tree first opened (goes_on marks k.agrees.table) in
        let d = view a.size a.held (state_after image marks) in
        let holds : HoldsVolume g d (tree_after g tree marks) =
        subst (λ (y : Disk). HoldsVolume g y (tree_after g tree marks)) (view_of g some a sized image marks) was.reads_back.holds in
        subst (λ (y : Tree). IsDone g y who now call answer q (view b.size b.held (state_after image (after marks)))) (sym (tree_acts g tree x.acts marks))
        ((does d (view b.size b.held (state_after image (after marks))) (seen image tree marks k.agrees tr)).each (tree_after g tree marks) holds
        (k.agrees.files first opened (goes_on marks k.agrees.table)))

    tree_is : (tree : Tree) (marks : List Mark) → Agrees a.table marks
        → tree_after g tree (more marks) ≡ tree_after_answer g (tree_after g tree (after marks)) who now call answer
    tree_is tree marks k = ap (λ (z : Bool). cond z (tree_after g tree (after marks)) (tree_after_answer g (tree_after g tree (after marks)) who now call answer))
        (sym (given_up marks k) ∙ going)

    -- where each frame is clean the disk alone holds the tree
    on_disk : (image : Contents) (tree : Tree) (marks : List Mark) → Serves s image tree marks → HasTrueReplies image (after marks) → AllClean b.held
        → IsSynced g image (after marks) (tree_after_answer g (tree_after g tree (after marks)) who now call answer)
    on_disk image tree marks k tr all =
        let sized' = x.size ∙ sized in
        let v = state_after image (after marks) in
        let y = synced b v (subst (λ n. 0 < n) (sym sized') some) all (slots image tree marks k.agrees tr) in
        record {
          sure = record { each = y.sure };
          holds = subst (λ (z : Disk). HoldsVolume g z (tree_after_answer g (tree_after g tree (after marks)) who now call answer))
              (y.on_disk ∙ ap (λ n. view n (λ j. None) v) sized' ∙ sym (frames_read_back g (λ j. None) image (after marks) some).0)
              (done image tree marks k tr).holds;
        }

    serves : (image : Contents) (tree : Tree) (marks : List Mark) → Serves s image tree marks → Serves t image tree (more marks)
    serves image tree marks k =
        let agrees = table marks k.agrees.table in
        let took = agrees_took b.table (after marks) who now call answer agrees in
        record {
          agrees = record {
            table = took;
            slots = λ tr. slots image tree marks k.agrees tr;
            files = λ tr e u. subst (λ (y : Tree). HasFiles q y) (sym (tree_is tree marks k.agrees.table)) (done image tree marks k tr).files;
          };
          well_formed = took.holds.well_formed;
          inside = inside marks k.agrees.table k.inside;
          at_rest = at_rest b.table (more marks) took;
          known = knows g b m u q some (x.size ∙ sized) x.ready.tied image (more marks) took (λ tr. slots image tree marks k.agrees tr);
          legal = λ tr. (
            legal_acts g image tree x.acts marks (k.legal (early image marks k.agrees.table tr)),
            subst (λ (z : Bool). IsLegalTook g image (tree_after g tree (after marks)) (after marks) z who now call answer)
                (sym going ∙ given_up marks k.agrees.table)
                (record { replies = (done image tree marks k tr).replies; syncs = λ is ok. on_disk image tree marks k tr (clean is ok).clean }),
          );
          has_tree = λ tr e u.
              let f = done image tree marks k tr in
              let sized' = x.size ∙ sized in
              record {
                reads_back = record {
                  holds = subst (λ (y : Disk). HoldsVolume g y (tree_after g tree (more marks))) (sym (view_of g some b sized' image (more marks)))
                      (subst (λ (y : Tree). HoldsVolume g (view b.size b.held (state_after image (more marks))) y) (sym (tree_is tree marks k.agrees.table)) f.holds);
                  covered = covers_of g some b sized' image (more marks) (slots image tree marks k.agrees tr);
                };
                open_files = sym (ap (λ (x : ℕ → Option OpenFile). some_below (λ j. is_some (x j)) most_open_files)
                    (subst (λ (y : Tree). HasFiles q y) (sym (tree_is tree marks k.agrees.table)) f.files).opened);
              };
          looking = took_looking who now call answer opened there image tree marks k;
          settled = λ tr e h. took_settled who now call answer opened there image tree marks k tr clean h;
        }

    abbrev answered_by : CallKeeps s who now call (Replied answer) t
    answered_by = record {
      acts = x.acts;
      leads = led.leads;
      none_absorbed = x.none_absorbed;
      cut = (λ e. absurd (cut_replied answer e), λ e. from_clash (sym e ∙ live));
      rules = λ image tree marks k. led.rules marks k.table;
      only_given_up = λ image tree marks k e. absurd (proper (same_reply answer (refused EIO) e));
      once_given_up = λ image tree marks k e. from_clash (sym e ∙ sym (given_up marks k.table) ∙ going);
      after_giving_up = λ image tree marks k e. from_clash (sym e ∙ goes_on marks k.table);
      after_end = λ e. from_clash (sym e ∙ opened);
      still = calm;
      flushed = λ answer' is other. done_with;
      looked = λ image tree marks k tr only. leaves who call there image tree marks k tr only;
      serves = serves;
    }

    pub answered : CallKeeps s who now call (Replied answer) t
    answered = answered_by

    pub calls_answered : CallSpecification s t a.truth b.truth who now call (Replied answer)
    calls_answered = record { keeps = answered_by; truth = heard }

  -- an unmount
  module _ (stays : q ≡ p) (same : (d e : Disk) → Sees a b d e → e ≡ d) (before : a.ended ≡ true → x.acts ≡ []) (over : a.table.given_up ≡ true → x.acts ≡ [])
      (looks : Looks a b) where
    going : (marks : List Mark) → gave_up (after marks) ≡ false → gave_up marks ≡ false
    going marks u = is_false (gave_up marks) (λ e. from_clash (sym (gone_acts x.acts marks e) ∙ u))

    lasts : b.ended ≡ false → a.ended ≡ false
    lasts live = is_false a.ended (λ e. from_clash (sym (x.ended e) ∙ live))

    tree_stays : (tree : Tree) (marks : List Mark) → tree_after g tree (after marks) ≡ tree_after g tree marks
    tree_stays tree marks = tree_acts g tree x.acts marks

    files_stay : (image : Contents) (tree : Tree) (marks : List Mark) → IsServer g a p image tree marks → HasTrueReplies image (after marks)
        → b.ended ≡ false → gave_up (after marks) ≡ false → HasFiles q (tree_after g tree (after marks))
    files_stay image tree marks k tr e u = subst (λ (f : Files). HasFiles f (tree_after g tree (after marks))) (sym stays)
        (subst (λ (y : Tree). HasFiles p y) (sym (tree_stays tree marks)) (k.files (early image marks k.table tr) (lasts e) (going marks u)))

    -- what would be read back is the tree as before
    held_still : (image : Contents) (tree : Tree) (marks : List Mark) → Serves s image tree marks → HasTrueReplies image (after marks)
        → b.ended ≡ false → gave_up (after marks) ≡ false
        → HoldsVolume g (view b.size b.held (state_after image (after marks))) (tree_after g tree (after marks))
    held_still image tree marks k tr e u =
        let was = k.has_tree (early image marks k.agrees.table tr) (lasts e) (going marks u) in
        let old : HoldsVolume g (view a.size a.held (state_after image marks)) (tree_after g tree marks) =
        subst (λ (y : Disk). HoldsVolume g y (tree_after g tree marks)) (view_of g some a sized image marks) was.reads_back.holds in
        subst (λ (y : Tree). HoldsVolume g (view b.size b.held (state_after image (after marks))) y) (sym (tree_stays tree marks))
        (subst (λ (y : Disk). HoldsVolume g y (tree_after g tree marks))
        (sym (same (view a.size a.held (state_after image marks)) (view b.size b.held (state_after image (after marks))) (seen image tree marks k.agrees tr))) old)

    serves_still : (image : Contents) (tree : Tree) (marks : List Mark) → Serves s image tree marks → Serves t image tree (after marks)
    serves_still image tree marks k =
        let agrees = table marks k.agrees.table in
        record {
          agrees = record {
            table = agrees;
            slots = λ tr. slots image tree marks k.agrees tr;
            files = λ tr e u. files_stay image tree marks k.agrees tr e u;
          };
          well_formed = agrees.holds.well_formed;
          inside = inside marks k.agrees.table k.inside;
          at_rest = at_rest b.table (after marks) agrees;
          known = unwritten image tree marks k.agrees;
          legal = λ tr. legal_acts g image tree x.acts marks (k.legal (early image marks k.agrees.table tr));
          has_tree = λ tr e u.
              let sized' = x.size ∙ sized in
              record {
                reads_back = record {
                  holds = subst (λ (y : Disk). HoldsVolume g y (tree_after g tree (after marks))) (sym (view_of g some b sized' image (after marks)))
                      (held_still image tree marks k tr e u);
                  covered = covers_of g some b sized' image (after marks) (slots image tree marks k.agrees tr);
                };
                open_files = sym (ap (λ (z : ℕ → Option OpenFile). some_below (λ j. is_some (z j)) most_open_files)
                    (files_stay image tree marks k.agrees tr e u).opened);
              };
          looking = λ tr. looking_acts g tree x.acts marks (k.looking (early image marks k.agrees.table tr));
          settled = λ tr e h.
              let was = k.settled (early image marks k.agrees.table tr) (lasts e) (sym (settled_acts g tree x.acts marks) ∙ h) in
              let l = looks was.settled in
              record { settled = l.settled; none_written = quiet marks k.agrees.table l was.none_written };
        }

    -- where each frame is clean the disk alone holds the tree
    synced_still : (image : Contents) (tree : Tree) (marks : List Mark) → Serves s image tree marks → HasTrueReplies image (after marks)
        → AllClean b.held → b.ended ≡ false → gave_up (after marks) ≡ false → IsSynced g image (after marks) (tree_after g tree (after marks))
    synced_still image tree marks k tr all e u =
        let sized' = x.size ∙ sized in
        let v = state_after image (after marks) in
        let y = synced b v (subst (λ n. 0 < n) (sym sized') some) all (slots image tree marks k.agrees tr) in
        record {
          sure = record { each = y.sure };
          holds = subst (λ (z : Disk). HoldsVolume g z (tree_after g tree (after marks)))
              (y.on_disk ∙ ap (λ n. view n (λ j. None) v) sized' ∙ sym (frames_read_back g (λ j. None) image (after marks) some).0)
              (held_still image tree marks k tr e u);
        }

    pub unmounts : (r : Unmounting) → (is_busy p ≡ true → x.acts ≡ []) → r ≡ unmounting_of b.ended b.table.given_up (is_busy p)
        → (r ≡ Unmounted → (b.ended ≡ false) × (b.table.given_up ≡ false) × AllClean b.held) → UnmountsOver s t a.truth b.truth r
    unmounts r busy is clean = record {
      keeps = record {
        acts = x.acts;
        leads = led.leads;
        none_absorbed = x.none_absorbed;
        same_files = ap is_busy stays;
        busy = busy;
        after_end = before;
        rules = λ image tree marks k. led.rules marks k.table;
        is = λ image tree marks k. is ∙ ap (λ (z : Bool). unmounting_of b.ended z (is_busy p)) (given_up marks k.table);
        after_giving_up = λ image tree marks k e. over (k.table.holds.given_up ∙ e);
        serves = serves_still;
        synced = λ image tree marks k e tr. let c = clean e in
            synced_still image tree marks k tr c.2 c.0 (sym (given_up marks k.agrees.table) ∙ c.1);
      };
      truth = heard;
    }

  -- a call that is cut, or answered EIO
  module _ (who : Who) (now : ℕ) (call : Call) (before : a.ended ≡ true → x.acts ≡ []) (over : a.table.given_up ≡ true → x.acts ≡ [])
      (calm : IsCalm call) (looks : LooksThere who call) where
    over_is : (marks : List Mark) → Agrees a.table marks → gave_up marks ≡ true → x.acts ≡ []
    over_is marks k e = over (k.holds.given_up ∙ e)

    abbrev was_cut_by : b.ended ≡ true → CallKeeps s who now call Cut t
    was_cut_by end = record {
      acts = x.acts;
      leads = led.leads;
      none_absorbed = x.none_absorbed;
      cut = (λ e. end, λ e. refl);
      rules = λ image tree marks k. led.rules marks k.table;
      only_given_up = λ image tree marks k e. absurd (cut_replied (refused EIO) (sym e));
      once_given_up = λ image tree marks k e. inl refl;
      after_giving_up = λ image tree marks k e. over_is marks k.table e;
      after_end = before;
      still = calm;
      flushed = λ answer is other. absurd (cut_replied answer (sym is));
      looked = λ image tree marks k tr only. leaves who call looks image tree marks k tr only;
      serves = λ image tree marks k.
          let agrees = table marks k.agrees.table in
          record {
            agrees = record { table = agrees; slots = λ tr. slots image tree marks k.agrees tr; files = λ tr e u. from_clash (sym end ∙ e) };
            well_formed = agrees.holds.well_formed;
            inside = inside marks k.agrees.table k.inside;
            at_rest = at_rest b.table (after marks) agrees;
            known = unwritten image tree marks k.agrees;
            legal = λ tr. legal_acts g image tree x.acts marks (k.legal (early image marks k.agrees.table tr));
            has_tree = λ tr e u. from_clash (sym end ∙ e);
            looking = λ tr. looking_acts g tree x.acts marks (k.looking (early image marks k.agrees.table tr));
            settled = λ tr e h. from_clash (sym end ∙ e);
          };
    }

    abbrev was_eio_by : b.ended ≡ false → b.table.given_up ≡ true → CallKeeps s who now call (Replied (refused EIO)) t
    was_eio_by live gone = record {
      acts = x.acts;
      leads = led.leads;
      none_absorbed = x.none_absorbed;
      cut = (λ e. absurd (cut_replied (refused EIO) e), λ e. from_clash (sym e ∙ live));
      rules = λ image tree marks k. led.rules marks k.table;
      only_given_up = λ image tree marks k e. sym (given_up marks k.table) ∙ gone;
      once_given_up = λ image tree marks k e. inr refl;
      after_giving_up = λ image tree marks k e. over_is marks k.table e;
      after_end = before;
      still = calm;
      flushed = λ answer is other. absurd (other (sym (same_reply (refused EIO) answer is)));
      looked = λ image tree marks k tr only. leaves who call looks image tree marks k tr only;
      serves = λ image tree marks k.
          let agrees = table marks k.agrees.table in
          let took = agrees_took b.table (after marks) who now call (refused EIO) agrees in
          let up = sym (given_up marks k.agrees.table) ∙ gone in
          let unended = is_false a.ended (λ e. from_clash (sym (x.ended e) ∙ live)) in
          record {
            agrees = record { table = took; slots = λ tr. slots image tree marks k.agrees tr; files = λ tr e u. from_clash (sym up ∙ u) };
            well_formed = took.holds.well_formed;
            inside = inside marks k.agrees.table k.inside;
            at_rest = at_rest b.table (Took who now call (refused EIO) ∷ after marks) took;
            known = knows g b m u q some (x.size ∙ sized) x.ready.tied image (Took who now call (refused EIO) ∷ after marks) took
                (λ tr. slots image tree marks k.agrees tr);
            legal = λ tr. (
              legal_acts g image tree x.acts marks (k.legal (early image marks k.agrees.table tr)),
              subst (λ (z : Bool). IsLegalTook g image (tree_after g tree (after marks)) (after marks) z who now call (refused EIO)) (sym up) refl,
            );
            has_tree = λ tr e u. from_clash (sym up ∙ u);
            looking = took_looking who now call (refused EIO) unended looks image tree marks k;
            settled = λ tr e h. took_settled who now call (refused EIO) unended looks image tree marks k tr (λ is ok. from_clash (sym ok)) h;
          };
    }

    pub was_cut : b.ended ≡ true → CallKeeps s who now call Cut t
    was_cut end = was_cut_by end

    pub was_eio : b.ended ≡ false → b.table.given_up ≡ true → CallKeeps s who now call (Replied (refused EIO)) t
    was_eio live gone = was_eio_by live gone

    pub calls_cut : b.ended ≡ true → CallSpecification s t a.truth b.truth who now call Cut
    calls_cut end = record { keeps = was_cut_by end; truth = heard }

    pub calls_eio : b.ended ≡ false → b.table.given_up ≡ true → CallSpecification s t a.truth b.truth who now call (Replied (refused EIO))
    calls_eio live gone = record { keeps = was_eio_by live gone; truth = heard }
