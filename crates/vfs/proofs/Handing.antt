-- What a message that is handed over to a server over a cache keeps.
use Rattle.std.proofs.Common.{◌≡◌, ◌≢◌, ℕ, ◌+◌, ◌*◌, ◌^◌, ◌<◌, ◌≤◌, List, [], ◌∷◌, ◌++◌, Bool, true, false, refl, sym, ◌∙◌, ap, subst, arith, Some}
use mathlib.Core.Logic.{inl, inr}
use Rattle.std.specs.Prelude.{is_some, not, ◌&&◌, map, Option}
use Rattle.std.proofs.Math.Nat.{mul-le-mul_right}
use Rattle.std.proofs.lemmas.Bool.{and_parts, cases_lt}
use Rattle.std.proofs.lemmas.List.{append_cancel_right}
use Rattle.lemmas.proofs.Bools.{from_clash, is_false}
use Rattle.layout.specs.declared.Geometry.{Geometry}
use Rattle.message.specs.declared.BlockRequest.{BlockRequest}
use Rattle.message.specs.declared.Incoming.{Incoming}
use Rattle.message.specs.declared.Incoming.TheVariants.{Flush, End}
use Rattle.lemmas.specs.Sums.{some_below}
use Rattle.tree.specs.Tree.{Tree, OpenFile, most_open_files}
use Rattle.volume.specs.Reading.{Disk}
use Rattle.volume.specs.Holds.{HoldsVolume}
use Rattle.records.specs.Marks.{Mark, gave_up}
use Rattle.records.specs.Disk.{Contents, HasTrueReplies}
use Rattle.records.specs.Told.{Told, Received, received, grown, took_end}
use Rattle.records.specs.Acts.{Absorbed, marks_after}
use Rattle.records.specs.Legal.{tree_after}
use Rattle.records.specs.View.{server_view}
use Rattle.records.specs.ServerCall.{Serving, Serves, KnowsFrames, AbsorbKeeps, state_of}
use Rattle.records.specs.Flushes.{FlushesOn, WritesLowest, IsStuck, pending_requests}
use Rattle.records.specs.Settled.{none_written, PostsReads}
use Rattle.records.proofs.Quiet.{settled_acts, looking_acts, written_received, written_told}
use Rattle.records.specs.Area.{Area, area_of}
use Rattle.records.proofs.Inside.{acts_write_inside}
use Rattle.reissue.specs.Agrees.{Agrees}
use Rattle.reissue.specs.Entries.{request_of}
use Rattle.reissue.specs.Moves.{state_after}
use Rattle.reissue.specs.Rules.{outbox_of}
use Rattle.reissue.proofs.TableRules.{at_rest}
use Rattle.cache.specs.Calls.{AbstractCache, Runs, Serves as Stays, HandsOver}
use Rattle.cache.specs.Laws.{LeadsBy}
use Rattle.cache.specs.Frames.{CacheAgrees, frames_of}
use Rattle.cache.specs.Slots.{is_clean, is_dirty_held}
use Rattle.cache.proofs.Begun.{dirty_held}
use Rattle.cache.specs.Looking.{Looks}
use Rattle.cache.proofs.Runs.{true_before}
use Rattle.cache.proofs.Leading.{leads_by}
use Rattle.descriptors.specs.Files.{Files, HasFiles}
use Rattle.file_server.specs.Over.{AbsorbsOver}
use Rattle.vfs.specs.Serving.{IsServer, MayServe, server_of}
use Rattle.vfs.specs.Laws.{BeginsRuns}
use Rattle.flusher.proofs.Flushing.{flush_overtakes}
use Rattle.vfs.proofs.Framed.{flush_keeps}
use Rattle.vfs.proofs.Unwritten.{knows, pending_is}
use Rattle.vfs.proofs.Flushed.{dirty_in, runs_written, stuck as stuck_so}
use Rattle.vfs.proofs.Keeping.{tree_acts, legal_acts, gone_acts, view_of, covers_of}

module _ (g : Geometry) (a b : AbstractCache) (n k : ℕ) (many : k ≡ n) (w u : Bool) (f : Files) (m : Incoming) (may : MayServe g a)
    (h : HandsOver m a b) (done : m ≢ End → u ≡ false) (begins : m ≡ Flush → BeginsRuns a b) (looks : Looks a b) where
  abbrev sized : a.size ≡ g.block_size
  sized = may.size

  abbrev some : 0 < g.block_size
  some = may.geometry.sized

  abbrev within : a.area ≡ area_of g a.area.minor
  within = may.area

  abbrev ends : a.ended ≡ took_end a.told
  ends = may.ends

  abbrev x : Runs (Some m) a b (λ w v. Stays a b w v)
  x = h.runs

  abbrev s : Serving
  s = server_of g a n w f

  abbrev t : Serving
  t = server_of g b k u f

  -- but for the disk
  abbrev bare : Runs (Some m) a b (λ w v. Unit {0})
  bare = record {
    ready = x.ready;
    told = x.told;
    history = x.history;
    acts = x.acts;
    done = x.done;
    none_absorbed = x.none_absorbed;
    area = x.area;
    size = x.size;
    ended = x.ended;
    left = x.left;
    ids = x.ids;
    agrees = x.agrees;
    ends = x.ends;
    related = λ image marks k tr. tt;
    truth = x.truth;
    rules = x.rules;
  }

  -- its area stays
  stays_within : b.area ≡ area_of g b.area.minor
  stays_within = x.area ∙ within ∙ ap (λ (w : Area). area_of g w.minor) (sym x.area)

  led : LeadsBy (x.acts ++ Absorbed m ∷ []) s a t
  led = leads_by (Some m) a b s t (record { area = sym within; outbox = refl; told = refl; ended = refl })
      (record { area = sym stays_within; outbox = refl; told = refl; ended = refl })
      refl many ends bare

  abbrev after : List Mark → List Mark
  after marks = marks_after (x.acts ++ Absorbed m ∷ []) marks

  grows : (marks : List Mark) → Agrees a.table marks → after marks ≡ grown x.told (received m marks)
  grows marks k = (x.rules marks k).grows

  table : (marks : List Mark) → Agrees a.table marks → Agrees b.table (after marks)
  table marks k = subst (λ (ms : List Mark). Agrees b.table ms) (sym (grows marks k)) (x.agrees marks k)

  late : (image : Contents) (marks : List Mark) → Agrees a.table marks → HasTrueReplies image (after marks) → HasTrueReplies image (grown x.told (received m marks))
  late image marks k tr = subst (λ (ms : List Mark). HasTrueReplies image ms) (grows marks k) tr

  early : (image : Contents) (marks : List Mark) → Agrees a.table marks → HasTrueReplies image (after marks) → HasTrueReplies image marks
  early image marks k tr = true_before (Received m ∷ []) image marks (true_before x.told image (received m marks) (late image marks k tr))

  stays : (image : Contents) (marks : List Mark) → Agrees a.table marks → HasTrueReplies image (after marks)
      → Stays a b (state_after image marks) (state_after image (after marks))
  stays image marks k tr = subst (λ (ms : List Mark). Stays a b (state_after image marks) (state_after image ms)) (sym (grows marks k))
      (x.related image marks k (late image marks k tr))

  opened : b.ended ≡ false → a.ended ≡ false
  opened live = is_false a.ended (λ e. from_clash (sym (x.ended e) ∙ live))

  going : (marks : List Mark) → gave_up (after marks) ≡ false → gave_up marks ≡ false
  going marks u = is_false (gave_up marks) (λ e. from_clash (sym (gone_acts (x.acts ++ Absorbed m ∷ []) marks e) ∙ u))

  tree_is : (tree : Tree) (marks : List Mark) → tree_after g tree (after marks) ≡ tree_after g tree marks
  tree_is tree marks = tree_acts g tree (x.acts ++ Absorbed m ∷ []) marks

  files : (image : Contents) (tree : Tree) (marks : List Mark) → IsServer g a f image tree marks → HasTrueReplies image (after marks)
      → b.ended ≡ false → gave_up (after marks) ≡ false → HasFiles f (tree_after g tree (after marks))
  files image tree marks k tr e u = subst (λ (y : Tree). HasFiles f y) (sym (tree_is tree marks))
      (k.files (early image marks k.table tr) (opened e) (going marks u))

  -- it knows which blocks are unwritten
  unwritten : (image : Contents) (marks : List Mark) → Agrees b.table marks
      → (HasTrueReplies image marks → CacheAgrees b.size b.held (state_after image marks)) → KnowsFrames t.geometry (state_of t) t.outbox image marks
  unwritten image marks agrees slots = knows g b k u f some (x.size ∙ sized) x.ready.tied image marks agrees slots

  serves : (image : Contents) (tree : Tree) (marks : List Mark) → Serves s image tree marks → Serves t image tree (after marks)
  serves image tree marks k =
      let was = k.agrees in
      let agrees = table marks was.table in
      let slots = λ (tr : HasTrueReplies image (after marks)). (stays image marks was.table tr).agrees (was.slots (early image marks was.table tr)) in
      record {
        agrees = record { table = agrees; slots = slots; files = files image tree marks was };
        well_formed = agrees.holds.well_formed;
        inside = acts_write_inside g a.area.minor (x.acts ++ Absorbed m ∷ []) marks (outbox_of a.table)
            (led.rules marks was.table).keep k.inside;
        at_rest = at_rest b.table (after marks) agrees;
        known = unwritten image (after marks) agrees slots;
        legal = λ tr. legal_acts g image tree (x.acts ++ Absorbed m ∷ []) marks (k.legal (early image marks was.table tr));
        has_tree = λ tr e u.
            let first = early image marks was.table tr in
            let old = k.has_tree first (opened e) (going marks u) in
            let sized' = x.size ∙ sized in
            let same = (stays image marks was.table tr).same (was.slots first) in
            record {
              reads_back = record {
                holds = subst (λ (z : Disk). HoldsVolume g z (tree_after g tree (after marks)))
                    (view_of g some a sized image marks ∙ sym same ∙ sym (view_of g some b sized' image (after marks)))
                    (subst (λ (y : Tree). HoldsVolume g (server_view g (frames_of a.size a.held) image marks) y) (sym (tree_is tree marks)) old.reads_back.holds);
                covered = covers_of g some b sized' image (after marks) (slots tr);
              };
              open_files = sym (ap (λ (z : ℕ → Option OpenFile). some_below (λ j. is_some (z j)) most_open_files) (files image tree marks was tr e u).opened);
            };
        looking = λ tr. looking_acts g tree (x.acts ++ Absorbed m ∷ []) marks (k.looking (early image marks was.table tr));
        settled = λ tr e only.
            let old = k.settled (early image marks was.table tr) (opened e) (sym (settled_acts g tree (x.acts ++ Absorbed m ∷ []) marks) ∙ only) in
            let l = looks old.settled in
            let same : l.told ≡ x.told = append_cancel_right l.told x.told a.told (sym l.history ∙ x.history) in
            record {
              settled = l.settled;
              none_written = ap none_written (grows marks was.table)
                  ∙ written_told x.told (received m marks) (subst (λ (told : List Told). PostsReads told) same l.reads)
                  (written_received m marks ∙ old.none_written);
            };
      }

  -- dirty blocks lie in the volume
  low : (block : ℕ) → is_dirty_held (a.held block) ≡ true → block < 2 ^ 32
  low block dirty =
      let d = dirty_held (a.held block) dirty in
      let unclean : is_clean d.0.state ≡ false = ap is_clean d.2 in
      let there = may.ready.inside block d.0 d.1 unclean in
      let zones = may.geometry.zones in
      let area : a.area.to ≡ g.zones * g.block_size = ap (λ (z : Area). z.to) within in
      let to : block * g.block_size + g.block_size ≤ g.zones * g.block_size = rw (sym area) (subst (λ (z : ℕ). block * z + z ≤ a.area.to) sized there.1) in
      elim (cases_lt block g.zones) [
        | inl lt ↦ omega (arith, lt, zones)
        | inr le ↦ let far : g.zones * g.block_size ≤ block * g.block_size = mul-le-mul_right g.block_size le in absurd (omega (arith, far, to, some))
      ]

  -- a Flush is carried out
  flushes : (marks : List Mark) → Agrees a.table marks → m ≡ Flush → FlushesOn g.block_size (not b.ended && not (gave_up (after marks))) (state_of s) (state_of t)
      (pending_requests marks (outbox_of a.table)) (pending_requests (after marks) (outbox_of b.table))
  flushes marks agrees is =
      let r = begins is marks agrees in
      let before : map request_of a.table.pending ≡ pending_requests marks (outbox_of a.table) = sym (pending_is a.table marks agrees) in
      let later : map request_of b.table.pending ≡ pending_requests (after marks) (outbox_of b.table) =
      sym (pending_is b.table (after marks) (table marks agrees)) in
      let runs : WritesLowest r.counts 16 a.size (dirty_in a.held) (dirty_in b.held) (map request_of a.table.pending) (map request_of b.table.pending) =
      runs_written r.counts 16 a.size a.held b.held (map request_of a.table.pending) (map request_of b.table.pending) low r.runs in
      let given_up : b.table.given_up ≡ gave_up (after marks) = (table marks agrees).holds.given_up in
      record {
        writes = record {
          counts = r.counts;
          writes = subst (λ (z : ℕ). WritesLowest r.counts 16 z (dirty_in a.held) (dirty_in b.held) (pending_requests marks (outbox_of a.table))
              (pending_requests (after marks) (outbox_of b.table))) sized
              (subst (λ (l : List BlockRequest). WritesLowest r.counts 16 a.size (dirty_in a.held) (dirty_in b.held) l
              (pending_requests (after marks) (outbox_of b.table))) before
              (subst (λ (l : List BlockRequest). WritesLowest r.counts 16 a.size (dirty_in a.held) (dirty_in b.held)
              (map request_of a.table.pending) l) later runs));
          all = λ live.
              let both = and_parts (not b.ended) (not (gave_up (after marks))) live in
              elim (r.all (record { not_ended = not_true b.ended both.0; not_given_up = given_up ∙ not_true (gave_up (after marks)) both.1 })) [
                | inl all ↦ inl all
                | inr stuck ↦ inr (subst (λ (z : ℕ). IsStuck z (dirty_in b.held) (pending_requests (after marks) (outbox_of b.table))) (x.size ∙ sized)
                    (subst (λ (l : List BlockRequest). IsStuck b.size (dirty_in b.held) l) later (stuck_so b x.ready (subst (λ (z : ℕ). 0 < z) (sym (x.size ∙ sized)) some) stuck)))
              ];
        };
        frames = ap (λ (z : ℕ). frames_of z b.held) x.size
            ∙ (λ i block. flush_keeps r.counts 16 a.size a.held b.held (map request_of a.table.pending) (map request_of b.table.pending) r.runs a.size block i);
        overtaken = λ i block.
            flush_overtakes r.counts 16 a.size a.held b.held (map request_of a.table.pending) (map request_of b.table.pending) r.runs block i;
      }
    where
      not_true : (v : Bool) → not v ≡ true → v ≡ false
      not_true true e = cc
      not_true false e = refl

  abbrev kept : AbsorbKeeps s m t
  kept = record {
    later = x.acts;
    leads = led.leads;
    none_absorbed = x.none_absorbed;
    none_taken = h.none_taken;
    same_files = refl;
    none_overtaken = h.none_overtaken;
    no_effect = h.no_effect;
    flushed = done;
    flushes = λ image tree marks k is. flushes marks k.table is;
    rules = λ image tree marks k. led.rules marks k.table;
    serves = serves;
  }

  pub handed : AbsorbsOver s t a.truth b.truth m
  handed = record {
    keeps = kept;
    truth = λ v tree marks minor k was. subst (λ (ms : List Mark). b.truth v ms) (sym (grows marks k.table)) (x.truth v marks k.table minor was);
  }
