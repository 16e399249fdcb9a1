-- A server over a cache that was just made.
use Rattle.std.proofs.Common.{◌≡◌, ℕ, ◌<◌, List, [], Bool, true, false, refl, sym, ◌∙◌, ap, subst, Option, Some, None}
use Rattle.std.specs.Prelude.{is_some, Result, Ok, Err, IfOk, IsErrOf, ◌↔◌, map}
use Rattle.cache.specs.declared.refusals.CacheRefusal.{CacheRefusal}
use Rattle.cache.specs.declared.refusals.CacheRefusal.TheVariants.{BadFrames, OutOfMemory}
use Rattle.layout.specs.declared.Geometry.{Geometry}
use Rattle.lemmas.specs.Sums.{some_below}
use Rattle.message.specs.declared.BlockRequest.{BlockRequest}
use Rattle.tree.specs.Tree.{Tree, OpenFile, most_open_files}
use Rattle.volume.specs.Reading.{Disk, blocks_of}
use Rattle.volume.specs.Holds.{HoldsVolume}
use Rattle.records.specs.Marks.{Mark}
use Rattle.records.specs.Disk.{Contents, HasTrueReplies, disk_after, unsure}
use Rattle.records.specs.Acts.{empty_outbox}
use Rattle.records.specs.Area.{Area, WritesInside}
use Rattle.records.specs.Flushes.{WritesFrames}
use Rattle.records.specs.Legal.{IsAtFirst, IsLegal, tree_after}
use Rattle.records.specs.View.{Frames, frame_or, server_view}
use Rattle.records.specs.Mount.{IsJustMade, OpenKeeps, is_frame_count}
use Rattle.records.specs.ServerCall.{Serves}
use Rattle.records.specs.Settled.{none_written, LookingWritesNothing}
use Rattle.reissue.specs.declared.link.Link.{Ghosts as LinkWords}
use Rattle.reissue.specs.declared.transfers.Transfers.{Transfers}
use Rattle.reissue.specs.Transfers.{link_of, table_of}
use Rattle.reissue.specs.Agrees.{Agrees}
use Rattle.reissue.specs.declared.pending.Pending.{Pending}
use Rattle.reissue.specs.Entries.{pending_of, request_of}
use Rattle.reissue.specs.Moves.{Begun, state_after}
use Rattle.reissue.specs.Rules.{outbox_of}
use Rattle.reissue.proofs.TableRules.{at_rest}
use Rattle.cache.specs.declared.slot.Slot.{Slot}
use Rattle.cache.specs.Slots.{is_changed_held, is_dirty_held}
use Rattle.cache.specs.Calls.{AbstractCache, frame_count}
use Rattle.cache.specs.Frames.{CacheAgrees, frame_of, frames_of}
use Rattle.descriptors.specs.Files.{Files, HasFiles, is_busy}
use Rattle.descriptors.specs.Made.{no_files}
use Rattle.descriptors.specs.Table.{files_of}
use Rattle.cached_blocks.specs.declared.Stored.{Stored}
use Rattle.vfs.specs.declared.server.Server.{Server}
use Rattle.vfs.specs.Serving.{server_of}
use Rattle.vfs.specs.OverLink.{IsIdleOver, caching_of, serving_over}
use Rattle.volume_mount.specs.Opening.{IsNewOver, Opens}
use Rattle.vfs.proofs.Keeping.{covers_of}
use Rattle.vfs.proofs.Framed.{frame_state}
use Rattle.vfs.proofs.Unwritten.{pending_is}

-- the image is what was handed in, and each place of it is sure
pub record IsUnchanged (image : Contents) (marks : List Mark) : Type 0 where
  pub disk : (place : ℕ) → disk_after image marks place ≡ image place
  pub sure : (place : ℕ) → unsure marks place ≡ false

some_none : {s : Slot} → None ≡ Some s → ⊥
some_none e = cc

none_pending : {r : Begun} → None ≡ Some r → ⊥
none_pending e = cc

-- no frame is in use
no_frames : (size : ℕ) (held : ℕ → Option Slot) → ((b : ℕ) → held b ≡ None) → frames_of size held ≡ (λ b. None)
no_frames size held none = λ i b. frame_of size (none b i)

-- no open file is none
none_open : some_below (λ k. is_some {T = OpenFile} None) most_open_files ≡ false
unfolding some_below
none_open = refl

pub none_busy : (f : Files) → f ≡ no_files → is_busy f ≡ false
none_busy f e = ap (λ (x : Files). is_busy x) e ∙ none_open

-- A server whose cache has no frame in use, over a record that left the image as it was and the tree unmoved, serves.
pub serves_new : (g : Geometry) (c : AbstractCache) (n : ℕ) (w : Bool) (f : Files) (image : Contents) (tree : Tree) (marks : List Mark)
    → 0 < g.block_size → c.size ≡ g.block_size → ((b : ℕ) → c.held b ≡ None) → f ≡ no_files → Agrees c.table marks
    → (HasTrueReplies image marks → IsUnchanged image marks) → (HasTrueReplies image marks → IsAtFirst g image tree)
    → tree_after g tree marks ≡ tree → IsLegal g image tree marks → LookingWritesNothing g tree marks → none_written marks ≡ true
    → WritesInside g marks → c.table.pending ≡ [] → Serves (server_of g c n w f) image tree marks
serves_new g c n w f image tree marks some sized none closed agrees same first stays legal looking quiet inside idle = record {
  agrees = record { table = agrees; slots = slots; files = λ tr e u. files tr };
  well_formed = agrees.holds.well_formed;
  inside = inside;
  at_rest = at_rest c.table marks agrees;
  known = record {
    framed = λ block is. absurd (no_slot (c.held block) (none block) is);
    others = λ tr block written clear. ap (λ (o : Option Slot). frame_or (frame_of c.size o) (blocks_of g (disk_after image marks) block)) (none block);
    pending = subst (λ (rs : List BlockRequest). WritesFrames g.block_size (frame_state c) rs)
        (sym (pending_is c.table marks agrees ∙ ap (λ (ps : List Pending). map request_of ps) idle)) tt;
    under_way = λ block is. absurd (none_changed (c.held block) (none block) is);
  };
  legal = λ tr. legal;
  has_tree = λ tr e u. record {
    reads_back = record {
      holds = subst (λ (y : Disk). HoldsVolume g y (tree_after g tree marks)) (sym (view tr))
          (subst (λ (t : Tree). HoldsVolume g (blocks_of g image) t) (sym stays) (first tr).holds);
      covered = covers_of g some c sized image marks (slots tr);
    };
    open_files = sym (ap (λ (x : ℕ → Option OpenFile). some_below (λ j. is_some (x j)) most_open_files) (files tr).opened);
  };
  looking = λ tr. looking;
  settled = λ tr e h. record {
    settled = record {
      clean = λ b s is. absurd (some_none (sym (none b) ∙ is));
      no_write = λ t r bytes is write. absurd (none_pending (ap (λ (l : List Pending). pending_of l t) (sym idle) ∙ is));
    };
    none_written = quiet;
  };
}
  where
    no_slot : (o : Option Slot) → o ≡ None → is_dirty_held o ≡ true → ⊥
    no_slot o e dirty = let clash : true ≡ false = sym dirty ∙ ap is_dirty_held e in cc

    none_changed : (o : Option Slot) → o ≡ None → is_changed_held o ≡ true → ⊥
    none_changed o e changed = let clash : true ≡ false = sym changed ∙ ap is_changed_held e in cc

    slots : HasTrueReplies image marks → CacheAgrees c.size c.held (state_after image marks)
    slots tr = record {
      clean = λ b s is clean o lt. absurd (some_none (sym (none b) ∙ is));
      covered = λ b is o lt. (same tr).sure _;
    }

    files : HasTrueReplies image marks → HasFiles f (tree_after g tree marks)
    files tr = subst (λ (t : Tree). HasFiles f t) (sym stays) (subst (λ (x : Files). HasFiles x tree) (sym closed)
        (record { opened = (first tr).closed.open_files; descriptors = (first tr).closed.descriptors }))

    view : HasTrueReplies image marks → server_view g (frames_of c.size c.held) image marks ≡ blocks_of g image
    view tr =
        let disk : disk_after image marks ≡ image = λ i place. (same tr).disk place i in
        ap (λ (x : Frames). server_view g x image marks) (no_frames c.size c.held none) ∙ ap (λ (d : Contents). blocks_of g d) disk

-- what contracts see of one that was just made
pub just_made : {L : Type 0} (words : LinkWords L) (transfers : Transfers L) (minor : ℕ) (g : Geometry) (frames : ℕ) (s : Server (Stored L))
    → is_frame_count frames ≡ true → IsNewOver words transfers minor g frames s → IsJustMade frames (serving_over words s)
just_made words transfers minor g frames s many new = record {
  frame_count = many;
  as_many = new.frame_count;
  frames = λ block. ap (λ (o : Option Slot). frame_of (caching_of words s).size o) (new.made.none block);
  not_busy = none_busy (files_of s.opens) new.files;
  not_ended = new.made.not_ended;
  not_wanted = new.no_flush;
}

-- what opening promises
pub opened : {L : Type 0} (words : LinkWords L) (transfers : Transfers L) (link : L) (minor : ℕ) (g : Geometry) (frames : ℕ) (s : Server (Stored L))
    → link_of transfers ≡ link → Agrees (table_of transfers) [] → outbox_of (table_of transfers) ≡ empty_outbox
    → (table_of transfers).pending ≡ [] → is_frame_count frames ≡ true
    → 0 < g.block_size → IsNewOver words transfers minor g frames s → OpenKeeps g minor frames (words.history link) (serving_over words s)
opened {L} words transfers link minor g frames s over agrees owes idle many some new = record {
  geometry = new.geometry;
  minor_is = ap (λ (w : Area). w.minor) new.made.area_is;
  told = ap (λ (t : Transfers L). words.history (link_of t)) new.over ∙ ap words.history over;
  is_new = just_made words transfers minor g frames s many new;
  outbox = ap (λ (t : Transfers L). outbox_of (table_of t)) new.over ∙ owes;
  serves = λ image tree first.
      let c = caching_of words s in
      let table = subst (λ (t : Transfers L). Agrees (table_of t) []) (sym new.over) agrees in
      let count = frame_count s.blocks.cache in
      subst (λ (h : Geometry). Serves (server_of h c count s.blocks.cache.flush (files_of s.opens)) image tree []) (sym new.geometry)
      (serves_new g c count s.blocks.cache.flush (files_of s.opens) image tree [] some new.made.size_is new.made.none new.files table
      (λ tr. record { disk = λ place. refl; sure = λ place. refl }) (λ tr. first) refl tt tt refl tt
      (ap (λ (t : Transfers L). (table_of t).pending) new.over ∙ idle));
}

-- what isn't false is true
not_false : (b : Bool) → (b ≡ false → ⊥) → b ≡ true
not_false true h = refl
not_false false h = absurd (h refl)

-- and where it is refused
pub opens_over : {L : Type 0} (words : LinkWords L) (transfers : Transfers L) (link : L) (minor : ℕ) (g : Geometry) (frames : ℕ)
    (result : Result (Server (Stored L)) CacheRefusal) → link_of transfers ≡ link → Agrees (table_of transfers) [] → outbox_of (table_of transfers) ≡ empty_outbox
    → (table_of transfers).pending ≡ [] → 0 < g.block_size → IfOk result (IsNewOver words transfers minor g frames) → (IsErrOf result BadFrames ↔ (is_frame_count frames ≡ false))
    → Opens words link minor g frames result
opens_over words transfers link minor g frames (Ok s) over agrees owes idle some new bad =
    opened words transfers link minor g frames s over agrees owes idle (not_false (is_frame_count frames) (λ e. let k = bad.1 e in cc)) some new
opens_over words transfers link minor g frames (Err BadFrames) over agrees owes idle some new bad = record { why = bad.0 refl; nothing_told = refl }
opens_over words transfers link minor g frames (Err OutOfMemory) over agrees owes idle some new bad =
    record { why = not_false (is_frame_count frames) (λ e. let k = bad.1 e in cc); nothing_told = refl }

-- nothing is pending in one that was just made, and no Flush is left undone
pub idle_over : {L : Type 0} (words : LinkWords L) (transfers : Transfers L) (minor : ℕ) (g : Geometry) (frames : ℕ)
    (result : Result (Server (Stored L)) CacheRefusal) → (table_of transfers).pending ≡ [] → Agrees (table_of transfers) []
    → IfOk result (IsNewOver words transfers minor g frames) → IfOk result (IsIdleOver words)
idle_over {L} words transfers minor g frames (Ok s) none agrees new = record {
  unwanted = new.no_flush;
  idle = record {
    none = ap (λ (t : Transfers L). (table_of t).pending) new.over ∙ none;
    marks = [];
    agrees = subst (λ (t : Transfers L). Agrees (table_of t) []) (sym new.over) agrees;
  };
}
idle_over words transfers minor g frames (Err e) none agrees new = tt
