-- From a volume that was read to a server that is mounted, or why not.
use Rattle.std.proofs.Common.{◌≡◌, ℕ, List, [], ◌∷◌, ◌++◌, Bool, true, false, refl, sym, ◌∙◌, ap, subst}
use Rattle.std.specs.Prelude.{Ok, Err, ◌||◌}
use Rattle.lemmas.proofs.Bools.{from_clash}
use Rattle.message.specs.declared.Incoming.TheVariants as incoming
use Rattle.layout.specs.declared.Geometry.{Geometry}
use Rattle.records.specs.Marks.{Mark}
use Rattle.records.specs.Disk.{Contents, HasTrueReplies}
use Rattle.records.specs.Told.{Told, Posted, Complained, Received, took_end}
use Rattle.records.specs.Acts.{Act, Outbox, IsAtRest, KeepsRules, empty_outbox, marks_after, outbox_after, told_of}
use Rattle.records.specs.Area.{Area, WritesInside, area_of, no_area}
use Rattle.records.specs.Legal.{IsAtFirst}
use Rattle.records.specs.Mount.{IsWhyNotMounted, MountKeeps, MountRefused, Mounting, is_frame_count}
use Rattle.records.specs.Mount as words
use Rattle.records.specs.ServerCall.{Serves}
use Rattle.reissue.specs.declared.link.Link.{Ghosts as LinkWords}
use Rattle.reissue.specs.declared.table.Table.{Table}
use Rattle.reissue.specs.declared.transfers.Transfers.{Transfers}
use Rattle.reissue.specs.Transfers.{link_of, table_of}
use Rattle.reissue.specs.Agrees.{Agrees}
use Rattle.reissue.specs.Calls.{Truth}
use Rattle.reissue.specs.Rules.{outbox_of}
use Rattle.reissue.proofs.TableRules.{at_rest}
use Rattle.cache.specs.Calls.{frame_count}
use Rattle.descriptors.specs.Table.{files_of}
use Rattle.cached_blocks.specs.declared.Stored.{Stored}
use Rattle.fsck.specs.declared.verdict.Clean.{Clean}
use Rattle.volume_mount.specs.declared.whole.MountRefusal.{MountRefusal}
use Rattle.volume_mount.specs.declared.whole.MountRefusal.TheVariants as refusal
use Rattle.volume_reading.specs.Reading.{Went}
use Rattle.volume_mount.specs.Mounts.{ReadsVolume, in_words}
use Rattle.vfs.specs.declared.server.Server.{Server}
use Rattle.vfs.specs.Serving.{server_of}
use Rattle.vfs.specs.OverLink.{caching_of, serving_over, transfers_of}
use Rattle.volume_mount.specs.Opening.{IsNewOver}
use Rattle.records.proofs.Inside.{acts_write_inside, wider_rules}
use Rattle.records.proofs.Quiet.{looking_acts}
use Rattle.vfs.proofs.Keeping.{legal_acts, tree_acts}
use Rattle.volume_mount.proofs.ReadAlone.{writes_none}
use Rattle.volume_mount.proofs.Opened.{just_made, serves_new}
use Rattle.volume_mount.specs.Mounted.{IsMounted, IsNotMounted}

-- ---- Ends

end_both : (later told : List Told) → took_end (later ++ told) ≡ (took_end later || took_end told)
end_both [] told = refl
end_both (Posted to r accepted ∷ later) told = end_both later told
end_both (Complained e ∷ later) told = end_both later told
end_both (Received incoming.End ∷ later) told = refl
end_both (Received (incoming.Reply a) ∷ later) told = end_both later told
end_both (Received (incoming.Started e) ∷ later) told = end_both later told
end_both (Received incoming.GaveUp ∷ later) told = end_both later told
end_both (Received incoming.Flush ∷ later) told = end_both later told

-- where the volume was read the link hasn't ended
pub unended : (minor : ℕ) (clean : Clean) (old new : Table) (before after : List Told) (was is : Truth) → Agrees old [] → took_end before ≡ false
    → ReadsVolume (Ok clean) minor old new before after was is → took_end after ≡ false
unended minor clean old new before after was is agrees none r =
    ap took_end r.went.told ∙ end_both (told_of r.went.acts) before ∙ ap (λ (b : Bool). b || took_end before) (r.end agrees).0 ∙ none

-- ---- what was done

module _ (minor : ℕ) (old new : Table) (before after : List Told) (was is : Truth) (agrees : Agrees old []) (owes : outbox_of old ≡ empty_outbox)
    (w : Went minor old new before after was is) where
  abbrev marks : List Mark
  marks = marks_after w.acts []

  done : Mounting minor before w.acts after
  done = record {
    told = w.told;
    none_absorbed = w.none_absorbed;
    only_reads = w.only_reads;
    keep = subst (λ (o : Outbox). KeepsRules (no_area minor) w.acts [] o) owes (w.follows [] agrees).keep;
  }

  owed : outbox_of new ≡ outbox_after w.acts [] empty_outbox
  owed = sym (w.follows [] agrees).owes ∙ ap (λ (o : Outbox). outbox_after w.acts [] o) owes

  resting : IsAtRest marks (outbox_after w.acts [] empty_outbox)
  resting = subst (λ (o : Outbox). IsAtRest marks o) owed (at_rest new marks (w.follows [] agrees).agrees)

  -- why nothing is mounted
  refused_by : (frames : ℕ) (e : MountRefusal) → is_frame_count frames ≡ true
      → IsWhyNotMounted frames marks (took_end (told_of w.acts)) (in_words e) → MountRefused minor frames before (in_words e) after
  refused_by frames e ok why = record {
    acts = w.acts;
    mounting = done;
    at_rest = resting;
    bad_frames = λ same. from_clash (sym ok ∙ (subst (λ (r : words.MountRefusal). IsWhyNotMounted frames marks (took_end (told_of w.acts)) r) same why).0);
    why = why;
  }

-- ---- the refusals

-- before anything was done
pub refused_now : {L : Type 0} (words : LinkWords L) (link : L) (minor frames : ℕ) (e : MountRefusal) → words.goes_on link link
    → IsWhyNotMounted frames [] false (in_words e) → IsNotMounted words link minor frames e
refused_now words link minor frames e goes why = record {
  last = link;
  goes = goes;
  refused = record {
    acts = [];
    mounting = record { told = refl; none_absorbed = refl; only_reads = tt; keep = tt };
    at_rest = record { complaint = refl; post = refl };
    bad_frames = λ same. (refl, refl);
    why = why;
  };
  truth = λ v same was. was;
}

pub refused_later : {L : Type 0} (words : LinkWords L) (link : L) (minor frames : ℕ) (e : MountRefusal) (old new : Transfers L) → link_of old ≡ link
    → Agrees (table_of old) [] → outbox_of (table_of old) ≡ empty_outbox → words.goes_on (link_of old) (link_of new) → is_frame_count frames ≡ true
    → ReadsVolume (Err e) minor (table_of old) (table_of new) (words.history (link_of old)) (words.history (link_of new))
    (words.truth (link_of old)) (words.truth (link_of new)) → IsNotMounted words link minor frames e
unfolding refused_by
refused_later {L} words link minor frames e old new over agrees owes goes ok r =
    subst (λ (l : L). IsNotMounted words l minor frames e) over (record {
      last = link_of new;
      goes = goes;
      refused = refused_by minor (table_of old) (table_of new) _ _ _ _ agrees owes r.went frames e ok (r.end agrees frames ok);
      truth = λ v same was. r.went.truth v [] same agrees was;
    })

pub lacking_later : {L : Type 0} (words : LinkWords L) (link : L) (minor frames : ℕ) (clean : Clean) (old new : Transfers L) → link_of old ≡ link
    → Agrees (table_of old) [] → outbox_of (table_of old) ≡ empty_outbox → words.goes_on (link_of old) (link_of new) → is_frame_count frames ≡ true
    → ReadsVolume (Ok clean) minor (table_of old) (table_of new) (words.history (link_of old)) (words.history (link_of new))
    (words.truth (link_of old)) (words.truth (link_of new)) → IsNotMounted words link minor frames refusal.OutOfMemory
unfolding refused_by
lacking_later {L} words link minor frames clean old new over agrees owes goes ok r =
    subst (λ (l : L). IsNotMounted words l minor frames refusal.OutOfMemory) over (record {
      last = link_of new;
      goes = goes;
      refused = refused_by minor (table_of old) (table_of new) _ _ _ _ agrees owes r.went frames refusal.OutOfMemory ok ok;
      truth = λ v same was. r.went.truth v [] same agrees was;
    })

-- ---- the server

pub mounted : {L : Type 0} (words : LinkWords L) (link : L) (minor frames : ℕ) (clean : Clean) (old new : Transfers L) (s : Server (Stored L)) → link_of old ≡ link
    → Agrees (table_of old) [] → outbox_of (table_of old) ≡ empty_outbox → words.goes_on (link_of old) (link_of new) → is_frame_count frames ≡ true
    → ReadsVolume (Ok clean) minor (table_of old) (table_of new) (words.history (link_of old)) (words.history (link_of new))
    (words.truth (link_of old)) (words.truth (link_of new)) → IsNewOver words new minor clean.geometry frames s → IsMounted words link minor frames s
mounted {L} words link minor frames clean old new s over agrees owes goes ok r n =
    subst (λ (l : L). IsMounted words l minor frames s) over (record {
      keeps = kept;
      goes = subst (λ (t : Transfers L). words.goes_on (link_of old) (link_of t)) (sym n.over) goes;
      truth = λ v same was. subst (λ (t : Transfers L). words.truth (link_of t) v marks) (sym n.over) (r.went.truth v [] same agrees was);
      ready = n.ready;
      none_absorbed = n.none_absorbed;
    })
  where
    acts : List Act
    acts = r.went.acts

    marks : List Mark
    marks = marks_after r.went.acts []

    now : Agrees (table_of (transfers_of s)) marks
    now = subst (λ (t : Transfers L). Agrees (table_of t) marks) (sym n.over) (r.went.follows [] agrees).agrees

    did : Mounting minor (words.history (link_of old)) r.went.acts (words.history (link_of new))
    did = done minor (table_of old) (table_of new) _ _ _ _ agrees owes r.went

    -- the acts wrote nothing, and so nothing outside
    inside : WritesInside clean.geometry marks
    inside = acts_write_inside clean.geometry minor r.went.acts [] empty_outbox
        (wider_rules (area_of clean.geometry minor) r.went.acts [] empty_outbox did.keep) tt

    same_geometry : s.geometry ≡ clean.geometry
    same_geometry = n.geometry

    first : (image : Contents) → HasTrueReplies image marks → IsAtFirst clean.geometry image (r.end agrees).1.tree
    first image tr = (r.end agrees).1.at_first image tr

    kept : MountKeeps minor frames (words.history (link_of old)) (serving_over words s)
    kept = record {
      acts = r.went.acts;
      mounting = subst (λ (t : Transfers L). Mounting minor (words.history (link_of old)) r.went.acts (words.history (link_of t))) (sym n.over)
          (done minor (table_of old) (table_of new) _ _ _ _ agrees owes r.went);
      minor_is = ap (λ (w : Area). w.minor) n.made.area_is;
      geometry = n.geometry ∙ (r.end agrees).1.geometry;
      is_new = just_made words new minor clean.geometry frames s ok n;
      none_ended = (r.end agrees).0;
      not_given_up = sym (r.went.follows [] agrees).agrees.holds.given_up ∙ (r.end agrees).1.going;
      outbox = ap (λ (t : Transfers L). outbox_of (table_of t)) n.over ∙ owed minor (table_of old) (table_of new) _ _ _ _ agrees owes r.went;
      whole = (r.end agrees).1.whole;
      clean = (r.end agrees).1.verdict;
      tree = (r.end agrees).1.tree;
      held = (r.end agrees).1.held;
      at_first = λ image tr. subst (λ (g : Geometry). IsAtFirst g image (r.end agrees).1.tree) (sym n.geometry) (first image tr);
      serves = λ image.
          subst (λ (g : Geometry). Serves (server_of g (caching_of words s) (frame_count s.blocks.cache) s.blocks.cache.flush (files_of s.opens)) image (r.end agrees).1.tree marks) (sym n.geometry)
          (serves_new clean.geometry (caching_of words s) (frame_count s.blocks.cache) s.blocks.cache.flush (files_of s.opens) image (r.end agrees).1.tree marks
          (r.end agrees).1.sizes.sized n.made.size_is n.made.none n.files now
          (λ tr. let l = r.went.leaves image [] agrees tr in record { disk = λ place. l.disk place; sure = λ place. l.sure place refl })
          (first image) (tree_acts clean.geometry (r.end agrees).1.tree r.went.acts []) (legal_acts clean.geometry image (r.end agrees).1.tree r.went.acts [] tt)
          (looking_acts clean.geometry (r.end agrees).1.tree r.went.acts [] tt)
          (writes_none (no_area minor) r.went.acts did.only_reads did.keep) inside
          (ap (λ (t : Transfers L). (table_of t).pending) n.over ∙ (r.end agrees).1.idle));
    }
