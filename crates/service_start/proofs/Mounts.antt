-- From a volume that was mounted to what a service holds, or why it doesn't start.
use Rattle.std.proofs.Common.{◌≡◌, ℕ, List, [], ◌++◌, sym, ap, ◌∙◌, subst}
use Rattle.layout.specs.declared.Geometry.{Geometry}
use Rattle.tree.specs.declared.Call.{Call}
use Rattle.records.specs.Marks.{Mark}
use Rattle.records.specs.Disk.{HasTrueReplies}
use Rattle.records.specs.Acts.{KeepsRules, empty_outbox, marks_after, told_of}
use Rattle.records.specs.Area.{no_area}
use Rattle.records.specs.Opening.{Opening, contents_at}
use Rattle.records.specs.Told.{Told}
use Rattle.bdev.specs.DriverState.{DriverState}
use Rattle.reincarnate.specs.declared.policy.Policy.{Policy}
use Rattle.records.specs.Legal.{IsAtFirst}
use Rattle.records.specs.Mount.{MountRefused}
use Rattle.reissue.specs.declared.link.Link.{Ghosts as LinkWords}
use Rattle.board.specs.declared.counting.parameters.ServiceParameters.{Ghosts as RoomWords}
use Rattle.shared_server.specs.Held.{IsHeld}
use Rattle.cached_blocks.specs.declared.Stored.{Stored}
use Rattle.volume_mount.specs.declared.whole.MountRefusal.{MountRefusal}
use Rattle.volume_mount.specs.declared.whole.MountRefusal.TheVariants as mount
use Rattle.volume_mount.specs.Laws.{sizes_in}
use Rattle.volume_mount.specs.Mounts.{in_words}
use Rattle.volume_mount.proofs.OfImage.{mounted_on_image, refused_by_image}
use Rattle.volume_mount.specs.Server.{Server}
use Rattle.volume_mount.specs.Mounted.{IsMounted, IsNotMounted}
use Rattle.volume_mount.specs.OverLink.{IsReadyOver, line_of, serving_over}
use Rattle.shared_server.proofs.HeldLaws.{held_mounted}
use Rattle.service_start.specs.Stopped.{IsMountedTruly, IsMountRefused, IsStopped, refusal_of}

-- ---- what is held

module _ {N L : Type 0} (room : RoomWords N) (words : LinkWords L) (runs_on : L → Policy → List DriverState → Type 0)
    (record_in : L → List Mark)
    (is_record : (l : L) (v : Opening) (older : List Mark) → words.truth l v older → record_in l ≡ older)
    (keeps_on : (l m : L) (policy : Policy) (supply : List DriverState) → words.goes_on l m → runs_on l policy supply
    → runs_on m policy supply)
    (link : L) (minor frames : ℕ) (same : minor ≡ room.opening.minor) (truth : words.truth link room.opening [])
    (sizes : room.geometry ≡ sizes_in (contents_at room.opening)) where
  module _ (s : Server (Stored L)) (m : IsMounted words link minor frames s) where
    abbrev marks : List Mark
    marks = marks_after m.keeps.acts []

    -- what the link guarantees then
    guaranteed : words.truth (line_of s) room.opening marks
    guaranteed = m.truth room.opening (sym same) truth

    geometry_is : HasTrueReplies (contents_at room.opening) marks → (serving_over words s).geometry ≡ room.geometry
    geometry_is replies =
        mounted_on_image minor frames (words.history link) (serving_over words s) (contents_at room.opening) m.keeps replies ∙ sym sizes

    -- where the replies were true the volume holds the tree that is served
    pub holds : IsMountedTruly words.truth room.geometry room.opening
    holds = record {
      line = line_of s;
      marks = marks;
      guaranteed = guaranteed;
      holds = λ replies. (
        m.keeps.tree,
        subst (λ (g : Geometry). IsAtFirst g (contents_at room.opening) m.keeps.tree) (geometry_is replies)
            (m.keeps.at_first (contents_at room.opening) replies),
      );
    }

    pub mounted_held : runs_on link room.policy room.supply → (knows : Call → Type 0) → ((call : Call) → knows call)
        → IsHeld room words (serving_over words) line_of (IsReadyOver words) knows runs_on record_in s
    mounted_held drivers knows each =
        held_mounted room words (serving_over words) line_of (IsReadyOver words) knows runs_on record_in s (words.history link) minor frames
        m.ready each m.keeps (sym same) m.ready.may.ends (λ l older. is_record l room.opening older) geometry_is
        (keeps_on link (line_of s) room.policy room.supply m.goes drivers) guaranteed

-- ---- why nothing is mounted

-- a mount was refused
refused_over : (v : Opening) (frames minor : ℕ) (before after : List Told) (e : MountRefusal) → before ≡ [] → minor ≡ v.minor
    → (r : MountRefused minor frames before (in_words e) after) → IsMountRefused v frames e
refused_over v frames minor before after e none same r = record {
  after = after;
  refused = record {
    acts = r.acts;
    mounting = record {
      told = r.mounting.told ∙ ap (λ (told : List Told). told_of r.acts ++ told) none;
      none_absorbed = r.mounting.none_absorbed;
      only_reads = r.mounting.only_reads;
      keep = subst (λ (n : ℕ). KeepsRules (no_area n) r.acts [] empty_outbox) same r.mounting.keep;
    };
    at_rest = r.at_rest;
    bad_frames = λ is. let b = r.bad_frames is in (b.0, b.1 ∙ none);
    why = r.why;
  };
  said = λ replies. refused_by_image minor frames before after (in_words e) (contents_at v) r replies;
}

-- as a start has it
as_start : (v : Opening) (frames : ℕ) (e : MountRefusal) → IsMountRefused v frames e → IsStopped v frames (refusal_of e)
as_start v frames (mount.Layout refusal) h = h
as_start v frames (mount.Inconsistent finding) h = h
as_start v frames mount.OutOfMemory h = tt
as_start v frames mount.Eio h = h
as_start v frames mount.LinkEnded h = h
as_start v frames mount.BadFrames h = h

-- over a link that was told nothing
pub mount_stopped : {L : Type 0} (words : LinkWords L) (v : Opening) (link : L) (minor frames : ℕ) (e : MountRefusal) → minor ≡ v.minor
    → words.history link ≡ [] → IsNotMounted words link minor frames e → IsStopped v frames (refusal_of e)
mount_stopped words v link minor frames e same none m =
    as_start v frames e (refused_over v frames minor (words.history link) (words.history m.last) e none same m.refused)
