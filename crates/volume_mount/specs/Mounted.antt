-- What opening and mounting promise of a server, over any link.
use Rattle.std.specs.Prelude.{◌≡◌, ℕ, [], Result, Ok, Err}
use Rattle.layout.specs.declared.Geometry.{Geometry}
use Rattle.records.specs.Opening.{Opening}
use Rattle.records.specs.Acts.{marks_after}
use Rattle.records.specs.Mount.{MountKeeps, MountRefused, OpenKeeps, OpenRefused}
use Rattle.reissue.specs.declared.link.Link.{Ghosts as LinkWords}
use Rattle.cached_blocks.specs.declared.Stored.{Stored}
use Rattle.volume_mount.specs.declared.whole.MountRefusal.{MountRefusal}
use Rattle.volume_mount.specs.Mounts.{in_words}
use Rattle.vfs.specs.declared.server.Server.{Server}
use Rattle.vfs.specs.OverLink.{IsReadyOver, line_of, serving_over}

-- what opening promises
abbrev pub OpensClean : {L : Type 0} → LinkWords L → L → ℕ → Geometry → ℕ → Result (Server (Stored L)) MountRefusal → Type 0
OpensClean words link minor g frames (Ok s) = OpenKeeps g minor frames (words.history link) (serving_over words s)
OpensClean words link minor g frames (Err e) = OpenRefused frames (words.history link) (in_words e) (words.history link)

-- A server that was mounted: what its link guaranteed of the empty record it guarantees of the record of mounting, and goes on with.
pub record IsMounted {L : Type 0} (words : LinkWords L) (link : L) (minor frames : ℕ) (s : Server (Stored L)) : Type 0 where
  pub keeps : MountKeeps minor frames (words.history link) (serving_over words s)
  pub goes : words.goes_on link (line_of s)
  pub truth : (v : Opening) → v.minor ≡ minor → words.truth link v [] → words.truth (line_of s) v (marks_after keeps.acts [])
  pub ready : IsReadyOver words s
  pub none_absorbed : s.absorbed ≡ 0

-- Nothing is mounted: the link as it was let go. What it guaranteed of the empty record it guarantees of the record of what was done.
pub record IsNotMounted {L : Type 0} (words : LinkWords L) (link : L) (minor frames : ℕ) (e : MountRefusal) : Type 0 where
  pub last : L
  pub goes : words.goes_on link last
  pub refused : MountRefused minor frames (words.history link) (in_words e) (words.history last)
  pub truth : (v : Opening) → v.minor ≡ minor → words.truth link v [] → words.truth last v (marks_after refused.acts [])
