-- What a service leaves whose sessions answered the messages of a stream.
use Rattle.std.specs.Prelude.{ℕ, List, Option, Result, OnOk, is_some}
use Rattle.layout.specs.declared.Geometry.{Geometry}
use Rattle.tree.specs.Tree.{Tree}
use Rattle.records.specs.Marks.{Mark}
use Rattle.records.specs.Opening.{Opening, contents_at}
use Rattle.records.specs.Legal.{IsAtFirst}
use Rattle.shared_server.specs.Stopping.{SyncTells}
use Rattle.shared_server.specs.Finishing.{sync_of}
use Rattle.shared_server.specs.declared.locked.LastSync.{LastSync}
use Rattle.shared_media.specs.Confined.{IsImageOutside}
use Rattle.serve.specs.Stopping.{IsRange}
use Rattle.message_stream.specs.declared.answering.StreamRefusal.{StreamRefusal}
use Rattle.archive.specs.Behind.{Puts}
use Rattle.mount_service.specs.Spoken.{Speaks, IsSpoken}
use Rattle.archive.specs.Kept.{IsKeptAfter}

-- A service on this volume answered the messages of a stream, all of it where it says so, and left an image, whose media have as many
-- sectors as were handed in, and outside of the volume each as it was handed in. One record goes on from what each session had seen, and
-- says how the last sync went, whichever tree the volume held, and what the volume's range of the image is beside what was read back.
-- Nothing was put into the archive but behind syncs.
pub record IsLeftBy {A W : Type 0} (puts : Puts A) (fewest : ℕ) (speaks : Speaks W) (first : W) (g : Geometry) (v : Opening)
    (stream old new : Option (List ℕ)) (before after : Option A) (answered : Result (Unit {0}) StreamRefusal) (last : LastSync)
    (image : List ℕ) : Type 0 where
  pub marks : List Mark
  pub spoken : OnOk answered (IsSpoken puts fewest speaks first g v stream old new (is_some before) marks)
  pub tells : (tree : Tree) → IsAtFirst g (contents_at v) tree → SyncTells (sync_of last) g v tree marks
  pub range : IsRange (sync_of last) v marks image
  pub outside : IsImageOutside v image
  pub kept : IsKeptAfter puts g v before after
