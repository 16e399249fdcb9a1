-- Mounts and an unmount that are refused for no reason, or do what they may not.
use Rattle.std.specs.Prelude.{◌≡◌, ◌<◌, ℕ, List, [], ◌∷◌, ◌++◌, replicate, Bool, true, false, Option, Some, None}
use Rattle.std.proofs.Common.{arith, refl, sym, ◌∙◌, subst}
use Rattle.message.specs.declared.endpoint.Endpoint.{Endpoint}
use Rattle.message.specs.declared.Kind.TheVariants.{Read, Write}
use Rattle.message.specs.declared.BlockRequest.{BlockRequest}
use Rattle.message.specs.declared.Incoming.TheVariants as incoming
use Rattle.layout.specs.declared.Geometry.{Geometry}
use Rattle.volume.specs.declared.Finding.{Finding}
use Rattle.records.specs.Told.{Told, Posted, Received}
use Rattle.records.specs.Marks.{GaveUp}
use Rattle.records.specs.Disk.{is_read}
use Rattle.records.specs.Acts.{Act, Began, AtLink, empty_outbox, outbox_after, marks_after, told_of}
use Rattle.records.specs.ServerCall.{Serving}
use Rattle.records.specs.Mount.{IsWhyNotMounted, Mounting, MountKeeps, MountRefused, MountRefusal, Inconsistent, Eio, LinkEnded, BadFrames, OutOfMemory, AreRead, OpenKeeps, OpenRefused, IsWhyNotOpened, volume_size}
use Rattle.records.specs.Unmount.{UnmountKeeps}
use Rattle.records.specs.Unmount as unmount
use Rattle.records.proofs.LegalRows.{small}

-- an inconsistency is found in what was read: where nothing was, there is none
finds_without_reading : (finding : Finding) → IsWhyNotMounted 16 [] false (Inconsistent finding) → ⊥
finds_without_reading finding why = let read : false ≡ true = why.1.0.each 0 (omega arith) in cc

-- a driver
abbrev driver : Endpoint
driver = record { slot = 1; generation = 1 }

-- a write of the boot block
abbrev zeros : BlockRequest
zeros = record { id = 1; kind = Write; minor = 0; position = 0; count = 4096; bytes = replicate 4096 0 }

-- a mount doesn't write
writes : (before after : List Told)
    → Mounting 0 before (AtLink (Posted driver zeros true) ∷ AtLink (Received (incoming.Started driver)) ∷ Began zeros ∷ []) after → ⊥
writes before after mounting = let read : true ≡ false = mounting.only_reads.0 in cc

-- a server with an open file, before and after a take that gave End
abbrev busy : List Told → Bool → Serving
busy told ended = record {
  geometry = small;
  minor = 0;
  Agrees = λ image tree marks. marks ≡ [];
  frames = λ block. None;
  frame_count = 64;
  outbox = empty_outbox;
  is_busy = true;
  told = told;
  ended = ended;
  settled = Unit {0};
  unwritten = λ block. false;
  overtaken = λ block. false;
  wanted = false;
}

-- where a file is open, unmounting does nothing, and so takes no End
takes_while_busy : UnmountKeeps (busy [] false) unmount.LinkEnded (busy (Received incoming.End ∷ []) true) → ⊥
takes_while_busy keeps =
    let nothing : keeps.acts ≡ [] = keeps.busy refl in
    let told : ◌≡◌ {A = List Told} (Received incoming.End ∷ []) [] =
    subst (λ (acts : List Act). Received incoming.End ∷ [] ≡ told_of acts ++ []) nothing keeps.leads.told in cc

-- a mounted volume is read to its end: none of its bytes is left out
left_out : (minor frames place : ℕ) (before : List Told) (new : Serving) (keeps : MountKeeps minor frames before new)
    → place < volume_size (marks_after keeps.acts []) → is_read (marks_after keeps.acts []) place ≡ false → ⊥
left_out minor frames place before new keeps within unread =
    let h : ◌≡◌ {A = Bool} true false = sym (keeps.whole.each place within) ∙ unread in cc

-- it has as many frames as were asked for
other_count : (g : Geometry) (before : List Told) (new : Serving) → OpenKeeps g 0 32 before new → new.frame_count ≡ 16 → ⊥
other_count g before new keeps few = let h : 16 ≡ 32 = sym few ∙ keeps.is_new.as_many in absurd (omega (arith, h))

-- the first block is to be read, and the device is given up: right, nothing is left due
abbrev given_up : List Act
given_up = AtLink (Received incoming.GaveUp) ∷ Began (record zeros { kind = Read }) ∷ []

given_up_refused : MountRefused 0 64 [] Eio (Received incoming.GaveUp ∷ [])
given_up_refused = record {
  acts = given_up;
  mounting = record {
    told = refl;
    none_absorbed = refl;
    only_reads = (refl, tt);
    keep = ((tt, record { next = refl; room = omega arith }), record { at_rest = record { complaint = refl; post = refl }; live = refl; needed = refl });
  };
  at_rest = record { complaint = refl; post = refl };
  bad_frames = λ e. cc;
  why = (refl, refl, record { head = λ refusal h. unread h.0; volume = λ finding h. unread h.0 });
}
  where
    unread : AreRead (GaveUp ∷ []) 2048 → ⊥
    unread h = let e : ◌≡◌ {A = Bool} false true = h.each 0 (omega arith) in cc

-- a mount isn't refused while a complaint is due
complaint_due : (frames : ℕ) (before after : List Told) (refusal : MountRefusal) (r : MountRefused 0 frames before refusal after) (e : Endpoint)
    → (outbox_after r.acts [] empty_outbox).complaint ≡ Some e → ⊥
complaint_due frames before after refusal r e due = let h : ◌≡◌ {A = Option Endpoint} None (Some e) = sym r.at_rest.complaint ∙ due in cc

-- 15 frames: nothing is begun, and the link is told nothing
begins_for_frames : (before after : List Told) (r : MountRefused 0 15 before BadFrames after) → r.acts ≡ Began zeros ∷ [] → ⊥
begins_for_frames before after r begun = let h : ◌≡◌ {A = List Act} [] (Began zeros ∷ []) = sym (r.bad_frames refl).0 ∙ begun in cc

-- an open is refused for 15 frames and for want of memory, and for nothing else: it doesn't look at the device
few_frames : OpenRefused 15 [] BadFrames []
few_frames = record { why = refl; nothing_told = refl }

no_memory : OpenRefused 16 [] OutOfMemory []
no_memory = record { why = refl; nothing_told = refl }

memory_for_frames : IsWhyNotOpened 15 OutOfMemory → ⊥
memory_for_frames h = let e : ◌≡◌ {A = Bool} false true = h in cc

open_ended : IsWhyNotOpened 16 LinkEnded → ⊥
open_ended h = h

open_given_up : IsWhyNotOpened 16 Eio → ⊥
open_given_up h = h
