-- What opening, mounting, calls and unmounting may not do, and what follows of a mount over any link.
use Rattle.std.specs.Prelude.{◌≡◌, ℕ, List, [], ◌∷◌, Bool, true, false, Some, None, IsTrue, refl}
use Rattle.std.proofs.Common.{arith, sym, subst, ◌∙◌}
use Rattle.message.specs.declared.endpoint.Endpoint.{Endpoint}
use Rattle.message.specs.declared.Incoming.TheVariants as incoming
use Rattle.layout.specs.declared.Geometry.{Geometry}
use Rattle.layout.specs.declared.LayoutRefusal.TheVariants.{BadMagic}
use Rattle.tree.specs.declared.Who.{Who}
use Rattle.tree.specs.declared.Call.{Call}
use Rattle.tree.specs.Tree.{Tree}
use Rattle.tree.specs.Answers.{Answer}
use Rattle.volume.specs.declared.Finding.{Finding}
use Rattle.records.specs.Marks.{Mark, Started, GaveUp}
use Rattle.records.specs.Open.{IsWellFormed}
use Rattle.records.specs.Disk.{Contents, HasTrueReplies}
use Rattle.records.specs.Told.{Told, Complained, Received}
use Rattle.records.specs.Area.{Area, area_of, no_area}
use Rattle.records.specs.Acts.{Act, AtLink, marks_after, empty_outbox, KeepsRules, Outbox}
use Rattle.records.specs.Legal.{IsLegal}
use Rattle.records.specs.ServerCall.{Serving, Outcome, Replied, Cut, with_outcome, CallKeeps}
use Rattle.records.specs.Mount.{OpenKeeps, MountKeeps, AreRead, IsHeadRefused, IsVolumeRefused, IsWhyNotMounted, Layout, Eio, LinkEnded, BadFrames}
use Rattle.records.specs.Unmount.{UnmountKeeps, Unmounted, Busy, unmounting_of}
use Rattle.records.specs.Unmount as unmount

-- the driver of this generation
abbrev driver : ℕ → Endpoint
driver g = record { slot = 1; generation = g }

-- a complaint that no answer asked for, alone
abbrev complaint : List Act
complaint = AtLink (Complained (driver 1)) ∷ []

-- a take with nothing pending, alone
abbrev take : List Act
take = AtLink (Received incoming.Flush) ∷ []

-- nothing is not something
none_is_some : (e : Endpoint) → None ≡ Some e → ⊥
none_is_some e h = cc

-- false does not hold
not_true : IsTrue false → ⊥
not_true h = let e : ◌≡◌ {A = Bool} false true = h in cc

-- the rules refuse the complaint
no_complaint : (area : Area) → KeepsRules area complaint [] empty_outbox → ⊥
no_complaint area h = none_is_some (driver 1) h.1

-- and the take
no_take : (area : Area) → KeepsRules area take [] empty_outbox → ⊥
no_take area h = not_true h.1.needed

-- an open that told its link something
talking_open : (g : Geometry) (minor frames : ℕ) (new : Serving) → OpenKeeps g minor frames [] new → new.told ≡ Complained (driver 1) ∷ [] → ⊥
talking_open g minor frames new keeps told = let e : ◌≡◌ {A = List Told} [] (Complained (driver 1) ∷ []) = sym keeps.told ∙ told in no_told (Complained (driver 1)) [] e
  where
    no_told : (t : Told) (ts : List Told) → [] ≡ t ∷ ts → ⊥
    no_told t ts e = cc

-- a mount that complains of nothing, and one that takes with nothing pending
complaining_mount : (minor frames : ℕ) (before : List Told) (new : Serving) (keeps : MountKeeps minor frames before new) → keeps.acts ≡ complaint → ⊥
complaining_mount minor frames before new keeps acts =
    let P : List Act → Type 0 = λ done. KeepsRules (no_area minor) done [] empty_outbox in no_complaint (no_area minor) (subst P acts keeps.mounting.keep)

taking_mount : (minor frames : ℕ) (before : List Told) (new : Serving) (keeps : MountKeeps minor frames before new) → keeps.acts ≡ take → ⊥
taking_mount minor frames before new keeps acts =
    let P : List Act → Type 0 = λ done. KeepsRules (no_area minor) done [] empty_outbox in no_take (no_area minor) (subst P acts keeps.mounting.keep)

-- an unmount that complains of nothing, from a server that owes nothing
complaining_unmount : (old new : Serving) (keeps : UnmountKeeps old Unmounted new) (image : Contents) (tree : Tree) → old.Agrees image tree []
    → old.outbox ≡ empty_outbox → keeps.acts ≡ complaint → ⊥
complaining_unmount old new keeps image tree agrees nothing acts =
    let P : List Act → Type 0 = λ done. KeepsRules (area_of old.geometry old.minor) done [] old.outbox in
    let Q : Outbox → Type 0 = λ o. KeepsRules (area_of old.geometry old.minor) complaint [] o in
    no_complaint (area_of old.geometry old.minor) (subst Q nothing (subst P acts (keeps.rules image tree [] agrees).keep))

-- a mount that is refused for its layout, or for what the check finds, though it read nothing
unread_layout : IsWhyNotMounted 64 [] false (Layout BadMagic) → ⊥
unread_layout h = let e : ◌≡◌ {A = Bool} false true = h.1.0.each 0 (omega arith) in cc

-- for want of a device that wasn't given up, for an end that wasn't taken, for a number of frames that is allowed
early_eio : IsWhyNotMounted 64 (Started (driver 1) ∷ []) false Eio → ⊥
early_eio h = let e : ◌≡◌ {A = Bool} false true = h.1 in cc

no_end : IsWhyNotMounted 64 (Started (driver 1) ∷ []) false LinkEnded → ⊥
no_end h = let e : ◌≡◌ {A = Bool} false true = h.1 in cc

good_frames : IsWhyNotMounted 16 [] false BadFrames → ⊥
good_frames h = let e : ◌≡◌ {A = Bool} true false = h.0 in cc

-- right: 15 and 4097 frames, a device that was given up, an end
few_frames : IsWhyNotMounted 15 [] false BadFrames
few_frames = (refl, refl)

many_frames : IsWhyNotMounted 4097 [] false BadFrames
many_frames = (refl, refl)

device_gone : IsWhyNotMounted 64 (GaveUp ∷ Started (driver 1) ∷ []) false Eio
device_gone = (refl, refl, record { head = λ refusal h. unread h.0; volume = λ finding h. unread h.0 })
  where
    unread : AreRead (GaveUp ∷ Started (driver 1) ∷ []) 2048 → ⊥
    unread h = let e : ◌≡◌ {A = Bool} false true = h.each 0 (omega arith) in cc

-- wrong: giving up, or an end, where the superblock that was read is refused, or the check finds something in the volume that was read
eio_for_layout : (marks : List Mark) → IsHeadRefused marks BadMagic → IsWhyNotMounted 64 marks false Eio → ⊥
eio_for_layout marks refused h = h.2.head BadMagic refused

eio_for_finding : (marks : List Mark) (finding : Finding) → IsVolumeRefused marks finding → IsWhyNotMounted 64 marks false Eio → ⊥
eio_for_finding marks finding refused h = h.2.volume finding refused

end_for_layout : (marks : List Mark) → IsHeadRefused marks BadMagic → IsWhyNotMounted 64 marks true LinkEnded → ⊥
end_for_layout marks refused h = h.3.head BadMagic refused

-- bad frames are looked at first
frames_first : IsWhyNotMounted 8 (GaveUp ∷ []) false Eio → ⊥
frames_first h = let e : ◌≡◌ {A = Bool} false true = h.0 in cc

-- of unmounting's refusals the least is answered
least_refusal : unmounting_of true true true ≡ unmount.LinkEnded
least_refusal = refl

eio_before_busy : unmounting_of false true true ≡ unmount.Eio
eio_before_busy = refl

busy_alone : unmounting_of false false true ≡ Busy
busy_alone = refl

none_of_them : unmounting_of false false false ≡ Unmounted
none_of_them = refl

-- An answer of Cut while no take gave End, and an answer after one.
cut_without_end : (old new : Serving) (who : Who) (now : ℕ) (call : Call) → CallKeeps old who now call Cut new → new.ended ≡ false → ⊥
cut_without_end old new who now call keeps live = let e : ◌≡◌ {A = Bool} false true = sym live ∙ keeps.cut.0 refl in cc

answer_after_end : (old new : Serving) (who : Who) (now : ℕ) (call : Call) (answer : Answer) → CallKeeps old who now call (Replied answer) new
    → new.ended ≡ true → ⊥
answer_after_end old new who now call answer keeps ended = no_cut answer (keeps.cut.1 ended)
  where
    no_cut : (a : Answer) → Replied a ≡ Cut → ⊥
    no_cut a e = cc

-- After a mount over any link, true or lying, the record of each call is well formed; over true replies it is legal, from the tree
-- that the image holds.
mounted_then_called : (minor frames : ℕ) (before : List Told) (s t : Serving) (m : MountKeeps minor frames before s) (who : Who) (now : ℕ)
    (call : Call) (outcome : Outcome) (c : CallKeeps s who now call outcome t) (image : Contents)
    → IsWellFormed (with_outcome who now call outcome (marks_after c.acts (marks_after m.acts [])))
mounted_then_called minor frames before s t m who now call outcome c image =
    (c.serves image m.tree (marks_after m.acts []) (m.serves image)).well_formed

mounted_then_legal : (minor frames : ℕ) (before : List Told) (s t : Serving) (m : MountKeeps minor frames before s) (who : Who) (now : ℕ)
    (call : Call) (outcome : Outcome) (c : CallKeeps s who now call outcome t) (image : Contents)
    → HasTrueReplies image (with_outcome who now call outcome (marks_after c.acts (marks_after m.acts [])))
    → IsLegal t.geometry image m.tree (with_outcome who now call outcome (marks_after c.acts (marks_after m.acts [])))
mounted_then_legal minor frames before s t m who now call outcome c image true_replies =
    (c.serves image m.tree (marks_after m.acts []) (m.serves image)).legal true_replies
