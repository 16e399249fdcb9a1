-- Faults change nothing of what a record says of requests, the disk and the tree.
use Rattle.std.proofs.Common.{◌≡◌, ℕ, List, [], ◌∷◌, ◌++◌, Bool, true, false, cond, refl, sym, ◌∙◌, ap, subst, ◌⊎◌, inl, inr, length, ◌<◌, ◌+◌}
use Rattle.std.specs.Prelude.{◌&&◌, ◌||◌, not, nat_lt, is_some, IsTrue, Option, max, Some, None}
use Rattle.layout.specs.declared.Geometry.{Geometry}
use Rattle.message.specs.declared.endpoint.Endpoint.{Endpoint}
use Rattle.message.specs.Good.{is_write}
use Rattle.message.specs.declared.BlockRequest.{BlockRequest}
use Rattle.message.specs.declared.BlockReply.{BlockReply}
use Rattle.message.specs.declared.Incoming.{Incoming}
use Rattle.message.specs.declared.Incoming.TheVariants as incoming
use Rattle.tree.specs.declared.Who.{Who}
use Rattle.tree.specs.declared.Call.{Call}
use Rattle.tree.specs.Tree.{Tree}
use Rattle.tree.specs.Answers.{Answer}
use Rattle.volume.specs.Reading.{blocks_of}
use Rattle.volume.specs.Holds.{HoldsVolume}
use Rattle.records.specs.Marks.{Mark, Fault, Started, Answered, Flush, GaveUp, Took, Issued, last_started, gave_up, is_endpoint}
use Rattle.records.specs.Open.{open_requests, greatest, IsWellFormed, MayFollow, IsNew, IsAgain, IsIn, counts, with_id, without_id, moved_of, asked_by, moved_by, MissesAll}
use Rattle.records.specs.Disk.{Contents, disk_after, unsure, HasTrueReplies, IsTrueAnswer, IsTrueOf, settles, byte_for, covers}
use Rattle.records.specs.Legal.{IsLegal, IsLegalTook, IsSynced, is_sync, is_success, tree_after, tree_after_answer}
use Rattle.records.specs.View.{Frames, ReadsBack, server_view, frame_or}
use Rattle.records.specs.Area.{WritesInside}
use Rattle.records.specs.Settled.{only_looks, is_settled, none_written, LookingWritesNothing}
use Rattle.schedule.specs.Faultless.{without_faults, FaultsChangeNothing, LeaveSameMark}

started : (marks : List Mark) → last_started (without_faults marks) ≡ last_started marks
started [] = refl
started (Fault e cause ∷ marks) = started marks
started (Started e ∷ marks) = refl
started (Answered a ∷ marks) = started marks
started (Flush ∷ marks) = started marks
started (GaveUp ∷ marks) = started marks
started (Took who now call answer ∷ marks) = started marks
started (Issued r e ∷ marks) = started marks

given_up : (marks : List Mark) → gave_up (without_faults marks) ≡ gave_up marks
given_up [] = refl
given_up (Fault e cause ∷ marks) = given_up marks
given_up (Started e ∷ marks) = given_up marks
given_up (Answered a ∷ marks) = given_up marks
given_up (Flush ∷ marks) = given_up marks
given_up (GaveUp ∷ marks) = refl
given_up (Took who now call answer ∷ marks) = given_up marks
given_up (Issued r e ∷ marks) = given_up marks

the_greatest : (marks : List Mark) → greatest (without_faults marks) ≡ greatest marks
the_greatest [] = refl
the_greatest (Fault e cause ∷ marks) = the_greatest marks
the_greatest (Started e ∷ marks) = the_greatest marks
the_greatest (Answered a ∷ marks) = the_greatest marks
the_greatest (Flush ∷ marks) = the_greatest marks
the_greatest (GaveUp ∷ marks) = the_greatest marks
the_greatest (Took who now call answer ∷ marks) = the_greatest marks
the_greatest (Issued r e ∷ marks) = ap (λ (n : ℕ). max n r.id) (the_greatest marks)

opened : (marks : List Mark) → open_requests (without_faults marks) ≡ open_requests marks
opened [] = refl
opened (Fault e cause ∷ marks) = opened marks
opened (Started e ∷ marks) = opened marks
opened (Answered a ∷ marks) =
    ap (λ (o : List BlockRequest). cond (is_some (moved_of (with_id a.id o) a)) (without_id a.id o) o) (opened marks)
opened (Flush ∷ marks) = opened marks
opened (GaveUp ∷ marks) = opened marks
opened (Took who now call answer ∷ marks) = opened marks
opened (Issued r e ∷ marks) =
    ap (λ (n : ℕ). cond (nat_lt n r.id) (open_requests (without_faults marks) ++ r ∷ []) (open_requests (without_faults marks))) (the_greatest marks)
    ∙ ap (λ (o : List BlockRequest). cond (nat_lt (greatest marks) r.id) (o ++ r ∷ []) o) (opened marks)

-- the disk after an answer, by the request that it is for and the byte before
abbrev disk_step : BlockReply → ℕ → List BlockRequest → ℕ → ℕ
disk_step a place o before =
    cond (settles (with_id a.id o) (moved_of (with_id a.id o) a) place) (byte_for (with_id a.id o) place) before

the_disk : (marks : List Mark) (image : Contents) (place : ℕ) → disk_after image (without_faults marks) place ≡ disk_after image marks place
the_disk [] image place = refl
the_disk (Fault e cause ∷ marks) image place = the_disk marks image place
the_disk (Started e ∷ marks) image place = the_disk marks image place
the_disk (Answered a ∷ marks) image place =
    ap (λ (o : List BlockRequest). disk_step a place o (disk_after image (without_faults marks) place)) (opened marks)
    ∙ ap (disk_step a place (open_requests marks)) (the_disk marks image place)
the_disk (Flush ∷ marks) image place = the_disk marks image place
the_disk (GaveUp ∷ marks) image place = the_disk marks image place
the_disk (Took who now call answer ∷ marks) image place = the_disk marks image place
the_disk (Issued r e ∷ marks) image place = the_disk marks image place

abbrev sure_step : BlockReply → ℕ → List BlockRequest → Bool → Bool
sure_step a place o before = not (settles (with_id a.id o) (moved_of (with_id a.id o) a) place) && before

the_sure : (marks : List Mark) (place : ℕ) → unsure (without_faults marks) place ≡ unsure marks place
the_sure [] place = refl
the_sure (Fault e cause ∷ marks) place = the_sure marks place
the_sure (Started e ∷ marks) place = the_sure marks place
the_sure (Answered a ∷ marks) place =
    ap (λ (o : List BlockRequest). sure_step a place o (unsure (without_faults marks) place)) (opened marks)
    ∙ ap (sure_step a place (open_requests marks)) (the_sure marks place)
the_sure (Flush ∷ marks) place = the_sure marks place
the_sure (GaveUp ∷ marks) place = the_sure marks place
the_sure (Took who now call answer ∷ marks) place = the_sure marks place
the_sure (Issued r e ∷ marks) place = ap (λ (b : Bool). (is_write r.kind && covers r place) || b) (the_sure marks place)

-- what may follow the one may follow the other
is_new : (marks : List Mark) (r : BlockRequest) → IsNew (without_faults marks) r → IsNew marks r
is_new marks r n = record {
  next = n.next ∙ ap (λ (k : ℕ). k + 1) (the_greatest marks);
  whole = n.whole;
  room = subst (λ (o : List BlockRequest). length o < 16) (opened marks) n.room;
  apart = subst (λ (o : List BlockRequest). MissesAll r o) (opened marks) n.apart;
}

pub may_issue : (marks : List Mark) (r : BlockRequest) (e : Endpoint) → MayFollow (Issued r e) (without_faults marks) → MayFollow (Issued r e) marks
may_issue marks r e h = (sym (started marks) ∙ h.0, either h.1) where
  either : IsNew (without_faults marks) r ⊎ IsAgain (without_faults marks) r → IsNew marks r ⊎ IsAgain marks r
  either (inl n) = inl (is_new marks r n)
  either (inr a) = inr (record { same = subst (λ (o : List BlockRequest). IsIn r o) (opened marks) a.same })

wf : (marks : List Mark) → IsWellFormed (without_faults marks) → IsWellFormed marks
wf [] h = h
wf (Fault e cause ∷ marks) h = (wf marks h, tt)
wf (Started e ∷ marks) h = (wf marks h.0, tt)
wf (Answered a ∷ marks) h =
    (wf marks h.0, (sym (started marks) ∙ h.1.0, subst (λ (o : List BlockRequest). IsTrue (is_some (with_id a.id o))) (opened marks) h.1.1))
wf (Flush ∷ marks) h = (wf marks h.0, tt)
wf (GaveUp ∷ marks) h = (wf marks h.0, tt)
wf (Took who now call answer ∷ marks) h = (wf marks h.0, tt)
wf (Issued r e ∷ marks) h = (wf marks h.0, may_issue marks r e h.1)

writes_inside : (marks : List Mark) (g : Geometry) → WritesInside g (without_faults marks) → WritesInside g marks
writes_inside [] g h = h
writes_inside (Fault e cause ∷ marks) g h = writes_inside marks g h
writes_inside (Started e ∷ marks) g h = writes_inside marks g h
writes_inside (Answered a ∷ marks) g h = writes_inside marks g h
writes_inside (Flush ∷ marks) g h = writes_inside marks g h
writes_inside (GaveUp ∷ marks) g h = writes_inside marks g h
writes_inside (Took who now call answer ∷ marks) g h = writes_inside marks g h
writes_inside (Issued r e ∷ marks) g h = (h.0, writes_inside marks g h.1)

same_disk : (marks : List Mark) (image : Contents) → disk_after image (without_faults marks) ≡ disk_after image marks
same_disk marks image = λ i place. the_disk marks image place i

same_sure : (marks : List Mark) → unsure (without_faults marks) ≡ unsure marks
same_sure marks = λ i place. the_sure marks place i

true_of : (marks : List Mark) (image : Contents) (r : BlockRequest) (n : ℕ) (bytes : List ℕ) → IsTrueOf image (without_faults marks) r n bytes → IsTrueOf image marks r n bytes
true_of marks image r n bytes h = record {
  each = λ k low sure. h.each k low (the_sure marks (r.position + k) ∙ sure) ∙ the_disk marks image (r.position + k);
}

true_answer : (marks : List Mark) (image : Contents) (r : Option BlockRequest) (n : Option ℕ) (bytes : List ℕ)
    → IsTrueAnswer image (without_faults marks) r n bytes → IsTrueAnswer image marks r n bytes
true_answer marks image (Some r) (Some n) bytes h = λ e. true_of marks image r n bytes (h e)
true_answer marks image (Some r) None bytes h = h
true_answer marks image None n bytes h = h

replies : (marks : List Mark) (image : Contents) → HasTrueReplies image (without_faults marks) → HasTrueReplies image marks
replies [] image h = h
replies (Fault e cause ∷ marks) image h = replies marks image h
replies (Started e ∷ marks) image h = replies marks image h
replies (Answered a ∷ marks) image h = (
  replies marks image h.0,
  true_answer marks image (asked_by a marks) (moved_by a marks) a.bytes
      (subst (λ (o : List BlockRequest). IsTrueAnswer image (without_faults marks) (with_id a.id o) (moved_of (with_id a.id o) a) a.bytes) (opened marks) h.1),
)
replies (Flush ∷ marks) image h = replies marks image h
replies (GaveUp ∷ marks) image h = replies marks image h
replies (Took who now call answer ∷ marks) image h = replies marks image h
replies (Issued r e ∷ marks) image h = replies marks image h

the_tree : (marks : List Mark) (g : Geometry) (tree : Tree) → tree_after g tree (without_faults marks) ≡ tree_after g tree marks
the_tree [] g tree = refl
the_tree (Fault e cause ∷ marks) g tree = the_tree marks g tree
the_tree (Started e ∷ marks) g tree = the_tree marks g tree
the_tree (Answered a ∷ marks) g tree = the_tree marks g tree
the_tree (Flush ∷ marks) g tree = the_tree marks g tree
the_tree (GaveUp ∷ marks) g tree = the_tree marks g tree
the_tree (Took who now call answer ∷ marks) g tree =
    ap (λ (b : Bool). cond b (tree_after g tree (without_faults marks)) (tree_after_answer g (tree_after g tree (without_faults marks)) who now call answer)) (given_up marks)
    ∙ ap (λ (t : Tree). cond (gave_up marks) t (tree_after_answer g t who now call answer)) (the_tree marks g tree)
the_tree (Issued r e ∷ marks) g tree = the_tree marks g tree

synced : (marks : List Mark) (g : Geometry) (image : Contents) (now : Tree) → IsSynced g image (without_faults marks) now → IsSynced g image marks now
synced marks g image now s = record {
  sure = record { each = λ place. sym (the_sure marks place) ∙ s.sure.each place };
  holds = subst (λ (d : Contents). HoldsVolume g (blocks_of g d) now) (same_disk marks image) s.holds;
}

took : (marks : List Mark) (g : Geometry) (image : Contents) (before : Tree) (b : Bool) (who : Who) (now : ℕ) (call : Call) (answer : Answer)
    → IsLegalTook g image before (without_faults marks) b who now call answer → IsLegalTook g image before marks b who now call answer
took marks g image before false who now call answer h = record {
  replies = h.replies;
  syncs = λ is ok. synced marks g image (tree_after_answer g before who now call answer) (h.syncs is ok);
}
took marks g image before true who now call answer h = h

is_legal : (marks : List Mark) (g : Geometry) (image : Contents) (tree : Tree) → IsLegal g image tree (without_faults marks) → IsLegal g image tree marks
is_legal [] g image tree h = h
is_legal (Fault e cause ∷ marks) g image tree h = is_legal marks g image tree h
is_legal (Started e ∷ marks) g image tree h = is_legal marks g image tree h
is_legal (Answered a ∷ marks) g image tree h = is_legal marks g image tree h
is_legal (Flush ∷ marks) g image tree h = is_legal marks g image tree h
is_legal (GaveUp ∷ marks) g image tree h = is_legal marks g image tree h
is_legal (Took who now call answer ∷ marks) g image tree h = (
  is_legal marks g image tree h.0,
  took marks g image (tree_after g tree marks) (gave_up marks) who now call answer
      (subst (λ (t : Tree). IsLegalTook g image t (without_faults marks) (gave_up marks) who now call answer) (the_tree marks g tree)
      (subst (λ (b : Bool). IsLegalTook g image (tree_after g tree (without_faults marks)) (without_faults marks) b who now call answer) (given_up marks) h.1)),
)
is_legal (Issued r e ∷ marks) g image tree h = is_legal marks g image tree h

back : (marks : List Mark) (g : Geometry) (frames : Frames) (image : Contents) (tree : Tree) → ReadsBack g frames image tree (without_faults marks)
    → ReadsBack g frames image tree marks
back marks g frames image tree r = record {
  holds = subst (λ (t : Tree). HoldsVolume g (server_view g frames image marks) t) (the_tree marks g tree)
      (subst (λ (d : Contents). HoldsVolume g (λ block. frame_or (frames block) (blocks_of g d block)) (tree_after g tree (without_faults marks))) (same_disk marks image) r.holds);
  covered = record { each = λ place h. r.covered.each place (subst (λ (b : Bool). IsTrue b) (sym (the_sure marks place)) h) };
}

-- faults are no calls and write nothing
settled_same : (marks : List Mark) (g : Geometry) (tree : Tree) → is_settled g tree (without_faults marks) ≡ is_settled g tree marks
settled_same [] g tree = refl
settled_same (Fault e cause ∷ marks) g tree = settled_same marks g tree
settled_same (Started e ∷ marks) g tree = settled_same marks g tree
settled_same (Answered a ∷ marks) g tree = settled_same marks g tree
settled_same (Flush ∷ marks) g tree = settled_same marks g tree
settled_same (GaveUp ∷ marks) g tree = settled_same marks g tree
settled_same (Took who now call answer ∷ marks) g tree =
    ap (λ (t : Tree). (is_sync call && is_success answer) || (only_looks t who call && is_settled g tree (without_faults marks))) (the_tree marks g tree)
    ∙ ap (λ (b : Bool). (is_sync call && is_success answer) || (only_looks (tree_after g tree marks) who call && b)) (settled_same marks g tree)
settled_same (Issued r e ∷ marks) g tree = settled_same marks g tree

written_same : (marks : List Mark) → none_written (without_faults marks) ≡ none_written marks
written_same [] = refl
written_same (Fault e cause ∷ marks) = written_same marks
written_same (Started e ∷ marks) = written_same marks
written_same (Answered a ∷ marks) = written_same marks
written_same (Flush ∷ marks) = written_same marks
written_same (GaveUp ∷ marks) = written_same marks
written_same (Took who now call answer ∷ marks) = refl
written_same (Issued r e ∷ marks) = ap (λ (b : Bool). not (is_write r.kind) && b) (written_same marks)

looks : (marks : List Mark) (g : Geometry) (tree : Tree) → LookingWritesNothing g tree (without_faults marks) → LookingWritesNothing g tree marks
looks [] g tree h = h
looks (Fault e cause ∷ marks) g tree h = looks marks g tree h
looks (Started e ∷ marks) g tree h = looks marks g tree h
looks (Answered a ∷ marks) g tree h = looks marks g tree h
looks (Flush ∷ marks) g tree h = looks marks g tree h
looks (GaveUp ∷ marks) g tree h = looks marks g tree h
looks (Took who now call answer ∷ marks) g tree h = (looks marks g tree h.0, λ k. sym (written_same marks) ∙ h.1 (same ∙ k)) where
  same : (only_looks (tree_after g tree (without_faults marks)) who call && is_settled g tree (without_faults marks))
      ≡ (only_looks (tree_after g tree marks) who call && is_settled g tree marks)
  same = ap (λ (t : Tree). only_looks t who call && is_settled g tree (without_faults marks)) (the_tree marks g tree)
      ∙ ap (λ (b : Bool). only_looks (tree_after g tree marks) who call && b) (settled_same marks g tree)
looks (Issued r e ∷ marks) g tree h = looks marks g tree h

pub faults_change_nothing : (marks : List Mark) → FaultsChangeNothing marks
faults_change_nothing marks = record {
  started = started marks;
  given_up = given_up marks;
  greatest_is = the_greatest marks;
  opened_same = opened marks;
  disk = the_disk marks;
  sure = the_sure marks;
  well_formed = wf marks;
  inside = writes_inside marks;
  true_replies = replies marks;
  tree_is = the_tree marks;
  legal = is_legal marks;
  reads_back = back marks;
  looking = looks marks;
  settled = settled_same marks;
  written = written_same marks;
}

counts_by : Bool → Option Endpoint → List BlockRequest → BlockReply → Bool
counts_by given last o a = not given && is_endpoint a.from last && is_some (with_id a.id o)

-- whether a reply counts doesn't rest on faults
pub counts_same : (marks : List Mark) (a : BlockReply) → counts (without_faults marks) a ≡ counts marks a
unfolding counts_by
counts_same marks a = let h = faults_change_nothing marks in
    ap (λ (b : Bool). counts_by b (last_started (without_faults marks)) (open_requests (without_faults marks)) a) h.given_up
    ∙ ap (λ (e : Option Endpoint). counts_by (gave_up marks) e (open_requests (without_faults marks)) a) h.started
    ∙ ap (λ (o : List BlockRequest). counts_by (gave_up marks) (last_started marks) o a) h.opened_same

-- without faults, a message leaves the same mark
pub leave_same_mark : (m : Incoming) (marks : List Mark) → LeaveSameMark m marks
leave_same_mark (incoming.Reply a) marks =
    by (counts marks a) ∙ ap (λ (b : Bool). cond b (Answered a ∷ without_faults marks) (without_faults marks)) (sym (counts_same marks a)) where
      by : (b : Bool) → without_faults (cond b (Answered a ∷ marks) marks) ≡ cond b (Answered a ∷ without_faults marks) (without_faults marks)
      by true = refl
      by false = refl
leave_same_mark (incoming.Started e) marks = refl
leave_same_mark incoming.GaveUp marks = refl
leave_same_mark incoming.Flush marks = refl
leave_same_mark incoming.End marks = refl
