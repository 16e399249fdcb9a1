-- A server stands through what is done at its link between two calls, through messages and calls.
use Rattle.std.proofs.Common.{◌≡◌, ◌∙◌, sym, subst, ap, ℕ, Bool, List, ◌∷◌}
use Rattle.std.specs.Prelude.{IsSome}
use Rattle.std.specs.List.{list_any}
use Rattle.layout.specs.declared.Geometry.{Geometry}
use Rattle.tree.specs.Tree.{Tree}
use Rattle.records.specs.Marks.{Mark, Took}
use Rattle.volume.specs.Reading.{blocks_of}
use Rattle.records.specs.Disk.{Contents, disk_after}
use Rattle.records.specs.Flushes.{FrameState, WritesFrames, may_write, pending_requests}
use Rattle.records.specs.Opening.{contents_at}
use Rattle.records.specs.Acts.{Outbox, IsAtRest, marks_after}
use Rattle.records.specs.Area.{WritesInside}
use Rattle.records.specs.Legal.{IsLegal, tree_after}
use Rattle.records.specs.View.{Frames, ReadsBack, server_view}
use Rattle.records.specs.ServerCall.{Serving, Serves, IsQuiet, HasTree, has_open_file, state_of}
use Rattle.records.specs.Settled.{is_settled, LookingWritesNothing}
use Rattle.reissue.specs.Calls.{Truth}
use Rattle.file_server.specs.Over.{SameServing}
use Rattle.file_server.specs.Laws.{SameStands, MessageStands, AnswerStands, CutStands}

-- their frames
pub same_state : (old new : Serving) → SameServing old new → state_of new ≡ state_of old
same_state old new same = λ i. record { frames = same.frames i; unwritten = same.unwritten i; overtaken = same.overtaken i }

pub serves_same : (old new : Serving) (image : Contents) (tree : Tree) (marks : List Mark) → SameServing old new
    → Serves old image tree marks → Serves new image tree marks
serves_same old new image tree marks same s = record {
  agrees = same.agrees image tree marks s.agrees;
  well_formed = s.well_formed;
  inside = subst (λ (g : Geometry). WritesInside g marks) (sym same.geometry) s.inside;
  at_rest = subst (λ (o : Outbox). IsAtRest marks o) (sym same.outbox) s.at_rest;
  known = record {
    framed = λ block is. subst (λ (f : Frames). IsSome (f block)) (sym same.frames)
        (s.known.framed block (ap (λ (u : ℕ → Bool). u block) (sym same.unwritten) ∙ is));
    others = λ replies block written none.
        let was = s.known.others replies block (ap (λ (u : ℕ → Bool). u block) (sym same.unwritten) ∙ written)
        (ap (λ (g : Geometry). list_any (may_write g.block_size block) (pending_requests marks old.outbox)) (sym same.geometry)
        ∙ ap (λ (o : Outbox). list_any (may_write new.geometry.block_size block) (pending_requests marks o)) (sym same.outbox) ∙ none) in
        subst (λ (g : Geometry). server_view g new.frames image marks block ≡ blocks_of g (disk_after image marks) block) (sym same.geometry)
        (subst (λ (f : Frames). server_view old.geometry f image marks block ≡ blocks_of old.geometry (disk_after image marks) block) (sym same.frames) was);
    pending =
        subst (λ (g : Geometry). WritesFrames g.block_size (state_of new) (pending_requests marks new.outbox)) (sym same.geometry)
        (subst (λ (f : FrameState). WritesFrames old.geometry.block_size f (pending_requests marks new.outbox)) (sym (same_state old new same))
        (subst (λ (o : Outbox). WritesFrames old.geometry.block_size (state_of old) (pending_requests marks o)) (sym same.outbox) s.known.pending));
    under_way = λ block is.
        ap (λ (o : Outbox). list_any (may_write new.geometry.block_size block) (pending_requests marks o)) same.outbox
        ∙ ap (λ (g : Geometry). list_any (may_write g.block_size block) (pending_requests marks old.outbox)) same.geometry
        ∙ s.known.under_way block (ap (λ (u : ℕ → Bool). u block) (sym same.overtaken) ∙ is);
  };
  legal = λ replies. subst (λ (g : Geometry). IsLegal g image tree marks) (sym same.geometry) (s.legal replies);
  has_tree = λ replies live not_given_up.
      let had : HasTree old image tree marks = s.has_tree replies (sym same.ended ∙ live) not_given_up in
      record {
        reads_back = subst (λ (g : Geometry). ReadsBack g new.frames image tree marks) (sym same.geometry)
            (subst (λ (f : Frames). ReadsBack old.geometry f image tree marks) (sym same.frames) had.reads_back);
        open_files = subst (λ (g : Geometry). new.is_busy ≡ has_open_file (tree_after g tree marks)) (sym same.geometry)
            (same.is_busy ∙ had.open_files);
      };
  looking = λ replies. subst (λ (g : Geometry). LookingWritesNothing g tree marks) (sym same.geometry) (s.looking replies);
  settled = λ replies live looks.
      let quiet : IsQuiet old marks = s.settled replies (sym same.ended ∙ live) (ap (λ (g : Geometry). is_settled g tree marks) (sym same.geometry) ∙ looks) in
      record { settled = same.settled quiet.settled; none_written = quiet.none_written };
}

pub same_stands : {S L : Type 0} (serving : S → Serving) (link_truth : L → Truth) → SameStands S L serving link_truth
same_stands serving link_truth s t l m v tree marks same truth stood = record {
  minor = stood.minor ∙ sym same.minor;
  serves = serves_same (serving s) (serving t) (contents_at v) tree marks same stood.serves;
  truth = truth;
}

pub message_stands : {S L : Type 0} (serving : S → Serving) (link_truth : L → Truth) → MessageStands S L serving link_truth
message_stands serving link_truth s t l m message v tree marks absorbs heard = record {
  minor = heard.minor ∙ sym absorbs.keeps.leads.minor;
  serves = absorbs.keeps.serves (contents_at v) tree marks heard.serves;
  truth = absorbs.truth v tree marks heard.minor heard.serves.agrees heard.truth;
}

pub answer_stands : {S L : Type 0} (serving : S → Serving) (link_truth : L → Truth) → AnswerStands S L serving link_truth
answer_stands serving link_truth s t u l m n who now call answer v tree marks calls same took stood = record {
  minor = stood.minor ∙ sym calls.keeps.leads.minor ∙ sym same.minor;
  serves = serves_same (serving t) (serving u) (contents_at v) tree (Took who now call answer ∷ marks_after calls.keeps.acts marks) same
      (calls.keeps.serves (contents_at v) tree marks stood.serves);
  truth = took (calls.truth v tree marks stood.minor stood.serves.agrees stood.truth);
}

pub cut_stands : {S L : Type 0} (serving : S → Serving) (link_truth : L → Truth) → CutStands S L serving link_truth
cut_stands serving link_truth s t l m who now call v tree marks calls stood = record {
  minor = stood.minor ∙ sym calls.keeps.leads.minor;
  serves = calls.keeps.serves (contents_at v) tree marks stood.serves;
  truth = calls.truth v tree marks stood.minor stood.serves.agrees stood.truth;
}
