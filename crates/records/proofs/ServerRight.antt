-- A server that only tells of a new volume's root: what opening, a call, a cut call and unmounting promise can be met.
use Rattle.std.specs.Prelude.{◌≡◌, List, [], ◌∷◌, Bool, true, false, not, ◌&&◌, None, is_some, refl}
use Rattle.std.proofs.Common.{inl, ap, sym, subst, ◌∙◌}
use Rattle.lemmas.proofs.Bools.{false_not_true}
use Rattle.errno.specs.declared.Errno.TheVariants.{EIO}
use Rattle.message.specs.declared.Incoming.TheVariants.{Flush, End}
use Rattle.tree.specs.declared.Call.TheVariants as call
use Rattle.lemmas.specs.Sums.{sum_below, some_below, least_below}
use Rattle.tree.specs.Tree.{Tree, OpenFile, most_open_files}
use Rattle.tree.specs.IsTree.{IsClosed}
use Rattle.tree.specs.Answers.{Answer, refused}
use Rattle.volume.specs.Holds.{HoldsVolume}
use Rattle.records.specs.Marks.{Mark, Took, gave_up}
use Rattle.records.specs.Disk.{Contents}
use Rattle.records.specs.Acts.{empty_outbox, target}
use Rattle.records.specs.Legal.{IsLegalTook, IsLegalCall, tree_after, tree_after_answer}
use Rattle.records.specs.View.{server_view}
use Rattle.records.specs.Flushes.{WritesFrames, pending_requests}
use Rattle.records.specs.ServerCall.{Serving, KnowsFrames, state_of, has_open_file, Outcome, Replied, Cut, CallKeeps, AbsorbKeeps}
use Rattle.records.specs.Mount.{OpenKeeps}
use Rattle.records.specs.Unmount.{UnmountKeeps, Busy, Unmounted}
use Rattle.records.proofs.LegalRows.{small, user_0, fresh, stat_root, root_of_size}

-- it agrees with a record after which the tree is the new volume's
abbrev server : Bool → Bool → Serving
server is_busy ended = record {
  geometry = small;
  minor = 0;
  Agrees = λ image tree marks. (tree_after small tree marks ≡ fresh) × (gave_up marks ≡ false);
  frames = λ block. None;
  frame_count = 64;
  outbox = empty_outbox;
  is_busy = is_busy;
  told = [];
  ended = ended;
  settled = Unit {0};
  unwritten = λ block. false;
  overtaken = λ block. false;
  wanted = false;
}

-- it has no frames, and nothing to write
knows : (is_busy ended : Bool) (image : Contents) (marks : List Mark)
    → WritesFrames small.block_size (state_of (server is_busy ended)) (pending_requests marks empty_outbox)
    → KnowsFrames small (state_of (server is_busy ended)) empty_outbox image marks
knows is_busy ended image marks pending = record {
  framed = λ block is. absurd (false_not_true is);
  others = λ tr block not_so none. refl;
  pending = pending;
  under_way = λ block is. absurd (false_not_true is);
}

-- of no open files none is open
none_open : some_below (λ k. is_some {T = OpenFile} None) most_open_files ≡ false
unfolding some_below
none_open = refl

-- no file is open in a tree that was just read
no_open_file : (tree : Tree) → IsClosed tree → has_open_file tree ≡ false
no_open_file tree closed = rw closed.open_files none_open

-- the answer to a stat of the root leaves the tree, and is the tree's
after_stat : tree_after_answer small fresh user_0 100 stat_root (root_of_size 128) ≡ fresh
unfolding sum_below some_below least_below
after_stat = refl

-- the stat of the root is legal
legal_stat : (image : Contents) (marks : List Mark) → IsLegalCall small image fresh marks user_0 100 stat_root (root_of_size 128)
unfolding sum_below some_below least_below
legal_stat image marks = record { replies = inl refl; syncs = λ sync ok. absurd (false_not_true sync) }

-- the tree after it is the same
stays_fresh : (tree : Tree) (marks : List Mark) → tree_after small tree marks ≡ fresh → gave_up marks ≡ false
    → tree_after small tree (Took user_0 100 stat_root (root_of_size 128) ∷ marks) ≡ fresh
stays_fresh tree marks is_fresh live = rw (live, is_fresh) after_stat

-- also after any record that it agrees with
legal_took : (image : Contents) (tree : Tree) (marks : List Mark) → tree_after small tree marks ≡ fresh → gave_up marks ≡ false
    → IsLegalTook small image (tree_after small tree marks) marks (gave_up marks) user_0 100 stat_root (root_of_size 128)
legal_took image tree marks is_fresh live =
    let P : Tree → Type 0 = λ before. IsLegalTook small image before marks (gave_up marks) user_0 100 stat_root (root_of_size 128) in
    let Q : Bool → Type 0 = λ given_up. IsLegalTook small image fresh marks given_up user_0 100 stat_root (root_of_size 128) in
    subst P (sym is_fresh) (subst Q (sym live) (legal_stat image marks))

-- its answer is not EIO
replied_eio : Replied (root_of_size 128) ≡ Replied (refused EIO) → ⊥
replied_eio e = let p : ◌≡◌ {A = Bool} true false = ap is_told e in cc
  where
    is_told : Outcome → Bool
    is_told (Replied (refused e)) = false
    is_told _ = true

-- an answer is no cut
replied_cut : (a : Answer) → Replied a ≡ Cut → ⊥
replied_cut a e = cc

-- a stat of the root, answered right, over any link
right_call : CallKeeps (server false false) user_0 100 stat_root (Replied (root_of_size 128)) (server false false)
right_call = record {
  acts = [];
  leads = record { geometry = refl; minor = refl; frame_count = refl; told = refl; ended = refl };
  none_absorbed = refl;
  cut = (λ e. absurd (replied_cut (root_of_size 128) e), λ e. absurd (false_not_true e));
  rules = λ image tree marks agrees. record { keep = tt; outbox = refl };
  only_given_up = λ image tree marks agrees e. absurd (replied_eio e);
  once_given_up = λ image tree marks agrees given_up. absurd (false_not_true (sym agrees.1 ∙ given_up));
  after_giving_up = λ image tree marks agrees given_up. refl;
  after_end = λ ended. refl;
  still = λ fd is unwanted. refl;
  flushed = λ answer is other. refl;
  looked = λ image tree marks s true_replies only. record {
    same = refl;
    covered = record { each = (s.has_tree true_replies refl s.agrees.1).reads_back.covered.each };
    none_overtaken = λ block is. is;
  };
  serves = λ image tree marks s.
      let after : tree_after small tree (Took user_0 100 stat_root (root_of_size 128) ∷ marks) ≡ tree_after small tree marks =
      stays_fresh tree marks s.agrees.0 s.agrees.1 ∙ sym s.agrees.0 in
      record {
        agrees = (stays_fresh tree marks s.agrees.0 s.agrees.1, s.agrees.1);
        well_formed = (s.well_formed, tt);
        inside = s.inside;
        at_rest = record { complaint = refl; post = s.at_rest.post };
        known = knows false false image (Took user_0 100 stat_root (root_of_size 128) ∷ marks) s.known.pending;
        legal = λ true_replies. (s.legal true_replies, legal_took image tree marks s.agrees.0 s.agrees.1);
        has_tree = λ true_replies live not_given_up.
            let was = s.has_tree true_replies live not_given_up in
            record {
              reads_back = record {
                holds =
                    let P : Tree → Type 0 = λ t. HoldsVolume small (server_view small (λ block. None) image marks) t in subst P (sym after) was.reads_back.holds;
                covered = record { each = was.reads_back.covered.each };
              };
              open_files = let P : Tree → Type 0 = λ t. false ≡ has_open_file t in subst P (sym after) was.open_files;
            };
        looking = λ true_replies. (s.looking true_replies, λ looks. (s.settled true_replies refl looks).none_written);
        settled = λ true_replies live looks. record { settled = tt; none_written = refl };
      };
}

-- after an end each call is cut, and the record stays
right_cut : CallKeeps (server false true) user_0 100 call.Sync Cut (server false true)
right_cut = record {
  acts = [];
  leads = record { geometry = refl; minor = refl; frame_count = refl; told = refl; ended = refl };
  none_absorbed = refl;
  cut = (λ e. refl, λ e. refl);
  rules = λ image tree marks agrees. record { keep = tt; outbox = refl };
  only_given_up = λ image tree marks agrees e. absurd (replied_cut (refused EIO) (sym e));
  once_given_up = λ image tree marks agrees given_up. inl refl;
  after_giving_up = λ image tree marks agrees given_up. refl;
  after_end = λ ended. refl;
  still = λ fd is unwanted. refl;
  flushed = λ answer is other. refl;
  looked = λ image tree marks s true_replies only. absurd (false_not_true only);
  serves = λ image tree marks s. s;
}

-- nothing is due where nothing is owed
none_due : (b : Bool) → (b && not false && not true) ≡ false
none_due true = refl
none_due false = refl

-- an End is no Flush
end_flush : End ≡ Flush → ⊥
end_flush e = cc

-- an End between two calls has no effect
right_end : AbsorbKeeps (server false false) End (server false false)
right_end = record {
  later = [];
  leads = record { geometry = refl; minor = refl; frame_count = refl; told = refl; ended = refl };
  none_absorbed = refl;
  none_taken = refl;
  same_files = refl;
  none_overtaken = λ block is. is;
  no_effect = λ e. refl;
  flushed = λ other. refl;
  flushes = λ image tree marks agrees is. absurd (end_flush is);
  rules = λ image tree marks agrees. record { keep = (tt, record { complaint = refl; post = none_due (is_some (target marks)) }); outbox = refl };
  serves = λ image tree marks s. s;
}

-- busy is not unmounted
busy_unmounted : Busy ≡ Unmounted → ⊥
busy_unmounted e = cc

-- an unmount while a file is open does nothing
right_busy : UnmountKeeps (server true false) Busy (server true false)
right_busy = record {
  acts = [];
  leads = record { geometry = refl; minor = refl; frame_count = refl; told = refl; ended = refl };
  none_absorbed = refl;
  same_files = refl;
  busy = λ e. refl;
  after_end = λ ended. refl;
  rules = λ image tree marks agrees. record { keep = tt; outbox = refl };
  is = λ image tree marks agrees. rw agrees.1 refl;
  after_giving_up = λ image tree marks agrees given_up. refl;
  serves = λ image tree marks s. s;
  synced = λ image tree marks s e. absurd (busy_unmounted e);
}

-- Opened over a disk that holds a tree, it agrees with the empty record alone.
abbrev pub new_server : Serving
new_server = record (server false false) { Agrees = λ image tree marks. marks ≡ [] }

-- the view of what was just opened is the disk, and nothing is unsure in it
right_open : OpenKeeps small 0 64 [] new_server
right_open = record {
  geometry = refl;
  minor_is = refl;
  told = refl;
  is_new = record { frame_count = refl; as_many = refl; frames = λ block. refl; not_busy = refl; not_ended = refl; not_wanted = refl };
  outbox = refl;
  serves = λ image tree first. record {
    agrees = refl;
    well_formed = tt;
    inside = tt;
    at_rest = record { complaint = refl; post = refl };
    known = record {
      framed = λ block is. absurd (false_not_true is);
      others = λ tr block not_so none. refl;
      pending = tt;
      under_way = λ block is. absurd (false_not_true is);
    };
    legal = λ true_replies. tt;
    has_tree = λ true_replies live not_given_up. record {
      reads_back = record { holds = first.holds; covered = record { each = λ place is_unsure. absurd (false_not_true is_unsure) } };
      open_files = sym (no_open_file tree first.closed);
    };
    looking = λ true_replies. tt;
    settled = λ true_replies live looks. record { settled = tt; none_written = refl };
  };
}
