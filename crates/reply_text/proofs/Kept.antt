-- Outcomes as they are kept.
use Rattle.std.proofs.Common.{◌≡◌, ℕ, ◌<◌, List, [], ◌∷◌, ◌++◌, length, map, get_or, None, refl, ap, ◌∙◌, sym, arith}
use Rattle.std.specs.Prelude.{All}
use Rattle.std.specs.List.{list_any}
use Rattle.std.proofs.Math.ListN.{get_or-append}
use Rattle.std.proofs.lemmas.List.{get_or-map, length-map, map-append}
use Rattle.std.proofs.lemmas.List.Elements.{All-head, All-tail}
use Rattle.errno.specs.declared.Errno.{Errno}
use Rattle.tree.specs.declared.LinkTarget.{LinkTarget}
use Rattle.tree.specs.declared.Outcome.{Outcome}
use Rattle.tree.specs.declared.Outcome.TheVariants as outcome
use Rattle.tree.specs.declared.Reply.TheVariants as reply
use Rattle.reply_text.specs.Told.{is_refused, told_of}
use Rattle.reply_text.specs.Kept.{IsWithin, is_kept_refused, no_target, outcome_of}
use Rattle.reply_text.specs.declared.outcomes.Kept.{Kept}
use Rattle.reply_text.specs.declared.outcomes.Kept.TheVariants.{Cut, Refused, Done, Descriptor, Bytes, Wrote, At, Inode}
use Rattle.reply_text.specs.declared.outcomes.Kept.TheVariants.{Names, Space, Target}

-- an outcome stays as it is where targets come behind its own
stays : (targets more : List LinkTarget) (kept : Kept) → IsWithin (length targets) kept
    → outcome_of (targets ++ more) kept ≡ outcome_of targets kept
stays targets more (Target at) within =
    ap (λ (t : LinkTarget). outcome.Reply (reply.Target t)) (get_or-append targets more no_target at within)
stays targets more Cut within = refl
stays targets more (Refused e) within = refl
stays targets more Done within = refl
stays targets more (Descriptor n) within = refl
stays targets more (Bytes bytes) within = refl
stays targets more (Wrote n) within = refl
stays targets more (At n) within = refl
stays targets more (Inode a) within = refl
stays targets more (Names names) within = refl
stays targets more (Space r) within = refl

-- and so do all
all_stay : (targets more : List LinkTarget) (kept : List Kept) → All (IsWithin (length targets)) kept
    → map (outcome_of (targets ++ more)) kept ≡ map (outcome_of targets) kept
all_stay targets more [] within = refl
all_stay targets more (k ∷ kept) within =
    let first = stays targets more k (All-head (IsWithin (length targets)) k kept within) in
    let rest = all_stay targets more kept (All-tail (IsWithin (length targets)) k kept within) in
    rw (first, rest) refl

-- one that comes behind the others, with its targets, is told behind them
pub one_more : (targets more new : List LinkTarget) (kept : List Kept) (k : Kept) (o : Outcome)
    → All (IsWithin (length targets)) kept → new ≡ targets ++ more → outcome_of new k ≡ o
    → map (outcome_of new) (kept ++ k ∷ []) ≡ map (outcome_of targets) kept ++ o ∷ []
one_more targets more new kept k o within grown is =
    map-append (outcome_of new) kept (k ∷ [])
    ∙ ap (λ (l : List Outcome). l ++ outcome_of new k ∷ []) (ap (λ ts. map (outcome_of ts) kept) grown ∙ all_stay targets more kept within)
    ∙ ap (λ (x : Outcome). map (outcome_of targets) kept ++ x ∷ []) is

-- what is told of the one at a place
pub told_at : (targets : List LinkTarget) (kept : List Kept) (at : ℕ) (k : Kept) → at < length kept → k ≡ get_or kept at k
    → told_of (outcome_of targets k) ≡ get_or (map told_of (map (outcome_of targets) kept)) at None
told_at targets kept at k inside is =
    let outcomes : List Outcome = map (outcome_of targets) kept in
    let within : at < length outcomes = omega (arith, length-map kept (outcome_of targets)) in
    ap (λ (one : Kept). told_of (outcome_of targets one)) is
    ∙ ap told_of (sym (get_or-map (outcome_of targets) kept at k (outcome_of targets k) inside))
    ∙ sym (get_or-map told_of outcomes at (outcome_of targets k) None within)

-- a test of one
refused_so : (targets : List LinkTarget) (errno : Errno) (kept : Kept)
    → is_refused errno (outcome_of targets kept) ≡ is_kept_refused errno kept
refused_so targets errno Cut = refl
refused_so targets errno (Refused e) = refl
refused_so targets errno Done = refl
refused_so targets errno (Descriptor n) = refl
refused_so targets errno (Bytes bytes) = refl
refused_so targets errno (Wrote n) = refl
refused_so targets errno (At n) = refl
refused_so targets errno (Inode a) = refl
refused_so targets errno (Names names) = refl
refused_so targets errno (Space r) = refl
refused_so targets errno (Target at) = refl

-- the test of all
pub some_refused : (targets : List LinkTarget) (errno : Errno) (kept : List Kept)
    → list_any (is_kept_refused errno) kept ≡ list_any (is_refused errno) (map (outcome_of targets) kept)
some_refused targets errno [] = refl
some_refused targets errno (k ∷ kept) =
    rw (refused_so targets errno k, some_refused targets errno kept) refl
