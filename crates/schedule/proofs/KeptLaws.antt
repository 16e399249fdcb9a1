-- Notes that are kept beside bytes and replies: more of these change none of them.
use Rattle.std.proofs.Common.{◌≡◌, ℕ, ◌+◌, ◌<◌, ◌≤◌, arith, List, [], ◌∷◌, ◌++◌, length, map, get_or, take, drop, Bool, true, false, Some, None, refl, sym, ◌∙◌, ap, subst, append-nil}
use Rattle.std.specs.Prelude.{All, slice_get}
use Rattle.std.proofs.lemmas.List.{take-append-le, drop-append-le, length-append, length-drop, length-map, map-append, get_or-map, get_or_push, length_push, flat_map_more}
use Rattle.std.proofs.Math.ListN.{get_or-append}
use Rattle.std.proofs.lemmas.List.Elements.{All-nil, All-cons, All-head, All-tail, All-append, All-push, All-same, All-weaker, All-get_or}
use Rattle.message.specs.declared.BlockRequest.{BlockRequest}
use Rattle.message.specs.declared.endpoint.Endpoint.{Endpoint}
use Rattle.tree.specs.declared.Call.{Call}
use Rattle.tree.specs.declared.Who.{Who}
use Rattle.tree.specs.declared.Reply.{Reply}
use Rattle.tree.specs.declared.Reply.TheVariants.{Done}
use Rattle.compact_message.specs.Padded.{reply_with, request_with}
use Rattle.message.specs.declared.Incoming.{Incoming}
use Rattle.message.specs.declared.Incoming.TheVariants as incoming
use Rattle.schedule.specs.declared.log.LogEntry.{LogEntry}
use Rattle.schedule.specs.declared.log.LogEntry.TheVariants as entry
use Rattle.schedule.specs.declared.log.Post.{Post}
use Rattle.schedule.specs.declared.kept.ByteRange.{ByteRange}
use Rattle.schedule.specs.declared.kept.KeptRequest.{KeptRequest}
use Rattle.schedule.specs.declared.kept.KeptMessage.{KeptMessage}
use Rattle.schedule.specs.declared.kept.KeptMessage.TheVariants as kept
use Rattle.schedule.specs.declared.kept.Kept.{Kept}
use Rattle.schedule.specs.declared.kept.Kept.TheVariants.{Begun, Posted, Complained, Received, Handed, Faulted, Took}
use Rattle.schedule.specs.KeptNotes.{part_of, IsPlaceWithin, Grows, request_at, post_at, message_of, message_end, entry_of, IsWithin, accepted_of, accepted_in}
use Rattle.schedule.specs.Noted.{noted_of, with_entry}
use Rattle.schedule.specs.Posts.{post_of, posts_in}
use Rattle.schedule.proofs.NotedLaws.{said_push, posts_said, post_there, post_past}

-- nothing came behind these
pub same_ones : {X : Type 0} (xs : List X) → Grows xs xs
same_ones xs = ([], sym (append-nil xs))

part_stays : (bytes more : List ℕ) (p : ByteRange) → p.start + p.len ≤ length bytes → part_of (bytes ++ more) p ≡ part_of bytes p
part_stays bytes more p within =
    let behind : p.len ≤ length (drop p.start bytes) = omega (arith, length-drop p.start bytes) in
    ap (take p.len) (drop-append-le p.start bytes more (omega arith)) ∙ take-append-le p.len (drop p.start bytes) more behind

message_stays : (bytes more : List ℕ) (m : KeptMessage) → message_end m ≤ length bytes → message_of (bytes ++ more) m ≡ message_of bytes m
message_stays bytes more (kept.Reply head p) within =
    ap (λ (l : List ℕ). incoming.Reply (reply_with head l)) (part_stays bytes more p within)
message_stays bytes more (kept.Started e) within = refl
message_stays bytes more kept.GaveUp within = refl
message_stays bytes more kept.Flush within = refl
message_stays bytes more kept.End within = refl

entry_stays : (bytes more : List ℕ) (replies others : List Reply) (k : Kept) → IsWithin (length bytes) (length replies) k
    → entry_of (bytes ++ more) (replies ++ others) k ≡ entry_of bytes replies k
entry_stays bytes more replies others (Begun event) within = refl
entry_stays bytes more replies others (Posted r accepted) within =
    ap (λ (l : List ℕ). entry.Posted r.to (request_with r.head l) accepted) (part_stays bytes more r.place within.0)
entry_stays bytes more replies others (Complained e is_fault) within = refl
entry_stays bytes more replies others (Received m) within = ap (λ (x : Incoming). entry.Received x) (message_stays bytes more m within.0)
entry_stays bytes more replies others (Handed m) within = ap (λ (x : Incoming). entry.Handed x) (message_stays bytes more m within.0)
entry_stays bytes more replies others (Faulted e cause) within = refl
entry_stays bytes more replies others (Took who now call at) within =
    ap (λ (r : Reply). entry.Took who now call r) (get_or-append replies others Done at (omega (arith, within.1)))

all_stay : (bytes more : List ℕ) (replies others : List Reply) (notes : List Kept) → All (IsWithin (length bytes) (length replies)) notes
    → map (entry_of (bytes ++ more) (replies ++ others)) notes ≡ map (entry_of bytes replies) notes
all_stay bytes more replies others [] within = refl
all_stay bytes more replies others (k ∷ notes) within =
    let P = IsWithin (length bytes) (length replies) in
    let first = entry_stays bytes more replies others k (All-head P k notes within) in
    let rest = all_stay bytes more replies others notes (All-tail P k notes within) in
    rw (first, rest) refl

-- a note more, whose bytes and reply came behind the others
pub said_more : (over : Bool) (notes new : List Kept) (bytes all : List ℕ) (replies answers : List Reply) (k : Kept) (e : LogEntry)
    → over ≡ false
    → Grows bytes all → Grows replies answers → All (IsWithin (length bytes) (length replies)) notes → new ≡ notes ++ k ∷ []
    → entry_of all answers k ≡ e
    → noted_of over (map (entry_of all answers) new) ≡ with_entry e (noted_of over (map (entry_of bytes replies) notes))
said_more over notes new bytes all replies answers k e live more others within is one =
    said_push over (map (entry_of bytes replies) notes) (map (entry_of all answers) new) e live (
    ap (map (entry_of all answers)) is
    ∙ map-append (entry_of all answers) notes (k ∷ [])
    ∙ ap (λ (l : List LogEntry). l ++ entry_of all answers k ∷ []) (
    ap (λ (b : List ℕ). map (entry_of b answers) notes) more.1
    ∙ ap (λ (r : List Reply). map (entry_of (bytes ++ more.0) r) notes) others.1
    ∙ all_stay bytes more.0 replies others.0 notes within
    )
    ∙ ap (λ (x : LogEntry). map (entry_of bytes replies) notes ++ x ∷ []) one
    )

-- a request that is noted
pub posted_is : (bytes : List ℕ) (r : KeptRequest) (to : Endpoint) (request : BlockRequest) (accepted : Bool) → r.to ≡ to
    → request_at bytes r ≡ request → entry.Posted r.to (request_at bytes r) accepted ≡ entry.Posted to request accepted
posted_is bytes r to request accepted same is = rw (same, is) refl

-- a call and its reply, the last one
pub answer_is : (who : Who) (now : ℕ) (call : Call) (replies answers : List Reply) (reply : Reply) (at : ℕ) → at ≡ length replies
    → answers ≡ replies ++ reply ∷ [] → entry.Took who now call (get_or answers at Done) ≡ entry.Took who now call reply
answer_is who now call replies answers reply at last is =
    ap (λ (r : Reply). entry.Took who now call r)
    (ap (λ (l : List Reply). get_or l at Done) is ∙ get_or_push replies reply Done at (sym last))

pub last_within : (replies answers : List Reply) (reply : Reply) (at : ℕ) → at ≡ length replies → answers ≡ replies ++ reply ∷ []
    → at + 1 ≤ length answers
last_within replies answers reply at last is = omega (arith, ap length is, length_push replies reply, last)

grown_length : {X : Type 0} (xs ys : List X) → Grows xs ys → length xs ≤ length ys
grown_length xs ys more = omega (arith, ap length more.1, length-append xs more.0)

-- with it all lie within
pub within_more : (notes new : List Kept) (bytes all : List ℕ) (replies answers : List Reply) (k : Kept) → Grows bytes all
    → Grows replies answers
    → All (IsWithin (length bytes) (length replies)) notes → new ≡ notes ++ k ∷ [] → IsWithin (length all) (length answers) k
    → All (IsWithin (length all) (length answers)) new
within_more notes new bytes all replies answers k more others within is one =
    let P = IsWithin (length all) (length answers) in
    let a = grown_length bytes all more in
    let b = grown_length replies answers others in
    let old = IsWithin (length bytes) (length replies) in
    let before : All P notes = All-weaker old P (λ x w. (omega (arith, w.0, a), omega (arith, w.1, b))) notes within in
    All-same P new (notes ++ k ∷ []) is (All-push P notes k before one)

-- the accepted posts with it
pub accepted_more : (notes new : List Kept) (posts after : List KeptRequest) (k : Kept) → posts ≡ accepted_in notes → new ≡ notes ++ k ∷ []
    → after ≡ posts ++ accepted_of k → after ≡ accepted_in new
accepted_more notes new posts after k listed is more =
    more ∙ ap (λ (l : List KeptRequest). l ++ accepted_of k) listed ∙ flat_map_more accepted_of [] notes k ∙ sym (ap accepted_in is)

-- a note that is none
pub accepted_same : (notes new : List Kept) (posts : List KeptRequest) (k : Kept) → posts ≡ accepted_in notes → new ≡ notes ++ k ∷ []
    → accepted_of k ≡ [] → posts ≡ accepted_in new
accepted_same notes new posts k listed is none =
    accepted_more notes new posts posts k listed is (sym (append-nil posts) ∙ ap (λ (l : List KeptRequest). posts ++ l) (sym none))

post_of_one : (bytes : List ℕ) (replies : List Reply) (k : Kept) → post_of (entry_of bytes replies k) ≡ map (post_at bytes) (accepted_of k)
post_of_one bytes replies (Begun event) = refl
post_of_one bytes replies (Posted r true) = refl
post_of_one bytes replies (Posted r false) = refl
post_of_one bytes replies (Complained e is_fault) = refl
post_of_one bytes replies (Received m) = refl
post_of_one bytes replies (Handed m) = refl
post_of_one bytes replies (Faulted e cause) = refl
post_of_one bytes replies (Took who now call at) = refl

posts_of : (bytes : List ℕ) (replies : List Reply) (notes : List Kept)
    → posts_in (map (entry_of bytes replies) notes) ≡ map (post_at bytes) (accepted_in notes)
posts_of bytes replies [] = refl
posts_of bytes replies (k ∷ notes) =
    ap (λ (l : List Post). l ++ posts_in (map (entry_of bytes replies) notes)) (post_of_one bytes replies k)
    ∙ ap (λ (l : List Post). map (post_at bytes) (accepted_of k) ++ l) (posts_of bytes replies notes)
    ∙ sym (map-append (post_at bytes) (accepted_of k) (accepted_in notes))

-- the place of an accepted post lies within
one_placed : (count answers : ℕ) (k : Kept) → IsWithin count answers k
    → All (λ (r : KeptRequest). IsPlaceWithin count r.place) (accepted_of k)
one_placed count answers (Posted r true) within =
    All-cons (λ (q : KeptRequest). IsPlaceWithin count q.place) r [] within.0 (All-nil (λ (q : KeptRequest). IsPlaceWithin count q.place))
one_placed count answers (Posted r false) within = All-nil (λ (q : KeptRequest). IsPlaceWithin count q.place)
one_placed count answers (Begun event) within = All-nil (λ (q : KeptRequest). IsPlaceWithin count q.place)
one_placed count answers (Complained e is_fault) within = All-nil (λ (q : KeptRequest). IsPlaceWithin count q.place)
one_placed count answers (Received m) within = All-nil (λ (q : KeptRequest). IsPlaceWithin count q.place)
one_placed count answers (Handed m) within = All-nil (λ (q : KeptRequest). IsPlaceWithin count q.place)
one_placed count answers (Faulted e cause) within = All-nil (λ (q : KeptRequest). IsPlaceWithin count q.place)
one_placed count answers (Took who now call at) within = All-nil (λ (q : KeptRequest). IsPlaceWithin count q.place)

placed : (count answers : ℕ) (notes : List Kept) → All (IsWithin count answers) notes
    → All (λ (r : KeptRequest). IsPlaceWithin count r.place) (accepted_in notes)
placed count answers [] within = All-nil (λ (r : KeptRequest). IsPlaceWithin count r.place)
placed count answers (k ∷ notes) within =
    All-append (λ (r : KeptRequest). IsPlaceWithin count r.place) (accepted_of k) (accepted_in notes)
    (one_placed count answers k (All-head (IsWithin count answers) k notes within))
    (placed count answers notes (All-tail (IsWithin count answers) k notes within))

-- the place of the post with a number
pub place_of_post : (count answers : ℕ) (notes : List Kept) (posts : List KeptRequest) (n : ℕ) (r : KeptRequest)
    → All (IsWithin count answers) notes → posts ≡ accepted_in notes → n < length posts → r ≡ get_or posts n r → IsPlaceWithin count r.place
place_of_post count answers notes posts n r within listed low is =
    let P = λ (q : KeptRequest). IsPlaceWithin count q.place in
    subst P (sym is) (All-get_or P posts n r low (All-same P posts (accepted_in notes) listed (placed count answers notes within)))

posts_kept : (over : Bool) (bytes : List ℕ) (replies : List Reply) (notes : List Kept) (posts : List KeptRequest)
    → posts ≡ accepted_in notes
    → (noted_of over (map (entry_of bytes replies) notes)).posts ≡ map (post_at bytes) posts
posts_kept over bytes replies notes posts listed =
    posts_said over (map (entry_of bytes replies) notes) (map (post_at bytes) posts)
    (ap (map (post_at bytes)) listed ∙ sym (posts_of bytes replies notes))

-- the post with a number, if there is one
pub post_kept : (over : Bool) (bytes : List ℕ) (replies : List Reply) (notes : List Kept) (posts : List KeptRequest) (n : ℕ)
    → (r : KeptRequest) (p : Post) → posts ≡ accepted_in notes → n < length posts → r ≡ get_or posts n r → p ≡ post_at bytes r
    → Some p ≡ slice_get (noted_of over (map (entry_of bytes replies) notes)).posts n
post_kept over bytes replies notes posts n r p listed low is built =
    let all = map (post_at bytes) posts in
    let within : n < length all = omega (arith, low, length-map posts (post_at bytes)) in
    let there : post_at bytes r ≡ get_or all n (post_at bytes r) =
    ap (post_at bytes) is ∙ sym (get_or-map (post_at bytes) posts n r (post_at bytes r) low) in
    ap (λ (q : Post). Some q) built ∙ post_there all n (post_at bytes r) within there
    ∙ sym (ap (λ (l : List Post). slice_get l n) (posts_kept over bytes replies notes posts listed))

pub no_post_kept : (over : Bool) (bytes : List ℕ) (replies : List Reply) (notes : List Kept) (posts : List KeptRequest) (n : ℕ)
    → posts ≡ accepted_in notes
    → (n < length posts → ⊥) → None ≡ slice_get (noted_of over (map (entry_of bytes replies) notes)).posts n
no_post_kept over bytes replies notes posts n listed past =
    let all = map (post_at bytes) posts in
    post_past all n (λ low. past (omega (arith, low, length-map posts (post_at bytes))))
    ∙ sym (ap (λ (l : List Post). slice_get l n) (posts_kept over bytes replies notes posts listed))
