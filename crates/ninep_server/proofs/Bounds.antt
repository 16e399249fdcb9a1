-- No message asks more than sixteen things.
use Rattle.std.proofs.Common.{ℕ, zero, suc, ◌-◌, ◌%◌, min, take, pos, drop, Bool, true, false, ℤ, List, [], ◌∷◌, ◌++◌, Option, Some, None, Result, Ok, Err}
use Rattle.std.proofs.Common.{if◌then◌else◌, nat_lt, length, ◌≡◌, ◌⊎◌, ◌≤◌, ◌+◌, inl, inr, subst, arith}
use Rattle.std.proofs.lemmas.List.{length-append}
use Rattle.std.specs.Option.{option_map, option_to_list}
use Rattle.ninep.specs.Requests.{Body, names_in}
use Rattle.ninep.specs.declared.reply.Qid.{Qid}
use Rattle.ninep.proofs.TextLaws.{count_is}
use Rattle.ninep.specs.declared.request.Request.{Request}
use Rattle.ninep.specs.declared.request.Request.TheVariants as request
use Rattle.tree.specs.declared.OpenFlags.{OpenFlags}
use Rattle.tree.specs.declared.Attributes.{Attributes}
use Rattle.tree.specs.declared.PathFrom.{PathFrom}
use Rattle.tree.specs.declared.Reply.{Reply}
use Rattle.ninep_fids.specs.Paths.{below, checked, stepped, placed}
use Rattle.ninep_fids.specs.Knowledge.{Known, File, found, named, start_of, opened, new_fid, user_of, closed, has_fid, without}
use Rattle.talks.specs.Hearing.{done_in, attributes_in, position_in, bytes_in, count_in, room_in, target_in, descriptor_in, session_in, names_heard}
use Rattle.ninep_fids.specs.Plans.{Plan, closing, letting_go, with_it}
use Rattle.talks.specs.Plain.{at}
use Rattle.ninep_fids.specs.Nodes.{node_of, qid_of}
use Rattle.ninep_fids.specs.Checks.{user_number, enters, place, not_link, changeable, named_for, unopened}
use Rattle.ninep_fids.specs.Flags.{open_bits, flags_by, group_of}
use Rattle.talks.specs.Flags.{is_set}
use Rattle.talks.specs.Changes.{in_order, changes_wanted, may_change}
use Rattle.ninep_fids.specs.Directories.{entries_of}
use Rattle.ninep_fids.specs.Entries.{any_long}
use Rattle.talks.specs.declared.refused.Refused.{Refused}
use Rattle.ninep_fids.specs.declared.users.User.{User}
use Rattle.ninep_fids.specs.declared.fid.Node.{Node}
use Rattle.talks.specs.declared.changes.Wanted.{Wanted}
use Rattle.talks.specs.declared.changes.Change.{Change}
use Rattle.talks.specs.declared.changes.Change.TheVariants as change
use Rattle.talks.specs.declared.changes.Changes.{Changes}
use Rattle.ninep_fids.specs.declared.answer.NinepAnswer.{NinepAnswer}
use Rattle.ninep_fids.specs.declared.answer.NinepAnswer.TheVariants as answer
use Rattle.ninep_server.specs.Attaching.{begins, entering, looking_at_root, attaching_as}
use Rattle.ninep_server.specs.Walks.{with_name, walking}
use Rattle.ninep_server.specs.Opens.{opening, opens, or_closes, looking_at_file, made_file, opening_taken, is_taken, not_made, made_or_not}
use Rattle.ninep_server.specs.Opens.{making_file, taken_by, creates, was_made, making}
use Rattle.ninep_server.specs.Naming.{linking, renamed, looking_back, renaming, unlinking, removed, removing_file}
use Rattle.ninep_server.specs.Settings.{changing, looking_first}
use Rattle.ninep_server.specs.Listings.{listing, listing_by, listing_names, kept_for}
use Rattle.ninep_server.specs.Messages.{moving, transferring, looking, attributes_of, of_file, of_name, of_node, of_fid, plan_of}
use Rattle.ninep_server.specs.Progress.{Within, left_of, left_of_turn, left_at_stage, left_at_close, left_at_change, left_at_rename}
use Rattle.ninep_server.specs.declared.transfer.Moved.{Moved}
use Rattle.ninep_server.specs.declared.transfer.Moved.TheVariants as moved
use Rattle.ninep_server.specs.declared.attach.Attach.TheVariants as attach
use Rattle.ninep_server.specs.declared.creation.Creation.TheVariants as creation
use Rattle.ninep_server.specs.declared.making.Made.{Made}
use Rattle.ninep_server.specs.declared.making.Made.TheVariants as made
use Rattle.ninep_server.specs.declared.making.Making.{Making}
use Rattle.ninep_server.specs.declared.making.Stage.{Stage}
use Rattle.ninep_server.specs.declared.making.Stage.TheVariants as stage
use Rattle.ninep_server.specs.declared.listing.Listing.{Listing}
use Rattle.ninep_server.specs.declared.naming.Rename.{Rename}
use Rattle.ninep_server.specs.declared.attributes.Setattr.{Setattr}
use Rattle.ninep_server.specs.declared.opening.Close.{Close}
use Rattle.ninep_server.specs.declared.work.Work.{Work}
use Rattle.ninep_server.specs.declared.work.Work.TheVariants as work
use Rattle.ninep_server.specs.declared.work.FidWork.TheVariants as fid_work
use Rattle.ninep_server.specs.declared.work.OpenWork.TheVariants as open_work
use Rattle.ninep_server.specs.declared.work.DataWork.TheVariants as data_work
use Rattle.ninep_server.specs.declared.work.AttributeWork.TheVariants as attribute_work
use Rattle.ninep_server.specs.declared.work.NameWork.TheVariants as name_work
use Rattle.ninep_server.specs.declared.turn.Turn.{Turn}
use Rattle.ninep_server.specs.declared.turn.Turn.TheVariants as turn

it_within : {A : Type 0} (n : ℕ) (r : Result A Refused) (next : A → Plan) → ((a : A) → Within (next a) n) → Within (with_it r next) n
it_within n (Ok a) next h = h a
it_within n (Err refused) next h = tt

either_within : (n : ℕ) (b : Bool) (p q : Plan) → Within p n → Within q n → Within (if b then p else q) n
either_within n true p q h i = h
either_within n false p q h i = i

moving_within : (n session fd : ℕ) (what : Moved) → Within (moving session fd what) (suc n)
moving_within n session fd (moved.Read count) = λ h. it_within n (bytes_in h) _ (λ bytes. tt)
moving_within n session fd (moved.Write bytes) = λ h. it_within n (count_in h) _ (λ count. tt)

transferring_within : (n session fd : ℕ) (seek : Option ℤ) (what : Moved) → Within (transferring session fd seek what) (suc (suc n))
transferring_within n session fd None what = moving_within (suc n) session fd what
transferring_within n session fd (Some offset) what = λ h. it_within (suc n) (position_in h) _ (λ position. moving_within n session fd what)

looking_within : (n session : ℕ) (path : List ℕ) (descriptor : Option ℕ) → Within (looking session path descriptor) (suc n)
looking_within n session path None = λ h. it_within n (attributes_in h) _ (λ a. tt)
looking_within n session path (Some fd) = λ h. it_within n (attributes_in h) _ (λ a. tt)

attributes_within : (n : ℕ) (file : File) (descriptor : Option ℕ) (gone : Bool) → Within (attributes_of file descriptor gone) (suc n)
attributes_within n file None true = tt
attributes_within n file None false = looking_within n file.user.session file.path None
attributes_within n file (Some fd) gone = looking_within n file.user.session file.path (Some fd)

closing_within : (n session : ℕ) (descriptor : Option ℕ) (body : ℕ → Body) → Within (closing session descriptor body) (suc n)
closing_within n session None body = tt
closing_within n session (Some fd) body = λ h. tt

letting_go_within : (n : ℕ) (stays : Bool) (session : ℕ) (descriptor : Option ℕ) (body : ℕ → Body)
    → Within (letting_go stays session descriptor body) (suc n)
letting_go_within n true session descriptor body = closing_within n session descriptor body
letting_go_within n false session descriptor body = λ h. tt

beginning_within : (n most : ℕ) (version : List ℕ) → Within (begins most version) (suc n)
beginning_within n most version = either_within (suc n) (nat_lt most 4096) _ _ tt (λ h. tt)

root_within : (n fid : ℕ) (user : User) → Within (looking_at_root fid user) (suc n)
root_within n fid user = λ h. it_within n (attributes_in h) _ (λ a. tt)

entering_within : (n fid uid : ℕ) → Within (entering fid uid) (suc (suc n))
entering_within n fid uid = λ h. it_within (suc n) (session_in h) _ (λ session. root_within n fid _)

attaching_within : (n fid uid : ℕ) (user : Option User) → Within (attaching_as fid uid user) (suc (suc n))
attaching_within n fid uid None = entering_within n fid uid
attaching_within n fid uid (Some user) = root_within (suc n) fid user

name_it_within : {A : Type 0} (n : ℕ) (qids : List Qid) (r : Result A Refused) (next : A → Plan) → ((a : A) → Within (next a) n)
    → Within (with_name qids r next) n
name_it_within n qids (Ok a) next h = h a
name_it_within n [] (Err refused) next h = tt
name_it_within n (q ∷ qids) (Err refused) next h = tt

walking_within : (n fid : ℕ) (user : User) (names : List (List ℕ)) (path : List ℕ) (node : Node) (qids : List Qid) → length names ≤ n
    → Within (walking fid user names path node qids) n
walking_within n fid user [] path node qids few = tt
walking_within zero fid user (name ∷ names) path node qids few = absurd (omega (arith, few))
walking_within (suc n) fid user (name ∷ names) path node qids few =
    let fewer : length names ≤ n = omega (arith, few) in
    name_it_within (suc n) qids (enters node.kind name) _ (λ _ h. name_it_within n qids (attributes_in h) _
    (λ a. walking_within n fid user names (stepped path name) (node_of a) (qids ++ qid_of (node_of a) ∷ []) fewer))

opening_within : (n fid : ℕ) (user : User) (path : List ℕ) (node : Node) (flags : OpenFlags) → Within (opening fid user path node flags) (suc n)
opening_within n fid user path node flags = λ h. it_within n (descriptor_in h) _ (λ fd. tt)

or_closes_within : {A : Type 0} (n session fd : ℕ) (r : Result A Refused) (next : A → Plan) → ((a : A) → Within (next a) (suc n))
    → Within (or_closes session fd r next) (suc n)
or_closes_within n session fd (Ok a) next h = h a
or_closes_within n session fd (Err refused) next h = λ heard. tt

file_look_within : (n fid : ℕ) (user : User) (path : List ℕ) (fd : ℕ) → Within (looking_at_file fid user path fd) (suc (suc n))
file_look_within n fid user path fd = λ h. or_closes_within n user.session fd (attributes_in h) _ (λ a. tt)

made_file_within : (n fid : ℕ) (user : User) (path : List ℕ) (group : Option ℕ) (fd : ℕ)
    → Within (made_file fid user path group fd) (suc (suc (suc n)))
made_file_within n fid user path None fd = file_look_within (suc n) fid user path fd
made_file_within n fid user path (Some gid) fd = λ h. or_closes_within (suc n) user.session fd (done_in h) _
    (λ _. file_look_within n fid user path fd)

opening_taken_within : (n fid : ℕ) (user : User) (path : List ℕ) (flags : OpenFlags)
    → Within (opening_taken fid user path flags) (suc (suc (suc n)))
opening_taken_within n fid user path flags = λ h. it_within (suc (suc n)) (descriptor_in h) _ (file_look_within n fid user path)

made_or_not_within : (n fid : ℕ) (user : User) (path : List ℕ) (taken : Option OpenFlags) (group : Option ℕ) (r : Result ℕ Refused)
    → Within (made_or_not fid user path taken group r) (suc (suc (suc n)))
made_or_not_within n fid user path taken group (Ok fd) = made_file_within n fid user path group fd
made_or_not_within n fid user path None group (Err refused) = tt
made_or_not_within n fid user path (Some flags) group (Err refused) =
    either_within (suc (suc (suc n))) (is_taken refused) _ _ (opening_taken_within n fid user path flags) tt

making_file_within : (n fid : ℕ) (user : User) (path : List ℕ) (flags : OpenFlags) (mode : ℕ) (taken : Option OpenFlags) (group : Option ℕ)
    → Within (making_file fid user path flags mode taken group) (suc (suc (suc (suc n))))
making_file_within n fid user path flags mode taken group = λ h. made_or_not_within n fid user path taken group (descriptor_in h)

was_made_within : (n session : ℕ) (path : List ℕ) (what : Made) (group : Option ℕ) → Within (was_made session path what group) (suc (suc n))
was_made_within n session path what None = λ h. it_within (suc n) (attributes_in h) _ (λ a. tt)
was_made_within n session path what (Some gid) = λ h. it_within (suc n) (done_in h) _ (λ _ i. it_within n (attributes_in i) _ (λ a. tt))

making_within : (n session : ℕ) (path : List ℕ) (what : Made) (group : Option ℕ) → Within (making session path what group) (suc (suc (suc n)))
making_within n session path what group = λ h. it_within (suc (suc n)) (done_in h) _ (λ _. was_made_within n session path what group)

linking_within : (n session : ℕ) (old new : List ℕ) → Within (linking session old new) (suc n)
linking_within n session old new = λ h. it_within n (done_in h) _ (λ _. tt)

renamed_within : (n : ℕ) (old new : List ℕ) (a : NinepAnswer) (r : Result Attributes Refused) → Within (renamed old new a r) n
renamed_within n old new a (Ok still_there) = tt
renamed_within n old new a (Err refused) = tt

looking_back_within : (n session : ℕ) (old new : List ℕ) (a : NinepAnswer) → Within (looking_back session old new a) (suc n)
looking_back_within n session old new a = λ h. renamed_within n old new a (attributes_in h)

renaming_within : (n session : ℕ) (old new : List ℕ) (a : NinepAnswer) → Within (renaming session old new a) (suc (suc n))
renaming_within n session old new a = λ h. it_within (suc n) (done_in h) _ (λ _. looking_back_within n session old new a)

unlinking_within : (n session : ℕ) (path : List ℕ) (directory : Bool) → Within (unlinking session path directory) (suc n)
unlinking_within n session path directory = λ h. it_within n (done_in h) _ (λ _. tt)

removed_within : (n session : ℕ) (path : List ℕ) (stays : Bool) (descriptor : Option ℕ) (r : Result Reply Refused)
    → Within (removed session path stays descriptor r) (suc n)
removed_within n session path stays descriptor (Ok _) = letting_go_within n stays session descriptor _
removed_within n session path stays descriptor (Err refused) = letting_go_within n stays session descriptor _

removing_within : (n : ℕ) (file : File) (stays gone : Bool) → Within (removing_file file stays gone) (suc (suc n))
removing_within n file stays true = letting_go_within (suc n) stays file.user.session file.descriptor _
removing_within n file stays false = λ h. removed_within n file.user.session file.path stays file.descriptor (done_in h)

-- no more changes than there are kinds of them
one_at_most : {A : Type 0} (o : Option A) → length (option_to_list o) ≤ 1
one_at_most None = omega arith
one_at_most (Some a) = omega arith

few_changes : (c : Changes) → length (in_order c) ≤ 4
few_changes c =
    let sizes = option_to_list (option_map (λ size. change.Size size) c.size) in
    let owners = option_to_list (option_map (λ (owners : ℕ × ℕ). change.Owners owners.0 owners.1) c.owners) in
    let modes = option_to_list (option_map (λ mode. change.Mode mode) c.mode) in
    let times = option_to_list (option_map (λ (times : ℕ × ℕ). change.Times times.0 times.1) c.times) in
    omega (
      arith,
      length-append sizes (owners ++ (modes ++ times)),
      length-append owners (modes ++ times),
      length-append modes times,
      one_at_most (option_map (λ size. change.Size size) c.size),
      one_at_most (option_map (λ (owners : ℕ × ℕ). change.Owners owners.0 owners.1) c.owners),
      one_at_most (option_map (λ mode. change.Mode mode) c.mode),
      one_at_most (option_map (λ (times : ℕ × ℕ). change.Times times.0 times.1) c.times),
    )

changing_within : (n session : ℕ) (path : PathFrom) (changes : List Change) → length changes ≤ n → Within (changing session path changes) n
changing_within n session path [] few = tt
changing_within zero session path (c ∷ changes) few = absurd (omega (arith, few))
changing_within (suc n) session path (c ∷ changes) few =
    let fewer : length changes ≤ n = omega (arith, few) in
    λ h. it_within n (done_in h) _ (λ _. changing_within n session path changes fewer)

setting_within : (user : User) (path : PathFrom) (wanted : Wanted) → Within (looking_first user path wanted) 16
setting_within user path wanted = λ h. it_within 15 (attributes_in h) _ (λ a. it_within 15 (changes_wanted wanted a) _
    (λ c. it_within 15 (may_change user.uid a c) _ (λ _. changing_within 15 user.session path (in_order c) (omega (arith, few_changes c)))))

names_within : (n fid : ℕ) (user : User) (path : List ℕ) (node : Node) (fd offset limit above : ℕ)
    → Within (listing_names fid user path node fd offset limit above) (suc n)
names_within n fid user path node fd offset limit above = λ h. it_within n (names_heard h) _
    (λ names. either_within n (any_long (drop offset (entries_of node.inode above names))) _ _ tt tt)

listing_within : (n fid : ℕ) (user : User) (path : List ℕ) (node : Node) (fd offset limit : ℕ) (above : Option ℕ)
    → Within (listing fid user path node fd offset limit above) (suc (suc n))
listing_within n fid user path node fd offset limit None =
    λ h. it_within (suc n) (attributes_in h) _ (λ a. names_within n fid user path node fd offset limit a.inode)
listing_within n fid user path node fd offset limit (Some above) = names_within (suc n) fid user path node fd offset limit above

by_kept_within : (n fid : ℕ) (file : File) (fd offset limit : ℕ) (kept : Option (List (ℕ × List ℕ)))
    → Within (listing_by fid file fd offset limit kept) (suc (suc n))
by_kept_within n fid file fd offset limit (Some es) = either_within (suc (suc n)) (any_long (drop offset es)) _ _ tt tt
by_kept_within n fid file fd offset limit None = listing_within n fid file.user file.path file.node fd offset limit None

opens_within : (k : Known) (fid flags : ℕ) → Within (opens k fid flags) 16
opens_within k fid flags = it_within 16 (unopened k.fids fid) _ (λ file. it_within 16 (not_link file.node.kind) _
    (λ _. it_within 16 (open_bits flags) _ (λ bits. opening_within 15 fid file.user file.path file.node (flags_by bits))))

creates_within : (k : Known) (fid : ℕ) (name : List ℕ) (flags mode gid : ℕ) → Within (creates k fid name flags mode gid) 16
creates_within k fid name flags mode gid = it_within 16 (unopened k.fids fid) _ (λ directory. it_within 16 (checked name) _
    (λ _. it_within 16 (open_bits flags) _ (λ bits. it_within 16 (group_of directory.user gid) _
    (λ group. making_file_within 12 fid directory.user (below directory.path name)
    (flags_by (bits + 24)) (mode % 512) (taken_by flags bits) group))))

file_within : (k : Known) (r : Request) → Within (of_file k r) 16
file_within k (request.Open fid flags) = opens_within k fid flags
file_within k (request.Create fid name flags mode gid) = creates_within k fid name.now flags mode gid
file_within k (request.Read fid offset count) = it_within 16 (opened k.fids fid) _
    (λ file. either_within 16 (nat_lt 2147483647 offset) _ _ tt
    (transferring_within 14 file.0 file.1 (Some (pos offset)) (moved.Read (min (min count (k.message_size - 24)) 65536))))
file_within k (request.Write fid offset bytes) = it_within 16 (opened k.fids fid) _
    (λ file. either_within 16 (nat_lt 2147483647 offset) _ _ tt
    (transferring_within 14 file.0 file.1 (Some (pos offset)) (moved.Write (at (take 65536 bytes.now)))))
file_within k (request.Readdir fid offset count) = it_within 16 (opened k.fids fid) _ (λ used. it_within 16 (named k.fids fid) _
    (λ file. either_within 16 (nat_lt (min count (k.message_size - 24)) 84) _ _ tt
    (by_kept_within 14 fid file used.1 offset (min count (k.message_size - 24)) (kept_for offset file.entries))))
file_within k (request.Lock fid kind flags start length process client) = it_within 16 (opened k.fids fid) _ (λ file. tt)
file_within k (request.Getlock fid kind start length process client) = it_within 16 (opened k.fids fid) _ (λ file. tt)
file_within k r = tt

name_within : (k : Known) (r : Request) → Within (of_name k r) 16
name_within k (request.Symlink directory name target gid) = it_within 16 (named_for k.fids directory name.now) _
    (λ parent. making_within 13 parent.user.session (below parent.path name.now) (made.Symlink (at target.now)) None)
name_within k (request.Mkdir directory name mode gid) = it_within 16 (named_for k.fids directory name.now) _
    (λ parent. it_within 16 (group_of parent.user gid) _
    (λ group. making_within 13 parent.user.session (below parent.path name.now) (made.Directory (mode % 512)) group))
name_within k (request.Link directory fid name) = it_within 16 (named k.fids directory) _
    (λ parent. it_within 16 (named k.fids fid) _ (λ file. it_within 16 (checked name.now) _
    (λ _. linking_within 15 parent.user.session file.path (below parent.path name.now))))
name_within k (request.Rename fid directory name) = it_within 16 (named k.fids fid) _
    (λ file. it_within 16 (named_for k.fids directory name.now) _
    (λ parent. renaming_within 14 parent.user.session file.path (below parent.path name.now) answer.Rename))
name_within k (request.Renameat old_directory old_name new_directory new_name) = it_within 16 (named k.fids old_directory) _
    (λ from. it_within 16 (named k.fids new_directory) _ (λ to. it_within 16 (checked old_name.now) _ (λ _. it_within 16
    (checked new_name.now) _ (λ _. renaming_within 14 from.user.session (below from.path old_name.now)
    (below to.path new_name.now) answer.Renameat))))
name_within k (request.Unlinkat directory name flags) = it_within 16 (named_for k.fids directory name.now) _
    (λ parent. unlinking_within 15 parent.user.session (below parent.path name.now) (is_set flags 0x200))
name_within k r = file_within k r

node_within : (k : Known) (now : ℕ) (r : Request) → Within (of_node k now r) 16
node_within k now (request.Getattr fid mask) =
    it_within 16 (found k.fids fid) _ (λ file. attributes_within 15 file file.descriptor file.gone)
node_within k now (request.Setattr fid valid mode uid gid size atime mtime) = it_within 16 (found k.fids fid) _
    (λ file. it_within 16 (start_of file) _ (λ start. it_within 16 (changeable file.node.kind) _
    (λ _. setting_within file.user (placed start file.path) (record {
      valid = valid;
      mode = mode;
      uid = uid;
      gid = gid;
      size = size;
      atime = atime.0;
      mtime = mtime.0;
      now = now;
    }))))
node_within k now (request.Readlink fid) = it_within 16 (named k.fids fid) _ (λ file h. it_within 15 (target_in h) _ (λ target. tt))
node_within k now (request.Statfs fid) = it_within 16 (found k.fids fid) _ (λ file h. it_within 15 (room_in h) _ (λ room. tt))
node_within k now r = name_within k r

fid_within : (k : Known) (now : ℕ) (r : Request) → Within (of_fid k now r) 16
fid_within k now (request.Version message_size version) = beginning_within 15 message_size version.now
fid_within k now (request.Attach fid auth_fid user_name tree uid) = it_within 16 (new_fid k.fids fid) _
    (λ _. it_within 16 (user_number uid) _ (λ number. attaching_within 14 fid number (user_of k.users number)))
fid_within k now (request.Walk fid new names) =
    let few : length (names_in names) ≤ 16 = omega (arith, count_is names.count names.bytes.now names.whole, names.few) in
    it_within 16 (named k.fids fid) _ (λ file. it_within 16 (place k fid new file.descriptor) _
    (λ _. walking_within 16 new file.user (names_in names) file.path file.node [] few))
fid_within k now (request.Clunk fid) =
    it_within 16 (found k.fids fid) _
    (λ file. letting_go_within 15 (has_fid (without k.fids fid) file.user.uid) file.user.session file.descriptor _)
fid_within k now (request.Remove fid) = it_within 16 (found k.fids fid) _
    (λ file. removing_within 14 file (has_fid (without k.fids fid) file.user.uid) file.gone)
fid_within k now (request.Flush old_tag) = tt
fid_within k now r = node_within k now r

pub plan_within : (k : Known) (now : ℕ) (r : Request) → Within (plan_of k now r) 16
plan_within k now (request.Fsync fid data_only) =
    it_within 16 (found k.fids fid) _ (λ file h. it_within 15 (done_in h) _ (λ done. tt))
plan_within k now r = fid_within k now r

asks_moving : (session fd : ℕ) (what : Moved) → Within (moving session fd what) 0 → ⊥
asks_moving session fd (moved.Read count) few = few
asks_moving session fd (moved.Write bytes) few = few

asks_transferring : (session fd : ℕ) (seek : Option ℤ) (what : Moved) → Within (transferring session fd seek what) 0 → ⊥
asks_transferring session fd None what few = asks_moving session fd what few
asks_transferring session fd (Some offset) what few = few

asks_looking : (session : ℕ) (path : List ℕ) (descriptor : Option ℕ) → Within (looking session path descriptor) 0 → ⊥
asks_looking session path None few = few
asks_looking session path (Some fd) few = few

asks_making : (m : Making) (stage : Stage) → Within (left_at_stage m stage) 0 → ⊥
asks_making m stage.Make few = few
asks_making m (stage.Chown gid) few = few
asks_making m stage.Look few = few

asks_setting : (x : Setattr) (change : Option Change) → Within (left_at_change x change) 0 → ⊥
asks_setting x None few = few
asks_setting x (Some c) few = few

asks_closing : (c : Close) (fd : Option ℕ) → Within (left_at_close c.session fd c.answer) 0 → ⊥
asks_closing c None few = few
asks_closing c (Some fd) few = few

asks_renaming : (r : Rename) (done : Bool) → Within (left_at_rename r done) 0 → ⊥
asks_renaming r false few = few
asks_renaming r true few = few

asks_listing : (l : Listing) (above : Option ℕ)
    → Within (listing l.fid l.user l.path.items l.node l.fd l.offset l.limit above) 0 → ⊥
asks_listing l None few = few
asks_listing l (Some above) few = few

-- what may ask nothing more waits for nothing
none_left : (w : Work) → Within (left_of w) 0 → ⊥
none_left (work.Data (data_work.Transfer t)) few = asks_transferring t.session t.fd t.seek t.moved few
none_left (work.Attribute (attribute_work.Getattr g)) few = asks_looking g.session g.path.items g.descriptor few
none_left (work.Data (data_work.Readlink r)) few = few
none_left (work.Open (open_work.Close c)) few = asks_closing c c.fd few
none_left (work.Attribute (attribute_work.Statfs session)) few = few
none_left (work.Fid (fid_work.Version v)) few = few
none_left (work.Fid (fid_work.Attach (attach.Enter fid uid))) few = few
none_left (work.Fid (fid_work.Attach (attach.Root fid user))) few = few
none_left (work.Fid (fid_work.Walk w)) few = few
none_left (work.Open (open_work.Open o)) few = few
none_left (work.Open (open_work.Create (creation.Make file flags mode taken group))) few = few
none_left (work.Open (open_work.Create (creation.Open file flags))) few = few
none_left (work.Open (open_work.Create (creation.Chown file fd gid))) few = few
none_left (work.Open (open_work.Create (creation.Look file fd))) few = few
none_left (work.Open (open_work.Make m)) few = asks_making m m.stage few
none_left (work.Name (name_work.Link l)) few = few
none_left (work.Name (name_work.Rename r)) few = asks_renaming r r.done few
none_left (work.Name (name_work.Unlink u)) few = few
none_left (work.Name (name_work.Remove r)) few = few
none_left (work.Attribute (attribute_work.Setattr x)) few = asks_setting x x.change few
none_left (work.Data (data_work.List l)) few = asks_listing l l.above few

-- a turn that still waits when sixteen things were asked would ask more than any plan does
pub runs_out : (here : Turn) (asked : ℕ) → 16 ≤ asked → asked ≤ 16
    → ((session : ℕ) × (here ≡ turn.Sync session)) ⊎ ((w : Work) × (here ≡ turn.Go w))
    → ((n : ℕ) → n + asked ≡ 16 → Within (left_of_turn here) n) → ⊥
runs_out here asked low high is few =
    let done : 0 + asked ≡ 16 = omega (arith, low, high) in
    elim is [
      | inl sync ↦ subst (λ (x : Turn). Within (left_of_turn x) 0) sync.1 (few 0 done)
      | inr go ↦ none_left go.0 (subst (λ (x : Turn). Within (left_of_turn x) 0) go.1 (few 0 done))
    ]
