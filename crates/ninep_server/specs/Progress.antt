-- How far an answer is: what it still has to ask and to say.
use Rattle.std.specs.Prelude.{⊤, ◌≡◌, ◌⊎◌, ℕ, zero, suc, ◌∷◌, Bool, true, false, Option, Some, None, Result, Ok, Err}
use Rattle.errno.specs.declared.Errno.TheVariants.{ENOMEM}
use Rattle.ninep.specs.Requests.{Body, names_in}
use Rattle.tree.specs.declared.Call.TheVariants as call
use Rattle.ninep_fids.specs.Knowledge.{Known, known_of}
use Rattle.ninep_fids.specs.Plans.{Plan, Says, Asks, Changes, OrNoMemory, IsChanged, Follows, body_said, error, refuses, calls, ending}
use Rattle.talks.specs.Plain.{plain}
use Rattle.ninep_fids.specs.Paths.{placed}
use Rattle.ninep_fids.specs.Nodes.{says, said_of}
use Rattle.talks.specs.Changes.{in_order}
use Rattle.talks.specs.declared.refused.Refused.{Refused}
use Rattle.talks.specs.declared.refused.Refused.TheVariants.{By}
use Rattle.talks.specs.declared.ask.Ask.{Ask}
use Rattle.talks.specs.declared.heard.Heard.{Heard}
use Rattle.ninep_fids.specs.declared.answer.NinepAnswer.{NinepAnswer}
use Rattle.ninep_fids.specs.declared.answer.Said.{Said}
use Rattle.ninep_fids.specs.declared.knows.Knows.{Knows}
use Rattle.talks.specs.declared.changes.Change.{Change}
use Rattle.ninep_server.specs.Attaching.{beginning, entering, looking_at_root}
use Rattle.ninep_server.specs.Walks.{looking_at, walking}
use Rattle.ninep_server.specs.Opens.{opening, making_file, opening_taken, giving_group, looking_at_file, making, giving_made_group}
use Rattle.ninep_server.specs.Opens.{looking_at_made}
use Rattle.ninep_server.specs.Naming.{linking, renaming, looking_back, unlinking, removing}
use Rattle.ninep_server.specs.Settings.{looking_first, changing}
use Rattle.ninep_server.specs.Listings.{listing}
use Rattle.ninep_server.specs.Messages.{transferring, looking, measuring, reading_link, syncing}
use Rattle.ninep_server.specs.declared.turn.Turn.{Turn}
use Rattle.ninep_server.specs.declared.turn.Turn.TheVariants as turn
use Rattle.ninep_server.specs.declared.attach.Version.{Version}
use Rattle.ninep_server.specs.declared.attach.Attach.{Attach}
use Rattle.ninep_server.specs.declared.attach.Attach.TheVariants as attach
use Rattle.ninep_server.specs.declared.walk.Walk.{Walk}
use Rattle.ninep_server.specs.declared.opening.Opening.{Opening}
use Rattle.ninep_server.specs.declared.creation.Creation.{Creation}
use Rattle.ninep_server.specs.declared.creation.Creation.TheVariants as creation
use Rattle.ninep_server.specs.declared.making.Making.{Making}
use Rattle.ninep_server.specs.declared.making.Stage.{Stage}
use Rattle.ninep_server.specs.declared.making.Stage.TheVariants as stage
use Rattle.ninep_server.specs.declared.naming.Link.{Link}
use Rattle.ninep_server.specs.declared.naming.Rename.{Rename}
use Rattle.ninep_server.specs.declared.naming.Unlink.{Unlink}
use Rattle.ninep_server.specs.declared.naming.Remove.{Remove}
use Rattle.ninep_server.specs.declared.listing.Listing.{Listing}
use Rattle.ninep_server.specs.declared.attributes.Setattr.{Setattr}
use Rattle.ninep_server.specs.declared.transfer.Transfer.{Transfer}
use Rattle.ninep_server.specs.declared.attributes.Getattr.{Getattr}
use Rattle.ninep_server.specs.declared.opening.Readlink.{Readlink}
use Rattle.ninep_server.specs.declared.opening.Close.{Close}
use Rattle.ninep_server.specs.declared.work.Work.{Work}
use Rattle.ninep_server.specs.declared.work.Work.TheVariants as work
use Rattle.ninep_server.specs.declared.work.FidWork.{FidWork}
use Rattle.ninep_server.specs.declared.work.FidWork.TheVariants as fid_work
use Rattle.ninep_server.specs.declared.work.OpenWork.{OpenWork}
use Rattle.ninep_server.specs.declared.work.OpenWork.TheVariants as open_work
use Rattle.ninep_server.specs.declared.work.DataWork.{DataWork}
use Rattle.ninep_server.specs.declared.work.DataWork.TheVariants as data_work
use Rattle.ninep_server.specs.declared.work.AttributeWork.{AttributeWork}
use Rattle.ninep_server.specs.declared.work.AttributeWork.TheVariants as attribute_work
use Rattle.ninep_server.specs.declared.work.NameWork.{NameWork}
use Rattle.ninep_server.specs.declared.work.NameWork.TheVariants as name_work
use Rattle.ninep_server.specs.declared.work.Next.{Next}
use Rattle.ninep_server.specs.declared.work.Next.TheVariants as next

abbrev pub left_of_transfer : Transfer → Plan
left_of_transfer t = transferring t.session t.fd t.seek t.moved

abbrev pub left_of_getattr : Getattr → Plan
left_of_getattr g = looking g.session g.path.items g.descriptor

abbrev pub left_of_readlink : Readlink → Plan
left_of_readlink r = reading_link r.session r.path.items

abbrev pub left_at_close : ℕ → Option ℕ → NinepAnswer → Plan
left_at_close session (Some fd) a = calls session (call.Close fd) (λ h. says a)
left_at_close session None a = ending session (said_of a)

abbrev pub left_of_close : Close → Plan
left_of_close c = left_at_close c.session c.fd c.answer

abbrev pub left_of_version : Version → Plan
left_of_version v = beginning v.message_size v.known

abbrev pub left_of_attach : Attach → Plan
left_of_attach (attach.Enter fid uid) = entering fid uid
left_of_attach (attach.Root fid user) = looking_at_root fid user

abbrev pub left_of_walk : Walk → Plan
left_of_walk w =
    looking_at w.user w.path.items w.qids.items (walking w.new_fid w.user (names_in w.left) w.path.items)

abbrev pub left_of_opening : Opening → Plan
left_of_opening o = opening o.fid o.user o.path.items o.node o.flags

abbrev pub left_of_creation : Creation → Plan
left_of_creation (creation.Make file flags mode taken group) = making_file file.fid file.user file.path.items flags mode taken group
left_of_creation (creation.Open file flags) = opening_taken file.fid file.user file.path.items flags
left_of_creation (creation.Chown file fd gid) = giving_group file.fid file.user file.path.items fd gid
left_of_creation (creation.Look file fd) = looking_at_file file.fid file.user file.path.items fd

abbrev pub left_at_stage : Making → Stage → Plan
left_at_stage m stage.Make = making m.session m.path.items m.made m.group
left_at_stage m (stage.Chown gid) = giving_made_group m.session m.path.items m.made gid
left_at_stage m stage.Look = looking_at_made m.session m.path.items m.made

abbrev pub left_of_making : Making → Plan
left_of_making m = left_at_stage m m.stage

abbrev pub left_of_link : Link → Plan
left_of_link l = linking l.session l.old.items l.new.items

abbrev pub left_at_rename : Rename → Bool → Plan
left_at_rename r false = renaming r.session r.old.items r.new.items r.then
left_at_rename r true = looking_back r.session r.old.items r.new.items r.then

abbrev pub left_of_rename : Rename → Plan
left_of_rename r = left_at_rename r r.done

abbrev pub left_of_unlink : Unlink → Plan
left_of_unlink u = unlinking u.session u.path.items u.directory

abbrev pub left_of_remove : Remove → Plan
left_of_remove r = removing r.session r.path.items r.directory r.stays r.descriptor

abbrev pub left_at_change : Setattr → Option Change → Plan
left_at_change s None = looking_first s.user (placed s.start s.path.items) s.wanted
left_at_change s (Some c) = changing s.user.session (placed s.start s.path.items) (c ∷ in_order s.left)

abbrev pub left_of_setattr : Setattr → Plan
left_of_setattr s = left_at_change s s.change

abbrev pub left_of_listing : Listing → Plan
left_of_listing l = listing l.fid l.user l.path.items l.node l.fd l.offset l.limit l.above

abbrev pub left_of_fid_work : FidWork → Plan
left_of_fid_work (fid_work.Version v) = left_of_version v
left_of_fid_work (fid_work.Attach a) = left_of_attach a
left_of_fid_work (fid_work.Walk w) = left_of_walk w

abbrev pub left_of_open_work : OpenWork → Plan
left_of_open_work (open_work.Open o) = left_of_opening o
left_of_open_work (open_work.Create c) = left_of_creation c
left_of_open_work (open_work.Make m) = left_of_making m
left_of_open_work (open_work.Close c) = left_of_close c

abbrev pub left_of_data_work : DataWork → Plan
left_of_data_work (data_work.Transfer t) = left_of_transfer t
left_of_data_work (data_work.List l) = left_of_listing l
left_of_data_work (data_work.Readlink r) = left_of_readlink r

abbrev pub left_of_attribute_work : AttributeWork → Plan
left_of_attribute_work (attribute_work.Getattr g) = left_of_getattr g
left_of_attribute_work (attribute_work.Setattr s) = left_of_setattr s
left_of_attribute_work (attribute_work.Statfs session) = measuring session

abbrev pub left_of_name_work : NameWork → Plan
left_of_name_work (name_work.Link l) = left_of_link l
left_of_name_work (name_work.Rename r) = left_of_rename r
left_of_name_work (name_work.Unlink u) = left_of_unlink u
left_of_name_work (name_work.Remove r) = left_of_remove r

-- what is left of a work
abbrev pub left_of : Work → Plan
left_of (work.Fid w) = left_of_fid_work w
left_of (work.Open w) = left_of_open_work w
left_of (work.Data w) = left_of_data_work w
left_of (work.Attribute w) = left_of_attribute_work w
left_of (work.Name w) = left_of_name_work w

abbrev pub left_of_next : Result Next Refused → Plan
left_of_next (Ok (next.Go w)) = left_of w
left_of_next (Ok (next.Done a)) = says a
left_of_next (Err refused) = refuses refused

abbrev pub left_of_turn : Turn → Plan
left_of_turn (turn.Go w) = left_of w
left_of_turn (turn.Sync session) = syncing session
left_of_turn (turn.Said it) = Says (body_said it)

-- a plan asks this next
abbrev pub AsksNext : Plan → Ask → Type 0
AsksNext (Says body) a = ⊥
AsksNext (Asks asked next) a = plain a ≡ asked
AsksNext (Changes change next) a = ⊥
AsksNext (OrNoMemory next) a = ⊥

-- what is left of a plan behind what was heard
abbrev pub behind : Plan → Heard → Plan
behind (Asks asked next) h = next h
behind p h = p

-- this plan says that
abbrev pub SaysSame : Plan → (ℕ → Body) → Type 0
SaysSame (Says other) body = (most : ℕ) → other most ≡ body most
SaysSame p body = ⊥

-- Without asking anything, so much is left of a plan, and so has become what is known.
abbrev pub Leaves : Plan → Known → Plan → Known → Type 0
Leaves (Says body) k q l = SaysSame q body × (l ≡ k)
Leaves (Asks asked next) k q l = (q ≡ Asks asked next) × (l ≡ k)
Leaves (Changes change next) k q l = (m : Known) × IsChanged change k m × Leaves next m q l
Leaves (OrNoMemory next) k q l = Leaves next k q l ⊎ (SaysSame q (error (By ENOMEM)) × (l ≡ k))

-- how the answer to a message begins
abbrev pub BeginsAs : Plan → Knows → Knows → Result Next Refused → Type 0
BeginsAs p old new r = Leaves p (known_of old) (left_of_next r) (known_of new)

-- how it goes on behind what was heard, where nothing is changed of what is known
abbrev pub GoesOnAs : Plan → Heard → Result Next Refused → Type 0
GoesOnAs p h r = (k : Known) → Leaves (behind p h) k (left_of_next r) k

-- What is followed from here on completes what was followed before: by it a plan is followed whole.
abbrev pub IsCarriedOn : {S : Type 0} → (S → Ask → Heard → S → Type 0) → Plan → S → Known → Plan → S → Known → Type 0
IsCarriedOn {S} may p s k q t l = (it : Said) (u : S) (m : Known) → Follows may q t l it u m → Follows may p s k it u m

-- a plan asks at most so many things
abbrev pub Within : Plan → ℕ → Type 0
Within (Says body) n = ⊤
Within (Asks asked next) zero = ⊥
Within (Asks asked next) (suc n) = (h : Heard) → Within (next h) n
Within (Changes change next) n = Within next n
Within (OrNoMemory next) n = Within next n
