-- What comes of an image that is to be handed on.
use Rattle.std.specs.Prelude.{◌≡◌, ℕ, Bool, true, false, List, [], ◌++◌, Option, Some, Ok, Err, codes}
use Rattle.tree.specs.Tree.{Tree}
use Rattle.volume.specs.Text.{finding_text}
use Rattle.volume.specs.Verdict.{Clean, Found, HoldsClosed, verdict_of}
use Rattle.output.specs.declared.Told.{Told}
use Rattle.output.specs.declared.Told.TheVariants.{Whole}
use Rattle.output.specs.Output.{Tells}
use Rattle.volume_commands.specs.Verifying.{missing_text, volume_at}
use Rattle.volume_commands.specs.declared.handing.NotHanded.{NotHanded}
use Rattle.volume_commands.specs.declared.handing.NotHanded.TheVariants.{NotClean, Missing, Unchecked, NotAsRead}
use Rattle.volume_commands.specs.declared.handing.Handing.{Handing}
use Rattle.volume_commands.specs.declared.handing.Handing.TheVariants.{Put, TakenBeside, NotPut, Beside, Nowhere}

-- how an image may be put in a place: the place before, the image's bytes, whether they are there then, and the place after
abbrev pub Putting : Type 0 → Type 1
Putting P = P → List ℕ → Bool → P → Type 0

-- The check finds the volume of a minor in an image clean. So it holds a tree without open files.
pub record HoldsTreeIn (image : List ℕ) (minor : ℕ) : Type 0 where
  pub volume : List ℕ
  pub there : volume_at image minor ≡ Ok volume
  pub clean : verdict_of volume ≡ Clean
  pub tree : Tree
  pub holds : HoldsClosed volume tree

-- why an image isn't handed on that is as it was read back: its volume breaks a rule, it has none, or no memory was found for the check
abbrev pub IsUnfit : List ℕ → ℕ → NotHanded → Type 0
IsUnfit image minor (NotClean finding) = (volume : List ℕ) × (volume_at image minor ≡ Ok volume) × (verdict_of volume ≡ Found finding)
IsUnfit image minor (Missing refusal) = volume_at image minor ≡ Err refusal
IsUnfit image minor Unchecked = (volume : List ℕ) × (volume_at image minor ≡ Ok volume)
IsUnfit image minor NotAsRead = ⊥

-- or, first of all, it isn't as it was read back
abbrev pub IsWhyNot : List ℕ → ℕ → Bool → NotHanded → Type 0
IsWhyNot image minor as_read NotAsRead = as_read ≡ false
IsWhyNot image minor as_read why = (as_read ≡ true) × IsUnfit image minor why

-- An image that is as it was read back, and has a clean volume, was put in its place, and nothing went beside; or its place refused it, and it
-- was put beside, or refused there too. Any other was put beside, or was refused there, and its place stays.
abbrev pub IsHandedOn : {P B : Type 0} → Putting P → Putting B → List ℕ → ℕ → Bool → P → B → Handing → P → B → Type 0
IsHandedOn puts leaves image minor as_read p b Put q c = (as_read ≡ true) × HoldsTreeIn image minor × puts p image true q × (c ≡ b)
IsHandedOn puts leaves image minor as_read p b TakenBeside q c =
    (as_read ≡ true) × HoldsTreeIn image minor × puts p image false q × leaves b image true c
IsHandedOn puts leaves image minor as_read p b NotPut q c =
    (as_read ≡ true) × HoldsTreeIn image minor × puts p image false q × leaves b image false c
IsHandedOn puts leaves image minor as_read p b (Beside why) q c = IsWhyNot image minor as_read why × (q ≡ p) × leaves b image true c
IsHandedOn puts leaves image minor as_read p b (Nowhere why) q c = IsWhyNot image minor as_read why × (q ≡ p) × leaves b image false c

-- the numbers of the reasons
abbrev pub not_handed_number : NotHanded → ℕ
not_handed_number (NotClean finding) = 1
not_handed_number (Missing refusal) = 2
not_handed_number Unchecked = 3
not_handed_number NotAsRead = 4

-- their texts
abbrev pub not_handed_text : NotHanded → List ℕ
not_handed_text (NotClean finding) = codes "NotClean " ++ finding_text finding
not_handed_text (Missing refusal) = missing_text refusal
not_handed_text Unchecked = codes "Unchecked OutOfMemory"
not_handed_text NotAsRead = codes "NotAsRead"

-- that an image is beside the file of this name, or that it couldn't be put there either
abbrev pub left_text : List ℕ → List ℕ
left_text name = codes "\nimage left in " ++ (name ++ codes ".given-up")

abbrev pub lost_text : List ℕ → List ℕ
lost_text name = codes "\ncannot write " ++ (name ++ codes ".given-up")

-- what is told of an image whose place is the file of this name: two lines
abbrev pub handing_text : List ℕ → Handing → List ℕ
handing_text name Put = []
handing_text name TakenBeside = codes "cannot write " ++ (name ++ left_text name)
handing_text name NotPut = codes "cannot write " ++ (name ++ lost_text name)
handing_text name (Beside why) = not_handed_text why ++ left_text name
handing_text name (Nowhere why) = not_handed_text why ++ lost_text name

-- that goes out where it isn't in its place, and else nothing
abbrev pub TellsHanding : {E : Type 0} → (E → Option (List ℕ)) → List ℕ → Handing → Told → E → E → Type 0
TellsHanding contents name Put told before after = (told ≡ Whole) × (after ≡ before)
TellsHanding contents name handing told before after = Tells (Some (handing_text name handing)) told (contents before) (contents after)
