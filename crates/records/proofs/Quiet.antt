-- What is done at a link is no call, and no write where only reads are posted.
use Rattle.std.proofs.Common.{◌≡◌, List, [], ◌∷◌, Bool, true, false, cond, refl, ◌∙◌}
use Rattle.std.specs.Prelude.{not, ◌&&◌}
use Rattle.layout.specs.declared.Geometry.{Geometry}
use Rattle.message.specs.Good.{is_write}
use Rattle.message.specs.declared.Incoming.{Incoming}
use Rattle.message.specs.declared.Incoming.TheVariants as incoming
use Rattle.tree.specs.Tree.{Tree}
use Rattle.records.specs.Marks.{Mark, Answered}
use Rattle.records.specs.Open.{counts}
use Rattle.records.specs.Told.{Told, Posted, Complained, Received, received, grown}
use Rattle.records.specs.Acts.{Act, Began, Absorbed, AtLink, marks_after}
use Rattle.records.specs.Settled.{is_settled, none_written, LookingWritesNothing, PostsReads}

-- ---- calls that only looked

settled_received : (g : Geometry) (tree : Tree) (m : Incoming) (marks : List Mark) → is_settled g tree (received m marks) ≡ is_settled g tree marks
settled_received g tree (incoming.Reply a) marks = by (counts marks a) where
  by : (b : Bool) → is_settled g tree (cond b (Answered a ∷ marks) marks) ≡ is_settled g tree marks
  by true = refl
  by false = refl
settled_received g tree (incoming.Started e) marks = refl
settled_received g tree incoming.GaveUp marks = refl
settled_received g tree incoming.Flush marks = refl
settled_received g tree incoming.End marks = refl

pub settled_acts : (g : Geometry) (tree : Tree) (acts : List Act) (marks : List Mark)
    → is_settled g tree (marks_after acts marks) ≡ is_settled g tree marks
settled_acts g tree [] marks = refl
settled_acts g tree (Began r ∷ acts) marks = settled_acts g tree acts marks
settled_acts g tree (Absorbed m ∷ acts) marks = settled_received g tree m (marks_after acts marks) ∙ settled_acts g tree acts marks
settled_acts g tree (AtLink (Posted to r true) ∷ acts) marks = settled_acts g tree acts marks
settled_acts g tree (AtLink (Posted to r false) ∷ acts) marks = settled_acts g tree acts marks
settled_acts g tree (AtLink (Complained e) ∷ acts) marks = settled_acts g tree acts marks
settled_acts g tree (AtLink (Received m) ∷ acts) marks = settled_received g tree m (marks_after acts marks) ∙ settled_acts g tree acts marks

-- ---- calls that looked wrote nothing

looking_received : (g : Geometry) (tree : Tree) (m : Incoming) (marks : List Mark) → LookingWritesNothing g tree marks
    → LookingWritesNothing g tree (received m marks)
looking_received g tree (incoming.Reply a) marks h = by (counts marks a) where
  by : (b : Bool) → LookingWritesNothing g tree (cond b (Answered a ∷ marks) marks)
  by true = h
  by false = h
looking_received g tree (incoming.Started e) marks h = h
looking_received g tree incoming.GaveUp marks h = h
looking_received g tree incoming.Flush marks h = h
looking_received g tree incoming.End marks h = h

pub looking_acts : (g : Geometry) (tree : Tree) (acts : List Act) (marks : List Mark) → LookingWritesNothing g tree marks
    → LookingWritesNothing g tree (marks_after acts marks)
looking_acts g tree [] marks h = h
looking_acts g tree (Began r ∷ acts) marks h = looking_acts g tree acts marks h
looking_acts g tree (Absorbed m ∷ acts) marks h = looking_received g tree m (marks_after acts marks) (looking_acts g tree acts marks h)
looking_acts g tree (AtLink (Posted to r true) ∷ acts) marks h = looking_acts g tree acts marks h
looking_acts g tree (AtLink (Posted to r false) ∷ acts) marks h = looking_acts g tree acts marks h
looking_acts g tree (AtLink (Complained e) ∷ acts) marks h = looking_acts g tree acts marks h
looking_acts g tree (AtLink (Received m) ∷ acts) marks h = looking_received g tree m (marks_after acts marks) (looking_acts g tree acts marks h)

-- ---- no write is issued

pub written_received : (m : Incoming) (marks : List Mark) → none_written (received m marks) ≡ none_written marks
written_received (incoming.Reply a) marks = by (counts marks a) where
  by : (b : Bool) → none_written (cond b (Answered a ∷ marks) marks) ≡ none_written marks
  by true = refl
  by false = refl
written_received (incoming.Started e) marks = refl
written_received incoming.GaveUp marks = refl
written_received incoming.Flush marks = refl
written_received incoming.End marks = refl

-- a read that is issued is no write
pub read_issued : (write before : Bool) → write ≡ false → before ≡ true → (not write && before) ≡ true
read_issued false before read h = h
read_issued true before read h = cc

pub written_told : (told : List Told) (marks : List Mark) → PostsReads told → none_written marks ≡ true → none_written (grown told marks) ≡ true
written_told [] marks reads h = h
written_told (Posted to r true ∷ told) marks reads h = read_issued (is_write r.kind) _ reads.0 (written_told told marks reads.1 h)
written_told (Posted to r false ∷ told) marks reads h = written_told told marks reads.1 h
written_told (Complained e ∷ told) marks reads h = written_told told marks reads h
written_told (Received m ∷ told) marks reads h = written_received m (grown told marks) ∙ written_told told marks reads h
