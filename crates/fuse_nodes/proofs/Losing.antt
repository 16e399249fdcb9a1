-- What is lost leads nowhere.
use Rattle.std.proofs.Common.{◌≡◌, ◌⊎◌, ◌∙◌, sym, refl, subst, inl, inr, ℕ, Bool, true, false, if◌then◌else◌, Option, Some, None, nat_lt, not, ◌&&◌}
use Rattle.std.proofs.lemmas.Bool.Decides.{eqb_tells}
use Rattle.std.specs.Option.{option_map}
use Rattle.std.specs.Prelude.{◌==◌, IfSome}
use Rattle.fuse_nodes.specs.Tables.{put, changed}
use Rattle.fuse_nodes.specs.Known.{Facts, Known, is_stale}
use Rattle.fuse_nodes.specs.Changes.{let_go, let_go_as, settled_as, with_change, goes, lost, lost_as}
use Rattle.fuse_nodes.specs.Laws.{IsSound, IsLost, LostLeadNowhere}
use Rattle.fuse_nodes.proofs.TableLaws.{put_there}

-- this number, if there is one, is that of a node that is gone
abbrev Lost : Known → Option ℕ → Type 0
Lost k own = IfSome own (λ id. IfSome (k.nodes id) (λ facts. facts.gone ≡ true))

-- where a number is let go, each inode has the number that it had, or none
left : (numbers : ℕ → Option ℕ) (inode key other : ℕ) (o : Option ℕ)
    → (let_go_as numbers inode key o other ≡ None) ⊎ (let_go_as numbers inode key o other ≡ numbers other)
left numbers inode key other None = inr refl
left numbers inode key other (Some own) = either (own == key) where
  at : (b : Bool) → ((if b then None else numbers other) ≡ None) ⊎ ((if b then None else numbers other) ≡ numbers other)
  at true = inl refl
  at false = inr refl

  either : (b : Bool) → ((if b then put numbers inode None else numbers) other ≡ None)
      ⊎ ((if b then put numbers inode None else numbers) other ≡ numbers other)
  either true = at (inode == other)
  either false = inr refl

still : (k : Known) (inode : ℕ) (b : Bool) (facts : Facts) (id : ℕ) → IsLost k inode
    → IsLost (if b then record k { numbers = let_go k.numbers facts.inode id } else k) inode
still k inode false facts id lost = lost
still k inode true facts id lost = elim (left k.numbers facts.inode id inode (k.numbers facts.inode)) [
  | inl none ↦ subst (λ (o : Option ℕ). Lost k o) (sym none) tt
  | inr same ↦ subst (λ (o : Option ℕ). Lost k o) (sym same) lost
]

settles : (k : Known) (inode id : ℕ) (o : Option Facts) → IsLost k inode → IsLost (settled_as k id o) inode
settles k inode id None lost = lost
settles k inode id (Some facts) lost = still k inode (is_stale facts) facts id lost

gone : (o : Option Facts) → IfSome (option_map goes o) (λ (facts : Facts). facts.gone ≡ true)
gone None = tt
gone (Some facts) = refl

loses : (k : Known) (inode : ℕ) (own : Option ℕ) → k.numbers inode ≡ own → IsLost (lost_as k own) inode
loses k inode None is = subst (λ (o : Option ℕ). Lost k o) (sym is) tt
loses k inode (Some id) is = settles later inode id (later.nodes id) (subst (λ (o : Option ℕ). Lost later o) (sym is) there) where
  later : Known
  later = with_change goes k id

  there : Lost later (Some id)
  there = subst (λ (o : Option Facts). IfSome o (λ (facts : Facts). facts.gone ≡ true))
      (sym (put_there k.nodes id (option_map goes (k.nodes id)))) (gone (k.nodes id))

-- what is lost is so
pub lost_is_lost : (k : Known) (inode : ℕ) → IsLost (lost k inode) inode
lost_is_lost k inode = loses k inode (k.numbers inode) refl

pub lost_lead_nowhere : LostLeadNowhere
lost_lead_nowhere k sound inode lost id facts there at = either (is_stale facts) refl where
  was : (b : Bool) → (b && not (nat_lt 0 facts.opens)) ≡ true → b ≡ true
  was true e = refl
  was false e = e

  either : (b : Bool) → is_stale facts ≡ b → facts.gone ≡ true
  either true stale = was facts.gone stale
  either false live =
      let numbered : k.numbers inode ≡ Some id = subst (λ (i : ℕ). k.numbers i ≡ Some id) at (sound.leads id facts there live) in
      let led : Lost k (Some id) = subst (λ (o : Option ℕ). Lost k o) numbered lost in
      subst (λ (o : Option Facts). IfSome o (λ (f : Facts). f.gone ≡ true)) there led
