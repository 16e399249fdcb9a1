-- Answers as a relation of one state, of two parts: the sessions', and the answerer's.
use Rattle.std.specs.Prelude.{ℕ, List}

abbrev pub by_both : {S W : Type 0} → (List ℕ → List ℕ → S → W → S → W → Type 0) → List ℕ → List ℕ → S × W → S × W → Type 0
by_both answers message answer s t = answers message answer s.0 s.1 t.0 t.1
