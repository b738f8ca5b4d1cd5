-- Counts that bytes spell, in place of those that are known.
use Rattle.std.proofs.Common.{◌≡◌, ℕ, List, Result, Ok, Err, ap, ◌∙◌}
use Rattle.std.specs.Prelude.{IfOk}
use Rattle.rt_files.specs.Ends.{SpellEnds, known_by}

-- what goes by the counts that are known goes by those that bytes spell
pub by_ends : {X E : Type 0} (result : Result X E) (view : X → List ℕ) (file : (ℕ → ℕ) → List ℕ) (bytes : List ℕ) (known : ℕ → ℕ) (ends : List (ℕ × ℕ)) → SpellEnds bytes ends
    → ((site : ℕ) → known site ≡ known_by ends site) → IfOk result (λ x. view x ≡ file known)
    → IfOk result (λ x. (spelled : List (ℕ × ℕ)) × SpellEnds bytes spelled × (view x ≡ file (known_by spelled)))
by_ends (Ok x) view file bytes known ends spelled same h = (ends, spelled, h ∙ ap file (λ i site. same site i))
by_ends (Err e) view file bytes known ends spelled same h = tt
