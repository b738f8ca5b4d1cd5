-- What a site says where there was memory for it.
use Rattle.std.proofs.Common.{◌≡◌, ◌∙◌, ℤ, ℕ, List, Option, Some, Result, Ok, Err, Vec, Global, ap, inl, inr}
use Rattle.std.specs.Prelude.{IfOk, MatchResult}
use Rattle.rt_stamps.specs.declared.fault.Fault.{Fault}
use Rattle.peertext_c.specs.Calls.{SaysOf}
use Rattle.peertext_c.specs.Codes.{DONE, NO_MEMORY}
use Rattle.rt_script.specs.LineSite.{LineSiteValue, saying}

-- the answer may be told as another one, where those that there are stay
pub says_made : (told : ℤ → ℤ) → told DONE ≡ DONE → told NO_MEMORY ≡ NO_MEMORY → (made : Result (Vec ℕ Global) Fault) (held : LineSiteValue) (text : List ℕ) (result : ℤ) (new : Option LineSiteValue)
    → IfOk made (λ bytes. bytes.items ≡ text)
    → MatchResult made (λ bytes. (result ≡ DONE) × (new ≡ Some (saying bytes.items held))) (λ _. (result ≡ NO_MEMORY) × (new ≡ Some held))
    → SaysOf held text (told result) new
says_made told done wanting (Ok bytes) held text result new is says = inl (ap told says.0 ∙ done, says.1 ∙ ap (λ (said : List ℕ). Some (saying said held)) is)
says_made told done wanting (Err fault) held text result new is says = inr (ap told says.0 ∙ wanting, says.1)
