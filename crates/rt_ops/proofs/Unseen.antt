-- That the last read gave some bytes, so that the end wasn't found.
use Rattle.std.proofs.Common.{◌≡◌, ℕ, ◌+◌, ◌<◌, ◌≤◌, List, [], ◌++◌, length, take, sym, ap, subst, arith, inl, inr}
use Rattle.std.specs.Prelude.{◌⊎◌}
use Rattle.std.specs.Io.KnownBytes.{Consumes}
use Rattle.std.proofs.lemmas.List.{length-take}
use Rattle.rt_stamps.specs.declared.limits.Bounds.{Bounds}
use Rattle.rt_stamps.specs.Streams.{Stream}
use Rattle.rt_ops.specs.Intake.{EndIsUnseen, GaveSome}
use Rattle.rt_ops.proofs.Taken.{consumes_none, consumes_then}

-- one read gave the front of a buffer
pub gave_one : {R : Type 0} (stream : R → Stream) (a b : R) (n : ℕ) (buf : List ℕ) → Consumes (stream a).bytes (stream b).bytes (take n buf) → (stream b).calls ≡ (stream a).calls + 1
    → 0 < n → n ≤ length buf → GaveSome stream a b
gave_one stream a b n buf eaten calls some within =
    ([], take n buf, λ e. absurd (omega (arith, some, within, length-take n buf, ap length e)), record { before = a; gave = consumes_none (stream a).bytes; calls = calls; last = eaten })

-- after bytes that were taken
pub gave_then : {R : Type 0} (stream : R → Stream) (a b c : R) (front : List ℕ) → Consumes (stream a).bytes (stream b).bytes front → GaveSome stream b c → GaveSome stream a c
gave_then stream a b c front eaten g =
    let last = g.3 in
    (front ++ g.0, g.1, g.2, record { before = last.before; gave = consumes_then _ _ _ front g.0 eaten last.gave; calls = last.calls; last = last.last })

pub unseen_then : {R : Type 0} (stream : R → Stream) (a b c : R) (x y : Bounds) (front : List ℕ) → Consumes (stream a).bytes (stream b).bytes front → GaveSome stream a b → EndIsUnseen stream y b c
    → EndIsUnseen stream x a c
unseen_then stream a b c x y front eaten g (inl same) = inr (subst (GaveSome stream a) (sym same.1) g)
unseen_then stream a b c x y front eaten g (inr h) = inr (gave_then stream a b c front eaten h)

-- nothing was taken yet, or the last read gave some bytes
pub unseen_after : {R : Type 0} (stream : R → Stream) (a b c : R) (x y : Bounds) (front : List ℕ) → Consumes (stream a).bytes (stream b).bytes front
    → ((b ≡ a) × (y ≡ x) × (length front ≡ 0)) ⊎ GaveSome stream a b → EndIsUnseen stream y b c → EndIsUnseen stream x a c
unseen_after stream a b c x y front eaten (inl (same, bounds, none)) h = subst (λ k. EndIsUnseen stream x k c) same (subst (λ k. EndIsUnseen stream k b c) bounds h)
unseen_after stream a b c x y front eaten (inr g) h = unseen_then stream a b c x y front eaten g h
