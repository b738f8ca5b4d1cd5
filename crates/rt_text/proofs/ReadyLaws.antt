-- What is prepared for an insertion.
use Rattle.std.proofs.Common.{◌≡◌, ℕ, ◌+◌, ◌<◌, List, [], ◌∷◌, ◌++◌, true, false, ◌||◌, All, Option, None, Some, Result, Ok, Err, ◌⊎◌, inl, inr, OnOk, length, take, drop, map, get_or, refl, sym, ◌∙◌, ap, subst}
use Rattle.std.specs.Prelude.{IfErr, IsOk, ◌↔◌}
use Rattle.std.specs.Str.{bytes_eq}
use Rattle.std.proofs.lemmas.Bool.{or_left, or_right}
use Rattle.std.proofs.lemmas.List.{drop_more, map-append}
use Rattle.std.proofs.lemmas.List.Elements.{All-get_or, All-more, All-weaker}
use Rattle.rt_stamps.specs.declared.fault.Fault.{Fault}
use Rattle.rt_stamps.specs.declared.fault.Fault.TheVariants.{BadName, NoMemory}
use Rattle.rt_stamps.specs.Outcomes.{first_of}
use Rattle.rt_stamps.specs.Words.{Word}
use Rattle.rt_tags.specs.Tags.{AlsoReady, IsName, Tags, is_listed, is_ready, with_name}
use Rattle.rt_tags.proofs.Places.{clash, name_itself, same_name, split}
use Rattle.rt_stamps.specs.Names.{name_check}
use Rattle.rt_text.specs.Commands.{names_in}
use Rattle.rt_plans.specs.Insertions.{Piece, all_listed}
use Rattle.rt_plans.proofs.PlanLaws.{pieces_from}

-- CHECKS

pub first_none : (checks more : List (Option Fault)) → first_of checks ≡ None → first_of (checks ++ more) ≡ first_of more
first_none [] more h = refl
first_none (None ∷ checks) more h = first_none checks more h
first_none (Some fault ∷ checks) more h = let bad : ⊥ = cc in absurd bad

pub first_some : (checks more : List (Option Fault)) (fault : Fault) → first_of checks ≡ Some fault → first_of (checks ++ more) ≡ Some fault
first_some [] more fault h = let bad : ⊥ = cc in absurd bad
first_some (None ∷ checks) more fault h = first_some checks more fault h
first_some (Some f ∷ checks) more fault h = h

-- the names of the pieces from an index on
names_from : (pieces : List Piece) (i : ℕ) (piece : Piece) → i < length pieces → piece ≡ get_or pieces i piece
    → map name_check piece.tags ++ map name_check (names_in (drop (i + 1) pieces)) ≡ map name_check (names_in (drop i pieces))
names_from pieces i piece h e = sym (map-append name_check piece.tags (names_in (drop (i + 1) pieces))) ∙ ap (λ l. map name_check (names_in l)) (pieces_from pieces i piece h e)

pub names_fine : (pieces : List Piece) (i : ℕ) (piece : Piece) → i < length pieces → piece ≡ get_or pieces i piece → first_of (map name_check piece.tags) ≡ None
    → first_of (map name_check (names_in (drop (i + 1) pieces))) ≡ first_of (map name_check (names_in (drop i pieces)))
names_fine pieces i piece h e f = sym (first_none (map name_check piece.tags) (map name_check (names_in (drop (i + 1) pieces))) f) ∙ ap first_of (names_from pieces i piece h e)

pub names_bad : (pieces : List Piece) (i : ℕ) (piece : Piece) (fault : Fault) → i < length pieces → piece ≡ get_or pieces i piece → first_of (map name_check piece.tags) ≡ Some fault
    → first_of (map name_check (names_in (drop i pieces))) ≡ Some fault
names_bad pieces i piece fault h e f = sym (ap first_of (names_from pieces i piece h e)) ∙ first_some (map name_check piece.tags) (map name_check (names_in (drop (i + 1) pieces))) fault f

-- TAGS

pub named_here : {X : Type 0} (P : Word → Type 0) (f : X → Word) (tags : List X) (i : ℕ) (tag : X) (name : Word) → i < length tags → tag ≡ get_or tags i tag → name ≡ f tag → All (λ t. P (f t)) tags → P name
named_here P f tags i tag name h e n all =
    subst P (ap f (sym e) ∙ sym n) (All-get_or (λ t. P (f t)) tags i tag h all)

pub still_ready : (q name : Word) (old new : Tags) → AlsoReady name old new → is_ready q old ≡ true → is_ready q new ≡ true
still_ready q name old new made h = made q ∙ or_right (bytes_eq q name) (is_ready q old) h

pub ready_more : {X : Type 0} (f : X → Word) (tags : List X) (i : ℕ) (tag : X) (name : Word) (old new : Tags) → i < length tags → tag ≡ get_or tags i tag → name ≡ f tag → AlsoReady name old new
    → All (λ t. is_ready (f t) old ≡ true) (take i tags) → All (λ t. is_ready (f t) new ≡ true) (take (i + 1) tags)
ready_more {X} f tags i tag name old new h e n made all =
    let P : X → Type 0 = λ t. is_ready (f t) new ≡ true in
    let here : is_ready (f tag) new ≡ true = ap (λ q. is_ready q new) (sym n) ∙ made name ∙ or_left (bytes_eq name name) (is_ready name old) (name_itself name) in
    All-more P tags i tag h (All-weaker (λ t. is_ready (f t) old ≡ true) P (λ t k. still_ready (f t) name old new made k) (take i tags) all) (subst P e here)

pub ready_still : {X : Type 0} (f : X → Word) (tags : List X) (name : Word) (old new : Tags) → AlsoReady name old new → All (λ t. is_ready (f t) old ≡ true) tags → All (λ t. is_ready (f t) new ≡ true) tags
ready_still f tags name old new made all = All-weaker (λ t. is_ready (f t) old ≡ true) (λ t. is_ready (f t) new ≡ true) (λ t k. still_ready (f t) name old new made k) tags all

pub listed_from : {X : Type 0} (f : X → Word) (tags : List X) (i : ℕ) (tag : X) (name : Word) (old new : Tags) → i < length tags → tag ≡ get_or tags i tag → name ≡ f tag → new.names ≡ with_name name old.names
    → all_listed (map f (drop (i + 1) tags)) new.names ≡ all_listed (map f (drop i tags)) old.names
listed_from f tags i tag name old new h e n made =
    ap (all_listed (map f (drop (i + 1) tags))) made
    ∙ ap (λ q. all_listed (map f (drop (i + 1) tags)) (with_name q old.names)) n
    ∙ sym (ap (λ l. all_listed (map f l) old.names) (drop_more tags i tag h ∙ ap (λ t. t ∷ drop (i + 1) tags) (sym e)))

-- of names that are given, one more is ready
pub only_given : (names : List Word) (name : Word) (old now new : Tags) → is_listed name names ≡ true → AlsoReady name now new
    → ((q : Word) → is_ready q now ≡ true → (is_listed q names || is_ready q old) ≡ true) → (q : Word) → is_ready q new ≡ true → (is_listed q names || is_ready q old) ≡ true
only_given names name old now new there made only q h =
    split (bytes_eq q name)
    (λ t. or_left (is_listed q names) (is_ready q old) (ap (λ n. is_listed n names) (same_name q name t) ∙ there))
    (λ f. only q (sym (made q ∙ ap (λ b. b || is_ready q now) f) ∙ h))

-- what a call that is refused leaves ready
pub only_left : (names : List Word) (old now new : Tags) → new ≡ now
    → ((q : Word) → is_ready q now ≡ true → (is_listed q names || is_ready q old) ≡ true) → (q : Word) → is_ready q new ≡ true → (is_listed q names || is_ready q old) ≡ true
only_left names old now new e only q h = only q (sym (ap (is_ready q) e) ∙ h)

-- a name isn't refused for itself
pub for_memory : (name : Word) (r : Result (Unit {0}) Fault) (fault : Fault) → r ≡ Err fault → (fault ≡ BadName) ⊎ (fault ≡ NoMemory) → ((r ≡ Err BadName) ↔ (IsName name → ⊥)) → IsName name → fault ≡ NoMemory
for_memory name r fault e (inl b) bad h = absurd (bad.0 (e ∙ ap (λ f. Err f) b) h)
for_memory name r fault e (inr m) bad h = m

-- and to list it takes no memory where it is ready
pub sure : (name : Word) (old : Tags) (r : Result (Unit {0}) Fault) → IfErr r (λ fault. (fault ≡ BadName) ⊎ (fault ≡ NoMemory)) → ((r ≡ Err BadName) ↔ (IsName name → ⊥)) → (r ≡ Err NoMemory → is_ready name old ≡ false)
    → IsName name → is_ready name old ≡ true → IsOk r
sure name old (Ok x) f bad memory h k = refl
sure name old (Err fault) f bad memory h k = absurd (clash (is_ready name old) k (memory (ap (λ x. Err x) (for_memory name (Err fault) fault refl f bad h))))

-- a refusal is no answer
pub no_answer : (r : Result (Unit {0}) Fault) (fault : Fault) → r ≡ Err fault → IsOk r → ⊥
no_answer (Ok x) fault e h = let bad : ⊥ = cc in absurd bad
no_answer (Err other) fault e h = let bad : ⊥ = cc in absurd bad

pub at_ok : {P : Type 0} (r : Result (Unit {0}) Fault) → IsOk r → OnOk r P → P
at_ok (Ok x) h p = p
at_ok (Err fault) h p = let bad : ⊥ = cc in absurd bad

-- RESULTS

-- what holds anyway holds where a call is done
pub anyway : {P X : Type 0} (r : Result X Fault) → P → OnOk r P
anyway (Ok x) p = p
anyway (Err fault) p = tt
