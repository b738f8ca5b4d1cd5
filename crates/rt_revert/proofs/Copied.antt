-- A working copy looks like the text that it was made of.
use Rattle.std.proofs.Common.{◌≡◌, ◌∙◌, ℕ, zero, suc, ◌+◌, ◌-◌, List, [], ◌∷◌, ◌++◌, length, map, refl, sym, ap, arith, take, Some}
use Rattle.std.specs.Prelude.{option_map, slice_get}
use Rattle.std.proofs.lemmas.List.{map-append}
use Rattle.std.proofs.lemmas.List.Elements.{All-append}
use Rattle.rt_stamps.specs.declared.stamp.TheConstants.{ROOT}
use Rattle.rt_stamps.specs.Words.{Word}
use Rattle.rt_store.specs.declared.cell.Cell.{Cell}
use Rattle.rt_store.specs.Cells.{EndsFinal, final_cell, map_state, stamps_of}
use Rattle.rt_store.specs.Shown.{TaggedCell, shown}
use Rattle.rt_store.specs.Tagged.{AreStates}
use Rattle.rt_store.proofs.GivenStates.{kept_states, one_state}
use Rattle.rt_store.proofs.Shown.{length_shown, shown_later, stamps_shown}
use Rattle.rt_tags.specs.States.{IsByName, IsState, KeepsIds, TagStates, Write, names_on, state_at}
use Rattle.rt_tags.specs.Writers.{listed_by, state_after}
use Rattle.rt_plans.proofs.LastNames.{after_rising}
use Rattle.rt_revert.specs.Plans.{AreUpTo}
use Rattle.rt_revert.specs.Progress.{LookAlike, with_names}
use Rattle.rt_revert.proofs.Counted.{up_to_stamps}
use Rattle.rt_revert.proofs.Returned.{state_rises}

-- THE NAMES OF A LIST

names_listed : (names : List Word) → names_on (listed_by ROOT names) ≡ names
names_listed [] = refl
names_listed (name ∷ names) = ap (λ l. name ∷ l) (names_listed names)

pub same_names : (state : List Write) (words : List Word) → IsByName state → words ≡ names_on state → names_on (state_after [] (listed_by ROOT words)) ≡ names_on state
same_names state words h e =
    ap (λ l. names_on (state_after [] (listed_by ROOT l))) e
    ∙ ap names_on (after_rising [] (listed_by ROOT (names_on state)) (state_rises state h))
    ∙ names_listed (names_on state)

-- ONE CELL MORE

pub taken : {X : Type 0} (xs : List X) (i : ℕ) (x : X) → slice_get xs i ≡ Some x → take (i + 1) xs ≡ take i xs ++ x ∷ []
taken [] i x e = absurd (cc e)
taken (y ∷ xs) zero x e = let same : y ≡ x = cc e in ap (λ z. z ∷ []) same
taken (y ∷ xs) (suc i) x e =
    let n : suc i + 1 ≡ suc (i + 1) = omega arith in
    ap (λ k. take k (y ∷ xs)) n ∙ ap (λ l. y ∷ l) (taken xs i x e)

append_alike : (xs ys zs us : List TaggedCell) → LookAlike xs ys → LookAlike zs us → LookAlike (xs ++ zs) (ys ++ us)
append_alike xs ys zs us h k = record {
  names = map-append (map_state names_on) xs zs ∙ (λ i. h.names i ++ k.names i) ∙ sym (map-append (map_state names_on) ys us);
}

-- a cell with a state of another table in which the same tags are on
abbrev pub in_state : ℕ → Cell ℕ → Cell ℕ
in_state id cell = record cell { state = id }

pub more_alike : (states old new : TagStates) (store cells : List (Cell ℕ)) (position id : ℕ) (cell : Cell ℕ) → KeepsIds old new → AreStates old cells
    → slice_get store position ≡ Some cell → names_on (state_at new id) ≡ names_on (state_at states cell.state)
    → LookAlike (map (shown old) cells) (map (shown states) (take position store))
    → LookAlike (map (shown new) (cells ++ in_state id cell ∷ [])) (map (shown states) (take (position + 1) store))
more_alike states old new store cells position id cell ids given e names h =
    let one : LookAlike (shown new (in_state id cell) ∷ []) (shown states cell ∷ []) = record { names = λ i. record { stamp = cell.stamp; ch = cell.ch; gone = cell.gone; state = names i } ∷ [] } in
    let ours : map (shown new) (cells ++ in_state id cell ∷ []) ≡ map (shown old) cells ++ shown new (in_state id cell) ∷ [] =
    map-append (shown new) cells (in_state id cell ∷ []) ∙ ap (λ l. l ++ shown new (in_state id cell) ∷ []) (shown_later old new cells ids given) in
    let theirs : map (shown states) (take (position + 1) store) ≡ map (shown states) (take position store) ++ shown states cell ∷ [] =
    ap (map (shown states)) (taken store position cell e) ∙ map-append (shown states) (take position store) (cell ∷ []) in
    record { names = ap with_names ours ∙ (append_alike (map (shown old) cells) (map (shown states) (take position store)) (shown new (in_state id cell) ∷ []) (shown states cell ∷ []) h one).names ∙ sym (ap with_names theirs) }

pub more_states : (old new : TagStates) (cells : List (Cell ℕ)) (id : ℕ) (cell : Cell ℕ) → KeepsIds old new → AreStates old cells → IsState new id → AreStates new (cells ++ in_state id cell ∷ [])
more_states old new cells id cell ids given st =
    All-append (λ (c : Cell ℕ). IsState new c.state) cells (in_state id cell ∷ []) (kept_states old new cells ids given) (one_state new (in_state id cell) st)

-- WHAT LOOKS ALIKE

pub same_stamps : (kept states : TagStates) (xs ys : List (Cell ℕ)) → LookAlike (map (shown kept) xs) (map (shown states) ys) → stamps_of xs ≡ stamps_of ys
same_stamps kept states xs ys h =
    sym (stamps_shown names_on (map (shown kept) xs) ∙ stamps_shown (state_at kept) xs) ∙ ap stamps_of h.names ∙ stamps_shown names_on (map (shown states) ys) ∙ stamps_shown (state_at states) ys

pub same_length : (kept states : TagStates) (xs ys : List (Cell ℕ)) → LookAlike (map (shown kept) xs) (map (shown states) ys) → length xs ≡ length ys
same_length kept states xs ys h =
    sym (length_shown names_on (map (shown kept) xs) ∙ length_shown (state_at kept) xs) ∙ ap length h.names ∙ length_shown names_on (map (shown states) ys) ∙ length_shown (state_at states) ys

pub same_up_to : (kept states : TagStates) (count : ℕ) (xs ys : List (Cell ℕ)) → LookAlike (map (shown kept) xs) (map (shown states) ys) → AreUpTo count ys → AreUpTo count xs
same_up_to kept states count xs ys h k = up_to_stamps count xs ys (same_stamps kept states xs ys h) k

-- cells without states
abbrev bare : {T : Type 0} → List (Cell T) → List (Cell ℕ)
bare cells = map (map_state (λ _. final_cell.state)) cells

get_map : {A B : Type 0} (f : A → B) (xs : List A) (i : ℕ) → slice_get (map f xs) i ≡ option_map f (slice_get xs i)
get_map f [] i = refl
get_map f (x ∷ xs) zero = refl
get_map f (x ∷ xs) (suc i) = get_map f xs i

bare_shown : {S T : Type 0} (f : S → T) (cells : List (Cell S)) → bare (map (map_state f) cells) ≡ bare cells
bare_shown f [] = refl
bare_shown f (c ∷ cs) = ap (λ l. map_state (λ _. final_cell.state) c ∷ l) (bare_shown f cs)

pub same_end : (kept states : TagStates) (xs ys : List (Cell ℕ)) → LookAlike (map (shown kept) xs) (map (shown states) ys) → EndsFinal ys → EndsFinal xs
same_end kept states xs ys h e =
    let all : bare xs ≡ bare ys = sym (bare_shown names_on (map (shown kept) xs) ∙ bare_shown (state_at kept) xs) ∙ ap bare h.names ∙ bare_shown names_on (map (shown states) ys) ∙ bare_shown (state_at states) ys in
    sym (get_map (map_state (λ _. final_cell.state)) xs (length xs - 1))
    ∙ (λ i. slice_get (all i) (same_length kept states xs ys h i - 1))
    ∙ get_map (map_state (λ _. final_cell.state)) ys (length ys - 1)
    ∙ e
