-- Names and states as a table keeps them, and what is seen of it.
use Rattle.std.proofs.Common.{◌≡◌, ◌||◌, ℕ, zero, suc, ◌+◌, ◌<◌, ◌≤◌, ◌^◌, List, [], ◌∷◌, ◌++◌, map, length, get_or, slice_get, true, false, cond, refl, sym, ap, subst, ◌∙◌, arith, Some, inl, inr}
use Rattle.std.proofs.Math.ListN.{get_or-map}
use Rattle.std.proofs.lemmas.Bool.{cases_lt}
use Rattle.std.proofs.lemmas.List.{length-append, length-map}
use Rattle.std.proofs.lemmas.Option.{get_or_from_slice_get}
use Rattle.rt_tags.specs.Tags.{HaveNoRepeats, is_listed}
use Rattle.rt_tags.specs.States.{TagStates, AreNumbered, IsByName, IsState, IsTag, KeepsIds, is_on, is_settled, name_at, names_on, numbered, says_on, state_at, write_at}
use Rattle.rt_tags.specs.Kept.{IsStateTable, write_seen, state_of, states_seen}
use Rattle.rt_tags.specs.SharedStates.{AreBelow, AreShared, Empty, HasMore, Tree, at_id, entries_of, is_setting_kept, puts_on, setting_of, trees_of}
use Rattle.rt_tags.specs.Writers.{state_after}
use Rattle.rt_tags.specs.declared.nodes.Node.{Node}
use Rattle.rt_tags.specs.declared.states.TagEntry.{TagEntry}
use Rattle.rt_tags.proofs.Entries.{seen_stays}
use Rattle.rt_tags.proofs.OneId.{IsFull, full_below, none_from, one_id}
use Rattle.rt_tags.proofs.Places.{clash, name_itself, split}
use Rattle.rt_tags.proofs.SeenStates.{by_name_there, entries_named, listed_place, on_there, settings_there, settled_there, write_nowhere}
use Rattle.rt_tags.proofs.Walking.{on_is_there}
use Rattle.rt_tags.proofs.Commuting.{on_is_listed}
use Rattle.rt_tags.proofs.Trees.{first_is, keeps_more, outside_is, trees_length}

abbrev pub table_of : List (List ℕ) → List Node → TagStates
table_of names nodes = record { names = names; states = states_seen names nodes }

-- A STATE OF THE LIST

pub state_there : (names : List (List ℕ)) (nodes : List Node) (id : ℕ) → state_at (table_of names nodes) id ≡ state_of names (at_id nodes id)
state_there names nodes id = get_or-map (state_of names) (trees_of nodes) id Empty

pub states_length : (names : List (List ℕ)) (nodes : List Node) → length (states_seen names nodes) ≡ length nodes
states_length names nodes = length-map (trees_of nodes) (state_of names) ∙ trees_length nodes

same_map : {A : Type 0} (f g : Tree → A) (xs : List Tree) → ((i : ℕ) → f (get_or xs i Empty) ≡ g (get_or xs i Empty)) → map f xs ≡ map g xs
same_map f g [] h = refl
same_map f g (x ∷ xs) h = λ j. h 0 j ∷ same_map f g xs (λ i. h (suc i)) j

pub given_new : (names : List (List ℕ)) (nodes : List Node) (id : ℕ) → id < length nodes → IsState (table_of names nodes) id
given_new names nodes id w = let e = states_length names nodes in omega (arith, e, w)

-- also of what wasn't given out
pub full_at : (nodes : List Node) (id : ℕ) → AreShared nodes → IsFull (at_id nodes id)
full_at nodes id are = elim (cases_lt id (length nodes)) as (λ w. IsFull (at_id nodes id)) [
  | inl w ↦ full_below (suc id) id nodes are (omega arith) w
  | inr w ↦ subst IsFull (sym (outside_is nodes id w)) tt
]

none_listed : (xs : List (List ℕ)) → ((q : List ℕ) → is_listed q xs ≡ false) → xs ≡ []
none_listed [] h = refl
none_listed (x ∷ xs) h = absurd (clash (is_listed x (x ∷ xs)) (ap (λ b. b || is_listed x xs) (name_itself x)) (h x))

module _ (names : List (List ℕ)) (nodes : List Node) (h : IsStateTable names nodes) where
  pub given_there : (id : ℕ) → IsState (table_of names nodes) id → id < length nodes
  given_there id w = let e = states_length names nodes in omega (arith, e, w)

  pub by_name_at : (id : ℕ) → IsByName (state_at (table_of names nodes) id)
  by_name_at id = subst IsByName (sym (state_there names nodes id)) (by_name_there names h.names_differ (at_id nodes id) (full_at nodes id h.shared) (h.named id))

  pub nowhere_on : (name : List ℕ) (id : ℕ) → is_listed name names ≡ false → is_on name (state_at (table_of names nodes) id) ≡ false
  nowhere_on name id f =
      ap (is_on name) (state_there names nodes id) ∙ ap says_on (write_nowhere names h.names_differ (at_id nodes id) (full_at nodes id h.shared) (h.named id) name f)

  pub one_state_id : (a b : ℕ) → IsState (table_of names nodes) a → IsState (table_of names nodes) b → state_at (table_of names nodes) a ≡ state_at (table_of names nodes) b → a ≡ b
  one_state_id a b v w e =
      one_id nodes a b h.shared (given_there a v) (given_there b w)
      (settings_there names h.names_differ (at_id nodes a) (at_id nodes b) (full_at nodes a h.shared) (h.named a) (full_at nodes b h.shared) (h.named b)
      (sym (state_there names nodes a) ∙ (e ∙ state_there names nodes b)))

  pub first_state : state_at (table_of names nodes) 0 ≡ []
  first_state = state_there names nodes 0 ∙ ap (state_of names) (first_is nodes)

  -- WHAT IS ON

  pub on_state : (tag id : ℕ) → tag < length names → is_on (name_at (table_of names nodes) tag) (state_at (table_of names nodes) id) ≡ puts_on (setting_of (at_id nodes id) tag)
  on_state tag id w = ap (is_on (get_or names tag [])) (state_there names nodes id) ∙ on_there names h.names_differ (at_id nodes id) (full_at nodes id h.shared) (h.named id) tag w

  pub nothing_on : (id : ℕ) → ((t : ℕ) → puts_on (setting_of (at_id nodes id) t) ≡ false) → names_on (state_at (table_of names nodes) id) ≡ []
  nothing_on id off =
      let state = state_at (table_of names nodes) id in
      none_listed (names_on state) (λ q. sym (on_is_listed q state (by_name_at id))
      ∙ split (is_listed q names)
      (λ t. let r = listed_place q names t in subst (λ (x : List ℕ). is_on x state ≡ false) r.2 (on_state r.0 id r.1 ∙ off r.0))
      (λ f. nowhere_on q id f))

  pub something_on : (id t : ℕ) → puts_on (setting_of (at_id nodes id) t) ≡ true → names_on (state_at (table_of names nodes) id) ≡ [] → ⊥
  something_on id t on none =
      let state = state_at (table_of names nodes) id in
      let name = get_or names t [] in
      let w : t < length names = h.named id t (on_is_there (setting_of (at_id nodes id) t) on) in
      clash (is_on name state) (on_state t id w ∙ on) (on_is_listed name state (by_name_at id) ∙ ap (is_listed name) none)

  -- AS CALLERS SEE IT

  module _ (t : TagStates) (view : table_of names nodes ≡ t) where
    -- an id that was given out is the place of a node
    pub place_given : (p id : ℕ) → p ≡ id → IsState t id → p < length nodes
    place_given p id e w = let k = given_there id (subst (λ (v : TagStates). IsState v id) (sym view) w) in omega (arith, e, k)

    pub has_is : (p id q tag : ℕ) → p ≡ id → q ≡ tag → IsTag t tag → puts_on (setting_of (at_id nodes p) q) ≡ is_on (name_at t tag) (state_at t id)
    has_is p id q tag a b w =
        (λ j. puts_on (setting_of (at_id nodes (a j)) (b j)))
        ∙ subst (λ (v : TagStates). puts_on (setting_of (at_id nodes id) tag) ≡ is_on (name_at v tag) (state_at v id)) view (sym (on_state tag id (subst (λ (v : TagStates). IsTag v tag) (sym view) w)))

    pub kept_there : (p id : ℕ) (e : TagEntry) → p ≡ id → IsTag t e.tag → is_settled (write_at t e.tag e.writer e.on) (state_at t id) ≡ true → is_setting_kept (setting_of (at_id nodes p) e.tag) e.writer ≡ true
    kept_there p id e a w settled =
        let tag : e.tag < length names = subst (λ (v : TagStates). IsTag v e.tag) (sym view) w in
        let here = subst (λ (v : TagStates). is_settled (write_at v e.tag e.writer e.on) (state_at v id) ≡ true) (sym view) settled in
        sym (settled_there names h.names_differ (at_id nodes p) (full_at nodes p h.shared) (h.named p) e tag)
        ∙ (ap (λ (i : ℕ). is_settled (write_seen names e) (state_of names (at_id nodes i))) a
        ∙ (ap (is_settled (write_seen names e)) (sym (state_there names nodes id)) ∙ here))

  -- a tag without a name is on in no state
  pub off_past : (id tag : ℕ) → length names ≤ tag → puts_on (setting_of (at_id nodes id) tag) ≡ false
  off_past id tag w = ap puts_on (none_from (setting_of (at_id nodes id) tag) (λ is. let k = h.named id tag is in absurd (omega (arith, k, w))))

  pub table_after : (new : List Node) → AreShared new → AreBelow (length names) new → IsStateTable names new
  table_after new kept below = record { names_differ = h.names_differ; few = h.few; shared = kept; named = below }

  -- MORE NAMES

  stays_seen : (more : List (List ℕ)) (id : ℕ) → state_of (names ++ more) (at_id nodes id) ≡ state_of names (at_id nodes id)
  stays_seen more id = ap (state_after []) (seen_stays names more (entries_of (at_id nodes id)) (entries_named (length names) (at_id nodes id) (full_at nodes id h.shared) (h.named id)))

  pub states_stay : (more : List (List ℕ)) → states_seen (names ++ more) nodes ≡ states_seen names nodes
  states_stay more = same_map (state_of (names ++ more)) (state_of names) (trees_of nodes) (λ i. stays_seen more i)

  pub table_longer : (more : List (List ℕ)) → length (names ++ more) ≤ 2 ^ 32 → HaveNoRepeats (names ++ more) → IsStateTable (names ++ more) nodes
  table_longer more few own = record {
    names_differ = own;
    few = few;
    shared = h.shared;
    named = λ id t is. let w = h.named id t is in let e = length-append names more in omega (arith, w, e);
  }

  pub numbered_new : (name : List ℕ) → is_listed name names ≡ false → table_of (names ++ name ∷ []) nodes ≡ numbered name (table_of names nodes)
  numbered_new name f =
      (λ j. record { names = names ++ name ∷ []; states = states_stay (name ∷ []) j })
      ∙ ap (λ b. record { names = cond b names (names ++ name ∷ []); states = states_seen names nodes }) (sym f)

last_name : (names : List (List ℕ)) (name : List ℕ) → slice_get (names ++ name ∷ []) (length names) ≡ Some name
last_name [] name = refl
last_name (x ∷ names) name = last_name names name

pub stands_last : (names new : List (List ℕ)) (name : List ℕ) (n : ℕ) → new ≡ names ++ name ∷ [] → n ≡ length names → slice_get new n ≡ Some name
stands_last names new name n e k = subst (λ v. slice_get v n ≡ Some name) (sym e) (subst (λ i. slice_get (names ++ name ∷ []) i ≡ Some name) (sym k) (last_name names name))

-- IDS

stays_at : {X : Type 0} (d : X) (xs more : List X) (i : ℕ) → i < length xs → get_or (xs ++ more) i d ≡ get_or xs i d
stays_at d [] more i h = absurd (omega (arith, h))
stays_at d (x ∷ xs) more zero h = refl
stays_at d (x ∷ xs) more (suc i) h = stays_at d xs more i (omega (arith, h))

pub keeps_itself : (t : TagStates) → KeepsIds t t
keeps_itself t = record { tags = λ i h. (h, refl); states = λ i h. (h, refl); later = λ tag state more given there. absurd (omega (arith, more, given)) }

-- a name more, that is on in no state
keeps_named : (name : List ℕ) (t : TagStates) → ((state : ℕ) → is_on name (state_at t state) ≡ false) → KeepsIds t (record t { names = t.names ++ name ∷ [] })
keeps_named name t off = record {
  tags = λ i h. (omega (arith, h, length-append t.names (name ∷ [])), stays_at [] t.names (name ∷ []) i h);
  states = λ i h. (h, refl);
  later = λ tag state more given there.
      let last : tag ≡ length t.names = omega (arith, more, given, length-append t.names (name ∷ [])) in
      let is : name_at (record t { names = t.names ++ name ∷ [] }) tag ≡ name = ap (name_at (record t { names = t.names ++ name ∷ [] })) last ∙ get_or_from_slice_get (t.names ++ name ∷ []) (length t.names) name [] (last_name t.names name) in
      ap (λ n. is_on n (state_at t state)) is ∙ off state;
}

pub keeps_numbered : (name : List ℕ) (t : TagStates) → AreNumbered t → KeepsIds t (numbered name t)
keeps_numbered name t numbered_all =
    split (is_listed name t.names)
    (λ h. subst (λ b. KeepsIds t (record t { names = cond b t.names (t.names ++ name ∷ []) })) (sym h) (keeps_itself t))
    (λ h. subst (λ b. KeepsIds t (record t { names = cond b t.names (t.names ++ name ∷ []) })) (sym h)
    (keeps_named name t (λ state. numbered_all name state h)))

-- more nodes
pub keeps_states : (names : List (List ℕ)) (old new : List Node) → HasMore old new → KeepsIds (table_of names old) (table_of names new)
keeps_states names old new more = record {
  tags = λ i w. (w, refl);
  states = λ i w.
      let given : i < length old = (let e = states_length names old in omega (arith, e, w)) in
      let l : length new ≡ length (old ++ more.0) = ap (λ (v : List Node). length v) more.1 in
      let f : length (old ++ more.0) ≡ length old + length more.0 = length-append old more.0 in
      let k = states_length names new in
      (omega (arith, l, f, k, given), state_there names new i ∙ (ap (state_of names) (keeps_more old new i more given) ∙ sym (state_there names old i)));
  later = λ tag state more given there. absurd (omega (arith, more, given));
}

pub keeps_there : (t : TagStates) (names : List (List ℕ)) (old new : List Node) → table_of names old ≡ t → HasMore old new → KeepsIds t (table_of names new)
keeps_there t names old new e more = subst (λ (v : TagStates). KeepsIds v (table_of names new)) e (keeps_states names old new more)
