-- What an operation that is new leaves of a document: how many characters there are, which tags are on them, and where marks
-- stand.
use Rattle.std.proofs.Common.{◌≡◌, ℕ, suc, ◌+◌, ◌-◌, ◌^◌, ◌≤◌, inl, inr, List, [], ◌∷◌, ◌++◌, Bool, true, false, cond, not, All, Option, None, Some, Result, Ok, Err, OnOk, length, take, drop, map, refl, sym, ◌∙◌, ap, subst, arith, length-append, take-append-drop}
use Rattle.std.specs.Prelude.{option_map, slice_get, unwrap_or, nat_lt}
use Rattle.std.specs.List.{list_all}
use Rattle.std.specs.Str.{bytes_eq}
use Rattle.std.proofs.lemmas.Bool.{and_parts, both_ways, cond-true, cond-false, ltb-false}
use Rattle.std.proofs.lemmas.Bool.Decides.{nat_tests}
use Rattle.std.proofs.lemmas.List.Elements.{All-cons, All-filter, All-head, All-nil, All-tail, All-weaker, filter-append}
use Rattle.rt_marks.specs.Marks.{Mark, marks_inserted, marks_left, place_left}
use Rattle.rt_marks.proofs.Leaving.{place_kept}
use Rattle.rt_stamps.specs.declared.limits.TheConstants.{MOST_CELLS}
use Rattle.rt_stamps.specs.declared.stamp.Span.{Span}
use Rattle.rt_stamps.specs.declared.stamp.Stamp.{Stamp}
use Rattle.rt_stamps.specs.declared.stamp.TheConstants.{ROOT}
use Rattle.rt_stamps.specs.Words.{Word}
use Rattle.rt_oplog.specs.Logs.{with_operation}
use Rattle.rt_ops.specs.Operations.{Body, Insert, Delete, Tag, Name, Operation, stamp_of}
use Rattle.rt_ops.specs.Rules.{is_name, keeps_rules}
use Rattle.rt_ops.proofs.Lengths.{tags_are}
use Rattle.rt_store.specs.Cells.{cells_from, put_at, skip_from, text_of, visible_of, with_state}
use Rattle.rt_store.specs.Shown.{TaggedCell}
use Rattle.rt_store.specs.Spans.{gone_in_any, is_in_spans}
use Rattle.rt_tags.specs.States.{TagStates, Write, is_on, name_at, write_of}
use Rattle.rt_tags.specs.Tags.{IsName, is_listed, sel}
use Rattle.rt_tags.specs.Writers.{listed_by, state_after}
use Rattle.rt_tags.proofs.Places.{name_itself, same_name, split}
use Rattle.rt_rga.specs.Answers.{New, answer_within}
use Rattle.rt_rga.specs.Cells.{cells_of}
use Rattle.rt_rga.specs.Changes.{changed_by, with_write, written_in_any}
use Rattle.rt_rga.specs.Histories.{Continues, IsHistory, greatest_last_count, inserted, inserted_by}
use Rattle.rt_rga.specs.Kept.{ReplicaValue}
use Rattle.rt_rga.specs.declared.taken.Change.{Change}
use Rattle.rt_rga.specs.Taken.{IsChange, is_in_runs, lists_of, place_in, takes_away}
use Rattle.rt_rga.proofs.Changing.{length_text}
use Rattle.rt_rga.proofs.Histories.{continues_from}
use Rattle.rt_rga.proofs.Merging.{cells_with}
use Rattle.rt_rga.proofs.Room.{new_within}
use Rattle.rt_rga.proofs.Sel.{no_sel}
use Rattle.rt_rga.proofs.Within.{continues_new}
use Rattle.rt_plans.specs.DocValue.{DocValue}
use Rattle.rt_plans.specs.Insertions.{all_listed}
use Rattle.rt_plans.specs.Listed.{AreListed, IsShared}
use Rattle.rt_plans.specs.Removals.{gone_at}
use Rattle.rt_plans.proofs.InsertedText.{text_append}
use Rattle.rt_plans.proofs.PlaceLaws.{text_within}
use Rattle.rt_plans.proofs.StateChanges.{ChangesState, text_changed, visible_changed}
use Rattle.rt_plans.proofs.WriterLaws.{all_map, written_on}
use Rattle.rt_text.specs.Accepted.{with_new}
use Rattle.rt_text.specs.Kept.{IsDoc}
use Rattle.rt_text.specs.Widgets.{AreSiteMarks}
use Rattle.rt_text.proofs.ListedText.{HaveNamed, all_front, all_named, all_rest, all_still, all_there, listed_by_named, named_after, named_on, visible_all}
use Rattle.rt_text.proofs.MarkLaws.{length_gone, site_inserted, site_left}

-- what follows of a result that is Ok
pub ok_more : {T E A B : Type 0} (r : Result T E) → (A → B) → OnOk r A → OnOk r B
ok_more (Ok x) f a = f a
ok_more (Err e) f a = tt

-- what holds of what is made of each element
pub all_under : {X Y : Type 0} (P : Y → Type 0) (f : X → Y) (xs : List X) → All P (map f xs) → All (λ x. P (f x)) xs
all_under P f [] h = All-nil (λ x. P (f x))
all_under P f (x ∷ xs) h = All-cons (λ x. P (f x)) x xs (All-head P (f x) (map f xs) h) (all_under P f xs (All-tail P (f x) (map f xs) h))

-- NAMES

name_is : (name : Name) → is_name name ≡ true → IsName name
name_is name h = (grind (arith, nat_tests), grind (arith, nat_tests))

pub names_are : (names : List Name) → list_all is_name names ≡ true → All IsName names
names_are [] h = All-nil IsName
names_are (name ∷ names) h =
    let both = and_parts (is_name name) (list_all is_name names) h in
    All-cons IsName name names (name_is name both.0) (names_are names both.1)

-- what an operation lists are names
pub lists_named : (body : Body) → keeps_rules body ≡ true → All IsName (lists_of body)
lists_named (Insert after tags text) h = names_are tags (tags_are after tags text h).1
lists_named (Delete spans) h = All-nil IsName
lists_named (Tag on name spans) h = by on
  where
    by : (b : Bool) → All IsName (cond b (name ∷ []) [])
    by true = All-cons IsName name [] (name_is name (and_parts (is_name name) _ h).0) (All-nil IsName)
    by false = All-nil IsName

-- HOW MANY CHARACTERS

none_taken : (o : Option TaggedCell) → unwrap_or (option_map (λ (cell : TaggedCell). false) o) false ≡ false
none_taken None = refl
none_taken (Some cell) = refl

length_new : (count site : ℕ) (state : List Write) (text : List ℕ) → length (text_of (cells_from count site state text)) ≡ length text
length_new count site state [] = refl
length_new count site state (c ∷ text) = ap suc (length_new (count + 1) site state text)

length_put : (at : ℕ) (new cells : List TaggedCell) → length (text_of (put_at at new cells)) ≡ length (text_of cells) + length (text_of new)
length_put at new cells =
    let front = take at cells in
    let back = drop at cells in
    let whole = ap length (text_append front (new ++ back) ∙ ap (λ t. text_of front ++ t) (text_append new back)) in
    let old = ap (λ l. length (text_of l)) (sym (take-append-drop at cells)) ∙ ap length (text_append front back) in
    let a = length-append (text_of front) (text_of new ++ text_of back) in
    let b = length-append (text_of new) (text_of back) in
    let d = length-append (text_of front) (text_of back) in
    omega (arith, whole, old, a, b, d)

-- whether the visible cell at a place of some is in spans
abbrev names_at : List Span → List TaggedCell → ℕ → Bool
names_at spans seen i = unwrap_or (option_map (λ (cell : TaggedCell). is_in_spans spans cell.stamp) (slice_get seen i)) false

-- the cells of spans are the visible ones at some places
gone_same : (spans : List Span) (removed : ℕ → Bool) (k : ℕ) (cells : List TaggedCell) → ((i : ℕ) → removed (k + i) ≡ names_at spans (visible_of cells) i) → map (gone_in_any spans) cells ≡ gone_at removed k cells
gone_same spans removed k [] h = refl
gone_same spans removed k (c ∷ cs) h =
    split c.gone
    (λ t. (λ j. was (is_in_spans spans c.stamp) t j ∷ gone_same spans removed k cs (λ i. h i ∙ ap (λ b. seen b i) t) j)
    ∙ sym (cond-true c.gone (c ∷ gone_at removed k cs) (record c { gone = removed k } ∷ gone_at removed (k + 1) cs) t))
    (λ f. let none : k ≡ k + 0 = omega arith in
    let here : is_in_spans spans c.stamp ≡ removed k = sym (ap removed none ∙ h 0 ∙ ap (λ b. seen b 0) f) in
    (λ j. (goes (is_in_spans spans c.stamp) f ∙ ap (λ b. record c { gone = b }) here) j
    ∷ gone_same spans removed (k + 1) cs (λ i. ap removed (next i) ∙ h (suc i) ∙ ap (λ b. seen b (suc i)) f) j)
    ∙ sym (cond-false c.gone (c ∷ gone_at removed k cs) (record c { gone = removed k } ∷ gone_at removed (k + 1) cs) f))
  where
    seen : Bool → ℕ → Bool
    seen b i = names_at spans (cond (not b) (c ∷ visible_of cs) (visible_of cs)) i

    next : (i : ℕ) → k + 1 + i ≡ k + suc i
    next i = omega arith

    was : (b : Bool) → c.gone ≡ true → cond b (record c { gone = true }) c ≡ c
    was true t = λ j. record c { gone = sym t j }
    was false t = refl

    goes : (b : Bool) → c.gone ≡ false → cond b (record c { gone = true }) c ≡ record c { gone = b }
    goes true f = refl
    goes false f = λ j. record c { gone = f j }

-- a write changes nothing but states
states_alone : (spans : List Span) (w : Write) → ChangesState (written_in_any spans w)
states_alone spans w cell = by (is_in_spans spans cell.stamp)
  where
    by : (b : Bool) → cond b (with_write w cell) cell ≡ with_state (cond b (with_write w cell) cell).state cell
    by true = refl
    by false = refl

length_changed : (stamp : Stamp) (body : Body) (cells : List TaggedCell) → length (text_of (changed_by stamp body cells)) ≡ place_left (takes_away body cells) (length (text_of cells) + length (inserted_by stamp body))
length_changed stamp (Insert after tags text) cells =
    let state = state_after [] (listed_by ROOT tags) in
    length_put (skip_from cells after stamp) (cells_from stamp.count stamp.site state text) cells
    ∙ ap (λ n. length (text_of cells) + n) (length_new stamp.count stamp.site state text ∙ sym (length_text after stamp text))
    ∙ sym (place_kept (takes_away (Insert after tags text) cells) (λ p. none_taken (slice_get (visible_of cells) p)) (length (text_of cells) + length (inserted_by stamp (Insert after tags text))))
length_changed stamp (Delete spans) cells =
    let removed : ℕ → Bool = takes_away (Delete spans) cells in
    let none : length (text_of cells) ≡ length (text_of cells) + 0 = omega arith in
    ap (λ l. length (text_of l)) (gone_same spans removed 0 cells (λ i. let same : 0 + i ≡ i = omega arith in ap removed same)) ∙ length_gone removed cells ∙ ap (place_left removed) none
length_changed stamp (Tag on name spans) cells =
    let w : Write = record { name = name; writer = stamp; on = on } in
    let none : length (text_of cells) ≡ length (text_of cells) + 0 = omega arith in
    ap length (text_changed (written_in_any spans w) (states_alone spans w) cells) ∙ none
    ∙ sym (place_kept (takes_away (Tag on name spans) cells) (λ p. none_taken (slice_get (visible_of cells) p)) (length (text_of cells) + 0))

-- TAGS

-- the tags that are on are listed
abbrev AreOn : List Word → TaggedCell → Type 0
AreOn tags cell = (name : Word) → is_on name cell.state ≡ true → is_listed name tags ≡ true

on_new : (count site : ℕ) (names tags : List Word) (text : List ℕ) → All (AreOn (all_listed names tags)) (visible_of (cells_from count site (state_after [] (listed_by ROOT names)) text))
on_new count site names tags text = All-filter (λ (c : TaggedCell). not c.gone) (AreOn (all_listed names tags)) (cells_from count site state text) (each count text)
  where
    state : List Write
    state = state_after [] (listed_by ROOT names)

    P : Word → Type 0
    P name = is_listed name (all_listed names tags) ≡ true

    named : HaveNamed P state
    named = named_after P (listed_by ROOT names) [] (All-nil (λ w. P w.name)) (listed_by_named P ROOT names (all_there names tags))

    each : (count : ℕ) (text : List ℕ) → All (AreOn (all_listed names tags)) (cells_from count site state text)
    each count [] = All-nil (AreOn (all_listed names tags))
    each count (c ∷ text) =
        All-cons (AreOn (all_listed names tags)) (record { stamp = record { count = count; site = site }; ch = c; gone = false; state = state }) (cells_from (count + 1) site state text) (λ name on. named_on P name state named on) (each (count + 1) text)

gone_step : (tags : List Word) (b : Bool) (c : TaggedCell) (vs ws : List TaggedCell) → All (AreOn tags) (cond (not c.gone) (c ∷ vs) vs) → (All (AreOn tags) vs → All (AreOn tags) ws)
    → All (AreOn tags) (cond (not (cond b (record c { gone = true }) c).gone) (cond b (record c { gone = true }) c ∷ ws) ws)
gone_step tags true c vs ws h f = f (rest c.gone h)
  where
    rest : (g : Bool) → All (AreOn tags) (cond (not g) (c ∷ vs) vs) → All (AreOn tags) vs
    rest true k = k
    rest false k = All-tail (AreOn tags) c vs k
gone_step tags false c vs ws h f = by c.gone h
  where
    by : (g : Bool) → All (AreOn tags) (cond (not g) (c ∷ vs) vs) → All (AreOn tags) (cond (not g) (c ∷ ws) ws)
    by true k = f k
    by false k = All-cons (AreOn tags) c ws (All-head (AreOn tags) c vs k) (f (All-tail (AreOn tags) c vs k))

on_gone : (tags : List Word) (spans : List Span) (cells : List TaggedCell) → All (AreOn tags) (visible_of cells) → All (AreOn tags) (visible_of (map (gone_in_any spans) cells))
on_gone tags spans [] h = All-nil (AreOn tags)
on_gone tags spans (c ∷ cs) h = gone_step tags (is_in_spans spans c.stamp) c (visible_of cs) (visible_of (map (gone_in_any spans) cs)) h (λ k. on_gone tags spans cs k)

on_written : (tags : List Word) (stamp : Stamp) (on : Bool) (name : Name) (spans : List Span) (cells : List TaggedCell) → All (AreOn tags) (visible_of cells)
    → All (AreOn (all_listed (lists_of (Tag on name spans)) tags)) (visible_of (changed_by stamp (Tag on name spans) cells))
on_written tags stamp on name spans cells h =
    subst (All (AreOn new)) (sym (visible_changed (written_in_any spans w) (states_alone spans w) cells)) (all_map (AreOn tags) (AreOn new) (written_in_any spans w) each (visible_of cells) h)
  where
    w : Write
    w = record { name = name; writer = stamp; on = on }

    new : List Word
    new = all_listed (lists_of (Tag on name spans)) tags

    put : (q : Word) → bytes_eq q name ≡ true → on ≡ true → is_listed q new ≡ true
    put q e o =
        ap (λ n. is_listed n new) (same_name q name e) ∙ ap (λ b. is_listed name (all_listed (cond b (name ∷ []) []) tags)) o
        ∙ All-head (λ n. is_listed n (all_listed (name ∷ []) tags) ≡ true) name [] (all_there (name ∷ []) tags)

    each : (c : TaggedCell) → AreOn tags c → AreOn new (written_in_any spans w c)
    each c k q e =
        split (is_in_spans spans c.stamp)
        (λ t. elim (written_on q w c.state (ap (λ (x : TaggedCell). is_on q x.state) (sym (cond-true (is_in_spans spans c.stamp) (with_write w c) c t)) ∙ e)) [
          | inl before ↦ all_still q (lists_of (Tag on name spans)) tags (k q before)
          | inr now ↦ put q now.0 now.1
        ])
        (λ f. all_still q (lists_of (Tag on name spans)) tags (k q (ap (λ (x : TaggedCell). is_on q x.state) (sym (cond-false (is_in_spans spans c.stamp) (with_write w c) c f)) ∙ e)))

on_put : (tags : List Word) (at : ℕ) (new cells : List TaggedCell) → All (AreOn tags) (visible_of cells) → All (AreOn tags) (visible_of new) → All (AreOn tags) (visible_of (put_at at new cells))
on_put tags at new cells h k =
    let P : TaggedCell → Type 0 = AreOn tags in
    let front = take at cells in
    let back = drop at cells in
    let parts : visible_of front ++ visible_of back ≡ visible_of cells = sym (filter-append (λ cell. not cell.gone) front back) ∙ ap visible_of (take-append-drop at cells) in
    let all : All P (visible_of front ++ visible_of back) = subst (All P) (sym parts) h in
    visible_all P front (new ++ back) (all_front P (visible_of front) (visible_of back) all) (visible_all P new back k (all_rest P (visible_of front) (visible_of back) all))

on_changed : (tags : List Word) (stamp : Stamp) (body : Body) (cells : List TaggedCell) → All (AreOn tags) (visible_of cells) → All (AreOn (all_listed (lists_of body) tags)) (visible_of (changed_by stamp body cells))
on_changed tags stamp (Insert after names text) cells h =
    let new = all_listed names tags in
    let more = All-weaker (AreOn tags) (AreOn new) (λ c k q e. all_still q names tags (k q e)) (visible_of cells) h in
    on_put new (skip_from cells after stamp) (cells_from stamp.count stamp.site (state_after [] (listed_by ROOT names)) text) cells more (on_new stamp.count stamp.site names tags text)
on_changed tags stamp (Delete spans) cells h = on_gone tags spans cells h
on_changed tags stamp (Tag on name spans) cells h = on_written tags stamp on name spans cells h

-- a state without a write of `sel`
none_shared : (state : List Write) → write_of sel state ≡ None → IsShared state
none_shared [] h = All-nil (λ (w : Write). bytes_eq w.name sel ≡ false)
none_shared (w ∷ state) h =
    split (bytes_eq sel w.name)
    (λ t. let bad : Some w ≡ None = sym (ap (λ b. cond b (Some w) (write_of sel state)) t) ∙ h in let no : ⊥ = cc in absurd no)
    (λ f. All-cons (λ (w : Write). bytes_eq w.name sel ≡ false) w state
    (split (bytes_eq w.name sel) (λ t. absurd (both_ways (bytes_eq sel w.name) f (ap (λ n. bytes_eq n w.name) (sym (same_name w.name sel t)) ∙ name_itself w.name))) (λ e. e))
    (none_shared state (sym (ap (λ b. cond b (Some w) (write_of sel state)) f) ∙ h)))

-- A DOCUMENT

module _ (set : List Operation) (op : Operation) (h : IsHistory set) (more : IsHistory (with_operation op set)) where
  accepted_cells : cells_of (with_operation op set) ≡ changed_by (stamp_of op) op.body (cells_of set)
  accepted_cells = cells_with op set h (continues_from op set h more)

  -- how many characters there are then
  pub accepted_length : length (text_of (cells_of (with_operation op set))) ≡ place_left (takes_away op.body (cells_of set)) (length (text_of (cells_of set)) + length (inserted op))
  accepted_length = ap (λ l. length (text_of l)) accepted_cells ∙ length_changed (stamp_of op) op.body (cells_of set)

  accepted_listed : (tags : List Word) → keeps_rules op.body ≡ true → AreListed tags (cells_of set) → AreListed (all_listed (lists_of op.body) tags) (cells_of (with_operation op set))
  accepted_listed tags rules listed =
      let names = lists_of op.body in
      record {
        each = subst (λ cells. All (AreOn (all_listed names tags)) (visible_of cells)) (sym accepted_cells) (on_changed tags (stamp_of op) op.body (cells_of set) listed.each);
        sel = all_still sel names tags listed.sel;
        names = all_named names tags (lists_named op.body rules) listed.names;
        shared = All-weaker (λ (cell : TaggedCell). write_of sel cell.state ≡ None) (λ cell. IsShared cell.state) (λ cell e. none_shared cell.state e) (cells_of (with_operation op set)) (no_sel (with_operation op set) more);
      }

  pub accepted_doc : (marks : List Mark) (tags : List Word) → keeps_rules op.body ≡ true → IsDoc (cells_of set) marks tags
      → IsDoc (cells_of (with_operation op set)) (marks_left (takes_away op.body (cells_of set)) (marks_inserted (place_in op (cells_of set)) (length (inserted op)) marks)) (all_listed (lists_of op.body) tags)
  accepted_doc marks tags rules doc =
      let n = length (text_of (cells_of set)) in
      let k = length (inserted op) in
      let place = place_in op (cells_of set) in
      record {
        placed = subst (λ m. AreSiteMarks m (marks_left (takes_away op.body (cells_of set)) (marks_inserted place k marks))) (sym accepted_length)
            (site_left (n + k) (takes_away op.body (cells_of set)) (marks_inserted place k marks) (site_inserted n place k marks doc.placed));
        listed = accepted_listed tags rules doc.listed;
      }

-- what is answered New has room
pub accepted_room : (limit : ℕ) (op : Operation) (set : List Operation) → answer_within limit op set ≡ New → length (cells_of set) + length (inserted op) ≤ limit
accepted_room limit op set e = ltb-false limit (length (cells_of set) + length (inserted op)) (new_within (nat_lt limit (length (cells_of set) + length (inserted op))) _ e).0

-- A REPLICA THAT HAS ACCEPTED IT

-- what is seen of a replica, with marks and tags
abbrev pub seen_with : ReplicaValue → List Mark → List Word → DocValue
seen_with replica marks names = record {
  cells = replica.cells;
  site = replica.site;
  limit = replica.limit;
  log = replica.log;
  count = greatest_last_count replica.log;
  marks = marks;
  tags = names;
}

-- the document that it leaves is one
pub accepted_is : (document : DocValue) (op : Operation) → IsHistory document.log → IsHistory (with_operation op document.log) → document.cells ≡ cells_of document.log → keeps_rules op.body ≡ true → IsDoc document.cells document.marks document.tags
    → IsDoc (with_new op document).cells (with_new op document).marks (with_new op document).tags
accepted_is document op h more known rules doc =
    subst (λ l. IsDoc (cells_of (with_operation op document.log)) (marks_left (takes_away op.body l) (marks_inserted (place_in op l) (length (inserted op)) document.marks)) (all_listed (lists_of op.body) document.tags)) (sym known)
    (accepted_doc document.log op h more document.marks document.tags rules (subst (λ l. IsDoc l document.marks document.tags) known doc))

-- a replica takes what is new to its document
module _ (old : ReplicaValue) (op : Operation) (document : DocValue) (marks : List Mark) (names : List Word) (view : seen_with old marks names ≡ document) (is_new : answer_within document.limit op document.log ≡ New) where
  pub seen_new : answer_within old.limit op old.log ≡ New
  seen_new = ap (λ (f : DocValue). answer_within f.limit op f.log) view ∙ is_new

  pub seen_continues : IsHistory document.log → keeps_rules op.body ≡ true → Continues old.log op
  seen_continues history rules =
      (continues_new old.limit op old.log (subst IsHistory (sym (ap (λ (f : DocValue). f.log) view)) history) rules seen_new).0

  pub seen_room : document.cells ≡ cells_of document.log → length old.cells + length (inserted op) ≤ old.limit
  seen_room known =
      let cells : old.cells ≡ cells_of old.log = ap (λ (f : DocValue). f.cells) view ∙ known ∙ ap cells_of (sym (ap (λ (f : DocValue). f.log) view)) in
      omega (arith, accepted_room old.limit op old.log seen_new, ap length cells)

module _ (old : ReplicaValue) (op : Operation) (change : Change) (is_new : answer_within old.limit op old.log ≡ New) (tells : IsChange op old.cells change) where
  -- no mark's place becomes too great
  pub accepted_fits : (document : DocValue) (marks : List Mark) (names : List Word) → seen_with old marks names ≡ document → document.cells ≡ cells_of document.log → document.limit ≤ MOST_CELLS → length (text_of old.cells) + change.inserted ≤ 2 ^ 64 - 1
  accepted_fits document marks names view known most =
      let cells : old.cells ≡ cells_of old.log = ap (λ (f : DocValue). f.cells) view ∙ known ∙ ap cells_of (sym (ap (λ (f : DocValue). f.log) view)) in
      let room : length (cells_of old.log) + length (inserted op) ≤ old.limit = accepted_room old.limit op old.log is_new in
      let within : length (text_of old.cells) ≤ length old.cells = text_within old.cells in
      let same : length old.cells ≡ length (cells_of old.log) = ap length cells in
      let more : change.inserted ≡ length (inserted op) = tells.more in
      let limit : old.limit ≡ document.limit = ap (λ (f : DocValue). f.limit) view in
      omega (arith, room, within, same, more, limit, most)

  -- what is seen of it then
  pub accepted_seen : (document : DocValue) (new : ReplicaValue) (marks moved : List Mark) (names listed : List Word) → seen_with old marks names ≡ document
      → new.log ≡ with_operation op old.log → new.cells ≡ cells_of new.log → new.site ≡ old.site → new.limit ≡ old.limit
      → moved ≡ marks_left (is_in_runs change.removed.items) (marks_inserted change.place change.inserted marks) → listed ≡ all_listed (lists_of op.body) names
      → seen_with new moved listed ≡ with_new op document
  accepted_seen document new marks moved names listed view log cells site limit m l =
      (λ i. record {
        cells = (cells ∙ ap cells_of log) i;
        site = site i;
        limit = limit i;
        log = log i;
        count = greatest_last_count (log i);
        marks = (m ∙ (λ j. marks_left (λ p. tells.removed p j) (marks_inserted (tells.first j) (tells.more j) marks))) i;
        tags = l i;
      })
      ∙ ap (with_new op) view
