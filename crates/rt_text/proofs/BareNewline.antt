-- A newline without its tags, and text that is inserted before it.
use Rattle.std.proofs.Common.{◌≡◌, ℕ, ◌+◌, ◌≤◌, ◌&&◌, ◌||◌, List, [], ◌∷◌, ◌++◌, Bool, true, false, cond, inl, inr, length, map, filter, refl, sym, ap, ◌∙◌, subst, arith, Option, None, Some}
use Rattle.std.specs.List.{AllByRecursion}
use Rattle.std.specs.Str.{bytes_eq, chars}
use Rattle.std.proofs.lemmas.Bool.{or_from, or_parts}
use Rattle.rt_stamps.specs.declared.limits.TheConstants.{MOST_CHARACTERS}
use Rattle.rt_stamps.specs.declared.stamp.Stamp.{Stamp}
use Rattle.rt_stamps.specs.Stamps.{is_same}
use Rattle.rt_stamps.specs.Words.{Word}
use Rattle.rt_stamps.proofs.Order.{same_refl, same_sym}
use Rattle.rt_store.specs.Cells.{stamps_of}
use Rattle.rt_store.specs.Shown.{TaggedCell}
use Rattle.rt_store.specs.Spans.{is_among}
use Rattle.rt_store.specs.Written.{IsWritten}
use Rattle.rt_store.proofs.Distinct.{split}
use Rattle.rt_store.proofs.Shown.{map_append}
use Rattle.rt_tags.specs.States.{IsByName, Write, is_on, names_on, written}
use Rattle.rt_tags.specs.Tags.{is_listed, sel}
use Rattle.rt_tags.proofs.Commuting.{on_is_listed}
use Rattle.rt_tags.proofs.Places.{same_name}
use Rattle.rt_plans.specs.DocValue.{DocValue}
use Rattle.rt_plans.specs.InsertionDrafts.{last_element, insertion_drafts, pieces_drafts, text_drafts}
use Rattle.rt_plans.specs.Insertions.{Insertion, Piece, all_listed, are_among, counts_for, inserts_for, insertion_of, on_left, selected_if, shared_names, tagged_cells, tags_between, with_listed, with_pieces, with_unlisted}
use Rattle.rt_plans.specs.TagWrites.{bared, tag_write, cell_with_tag, with_tag}
use Rattle.rt_plans.proofs.PlanLaws.{among_with}
use Rattle.rt_plans.proofs.Putting.{tagged_state}
use Rattle.rt_plans.proofs.RestLaws.{pieces_others}
use Rattle.rt_plans.proofs.TagEffects.{elsewhere, says, stamp_kept}
use Rattle.rt_plans.proofs.WriterLaws.{operation_within, written_known, written_on}
use Rattle.rt_text.proofs.NewCells.{AreNew, inserts_new}

-- ONE TAG TAKEN OFF A CELL

module _ (stamp : Stamp) (site count : ℕ) (name : Word) where
  abbrev off : TaggedCell → TaggedCell
  off cell = cell_with_tag site count name false (stamp ∷ []) cell

  -- the other cells stay
  others_stay : (cells : List TaggedCell) → is_among (stamps_of cells) stamp ≡ false → map off cells ≡ cells
  others_stay [] h = refl
  others_stay (c ∷ cs) h =
      let p = or_parts (is_same c.stamp stamp) (is_among (stamps_of cs) stamp) h in
      let other : is_same stamp c.stamp ≡ false = same_sym stamp c.stamp ∙ p.0 in
      λ i. elsewhere site count name false (stamp ∷ []) c (ap (λ b. b || false) other) i ∷ others_stay cs p.1 i

  -- what was off stays off
  off_before : (cell : TaggedCell) (q : Word) → is_on q (off cell).state ≡ true → is_on q cell.state ≡ true
  off_before cell q h = by (is_among (stamp ∷ []) cell.stamp) h
    where
      w : Write
      w = tag_write site count name false (stamp ∷ []) cell.stamp

      from : is_on q (written w cell.state) ≡ true → is_on q cell.state ≡ true
      from k = elim (written_on q w cell.state k) [ inl on ↦ on | inr p ↦ absurd (cc (p.1)) ]

      by : (b : Bool) → is_on q (cond b (record cell { state = written w cell.state }) cell).state ≡ true → is_on q cell.state ≡ true
      by true k = from k
      by false k = k

-- ALL ITS TAGS

-- a cell between others, tags being taken off it
record IsBared (names : List Word) (front : List TaggedCell) (last : TaggedCell) (rest cells : List TaggedCell) (new : TaggedCell) : Type 0 where
  is : cells ≡ front ++ new ∷ rest
  stamp : new.stamp ≡ last.stamp
  gone : new.gone ≡ last.gone
  before : (q : Word) → is_on q new.state ≡ true → is_on q last.state ≡ true
  off : (q : Word) → is_listed q names ≡ true → is_on q new.state ≡ false

not_on : (b : Bool) → (b ≡ true → ⊥) → b ≡ false
not_on true h = absurd (h refl)
not_on false h = refl

module _ (stamp : Stamp) (front rest : List TaggedCell) (apart : is_among (stamps_of front) stamp ≡ false) (later : is_among (stamps_of rest) stamp ≡ false) where
  bares : (names : List Word) (doc : DocValue) (last : TaggedCell) → doc.cells ≡ front ++ last ∷ rest → last.stamp ≡ stamp → IsWritten doc.count last.state
      → (new : TaggedCell) × IsBared names front last rest (bared doc stamp names).cells new
  bares [] doc last e s known = (last, record { is = e; stamp = refl; gone = refl; before = λ q h. h; off = λ q h. absurd (cc h) })
  bares (name ∷ names) doc last e s known =
      let site = doc.site in
      let count = doc.count in
      let next : DocValue = with_tag doc name false (stamp ∷ []) in
      let new : TaggedCell = off stamp site count name last in
      let there : is_among (stamp ∷ []) last.stamp ≡ true = ap (λ x. is_same stamp x || false) s ∙ ap (λ b. b || false) (same_refl stamp) in
      let change = tagged_state site count name false (stamp ∷ []) last in
      let cells : next.cells ≡ front ++ new ∷ rest =
      ap (map (off stamp site count name)) e ∙ map_append (off stamp site count name) front (last ∷ rest)
      ∙ (λ i. others_stay stamp site count name front apart i ++ new ∷ others_stay stamp site count name rest later i) in
      let known_next : IsWritten next.count new.state = known_after doc name last there known in
      let kept = stamp_kept site count name false (stamp ∷ []) last in
      let rest_is = bares names next new cells (kept ∙ s) known_next in (
        rest_is.0,
        record {
          is = rest_is.1.is;
          stamp = rest_is.1.stamp ∙ kept;
          gone = rest_is.1.gone ∙ ap (λ (c : TaggedCell). c.gone) change;
          before = λ q h. off_before stamp site count name last q (rest_is.1.before q h);
          off = λ q h. split (is_listed q names)
              (λ t. rest_is.1.off q t)
              (λ f. let same : q ≡ name = same_name q name (first (bytes_eq q name) (is_listed q names) h f) in
              not_on (is_on q rest_is.0.state) (λ on.
              let still : is_on q new.state ≡ true = rest_is.1.before q on in
              let gone : is_on q new.state ≡ false = ap (λ n. is_on n new.state) same ∙ says site count name false (stamp ∷ []) last known there in
              cc (still, gone)));
        },
      )
    where
      first : (a b : Bool) → (a || b) ≡ true → b ≡ false → a ≡ true
      first true b h k = refl
      first false b h k = absurd (cc (h, k))

      known_after : (doc : DocValue) (name : Word) (last : TaggedCell) → is_among (stamp ∷ []) last.stamp ≡ true → IsWritten doc.count last.state
          → IsWritten (with_tag doc name false (stamp ∷ [])).count (cell_with_tag doc.site doc.count name false (stamp ∷ []) last).state
      known_after doc name last there known =
          let w : Write = tag_write doc.site doc.count name false (stamp ∷ []) last.stamp in
          let within : w.writer.count ≤ (with_tag doc name false (stamp ∷ [])).count = operation_within doc.count (stamp ∷ []) last.stamp there in
          let here : (cell_with_tag doc.site doc.count name false (stamp ∷ []) last).state ≡ written w last.state = ap (λ b. (cond b (record last { state = written w last.state }) last).state) there in
          subst (IsWritten (with_tag doc name false (stamp ∷ [])).count) (sym here) (written_known doc.count (with_tag doc name false (stamp ∷ [])).count w last.state (omega arith) within known)

-- a cell between others, bare of all tags
pub record IsBare (front : List TaggedCell) (last : TaggedCell) (rest cells : List TaggedCell) (new : TaggedCell) : Type 0 where
  pub is : cells ≡ front ++ new ∷ rest
  pub stamp : new.stamp ≡ last.stamp
  pub gone : new.gone ≡ last.gone
  pub off : (q : Word) → is_on q new.state ≡ false

pub all_bare : (doc : DocValue) (front : List TaggedCell) (last : TaggedCell) (rest : List TaggedCell) → doc.cells ≡ front ++ last ∷ rest → is_among (stamps_of front) last.stamp ≡ false → is_among (stamps_of rest) last.stamp ≡ false
    → IsWritten doc.count last.state → IsByName last.state → (new : TaggedCell) × IsBare front last rest (bared doc last.stamp (names_on last.state)).cells new
all_bare doc front last rest e apart behind known by_name =
    let w = bares last.stamp front rest apart behind (names_on last.state) doc last e refl known in (
      w.0,
      record {
        is = w.1.is;
        stamp = w.1.stamp;
        gone = w.1.gone;
        off = λ q. not_on (is_on q w.0.state) (λ on.
            let was : is_listed q (names_on last.state) ≡ true = sym (on_is_listed q last.state by_name) ∙ w.1.before q on in
            let no : is_on q w.0.state ≡ false = w.1.off q was in
            cc (on, no));
      },
    )

-- TEXT BEFORE IT

no_names : (state : List Write) (names : List Word) → ((q : Word) → is_on q state ≡ false) → filter (λ name. is_on name state) names ≡ []
no_names state [] h = refl
no_names state (name ∷ names) h = ap (λ b. cond b (name ∷ filter (λ n. is_on n state) names) (filter (λ n. is_on n state) names)) (h name) ∙ no_names state names h

-- no tags, as without a right neighbour
pub bare_between : (left : Option TaggedCell) (right : TaggedCell) → ((q : Word) → is_on q right.state ≡ false) → tags_between left (Some right) ≡ tags_between left None
bare_between None right h = refl
bare_between (Some left) right h = no_names right.state (names_on left.state) h

bare_among : (left : Option TaggedCell) (right : TaggedCell) (stamps : List Stamp) → is_among stamps right.stamp ≡ false → are_among stamps left (Some right) ≡ are_among stamps left None
bare_among None right stamps h = refl
bare_among (Some left) right stamps h = by (is_among stamps left.stamp) (is_among stamps right.stamp) h
  where
    by : (a b : Bool) → b ≡ false → (a && b) ≡ false
    by true b k = k
    by false b k = refl

none_selected : (stamp : Stamp) (b : Bool) (stamps selection : List Stamp) → is_among stamps stamp ≡ false → is_among selection stamp ≡ false → is_among (selected_if b stamps selection) stamp ≡ false
none_selected stamp true stamps selection h k = among_with stamps selection stamp ∙ or_from (is_among selection stamp) (is_among stamps stamp) k h
none_selected stamp false stamps selection h k = k

-- no new character has its stamp
module _ (stamp : Stamp) (site start : ℕ) (free : (new : List TaggedCell) → AreNew start site new → is_among (stamps_of new) stamp ≡ false) where
  none_listed : (names : List Word) (text : List ℕ) (so_far : Insertion) → start ≤ so_far.count → is_among so_far.sel stamp ≡ false
      → (start ≤ (with_listed site names text so_far).count) × (is_among (with_listed site names text so_far).sel stamp ≡ false)
  none_listed names [] so_far h k = (h, k)
  none_listed names (c ∷ text) so_far h k =
      let shared = shared_names names in
      let new = tagged_cells site so_far.count shared (c ∷ text) in (
        omega (arith, h),
        none_selected stamp (is_listed sel names) (stamps_of new) so_far.sel (free new (inserts_new (inserts_for (length (c ∷ text))) site so_far.count start shared (c ∷ text) h)) k,
      )

  none_after : (pieces : List Piece) (so_far : Insertion) → start ≤ so_far.count → is_among so_far.sel stamp ≡ false → is_among (with_pieces site pieces so_far).sel stamp ≡ false
  none_after [] so_far h k = k
  none_after (piece ∷ pieces) so_far h k =
      let next = none_listed piece.tags (chars piece.text) so_far h k in
      none_after pieces (with_listed site piece.tags (chars piece.text) so_far) next.0 next.1

same_others : (left : Option TaggedCell) (right : TaggedCell) (stamps : List Stamp) (others : List (List Stamp)) → AllByRecursion (λ selection. is_among selection right.stamp ≡ false) others
    → map (λ selection. selected_if (are_among selection left (Some right)) stamps selection) others ≡ map (λ selection. selected_if (are_among selection left None) stamps selection) others
same_others left right stamps [] h = refl
same_others left right stamps (s ∷ others) h = λ i. selected_if (bare_among left right s h.0 i) stamps s ∷ same_others left right stamps others h.1 i

same_unlisted : (site : ℕ) (left : Option TaggedCell) (right : TaggedCell) (text : List ℕ) (so_far : Insertion) → ((q : Word) → is_on q right.state ≡ false) → is_among so_far.sel right.stamp ≡ false
    → AllByRecursion (λ selection. is_among selection right.stamp ≡ false) so_far.others → with_unlisted site left None text so_far ≡ with_unlisted site left (Some right) text so_far
same_unlisted site left right [] so_far off s o = refl
same_unlisted site left right (c ∷ text) so_far off s o =
    let new : List Word → List TaggedCell = λ names. tagged_cells site so_far.count names (c ∷ text) in
    let names : tags_between left None ≡ tags_between left (Some right) = sym (bare_between left right off) in
    λ i. record {
      cells = so_far.cells ++ new (names i);
      count = so_far.count + counts_for (names i) (c ∷ text);
      sel = selected_if (sym (bare_among left right so_far.sel s) i) (stamps_of (new (names i))) so_far.sel;
      others = (ap (λ n. map (λ selection. selected_if (are_among selection left None) (stamps_of (new n)) selection) so_far.others) names
          ∙ sym (same_others left right (stamps_of (new (tags_between left (Some right)))) so_far.others o)) i;
      tags = all_listed (names i) so_far.tags;
    }

-- the insertion is as one without a right neighbour
pub bare_insertion : (site : ℕ) (left : Option TaggedCell) (right : TaggedCell) (pieces : List Piece) (rest : Word) (start : Insertion)
    → ((new : List TaggedCell) → AreNew start.count site new → is_among (stamps_of new) right.stamp ≡ false) → ((q : Word) → is_on q right.state ≡ false)
    → is_among start.sel right.stamp ≡ false → AllByRecursion (λ selection. is_among selection right.stamp ≡ false) start.others
    → insertion_of site left None pieces rest start ≡ insertion_of site left (Some right) pieces rest start
bare_insertion site left right pieces rest start free off k o =
    let listed = with_pieces site pieces start in
    same_unlisted site (on_left left listed.cells) right (chars rest) listed off (none_after right.stamp site start.count free pieces start (omega arith) k)
    (subst (AllByRecursion (λ selection. is_among selection right.stamp ≡ false)) (sym (pieces_others site pieces start)) o)

-- and so are its operations
pub bare_drafts : (site : ℕ) (after : Stamp) (left : Option TaggedCell) (right : TaggedCell) (pieces : List Piece) (rest : Word) (start : Insertion) → ((q : Word) → is_on q right.state ≡ false)
    → insertion_drafts MOST_CHARACTERS site after left None pieces rest start ≡ insertion_drafts MOST_CHARACTERS site after left (Some right) pieces rest start
bare_drafts site after left right pieces rest start off =
    let listed = with_pieces site pieces start in
    ap (λ names. pieces_drafts MOST_CHARACTERS site after pieces start ++ text_drafts MOST_CHARACTERS site listed.count (last_element after listed.cells) names (chars rest))
    (sym (bare_between (on_left left listed.cells) right off))
