-- How many characters the operations of edits insert.
use Rattle.std.proofs.Common.{◌≡◌, ℕ, zero, suc, ◌+◌, ◌*◌, ◌≤◌, List, [], ◌∷◌, ◌++◌, Bool, true, false, cond, length, take, drop, map, refl, sym, ◌∙◌, ap, subst, arith, length-append, length-drop, Option, Some, None}
use Rattle.std.specs.Prelude.{option_map, unwrap_or}
use Rattle.std.specs.Str.{bytes_eq, chars}
use Rattle.std.proofs.lemmas.List.{length-take}
use Rattle.std.proofs.Math.Nat.{suc-mul}
use Rattle.rt_stamps.specs.declared.limits.TheConstants.{MOST_CHARACTERS, MOST_SPANS}
use Rattle.rt_stamps.specs.declared.stamp.Span.{Span}
use Rattle.rt_stamps.specs.declared.stamp.Stamp.{Stamp}
use Rattle.rt_stamps.specs.Words.{Word}
use Rattle.rt_ops.specs.Operations.{Body, Delete, Tag}
use Rattle.rt_store.specs.Cells.{cells_from}
use Rattle.rt_store.specs.Shown.{TaggedCell}
use Rattle.rt_store.proofs.Places.{length_from}
use Rattle.rt_tags.specs.States.{names_on}
use Rattle.rt_tags.specs.Tags.{sel}
use Rattle.rt_rga.specs.Requests.{characters_in_all}
use Rattle.rt_rga.proofs.Appending.{characters_append}
use Rattle.rt_plans.specs.Deletions.{Loss, delete_drafts, newline_left}
use Rattle.rt_plans.specs.DocValue.{DocValue}
use Rattle.rt_plans.specs.InsertionDrafts.{last_element, insertion_drafts, inserts_of, pieces_drafts, tags_put_on, text_drafts}
use Rattle.rt_plans.specs.Insertions.{Insertion, Piece, cells_of_inserts, further_tags, insertion_of, inserts_for, new_state, on_left, shared_names, tagged_cells, tags_between, with_listed, with_pieces, with_unlisted}
use Rattle.rt_plans.specs.NamedSpans.{first_parts, parts_of, spans_in}
use Rattle.rt_plans.specs.RemovalDrafts.{removal_drafts}
use Rattle.rt_plans.specs.Removals.{cells_at, stamps_at}
use Rattle.rt_plans.specs.TagDrafts.{tag_deletion_drafts, newline_drafts, tag_drafts_at, tags_drafts_at}
use Rattle.rt_plans.specs.TagWrites.{changed_stamps, with_tag_at, without_tag}
use Rattle.rt_plans.proofs.NamedSpanLaws.{IsCut, cut, cut_more}
use Rattle.rt_plans.proofs.PieceDraftLaws.{IsMore, listed_more, unlisted_more}

-- NONE

pub deletes_none : (parts : List (List Span)) → characters_in_all (map (λ spans. Delete spans) parts) ≡ 0
deletes_none [] = refl
deletes_none (part ∷ parts) = omega (arith, deletes_none parts)

tags_none : (on : Bool) (name : Word) (parts : List (List Span)) → characters_in_all (map (λ spans. Tag on name spans) parts) ≡ 0
tags_none on name [] = refl
tags_none on name (part ∷ parts) = omega (arith, tags_none on name parts)

newline_none : (stamp : Stamp) (names : List Word) → characters_in_all (newline_drafts stamp names) ≡ 0
newline_none stamp [] = refl
newline_none stamp (name ∷ names) = omega (arith, newline_none stamp names)

tags_on_none : (span : Span) (names : List Word) → characters_in_all (tags_put_on span names) ≡ 0
tags_on_none span [] = refl
tags_on_none span (name ∷ names) = omega (arith, tags_on_none span names)

both_none : (xs ys : List Body) → characters_in_all xs ≡ 0 → characters_in_all ys ≡ 0 → characters_in_all (xs ++ ys) ≡ 0
both_none xs ys h k = omega (arith, characters_append xs ys, h, k)

at_none : (places : ℕ → Bool) (on : Bool) (name : Word) (cells : List TaggedCell) → characters_in_all (tag_drafts_at MOST_SPANS places on name cells) ≡ 0
at_none places on name cells = tags_none on name (parts_of MOST_SPANS (spans_in (changed_stamps name on (cells_at places 0 cells))))

pub tags_insert_none : (names : List Word) (doc : DocValue) (places : ℕ → Bool) (on : Bool) → characters_in_all (tags_drafts_at MOST_SPANS doc places on names) ≡ 0
tags_insert_none [] doc places on = refl
tags_insert_none (name ∷ names) doc places on =
    both_none (tag_drafts_at MOST_SPANS places on name doc.cells) (tags_drafts_at MOST_SPANS (with_tag_at doc places on name) places on names) (at_none places on name doc.cells)
    (tags_insert_none names (with_tag_at doc places on name) places on)

pub deletions_insert_none : (names : List Word) (doc : DocValue) → characters_in_all (tag_deletion_drafts MOST_SPANS doc names) ≡ 0
deletions_insert_none [] doc = refl
deletions_insert_none (name ∷ names) doc =
    let off = tag_drafts_at MOST_SPANS (λ _. true) false name doc.cells in
    both_none (cond (bytes_eq name sel) [] off) (tag_deletion_drafts MOST_SPANS (without_tag doc name) names)
    (elim (bytes_eq name sel) as (λ b. characters_in_all (cond b [] off) ≡ 0) [ true ↦ refl | false ↦ at_none (λ _. true) false name doc.cells ])
    (deletions_insert_none names (without_tag doc name))

pub loss_inserts_none : (doc : DocValue) (loss : Loss) → characters_in_all (delete_drafts MOST_SPANS doc loss) ≡ 0
loss_inserts_none doc loss =
    both_none (removal_drafts MOST_SPANS loss.places doc.cells) (tags (newline_left doc loss))
    (deletes_none (parts_of MOST_SPANS (spans_in (stamps_at loss.places 0 doc.cells)))) (none (newline_left doc loss))
  where
    tags : Option TaggedCell → List Body
    tags o = unwrap_or (option_map (λ (cell : TaggedCell). newline_drafts cell.stamp (names_on cell.state)) o) []

    none : (o : Option TaggedCell) → characters_in_all (tags o) ≡ 0
    none None = refl
    none (Some cell) = newline_none cell.stamp (names_on cell.state)

-- TEXTS

inserts_characters : (inserts site count : ℕ) (after : Stamp) (names : List Word) (text : List ℕ) → IsCut inserts MOST_CHARACTERS (length text)
    → characters_in_all (inserts_of site count after names (first_parts inserts MOST_CHARACTERS text)) ≡ length text
inserts_characters zero site count after names text c = let e = c.enough in omega (arith, e)
inserts_characters (suc inserts) site count after names text c =
    let part = take MOST_CHARACTERS text in
    let others = drop MOST_CHARACTERS text in
    let further = further_tags names in
    let last = count + length part in
    let l = length-take MOST_CHARACTERS text in
    let m = length-drop MOST_CHARACTERS text in
    let more : IsCut inserts MOST_CHARACTERS (length others) = subst (IsCut inserts MOST_CHARACTERS) (sym m) (cut_more inserts MOST_CHARACTERS (length text) c) in
    let tags = tags_put_on (record { site = site; first = count + 1; last = last }) further in
    let rest = inserts_of site (last + length further) (record { count = last; site = site }) names (first_parts inserts MOST_CHARACTERS others) in
    let all : characters_in_all (tags ++ rest) ≡ length others =
    omega (
      arith,
      characters_append tags rest,
      tags_on_none (record { site = site; first = count + 1; last = last }) further,
      inserts_characters inserts site (last + length further) (record { count = last; site = site }) names others more,
    ) in
    omega (arith, all, l, m)

pub text_characters : (site count : ℕ) (after : Stamp) (names : List Word) (text : List ℕ) → characters_in_all (text_drafts MOST_CHARACTERS site count after names text) ≡ length text
text_characters site count after names text = inserts_characters (inserts_for (length text)) site count after names text (cut MOST_CHARACTERS (length text) (omega arith))

pub cells_length : (inserts site count : ℕ) (names : List Word) (text : List ℕ) → length text ≤ inserts * MOST_CHARACTERS → length (cells_of_inserts inserts site count names text) ≡ length text
cells_length zero site count names text h = omega (arith, h)
cells_length (suc inserts) site count names text h =
    let part = take MOST_CHARACTERS text in
    let others = drop MOST_CHARACTERS text in
    let last = count + length part in
    let l = length-take MOST_CHARACTERS text in
    let m = length-drop MOST_CHARACTERS text in
    let few : length others ≤ inserts * MOST_CHARACTERS = omega (arith, m, h, suc-mul inserts MOST_CHARACTERS) in
    let rest = cells_of_inserts inserts site (last + length (further_tags names)) names others in
    let new = cells_from (count + 1) site (new_state site last names) part in
    omega (arith, length-append new rest, length_from (count + 1) site (new_state site last names) part, cells_length inserts site (last + length (further_tags names)) names others few, l, m)

more_length : (site : ℕ) (so_far next : Insertion) (names : List Word) (text : List ℕ) → IsMore site so_far next names text → length next.cells ≡ length so_far.cells + length text
more_length site so_far next names text m =
    let few = (cut MOST_CHARACTERS (length text) (omega arith)).enough in
    ap length m.cells
    ∙ length-append so_far.cells (tagged_cells site so_far.count names text)
    ∙ ap (λ n. length so_far.cells + n) (cells_length (inserts_for (length text)) site so_far.count names text few)

pub listed_length : (site : ℕ) (tags : List Word) (text : List ℕ) (so_far : Insertion) → length (with_listed site tags text so_far).cells ≡ length so_far.cells + length text
listed_length site tags text so_far = more_length site so_far (with_listed site tags text so_far) (shared_names tags) text (listed_more site so_far tags text)

pub unlisted_length : (site : ℕ) (left right : Option TaggedCell) (text : List ℕ) (so_far : Insertion) → length (with_unlisted site left right text so_far).cells ≡ length so_far.cells + length text
unlisted_length site left right text so_far = more_length site so_far (with_unlisted site left right text so_far) (tags_between left right) text (unlisted_more site left right so_far text)

-- SEVERAL PIECES

pieces_length : (pieces : List Piece) (site : ℕ) (after : Stamp) (so_far : Insertion)
    → length so_far.cells + characters_in_all (pieces_drafts MOST_CHARACTERS site after pieces so_far) ≡ length (with_pieces site pieces so_far).cells
pieces_length [] site after so_far = omega arith
pieces_length (piece ∷ pieces) site after so_far =
    let names = shared_names piece.tags in
    let text = chars piece.text in
    let next = with_listed site piece.tags text so_far in
    let drafts = text_drafts MOST_CHARACTERS site so_far.count (last_element after so_far.cells) names text in
    let more = pieces_drafts MOST_CHARACTERS site after pieces next in
    let a = characters_append drafts more in
    let t = text_characters site so_far.count (last_element after so_far.cells) names text in
    let m = more_length site so_far next names text (listed_more site so_far piece.tags text) in
    let r = pieces_length pieces site after next in
    omega (arith, a, t, m, r)

pub insertion_length : (site : ℕ) (after : Stamp) (left right : Option TaggedCell) (pieces : List Piece) (rest : Word) (start : Insertion)
    → length start.cells + characters_in_all (insertion_drafts MOST_CHARACTERS site after left right pieces rest start) ≡ length (insertion_of site left right pieces rest start).cells
insertion_length site after left right pieces rest start =
    let listed = with_pieces site pieces start in
    let neighbour = on_left left listed.cells in
    let names = tags_between neighbour right in
    let text = chars rest in
    let drafts = text_drafts MOST_CHARACTERS site listed.count (last_element after listed.cells) names text in
    let a = characters_append (pieces_drafts MOST_CHARACTERS site after pieces start) drafts in
    let t = text_characters site listed.count (last_element after listed.cells) names text in
    let m = more_length site listed (insertion_of site left right pieces rest start) names text (unlisted_more site neighbour right listed text) in
    let r = pieces_length pieces site after start in
    omega (arith, a, t, m, r)
