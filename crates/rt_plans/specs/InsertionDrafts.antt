-- The operations that an insertion makes.
use Rattle.std.specs.Prelude.{ℕ, ◌+◌, true, List, [], ◌∷◌, ◌++◌, length, map, take, Option, None, option_map, unwrap_or}
use Rattle.std.specs.Str.{chars}
use Rattle.rt_stamps.specs.declared.limits.TheConstants.{MOST_TAGS}
use Rattle.rt_stamps.specs.declared.stamp.Span.{Span}
use Rattle.rt_stamps.specs.declared.stamp.Stamp.{Stamp}
use Rattle.rt_stamps.specs.Words.{Word}
use Rattle.rt_ops.specs.Operations.{Body, Insert, Tag}
use Rattle.rt_store.specs.Shown.{TaggedCell}
use Rattle.rt_plans.specs.Insertions.{Insertion, Piece, further_tags, on_left, shared_names, tags_between, with_listed, with_pieces}
use Rattle.rt_plans.specs.NamedSpans.{parts_of}

-- each tag of a list is put on the characters of a span by an operation of its own
abbrev pub tags_put_on : Span → List Word → List Body
tags_put_on span names = map (λ name. Tag true name (span ∷ [])) names

-- Parts of a text, each an Insert whose counts come after the given one. It goes after an element, each further one after
-- the last character of the one before, and lists the first MOST_TAGS tags. Behind it comes a Tag for each further tag, on
-- its characters, before the next Insert.
abbrev pub inserts_of : ℕ → ℕ → Stamp → List Word → List (List ℕ) → List Body
inserts_of site count after names [] = []
inserts_of site count after names (part ∷ parts) =
    let last = count + length part in
    Insert after (take MOST_TAGS names) part
    ∷ (tags_put_on (record { site = site; first = count + 1; last = last }) (further_tags names)
    ++ inserts_of site (last + length (further_tags names)) (record { count = last; site = site }) names parts)

-- a text with tags, whose Inserts have at most so many characters; no text makes none
abbrev pub text_drafts : ℕ → ℕ → ℕ → Stamp → List Word → List ℕ → List Body
text_drafts most site count after names text = inserts_of site count after names (parts_of most text)

-- SEVERAL PIECES

-- the element behind which further text goes: the last of the new cells, and where there are none yet the given one
abbrev pub last_element : Stamp → List TaggedCell → Stamp
last_element after new = unwrap_or (option_map (λ cell. cell.stamp) (on_left None new)) after

-- pieces with lists, each behind the text of the one before it
abbrev pub pieces_drafts : ℕ → ℕ → Stamp → List Piece → Insertion → List Body
pieces_drafts most site after [] so_far = []
pieces_drafts most site after (piece ∷ pieces) so_far =
    text_drafts most site so_far.count (last_element after so_far.cells) (shared_names piece.tags) (chars piece.text)
    ++ pieces_drafts most site after pieces (with_listed site piece.tags (chars piece.text) so_far)

-- Several pieces with lists, and then characters without one, behind an element; `left` and `right` are the neighbours of
-- the place.
abbrev pub insertion_drafts : ℕ → ℕ → Stamp → Option TaggedCell → Option TaggedCell → List Piece → Word → Insertion → List Body
insertion_drafts most site after left right pieces rest start =
    let listed = with_pieces site pieces start in
    pieces_drafts most site after pieces start
    ++ text_drafts most site listed.count (last_element after listed.cells) (tags_between (on_left left listed.cells) right) (chars rest)
