-- The operations that tag edits make.
use Rattle.std.specs.Prelude.{ℕ, Bool, true, false, List, [], ◌∷◌, ◌++◌, map, if◌then◌else◌}
use Rattle.std.specs.Str.{bytes_eq}
use Rattle.rt_stamps.specs.declared.stamp.Stamp.{Stamp}
use Rattle.rt_stamps.specs.Words.{Word}
use Rattle.rt_ops.specs.Operations.{Body, Tag}
use Rattle.rt_store.specs.Shown.{TaggedCell}
use Rattle.rt_tags.specs.Tags.{sel}
use Rattle.rt_plans.specs.DocValue.{DocValue}
use Rattle.rt_stamps.specs.Spans.{span_of}
use Rattle.rt_plans.specs.NamedSpans.{parts_of, spans_in}
use Rattle.rt_plans.specs.Removals.{cells_at}
use Rattle.rt_plans.specs.TagWrites.{changed_stamps, with_tag_at, without_tag}

-- One Tag with the spans of some characters, and where it would have more than so many spans, one for each part of these.
-- Where there are no characters there is none.
abbrev pub tag_drafts : ℕ → Bool → Word → List Stamp → List Body
tag_drafts most on name stamps = map (λ spans. Tag on name spans) (parts_of most (spans_in stamps))

-- A tag is put on those of the characters at some places that haven't it, and taken off those that have it.
abbrev pub tag_drafts_at : ℕ → (ℕ → Bool) → Bool → Word → List TaggedCell → List Body
tag_drafts_at most places on name cells = tag_drafts most on name (changed_stamps name on (cells_at places 0 cells))

-- several tags, each where the ones before it have left it to be put on or taken off
abbrev pub tags_drafts_at : ℕ → DocValue → (ℕ → Bool) → Bool → List Word → List Body
tags_drafts_at most doc places on [] = []
tags_drafts_at most doc places on (name ∷ names) =
    tag_drafts_at most places on name doc.cells ++ tags_drafts_at most (with_tag_at doc places on name) places on names

-- tags that are deleted are taken off the whole text; `sel` makes no operation
abbrev pub tag_deletion_drafts : ℕ → DocValue → List Word → List Body
tag_deletion_drafts most doc [] = []
tag_deletion_drafts most doc (name ∷ names) =
    (if bytes_eq name sel then [] else tag_drafts_at most (λ _. true) false name doc.cells) ++ tag_deletion_drafts most (without_tag doc name) names

-- a newline loses tags: one Tag for each of them, by their bytes where the names are
abbrev pub newline_drafts : Stamp → List Word → List Body
newline_drafts stamp names = map (λ name. Tag false name (span_of stamp ∷ [])) names
