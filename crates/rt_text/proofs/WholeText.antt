-- All that a widget shows, and all of a text.
use Rattle.std.proofs.Common.{◌≡◌, ◌∙◌, ◌-◌, ℕ, List, Ok, ap, arith, drop, length, map, take}
use Rattle.std.proofs.Math.Seq.{take-length}
use Rattle.std.specs.Prelude.{codes, encode_utf8_all}
use Rattle.rt_stamps.specs.Places.{EndsWithNewline, place_at}
use Rattle.rt_index.specs.Index.{index_of}
use Rattle.rt_lines.specs.Limits.{no_limits}
use Rattle.rt_lines.specs.Stretches.{part, stretch_of}
use Rattle.rt_lines.proofs.Lines.{lines_some}
use Rattle.rt_lines.proofs.Whole.{shown_ends, stretch_whole}
use Rattle.rt_store.specs.Cells.{EndsFinal, text_of, visible_of}
use Rattle.rt_text.specs.Commands.{got}
use Rattle.rt_text.specs.Ranges.{text_between}
use Rattle.rt_text.specs.Widgets.{ViewValue, length_shown, text_shown, widget_of}

-- all of a list from its beginning on
all_of : {A : Type 0} (xs : List A) → take (length xs - 0) (drop 0 xs) ≡ xs
all_of xs =
    let size : length xs - 0 ≡ length xs = omega arith in
    ap (λ n. take n xs) size ∙ take-length xs

-- the first place of a text
first_place : (text : List ℕ) → EndsWithNewline text → place_at text (record { line = 1; character = 0 }) ≡ 0
first_place text h = grind (arith, lines_some text h)

pub at_first : (view : ViewValue) → EndsWithNewline (text_shown view) → index_of (widget_of view) (codes "1.0") ≡ Ok 0
at_first view h = ap (λ place. Ok place) (first_place (text_shown view) h)

pub got_shown : (view : ViewValue) → EndsWithNewline (text_shown view) → got view (codes "1.0") (codes "end") ≡ Ok (encode_utf8_all (text_shown view))
got_shown view h =
    (λ i. Ok (encode_utf8_all (text_between (text_shown view) (first_place (text_shown view) h i) (length_shown view))))
    ∙ ap (λ text. Ok (encode_utf8_all text)) (all_of (text_shown view))

-- without limits all visible characters are shown
all_shown : (view : ViewValue) → EndsFinal view.doc.cells → view.own.limits ≡ no_limits → text_shown view ≡ text_of view.doc.cells
all_shown view ends none =
    ap (λ limits. map (λ cell. cell.ch) (part (stretch_of view.doc.cells limits) (visible_of view.doc.cells))) none
    ∙ ap (λ stretch. map (λ cell. cell.ch) (part stretch (visible_of view.doc.cells))) (stretch_whole view.doc.cells ends)
    ∙ ap (λ cells. map (λ cell. cell.ch) cells) (all_of (visible_of view.doc.cells))

pub got_whole : (view : ViewValue) → EndsFinal view.doc.cells → view.own.limits ≡ no_limits
    → got view (codes "1.0") (codes "end") ≡ Ok (encode_utf8_all (text_of view.doc.cells))
got_whole view ends none =
    got_shown view (shown_ends view.doc.cells view.own.limits ends)
    ∙ ap (λ text. Ok (encode_utf8_all text)) (all_shown view ends none)
