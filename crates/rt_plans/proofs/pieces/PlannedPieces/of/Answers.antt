use Rattle.std.proofs.Common.{ℕ, ◌∙◌, ◌++◌, ◌<◌, ◌≤◌, [], ap, arith, length, map, subst, sym, take}
use Rattle.std.specs.Str.{chars}
use Rattle.std.proofs.lemmas.List.{take_all}
use Rattle.std.proofs.lemmas.Result.{err_from_is_err_and}
use Rattle.rt_stamps.specs.declared.limits.TheConstants.{GREATEST_COUNT, MOST_CHARACTERS}
use Rattle.rt_ops.specs.Edits.{body_of}
use Rattle.rt_plans.specs.InsertionDrafts.{pieces_drafts, text_drafts}
use Rattle.rt_plans.specs.Insertions.{Insertion, shared_names, with_pieces}
use Rattle.rt_plans.specs.PlannedPieces.{AreSoFar}
use Rattle.rt_plans.proofs.PieceLaws.{drafts_further, none_so_far, pieces_more, spent_early}
use Rattle.rt_plans.proofs.PlanLaws.{spent}
use Rattle.rt_plans.proofs.pieces.PlannedPieces.of.Goals as goal

pub loop-piece-init : goal.loop-piece-init
loop-piece-init c =
    let e = c.new-all.ensures in
    record {
      drafts = λ sel others tags. ap (map body_of) e.drafts;
      so_far = λ sel others tags. none_so_far c.new-all.result c.args.after sel others tags c.args.count e.characters e.count e.behind e.selected e.names e.last;
      within = subst (λ (n : ℕ). n ≤ GREATEST_COUNT) (sym e.count) c.requires;
      few = omega (arith, e.characters);
    }

pub add_listed-requires : goal.add_listed-requires
add_listed-requires c = record { count = c.loop-piece.invariant.within; characters = c.loop-piece.invariant.few }

pub returns-in_err-add_listed : goal.returns-in_err-add_listed
returns-in_err-add_listed c =
    let p = err_from_is_err_and c.from_residual.result c.from_residual.ensures.1 in
    let site = c.args.site.number in
    let pieces = c.args.pieces.now in
    let i = c.loop-piece.piece-index in
    let piece = c.piece-item.result in
    let within : i < length pieces = omega arith in
    rw (p.1, p.2) (record {
      drafts = tt;
      so_far = tt;
      within = tt;
      few = tt;
      err = spent
          (λ h sel others tags. spent_early site pieces i piece (record { cells = []; count = c.args.count; sel = sel; others = others; tags = tags }) c.loop-piece.all.texts.count GREATEST_COUNT within c.piece-item.is
          (c.loop-piece.invariant.so_far sel others tags).count h)
          c.in_err-add_listed.ensures.err;
    })

pub loop-piece-preserved : goal.loop-piece-preserved
loop-piece-preserved c =
    let site = c.args.site.number in
    let after = c.args.after in
    let pieces = c.args.pieces.now in
    let i = c.loop-piece.piece-index in
    let piece = c.piece-item.result in
    let within : i < length pieces = omega arith in
    let e = c.in_ok-add_listed.ensures in
    let before = c.loop-piece.all in
    record {
      drafts = λ sel others tags.
          let start : Insertion = record { cells = []; count = c.args.count; sel = sel; others = others; tags = tags } in
          let h = c.loop-piece.invariant.so_far sel others tags in
          e.drafts
          ∙ (λ j. c.loop-piece.invariant.drafts sel others tags j ++ text_drafts MOST_CHARACTERS site (h.count j) (h.element j) (shared_names piece.tags) (chars piece.text))
          ∙ sym (drafts_further site after pieces i piece start within c.piece-item.is);
      so_far = λ sel others tags.
          let start : Insertion = record { cells = []; count = c.args.count; sel = sel; others = others; tags = tags } in
          subst (AreSoFar after sel tags c.add_listed.new.self) (sym (pieces_more site pieces i piece start within c.piece-item.is))
          (e.so_far after sel tags (with_pieces site (take i pieces) start) (c.loop-piece.invariant.so_far sel others tags));
      within = e.within;
      few = e.few;
    }

pub returns : goal.returns
returns c =
    let site = c.args.site.number in
    let after = c.args.after in
    let whole = take_all c.loop-piece.piece-index c.args.pieces.now c.loop-piece-test.false in
    record {
      drafts = λ sel others tags.
          let start : Insertion = record { cells = []; count = c.args.count; sel = sel; others = others; tags = tags } in
          c.loop-piece.invariant.drafts sel others tags ∙ ap (λ pieces. pieces_drafts MOST_CHARACTERS site after pieces start) whole;
      so_far = λ sel others tags.
          let start : Insertion = record { cells = []; count = c.args.count; sel = sel; others = others; tags = tags } in
          subst (λ pieces. AreSoFar after sel tags c.loop-piece.all (with_pieces site pieces start)) whole (c.loop-piece.invariant.so_far sel others tags);
      within = c.loop-piece.invariant.within;
      few = c.loop-piece.invariant.few;
      err = tt;
    }
