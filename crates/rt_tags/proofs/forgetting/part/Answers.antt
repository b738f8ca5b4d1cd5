use Rattle.std.proofs.Common.{◌∙◌, ◌+◌, ◌<◌, ◌++◌, ◌∷◌, [], ap, arith, drop, get_or, length, subst, sym, take}
use Rattle.std.proofs.lemmas.Grind.{drop_more_same}
use Rattle.rt_tags.specs.Seen.{names_of}
use Rattle.rt_tags.specs.Tags.{HaveNoRepeats, is_listed}
use Rattle.rt_tags.proofs.Marked.{gone_here, kept_here, read_behind, stands}
use Rattle.rt_tags.proofs.Sets.{len_names}
use Rattle.rt_tags.proofs.forgetting.part.Goals.{then-not-marks-place, else-not-marks-place}
use Rattle.rt_tags.proofs.forgetting.part.Goals as goal

pub loop-place-preserved : goal.loop-place-preserved
loop-place-preserved c =
    let names = names_of c.args.names.now in
    let marks = c.args.marks.now in
    let place = c.loop-place.place in
    let now = names_of c.loop-place.names in
    let held = c.loop-place.invariant in
    let within : place < length names = omega (arith, c.loop-place-test.true, c.requires.listed.within) in
    let there : place < length now = omega (arith, within, held.len) in
    let read = read_behind now names place held.behind in
    let further = drop_more_same now names place held.behind in
    elim c.if-not-marks-place.branch [
      | then-not-marks-place w ↦ record {
        kept = omega (arith, w.kept-is, held.kept);
        len = omega (arith, ap (λ v. length (names_of v)) w.names-is, w.bring.ensures.len, len_names w.bring.new.names.keys, len_names c.loop-place.names.keys, held.len);
        differ = subst (λ v. HaveNoRepeats (names_of v)) (sym w.names-is) w.bring.ensures.no_repeats;
        front = λ test e.
            (λ j. take (w.kept-is j) (names_of (w.names-is j)))
            ∙ w.bring.ensures.front (get_or now place []) (stands now place held.differ there)
            ∙ ap (λ v. take c.loop-place.kept now ++ v ∷ []) read
            ∙ kept_here names marks test place within e (take c.loop-place.kept now) w.if-not-marks-place.true (held.front test e);
        behind = ap (λ v. drop (place + 1) (names_of v)) w.names-is ∙ w.bring.ensures.behind ∙ further;
        same = λ name. ap (λ v. is_listed name (names_of v)) w.names-is ∙ w.bring.ensures.same name ∙ held.same name;
      }
      | else-not-marks-place w ↦ record {
        kept = omega (arith, w.kept-is, held.kept);
        len = ap (λ v. length (names_of v)) w.names-is ∙ held.len;
        differ = subst (λ v. HaveNoRepeats (names_of v)) (sym w.names-is) held.differ;
        front = λ test e.
            (λ j. take (w.kept-is j) (names_of (w.names-is j)))
            ∙ gone_here names marks test place within e (take c.loop-place.kept now) w.if-not-marks-place.false (held.front test e);
        behind = ap (λ v. drop (place + 1) (names_of v)) w.names-is ∙ further;
        same = λ name. ap (λ v. is_listed name (names_of v)) w.names-is ∙ held.same name;
      }
    ]
