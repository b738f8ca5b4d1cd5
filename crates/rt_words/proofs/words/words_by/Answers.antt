use Rattle.std.proofs.Common.{◌≡◌, ◌+◌, ◌∙◌, ℕ, ◌<◌, ◌++◌, ◌∷◌, [], length, drop, take, String, string_bytes, subst, sym, ap, refl, arith, List, false, get_or}
use Rattle.std.specs.declared.alloc.Global.{Global}
use Rattle.std.specs.List.{prefix_len}
use Rattle.std.proofs.Math.ListN.{set, length-set}
use Rattle.std.proofs.lemmas.Result.{err_from_is_err_and}
use Rattle.std.proofs.lemmas.List.{map_push}
use Rattle.std.proofs.lemmas.Grind.{take-set_at}
use Rattle.rt_stamps.specs.Words.{Word, as_words}
use Rattle.rt_words.specs.FirstWord.{IsFirstWord, HasNoFirstWord}
use Rattle.rt_words.specs.Separators.{separates}
use Rattle.rt_words.proofs.Separating.{separating}
use Rattle.rt_words.proofs.WordSteps.{Reading, begun, next, counted, blanks_within, word_within, bad_word, dark_drop, reads_end, word_some}
use Rattle.rt_words.proofs.words.words_by.Goals as goal

-- the words before a place, and one that is put there
put : (old new : List (String Global)) (place : ℕ) (word : String Global) → place < length new → take place new ≡ take place old
    → as_words (take (place + 1) (set new place word)) ≡ as_words (take place old) ++ string_bytes word ∷ []
put old new place word l e =
    ap as_words (take-set_at new place (place + 1) word refl l ∙ ap (λ (v : List (String Global)). v ++ word ∷ []) e)
    ∙ map_push (λ w. string_bytes w) (take place old) word

pub loop-start-init : goal.loop-start-init
loop-start-init c = record {
  reading = begun (separates c.args.separators) (separating c.args.separators) c.args.text.now c.gap_len-start.result c.utf8.text (c.gap_len-start.ensures ∙ ap (prefix_len (separates c.args.separators)) c.as_bytes-bytes.ensures.value);
  within = omega arith;
}

pub first_word-requires-clause-dark : goal.first_word-requires-clause-dark
first_word-requires-clause-dark c =
    let i : ℕ = c.loop-start.start in
    let l : i < length c.args.text.now = omega (arith, c.loop-start-test.true, c.as_bytes-bytes.ensures.len) in
    let rest : c.range_from.result.now ≡ drop i c.args.text.now = c.range_from.ensures.value in
    subst (λ (v : List ℕ). separates c.args.separators (get_or v 0 0) ≡ false) (sym rest) (dark_drop (separates c.args.separators) (separating c.args.separators) c.args.text.now i (c.loop-start.invariant.reading.begins l))

pub returns-in_err-end-clause-quoting : goal.returns-in_err-end-clause-quoting
returns-in_err-end-clause-quoting c e =
    let i : ℕ = c.loop-start.start in
    let l : i < length c.args.text.now = omega (arith, c.loop-start-test.true, c.as_bytes-bytes.ensures.len) in
    let p = err_from_is_err_and c.from_residual-in_err-end.result c.from_residual-in_err-end.ensures.1 in
    let rest : c.range_from.result.now ≡ drop i c.args.text.now = c.range_from.ensures.value in
    bad_word (separates c.args.separators) (separating c.args.separators) c.args.text.now i _ l c.loop-start.invariant.reading (subst (HasNoFirstWord (separates c.args.separators)) rest (c.in_err-end.ensures.quoting (cc)))

pub overflow_add-start : goal.overflow_add-start
overflow_add-start c =
    let i : ℕ = c.loop-start.start in
    let len : ℕ = c.in_ok-end.field-0 in
    let rest : c.range_from.result.now ≡ drop i c.args.text.now = c.range_from.ensures.value in
    let f : IsFirstWord (separates c.args.separators) (drop i c.args.text.now) len (string_bytes c.first_word.new.word) = subst (λ (v : List ℕ). IsFirstWord (separates c.args.separators) v len (string_bytes c.first_word.new.word)) rest c.in_ok-end.ensures.ok in
    let j = counted (separates c.args.separators) _ _ (i + len) _ c.as_bytes-bytes.ensures.value c.gap_len.ensures in
    omega (arith, j, word_within (separates c.args.separators) (separating c.args.separators) c.args.text.now i _ _ c.loop-start.invariant.reading.boundary.0 f, blanks_within (separates c.args.separators) (separating c.args.separators) c.args.text.now (i + len), c.as_bytes-bytes.ensures.len)

pub loop-start-preserved : goal.loop-start-preserved
loop-start-preserved c =
    let i : ℕ = c.loop-start.start in
    let len : ℕ = c.in_ok-end.field-0 in
    let l : i < length c.args.text.now = omega (arith, c.loop-start-test.true, c.as_bytes-bytes.ensures.len) in
    let rest : c.range_from.result.now ≡ drop i c.args.text.now = c.range_from.ensures.value in
    let f : IsFirstWord (separates c.args.separators) (drop i c.args.text.now) len (string_bytes c.first_word.new.word) = subst (λ (v : List ℕ). IsFirstWord (separates c.args.separators) v len (string_bytes c.first_word.new.word)) rest c.in_ok-end.ensures.ok in
    let j = counted (separates c.args.separators) _ _ (i + len) _ c.as_bytes-bytes.ensures.value c.gap_len.ensures in
    let at : c.loop-start.count < length c.make_blank.new.words.items = c.in_ok-make_blank.ensures.place in
    record {
      reading = subst (λ (v : List Word). Reading (separates c.args.separators) c.args.text.now (i + len + c.gap_len.result) v)
          (sym (put c.loop-start.words.items c.make_blank.new.words.items c.loop-start.count c.first_word.new.word at c.in_ok-make_blank.ensures.before))
          (next (separates c.args.separators) (separating c.args.separators) c.args.text.now i len c.gap_len.result _ _ c.utf8.text l f j c.loop-start.invariant.reading);
      within = omega (arith, at, length-set c.make_blank.new.words.items c.loop-start.count c.first_word.new.word);
    }

pub loop-start-smaller : goal.loop-start-smaller
loop-start-smaller c =
    let some : 0 < c.in_ok-end.field-0 = word_some (separates c.args.separators) (separating c.args.separators) c.range_from.result.now c.in_ok-end.field-0 (string_bytes c.first_word.new.word) c.in_ok-end.ensures.ok in
    omega (arith, some, c.loop-start-test.true)

pub returns-clause-ok : goal.returns-clause-ok
returns-clause-ok c = reads_end (separates c.args.separators) (separating c.args.separators) c.args.text.now c.loop-start.start _ (omega (arith, c.loop-start-test.false, c.as_bytes-bytes.ensures.len)) c.loop-start.invariant.reading.reads_on
