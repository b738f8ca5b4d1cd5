use Rattle.std.proofs.Common.{◌≡◌, ◌≢◌, ◌∙◌, ◌+◌, ◌<◌, ◌++◌, ℕ, List, ap, sym, subst, length, get_or, string_bytes, arith}
use Rattle.std.proofs.lemmas.List.{get_or_read}
use Rattle.rt_words.specs.FirstWord.{is_plain}
use Rattle.rt_words.proofs.Quotes.{QuotedTo, quote_opened, plain_within, plain_boundary, run_read, quote_escape, quote_closed, unclosed_end, unclosed_backslash, unclosed_letter}
use Rattle.rt_words.proofs.WordSteps.{counted}
use Rattle.rt_words.proofs.words.quoted_word.Goals as goal
use Rattle.rt_words.proofs.words.quoted_word.Goals.{else-end-bytes-via-then-end-bytes+else-bytes-end-eq34, else-end-bytes-via-else-end-bytes}

-- a character of the bytes, in the text itself
char_is : (bytes text : List ℕ) (i : ℕ) → bytes ≡ text → get_or text i 0 ≡ get_or bytes i 0
char_is bytes text i e = ap (λ (v : List ℕ). get_or v i 0) (sym e)

pub loop-start-init : goal.loop-start-init
loop-start-init c = rw c.requires.blank (quote_opened c.args.text.now c.utf8.text c.requires.text)

pub overflow_add-end : goal.overflow_add-end
overflow_add-end c =
    let k = counted is_plain _ _ c.loop-start.start _ c.as_bytes-bytes.ensures.value c.plain_len.ensures in
    omega (arith, k, plain_within c.args.text.now c.loop-start.start c.loop-start.invariant.boundary.0, c.as_bytes-bytes.ensures.len)

pub range-requires-clause-end_boundary : goal.range-requires-clause-end_boundary
range-requires-clause-end_boundary c =
    let k = counted is_plain _ _ c.loop-start.start _ c.as_bytes-bytes.ensures.value c.plain_len.ensures in
    rw k (plain_boundary c.args.text.now c.loop-start.start c.loop-start.invariant.boundary.0)

pub returns-then-bytes-end-eq34-clause-ok : goal.returns-then-bytes-end-eq34-clause-ok
returns-then-bytes-end-eq34-clause-ok c =
    let k = counted is_plain _ _ c.loop-start.start _ c.as_bytes-bytes.ensures.value c.plain_len.ensures in
    let s = run_read _ _ _ (string_bytes c.loop-start.word) c.range.result.now (string_bytes c.push_str.new.self) k c.range.ensures.value c.in_ok-push_str.ensures.bytes c.loop-start.invariant in
    let end : ℕ = c.loop-start.start + c.plain_len.result in
    quote_closed c.args.text.now end _ (omega (arith, c.if-end-bytes.true, c.as_bytes-bytes.ensures.len)) (char_is _ _ end c.as_bytes-bytes.ensures.value ∙ c.if-bytes-end-eq34.true) s.read

pub returns-in_default-clause-quoting : goal.returns-in_default-clause-quoting
returns-in_default-clause-quoting c _ =
    let k = counted is_plain _ _ c.loop-start.start _ c.as_bytes-bytes.ensures.value c.plain_len.ensures in
    let s = run_read _ _ _ (string_bytes c.loop-start.word) c.range.result.now (string_bytes c.push_str.new.self) k c.range.ensures.value c.in_ok-push_str.ensures.bytes c.loop-start.invariant in
    let end : ℕ = c.loop-start.start + c.plain_len.result in
    let d : end < length c.args.text.now → get_or c.args.text.now end 0 ≢ 34 = λ l q. elim c.else-end-bytes.branch [
      | else-end-bytes-via-then-end-bytes+else-bytes-end-eq34 w ↦ w.if-bytes-end-eq34.false (sym (char_is _ _ end c.as_bytes-bytes.ensures.value) ∙ q)
      | else-end-bytes-via-else-end-bytes w ↦ omega (arith, w.if-end-bytes.false, c.as_bytes-bytes.ensures.len)
    ] in
    unclosed_backslash c.args.text.now end _ (omega (arith, c.in_default.ensures.lookup.3, c.as_bytes-bytes.ensures.len)) d s

pub returns-in_err-escaped-clause-quoting : goal.returns-in_err-escaped-clause-quoting
returns-in_err-escaped-clause-quoting c _ =
    let k = counted is_plain _ _ c.loop-start.start _ c.as_bytes-bytes.ensures.value c.plain_len.ensures in
    let s = run_read _ _ _ (string_bytes c.loop-start.word) c.range.result.now (string_bytes c.push_str.new.self) k c.range.ensures.value c.in_ok-push_str.ensures.bytes c.loop-start.invariant in
    let end : ℕ = c.loop-start.start + c.plain_len.result in
    let more : end + 1 < length c.args.text.now = omega (arith, c.in-Some.ensures.lookup.3.0, c.as_bytes-bytes.ensures.len) in
    let g : get_or c.args.text.now (end + 1) 0 ≡ c.in-Some.letter.now =
    char_is _ _ (end + 1) c.as_bytes-bytes.ensures.value ∙ sym (get_or_read c.as_bytes-bytes.result.now (end + 1) c.in-Some.letter.now c.in-Some.ensures.lookup.3.0 c.in-Some.ensures.lookup.1 0) in
    let d : get_or c.args.text.now end 0 ≢ 34 = λ q. elim c.else-end-bytes.branch [
      | else-end-bytes-via-then-end-bytes+else-bytes-end-eq34 w ↦ w.if-bytes-end-eq34.false (sym (char_is _ _ end c.as_bytes-bytes.ensures.value) ∙ q)
      | else-end-bytes-via-else-end-bytes w ↦ omega (arith, more, w.if-end-bytes.false, c.as_bytes-bytes.ensures.len)
    ] in
    unclosed_letter c.args.text.now end c.in-Some.letter.now _ more g c.in_err-escaped.ensures.1 d s

pub loop-start-preserved : goal.loop-start-preserved
loop-start-preserved c =
    let k = counted is_plain _ _ c.loop-start.start _ c.as_bytes-bytes.ensures.value c.plain_len.ensures in
    let s = run_read _ _ _ (string_bytes c.loop-start.word) c.range.result.now (string_bytes c.push_str.new.self) k c.range.ensures.value c.in_ok-push_str.ensures.bytes c.loop-start.invariant in
    let end : ℕ = c.loop-start.start + c.plain_len.result in
    let more : end + 1 < length c.args.text.now = omega (arith, c.in-Some.ensures.lookup.3.0, c.as_bytes-bytes.ensures.len) in
    let g : get_or c.args.text.now (end + 1) 0 ≡ c.in-Some.letter.now =
    char_is _ _ (end + 1) c.as_bytes-bytes.ensures.value ∙ sym (get_or_read c.as_bytes-bytes.result.now (end + 1) c.in-Some.letter.now c.in-Some.ensures.lookup.3.0 c.in-Some.ensures.lookup.1 0) in
    let d : get_or c.args.text.now end 0 ≢ 34 = λ q. elim c.else-end-bytes.branch [
      | else-end-bytes-via-then-end-bytes+else-bytes-end-eq34 w ↦ w.if-bytes-end-eq34.false (sym (char_is _ _ end c.as_bytes-bytes.ensures.value) ∙ q)
      | else-end-bytes-via-else-end-bytes w ↦ omega (arith, more, w.if-end-bytes.false, c.as_bytes-bytes.ensures.len)
    ] in
    let pushed = c.in_ok-push.ensures.bytes ∙ ap (λ (u : List ℕ). string_bytes c.push_str.new.self ++ u) (c.in_ok-push.ensures.ascii c.in_ok-escaped.ensures.0) in
    subst (λ (u : List ℕ). QuotedTo c.args.text.now (end + 2) u) (sym pushed)
    (quote_escape c.args.text.now end c.in-Some.letter.now c.in_ok-escaped.field-0 (string_bytes c.push_str.new.self) c.utf8.text more g c.in_ok-escaped.ensures.1 d s)

pub returns-clause-quoting : goal.returns-clause-quoting
returns-clause-quoting c _ = unclosed_end c.args.text.now c.loop-start.start _ (omega (arith, c.loop-start-test.false, c.as_bytes-bytes.ensures.len)) c.loop-start.invariant
