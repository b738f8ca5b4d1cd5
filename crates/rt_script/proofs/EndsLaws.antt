-- How a run goes on, and how it ends.
use Rattle.std.proofs.Common.{◌≡◌, ◌≢◌, ◌⊎◌, inl, inr, ℕ, ◌+◌, ◌-◌, ◌<◌, ◌≤◌, length, take, List, [], ◌∷◌, ◌++◌, refl, sym, ◌∙◌, ap, Option, Some, None, Result, Ok, Err, IfErr, append_assoc, append-nil, add-zero, arith}
use Rattle.std.specs.Result.{result_err}
use Rattle.std.specs.Io.KnownBytes.{Consumes, Keeps, IsAtEnd}
use Rattle.std.proofs.lemmas.List.{length-take, length-append}
use Rattle.rt_stamps.specs.declared.fault.Fault.{Fault}
use Rattle.rt_stamps.specs.declared.fault.Fault.TheVariants.{NoMemory, ReadFault, WriteFault}
use Rattle.rt_stamps.specs.declared.limits.Bounds.{Bounds}
use Rattle.rt_stamps.specs.declared.limits.TheConstants.{PIECE_BYTES}
use Rattle.rt_script.specs.Lines.{split_lines, complete_of, rest_of, rest_line, lines_of}
use Rattle.rt_stamps.specs.Words.{Word}
use Rattle.rt_stamps.specs.Streams.{Stream}
use Rattle.rt_script.specs.declared.answer.Answer.{Answer}
use Rattle.rt_ops.specs.Intake.{EndIsUnseen, GaveSome, IsReadUp}
use Rattle.rt_script.specs.Run.{Point, Ran, RanFront, RanPast, RanUnwritten, StopsInLast, Ends}
use Rattle.rt_script.specs.Pieces.{kept_bytes, RanLines}
use Rattle.rt_script.proofs.LinesLaws.{complete_append, rest_append, cut_rest}
use Rattle.rt_script.proofs.RunLaws.{ran_then, unwritten_then, lines_append}

-- a run goes on: what was read of the script, and that its complete lines were run
pub record Goes {S : Type 0} (gives : S → List Word → Answer → S → Type 0) (bounds : Bounds) (old new : Point S) (script left : Stream) (pending : List ℕ) (room turns : ℕ) : Type 0 where
  pub read : List ℕ
  pub consumes : Consumes script.bytes left.bytes read
  pub ran : Ran gives old new (complete_of read)
  pub rest : pending ≡ kept_bytes (rest_of read)
  pub bounded : length read + room ≡ bounds.bytes
  pub calls : left.calls ≡ script.calls + turns
  -- each read gave a byte
  pub some : turns ≤ length read
  pub reads : left.failures ≡ script.failures
  pub writes : new.out.failures ≡ old.out.failures

consumes_keeps : (a b c : Option (List ℕ)) (xs : List ℕ) → Consumes a b xs → Keeps b c → Consumes a c xs
consumes_keeps None b c xs h k = tt
consumes_keeps (Some x) None c xs h k = absurd h
consumes_keeps (Some x) (Some y) None xs h k = k
consumes_keeps (Some x) (Some y) (Some z) xs h k = h ∙ ap (λ v. xs ++ v) (sym k)

consumes_then : (a b c : Option (List ℕ)) (xs ys : List ℕ) → Consumes a b xs → Consumes b c ys → Consumes a c (xs ++ ys)
consumes_then None b c xs ys h k = tt
consumes_then (Some x) None c xs ys h k = absurd h
consumes_then (Some x) (Some y) None xs ys h k = k
consumes_then (Some x) (Some y) (Some z) xs ys h k = h ∙ ap (λ v. xs ++ v) k ∙ sym (append_assoc xs ys z)

-- the front of a buffer
length_front : (n : ℕ) (buf : List ℕ) → n ≤ length buf → length (take n buf) ≡ n
length_front n buf h = omega (arith, length-take n buf)

length_piece : (read buf : List ℕ) (n : ℕ) → n ≤ length buf → length (read ++ take n buf) ≡ length read + n
length_piece read buf n h = omega (arith, length-append read (take n buf), length_front n buf h)

-- a piece was read, and the lines that it completes were run
pub goes_more : {S : Type 0} (gives : S → List Word → Answer → S → Type 0) (bounds : Bounds) (old mid new : Point S) (script middle left : Stream) (kept_old kept_new : List ℕ) (n : ℕ) (buf : List ℕ) (room turns : ℕ)
    → Goes gives bounds old mid script middle kept_old room turns
    → Consumes middle.bytes left.bytes (take n buf) → n ≤ length buf → n ≤ room → n ≢ 0 → left.calls ≡ middle.calls + 1 → left.failures ≡ middle.failures + 0
    → ((rest : List ℕ) → split_lines rest ≡ ([], rest) → kept_old ≡ kept_bytes rest → Ran gives mid new (complete_of (rest ++ take n buf)) × (new.out.failures ≡ mid.out.failures))
    → ((rest : List ℕ) → split_lines rest ≡ ([], rest) → kept_old ≡ kept_bytes rest → kept_new ≡ kept_bytes (rest_of (rest ++ take n buf)))
    → Goes gives bounds old new script left kept_new (room - n) (turns + 1)
goes_more gives bounds old mid new script middle left kept_old kept_new n buf room turns g eaten within fits given calls failures ran rest =
    let piece = take n buf in
    let more = ran (rest_of g.read) (cut_rest g.read) g.rest in
    record {
      read = g.read ++ piece;
      consumes = consumes_then _ _ _ g.read piece g.consumes eaten;
      ran = rw (complete_append g.read piece) (ran_then gives old mid new _ _ g.ran more.0);
      rest = rest (rest_of g.read) (cut_rest g.read) g.rest ∙ ap kept_bytes (sym (rest_append g.read piece));
      bounded = let b = g.bounded in omega (arith, length_piece g.read buf n within);
      calls = let b = g.calls in omega arith;
      some = let b = g.some in omega (arith, given, length_piece g.read buf n within);
      reads = failures ∙ add-zero _ ∙ g.reads;
      writes = more.1 ∙ g.writes;
    }

-- faults that differ
abbrev Is : Fault → Option Fault
Is fault = Some fault

none_not : (fault : Fault) → Is fault ≡ None → ⊥
none_not fault e = cc

not_memory : Is ReadFault ≡ Is NoMemory → ⊥
not_memory e = cc

not_write : Is ReadFault ≡ Is WriteFault → ⊥
not_write e = cc

memory_not_read : Is NoMemory ≡ Is ReadFault → ⊥
memory_not_read e = cc

memory_not_write : Is NoMemory ≡ Is WriteFault → ⊥
memory_not_write e = cc

write_not_read : Is WriteFault ≡ Is ReadFault → ⊥
write_not_read e = cc

write_not_memory : Is WriteFault ≡ Is NoMemory → ⊥
write_not_memory e = cc

-- the run ends with what was read before, since a read failed, a byte came past the bound, or no read is left
ends_unread : {S : Type 0} (gives : S → List Word → Answer → S → Type 0) (bounds : Bounds) (old new : Point S) (script left : Stream) (read over : List ℕ)
    → Consumes script.bytes left.bytes (read ++ over) → length read ≤ bounds.bytes → length over ≤ 1 → (over ≢ [] → length read ≡ bounds.bytes) → left.calls ≤ script.calls + bounds.reads → Ran gives old new (complete_of read)
    → ((left.failures ≡ script.failures + 1) ⊎ (over ≢ []) ⊎ IsReadUp bounds script left read)
    → new.out.failures ≡ old.out.failures → Ends gives bounds old new script left (Some ReadFault)
ends_unread gives bounds old new script left read over eaten few one past reads ran why same = record {
  read = read;
  over = over;
  consumes = eaten;
  bounded = few;
  over_one = one;
  past = λ n. (refl, past n);
  reads_bounded = reads;
  whole = λ f. absurd (none_not ReadFault f);
  unread = λ f. ran;
  why_unread = λ f. why;
  unstored = λ f. absurd (not_memory f);
  unwritten = λ f. absurd (not_write f);
  why_unwritten = λ f. absurd (not_write f);
  reads_failed = λ n. refl;
  writes_failed = λ n. absurd (n same);
  only = inr (inl refl);
}

-- a read failed
pub ends_failed : {S : Type 0} (gives : S → List Word → Answer → S → Type 0) (bounds : Bounds) (old new : Point S) (script middle left : Stream) (pending : List ℕ) (room turns : ℕ)
    → Goes gives bounds old new script middle pending room turns → turns < bounds.reads
    → Keeps middle.bytes left.bytes → left.calls ≡ middle.calls + 1 → left.failures ≡ middle.failures + 1 → Ends gives bounds old new script left (Some ReadFault)
ends_failed gives bounds old new script middle left pending room turns g few keeps calls failures =
    let bounded = g.bounded in
    let called = g.calls in
    let failed : left.failures ≡ script.failures + 1 = failures ∙ ap (λ n. n + 1) g.reads in
    ends_unread gives bounds old new script left g.read [] (rw (append-nil g.read) (consumes_keeps _ _ _ g.read g.consumes keeps)) (omega arith) (omega arith) (λ n. absurd (n refl)) (omega arith) g.ran (inl failed) g.writes

-- the bound of bytes was passed
pub ends_over : {S : Type 0} (gives : S → List Word → Answer → S → Type 0) (bounds : Bounds) (old new : Point S) (script middle left : Stream) (pending : List ℕ) (n : ℕ) (buf : List ℕ) (room turns : ℕ)
    → Goes gives bounds old new script middle pending room turns → turns < bounds.reads → room ≡ 0
    → Consumes middle.bytes left.bytes (take n buf) → n ≤ length buf → n ≤ 1 → n ≢ 0 → left.calls ≡ middle.calls + 1 → Ends gives bounds old new script left (Some ReadFault)
ends_over gives bounds old new script middle left pending n buf room turns g few full eaten within one some calls =
    let bounded = g.bounded in
    let called = g.calls in
    let all : length g.read ≡ bounds.bytes = omega arith in
    let over : take n buf ≢ [] = λ e. some (sym (length_front n buf within) ∙ ap length e) in
    ends_unread gives bounds old new script left g.read (take n buf) (consumes_then _ _ _ g.read (take n buf) g.consumes eaten) (omega arith) (omega (arith, one, length_front n buf within)) (λ n. all) (omega arith) g.ran (inr (inl over)) g.writes

-- no read is left, and the end wasn't found
pub ends_turns : {S : Type 0} (gives : S → List Word → Answer → S → Type 0) (bounds : Bounds) (old new : Point S) (script left : Stream) (pending : List ℕ) (room turns : ℕ)
    → Goes gives bounds old new script left pending room turns → turns ≡ bounds.reads → Ends gives bounds old new script left (Some ReadFault)
ends_turns gives bounds old new script left pending room turns g all =
    let bounded = g.bounded in
    let called = g.calls in
    let some = g.some in
    ends_unread gives bounds old new script left g.read [] (rw (append-nil g.read) g.consumes) (omega arith) (omega arith) (λ n. absurd (n refl)) (omega arith) g.ran
    (inr (inr (record { consumed = g.consumes; failures = g.reads; calls = omega arith; some = omega arith }))) g.writes

-- a write failed
ends_unwritten : {S : Type 0} (gives : S → List Word → Answer → S → Type 0) (bounds : Bounds) (old new : Point S) (script left : Stream) (read : List ℕ)
    → Consumes script.bytes left.bytes read → length read ≤ bounds.bytes → left.calls ≤ script.calls + bounds.reads
    → RanUnwritten gives old new (complete_of read) ⊎ (IsAtEnd left.bytes × RanUnwritten gives old new (lines_of read))
    → new.out.failures ≡ old.out.failures + 1 → left.failures ≡ script.failures → Ends gives bounds old new script left (Some WriteFault)
ends_unwritten gives bounds old new script left read eaten few reads ran why same = record {
  read = read;
  over = [];
  consumes = rw (append-nil read) eaten;
  bounded = few;
  over_one = omega arith;
  past = λ n. absurd (n refl);
  reads_bounded = reads;
  whole = λ f. absurd (none_not WriteFault f);
  unread = λ f. absurd (write_not_read f);
  why_unread = λ f. absurd (write_not_read f);
  unstored = λ f. absurd (write_not_memory f);
  unwritten = λ f. ran;
  why_unwritten = λ f. why;
  reads_failed = λ n. absurd (n same);
  writes_failed = λ n. refl;
  only = inr (inr refl);
}

-- a line could not be stored
ends_unstored : {S : Type 0} (gives : S → List Word → Answer → S → Type 0) (bounds : Bounds) (old new : Point S) (script left : Stream) (read : List ℕ)
    → Consumes script.bytes left.bytes read → length read ≤ bounds.bytes → left.calls ≤ script.calls + bounds.reads → RanPast gives old new script left read
    → new.out.failures ≡ old.out.failures → left.failures ≡ script.failures → Ends gives bounds old new script left (Some NoMemory)
ends_unstored gives bounds old new script left read eaten few reads ran same same_read = record {
  read = read;
  over = [];
  consumes = rw (append-nil read) eaten;
  bounded = few;
  over_one = omega arith;
  past = λ n. absurd (n refl);
  reads_bounded = reads;
  whole = λ f. absurd (none_not NoMemory f);
  unread = λ f. absurd (memory_not_read f);
  why_unread = λ f. absurd (memory_not_read f);
  unstored = λ f. ran;
  unwritten = λ f. absurd (memory_not_write f);
  why_unwritten = λ f. absurd (memory_not_write f);
  reads_failed = λ n. absurd (n same_read);
  writes_failed = λ n. absurd (n same);
  only = inl refl;
}

-- the script is at its end, and its last line was run
ends_complete : {S : Type 0} (gives : S → List Word → Answer → S → Type 0) (bounds : Bounds) (old new : Point S) (script left : Stream) (read : List ℕ)
    → Consumes script.bytes left.bytes read → length read ≤ bounds.bytes → left.calls ≤ script.calls + bounds.reads → IsAtEnd left.bytes → Ran gives old new (lines_of read)
    → new.out.failures ≡ old.out.failures → left.failures ≡ script.failures → Ends gives bounds old new script left None
ends_complete gives bounds old new script left read eaten few reads end ran same same_read = record {
  read = read;
  over = [];
  consumes = rw (append-nil read) eaten;
  bounded = few;
  over_one = omega arith;
  past = λ n. absurd (n refl);
  reads_bounded = reads;
  whole = λ f. (end, refl, ran);
  unread = λ f. absurd (none_not ReadFault (sym f));
  why_unread = λ f. absurd (none_not ReadFault (sym f));
  unstored = λ f. absurd (none_not NoMemory (sym f));
  unwritten = λ f. absurd (none_not WriteFault (sym f));
  why_unwritten = λ f. absurd (none_not WriteFault (sym f));
  reads_failed = λ n. absurd (n same_read);
  writes_failed = λ n. absurd (n same);
  only = tt;
}

-- nothing is left of the script
pub ends_whole : {S : Type 0} (gives : S → List Word → Answer → S → Type 0) (bounds : Bounds) (old mid new : Point S) (script middle left : Stream) (pending : List ℕ) (n : ℕ) (buf : List ℕ) (room turns : ℕ) (r : Result (Unit {0}) Fault)
    → Goes gives bounds old mid script middle pending room turns → turns < bounds.reads
    → Consumes middle.bytes left.bytes (take n buf) → n ≡ 0 → IsAtEnd left.bytes → left.calls ≡ middle.calls + 1 → left.failures ≡ middle.failures + 0
    → ((rest : List ℕ) → pending ≡ kept_bytes rest → RanLines gives mid new (rest_line rest) (rest_line rest) r)
    → IfErr r (λ fault. fault ≡ WriteFault) → Ends gives bounds old new script left (result_err r)
ends_whole gives bounds old mid new script middle left pending n buf room turns (Ok x) g few eaten none end calls failures ran fault =
    let bounded = g.bounded in
    let called = g.calls in
    let last = ran (rest_of g.read) g.rest in
    ends_complete gives bounds old new script left g.read (rw (none, append-nil g.read) at (consumes_then _ _ _ g.read (take n buf) g.consumes eaten)) (omega arith) (omega arith) end
    (ran_then gives old mid new _ _ g.ran last.0) (last.1 ∙ g.writes) (failures ∙ add-zero _ ∙ g.reads)
ends_whole gives bounds old mid new script middle left pending n buf room turns (Err e) g few eaten none end calls failures ran fault =
    let bounded = g.bounded in
    let called = g.calls in
    elim (ran (rest_of g.read) g.rest) [
      | inl h ↦ absurd (memory_not_write (ap Is (sym h.0 ∙ fault)))
      | inr h ↦ rw fault (ends_unwritten gives bounds old new script left g.read (rw (none, append-nil g.read) at (consumes_then _ _ _ g.read (take n buf) g.consumes eaten)) (omega arith) (omega arith)
          (inr (end, unwritten_then gives old mid new _ _ g.ran h.1)) (h.2 ∙ ap (λ k. k + 1) g.writes) (failures ∙ add-zero _ ∙ g.reads))
    ]

-- of what was read the last piece has a line, or goes on with one, that could not be stored
ran_past : {S : Type 0} (gives : S → List Word → Answer → S → Type 0) (bounds : Bounds) (old mid new : Point S) (script middle left : Stream) (pending : List ℕ) (n : ℕ) (buf : List ℕ) (room turns : ℕ)
    → (g : Goes gives bounds old mid script middle pending room turns) → n ≤ length buf → n ≤ PIECE_BYTES → n ≢ 0 → left.calls ≡ middle.calls + 1
    → RanFront gives mid new (lines_of (rest_of g.read ++ take n buf)) → RanPast gives old new script left (g.read ++ take n buf)
ran_past gives bounds old mid new script middle left pending n buf room turns g within small given calls h =
    let piece = take n buf in
    let called = g.calls in
    let some = g.some in
    record {
      front = g.read;
      piece = piece;
      is = refl;
      some = λ e. given (sym (length_front n buf within) ∙ ap length e);
      short = omega (arith, length_front n buf within, small);
      calls = omega (arith, calls, called, some);
      run = h.run;
      line = h.line;
      more = h.more;
      split = lines_append g.read piece ∙ ap (λ lines. complete_of g.read ++ lines) h.split ∙ sym (append_assoc (complete_of g.read) h.run (h.line ∷ h.more));
      ran = ran_then gives old mid new _ _ g.ran h.ran;
    }

-- the run ends in a piece
pub ends_stopped : {S : Type 0} (gives : S → List Word → Answer → S → Type 0) (bounds : Bounds) (old mid new : Point S) (script middle left : Stream) (pending : List ℕ) (n : ℕ) (buf : List ℕ) (room turns : ℕ) (fault : Fault)
    → Goes gives bounds old mid script middle pending room turns → turns < bounds.reads
    → Consumes middle.bytes left.bytes (take n buf) → n ≤ length buf → n ≤ PIECE_BYTES → n ≤ room → n ≢ 0 → left.calls ≡ middle.calls + 1 → left.failures ≡ middle.failures + 0
    → ((rest : List ℕ) → split_lines rest ≡ ([], rest) → pending ≡ kept_bytes rest → RanLines gives mid new (complete_of (rest ++ take n buf)) (lines_of (rest ++ take n buf)) (Err fault))
    → Ends gives bounds old new script left (Some fault)
ends_stopped gives bounds old mid new script middle left pending n buf room turns fault g few eaten within small fits given calls failures ran =
    let piece = take n buf in
    let bounded = g.bounded in
    let called = g.calls in
    let read = consumes_then _ _ _ g.read piece g.consumes eaten in
    let short : length (g.read ++ piece) ≤ bounds.bytes = omega (arith, length_piece g.read buf n within) in
    let reads : left.calls ≤ script.calls + bounds.reads = omega arith in
    let same = failures ∙ add-zero _ ∙ g.reads in
    elim (ran (rest_of g.read) (cut_rest g.read) g.rest) [
      | inl h ↦ rw h.0 (ends_unstored gives bounds old new script left (g.read ++ piece) read short reads
          (ran_past gives bounds old mid new script middle left pending n buf room turns g within small given calls h.1) (h.2 ∙ g.writes) same)
      | inr h ↦ rw h.0 (ends_unwritten gives bounds old new script left (g.read ++ piece) read short reads
          (inl (rw (complete_append g.read piece) (unwritten_then gives old mid new _ _ g.ran h.1)))
          (h.2 ∙ ap (λ k. k + 1) g.writes) same)
    ]

-- for want of memory it ends in the piece that the last read gave
pub stops_in_last : {S R : Type 0} (gives : S → List Word → Answer → S → Type 0) (stream : R → Stream) (bounds : Bounds) (old mid new : Point S) (script middle left : R) (pending : List ℕ) (n : ℕ) (buf : List ℕ) (room turns : ℕ) (fault : Fault)
    → Goes gives bounds old mid (stream script) (stream middle) pending room turns
    → Consumes (stream middle).bytes (stream left).bytes (take n buf) → n ≤ length buf → n ≤ PIECE_BYTES → n ≢ 0 → (stream left).calls ≡ (stream middle).calls + 1
    → ((rest : List ℕ) → split_lines rest ≡ ([], rest) → pending ≡ kept_bytes rest → RanLines gives mid new (complete_of (rest ++ take n buf)) (lines_of (rest ++ take n buf)) (Err fault))
    → Is fault ≡ Is NoMemory → StopsInLast gives stream old new script left
unfolding ran_past
stops_in_last gives stream bounds old mid new script middle left pending n buf room turns fault g eaten within small given calls ran is =
    elim (ran (rest_of g.read) (cut_rest g.read) g.rest) [
      | inl h ↦ (
        g.read ++ take n buf,
        ran_past gives bounds old mid new (stream script) (stream middle) (stream left) pending n buf room turns g within small given calls h.1,
        record { before = middle; gave = g.consumes; calls = calls; last = eaten },
      )
      | inr h ↦ absurd (write_not_memory (ap Is (sym h.0) ∙ is))
    ]

-- no other end is for want of memory
pub unread_is_stored : (fault : Option Fault) → fault ≡ Some ReadFault → fault ≡ Some NoMemory → ⊥
unread_is_stored fault is e = not_memory (sym is ∙ e)

pub finished_is_stored : (r : Result (Unit {0}) Fault) → IfErr r (λ fault. fault ≡ WriteFault) → result_err r ≡ Some NoMemory → ⊥
finished_is_stored (Ok x) h e = none_not NoMemory (sym e)
finished_is_stored (Err x) h e = write_not_memory (ap Is (sym h) ∙ e)

-- the last read gave a front of a buffer
gave_front : {R : Type 0} (stream : R → Stream) (script middle left : R) (read : List ℕ) (n : ℕ) (buf : List ℕ) → Consumes (stream script).bytes (stream middle).bytes read
    → Consumes (stream middle).bytes (stream left).bytes (take n buf) → n ≤ length buf → n ≢ 0 → (stream left).calls ≡ (stream middle).calls + 1 → GaveSome stream script left
gave_front stream script middle left read n buf gave eaten within given calls =
    (read, take n buf, λ e. given (sym (length_front n buf within) ∙ ap length e), record { before = middle; gave = gave; calls = calls; last = eaten })

pub gave_piece : {S R : Type 0} (gives : S → List Word → Answer → S → Type 0) (stream : R → Stream) (bounds : Bounds) (old mid : Point S) (script middle left : R) (pending : List ℕ) (n : ℕ) (buf : List ℕ) (room turns : ℕ)
    → Goes gives bounds old mid (stream script) (stream middle) pending room turns → Consumes (stream middle).bytes (stream left).bytes (take n buf) → n ≤ length buf → n ≢ 0
    → (stream left).calls ≡ (stream middle).calls + 1 → GaveSome stream script left
gave_piece gives stream bounds old mid script middle left pending n buf room turns g eaten within given calls = gave_front stream script middle left g.read n buf g.consumes eaten within given calls

-- no turn was taken yet, or the last one gave some bytes
pub unseen_at_last : {R : Type 0} (stream : R → Stream) (bounds : Bounds) (script left : R) (turns : ℕ) → ((turns ≡ 0) × (left ≡ script)) ⊎ GaveSome stream script left → turns ≡ bounds.reads → EndIsUnseen stream bounds script left
unseen_at_last stream bounds script left turns (inl same) all = inl (sym all ∙ same.0, same.1)
unseen_at_last stream bounds script left turns (inr g) all = inr g
