-- The longest runs of cells in one state.
use Rattle.std.proofs.Common.{◌≡◌, ℕ, suc, ◌+◌, ◌-◌, ◌<◌, ◌≤◌, All, List, [], ◌∷◌, ◌++◌, Bool, true, false, cond, ◌||◌, ◌&&◌, ◌==◌, length, map, drop, get_or, refl, sym, ◌∙◌, ap, arith, append_assoc}
use Rattle.std.specs.Prelude.{nat_le}
use Rattle.std.proofs.lemmas.Bool.{and_from, and_parts, cond-true, cond-false, eqb-true}
use Rattle.std.proofs.lemmas.Bool.Decides.{nat_tests}
use Rattle.std.proofs.lemmas.List.{drop_more, drop_all}
use Rattle.std.proofs.lemmas.List.Elements.{All-head, All-tail, All-cons, All-nil}
use Rattle.std.specs.List.{list_all}
use Rattle.rt_stamps.specs.declared.stamp.Span.{Span}
use Rattle.rt_stamps.specs.declared.stamp.Stamp.{Stamp}
use Rattle.rt_stamps.specs.Spans.{span_of}
use Rattle.rt_stamps.specs.Stamps.{is_same}
use Rattle.rt_store.specs.declared.cell.Cell.{Cell}
use Rattle.rt_store.specs.Cells.{is_in_span, state_in, with_state}
use Rattle.rt_store.specs.Tagged.{AreStates}
use Rattle.rt_tags.specs.States.{TagStates, IsState}
use Rattle.rt_rga.specs.declared.tagging.StateRun.{StateRun}
use Rattle.rt_store.specs.Spans.{is_span, next_stamp, last_stamp}
use Rattle.rt_rga.specs.Runs.{put_back, put_back_in_any}

-- the first stamp of a span
abbrev pub first_stamp : Span → Stamp
first_stamp span = record { count = span.first; site = span.site }

-- the run of one cell
abbrev pub run_of : Cell ℕ → StateRun
run_of c = record { span = span_of c.stamp; state = c.state }

-- a run goes on with another
abbrev pub joins : StateRun → StateRun → Bool
joins run next = (next.state == run.state) && is_same (first_stamp next.span) (next_stamp (last_stamp run.span))

-- a run with another first count, or another last one
abbrev pub begun_at : ℕ → StateRun → StateRun
begun_at first run = record { span = record run.span { first = first }; state = run.state }

abbrev pub ended_at : ℕ → StateRun → StateRun
ended_at last run = record { span = record run.span { last = last }; state = run.state }

-- a run before others, as one with the first of them where it goes on with that
abbrev pub attached : StateRun → List StateRun → List StateRun
attached run [] = run ∷ []
attached run (next ∷ runs) = cond (joins run next) (begun_at run.span.first next ∷ runs) (run ∷ next ∷ runs)

-- the longest runs of cells
abbrev pub runs : List (Cell ℕ) → List StateRun
runs [] = []
runs (c ∷ cs) = attached (run_of c) (runs cs)

-- THE LOOP

same_site : (run : StateRun) (next : StateRun) → joins run next ≡ true → next.span.site ≡ run.span.site
same_site run next h =
    let p = and_parts (next.state == run.state) _ h in
    let q = p.1 in
    grind (arith, nat_tests)

same_state : (run : StateRun) (next : StateRun) → joins run next ≡ true → next.state ≡ run.state
same_state run next h = eqb-true _ _ (and_parts (next.state == run.state) _ h).0

-- what a test says of a run of the same site and state
joins_alike : (run : StateRun) (c : Cell ℕ) (next : StateRun) → next.span.site ≡ c.stamp.site → next.state ≡ c.state → joins run (begun_at c.stamp.count next) ≡ joins run (run_of c)
joins_alike run c next e f = λ i. (f i == run.state) && is_same (record { count = c.stamp.count; site = e i }) (next_stamp (last_stamp run.span))

extended_step : (run : StateRun) (c : Cell ℕ) (next : StateRun) (rest : List StateRun) (b : Bool) → joins (run_of c) next ≡ b → joins run (run_of c) ≡ true
    → attached run (cond b (begun_at c.stamp.count next ∷ rest) (run_of c ∷ next ∷ rest)) ≡ cond b (begun_at run.span.first next ∷ rest) (ended_at c.stamp.count run ∷ next ∷ rest)
extended_step run c next rest true e h = cond-true _ _ _ (joins_alike run c next (same_site (run_of c) next e) (same_state (run_of c) next e) ∙ h)
extended_step run c next rest false e h =
    let site : c.stamp.site ≡ run.span.site = same_site run (run_of c) h in
    let state : c.state ≡ run.state = same_state run (run_of c) h in
    cond-true _ _ _ h ∙ (λ i. record { span = record { site = site i; first = run.span.first; last = c.stamp.count }; state = state i } ∷ next ∷ rest)

-- a cell that a run goes on with makes it longer
pub extended : (run : StateRun) (c : Cell ℕ) (rest : List StateRun) → joins run (run_of c) ≡ true → attached run (attached (run_of c) rest) ≡ attached (ended_at c.stamp.count run) rest
extended run c [] h =
    let site : c.stamp.site ≡ run.span.site = same_site run (run_of c) h in
    let state : c.state ≡ run.state = same_state run (run_of c) h in
    cond-true _ _ _ h ∙ (λ i. record { span = record { site = site i; first = run.span.first; last = c.stamp.count }; state = state i } ∷ [])
extended run c (next ∷ rest) h =
    let site : c.stamp.site ≡ run.span.site = same_site run (run_of c) h in
    let state : c.state ≡ run.state = same_state run (run_of c) h in
    extended_step run c next rest (joins (run_of c) next) refl h
    ∙ (λ i. cond ((next.state == state i) && is_same (first_stamp next.span) (record { count = c.stamp.count + 1; site = site i })) (begun_at run.span.first next ∷ rest) (ended_at c.stamp.count run ∷ next ∷ rest))

begun_step : (run : StateRun) (c : Cell ℕ) (next : StateRun) (rest : List StateRun) (b : Bool) → joins (run_of c) next ≡ b → joins run (run_of c) ≡ false
    → attached run (cond b (begun_at c.stamp.count next ∷ rest) (run_of c ∷ next ∷ rest)) ≡ run ∷ cond b (begun_at c.stamp.count next ∷ rest) (run_of c ∷ next ∷ rest)
begun_step run c next rest true e h = cond-false _ _ _ (joins_alike run c next (same_site (run_of c) next e) (same_state (run_of c) next e) ∙ h)
begun_step run c next rest false e h = cond-false _ _ _ h

-- another cell begins a run
pub begun : (run : StateRun) (c : Cell ℕ) (rest : List StateRun) → joins run (run_of c) ≡ false → attached run (attached (run_of c) rest) ≡ run ∷ attached (run_of c) rest
begun run c [] h = cond-false _ _ _ h
begun run c (next ∷ rest) h = begun_step run c next rest (joins (run_of c) next) refl h

item_more : (cells : List (Cell ℕ)) (i : ℕ) (x : Cell ℕ) → i < length cells → x ≡ get_or cells i x → drop i cells ≡ x ∷ drop (i + 1) cells
item_more cells i x h is = drop_more cells i x h ∙ ap (λ y. y ∷ drop (i + 1) cells) (sym is)

pub extended_more : (done : List StateRun) (run : StateRun) (cells : List (Cell ℕ)) (i : ℕ) (x : Cell ℕ) → i < length cells → x ≡ get_or cells i x → joins run (run_of x) ≡ true
    → done ++ attached run (runs (drop i cells)) ≡ done ++ attached (ended_at x.stamp.count run) (runs (drop (i + 1) cells))
extended_more done run cells i x h is e =
    ap (λ l. done ++ attached run (runs l)) (item_more cells i x h is) ∙ ap (λ l. done ++ l) (extended run x (runs (drop (i + 1) cells)) e)

pub begun_more : (done : List StateRun) (run : StateRun) (cells : List (Cell ℕ)) (i : ℕ) (x : Cell ℕ) → i < length cells → x ≡ get_or cells i x → joins run (run_of x) ≡ false
    → done ++ attached run (runs (drop i cells)) ≡ (done ++ run ∷ []) ++ attached (run_of x) (runs (drop (i + 1) cells))
begun_more done run cells i x h is e =
    ap (λ l. done ++ attached run (runs l)) (item_more cells i x h is) ∙ ap (λ l. done ++ l) (begun run x (runs (drop (i + 1) cells)) e)
    ∙ sym (append_assoc done (run ∷ []) (attached (run_of x) (runs (drop (i + 1) cells))))

-- after the last cell
pub runs_end : (items done : List StateRun) (run : StateRun) (others cells : List (Cell ℕ)) (i : ℕ) → items ≡ done ++ run ∷ [] → length others ≤ i
    → done ++ attached run (runs (drop i others)) ≡ runs cells → items ≡ runs cells
runs_end items done run others cells i e h k = e ∙ ap (λ l. done ++ attached run (runs l)) (sym (drop_all i others h)) ∙ k

-- WHAT THE RUNS HOLD

abbrev pub is_forward : StateRun → Bool
is_forward run = is_span run.span

forward_step : (b : Bool) (run next : StateRun) (rest : List StateRun) → joins run next ≡ b → is_forward run ≡ true → is_forward next && list_all is_forward rest ≡ true
    → list_all is_forward (cond b (begun_at run.span.first next ∷ rest) (run ∷ next ∷ rest)) ≡ true
forward_step true run next rest e h k =
    let p = and_parts (is_forward next) (list_all is_forward rest) k in
    let n = p.0 in
    let q = (and_parts (next.state == run.state) _ e).1 in
    let both : nat_le run.span.first next.span.last ≡ true = grind (arith, nat_tests) in
    and_from _ _ both p.1
forward_step false run next rest e h k = and_from (is_forward run) _ h k

forward_attached : (run : StateRun) (rest : List StateRun) → is_forward run ≡ true → list_all is_forward rest ≡ true → list_all is_forward (attached run rest) ≡ true
forward_attached run [] h k = and_from (is_forward run) _ h refl
forward_attached run (next ∷ rest) h k = forward_step (joins run next) run next rest refl h k

one_forward : (c : Cell ℕ) → is_forward (run_of c) ≡ true
one_forward c = grind (arith, nat_tests)

-- each run goes forward
forward_runs : (cs : List (Cell ℕ)) → list_all is_forward (runs cs) ≡ true
forward_runs [] = refl
forward_runs (c ∷ cs) = forward_attached (run_of c) (runs cs) (one_forward c) (forward_runs cs)

-- two spans as one
joined : (span next : Span) (s : Stamp) → is_same (first_stamp next) (next_stamp (last_stamp span)) ≡ true → is_span span ≡ true → is_span next ≡ true
    → is_in_span (record next { first = span.first }) s ≡ is_in_span span s || is_in_span next s
joined span next s e h k = grind (arith, nat_tests)

either_state : (a b : Bool) (x y z : Cell ℕ) → x ≡ y → cond (a || b) x z ≡ cond a y (cond b x z)
either_state true b x y z e = e
either_state false b x y z e = refl

held_step : (b : Bool) (run next : StateRun) (rest : List StateRun) (c : Cell ℕ) → joins run next ≡ b → is_forward run ≡ true → is_forward next ≡ true
    → put_back_in_any (cond b (begun_at run.span.first next ∷ rest) (run ∷ next ∷ rest)) c ≡ cond (is_in_span run.span c.stamp) (with_state run.state c) (put_back_in_any (next ∷ rest) c)
held_step true run next rest c e h k =
    ap (λ b. cond b (with_state next.state c) (put_back_in_any rest c)) (joined run.span next.span c.stamp (and_parts (next.state == run.state) _ e).1 h k)
    ∙ either_state (is_in_span run.span c.stamp) (is_in_span next.span c.stamp) (with_state next.state c) (with_state run.state c) (put_back_in_any rest c) (ap (λ s. with_state s c) (same_state run next e))
held_step false run next rest c e h k = refl

held_attached : (run : StateRun) (rest : List StateRun) (c : Cell ℕ) → is_forward run ≡ true → list_all is_forward rest ≡ true
    → put_back_in_any (attached run rest) c ≡ cond (is_in_span run.span c.stamp) (with_state run.state c) (put_back_in_any rest c)
held_attached run [] c h k = refl
held_attached run (next ∷ rest) c h k = held_step (joins run next) run next rest c refl h (and_parts (is_forward next) (list_all is_forward rest) k).0

one_held : (s t : Stamp) → is_in_span (span_of s) t ≡ is_same s t
one_held s t = grind (arith, nat_tests)

-- the runs give a cell the state of its copy
pub held_runs : (cs : List (Cell ℕ)) (c : Cell ℕ) → put_back_in_any (runs cs) c ≡ put_back cs c
held_runs [] c = refl
held_runs (x ∷ cs) c = held_attached (run_of x) (runs cs) c (one_forward x) (forward_runs cs) ∙ (λ i. cond (one_held x.stamp c.stamp i) (with_state x.state c) (held_runs cs c i))

-- there are no more runs than cells
few_step : (b : Bool) (x y z : StateRun) (rest : List StateRun) → length (cond b (x ∷ rest) (z ∷ y ∷ rest)) ≤ suc (length (y ∷ rest))
few_step true x y z rest = omega arith
few_step false x y z rest = omega arith

few_attached : (run : StateRun) (rest : List StateRun) → length (attached run rest) ≤ suc (length rest)
few_attached run [] = omega arith
few_attached run (next ∷ rest) = few_step (joins run next) (begun_at run.span.first next) next run rest

pub few_runs : (cs : List (Cell ℕ)) → length (runs cs) ≤ length cs
few_runs [] = omega arith
few_runs (c ∷ cs) = omega (arith, few_attached (run_of c) (runs cs), few_runs cs)

-- their states are those of cells
abbrev pub AreRunStates : TagStates → List StateRun → Type 0
AreRunStates table rs = All (λ run. IsState table run.state) rs

given_step : (table : TagStates) (b : Bool) (run next : StateRun) (rest : List StateRun) → IsState table run.state → AreRunStates table (next ∷ rest)
    → AreRunStates table (cond b (begun_at run.span.first next ∷ rest) (run ∷ next ∷ rest))
given_step table true run next rest h k =
    let P : StateRun → Type 0 = λ r. IsState table r.state in
    All-cons P (begun_at run.span.first next) rest (All-head P next rest k) (All-tail P next rest k)
given_step table false run next rest h k = All-cons (λ (r : StateRun). IsState table r.state) run (next ∷ rest) h k

given_attached : (table : TagStates) (run : StateRun) (rest : List StateRun) → IsState table run.state → AreRunStates table rest → AreRunStates table (attached run rest)
given_attached table run [] h k = All-cons (λ (r : StateRun). IsState table r.state) run [] h k
given_attached table run (next ∷ rest) h k = given_step table (joins run next) run next rest h k

pub given_runs : (table : TagStates) (cs : List (Cell ℕ)) → AreStates table cs → AreRunStates table (runs cs)
given_runs table [] h = All-nil (λ (r : StateRun). IsState table r.state)
given_runs table (c ∷ cs) h =
    let P : Cell ℕ → Type 0 = λ x. IsState table x.state in
    given_attached table (run_of c) (runs cs) (All-head P c cs h) (given_runs table cs (All-tail P c cs h))

-- PUTTING BACK

over_step : (b : Bool) (s t : ℕ) (c d : Cell ℕ) → with_state s d ≡ with_state s c → with_state s (cond b (with_state t c) d) ≡ with_state s c
over_step true s t c d h = refl
over_step false s t c d h = h

-- a state put over another
over : (s : ℕ) (rs : List StateRun) (c : Cell ℕ) → with_state s (put_back_in_any rs c) ≡ with_state s c
over s [] c = refl
over s (run ∷ rs) c = over_step (is_in_span run.span c.stamp) s run.state c (put_back_in_any rs c) (over s rs c)

first_step : (run : StateRun) (rs : List StateRun) (c : Cell ℕ) → state_in run.span run.state (put_back_in_any rs c) ≡ put_back_in_any (run ∷ rs) c
first_step run rs c =
    let stamp : (put_back_in_any rs c).stamp ≡ c.stamp = ap (λ (x : Cell ℕ). x.stamp) (over 0 rs c) in
    λ i. cond (is_in_span run.span (stamp i)) (over run.state rs c i) (put_back_in_any rs c)

-- one run more, before the others
pub put_first : (run : StateRun) (rs : List StateRun) (cells : List (Cell ℕ)) → map (state_in run.span run.state) (map (put_back_in_any rs) cells) ≡ map (put_back_in_any (run ∷ rs)) cells
put_first run rs [] = refl
put_first run rs (c ∷ cs) = λ i. first_step run rs c i ∷ put_first run rs cs i

pub put_more : (rs : List StateRun) (cells : List (Cell ℕ)) (behind : ℕ) (d : StateRun) → behind < length rs
    → map (state_in (get_or rs (length rs - 1 - behind) d).span (get_or rs (length rs - 1 - behind) d).state) (map (put_back_in_any (drop (length rs - behind) rs)) cells)
    ≡ map (put_back_in_any (drop (length rs - (behind + 1)) rs)) cells
put_more rs cells behind d h =
    let k = length rs - 1 - behind in
    let run = get_or rs k d in
    let here : length rs - behind ≡ k + 1 = omega arith in
    let there : length rs - (behind + 1) ≡ k = omega arith in
    let within : k < length rs = omega arith in
    ap (λ n. map (state_in run.span run.state) (map (put_back_in_any (drop n rs)) cells)) here ∙ put_first run (drop (k + 1) rs) cells
    ∙ ap (λ l. map (put_back_in_any l) cells) (sym (drop_more rs k d within)) ∙ ap (λ n. map (put_back_in_any (drop n rs)) cells) (sym there)

state_step : (table : TagStates) (b : Bool) (s : ℕ) (c : Cell ℕ) → IsState table s → IsState table c.state → IsState table (cond b (with_state s c) c).state
state_step table true s c h k = h
state_step table false s c h k = k

pub put_none : (cells : List (Cell ℕ)) → map (put_back_in_any []) cells ≡ cells
put_none [] = refl
put_none (c ∷ cs) = ap (λ l. c ∷ l) (put_none cs)
