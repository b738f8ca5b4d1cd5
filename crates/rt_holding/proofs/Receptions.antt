-- Operations that were received one after the other, and how many of them.
use Rattle.std.proofs.Common.{◌≡◌, ◌∙◌, ◌++◌, ℕ, ◌+◌, ◌≤◌, List, [], ◌∷◌, length, take, Option, None, Some, ap, append_assoc, append-nil, arith, inl, inr, refl, subst, sym}
use Rattle.std.proofs.lemmas.List.{length-append}
use Rattle.std.specs.List.{flat_map}
use Rattle.std.specs.Prelude.{Ok, Err}
use Rattle.rt_stamps.specs.declared.fault.Fault.{Fault}
use Rattle.rt_ops.specs.File.{magic, record_of, file_of}
use Rattle.rt_ops.specs.declared.version.Version.{Version}
use Rattle.rt_ops.specs.Operations.{Operation}
use Rattle.rt_ops.specs.Reading.{IsBegunIn, IsEnd, ReadsAs, head_of, offsets_from}
use Rattle.rt_ops.specs.Records.{HasTaken, Left, RefusesRecord, TakesRecord}
use Rattle.rt_ops.proofs.Readings.{reads_records, record_some, spelling_push}
use Rattle.rt_ops.proofs.Taken.{magic_length}
use Rattle.rt_holding.specs.declared.held.Offered.{Offered}
use Rattle.rt_holding.specs.declared.held.Offered.TheVariants as offered
use Rattle.rt_holding.specs.declared.receiving.Received.{Received}
use Rattle.rt_holding.specs.Holding.{Holding, Settles, rest, takes, drops, lacks, with_taken, no_more_held}
use Rattle.rt_holding.specs.Taken.{IsOffered, IsRefused, site_holding, replied}
use Rattle.rt_holding.specs.Receiving.{Behind, AtEnd, IsToldOf, Offers, ReadsUpTo, Receives, State, Unread, Wanting, counts_as, none_accepted, one_more, reply_at}
use Rattle.rt_holding.proofs.Keeping.{next_is}
use Rattle.rt_holding.proofs.Settling.{without_le, without_lt}
use Rattle.rt_holding.proofs.Sites.{length_put}

-- what was received before, and what was received behind it
abbrev pub added : Received → Received → Received
added before behind = record { new = before.new + behind.new; repeats = before.repeats + behind.repeats; held = behind.held; fault = behind.fault }

pub added_nothing : (r : Received) (ending : Option (Fault × ℕ)) (held : List Operation) → added r (none_accepted ending held) ≡ record r { held = length held; fault = ending }
added_nothing r ending held =
    let e : r.new + 0 ≡ r.new = omega (arith) in
    let f : r.repeats + 0 ≡ r.repeats = omega (arith) in
    λ i. record { new = e i; repeats = f i; held = length held; fault = ending }

pub nothing_added : (held : List Operation) (r : Received) → added (none_accepted None held) r ≡ r
nothing_added held r =
    let e : 0 + r.new ≡ r.new = omega (arith) in
    let f : 0 + r.repeats ≡ r.repeats = omega (arith) in
    λ i. record { new = e i; repeats = f i; held = r.held; fault = r.fault }

pub added_more : (o : Offered) (r s : Received) → added (one_more o r) s ≡ added r (one_more o s)
added_more (offered.New more) r s =
    let e : 1 + more + r.new + s.new ≡ r.new + (1 + more + s.new) = omega (arith) in
    λ i. record { new = e i; repeats = r.repeats + s.repeats; held = s.held; fault = s.fault }
added_more offered.Repeat r s =
    let e : 1 + r.repeats + s.repeats ≡ r.repeats + (1 + s.repeats) = omega (arith) in
    λ i. record { new = r.new + s.new; repeats = e i; held = s.held; fault = s.fault }
added_more offered.Held r s = refl

-- HOW MANY

settles_length : (limit : ℕ) (wanting : List Operation) (s t : Holding) (more : List Operation) → Settles limit wanting s t more → length more + length t.held ≤ length s.held
settles_length limit wanting s t more (rest e) = omega arith
settles_length limit wanting s t more (takes {more = later} {op = op} e n r) =
    let i = settles_length limit wanting (with_taken op s) t later r in
    let l = without_lt op s.held (next_is limit wanting s op e).0 in
    omega (arith, i, l)
settles_length limit wanting s t more (drops {op = op} e n r) =
    let i = settles_length limit wanting (no_more_held op s) t more r in
    let l = without_le op s.held in
    omega (arith, i, l)
settles_length limit wanting s t more (lacks {op = op} e n r) = settles_length limit (op ∷ wanting) s t more r

-- LENGTHS

head_length : (ver : Version) → length (file_of ver []) ≡ 8
head_length ver = omega (arith, length-append (magic ver) [], magic_length ver)

one_longer : (ver : Version) (ops : List Operation) (op : Operation) → length (file_of ver (ops ++ op ∷ [])) ≡ length (file_of ver ops) + length (record_of ver op)
one_longer ver ops op = omega (arith, ap length (spelling_push ver ops op), length-append (file_of ver ops) (record_of ver op))

as_many : (ver : Version) (ops : List Operation) → length ops ≤ length (flat_map (record_of ver) ops)
as_many ver [] = omega arith
as_many ver (op ∷ ops) = omega (arith, as_many ver ops, record_some ver op [], length-append (record_of ver op) [], length-append (record_of ver op) (flat_map (record_of ver) ops))

-- no file has more operations than bytes
pub fewer : (left : Left) (ops : List Operation) → HasTaken left ops → length ops ≤ length left.bytes
fewer left ops h =
    let ver = left.version in
    omega (arith, as_many ver ops, ap length h.bytes, length-append (file_of ver ops) left.rest, length-append (magic ver) (flat_map (record_of ver) ops))

module _ {Site : Type 0} (log : Site → List Operation) (limit : Site → ℕ) (after : Operation → Site → Site) where
  pub offered_length : (most : ℕ) (op : Operation) (o : Offered) (old : Site) (held : List Operation) (new : Site) (left : List Operation)
      → IsOffered log after most op o old held new left → counts_as o + length left ≤ 1 + length held
  offered_length most op (offered.New count) old held new left t =
      let i = settles_length most [] (with_taken op (site_holding log old held)) (site_holding log new left) t.more t.settles in
      let l = without_le op held in
      let c = t.counted in
      omega (arith, i, l, c)
  offered_length most op offered.Repeat old held new left t = let l = ap length t.1 in omega (arith, l)
  offered_length most op offered.Held old held new left t = let l = ap length t.1 in let m = length_put op held in omega (arith, l, m)

  pub counted_more : (o : Offered) (r : Received) → (one_more o r).new + (one_more o r).repeats ≡ counts_as o + (r.new + r.repeats)
  counted_more (offered.New more) r = omega arith
  counted_more offered.Repeat r = omega arith
  counted_more offered.Held r = omega arith

  pub same_fault : (o : Offered) (r : Received) → (one_more o r).fault ≡ r.fault
  same_fault (offered.New more) r = refl
  same_fault offered.Repeat r = refl
  same_fault offered.Held r = refl

  -- ONE AFTER THE OTHER

  -- Of a file some operations were offered, from one state to another: what is received behind them is received with them.
  abbrev pub GoesPast : Version → List Operation → State Site → Received → State Site → Type 0
  GoesPast ver ops start before now =
      (more : List Operation) (behind : Behind) (received : Received) (new : State Site)
      → Offers log limit after more (offsets_from ver (length (file_of ver ops)) more) behind now received new
      → Offers log limit after (ops ++ more) (offsets_from ver 8 (ops ++ more)) behind start (added before received) new

  -- of a file some records were read, and their operations offered
  pub record HasOffered (left : Left) (start : State Site) (before : Received) (now : State Site) : Type 0 where
    pub ops : List Operation
    pub taken : HasTaken left ops
    pub past : GoesPast left.version ops start before now
    pub few : before.new + before.repeats + length now.held ≤ length ops + length start.held

  pub none_offered : (left : Left) (start : State Site) (received : Received) → HasTaken left [] → received ≡ none_accepted None start.held
      → HasOffered left start received start
  none_offered left start received taken e = subst (λ (r : Received). HasOffered left start r start) (sym e) (record {
    ops = [];
    taken = taken;
    past = λ more behind received new h.
        subst (λ (r : Received). Offers log limit after more (offsets_from left.version 8 more) behind start r new) (sym (nothing_added start.held received))
        (subst (λ (at : ℕ). Offers log limit after more (offsets_from left.version at more) behind start received new) (head_length left.version) h);
    few = omega arith;
  })

  -- One more record was read, and its operation offered.
  pub offered_more : (left later : Left) (op : Operation) (o : Offered) (start : State Site) (before : Received) (now mid : State Site)
      → TakesRecord left op later → reply_at log limit after op now ≡ replied (Ok o)
      → IsOffered log after (limit now.site) op o now.site now.held mid.site mid.held
      → HasOffered left start before now → HasOffered later start (one_more o before) mid
  offered_more left later op o start before now mid read reply taken h = record {
    ops = h.ops ++ op ∷ [];
    taken = read.taken h.ops h.taken;
    past = subst (λ (ver : Version). GoesPast ver (h.ops ++ op ∷ []) start (one_more o before) mid) (sym read.version) (λ more behind received new k.
        let at = length (file_of left.version h.ops) in
        let next : Offers log limit after more (offsets_from left.version (at + length (record_of left.version op)) more) behind mid received new =
        subst (λ (n : ℕ). Offers log limit after more (offsets_from left.version n more) behind mid received new) (one_longer left.version h.ops op) k in
        let whole = h.past (op ∷ more) behind (one_more o received) new (inr (record {
          offered = o;
          next = mid;
          rest = received;
          reply = reply;
          is_offered = taken;
          counted = refl;
          others = next;
        })) in
        subst (λ (r : Received). Offers log limit after ((h.ops ++ op ∷ []) ++ more) (offsets_from left.version 8 ((h.ops ++ op ∷ []) ++ more)) behind start r new)
        (sym (added_more o before received))
        (subst (λ (ops : List Operation). Offers log limit after ops (offsets_from left.version 8 ops) behind start (added before (one_more o received)) new)
        (sym (append_assoc h.ops (op ∷ []) more)) whole));
    few =
        let sums = counted_more o before in
        let more = offered_length (limit now.site) op o now.site now.held mid.site mid.held taken in
        omega (arith, h.few, sums, more, length-append h.ops (op ∷ []));
  }

  -- HOW IT ENDS

  ends_so : (bytes : List ℕ) (left : Left) (start : State Site) (before : Received) (now : State Site) (behind : Behind) (told : Option (Fault × ℕ))
      → (h : HasOffered left start before now) → IsToldOf behind told → ReadsUpTo bytes h.ops (offsets_from left.version 8 h.ops) behind
      → Receives log limit after bytes start (record before { held = length now.held; fault = told }) now
  ends_so bytes left start before now behind told h is reads =
      let whole = h.past [] behind (none_accepted told now.held) now (record { told = told; ends = is; counted = refl; same = refl }) in record {
        ops = h.ops;
        offsets = offsets_from left.version 8 h.ops;
        behind = behind;
        read = reads;
        offers = subst (λ (r : Received). Offers log limit after h.ops (offsets_from left.version 8 h.ops) behind start r now) (added_nothing before told now.held)
            (subst (λ (ops : List Operation). Offers log limit after ops (offsets_from left.version 8 ops) behind start (added before (none_accepted told now.held)) now) (append-nil h.ops) whole);
      }

  -- at the end of the file
  pub receives_whole : (bytes : List ℕ) (left : Left) (start : State Site) (before : Received) (now : State Site) → left.bytes ≡ bytes → left.rest ≡ []
      → HasOffered left start before now → Receives log limit after bytes start (record before { held = length now.held; fault = None }) now
  receives_whole bytes left start before now e none h =
      ends_so bytes left start before now (AtEnd None) None h refl
      (reads_records bytes h.ops (offsets_from left.version 8 h.ops) None left.rest (sym e ∙ h.taken.bytes) h.taken.are refl none)

  -- at a record that isn't read
  pub receives_front : (bytes : List ℕ) (left : Left) (start : State Site) (before : Received) (now : State Site) (fault : Fault) (offset : ℕ) → left.bytes ≡ bytes
      → ((ops : List Operation) → HasTaken left ops → offset ≡ length (file_of left.version ops)) → RefusesRecord left fault
      → HasOffered left start before now → Receives log limit after bytes start (record before { held = length now.held; fault = Some (fault, offset) }) now
  receives_front bytes left start before now fault offset e at (inl lack) h =
      ends_so bytes left start before now (Wanting offset) (Some (fault, offset)) h (ap (λ f. Some (f, offset)) lack.0)
      (left.version, (left.rest, sym e ∙ h.taken.bytes, h.taken.are), lack.1, refl, at h.ops h.taken)
  receives_front bytes left start before now fault offset e at (inr ends) h =
      ends_so bytes left start before now (AtEnd (Some (fault, offset))) (Some (fault, offset)) h refl
      (reads_records bytes h.ops (offsets_from left.version 8 h.ops) (Some (fault, offset)) left.rest (sym e ∙ h.taken.bytes) h.taken.are refl
      (subst (λ n. IsEnd left.version h.ops left.rest (Some (fault, n))) (sym (at h.ops h.taken)) (ends h.ops h.taken)))

  -- at an operation that is refused
  pub receives_until : (bytes : List ℕ) (left later : Left) (op : Operation) (start : State Site) (before : Received) (now new : State Site) (fault : Fault) (offset : ℕ)
      → left.bytes ≡ bytes → ((ops : List Operation) → HasTaken left ops → offset ≡ length (file_of left.version ops)) → TakesRecord left op later
      → IsRefused (reply_at log limit after op now) fault → new ≡ now
      → HasOffered left start before now → Receives log limit after bytes start (record before { held = length new.held; fault = Some (fault, offset) }) new
  receives_until bytes left later op start before now new fault offset e at read why same h =
      let ops = h.ops ++ op ∷ [] in
      let taken = read.taken h.ops h.taken in
      let told : Option (Fault × ℕ) = Some (fault, offset) in
      let place : Some (fault, length (file_of left.version h.ops)) ≡ told = ap (λ n. Some (fault, n)) (sym (at h.ops h.taken)) in
      let whole = h.past (op ∷ []) Unread (none_accepted told now.held) new (inl (record {
        fault = fault;
        refused = why;
        counted = ap (λ t. none_accepted t now.held) (sym place);
        same = same;
      })) in record {
        ops = ops;
        offsets = offsets_from left.version 8 ops;
        behind = Unread;
        read = (left.version, subst (λ (ver : Version). IsBegunIn ver bytes ops) read.version (later.rest, sym e ∙ sym read.bytes ∙ taken.bytes, taken.are), refl);
        offers = subst (λ (r : Received). Offers log limit after ops (offsets_from left.version 8 ops) Unread start r new)
            (added_nothing before told now.held ∙ (λ i. record before { held = length (sym same i).held; fault = told })) whole;
      }

  -- at the file's first eight bytes
  pub receives_none : (bytes : List ℕ) (start : State Site) (fault : Fault) → head_of (take 8 bytes) ≡ Err fault
      → Receives log limit after bytes start (none_accepted (Some (fault, 0)) start.held) start
  receives_none bytes start fault e = record {
    ops = [];
    offsets = [];
    behind = AtEnd (Some (fault, 0));
    read = subst (λ found. ReadsAs found bytes [] [] (Some (fault, 0))) (sym e) (refl, refl, refl);
    offers = record { told = Some (fault, 0); ends = refl; counted = refl; same = refl };
  }
