-- What a block's memory is to the allocator, to a row and to a claim. Assumes `Logic`.
use mathlib.Core.Path.{◌≡◌, refl, ap, ◌∙◌}
use Prim.Native.Nat.{ℕ, zero, suc, ◌+◌, ◌-◌, ◌*◌, ◌≤◌, ◌<◌, ◌^◌}
use native.Mathlib.Omega.{arith}
use mathlib.Core.List.{List, [], ◌∷◌, ◌++◌}
use lib.ListN.{length}
use seplogic.Ra.Ura.{Ura}
use base.Fml.{froom, flft}
use base.Fraction.{full_share}
use base.Logic.{SProp, ent, emp, via}
use contract.BorrowLft.{◌⊑◌, ⊑_refl}
use contract.Monad.{Fun, fact, fact_i}
use denote.Array.{Array}
use denote.Builtin.{usize}
use denote.Memory.{part_at}
use denote.Param.{layout, param}
use denote.Param.Laws.{Laws}
use denote.Plain.{uint_Makes}
use denote.RattleType.{RattleType}
use denote.RawPtr.{Ptr, block_ptr}
use denote.Shadow.{makes_shadow, pure_l}
use denote.Steps.{nothing, owned}
use denote.Struct.Owning.{shape}
use denote.Struct.Struct.{Struct}
use mir.Raw.{raw as bare}
use mir.Syntax.{Ty, w64, ty_array}
use mir.Val.{Val, vint, vptr, vstruct, vcons, vnil, of_list}
use prog.Capped.{capped_is}
use prog.Memory.{Memory, size, align, capped}
use prog.RawLaws.{size-raw, align-raw}
use prog.Routine.{Routine}
use types.Kit.{Goal, Seq, Item, ‵, raw, ◌$◌, ◌∵◌, !, qed, by, move, keep, drop, use0, use1, join, rewrite, fsplit, fjoin, feq_i, flt_i, done}
use types.Logic.{Logic, sem}
use Rattle.core.proofs.alloc.Calls.{Al, token}
use Rattle.std_alloc.proofs.OfLodged.{lodging}
use Rattle.std_alloc.proofs.VecSteps.El.{El}
use Rattle.std_alloc.proofs.VecSteps.Opens.{blk_in, blk_out}
use Rattle.std_alloc.proofs.VecSteps.Rows.{empty, all_room}
use Rattle.std_alloc.specs.Vec.Ownership.{lodged}
use Rattle.std_collections.proofs.TreeMemory.Lodging.{Lodges, at_lodge}
use Rattle.rt_nodes.specs.contracts.claim.Claim as C

module _ (Y : RattleType) where
  abbrev pub bytes : ℕ
  bytes = size (layout Y)

  -- places for n entries, as the allocator sees them
  abbrev pub places_ty : ℕ → Ty
  places_ty n = bare (ty_array (layout Y) n)

  pub places_size : (n : ℕ) → n * bytes < 2 ^ 64 → capped (size (places_ty n)) ≡ n * bytes
  places_size n fits = ap capped (size-raw (ty_array (layout Y) n)) ∙ capped_is (n * bytes) fits

  pub places_align : (n : ℕ) → capped (align (places_ty n)) ≡ capped (align (layout Y))
  places_align n = ap capped (align-raw (ty_array (layout Y) n))

module _ (Y : RattleType) (L : Laws Y) {M : Type 1} {𝓤 : Ura M} (𝓛 : Logic 𝓤) (b o : ℕ) where
  open 𝓛 use {H}

  abbrev E : El
  E = lodging Y L

  -- places that no one has written are a row without entries
  row_of_places : (n : ℕ) → n * bytes Y < 2 ^ 63 → ent 𝓤 (H.room (ty_array (layout Y) n) b o) (sem 𝓛 (lodged (param 0 Y) (block_ptr b o) 0 n []))
  row_of_places zero small = qed 𝓛 (‵ (froom (ty_array (layout Y) zero) b o) ∷ []) ∵ drop ! $ nothing ! $ flt_i ! (zero * bytes Y) (2 ^ 63) small $ fjoin ! $ done !
  row_of_places (suc n) small =
      let all : suc n ≡ suc n - 0 = omega arith in let start : o ≡ o + 0 * bytes Y = omega arith in
      qed 𝓛 (‵ (froom (ty_array (layout Y) (suc n)) b o) ∷ []) ∵
      rewrite ! 0 (λ (k : ℕ). ‵ (froom (ty_array (layout Y) k) b o)) all refl $ rewrite ! 0 (λ (k : ℕ). ‵ (froom (ty_array (layout Y) (suc n - 0)) b k)) start refl $
      use0 𝓛 (‵ (part_at (Array (param 0 Y) 0) full_share [] b o)) (empty E 𝓛 [] b o refl) $ nothing ! $ move ! (1 ∷ 2 ∷ 0 ∷ []) $
      blk_in E ! (record {}) b o 0 (suc n) [] (omega arith) $ flt_i ! (suc n * bytes Y) (2 ^ 63) small $ fjoin ! $ done !

  -- and back
  places_of_row : (n : ℕ) → ent 𝓤 (sem 𝓛 (lodged (param 0 Y) (block_ptr b o) 0 n [])) (H.room (ty_array (layout Y) n) b o)
  places_of_row zero = qed 𝓛 (‵ (lodged (param 0 Y) (block_ptr b o) 0 zero []) ∷ []) ∵ drop ! $ by ! (𝓛.laws.room_nil (layout Y) b o)
  places_of_row (suc n) =
      qed 𝓛 (‵ (lodged (param 0 Y) (block_ptr b o) 0 (suc n) []) ∷ []) ∵ fsplit ! $ drop ! $ blk_out E ! (record {}) b o 0 (suc n) [] (omega arith) $
      keep ! (0 ∷ 1 ∷ []) $ by ! (all_room E 𝓛 b o 0 (suc n) [] (omega arith))

  -- what is left of a row without entries goes back
  pub vacated : (n : ℕ) → ent 𝓤 (sem 𝓛 (lodged (param 0 Y) (block_ptr b o) 0 n [])) (H.room (places_ty Y n) b o)
  vacated n = via 𝓤 (H.room (ty_array (layout Y) n) b o) (places_of_row n) (𝓛.laws.room-raw (ty_array (layout Y) n) b o)

  -- `lodge` may have what the allocator gave
  pub lodge_may : (at_mem : Memory → SProp 𝓤) (run : Routine → Fun 𝓤) (n : ℕ) → n * bytes Y < 2 ^ 63 → n < 2 ^ 63
      → ent 𝓤 (H.room (places_ty Y n) b o) ((Lodges Y 𝓛 at_mem run).pre (at_lodge Y 𝓛 at_mem run b o 0 n []))
  lodge_may at_mem run n small few =
      let Asked : Type 0 = (0 ≡ length {A = Y.Denot} []) × (0 ≤ n) × (n < 2 ^ 63) in let Outlives : Type 0 = [] ⊑ [] in
      qed 𝓛 (‵ (froom (places_ty Y n) b o) ∷ []) ∵
      use1 𝓛 (‵ (lodged (param 0 Y) (block_ptr b o) 0 n [])) (via 𝓤 (H.room (ty_array (layout Y) n) b o) (𝓛.laws.raw-room (ty_array (layout Y) n) b o) (row_of_places n small)) $
      -- the three arguments, then their owner's token, then what `lodge` asks of them
      use0 𝓛 (raw (fact 𝓤 Asked)) (fact_i 𝓤 Asked (emp 𝓤) (refl, omega arith, few)) $ join ! $ use0 𝓛 (raw (fact 𝓤 Outlives)) (fact_i 𝓤 Outlives (emp 𝓤) (⊑_refl [])) $ join ! $
      nothing ! $ owned ! usize _ (uint_Makes 𝓛 w64) n (vint w64 n ∷ []) (refl, omega arith) $ fjoin ! $ owned ! usize _ (uint_Makes 𝓛 w64) 0 (vint w64 0 ∷ []) (refl, omega arith) $ fjoin ! $
      feq_i ! (List Val) (vptr b o ∷ []) (vptr b o ∷ []) refl $ fjoin ! $
      nothing ! $ use0 𝓛 (‵ (flft [] full_share)) (𝓛.lfts.lft-nil full_share) $ join ! $ join ! $ done !

-- the machine value of a claim: it has no bytes
abbrev pub claim_val : Val
claim_val = vstruct (vcons (vstruct vnil) vnil)

module _ (Y : RattleType) (Z : Al) where
  abbrev pub Claimed : RattleType
  Claimed = C.the_row (param 0 Y) (param 1 Z.row) Z.g

  abbrev pub claim_on : Z.row.Denot → Ptr → ℕ → Claimed.Denot
  claim_on a p n = record { on = record {}; at = p; places = n; heap = a }

  abbrev Bare : RattleType
  Bare = Struct (shape (C.the_type (param 0 Y) (param 1 Z.row) Z.g))

  -- who has the right to free the memory makes a claim of it
  pub claimed : {M : Type 1} {𝓤 : Ura M} (𝓛 : Logic 𝓤) (a : Z.row.Denot) (p : Ptr) (n : ℕ)
      → ent 𝓤 (sem 𝓛 (token Z a (places_ty Y n) p)) (sem 𝓛 (Claimed.own_val (claim_on a p n) (claim_val ∷ [])))
  claimed {𝓤 = 𝓤} 𝓛 a p n =
      qed 𝓛 (‵ (token Z a (places_ty Y n) p) ∷ []) ∵
      use0 𝓛 (‵ (Bare.own_val (record {}, tt) (claim_val ∷ [])))
      (makes_shadow 𝓛 (Bare.own_val (record {}, tt) (claim_val ∷ [])) (λ vss. (tt, ((λ uss. (tt, tt)), tt))) ((vstruct vnil ∷ [], tt), (refl, ((tt, (refl, tt)), tt)))) $
      fjoin ! $ done !

  -- a claim is taken apart: the right to free the memory, and what the machine has of the claim
  pub claim_had : {M : Type 1} {𝓤 : Ura M} {𝓛 : Logic 𝓤} {K : Type 0} {Γ : List (Item 𝓤)} {G : Goal 𝓤 𝓛.H} → K → (d : Claimed.Denot) (vs : List Val)
      → (vs ≡ claim_val ∷ [] → Seq K 𝓛 (‵ (token Z d.heap (places_ty Y d.places) d.at) ∷ Γ) G) → Seq K 𝓛 (‵ (Claimed.own_val d vs) ∷ Γ) G
  claim_had t d vs k = fsplit t $ pure_l t (Bare.own_val (record {}, tt) vs) (λ s. k (s.1.0 ∙ (λ i. vstruct (of_list (s.1.1.0.1.0 i ++ [])) ∷ [])))
