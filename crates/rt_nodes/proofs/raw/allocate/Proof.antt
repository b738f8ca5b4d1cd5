-- `allocate`: the allocator's places become a row without entries, and its right to free them a claim. Assumes `Logic`.
use Rattle.std.proofs.Common.{◌≡◌, ℕ, ◌*◌, ◌^◌, ◌<◌, List, [], ◌∷◌, ◌++◌, refl, sym, ap, subst, arith, lit<, w64, true, false}
use base.Fml.{ftrue, flft, froom, Incl-trans}
use contract.BorrowLft.{◌⊑◌}
use contract.Monad.{fact}
use contract.Running.{tables}
use denote.Builtin.{RefOf, usize}
use denote.Exit.{yes}
use denote.Param.{layout, param, bounded}
use denote.Param.Laws.{param_laws}
use denote.RattleType.{RattleType, owns}
use denote.RawPtr.{block_ptr}
use denote.Signature.{plain, types_at}
use denote.Steps.{heard, nothing, only}
use denote.Struct.Struct.{Struct-Makes}
use denote.Struct.Tuple.{Tuple}
use denote.Struct.Declared as Declared
use denote.Triple.Table.{framed}
use denote.Triple.Walked.{Stays, walk_of, stay_dropped, Goes-dropped, ends_at, says}
use mir.MapTy.{inst_fn}
use mir.Syntax.{Args, Body, Fn, a_type, dcons, dnil}
use mir.Val.{Val, WT, vint, vptr, vstruct, vcons, vnil}
use prog.Capped.{capped_fits}
use prog.Memory.{align, capped}
use prog.Wp.{Env, WpFn}
use types.ByLocal.{alloc_all, pass_all, free_all, look_at, get, get_in, get_tag, is, sets, sets_last, lands_as, lands_last, env}
use types.Kit.{Sq, ‵, raw, ◌⊛◌, some, given, prop, at_ret, ◌$◌, ◌∵◌, !, qed, move, keep, drop, use0, use1, use2, split, join, pick, learn, regoal, rewrite, fsplit, fjoin, suffices, done}
use types.Match.{live, vrt, in_variant}
use types.Part.{whole, agg}
use types.Run.{stop, fld, lit, of_opd, bin, size_word, align_word, no_more, and_then, first, blocks, switches_on, exec, returns, enter}
use Rattle.core.proofs.alloc.Calls.{Al, seen, Takes, at_takes, Takes-goes, Takes-gives, Answered, answers, Answer-typed, takes_key}
use Rattle.core.proofs.alloc.Shapes.{after, head, arm_body}
use Rattle.core.proofs.mem.Timeless.{timeless, timeless_laws}
use Rattle.core.proofs.slots.Leases.{uncapped}
use Rattle.core.specs.Result.{IfOk}
use Rattle.core.specs.contracts.alloc.AllocError as AE
use Rattle.core.specs.contracts.result.Result as RS
use Rattle.core.specs.declared.result.Result.TheVariants.{Ok, Err}
use Rattle.std.proofs.raw_atomic.Walks.{proved_at}
use Rattle.std_alloc.proofs.Pairs.{pair_val, pair_Typed, pair_of}
use Rattle.std_alloc.proofs.ResultValues.{and_tt, ok_val, ok_of, err_of}
use Rattle.std_alloc.proofs.vec.lodge.Met as lodge
use Rattle.std_alloc.specs.Vec.Ownership.{FitsInBlock}
use Rattle.std_alloc.specs.declared.vec.Vec.{Vec}
use Rattle.std_alloc.specs.declared.vec.lodged.Lodged.{Lodged}
use Rattle.std_collections.proofs.TreeMemory.Lodging.{Row, row_laws, Good, lodge_key, tells, Lodges, at_lodge, Lodged_as, lodge_gives}
use Rattle.rt_nodes.proofs.Calls.{Deal, deals, deals_last, goes_on}
use Rattle.rt_nodes.proofs.Places.{bytes, places_ty, places_size, places_align, lodge_may, claim_val, Claimed, claim_on, claimed}
use Rattle.rt_nodes.proofs.raw.allocate.Code as code
use Rattle.rt_nodes.proofs.raw.allocate.Statement.{statement}
use Rattle.rt_nodes.specs.Claims.{IsClaimOn}
use Rattle.rt_nodes.specs.contracts.raw.allocate as f

pub allocate_spec : {M : Type 1} → statement M
allocate_spec 𝓤 𝓛 𝓜 𝓡 wired Y X LY LX g d dd met md =
    let Z : Al = record { row = X; laws = LX; g = g; d = d; drops = dd } in
    let T = f.ended Y X g d dd in let c = f.clauses Y X g d dd 𝓛 𝓜.mem 𝓡.returns in
    let args : Args = bounded (a_type ∷ a_type ∷ []) (Y, (X, tt)) (dcons d (dcons dd dnil)) in let fn : Fn = inst_fn args code.function in
    let 𝓣 = tables 𝓤 𝓛.H 𝓜 𝓡 𝓡.env in let fm = framed 𝓤 𝓛.H 𝓜 𝓣 in
    let heap = RefOf (0 ∷ []) tt (plain (λ _. param 1 X)) (λ _. tt) in let number = plain (λ _. usize) in
    let stayed : Stays T.signature.params T.kept = (stay_dropped heap yes, (stay_dropped number yes, tt)) in
    let W = walk_of 𝓛 T stayed c in
    proved_at 𝓛 T stayed c 𝓜 𝓡 (Goes-dropped 𝓛 3 heap yes (λ κs x w. refl), (Goes-dropped 𝓛 3 number yes (λ κs x w. refl), tt))
    (f.Key.name args) fn (code.unfolded 𝓤 𝓛.H 𝓜 𝓡 wired (Y, (X, tt)) d dd) (λ y are.
    let κ = y.0.0.0 in let κ₁ = y.0.0.1.0 in let κ₂ = y.0.0.1.1.0 in let q = y.0.1.0 in let q₁ = y.0.1.1.0 in let q₂ = y.0.1.1.1.0 in
    let at = y.0.3.0.ref_ptr in let h = y.0.3.0.now in let n = y.0.3.1.0 in let word : n < 2 ^ 64 = are.1.0.1 in
    let Fits : Type 0 = FitsInBlock (param 0 Y) n in let Lasts : Type 0 = κ₂ ⊑ X.lives in
    let others = ‵ (flft κ₁ q₁) ⊛ ‵ (flft κ₂ q₂) ⊛ ‵ ftrue in
    let Lies : RattleType = Row (param 0 Y) in let Pair : RattleType = Tuple (Lies ∷ Claimed Y Z ∷ []) in let Out : RattleType = RS.the_row Pair AE.the_row in
    let Promised : Out.Denot → Type 0 = λ r. IfOk r (λ p. (p.0.items ≡ []) × (p.0.cap ≡ n) × IsClaimOn p.1 p.0 h) in
    -- both arms end with [what is answered; the token of the handle; the other tokens]
    let ends : (r : Out.Denot) (v : Val) → Promised r → Sq 𝓛 (‵ (Out.own_val r (v ∷ [])) ∷ ‵ (flft κ q) ∷ others ∷ []) (prop (W.post y v)) = λ r v kept.
    suffices ! _ (ends_at 𝓛 T stayed c y v r (tt, (tt, tt)) (tt, (tt, tt))) $ says ! kept $
    move ! (1 ∷ 2 ∷ []) $ join ! $ nothing ! $ nothing ! $ fjoin ! $ nothing ! $ fjoin ! $ move ! (1 ∷ 0 ∷ 2 ∷ []) $ done ! in
    qed 𝓛 (((‵ (flft κ q) ⊛ others) ⊛ ‵ (owns (types_at T.signature.params y.0.0) y.0.3 y.0.4)) ∷ (raw (fact 𝓤 (κ₁ ⊑ Y.lives)) ⊛ raw (fact 𝓤 Lasts) ⊛ raw (fact 𝓤 Fits)) ∷ []) ∵
    move ! (1 ∷ []) $ split ! $ drop ! $ split ! $ heard ! Lasts (λ lasts. heard ! Fits (λ fits. split ! $ split ! $
    move ! (2 ∷ []) $ fsplit ! $ fsplit ! $ keep ! (1 ∷ 3 ∷ 4 ∷ []) $
    regoal ! (λ (us : List Val). prop (WpFn 𝓤 𝓛.H 𝓣.C 𝓣.Λ fn us (W.post y))) (λ i. are.0.0 i ++ (are.1.0.0 i ++ [])) refl $
    enter ! 𝓣.C 𝓣.Λ fn (vptr at.0 at.1 ∷ vint w64 n ∷ []) _ $ alloc_all ! (λ l. pass_all ! refl ((tt, tt), ((tt, record { fits = word }), tt)) $
    let En : Env 𝓤 𝓛.H = env fn.locals l in let choice : Body = head (after 2 fn.body) in
    let on = goes_on 𝓛 𝓣.C 𝓣.Λ En (after 3 fn.body) (at_ret En (W.post y)) in
    let size : n * bytes Y < 2 ^ 64 = omega (arith, fits.0) in let is_size = uncapped n (bytes Y) size in let al : ℕ = capped (align (layout Y)) in
    let asked : Deal 𝓛 𝓣.C (takes_key Z) = record {
      contract = Takes Z 𝓛 𝓜.mem 𝓡.returns;
      meets = met.allocate dd;
      at = at_takes Z 𝓛 𝓜.mem 𝓡.returns κ q at h (n * bytes Y) al (places_ty Y n);
      handed = ‵ (seen Z κ at h) ⊛ ‵ (flft κ q);
      got = λ v. raw (Answered Z 𝓛 𝓜.mem 𝓡.returns h (places_ty Y n) v) ⊛ ‵ (flft κ q);
      asks = Takes-goes Z 𝓛 𝓜.mem 𝓡.returns κ q at h (Incl-trans y.0.2.0 lasts) (n * bytes Y) al (places_ty Y n) (places_size Y n size) (places_align Y n) size (capped_fits (align (layout Y)));
      leaves = Takes-gives Z 𝓛 𝓜.mem 𝓡.returns κ q at h (n * bytes Y) al (places_ty Y n);
    } in
    -- [the handle and its token; the other tokens]
    join ! $ sets ! (is ! (bin ! (get ! refl) (size_word !) (record { fits = subst (λ (k : ℕ). k < 2 ^ 64) (sym is_size) size })) (ap (vint w64) is_size)) refl (tt, record { fits = size }) $
    deals ! fm asked (and_then ! (get ! refl) (and_then ! (get ! refl) (and_then ! (align_word !) (no_more !)))) (λ v. split ! $ answers Z ! 𝓜.mem 𝓡.returns h (places_ty Y n) v
    (λ b o e.
    let laid : Deal 𝓛 𝓣.C (lodge_key Y) = record {
      contract = Lodges Y 𝓛 𝓜.mem 𝓡.returns;
      meets = lodge.met 𝓤 𝓛 𝓜 𝓡 (code.calls-std_alloc::vec::lodge 𝓡.env wired) (timeless Y) (timeless_laws Y LY);
      at = at_lodge Y 𝓛 𝓜.mem 𝓡.returns b o 0 n [];
      handed = ‵ (froom (places_ty Y n) b o);
      got = λ u. some (λ (r : Vec Y.Denot Lodged). given (Lodged_as Y 𝓛 𝓜.mem 𝓡.returns b o 0 n [] r) (‵ (Lies.own_val r (u ∷ []))));
      asks = lodge_may Y LY 𝓛 b o 𝓜.mem 𝓡.returns n fits.0 fits.1;
      leaves = lodge_gives Y 𝓛 𝓜.mem 𝓡.returns b o 0 n [];
    } in
    -- [the places; the right to free them; the tokens]
    lands_as ! e refl (Answer-typed true b o) $ first ! $ switches_on ! (get_tag ! (vrt ! refl (fld ! refl (stop !))) (whole !)) $ exec ! 𝓣.C 𝓣.Λ En (arm_body 0 choice) on $
    sets ! (of_opd ! (get_in ! (vrt ! refl (fld ! refl (stop !))) (in_variant ! 0 0 refl refl (whole !)))) refl (tt, tt) $ first ! $ blocks ! $ sets ! (of_opd ! (get ! refl)) refl (tt, tt) $
    deals_last ! fm laid (and_then ! (get ! refl) (and_then ! (lit ! tt) (and_then ! (get ! refl) (no_more !)))) (λ u. pick ! (λ row. learn ! (λ lies.
    tells ! Lies (row_laws (param 0 Y) (param_laws 0 Y LY)) row (u ∷ []) (λ x is_x gx.
    let gu : Good Lies u = subst (Good Lies) (sym (ap only is_x)) gx in let claim = claim_on Y Z h (block_ptr b o) n in let v₂ : Val = pair_val u claim_val in
    let g₂ = pair_Typed (layout Lies) (layout (Claimed Y Z)) u claim_val gu (tt, (tt, tt)) in
    let g₃ : Good Out (ok_val v₂) = (and_tt _ g₂.0, (record { fits = lit< tt }, (g₂.1, tt))) in
    rewrite ! 0 (λ (us : List Val). ‵ (Lies.own_val row us)) (sym is_x) refl $ move ! (1 ∷ []) $
    use1 𝓛 (‵ ((Claimed Y Z).own_val claim (claim_val ∷ []))) (claimed Y Z 𝓛 h (block_ptr b o) n) $ move ! (1 ∷ 0 ∷ []) $
    use2 𝓛 (‵ (Pair.own_val (row, claim) (v₂ ∷ []))) (pair_of 𝓛 Lies (Claimed Y Z) row claim u claim_val) $
    use1 𝓛 (‵ (Out.own_val (Ok (row, claim)) (ok_val v₂ ∷ []))) (ok_of 𝓛 Pair AE.the_row (row, claim) v₂) $
    -- [what is answered; the tokens]
    lands_last ! refl gu $ exec ! 𝓣.C 𝓣.Λ En (after 2 (arm_body 0 choice)) on $
    sets ! (of_opd ! (get ! refl)) refl gu $ sets ! (of_opd ! (get ! refl)) refl gu $ sets ! (agg ! (no_more !)) refl (tt, tt) $ sets ! (agg ! (and_then ! (get ! refl) (no_more !))) refl (tt, (tt, tt)) $
    sets ! (agg ! (and_then ! (get ! refl) (and_then ! (get ! refl) (no_more !)))) refl g₂ $ sets_last ! (agg ! (and_then ! (lit ! tt) (and_then ! (get ! refl) (no_more !)))) refl g₃ $
    exec ! 𝓣.C 𝓣.Λ En (after 3 fn.body) (at_ret En (W.post y)) $ sets ! (of_opd ! (get ! refl)) refl g₃ $ returns ! (look_at ! 0 refl) $ free_all ! refl $
    ends (Ok (row, claim)) (ok_val v₂) (lies.0, lies.2, record { at = sym lies.3; places = sym lies.2; from = refl }))))))
    (λ e.
    let v₁ : Val = live 1 (vcons (vstruct vnil) vnil) in let g₁ : WT v₁ = (record { fits = lit< tt }, (tt, tt)) in
    -- [the tokens]
    lands_as ! e refl (Answer-typed false 0 0) $ first ! $ switches_on ! (get_tag ! (vrt ! refl (fld ! refl (stop !))) (whole !)) $ exec ! 𝓣.C 𝓣.Λ En (arm_body 1 choice) on $
    sets ! (of_opd ! (get_in ! (vrt ! refl (fld ! refl (stop !))) (in_variant ! 1 0 refl refl (whole !)))) refl (tt, tt) $
    sets_last ! (agg ! (and_then ! (lit ! tt) (and_then ! (get ! refl) (no_more !)))) refl (tt, g₁) $
    exec ! 𝓣.C 𝓣.Λ En (after 3 fn.body) (at_ret En (W.post y)) $ sets ! (of_opd ! (get ! refl)) refl (tt, g₁) $ returns ! (look_at ! 0 refl) $ free_all ! refl $
    use0 𝓛 (‵ (AE.the_row.own_val (record {}) (vstruct vnil ∷ []))) (Struct-Makes 𝓛 (Declared.shape AE.the_type) tt tt (vstruct vnil ∷ []) (tt, (refl, tt))) $
    use1 𝓛 (‵ (Out.own_val (Err (record {})) (v₁ ∷ []))) (err_of 𝓛 Pair AE.the_row (record {}) (vstruct vnil)) $
    ends (Err (record {})) v₁ tt))))))
