-- `deallocate`: the row's memory comes out of it, and goes back with the claim. Assumes `Logic`.
use Rattle.std.proofs.Common.{◌≡◌, ℕ, ◌*◌, ◌^◌, ◌<◌, List, [], ◌∷◌, ◌++◌, length, refl, sym, ap, subst, ◌∙◌, arith, w64}
use base.Fml.{ftrue, flft, froom, Incl-trans}
use contract.BorrowLft.{◌⊑◌}
use contract.Monad.{fact}
use contract.Running.{tables}
use denote.Builtin.{RefOf, RawPtr, usize}
use denote.Exit.{yes, no}
use denote.Param.{layout, param, bounded}
use denote.RattleType.{owns}
use denote.RawPtr.{Ptr, ptr_val, block_ptr}
use denote.Signature.{plain, types_at}
use denote.Steps.{heard, nothing}
use denote.Triple.Table.{framed}
use denote.Triple.Walked.{Stays, walk_of, stay_dropped, Goes-dropped, ends_at}
use lib.Dec.{T as Holds}
use mir.MapTy.{inst_fn}
use mir.Syntax.{Args, Fn, a_type, dcons, dnil, ty_unit}
use mir.Val.{Val, WT, vint, vptr, vunit, has_ty}
use prog.Capped.{capped_fits}
use prog.Memory.{align, capped}
use prog.Wp.{Env, WpFn}
use types.ByLocal.{alloc_all, pass_all, free_all, look_at, get, is, sets, lands_as, lands_last, env}
use types.Kit.{‵, raw, ◌⊛◌, given, prop, at_ret, ◌$◌, ◌∵◌, !, qed, move, keep, drop, use1, split, join, group, learn, regoal, rewrite, fsplit, fjoin, feq_i, suffices, done}
use types.Run.{of_opd, unit_lit, bin, size_word, align_word, no_more, and_then, first, blocks, exec, returns, enter}
use Rattle.core.proofs.alloc.Calls.{Al, seen, gives_key, Gives, at_gives, Gives-goes, Gives-Gives}
use Rattle.core.proofs.alloc.Shapes.{after}
use Rattle.core.proofs.mem.Timeless.{timeless, timeless_laws}
use Rattle.core.proofs.slots.Leases.{uncapped}
use Rattle.std.proofs.raw_atomic.Walks.{proved_at}
use Rattle.std_alloc.proofs.OfLodged.{lodging}
use Rattle.std_alloc.proofs.VecSteps.El.{El, vec_val, vec_typed}
use Rattle.std_alloc.proofs.VecSteps.Opens.{vec_had, vec_made}
use Rattle.std_alloc.proofs.vec.lodged.Vec+T+Lodged.dislodge.Met as dislodge
use Rattle.std_alloc.specs.Vec.Ownership.{lodged}
use Rattle.std_collections.proofs.TreeMemory.Lodging.{Row, dislodge_key, Dislodges, at_dislodge, dislodge_goes, dislodge_gives}
use Rattle.rt_nodes.proofs.Calls.{Deal, deals, deals_last}
use Rattle.rt_nodes.proofs.Places.{bytes, places_ty, places_size, places_align, vacated, claim_val, Claimed, claim_had}
use Rattle.rt_nodes.proofs.raw.deallocate.Code as code
use Rattle.rt_nodes.proofs.raw.deallocate.Statement.{statement}
use Rattle.rt_nodes.specs.Claims.{IsClaimOn}
use Rattle.rt_nodes.specs.contracts.raw.deallocate as f

pub deallocate_spec : {M : Type 1} → statement M
deallocate_spec 𝓤 𝓛 𝓜 𝓡 wired Y X LY LX g d dd met md =
    let Z : Al = record { row = X; laws = LX; g = g; d = d; drops = dd } in
    let T = f.ended Y X g d dd in let c = f.clauses Y X g d dd 𝓛 𝓜.mem 𝓡.returns in
    let args : Args = bounded (a_type ∷ a_type ∷ []) (Y, (X, tt)) (dcons d (dcons dd dnil)) in let fn : Fn = inst_fn args code.function in
    let 𝓣 = tables 𝓤 𝓛.H 𝓜 𝓡 𝓡.env in let fm = framed 𝓤 𝓛.H 𝓜 𝓣 in
    let heap = RefOf (0 ∷ []) tt (plain (λ _. param 1 X)) (λ _. tt) in let start = plain (λ _. RawPtr) in let number = plain (λ _. usize) in
    let given_row = plain (λ _. Row (param 0 Y)) in let given_claim = plain (λ _. Claimed Y Z) in
    let stayed : Stays T.signature.params T.kept = (stay_dropped heap yes, (stay_dropped start yes, (stay_dropped number yes, (stay_dropped given_row no, (stay_dropped given_claim no, tt))))) in
    let W = walk_of 𝓛 T stayed c in
    proved_at 𝓛 T stayed c 𝓜 𝓡 (
      Goes-dropped 𝓛 3 heap yes (λ κs x w. refl),
      (Goes-dropped 𝓛 3 start yes (λ κs x w. refl), (Goes-dropped 𝓛 3 number yes (λ κs x w. refl), (Goes-dropped 𝓛 3 given_row no (λ κs x w. refl), (Goes-dropped 𝓛 3 given_claim no (λ κs x w. refl), tt)))),
    )
    (f.Key.name args) fn (code.unfolded 𝓤 𝓛.H 𝓜 𝓡 wired (Y, (X, tt)) d dd) (λ y are.
    let κ = y.0.0.0 in let κ₁ = y.0.0.1.0 in let κ₂ = y.0.0.1.1.0 in let q = y.0.1.0 in let q₁ = y.0.1.1.0 in let q₂ = y.0.1.1.1.0 in
    let at = y.0.3.0.ref_ptr in let h = y.0.3.0.now in let p = y.0.3.1.0 in let n = y.0.3.1.1.0 in let row = y.0.3.1.1.1.0 in let claim = y.0.3.1.1.1.1.0 in
    let word : n < 2 ^ 64 = are.1.1.0.1 in let E : El = lodging Y LY in
    let Lasts : Type 0 = κ₂ ⊑ X.lives in let Empty : Type 0 = row.items ≡ [] in let Whole : Type 0 = (row.ptr ≡ p) × (row.cap ≡ n) × IsClaimOn claim row h in
    let others = ‵ (flft κ₁ q₁) ⊛ ‵ (flft κ₂ q₂) ⊛ ‵ ftrue in
    qed 𝓛 (((‵ (flft κ q) ⊛ others) ⊛ ‵ (owns (types_at T.signature.params y.0.0) y.0.3 y.0.4))
    ∷ (raw (fact 𝓤 (κ₁ ⊑ Y.lives)) ⊛ raw (fact 𝓤 Lasts) ⊛ raw (fact 𝓤 Empty) ⊛ raw (fact 𝓤 Whole)) ∷ []) ∵
    move ! (1 ∷ []) $ split ! $ drop ! $ split ! $ heard ! Lasts (λ lasts. split ! $ heard ! Empty (λ none. heard ! Whole (λ whole. split ! $ split ! $
    move ! (2 ∷ []) $ fsplit ! $ fsplit ! $ drop ! $ move ! (1 ∷ []) $ fsplit ! $ drop ! $ fsplit ! $ drop ! $ fsplit ! $
    -- [the row; the claim; the handle; its token; the other tokens]
    vec_had E ! row y.0.4.1.1.1.0 (λ b o hv starts is_row few word₂ small typed. vec_made E ! row b o row.len row.cap row.items (starts, refl, refl, refl) few word₂ small $
    move ! (1 ∷ []) $ fsplit ! $ claim_had Y Z ! claim y.0.4.1.1.1.1.0 (λ is_claim.
    rewrite ! 0 (λ (u : X.Denot × ℕ × Ptr). ‵ (g.dealloc_token u.0 (places_ty Y u.1) u.2)) (λ i. (whole.2.from i, (whole.2.places ∙ whole.1) i, (whole.2.at ∙ starts) i)) refl $
    keep ! (2 ∷ 0 ∷ 3 ∷ 4 ∷ 5 ∷ []) $
    -- [the row; the right to free its memory; the handle; its token; the other tokens]
    let x : Val = vec_val E hv b o row.len row.cap in let gx = vec_typed E hv b o row.len row.cap typed few word₂ in
    regoal ! (λ (us : List Val). prop (WpFn 𝓤 𝓛.H 𝓣.C 𝓣.Λ fn us (W.post y)))
    (λ i. are.0.0 i ++ ((are.1.0 ∙ ap (λ (r : Ptr). ptr_val r ∷ []) (sym whole.0 ∙ starts)) i ++ (are.1.1.0.0 i ++ (is_row i ++ (is_claim i ++ []))))) refl $
    enter ! 𝓣.C 𝓣.Λ fn (vptr at.0 at.1 ∷ vptr b o ∷ vint w64 n ∷ x ∷ claim_val ∷ []) _ $
    alloc_all ! (λ l. pass_all ! refl ((tt, tt), ((tt, tt), ((tt, record { fits = word }), (gx, ((tt, (tt, tt)), tt))))) $
    let En : Env 𝓤 𝓛.H = env fn.locals l in
    let size : n * bytes Y < 2 ^ 64 = omega (arith, subst (λ (k : ℕ). k * bytes Y < 2 ^ 63) whole.1 small) in let is_size = uncapped n (bytes Y) size in let al : ℕ = capped (align (layout Y)) in
    let left : Deal 𝓛 𝓣.C (dislodge_key Y) = record {
      contract = Dislodges Y 𝓛 𝓜.mem 𝓡.returns;
      meets = dislodge.met 𝓤 𝓛 𝓜 𝓡 (code.calls-std_alloc::vec::lodged::Vec+T+Lodged::dislodge 𝓡.env wired) (timeless Y) (timeless_laws Y LY);
      at = at_dislodge Y 𝓛 𝓜.mem 𝓡.returns row x;
      handed = ‵ ((Row (param 0 Y)).own_val row (x ∷ []));
      got = λ u. given ((u ≡ vint w64 row.len) × (row.len < 2 ^ 64)) (‵ (lodged (param 0 Y) row.ptr row.len row.cap row.items));
      asks = dislodge_goes Y 𝓛 𝓜.mem 𝓡.returns row x;
      leaves = dislodge_gives Y 𝓛 𝓜.mem 𝓡.returns row x;
    } in
    let freed : Deal 𝓛 𝓣.C (gives_key Z) = record {
      contract = Gives Z 𝓛 𝓜.mem 𝓡.returns;
      meets = met.deallocate dd;
      at = at_gives Z 𝓛 𝓜.mem 𝓡.returns κ q at h b o (n * bytes Y) al (places_ty Y n);
      handed = ‵ (froom (places_ty Y n) b o) ⊛ ‵ (g.dealloc_token h (places_ty Y n) (block_ptr b o)) ⊛ ‵ (seen Z κ at h) ⊛ ‵ (flft κ q);
      got = λ v. given (v ≡ vunit) (‵ (flft κ q));
      asks = Gives-goes Z 𝓛 𝓜.mem 𝓡.returns κ q at h (Incl-trans y.0.2.0 lasts) b o (n * bytes Y) al (places_ty Y n) (places_size Y n size) (places_align Y n) size (capped_fits (align (layout Y)));
      leaves = Gives-Gives Z 𝓛 𝓜.mem 𝓡.returns κ q at h b o (n * bytes Y) al (places_ty Y n);
    } in
    sets ! (of_opd ! (get ! refl)) refl gx $ deals ! fm left (and_then ! (get ! refl) (no_more !)) (λ u. learn ! (λ many. lands_as ! many.0 refl (tt, record { fits = many.1 }) $
    rewrite ! 0 (λ (t : Ptr × ℕ × ℕ × List Y.Denot). ‵ (lodged (param 0 Y) t.0 t.1 t.2 t.3)) (λ i. (starts i, (row.ok.0 ∙ ap length none) i, whole.1 i, none i)) refl $
    use1 𝓛 (‵ (froom (places_ty Y n) b o)) (vacated Y LY 𝓛 b o n) $
    first ! $ blocks ! $ sets ! (of_opd ! (get ! refl)) refl (tt, tt) $
    sets ! (is ! (bin ! (get ! refl) (size_word !) (record { fits = subst (λ (k : ℕ). k < 2 ^ 64) (sym is_size) size })) (ap (vint w64) is_size)) refl (tt, record { fits = size }) $
    group ! 4 $ deals_last ! fm freed (and_then ! (get ! refl) (and_then ! (get ! refl) (and_then ! (get ! refl) (and_then ! (align_word !) (no_more !))))) (λ v. learn ! (λ e.
    lands_last ! refl (subst (λ (r : Val). Holds (has_ty ty_unit r) × WT r) (sym e) (tt, tt)) $ exec ! 𝓣.C 𝓣.Λ En (after 3 fn.body) (at_ret En (W.post y)) $
    sets ! (of_opd ! (unit_lit !)) refl (tt, tt) $ returns ! (look_at ! 0 refl) $ free_all ! refl $
    suffices ! _ (ends_at 𝓛 T stayed c y vunit tt (tt, (tt, (tt, (tt, (tt, tt))))) (tt, (tt, (tt, (tt, (tt, tt)))))) $
    join ! $ feq_i ! (List Val) (vunit ∷ []) (vunit ∷ []) refl $ nothing ! $ nothing ! $ fjoin ! $ nothing ! $ fjoin ! $ nothing ! $ fjoin ! $ nothing ! $ fjoin ! $ nothing ! $ fjoin ! $
    move ! (2 ∷ 0 ∷ 1 ∷ []) $ group ! 3 $ nothing ! $ move ! (1 ∷ 0 ∷ []) $ done !)))))))))))
