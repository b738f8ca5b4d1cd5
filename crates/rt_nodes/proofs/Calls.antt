-- A call as one step of a walk: what the caller hands over, and what it has once the call is done. Assumes `Logic`.
use mathlib.Core.List.{List, ◌∷◌}
use base.Logic.{ent}
use denote.Triple.Call.{calls_at, calls_at_last}
use denote.Triple.Statement.{Contract, Triple}
use mir.Syntax.{Callee, Place, Opd, Body, seq, call}
use mir.Val.{Val}
use prog.Wp.{Env, Calls, Loops, Wp, after_seq}
use seplogic.Ra.Ura.{Ura}
use sound.WpLaws.{FmC}
use types.Kit.{Item, raw, later, mean, Post, post, any_q, Seq, runs, lands, settles, ◌$◌, use1, await}
use types.Logic.{Logic}
use types.Run.{Opds}

-- a callee's contract at one call, in the caller's words: `given` becomes what the callee asks, and what it leaves becomes `got`
pub record Deal {M : Type 1} {𝓤 : Ura M} (𝓛 : Logic 𝓤) (C : Calls 𝓤 𝓛.H) (f : Callee) : Type 2 where
  pub contract : Contract 𝓤
  pub meets : Triple 𝓤 (C f) contract
  pub at : contract.Ghost
  pub handed : Item 𝓤
  pub got : Val → Item 𝓤
  pub asks : ent 𝓤 (mean 𝓛 handed) (contract.pre at)
  pub leaves : (v : Val) → ent 𝓤 (contract.post at v) (mean 𝓛 (later (got v)))

module _ {M : Type 1} {𝓤 : Ura M} {𝓛 : Logic 𝓤} {K : Type 0} {Γ : List (Item 𝓤)} {E : Env 𝓤 𝓛.H} {C : Calls 𝓤 𝓛.H} {Λ : Loops 𝓤 𝓛.H} {q : Post 𝓤 𝓛.H} {f : Callee} {xs : List Opd} {d : Place} where
  pub deals : K → FmC 𝓤 𝓛.H 𝓛.laws C → {rest : Body} (D : Deal 𝓛 C f) → Opds K 𝓛 (raw (D.contract.pre D.at) ∷ Γ) E xs (D.contract.args D.at)
      → ((v : Val) → Seq K 𝓛 (D.got v ∷ Γ) (lands C Λ E d v rest q)) → Seq K 𝓛 (D.handed ∷ Γ) (runs C Λ E (seq (call f xs d) rest) q)
  deals t fm D os k = use1 𝓛 (raw (D.contract.pre D.at)) D.asks $ calls_at t fm D.contract D.meets D.at os (λ v. use1 𝓛 (later (D.got v)) (D.leaves v) $ await t tt $ k v)

  -- a call that ends its part, by a deal
  pub deals_last : K → FmC 𝓤 𝓛.H 𝓛.laws C → (D : Deal 𝓛 C f) → Opds K 𝓛 (raw (D.contract.pre D.at) ∷ Γ) E xs (D.contract.args D.at)
      → ((v : Val) → Seq K 𝓛 (D.got v ∷ Γ) (settles E d v q)) → Seq K 𝓛 (D.handed ∷ Γ) (runs C Λ E (call f xs d) q)
  deals_last t fm D os k = use1 𝓛 (raw (D.contract.pre D.at)) D.asks $ calls_at_last t fm D.contract D.meets D.at os (λ v. use1 𝓛 (later (D.got v)) (D.leaves v) $ await t tt $ k v)

-- how a part goes on that is no function's last: by the code behind it
abbrev pub goes_on : {M : Type 1} {𝓤 : Ura M} (𝓛 : Logic 𝓤) → Calls 𝓤 𝓛.H → Loops 𝓤 𝓛.H → Env 𝓤 𝓛.H → Body → Post 𝓤 𝓛.H → Post 𝓤 𝓛.H
goes_on {𝓤 = 𝓤} 𝓛 C Λ E rest q = any_q (after_seq 𝓤 𝓛.H (Wp 𝓤 𝓛.H C Λ E rest (post 𝓤 𝓛.H q)) (post 𝓤 𝓛.H q))
