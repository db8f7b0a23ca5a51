-- The last position of each function of the module of a number is live.
use Rattle.std.proofs.Common.{◌≡◌, ℕ, suc, ◌+◌, ◌<◌, List, ◌++◌, Bool, Some, slice_get, refl, ap, arith}
use Rattle.wasm_types.specs.declared.instr.Instr.{Instr}
use Rattle.wasm_types.specs.declared.place.Node.{Node}
use Rattle.wasm_types.specs.Actions.{Callees}
use Rattle.wasm_types.specs.Code.{Code, code_of, count, onto}
use Rattle.wasm_types.specs.Labels.{Label}
use Rattle.wasm_types.specs.Marked.{marked}
use Rattle.wasm_types.specs.Sites.{Site, sites}
use Rattle.module_mill.specs.Mill.{adds, call, code, stores, sum}
use Rattle.module_mill.proofs.Milled.{counting, of_code}

-- there is a last position, and something stands there, wherever the sequence stands and whatever is watched
abbrev pub LastLive : Code → Type 0
LastLive c =
    (j : ℕ) × (count c ≡ suc j)
    × ((cs : Callees) (watched : ℕ → Bool) (around : List Label) (k : Node) (p q : ℕ) (names : List Node)
    → (s : Site) × (slice_get (sites cs around k (marked watched p c) q names) j ≡ Some (Some s)))

sum_live : LastLive (code_of sum)
unfolding onto
sum_live = (2, refl, λ cs watched around k p q names. (_, refl))

call_live : (j : ℕ) (rest : List Instr) → LastLive (code_of rest) → LastLive (code_of (call j ++ rest))
unfolding onto
call_live j rest h = (suc (suc (suc (suc h.0))), omega (arith, h.1), λ cs watched around k p q names. h.2 cs watched around k _ _ _)

adds_live : (c : ℕ) (rest : List Instr) → LastLive (code_of rest) → LastLive (code_of (adds c ++ rest))
unfolding onto
adds_live c rest h = (suc (suc (suc (suc h.0))), omega (arith, h.1), λ cs watched around k p q names. h.2 cs watched around k _ _ _)

stores_live : (rest : List Instr) → LastLive (code_of rest) → LastLive (code_of (stores ++ rest))
unfolding onto
stores_live rest h = (suc (suc (suc (suc (suc h.0)))), omega (arith, h.1), λ cs watched around k p q names. h.2 cs watched around k _ _ _)

counts_live : (from : ℕ) (rest : Code) → LastLive rest → LastLive (counting from rest)
unfolding onto
counts_live from rest h = (
  suc (suc (suc (suc (suc (suc (suc (suc (suc (suc (suc (suc h.0))))))))))),
  omega (arith, h.1),
  λ cs watched around k p q names. h.2 cs watched around k _ _ _,
)

pub last_live : (f : ℕ) → LastLive (code_of (code f))
last_live f =
    of_code (suc f) LastLive LastLive LastLive sum_live (λ c h. h) (λ j rest lt h. call_live j rest h) (λ c rest lt h. adds_live c rest h) stores_live
    (λ k rest lt h. counts_live k rest h) f (omega arith)
