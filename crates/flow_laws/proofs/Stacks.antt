-- The relation of stacks, and what drops and zero constants do in the slice.
use Rattle.std.proofs.Common.{◌≡◌, ℕ, zero, suc, ◌+◌, ◌≤◌, List, [], ◌∷◌, ◌++◌, Bool, true, false, Option, Some, None, take, drop, length, refl, sym, ap, ap₂, subst, arith, true≢false}
use Rattle.wasm_types.specs.Marked.{Marked, Do}
use Rattle.wasm_types.specs.declared.module.ValType.{ValType}
use Rattle.wasm_types.specs.declared.module.Value.{Value}
use Rattle.wasm_meaning.specs.State.{Store}
use Rattle.wasm_meaning.specs.Effects.{Fixed}
use Rattle.wasm_meaning.specs.Run.{Here, Below, run}
use Rattle.wasm_types.specs.Labels.{arity}
use Rattle.wasm_meaning.specs.Invoke.{zero_value}
use Rattle.wasm_types.specs.declared.place.Node.{Node}
use Rattle.wasm_types.specs.Nodes.{named, AllIn}
use Rattle.flow_domain.specs.Cut.{pick, one_more, shown, zero_const, drops, zeros, filler, result_of}
use Rattle.flow_laws.proofs.Closed.{Matches}
use Rattle.flow_laws.proofs.Simulates.{RelOne, Rel}
use Rattle.wasm_types.specs.declared.module.ValType.TheVariants as type

abbrev pub at : List Value → Store → Here
at s st = record { stack = s; store = st }

pub pick_true : (b : Bool) (x y : Marked) → b ≡ true → pick b x y ≡ x
pick_true true x y e = refl
pick_true false x y e = absurd (true≢false (sym e))

pub pick_false : (b : Bool) (x y : Marked) → b ≡ false → pick b x y ≡ y
pick_false true x y e = absurd (true≢false e)
pick_false false x y e = refl

pub run_drops : (Z : Fixed) (b : Below) (ls : List ℕ) (n : ℕ) (c : Marked) (s : List Value) (st : Store) → n ≤ length s
    → run Z b ls (drops n c) (at s st) ≡ run Z b ls c (at (drop n s) st)
run_drops Z b ls zero c s st le = refl
run_drops Z b ls (suc n) c [] st le = absurd (omega arith)
run_drops Z b ls (suc n) c (v ∷ s) st le = run_drops Z b ls n c s st (omega arith)

-- a zero constant leaves the zero of its type
pub run_zero : (Z : Fixed) (b : Below) (ls : List ℕ) (t : ValType) (c : Marked) (s : List Value) (st : Store)
    → run Z b ls (Do false (zero_const t) c) (at s st) ≡ run Z b ls c (at (zero_value t ∷ s) st)
run_zero Z b ls type.I32 c s st = refl
run_zero Z b ls type.I64 c s st = refl
run_zero Z b ls type.F32 c s st = refl
run_zero Z b ls type.F64 c s st = refl

abbrev pub zeros_on : Option ValType → List Value → List Value
zeros_on None s = s
zeros_on (Some t) s = zero_value t ∷ s

pub run_zeros : (Z : Fixed) (b : Below) (ls : List ℕ) (t : Option ValType) (c : Marked) (s : List Value) (st : Store)
    → run Z b ls (zeros t c) (at s st) ≡ run Z b ls c (at (zeros_on t s) st)
run_zeros Z b ls None c s st = refl
run_zeros Z b ls (Some t) c s st = run_zero Z b ls t c s st

pub length-zeros_on : (t : Option ValType) (s : List Value) → length (zeros_on t s) ≡ arity t + length s
length-zeros_on None s = omega arith
length-zeros_on (Some t) s = omega arith

abbrev pub fill_one : Bool → ValType → List Value → List Value
fill_one true t s = zero_value t ∷ s
fill_one false t s = s

abbrev pub filled : (Node → Bool) → Option ValType → Node → List Value → List Value
filled P None d s = s
filled P (Some t) d s = fill_one (P d) t s

run_pick_zero : (Z : Fixed) (b : Below) (ls : List ℕ) (q : Bool) (t : ValType) (c : Marked) (s : List Value) (st : Store)
    → run Z b ls (pick q (Do false (zero_const t) c) c) (at s st) ≡ run Z b ls c (at (fill_one q t s) st)
run_pick_zero Z b ls true t c s st = run_zero Z b ls t c s st
run_pick_zero Z b ls false t c s st = refl

pub run_filler : (P : Node → Bool) (Z : Fixed) (b : Below) (ls : List ℕ) (t : Option ValType) (d : Node) (c : Marked) (s : List Value) (st : Store)
    → run Z b ls (filler P t d c) (at s st) ≡ run Z b ls c (at (filled P t d s) st)
run_filler P Z b ls None d c s st = refl
run_filler P Z b ls (Some t) d c s st = run_pick_zero Z b ls (P d) t c s st

-- an instruction leaves one value or none
pub arity-result : (n : ℕ) (t : ValType) → n ≤ 1 → arity (result_of n t) ≡ n
arity-result zero t le = refl
arity-result (suc zero) t le = refl
arity-result (suc (suc n)) t le = absurd (omega arith)

pub arity-few : (t : Option ValType) → arity t ≤ 1
arity-few None = omega arith
arity-few (Some t) = omega arith

pub length-drop_by : (n : ℕ) (s : List Value) (m : ℕ) → length s ≡ n + m → length (drop n s) ≡ m
length-drop_by zero s m e = omega arith
length-drop_by (suc n) [] m e = absurd (omega arith)
length-drop_by (suc n) (v ∷ s) m e = length-drop_by n s m (omega arith)

one_more-suc : (b : Bool) (n : ℕ) (a c : ℕ) → n ≡ a + c → one_more b n ≡ one_more b a + c
one_more-suc true n a c e = omega arith
one_more-suc false n a c e = e

pub shown-split : (P : Node → Bool) (n : ℕ) (names : List Node) → shown P names ≡ shown P (take n names) + shown P (drop n names)
shown-split P zero names = omega arith
shown-split P (suc n) [] = refl
shown-split P (suc n) (d ∷ names) = one_more-suc (P d) _ _ _ (shown-split P n names)

fill_one-length : (q : Bool) (t : ValType) (s : List Value) (n : ℕ) → length s ≡ n → length (fill_one q t s) ≡ one_more q n
fill_one-length true t s n e = ap suc e
fill_one-length false t s n e = e

pub length-filled : (P : Node → Bool) (k : Option ValType) (d : Node) (names : List Node) (s : List Value) → length s ≡ shown P names
    → length (filled P k d s) ≡ shown P (named (arity k) d names)
length-filled P None d names s e = e
length-filled P (Some t) d names s e = fill_one-length (P d) t s (shown P names) e

-- a stack of the slice has as many values as places are shown, the original's as many as there are names
rel_one-length : (q k : Bool) (v : Value) (n : ℕ) (go : List Value → Type 0) (s' : List Value) → ((s' : List Value) → go s' → length s' ≡ n)
    → RelOne q k v go s' → length s' ≡ one_more q n
rel_one-length true k v n go [] f r = absurd r
rel_one-length true k v n go (v' ∷ s') f r = ap suc (f s' r.1)
rel_one-length false k v n go s' f r = f s' r

pub rel-shown : (K P : Node → Bool) (names : List Node) (s s' : List Value) → Rel K P names s s' → length s' ≡ shown P names
rel-shown K P [] [] s' r = ap length r
rel-shown K P [] (v ∷ s) s' r = absurd r
rel-shown K P (d ∷ names) [] s' r = absurd r
rel-shown K P (d ∷ names) (v ∷ s) s' r = rel_one-length (P d) (K d) v (shown P names) (Rel K P names s) s' (λ s' r. rel-shown K P names s s' r) r

rel_one-rest : (q k : Bool) (v : Value) (go : List Value → Type 0) (s' : List Value) → RelOne q k v go s' → (s1 : List Value) × go s1
rel_one-rest true k v go [] r = absurd r
rel_one-rest true k v go (v' ∷ s') r = (s', r.1)
rel_one-rest false k v go s' r = (s', r)

pub rel-long : (K P : Node → Bool) (names : List Node) (s s' : List Value) → Rel K P names s s' → length s ≡ length names
rel-long K P [] [] s' r = refl
rel-long K P [] (v ∷ s) s' r = absurd r
rel-long K P (d ∷ names) [] s' r = absurd r
rel-long K P (d ∷ names) (v ∷ s) s' r = let a = rel_one-rest (P d) (K d) v (Rel K P names s) s' r in ap suc (rel-long K P names s a.0 a.1)

-- operands that are kept are equal on both stacks
rel_one-kept : (k : Bool) (v : Value) (go : List Value → Type 0) (n : ℕ) (s s' : List Value) (left : List Value → Type 0) → k ≡ true
    → ((s' : List Value) → go s' → (take n s' ≡ take n s) × left (drop n s')) → RelOne true k v go s'
    → (take (suc n) s' ≡ v ∷ take n s) × left (drop (suc n) s')
rel_one-kept k v go n s [] left e f r = absurd r
rel_one-kept k v go n s (v' ∷ s') left e f r = let a = f s' r.1 in (ap₂ {A = Value} {B = List Value} (λ x y. x ∷ y) (r.0 e) a.0, a.1)

pub rel-kept : (K P : Node → Bool) → ((d : Node) → K d ≡ true → P d ≡ true) → (n : ℕ) (names : List Node) (s s' : List Value) → Rel K P names s s'
    → AllIn K n names → (take n s' ≡ take n s) × Rel K P (drop n names) (drop n s) (drop n s')
rel-kept K P kp zero names s s' r ks = (refl, r)
rel-kept K P kp (suc n) [] s s' r ks = absurd ks
rel-kept K P kp (suc n) (d ∷ names) [] s' r ks = absurd r
rel-kept K P kp (suc n) (d ∷ names) (v ∷ s) s' r ks =
    rel_one-kept (K d) v (Rel K P names s) n s s' (Rel K P (drop n names) (drop n s)) ks.0 (λ s' r. rel-kept K P kp n names s s' r ks.1)
    (subst (λ q. RelOne q (K d) v (Rel K P names s) s') (kp d ks.0) r)

-- shown places are on both stacks
rel_one-shown : (k : Bool) (v : Value) (go : List Value → Type 0) (n : ℕ) (s' : List Value) → ((s' : List Value) → go s' → n ≤ length s')
    → RelOne true k v go s' → suc n ≤ length s'
rel_one-shown k v go n [] f r = absurd r
rel_one-shown k v go n (v' ∷ s') f r = let le = f s' r.1 in omega arith

pub rel-has : (K P : Node → Bool) (n : ℕ) (names : List Node) (s s' : List Value) → Rel K P names s s' → AllIn P n names → n ≤ length s'
rel-has K P zero names s s' r ps = omega arith
rel-has K P (suc n) [] s s' r ps = absurd ps
rel-has K P (suc n) (d ∷ names) [] s' r ps = absurd r
rel-has K P (suc n) (d ∷ names) (v ∷ s) s' r ps =
    rel_one-shown (K d) v (Rel K P names s) n s' (λ s' r. rel-has K P n names s s' r ps.1) (subst (λ q. RelOne q (K d) v (Rel K P names s) s') ps.0 r)

-- drops of the shown among the first n take the slice's stack to the rest
rel_one-drop : (q k : Bool) (v : Value) (n : ℕ) (go left : List Value → Type 0) (s' : List Value)
    → ((s' : List Value) → go s' → (n ≤ length s') × left (drop n s')) → RelOne q k v go s' → (one_more q n ≤ length s') × left (drop (one_more q n) s')
rel_one-drop true k v n go left [] f r = absurd r
rel_one-drop true k v n go left (v' ∷ s') f r = let a = f s' r.1 in let le = a.0 in (omega arith, a.1)
rel_one-drop false k v n go left s' f r = f s' r

pub rel-drop : (K P : Node → Bool) (n : ℕ) (names : List Node) (s s' : List Value) → Rel K P names s s'
    → (shown P (take n names) ≤ length s') × Rel K P (drop n names) (drop n s) (drop (shown P (take n names)) s')
rel-drop K P zero names s s' r = (omega arith, r)
rel-drop K P (suc n) [] [] s' r = (omega arith, r)
rel-drop K P (suc n) [] (v ∷ s) s' r = absurd r
rel-drop K P (suc n) (d ∷ names) [] s' r = absurd r
rel-drop K P (suc n) (d ∷ names) (v ∷ s) s' r =
    rel_one-drop (P d) (K d) v (shown P (take n names)) (Rel K P names s) (Rel K P (drop n names) (drop n s)) s' (λ s' r. rel-drop K P n names s s' r) r

-- a new value of an unkept maker
rel_one-fill : (q k : Bool) (v : Value) (t : ValType) (go : List Value → Type 0) (s' : List Value) → (k ≡ true → ⊥) → go s' → RelOne q k v go (fill_one q t s')
rel_one-fill true k v t go s' off r = ((λ e. absurd (off e)), r)
rel_one-fill false k v t go s' off r = r

pub rel-fill : (K P : Node → Bool) (k : Option ValType) (d : Node) (names : List Node) (vs s s' : List Value) → (K d ≡ true → ⊥) → length vs ≡ arity k
    → Rel K P names s s' → Rel K P (named (arity k) d names) (vs ++ s) (filled P k d s')
rel-fill K P None d names [] s s' off e r = r
rel-fill K P None d names (v ∷ vs) s s' off e r = absurd (omega arith)
rel-fill K P (Some t) d names [] s s' off e r = absurd (omega arith)
rel-fill K P (Some t) d names (v ∷ []) s s' off e r = rel_one-fill (P d) (K d) v t (Rel K P names s) s' off r
rel-fill K P (Some t) d names (v ∷ w ∷ vs) s s' off e r = absurd (omega arith)

-- a new value that is shown, equal where its maker is kept
pub rel-new : (K P : Node → Bool) (k : ℕ) (d : Node) (names : List Node) (vs vs' s s' : List Value) → P d ≡ true → length vs ≡ k → length vs' ≡ k → k ≤ 1
    → (K d ≡ true → vs' ≡ vs) → Rel K P names s s' → Rel K P (named k d names) (vs ++ s) (vs' ++ s')
rel-new K P zero d names [] [] s s' p e e' le eq r = r
rel-new K P zero d names [] (w ∷ ws) s s' p e e' le eq r = absurd (omega arith)
rel-new K P zero d names (v ∷ vs) ws s s' p e e' le eq r = absurd (omega arith)
rel-new K P (suc k) d names (v ∷ []) (w ∷ []) s s' p e e' le eq r =
    subst (λ q. RelOne q (K d) v (Rel K P names s) (w ∷ s')) (sym p) ((λ kd. ap (λ z. head z v) (eq kd)), r)
  where
    head : List Value → Value → Value
    head [] d = d
    head (x ∷ xs) d = x
rel-new K P (suc k) d names [] ws s s' p e e' le eq r = absurd (omega arith)
rel-new K P (suc k) d names (v ∷ []) [] s s' p e e' le eq r = absurd (omega arith)
rel-new K P (suc k) d names (v ∷ []) (w ∷ x ∷ ws) s s' p e e' le eq r = absurd (omega arith)
rel-new K P (suc k) d names (v ∷ x ∷ vs) ws s s' p e e' le eq r = absurd (omega arith)

-- shown operands match
pub rel-take : (M P : Node → Bool) (n : ℕ) (names : List Node) (s s' : List Value) → Rel M P names s s' → AllIn P n names
    → Matches M (take n names) (take n s) (take n s') × Rel M P (drop n names) (drop n s) (drop n s')
rel-take M P zero names s s' r ps = (tt, r)
rel-take M P (suc n) [] s s' r ps = absurd ps
rel-take M P (suc n) (d ∷ names) [] s' r ps = absurd r
rel-take M P (suc n) (d ∷ names) (v ∷ s) s' r ps = go (λ s' r. rel-take M P n names s s' r ps.1) s' (subst (λ q. RelOne q (M d) v (Rel M P names s) s') ps.0 r)
  where
    go : ((s' : List Value) → Rel M P names s s' → Matches M (take n names) (take n s) (take n s') × Rel M P (drop n names) (drop n s) (drop n s'))
        → (s' : List Value) → RelOne true (M d) v (Rel M P names s) s'
        → Matches M (take (suc n) (d ∷ names)) (take (suc n) (v ∷ s)) (take (suc n) s') × Rel M P (drop n names) (drop n s) (drop (suc n) s')
    go f [] r = absurd r
    go f (v' ∷ s') r = let a = f s' r.1 in ((r.0, a.0), a.1)
