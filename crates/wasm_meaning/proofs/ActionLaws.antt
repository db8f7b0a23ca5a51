-- The law of the actions: one case an action.
use Rattle.std.proofs.Common.{◌≡◌, ℕ, zero, suc, ◌+◌, ◌*◌, ◌%◌, ◌==◌, ◌⊎◌, inl, inr, List, [], ◌∷◌, ◌++◌, map, replicate, length, Bool, true, false, ◌&&◌, if◌then◌else◌, Option, Some, None, nat_eq, nat_le, refl, sym, ap, ap₂, ◌∙◌, subst, arith, true≢false, eqb-true, eq-eqb}
use Rattle.std.proofs.lemmas.List.{length-replicate}
use Rattle.wasm_types.specs.declared.module.Value.{Value}
use Rattle.wasm_types.specs.declared.module.Value.TheVariants as value
use Rattle.wasm_types.specs.declared.module.ValType.{ValType}
use Rattle.wasm_types.specs.declared.place.Loc.{Loc}
use Rattle.wasm_types.specs.declared.place.Loc.TheVariants.{Local, Global, Mem, Size, Host}
use Rattle.wasm_types.specs.declared.ops.Width.{Width}
use Rattle.wasm_types.specs.declared.ops.BinOp.{BinOp}
use Rattle.wasm_types.specs.declared.ops.BinOp.TheVariants as bin
use Rattle.wasm_types.specs.declared.ops.NumOp.{NumOp}
use Rattle.wasm_types.specs.declared.ops.NumOp.TheVariants as num
use Rattle.wasm_types.specs.declared.run.Reason.{Reason}
use Rattle.wasm_types.specs.declared.run.Reason.TheVariants.{DivideByZero, Overflow, MemoryBounds}
use Rattle.wasm_types.specs.Hosts.{is_within}
use Rattle.wasm_types.specs.Actions.{Action, Nothing, Const, Number, Discard, Choose, Get, Set, Tee, GetGlobal, SetGlobal, Read, Write, Pages, Grow, Copy, Fill, operands, takes_in, leaves_in}
use Rattle.wasm_types.specs.Locations.{is_local, is_global, is_mem, is_size, reads_in, checks_in, writes_in, divides, number_traps, may_trap_in, traps_in}
use Rattle.wasm_meaning.specs.Cells.{cell, put}
use Rattle.wasm_meaning.specs.State.{Store, State, arg, local_at, global_at}
use Rattle.wasm_meaning.specs.Stops.{Stop, Trap, Stuck}
use Rattle.wasm_meaning.specs.Equality.{EqAt}
use Rattle.wasm_meaning.specs.Operations.{value_in, number_of, Made, Makes, Traps, operate, binary, number_type, widened, too_great, by_divisor}
use Rattle.wasm_meaning.specs.Memory.{bytes_of, number_from, bytes_at, written}
use Rattle.wasm_meaning.specs.Effects.{Effect, Answer, Gives, Stops, gives, made_by, set_local, set_global, with_bytes, grown, act}
use Rattle.wasm_meaning.specs.Laws.{Does, SameEnd, GoesOn, DividesFor, NumberTrapsFor, TrapsFor, TrapsWith, SameCause, ActionLaw}
use Rattle.wasm_meaning.proofs.Equal.{eq-refl}

-- ---- answers

abbrev pub IsStop : Answer → Type 0
IsStop (Gives e) = ⊥
IsStop (Stops why st) = Unit {0}

-- an answer that stops gives nothing
pub stuck : {A : Type 0} (a : Answer) (e : Effect) → a ≡ Gives e → IsStop a → A
stuck (Gives x) e q s = absurd s
stuck (Stops why st) e q s = absurd (subst IsStop q s)

effect_in : Answer → Effect → Effect
effect_in (Gives e) d = e
effect_in (Stops why s) d = d

pub gives_is : (a e : Effect) → Gives a ≡ Gives e → a ≡ e
unfolding effect_in
gives_is a e q = ap (λ o. effect_in o a) q

-- an answer that gives passed its test
pub passed : (b : Bool) (x : Effect) (why : Stop) (st : State) (e : Effect) → (if b then Gives x else Stops why st) ≡ Gives e → (b ≡ true) × (x ≡ e)
passed true x why st e q = (refl, gives_is x e q)
passed false x why st e q = stuck (Stops why st) e q tt

pub if_true : {A : Type 0} (b : Bool) (x y : A) → b ≡ true → (if b then x else y) ≡ x
if_true b x y e = rw e refl

-- ---- cells

cell_put_same : {A : Type 0} (d : A) (k : ℕ) (v : A) (xs : List A) → cell d (put d k v xs) k ≡ v
cell_put_same d zero v [] = refl
cell_put_same d zero v (x ∷ xs) = refl
cell_put_same d (suc k) v [] = cell_put_same d k v []
cell_put_same d (suc k) v (x ∷ xs) = cell_put_same d k v xs

pub cell_put_other : {A : Type 0} (d : A) (k : ℕ) (v : A) (xs : List A) (j : ℕ) → (k ≡ j → ⊥) → cell d (put d k v xs) j ≡ cell d xs j
cell_put_other d zero v [] zero ne = absurd (ne refl)
cell_put_other d zero v [] (suc j) ne = refl
cell_put_other d zero v (x ∷ xs) zero ne = absurd (ne refl)
cell_put_other d zero v (x ∷ xs) (suc j) ne = refl
cell_put_other d (suc k) v [] zero ne = refl
cell_put_other d (suc k) v [] (suc j) ne = cell_put_other d k v [] j (λ e. ne (ap suc e))
cell_put_other d (suc k) v (x ∷ xs) zero ne = refl
cell_put_other d (suc k) v (x ∷ xs) (suc j) ne = cell_put_other d k v xs j (λ e. ne (ap suc e))

pub not_eq : (k j : ℕ) → nat_eq k j ≡ false → k ≡ j → ⊥
not_eq k j off e = true≢false (sym (eq-eqb k j e) ∙ off)

pub put_same : {A : Type 0} (d : A) (k : ℕ) (v : A) (xs ys : List A) (j : ℕ) → cell d ys j ≡ cell d xs j → cell d (put d k v ys) j ≡ cell d (put d k v xs) j
put_same {A} d k v xs ys j h = go (nat_eq k j) refl
  where
    go : (b : Bool) → nat_eq k j ≡ b → cell d (put d k v ys) j ≡ cell d (put d k v xs) j
    go true e = subst (λ z. cell d (put d k v ys) z ≡ cell d (put d k v xs) z) (eqb-true k j e) (cell_put_same d k v ys ∙ sym (cell_put_same d k v xs))
    go false e = cell_put_other d k v ys j (not_eq k j e) ∙ h ∙ sym (cell_put_other d k v xs j (not_eq k j e))

abbrev pub SameBytes : List ℕ → List ℕ → Type 0
SameBytes xs ys = (a : ℕ) → cell 0 ys a ≡ cell 0 xs a

pub written_same : (at : ℕ) (these xs ys : List ℕ) → SameBytes xs ys → SameBytes (written at these xs) (written at these ys)
written_same at [] xs ys h = h
written_same at (b ∷ these) xs ys h = written_same (at + 1) these (put 0 at b xs) (put 0 at b ys) (λ a. put_same 0 at b xs ys a (h a))

pub bytes_same : (at count : ℕ) (xs ys : List ℕ) → SameBytes xs ys → bytes_at at count ys ≡ bytes_at at count xs
bytes_same at zero xs ys h = refl
bytes_same at (suc count) xs ys h = ap₂ {A = ℕ} {B = List ℕ} (λ x r. x ∷ r) (h at) (bytes_same (at + 1) count xs ys h)

zeros_read : (n a : ℕ) → cell {A = ℕ} 0 (replicate n 0) a ≡ 0
zeros_read zero a = refl
zeros_read (suc n) zero = refl
zeros_read (suc n) (suc a) = zeros_read n a

zeros_same : (xs : List ℕ) (n a : ℕ) → cell 0 (xs ++ replicate n 0) a ≡ cell 0 xs a
zeros_same [] n a = zeros_read n a
zeros_same (x ∷ xs) n zero = refl
zeros_same (x ∷ xs) n (suc a) = zeros_same xs n a

-- ---- what a change of the store leaves

pub never : {A : Type 0} → true ≡ false → A
never e = absurd (true≢false e)

pub never' : {A : Type 0} → false ≡ true → A
never' e = absurd (true≢false (sym e))

local_frame : (k : ℕ) (v : Value) (st : Store) (x : Loc) → is_local k x ≡ false → EqAt x st (set_local k v st)
local_frame k v st (Local j) off = cell_put_other (value.I32 0) k v st.locals j (not_eq k j off)
local_frame k v st (Global j) off = refl
local_frame k v st Mem off = λ a. refl
local_frame k v st Size off = refl
local_frame k v st Host off = (refl, refl)

local_written : (k : ℕ) (v : Value) (st st' : Store) (x : Loc) → is_local k x ≡ true → EqAt x (set_local k v st) (set_local k v st')
local_written k v st st' (Local j) on =
    subst (λ z. cell (value.I32 0) (put (value.I32 0) k v st'.locals) z ≡ cell (value.I32 0) (put (value.I32 0) k v st.locals) z) (eqb-true k j on)
    (cell_put_same (value.I32 0) k v st'.locals ∙ sym (cell_put_same (value.I32 0) k v st.locals))
local_written k v st st' (Global j) on = never' on
local_written k v st st' Mem on = never' on
local_written k v st st' Size on = never' on
local_written k v st st' Host on = never' on

global_frame : (k : ℕ) (v : Value) (st : Store) (x : Loc) → is_global k x ≡ false → EqAt x st (set_global k v st)
global_frame k v st (Local j) off = refl
global_frame k v st (Global j) off = cell_put_other (value.I32 0) k v st.state.globals j (not_eq k j off)
global_frame k v st Mem off = λ a. refl
global_frame k v st Size off = refl
global_frame k v st Host off = (refl, refl)

global_written : (k : ℕ) (v : Value) (st st' : Store) (x : Loc) → is_global k x ≡ true → EqAt x (set_global k v st) (set_global k v st')
global_written k v st st' (Local j) on = never' on
global_written k v st st' (Global j) on =
    subst (λ z. cell (value.I32 0) (put (value.I32 0) k v st'.state.globals) z ≡ cell (value.I32 0) (put (value.I32 0) k v st.state.globals) z)
    (eqb-true k j on)
    (cell_put_same (value.I32 0) k v st'.state.globals ∙ sym (cell_put_same (value.I32 0) k v st.state.globals))
global_written k v st st' Mem on = never' on
global_written k v st st' Size on = never' on
global_written k v st st' Host on = never' on

bytes_frame : (bytes : List ℕ) (st : Store) (x : Loc) → is_mem x ≡ false → EqAt x st (with_bytes bytes st)
bytes_frame bytes st (Local j) off = refl
bytes_frame bytes st (Global j) off = refl
bytes_frame bytes st Mem off = never off
bytes_frame bytes st Size off = refl
bytes_frame bytes st Host off = (refl, refl)

bytes_written : (bytes bytes' : List ℕ) (st st' : Store) → SameBytes bytes bytes' → (x : Loc) → is_mem x ≡ true
    → EqAt x (with_bytes bytes st) (with_bytes bytes' st')
bytes_written bytes bytes' st st' h (Local j) on = never' on
bytes_written bytes bytes' st st' h (Global j) on = never' on
bytes_written bytes bytes' st st' h Mem on = h
bytes_written bytes bytes' st st' h Size on = never' on
bytes_written bytes bytes' st st' h Host on = never' on

grown_frame : (n : ℕ) (st : Store) (x : Loc) → is_size x ≡ false → EqAt x st (grown n st)
grown_frame n st (Local j) off = refl
grown_frame n st (Global j) off = refl
grown_frame n st Mem off = λ a. zeros_same st.state.bytes (65536 * n) a
grown_frame n st Size off = never off
grown_frame n st Host off = (refl, refl)

size_written : (st st' : Store) → st'.state.pages ≡ st.state.pages → (x : Loc) → is_size x ≡ true → EqAt x st st'
size_written st st' e (Local j) on = never' on
size_written st st' e (Global j) on = never' on
size_written st st' e Mem on = never' on
size_written st st' e Size on = e
size_written st st' e Host on = never' on

-- ---- numbers

made_gives : (t : ValType) (o : Option Made) (st : Store) (e : Effect) → made_by t o st ≡ Gives e
    → (n : ℕ) × (o ≡ Some (Makes n)) × (record { results = value_in t n ∷ []; store = st } ≡ e)
made_gives t None st e h = stuck _ e h tt
made_gives t (Some (Makes n)) st e h = (n, refl, gives_is _ e h)
made_gives t (Some (Traps reason)) st e h = stuck _ e h tt

operands_are : (op : NumOp) (vs : List ℕ) (n : ℕ) → operate op vs ≡ Some (Makes n) → length vs ≡ operands op
operands_are (num.Eqz w) (a ∷ []) n e = refl
operands_are (num.Rel w op) (b ∷ a ∷ []) n e = refl
operands_are (num.Un w op) (a ∷ []) n e = refl
operands_are (num.Bin w op) (b ∷ a ∷ []) n e = refl
operands_are num.Wrap (a ∷ []) n e = refl
operands_are num.ExtendS (a ∷ []) n e = refl
operands_are num.ExtendU (a ∷ []) n e = refl
operands_are (num.Low op) (a ∷ []) n e = refl
operands_are _ _ n e = absurd cc

length_numbers : (vs : List Value) → length (map number_of vs) ≡ length vs
length_numbers [] = refl
length_numbers (v ∷ vs) = ap suc (length_numbers vs)

bin_makes : (w : Width) (op : BinOp) (a b : ℕ) → divides op ≡ false → (n : ℕ) × (binary w op a b ≡ Makes n)
bin_makes w bin.DivS a b e = never e
bin_makes w bin.DivU a b e = never e
bin_makes w bin.RemS a b e = never e
bin_makes w bin.RemU a b e = never e
bin_makes w _ a b e = (_, refl)

-- ---- what an action does

-- memory.grow, by whether it may
abbrev grow_by : Bool → ℕ → Store → Answer
grow_by b n s = if b then gives (value.I32 s.state.pages ∷ []) (grown n s) else gives (value.I32 4294967295 ∷ []) s

-- it changes no store
same_store : (a : Action) (vs results : List Value) (st : Store) (e : Effect) → Gives (record { results = results; store = st }) ≡ Gives e
    → length vs ≡ takes_in a → length results ≡ leaves_in a → Does a vs st e
same_store a vs results st e h t l = subst (λ z. Does a vs st z) (gives_is _ e h) (record { took = t; left = l; frame = λ x off. eq-refl x st; turns = refl })

-- it changes the store so
other_store : (a : Action) (vs results : List Value) (st st' : Store) (e : Effect) → record { results = results; store = st' } ≡ e → length vs ≡ takes_in a
    → length results ≡ leaves_in a
    → ((x : Loc) → writes_in a x ≡ false → EqAt x st st') → st'.state.turns ≡ st.state.turns → Does a vs st e
other_store a vs results st st' e h t l f n = subst (λ z. Does a vs st z) h (record { took = t; left = l; frame = f; turns = n })

pub does_by : (cap : ℕ) (a : Action) (vs : List Value) (st : Store) (e : Effect) → act cap a vs st ≡ Gives e → Does a vs st e
does_by cap Nothing [] st e h = same_store Nothing [] [] st e h refl refl
does_by cap (Const v) [] st e h = same_store (Const v) [] (v ∷ []) st e h refl refl
does_by cap (Number op) vs st e h =
    let q = made_gives (number_type op) (operate op (map number_of vs)) st e h in
    other_store (Number op) vs (value_in (number_type op) q.0 ∷ []) st st e q.2 (sym (length_numbers vs) ∙ operands_are op (map number_of vs) q.0 q.1) refl
    (λ x off. eq-refl x st) refl
does_by cap Discard (v ∷ []) st e h = same_store Discard (v ∷ []) [] st e h refl refl
does_by cap Choose (n ∷ b ∷ a ∷ []) st e h = same_store Choose (n ∷ b ∷ a ∷ []) (_ ∷ []) st e h refl refl
does_by cap (Get k) [] st e h = same_store (Get k) [] (_ ∷ []) st e h refl refl
does_by cap (Set k) (v ∷ []) st e h = other_store (Set k) (v ∷ []) [] st (set_local k v st) e (gives_is _ e h) refl refl (local_frame k v st) refl
does_by cap (Tee k) (v ∷ []) st e h = other_store (Tee k) (v ∷ []) (v ∷ []) st (set_local k v st) e (gives_is _ e h) refl refl (local_frame k v st) refl
does_by cap (GetGlobal k) [] st e h = same_store (GetGlobal k) [] (_ ∷ []) st e h refl refl
does_by cap (SetGlobal k) (v ∷ []) st e h = other_store (SetGlobal k) (v ∷ []) [] st (set_global k v st) e (gives_is _ e h) refl refl (global_frame k v st) refl
does_by cap (Read access sg) (a ∷ []) st e h =
    let q = passed _ _ _ _ e h in other_store (Read access sg) (a ∷ []) _ st st e q.1 refl refl (λ x off. eq-refl x st) refl
does_by cap (Write access) (v ∷ a ∷ []) st e h =
    let q = passed _ _ _ _ e h in other_store (Write access) (v ∷ a ∷ []) [] st _ e q.1 refl refl (bytes_frame _ st) refl
does_by cap Pages [] st e h = same_store Pages [] (_ ∷ []) st e h refl refl
does_by cap Grow (n ∷ []) st e h = go (nat_le (st.state.pages + number_of n) cap) h
  where
    go : (b : Bool) → grow_by b (number_of n) st ≡ Gives e → Does Grow (n ∷ []) st e
    go true h = other_store Grow (n ∷ []) (_ ∷ []) st (grown (number_of n) st) e (gives_is _ e h) refl refl (grown_frame (number_of n) st) refl
    go false h = same_store Grow (n ∷ []) (_ ∷ []) st e h refl refl
does_by cap Copy (n ∷ from ∷ to ∷ []) st e h =
    let q = passed _ _ _ _ e h in other_store Copy (n ∷ from ∷ to ∷ []) [] st _ e q.1 refl refl (bytes_frame _ st) refl
does_by cap Fill (n ∷ v ∷ to ∷ []) st e h = let q = passed _ _ _ _ e h in other_store Fill (n ∷ v ∷ to ∷ []) [] st _ e q.1 refl refl (bytes_frame _ st) refl
does_by cap a vs st e h = stuck _ e h tt

-- ---- and that it does the same

same_of : (a : Action) (vs results vs' results' : List Value) (st1 st2 : Store) (e e' : Effect) → record { results = results; store = st1 } ≡ e
    → record { results = results'; store = st2 } ≡ e'
    → results' ≡ results → ((x : Loc) → writes_in a x ≡ true → EqAt x st1 st2) → SameEnd a e e'
same_of a vs results vs' results' st1 st2 e e' h h' r w =
    subst (λ z. SameEnd a z e') h (subst (λ z. SameEnd a (record { results = results; store = st1 }) z) h' (record { results = r; written = w }))

number_in : Option Made → ℕ
number_in (Some (Makes n)) = n
number_in _ = 0

same_number : (o : Option Made) (n n' : ℕ) → o ≡ Some (Makes n) → o ≡ Some (Makes n') → n' ≡ n
unfolding number_in
same_number o n n' e e' = sym (ap number_in e') ∙ ap number_in e

pub same_by : (cap : ℕ) (a : Action) (vs : List Value) (st st' : Store) (e e' : Effect) → ((x : Loc) → reads_in a x ≡ true → EqAt x st st')
    → act cap a vs st ≡ Gives e → act cap a vs st' ≡ Gives e' → SameEnd a e e'
same_by cap Nothing [] st st' e e' eq h h' = same_of Nothing [] [] [] [] st st' e e' (gives_is _ e h) (gives_is _ e' h') refl (λ x on. never' on)
same_by cap (Const v) [] st st' e e' eq h h' =
    same_of (Const v) [] (v ∷ []) [] (v ∷ []) st st' e e' (gives_is _ e h) (gives_is _ e' h') refl (λ x on. never' on)
same_by cap (Number op) vs st st' e e' eq h h' =
    let q = made_gives (number_type op) (operate op (map number_of vs)) st e h in
    let q' = made_gives (number_type op) (operate op (map number_of vs)) st' e' h' in
    same_of (Number op) vs (value_in (number_type op) q.0 ∷ []) vs (value_in (number_type op) q'.0 ∷ []) st st' e e' q.2 q'.2
    (ap (λ n. value_in (number_type op) n ∷ []) (same_number (operate op (map number_of vs)) q.0 q'.0 q.1 q'.1)) (λ x on. never' on)
same_by cap Discard (v ∷ []) st st' e e' eq h h' =
    same_of Discard (v ∷ []) [] (v ∷ []) [] st st' e e' (gives_is _ e h) (gives_is _ e' h') refl (λ x on. never' on)
same_by cap Choose (n ∷ b ∷ a ∷ []) st st' e e' eq h h' =
    same_of Choose (n ∷ b ∷ a ∷ []) (_ ∷ []) (n ∷ b ∷ a ∷ []) (_ ∷ []) st st' e e' (gives_is _ e h) (gives_is _ e' h') refl (λ x on. never' on)
same_by cap (Get k) [] st st' e e' eq h h' =
    same_of (Get k) [] (local_at st k ∷ []) [] (local_at st' k ∷ []) st st' e e' (gives_is _ e h) (gives_is _ e' h')
    (ap (λ z. z ∷ []) (eq (Local k) (eq-eqb k k refl))) (λ x on. never' on)
same_by cap (Set k) (v ∷ []) st st' e e' eq h h' =
    same_of (Set k) (v ∷ []) [] (v ∷ []) [] (set_local k v st) (set_local k v st') e e' (gives_is _ e h) (gives_is _ e' h') refl (local_written k v st st')
same_by cap (Tee k) (v ∷ []) st st' e e' eq h h' =
    same_of (Tee k) (v ∷ []) (v ∷ []) (v ∷ []) (v ∷ []) (set_local k v st) (set_local k v st') e e' (gives_is _ e h) (gives_is _ e' h') refl
    (local_written k v st st')
same_by cap (GetGlobal k) [] st st' e e' eq h h' =
    same_of (GetGlobal k) [] (global_at st k ∷ []) [] (global_at st' k ∷ []) st st' e e' (gives_is _ e h) (gives_is _ e' h')
    (ap (λ z. z ∷ []) (eq (Global k) (eq-eqb k k refl))) (λ x on. never' on)
same_by cap (SetGlobal k) (v ∷ []) st st' e e' eq h h' =
    same_of (SetGlobal k) (v ∷ []) [] (v ∷ []) [] (set_global k v st) (set_global k v st') e e' (gives_is _ e h) (gives_is _ e' h') refl
    (global_written k v st st')
same_by cap (Read access sg) (a ∷ []) st st' e e' eq h h' =
    let at = number_of a + access.offset in
    let q = passed _ _ _ _ e h in
    let q' = passed _ _ _ _ e' h' in
    same_of (Read access sg) (a ∷ []) (value_in access.kind (widened sg (8 * access.count) 64 (number_from (bytes_at at access.count st.state.bytes))) ∷ [])
    (a ∷ [])
    (value_in access.kind (widened sg (8 * access.count) 64 (number_from (bytes_at at access.count st'.state.bytes))) ∷ []) st st' e e' q.1 q'.1
    (ap (λ z. value_in access.kind (widened sg (8 * access.count) 64 (number_from z)) ∷ [])
    (bytes_same at access.count st.state.bytes st'.state.bytes (eq Mem refl))) (λ x on. never' on)
same_by cap (Write access) (v ∷ a ∷ []) st st' e e' eq h h' =
    let at = number_of a + access.offset in
    let these = bytes_of access.count (number_of v) in
    let q = passed _ _ _ _ e h in
    let q' = passed _ _ _ _ e' h' in
    same_of (Write access) (v ∷ a ∷ []) [] (v ∷ a ∷ []) [] (with_bytes (written at these st.state.bytes) st)
    (with_bytes (written at these st'.state.bytes) st') e e' q.1 q'.1 refl
    (bytes_written (written at these st.state.bytes) (written at these st'.state.bytes) st st'
    (written_same at these st.state.bytes st'.state.bytes (eq Mem refl)))
same_by cap Pages [] st st' e e' eq h h' =
    same_of Pages [] (value.I32 st.state.pages ∷ []) [] (value.I32 st'.state.pages ∷ []) st st' e e' (gives_is _ e h) (gives_is _ e' h')
    (ap (λ z. value.I32 z ∷ []) (eq Size refl)) (λ x on. never' on)
same_by cap Grow (n ∷ []) st st' e e' eq h h' =
    go (nat_le (st.state.pages + number_of n) cap) (nat_le (st'.state.pages + number_of n) cap) (ap (λ z. nat_le (z + number_of n) cap) pages) h h'
  where
    pages : st'.state.pages ≡ st.state.pages
    pages = eq Size refl

    go : (b b' : Bool) → b' ≡ b → grow_by b (number_of n) st ≡ Gives e → grow_by b' (number_of n) st' ≡ Gives e' → SameEnd Grow e e'
    go true true q h h' =
        same_of Grow (n ∷ []) (value.I32 st.state.pages ∷ []) (n ∷ []) (value.I32 st'.state.pages ∷ []) (grown (number_of n) st)
        (grown (number_of n) st') e e' (gives_is _ e h) (gives_is _ e' h') (ap (λ z. value.I32 z ∷ []) pages)
        (size_written (grown (number_of n) st) (grown (number_of n) st') (ap (λ z. z + number_of n) pages))
    go false false q h h' =
        same_of Grow (n ∷ []) (value.I32 4294967295 ∷ []) (n ∷ []) (value.I32 4294967295 ∷ []) st st' e e' (gives_is _ e h) (gives_is _ e' h') refl
        (size_written st st' pages)
    go true false q h h' = never' q
    go false true q h h' = never q
same_by cap Copy (n ∷ from ∷ to ∷ []) st st' e e' eq h h' =
    let q = passed _ _ _ _ e h in
    let q' = passed _ _ _ _ e' h' in
    let these = bytes_at (number_of from) (number_of n) st.state.bytes in
    let these' = bytes_at (number_of from) (number_of n) st'.state.bytes in
    let same = bytes_same (number_of from) (number_of n) st.state.bytes st'.state.bytes (eq Mem refl) in
    same_of Copy (n ∷ from ∷ to ∷ []) [] (n ∷ from ∷ to ∷ []) [] (with_bytes (written (number_of to) these st.state.bytes) st)
    (with_bytes (written (number_of to) these' st'.state.bytes) st') e e' q.1 q'.1 refl
    (bytes_written (written (number_of to) these st.state.bytes) (written (number_of to) these' st'.state.bytes) st st'
    (subst (λ z. SameBytes (written (number_of to) these st.state.bytes) (written (number_of to) z st'.state.bytes)) (sym same)
    (written_same (number_of to) these st.state.bytes st'.state.bytes (eq Mem refl))))
same_by cap Fill (n ∷ v ∷ to ∷ []) st st' e e' eq h h' =
    let at = number_of to in
    let these : List ℕ = replicate (number_of n) (number_of v % 256) in
    let q = passed _ _ _ _ e h in
    let q' = passed _ _ _ _ e' h' in
    same_of Fill (n ∷ v ∷ to ∷ []) [] (n ∷ v ∷ to ∷ []) [] (with_bytes (written at these st.state.bytes) st)
    (with_bytes (written at these st'.state.bytes) st') e e' q.1 q'.1 refl
    (bytes_written (written at these st.state.bytes) (written at these st'.state.bytes) st st'
    (written_same at these st.state.bytes st'.state.bytes (eq Mem refl)))
same_by cap a vs st st' e e' eq h h' = stuck _ e h tt

-- ---- that it goes on

number_goes : (op : NumOp) (vs : List Value) → may_trap_in (Number op) ≡ false → length vs ≡ operands op
    → (n : ℕ) × (operate op (map number_of vs) ≡ Some (Makes n))
number_goes (num.Eqz w) (a ∷ []) m l = (_, refl)
number_goes (num.Rel w op) (b ∷ a ∷ []) m l = (_, refl)
number_goes (num.Un w op) (a ∷ []) m l = (_, refl)
number_goes (num.Bin w op) (b ∷ a ∷ []) m l = let q = bin_makes w op (number_of a) (number_of b) m in (q.0, ap Some q.1)
number_goes num.Wrap (a ∷ []) m l = (_, refl)
number_goes num.ExtendS (a ∷ []) m l = (_, refl)
number_goes num.ExtendU (a ∷ []) m l = (_, refl)
number_goes (num.Low op) (a ∷ []) m l = (_, refl)
number_goes op vs m l = absurd (omega arith)

pub goes_by : (cap : ℕ) (a : Action) (vs : List Value) (st : Store) → may_trap_in a ≡ false → length vs ≡ takes_in a → GoesOn cap a vs st
goes_by cap Nothing [] st m l = record { effect = _; is = refl }
goes_by cap (Const v) [] st m l = record { effect = _; is = refl }
goes_by cap (Number op) vs st m l = let q = number_goes op vs m l in record { effect = _; is = ap (λ o. made_by (number_type op) o st) q.1 }
goes_by cap Discard (v ∷ []) st m l = record { effect = _; is = refl }
goes_by cap Choose (n ∷ b ∷ a ∷ []) st m l = record { effect = _; is = refl }
goes_by cap (Get k) [] st m l = record { effect = _; is = refl }
goes_by cap (Set k) (v ∷ []) st m l = record { effect = _; is = refl }
goes_by cap (Tee k) (v ∷ []) st m l = record { effect = _; is = refl }
goes_by cap (GetGlobal k) [] st m l = record { effect = _; is = refl }
goes_by cap (SetGlobal k) (v ∷ []) st m l = record { effect = _; is = refl }
goes_by cap (Read access sg) vs st m l = never m
goes_by cap (Write access) vs st m l = never m
goes_by cap Pages [] st m l = record { effect = _; is = refl }
goes_by cap Grow (n ∷ []) st m l = let q = go (nat_le (st.state.pages + number_of n) cap) in record { effect = q.0; is = q.1 }
  where
    go : (b : Bool) → (e : Effect) × (grow_by b (number_of n) st ≡ Gives e)
    go true = (_, refl)
    go false = (_, refl)
goes_by cap Copy vs st m l = never m
goes_by cap Fill vs st m l = never m
goes_by cap a vs st m l = absurd (omega arith)

-- ---- why it stops

state_in : Answer → State → State
state_in (Gives e) d = d
state_in (Stops why s) d = s

why_in : Answer → Stop → Stop
why_in (Gives e) d = d
why_in (Stops why s) d = why

pub stops_is : (why why' : Stop) (s s' : State) → Stops why s ≡ Stops why' s' → s' ≡ s
unfolding state_in
stops_is why why' s s' q = sym (ap (λ o. state_in o s) q)

pub stops_why : (why why' : Stop) (s s' : State) → Stops why s ≡ Stops why' s' → why' ≡ why
unfolding why_in
stops_why why why' s s' q = sym (ap (λ o. why_in o why) q)

-- an answer that gives stops not
pub give_stops : {A : Type 0} (e : Effect) (why : Stop) (s : State) → Gives e ≡ Stops why s → A
give_stops e why s q = stuck (Stops why s) e (sym q) tt

traps_with : (a : Action) (r : Reason) (st : Store) (why : Stop) (s : State) → TrapsFor a r → Stops (Trap r) st.state ≡ Stops why s → TrapsWith a st why s
traps_with a r st why s m q = record { reason = r; may = m; is = stops_why (Trap r) why st.state s q; kept = stops_is (Trap r) why st.state s q }

if_stops : (b : Bool) (x : Effect) (a : Action) (r : Reason) (st : Store) (why : Stop) (s : State) → TrapsFor a r
    → (if b then Gives x else Stops (Trap r) st.state) ≡ Stops why s → TrapsWith a st why s
if_stops true x a r st why s m q = give_stops x why s q
if_stops false x a r st why s m q = traps_with a r st why s m q

abbrev made_trap : Reason → Made → Reason
made_trap d (Makes n) = d
made_trap d (Traps r) = r

abbrev IsMade : Made → Type 0
IsMade (Makes n) = Unit {0}
IsMade (Traps r) = ⊥

makes_traps : {A : Type 0} (n : ℕ) (r : Reason) → Makes n ≡ Traps r → A
makes_traps n r e = absurd (subst IsMade e tt)

traps_is : (r r' : Reason) → Traps r ≡ Traps r' → r' ≡ r
traps_is r r' e = sym (ap (made_trap r) e)

by_zero : (b : ℕ) (n : ℕ) (r : Reason) → by_divisor b (Makes n) ≡ Traps r → r ≡ DivideByZero
by_zero b n r = go (b == 0)
  where
    go : (z : Bool) → (if z then Traps DivideByZero else Makes n) ≡ Traps r → r ≡ DivideByZero
    go true e = traps_is DivideByZero r e
    go false e = makes_traps n r e

by_both : (b : ℕ) (great : Bool) (n : ℕ) (r : Reason) → by_divisor b (if great then Traps Overflow else Makes n) ≡ Traps r → (r ≡ DivideByZero) ⊎ (r ≡ Overflow)
by_both b great n r = go (b == 0) great
  where
    go : (z great : Bool) → (if z then Traps DivideByZero else (if great then Traps Overflow else Makes n)) ≡ Traps r → (r ≡ DivideByZero) ⊎ (r ≡ Overflow)
    go true great e = inl (traps_is DivideByZero r e)
    go false true e = inr (traps_is Overflow r e)
    go false false e = makes_traps n r e

bin_traps : (w : Width) (op : BinOp) (a b : ℕ) (r : Reason) → binary w op a b ≡ Traps r → DividesFor op r
bin_traps w bin.DivS a b r e = by_both b (too_great w a b) _ r e
bin_traps w bin.DivU a b r e = by_zero b _ r e
bin_traps w bin.RemS a b r e = by_zero b _ r e
bin_traps w bin.RemU a b r e = by_zero b _ r e
bin_traps w _ a b r e = makes_traps _ r e

abbrev made_of : Made → Option Made → Made
made_of d (Some x) = x
made_of d None = d

some_made : (x y : Made) → Some x ≡ Some y → x ≡ y
some_made x y e = ap (made_of x) e

number_traps_for : (op : NumOp) (vs : List ℕ) (r : Reason) → operate op vs ≡ Some (Traps r) → NumberTrapsFor op r
number_traps_for (num.Bin w op) (b ∷ a ∷ []) r e = bin_traps w op a b r (some_made _ _ e)
number_traps_for (num.Eqz w) (a ∷ []) r e = absurd cc
number_traps_for (num.Rel w op) (b ∷ a ∷ []) r e = absurd cc
number_traps_for (num.Un w op) (a ∷ []) r e = absurd cc
number_traps_for num.Wrap (a ∷ []) r e = absurd cc
number_traps_for num.ExtendS (a ∷ []) r e = absurd cc
number_traps_for num.ExtendU (a ∷ []) r e = absurd cc
number_traps_for (num.Low op) (a ∷ []) r e = absurd cc
number_traps_for _ _ r e = absurd cc

number_made : (op : NumOp) (vs : List ℕ) → length vs ≡ operands op → operate op vs ≡ None → ⊥
number_made (num.Eqz w) (a ∷ []) l e = cc
number_made (num.Rel w op) (b ∷ a ∷ []) l e = cc
number_made (num.Un w op) (a ∷ []) l e = cc
number_made (num.Bin w op) (b ∷ a ∷ []) l e = cc
number_made num.Wrap (a ∷ []) l e = cc
number_made num.ExtendS (a ∷ []) l e = cc
number_made num.ExtendU (a ∷ []) l e = cc
number_made (num.Low op) (a ∷ []) l e = cc
number_made op vs l e = omega arith

pub stops_by : (cap : ℕ) (a : Action) (vs : List Value) (st : Store) (why : Stop) (s : State) → length vs ≡ takes_in a → act cap a vs st ≡ Stops why s
    → TrapsWith a st why s
stops_by cap (Number op) vs st why s l q = go (operate op (map number_of vs)) refl q
  where
    go : (o : Option Made) → operate op (map number_of vs) ≡ o → made_by (number_type op) o st ≡ Stops why s → TrapsWith (Number op) st why s
    go None e q = absurd (number_made op (map number_of vs) (length_numbers vs ∙ l) e)
    go (Some (Makes n)) e q = give_stops _ why s q
    go (Some (Traps r)) e q = traps_with (Number op) r st why s (number_traps_for op (map number_of vs) r e) q
stops_by cap (Read access sg) (a ∷ []) st why s l q = if_stops _ _ (Read access sg) MemoryBounds st why s refl q
stops_by cap (Read access sg) vs st why s l q = absurd (omega arith)
stops_by cap (Write access) (v ∷ a ∷ []) st why s l q = if_stops _ _ (Write access) MemoryBounds st why s refl q
stops_by cap (Write access) vs st why s l q = absurd (omega arith)
stops_by cap Copy (n ∷ from ∷ to ∷ []) st why s l q = if_stops _ _ Copy MemoryBounds st why s refl q
stops_by cap Copy vs st why s l q = absurd (omega arith)
stops_by cap Fill (n ∷ v ∷ to ∷ []) st why s l q = if_stops _ _ Fill MemoryBounds st why s refl q
stops_by cap Fill vs st why s l q = absurd (omega arith)
stops_by cap a vs st why s l q = let g = goes_by cap a vs st refl l in give_stops g.effect why s (sym g.is ∙ q)

-- ---- from an equal cause

-- an answer goes on where another does, and stops for its reason, in this state
abbrev Follows : Answer → Answer → State → Type 0
Follows x y s' = ((e : Effect) → x ≡ Gives e → (e' : Effect) × (y ≡ Gives e')) × ((why : Stop) (s : State) → x ≡ Stops why s → y ≡ Stops why s')

both_give : (x y : Answer) (s' : State) (e e' : Effect) → x ≡ Gives e → y ≡ Gives e' → Follows x y s'
both_give x y s' e e' q q' = ((λ d p. (e', q')), (λ why s p. give_stops e why s (sym q ∙ p)))

both_stop : (why : Stop) (s s' : State) → Follows (Stops why s) (Stops why s') s'
both_stop why s s' = ((λ e q. stuck (Stops why s) e q tt), (λ why' t q. ap (λ z. Stops z s') (sym (stops_why why why' s t q))))

follows_test : (b b' : Bool) (x x' : Effect) (why : Stop) (s s' : State) → b' ≡ b
    → Follows (if b then Gives x else Stops why s) (if b' then Gives x' else Stops why s') s'
follows_test true true x x' why s s' e = both_give (Gives x) (Gives x') s' x x' refl refl
follows_test false false x x' why s s' e = both_stop why s s'
follows_test true false x x' why s s' e = never' e
follows_test false true x x' why s s' e = never e

follows_made : (t : ValType) (o : Option Made) (st st' : Store) → Follows (made_by t o st) (made_by t o st') st'.state
follows_made t None st st' = both_stop Stuck st.state st'.state
follows_made t (Some (Makes n)) st st' = both_give _ _ st'.state _ _ refl refl
follows_made t (Some (Traps r)) st st' = both_stop (Trap r) st.state st'.state

-- lists whose values are equal at every place
same_list : (vs vs' : List Value) → length vs' ≡ length vs → ((k : ℕ) → arg vs' k ≡ arg vs k) → vs ≡ vs'
same_list [] [] l h = refl
same_list [] (v' ∷ vs') l h = absurd (omega arith)
same_list (v ∷ vs) [] l h = absurd (omega arith)
same_list (v ∷ vs) (v' ∷ vs') l h = ap₂ {A = Value} {B = List Value} (λ x r. x ∷ r) (sym (h 0)) (same_list vs vs' (omega arith) (λ k. h (suc k)))

length_bytes : (count n : ℕ) → length (bytes_of count n) ≡ count
length_bytes zero n = refl
length_bytes (suc count) n = ap suc (length_bytes count _)

within_same : (at at' count count' pages pages' : ℕ) → at' ≡ at → count' ≡ count → pages' ≡ pages
    → is_within at' count' (65536 * pages') ≡ is_within at count (65536 * pages)
within_same at at' count count' pages pages' a c p = rw (a, c, p) refl

follow : (cap : ℕ) (a : Action) (vs vs' : List Value) (st st' : Store) → length vs ≡ takes_in a → length vs' ≡ length vs
    → ((k : ℕ) → traps_in a k → arg vs' k ≡ arg vs k) → ((x : Loc) → checks_in a x ≡ true → EqAt x st st')
    → Follows (act cap a vs st) (act cap a vs' st') st'.state
follow cap (Number op) vs vs' st st' l long ops checks = go (number_traps op) refl
  where
    go : (b : Bool) → number_traps op ≡ b → Follows (act cap (Number op) vs st) (act cap (Number op) vs' st') st'.state
    go true on =
        subst (λ z. Follows (act cap (Number op) vs st) (act cap (Number op) z st') st'.state) (same_list vs vs' long (λ k. ops k on))
        (follows_made (number_type op) (operate op (map number_of vs)) st st')
    go false off =
        let g = goes_by cap (Number op) vs st off l in
        let g' = goes_by cap (Number op) vs' st' off (long ∙ l) in
        both_give _ _ st'.state g.effect g'.effect g.is g'.is
follow cap (Read access sg) (a ∷ []) (a' ∷ []) st st' l long ops checks =
    follows_test _ _ _ _ _ st.state st'.state
    (within_same (number_of a + access.offset) (number_of a' + access.offset) access.count access.count st.state.pages st'.state.pages
    (ap (λ z. number_of z + access.offset) (ops 0 refl)) refl (checks Size refl))
follow cap (Read access sg) vs vs' st st' l long ops checks = absurd (omega arith)
follow cap (Write access) (v ∷ a ∷ []) (v' ∷ a' ∷ []) st st' l long ops checks =
    follows_test _ _ _ _ _ st.state st'.state
    (within_same (number_of a + access.offset) (number_of a' + access.offset) (length (bytes_of access.count (number_of v)))
    (length (bytes_of access.count (number_of v'))) st.state.pages st'.state.pages
    (ap (λ z. number_of z + access.offset) (ops 1 refl)) (length_bytes access.count (number_of v') ∙ sym (length_bytes access.count (number_of v)))
    (checks Size refl))
follow cap (Write access) vs vs' st st' l long ops checks = absurd (omega arith)
follow cap Copy (n ∷ from ∷ to ∷ []) (n' ∷ from' ∷ to' ∷ []) st st' l long ops checks =
    follows_test _ _ _ _ _ st.state st'.state
    (ap₂ {A = Bool} {B = Bool} (λ x y. x && y)
    (within_same (number_of from) (number_of from') (number_of n) (number_of n') st.state.pages st'.state.pages (ap number_of (ops 1 tt))
    (ap number_of (ops 0 tt)) (checks Size refl))
    (within_same (number_of to) (number_of to') (number_of n) (number_of n') st.state.pages st'.state.pages (ap number_of (ops 2 tt))
    (ap number_of (ops 0 tt)) (checks Size refl)))
follow cap Copy vs vs' st st' l long ops checks = absurd (omega arith)
follow cap Fill (n ∷ v ∷ to ∷ []) (n' ∷ v' ∷ to' ∷ []) st st' l long ops checks =
    let these : List ℕ = replicate (number_of n) (number_of v % 256) in
    let these' : List ℕ = replicate (number_of n') (number_of v' % 256) in
    follows_test _ _ _ _ _ st.state st'.state
    (within_same (number_of to) (number_of to') (length these) (length these') st.state.pages st'.state.pages (ap number_of (ops 2 tt))
    (length-replicate (number_of n') (number_of v' % 256) ∙ ap number_of (ops 0 tt) ∙ sym (length-replicate (number_of n) (number_of v % 256)))
    (checks Size refl))
follow cap Fill vs vs' st st' l long ops checks = absurd (omega arith)
follow cap a vs vs' st st' l long ops checks =
    let g = goes_by cap a vs st refl l in
    let g' = goes_by cap a vs' st' refl (long ∙ l) in
    both_give _ _ st'.state g.effect g'.effect g.is g'.is

pub comes_by : (cap : ℕ) (a : Action) (vs vs' : List Value) (st st' : Store) (e : Effect) → SameCause a vs vs' st st' → act cap a vs st ≡ Gives e
    → GoesOn cap a vs' st'
comes_by cap a vs vs' st st' e c q =
    let f = (follow cap a vs vs' st st' (does_by cap a vs st e q).took c.long c.operands c.checks).0 e q in record { effect = f.0; is = f.1 }

pub action_law : (cap : ℕ) (a : Action) → ActionLaw cap a
action_law cap a = record {
  does = λ vs st e q. does_by cap a vs st e q;
  same = λ vs st st' e e' rd q q'. same_by cap a vs st st' e e' rd q q';
  total = λ vs st m l. goes_by cap a vs st m l;
  comes = λ vs vs' st st' e c q. comes_by cap a vs vs' st st' e c q;
  stops = λ vs st why s l q. stops_by cap a vs st why s l q;
  stops_too = λ vs vs' st st' why s l c q. (follow cap a vs vs' st st' l c.long c.operands c.checks).1 why s q;
}
