-- What is put for one instruction, and for those after it.
use Rattle.std.proofs.Common.{◌≡◌, ℕ, zero, suc, ◌+◌, ◌<◌, ◌≤◌, ◌^◌, ◌-◌, List, [], ◌∷◌, ◌++◌, Bool, true, false, Option, Some, None, nat_eq, if◌then◌else◌, refl, sym, ap, ap₂, ◌∙◌, subst, arith, append_assoc}
use Rattle.wasm_types.specs.declared.module.ValType.{ValType}
use Rattle.wasm_types.specs.declared.instr.Instr.{Instr}
use Rattle.wasm_types.specs.declared.instr.Instr as instr
use Rattle.wasm_types.specs.declared.instr.Instr.TheVariants as v
use Rattle.wasm_types.specs.Code.{Code, done, onto, code_of_row, code_of, count, list_of, is_plain}
use Rattle.wasm_types.specs.Marked.{Marked, End, Do, Block, Loop, If, plain, unmarked, marks}
use Rattle.wasm_types.specs.Nodes.{At}
use Rattle.wasm_types.proofs.CodeLemmas.{onto-block, onto-loop, onto-if, onto-one, count-onto}
use Rattle.stack_names.specs.Found.{goes_on}
use Rattle.stack_names.specs.Named.{operands_in, of_node}
use Rattle.flow_domain.specs.Cut.{pick, drops, zeros, zero_const}
use Rattle.stack_repair.specs.declared.tally.Tally.{Tally}
use Rattle.stack_repair.specs.Told.{Told, any_kept_end, taken_kind, kept_kind, count_present, dropped, dropped_for, filled, filled_for, shown_kind, put_in, put_onward, IsPlace, SamePlace, Puts}

pub ruleset code_steps = (onto-block, onto-loop, onto-if, onto-one)

pub ruleset count_steps = (code_steps, count-onto)

-- ---- steps of the list and of the place

pub puts_same : (made : List Instr) (s : Tally) (X Y : Marked) → X ≡ Y → Puts made s X made s Y
puts_same made s X Y e = (ap (λ z. made ++ list_of (unmarked z)) e, λ ms k lt h. subst (λ z. IsPlace s.at s.count (marks z ++ ms) k) e h)

pub puts_then : (a b d : List Instr) (s s' s'' : Tally) (X Y Z : Marked) → Puts a s X b s' Y → Puts b s' Y d s'' Z → Puts a s X d s'' Z
puts_then a b d s s' s'' X Y Z p q = (p.0 ∙ q.0, λ ms k lt h. q.1 ms k lt (p.1 ms k lt h))

-- one instruction, with the marks of what it holds
pub puts_one : (made made' : List Instr) (s s' : Tally) (Z Y : Marked) (i : Instr) (m : Bool) (M : List Bool)
    → list_of (unmarked Z) ≡ i ∷ list_of (unmarked Y) → marks Z ≡ m ∷ (M ++ marks Y) → made' ≡ made ++ i ∷ []
    → ((ms : List Bool) → SamePlace s (m ∷ (M ++ ms)) s' ms) → Puts made s Z made' s' Y
puts_one made made' s s' Z Y i m M e f g h = (
  ap (λ z. made ++ z) e ∙ sym (append_assoc made (i ∷ []) (list_of (unmarked Y))) ∙ ap (λ z. z ++ list_of (unmarked Y)) (sym g),
  λ ms k lt p. h (marks Y ++ ms) k lt (subst (λ z. IsPlace s.at s.count z k) (ap (λ z. z ++ ms) f ∙ ap (λ z. m ∷ z) (append_assoc M (marks Y) ms)) p),
)

-- ---- drops and constants

drops_out : (n : ℕ) (X : Marked) → drops n (Do false instr.Drop X) ≡ Do false instr.Drop (drops n X)
drops_out zero X = refl
drops_out (suc n) X = ap (λ z. Do false instr.Drop z) (drops_out n X)

-- one drop more
pub drop_more : (a b d : List Instr) (s s' s'' : Tally) (n m : ℕ) → m ≡ n + 1 → ((X : Marked) → Puts a s (drops n X) b s' X) → d ≡ b ++ instr.Drop ∷ []
    → ((ms : List Bool) → SamePlace s' (false ∷ ms) s'' ms) → (X : Marked) → Puts a s (drops m X) d s'' X
drop_more a b d s s' s'' n m q p e h X =
    let f : m ≡ suc n = omega arith in
    puts_then a a d s s s'' (drops m X) (drops n (Do false instr.Drop X)) X (puts_same a s (drops m X) (drops n (Do false instr.Drop X)) (ap (λ k. drops k X) f ∙ sym (drops_out n X)))
    (puts_then a b d s s' s'' (drops n (Do false instr.Drop X)) (Do false instr.Drop X) X (p (Do false instr.Drop X))
    (puts_one b d s' s'' (Do false instr.Drop X) X instr.Drop false [] refl refl e h))

pub zero_more : (a d : List Instr) (s s'' : Tally) (kind : ValType) (i : Instr) → i ≡ zero_const kind → d ≡ a ++ i ∷ []
    → ((ms : List Bool) → SamePlace s (false ∷ ms) s'' ms) → (X : Marked) → Puts a s (zeros (Some kind) X) d s'' X
zero_more a d s s'' kind i f e h X =
    puts_one a d s s'' (Do false (zero_const kind) X) X (zero_const kind) false [] refl refl (e ∙ ap (λ z. a ++ z ∷ []) f) h

-- ---- the place of the watched instruction

pub place_put : (s s' : Tally) (b : Bool) → s.count < 2 ^ 32 → ((s.at ≡ None) → b ≡ true → s'.at ≡ Some s.count) → (b ≡ false → s'.at ≡ s.at)
    → ((j : ℕ) → s.at ≡ Some j → s'.at ≡ Some j) → (s.count < 2 ^ 32 - 1 → s'.count ≡ s.count + 1)
    → (ms : List Bool) → SamePlace s (b ∷ ms) s' ms
place_put s s' b few on off old more ms k lt h = go s.at refl b refl h
  where
    go : (o : Option ℕ) → s.at ≡ o → (x : Bool) → b ≡ x → IsPlace o s.count (x ∷ ms) k → IsPlace s'.at s'.count ms k
    go (Some j) e x f p = subst (λ z. IsPlace z s'.count ms k) (sym (old j e)) p
    go None e true f p = subst (λ z. IsPlace z s'.count ms k) (sym (on e f)) (omega (arith, p))
    go None e false f p = subst (λ z. IsPlace z s'.count ms k) (sym (off f ∙ e)) (let less : s.count < 2 ^ 32 - 1 = omega arith in let m = more less in omega arith)

-- ---- an instruction

onward_same : (D : Told) (t : Option ValType) (rest : Code) (p q : ℕ) (b : Bool) → q ≡ p → (if b then put_in D t rest p else End) ≡ put_onward D t b rest q
onward_same D t rest p q true e = ap (put_in D t rest) (sym e)
onward_same D t rest p q false e = refl

-- what is put for an unkept one
pub left_out : (D : Told) (t : Option ValType) (i : Instr) (rest : Code) (p q : ℕ) → D.kept (At p) ≡ false → q ≡ p + count (onto i done)
    → put_in D t (onto i rest) p ≡ drops (count_present D (dropped_for D i p)) (zeros (filled_for D t i p) (put_onward D t (goes_on i) rest q))
unfolding onto code_of_row
left_out D t (instr.Block' kind m inner) rest p q off e =
    let f : p + 1 + count (code_of_row inner) ≡ q = omega arith in
    ap (λ b. pick b (Block (nat_eq D.watched p) kind (put_in D kind (code_of_row inner) (p + 1)) (put_in D t rest (p + 1 + count (code_of_row inner)))) (zeros (shown_kind D kind p) (put_in D t rest (p + 1 + count (code_of_row inner))))) off ∙ ap (λ n. zeros (shown_kind D kind p) (put_in D t rest n)) f
left_out D t (instr.Loop' kind m inner) rest p q off e =
    let f : p + 1 + count (code_of_row inner) ≡ q = omega arith in
    ap (λ b. pick b (Loop (nat_eq D.watched p) kind (put_in D kind (code_of_row inner) (p + 1)) (put_in D t rest (p + 1 + count (code_of_row inner)))) (zeros (shown_kind D kind p) (put_in D t rest (p + 1 + count (code_of_row inner))))) off ∙ ap (λ n. zeros (shown_kind D kind p) (put_in D t rest n)) f
left_out D t (instr.If' kind m first n second) rest p q off e =
    let f : p + 1 + count (code_of_row first) + count (code_of_row second) ≡ q = omega arith in
    ap (λ b. pick b (If (nat_eq D.watched p) kind (put_in D kind (code_of_row first) (p + 1)) (put_in D kind (code_of_row second) (p + 1 + count (code_of_row first))) (put_in D t rest (p + 1 + count (code_of_row first) + count (code_of_row second))))
    (drops (count_present D (dropped_for D (instr.If' kind m first n second) p)) (zeros (shown_kind D kind p) (put_in D t rest (p + 1 + count (code_of_row first) + count (code_of_row second)))))) off
    ∙ ap (λ j. drops (count_present D (dropped_for D (instr.If' kind m first n second) p)) (zeros (shown_kind D kind p) (put_in D t rest j))) f
left_out D t op rest p q off e =
    let f : q ≡ p + 1 = omega arith in
    ap (λ b. pick b (plain (nat_eq D.watched p) op (if goes_on op then put_in D t rest (p + 1) else End)) (drops (count_present D (dropped D op p)) (zeros (filled D t op p) (if goes_on op then put_in D t rest (p + 1) else End)))) off
    ∙ ap (λ z. drops (count_present D (dropped D op p)) (zeros (filled D t op p) z)) (onward_same D t rest (p + 1) q (goes_on op) f)

plain_list : (m : Bool) (op : Instr) (c : Marked) → list_of (unmarked (plain m op c)) ≡ op ∷ list_of (unmarked c)
plain_list m (instr.Br l) c = refl
plain_list m (instr.BrIf l) c = refl
plain_list m (instr.BrTable labels other) c = refl
plain_list m instr.Return c = refl
plain_list m instr.Unreachable c = refl
plain_list m _ c = refl

plain_marks : (m : Bool) (op : Instr) (c : Marked) → marks (plain m op c) ≡ m ∷ marks c
plain_marks m (instr.Br l) c = refl
plain_marks m (instr.BrIf l) c = refl
plain_marks m (instr.BrTable labels other) c = refl
plain_marks m instr.Return c = refl
plain_marks m instr.Unreachable c = refl
plain_marks m _ c = refl

-- a kept one that holds no others
pub kept_plain : (D : Told) (t : Option ValType) (i : Instr) (rest : Code) (p q : ℕ) (made made' : List Instr) (s s' : Tally) (m live : Bool) → is_plain i ≡ true
    → D.kept (At p) ≡ true → q ≡ p + 1 → m ≡ nat_eq D.watched p → live ≡ goes_on i → made' ≡ made ++ i ∷ [] → ((ms : List Bool) → SamePlace s (m ∷ ms) s' ms)
    → Puts made s (put_in D t (onto i rest) p) made' s' (put_onward D t live rest q)
kept_plain D t i rest p q made made' s s' m live h on e f g d place =
    let Y = put_onward D t live rest q in
    let same : put_in D t (onto i rest) p ≡ plain m i Y =
    ap (λ c. put_in D t c p) (onto-one i rest h)
    ∙ ap (λ b. pick b (plain (nat_eq D.watched p) i (if goes_on i then put_in D t rest (p + 1) else End)) (drops (count_present D (dropped D i p)) (zeros (filled D t i p) (if goes_on i then put_in D t rest (p + 1) else End)))) on
    ∙ ap₂ {A = Bool} {B = Marked} (λ b z. plain b i z) (sym f) (onward_same D t rest (p + 1) q (goes_on i) e ∙ ap (λ b. put_onward D t b rest q) (sym g)) in
    puts_then made made made' s s s' _ (plain m i Y) Y (puts_same made s _ (plain m i Y) same)
    (puts_one made made' s s' (plain m i Y) Y i m [] (plain_list m i Y) (plain_marks m i Y) d place)

-- a kept block
pub kept_block : (D : Told) (t kind : Option ValType) (i : Instr) (xs made_in : List Instr) (rest : Code) (p p1 q : ℕ) (made made' : List Instr) (s s1 s2 : Tally) (m : Bool)
    → i ≡ v.Block kind xs → D.kept (At p) ≡ true → p1 ≡ p + 1 → q ≡ p + 1 + count (code_of xs) → m ≡ nat_eq D.watched p
    → made_in ≡ list_of (unmarked (put_in D kind (code_of xs) p1)) → made' ≡ made ++ v.Block kind made_in ∷ []
    → ((ms : List Bool) → SamePlace s (m ∷ ms) s1 ms) → ((ms : List Bool) → SamePlace s1 (marks (put_in D kind (code_of xs) p1) ++ ms) s2 ms)
    → Puts made s (put_in D t (onto i rest) p) made' s2 (put_in D t rest q)
kept_block D t kind i xs made_in rest p p1 q made made' s s1 s2 m is on e1 e f g d h j =
    let X = put_in D kind (code_of xs) p1 in
    let Y = put_in D t rest q in
    let same : put_in D t (onto i rest) p ≡ Block m kind X Y =
    ap (λ (z : Instr). put_in D t (onto z rest) p) is ∙ ap (λ c. put_in D t c p) (onto-block kind xs rest)
    ∙ ap (λ b. pick b (Block (nat_eq D.watched p) kind (put_in D kind (code_of xs) (p + 1)) (put_in D t rest (p + 1 + count (code_of xs)))) (zeros (shown_kind D kind p) (put_in D t rest (p + 1 + count (code_of xs))))) on
    ∙ ap (λ n. Block (nat_eq D.watched p) kind (put_in D kind (code_of xs) n) (put_in D t rest (p + 1 + count (code_of xs)))) (sym e1)
    ∙ ap₂ {A = Bool} {B = Marked} (λ b z. Block b kind X z) (sym f) (ap (put_in D t rest) (sym e)) in
    puts_then made made made' s s s2 _ (Block m kind X Y) Y (puts_same made s _ (Block m kind X Y) same)
    (puts_one made made' s s2 (Block m kind X Y) Y (v.Block kind (list_of (unmarked X))) m (marks X) refl refl (d ∙ ap (λ z. made ++ v.Block kind z ∷ []) g)
    (λ ms k lt a. j ms k lt (h (marks X ++ ms) k lt a)))

pub kept_loop : (D : Told) (t kind : Option ValType) (i : Instr) (xs made_in : List Instr) (rest : Code) (p p1 q : ℕ) (made made' : List Instr) (s s1 s2 : Tally) (m : Bool)
    → i ≡ v.Loop kind xs → D.kept (At p) ≡ true → p1 ≡ p + 1 → q ≡ p + 1 + count (code_of xs) → m ≡ nat_eq D.watched p
    → made_in ≡ list_of (unmarked (put_in D kind (code_of xs) p1)) → made' ≡ made ++ v.Loop kind made_in ∷ []
    → ((ms : List Bool) → SamePlace s (m ∷ ms) s1 ms) → ((ms : List Bool) → SamePlace s1 (marks (put_in D kind (code_of xs) p1) ++ ms) s2 ms)
    → Puts made s (put_in D t (onto i rest) p) made' s2 (put_in D t rest q)
kept_loop D t kind i xs made_in rest p p1 q made made' s s1 s2 m is on e1 e f g d h j =
    let X = put_in D kind (code_of xs) p1 in
    let Y = put_in D t rest q in
    let same : put_in D t (onto i rest) p ≡ Loop m kind X Y =
    ap (λ (z : Instr). put_in D t (onto z rest) p) is ∙ ap (λ c. put_in D t c p) (onto-loop kind xs rest)
    ∙ ap (λ b. pick b (Loop (nat_eq D.watched p) kind (put_in D kind (code_of xs) (p + 1)) (put_in D t rest (p + 1 + count (code_of xs)))) (zeros (shown_kind D kind p) (put_in D t rest (p + 1 + count (code_of xs))))) on
    ∙ ap (λ n. Loop (nat_eq D.watched p) kind (put_in D kind (code_of xs) n) (put_in D t rest (p + 1 + count (code_of xs)))) (sym e1)
    ∙ ap₂ {A = Bool} {B = Marked} (λ b z. Loop b kind X z) (sym f) (ap (put_in D t rest) (sym e)) in
    puts_then made made made' s s s2 _ (Loop m kind X Y) Y (puts_same made s _ (Loop m kind X Y) same)
    (puts_one made made' s s2 (Loop m kind X Y) Y (v.Loop kind (list_of (unmarked X))) m (marks X) refl refl (d ∙ ap (λ z. made ++ v.Loop kind z ∷ []) g)
    (λ ms k lt a. j ms k lt (h (marks X ++ ms) k lt a)))

pub kept_if : (D : Told) (t kind : Option ValType) (i : Instr) (xs ys made_x made_y : List Instr) (rest : Code) (p p1 q r : ℕ) (made made' : List Instr) (s s1 s2 s3 : Tally) (m : Bool)
    → i ≡ v.If kind xs ys → D.kept (At p) ≡ true → p1 ≡ p + 1 → r ≡ p + 1 + count (code_of xs) → q ≡ p + 1 + count (code_of xs) + count (code_of ys) → m ≡ nat_eq D.watched p
    → made_x ≡ list_of (unmarked (put_in D kind (code_of xs) p1)) → made_y ≡ list_of (unmarked (put_in D kind (code_of ys) r))
    → made' ≡ made ++ v.If kind made_x made_y ∷ []
    → ((ms : List Bool) → SamePlace s (m ∷ ms) s1 ms) → ((ms : List Bool) → SamePlace s1 (marks (put_in D kind (code_of xs) p1) ++ ms) s2 ms)
    → ((ms : List Bool) → SamePlace s2 (marks (put_in D kind (code_of ys) r) ++ ms) s3 ms)
    → Puts made s (put_in D t (onto i rest) p) made' s3 (put_in D t rest q)
kept_if D t kind i xs ys made_x made_y rest p p1 q r made made' s s1 s2 s3 m is on e1 er e f gx gy d h jx jy =
    let X = put_in D kind (code_of xs) p1 in
    let Y = put_in D kind (code_of ys) r in
    let Z = put_in D t rest q in
    let same : put_in D t (onto i rest) p ≡ If m kind X Y Z =
    ap (λ (z : Instr). put_in D t (onto z rest) p) is ∙ ap (λ c. put_in D t c p) (onto-if kind xs ys rest)
    ∙ ap (λ b. pick b (If (nat_eq D.watched p) kind (put_in D kind (code_of xs) (p + 1)) (put_in D kind (code_of ys) (p + 1 + count (code_of xs))) (put_in D t rest (p + 1 + count (code_of xs) + count (code_of ys))))
    (drops (count_present D (operands_in D.names.positions p)) (zeros (shown_kind D kind p) (put_in D t rest (p + 1 + count (code_of xs) + count (code_of ys)))))) on
    ∙ ap (λ n. If (nat_eq D.watched p) kind (put_in D kind (code_of xs) n) (put_in D kind (code_of ys) (p + 1 + count (code_of xs))) (put_in D t rest (p + 1 + count (code_of xs) + count (code_of ys)))) (sym e1)
    ∙ ap₂ {A = Bool} {B = ℕ} (λ b n. If b kind X (put_in D kind (code_of ys) n) (put_in D t rest (p + 1 + count (code_of xs) + count (code_of ys)))) (sym f) (sym er)
    ∙ ap (λ n. If m kind X Y (put_in D t rest n)) (sym e) in
    puts_then made made made' s s s3 _ (If m kind X Y Z) Z (puts_same made s _ (If m kind X Y Z) same)
    (puts_one made made' s s3 (If m kind X Y Z) Z (v.If kind (list_of (unmarked X)) (list_of (unmarked Y))) m (marks X ++ marks Y) refl (ap (λ z. m ∷ z) (sym (append_assoc (marks X) (marks Y) (marks Z))))
    (d ∙ ap₂ {A = List Instr} {B = List Instr} (λ x y. made ++ v.If kind x y ∷ []) gx gy)
    (λ ms k lt a. jy ms k lt (jx (marks Y ++ ms) k lt (h (marks X ++ (marks Y ++ ms)) k lt (subst (λ z. IsPlace s.at s.count (m ∷ z) k) (append_assoc (marks X) (marks Y) ms) a)))))

-- ---- what the code has of it

pub filled_plain : (D : Told) (t : Option ValType) (i : Instr) (p : ℕ) → is_plain i ≡ true
    → ((l : ℕ) → i ≡ v.Br l → ⊥) → ((l : ℕ) → i ≡ v.BrIf l → ⊥) → ((ls : List ℕ) (l : ℕ) → i ≡ v.BrTable ls l → ⊥) → (i ≡ v.Return → ⊥) → (i ≡ v.Unreachable → ⊥)
    → kept_kind (taken_kind D (At p)) t (any_kept_end D.kept (of_node D.names.takers (At p))) ≡ filled_for D t i p
filled_plain D t (instr.Block' kind m inner) p h a b c d e = absurd cc
filled_plain D t (instr.Loop' kind m inner) p h a b c d e = absurd cc
filled_plain D t (instr.If' kind m first n second) p h a b c d e = absurd cc
filled_plain D t (instr.Br l) p h a b c d e = absurd (a l refl)
filled_plain D t (instr.BrIf l) p h a b c d e = absurd (b l refl)
filled_plain D t (instr.BrTable ls l) p h a b c d e = absurd (c ls l refl)
filled_plain D t instr.Return p h a b c d e = absurd (d refl)
filled_plain D t instr.Unreachable p h a b c d e = absurd (e refl)
filled_plain D t op p h a b c d e = refl

pub leaves_out : (D : Told) (t : Option ValType) (i : Instr) (rest : Code) (p q n : ℕ) (k : Option ValType) (live : Bool) (made a b : List Instr) (s s1 s2 : Tally)
    → D.kept (At p) ≡ false → q ≡ p + count (onto i done) → n ≡ count_present D (dropped_for D i p) → k ≡ filled_for D t i p → live ≡ goes_on i
    → ((X : Marked) → Puts made s (drops n X) a s1 X) → ((X : Marked) → Puts a s1 (zeros k X) b s2 X)
    → Puts made s (put_in D t (onto i rest) p) b s2 (put_onward D t live rest q)
leaves_out D t i rest p q n k live made a b s s1 s2 off e en ek el f g =
    let Y = put_onward D t live rest q in
    let same : put_in D t (onto i rest) p ≡ drops n (zeros k Y) =
    left_out D t i rest p q off e
    ∙ ap₂ {A = ℕ} {B = Marked} (λ x y. drops x y) (sym en) (ap₂ {A = Option ValType} {B = Marked} (λ x y. zeros x y) (sym ek) (ap (λ z. put_onward D t z rest q) (sym el))) in
    puts_then made made b s s s2 _ (drops n (zeros k Y)) Y (puts_same made s _ (drops n (zeros k Y)) same)
    (puts_then made a b s s1 s2 (drops n (zeros k Y)) (zeros k Y) Y (f (zeros k Y)) (g Y))

pub count_some : (i : Instr) → 1 ≤ count (onto i done)
unfolding onto code_of_row
count_some (instr.Block' kind m inner) = omega arith
count_some (instr.Loop' kind m inner) = omega arith
count_some (instr.If' kind m first n second) = omega arith
count_some op = omega arith

-- one instruction of a sequence
pub puts_next : (D : Told) (t : Option ValType) (i : Instr) (rest all : Code) (p q : ℕ) (live later : Bool) (start a b : List Instr) (s0 s s' : Tally) (X : Marked)
    → all ≡ onto i rest → Puts start s0 X a s (put_onward D t live all p) → Puts a s (put_onward D t live (onto i rest) p) b s' (put_onward D t later rest q)
    → Puts start s0 X b s' (put_onward D t later rest q)
puts_next D t i rest all p q live later start a b s0 s s' X e f g =
    puts_then start a b s0 s s' X (put_onward D t live all p) (put_onward D t later rest q) f
    (puts_then a a b s s s' (put_onward D t live all p) (put_onward D t live (onto i rest) p) (put_onward D t later rest q)
    (puts_same a s (put_onward D t live all p) (put_onward D t live (onto i rest) p) (ap (λ z. put_onward D t live z p) e)) g)
