-- What two ends agree on is decided, or known point by point, so a proof of it may decide finitely many questions on the way.
use Rattle.std.proofs.Common.{◌≡◌, ℕ, zero, suc, ◌+◌, ◌≤◌, ◌<◌, ◌⊎◌, inl, inr, List, [], ◌∷◌, Bool, true, false, Option, Some, None, nat_eq, nat_lt, if◌then◌else◌, length, slice_get, refl, sym, ap, ap₂, ◌∙◌, ℤ, pos, negsuc, subst, arith, true≢false, eq-eqb}
use Rattle.std.proofs.Math.Path.{fun_ext}
use Rattle.wasm_types.specs.declared.module.Value.{Value}
use Rattle.wasm_types.specs.declared.module.Value.TheVariants as value
use Rattle.flow_laws.proofs.Callees.{FixedOk}
use Rattle.flow_laws.proofs.Fine.{MadeOk, apt_of, led_fine}
use Rattle.flow_laws.proofs.Laws.{Tests, by_number, done_step, one_step}
use Rattle.flow_laws.proofs.Module.{AtNode, decides_it, makes_it}
use Rattle.wasm_types.specs.Nodes.{At, Join}
use Rattle.wasm_types.specs.declared.place.Node.TheVariants.{Exit}
use Rattle.wasm_types.specs.declared.place.Node.{Node}
use Rattle.flow_laws.specs.Calls.{AgreeOn, CallComes, DoneLaw, TwoLaw}
use Rattle.flow_domain.specs.Rows.{Decider, Done, Final, Holds, Led, Makes, Output, Ret, RowOf, Rows, func_ends, func_sites}
use Rattle.wasm_types.specs.Sites.{Site, Sites}
use Rattle.wasm_meaning.proofs.ActionLaws.{gives_is}
use Rattle.flow_laws.proofs.Effects.{stops_give}
use Rattle.wasm_meaning.specs.Effects.{Answer, Calls, Effect, Fixed, Gives, Stops}
use Rattle.wasm_types.specs.Funcs.{func_of, Func}
use Rattle.wasm_meaning.specs.Invoke.{call_by, call_own, calls}
use Rattle.wasm_types.specs.declared.place.Loc.TheVariants as loc
use Rattle.wasm_types.specs.declared.place.Node.TheVariants as node
use Rattle.flow_laws.proofs.Starts.{has_type, host_type}
use Rattle.flow_laws.proofs.Imports.{import_two, import_done}
use Rattle.wasm_types.specs.Hosts.{HostFunc, host_of}
use Rattle.flow_domain.specs.Bounds.{Bounds, Cover, bounds}
use Rattle.wasm_meaning.specs.Equality.{EqAt}
use Rattle.wasm_types.specs.declared.place.Loc.TheVariants.{Global, Local, Mem, Size}
use Rattle.wasm_types.specs.declared.place.Loc.{Loc}
use Rattle.wasm_meaning.specs.Run.{turned, below}
use Rattle.wasm_meaning.specs.State.{Store, Host, Script, Answers, HostCall, ShownMemory}
use Rattle.wasm_types.specs.declared.run.Reply.{Reply}

abbrev pub NN : Type 0 → Type 0
NN A = (A → ⊥) → ⊥

abbrev pub Decided : Type 0 → Type 0
Decided A = A ⊎ (A → ⊥)

stable_of : (A : Type 0) → Decided A → NN A → A
stable_of A (inl a) n = a
stable_of A (inr f) n = absurd (n f)

nn_decided : (A : Type 0) → NN (Decided A)
nn_decided A f = f (inr (λ a. f (inl a)))

nat_decided : (x y : ℕ) → Decided (x ≡ y)
nat_decided x y = go (nat_eq x y) refl
  where
    go : (q : Bool) → nat_eq x y ≡ q → Decided (x ≡ y)
    go true e = inl (grind arith)
    go false e = inr (λ q. absurd (true≢false (sym (eq-eqb x y q) ∙ e)))

both_decided : (A B : Type 0) → Decided A → Decided B → Decided (A × B)
both_decided A B (inl a) (inl b) = inl (a, b)
both_decided A B (inl a) (inr f) = inr (λ z. f z.1)
both_decided A B (inr f) d = inr (λ z. f z.0)

decided_by : (A B : Type 0) → (A → B) → (B → A) → Decided A → Decided B
decided_by A B f g (inl a) = inl (f a)
decided_by A B f g (inr n) = inr (λ b. n (g b))

head_or : {A : Type 0} → List A → A → A
head_or [] d = d
head_or (x ∷ xs) d = x

rest_of : {A : Type 0} → List A → List A
rest_of [] = []
rest_of (x ∷ xs) = xs

heads : {A : Type 0} (x y : A) (xs ys : List A) → x ∷ xs ≡ y ∷ ys → x ≡ y
unfolding head_or
heads x y xs ys e = ap (λ z. head_or z x) e

rests : {A : Type 0} (x y : A) (xs ys : List A) → x ∷ xs ≡ y ∷ ys → xs ≡ ys
unfolding rest_of
rests x y xs ys e = ap rest_of e

list_decided : {A : Type 0} → ((x y : A) → Decided (x ≡ y)) → (xs ys : List A) → Decided (xs ≡ ys)
list_decided d [] [] = inl refl
list_decided d [] (y ∷ ys) = inr (λ e. grind arith)
list_decided d (x ∷ xs) [] = inr (λ e. grind arith)
list_decided {A = A} d (x ∷ xs) (y ∷ ys) =
    decided_by ((x ≡ y) × (xs ≡ ys)) (x ∷ xs ≡ y ∷ ys) (λ z. ap₂ {A = A} {B = List A} (λ a b. a ∷ b) z.0 z.1) (λ e. (heads x y xs ys e, rests x y xs ys e))
    (both_decided (x ≡ y) (xs ≡ ys) (d x y) (list_decided d xs ys))

value_number : Value → ℕ
value_number (value.I32 n) = n
value_number (value.I64 n) = n

value_decided : (a b : Value) → Decided (a ≡ b)
unfolding value_number
value_decided (value.I32 a) (value.I32 b) = decided_by (a ≡ b) (value.I32 a ≡ value.I32 b) (λ e. ap value.I32 e) (λ e. ap value_number e) (nat_decided a b)
value_decided (value.I32 a) (value.I64 b) = inr (λ e. grind arith)
value_decided (value.I64 a) (value.I32 b) = inr (λ e. grind arith)
value_decided (value.I64 a) (value.I64 b) = decided_by (a ≡ b) (value.I64 a ≡ value.I64 b) (λ e. ap value.I64 e) (λ e. ap value_number e) (nat_decided a b)

int_size : ℤ → ℕ
int_size (pos n) = n
int_size (negsuc n) = n

int_decided : (a b : ℤ) → Decided (a ≡ b)
unfolding int_size
int_decided (pos a) (pos b) = decided_by (a ≡ b) (pos a ≡ pos b) (λ e. ap pos e) (λ e. ap int_size e) (nat_decided a b)
int_decided (pos a) (negsuc b) = inr (λ e. grind arith)
int_decided (negsuc a) (pos b) = inr (λ e. grind arith)
int_decided (negsuc a) (negsuc b) = decided_by (a ≡ b) (negsuc a ≡ negsuc b) (λ e. ap negsuc e) (λ e. ap int_size e) (nat_decided a b)

pair_decided : {A B : Type 0} → ((x y : A) → Decided (x ≡ y)) → ((x y : B) → Decided (x ≡ y)) → (a b : A × B) → Decided (a ≡ b)
pair_decided {A = A} {B = B} f g a b =
    decided_by ((a.0 ≡ b.0) × (a.1 ≡ b.1)) (a ≡ b) (λ z. ap₂ {A = A} {B = B} (λ x y. (x, y)) z.0 z.1) (λ e. (ap (λ z. z.0) e, ap (λ z. z.1) e))
    (both_decided (a.0 ≡ b.0) (a.1 ≡ b.1) (f a.0 b.0) (g a.1 b.1))

get_or_else : {A : Type 0} → Option A → A → A
get_or_else None d = d
get_or_else (Some x) d = x

option_decided : {A : Type 0} → ((x y : A) → Decided (x ≡ y)) → (a b : Option A) → Decided (a ≡ b)
unfolding get_or_else
option_decided f None None = inl refl
option_decided f None (Some b) = inr (λ e. grind arith)
option_decided f (Some a) None = inr (λ e. grind arith)
option_decided f (Some a) (Some b) = decided_by (a ≡ b) (Some a ≡ Some b) (λ e. ap Some e) (λ e. ap (λ z. get_or_else z a) e) (f a b)

reply_is : (a b : Reply) → a.result ≡ b.result → a.globals ≡ b.globals → a.bytes ≡ b.bytes → a ≡ b
reply_is a b e f g =
    ap (λ z. record { result = z; globals = a.globals; bytes = a.bytes }) e ∙ ap (λ z. record { result = b.result; globals = z; bytes = a.bytes }) f
    ∙ ap (λ z. record { result = b.result; globals = b.globals; bytes = z }) g

reply_decided : (a b : Reply) → Decided (a ≡ b)
reply_decided a b =
    decided_by ((a.result ≡ b.result) × ((a.globals ≡ b.globals) × (a.bytes ≡ b.bytes))) (a ≡ b) (λ z. reply_is a b z.0 z.1.0 z.1.1)
    (λ e. (ap (λ z. z.result) e, (ap (λ z. z.globals) e, ap (λ z. z.bytes) e)))
    (both_decided (a.result ≡ b.result) ((a.globals ≡ b.globals) × (a.bytes ≡ b.bytes)) (option_decided int_decided a.result b.result) (both_decided (a.globals ≡ b.globals) (a.bytes ≡ b.bytes) (list_decided (pair_decided nat_decided int_decided) a.globals b.globals) (list_decided (pair_decided nat_decided (list_decided nat_decided)) a.bytes b.bytes)))

memory_decided : (a b : ShownMemory) → Decided (a ≡ b)
memory_decided a b =
    decided_by ((a.pages ≡ b.pages) × (a.bytes ≡ b.bytes)) (a ≡ b) (λ z. ap₂ {A = ℕ} {B = List ℕ} (λ x y. record { pages = x; bytes = y }) z.0 z.1)
    (λ e. (ap (λ z. z.pages) e, ap (λ z. z.bytes) e))
    (both_decided (a.pages ≡ b.pages) (a.bytes ≡ b.bytes) (nat_decided a.pages b.pages) (list_decided nat_decided a.bytes b.bytes))

call_is : (a b : HostCall) → (a.import ≡ b.import) × ((a.args ≡ b.args) × ((a.globals ≡ b.globals) × (a.memory ≡ b.memory))) → a ≡ b
call_is a b z =
    ap (λ y. record { import = y; args = a.args; globals = a.globals; memory = a.memory }) z.0
    ∙ ap (λ y. record { import = b.import; args = y; globals = a.globals; memory = a.memory }) z.1.0
    ∙ ap (λ y. record { import = b.import; args = b.args; globals = y; memory = a.memory }) z.1.1.0
    ∙ ap (λ y. record { import = b.import; args = b.args; globals = b.globals; memory = y }) z.1.1.1

call_decided : (a b : HostCall) → Decided (a ≡ b)
call_decided a b =
    decided_by ((a.import ≡ b.import) × ((a.args ≡ b.args) × ((a.globals ≡ b.globals) × (a.memory ≡ b.memory)))) (a ≡ b) (call_is a b)
    (λ e. (ap (λ z. z.import) e, (ap (λ z. z.args) e, (ap (λ z. z.globals) e, ap (λ z. z.memory) e))))
    (both_decided _ _ (nat_decided a.import b.import) (both_decided _ _ (list_decided value_decided a.args b.args) (both_decided _ _ (list_decided value_decided a.globals b.globals) (option_decided memory_decided a.memory b.memory))))

replies_of : Host → List Reply → List Reply
replies_of (Script rs) d = rs
replies_of (Answers f) d = d

asked_of : Host → (List HostCall → Option Reply) → List HostCall → Option Reply
asked_of (Script rs) d = d
asked_of (Answers f) d = f

-- two hosts that can't be told apart are equal
host_stable : (a b : Host) → NN (a ≡ b) → a ≡ b
unfolding replies_of asked_of
host_stable (Script r) (Script s) n = ap Script (stable_of (r ≡ s) (list_decided reply_decided r s) (λ f. n (λ e. f (ap (λ z. replies_of z r) e))))
host_stable (Script r) (Answers g) n = absurd (n (λ e. grind arith))
host_stable (Answers f) (Script s) n = absurd (n (λ e. grind arith))
host_stable (Answers f) (Answers g) n =
    ap Answers (fun_ext (λ x. stable_of (f x ≡ g x) (option_decided reply_decided (f x) (g x)) (λ k. n (λ e. k (ap (λ z. asked_of z f x) e)))))

pub nat_stable : (x y : ℕ) → NN (x ≡ y) → x ≡ y
nat_stable x y n = stable_of (x ≡ y) (nat_decided x y) n

pub eq_stable : (x : Loc) (s s' : Store) → NN (EqAt x s s') → EqAt x s s'
eq_stable (Local k) s s' n = stable_of _ (value_decided _ _) n
eq_stable (Global g) s s' n = stable_of _ (value_decided _ _) n
eq_stable Mem s s' n = λ a. nat_stable _ _ (λ f. n (λ e. f (e a)))
eq_stable Size s s' n = nat_stable _ _ n
eq_stable loc.Host s s' n = (
  host_stable s'.state.host s.state.host (λ f. n (λ e. f e.0)),
  stable_of (s'.state.host_calls ≡ s.state.host_calls) (list_decided call_decided s'.state.host_calls s.state.host_calls) (λ f. n (λ e. f e.1)),
)

pub agree_stable : (o : Output) (e e' : Effect) → NN (AgreeOn o e e') → AgreeOn o e e'
agree_stable Ret e e' n = stable_of (e'.results ≡ e.results) (list_decided value_decided e'.results e.results) n
agree_stable (Final x) e e' n = λ on. eq_stable x e.store e'.store (λ f. n (λ g. f (g on)))
agree_stable Done e e' n = tt

-- a test of the numbers below L
pub record TestBelow (Q : ℕ → Type 0) (L : ℕ) : Type 0 where
  pub test : ℕ → Bool
  pub says : (p : ℕ) → p < L → test p ≡ true → Q p
  pub holds : (p : ℕ) → p < L → Q p → test p ≡ true

eq_of : (x y : ℕ) → nat_eq x y ≡ true → x ≡ y
eq_of x y e = grind arith

test_more : (Q : ℕ → Type 0) (L : ℕ) → TestBelow Q L → Decided (Q L) → TestBelow Q (suc L)
test_more Q L t d = go d
  where
    pick_at : Bool → ℕ → Bool
    pick_at b p = if nat_eq p L then b else t.test p

    here : (p : ℕ) → p ≡ L → (b : Bool) → pick_at b p ≡ b
    here p e b = let q : nat_eq p L ≡ true = eq-eqb p L e in rw q

    below_it : (p : ℕ) → p < suc L → (p ≡ L → ⊥) → p < L
    below_it p lt f = grind arith

    there : (p : ℕ) → (q : Bool) → nat_eq p L ≡ q → q ≡ false → (b : Bool) → pick_at b p ≡ t.test p
    there p q e off b = rw (e, off)

    split : (p : ℕ) → (q : Bool) → nat_eq p L ≡ q → (p ≡ L) ⊎ (nat_eq p L ≡ false)
    split p true e = inl (eq_of p L e)
    split p false e = inr e

    less : (p : ℕ) → p < suc L → nat_eq p L ≡ false → p < L
    less p lt off = below_it p lt (λ e. true≢false (sym (eq-eqb p L e) ∙ off))

    says_by : (b : Bool) → (b ≡ true → Q L) → (p : ℕ) → p < suc L → pick_at b p ≡ true → (p ≡ L) ⊎ (nat_eq p L ≡ false) → Q p
    says_by b f p lt on (inl e) = subst Q (sym e) (f (sym (here p e b) ∙ on))
    says_by b f p lt on (inr off) = t.says p (less p lt off) (sym (there p false off refl b) ∙ on)

    holds_by : (b : Bool) → (Q L → b ≡ true) → (p : ℕ) → p < suc L → Q p → (p ≡ L) ⊎ (nat_eq p L ≡ false) → pick_at b p ≡ true
    holds_by b f p lt q (inl e) = here p e b ∙ f (subst Q e q)
    holds_by b f p lt q (inr off) = there p false off refl b ∙ t.holds p (less p lt off) q

    go : Decided (Q L) → TestBelow Q (suc L)
    go (inl a) = record {
      test = pick_at true;
      says = λ p lt on. says_by true (λ e. a) p lt on (split p _ refl);
      holds = λ p lt q. holds_by true (λ e. refl) p lt q (split p _ refl);
    }
    go (inr f) = record {
      test = pick_at false;
      says = λ p lt on. says_by false (λ e. absurd (true≢false (sym e))) p lt on (split p _ refl);
      holds = λ p lt q. holds_by false (λ e. absurd (f e)) p lt q (split p _ refl);
    }

nn_test : (Q : ℕ → Type 0) (L : ℕ) → NN (TestBelow Q L)
nn_test Q zero f = f (record { test = λ p. false; says = λ p lt. absurd (omega arith); holds = λ p lt. absurd (omega arith) })
nn_test Q (suc L) f = nn_test Q L (λ t. nn_decided (Q L) (λ d. f (test_more Q L t d)))

-- a test of nodes that have places below L
pub record NodeTest (Q : Node → Type 0) : Type 0 where
  pub test : Node → Bool
  pub says : (n : Node) → test n ≡ true → Q n
  pub holds : (n : Node) → Q n → test n ≡ true

abbrev pub InRange : ℕ → Node → Type 0
InRange L (node.At p) = p.0 < L
InRange L (node.Join p) = p.0 < L
InRange L Exit = Unit {0}

node_test : (Q : Node → Type 0) (L : ℕ) → ((n : Node) → Q n → InRange L n) → TestBelow (λ p. Q (At p)) L → TestBelow (λ p. Q (Join p)) L → Decided (Q Exit)
    → NodeTest Q
node_test Q L range a j d = record { test = test; says = says; holds = holds }
  where
    yes_no : Decided (Q Exit) → Bool
    yes_no (inl x) = true
    yes_no (inr f) = false

    exit_says : (d : Decided (Q Exit)) → yes_no d ≡ true → Q Exit
    exit_says (inl x) e = x
    exit_says (inr f) e = absurd (true≢false (sym e))

    exit_holds : (d : Decided (Q Exit)) → Q Exit → yes_no d ≡ true
    exit_holds (inl x) q = refl
    exit_holds (inr f) q = absurd (f q)

    only : Bool → Bool → Bool
    only true b = b
    only false b = false

    both : (x y : Bool) → only x y ≡ true → (x ≡ true) × (y ≡ true)
    both true y e = (refl, e)
    both false y e = absurd (true≢false (sym e))

    lt_of : (p : ℕ) → nat_lt p L ≡ true → p < L
    lt_of p e = grind arith

    of_lt : (p : ℕ) → p < L → nat_lt p L ≡ true
    of_lt p e = grind arith

    test : Node → Bool
    test (node.At p) = only (nat_lt p.0 L) (a.test p.0)
    test (node.Join p) = only (nat_lt p.0 L) (j.test p.0)
    test Exit = yes_no d

    says : (n : Node) → test n ≡ true → Q n
    says (node.At p) e = let b = both (nat_lt p.0 L) (a.test p.0) e in a.says p.0 (lt_of p.0 b.0) b.1
    says (node.Join p) e = let b = both (nat_lt p.0 L) (j.test p.0) e in j.says p.0 (lt_of p.0 b.0) b.1
    says Exit e = exit_says d e

    holds : (n : Node) → Q n → test n ≡ true
    holds (node.At p) q = let lt = range (node.At p) q in rw (of_lt p.0 lt) (a.holds p.0 lt q)
    holds (node.Join p) q = let lt = range (node.Join p) q in rw (of_lt p.0 lt) (j.holds p.0 lt q)
    holds Exit q = exit_holds d q

nn_node_test : (Q : Node → Type 0) (L : ℕ) → ((n : Node) → Q n → InRange L n) → NN (NodeTest Q)
nn_node_test Q L range f = nn_test (λ p. Q (At p)) L (λ a. nn_test (λ p. Q (Join p)) L (λ j. nn_decided (Q Exit) (λ d. f (node_test Q L range a j d))))

no_entry : {A : Type 0} (s : Option Site) → None ≡ Some s → A
no_entry s e = absurd (grind arith)

site_below : (xs : Sites) (p : ℕ) (s : Option Site) → slice_get xs p ≡ Some s → p < length xs
site_below [] p s e = no_entry s e
site_below (x ∷ xs) zero s e = omega arith
site_below (x ∷ xs) (suc p) s e = let a = site_below xs p s e in omega arith

made_range : (B : Bounds) (F : Func) (n : Node) → MadeOk (func_sites B F) n → InRange (length (func_sites B F)) n
made_range B F (node.At p) m = site_below (func_sites B F) p.0 (Some m.0) m.1
made_range B F (node.Join p) m = site_below (func_sites B F) p.0 (Some m.0) m.1
made_range B F Exit m = tt

-- what is led to can be tested, as far as what is decided goes
pub nn_tests : (Z : Fixed) (W : Cover) (ok : FixedOk Z W) (R : Rows) (F : Func) (o : Output) → NN (Tests Z W ok R F o)
nn_tests Z W ok R F o f =
    nn_node_test (AtNode (bounds Z.m W) (RowOf Z.m R) (func_sites (bounds Z.m W) F) (func_ends (bounds Z.m W) F) o) (length (func_sites (bounds Z.m W) F))
    at_range
    (λ k. nn_node_test (λ n. Led (bounds Z.m W) (RowOf Z.m R) (func_sites (bounds Z.m W) F) (func_ends (bounds Z.m W) F) o (Makes n Ret)) (length (func_sites (bounds Z.m W) F)) (λ n led. made_range (bounds Z.m W) F n (led_fine (bounds Z.m W) (RowOf Z.m R) F o (Makes n Ret) led)) (λ m. f (record {
      K = k.test;
      M = m.test;
      sets = record { k_has = k.says; k_is = k.holds; m_has = m.says; m_is = m.holds };
      apt = apt_of (bounds Z.m W) (RowOf Z.m R) F o;
    })))
  where
    at_range : (n : Node) → AtNode (bounds Z.m W) (RowOf Z.m R) (func_sites (bounds Z.m W) F) (func_ends (bounds Z.m W) F) o n
        → InRange (length (func_sites (bounds Z.m W) F)) n
    at_range n (makes_it out led) = made_range (bounds Z.m W) F n (led_fine (bounds Z.m W) (RowOf Z.m R) F o (Makes n out) led)
    at_range n (decides_it {p = p} led) =
        let a = led_fine (bounds Z.m W) (RowOf Z.m R) F o (Decider p) led in site_below (func_sites (bounds Z.m W) F) p (Some a.site) a.is

-- rows that hold what they lead to are sound, for calls of all functions, whatever number is left
pub two_laws : (Z : Fixed) (W : Cover) → FixedOk Z W → (R : Rows) → Holds (bounds Z.m W) R → (n m : ℕ) → m ≤ n → TwoLaw R Z.m (below Z (calls Z) m).call
two_laws Z W ok R holds = by_number Z (TwoLaw R Z.m) (λ f t is o vs vs' lv lv' st st' e e' same q q'. stops_give e q) step
  where
    step : (n : ℕ) → ((m : ℕ) → m ≤ n → TwoLaw R Z.m (below Z (calls Z) m).call) → TwoLaw R Z.m (calls Z (below Z (calls Z) n))
    step n below_it f t is o vs vs' lv lv' st st' e e' same q q' = by_host (host_of Z.m f) refl q q'
      where
        go : (w : Option Func) → func_of Z.m f ≡ w → call_own Z (below Z (calls Z) n) w vs (turned st) ≡ Gives e → AgreeOn o e e'
        go None e1 q1 = stops_give e q1
        go (Some F) e1 q1 =
            let h = has_type Z.m f F t e1 is in
            agree_stable o e e'
            (λ no. nn_tests Z W ok R F o
            (λ ts. no (one_step Z W ok R holds n below_it f F e1 o ts vs vs' (lv ∙ sym h.params) (lv' ∙ sym h.params) st st' e e' same q q')))

        by_host : (w : Option HostFunc) → host_of Z.m f ≡ w → call_by Z (below Z (calls Z) n) w f vs (turned st) ≡ Gives e
            → call_by Z (below Z (calls Z) n) w f vs' (turned st') ≡ Gives e' → AgreeOn o e e'
        by_host None e1 q1 q1' = go (func_of Z.m f) refl q1
        by_host (Some H) e1 q1 q1' =
            let k = ap (λ z. length z.params) (host_type Z.m f H t e1 is) in
            import_two (bounds Z.m W) f H e1 R holds o vs vs' (lv ∙ sym k) (lv' ∙ sym k) st st' e e' same q1 q1'

comes_stable : (c : Calls) (f : ℕ) (vs' : List Value) (st st' : Store) (e : Effect) (o : Answer) → c f vs' st' ≡ o → NN (CallComes c f vs' st st' e)
    → CallComes c f vs' st st' e
comes_stable c f vs' st st' e (Stops w s1) q n = absurd (n (λ a. stops_give a.other (sym q ∙ a.is)))
comes_stable c f vs' st st' e (Gives e') q n = record {
  other = e';
  is = q;
  turns =
      nat_stable _ _
      (λ g. n (λ a. g (subst (λ z. z.store.state.turns + st.state.turns ≡ e.store.state.turns + st'.state.turns) (gives_is a.other e' (sym a.is ∙ q)) a.turns)));
}

-- where an invocation returns, one that begins equal on the row of Done returns too, after as many turns
pub done_laws : (Z : Fixed) (W : Cover) → FixedOk Z W → (R : Rows) → Holds (bounds Z.m W) R → (n m : ℕ) → m ≤ n → DoneLaw R Z.m (below Z (calls Z) m).call
done_laws Z W ok R holds = by_number Z (DoneLaw R Z.m) (λ f t is vs vs' lv lv' st st' e same q. stops_give e q) step
  where
    step : (n : ℕ) → ((m : ℕ) → m ≤ n → DoneLaw R Z.m (below Z (calls Z) m).call) → DoneLaw R Z.m (calls Z (below Z (calls Z) n))
    step n below_it f t is vs vs' lv lv' st st' e same q = by_host (host_of Z.m f) refl q
      where
        go : (w : Option Func) → func_of Z.m f ≡ w → call_own Z (below Z (calls Z) n) w vs (turned st) ≡ Gives e
            → CallComes (calls Z (below Z (calls Z) n)) f vs' st st' e
        go None e1 q1 = stops_give e q1
        go (Some F) e1 q1 =
            let h = has_type Z.m f F t e1 is in
            comes_stable _ f vs' st st' e _ refl
            (λ no. nn_tests Z W ok R F Done
            (λ ts. no (done_step Z W ok R holds n (λ m le. two_laws Z W ok R holds n m le) below_it f F e1 ts vs vs' (lv ∙ sym h.params) (lv' ∙ sym h.params) st st' e same q)))

        by_host : (w : Option HostFunc) → host_of Z.m f ≡ w → call_by Z (below Z (calls Z) n) w f vs (turned st) ≡ Gives e
            → CallComes (calls Z (below Z (calls Z) n)) f vs' st st' e
        by_host None e1 q1 = go (func_of Z.m f) refl q1
        by_host (Some H) e1 q1 =
            let k = ap (λ z. length z.params) (host_type Z.m f H t e1 is) in
            let d = import_done (bounds Z.m W) f H e1 R holds vs vs' (lv ∙ sym k) (lv' ∙ sym k) st st' e same q1 in
            record { other = d.other; is = ap (λ z. call_by Z (below Z (calls Z) n) z f vs' (turned st')) e1 ∙ d.is; turns = d.turns }
