-- An instruction that has a site is live, and whom it calls its function calls.
use Rattle.std.proofs.Common.{◌≡◌, ℕ, zero, suc, ◌+◌, ◌⊎◌, inl, inr, ⊎_elim, List, [], ◌∷◌, ◌++◌, replicate, Option, Some, None, drop, slice_get, refl, sym, ap, ◌∙◌, subst}
use Rattle.wasm_types.specs.declared.module.FuncType.{FuncType}
use Rattle.wasm_types.specs.declared.module.Module.{Module}
use Rattle.wasm_types.specs.declared.place.Node.{Node}
use Rattle.wasm_types.specs.declared.place.Node.TheVariants.{Exit}
use Rattle.wasm_types.specs.declared.instr.Instr.{Instr}
use Rattle.wasm_types.specs.Marked.{Marked, End, Do, Block, Loop, If, Br, BrIf, BrTable, Return, Unreachable, size}
use Rattle.wasm_types.specs.Actions.{Callees, callees, Callee, Own, Through, Form, NoForm, Plain, CallOf, CallBy, form_of, own_task, table_task, task_by, called_of}
use Rattle.wasm_types.specs.Nodes.{Join, made}
use Rattle.wasm_types.specs.Labels.{arity, Label, block_label, loop_label}
use Rattle.wasm_types.specs.Sites.{Head, DoHead, Site, Sites, IsSite, sites, body_sites, Among}
use Rattle.wasm_types.specs.Spaces.{type_of_func}
use Rattle.wasm_types.specs.Funcs.{Func, func_of, text}
use Rattle.flow_domain.specs.Bounds.{Bounds, called}
use Rattle.flow_domain.specs.Reach.{LiveIn, CallsFunc, by_number, by_table}
use Rattle.flow_domain.specs.Rows.{Target, func_sites}
use Rattle.call_graph.specs.Graph.{CallsNumber}

-- ---- sites

among_get : {X : Type 0} (xs : List X) (i : ℕ) (x : X) → slice_get xs i ≡ Some x → Among xs x
among_get [] i x e = absurd cc
among_get (y ∷ xs) zero x e = inl cc
among_get (y ∷ xs) (suc i) x e = inr (among_get xs i x e)

among_split : {X : Type 0} (xs ys : List X) (x : X) → Among (xs ++ ys) x → Among xs x ⊎ Among ys x
among_split [] ys x a = inr a
among_split (y ∷ xs) ys x (inl e) = inl (inl e)
among_split (y ∷ xs) ys x (inr a) = ⊎_elim (λ h. inl (inr h)) inr (among_split xs ys x a)

no_site : (n : ℕ) (s : Site) → Among (replicate n None) (Some s) → ⊥
no_site zero s a = a
no_site (suc n) s (inl e) = cc
no_site (suc n) s (inr a) = no_site n s a

head_or : Head → Option Site → Head
head_or h None = h
head_or h (Some s) = s.head

-- the site that stands first is this one
first_head : (a s : Site) (op : Instr) → Some a ≡ Some s → s.head ≡ DoHead op → a.head ≡ DoHead op
unfolding head_or
first_head a s op e h = ap (head_or (DoHead op)) e ∙ h

do_is : (o op : Instr) → DoHead o ≡ DoHead op → o ≡ op
do_is o op e = cc

live_site : (cs : Callees) (code : Marked) (ctx : List Label) (k : Node) (p : ℕ) (names : List Node) (s : Site) (op : Instr)
    → Among (sites cs ctx k code p names) (Some s) → s.head ≡ DoHead op → LiveIn op code
live_site cs End ctx k p names s op a h = a
live_site cs (Do m o rest) ctx k p names s op (inl e) h = inl (do_is o op (first_head _ s op e h))
live_site cs (Do m o rest) ctx k p names s op (inr a) h = inr (live_site cs rest ctx k (p + 1) (made cs p o names) s op a h)
live_site cs (Block m t body rest) ctx k p names s op (inl e) h = let wrong = first_head _ s op e h in absurd cc
live_site cs (Block m t body rest) ctx k p names s op (inr a) h = ⊎_elim
    (λ b. inl (live_site cs body _ (Join p) (p + 1) [] s op b h))
    (λ b. inr (live_site cs rest ctx k _ _ s op b h))
    (among_split (sites cs (block_label p (arity t) (p + 1 + size body) ∷ ctx) (Join p) body (p + 1) []) _ (Some s) a)
live_site cs (Loop m t body rest) ctx k p names s op (inl e) h = let wrong = first_head _ s op e h in absurd cc
live_site cs (Loop m t body rest) ctx k p names s op (inr a) h = ⊎_elim
    (λ b. inl (live_site cs body _ (Join p) (p + 1) [] s op b h))
    (λ b. inr (live_site cs rest ctx k _ _ s op b h))
    (among_split (sites cs (loop_label p (p + 1 + size body) ∷ ctx) (Join p) body (p + 1) []) _ (Some s) a)
live_site cs (If m t x y rest) ctx k p names s op (inl e) h = let wrong = first_head _ s op e h in absurd cc
live_site cs (If m t x y rest) ctx k p names s op (inr a) h =
    let L = block_label p (arity t) (p + 1 + size x + size y) in ⊎_elim
    (λ b. inl (live_site cs x (L ∷ ctx) (Join p) (p + 1) [] s op b h))
    (λ b. ⊎_elim
    (λ d. inr (inl (live_site cs y (L ∷ ctx) (Join p) (p + 1 + size x) [] s op d h)))
    (λ d. inr (inr (live_site cs rest ctx k _ _ s op d h)))
    (among_split (sites cs (L ∷ ctx) (Join p) y (p + 1 + size x) []) _ (Some s) b))
    (among_split (sites cs (L ∷ ctx) (Join p) x (p + 1) []) _ (Some s) a)
live_site cs (Br m l rest) ctx k p names s op (inl e) h = let wrong = first_head _ s op e h in absurd cc
live_site cs (Br m l rest) ctx k p names s op (inr a) h = absurd (no_site (size rest) s a)
live_site cs (BrIf m l rest) ctx k p names s op (inl e) h = let wrong = first_head _ s op e h in absurd cc
live_site cs (BrIf m l rest) ctx k p names s op (inr a) h = live_site cs rest ctx k (p + 1) (drop 1 names) s op a h
live_site cs (BrTable m ls l rest) ctx k p names s op (inl e) h = let wrong = first_head _ s op e h in absurd cc
live_site cs (BrTable m ls l rest) ctx k p names s op (inr a) h = absurd (no_site (size rest) s a)
live_site cs (Return m rest) ctx k p names s op (inl e) h = let wrong = first_head _ s op e h in absurd cc
live_site cs (Return m rest) ctx k p names s op (inr a) h = absurd (no_site (size rest) s a)
live_site cs (Unreachable m rest) ctx k p names s op (inl e) h = let wrong = first_head _ s op e h in absurd cc
live_site cs (Unreachable m rest) ctx k p names s op (inr a) h = absurd (no_site (size rest) s a)

pub body_live : (cs : Callees) (t : ℕ) (code : Marked) (p : ℕ) (s : Site) (op : Instr) → IsSite (body_sites cs t code) p s → s.head ≡ DoHead op → LiveIn op code
body_live cs t code p s op is h = live_site cs code _ Exit 0 [] s op (among_get (body_sites cs t code) p (Some s) is) h

pub site_live : (B : Bounds) (F : Func) (p : ℕ) (s : Site) (op : Instr) → IsSite (func_sites B F) p s → s.head ≡ DoHead op → LiveIn op (text F)
site_live B F p s op is h = body_live (callees B.m) F.results (text F) p s op is h

same_some : {X : Type 0} (x y : X) → Some x ≡ Some y → x ≡ y
same_some x y e = cc

pub same_site : (S : Sites) (p : ℕ) (s s' : Site) → IsSite S p s → IsSite S p s' → s ≡ s'
same_site S p s s' is is' = same_some s s' (same_some (Some s) (Some s') (sym is ∙ is'))

-- ---- whom it calls

-- an instruction of this form calls it
abbrev pub FormCalls : Form → Callee → Type 0
FormCalls (CallOf f) (Own g) = f ≡ g
FormCalls (CallBy t) (Through u n) = t ≡ u
FormCalls _ _ = ⊥

own_is : (f : ℕ) (o : Option FuncType) (g : Callee) → called_of (own_task f o) ≡ Some g → FormCalls (CallOf f) g
own_is f None g e = absurd cc
own_is f (Some t) g e = subst (FormCalls (CallOf f)) (same_some (Own f) g e) refl

table_is : (t : ℕ) (o : Option FuncType) (g : Callee) → called_of (table_task t o) ≡ Some g → FormCalls (CallBy t) g
table_is t None g e = absurd cc
table_is t (Some u) g e = subst (FormCalls (CallBy t)) (same_some (Through t _) g e) refl

form_calls : (m : Module) (form : Form) (g : Callee) → called_of (task_by (callees m) form) ≡ Some g → FormCalls form g
form_calls m NoForm g e = absurd cc
form_calls m (Plain a) g e = absurd cc
form_calls m (CallOf f) g e = own_is f (type_of_func m f) g e
form_calls m (CallBy t) g e = table_is t (slice_get m.types t) g e

-- a callee is this function, or may be
abbrev pub IsCalled : Module → Callee → ℕ → Type 0
IsCalled m (Own g) h = g ≡ h
IsCalled m (Through t n) h = Target m t h

module _ (m : Module) (f : ℕ) (F : Func) (is : func_of m f ≡ Some F) (op : Instr) (live : LiveIn op (text F)) where
  by_form : (form : Form) → form_of op ≡ form → (g : Callee) → FormCalls form g → (h : ℕ) → IsCalled m g h → CallsFunc m f h
  by_form (CallOf k) e (Own g) same h called = by_number F op is live (subst (λ n. form_of op ≡ CallOf n) (same ∙ called) e)
  by_form (CallBy t) e (Through u n) same h target = by_table F op t is live e (subst (λ k. Target m k h) (sym same) target)
  by_form NoForm e g same h called = absurd same
  by_form (Plain a) e g same h called = absurd same
  by_form (CallOf k) e (Through u n) same h called = absurd same
  by_form (CallBy t) e (Own g) same h called = absurd same

-- a function calls whom its live instructions call
pub live_calls : (B : Bounds) (f : ℕ) (F : Func) (op : Instr) (g : Callee) → func_of B.m f ≡ Some F → LiveIn op (text F) → called B op ≡ Some g → (h : ℕ)
    → IsCalled B.m g h → CallsFunc B.m f h
live_calls B f F op g is live called h callee = by_form B.m f F is op live (form_of op) refl g (form_calls B.m (form_of op) g called) h callee

number_form : (form : Form) (h : ℕ) → FormCalls form (Own h) → form ≡ CallOf h
number_form (CallOf k) h same = ap CallOf same
number_form NoForm h same = absurd same
number_form (Plain a) h same = absurd same
number_form (CallBy t) h same = absurd same

-- by its number, where they call a function
pub live_number : (B : Bounds) (f : ℕ) (F : Func) (op : Instr) (h : ℕ) → func_of B.m f ≡ Some F → LiveIn op (text F) → called B op ≡ Some (Own h)
    → CallsNumber B.m f h
live_number B f F op h is live called = (F, (op, (is, (live, number_form (form_of op) h (form_calls B.m (form_of op) (Own h) called)))))

-- calls by number are calls
pub number_calls : (m : Module) (f h : ℕ) → CallsNumber m f h → CallsFunc m f h
number_calls m f h (F, (op, (is, (live, form)))) = by_number F op is live form

-- and whom its sites call
pub site_calls : (B : Bounds) (f : ℕ) (F : Func) (p : ℕ) (s : Site) (op : Instr) (g : Callee) → func_of B.m f ≡ Some F → IsSite (func_sites B F) p s
    → s.head ≡ DoHead op → called B op ≡ Some g → (h : ℕ) → IsCalled B.m g h → CallsFunc B.m f h
site_calls B f F p s op g is site head called h callee =
    live_calls B f F op g is (site_live B F p s op site head) called h callee
