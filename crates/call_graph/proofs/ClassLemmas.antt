-- Classes: which functions may stand in the table, and the numbers of shapes.
use Rattle.std.proofs.Common.{◌≡◌, ◌↔◌, ℕ, zero, suc, ◌+◌, ◌<◌, ◌≤◌, List, [], ◌∷◌, ◌++◌, Bool, true, false, IsTrue, Option, Some, None, length, get_or, set, take, map, replicate, refl, ap, sym, ◌∙◌, subst, arith, inl, inr, ◌⊎◌, ⊎_elim, get_or-set_same, get_or-set_other, drop}
use Rattle.std.specs.Prelude.{Any, bytes_eq, if◌then◌else◌, slice_get, position, is_some, IfSome}
use Rattle.std.specs.List.{Contains, list_any}
use Rattle.std.specs.Cmp.Lexicographic.{bytes_decides}
use Rattle.std.proofs.Math.ListN.{length-set}
use Rattle.std.proofs.lemmas.Bool.{cases_eq, cases_Bool, cases_lt}
use Rattle.std.proofs.lemmas.List.{take_more, map_push, get_or_past, get_or-replicate, take_all, drop_all, append-nil}
use Rattle.std.proofs.lemmas.List.Elements.{Contains-push, Contains-push_cases, Contains-append_left}
use Rattle.std.proofs.lemmas.List.Quantifiers.{position-Some}
use Rattle.std.proofs.lemmas.Option.{slice_get_within, slice_get-get_or, get_or_from_slice_get}
use Rattle.wasm_types.specs.declared.module.Elem.{Elem}
use Rattle.wasm_types.specs.declared.module.FuncType.{FuncType}
use Rattle.wasm_types.specs.declared.module.ValType.{ValType}
use Rattle.wasm_types.specs.declared.module.ValType.TheVariants.{I32, I64, F32, F64}
use Rattle.wasm_types.specs.declared.module.Module.{Module}
use Rattle.wasm_types.specs.Hosts.{MayStand, TableVisible}
use Rattle.wasm_types.specs.Spaces.{func_types, type_of_func}
use Rattle.flow_domain.specs.Rows.{Target}
use Rattle.worklist.specs.Search.{IsMarked}
use Rattle.worklist.proofs.Meeting.{marked_kept}
use Rattle.call_graph.specs.Below.{AllBelow}
use Rattle.call_graph.specs.Classes.{AreApart, Keeps, IsFound, IsFuncClass, AreFuncClasses, AreTypeClasses}
use Rattle.call_graph.specs.Shapes.{number_of, shape_of}
use Rattle.call_graph.proofs.Calling.{typed_below}
use Rattle.call_graph.proofs.Listing.{get_push, get_front}
use Rattle.call_graph.proofs.Members.{none_in}

-- ---- marks

marked_was : (marks : List Bool) (node x : ℕ) → IsMarked (set marks node true) x → IsMarked marks x ⊎ (x ≡ node)
marked_was marks node x h = ⊎_elim inr (λ ne. inl (sym (get_or-set_other marks node x true false ne) ∙ h)) (cases_eq x node)

pub mark_none : (marks : List Bool) (f : ℕ) → IsMarked marks f ↔ (IsMarked marks f ⊎ Contains (let none : List ℕ = [] in none) f)
mark_none marks f = (λ h. inl h, λ h. ⊎_elim (λ k. k) (λ n. absurd (none_in f n)) h)

module _ (first marks : List Bool) (funcs : List ℕ) (i func : ℕ) (lt : i < length funcs) (here : get_or funcs i 0 ≡ func)
    (so_far : (f : ℕ) → f < length marks → IsMarked marks f ↔ (IsMarked first f ⊎ Contains (take i funcs) f)) where
  next : take (i + 1) funcs ≡ take i funcs ++ func ∷ []
  next = take_more funcs i 0 lt ∙ ap (λ (y : ℕ). take i funcs ++ y ∷ []) here

  pub mark_more : func < length marks → (f : ℕ) → f < length (set marks func true)
      → IsMarked (set marks func true) f ↔ (IsMarked first f ⊎ Contains (take (i + 1) funcs) f)
  mark_more in' f below =
      let lf : f < length marks = omega (arith, length-set marks func true) in (
        λ h. ⊎_elim
            (λ k. ⊎_elim inl (λ c. inr (rw next (Contains-append_left (take i funcs) (func ∷ []) f c))) ((so_far f lf).0 k))
            (λ e. inr (rw next (subst (Contains (take i funcs ++ func ∷ [])) (sym e) (Contains-push (take i funcs) func))))
            (marked_was marks func f h),
        λ h. ⊎_elim
            (λ k. marked_kept marks func f in' ((so_far f lf).1 (inl k)))
            (λ c. ⊎_elim
            (λ k. marked_kept marks func f in' ((so_far f lf).1 (inr k)))
            (λ e. subst (IsMarked (set marks func true)) e (get_or-set_same marks func true false in'))
            (Contains-push_cases (take i funcs) func f (rw next at c)))
            h,
      )

  pub mark_skip : length marks ≤ func → (f : ℕ) → f < length marks → IsMarked marks f ↔ (IsMarked first f ⊎ Contains (take (i + 1) funcs) f)
  mark_skip past f lf = (
    λ h. ⊎_elim inl (λ c. inr (rw next (Contains-append_left (take i funcs) (func ∷ []) f c))) ((so_far f lf).0 h),
    λ h. ⊎_elim
        (λ k. (so_far f lf).1 (inl k))
        (λ c. ⊎_elim
        (λ k. (so_far f lf).1 (inr k))
        (λ e. absurd (omega (arith, e)))
        (Contains-push_cases (take i funcs) func f (rw next at c)))
        h,
  )

any_push : {A : Type 0} (P : A → Type 0) (xs : List A) (x : A) → Any P (xs ++ x ∷ []) → Any P xs ⊎ P x
any_push P xs x (k, y, lt, is, p) = ⊎_elim
    (λ c. inl (c.0, y, c.1, c.2, p))
    (λ e. inr (subst P (sym e) p))
    (Contains-push_cases xs x y (k, lt, is))

push_any : {A : Type 0} (P : A → Type 0) (xs : List A) (x : A) → Any P xs ⊎ P x → Any P (xs ++ x ∷ [])
push_any P xs x h = ⊎_elim
    (λ (k, y, lt, is, p). let c = Contains-append_left xs (x ∷ []) y (k, lt, is) in (c.0, y, c.1, c.2, p))
    (λ p. let c = Contains-push xs x in (c.0, x, c.1, c.2, p))
    h

no_any : {A : Type 0} (P : A → Type 0) → Any P [] → ⊥
no_any P (k, y, lt, is, p) = omega arith

pub named_none : (marks : List Bool) (f : ℕ) → IsMarked marks f ↔ (IsMarked marks f ⊎ Any (λ (e : Elem). Contains e.funcs f) [])
named_none marks f = (λ h. inl h, λ h. ⊎_elim (λ k. k) (λ n. absurd (no_any (λ (e : Elem). Contains e.funcs f) n)) h)

-- one element segment more
pub named_more : (first marks now : List Bool) (elems : List Elem) (i : ℕ) (elem : Elem) → i < length elems → elem ≡ get_or elems i elem
    → length now ≡ length marks
    → ((f : ℕ) → f < length marks → IsMarked marks f ↔ (IsMarked first f ⊎ Any (λ (e : Elem). Contains e.funcs f) (take i elems)))
    → ((f : ℕ) → f < length now → IsMarked now f ↔ (IsMarked marks f ⊎ Contains elem.funcs f))
    → (f : ℕ) → f < length now → IsMarked now f ↔ (IsMarked first f ⊎ Any (λ (e : Elem). Contains e.funcs f) (take (i + 1) elems))
named_more first marks now elems i elem lt here same so_far one f below =
    let next : take (i + 1) elems ≡ take i elems ++ elem ∷ [] = take_more elems i elem lt ∙ ap (λ (y : Elem). take i elems ++ y ∷ []) (sym here) in
    let lf : f < length marks = omega (arith, same) in
    let P : Elem → Type 0 = λ e. Contains e.funcs f in (
      λ h. ⊎_elim
          (λ k. ⊎_elim inl (λ a. inr (rw next (push_any P (take i elems) elem (inl a)))) ((so_far f lf).0 k))
          (λ c. inr (rw next (push_any P (take i elems) elem (inr c))))
          ((one f below).0 h),
      λ h. (one f below).1 (⊎_elim
          (λ k. inl ((so_far f lf).1 (inl k)))
          (λ a. ⊎_elim (λ b. inl ((so_far f lf).1 (inr b))) inr (any_push P (take i elems) elem (rw next at a)))
          h),
    )

marked_below : (marks : List Bool) (f : ℕ) → IsMarked marks f → f < length marks
marked_below marks f h = ⊎_elim (λ lt. lt) (λ past. let off = get_or_past marks f false past in let on : get_or marks f false ≡ true = h in absurd cc) (cases_lt f (length marks))

pub lent_whole : (now items : List Bool) (long : ℕ) → length now ≡ length items → long ≡ length items
    → take long (now ++ drop (length now) items) ≡ now
lent_whole now items long same is =
    let none : drop (length now) items ≡ [] = drop_all (length now) items (omega arith) in
    rw (none, append-nil now) (take_all long now (omega arith))

pub standing_is : (m : Module) (seen : Bool) (marks : List Bool) (n : ℕ) → n ≡ length (func_types m) → length marks ≡ n → IsTrue seen ↔ TableVisible m
    → ((f : ℕ) → f < length marks → IsMarked marks f ↔ (IsMarked (replicate n seen) f ⊎ Any (λ (e : Elem). Contains e.funcs f) m.elems))
    → (f : ℕ) → IsMarked marks f ↔ MayStand m f
standing_is m seen marks n count long visible exact f = (
  λ h.
      let below = marked_below marks f h in
      let lt : f < n = omega (arith, long) in (
        omega (arith, count, lt),
        ⊎_elim
            (λ k. let on : seen ≡ true = sym (get_or-replicate n f seen false lt) ∙ k in inr (visible.0 on))
            inl
            ((exact f below).0 h),
      ),
  λ (lt, s).
      let below : f < length marks = omega (arith, lt, count, long) in
      let ln : f < n = omega (arith, lt, count) in
      (exact f below).1 (⊎_elim
      inr
      (λ v. let on : seen ≡ true = visible.1 v in inl (get_or-replicate n f seen false ln ∙ on))
      s),
)

-- ---- shapes

number_same : (a b : ValType) → number_of a ≡ number_of b → a ≡ b
number_same I32 I32 e = refl
number_same I64 I64 e = refl
number_same F32 F32 e = refl
number_same F64 F64 e = refl
number_same I32 I64 e = absurd (omega arith)
number_same I32 F32 e = absurd (omega arith)
number_same I32 F64 e = absurd (omega arith)
number_same I64 I32 e = absurd (omega arith)
number_same I64 F32 e = absurd (omega arith)
number_same I64 F64 e = absurd (omega arith)
number_same F32 I32 e = absurd (omega arith)
number_same F32 I64 e = absurd (omega arith)
number_same F32 F64 e = absurd (omega arith)
number_same F64 I32 e = absurd (omega arith)
number_same F64 I64 e = absurd (omega arith)
number_same F64 F32 e = absurd (omega arith)

number_small : (a : ValType) → number_of a < 4
number_small I32 = omega arith
number_small I64 = omega arith
number_small F32 = omega arith
number_small F64 = omega arith

heads : (a b : ℕ) (s t : List ℕ) → a ∷ s ≡ b ∷ t → (a ≡ b) × (s ≡ t)
heads a b s t e = (cc, cc)

numbers_same : (ps qs : List ValType) → map number_of ps ≡ map number_of qs → ps ≡ qs
numbers_same [] [] e = refl
numbers_same [] (b ∷ qs) e = absurd cc
numbers_same (a ∷ ps) [] e = absurd cc
numbers_same (a ∷ ps) (b ∷ qs) e =
    let p = heads (number_of a) (number_of b) (map number_of ps) (map number_of qs) e in
    let x : a ≡ b = number_same a b p.0 in let y : ps ≡ qs = numbers_same ps qs p.1 in cc

parts_same : (ps qs : List ValType) (s t : List ℕ) → map number_of ps ++ 4 ∷ s ≡ map number_of qs ++ 4 ∷ t → (ps ≡ qs) × (s ≡ t)
parts_same [] [] s t e = (refl, (heads 4 4 s t e).1)
parts_same [] (b ∷ qs) s t e =
    let p = heads 4 (number_of b) s (map number_of qs ++ 4 ∷ t) e in let q = p.0 in let lt = number_small b in absurd (omega (arith, q, lt))
parts_same (a ∷ ps) [] s t e =
    let p = heads (number_of a) 4 (map number_of ps ++ 4 ∷ s) t e in let q = p.0 in let lt = number_small a in absurd (omega (arith, q, lt))
parts_same (a ∷ ps) (b ∷ qs) s t e =
    let p = heads (number_of a) (number_of b) (map number_of ps ++ 4 ∷ s) (map number_of qs ++ 4 ∷ t) e in
    let x : a ≡ b = number_same a b p.0 in let r = parts_same ps qs s t p.1 in let y : ps ≡ qs = r.0 in (cc, r.1)

shape_same : (t u : FuncType) → shape_of t ≡ shape_of u → t ≡ u
shape_same t u e =
    let p = parts_same t.params u.params (map number_of t.results) (map number_of u.results) e in
    let x : t.params ≡ u.params = p.0 in let y : t.results ≡ u.results = numbers_same t.results u.results p.1 in
    let f : (a b : List ValType) → FuncType = λ a b. record { params = a; results = b } in
    ap (λ (a : List ValType). f a t.results) x ∙ ap (f u.params) y

-- ---- keys

any_key : {K : Type 0} (items : K → List ℕ) (b : List ℕ) (ks : List K) → list_any (λ k. bytes_eq b (items k)) ks ≡ false → (i : ℕ)
    → slice_get (map items ks) i ≡ Some b → ⊥
any_key items b [] h i e = absurd cc
any_key items b (k ∷ ks) h zero e = ⊎_elim
    (λ p. let g : true ≡ false = rw p at h in absurd cc)
    (λ p. let same : items k ≡ b = cc in let g : bytes_eq b (items k) ≡ true = (bytes_decides b (items k)).1 (sym same) in absurd cc)
    (cases_Bool (bytes_eq b (items k)))
any_key items b (k ∷ ks) h (suc i) e = ⊎_elim
    (λ p. let g : true ≡ false = rw p at h in absurd cc)
    (λ p. any_key items b ks (rw p at h) i e)
    (cases_Bool (bytes_eq b (items k)))

module _ {K : Type 0} (items : K → List ℕ) (keys new : List K) (v : K)
    (put : new ≡ (if list_any (λ x. bytes_eq (items v) (items x)) keys then keys else keys ++ v ∷ [])) where
  stays : list_any (λ x. bytes_eq (items v) (items x)) keys ≡ true → map items new ≡ map items keys
  stays e = ap (map items) (rw e at put)

  grows : list_any (λ x. bytes_eq (items v) (items x)) keys ≡ false → map items new ≡ map items keys ++ items v ∷ []
  grows e = let added : new ≡ keys ++ v ∷ [] = rw e at put in ap (map items) added ∙ map_push items keys v

  pub put_keeps : Keeps (map items keys) (map items new)
  put_keeps c s is = ⊎_elim
      (λ e. rw (stays e) is)
      (λ e. rw (grows e) (get_front (map items keys) (items v ∷ []) c s is))
      (cases_Bool (list_any (λ x. bytes_eq (items v) (items x)) keys))

  pub put_apart : AreApart (map items keys) → AreApart (map items new)
  put_apart apart i j s a b = ⊎_elim
      (λ e. apart i j s (rw (stays e) at a) (rw (stays e) at b))
      (λ e.
      let old = map items keys in
      ⊎_elim
      (λ p. ⊎_elim
      (λ q. apart i j s p q)
      (λ q. absurd (any_key items (items v) keys e i (rw (sym q.1) at p)))
      (get_push old (items v) j s (rw (grows e) at b)))
      (λ p. ⊎_elim
      (λ q. absurd (any_key items (items v) keys e j (rw (sym p.1) at q)))
      (λ q. p.0 ∙ sym q.0)
      (get_push old (items v) j s (rw (grows e) at b)))
      (get_push old (items v) i s (rw (grows e) at a)))
      (cases_Bool (list_any (λ x. bytes_eq (items v) (items x)) keys))

pub stored_at : {K : Type 0} (items : K → List ℕ) (keys : List K) (c : ℕ) (k : K) (b : List ℕ) → slice_get keys c ≡ Some k → bytes_eq b (items k) ≡ true
    → slice_get (map items keys) c ≡ Some b
stored_at items [] c k b is same = absurd cc
stored_at items (x ∷ xs) zero k b is same = let e : x ≡ k = cc in ap Some (ap items e ∙ sym ((bytes_decides b (items k)).0 same))
stored_at items (x ∷ xs) (suc c) k b is same = stored_at items xs c k b is same

element : {A : Type 0} (xs : List A) (n : ℕ) → n < length xs → (x : A) × (slice_get xs n ≡ Some x)
element [] n lt = absurd (omega arith)
element (x ∷ xs) zero lt = (x, refl)
element (x ∷ xs) (suc n) lt = element xs n (omega arith)

pub found_at : {K : Type 0} (items : K → List ℕ) (keys : List K) (b : List ℕ) (r : Option ℕ) → r ≡ position (λ k. bytes_eq b (items k)) keys
    → is_some r ≡ list_any (λ k. bytes_eq b (items k)) keys → IfSome r (λ i. i < length keys) → IsFound (map items keys) b r
found_at items keys b None is any within = λ c e. any_key items b keys (sym any) c e
found_at {K} items keys b (Some c) is any within =
    let k = element keys c within in
    let p = position-Some (λ (x : K). bytes_eq b (items x)) keys c k.0 (sym is) in
    stored_at items keys c k.0 b k.1 (subst (λ (z : K). bytes_eq b (items z) ≡ true) (get_or_from_slice_get keys c k.0 k.0 k.1) p.1)

-- ---- classes

kept_class : (m : Module) (old new : List (List ℕ)) (f : ℕ) (class : Option ℕ) → Keeps old new → IsFuncClass m old f class → IsFuncClass m new f class
kept_class m old new f None keep h = h
kept_class m old new f (Some c) keep (t, (at, (stands, is))) = (t, (at, (stands, keep c (shape_of t) is)))

pub func_classes_none : (m : Module) (shapes : List (List ℕ)) → AreFuncClasses m shapes []
func_classes_none m shapes f class is = absurd cc

pub func_classes_more : (m : Module) (old new : List (List ℕ)) (classes : List (Option ℕ)) (f : ℕ) (class : Option ℕ) → f ≡ length classes
    → AreFuncClasses m old classes → Keeps old new → IsFuncClass m new f class → AreFuncClasses m new (classes ++ class ∷ [])
func_classes_more m old new classes f class at so_far keep one g o is = ⊎_elim
    (λ e. kept_class m old new g o keep (so_far g o e))
    (λ p. subst (IsFuncClass m new g) p.1 (subst (λ (k : ℕ). IsFuncClass m new k class) (at ∙ sym p.0) one))
    (get_push classes class g o is)

pub type_classes_none : (types : List FuncType) (shapes : List (List ℕ)) → AreTypeClasses types shapes []
type_classes_none types shapes t class kind is at = absurd cc

pub type_classes_more : (types : List FuncType) (shapes : List (List ℕ)) (classes : List (Option ℕ)) (t : ℕ) (kind : FuncType) (class : Option ℕ)
    → t ≡ length classes → t < length types → kind ≡ get_or types t kind → AreTypeClasses types shapes classes → IsFound shapes (shape_of kind) class
    → AreTypeClasses types shapes (classes ++ class ∷ [])
type_classes_more types shapes classes t kind class count lt here so_far one u o other is at = ⊎_elim
    (λ e. so_far u o other e at)
    (λ p.
    let same : u ≡ t = p.0 ∙ sym count in
    let e : Some kind ≡ Some other = sym (slice_get-get_or types t kind lt ∙ ap Some (sym here)) ∙ (ap (slice_get types) (sym same) ∙ at) in
    let kinds : kind ≡ other = cc in
    subst (IsFound shapes (shape_of other)) p.1 (subst (λ (z : FuncType). IsFound shapes (shape_of z) class) kinds one))
    (get_push classes class u o is)

same_shape : (a b : List ℕ) (o : Option (List ℕ)) → o ≡ Some a → o ≡ Some b → a ≡ b
same_shape a b o p q = let e : Some a ≡ Some b = sym p ∙ q in cc

same_kind : (a b : FuncType) (o : Option FuncType) → o ≡ Some a → o ≡ Some b → a ≡ b
same_kind a b o p q = let e : Some a ≡ Some b = sym p ∙ q in cc

module _ (m : Module) (shapes : List (List ℕ)) (by_func by_type : List (Option ℕ)) (funcs : AreFuncClasses m shapes by_func)
    (types : AreTypeClasses m.types shapes by_type) (many : length by_func ≡ length (func_types m)) (long : length by_type ≡ length m.types)
    (apart : AreApart shapes) where
  pub shares_target : (t f c : ℕ) → slice_get by_type t ≡ Some (Some c) → slice_get by_func f ≡ Some (Some c) → Target m t f
  shares_target t f c ty fn =
      let below = slice_get_within by_type t (Some c) ty in
      let kind = element m.types t (omega (arith, below, long)) in
      let u = funcs f (Some c) fn in
      let same : u.0 ≡ kind.0 = shape_same u.0 kind.0 (same_shape (shape_of u.0) (shape_of kind.0) (slice_get shapes c) u.1.1.1 (types t (Some c) kind.0 ty kind.1)) in
      record { kind = kind.0; is = u.1.0 ∙ ap Some same; named = kind.1; stands = u.1.1.0 }

  pub target_shares : (t f : ℕ) → Target m t f → (c : ℕ) × ((slice_get by_type t ≡ Some (Some c)) × (slice_get by_func f ≡ Some (Some c)))
  target_shares t f r =
      let below = typed_below m f r.kind r.is in
      let a = element by_func f (omega (arith, below, many)) in
      let lt = slice_get_within m.types t r.kind r.named in
      let b = element by_type t (omega (arith, lt, long)) in
      by a.0 b.0 a.1 b.1
    where
      agree : (c d : ℕ) → slice_get by_func f ≡ Some (Some c) → slice_get by_type t ≡ Some (Some d)
          → (c : ℕ) × ((slice_get by_type t ≡ Some (Some c)) × (slice_get by_func f ≡ Some (Some c)))
      agree c d fn ty =
          let u = funcs f (Some c) fn in
          let same : u.0 ≡ r.kind = same_kind u.0 r.kind (type_of_func m f) u.1.0 r.is in
          let one : d ≡ c = apart d c (shape_of r.kind) (types t (Some d) r.kind ty r.named) (u.1.1.1 ∙ ap (λ (z : FuncType). Some (shape_of z)) same) in
          (c, (ty ∙ ap (λ (k : ℕ). Some (Some k)) one, fn))

      by : (x y : Option ℕ) → slice_get by_func f ≡ Some x → slice_get by_type t ≡ Some y
          → (c : ℕ) × ((slice_get by_type t ≡ Some (Some c)) × (slice_get by_func f ≡ Some (Some c)))
      by None y fn ty = absurd (funcs f None fn r.kind r.is r.stands)
      by (Some c) None fn ty =
          let u = funcs f (Some c) fn in
          let same : u.0 ≡ r.kind = same_kind u.0 r.kind (type_of_func m f) u.1.0 r.is in
          absurd (types t None r.kind ty r.named c (u.1.1.1 ∙ ap (λ (z : FuncType). Some (shape_of z)) same))
      by (Some c) (Some d) fn ty = agree c d fn ty

  pub funcs_alike : (c f g : ℕ) → slice_get by_func f ≡ Some (Some c) → slice_get by_func g ≡ Some (Some c)
      → (t : FuncType) × ((type_of_func m f ≡ Some t) × (type_of_func m g ≡ Some t))
  funcs_alike c f g here there =
      let u = funcs f (Some c) here in
      let v = funcs g (Some c) there in
      let same : v.0 ≡ u.0 = shape_same v.0 u.0 (same_shape (shape_of v.0) (shape_of u.0) (slice_get shapes c) v.1.1.1 u.1.1.1) in
      (u.0, (u.1.0, v.1.0 ∙ ap Some same))

  pub funcs_below : AllBelow (length shapes) by_func
  funcs_below f c is = let u = funcs f (Some c) is in slice_get_within shapes c (shape_of u.0) u.1.1.1

  pub types_below : AllBelow (length shapes) by_type
  types_below t c is =
      let below = slice_get_within by_type t (Some c) is in
      let kind = element m.types t (omega (arith, below, long)) in
      slice_get_within shapes c (shape_of kind.0) (types t (Some c) kind.0 is kind.1)
