-- Steps of the symbolic stack, one after another.
use Rattle.std.proofs.Common.{IsTrue, ◌==◌, eq-eqb, ◌≡◌, ◌↔◌, Bool, true, false, List, [], ◌∷◌, ◌++◌, reverse, Option, Some, None, ℕ, suc, ◌+◌, ◌<◌, length, take, get_or, refl, sym, ap, ◌∙◌, subst, arith}
use Rattle.std.proofs.lemmas.List.{length-reverse, reverse-append, append-nil, take_more}
use Rattle.std.proofs.lemmas.Bool.{eqb-true}
use Rattle.wasm_types.specs.declared.module.ValType.{ValType}
use Rattle.wasm_types.specs.declared.module.ValType.TheVariants.{I32}
use Rattle.body_check.specs.declared.stack.Stack.{Stack}
use Rattle.body_check.specs.Stacks.{IsKind, Matches, Stands, Exact, Fails, Follows, Pops, PopsOne, Pushes, Turns, Leaves, Selects, TakesTop, IsOnto, IsBare, Agrees}

abbrev pub Relation : Type 1
Relation = List ValType → List ValType → Type 0

-- ---- steps in general

-- one relation after another
abbrev pub After : Relation → Relation → List ValType → List ValType → Type 0
After R Q s s' = (m : List ValType) × R s m × Q m s'

pub follows-then : (a b c : Stack) (R Q : Relation) (ok : Bool) → Exact a R b → Follows b Q ok c → Follows a (After R Q) ok c
follows-then a b c R Q false e f = λ s s' st r. f r.0 s' (e.onto s r.0 st r.1) r.2
follows-then a b c R Q true e f = record {
  onto = λ s s' st r. f.onto r.0 s' (e.onto s r.0 st r.1) r.2;
  from = λ s' st. let x = f.from s' st in let y = e.from x.0 x.1 in (y.0, y.1, (x.0, y.2, x.2));
}

pub fails-first : (a : Stack) (R Q : Relation) → Fails a R → Fails a (After R Q)
fails-first a R Q e = λ s s' st r. e s r.0 st r.1

-- the same relation in other words
pub follows-as : (a b : Stack) (R Q : Relation) (ok : Bool) → ((s s' : List ValType) → R s s' → Q s s') → ((s s' : List ValType) → Q s s' → R s s')
    → Follows a R ok b → Follows a Q ok b
follows-as a b R Q false f g e = λ s s' st r. e s s' st (g s s' r)
follows-as a b R Q true f g e = record { onto = λ s s' st r. e.onto s s' st (g s s' r); from = λ s' st. let x = e.from s' st in (x.0, x.1, f x.0 s' x.2) }

-- ---- the top

top-push : (xs : List (Option ValType)) (x : Option ValType) → reverse (xs ++ x ∷ []) ≡ x ∷ reverse xs
top-push xs x = reverse-append xs (x ∷ [])

along : (x : Option ValType) (b a : Stack) → IsOnto x b a → (s : List ValType) → Stands a s → Matches (x ∷ reverse b.kinds.items) b.any s
along x b a o s h =
    subst (λ z. Matches (x ∷ reverse b.kinds.items) z s) o.any (subst (λ z. Matches z a.any s) (ap reverse o.items ∙ top-push b.kinds.items x) h)

back : (x : Option ValType) (b a : Stack) → IsOnto x b a → (s : List ValType) → Matches (x ∷ reverse b.kinds.items) b.any s → Stands a s
back x b a o s h =
    subst (λ z. Matches z a.any s) (sym (ap reverse o.items ∙ top-push b.kinds.items x)) (subst (λ z. Matches (x ∷ reverse b.kinds.items) z s) (sym o.any) h)

pub stands-put : (x : Option ValType) (b a : Stack) → IsOnto x b a → (k : ValType) (s : List ValType) → IsKind x k → Stands b s → Stands a (k ∷ s)
stands-put x b a o k s is h = back x b a o (k ∷ s) (is, h)

pub stands-taken : (x : Option ValType) (b a : Stack) → IsOnto x b a → (k : ValType) (s : List ValType) → Stands a (k ∷ s) → IsKind x k × Stands b s
stands-taken x b a o k s h = along x b a o (k ∷ s) h

-- a stack that stands for something with a top
pub record HasTop (x : Option ValType) (b : Stack) (s : List ValType) : Type 0 where
  pub top : ValType
  pub below : List ValType
  pub is : s ≡ top ∷ below
  pub kind : IsKind x top
  pub rest : Stands b below

pub has-top : (x : Option ValType) (b a : Stack) → IsOnto x b a → (s : List ValType) → Stands a s → HasTop x b s
has-top x b a o s h = go s (along x b a o s h)
  where
    go : (s : List ValType) → Matches (x ∷ reverse b.kinds.items) b.any s → HasTop x b s
    go [] h = absurd h
    go (k ∷ s) h = record { top = k; below = s; is = refl; kind = h.0; rest = h.1 }

pub bare-any : (a : Stack) → IsBare a true → (s : List ValType) → Stands a s
bare-any a bare s = let h : Matches (reverse []) true s = tt in subst (λ z. Matches z a.any s) (sym (ap reverse bare.items)) (subst (λ z. Matches [] z s) (sym bare.any) h)

pub bare-empty : (a : Stack) → IsBare a false → (s : List ValType) → Stands a s → s ≡ []
bare-empty a bare s h = subst (λ z. Matches [] z s) bare.any (subst (λ z. Matches z a.any s) (ap reverse bare.items) h)

pub bare-nothing : (a : Stack) → IsBare a false → Stands a []
bare-nothing a bare = subst (λ z. Matches z a.any []) (sym (ap reverse bare.items)) (subst (λ z. Matches [] z []) (sym bare.any) refl)

-- ---- taking

pub pop-same : (k : ValType) (b a : Stack) → IsOnto (Some k) b a → Exact a (Pops (k ∷ [])) b
pop-same k b a o = record {
  onto = λ s s' st r. (stands-taken (Some k) b a o k s' (subst (Stands a) r st)).1;
  from = λ s' st. (k ∷ s', stands-put (Some k) b a o k s' refl st, refl);
}

pub pop-other : (k known : ValType) (b a : Stack) → IsOnto (Some known) b a → (known ≡ k → ⊥) → Fails a (Pops (k ∷ []))
pop-other k known b a o ne = λ s s' st r. ne (stands-taken (Some known) b a o k s' (subst (Stands a) r st)).0

pub pop-unknown : (k : ValType) (b a : Stack) → IsOnto None b a → Exact a (Pops (k ∷ [])) b
pop-unknown k b a o = record {
  onto = λ s s' st r. (stands-taken None b a o k s' (subst (Stands a) r st)).1;
  from = λ s' st. (k ∷ s', stands-put None b a o k s' tt st, refl);
}

pub pop-below : (k : ValType) (b a : Stack) → IsBare a true → IsBare b true → Exact a (Pops (k ∷ [])) b
pop-below k b a p q = record { onto = λ s s' st r. bare-any b q s'; from = λ s' st. (k ∷ s', bare-any a p (k ∷ s'), refl) }

pub pop-nothing : (k : ValType) (a : Stack) → IsBare a false → Fails a (Pops (k ∷ []))
pop-nothing k a p = λ s s' st r. let e : [] ≡ k ∷ s' = sym (bare-empty a p s st) ∙ r in cc

pub takes-known : (x : Option ValType) (b a : Stack) → IsOnto x b a → TakesTop a (Some x) b
takes-known x b a o = λ k s. (stands-taken x b a o k s, λ h. stands-put x b a o k s h.0 h.1)

pub takes-below : (b a : Stack) → IsBare a true → IsBare b true → TakesTop a (Some None) b
takes-below b a p q = λ k s. (λ h. (tt, bare-any b q s), λ h. bare-any a p (k ∷ s))

pub takes-nothing : (b a : Stack) → IsBare a false → TakesTop a None b
takes-nothing b a p = λ k s h. let e : [] ≡ k ∷ s = sym (bare-empty a p (k ∷ s) h) in cc

-- a type, and then others
pub pops-more : (k : ValType) (t : List ValType) (a b c : Stack) (ok : Bool) → Exact a (Pops (k ∷ [])) b → Follows b (Pops t) ok c
    → Follows a (Pops (k ∷ t)) ok c
pops-more k t a b c ok e f = follows-as a c (After (Pops (k ∷ [])) (Pops t)) (Pops (k ∷ t)) ok
    (λ s s' r. r.1 ∙ ap (λ z. k ∷ z) r.2)
    (λ s s' r. (t ++ s', r, refl))
    (follows-then a b c (Pops (k ∷ [])) (Pops t) ok e f)

pub pops-fail : (k : ValType) (t : List ValType) (a : Stack) → Fails a (Pops (k ∷ [])) → Fails a (Pops (k ∷ t))
pops-fail k t a e = λ s s' st r. e s (t ++ s') st r

pub pops-none : (a : Stack) → Exact a (Pops []) a
pops-none a = record { onto = λ s s' st r. subst (Stands a) r st; from = λ s' st. (s', st, refl) }

pub last-first : (xs : List ValType) (m n : ℕ) (d : ValType) → m ≡ n + 1 → n < length xs → reverse (take m xs) ≡ get_or xs n d ∷ reverse (take n xs)
last-first xs m n d e lt = rw (e, take_more xs n d lt) (reverse-append (take n xs) (get_or xs n d ∷ []))

-- ---- putting

pub push-exact : (k : ValType) (a b : Stack) → IsOnto (Some k) a b → Exact a (Pushes (k ∷ [])) b
push-exact k a b o = record {
  onto = λ s s' st r. subst (Stands b) (sym r) (stands-put (Some k) a b o k s refl st);
  from = λ s' st. let h = has-top (Some k) a b o s' st in (h.below, h.rest, h.is ∙ ap (λ z. z ∷ h.below) (sym h.kind));
}

pub push-none : (a : Stack) → Exact a (Pushes []) a
push-none a = record { onto = λ s s' st r. subst (Stands a) (sym r) st; from = λ s' st. (s', st, refl) }

pub turns : (t l : List ValType) (a b c : Stack) → Exact a (Pops t) b → Exact b (Pushes l) c → Exact a (Turns t l) c
turns t l a b c e f = follows-as a c (After (Pops t) (Pushes l)) (Turns t l) true (λ s s' r. r) (λ s s' r. r) (follows-then a b c (Pops t) (Pushes l) true e f)

pub turns-fail : (t l : List ValType) (a : Stack) → Fails a (Pops t) → Fails a (Turns t l)
turns-fail t l a e = λ s s' st r. e s r.0 st r.1

-- ---- leaving

-- each stack stands for some
some-of : (xs : List (Option ValType)) (any : Bool) → (s : List ValType) × Matches xs any s
some-of [] true = ([], tt)
some-of [] false = ([], refl)
some-of (None ∷ xs) any = let r = some-of xs any in (I32 ∷ r.0, (tt, r.1))
some-of (Some k ∷ xs) any = let r = some-of xs any in (k ∷ r.0, (refl, r.1))

pub some-stack : (a : Stack) → (s : List ValType) × Stands a s
some-stack a = some-of (reverse a.kinds.items) a.any

pub leaves : (t : List ValType) (a b c : Stack) → Exact a (Pops t) b → IsBare c true → Exact a (Leaves t) c
leaves t a b c e bare = record {
  onto = λ s s' st r. bare-any c bare s';
  from = λ s' st. let x = some-stack b in let y = e.from x.0 x.1 in (y.0, y.1, (x.0, y.2));
}

pub leaves-fail : (t : List ValType) (a : Stack) → Fails a (Pops t) → Fails a (Leaves t)
leaves-fail t a e = λ s s' st r. e s r.0 st r.1

pub ends : (t : List ValType) (a b : Stack) → Exact a (Pops t) b → Stands a t ↔ Stands b []
ends t a b e = (λ st. e.onto t [] st (sym (append-nil t)), λ st. let x = e.from [] st in subst (Stands a) (x.2 ∙ append-nil t) x.1)

pub ends-fail : (t : List ValType) (a : Stack) → Fails a (Pops t) → Stands a t → ⊥
ends-fail t a e st = e t [] st (sym (append-nil t))

-- ---- selecting

pub pops-one : (a b : Stack) (x : Option ValType) → TakesTop a (Some x) b → Exact a PopsOne b
pops-one a b x h = record {
  onto = λ s s' st r. ((h r.0 s').0 (subst (Stands a) r.1 st)).1;
  from = λ s' st. let k = known x in (k.0 ∷ s', (h k.0 s').1 (k.1, st), (k.0, refl));
}
  where
    known : (x : Option ValType) → (k : ValType) × IsKind x k
    known None = (I32, tt)
    known (Some k) = (k, refl)

pub pops-one-fail : (a b : Stack) → TakesTop a None b → Fails a PopsOne
pops-one-fail a b h = λ s s' st r. h r.0 s' (subst (Stands a) r.1 st)

pub falls : (a b : Stack) → IsBare b true → Exact a (λ s s'. Unit {0}) b
falls a b bare = record { onto = λ s s' st r. bare-any b bare s'; from = λ s' st. let x = some-stack a in (x.0, x.1, tt) }

pub select-no-number : (a : Stack) → Fails a (Pops (I32 ∷ [])) → Fails a (Selects I32)
select-no-number a e = λ s s' st r. e s (r.0 ∷ r.0 ∷ r.1) st r.2

pub select-no-second : (a b c : Stack) → Exact a (Pops (I32 ∷ [])) b → TakesTop b None c → Fails a (Selects I32)
select-no-second a b c e f = λ s s' st r. f r.0 (r.0 ∷ r.1) (e.onto s (r.0 ∷ r.0 ∷ r.1) st r.2)

pub select-no-first : (y : Option ValType) (a b c d : Stack) → Exact a (Pops (I32 ∷ [])) b → TakesTop b (Some y) c → TakesTop c None d → Fails a (Selects I32)
select-no-first y a b c d p f g = λ s s' st r. g r.0 r.1 ((f r.0 (r.0 ∷ r.1)).0 (p.onto s (r.0 ∷ r.0 ∷ r.1) st r.2)).1

pub select-two : (x y : Option ValType) (a b c d : Stack) → Exact a (Pops (I32 ∷ [])) b → TakesTop b (Some y) c → TakesTop c (Some x) d
    → Agrees x y None → Fails a (Selects I32)
select-two x y a b c d p f g two = λ s s' st r.
    let second = (f r.0 (r.0 ∷ r.1)).0 (p.onto s (r.0 ∷ r.0 ∷ r.1) st r.2) in
    two r.0 ((g r.0 r.1).0 second.1).0 second.0

pub select-one : (x y z : Option ValType) (a b c d e : Stack) → Exact a (Pops (I32 ∷ [])) b → TakesTop b (Some y) c → TakesTop c (Some x) d
    → Agrees x y (Some z) → IsOnto z d e → Exact a (Selects I32) e
select-one x y z a b c d e p f g one o = record {
  onto = λ s s' st r.
      let second = (f r.0 (r.0 ∷ r.1)).0 (p.onto s (r.0 ∷ r.0 ∷ r.1) st r.2) in
      let first = (g r.0 r.1).0 second.1 in
      subst (Stands e) (sym r.3) (stands-put z d e o r.0 r.1 ((one r.0).1 (first.0, second.0)) first.1);
  from = λ s' st.
      let h = has-top z d e o s' st in
      let kinds = (one h.top).0 h.kind in
      let below = (g h.top h.below).1 (kinds.0, h.rest) in
      let x = p.from (h.top ∷ h.top ∷ h.below) ((f h.top (h.top ∷ h.below)).1 (kinds.1, below)) in
      (x.0, x.1, (h.top, h.below, x.2, h.is));
}

pub bare-tested : (a b : Stack) (t : List ValType) (r : Bool) → Stands a t ↔ Stands b [] → r ≡ (length b.kinds.items == 0) → IsTrue r ↔ Stands a t
bare-tested a b t r e is = go (reverse b.kinds.items) refl
  where
    go : (xs : List (Option ValType)) → reverse b.kinds.items ≡ xs → IsTrue r ↔ Stands a t
    go [] h = let z : length b.kinds.items ≡ 0 = omega (arith, length-reverse b.kinds.items, ap length h) in
        (λ _. e.1 (rw h (under b.any)), λ _. is ∙ eq-eqb _ _ z)
      where
        under : (any : Bool) → Matches [] any []
        under true = tt
        under false = refl
    go (x ∷ xs) h = let z : length b.kinds.items ≡ suc (length xs) = omega (arith, length-reverse b.kinds.items, ap length h) in
        (λ q. absurd (omega (arith, eqb-true (length b.kinds.items) 0 (sym is ∙ q))), λ st. absurd (subst (λ y. Matches y b.any []) h (e.0 st)))

-- ---- under a number

pub pass-no-number : (t : List ValType) (a : Stack) → Fails a (Pops (I32 ∷ [])) → Fails a (Turns (I32 ∷ t) t)
pass-no-number t a e = λ s s' st r. e s (t ++ r.0) st r.1

pub pass-no-value : (t : List ValType) (a b : Stack) → Exact a (Pops (I32 ∷ [])) b → Fails b (Pops t) → Fails a (Turns (I32 ∷ t) t)
pass-no-value t a b e f = λ s s' st r. f (t ++ r.0) r.0 (e.onto s (t ++ r.0) st r.1) refl

pub passes-on : (t : List ValType) (a b c d : Stack) → Exact a (Pops (I32 ∷ [])) b → Exact b (Pops t) c → Exact c (Pushes t) d → Exact a (Turns (I32 ∷ t) t) d
passes-on t a b c d e f g = turns (I32 ∷ t) t a c d (pops-more I32 t a b c true e f) g

pub leaves-no-number : (t : List ValType) (a : Stack) → Fails a (Pops (I32 ∷ [])) → Fails a (Leaves (I32 ∷ t))
leaves-no-number t a e = λ s s' st r. e s (t ++ r.0) st r.1

pub leaves-more : (t : List ValType) (a b c : Stack) (ok : Bool) → Exact a (Pops (I32 ∷ [])) b → Follows b (Leaves t) ok c → Follows a (Leaves (I32 ∷ t)) ok c
leaves-more t a b c ok e f = follows-as a c (After (Pops (I32 ∷ [])) (Leaves t)) (Leaves (I32 ∷ t)) ok
    (λ s s' r. (r.2.0, r.1 ∙ ap (λ z. I32 ∷ z) r.2.1))
    (λ s s' r. (t ++ r.0, r.1, (r.0, refl)))
    (follows-then a b c (Pops (I32 ∷ [])) (Leaves t) ok e f)
