-- What spreads from the functions that are called to those that call them.
use Rattle.std.proofs.Common.{◌≡◌, ◌↔◌, ℕ, ◌+◌, ◌<◌, Bool, true, false, Option, Some, None, length, refl, ap, sym, ◌∙◌, subst, arith, lt-ltb, ltb-true, inl, inr, ◌⊎◌, ⊎_elim}
use Rattle.std.specs.Prelude.{slice_get, nat_lt, if◌then◌else◌}
use Rattle.std.proofs.lemmas.Option.{slice_get_within}
use Rattle.wasm_types.specs.declared.module.Module.{Module}
use Rattle.wasm_types.specs.Hosts.{IsFunction}
use Rattle.wasm_types.specs.Spaces.{func_types}
use Rattle.flow_domain.specs.Reach.{CallsFunc, Reached, itself, after_call}
use Rattle.worklist.specs.Reached.{root, step}
use Rattle.worklist.specs.Reached as graph
use Rattle.call_graph.specs.declared.classes.Classes.{Classes}
use Rattle.call_graph.specs.declared.deeds.Deed.{Deed}
use Rattle.call_graph.specs.declared.deeds.Deed.TheVariants.{Calls, CallsThrough, Touches, Writes}
use Rattle.call_graph.specs.Deeds.{Does}
use Rattle.call_graph.specs.Edges.{functions, class_node, target_of, Leads}
use Rattle.call_graph.specs.Tells.{TellsTargets}
use Rattle.call_graph.proofs.Calling.{after_calls, does_below, reached_below, does_call, does_through, call_does}

pub number_there : (g n y : ℕ) (b : Bool) → nat_lt g n ≡ b → (if b then Some g else None) ≡ Some y → (g < n) × (g ≡ y)
number_there g n y true is e = (ltb-true g n is, cc)
number_there g n y false is e = absurd cc

pub class_there : (classes : Classes) (o : Option (Option ℕ)) (y : ℕ) → class_node classes o ≡ Some y → (c : ℕ) × ((o ≡ Some (Some c)) × (functions classes + c ≡ y))
class_there classes None y e = absurd cc
class_there classes (Some None) y e = absurd cc
class_there classes (Some (Some c)) y e = (c, (refl, cc))

module _ (m : Module) (classes : Classes) (same : functions classes ≡ length (func_types m)) (targets : TellsTargets m classes) where
  member_below : (f c : ℕ) → slice_get classes.by_func.items f ≡ Some (Some c) → f < functions classes
  member_below f c is = slice_get_within classes.by_func.items f (Some c) is

  doer_below : (f : ℕ) (d : Deed) → Does m f d → f < functions classes
  doer_below f d does = let lt = does_below m f d does in omega (arith, same, lt)

  -- ---- one call is one edge, or two through a class

  -- only a call by number leads from a function to a function
  pub number_does : (f h : ℕ) → f < functions classes → h < functions classes → Leads m classes f h → Does m f (Calls h)
  number_does f h lf lh (inl (Calls g, (does, is))) =
      let e = number_there g (functions classes) h (nat_lt g (functions classes)) refl is in subst (λ (k : ℕ). Does m f (Calls k)) e.1 does
  number_does f h lf lh (inl (CallsThrough t, (does, is))) =
      let e = class_there classes (slice_get classes.by_type.items t) h is in let past = e.1.1 in absurd (omega (arith, past))
  number_does f h lf lh (inl (Touches x, (does, is))) = absurd cc
  number_does f h lf lh (inl (Writes x, (does, is))) = absurd cc
  number_does f h lf lh (inr (c, (is, e))) = absurd (omega (arith, e))

  pub edge_calls : (f h : ℕ) → f < functions classes → h < functions classes → Leads m classes f h → CallsFunc m f h
  edge_calls f h lf lh leads = does_call m f h (number_does f h lf lh leads)

  pub pair_calls : (f h c : ℕ) → f < functions classes → slice_get classes.by_func.items h ≡ Some (Some c) → Leads m classes f (functions classes + c)
      → CallsFunc m f h
  pair_calls f h c lf member (inl (Calls g, (does, is))) =
      let e = number_there g (functions classes) (functions classes + c) (nat_lt g (functions classes)) refl is in
      let lt = e.0 in let eq = e.1 in absurd (omega (arith, lt, eq))
  pair_calls f h c lf member (inl (CallsThrough t, (does, is))) =
      let e = class_there classes (slice_get classes.by_type.items t) (functions classes + c) is in
      let eq = e.1.1 in let one : e.0 ≡ c = omega (arith, eq) in
      does_through m f t h does ((targets t h).0 (c, (e.1.0 ∙ ap (λ (k : ℕ). Some (Some k)) one, member)))
  pair_calls f h c lf member (inl (Touches x, (does, is))) = absurd cc
  pair_calls f h c lf member (inl (Writes x, (does, is))) = absurd cc
  pair_calls f h c lf member (inr (k, (is, e))) = absurd (omega (arith, e))

  pub number_leads : (f g : ℕ) → g < functions classes → Does m f (Calls g) → Leads m classes f g
  number_leads f g lt does = inl (Calls g, (does, rw (lt-ltb g (functions classes) lt) refl))

  class_leads : (f t c : ℕ) → Does m f (CallsThrough t) → slice_get classes.by_type.items t ≡ Some (Some c) → Leads m classes f (functions classes + c)
  class_leads f t c does is = inl (CallsThrough t, (does, ap (class_node classes) is))

  pub call_edges : (f h : ℕ) → h < functions classes → CallsFunc m f h
      → Leads m classes f h ⊎ ((c : ℕ) × ((slice_get classes.by_func.items h ≡ Some (Some c)) × Leads m classes f (functions classes + c)))
  call_edges f h lh call = ⊎_elim
      (λ does. inl (number_leads f h lh does))
      (λ r. let s = (targets r.0 h).1 r.1.1 in inr (s.0, (s.1.1, class_leads f r.0 s.0 r.1.0 s.1.0)))
      (call_does m f h call)

  -- ---- what holds of a function that is called holds of the caller

  module _ (P : ℕ → Type 0) (closed : (f g : ℕ) → CallsFunc m f g → P g → P f) (Root : ℕ → Type 0) (roots : (x : ℕ) → Root x → (x < functions classes) × P x)
      (E : ℕ → ℕ → Type 0) (edges : (x y : ℕ) → E x y ↔ Leads m classes y x) where
    record Holds (y : ℕ) : Type 0 where
      pub function : y < functions classes → P y
      pub class : (c : ℕ) → y ≡ functions classes + c → (h : ℕ) × ((slice_get classes.by_func.items h ≡ Some (Some c)) × P h)

    over : (w y : ℕ) → Holds w → Leads m classes y w → Holds y
    over w y h (inl (d, (does, is))) =
        let ly = doer_below y d does in
        record { function = λ lt. by d does is; class = λ c e. absurd (omega (arith, e, ly)) }
      where
        by : (d : Deed) → Does m y d → target_of classes d ≡ Some w → P y
        by (Calls g) does is =
            let e = number_there g (functions classes) w (nat_lt g (functions classes)) refl is in
            let lt = e.0 in let eq = e.1 in
            closed y w (subst (CallsFunc m y) eq (does_call m y g does)) (h.function (omega (arith, lt, eq)))
        by (CallsThrough t) does is =
            let e = class_there classes (slice_get classes.by_type.items t) w is in
            let r = h.class e.0 (sym e.1.1) in
            closed y r.0 (does_through m y t r.0 does ((targets t r.0).0 (e.0, (e.1.0, r.1.0)))) r.1.1
        by (Touches x) does is = absurd cc
        by (Writes x) does is = absurd cc
    over w y h (inr (c, (is, e))) = record {
      function = λ lt. absurd (omega (arith, e, lt));
      class = λ k eq. let one : c ≡ k = omega (arith, e, eq) in (w, (is ∙ ap (λ (j : ℕ). Some (Some j)) one, h.function (member_below w c is)));
    }

    holds : (y : ℕ) → graph.Reached Root E y → Holds y
    holds y (root r) = let k = roots y r in let lt = k.0 in record { function = λ l. k.1; class = λ c e. absurd (omega (arith, lt, e)) }
    holds y (step w r e) = over w y (holds w r) ((edges w y).0 e)

    pub spread_sound : (f : ℕ) → f < functions classes → graph.Reached Root E f → P f
    spread_sound f lt r = (holds f r).function lt

    pub spread_complete : (f g : ℕ) → Reached m f g → IsFunction m g → graph.Reached Root E g → graph.Reached Root E f
    spread_complete f g itself lt h = h
    spread_complete f g (after_call k c r) lt h =
        let at = spread_complete k g r lt h in
        let lk = reached_below m k g r lt in
        ⊎_elim
        (λ e. step k at ((edges k f).1 e))
        (λ e. step (functions classes + e.0) (step k at ((edges k (functions classes + e.0)).1 (inr (e.0, (e.1.0, refl))))) ((edges (functions classes + e.0) f).1 e.1.1))
        (call_edges f k (omega (arith, same, lk)) c)

  -- ---- where a function leads to, by edges

  module _ (f : ℕ) (lf : f < functions classes) (Root : ℕ → Type 0) (roots : (x : ℕ) → Root x ↔ (x ≡ f))
      (E : ℕ → ℕ → Type 0) (edges : (x y : ℕ) → E x y ↔ Leads m classes x y) where
    record Led (y : ℕ) : Type 0 where
      pub function : y < functions classes → Reached m f y
      pub class : (c : ℕ) → y ≡ functions classes + c → (h : ℕ) → slice_get classes.by_func.items h ≡ Some (Some c) → Reached m f h

    onward : (w y : ℕ) → Led w → Leads m classes w y → Led y
    onward w y led (inl (d, (does, is))) = by d does is
      where
        by : (d : Deed) → Does m w d → target_of classes d ≡ Some y → Led y
        by (Calls g) does is =
            let e = number_there g (functions classes) y (nat_lt g (functions classes)) refl is in
            let lt = e.0 in let eq = e.1 in
            record {
              function = λ l. after_calls m f w y (led.function (doer_below w (Calls g) does)) (subst (CallsFunc m w) eq (does_call m w g does));
              class = λ c past. absurd (omega (arith, lt, eq, past));
            }
        by (CallsThrough t) does is =
            let e = class_there classes (slice_get classes.by_type.items t) y is in
            let past = e.1.1 in
            record {
              function = λ l. absurd (omega (arith, past, l));
              class = λ c at h member.
                  let one : c ≡ e.0 = omega (arith, past, at) in
                  after_calls m f w h (led.function (doer_below w (CallsThrough t) does))
                  (does_through m w t h does ((targets t h).0 (e.0, (e.1.0, member ∙ ap (λ (k : ℕ). Some (Some k)) one))));
            }
        by (Touches x) does is = absurd cc
        by (Writes x) does is = absurd cc
    onward w y led (inr (c, (is, e))) =
        let lt = member_below y c is in
        record { function = λ l. led.class c e y is; class = λ k past. absurd (omega (arith, lt, past)) }

    led : (y : ℕ) → graph.Reached Root E y → Led y
    led y (root r) =
        let at = (roots y).0 r in
        record { function = λ l. subst (Reached m f) (sym at) itself; class = λ c past. absurd (omega (arith, lf, at, past)) }
    led y (step w r e) = onward w y (led w r) ((edges w y).0 e)

    over_calls : (g h : ℕ) → Reached m g h → IsFunction m h → graph.Reached Root E g → graph.Reached Root E h
    over_calls g h itself lh at = at
    over_calls g h (after_call k calls rest) lh at =
        let lk = reached_below m k h rest lh in
        over_calls k h rest lh (⊎_elim
        (λ e. step g at ((edges g k).1 e))
        (λ e. step (functions classes + e.0) (step g at ((edges g (functions classes + e.0)).1 e.1.1))
        ((edges (functions classes + e.0) k).1 (inr (e.0, (e.1.0, refl)))))
        (call_edges g k (omega (arith, same, lk)) calls))

    pub led_exact : (h : ℕ) → IsFunction m h → graph.Reached Root E h ↔ Reached m f h
    led_exact h lh = (λ r. (led h r).function (omega (arith, same, lh)), λ r. over_calls f h r lh (root ((roots f).1 refl)))
