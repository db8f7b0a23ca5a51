-- What a climb goes past: regions where nothing is written, and the ways back through them.
use Rattle.std.proofs.Common.{◌≡◌, ℕ, List, Some, refl, sym, subst, ◌∙◌, inl, inr, ◌⊎◌, ⊎_elim, arith}
use Rattle.std.specs.Prelude.{slice_get}
use Rattle.std.specs.List.{Contains}
use Rattle.wasm_types.specs.declared.place.Node.{Node}
use Rattle.wasm_types.specs.Nodes.{At}
use Rattle.block_cfg.specs.Graph.{Graph, row_of}
use Rattle.block_cfg.proofs.MemberLemmas.{number_injective}
use Rattle.worklist.specs.Reached.{Reached, root, step}
use Rattle.single_entry.specs.declared.entry.Entry.{Entry}
use Rattle.single_entry.specs.declared.skips.Skips.{Skips}
use Rattle.single_entry.specs.Entries.{IsIn, Inner, enters, goes}
use Rattle.single_entry.specs.Climbs.{entry_of, IsQuiet, Climbs, stays, climbs, AreEntries}

-- c stands in one of the regions that a climb to b goes past
pub record Passed (g : Graph) (s : Skips) (entries : AreEntries g s) (writers : List ℕ) (b c : Node) : Type 0 where
  pub point : Node
  pub entry : Entry
  pub is : entry_of s point ≡ Some entry
  pub quiet : IsQuiet writers entry
  pub on : Climbs s writers (entries point entry is).from b
  pub inside : IsIn (entries point entry is).first (entries point entry is).last c

-- an edge back from there
abbrev pub Back : (g : Graph) (s : Skips) → AreEntries g s → List ℕ → Node → Node → Node → Type 0
Back g s entries writers b c d = Passed g s entries writers b c × Contains (row_of g.before c) d

module _ (g : Graph) (s : Skips) (entries : AreEntries g s) (writers : List ℕ) where
  pub climbs_begins : (n b : Node) → Climbs s writers n b → (n ≡ b) ⊎ Passed g s entries writers b n
  climbs_begins n b stays = inl refl
  climbs_begins n b (climbs e from has is quiet more) =
      let i = entries n e has in
      let same : from ≡ i.from = number_injective from i.from (is ∙ sym i.is) in
      inr (record { point = n; entry = e; is = has; quiet = quiet; on = subst (λ z. Climbs s writers z b) same more; inside = i.stands })

  -- what leads there stands there too, or is b
  pub passed_stays : (b c d : Node) → Passed g s entries writers b c → Contains (row_of g.before c) d → Passed g s entries writers b d ⊎ (d ≡ b)
  passed_stays b c d p has =
      let i = entries p.point p.entry p.is in
      ⊎_elim
      (λ more. inl (record { point = p.point; entry = p.entry; is = p.is; quiet = p.quiet; on = p.on; inside = more }))
      (λ same. ⊎_elim
      (λ e. inr (same ∙ e))
      (λ q. inl (subst (λ z. Passed g s entries writers b z) (sym same) q))
      (climbs_begins i.from b p.on))
      (i.entered.through c d p.inside has)

  pub passed_free : (b : Node) (p : ℕ) → Passed g s entries writers b (At p) → Contains writers p → ⊥
  passed_free b p q there =
      let i = entries q.point q.entry q.is in
      let within = i.covers p q.inside in
      q.quiet p there within.0 (omega (arith, within.1))

  -- the body doesn't begin there
  pub passed_later : (b c : Node) → Passed g s entries writers b c → slice_get g.points 0 ≡ Some c → ⊥
  passed_later b c p first = (entries p.point p.entry p.is).entered.begins c first p.inside

  -- ---- ways back

  module _ (b n : Node) where
    abbrev Way : Node → Type 0
    Way c = Reached (λ i. i ≡ n) (Back g s entries writers b) c

    module _ (point : Node) (e : Entry) (is : entry_of s point ≡ Some e) (quiet : IsQuiet writers e) (on : Climbs s writers (entries point e is).from b) where
      passed_in : (c : Node) → IsIn (entries point e is).first (entries point e is).last c → Passed g s entries writers b c
      passed_in c inside = record { point = point; entry = e; is = is; quiet = quiet; on = on; inside = inside }

      inner_way : (c : Node) → Inner g (entries point e is).first (entries point e is).last (entries point e is).from c → Way c → Way (entries point e is).from
      inner_way c (enters inside has) way = step c way (passed_in c inside, has)
      inner_way c (goes m inner inside has) way = inner_way m inner (step c way (passed_in c inside, has))

    way_on : (c : Node) → Climbs s writers c b → Way c → Way b
    way_on c stays way = way
    way_on c (climbs e from has is quiet more) way =
        let i = entries c e has in
        let same : from ≡ i.from = number_injective from i.from (is ∙ sym i.is) in
        let on = subst (λ z. Climbs s writers z b) same more in
        way_on from more (subst (λ z. Way z) (sym same) (inner_way c e has quiet on c i.inner way))

    pub climbs_way : Climbs s writers n b → Reached (λ i. i ≡ n) (Back g s entries writers b) b
    climbs_way up = way_on n up (root refl)
