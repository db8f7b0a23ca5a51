-- Points that paths lead to, as a search meets them.
use Rattle.std.proofs.Common.{◌≡◌, ℕ, ◌<◌, inl, inr, ⊎_elim, List, ◌∷◌, [], ◌++◌, Bool, false, Some, length, get_or, replicate, sym, ap, ◌∙◌, subst, arith}
use Rattle.std.specs.List.{All, Contains, slice_get}
use Rattle.std.proofs.lemmas.Bool.{cases_lt}
use Rattle.std.proofs.lemmas.List.{get_or-replicate, get_or_past, length-replicate}
use Rattle.std.proofs.lemmas.Option.{slice_get_within, get_or_from_slice_get}
use Rattle.std.proofs.lemmas.List.Elements.{All-contains, Contains-get_or, Contains-append_left, Contains-push}
use Rattle.wasm_types.specs.declared.place.Node.{Node}
use Rattle.worklist.specs.Reached.{root, step}
use Rattle.worklist.specs.Search.{IsMarked}
use Rattle.block_cfg.specs.Graph.{Graph, number, row_of}
use Rattle.block_cfg.proofs.MemberLemmas.{number_injective}
use Rattle.single_entry.specs.Entries.{IsGraph}
use Rattle.single_entry.specs.Paths.{Comes, AreMet, MeetsOne}

pub first_stands : (g : Graph) (n : Node) → slice_get g.points 0 ≡ Some n → Contains g.points n
first_stands g n is = (0, slice_get_within g.points 0 n is, get_or_from_slice_get g.points 0 n n is)

-- what a path leads to is a point
pub comes_point : (g : Graph) → IsGraph g → (n : Node) → Comes g n → Contains g.points n
comes_point g graph n (root is) = first_stands g n is
comes_point g (S, (start, of)) n (step m way e) = (of.points n).1 (of.stays m n ((of.next m n).0 e)).1

-- one point more is met
pub met_more : (g : Graph) (n : Node) (marks marks' : List Bool) (waiting waiting' : List Node) → Comes g n → AreMet g marks waiting
    → MeetsOne n marks marks' waiting waiting' → AreMet g marks' waiting'
met_more g n marks marks' waiting waiting' way met one = record {
  fits = λ m has. let lt = met.fits m has in omega (arith, one.same);
  marked = λ m h. ⊎_elim (met.marked m) (λ is. subst (Comes g) (sym (number_injective m n is)) way) (one.marked (number m) h);
  waits = λ m h. ⊎_elim (met.waits m) (λ is. subst (Comes g) (sym is) way) (one.waits m h);
}

-- what a point leads to, of which its list is known
pub next_comes : (g : Graph) (p : Node) (row : List Node) (j : ℕ) (d : Node) → row ≡ row_of g.next p → j < length row → Comes g p → Comes g (get_or row j d)
next_comes g p row j d is lt way = step p way (subst (λ z. Contains z (get_or row j d)) is (Contains-get_or row j d lt))

-- what waited before the last one did
pub met_before : (g : Graph) (marks : List Bool) (waiting rest : List Node) (n : Node) → waiting ≡ rest ++ n ∷ [] → AreMet g marks waiting → AreMet g marks rest
met_before g marks waiting rest n is met = record {
  fits = met.fits;
  marked = met.marked;
  waits = λ m has. met.waits m (subst (λ z. Contains z m) (sym is) (Contains-append_left rest (n ∷ []) m has));
}

pub last_comes : (g : Graph) (marks : List Bool) (waiting rest : List Node) (n : Node) → waiting ≡ rest ++ n ∷ [] → AreMet g marks waiting → Comes g n
last_comes g marks waiting rest n is met = met.waits n (subst (λ z. Contains z n) (sym is) (Contains-push rest n))

none_marked : (count x : ℕ) → IsMarked (replicate count false) x → ⊥
none_marked count x marked = elim (cases_lt x count) [
  | inl less ↦ let off : get_or (replicate count false) x false ≡ false = get_or-replicate count x false false less in absurd cc
  | inr ge ↦
      let off : get_or (replicate count false) x false ≡ false =
      get_or_past (replicate count false) x false (omega (arith, length-replicate {A = Bool} count false)) in
      absurd cc
]

-- the first point is met
pub met_first : (g : Graph) (points : List Node) (d : Node) (count : ℕ) (marks marks' : List Bool) (waiting waiting' : List Node)
    → IsGraph g → points ≡ g.points → All (λ n. number n < count) g.points → marks ≡ replicate count false → waiting ≡ []
    → MeetsOne (get_or points 0 d) marks marks' waiting waiting' → AreMet g marks' waiting'
met_first g points d count marks marks' waiting waiting' (S, (start, of)) points_is fits clear none one =
    let same : get_or points 0 d ≡ start = ap (λ z. get_or z 0 d) points_is ∙ get_or_from_slice_get g.points 0 start d of.first in
    let way : Comes g (get_or points 0 d) = root (of.first ∙ ap Some (sym same)) in
    let size : length marks ≡ count = ap length clear ∙ length-replicate {A = Bool} count false in
    met_more g (get_or points 0 d) marks marks' waiting waiting' way (record {
      fits = λ m has. omega (arith, size, All-contains (λ n. number n < count) g.points m fits has);
      marked = λ m h. absurd (none_marked count (number m) (subst (λ z. IsMarked z (number m)) clear h));
      waits = λ m has. let none' = subst (λ z. Contains z m) none has in absurd (omega (arith, none'.1));
    }) one

-- the first point's number is within
pub first_fits : (g : Graph) (points : List Node) (d : Node) (count : ℕ) (marks : List Bool)
    → IsGraph g → points ≡ g.points → All (λ n. number n < count) g.points → marks ≡ replicate count false → number (get_or points 0 d) < length marks
first_fits g points d count marks (S, (start, of)) points_is fits clear =
    let same : get_or points 0 d ≡ start = ap (λ z. get_or z 0 d) points_is ∙ get_or_from_slice_get g.points 0 start d of.first in
    let size : length marks ≡ count = ap length clear ∙ length-replicate {A = Bool} count false in
    subst (λ z. number z < length marks) (sym same)
    (omega (arith, size, All-contains (λ n. number n < count) g.points start fits (first_stands g start of.first)))
