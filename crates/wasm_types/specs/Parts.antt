-- Texts made of parts (WebAssembly Core Specification 1.0, sections 5.1.1 to 5.1.3).
use Rattle.std.specs.Prelude.{◌≡◌, ℕ, List, [], ◌∷◌, ◌++◌, length}
use Rattle.wasm_types.specs.Numbers.{SpellsU32}

-- one text after another
pub record Then (First Second : List ℕ → Type 0) (text : List ℕ) : Type 0 where
  pub front : List ℕ
  pub back : List ℕ
  pub parts : text ≡ front ++ back
  pub first : First front
  pub second : Second back

-- a byte, and what follows it
pub record Behind (byte : ℕ) (Rest : List ℕ → Type 0) (text : List ℕ) : Type 0 where
  pub rest : List ℕ
  pub parts : text ≡ byte ∷ rest
  pub spelled : Rest rest

-- a text of each of two values
abbrev pub Both : {A B : Type 0} → (List ℕ → A → Type 0) → (List ℕ → B → Type 0) → List ℕ → A × B → Type 0
Both P Q text v = Then (λ t. P t v.0) (λ t. Q t v.1) text

-- a text of each item
abbrev pub Each : {A : Type 0} → (List ℕ → A → Type 0) → List ℕ → List A → Type 0
Each P text [] = text ≡ []
Each P text (x ∷ xs) = Then (λ t. P t x) (λ t. Each P t xs) text

-- how many items there are, and a text of each (section 5.1.3)
abbrev pub Counted : {A : Type 0} → (List ℕ → A → Type 0) → List ℕ → List A → Type 0
Counted P text xs = Then (λ t. SpellsU32 t (length xs)) (λ t. Each P t xs) text

-- as many items as are told
abbrev pub EachOf : {A : Type 0} → (List ℕ → A → Type 0) → ℕ → List ℕ → List A → Type 0
EachOf P count text xs = Each P text xs × (length xs ≡ count)

-- any bytes, as they stand
abbrev pub Raw : List ℕ → List ℕ → Type 0
Raw text bytes = text ≡ bytes

-- how many bytes there are, and then these
abbrev pub Sized : List ℕ → List ℕ → Type 0
Sized text bytes = Then (λ t. SpellsU32 t (length bytes)) (λ t. Raw t bytes) text

-- how many bytes there are, and then so many that spell the value
pub record Within {A : Type 0} (P : List ℕ → A → Type 0) (text : List ℕ) (v : A) : Type 0 where
  pub inner : List ℕ
  pub sized : Sized text inner
  pub spelled : P inner v
