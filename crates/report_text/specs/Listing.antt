-- The listing of a function (docs/COMMANDS.md, "What a listing prints").
use Rattle.std.specs.Prelude.{ℕ, zero, suc, ◌+◌, if◌then◌else◌, List, [], ◌∷◌, ◌++◌, reverse, take, Option, Some, None, codes, decimal, slice_get}
use Rattle.wasm_types.specs.declared.module.Module.{Module}
use Rattle.wasm_types.specs.declared.place.Node.{Node}
use Rattle.wasm_types.specs.declared.place.Node.TheVariants as node
use Rattle.wasm_types.specs.declared.place.Taker.{Taker}
use Rattle.wasm_types.specs.declared.instr.Instr.{Instr}
use Rattle.wasm_types.specs.Code.{Code, done, one, block, repeat, branch, count, is_plain}
use Rattle.wasm_types.specs.Marked.{Marked}
use Rattle.wasm_types.specs.Actions.{Callees, callees}
use Rattle.wasm_types.specs.Nodes.{At, Join}
use Rattle.wasm_types.specs.Sites.{Site, all_operands, body_sites}
use Rattle.wasm_types.specs.Takers.{takers_of}
use Rattle.stack_names.specs.Ends.{ends_at}
use Rattle.wasm_types.specs.Funcs.{Func, func_of, text}
use Rattle.report_text.specs.InstructionTexts.{block_text, instruction_text}

-- ---- what is told of a body

-- the makers of the operands of each live position, the deepest first, and what takes each value
pub record Told : Type 0 where
  pub operands : ℕ → Option (List Node)
  pub takers : Node → List Taker

-- ---- nodes

-- a position by its number, and a block's end by j and the block's number
abbrev pub node_text : Node → List ℕ
node_text (node.At p) = decimal p.0
node_text (node.Join b) = codes "j" ++ decimal b.0
node_text node.Exit = []

abbrev pub nodes_after : List Node → List ℕ
nodes_after [] = []
nodes_after (n ∷ ns) = codes " " ++ (node_text n ++ nodes_after ns)

-- the makers of what is taken, where anything is
abbrev pub arrow_text : List Node → List ℕ
arrow_text [] = []
arrow_text (n ∷ ns) = codes " <-" ++ nodes_after (n ∷ ns)

-- ---- lines

abbrev pub indent : ℕ → List ℕ
indent zero = []
indent (suc depth) = codes "  " ++ indent depth

abbrev pub operands_text : Option (List Node) → List ℕ
operands_text (Some makers) = arrow_text makers
operands_text None = codes " dead"

-- an instruction's line: its position, two spaces for each block around it, the instruction, and its operands
abbrev pub position_line : Told → ℕ → ℕ → List ℕ → List ℕ
position_line K depth p words = decimal p ++ (codes " " ++ (indent depth ++ (words ++ (operands_text (K.operands p) ++ codes "\n"))))

-- the line of an else or an end, with the maker of the value that the closed sequence ends with
abbrev pub closing_line : ℕ → List ℕ → List Node → List ℕ
closing_line depth words makers = codes ". " ++ (indent depth ++ (words ++ (arrow_text makers ++ codes "\n")))

-- ---- the ends of sequences

-- what the positions directly in a sequence may make
abbrev pub makers_in : Code → ℕ → List Node
makers_in done p = []
makers_in (one op rest) p = At p ∷ makers_in rest (p + 1)
makers_in (block kind body rest) p = Join p ∷ makers_in rest (p + 1 + count body)
makers_in (repeat kind body rest) p = Join p ∷ makers_in rest (p + 1 + count body)
makers_in (branch kind x y rest) p = Join p ∷ makers_in rest (p + 1 + count x + count y)

-- the makers of the values that the end of a sequence takes: one at most in a valid body, and none where the end is dead
abbrev pub end_makers : (Node → List Taker) → Node → List Node → List Node
end_makers T k [] = []
end_makers T k (n ∷ ns) = if ends_at k (T n) then n ∷ end_makers T k ns else end_makers T k ns

abbrev pub ended_by : Told → Node → Code → ℕ → List Node
ended_by K k code p = end_makers K.takers k (makers_in code p)

-- ---- sequences

-- an if's else stands before its second arm, where that isn't empty
abbrev pub else_lines : Code → List ℕ → List ℕ → List ℕ
else_lines done line lines = []
else_lines code line lines = line ++ lines

-- the values that an if's end takes are those of the arm before it
abbrev pub last_arm : Code → List Node → List Node → List Node
last_arm done x y = x
last_arm code x y = y

-- the contents of a block or loop at p, of these lines, and its end
abbrev pub with_end : Told → ℕ → Code → ℕ → List ℕ → List ℕ
with_end K depth body p inner = inner ++ closing_line depth (codes "end") (ended_by K (Join p) body (p + 1))

-- the arms of an if at p, of these lines, with the else between them and the end behind them
abbrev pub with_else : Told → ℕ → Code → Code → ℕ → List ℕ → List ℕ → List ℕ
with_else K depth x y p first second =
    let taken = ended_by K (Join p) x (p + 1) in
    first ++ (else_lines y (closing_line depth (codes "else") taken) second
    ++ closing_line depth (codes "end") (last_arm y taken (ended_by K (Join p) y (p + 1 + count x))))

-- the lines of a sequence at p, with so many blocks around it
abbrev pub lines : Told → ℕ → Code → ℕ → List ℕ
lines K depth done p = []
lines K depth (one op rest) p = position_line K depth p (instruction_text op) ++ lines K depth rest (p + 1)
lines K depth (block kind body rest) p =
    (position_line K depth p (block_text (codes "block") kind) ++ with_end K depth body p (lines K (depth + 1) body (p + 1))) ++ lines K depth rest (p + 1 + count body)
lines K depth (repeat kind body rest) p =
    (position_line K depth p (block_text (codes "loop") kind) ++ with_end K depth body p (lines K (depth + 1) body (p + 1))) ++ lines K depth rest (p + 1 + count body)
lines K depth (branch kind x y rest) p =
    (position_line K depth p (block_text (codes "if") kind) ++ with_else K depth x y p (lines K (depth + 1) x (p + 1)) (lines K (depth + 1) y (p + 1 + count x)))
    ++ lines K depth rest (p + 1 + count x + count y)

abbrev pub contents_lines : Told → ℕ → Code → ℕ → List ℕ
contents_lines K depth body p = with_end K depth body p (lines K (depth + 1) body (p + 1))

abbrev pub arms_lines : Told → ℕ → Code → Code → ℕ → List ℕ
arms_lines K depth x y p = with_else K depth x y p (lines K (depth + 1) x (p + 1)) (lines K (depth + 1) y (p + 1 + count x))

-- the node of the value that an instruction at p may make
abbrev pub maker_at : Instr → ℕ → Node
maker_at i p = if is_plain i then At p else Join p

-- ---- functions

-- the operands of a live position
abbrev pub operands_at : Callees → Option (Option Site) → Option (List Node)
operands_at cs (Some (Some s)) = Some (reverse (take (all_operands cs s.around s.head) s.names))
operands_at cs _ = None

-- of a body with so many results
abbrev pub told_of : Callees → ℕ → Marked → Told
told_of cs results code = record { operands = λ p. operands_at cs (slice_get (body_sites cs results code) p); takers = takers_of cs results code }

abbrev pub func_listing : Module → Option Func → List ℕ
func_listing m None = []
func_listing m (Some F) =
    let K = told_of (callees m) F.results (text F) in
    lines K 0 F.code 0 ++ closing_line 0 (codes "end") (ended_by K node.Exit F.code 0)

-- the listing of function f of a module
abbrev pub listing : Module → ℕ → List ℕ
listing m f = func_listing m (func_of m f)
