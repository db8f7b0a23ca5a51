-- The lines of a report, byte by byte.
use Rattle.std.specs.Prelude.{ℕ, List, [], ◌∷◌, ◌++◌, codes, decimal}
use Rattle.report_text.specs.Texts.{line_of}
use Rattle.mill_report.specs.declared.lines.Figures.{Figures}

abbrev pub figure_line : List ℕ → ℕ → List ℕ
figure_line name figure = line_of (name ∷ codes " " ∷ decimal figure ∷ [])

abbrev pub figure_lines : Figures → List ℕ
figure_lines f =
    figure_line (codes "bytes") f.bytes
    ++ (figure_line (codes "functions") f.functions
    ++ (figure_line (codes "positions") f.positions
    ++ (figure_line (codes "inputs") f.inputs
    ++ (figure_line (codes "kept") f.kept ++ figure_line (codes "slice bytes") f.slice_bytes))))
