-- Tables: rows of cells under one another, each column as wide as its longest cell.
use Rattle.std.specs.Prelude.{ℕ, ◌-◌, ◌∷◌, [], ◌++◌, List, length, replicate, max, slice_index_or, codes}
use Rattle.std.specs.List.{fold, flat_map, enumerate_from}

-- how long the longest of some texts is
abbrev pub longest : List (List ℕ) → ℕ
longest texts = fold (λ most text. max most (length text)) 0 texts

-- a text with the spaces behind it that make it so wide
abbrev pub on_the_left : ℕ → List ℕ → List ℕ
on_the_left width text = text ++ replicate (width - length text) 32

-- a text with the spaces before it that make it so wide
abbrev pub on_the_right : ℕ → List ℕ → List ℕ
on_the_right width text = replicate (width - length text) 32 ++ text

-- a row's cell of a column: a space, and the cell as wide as the column's longest
abbrev pub cell_text : ℕ → List (List ℕ) → List ℕ
cell_text row column = 32 ∷ on_the_right (longest column) (slice_index_or column row [])

-- a row by its number and name: two spaces, the name so wide, and its cell of each column
abbrev pub row_text : ℕ → List (List (List ℕ)) → ℕ × List ℕ → List ℕ
row_text width columns row =
    codes "  " ++ on_the_left width row.1 ++ flat_map (cell_text row.0) columns ++ codes "\n"

-- a row for each name, where a column has a cell for each of them
abbrev pub table_text : List (List ℕ) → List (List (List ℕ)) → List ℕ
table_text names columns = flat_map (row_text (longest names) columns) (enumerate_from 0 names)
