-- What is written of a component, in pieces.
use Rattle.std.specs.Prelude.{ℕ, List, ◌++◌}
use Rattle.std.specs.List.{flat_map}
use Rattle.component_builder.specs.declared.pieces.Piece.{Piece}
use Rattle.component_builder.specs.declared.pieces.Piece.TheVariants as code
use Rattle.component_builder.specs.declared.pieces.Pieces.{Pieces}

abbrev pub piece_bytes : Piece → List ℕ
piece_bytes (code.Own bytes) = bytes.items
piece_bytes (code.Lent bytes) = bytes.now

-- all of them, one behind the other
abbrev pub pieces_bytes : Pieces → List ℕ
pieces_bytes p = flat_map piece_bytes p.done.items ++ p.open.items
