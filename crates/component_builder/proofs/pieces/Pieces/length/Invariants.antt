use Rattle.std.proofs.Common.{◌≡◌, ◌+◌, take, length}
use Rattle.std.specs.List.{flat_map}
use Rattle.component_builder.specs.Pieces.{piece_bytes}
use Rattle.component_builder.proofs.pieces.Pieces.length.Given as goal

abbrev pub invariant-loop-piece : goal.invariant-loop-piece
invariant-loop-piece l = l.total ≡ length (flat_map piece_bytes (take l.piece-index l.self.done.items)) + length l.self.open.items
