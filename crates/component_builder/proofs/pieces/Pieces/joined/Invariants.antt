use Rattle.std.proofs.Common.{◌≡◌, take}
use Rattle.std.specs.List.{flat_map}
use Rattle.component_builder.specs.Pieces.{piece_bytes}
use Rattle.component_builder.proofs.pieces.Pieces.joined.Given as goal

abbrev pub invariant-loop-piece : goal.invariant-loop-piece
invariant-loop-piece l = l.out.items ≡ flat_map piece_bytes (take l.piece-index l.self.done.items)
