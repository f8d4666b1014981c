use Rattle.std.proofs.Common.{◌≡◌, take, length}
use Rattle.std.specs.List.{flat_map}
use Rattle.std.specs.Io.KnownBytes.{Appends}
use Rattle.component_builder.specs.Pieces.{piece_bytes}
use Rattle.component_builder.proofs.pieces.Pieces.emit.Given as goal

abbrev pub invariant-loop-piece : goal.invariant-loop-piece
invariant-loop-piece g l = (l.written ≡ length (flat_map piece_bytes (take l.piece-index l.self.done.items)))
    × Appends (g.W.Write.contents l.fn.out) (g.W.Write.contents l.out) (flat_map piece_bytes (take l.piece-index l.self.done.items))
