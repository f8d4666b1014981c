use Rattle.indexmap.specs.IndexMap.{get}
use Rattle.wit_arena.specs.Shape.{shape_eq}
use Rattle.wit_arena.proofs.Arenas.{lookup_alike, unique_known}
use Rattle.wit_arena.proofs.types.Types.into_arena.Goals as goal

pub returns-clause-unique : goal.returns-clause-unique
returns-clause-unique c =
    unique_known c.self.inside.arena (λ k. get shape_eq c.self.inside.known k) c.self.invariant (lookup_alike c.self.inside.known.entries)
