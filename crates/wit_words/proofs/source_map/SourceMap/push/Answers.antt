use Rattle.std.proofs.Common.{◌∷◌, [], ap, length, arith}
use Rattle.wit_words.proofs.Sources.{total_behind}
use Rattle.wit_words.proofs.source_map.SourceMap.push.Goals as goal

pub invariant_of-self-2 : goal.invariant_of-self-2
invariant_of-self-2 c =
    let inside = c.self.inside in
    (rw (c.in_ok-push.ensures.items) (omega (arith, c.in-Ok.ensures, c.self.invariant.0, ap length c.in_ok-from_str-2.ensures.ok, total_behind inside.sources.items (record { path = c.in_ok-from_str.field-0; contents = c.in_ok-from_str-2.field-0 } ∷ []))), omega (arith, c.in-Ok.ensures))
