-- Checks of shapes.
use Rattle.std.proofs.Common.{◌≡◌, List, [], ◌∷◌, ◌++◌, Ok, Err, refl, subst, OnOk, IfErr}
use Rattle.std.specs.declared.result.Result.{Result}
use Rattle.wit_words.specs.declared.source_map.Span.{Span}
use Rattle.wit_types.specs.declared.interface.TypeDef.{TypeDef}
use Rattle.wit_moves.specs.Breaks.{Breaks}
use Rattle.wit_shapes.specs.Passed.wit_resources-Natures.{kind_nature, natures_from, natures}
use Rattle.wit_shapes.specs.Passed.wit_resources-declared-natures-Nature.{Nature}
use Rattle.wit_graph_parts.specs.declared.fault.PushFault.{PushFault}
use Rattle.wit_graph_parts.specs.declared.fault.PushFault.TheVariants.{ForeignShape}
use Rattle.wit_graph_parts.specs.Parts.{shape_checked, IsShapeCause}

-- what a check says that passes
pub shape_ok : (r : Result (Unit {0}) Span) (u : Unit {0}) (P : Type 0) → shape_checked r ≡ Ok u → OnOk r P → P
shape_ok (Ok v) u P e p = p
shape_ok (Err at) u P e p = absurd cc

-- and one that doesn't
pub shape_err : (r : Result (Unit {0}) Span) (fault : PushFault) (B : Breaks) → shape_checked r ≡ Err fault → IfErr r B → IsShapeCause B fault
shape_err (Ok v) fault B e b = absurd cc
shape_err (Err at) fault B e b = subst (IsShapeCause B) (let s : ForeignShape at ≡ fault = cc in s) b

-- what is known of types, and of more behind them
from_append : (done : List Nature) (xs ys : List TypeDef) → natures_from done (xs ++ ys) ≡ natures_from (natures_from done xs) ys
from_append done [] ys = refl
from_append done (x ∷ xs) ys = from_append (done ++ kind_nature done x.kind ∷ []) xs ys

pub natures_append : (xs ys : List TypeDef) → natures (xs ++ ys) ≡ natures_from (natures xs) ys
natures_append xs ys = from_append [] xs ys
