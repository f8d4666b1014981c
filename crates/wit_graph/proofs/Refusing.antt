-- Refusals of parts are refusals of all of them.
use Rattle.std.proofs.Common.{◌≡◌, ℕ, ◌+◌, List, ◌++◌, String, arith, sym, subst, ap, ◌∙◌, length, length-append, append_assoc, take}
use Rattle.std.specs.declared.alloc.Global.{Global}
use Rattle.wit_types.specs.declared.interface.TypeDef.{TypeDef}
use Rattle.wit_features.specs.Features.{FeatureSet}
use Rattle.wit_moves.specs.Moved.{Places}
use Rattle.wit_moves.specs.Plan.{OwnerPlaces}
use Rattle.wit_plans.specs.Plans.{Parts, standing}
use Rattle.wit_graph_parts.specs.Passed.wit_resources-Natures.{natures, AreOfFirst}
use Rattle.wit_graph_parts.specs.Passed.wit_resources-declared-natures-Nature.{Nature}
use Rattle.wit_graph.specs.Graph.{Items}
use Rattle.wit_graph_parts.specs.Interfaces.{Interfaces}
use Rattle.wit_graph_parts.specs.Parts.{AreTypesAdded, AreInterfacesAdded, InterfacesBreak, IsShapeCause, IsWorldsCause}
use Rattle.wit_graph.specs.Push.{IsPartsCause, of_interfaces, of_worlds}
use Rattle.wit_graph_parts.specs.declared.fault.PushFault.{PushFault}
use Rattle.wit_graph_parts.specs.declared.fault.PushFault.TheVariants.{GateVersion, DuplicatePackage, PackageNotFound, ItemNotFound, IncludeClash, ExportConflict, ForeignShape, OutOfMemory}
use Rattle.wit_graph_parts.proofs.Taking.{take_grown}

module _ (features : FeatureSet) (owner : ℕ) (owners : OwnerPlaces) (places : Places) (p : Parts) (t : Items) (types : List TypeDef) (a : AreTypesAdded owners places (length p.unknown) p.types t.types types) where
  pub interfaces_refused : (ns : List Nature) (fault : PushFault) → ns ≡ natures types → IsShapeCause (InterfacesBreak features (standing owners places) owner ns p.interfaces) fault → IsPartsCause features owner owners places p t fault
  interfaces_refused ns (GateVersion at) known c = absurd c
  interfaces_refused ns (DuplicatePackage at) known c = absurd c
  interfaces_refused ns (PackageNotFound at) known c = absurd c
  interfaces_refused ns (ItemNotFound at) known c = absurd c
  interfaces_refused ns (IncludeClash at) known c = absurd c
  interfaces_refused ns (ExportConflict i at) known c = absurd c
  interfaces_refused ns (ForeignShape at) known c = of_interfaces types a (subst (λ (ms : List Nature). InterfacesBreak features (standing owners places) owner ms p.interfaces at) known c)
  interfaces_refused ns OutOfMemory known c = tt

  pub worlds_refused : (i : Interfaces) (names : List (String Global × ℕ)) (fault : PushFault) → AreInterfacesAdded features (standing owners places) owner types p.interfaces t.interfaces i names
      → IsWorldsCause features (standing owners places) owner i p.worlds types t.worlds fault → IsPartsCause features owner owners places p t fault
  worlds_refused i names (GateVersion at) b c = absurd c
  worlds_refused i names (DuplicatePackage at) b c = absurd c
  worlds_refused i names (PackageNotFound at) b c = absurd c
  worlds_refused i names (ItemNotFound at) b c = record { types = types; interfaces = i; names = names; own_types = a; own_interfaces = b; refused = c }
  worlds_refused i names (IncludeClash at) b c = record { types = types; interfaces = i; names = names; own_types = a; own_interfaces = b; refused = c }
  worlds_refused i names (ExportConflict x at) b c = record { types = types; interfaces = i; names = names; own_types = a; own_interfaces = b; refused = c }
  worlds_refused i names (ForeignShape at) b c = of_worlds types a c
  worlds_refused i names OutOfMemory b c = tt

-- ---- more and more

pub grown_twice : {X : Type 0} (xs ys zs : List X) → ((more : List X) × (ys ≡ xs ++ more)) → ((more : List X) × (zs ≡ ys ++ more)) → (more : List X) × (zs ≡ xs ++ more)
grown_twice {X} xs ys zs (m, e) (n, f) = (m ++ n, f ∙ ap (λ (l : List X). l ++ n) e ∙ append_assoc xs m n)

pub known_first : (types all : List TypeDef) (ns : List Nature) → ns ≡ natures types → ((more : List TypeDef) × (all ≡ types ++ more)) → AreOfFirst all ns
known_first types all ns known (more, e) =
    let long : length all ≡ length types + length more = ap (λ (ds : List TypeDef). length ds) e ∙ length-append types more in
    (length types, omega (arith, long), known ∙ ap natures (sym (ap (take (length types)) e ∙ take_grown types more)))
