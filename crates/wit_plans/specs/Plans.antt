-- Where all that a package holds stands in a graph.
use Rattle.std.specs.Prelude.{◌≡◌, List, map}
use Rattle.wit_words.specs.declared.source_map.Span.{Span}
use Rattle.wit_finding.specs.Passed.wit_types-declared-interface-Interface.{Interface}
use Rattle.wit_finding.specs.Passed.wit_types-declared-interface-TypeDef.{TypeDef}
use Rattle.wit_finding.specs.Passed.wit_types-declared-world-World.{World}
use Rattle.wit_finding.specs.Passed.wit_features-Features.{FeatureSet}
use Rattle.wit_finding.specs.Passed.wit_moves-declared-plan-MoveFault.{MoveFault}
use Rattle.wit_finding.specs.Passed.wit_moves-declared-plan-MoveFault-TheVariants.{ItemNotFound, OutOfMemory}
use Rattle.wit_finding.specs.Passed.wit_moves-Breaks.{IsKept}
use Rattle.wit_finding.specs.Passed.wit_moves-Moved.{Places}
use Rattle.wit_finding.specs.Passed.wit_moves-Plan.{OwnerPlaces, AreTypesPlaced, TypesBreak}
use Rattle.wit_finding.specs.Own.{placed}
use Rattle.wit_finding.specs.Types.{type_found}
use Rattle.wit_plans.specs.declared.plans.Sizes.{Sizes}
use Rattle.wit_plans.specs.Checks.{Standing, PartsBreak}

-- what a package holds, what it asks of others aside but for the types
pub record Parts : Type 0 where
  pub unknown : List TypeDef
  pub types : List TypeDef
  pub interfaces : List Interface
  pub worlds : List World

-- its interfaces and worlds behind those that are asked for
abbrev pub owners_of : FeatureSet → Sizes → OwnerPlaces → Parts → OwnerPlaces
owners_of features sizes foreign p = record {
  interfaces = placed features foreign.interfaces sizes.interfaces (map (λ (d : Interface). d.stability) p.interfaces);
  worlds = placed features foreign.worlds sizes.worlds (map (λ (w : World). w.stability) p.worlds);
}

-- the types that are asked for, where their interfaces stand
abbrev pub found_of : List Interface → OwnerPlaces → Parts → Places
found_of graph foreign p = map (type_found graph foreign.interfaces) p.unknown

abbrev pub standing : OwnerPlaces → Places → Standing
standing owners types = record { types = types; interfaces = owners.interfaces; worlds = owners.worlds }

-- all stand behind what is there, and nothing that stays needs what doesn't
pub record IsPlanned (features : FeatureSet) (graph : List Interface) (sizes : Sizes) (foreign : OwnerPlaces) (p : Parts) (owners : OwnerPlaces) (types : Places) : Type 0 where
  pub owners_are : owners ≡ owners_of features sizes foreign p
  pub types_are : AreTypesPlaced features owners (found_of graph foreign p) sizes.types p.types types
  pub kept : IsKept (PartsBreak features (standing owners types) p.interfaces p.worlds)

-- a type that stays is made of one that doesn't; or none is, and something else that stays needs what doesn't
pub data PlanBreaks (features : FeatureSet) (graph : List Interface) (sizes : Sizes) (foreign : OwnerPlaces) (p : Parts) (at : Span) : Type 0 where
  type_breaks : TypesBreak features (owners_of features sizes foreign p) (record { places = found_of graph foreign p; next = sizes.types }) p.types at → PlanBreaks features graph sizes foreign p at
  part_breaks : (types : Places) → AreTypesPlaced features (owners_of features sizes foreign p) (found_of graph foreign p) sizes.types p.types types
      → PartsBreak features (standing (owners_of features sizes foreign p) types) p.interfaces p.worlds at → PlanBreaks features graph sizes foreign p at

abbrev pub IsPlanCause : FeatureSet → List Interface → Sizes → OwnerPlaces → Parts → MoveFault → Type 0
IsPlanCause features graph sizes foreign p (ItemNotFound at) = PlanBreaks features graph sizes foreign p at
IsPlanCause features graph sizes foreign p OutOfMemory = Unit {0}
